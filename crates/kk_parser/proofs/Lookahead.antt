-- One token of lookahead is enough, or two at a string: what a phrase may be followed by is apart from what would
-- continue it.
use Rattle.std.proofs.Common.{◌≡◌, ℕ, Bool, true, false, cond, not, ◌&&◌, ◌⊎◌, List, [], ◌∷◌, ◌++◌, Some, refl, sym, ◌∙◌, subst, inl, inr}
use Rattle.std.proofs.lemmas.Bool.{both_ways}
use Rattle.kk_syntax.specs.declared.token.LocatedToken.{LocatedToken}
use Rattle.kk_syntax.specs.declared.token.Symbol.TheVariants.{CloseParenthesis, Dot}
use Rattle.kk_parser.specs.Classes.{Class, symbol, string, is_at}
use Rattle.kk_parser.specs.Kinds.{Kind, Said, says, classes_of, symbol as symbol_kind}
use Rattle.kk_parser.specs.Phrases.{Nonterminal, program, decl, con, param, effect, eff, type, result_type, expr, block, stmt, if_, match_, row, pat, or, and, cmp, add, mul, un, post, atom, say, args, Phrase, token, opener, ◌▸◌, either, many, optional, level, rule, each, perhaps, quoted_or, PhraseValue}
use Rattle.kk_parser.specs.Forms.{form, form_grammar}
use Rattle.kk_parser.specs.Spells.{Marked, tokens_of, Spells, by_token, by_opener, by_both, by_first, by_second, by_none, by_more, by_absence, by_presence, by_level, by_rule, by_no_more, by_each, by_nothing, by_something, by_quoted, by_unquoted}
use Rattle.kk_parser.specs.Reading.{first, nullable, behind, is_quoted, quoted}
use Rattle.kk_parser.proofs.ClassDisjointness.{is_at-one, cond_parts, apart, apart-is_at, within, within-is_at, is_at-end}
use Rattle.kk_parser.proofs.FirstTokens.{Begins, begins, is_at-front, is_at-back}
use Rattle.kk_parser.proofs.Tables.{nullable-production, follow_of, end_of}

-- one of these classes is next, or where `end` is so the end
abbrev pub Follows : List Class → Bool → List Marked → Type 0
Follows cs end us = (is_at cs (tokens_of us) ≡ true) ⊎ ((end ≡ true) × (us ≡ []))

-- both of two tests; and one of two
abbrev pub both : Bool → Bool → Bool
both x y = cond x y false

abbrev pub one : Bool → Bool → Bool
one x y = cond x true y

-- whether a phrase is one token
abbrev pub is_one_token : Phrase → Bool
is_one_token (token k) = true
is_one_token (opener k) = true
is_one_token _ = false

-- whether a dot stands behind each string with which a text of a phrase begins
abbrev pub speaks : Phrase → Bool
speaks (token k) = apart (classes_of k) (string ∷ [])
speaks (opener k) = apart (classes_of k) (string ∷ [])
speaks (a ▸ b) = one (both (speaks a) (one (not (nullable a)) (speaks b))) (both (is_one_token a) (both (not (nullable b)) (within (first b) (symbol Dot ∷ []))))
speaks (either a b) = both (speaks a) (speaks b)
speaks (many a) = speaks a
speaks (optional a) = speaks a
speaks (level a) = speaks a
speaks (rule x) = true
speaks (each k a) = apart (classes_of k) (string ∷ [])
speaks (perhaps k a) = apart (classes_of k) (string ∷ [])
speaks (quoted_or a) = false

-- so it is in each text of a nonterminal
pub speaks-production : (x : Nonterminal) → speaks (form x) ≡ true
speaks-production program = refl
speaks-production decl = refl
speaks-production con = refl
speaks-production param = refl
speaks-production effect = refl
speaks-production eff = refl
speaks-production type = refl
speaks-production result_type = refl
speaks-production expr = refl
speaks-production block = refl
speaks-production stmt = refl
speaks-production if_ = refl
speaks-production match_ = refl
speaks-production row = refl
speaks-production pat = refl
speaks-production or = refl
speaks-production and = refl
speaks-production cmp = refl
speaks-production add = refl
speaks-production mul = refl
speaks-production un = refl
speaks-production post = refl
speaks-production atom = refl
speaks-production say = refl
speaks-production args = refl

-- whether a choice in a phrase that these classes, or the end, may follow is always decided by the next token; that of
-- `quoted_or` by the next two
abbrev pub decided : Phrase → List Class → Bool → Bool
decided (token k) cs end = true
decided (opener k) cs end = true
decided (a ▸ b) cs end = both (decided a (cond (nullable b) (first b ++ cs) (first b)) (both (nullable b) end)) (decided b cs end)
decided (either a b) cs end = both (not (nullable a)) (both (not (nullable b)) (both (apart (first b) (first a)) (both (decided a cs end) (decided b cs end))))
decided (many a) cs end = both (not (nullable a)) (both (apart cs (first a)) (decided a (first a ++ cs) end))
decided (optional a) cs end = both (not (nullable a)) (both (apart cs (first a)) (decided a cs end))
decided (level a) cs end = decided a cs end
decided (rule x) cs end = both (within cs (follow_of x)) (cond end (end_of x) true)
decided (each k a) cs end = decided a (classes_of k ++ cs) end
decided (perhaps k a) cs end = decided a cs end
decided (quoted_or a) cs end = both (not (nullable a)) (both (speaks a) (decided a cs end))

-- each choice in the grammar is decided so
pub decided-production : (x : Nonterminal) → decided (form x) (follow_of x) (end_of x) ≡ true
decided-production program = refl
decided-production decl = refl
decided-production con = refl
decided-production param = refl
decided-production effect = refl
decided-production eff = refl
decided-production type = refl
decided-production result_type = refl
decided-production expr = refl
decided-production block = refl
decided-production stmt = refl
decided-production if_ = refl
decided-production match_ = refl
decided-production row = refl
decided-production pat = refl
decided-production or = refl
decided-production and = refl
decided-production cmp = refl
decided-production add = refl
decided-production mul = refl
decided-production un = refl
decided-production post = refl
decided-production atom = refl
decided-production say = refl
decided-production args = refl

-- what follows the first of two phrases
pub follows_both : (empty end : Bool) (cs ds : List Class) (us ws : List Marked) → (is_at ds (tokens_of us) ≡ true) ⊎ ((empty ≡ true) × (us ≡ ws)) → Follows cs end ws → Follows (cond empty (ds ++ cs) ds) (both empty end) us
follows_both true end cs ds us ws (inl h) _ = inl (is_at-front ds cs (tokens_of us) h)
follows_both false end cs ds us ws (inl h) _ = inl h
follows_both true end cs ds us ws (inr (_, e)) (inl h) = inl (is_at-back ds cs (tokens_of us) (subst (λ x. is_at cs (tokens_of x) ≡ true) (sym e) h))
follows_both true end cs ds us ws (inr (_, e)) (inr (h, d)) = inr (h, e ∙ d)
follows_both false end cs ds us ws (inr (h, _)) _ = absurd (cc h)

-- what follows one of many
pub follows_more : (end : Bool) (cs ds : List Class) (us ws : List Marked) → (is_at ds (tokens_of us) ≡ true) ⊎ ((true ≡ true) × (us ≡ ws)) → Follows cs end ws → Follows (ds ++ cs) end us
follows_more end cs ds us ws (inl h) _ = inl (is_at-front ds cs (tokens_of us) h)
follows_more end cs ds us ws (inr (_, e)) (inl h) = inl (is_at-back ds cs (tokens_of us) (subst (λ x. is_at cs (tokens_of x) ≡ true) (sym e) h))
follows_more end cs ds us ws (inr (_, e)) (inr (h, d)) = inr (h, e ∙ d)

-- what follows a text of a nonterminal
pub follows_rule : (end end' : Bool) (cs ds : List Class) (us : List Marked) → within cs ds ≡ true → cond end end' true ≡ true → Follows cs end us → Follows ds end' us
follows_rule end end' cs ds us h e (inl a) = inl (within-is_at cs ds (tokens_of us) h a)
follows_rule true end' cs ds us h e (inr (_, d)) = inr (e, d)
follows_rule false end' cs ds us h e (inr (a, _)) = absurd (cc a)

-- what may follow does not go on
pub stops : (end : Bool) (cs ds : List Class) (us : List Marked) → apart cs ds ≡ true → Follows cs end us → is_at ds (tokens_of us) ≡ false
stops end cs ds us h (inl a) = apart-is_at cs ds (tokens_of us) h a
stops end cs ds us h (inr (_, e)) = subst (λ x. is_at ds (tokens_of x) ≡ false) (sym e) (is_at-end ds)

-- a text that is not empty begins
pub begins_by : (p : Phrase) (ts us : List Marked) → not (nullable p) ≡ true → Begins p ts us → is_at (first p) (tokens_of ts) ≡ true
begins_by p ts us h (inl a) = a
begins_by p ts us h (inr (a, _)) = absurd (cc (h, a))

-- behind the first token of a text there is a dot; or the text is empty and may be
abbrev SpokenBy : Bool → List Marked → List Marked → Type 0
SpokenBy empty ts us = (is_at (symbol Dot ∷ []) (behind (tokens_of ts)) ≡ true) ⊎ ((empty ≡ true) × (ts ≡ us))

-- a token of a kind that is no string
silent : (k : Kind) (t : LocatedToken) (ts : List LocatedToken) (v : Said k) → says k t ≡ Some v → apart (classes_of k) (string ∷ []) ≡ true → is_at (string ∷ []) (t ∷ ts) ≡ true → ⊥
silent k t ts v e d h = both_ways _ (apart-is_at (classes_of k) (string ∷ []) (t ∷ ts) d (is_at-one k t ts v e)) h

-- behind a text of one token the tokens behind the first are left
one_token : {p : Phrase} {n m : ℕ} {v : PhraseValue p} {ts us : List Marked} → Spells form_grammar p n v m ts us → is_one_token p ≡ true → behind (tokens_of ts) ≡ tokens_of us
one_token (by_token h) d = refl
one_token (by_opener h) d = refl
one_token _ d = absurd (cc d)

one_cases : (x y : Bool) → one x y ≡ true → (x ≡ true) ⊎ (y ≡ true)
one_cases true y h = inl refl
one_cases false y h = inr h

one_other : (x y : Bool) → one (not x) y ≡ true → x ≡ true → y ≡ true
one_other true y h e = h
one_other false y h e = absurd (cc e)

-- a text that may be empty, and another behind it
spoken_behind : (x y : Bool) (ts us ws : List Marked) → SpokenBy x ts us → (x ≡ true → is_at (string ∷ []) (tokens_of us) ≡ true → SpokenBy y us ws) → is_at (string ∷ []) (tokens_of ts) ≡ true → SpokenBy (both x y) ts ws
spoken_behind x y ts us ws (inl d) f h = inl d
spoken_behind x y ts us ws (inr (a, e)) f h = from_there (f a (subst (λ z. is_at (string ∷ []) (tokens_of z) ≡ true) e h))
  where
    from_there : SpokenBy y us ws → SpokenBy (both x y) ts ws
    from_there (inl d) = inl (subst (λ z. is_at (symbol Dot ∷ []) (behind (tokens_of z)) ≡ true) (sym e) d)
    from_there (inr (b, e')) = inr (rw a b, e ∙ e')

spoken_before : (ds : List Class) (y : Bool) (ts us ws : List Marked) → behind (tokens_of ts) ≡ tokens_of us → (is_at ds (tokens_of us) ≡ true) ⊎ ((y ≡ true) × (us ≡ ws)) → not y ≡ true → within ds (symbol Dot ∷ []) ≡ true → is_at (symbol Dot ∷ []) (behind (tokens_of ts)) ≡ true
spoken_before ds y ts us ws e (inl h) n d = subst (λ z. is_at (symbol Dot ∷ []) z ≡ true) (sym e) (within-is_at ds (symbol Dot ∷ []) (tokens_of us) d h)
spoken_before ds y ts us ws e (inr (h, _)) n d = absurd (cc (h, n))

spoken_or : (x y : Bool) (ts us : List Marked) → SpokenBy x ts us → SpokenBy (one x y) ts us
spoken_or x y ts us (inl d) = inl d
spoken_or x y ts us (inr (a, e)) = inr (rw a refl, e)

spoken_other : (x y : Bool) (ts us : List Marked) → SpokenBy y ts us → SpokenBy (one x y) ts us
spoken_other x y ts us (inl d) = inl d
spoken_other true y ts us (inr (a, e)) = inr (refl, e)
spoken_other false y ts us (inr (a, e)) = inr (a, e)

spoken_perhaps : (x : Bool) (ts us : List Marked) → SpokenBy x ts us → SpokenBy true ts us
spoken_perhaps x ts us (inl d) = inl d
spoken_perhaps x ts us (inr (_, e)) = inr (refl, e)

spoken_rule : (x : Nonterminal) (ts us : List Marked) → SpokenBy (nullable (form x)) ts us → SpokenBy (nullable (rule x)) ts us
spoken_rule x ts us (inl d) = inl d
spoken_rule x ts us (inr (a, e)) = inr (sym (nullable-production x) ∙ a, e)

-- where a string begins a text of a phrase in which strings are said so, a dot is behind it
pub spoken : {p : Phrase} {n m : ℕ} {v : PhraseValue p} {ts us : List Marked} → Spells form_grammar p n v m ts us → speaks p ≡ true → is_at (string ∷ []) (tokens_of ts) ≡ true → SpokenBy (nullable p) ts us
spoken (by_token {k = k} {t = t} {v = v} {us = us} e) d h = absurd (silent k t (tokens_of us) v e d h)
spoken (by_opener {k = k} {t = t} {v = v} {us = us} e) d h = absurd (silent k t (tokens_of us) v e d h)
spoken (by_both {a = a} {b = b} {ts = ts} {us = us} {ws = ws} r s) d h =
    elim (one_cases (both (speaks a) (one (not (nullable a)) (speaks b))) _ d) [
      | inl x ↦
          let x' = cond_parts _ _ x in
          spoken_behind (nullable a) (nullable b) ts us ws (spoken r x'.0 h) (λ z. spoken s (one_other (nullable a) (speaks b) x'.1 z)) h
      | inr y ↦
          let y' = cond_parts _ _ y in
          let z = cond_parts _ _ y'.1 in
          inl (spoken_before (first b) (nullable b) ts us ws (one_token r y'.0) (begins s) z.0 z.1)
    ]
spoken (by_first {a = a} {b = b} {ts = ts} {us = us} r) d h = spoken_or (nullable a) (nullable b) ts us (spoken r (cond_parts _ _ d).0 h)
spoken (by_second {a = a} {b = b} {ts = ts} {us = us} r) d h = spoken_other (nullable a) (nullable b) ts us (spoken r (cond_parts _ _ d).1 h)
spoken by_none d h = inr (refl, refl)
spoken (by_more {a = a} {ts = ts} {us = us} {ws = ws} r s) d h = spoken_perhaps _ ts ws (spoken_behind (nullable a) true ts us ws (spoken r d h) (λ z. spoken s d) h)
spoken by_absence d h = inr (refl, refl)
spoken (by_presence {a = a} {ts = ts} {us = us} r) d h = spoken_perhaps (nullable a) ts us (spoken r d h)
spoken (by_level r) d h = spoken r d h
spoken (by_rule {x = x} {ts = ts} {us = us} r) d h = spoken_rule x ts us (spoken r (speaks-production x) h)
spoken (by_no_more e) d h = inr (refl, refl)
spoken (by_each {l = k} {t = t} {w = v} {ts = ts} e r s) d h = absurd (silent k t (tokens_of ts) v e d h)
spoken (by_nothing e) d h = inr (refl, refl)
spoken (by_something {k = k} {t = t} {w = v} {ts = ts} e r) d h = absurd (silent k t (tokens_of ts) v e d h)
spoken (by_quoted r) d h = absurd (cc d)
spoken (by_unquoted r) d h = absurd (cc d)

-- two tokens decide between a string and `)`, and a phrase in which a dot stands behind strings
quoted_so : (x y : Bool) → x ≡ true → y ≡ false → (x && not y) ≡ true
quoted_so x y e f = rw e (rw f refl)

unquoted_so : (x y : Bool) → (x ≡ true → y ≡ true) → (x && not y) ≡ false
unquoted_so true y h = rw (h refl) refl
unquoted_so false y h = refl

string_first : (ts us : List Marked) → Begins quoted ts us → is_at (string ∷ []) (tokens_of ts) ≡ true
string_first ts us (inl h) = h
string_first ts us (inr (h, _)) = absurd (cc h)

parenthesis_next : (ts us ws : List Marked) → behind (tokens_of ts) ≡ tokens_of us → Begins (token (symbol_kind CloseParenthesis)) us ws → is_at (symbol Dot ∷ []) (behind (tokens_of ts)) ≡ false
parenthesis_next ts us ws e (inl h) = subst (λ z. is_at (symbol Dot ∷ []) z ≡ false) (sym e) (apart-is_at (symbol CloseParenthesis ∷ []) (symbol Dot ∷ []) (tokens_of us) refl h)
parenthesis_next ts us ws e (inr (h, _)) = absurd (cc h)

pub is_quoted-quoted : {n m : ℕ} {v : PhraseValue quoted} {ts us : List Marked} → Spells form_grammar quoted n v m ts us → is_quoted (tokens_of ts) ≡ true
is_quoted-quoted (by_both {ts = ts} {us = us} {ws = ws} r s) = quoted_so _ _ (string_first ts ws (begins (by_both r s))) (parenthesis_next ts us ws (one_token r refl) (begins s))

pub is_quoted-other : {a : Phrase} {n m : ℕ} {v : PhraseValue a} {ts us : List Marked} → Spells form_grammar a n v m ts us → not (nullable a) ≡ true → speaks a ≡ true → is_quoted (tokens_of ts) ≡ false
is_quoted-other {a} {n} {m} {v} {ts} {us} r n' d = unquoted_so _ _ (λ h. a_dot (spoken r d h))
  where
    a_dot : SpokenBy (nullable a) ts us → is_at (symbol Dot ∷ []) (behind (tokens_of ts)) ≡ true
    a_dot (inl e) = e
    a_dot (inr (e, _)) = absurd (cc (e, n'))
