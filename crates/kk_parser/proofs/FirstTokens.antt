-- The first token of what a phrase spells.
use Rattle.std.proofs.Common.{◌≡◌, ℕ, Bool, true, false, cond, ◌||◌, ◌⊎◌, List, [], ◌∷◌, ◌++◌, refl, sym, ◌∙◌, subst, inl, inr}
use Rattle.kk_syntax.specs.declared.token.LocatedToken.{LocatedToken}
use Rattle.kk_parser.specs.Classes.{Class, string as string_class, class_of, same_class, is_one_of, is_at}
use Rattle.kk_parser.specs.Phrases.{Phrase, Nonterminal, PhraseValue, rule}
use Rattle.kk_parser.specs.Forms.{form, form_grammar}
use Rattle.kk_parser.specs.Spells.{Marked, tokens_of, Spells, by_token, by_opener, by_both, by_first, by_second, by_none, by_more, by_absence, by_presence, by_level, by_rule, by_no_more, by_each, by_nothing, by_something, by_quoted, by_unquoted}
use Rattle.kk_parser.specs.Reading.{first, nullable}
use Rattle.kk_parser.proofs.ClassDisjointness.{is_at-one}
use Rattle.kk_parser.proofs.Tables.{first-production, nullable-production}

one_of-front : (cs ds : List Class) (c : Class) → is_one_of cs c ≡ true → is_one_of (cs ++ ds) c ≡ true
one_of-front (d ∷ cs) ds c h = elim (same_class c d) as (λ b. (b || is_one_of cs c) ≡ true → (b || is_one_of (cs ++ ds) c) ≡ true) [ true ↦ λ _. refl | false ↦ λ e. one_of-front cs ds c e ] h
one_of-front [] ds c h = absurd (cc h)

one_of-back : (cs ds : List Class) (c : Class) → is_one_of ds c ≡ true → is_one_of (cs ++ ds) c ≡ true
one_of-back [] ds c h = h
one_of-back (d ∷ cs) ds c h = elim (same_class c d) as (λ b. (b || is_one_of (cs ++ ds) c) ≡ true) [ true ↦ refl | false ↦ one_of-back cs ds c h ]

pub is_at-front : (cs ds : List Class) (ts : List LocatedToken) → is_at cs ts ≡ true → is_at (cs ++ ds) ts ≡ true
is_at-front cs ds [] h = h
is_at-front cs ds (t ∷ ts) h = one_of-front cs ds (class_of t.token) h

pub is_at-back : (cs ds : List Class) (ts : List LocatedToken) → is_at ds ts ≡ true → is_at (cs ++ ds) ts ≡ true
is_at-back cs ds [] h = h
is_at-back cs ds (t ∷ ts) h = one_of-back cs ds (class_of t.token) h

-- a text begins with one of some classes, or it is empty and may be
abbrev BeginsBy : List Class → Bool → List Marked → List Marked → Type 0
BeginsBy cs empty ts us = (is_at cs (tokens_of ts) ≡ true) ⊎ ((empty ≡ true) × (ts ≡ us))

-- a text of a phrase begins with one of its classes, or it is empty and the phrase allows that
abbrev pub Begins : Phrase → List Marked → List Marked → Type 0
Begins p ts us = BeginsBy (first p) (nullable p) ts us

begins_both : (x y : Bool) (cs ds : List Class) (ts us ws : List Marked) → BeginsBy cs x ts us → BeginsBy ds y us ws → BeginsBy (cond x (cs ++ ds) cs) (cond x y false) ts ws
begins_both true y cs ds ts us ws (inl h) _ = inl (is_at-front cs ds (tokens_of ts) h)
begins_both true y cs ds ts us ws (inr (_, e)) (inl h) = inl (is_at-back cs ds (tokens_of ts) (subst (λ x. is_at ds (tokens_of x) ≡ true) (sym e) h))
begins_both true y cs ds ts us ws (inr (_, e)) (inr (h, d)) = inr (h, e ∙ d)
begins_both false y cs ds ts us ws (inl h) _ = inl h
begins_both false y cs ds ts us ws (inr (h, _)) _ = absurd (cc h)

begins_first : (x y : Bool) (cs ds : List Class) (ts us : List Marked) → BeginsBy cs x ts us → BeginsBy (cs ++ ds) (cond x true y) ts us
begins_first x y cs ds ts us (inl h) = inl (is_at-front cs ds (tokens_of ts) h)
begins_first x y cs ds ts us (inr (h, e)) = inr (rw h refl, e)

begins_second : (x y : Bool) (cs ds : List Class) (ts us : List Marked) → BeginsBy ds y ts us → BeginsBy (cs ++ ds) (cond x true y) ts us
begins_second x y cs ds ts us (inl h) = inl (is_at-back cs ds (tokens_of ts) h)
begins_second true y cs ds ts us (inr (h, e)) = inr (refl, e)
begins_second false y cs ds ts us (inr (h, e)) = inr (h, e)

begins_more : (x : Bool) (cs : List Class) (ts us ws : List Marked) → BeginsBy cs x ts us → BeginsBy cs true us ws → BeginsBy cs true ts ws
begins_more x cs ts us ws (inl h) _ = inl h
begins_more x cs ts us ws (inr (_, e)) (inl h) = inl (subst (λ x. is_at cs (tokens_of x) ≡ true) (sym e) h)
begins_more x cs ts us ws (inr (_, e)) (inr (_, d)) = inr (refl, e ∙ d)

begins_presence : (x : Bool) (cs : List Class) (ts us : List Marked) → BeginsBy cs x ts us → BeginsBy cs true ts us
begins_presence x cs ts us (inl h) = inl h
begins_presence x cs ts us (inr (_, e)) = inr (refl, e)

begins_rule : (x : Nonterminal) (ts us : List Marked) → Begins (form x) ts us → Begins (rule x) ts us
begins_rule x ts us (inl h) = inl (subst (λ cs. is_at cs (tokens_of ts) ≡ true) (first-production x) h)
begins_rule x ts us (inr (h, e)) = inr (sym (nullable-production x) ∙ h, e)

-- a string, and `)`, or a phrase
begins_quoted : (y : Bool) (cs : List Class) (ts us : List Marked) → BeginsBy (string_class ∷ []) false ts us → BeginsBy (string_class ∷ cs) y ts us
begins_quoted y cs ts us (inl h) = inl (is_at-front (string_class ∷ []) cs (tokens_of ts) h)
begins_quoted y cs ts us (inr (h, _)) = absurd (cc h)

begins_unquoted : (y : Bool) (cs : List Class) (ts us : List Marked) → BeginsBy cs y ts us → BeginsBy (string_class ∷ cs) y ts us
begins_unquoted y cs ts us (inl h) = inl (is_at-back (string_class ∷ []) cs (tokens_of ts) h)
begins_unquoted y cs ts us (inr e) = inr e

pub begins : {p : Phrase} {n m : ℕ} {v : PhraseValue p} {ts us : List Marked} → Spells form_grammar p n v m ts us → Begins p ts us
begins (by_token {k = k} {t = t} {v = v} {us = us} e) = inl (is_at-one k t (tokens_of us) v e)
begins (by_opener {k = k} {t = t} {v = v} {us = us} e) = inl (is_at-one k t (tokens_of us) v e)
begins (by_both {a = a} {b = b} {ts = ts} {us = us} {ws = ws} r s) = begins_both (nullable a) (nullable b) (first a) (first b) ts us ws (begins r) (begins s)
begins (by_first {a = a} {b = b} {ts = ts} {us = us} r) = begins_first (nullable a) (nullable b) (first a) (first b) ts us (begins r)
begins (by_second {a = a} {b = b} {ts = ts} {us = us} r) = begins_second (nullable a) (nullable b) (first a) (first b) ts us (begins r)
begins by_none = inr (refl, refl)
begins (by_more {a = a} {ts = ts} {us = us} {ws = ws} r s) = begins_more (nullable a) (first a) ts us ws (begins r) (begins s)
begins by_absence = inr (refl, refl)
begins (by_presence {a = a} {ts = ts} {us = us} r) = begins_presence (nullable a) (first a) ts us (begins r)
begins (by_level r) = begins r
begins (by_rule {x = x} {ts = ts} {us = us} r) = begins_rule x ts us (begins r)
begins (by_no_more h) = inr (refl, refl)
begins (by_each {l = k} {t = t} {w = v} {ts = ts} e r s) = inl (is_at-one k t (tokens_of ts) v e)
begins (by_nothing h) = inr (refl, refl)
begins (by_something {k = k} {t = t} {w = v} {ts = ts} e r) = inl (is_at-one k t (tokens_of ts) v e)
begins (by_quoted {a = a} {ts = ts} {us = us} r) = begins_quoted (nullable a) (first a) ts us (begins r)
begins (by_unquoted {a = a} {ts = ts} {us = us} r) = begins_unquoted (nullable a) (first a) ts us (begins r)
