-- A reading looks at no token behind the first that it does not pass.
use Rattle.std.proofs.Common.{◌≡◌, ℕ, ◌<◌, Bool, true, false, not, ◌&&◌, ◌⊎◌, List, [], ◌∷◌, length, refl, sym, ap, ◌∙◌, inl, inr, arith}
use Rattle.std.proofs.lemmas.Bool.{cases_Bool, and_left, and_parts}
use Rattle.kk_syntax.specs.declared.token.LocatedToken.{LocatedToken}
use Rattle.kk_syntax.specs.declared.token.Symbol.TheVariants.{Dot}
use Rattle.kk_parser.specs.Classes.{Class, symbol, string, class_of, is_one_of, is_at}
use Rattle.kk_parser.specs.Kinds.{classes_of}
use Rattle.kk_parser.specs.Phrases.{Nonterminal, program, decl, con, param, effect, eff, type, result_type, expr, block, stmt, if_, match_, row, pat, or, and, cmp, add, mul, un, post, atom, say, args, Phrase, ◌▸◌, either, many, optional, level, each, perhaps, quoted_or, PhraseValue}
use Rattle.kk_parser.specs.Forms.{form}
use Rattle.kk_parser.specs.Reading.{is_quoted, Finds, finds_token, finds_opener, finds_both, finds_first, finds_second, finds_none, finds_more, finds_absence, finds_presence, finds_level, finds_rule, finds_no_more, finds_each, finds_nothing, finds_something, finds_quoted, finds_unquoted, Failure, unexpected, too_deep, ReadingFails, fails_token, fails_opener, fails_deep, fails_front, fails_behind, fails_first, fails_second, fails_one, fails_more, fails_presence, fails_level, fails_rule, fails_each_deep, fails_each, fails_each_more, fails_something, fails_quoted, fails_unquoted}
use Rattle.kk_parser.proofs.PassedTokens.{passes, at_string, takes_string, passes_string, fails_past_string}
use Rattle.kk_parser.proofs.Soundness.{rest_of}

-- the same token is next, or neither has one
pub data SameNext : List LocatedToken → List LocatedToken → Type 0 where
  no_next : SameNext [] []
  one_next : {t : LocatedToken} {ts us : List LocatedToken} → SameNext (t ∷ ts) (t ∷ us)

-- Turns ts us ts' us': us' for us behind the same tokens
pub data Turns : List LocatedToken → List LocatedToken → List LocatedToken → List LocatedToken → Type 0 where
  turns_here : {us us' : List LocatedToken} → SameNext us us' → Turns us us us' us'
  turns_behind : {t : LocatedToken} {ts us ts' us' : List LocatedToken} → Turns ts us ts' us' → Turns (t ∷ ts) us (t ∷ ts') us'

same_next : {ts us ts' us' : List LocatedToken} → Turns ts us ts' us' → SameNext ts ts'
same_next (turns_here h) = h
same_next (turns_behind r) = one_next

turns_both : {ts us ws ts' us' ws' : List LocatedToken} → Turns ts us ts' us' → Turns us ws us' ws' → Turns ts ws ts' ws'
turns_both (turns_here h) s = s
turns_both (turns_behind r) s = turns_behind (turns_both r s)

is_at-next : (cs : List Class) {ts us : List LocatedToken} → SameNext ts us → is_at cs ts ≡ is_at cs us
is_at-next cs no_next = refl
is_at-next cs one_next = refl

-- the same failure with other tokens to come
abbrev pub with_rest : Failure → List LocatedToken → Failure
with_rest (unexpected rest) us = unexpected us
with_rest (too_deep rest) us = too_deep us

-- where a phrase looks at two tokens, it passes the first
abbrev pub settled : Phrase → Bool
settled (a ▸ b) = settled a && settled b
settled (either a b) = settled a && settled b
settled (many a) = settled a
settled (optional a) = settled a
settled (level a) = settled a
settled (each k a) = settled a
settled (perhaps k a) = settled a
settled (quoted_or a) = takes_string a && settled a
settled _ = true

settled-form : (x : Nonterminal) → settled (form x) ≡ true
settled-form program = refl
settled-form decl = refl
settled-form con = refl
settled-form param = refl
settled-form effect = refl
settled-form eff = refl
settled-form type = refl
settled-form result_type = refl
settled-form expr = refl
settled-form block = refl
settled-form stmt = refl
settled-form if_ = refl
settled-form match_ = refl
settled-form row = refl
settled-form pat = refl
settled-form or = refl
settled-form and = refl
settled-form cmp = refl
settled-form add = refl
settled-form mul = refl
settled-form un = refl
settled-form post = refl
settled-form atom = refl
settled-form say = refl
settled-form args = refl

-- what a reading decides by two tokens, it decides so before others, if it passes the first or that is no string
same_quoted : {ts us ts' us' : List LocatedToken} → Turns ts us ts' us' → (at_string ts ≡ false) ⊎ (length us < length ts) → is_quoted ts ≡ is_quoted ts'
same_quoted (turns_here x) (inl h) = and_left _ _ h ∙ sym (and_left _ _ (sym (is_at-next (string ∷ []) x) ∙ h))
same_quoted (turns_here x) (inr less) = absurd (omega arith)
same_quoted (turns_behind {t = t} r) h = ap (λ b. is_one_of (string ∷ []) (class_of t.token) && not b) (is_at-next (symbol Dot ∷ []) (same_next r))

module _ (limit : ℕ) where
  -- the same tokens are read so before others
  pub record FindsAlike (p : Phrase) (n : ℕ) (ts : List LocatedToken) (v : PhraseValue p) (m : ℕ) (us us' : List LocatedToken) : Type 0 where
    pub before : List LocatedToken
    pub finds : Finds limit p n before v m us'
    pub turns : Turns ts us before us'

  pub record FailsAlike (p : Phrase) (n : ℕ) (ts : List LocatedToken) (f : Failure) (us' : List LocatedToken) : Type 0 where
    pub before : List LocatedToken
    pub fails : ReadingFails limit p n before (with_rest f us')
    pub turns : Turns ts (rest_of f) before us'

  alike : (cs : List Class) (b : Bool) {ts us ts' us' : List LocatedToken} → Turns ts us ts' us' → is_at cs ts ≡ b → is_at cs ts' ≡ b
  alike cs b r e = sym (is_at-next cs (same_next r)) ∙ e

  passed_quoted : {a : Phrase} {n m : ℕ} {v : PhraseValue a} {ts us : List LocatedToken} → Finds limit a n ts v m us → takes_string a ≡ true → (at_string ts ≡ false) ⊎ (length us < length ts)
  passed_quoted {ts = ts} r e = elim (cases_Bool (at_string ts)) [ inl h ↦ inr (passes_string r h e) | inr h ↦ inl h ]

  failed_quoted : {a : Phrase} {n : ℕ} {ts : List LocatedToken} {f : Failure} → ReadingFails limit a n ts f → takes_string a ≡ true → (at_string ts ≡ false) ⊎ (length (rest_of f) < length ts)
  failed_quoted {ts = ts} r e = elim (cases_Bool (at_string ts)) [ inl h ↦ inr (fails_past_string r h e) | inr h ↦ inl h ]

  pub finds_alike : {p : Phrase} {n m : ℕ} {v : PhraseValue p} {ts us us' : List LocatedToken} → Finds limit p n ts v m us → settled p ≡ true → SameNext us us' → FindsAlike p n ts v m us us'
  finds_alike {us' = us'} (finds_token {t = t} h) e x = record { before = t ∷ us'; finds = finds_token h; turns = turns_behind (turns_here x) }
  finds_alike {us' = us'} (finds_opener {t = t} h l) e x = record { before = t ∷ us'; finds = finds_opener h l; turns = turns_behind (turns_here x) }
  finds_alike (finds_both r s) e x =
      let b = finds_alike s (and_parts _ _ e).1 x in
      let a = finds_alike r (and_parts _ _ e).0 (same_next b.turns) in
      record { before = a.before; finds = finds_both a.finds b.finds; turns = turns_both a.turns b.turns }
  finds_alike (finds_first h r) e x = let a = finds_alike r (and_parts _ _ e).0 x in record { before = a.before; finds = finds_first (alike _ _ a.turns h) a.finds; turns = a.turns }
  finds_alike (finds_second h r) e x = let a = finds_alike r (and_parts _ _ e).1 x in record { before = a.before; finds = finds_second (alike _ _ a.turns h) a.finds; turns = a.turns }
  finds_alike {us' = us'} (finds_none h) e x = record { before = us'; finds = finds_none (sym (is_at-next _ x) ∙ h); turns = turns_here x }
  finds_alike (finds_more h r s) e x =
      let b = finds_alike s e x in
      let a = finds_alike r e (same_next b.turns) in
      record { before = a.before; finds = finds_more (alike _ _ a.turns h) a.finds b.finds; turns = turns_both a.turns b.turns }
  finds_alike {us' = us'} (finds_absence h) e x = record { before = us'; finds = finds_absence (sym (is_at-next _ x) ∙ h); turns = turns_here x }
  finds_alike (finds_presence h r) e x = let a = finds_alike r e x in record { before = a.before; finds = finds_presence (alike _ _ a.turns h) a.finds; turns = a.turns }
  finds_alike (finds_level r) e x = let a = finds_alike r e x in record { before = a.before; finds = finds_level a.finds; turns = a.turns }
  finds_alike (finds_rule {x = nonterminal} r) e x = let a = finds_alike r (settled-form nonterminal) x in record { before = a.before; finds = finds_rule a.finds; turns = a.turns }
  finds_alike {us' = us'} (finds_no_more h) e x = record { before = us'; finds = finds_no_more (sym (is_at-next _ x) ∙ h); turns = turns_here x }
  finds_alike (finds_each {t = t} h l r s) e x =
      let b = finds_alike s e x in
      let a = finds_alike r e (same_next b.turns) in
      record { before = t ∷ a.before; finds = finds_each h l a.finds b.finds; turns = turns_behind (turns_both a.turns b.turns) }
  finds_alike {us' = us'} (finds_nothing h) e x = record { before = us'; finds = finds_nothing (sym (is_at-next _ x) ∙ h); turns = turns_here x }
  finds_alike (finds_something {t = t} h r) e x = let a = finds_alike r e x in record { before = t ∷ a.before; finds = finds_something h a.finds; turns = turns_behind a.turns }
  finds_alike (finds_quoted h r) e x =
      let a = finds_alike r refl x in
      record { before = a.before; finds = finds_quoted (sym (same_quoted a.turns (inr (passes r refl))) ∙ h) a.finds; turns = a.turns }
  finds_alike (finds_unquoted h r) e x =
      let q = and_parts _ _ e in
      let a = finds_alike r q.1 x in
      record { before = a.before; finds = finds_unquoted (sym (same_quoted a.turns (passed_quoted r q.0)) ∙ h) a.finds; turns = a.turns }

  pub fails_alike : {p : Phrase} {n : ℕ} {ts us' : List LocatedToken} {f : Failure} → ReadingFails limit p n ts f → settled p ≡ true → SameNext (rest_of f) us' → FailsAlike p n ts f us'
  fails_alike {us' = us'} (fails_token {k = k} h) e x = record { before = us'; fails = fails_token (sym (is_at-next (classes_of k) x) ∙ h); turns = turns_here x }
  fails_alike {us' = us'} (fails_opener {k = k} h) e x = record { before = us'; fails = fails_opener (sym (is_at-next (classes_of k) x) ∙ h); turns = turns_here x }
  fails_alike {us' = us'} (fails_deep {k = k} h d) e x = record { before = us'; fails = fails_deep (sym (is_at-next (classes_of k) x) ∙ h) d; turns = turns_here x }
  fails_alike (fails_front r) e x = let a = fails_alike r (and_parts _ _ e).0 x in record { before = a.before; fails = fails_front a.fails; turns = a.turns }
  fails_alike (fails_behind r s) e x =
      let b = fails_alike s (and_parts _ _ e).1 x in
      let a = finds_alike r (and_parts _ _ e).0 (same_next b.turns) in
      record { before = a.before; fails = fails_behind a.finds b.fails; turns = turns_both a.turns b.turns }
  fails_alike (fails_first h r) e x = let a = fails_alike r (and_parts _ _ e).0 x in record { before = a.before; fails = fails_first (alike _ _ a.turns h) a.fails; turns = a.turns }
  fails_alike (fails_second h r) e x = let a = fails_alike r (and_parts _ _ e).1 x in record { before = a.before; fails = fails_second (alike _ _ a.turns h) a.fails; turns = a.turns }
  fails_alike (fails_one h r) e x = let a = fails_alike r e x in record { before = a.before; fails = fails_one (alike _ _ a.turns h) a.fails; turns = a.turns }
  fails_alike (fails_more h r s) e x =
      let b = fails_alike s e x in
      let a = finds_alike r e (same_next b.turns) in
      record { before = a.before; fails = fails_more (alike _ _ a.turns h) a.finds b.fails; turns = turns_both a.turns b.turns }
  fails_alike (fails_presence h r) e x = let a = fails_alike r e x in record { before = a.before; fails = fails_presence (alike _ _ a.turns h) a.fails; turns = a.turns }
  fails_alike (fails_level r) e x = let a = fails_alike r e x in record { before = a.before; fails = fails_level a.fails; turns = a.turns }
  fails_alike (fails_rule {x = nonterminal} r) e x = let a = fails_alike r (settled-form nonterminal) x in record { before = a.before; fails = fails_rule a.fails; turns = a.turns }
  fails_alike {us' = us'} (fails_each_deep {k = k} h d) e x = record { before = us'; fails = fails_each_deep (sym (is_at-next (classes_of k) x) ∙ h) d; turns = turns_here x }
  fails_alike (fails_each {t = t} h l r) e x = let a = fails_alike r e x in record { before = t ∷ a.before; fails = fails_each h l a.fails; turns = turns_behind a.turns }
  fails_alike (fails_each_more {t = t} h l r s) e x =
      let b = fails_alike s e x in
      let a = finds_alike r e (same_next b.turns) in
      record { before = t ∷ a.before; fails = fails_each_more h l a.finds b.fails; turns = turns_behind (turns_both a.turns b.turns) }
  fails_alike (fails_something {t = t} h r) e x = let a = fails_alike r e x in record { before = t ∷ a.before; fails = fails_something h a.fails; turns = turns_behind a.turns }
  fails_alike (fails_quoted h r) e x =
      let a = fails_alike r refl x in
      record { before = a.before; fails = fails_quoted (sym (same_quoted a.turns (inr (fails_past_string r (and_parts _ _ h).0 refl))) ∙ h) a.fails; turns = a.turns }
  fails_alike (fails_unquoted h r) e x =
      let q = and_parts _ _ e in
      let a = fails_alike r q.1 x in
      record { before = a.before; fails = fails_unquoted (sym (same_quoted a.turns (failed_quoted r q.0)) ∙ h) a.fails; turns = a.turns }
