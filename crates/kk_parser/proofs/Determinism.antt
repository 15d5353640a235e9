-- A reading comes to one end.
use Rattle.std.proofs.Common.{◌≡◌, ℕ, List, ◌∷◌, Option, Some, refl, sym, ap, ◌∙◌, subst, inl, inr, arith}
use Rattle.std.proofs.lemmas.Bool.{both_ways}
use Rattle.kk_syntax.specs.declared.token.LocatedToken.{LocatedToken}
use Rattle.kk_parser.specs.Kinds.{says}
use Rattle.kk_parser.specs.Phrases.{Phrase, PhraseValue}
use Rattle.kk_parser.specs.Forms.{form_meaning}
use Rattle.kk_parser.specs.Reading.{Finds, finds_token, finds_opener, finds_both, finds_first, finds_second, finds_none, finds_more, finds_absence, finds_presence, finds_level, finds_rule, finds_no_more, finds_each, finds_nothing, finds_something, finds_quoted, finds_unquoted, Failure, ReadingFails, fails_token, fails_opener, fails_deep, fails_front, fails_behind, fails_first, fails_second, fails_one, fails_more, fails_presence, fails_level, fails_rule, fails_each_deep, fails_each, fails_each_more, fails_something, fails_quoted, fails_unquoted}
use Rattle.kk_parser.proofs.ClassDisjointness.{is_at-one}

-- two ends of a reading are one
pub record Same (p : Phrase) (v w : PhraseValue p) (m k : ℕ) (us ws : List LocatedToken) : Type 0 where
  pub value : v ≡ w
  pub levels : m ≡ k
  pub rest : us ≡ ws

same_words : {A : Type 0} (o : Option A) (v w : A) → o ≡ Some v → o ≡ Some w → v ≡ w
same_words o v w e f = cc

pair_path : {A B : Type 0} {a c : A} {b d : B} → a ≡ c → b ≡ d → ◌≡◌ {A = A × B} (a, b) (c, d)
pair_path {A} {B} {a} {c} {b} {d} e f = ap {B = A × B} (λ x. (x, b)) e ∙ ap {B = A × B} (λ y. (c, y)) f

cons_path : {A : Type 0} {a c : A} {b d : List A} → a ≡ c → b ≡ d → a ∷ b ≡ c ∷ d
cons_path e f = cc

module _ (limit : ℕ) where
  moved : {p : Phrase} {n k m : ℕ} {v : PhraseValue p} {ts us ws : List LocatedToken} → n ≡ k → ts ≡ us → Finds limit p k us v m ws → Finds limit p n ts v m ws
  moved {p} {n} {k} {m} {v} {ts} {us} {ws} e f r = subst (λ x. Finds limit p x ts v m ws) (sym e) (subst (λ x. Finds limit p k x v m ws) (sym f) r)

  pub same_finds : {p : Phrase} {n m k : ℕ} {v w : PhraseValue p} {ts us ws : List LocatedToken} → Finds limit p n ts v m us → Finds limit p n ts w k ws → Same p v w m k us ws
  same_finds (finds_token {k = k} {t = t} {v = v} h) (finds_token {v = w} h') = record { value = same_words (says k t) v w h h'; levels = refl; rest = refl }
  same_finds (finds_opener {k = k} {t = t} {v = v} h l) (finds_opener {v = w} h' l') = record { value = same_words (says k t) v w h h'; levels = refl; rest = refl }
  same_finds (finds_both r s) (finds_both r' s') =
      let a = same_finds r r' in
      let b = same_finds s (moved a.levels a.rest s') in
      record { value = pair_path a.value b.value; levels = b.levels; rest = b.rest }
  same_finds (finds_first h r) (finds_first h' r') = let a = same_finds r r' in record { value = ap inl a.value; levels = a.levels; rest = a.rest }
  same_finds (finds_first h r) (finds_second h' r') = absurd (both_ways _ h' h)
  same_finds (finds_second h r) (finds_first h' r') = absurd (both_ways _ h h')
  same_finds (finds_second h r) (finds_second h' r') = let a = same_finds r r' in record { value = ap inr a.value; levels = a.levels; rest = a.rest }
  same_finds (finds_none h) (finds_none h') = record { value = refl; levels = refl; rest = refl }
  same_finds (finds_none h) (finds_more h' r' s') = absurd (both_ways _ h h')
  same_finds (finds_more h r s) (finds_none h') = absurd (both_ways _ h' h)
  same_finds (finds_more h r s) (finds_more h' r' s') =
      let a = same_finds r r' in
      let b = same_finds s (moved a.levels a.rest s') in
      record { value = cons_path a.value b.value; levels = b.levels; rest = b.rest }
  same_finds (finds_absence h) (finds_absence h') = record { value = refl; levels = refl; rest = refl }
  same_finds (finds_absence h) (finds_presence h' r') = absurd (both_ways _ h h')
  same_finds (finds_presence h r) (finds_absence h') = absurd (both_ways _ h' h)
  same_finds (finds_presence h r) (finds_presence h' r') = let a = same_finds r r' in record { value = ap Some a.value; levels = a.levels; rest = a.rest }
  same_finds (finds_level r) (finds_level r') = let a = same_finds r r' in record { value = a.value; levels = refl; rest = a.rest }
  same_finds (finds_rule {x = x} r) (finds_rule r') = let a = same_finds r r' in record { value = ap (form_meaning x) a.value; levels = a.levels; rest = a.rest }
  same_finds (finds_no_more h) (finds_no_more h') = record { value = refl; levels = refl; rest = refl }
  same_finds (finds_no_more {k = k} h) (finds_each {t = t} {w = w} {ts = ts} h' l' r' s') = absurd (both_ways _ h (is_at-one k t ts w h'))
  same_finds (finds_each {l = k} {t = t} {w = w} {ts = ts} h l r s) (finds_no_more h') = absurd (both_ways _ h' (is_at-one k t ts w h))
  same_finds (finds_each h l r s) (finds_each h' l' r' s') =
      let a = same_finds r r' in
      let b = same_finds s (moved a.levels a.rest s') in
      record { value = cons_path a.value b.value; levels = b.levels; rest = b.rest }
  same_finds (finds_nothing h) (finds_nothing h') = record { value = refl; levels = refl; rest = refl }
  same_finds (finds_nothing {k = k} h) (finds_something {t = t} {w = w} {ts = ts} h' r') = absurd (both_ways _ h (is_at-one k t ts w h'))
  same_finds (finds_something {k = k} {t = t} {w = w} {ts = ts} h r) (finds_nothing h') = absurd (both_ways _ h' (is_at-one k t ts w h))
  same_finds (finds_something h r) (finds_something h' r') = let a = same_finds r r' in record { value = ap Some a.value; levels = a.levels; rest = a.rest }
  same_finds (finds_quoted h r) (finds_quoted h' r') = let a = same_finds r r' in record { value = ap (λ u. inl u.0) a.value; levels = a.levels; rest = a.rest }
  same_finds (finds_quoted h r) (finds_unquoted h' r') = absurd (both_ways _ h' h)
  same_finds (finds_unquoted h r) (finds_quoted h' r') = absurd (both_ways _ h h')
  same_finds (finds_unquoted h r) (finds_unquoted h' r') = let a = same_finds r r' in record { value = ap inr a.value; levels = a.levels; rest = a.rest }

  fails_moved : {p : Phrase} {n k : ℕ} {ts us : List LocatedToken} {f : Failure} → n ≡ k → ts ≡ us → ReadingFails limit p k us f → ReadingFails limit p n ts f
  fails_moved {p} {n} {k} {ts} {us} {f} e d r = subst (λ x. ReadingFails limit p x ts f) (sym e) (subst (λ x. ReadingFails limit p k x f) (sym d) r)

  -- what is found does not fail
  pub never_both : {p : Phrase} {n m : ℕ} {v : PhraseValue p} {ts us : List LocatedToken} {f : Failure} → Finds limit p n ts v m us → ReadingFails limit p n ts f → ⊥
  never_both (finds_token {k = k} {t = t} {v = v} {us = us} h) (fails_token h') = both_ways _ h' (is_at-one k t us v h)
  never_both (finds_opener {k = k} {t = t} {v = v} {us = us} h l) (fails_opener h') = both_ways _ h' (is_at-one k t us v h)
  never_both (finds_opener h l) (fails_deep h' d) = omega arith
  never_both (finds_both r s) (fails_front r') = never_both r r'
  never_both (finds_both r s) (fails_behind r' s') = let a = same_finds r r' in never_both s (fails_moved a.levels a.rest s')
  never_both (finds_first h r) (fails_first h' r') = never_both r r'
  never_both (finds_first h r) (fails_second h' r') = both_ways _ h' h
  never_both (finds_second h r) (fails_first h' r') = both_ways _ h h'
  never_both (finds_second h r) (fails_second h' r') = never_both r r'
  never_both (finds_none h) (fails_one h' r') = both_ways _ h h'
  never_both (finds_none h) (fails_more h' r' s') = both_ways _ h h'
  never_both (finds_more h r s) (fails_one h' r') = never_both r r'
  never_both (finds_more h r s) (fails_more h' r' s') = let a = same_finds r r' in never_both s (fails_moved a.levels a.rest s')
  never_both (finds_absence h) (fails_presence h' r') = both_ways _ h h'
  never_both (finds_presence h r) (fails_presence h' r') = never_both r r'
  never_both (finds_level r) (fails_level r') = never_both r r'
  never_both (finds_rule r) (fails_rule r') = never_both r r'
  never_both (finds_no_more h) (fails_each_deep h' d') = both_ways _ h h'
  never_both (finds_no_more {k = k} h) (fails_each {t = t} {w = w} {ts = ts} h' l' r') = both_ways _ h (is_at-one k t ts w h')
  never_both (finds_no_more {k = k} h) (fails_each_more {t = t} {w = w} {ts = ts} h' l' r' s') = both_ways _ h (is_at-one k t ts w h')
  never_both (finds_each h l r s) (fails_each_deep h' d') = omega arith
  never_both (finds_each h l r s) (fails_each h' l' r') = never_both r r'
  never_both (finds_each h l r s) (fails_each_more h' l' r' s') = let a = same_finds r r' in never_both s (fails_moved a.levels a.rest s')
  never_both (finds_nothing {k = k} h) (fails_something {t = t} {w = w} {ts = ts} h' r') = both_ways _ h (is_at-one k t ts w h')
  never_both (finds_something h r) (fails_something h' r') = never_both r r'
  never_both (finds_quoted h r) (fails_quoted h' r') = never_both r r'
  never_both (finds_quoted h r) (fails_unquoted h' r') = both_ways _ h' h
  never_both (finds_unquoted h r) (fails_quoted h' r') = both_ways _ h h'
  never_both (finds_unquoted h r) (fails_unquoted h' r') = never_both r r'

  -- a reading fails in one way
  pub same_fails : {p : Phrase} {n : ℕ} {ts : List LocatedToken} {f g : Failure} → ReadingFails limit p n ts f → ReadingFails limit p n ts g → f ≡ g
  same_fails (fails_token h) (fails_token h') = refl
  same_fails (fails_opener h) (fails_opener h') = refl
  same_fails (fails_opener h) (fails_deep h' d') = absurd (both_ways _ h h')
  same_fails (fails_deep h d) (fails_opener h') = absurd (both_ways _ h' h)
  same_fails (fails_deep h d) (fails_deep h' d') = refl
  same_fails (fails_front r) (fails_front r') = same_fails r r'
  same_fails (fails_front r) (fails_behind r' s') = absurd (never_both r' r)
  same_fails (fails_behind r s) (fails_front r') = absurd (never_both r r')
  same_fails (fails_behind r s) (fails_behind r' s') = let a = same_finds r r' in same_fails s (fails_moved a.levels a.rest s')
  same_fails (fails_first h r) (fails_first h' r') = same_fails r r'
  same_fails (fails_first h r) (fails_second h' r') = absurd (both_ways _ h' h)
  same_fails (fails_second h r) (fails_first h' r') = absurd (both_ways _ h h')
  same_fails (fails_second h r) (fails_second h' r') = same_fails r r'
  same_fails (fails_one h r) (fails_one h' r') = same_fails r r'
  same_fails (fails_one h r) (fails_more h' r' s') = absurd (never_both r' r)
  same_fails (fails_more h r s) (fails_one h' r') = absurd (never_both r r')
  same_fails (fails_more h r s) (fails_more h' r' s') = let a = same_finds r r' in same_fails s (fails_moved a.levels a.rest s')
  same_fails (fails_presence h r) (fails_presence h' r') = same_fails r r'
  same_fails (fails_level r) (fails_level r') = same_fails r r'
  same_fails (fails_rule r) (fails_rule r') = same_fails r r'
  same_fails (fails_each_deep h d) (fails_each_deep h' d') = refl
  same_fails (fails_each_deep h d) (fails_each h' l' r') = absurd (omega arith)
  same_fails (fails_each_deep h d) (fails_each_more h' l' r' s') = absurd (omega arith)
  same_fails (fails_each h l r) (fails_each_deep h' d') = absurd (omega arith)
  same_fails (fails_each h l r) (fails_each h' l' r') = same_fails r r'
  same_fails (fails_each h l r) (fails_each_more h' l' r' s') = absurd (never_both r' r)
  same_fails (fails_each_more h l r s) (fails_each_deep h' d') = absurd (omega arith)
  same_fails (fails_each_more h l r s) (fails_each h' l' r') = absurd (never_both r r')
  same_fails (fails_each_more h l r s) (fails_each_more h' l' r' s') = let a = same_finds r r' in same_fails s (fails_moved a.levels a.rest s')
  same_fails (fails_something h r) (fails_something h' r') = same_fails r r'
  same_fails (fails_quoted h r) (fails_quoted h' r') = same_fails r r'
  same_fails (fails_quoted h r) (fails_unquoted h' r') = absurd (both_ways _ h' h)
  same_fails (fails_unquoted h r) (fails_quoted h' r') = absurd (both_ways _ h h')
  same_fails (fails_unquoted h r) (fails_unquoted h' r') = same_fails r r'
