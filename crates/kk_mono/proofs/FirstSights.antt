-- First sights: one list of them for each list that is looked at, the parts of it one behind the other, each thing once.
use Rattle.std.proofs.Common.{◌≡◌, ◌≢◌, zero, suc, List, [], ◌∷◌, ◌++◌, AllPairs, Contains, refl, sym, ap, subst, inl, inr, arith, append_assoc}
use Rattle.std.proofs.lemmas.List.{append-nil}
use Rattle.std.proofs.lemmas.List.Elements.{Contains-get_or, Contains-append_left, Contains-append_right, Contains-push, Contains-append_cases}
use Rattle.std.proofs.lemmas.List.Quantifiers.{all_pairs_push}
use Rattle.kk_mono.specs.Instances.{FirstSights, none_left, again, new_one}

module _ {X : Type 0} where
  pub only_one : (x y : X) → Contains (x ∷ []) y → x ≡ y
  only_one x y (zero, lt, is) = is
  only_one x y (suc k, lt, is) = absurd (omega (arith, lt))

  -- a member of one list behind another is one of the whole
  pub pushed : (seen : List X) (x : X) (rest : List X) → (seen ++ x ∷ []) ++ rest ≡ seen ++ x ∷ rest
  pushed seen x rest = append_assoc seen (x ∷ []) rest

  pub sights_append : {seen xs ys some more : List X} → FirstSights seen xs some → FirstSights (seen ++ some) ys more → FirstSights seen (xs ++ ys) (some ++ more)
  sights_append {seen = seen} {ys = ys} {more = more} none_left next = subst (λ s. FirstSights s ys more) (append-nil seen) next
  sights_append (again there first) next = again there (sights_append first next)
  sights_append {seen = seen} {ys = ys} {more = more} (new_one {x = x} {new = new} absent first) next = new_one absent (sights_append first (subst (λ s. FirstSights s ys more) (sym (pushed seen x new)) next))

  -- the sights in a front, and those behind it
  pub record Parted (seen xs ys all : List X) : Type 0 where
    pub first : List X
    pub rest : List X
    pub whole : all ≡ first ++ rest
    pub of_first : FirstSights seen xs first
    pub of_rest : FirstSights (seen ++ first) ys rest

  pub sights_part : (seen xs ys all : List X) → FirstSights seen (xs ++ ys) all → Parted seen xs ys all
  sights_part seen [] ys all sights = record { first = []; rest = all; whole = refl; of_first = none_left; of_rest = subst (λ s. FirstSights s ys all) (sym (append-nil seen)) sights }
  sights_part seen (x ∷ xs) ys all (again there sights) =
      let parts = sights_part seen xs ys all sights in
      record { first = parts.first; rest = parts.rest; whole = parts.whole; of_first = again there parts.of_first; of_rest = parts.of_rest }
  sights_part seen (x ∷ xs) ys (y ∷ all) (new_one absent sights) =
      let parts = sights_part (seen ++ x ∷ []) xs ys all sights in
      record {
        first = x ∷ parts.first;
        rest = parts.rest;
        whole = ap (λ zs. x ∷ zs) parts.whole;
        of_first = new_one absent parts.of_first;
        of_rest = subst (λ s. FirstSights s ys parts.rest) (pushed seen x parts.first) parts.of_rest;
      }

  pub sights_only : {seen xs some others : List X} → FirstSights seen xs some → FirstSights seen xs others → some ≡ others
  sights_only none_left none_left = refl
  sights_only (again there first) (again _ second) = sights_only first second
  sights_only (again there first) (new_one absent second) = absurd (absent there)
  sights_only (new_one absent first) (again there second) = absurd (absent there)
  sights_only (new_one {x = x} absent first) (new_one _ second) = ap (λ zs. x ∷ zs) (sights_only first second)

  -- what is looked at has been seen
  pub sights_all : {seen xs some : List X} → FirstSights seen xs some → (y : X) → Contains xs y → Contains (seen ++ some) y
  sights_all none_left y there = absurd (let lt = there.1 in omega (arith, lt))
  sights_all {seen = seen} (again {x = x} {xs = xs} {new = new} here rest) y there = elim (Contains-append_cases (x ∷ []) xs y there) [
    | inl first ↦ Contains-append_left seen new y (subst (λ z. Contains seen z) (only_one x y first) here)
    | inr behind ↦ sights_all rest y behind
  ]
  sights_all {seen = seen} (new_one {x = x} {xs = xs} {new = new} absent rest) y there = elim (Contains-append_cases (x ∷ []) xs y there) [
    | inl first ↦ subst (λ s. Contains s y) (pushed seen x new) (Contains-append_left (seen ++ x ∷ []) new y (subst (λ z. Contains (seen ++ x ∷ []) z) (only_one x y first) (Contains-push seen x)))
    | inr behind ↦ subst (λ s. Contains s y) (pushed seen x new) (sights_all rest y behind)
  ]

  -- what is seen for the first time is looked at
  pub sights_each : {seen xs some : List X} → FirstSights seen xs some → (y : X) → Contains some y → Contains xs y
  sights_each none_left y there = absurd (let lt = there.1 in omega (arith, lt))
  sights_each (again {x = x} {xs = xs} here rest) y there = Contains-append_right (x ∷ []) xs y (sights_each rest y there)
  sights_each (new_one {x = x} {xs = xs} {new = new} absent rest) y there = elim (Contains-append_cases (x ∷ []) new y there) [
    | inl first ↦ Contains-append_left (x ∷ []) xs y first
    | inr behind ↦ Contains-append_right (x ∷ []) xs y (sights_each rest y behind)
  ]

  -- each thing is seen once
  pub sights_once : {seen xs some : List X} → AllPairs (λ one other. one ≢ other) seen → FirstSights seen xs some → AllPairs (λ one other. one ≢ other) (seen ++ some)
  sights_once {seen = seen} once none_left = subst (λ s. AllPairs (λ one other. one ≢ other) s) (sym (append-nil seen)) once
  sights_once once (again there rest) = sights_once once rest
  sights_once {seen = seen} once (new_one {x = x} {new = new} absent rest) =
      subst (λ s. AllPairs (λ one other. one ≢ other) s) (pushed seen x new)
      (sights_once (all_pairs_push (λ one other. one ≢ other) seen x once (λ k d lt same. absent (subst (λ z. Contains seen z) same (Contains-get_or seen k d lt)))) rest)
