-- Things of which no two are equal, all in another list, are at most as many as that list has.
use Rattle.std.proofs.Common.{◌≡◌, ◌≢◌, suc, ◌+◌, ◌≤◌, List, [], ◌∷◌, ◌++◌, length, take, drop, AllPairs, Contains, refl, sym, ap, ◌∙◌, subst, inl, inr, arith}
use Rattle.std.proofs.lemmas.List.{length-append, drop_more, take-append-drop, get_or_append_left, get_or_at}
use Rattle.std.proofs.lemmas.List.Elements.{Contains-get_or, Contains-append_left, Contains-append_right, Contains-append_cases}
use Rattle.kk_mono.specs.Instances.{FirstSights, none_left, again, new_one}
use Rattle.kk_mono.proofs.FirstSights.{only_one}

module _ {X : Type 0} where
  -- a list around one of its members
  record Around (xs : List X) (x : X) : Type 0 where
    before : List X
    behind : List X
    whole : xs ≡ before ++ x ∷ behind

  around : (xs : List X) (x : X) → Contains xs x → Around xs x
  around xs x (k, lt, is) = record {
    before = take k xs;
    behind = drop (k + 1) xs;
    whole = sym (take-append-drop k xs) ∙ ap (λ ys. take k xs ++ ys) (drop_more xs k x lt ∙ ap (λ y. y ∷ drop (k + 1) xs) is);
  }

  other_stays : (before behind : List X) (x y : X) → (x ≡ y → ⊥) → Contains (before ++ x ∷ behind) y → Contains (before ++ behind) y
  other_stays before behind x y other there = elim (Contains-append_cases before (x ∷ behind) y there) [
    | inl front ↦ Contains-append_left before behind y front
    | inr back ↦ elim (Contains-append_cases (x ∷ []) behind y back) [
      | inl here ↦ absurd (other (only_one x y here))
      | inr behind_it ↦ Contains-append_right before behind y behind_it
    ]
  ]

  pub rest_once : (x : X) (xs : List X) → AllPairs (λ one other. one ≢ other) (x ∷ xs) → AllPairs (λ one other. one ≢ other) xs
  rest_once x xs once = λ i j d lt within. once (suc i) (suc j) d (omega (arith, lt)) (omega (arith, within))

  pub first_once : (x : X) (xs : List X) → AllPairs (λ one other. one ≢ other) (x ∷ xs) → (y : X) → Contains xs y → x ≡ y → ⊥
  first_once x xs once y (k, lt, is) same = once 0 (suc k) y (omega arith) (omega (arith, lt)) (same ∙ sym is)

  pub as_many : (xs all : List X) → AllPairs (λ one other. one ≢ other) xs → ((x : X) → Contains xs x → Contains all x) → length xs ≤ length all
  as_many [] all once each = omega arith
  as_many (x ∷ xs) all once each =
      let at = around all x (each x (Contains-append_left (x ∷ []) xs x (Contains-get_or (x ∷ []) 0 x (omega arith)))) in
      let rest = as_many xs (at.before ++ at.behind) (rest_once x xs once) (λ y there.
      other_stays at.before at.behind x y (first_once x xs once y there) (subst (λ ys. Contains ys y) at.whole (each y (Contains-append_right (x ∷ []) xs y there)))) in
      let long = ap length at.whole in
      let first = length-append at.before (x ∷ at.behind) in
      let second = length-append at.before at.behind in
      omega (arith, rest, long, first, second)

  -- where a list of which no two are equal goes on, it is longer than what has all of it
  pub none_behind : (front back : List X) → AllPairs (λ one other. one ≢ other) (front ++ back) → ((x : X) → Contains back x → Contains front x) → back ≡ []
  none_behind front [] once each = refl
  none_behind front (x ∷ back) once each =
      let there = each x (Contains-append_left (x ∷ []) back x (Contains-get_or (x ∷ []) 0 x (omega arith))) in
      let k = there.0 in
      let lt = there.1 in
      let long = length-append front (x ∷ back) in
      absurd (once k (length front) x lt (omega (arith, long)) (get_or_append_left front (x ∷ back) x k lt ∙ (there.2 ∙ sym (get_or_at front x back x (length front) refl))))

  -- things of which no two are equal, and none has been seen, are all seen for the first time
  pub sights_apart : {seen xs new : List X} → AllPairs (λ one other. one ≢ other) xs → ((x : X) → Contains xs x → Contains seen x → ⊥)
      → FirstSights seen xs new → new ≡ xs
  sights_apart once fresh none_left = refl
  sights_apart once fresh (again {x = x} {xs = xs} there rest) =
      absurd (fresh x (Contains-append_left (x ∷ []) xs x (Contains-get_or (x ∷ []) 0 x (omega arith))) there)
  sights_apart {seen = seen} once fresh (new_one {x = x} {xs = xs} {new = new} absent rest) =
      ap (λ ys. x ∷ ys) (sights_apart {seen = seen ++ x ∷ []} {xs = xs} {new = new} (rest_once x xs once)
      (λ y later there. elim (Contains-append_cases seen (x ∷ []) y there) [
        | inl earlier ↦ fresh y (Contains-append_right (x ∷ []) xs y later) earlier
        | inr here ↦ first_once x xs once y later (only_one x y here)
      ]) rest)
