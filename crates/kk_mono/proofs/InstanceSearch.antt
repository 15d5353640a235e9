-- The work list of the search for instances: those that have been looked at come first.
use Rattle.std.proofs.Common.{◌≡◌, ◌≢◌, ℕ, zero, suc, ◌+◌, ◌-◌, ◌<◌, ◌≤◌, List, [], ◌∷◌, ◌++◌, length, get_or, take, drop, AllPairs, Contains, refl, sym, ap, ◌∙◌, subst, inl, inr, arith, append_assoc}
use Rattle.std.specs.Prelude.{flat_map}
use Rattle.std.proofs.lemmas.Bool.{cases_lt}
use Rattle.std.proofs.lemmas.List.{length-append, take_all, take_more, take-append-le, take-append-drop, append-nil, flat_map_more}
use Rattle.std.proofs.lemmas.List.Elements.{All-nil, All-cons, All-append, All-contains, All-from_get_or, Contains-get_or, Contains-append_left, Contains-append_right}
use Rattle.std.proofs.lemmas.List.Kept.{AllPairs-cons}
use Rattle.kk_base.specs.Limits.{greatest_of}
use Rattle.kk_base.specs.declared.limit.LimitKind.TheVariants.{Instances}
use Rattle.kk_syntax.specs.Typing.{Choice}
use Rattle.kk_mono.specs.Counts.{AreTooMany}
use Rattle.kk_mono.specs.Instances.{InstanceTree, main_instance, called_in, IsInstance, main_is, called_is, FirstSights, none_left, AreInstances}
use Rattle.kk_mono.specs.InstanceSearch.{Searched}
use Rattle.kk_mono.proofs.Pigeonhole.{none_behind}
use Rattle.kk_mono.proofs.FirstSights.{Parted, sights_append, sights_part, sights_only, sights_all, sights_each, sights_once}

front_taken : {X : Type 0} (xs ys : List X) (n : ℕ) → length xs ≤ n → take n (xs ++ ys) ≡ xs ++ take (n - length xs) ys
front_taken [] ys n few = ap (λ k. take k ys) (omega arith)
front_taken (x ∷ xs) ys zero few = absurd (omega (arith, few))
front_taken (x ∷ xs) ys (suc n) few = ap (λ zs. x ∷ zs) (front_taken xs ys n (omega (arith, few)) ∙ ap (λ k. xs ++ take k ys) (omega arith))

module _ (main : ℕ) (typings : List (List Choice)) where
  pub search_starts : Searched main typings (main_instance main ∷ []) 0
  search_starts = record { others = []; begins = refl; in_order = none_left; each = All-cons (IsInstance main typings) (main_instance main) [] main_is (All-nil (IsInstance main typings)); within = omega arith }

  flat_at : (xs : List InstanceTree) (x : InstanceTree) → flat_map (called_in typings) xs ++ called_in typings x ≡ flat_map (called_in typings) (xs ++ x ∷ [])
  flat_at xs x = flat_map_more (called_in typings) [] xs x

  -- the next instance is looked at
  pub search_steps : (known new : List InstanceTree) (looked : ℕ) (next : InstanceTree) → Searched main typings known looked → looked < length known → get_or known looked next ≡ next
      → FirstSights known (called_in typings next) new → Searched main typings (known ++ new) (looked + 1)
  search_steps known new looked next so_far lt is sights = record {
    others = so_far.others ++ new;
    begins = ap (λ xs. xs ++ new) so_far.begins;
    in_order = subst (λ xs. FirstSights (main_instance main ∷ []) (flat_map (called_in typings) xs) (so_far.others ++ new)) (sym taken)
        (subst (λ ys. FirstSights (main_instance main ∷ []) ys (so_far.others ++ new)) (flat_at (take looked known) next)
        (sights_append so_far.in_order (subst (λ xs. FirstSights xs (called_in typings next) new) so_far.begins sights)));
    each = All-append (IsInstance main typings) known new so_far.each (All-from_get_or (IsInstance main typings) new next (λ i below.
        called_is (subst (λ x. IsInstance main typings x) is (so_far.each looked next lt)) (sights_each sights (get_or new i next) (Contains-get_or new i next below))));
    within = let long = length-append known new in omega (arith, long, lt);
  }
    where
      taken : take (looked + 1) (known ++ new) ≡ take looked known ++ next ∷ []
      taken = take-append-le (looked + 1) known new (omega (arith, lt)) ∙ (take_more known looked next lt ∙ ap (λ x. take looked known ++ x ∷ []) is)

  pub known_once : (known : List InstanceTree) (looked : ℕ) → Searched main typings known looked → AllPairs (λ one other. one ≢ other) known
  known_once known looked so_far = subst (λ xs. AllPairs (λ one other. one ≢ other) xs) (sym so_far.begins)
      (sights_once (AllPairs-cons (λ one other. one ≢ other) (main_instance main) [] (All-nil (λ other. main_instance main ≢ other)) (λ i j d lt within. absurd (omega (arith, within)))) so_far.in_order)

  in_flat : (xs : List InstanceTree) (caller called : InstanceTree) → Contains xs caller → Contains (called_in typings caller) called → Contains (flat_map (called_in typings) xs) called
  in_flat [] caller called there calls = absurd (let lt = there.1 in omega (arith, lt))
  in_flat (x ∷ xs) caller called (zero, lt, is) calls = Contains-append_left (called_in typings x) (flat_map (called_in typings) xs) called (subst (λ y. Contains (called_in typings y) called) (sym is) calls)
  in_flat (x ∷ xs) caller called (suc k, lt, is) calls = Contains-append_right (called_in typings x) (flat_map (called_in typings) xs) called (in_flat xs caller called (k, omega (arith, lt), is) calls)

  -- what has all that it calls has all instances
  closed : (known callers others : List InstanceTree) → known ≡ main_instance main ∷ others → ((x : InstanceTree) → Contains known x → Contains callers x)
      → FirstSights (main_instance main ∷ []) (flat_map (called_in typings) callers) others → (x : InstanceTree) → IsInstance main typings x → Contains known x
  closed known callers others begins looked sights x main_is = subst (λ xs. Contains xs (main_instance main)) (sym begins) (Contains-append_left (main_instance main ∷ []) others (main_instance main) (Contains-get_or (main_instance main ∷ []) 0 (main_instance main) (omega arith)))
  closed known callers others begins looked sights x (called_is {caller = caller} instance calls) =
      subst (λ xs. Contains xs x) (sym begins) (sights_all sights x (in_flat callers caller x (looked caller (closed known callers others begins looked sights caller instance)) calls))

  -- all that are known have been looked at
  pub search_ends : (known : List InstanceTree) (looked : ℕ) → Searched main typings known looked → length known ≤ looked → AreInstances main typings known
  search_ends known looked so_far past = record {
    others = so_far.others;
    begins = so_far.begins;
    in_order = all_looked;
    each = so_far.each;
    all = closed known known so_far.others so_far.begins (λ x there. there) all_looked;
  }
    where
      all_looked : FirstSights (main_instance main ∷ []) (flat_map (called_in typings) known) so_far.others
      all_looked = subst (λ xs. FirstSights (main_instance main ∷ []) (flat_map (called_in typings) xs) so_far.others) (take_all looked known past) so_far.in_order

  pub search_passes : (known : List InstanceTree) (looked : ℕ) → Searched main typings known looked → greatest_of Instances < length known → AreTooMany main typings known
  search_passes known looked so_far many = record { each = so_far.each; once = known_once known looked so_far; many = many }

  -- the instances that are known where the first so many of all have been looked at
  record Front (all : List InstanceTree) (looked : ℕ) : Type 0 where
    found : List InstanceTree
    left : List InstanceTree
    whole : all ≡ (main_instance main ∷ found) ++ left
    sights : FirstSights (main_instance main ∷ []) (flat_map (called_in typings) (take looked all)) found
    last : length (main_instance main ∷ found) ≤ looked → left ≡ []

  flat_append : (xs ys : List InstanceTree) → flat_map (called_in typings) (xs ++ ys) ≡ flat_map (called_in typings) xs ++ flat_map (called_in typings) ys
  flat_append [] ys = refl
  flat_append (x ∷ xs) ys = ap (λ zs. called_in typings x ++ zs) (flat_append xs ys) ∙ sym (append_assoc (called_in typings x) (flat_map (called_in typings) xs) (flat_map (called_in typings) ys))

  front_at : (all : List InstanceTree) (looked : ℕ) → AreInstances main typings all → Front all looked
  front_at all looked are = record { found = parts.first; left = parts.rest; whole = whole; sights = parts.of_first; last = last }
    where
      parts : Parted (main_instance main ∷ []) (flat_map (called_in typings) (take looked all)) (flat_map (called_in typings) (drop looked all)) are.others
      parts = sights_part (main_instance main ∷ []) (flat_map (called_in typings) (take looked all)) (flat_map (called_in typings) (drop looked all)) are.others
          (subst (λ ys. FirstSights (main_instance main ∷ []) ys are.others) (ap (flat_map (called_in typings)) (sym (take-append-drop looked all)) ∙ flat_append (take looked all) (drop looked all)) are.in_order)

      whole : all ≡ (main_instance main ∷ parts.first) ++ parts.rest
      whole = are.begins ∙ ap (λ xs. main_instance main ∷ xs) parts.whole

      once : AllPairs (λ one other. one ≢ other) all
      once = subst (λ xs. AllPairs (λ one other. one ≢ other) xs) (sym are.begins)
          (sights_once (AllPairs-cons (λ one other. one ≢ other) (main_instance main) [] (All-nil (λ other. main_instance main ≢ other)) (λ i j d lt within. absurd (omega (arith, within)))) are.in_order)

      looked_at : length (main_instance main ∷ parts.first) ≤ looked → (x : InstanceTree) → Contains (main_instance main ∷ parts.first) x → Contains (take looked all) x
      looked_at few x there = subst (λ xs. Contains (take looked xs) x) (sym whole)
          (subst (λ xs. Contains xs x) (sym (front_taken (main_instance main ∷ parts.first) parts.rest looked few)) (Contains-append_left (main_instance main ∷ parts.first) (take (looked - length (main_instance main ∷ parts.first)) parts.rest) x there))

      last : length (main_instance main ∷ parts.first) ≤ looked → parts.rest ≡ []
      last few = none_behind (main_instance main ∷ parts.first) parts.rest (subst (λ xs. AllPairs (λ one other. one ≢ other) xs) whole once)
          (λ x there. closed (main_instance main ∷ parts.first) (take looked all) parts.first refl (looked_at few) parts.of_first x
          (All-contains (IsInstance main typings) all x are.each (subst (λ xs. Contains xs x) (sym whole) (Contains-append_right (main_instance main ∷ parts.first) parts.rest x there))))

  -- one more member of both
  same_more : (some others : List InstanceTree) (n : ℕ) → AreInstances main typings some → AreInstances main typings others → take n some ≡ take n others → take (n + 1) some ≡ take (n + 1) others
  same_more some others n are also same =
      let one = front_at some n are in
      let two = front_at others n also in
      let found : one.found ≡ two.found = sights_only one.sights (subst (λ xs. FirstSights (main_instance main ∷ []) (flat_map (called_in typings) xs) two.found) (sym same) two.sights) in
      elim (cases_lt n (length (main_instance main ∷ one.found))) [
        | inl inside ↦
            ap (take (n + 1)) one.whole
            ∙ (take-append-le (n + 1) (main_instance main ∷ one.found) one.left (omega (arith, inside))
            ∙ (ap (λ xs. take (n + 1) (main_instance main ∷ xs)) found
            ∙ (sym (take-append-le (n + 1) (main_instance main ∷ two.found) two.left (let long = ap length found in omega (arith, long, inside)))
            ∙ sym (ap (take (n + 1)) two.whole))))
        | inr past ↦
            let first_ends : some ≡ main_instance main ∷ one.found = one.whole ∙ (ap (λ xs. (main_instance main ∷ one.found) ++ xs) (one.last past) ∙ append-nil (main_instance main ∷ one.found)) in
            let second_ends : others ≡ main_instance main ∷ two.found = two.whole ∙ (ap (λ xs. (main_instance main ∷ two.found) ++ xs) (two.last (let long = ap length found in omega (arith, long, past))) ∙ append-nil (main_instance main ∷ two.found)) in
            ap (take (n + 1)) (first_ends ∙ (ap (λ xs. main_instance main ∷ xs) found ∙ sym second_ends))
      ]

  same_front : (some others : List InstanceTree) (n : ℕ) → AreInstances main typings some → AreInstances main typings others → take n some ≡ take n others
  same_front some others zero are also = refl
  same_front some others (suc n) are also = let next : n + 1 ≡ suc n = omega arith in subst (λ k. take k some ≡ take k others) next (same_more some others n are also (same_front some others n are also))

  -- there is one list of all instances
  pub one_list : (some others : List InstanceTree) → AreInstances main typings some → AreInstances main typings others → some ≡ others
  one_list some others are also =
      sym (take_all (length some + length others) some (omega arith))
      ∙ (same_front some others (length some + length others) are also
      ∙ take_all (length some + length others) others (omega arith))
