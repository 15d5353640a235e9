-- The walk finds exactly the places that can be reached; and from values with the same places it finds as many.
use Rattle.std.proofs.Common.{◌≡◌, ◌⊎◌, inl, inr, ℕ, zero, suc, ◌+◌, ◌<◌, ◌≤◌, Bool, true, false, ◌||◌, List, [], ◌∷◌, ◌++◌, length, arith, refl, sym, ap, ◌∙◌, subst, ◌==◌}
use Rattle.std.specs.Prelude.{if◌then◌else◌}
use Rattle.std.specs.List.{list_any}
use Rattle.kk_source.specs.State.{Value, integer, unit, constant, place, Store}
use Rattle.kk_source.specs.Live.{fields_at, Among, Leads, Reached, is_place, fields_of, fields_of_all, is_found, is_live, counted, live}
use Rattle.kk_source.specs.Sound.{Within, AllWithin, IsOlder}

-- a place among values, as a test
is_place_true : (at : ℕ) (v : Value) → is_place at v ≡ true → v ≡ place at
is_place_true at (integer n) e = absurd (cc)
is_place_true at unit e = absurd (cc)
is_place_true at (constant c) e = absurd (cc)
is_place_true at (place other) e = let same : other ≡ at = grind arith in ap place same

place_is_place : (at : ℕ) (v : Value) → v ≡ place at → is_place at v ≡ true
place_is_place at v e = ap (is_place at) e ∙ (let same : (at == at) ≡ true = grind arith in same)

or_cases : (a b : Bool) → (a || b) ≡ true → (a ≡ true) ⊎ (b ≡ true)
or_cases true b e = inl refl
or_cases false b e = inr e

or_left : (a b : Bool) → a ≡ true → (a || b) ≡ true
or_left a b e = ap (λ x. x || b) e

or_right : (a b : Bool) → b ≡ true → (a || b) ≡ true
or_right true b e = refl
or_right false b e = e

pub any_among : (vs : List Value) (at : ℕ) → list_any (is_place at) vs ≡ true → Among vs at
any_among [] at e = absurd (cc)
any_among (v ∷ vs) at e =
    elim (or_cases (is_place at v) (list_any (is_place at) vs) e)
    [ inl here ↦ inl (is_place_true at v here) | inr there ↦ inr (any_among vs at there) ]

pub among_any : (vs : List Value) (at : ℕ) → Among vs at → list_any (is_place at) vs ≡ true
among_any [] at a = absurd a
among_any (v ∷ vs) at (inl here) = or_left (is_place at v) (list_any (is_place at) vs) (place_is_place at v here)
among_any (v ∷ vs) at (inr there) = or_right (is_place at v) (list_any (is_place at) vs) (among_any vs at there)

-- places among the values of two lists, and the ways from there
pub among_front : (vs ws : List Value) (at : ℕ) → Among vs at → Among (vs ++ ws) at
among_front [] ws at a = absurd a
among_front (v ∷ vs) ws at (inl here) = inl here
among_front (v ∷ vs) ws at (inr there) = inr (among_front vs ws at there)

pub among_back : (vs ws : List Value) (at : ℕ) → Among ws at → Among (vs ++ ws) at
among_back [] ws at a = a
among_back (v ∷ vs) ws at a = inr (among_back vs ws at a)

pub among_split : (vs ws : List Value) (at : ℕ) → Among (vs ++ ws) at → Among vs at ⊎ Among ws at
among_split [] ws at a = inr a
among_split (v ∷ vs) ws at (inl here) = inl (inl here)
among_split (v ∷ vs) ws at (inr there) =
    elim (among_split vs ws at there) [ inl a ↦ inl (inr a) | inr b ↦ inr b ]

pub among_within : (n : ℕ) (vs : List Value) (at : ℕ) → AllWithin n vs → Among vs at → at < n
among_within n [] at w a = absurd a
among_within n (v ∷ vs) at w (inl here) = subst (Within n) here w.0
among_within n (v ∷ vs) at w (inr there) = among_within n vs at w.1 there

-- the fields of the cells that values name
pub among_fields : (store : Store) (vs : List Value) (goal : ℕ) → Among (fields_of_all store vs) goal → (at : ℕ) × (Among vs at × Among (fields_at store at) goal)
among_fields store [] goal a = absurd a
among_fields store (v ∷ vs) goal a = by_value v refl (among_split (fields_of store v) (fields_of_all store vs) goal a) (among_fields store vs goal)
  where
    by_value : (w : Value) → w ≡ v → Among (fields_of store v) goal ⊎ Among (fields_of_all store vs) goal → (Among (fields_of_all store vs) goal → (at : ℕ) × (Among vs at × Among (fields_at store at) goal)) → (at : ℕ) × (Among (v ∷ vs) at × Among (fields_at store at) goal)
    by_value (integer n) e (inl here) later = absurd (subst (λ u. Among (fields_of store u) goal) (sym e) here)
    by_value unit e (inl here) later = absurd (subst (λ u. Among (fields_of store u) goal) (sym e) here)
    by_value (constant c) e (inl here) later = absurd (subst (λ u. Among (fields_of store u) goal) (sym e) here)
    by_value (place at) e (inl here) later = (at, (inl (sym e), subst (λ u. Among (fields_of store u) goal) (sym e) here))
    by_value w e (inr there) later = let r = later there in (r.0, (inr r.1.0, r.1.1))

pub fields_among : (store : Store) (vs : List Value) (at goal : ℕ) → Among vs at → Among (fields_at store at) goal → Among (fields_of_all store vs) goal
fields_among store [] at goal a b = absurd a
fields_among store (v ∷ vs) at goal (inl here) b =
    among_front (fields_of store v) (fields_of_all store vs) goal (subst (λ u. Among (fields_of store u) goal) (sym here) b)
fields_among store (v ∷ vs) at goal (inr there) b =
    among_back (fields_of store v) (fields_of_all store vs) goal (fields_among store vs at goal there b)

-- a way from those fields is a way from the values, by one more cell
one_more : (store : Store) (vs : List Value) (way : List ℕ) (goal : ℕ) → Leads store (fields_of_all store vs) way goal → Reached store vs goal
one_more store vs [] goal l = let r = among_fields store vs goal l in (r.0 ∷ [], (r.1.0, r.1.1))
one_more store vs (next ∷ way) goal l =
    let r = among_fields store vs next l.0 in (r.0 ∷ (next ∷ way), (r.1.0, (r.1.1, l.1)))

found_reached : (rounds : ℕ) (store : Store) (vs : List Value) (goal : ℕ) → is_found rounds store vs goal ≡ true → Reached store vs goal
found_reached zero store vs goal e = ([], any_among vs goal e)
found_reached (suc rounds) store vs goal e =
    elim (or_cases (list_any (is_place goal) vs) (is_found rounds store (fields_of_all store vs) goal) e) [
      | inl here ↦ ([], any_among vs goal here)
      | inr there ↦ let r = found_reached rounds store (fields_of_all store vs) goal there in one_more store vs r.0 goal r.1
    ]

-- what is found at once is found in any number of rounds
found_here : (rounds : ℕ) (store : Store) (vs : List Value) (goal : ℕ) → Among vs goal → is_found rounds store vs goal ≡ true
found_here zero store vs goal a = among_any vs goal a
found_here (suc rounds) store vs goal a = or_left _ _ (among_any vs goal a)

-- fields are only of cells that are there
pub has_cell : (store : Store) (at goal : ℕ) → Among (fields_at store at) goal → at < length store
has_cell [] zero goal a = absurd a
has_cell [] (suc at) goal a = absurd a
has_cell (c ∷ store) zero goal a = omega arith
has_cell (c ∷ store) (suc at) goal a = omega (arith, has_cell store at goal a)

pub first_place : (store : Store) (vs : List Value) (way : List ℕ) (goal : ℕ) → Leads store vs way goal → (at : ℕ) × Among vs at
first_place store vs [] goal l = (goal, l)
first_place store vs (at ∷ way) goal l = (at, l.0)

leads_widen : (store : Store) (vs ws : List Value) (way : List ℕ) (goal : ℕ) → ((at : ℕ) → Among vs at → Among ws at) → Leads store vs way goal → Leads store ws way goal
leads_widen store vs ws [] goal more l = more goal l
leads_widen store vs ws (at ∷ way) goal more l = (more at l.0, l.1)

module _ (store : Store) (older : IsOlder store) where
  fields_below : (n m : ℕ) (vs : List Value) → ((at : ℕ) → Among vs at → at < n) → n ≤ suc m → (at : ℕ) → Among (fields_of_all store vs) at → at < m
  fields_below n m vs w le at a =
      let r = among_fields store vs at a in
      let young = w r.0 r.1.0 in
      let below = among_within r.0 (fields_at store r.0) at (older r.0) r.1.1 in
      omega arith

  roots_below : (rounds : ℕ) (vs : List Value) → suc rounds ≡ length store → (at : ℕ) → Among (fields_of_all store vs) at → at < suc rounds
  roots_below rounds vs all at a =
      let r = among_fields store vs at a in
      let there = has_cell store r.0 at r.1.1 in
      let below = among_within r.0 (fields_at store r.0) at (older r.0) r.1.1 in
      omega arith

  -- ways go from cells to older ones, so they are no longer than the first is young
  reached_found : (rounds n : ℕ) (vs : List Value) (way : List ℕ) (goal : ℕ) → ((at : ℕ) → Among vs at → at < n) → n ≤ suc rounds → Leads store vs way goal → is_found rounds store vs goal ≡ true
  reached_found rounds n vs [] goal w le l = found_here rounds store vs goal l
  reached_found zero n vs (at ∷ way) goal w le l =
      let first = first_place store (fields_at store at) way goal l.1 in
      let below = among_within at (fields_at store at) first.0 (older at) first.1 in
      absurd (omega (arith, w at l.0, below))
  reached_found (suc rounds) n vs (at ∷ way) goal w le l =
      or_right _ _
      (reached_found rounds (suc rounds) (fields_of_all store vs) way goal (fields_below n (suc rounds) vs w le) (omega arith)
      (leads_widen store (fields_at store at) (fields_of_all store vs) way goal (λ next a. fields_among store vs at next l.0 a) l.1))

  from_roots : (rounds : ℕ) (vs : List Value) (way : List ℕ) (goal : ℕ) → rounds ≡ length store → Leads store vs way goal → is_found rounds store vs goal ≡ true
  from_roots rounds vs [] goal all l = found_here rounds store vs goal l
  from_roots zero vs (at ∷ way) goal all l =
      let first = first_place store (fields_at store at) way goal l.1 in
      absurd (omega (arith, has_cell store at first.0 first.1))
  from_roots (suc rounds) vs (at ∷ way) goal all l =
      or_right _ _
      (reached_found rounds (suc rounds) (fields_of_all store vs) way goal (roots_below rounds vs all) (omega arith)
      (leads_widen store (fields_at store at) (fields_of_all store vs) way goal (λ next a. fields_among store vs at next l.0 a) l.1))

  pub live_reached : (vs : List Value) (goal : ℕ) → Reached store vs goal → is_live store vs goal ≡ true
  live_reached vs goal r = from_roots (length store) vs r.0 goal refl r.1

  pub reached_live : (vs : List Value) (goal : ℕ) → is_live store vs goal ≡ true → Reached store vs goal
  reached_live vs goal e = found_reached (length store) store vs goal e

-- ---- from the same places as many are live

-- what is found from values is found where their places are among others
found_from : (rounds : ℕ) (store : Store) (vs ws : List Value) (goal : ℕ) → ((at : ℕ) → Among vs at → Among ws at) → is_found rounds store vs goal ≡ true → is_found rounds store ws goal ≡ true
found_from zero store vs ws goal more e = among_any ws goal (more goal (any_among vs goal e))
found_from (suc rounds) store vs ws goal more e =
    elim (or_cases (list_any (is_place goal) vs) (is_found rounds store (fields_of_all store vs) goal) e) [
      | inl here ↦ or_left _ _ (among_any ws goal (more goal (any_among vs goal here)))
      | inr there ↦ or_right _ _
          (found_from rounds store (fields_of_all store vs) (fields_of_all store ws) goal
          (λ at a. let r = among_fields store vs at a in fields_among store ws r.0 at (more r.0 r.1.0) r.1.1) there)
    ]

same_test : (a b : Bool) → (a ≡ true → b ≡ true) → (b ≡ true → a ≡ true) → a ≡ b
same_test true b there back = sym (there refl)
same_test false true there back = back refl
same_test false false there back = refl

pub counted_alike : (p q : ℕ → Bool) (n : ℕ) → ((at : ℕ) → p at ≡ q at) → counted p n ≡ counted q n
counted_alike p q zero same = refl
counted_alike p q (suc n) same =
    ap (λ m. m + (if p n then 1 else 0)) (counted_alike p q n same) ∙ ap (λ b. counted q n + (if b then 1 else 0)) (same n)

-- as many places are live from values with the same places
pub live_alike : (store : Store) (vs ws : List Value) → ((at : ℕ) → Among vs at → Among ws at) → ((at : ℕ) → Among ws at → Among vs at) → live store vs ≡ live store ws
live_alike store vs ws there back =
    counted_alike (is_live store vs) (is_live store ws) (length store)
    (λ at. same_test (is_live store vs at) (is_live store ws at) (found_from (length store) store vs ws at there) (found_from (length store) store ws vs at back))
