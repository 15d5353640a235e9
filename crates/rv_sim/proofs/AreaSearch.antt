-- An area that allows an access is found exactly where the access is allowed.
use Rattle.std.proofs.Common.{◌≡◌, ℕ, ◌+◌, ◌<◌, List, [], ◌∷◌, map, length, get_or, Bool, true, false, ◌||◌, Option, Some, None, IfSome, HoldsAt, position, refl, cond, is_some, ap, ◌∙◌, sym}
use Rattle.std.specs.List.{list_any}
use Rattle.std.proofs.lemmas.List.Folds.{list_any_at}
use Rattle.std.proofs.lemmas.List.Quantifiers.{position-Some}
use Rattle.std.proofs.lemmas.Iterator.Adapters.{position_from-zero}
use Rattle.std.specs.List.{position_from}
use Rattle.rv_sim.specs.declared.area.Access.{Access}
use Rattle.rv_sim.specs.declared.area.Access.TheVariants.{Fetch, Load, Store, Inspect}
use Rattle.rv_sim.specs.declared.area.Area.{Area}
use Rattle.rv_sim.specs.Areas.{part_of_area, parts_of_areas, allows, can}

pub list_any-map : {X Y : Type 0} (p : Y → Bool) (f : X → Y) (xs : List X) → list_any p (map f xs) ≡ list_any (λ x. p (f x)) xs
list_any-map p f [] = refl
list_any-map p f (x ∷ xs) = ap (λ b. p (f x) || b) (list_any-map p f xs)

pub can-is : (access : Access) (areas : List Area) (at count : ℕ) → can access (parts_of_areas areas) at count ≡ list_any (allows access at count) areas
can-is Fetch areas at count = list_any-map _ part_of_area areas
can-is Load areas at count = list_any-map _ part_of_area areas
can-is Store areas at count = list_any-map _ part_of_area areas
can-is Inspect areas at count = list_any-map _ part_of_area areas

any-position_from : {X : Type 0} (p : X → Bool) (i : ℕ) (xs : List X) → list_any p xs ≡ is_some (position_from p i xs)
any-position_from p i [] = refl
any-position_from p i (x ∷ xs) =
    let rest = any-position_from p (i + 1) xs in
    elim (p x) as (λ b. (b || list_any p xs) ≡ is_some (cond b (Some i) (position_from p (i + 1) xs))) [ true ↦ refl | false ↦ rest ]

pub any-position : {X : Type 0} (p : X → Bool) (xs : List X) → list_any p xs ≡ is_some (position p xs)
any-position p xs = any-position_from p 0 xs ∙ ap is_some (sym (position_from-zero p xs))

-- what the place of the first area that allows an access says
pub finds-first : (access : Access) (areas : List Area) (at count : ℕ) (found : Option ℕ) → found ≡ position (allows access at count) areas → is_some found ≡ can access (parts_of_areas areas) at count
finds-first access areas at count found is = ap is_some is ∙ sym (any-position (allows access at count) areas) ∙ sym (can-is access areas at count)

pub finds-place : (access : Access) (areas : List Area) (at count : ℕ) (found : Option ℕ) → found ≡ position (allows access at count) areas → IfSome found (λ i. (i < length areas) × HoldsAt (λ area. allows access at count area ≡ true) areas i)
finds-place access areas at count None is = tt
finds-place access [] at count (Some i) is = cc
finds-place access (area ∷ areas) at count (Some i) is = (
  (position-Some (allows access at count) (area ∷ areas) i area (sym is)).0,
  λ d. (position-Some (allows access at count) (area ∷ areas) i d (sym is)).1,
)

-- one area that allows an access is enough
pub finds-last : (access : Access) (areas : List Area) (at count i : ℕ) (d : Area) → i < length areas → allows access at count (get_or areas i d) ≡ true → true ≡ can access (parts_of_areas areas) at count
finds-last access areas at count i d within allowed =
    sym (can-is access areas at count ∙ list_any_at (allows access at count) areas i d within allowed)

or-right : (a b : Bool) → b ≡ true → (a || b) ≡ true
or-right true b e = refl
or-right false b e = e

-- a test that follows from another is passed where that is passed
pub list_any-weaker : {X : Type 0} (p q : X → Bool) → ((x : X) → p x ≡ true → q x ≡ true) → (xs : List X) → list_any p xs ≡ true → list_any q xs ≡ true
list_any-weaker p q weaker [] passed = cc
list_any-weaker p q weaker (x ∷ xs) passed =
    let rest = list_any-weaker p q weaker xs in
    let here : (b : Bool) → p x ≡ b → (b || list_any p xs) ≡ true → (q x || list_any q xs) ≡ true =
    λ b. elim b as (λ b. p x ≡ b → (b || list_any p xs) ≡ true → (q x || list_any q xs) ≡ true) [
      | true ↦ λ e h. rw (weaker x e) refl
      | false ↦ λ e h. or-right (q x) (list_any q xs) (rest h)
    ] in
    here (p x) refl passed
