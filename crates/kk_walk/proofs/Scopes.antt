-- The scope as the code keeps it.
use Rattle.std.proofs.Common.{◌≡◌, ◌<◌, ℕ, Bool, true, false, ◌==◌, Option, Some, option_map, cond, List, [], ◌∷◌, ◌++◌, map, reverse, refl, ap, sym, ◌∙◌, subst}
use Rattle.std.specs.List.{All, find}
use Rattle.std.proofs.lemmas.List.{map-append, reverse-append}
use Rattle.std.proofs.lemmas.List.Elements.{All-append, All-nil, All-cons}
use Rattle.kk_syntax.specs.Typing.{type_in}
use Rattle.kk_unify.specs.Graphs.{Assignment}
use Rattle.kk_walk.specs.declared.walk.Bound.{Bound}
use Rattle.kk_walk.specs.Walks.{AreBoundBelow, variable_at, scope_at}
use Rattle.kk_walk.proofs.ClaimComposition.{head_of, tail_of}

reverse_map : {X Y : Type 0} (f : X → Y) (xs : List X) → reverse (map f xs) ≡ map f (reverse xs)
reverse_map f [] = refl
reverse_map f (x ∷ xs) =
    reverse-append (f x ∷ []) (map f xs) ∙ (ap (λ l. l ++ (f x ∷ [])) (reverse_map f xs) ∙ (sym (map-append f (reverse xs) (x ∷ [])) ∙ ap (map f) (sym (reverse-append (x ∷ []) xs))))

all_reversed : {X : Type 0} (P : X → Type 0) (xs : List X) → All P xs → All P (reverse xs)
all_reversed P [] h = All-nil P
all_reversed P (x ∷ xs) h =
    subst (All P) (sym (reverse-append (x ∷ []) xs))
    (All-append P (reverse xs) (x ∷ []) (all_reversed P xs (tail_of P x xs h)) (All-cons P x [] (head_of P x xs h) (All-nil P)))

found_has : {X : Type 0} (P : X → Type 0) (p : X → Bool) (xs : List X) (x : X) → All P xs → find p xs ≡ Some x → P x
found_has P p [] x h e = cc
found_has P p (y ∷ ys) x h e =
    let rest : find p ys ≡ Some x → P x = found_has P p ys x (tail_of P y ys h) in
    here (p y) e rest
  where
    here : (b : Bool) → cond b (Some y) (find p ys) ≡ Some x → (find p ys ≡ Some x → P x) → P x
    here true is rest = let same : y ≡ x = cc (is) in subst P same (head_of P y ys h)
    here false is rest = rest is

type_in_found : (r : Assignment) (bounds : List Bound) (x : ℕ) → type_in (map (variable_at r) bounds) x ≡ option_map (λ (b : Bound). r b.node) (find (λ b. b.variable == x) bounds)
type_in_found r [] x = refl
type_in_found r (b ∷ bs) x = elim (b.variable == x) as (λ t. cond t (Some (r b.node)) (type_in (map (variable_at r) bs) x) ≡ option_map (λ (b : Bound). r b.node) (cond t (Some b) (find (λ b. b.variable == x) bs))) [
  | true ↦ refl
  | false ↦ type_in_found r bs x
]

module _ (bounds : List Bound) (x : ℕ) (found : Option Bound) (is : find (λ b. b.variable == x) (reverse bounds) ≡ found) where
  -- the type of a variable is that of the newest one of its number
  pub newest_is : (r : Assignment) → type_in (scope_at r bounds) x ≡ option_map (λ (b : Bound). r b.node) found
  newest_is r =
      ap (λ scope. type_in scope x) (reverse_map (variable_at r) bounds)
      ∙ (type_in_found r (reverse bounds) x ∙ ap (option_map (λ (b : Bound). r b.node)) is)

-- the node of a variable that is found is there
pub newest_inside : (size : ℕ) (bounds : List Bound) (x : ℕ) (b : Bound) → AreBoundBelow size bounds → find (λ c. c.variable == x) (reverse bounds) ≡ Some b → b.node < size
newest_inside size bounds x b h is = found_has (λ c. c.node < size) (λ c. c.variable == x) (reverse bounds) b (all_reversed (λ c. c.node < size) bounds h) is

-- one variable more
pub scope_more : (r : Assignment) (bounds : List Bound) (b : Bound) → scope_at r (bounds ++ (b ∷ [])) ≡ variable_at r b ∷ scope_at r bounds
scope_more r bounds b = ap reverse (map-append (variable_at r) bounds (b ∷ [])) ∙ reverse-append (map (variable_at r) bounds) (variable_at r b ∷ [])
