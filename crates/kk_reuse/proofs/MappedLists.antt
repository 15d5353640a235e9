-- What is true of each thing that a list is mapped to.
use Rattle.std.proofs.Common.{◌≡◌, ℕ, zero, suc, List, [], ◌∷◌, map, Some, refl, subst}
use Rattle.std.specs.Prelude.{slice_get}

-- it is so where it is so of what is made of each thing of the list
pub each_made : {A B : Type 0} (make : A → B) (P : B → Type 0) (items : List A)
    → ((n : ℕ) (item : A) → slice_get items n ≡ Some item → P (make item))
    → (n : ℕ) (made : B) → slice_get (map make items) n ≡ Some made → P made
each_made make P [] each n made is = absurd (cc)
each_made make P (first ∷ items) each zero made is =
    let same : make first ≡ made = cc in subst P same (each zero first refl)
each_made make P (first ∷ items) each (suc n) made is =
    each_made make P items (λ m item there. each (suc m) item there) n made is
