-- What holds of each element of a list.
use Rattle.std.proofs.Common.{◌≡◌, ℕ, zero, suc, List, [], ◌∷◌, ◌++◌, Some, refl, subst}
use Rattle.std.specs.Prelude.{slice_get}
use Rattle.kk_syntax.specs.Covered.{Each}

module _ {X : Type 0} (P : X → Type 0) where
  -- two parts
  pub each_parts : (xs ys : List X) → Each P (xs ++ ys) → Each P xs × Each P ys
  each_parts [] ys each = (tt, each)
  each_parts (x ∷ xs) ys each = let both = each_parts xs ys each.1 in ((each.0, both.0), both.1)

  pub each_both : (xs ys : List X) → Each P xs → Each P ys → Each P (xs ++ ys)
  each_both [] ys first rest = rest
  each_both (x ∷ xs) ys first rest = (first.0, each_both xs ys first.1 rest)

  -- the element at a place
  pub each_at : (xs : List X) (k : ℕ) (x : X) → Each P xs → slice_get xs k ≡ Some x → P x
  each_at [] k x each at = absurd (cc)
  each_at (y ∷ ys) zero x each at = let same : y ≡ x = cc in subst P same each.0
  each_at (y ∷ ys) (suc k) x each at = each_at ys k x each.1 at

  pub each_weaker : (Q : X → Type 0) → ((x : X) → P x → Q x) → (xs : List X) → Each P xs → Each Q xs
  each_weaker Q weaker [] each = tt
  each_weaker Q weaker (x ∷ xs) each = (weaker x each.0, each_weaker Q weaker xs each.1)

  pub each_from : (xs : List X) → ((k : ℕ) (x : X) → slice_get xs k ≡ Some x → P x) → Each P xs
  each_from [] at = tt
  each_from (x ∷ xs) at = (at zero x refl, each_from xs (λ k y is. at (suc k) y is))
