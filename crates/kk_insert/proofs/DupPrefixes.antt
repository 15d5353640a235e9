-- What is true of a code with dups and drops before it, where it is true of the code.
use Rattle.std.proofs.Common.{ℕ, List, [], ◌∷◌}
use Rattle.kk_syntax.specs.Shapes.{without}
use Rattle.kk_counted.specs.CountedCodes as Counted
use Rattle.kk_insert.specs.Insertion.{dups, drops, dropping, owns, back}

module _ (P : Counted.Counted → Type 0) (with_dup : (x : ℕ) (code : Counted.Counted) → P code → P (Counted.dup x code))
    (with_drop : (x : ℕ) (code : Counted.Counted) → P code → P (Counted.drop x code)) where
  pub through_dups : (xs : List ℕ) (code : Counted.Counted) → P code → P (dups xs code)
  through_dups [] code p = p
  through_dups (x ∷ xs) code p = with_dup x (dups xs code) (through_dups xs code p)

  through_drops : (xs : List ℕ) (code : Counted.Counted) → P code → P (drops xs code)
  through_drops [] code p = p
  through_drops (x ∷ xs) code p = with_drop x (drops xs code) (through_drops xs code p)

  pub through_dropping : (all now : List ℕ) (code : Counted.Counted) → P code → P (dropping all now code)
  through_dropping all now code p = through_drops (without now all) code p

  pub through_back : (lent given : List ℕ) (x : ℕ) (now : List ℕ) (code : Counted.Counted) → P code
      → P (back lent given x now code)
  through_back lent given x now code p =
      through_dropping (owns lent given (without (x ∷ []) now)) (without (x ∷ []) now) (dropping (x ∷ []) now code)
      (through_dropping (x ∷ []) now code p)
