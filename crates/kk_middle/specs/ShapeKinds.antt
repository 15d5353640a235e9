-- Of which kind values are where a compiled program runs, by what its shape tells of constructors.
use Rattle.std.specs.Prelude.{◌≡◌, ℕ, List, [], map, length, slice_index_or}
use Rattle.kk_core.specs.declared.shape.ConstructorShape.{ConstructorShape}
use Rattle.kk_counted.specs.CountedStates.{CountedSetting, CountedState}
use Rattle.kk_counted.specs.Keeping.{HasShapeAlways}
use Rattle.kk_counted.specs.Kinds.{HasKindsAlways}

-- by a constructor's number, its tag and the number of its fields
abbrev pub tag_of : List ConstructorShape → ℕ → ℕ
tag_of constructors c = slice_index_or (map (λ (one : ConstructorShape). one.tag) constructors) c 0

abbrev pub many_fields : List ConstructorShape → ℕ → ℕ
many_fields constructors c = length (slice_index_or (map (λ (one : ConstructorShape). one.fields.items) constructors) c [])

-- their tags tell two constructors apart
abbrev pub AreToldApart : List ConstructorShape → ℕ → ℕ → Type 0
AreToldApart constructors c d = tag_of constructors c ≡ tag_of constructors d → c ≡ d

-- In each state of a run values are of the kinds that the code takes, where constructors are alike that their tags tell apart; and
-- the code has the shape of a typed program. Whatever the steps weigh.
pub record HasKindsByShape (constructors : List ConstructorShape) (setting : CountedSetting) (input : List ℕ) : Type 0 where
  pub kinds : (weights : CountedState → ℕ)
      → HasKindsAlways (AreToldApart constructors) (many_fields constructors) weights setting input
  pub shape : (weights : CountedState → ℕ) → HasShapeAlways weights setting input
