-- What patterns ask, and at which positions.
use Rattle.std.specs.Prelude.{◌≡◌, ℕ, ◌+◌, ◌==◌, nat_lt, Bool, false, true, List, [], ◌∷◌, ◌++◌, map, Option, None, Some, slice_get, count_by, if◌then◌else◌}
use Rattle.kk_syntax.specs.declared.ground.GroundConstructor.{GroundConstructor}
use Rattle.kk_syntax.specs.OfType.{field_types}
use Rattle.kk_syntax.specs.Programs.{ConstructorTree}
use Rattle.kk_syntax.specs.Types.{TypeTree}
use Rattle.kk_syntax.specs.Patterns.{Pattern, anything, variable, exactly, constructor, Patterns, no_part, part}
use Rattle.kk_core.specs.declared.decisions.Answer.{Answer}
use Rattle.kk_core.specs.declared.decisions.Answer.TheVariants.{Number, Constructor}
use Rattle.kk_core.specs.Kinds.{MakeOneType}

-- What a pattern asks at a position: to be a number, or to be made by a constructor. The position is a way through fields:
-- the number of a field, from 0, then that of a field of its cell, and so on.
pub record Part : Type 0 where
  pub at : List ℕ
  pub asked : Answer

-- the type of each constructor, by the constructor's number
abbrev pub types_of : List GroundConstructor → List ℕ
types_of constructors = map (λ c. c.of_type) constructors

-- whether a type has several constructors
abbrev pub are_several : List ℕ → Option ℕ → Bool
are_several types None = false
are_several types (Some of) = nat_lt 1 (count_by (λ other. other == of) types)

-- whether the type of a constructor has several
abbrev pub has_several : List ℕ → ℕ → Bool
has_several types c = are_several types (slice_get types c)

-- The parts of a pattern that need a test, outer before inner and left before right: its numbers, and its constructors of
-- types with several.
abbrev mutual
  pub parts_of : List ℕ → List ℕ → Pattern → List Part
  parts_of types at anything = []
  parts_of types at (variable of) = []
  parts_of types at (exactly n) = record { at = at; asked = Number n } ∷ []
  parts_of types at (constructor c parts) =
      (if has_several types c then record { at = at; asked = Constructor c } ∷ [] else []) ++ parts_of_all types at 0 parts

  -- those of the fields from one on
  pub parts_of_all : List ℕ → List ℕ → ℕ → Patterns → List Part
  parts_of_all types at field no_part = []
  parts_of_all types at field (part first rest) = parts_of types (at ++ field ∷ []) first ++ parts_of_all types at (field + 1) rest

abbrev pub both_same : Option ℕ → Option ℕ → Bool
both_same (Some of) (Some other) = of == other
both_same _ _ = false

-- The answers that may stand where one is asked for: all numbers, or the constructors of one type.
abbrev pub is_kind : List ℕ → Answer → Answer → Bool
is_kind types (Number n) (Number m) = true
is_kind types (Constructor c) (Constructor d) = both_same (slice_get types c) (slice_get types d)
is_kind types _ _ = false

abbrev pub IsKind : List ℕ → Answer → Answer → Type 0
IsKind types asked found = is_kind types asked found ≡ true

-- ---- numbers of types

-- two constructors are of one type, by its number
pub record AreOfOne (types : List ℕ) (c d : ℕ) : Type 0 where
  pub of : ℕ
  pub first : slice_get types c ≡ Some of
  pub second : slice_get types d ≡ Some of

-- A number for each constructor says its type: constructors that make values of one type have one number.
abbrev pub AreTypeNumbers : List ConstructorTree → List ℕ → Type 0
AreTypeNumbers constructors types =
    (t : TypeTree) (c d : ℕ) (us vs : List TypeTree) → field_types constructors t c ≡ Some us → field_types constructors t d ≡ Some vs
    → AreOfOne types c d

-- Such numbers tell types: constructors of one number make values of one type.
abbrev pub TellTypes : List ConstructorTree → List ℕ → Type 0
TellTypes constructors types = (c d : ℕ) → AreOfOne types c d → MakeOneType constructors c d
