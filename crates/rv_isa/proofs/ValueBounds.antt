-- Well-formed code names few values.
use Rattle.std.proofs.Common.{◌≡◌, ◌<◌, ℕ, List, [], ◌∷◌, ◌++◌, Option, Some, None, All, refl}
use Rattle.std.specs.List.{AllByRecursion}
use Rattle.std.proofs.lemmas.List.Elements.{All-head, All-tail}
use Rattle.rv_isa.specs.AsmCode.{Line, Lines}
use Rattle.rv_isa.specs.ValueBounds.{IsWrittenBelow, AreLinesBelow, HasValuesBelow, HaveValuesBelow}
use Rattle.rv_isa.specs.WellFormed.{most_values, AreLinesFormed, IsWellFormed, AreWellFormed}

each_of : (P : ℕ → Type 0) (values : List ℕ) → All P values → AllByRecursion P values
each_of P [] all = tt
each_of P (v ∷ values) all = (All-head P v values all, each_of P values (All-tail P v values all))

written_below : (most : ℕ) (into : Option ℕ) → ((v : ℕ) → into ≡ Some v → v < most) → IsWrittenBelow most into
written_below most None small = tt
written_below most (Some v) small = small v refl

lines_below : (code : List Line) → AreLinesFormed code → AreLinesBelow most_values code
lines_below [] formed = tt
lines_below (line ∷ rest) formed = (
  (
    each_of (λ v. v < most_values) line.args formed.0.args_small,
    written_below most_values line.into formed.0.into_small,
  ),
  lines_below rest formed.1,
)

pub values_below : (function : Lines) → IsWellFormed function → HasValuesBelow most_values function
values_below function formed =
    (each_of (λ v. v < most_values) function.params formed.params_small, lines_below function.code formed.lines)

-- so in each function of a program
pub all_values_below : (functions : List Lines) → AreWellFormed functions → HaveValuesBelow most_values functions
all_values_below [] formed = tt
all_values_below (function ∷ functions) formed =
    (values_below function formed.0, all_values_below functions formed.1)

-- and so in lines one after the other
pub lines_joined : (most : ℕ) (first second : List Line) → AreLinesBelow most first → AreLinesBelow most second
    → AreLinesBelow most (first ++ second)
lines_joined most [] second below behind = behind
lines_joined most (line ∷ first) second below behind = (below.0, lines_joined most first second below.1 behind)
