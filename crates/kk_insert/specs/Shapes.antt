-- What of a core program goes into the shape of its counted program.
use Rattle.std.specs.Prelude.{◌≡◌, ℕ, Bool, List, map, length}
use Rattle.kk_syntax.specs.PositionsOf.{PositionTable}
use Rattle.kk_core.specs.declared.form.CoreFunction.{CoreFunction}
use Rattle.kk_core.specs.declared.shape.ConstructorShape.{ConstructorShape}
use Rattle.kk_counted.specs.declared.shape.InstanceShape.{InstanceShape}

-- which parameters of a function have cells, as it tells, and as its instance tells
abbrev pub cells_told : CoreFunction → List Bool
cells_told function = function.parameters_have_cells.items

abbrev pub cells_in : InstanceShape → List Bool
cells_in instance = map (λ parameter. parameter.has_cells) instance.parameters.items

-- each function tells as many as the table of positions
abbrev pub TellsAsMany : PositionTable → List CoreFunction → Type 0
TellsAsMany positions functions = map length positions ≡ map (λ (f : CoreFunction). length f.parameters_have_cells.items) functions

-- what is known of a constructor
pub record ConstructorFacts : Type 0 where
  pub of_type : ℕ
  pub tag : ℕ
  pub has_cells : Bool
  pub fields : List Bool

abbrev pub facts_of : ConstructorShape → ConstructorFacts
facts_of shape = record { of_type = shape.of_type; tag = shape.tag; has_cells = shape.has_cells; fields = shape.fields.items }
