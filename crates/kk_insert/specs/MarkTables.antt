-- What the types of a core program tell of marks, and what its core form tells.
use Rattle.std.specs.Prelude.{◌≡◌, ℕ, List, map, Some, slice_get}
use Rattle.kk_syntax.specs.GroundTyping.{Table}
use Rattle.kk_syntax.specs.GroundTyping.{Signature}
use Rattle.kk_syntax.specs.Programs.{ConstructorTree}
use Rattle.kk_syntax.specs.Types.{TypeTrees}
use Rattle.kk_core.specs.CellTypes.{has_cells, made_type}
use Rattle.kk_core.specs.declared.form.Core.{Core}
use Rattle.kk_core.specs.declared.form.CoreFunction.{CoreFunction}
use Rattle.kk_core.specs.declared.shape.ConstructorShape.{ConstructorShape}
use Rattle.kk_counted.specs.Marks.{CellMarks}

-- the marks by the types of functions and constructors
abbrev pub marks_of_types : Table → CellMarks
marks_of_types table =
    record {
      parameters = map (λ (signature : Signature). map (has_cells table.constructors) signature.parameters) table.functions;
      results = map (λ (signature : Signature). has_cells table.constructors signature.result) table.functions;
      types = map (λ (c : ConstructorTree). has_cells table.constructors (made_type c)) table.constructors;
      fields = map (λ (c : ConstructorTree). map (has_cells table.constructors) c.fields) table.constructors;
    }

-- the marks that a core form tells
abbrev pub marks_of_core : Core → CellMarks
marks_of_core core =
    record {
      parameters = map (λ (f : CoreFunction). f.parameters_have_cells.items) core.functions.items;
      results = map (λ (f : CoreFunction). f.result_has_cells) core.functions.items;
      types = map (λ (c : ConstructorShape). c.has_cells) core.constructors.items;
      fields = map (λ (c : ConstructorShape). c.fields.items) core.constructors.items;
    }

-- each constructor is ground: it makes values of one type, that of its own arguments
abbrev pub AreGround : List ConstructorTree → Type 0
AreGround constructors =
    (c : ℕ) (constructor : ConstructorTree) → slice_get constructors c ≡ Some constructor
    → (own : TypeTrees) × (constructor.arguments ≡ Some own)
