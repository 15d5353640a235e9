-- What the types tell of cells in the programs of these tests.
use Rattle.std.specs.Prelude.{◌≡◌, Bool, true, List, [], ◌∷◌, map, length}
use Rattle.kk_syntax.specs.declared.positions.Ownership.{Ownership}
use Rattle.kk_core.specs.declared.shape.ConstructorShape.{ConstructorShape}
use Rattle.kk_counted.specs.declared.shape.Shape.{Shape}
use Rattle.kk_counted.specs.InstancePositions.{positions_in, fields_in}
use Rattle.kk_counted.specs.Marks.{CellMarks, marks_of}

-- A program of one function, whose parameter and whose result have cells, by the fields of its constructors. All of these are of
-- types with cells.
abbrev pub table_of : List (List Bool) → CellMarks
table_of fields =
    record {
      parameters = (true ∷ []) ∷ [];
      results = true ∷ [];
      types = map (λ (marks : List Bool). true) fields;
      fields = fields;
    }

-- the same by the constructors themselves
abbrev pub table_by : List ConstructorShape → CellMarks
table_by constructors =
    record {
      parameters = (true ∷ []) ∷ [];
      results = true ∷ [];
      types = map (λ (constructor : ConstructorShape). constructor.has_cells) constructors;
      fields = map (λ (constructor : ConstructorShape). constructor.fields.items) constructors;
    }

-- The shape of such a program, whose function takes its parameter so.
pub record IsShapeOf (ownership : Ownership) (constructors : List (List Bool)) (shape : Shape) : Type 0 where
  pub positions : positions_in shape.instances.items ≡ (ownership ∷ []) ∷ []
  pub fields : fields_in shape.constructors.items ≡ map length constructors
  pub marks : marks_of shape.instances.items shape.constructors.items ≡ table_of constructors
