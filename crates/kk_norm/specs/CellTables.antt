-- Which types have cells, as a table by the numbers of types.
use Rattle.std.specs.Prelude.{◌≡◌, ℕ, Bool, false, List, map, slice_index_or}
use Rattle.kk_syntax.specs.declared.ground.Ground.{Ground}
use Rattle.kk_syntax.specs.declared.ground.GroundConstructor.{GroundConstructor}
use Rattle.kk_syntax.specs.declared.ground.Instance.{Instance}
use Rattle.kk_syntax.specs.GroundPrograms.{ground_types, ground_program}
use Rattle.kk_syntax.specs.Types.{type_at}
use Rattle.kk_core.specs.CellTypes.{has_cells}
use Rattle.kk_core.specs.declared.form.CoreFunction.{CoreFunction}
use Rattle.kk_core.specs.declared.shape.ConstructorShape.{ConstructorShape}

-- whether the type of a number has cells, by a table; one behind its end has none
abbrev pub at_type : List Bool → ℕ → Bool
at_type table n = slice_index_or table n false

abbrev pub IsCellTable : Ground → List Bool → Type 0
IsCellTable given table =
    (n : ℕ) → at_type table n ≡ has_cells (ground_program given).constructors (type_at (ground_types given.types.items) n)

-- these are the shapes of ground constructors, by a table
pub record AreShapesOf (table : List Bool) (constructors : List GroundConstructor) (shapes : List ConstructorShape) : Type 0 where
  pub of_types : map (λ (c : ConstructorShape). c.of_type) shapes ≡ map (λ (c : GroundConstructor). c.of_type) constructors
  pub tags : map (λ (c : ConstructorShape). c.tag) shapes ≡ map (λ (c : GroundConstructor). c.tag) constructors
  pub types : map (λ (c : ConstructorShape). c.has_cells) shapes ≡ map (λ (c : GroundConstructor). at_type table c.of_type) constructors
  pub fields : map (λ (c : ConstructorShape). c.fields.items) shapes
      ≡ map (λ (c : GroundConstructor). map (at_type table) c.fields.items) constructors

-- core functions tell which of the types of instances have cells, by a table
pub record TellCells (table : List Bool) (instances : List Instance) (cores : List CoreFunction) : Type 0 where
  pub parameters : map (λ (f : CoreFunction). f.parameters_have_cells.items) cores
      ≡ map (λ (i : Instance). map (at_type table) i.parameters.items) instances
  pub results : map (λ (f : CoreFunction). f.result_has_cells) cores ≡ map (λ (i : Instance). at_type table i.result) instances
