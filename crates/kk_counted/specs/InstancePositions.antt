-- What is known of instances and constructors before code is counted.
use Rattle.std.specs.Prelude.{List, map}
use Rattle.kk_syntax.specs.declared.positions.Ownership.{Ownership}
use Rattle.kk_syntax.specs.PositionsOf.{PositionTable}
pub use Rattle.kk_core.specs.ConstructorShapes.{has_fields, AreConsistent, fields_in}
use Rattle.kk_counted.specs.declared.shape.InstanceShape.{InstanceShape}

-- by an instance's number and a parameter's, whether it is owned or lent
abbrev pub passed_to : InstanceShape → List Ownership
passed_to instance = map (λ parameter. parameter.ownership) instance.parameters.items

abbrev pub positions_in : List InstanceShape → PositionTable
positions_in instances = map passed_to instances
