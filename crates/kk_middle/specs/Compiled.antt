-- What the counted form of an accepted program is, and that form with its tokens.
use Rattle.std.specs.Prelude.{◌≡◌, ℕ, List, map}
use Rattle.kk_syntax.specs.declared.ground.Ground.{Ground}
use Rattle.kk_syntax.specs.declared.typed.Typed.{Typed}
use Rattle.kk_syntax.specs.GroundPrograms.{ground_program}
use Rattle.kk_syntax.specs.OwnedPositions.{IsLeast}
use Rattle.kk_syntax.specs.PositionsOf.{PositionTable}
use Rattle.kk_syntax.specs.Programs.{program_tree}
use Rattle.kk_syntax.specs.Shapes.{greatest_nodes}
use Rattle.kk_mono.specs.Grounds.{instances_of}
use Rattle.kk_instances.specs.Meaning as Instances
use Rattle.kk_core.specs.CellTypes.{TellsCells}
use Rattle.kk_core.specs.Codes.{core_code}
use Rattle.kk_core.specs.declared.form.Core.{Core}
use Rattle.kk_core.specs.declared.form.CoreFunction.{CoreFunction}
use Rattle.kk_norm.specs.Normalized.{IsCoreForm}
use Rattle.kk_counted.specs.declared.counted.Counted.{Counted}
use Rattle.kk_counted.specs.declared.shape.InstanceShape.{InstanceShape}
use Rattle.kk_counted.specs.Int32.{AllHaveInt32}
use Rattle.kk_counted.specs.Programs.{function_of, program_of}
use Rattle.kk_counted.specs.InstancePositions.{positions_in}
use Rattle.kk_counted.specs.TokenedForms.{tokened_program}
use Rattle.kk_counted.specs.declared.tokened.Tokened.{Tokened}
use Rattle.kk_insert.specs.Insertion.{inserted}
use Rattle.kk_insert.specs.Shapes.{cells_told, cells_in, facts_of}
use Rattle.kk_dropspec.specs.Specialised.{special_function}
use Rattle.kk_fuse.specs.Fused.{fused_function}
use Rattle.kk_reuse.specs.Pairing.{paired_program}
use Rattle.kk_respec.specs.Respecialised.{respecialised_program}

-- the positions of the instances: those of the functions that they are
abbrev pub instance_positions : Ground → PositionTable → PositionTable
instance_positions given table = Instances.positions_in (instances_of given) table

-- A program is the counted form of a typed program and its instances. `table` tells the owned positions, which are the least set
-- that is closed under the rules of ownership; and `core` is a core form of the instances. The functions are those of `core`, with
-- the dups and drops that the instances' positions ask for, with each opening of a cell by the cell's count, and with each dup
-- cancelled by the next drop of its variable, where it can be. The shape tells of parameters, results and constructors what `core`
-- tells, which are the cells of their types; and how each parameter is passed.
-- The greatest number of nodes of a function, and that of all instances together, are those of the source. Numbers have 32 bits.
pub record IsCompiled (typed : Typed) (given : Ground) (made : Counted) : Type 0 where
  pub table : PositionTable
  pub least : IsLeast (program_tree typed.program) table
  pub core : Core
  pub form : IsCoreForm (ground_program given) (core_code core)
  pub functions : map function_of made.functions.items
      ≡ map fused_function (map special_function (inserted (instance_positions given table) (core_code core)).functions)
  pub positions : positions_in made.shape.instances.items ≡ instance_positions given table
  pub tells : TellsCells (ground_program given) core
  pub cells : map cells_in made.shape.instances.items ≡ map cells_told core.functions.items
  pub results : map (λ (i : InstanceShape). i.result_has_cells) made.shape.instances.items
      ≡ map (λ (f : CoreFunction). f.result_has_cells) core.functions.items
  pub constructors : map facts_of made.shape.constructors.items ≡ map facts_of core.constructors.items
  pub body_nodes : made.body_nodes ≡ greatest_nodes (program_tree typed.program)
  pub nodes : made.nodes ≡ given.summed_nodes
  pub numbers : AllHaveInt32 (map function_of made.functions.items)

-- A program with tokens is that of a counted form: a construction with fields takes the newest token that its function has left, if
-- there is one; and in the token's cell it leaves the fields that are known to be its arguments. Its shape and its two numbers of
-- nodes are the same.
pub record IsTokenedOf (counted : Counted) (made : Tokened) : Type 0 where
  pub shape : made.shape ≡ counted.shape
  pub program : (texts : List (List ℕ))
      → tokened_program made.functions.items texts
      ≡ respecialised_program (paired_program (program_of counted.functions.items texts))
  pub body_nodes : made.body_nodes ≡ counted.body_nodes
  pub nodes : made.nodes ≡ counted.nodes
