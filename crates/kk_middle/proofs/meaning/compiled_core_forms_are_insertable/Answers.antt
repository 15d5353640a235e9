use Rattle.kk_syntax.specs.declared.ground.Ground.{Ground}
use Rattle.kk_syntax.specs.declared.typed.Typed.{Typed}
use Rattle.kk_syntax.specs.Checked.{IsChecked}
use Rattle.kk_syntax.specs.GroundPrograms.{ground_program}
use Rattle.kk_syntax.specs.GroundTyping.{table_of, IsGroundTyped}
use Rattle.kk_syntax.specs.PositionsOf.{PositionTable}
use Rattle.kk_syntax.specs.Programs.{program_tree}
use Rattle.kk_syntax.specs.TypedPrograms.{typings_of}
use Rattle.kk_mono.specs.Grounds.{instances_of, AreGiven}
use Rattle.kk_core.specs.Codes.{core_code}
use Rattle.kk_insert.specs.Promise.{TailsLendOn}
use Rattle.kk_middle.specs.Compiled.{instance_positions}
use Rattle.kk_instances.proofs.Meaning.{typed as ground_typed}
use Rattle.kk_norm.proofs.Within.{instances_are_within}
use Rattle.kk_middle.proofs.meaning.compiled_core_forms_are_insertable.Goals as goal

ground_is_typed : (typed : Typed) (given : Ground) → IsChecked (program_tree typed.program) (typings_of typed)
    → AreGiven typed given → IsGroundTyped (ground_program given)
ground_is_typed typed given checked are =
    ground_typed (program_tree typed.program) (ground_program given) (typings_of typed) (instances_of given) are.instances checked

pub returns : goal.returns
returns c = record {
  typed = λ typed given made checked are compiled.
      c.core_forms_of_typed_programs_are_typed.ensures (ground_program given) (core_code compiled.core)
      (ground_is_typed typed given checked are) compiled.form;
  insertable = λ typed given made checked are compiled keeps.
      let own : PositionTable = instance_positions given compiled.table in
      let closed = c.owned_positions_of_instances_are_closed.ensures in
      let lends : TailsLendOn own (core_code compiled.core)
      = c.tail_calls_of_core_forms_lend_on.ensures (ground_program given) (core_code compiled.core) own compiled.form
      (closed.told (program_tree typed.program) (ground_program given) (typings_of typed) (instances_of given) compiled.table
      are.instances compiled.least.told)
      (closed.closed (program_tree typed.program) (ground_program given) (typings_of typed) (instances_of given) compiled.table
      are.instances compiled.least.told compiled.least.closed.tail_calls)
      (closed.keeps (program_tree typed.program) (ground_program given) (typings_of typed) (instances_of given) compiled.table
      are.instances compiled.least.told keeps) in
      c.typed_code_is_insertable.ensures own (table_of (ground_program given)) (core_code compiled.core)
      (c.core_forms_of_typed_programs_are_typed.ensures (ground_program given) (core_code compiled.core)
      (ground_is_typed typed given checked are) compiled.form)
      (c.core_forms_are_small.ensures (ground_program given) (core_code compiled.core) compiled.form (instances_are_within given))
      lends;
}
