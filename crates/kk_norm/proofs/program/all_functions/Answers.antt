use Rattle.std.proofs.Common.{arith, map}
use Rattle.std.proofs.lemmas.List.{length-map}
use Rattle.kk_syntax.specs.GroundPrograms.{ground_types, instance_tree, ground_program}
use Rattle.kk_syntax.specs.Types.{type_at}
use Rattle.kk_core.specs.Codes.{function_code}
use Rattle.kk_norm.specs.Normal.{IsFunctionWithin}
use Rattle.kk_norm.proofs.CellTables.{tell_more, tell_all}
use Rattle.kk_norm.proofs.Programs.{function_at, within_at, cores_more, cores_all}
use Rattle.kk_norm.proofs.program.all_functions.Goals as goal

pub core_function-requires-clause-rows : goal.core_function-requires-clause-rows
core_function-requires-clause-rows c =
    c.requires.rows c.loop-instance.instance-index (instance_tree (ground_types c.args.given.now.types.items) c.instance-item.result)
    (function_at c.args.given.now c.deref-instance-items.result.now c.loop-instance.instance-index c.instance-item.result c.deref-instance-items.ensures.value c.instance-item.is c.loop-instance-test.true)

pub core_function-requires-clause-few : goal.core_function-requires-clause-few
core_function-requires-clause-few c =
    let within : IsFunctionWithin (instance_tree (ground_types c.args.given.now.types.items) c.instance-item.result) =
    within_at (ground_program c.args.given.now).functions c.loop-instance.instance-index _ c.requires.small
    (function_at c.args.given.now c.deref-instance-items.result.now c.loop-instance.instance-index c.instance-item.result c.deref-instance-items.ensures.value c.instance-item.is c.loop-instance-test.true) in
    omega (arith, within.parameters, c.instance-item.result.parameters.ok.0, length-map c.instance-item.result.parameters.items (type_at (ground_types c.args.given.now.types.items)))

pub core_function-requires-clause-small : goal.core_function-requires-clause-small
core_function-requires-clause-small c =
    (within_at (ground_program c.args.given.now).functions c.loop-instance.instance-index (instance_tree (ground_types c.args.given.now.types.items) c.instance-item.result) c.requires.small
    (function_at c.args.given.now c.deref-instance-items.result.now c.loop-instance.instance-index c.instance-item.result c.deref-instance-items.ensures.value c.instance-item.is c.loop-instance-test.true)).nodes

pub loop-instance-preserved : goal.loop-instance-preserved
loop-instance-preserved c = (
  tell_more c.args.table.now c.loop-instance.cores.items c.push.new.self.items c.in_ok-core.core c.deref-instance-items.result.now
      c.loop-instance.instance-index c.instance-item.result c.in_ok-push.ensures.items c.loop-instance.invariant.0
      c.in_ok-core.ensures.parameters c.in_ok-core.ensures.result c.instance-item.is c.loop-instance-test.true,
  cores_more (ground_program c.args.given.now).constructors (instance_tree (ground_types c.args.given.now.types.items))
      c.loop-instance.cores.items c.push.new.self.items c.in_ok-core.core c.deref-instance-items.result.now
      c.loop-instance.instance-index c.instance-item.result c.in_ok-push.ensures.items c.loop-instance.invariant.1
      (c.in_ok-core.ensures.form (ground_types c.args.given.now.types.items)) c.instance-item.is c.loop-instance-test.true,
)

pub returns-clause-form : goal.returns-clause-form
returns-clause-form c =
    cores_all (ground_program c.args.given.now).constructors (instance_tree (ground_types c.args.given.now.types.items))
    (map function_code c.loop-instance.cores.items) c.deref-instance-items.result.now c.args.given.now.instances.items
    c.loop-instance.instance-index c.loop-instance.invariant.1 c.loop-instance-test.false c.deref-instance-items.ensures.value

pub returns-clause-cells : goal.returns-clause-cells
returns-clause-cells c =
    tell_all c.args.table.now c.loop-instance.cores.items c.deref-instance-items.result.now c.args.given.now.instances.items
    c.loop-instance.instance-index c.loop-instance.invariant.0 c.loop-instance-test.false c.deref-instance-items.ensures.value
