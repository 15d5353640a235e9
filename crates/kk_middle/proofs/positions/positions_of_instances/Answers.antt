use Rattle.std.proofs.Common.{[], map, sym, ap, ◌∙◌}
use Rattle.std.specs.Prelude.{slice_index_or}
use Rattle.std.proofs.lemmas.List.{take_all}
use Rattle.kk_syntax.specs.declared.ground.Instance.{Instance}
use Rattle.kk_syntax.specs.GroundPrograms.{ground_types}
use Rattle.kk_syntax.specs.PositionsOf.{positions_of}
use Rattle.kk_middle.proofs.Rows.{positions_viewed}
use Rattle.kk_middle.proofs.positions.positions_of_instances.Goals as goal

pub returns : goal.returns
returns c =
    c.loop-instance.invariant
    ∙ ap (map (λ (i : Instance). slice_index_or (positions_of c.args.positions.now) i.function []))
    (take_all c.loop-instance.instance-index c.deref-instance-items.result.now c.loop-instance-test.false ∙ c.deref-instance-items.ensures.value)
    ∙ sym (positions_viewed (ground_types c.args.given.now.types.items) (positions_of c.args.positions.now) c.args.given.now.instances.items)
