use Rattle.std.proofs.Common.{◌≡◌, None, true, sym, arith, rules}
use Rattle.rv_isa.specs.Processor.{lies_in_part}
use Rattle.rv_sim.specs.declared.area.Access.TheVariants.{Inspect}
use Rattle.rv_sim.specs.Areas.{parts_of_areas}
use Rattle.rv_sim.proofs.AreaBytes.{number_at-area, where_true}
use Rattle.rv_sim.proofs.memory.Memory.word.Goals as goal

pub returns : goal.returns
returns c =
    let found : true ≡ lies_in_part (parts_of_areas c.self.inside.areas.items) c.args.at 4 = search rules in
    rw (← c.self.view_is)
    (where_true _ _ _ None (sym found)
    (number_at-area Inspect c.self.inside.areas.items c.in_ok-place.place c.index.result.now c.args.at 4 _ _ c.self.invariant (search rules) c.index.ensures (omega arith) (search rules) c.slice.ensures c.number.ensures.value))
