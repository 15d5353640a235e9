use Rattle.std.proofs.Common.{◌≡◌, ◌<◌, None, true, sym, arith, rules}
use Rattle.rv_isa.specs.Processor.{can_load}
use Rattle.rv_sim.specs.declared.area.Access.TheVariants.{Load}
use Rattle.rv_sim.specs.Areas.{parts_of_areas}
use Rattle.rv_sim.proofs.AreaBytes.{number_at-area, where_true}
use Rattle.rv_sim.proofs.memory.Memory.load.Goals as goal

pub returns-clause-number : goal.returns-clause-number
returns-clause-number c =
    let found : true ≡ can_load (parts_of_areas c.self.inside.areas.items) c.args.at c.args.width = search rules in
    let some : 0 < c.args.width = grind arith in
    rw (← c.self.view_is)
    (where_true _ _ _ None (sym found)
    (number_at-area Load c.self.inside.areas.items c.in_ok-place.place c.index.result.now c.args.at c.args.width _ _ c.self.invariant (search rules) c.index.ensures some (search rules) (search rules) c.number.ensures.value))
