use Rattle.std.proofs.Common.{◌≡◌, None, true, sym, arith, rules}
use Rattle.rv_isa.specs.Processor.{can_fetch}
use Rattle.rv_sim.specs.declared.area.Access.TheVariants.{Fetch}
use Rattle.rv_sim.specs.Areas.{parts_of_areas}
use Rattle.rv_sim.proofs.AreaBytes.{number_at-area, where_true}
use Rattle.rv_sim.proofs.memory.Memory.fetch.Goals as goal

pub returns-clause-word : goal.returns-clause-word
returns-clause-word c =
    let found : true ≡ can_fetch (parts_of_areas c.self.inside.areas.items) c.args.at 4 = search rules in
    rw (← c.self.view_is)
    (where_true _ _ _ None (sym found)
    (number_at-area Fetch c.self.inside.areas.items c.in_ok-place.place c.index.result.now c.args.at 4 _ _ c.self.invariant (search rules) c.index.ensures (omega arith) (search rules) c.slice.ensures c.number.ensures.value))
