use Rattle.std.proofs.Common.{sym, ◌∙◌, rules}
use Rattle.rv_sim.specs.declared.area.Access.TheVariants.{Load}
use Rattle.rv_sim.proofs.AreaBytes.{bytes_at-area, covered}
use Rattle.rv_sim.proofs.memory.Memory.bytes.Goals as goal

pub returns-in-Some : goal.returns-in-Some
returns-in-Some c =
    rw (← c.self.view_is)
    (c.slice.ensures
    ∙ sym (bytes_at-area c.self.inside.areas.items c.in-Some.place c.index.result.now c.args.at c.args.count c.self.invariant (search rules) c.index.ensures c.requires.some
    (covered Load c.args.at c.args.count c.index.result.now (search rules))))
