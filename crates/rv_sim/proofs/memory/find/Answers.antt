use Rattle.std.proofs.Common.{sym, ap, ◌∙◌}
use Rattle.rv_sim.specs.Areas.{allows}
use Rattle.rv_sim.proofs.AreaSearch.{finds-first, finds-place, finds-last}
use Rattle.rv_sim.proofs.memory.find.Goals as goal

pub returns-then-allows-clause-found : goal.returns-then-allows-clause-found
returns-then-allows-clause-found c =
    finds-last c.args.access c.args.areas.now c.args.at c.args.count c.args.last c.in-Some.area.now c.in-Some.ensures.lookup.3.0
    (ap (allows c.args.access c.args.at c.args.count) (sym c.in-Some.ensures.lookup.1) ∙ sym c.allows.ensures ∙ c.if-allows.true)

pub returns-clause-found : goal.returns-clause-found
returns-clause-found c =
    finds-first c.args.access c.args.areas.now c.args.at c.args.count _ c.find_first.ensures

pub returns-clause-place : goal.returns-clause-place
returns-clause-place c =
    finds-place c.args.access c.args.areas.now c.args.at c.args.count _ c.find_first.ensures
