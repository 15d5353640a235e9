use Rattle.std.proofs.Common.{ap, sym, ◌∙◌, ◌<◌, ◌≤◌, length, arith}
use Rattle.kk_counted.specs.VariableLists.{minus}
use Rattle.kk_emitter.proofs.ChosenPlaces.{minus_here, minus_none}
use Rattle.kk_emitter.proofs.lists.take_out.Goals as goal

pub returns-then-index-variable-clause-items : goal.returns-then-index-variable-clause-items
returns-then-index-variable-clause-items c =
    let xs = c.loop-at.owed.items in
    let less : c.loop-at.at < length xs = omega (arith, c.loop-at.owed.ok.0, ap length c.loop-at.invariant.1) in
    c.remove.ensures.items
    ∙ (minus_here c.args.variable xs c.loop-at.at c.index.result.now less (sym c.index.ensures ∙ c.if-index-variable.true) c.loop-at.invariant.0
    ∙ ap (minus c.args.variable) c.loop-at.invariant.1)

pub returns-clause-items : goal.returns-clause-items
returns-clause-items c =
    let xs = c.loop-at.owed.items in
    let past : length xs ≤ c.loop-at.at = omega (arith, c.loop-at.owed.ok.0, ap length c.loop-at.invariant.1) in
    minus_none c.args.variable xs c.loop-at.at past c.loop-at.invariant.0 ∙ ap (minus c.args.variable) c.loop-at.invariant.1
