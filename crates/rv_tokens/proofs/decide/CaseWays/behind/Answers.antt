use Rattle.std.proofs.Common.{◌≡◌, ◌∙◌, suc, ap, drop, map, arith, rules}
use Rattle.std.proofs.lemmas.Result.{IfOk-weaker}
use Rattle.kk_core.specs.Decisions.{node_tree}
use Rattle.rv_cells.specs.CountedLines.{first_label}
use Rattle.rv_tokens.proofs.WrittenLines.{later_label}
use Rattle.rv_tokens.proofs.decide.CaseWays.behind.Goals as goal

pub returns-in-Some : goal.returns-in-Some
returns-in-Some c =
    let number : c.in_ok-later.later ≡ suc c.args.node = omega (arith, c.in_ok-later.ensures) in
    IfOk-weaker c.first_label.result _ _
    (λ label is. is ∙ later_label c.args.self.now.targets.nodes c.args.self.now.targets.arms c.in_ok-later.later
    c.args.self.now.nodes.now c.in-Some.nodes.now (search rules)
    ∙ ap (λ n. first_label c.args.self.now.targets.nodes c.args.self.now.targets.arms n
    (drop n (map node_tree c.args.self.now.nodes.now))) number)
    c.first_label.ensures
