use Rattle.std.proofs.Common.{◌≡◌, ◌++◌, List, map, OnOk, ap, sym, ◌∙◌, subst}
use Rattle.kk_syntax.specs.Trees.{expr_tree, statement_tree}
use Rattle.kk_syntax.proofs.Views.{block_tree}
use Rattle.kk_borrow.specs.Rules.{RuleTree, rule_trees}
use Rattle.kk_borrow.specs.Demands.{tail_rules}
use Rattle.kk_borrow.proofs.Blocks.{tail_block}
use Rattle.kk_borrow.proofs.tail_call.+tails.Goals as goal

pub read_tails-returns-in-Block-clause-rules : goal.read_tails-returns-in-Block-clause-rules
read_tails-returns-in-Block-clause-rules t c =
    let f = c.args.function in
    let scope = c.args.scope.now.bindings.items in
    let last = c.in-Block.value.value in
    let whole : tail_rules f scope (expr_tree c.args.expr.now) ≡ tail_rules f scope (expr_tree last) =
    ap (λ e. tail_rules f scope (expr_tree e)) c.in-Block.is
    ∙ (ap (tail_rules f scope) (block_tree c.in-Block.field-0 c.in-Block.value) ∙ tail_block f scope (map statement_tree c.in-Block.field-0.items) (expr_tree last)) in
    let value = rw c.deref-in-Block.ensures at c.read_tails-in-Block.ensures.rules in
    subst (λ (xs : List RuleTree). OnOk c.read_tails-in-Block.result (rule_trees c.read_tails-in-Block.new.rules.items ≡ rule_trees c.args.rules.now.items ++ xs)) (sym whole) value
