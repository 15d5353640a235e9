use Rattle.std.proofs.Common.{[], cond, map, ap, sym, ◌∙◌}
use Rattle.kk_syntax.specs.Trees.{expr_tree, statement_tree}
use Rattle.kk_syntax.proofs.Views.{block_tree}
use Rattle.kk_borrow.specs.Demands.{origins_in}
use Rattle.kk_syntax.proofs.OwnedPlaces.{none_map, none_by}
use Rattle.kk_borrow.proofs.Blocks.{origins_block}
use Rattle.kk_borrow.proofs.tail_call.+origins_in.Goals as goal

pub returns-else-is_empty : goal.returns-else-is_empty
returns-else-is_empty t c =
    let scope = c.args.scope.now.bindings.items in
    let statements = c.in-Block.statements in
    let last = expr_tree c.in-Block.value.value in
    let none = none_map statement_tree statements.items ∙ none_by statements.items statements.len c.is_empty.result statements.ok.0 c.is_empty.ensures in
    c.new.ensures.items
    ∙ sym (ap (λ e. origins_in scope (expr_tree e)) c.in-Block.is
    ∙ (ap (origins_in scope) (block_tree statements c.in-Block.value)
    ∙ (origins_block scope (map statement_tree statements.items) last ∙ ap (λ b. cond b (origins_in scope last) []) (none ∙ c.if-is_empty.false))))
