use Rattle.std.proofs.Common.{true, false, map, refl, sym, ap, ◌∙◌}
use Rattle.kk_counted.specs.BareForms.{bare}
use Rattle.kk_counted.specs.TokenedForms.{tokened_last_code, tokened_move}
use Rattle.rv_cells.specs.ComparisonBranch.{names, steps_name}
use Rattle.rv_cells.proofs.UnnamedVariables.{block_named}
use Rattle.rv_cells.proofs.compare.+names.Goals as goal

pub block_names-returns-then-steps_name : goal.block_names-returns-then-steps_name
block_names-returns-then-steps_name t c =
    block_named c.args.block.now c.args.variable true (names c.args.variable (bare (tokened_last_code c.args.block.now.last)))
    (sym c.if-steps_name.true ∙ c.steps_name.ensures
    ∙ ap (λ steps. steps_name c.args.variable (map tokened_move steps)) c.deref.ensures.value)
    refl

pub block_names-returns : goal.block_names-returns
block_names-returns t c =
    block_named c.args.block.now c.args.variable false c.last_names.result
    (sym c.if-steps_name.false ∙ c.steps_name.ensures
    ∙ ap (λ steps. steps_name c.args.variable (map tokened_move steps)) c.deref.ensures.value)
    c.last_names.ensures
