use Rattle.std.proofs.Common.{map, sym, ap, ◌∙◌}
use Rattle.kk_counted.proofs.TokenedViews.{tokened_block_is}
use Rattle.kk_counted.specs.BareForms.{bare}
use Rattle.kk_counted.specs.Lowerable.{given_by}
use Rattle.kk_counted.specs.TokenedForms.{tokened_last_code, tokened_move}
use Rattle.rv_cells.proofs.TokenMarks.{plug_bare_given}
use Rattle.rv_cells.proofs.mark.+given.Goals as goal

pub given-returns : goal.given-returns
given-returns t c =
    c.given_at.ensures
    ∙ sym (plug_bare_given (map tokened_move c.args.block.now.steps.items) (tokened_last_code c.args.block.now.last))
    ∙ ap (λ code. given_by (bare code)) (sym (tokened_block_is c.args.block.now))
