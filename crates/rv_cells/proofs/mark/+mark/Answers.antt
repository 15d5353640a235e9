use Rattle.std.proofs.Common.{map, sym, ap, ◌∙◌}
use Rattle.std.proofs.lemmas.Result.{on_ok_weaker}
use Rattle.kk_counted.proofs.TokenedViews.{tokened_block_is}
use Rattle.kk_counted.specs.BareForms.{bare}
use Rattle.kk_counted.specs.TokenedForms.{tokened_last_code, tokened_move}
use Rattle.rv_cells.specs.Marking.{marks_behind}
use Rattle.rv_cells.specs.Tables.{table_of}
use Rattle.rv_cells.specs.TokenedMarking.{marks_behind_steps}
use Rattle.rv_cells.proofs.TokenMarks.{plug_bare_marks}
use Rattle.rv_cells.proofs.mark.+mark.Goals as goal

pub mark_block-returns : goal.mark_block-returns
mark_block-returns t c =
    on_ok_weaker c.mark_last.result
    (λ is. is ∙ ap (λ marks. marks_behind (table_of c.args.shape.now) (bare (tokened_last_code c.args.block.now.last)) marks)
    (c.in_ok-mark_steps.ensures ∙ ap (λ steps. marks_behind_steps (table_of c.args.shape.now) (map tokened_move steps)
    c.args.marks.now.items) c.deref.ensures.value)
    ∙ sym (plug_bare_marks (table_of c.args.shape.now) (map tokened_move c.args.block.now.steps.items)
    (tokened_last_code c.args.block.now.last) c.args.marks.now.items)
    ∙ ap (λ code. marks_behind (table_of c.args.shape.now) (bare code) c.args.marks.now.items)
    (sym (tokened_block_is c.args.block.now)))
    c.mark_last.ensures
