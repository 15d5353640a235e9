use Rattle.std.proofs.Common.{◌≡◌, map, drop}
use Rattle.kk_counted.specs.BareForms.{bare_arms}
use Rattle.kk_counted.specs.TokenedForms.{tokened_code, tokened_move, tokened_arms}
use Rattle.rv_cells.specs.Marking.{marks_behind_arms}
use Rattle.rv_cells.specs.Tables.{table_of}
use Rattle.rv_cells.specs.TokenedMarking.{marks_behind_steps}
use Rattle.rv_cells.proofs.mark.+mark.Given as goal

abbrev pub invariant-mark_steps-loop-step : goal.invariant-mark_steps-loop-step
invariant-mark_steps-loop-step l =
    marks_behind_steps (table_of l.shape) (map tokened_move (drop l.step-index l.steps)) l.marks.items
    ≡ marks_behind_steps (table_of l.shape) (map tokened_move l.steps) l.fn.marks.items

abbrev pub invariant-mark_arms-loop-arm : goal.invariant-mark_arms-loop-arm
invariant-mark_arms-loop-arm l =
    marks_behind_arms (table_of l.shape) (bare_arms (tokened_arms (map tokened_code (drop l.arm-index l.arms)))) l.marks.items
    ≡ marks_behind_arms (table_of l.shape) (bare_arms (tokened_arms (map tokened_code l.arms))) l.fn.marks.items
