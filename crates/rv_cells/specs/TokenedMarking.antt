-- The marks behind the steps of code with tokens, and the slots that they name.
use Rattle.std.specs.Prelude.{ℕ, suc, Bool, true, List, [], ◌∷◌, max}
use Rattle.kk_counted.specs.BareForms.{bare}
use Rattle.kk_counted.specs.Lowerable.{given_by}
use Rattle.kk_counted.specs.Marks.{CellMarks, field_marks}
use Rattle.kk_counted.specs.TokenLowerable.{slots_of, slots_in}
use Rattle.kk_counted.specs.TokenedForms.{TokenedMove}
use Rattle.rv_cells.specs.Marking.{marked, all_marked, mark_given, mark_of_form, marks_behind}

-- ---- marks

module _ (table : CellMarks) where
  -- The marks behind a step, and behind steps. A construction in a token's cell has fields, so its variable is marked.
  abbrev pub marks_behind_step : TokenedMove → List Bool → List Bool
  marks_behind_step (TokenedMove.computes x form arguments others) marks = marked x (mark_of_form table form arguments) marks
  marks_behind_step (TokenedMove.runs x block) marks =
      marked x (mark_given (given_by (bare block)) (marks_behind table (bare block) marks)) (marks_behind table (bare block) marks)
  marks_behind_step (TokenedMove.reads x c fields) marks = all_marked fields (field_marks table c) marks
  marks_behind_step (TokenedMove.opens x c fields used y) marks = all_marked fields (field_marks table c) marks
  marks_behind_step (TokenedMove.opens_unique x c fields used y) marks = all_marked fields (field_marks table c) marks
  marks_behind_step (TokenedMove.dups x) marks = marks
  marks_behind_step (TokenedMove.drops x) marks = marks
  marks_behind_step (TokenedMove.fills x y c first arguments kept others) marks = marked x true marks
  marks_behind_step (TokenedMove.frees y) marks = marks
  marks_behind_step (TokenedMove.nulls y) marks = marks
  marks_behind_step (TokenedMove.moves to of) marks = marks
  marks_behind_step (TokenedMove.holds y) marks = marks
  marks_behind_step (TokenedMove.unholds y) marks = marks

  abbrev pub marks_behind_steps : List TokenedMove → List Bool → List Bool
  marks_behind_steps [] marks = marks
  marks_behind_steps (move ∷ moves) marks = marks_behind_steps moves (marks_behind_step move marks)

-- ---- slots

-- how many slots a step has, and steps: one more than the greatest that they name
abbrev pub slots_of_step : TokenedMove → ℕ
slots_of_step (TokenedMove.computes x form arguments others) = slots_of others
slots_of_step (TokenedMove.runs x block) = slots_in block
slots_of_step (TokenedMove.reads x c fields) = 0
slots_of_step (TokenedMove.opens x c fields used y) = suc y
slots_of_step (TokenedMove.opens_unique x c fields used y) = suc y
slots_of_step (TokenedMove.dups x) = 0
slots_of_step (TokenedMove.drops x) = 0
slots_of_step (TokenedMove.fills x y c first arguments kept others) = max (suc y) (slots_of others)
slots_of_step (TokenedMove.frees y) = suc y
slots_of_step (TokenedMove.nulls y) = suc y
slots_of_step (TokenedMove.moves to of) = max (suc to) (suc of)
slots_of_step (TokenedMove.holds y) = suc y
slots_of_step (TokenedMove.unholds y) = suc y

abbrev pub slots_of_steps : List TokenedMove → ℕ
slots_of_steps [] = 0
slots_of_steps (move ∷ moves) = max (slots_of_step move) (slots_of_steps moves)
