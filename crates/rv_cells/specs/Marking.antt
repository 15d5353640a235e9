-- The marks of a function's variables, as its binders are met: a list by the variable's number. Behind the last a variable has
-- none.
use Rattle.std.specs.Prelude.{ℕ, zero, suc, Bool, false, List, [], ◌∷◌, Option, Some, None, slice_index_or}
use Rattle.kk_syntax.specs.declared.program.Form.{Form}
use Rattle.kk_syntax.specs.declared.program.Form.TheVariants.{Construct, Call}
use Rattle.kk_counted.specs.CountedCodes.{
  Counted,
  give,
  tail_call,
  case,
  compute,
  inside,
  read,
  open_cell,
  if_unique,
  dup,
  drop,
  CountedArms,
  no_arm,
  arm,
  CountedFunction,
}
use Rattle.kk_counted.specs.Lowerable.{given_by}
use Rattle.kk_counted.specs.Marks.{CellMarks, parameter_marks, result_mark, field_marks, made_mark}

-- by a variable's number, whether its type has cells: behind the last mark it has none
abbrev pub holds_in : List Bool → ℕ → Bool
holds_in marks x = slice_index_or marks x false

-- one variable gets a mark
abbrev pub marked : ℕ → Bool → List Bool → List Bool
marked zero mark [] = mark ∷ []
marked zero mark (old ∷ marks) = mark ∷ marks
marked (suc x) mark [] = false ∷ marked x mark []
marked (suc x) mark (old ∷ marks) = old ∷ marked x mark marks

-- variables get marks, one after the other
abbrev pub all_marked : List ℕ → List Bool → List Bool → List Bool
all_marked [] each marks = marks
all_marked (x ∷ xs) [] marks = marks
all_marked (x ∷ xs) (mark ∷ each) marks = all_marked xs each (marked x mark marks)

abbrev pub mark_given : Option ℕ → List Bool → Bool
mark_given None marks = false
mark_given (Some x) marks = holds_in marks x

module _ (table : CellMarks) where
  -- the mark of the value of a form
  abbrev pub mark_of_form : Form → List ℕ → Bool
  mark_of_form (Construct c) arguments = made_mark table c arguments
  mark_of_form (Call f) arguments = result_mark table f
  mark_of_form _ arguments = false

  -- the marks behind a code
  abbrev mutual
    pub marks_behind : Counted → List Bool → List Bool
    marks_behind (give x) marks = marks
    marks_behind (tail_call f arguments) marks = marks
    marks_behind (case x decisions arms) marks = marks_behind_arms arms marks
    marks_behind (compute x form arguments rest) marks = marks_behind rest (marked x (mark_of_form form arguments) marks)
    marks_behind (inside x block rest) marks =
        marks_behind rest (marked x (mark_given (given_by block) (marks_behind block marks)) (marks_behind block marks))
    marks_behind (read x c fields rest) marks = marks_behind rest (all_marked fields (field_marks table c) marks)
    marks_behind (open_cell x c fields used rest) marks = marks_behind rest (all_marked fields (field_marks table c) marks)
    marks_behind (if_unique x c fields used rest) marks = marks_behind rest (all_marked fields (field_marks table c) marks)
    marks_behind (dup x rest) marks = marks_behind rest marks
    marks_behind (drop x rest) marks = marks_behind rest marks

    pub marks_behind_arms : CountedArms → List Bool → List Bool
    marks_behind_arms no_arm marks = marks
    marks_behind_arms (arm body rest) marks = marks_behind_arms rest (marks_behind body marks)

  -- the marks of all variables of a function by its number
  abbrev pub function_marks : ℕ → CountedFunction → List Bool
  function_marks f function = marks_behind function.body (parameter_marks table f)
