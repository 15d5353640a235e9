-- Places in the code of a program, and the forms whose lines and addresses are told apart: calls, prints, and constructions with
-- fields.
use Rattle.std.specs.Prelude.{◌≡◌, ℕ, zero, suc, Bool, true, false, List, [], ◌∷◌, Option, Some, None, slice_get}
use Rattle.kk_source.specs.Matching.{and_then}
use Rattle.kk_syntax.specs.declared.program.Form.TheVariants.{PrintText, Print, Construct, Call}
use Rattle.kk_counted.specs.CountedCodes.{Counted, tail_call, case, compute, inside, read, open_cell, if_unique, dup, drop, CountedFunction, CountedProgram}
use Rattle.kk_counted.specs.CountedMachine.{arm_at}

-- The parts of a code by their numbers: the arms of a case, a block and what comes behind it, and what comes
-- behind any other form.
abbrev pub part_of : Counted → ℕ → Option Counted
part_of (case x decisions arms) row = arm_at arms row
part_of (compute x form arguments rest) zero = Some rest
part_of (inside x block rest) zero = Some block
part_of (inside x block rest) (suc zero) = Some rest
part_of (read x c fields rest) zero = Some rest
part_of (open_cell x c fields used rest) zero = Some rest
part_of (if_unique x c fields used rest) zero = Some rest
part_of (dup x rest) zero = Some rest
part_of (drop x rest) zero = Some rest
part_of _ _ = None

-- the code at the end of a way into a code, which tells the number of a part at each form
abbrev pub code_at : Counted → List ℕ → Option Counted
code_at code [] = Some code
code_at code (part ∷ way) = and_then (part_of code part) (λ inner. code_at inner way)

-- a call, a print, or a construction with fields
abbrev pub is_act : Counted → Bool
is_act (tail_call f arguments) = true
is_act (compute x (Call f) arguments rest) = true
is_act (compute x (Print how) arguments rest) = true
is_act (compute x (PrintText how text) arguments rest) = true
is_act (compute x (Construct c) (first ∷ arguments) rest) = true
is_act _ = false

-- such a form stands at the end of a way into the body of a function
pub record IsActAt (program : CountedProgram) (f : ℕ) (way : List ℕ) (code : Counted) : Type 0 where
  pub function : CountedFunction
  pub function_is : slice_get program.functions f ≡ Some function
  pub code_is : code_at function.body way ≡ Some code
  pub acts : is_act code ≡ true
