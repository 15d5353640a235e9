-- Code within the limits has few forms.
use Rattle.std.proofs.Common.{◌≡◌, ℕ, zero, suc, ◌≤◌, List, [], ◌∷◌, Some, arith, ap}
use Rattle.std.specs.Prelude.{slice_get}
use Rattle.kk_counted.specs.CountedCodes.{Counted, give, tail_call, case, compute, inside, read, open_cell, if_unique, dup, drop, CountedArms, no_arm, arm, CountedFunction, CountedProgram}
use Rattle.kk_counted.specs.Lengths.{code_length, arms_length, functions_length, most_length, AreShort}
use Rattle.kk_fuse.specs.FusedRuns.{steps_in, steps_in_arms, HasFewSteps}

-- each form has an instruction
mutual
  code_steps : (code : Counted) → steps_in code ≤ code_length code
  code_steps (give x) = omega arith
  code_steps (tail_call f arguments) = omega arith
  code_steps (case x decisions arms) = omega (arith, arms_steps arms)
  code_steps (compute x form arguments rest) = omega (arith, code_steps rest)
  code_steps (inside x block rest) = omega (arith, code_steps block, code_steps rest)
  code_steps (read x c fields rest) = omega (arith, code_steps rest)
  code_steps (open_cell x c fields used rest) = omega (arith, code_steps rest)
  code_steps (if_unique x c fields used rest) = omega (arith, code_steps rest)
  code_steps (dup x rest) = omega (arith, code_steps rest)
  code_steps (drop x rest) = omega (arith, code_steps rest)

  arms_steps : (arms : CountedArms) → steps_in_arms arms ≤ arms_length arms
  arms_steps no_arm = omega arith
  arms_steps (arm body rest) = omega (arith, code_steps body, arms_steps rest)

-- a function is no longer than all of them
function_steps : (functions : List CountedFunction) (f : ℕ) (function : CountedFunction) → slice_get functions f ≡ Some function
    → steps_in function.body ≤ functions_length functions
function_steps [] f function is = absurd (cc)
function_steps (first ∷ functions) zero function is =
    let same : first ≡ function = cc in
    omega (arith, code_steps first.body, ap (λ (function : CountedFunction). steps_in function.body) same)
function_steps (first ∷ functions) (suc f) function is = omega (arith, function_steps functions f function is)

pub few_steps : (program : CountedProgram) → AreShort program.functions → HasFewSteps most_length program
few_steps program short f function is = omega (arith, function_steps program.functions f function is, short.length)
