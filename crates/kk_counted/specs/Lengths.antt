-- How long counted code is, at most, once it is in an image.
use Rattle.std.specs.Prelude.{◌≤◌, ℕ, suc, ◌+◌, ◌*◌, List, [], ◌∷◌}
use Rattle.kk_core.specs.CaseLengths.{tests_length, most_cases_length}
pub use Rattle.kk_core.specs.CodeNodes.{reference_length}
use Rattle.kk_core.specs.Sizes.{most_variables, most_instances, most_program_forms}
use Rattle.kk_counted.specs.CountedCodes.{Counted, give, tail_call, case, compute, inside, read, open_cell, if_unique, dup, drop, CountedArms, no_arm, arm, CountedFunction}

-- the most instructions of a form but for the tests of a case; a reference more, or one that is given up, has `reference_length`
abbrev pub form_length : ℕ
form_length = 200

abbrev mutual
  pub code_length : Counted → ℕ
  code_length (give x) = form_length
  code_length (tail_call f arguments) = form_length
  code_length (case x decisions arms) = form_length + tests_length decisions + arms_length arms
  code_length (compute x form arguments rest) = form_length + code_length rest
  code_length (inside x block rest) = form_length + code_length block + code_length rest
  code_length (read x c fields rest) = form_length + code_length rest
  code_length (open_cell x c fields used rest) = form_length + code_length rest
  code_length (if_unique x c fields used rest) = form_length + code_length rest
  code_length (dup x rest) = reference_length + code_length rest
  code_length (drop x rest) = reference_length + code_length rest

  pub arms_length : CountedArms → ℕ
  arms_length no_arm = 0
  arms_length (arm body rest) = code_length body + arms_length rest

-- of all functions, with the start of each
abbrev pub functions_length : List CountedFunction → ℕ
functions_length [] = 0
functions_length (function ∷ functions) = form_length + code_length function.body + functions_length functions

-- how many forms on values a code has: each has at most one string
abbrev mutual
  pub computes : Counted → ℕ
  computes (give x) = 0
  computes (tail_call f arguments) = 0
  computes (case x decisions arms) = arms_computes arms
  computes (compute x form arguments rest) = suc (computes rest)
  computes (inside x block rest) = computes block + computes rest
  computes (read x c fields rest) = computes rest
  computes (open_cell x c fields used rest) = computes rest
  computes (if_unique x c fields used rest) = computes rest
  computes (dup x rest) = computes rest
  computes (drop x rest) = computes rest

  pub arms_computes : CountedArms → ℕ
  arms_computes no_arm = 0
  arms_computes (arm body rest) = computes body + arms_computes rest

abbrev pub all_computes : List CountedFunction → ℕ
all_computes [] = 0
all_computes (function ∷ functions) = computes function.body + all_computes functions

-- how many forms a code has beside its dups and drops
abbrev mutual
  pub forms_in : Counted → ℕ
  forms_in (give x) = 1
  forms_in (tail_call f arguments) = 1
  forms_in (case x decisions arms) = suc (arms_forms arms)
  forms_in (compute x form arguments rest) = suc (forms_in rest)
  forms_in (inside x block rest) = suc (forms_in block + forms_in rest)
  forms_in (read x c fields rest) = suc (forms_in rest)
  forms_in (open_cell x c fields used rest) = suc (forms_in rest)
  forms_in (if_unique x c fields used rest) = suc (forms_in rest)
  forms_in (dup x rest) = forms_in rest
  forms_in (drop x rest) = forms_in rest

  pub arms_forms : CountedArms → ℕ
  arms_forms no_arm = 0
  arms_forms (arm body rest) = forms_in body + arms_forms rest

abbrev pub all_forms_in : List CountedFunction → ℕ
all_forms_in [] = 0
all_forms_in (function ∷ functions) = forms_in function.body + all_forms_in functions

-- The most that the limits make of it: no form of the core form has more dups and drops put before and behind it than there are
-- variables, and some for its arguments.
abbrev pub most_references : ℕ
most_references = most_variables + 24

abbrev pub most_length : ℕ
most_length =
    most_cases_length + (form_length + reference_length * most_references) * most_program_forms + form_length * most_instances

-- the functions of a program within the limits
pub record AreShort (functions : List CountedFunction) : Type 0 where
  pub length : functions_length functions ≤ most_length
  pub computes : all_computes functions ≤ most_program_forms
  pub forms : all_forms_in functions ≤ most_program_forms
