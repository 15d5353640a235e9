-- How long code with tokens is, at most, once it is in an image: as Lengths for counted code.
use Rattle.std.specs.Prelude.{◌≤◌, ℕ, suc, ◌+◌, ◌*◌, List, [], ◌∷◌, length}
use Rattle.kk_core.specs.CaseLengths.{tests_length}
use Rattle.kk_core.specs.Sizes.{most_program_forms}
use Rattle.kk_counted.specs.Lengths.{form_length, reference_length, most_length}
use Rattle.kk_counted.specs.TokenLowerable.{most_slots}
use Rattle.kk_counted.specs.TokenedCodes.{Tokened, TokenedArms, TokenedFunction}

-- the most instructions for a token that is held, taken back, freed, made null, and moved
abbrev pub hold_length : ℕ
hold_length = 7

abbrev pub unhold_length : ℕ
unhold_length = 4

abbrev pub free_length : ℕ
free_length = 5

abbrev pub null_length : ℕ
null_length = 3

abbrev pub move_length : ℕ
move_length = 4

-- of a token that a construction names beside its own: it is held and taken back
abbrev pub other_length : ℕ
other_length = hold_length + unhold_length

abbrev mutual
  pub tokened_length : Tokened → ℕ
  tokened_length (Tokened.give x) = form_length
  tokened_length (Tokened.tail_call f arguments) = form_length
  tokened_length (Tokened.case x decisions arms) = form_length + tests_length decisions + tokened_arms_length arms
  tokened_length (Tokened.compute x form arguments others rest) =
      form_length + other_length * length others + tokened_length rest
  tokened_length (Tokened.inside x block rest) = form_length + tokened_length block + tokened_length rest
  tokened_length (Tokened.read x c fields rest) = form_length + tokened_length rest
  tokened_length (Tokened.open_cell x c fields used y rest) = form_length + tokened_length rest
  tokened_length (Tokened.if_unique x c fields used y rest) = form_length + tokened_length rest
  tokened_length (Tokened.dup x rest) = reference_length + tokened_length rest
  tokened_length (Tokened.drop x rest) = reference_length + tokened_length rest
  tokened_length (Tokened.fill x y c first arguments kept others rest) =
      form_length + other_length * length others + tokened_length rest
  tokened_length (Tokened.free y rest) = free_length + tokened_length rest
  tokened_length (Tokened.null y rest) = null_length + tokened_length rest
  tokened_length (Tokened.move to of rest) = move_length + tokened_length rest
  tokened_length (Tokened.hold y rest) = hold_length + tokened_length rest
  tokened_length (Tokened.unhold y rest) = unhold_length + tokened_length rest
  tokened_length (Tokened.if_token y there absent) = form_length + tokened_length there + tokened_length absent

  pub tokened_arms_length : TokenedArms → ℕ
  tokened_arms_length TokenedArms.no_arm = 0
  tokened_arms_length (TokenedArms.arm body rest) = tokened_length body + tokened_arms_length rest

-- of all functions, with the start of each
abbrev pub tokened_functions_length : List TokenedFunction → ℕ
tokened_functions_length [] = 0
tokened_functions_length (function ∷ functions) =
    form_length + tokened_length function.body + tokened_functions_length functions

-- how many forms on values a code has: each has at most one string
abbrev mutual
  pub tokened_computes : Tokened → ℕ
  tokened_computes (Tokened.give x) = 0
  tokened_computes (Tokened.tail_call f arguments) = 0
  tokened_computes (Tokened.case x decisions arms) = tokened_arms_computes arms
  tokened_computes (Tokened.compute x form arguments others rest) = suc (tokened_computes rest)
  tokened_computes (Tokened.inside x block rest) = tokened_computes block + tokened_computes rest
  tokened_computes (Tokened.read x c fields rest) = tokened_computes rest
  tokened_computes (Tokened.open_cell x c fields used y rest) = tokened_computes rest
  tokened_computes (Tokened.if_unique x c fields used y rest) = tokened_computes rest
  tokened_computes (Tokened.dup x rest) = tokened_computes rest
  tokened_computes (Tokened.drop x rest) = tokened_computes rest
  tokened_computes (Tokened.fill x y c first arguments kept others rest) = tokened_computes rest
  tokened_computes (Tokened.free y rest) = tokened_computes rest
  tokened_computes (Tokened.null y rest) = tokened_computes rest
  tokened_computes (Tokened.move to of rest) = tokened_computes rest
  tokened_computes (Tokened.hold y rest) = tokened_computes rest
  tokened_computes (Tokened.unhold y rest) = tokened_computes rest
  tokened_computes (Tokened.if_token y there absent) = tokened_computes there + tokened_computes absent

  pub tokened_arms_computes : TokenedArms → ℕ
  tokened_arms_computes TokenedArms.no_arm = 0
  tokened_arms_computes (TokenedArms.arm body rest) = tokened_computes body + tokened_arms_computes rest

abbrev pub all_tokened_computes : List TokenedFunction → ℕ
all_tokened_computes [] = 0
all_tokened_computes (function ∷ functions) = tokened_computes function.body + all_tokened_computes functions

-- The most that tokens add: at no form but a dup and a drop more than it takes to hold each slot of its function and to take it
-- back.
abbrev pub most_tokened_length : ℕ
most_tokened_length = most_length + other_length * most_slots * most_program_forms

-- the functions of a program with tokens within the limits
pub record AreTokensShort (functions : List TokenedFunction) : Type 0 where
  pub length : tokened_functions_length functions ≤ most_tokened_length
  pub computes : all_tokened_computes functions ≤ most_program_forms
