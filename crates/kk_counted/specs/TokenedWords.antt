-- How many words of an image code with tokens takes: as CodeNodes and TokenWords tell it of code without tokens.
use Rattle.std.specs.Prelude.{ℕ, ◌+◌, ◌-◌, ◌*◌, List, [], ◌∷◌, length}
use Rattle.kk_syntax.specs.declared.program.Form.{Form}
use Rattle.kk_syntax.specs.declared.program.Form.TheVariants.{Construct, PrintText}
use Rattle.kk_core.specs.CaseLengths.{tests_length}
use Rattle.kk_core.specs.CodeNodes.{form_words, reference_length, give_words, tail_call_words, argument_words, case_words, opening_words, opened_field_words}
use Rattle.kk_counted.specs.TokenLengths.{other_length, hold_length, unhold_length, free_length, null_length, move_length}
use Rattle.kk_counted.specs.TokenWords.{read_field_words}
use Rattle.kk_counted.specs.TokenedCodes.{Tokened, TokenedArms, TokenedFunction}

-- the words of an opening, but for its fields and for the token, which another form frees
abbrev pub opened_words : ℕ
opened_words = opening_words - free_length

-- the words of a test of a token
abbrev pub token_test_words : ℕ
token_test_words = 4

-- The words of each form, a string's included. A construction in the cell of a token has those of one that asks for a cell.
abbrev mutual
  pub tokened_words : Tokened → ℕ
  tokened_words (Tokened.give x) = give_words
  tokened_words (Tokened.tail_call f arguments) = tail_call_words + argument_words * length arguments
  tokened_words (Tokened.case x decisions arms) = case_words + tests_length decisions + tokened_arms_words arms
  tokened_words (Tokened.compute x form arguments others rest) =
      form_words form arguments + other_length * length others + tokened_words rest
  tokened_words (Tokened.inside x block rest) = tokened_words block + tokened_words rest
  tokened_words (Tokened.read x c fields rest) = read_field_words * length fields + tokened_words rest
  tokened_words (Tokened.open_cell x c fields used y rest) = opened_words + opened_field_words * length fields + tokened_words rest
  tokened_words (Tokened.if_unique x c fields used y rest) = opened_words + opened_field_words * length fields + tokened_words rest
  tokened_words (Tokened.dup x rest) = reference_length + tokened_words rest
  tokened_words (Tokened.drop x rest) = reference_length + tokened_words rest
  tokened_words (Tokened.fill x y c first arguments kept others rest) =
      form_words (Construct c) (first ∷ arguments) + other_length * length others + tokened_words rest
  tokened_words (Tokened.free y rest) = free_length + tokened_words rest
  tokened_words (Tokened.null y rest) = null_length + tokened_words rest
  tokened_words (Tokened.move to of rest) = move_length + tokened_words rest
  tokened_words (Tokened.hold y rest) = hold_length + tokened_words rest
  tokened_words (Tokened.unhold y rest) = unhold_length + tokened_words rest
  tokened_words (Tokened.if_token y there absent) = token_test_words + tokened_words there + tokened_words absent

  pub tokened_arms_words : TokenedArms → ℕ
  tokened_arms_words TokenedArms.no_arm = 0
  tokened_arms_words (TokenedArms.arm body rest) = tokened_words body + tokened_arms_words rest

-- how many strings a form prints, and a code: each has at most 256 bytes, its line end included
abbrev pub prints_in_form : Form → ℕ
prints_in_form (PrintText how text) = 1
prints_in_form form = 0

abbrev mutual
  pub tokened_prints : Tokened → ℕ
  tokened_prints (Tokened.give x) = 0
  tokened_prints (Tokened.tail_call f arguments) = 0
  tokened_prints (Tokened.case x decisions arms) = tokened_arms_prints arms
  tokened_prints (Tokened.compute x form arguments others rest) = prints_in_form form + tokened_prints rest
  tokened_prints (Tokened.inside x block rest) = tokened_prints block + tokened_prints rest
  tokened_prints (Tokened.read x c fields rest) = tokened_prints rest
  tokened_prints (Tokened.open_cell x c fields used y rest) = tokened_prints rest
  tokened_prints (Tokened.if_unique x c fields used y rest) = tokened_prints rest
  tokened_prints (Tokened.dup x rest) = tokened_prints rest
  tokened_prints (Tokened.drop x rest) = tokened_prints rest
  tokened_prints (Tokened.fill x y c first arguments kept others rest) = tokened_prints rest
  tokened_prints (Tokened.free y rest) = tokened_prints rest
  tokened_prints (Tokened.null y rest) = tokened_prints rest
  tokened_prints (Tokened.move to of rest) = tokened_prints rest
  tokened_prints (Tokened.hold y rest) = tokened_prints rest
  tokened_prints (Tokened.unhold y rest) = tokened_prints rest
  tokened_prints (Tokened.if_token y there absent) = tokened_prints there + tokened_prints absent

  pub tokened_arms_prints : TokenedArms → ℕ
  tokened_arms_prints TokenedArms.no_arm = 0
  tokened_arms_prints (TokenedArms.arm body rest) = tokened_prints body + tokened_arms_prints rest

-- of all functions
abbrev pub all_tokened_prints : List TokenedFunction → ℕ
all_tokened_prints [] = 0
all_tokened_prints (function ∷ functions) = tokened_prints function.body + all_tokened_prints functions

abbrev pub all_tokened_words : List TokenedFunction → ℕ
all_tokened_words [] = 0
all_tokened_words (function ∷ functions) = tokened_words function.body + all_tokened_words functions
