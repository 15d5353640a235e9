-- How many words of an image counted code takes, and how many more its tokens take.
use Rattle.std.specs.Prelude.{ℕ, suc, ◌+◌, ◌-◌, ◌*◌, ◌==◌, Bool, true, false, List, ◌∷◌, length, max, if◌then◌else◌}
use Rattle.kk_syntax.specs.declared.program.Form.{Form}
use Rattle.kk_syntax.specs.declared.program.Form.TheVariants.{Construct, Call}
use Rattle.kk_core.specs.CaseLengths.{tests_length}
use Rattle.kk_core.specs.CodeNodes.{form_words, reference_length, give_words, tail_call_words, argument_words, case_words, opening_words, opened_field_words}
use Rattle.kk_counted.specs.CountedCodes.{Counted, give, tail_call, case, compute, inside, read, open_cell, if_unique, dup, drop, CountedArms, no_arm, arm}
use Rattle.kk_counted.specs.TokenCosts.{openings}
use Rattle.kk_counted.specs.TokenLengths.{other_length, free_length, move_length}

-- the words of each field that is read and stays in its cell
abbrev pub read_field_words : ℕ
read_field_words = 4

-- The words of each form. Those of an opening can free its token once besides.
abbrev mutual
  pub code_words : Counted → ℕ
  code_words (give x) = give_words
  code_words (tail_call f arguments) = tail_call_words + argument_words * length arguments
  code_words (case x decisions arms) = case_words + tests_length decisions + arms_words arms
  code_words (compute x form arguments rest) = form_words form arguments + code_words rest
  code_words (inside x block rest) = code_words block + code_words rest
  code_words (read x c fields rest) = read_field_words * length fields + code_words rest
  code_words (open_cell x c fields used rest) = opening_words + opened_field_words * length fields + code_words rest
  code_words (if_unique x c fields used rest) = opening_words + opened_field_words * length fields + code_words rest
  code_words (dup x rest) = reference_length + code_words rest
  code_words (drop x rest) = reference_length + code_words rest

  pub arms_words : CountedArms → ℕ
  arms_words no_arm = 0
  arms_words (arm body rest) = code_words body + arms_words rest

-- ---- tokens

-- how many ends of a code come behind a case of its block
abbrev mutual
  pub branch_ends : Counted → ℕ
  branch_ends (give x) = 0
  branch_ends (tail_call f arguments) = 0
  branch_ends (case x decisions arms) = arms_ends arms
  branch_ends (compute x form arguments rest) = branch_ends rest
  branch_ends (inside x block rest) = branch_ends rest
  branch_ends (read x c fields rest) = branch_ends rest
  branch_ends (open_cell x c fields used rest) = branch_ends rest
  branch_ends (if_unique x c fields used rest) = branch_ends rest
  branch_ends (dup x rest) = branch_ends rest
  branch_ends (drop x rest) = branch_ends rest

  pub arms_ends : CountedArms → ℕ
  arms_ends no_arm = 0
  arms_ends (arm body rest) = max 1 (branch_ends body) + arms_ends rest

-- The tokens that the ends of a block lack, in all, where one of its paths opens `more` cells from here on: an end lacks as many
-- as its path opens fewer before its last case.
abbrev mutual
  pub lacking : ℕ → Counted → ℕ
  lacking more (give x) = 0
  lacking more (tail_call f arguments) = 0
  lacking more (case x decisions arms) = arms_lacking more arms
  lacking more (compute x form arguments rest) = lacking more rest
  lacking more (inside x block rest) = lacking (more - openings block) rest
  lacking more (read x c fields rest) = lacking more rest
  lacking more (open_cell x c fields used rest) = lacking (more - 1) rest
  lacking more (if_unique x c fields used rest) = lacking (more - 1) rest
  lacking more (dup x rest) = lacking more rest
  lacking more (drop x rest) = lacking more rest

  pub arms_lacking : ℕ → CountedArms → ℕ
  arms_lacking more no_arm = 0
  arms_lacking more (arm body rest) =
      (if branch_ends body == 0 then more else lacking more body) + arms_lacking more rest

-- whether a form has tokens held around it, or names them
abbrev pub holds_tokens : Form → List ℕ → Bool
holds_tokens (Call f) arguments = true
holds_tokens (Construct c) (x ∷ xs) = true
holds_tokens _ arguments = false

-- The words for tokens, where a code has at most `tokens` of them: each is held and taken back at a call and at a construction,
-- freed or moved in each arm, and moved or made null at each end of a block that lacks it.
abbrev mutual
  pub token_words : ℕ → Counted → ℕ
  token_words tokens (give x) = 0
  token_words tokens (tail_call f arguments) = 0
  token_words tokens (case x decisions arms) = arms_token_words tokens arms
  token_words tokens (compute x form arguments rest) =
      (if holds_tokens form arguments then other_length * tokens else 0) + token_words tokens rest
  token_words tokens (inside x block rest) =
      token_words tokens block + move_length * lacking (openings block) block + token_words (tokens + openings block) rest
  token_words tokens (read x c fields rest) = token_words tokens rest
  token_words tokens (open_cell x c fields used rest) = token_words (suc tokens) rest
  token_words tokens (if_unique x c fields used rest) = token_words (suc tokens) rest
  token_words tokens (dup x rest) = token_words tokens rest
  token_words tokens (drop x rest) = token_words tokens rest

  pub arms_token_words : ℕ → CountedArms → ℕ
  arms_token_words tokens no_arm = 0
  arms_token_words tokens (arm body rest) = free_length * tokens + token_words tokens body + arms_token_words tokens rest
