-- What a block of counted code needs: twice its words, with those for its tokens and for the tokens that its ends lack.
use Rattle.std.proofs.Common.{◌≡◌, ℕ, suc, ◌+◌, ◌-◌, ◌*◌, ◌≤◌, ◌==◌, Bool, true, false, List, [], ◌∷◌, length, max, arith, ap}
use Rattle.std.proofs.lemmas.Nat.{mul-le}
use Rattle.std.specs.Prelude.{if◌then◌else◌}
use Rattle.kk_syntax.specs.declared.program.Form.{Form}
use Rattle.kk_core.specs.CaseLengths.{tests_length}
use Rattle.kk_core.specs.Decisions.{NodeTree}
use Rattle.kk_core.specs.CodeNodes.{form_words, reference_length, give_words, tail_call_words, argument_words, case_words, opening_words, opened_field_words}
use Rattle.kk_counted.specs.CountedCodes.{Counted, give, tail_call, case, compute, inside, read, open_cell, if_unique, dup, drop, CountedArms, no_arm, arm}
use Rattle.kk_counted.specs.TokenCosts.{openings, openings_of}
use Rattle.kk_counted.specs.TokenLengths.{other_length, free_length, move_length}
use Rattle.kk_counted.specs.TokenWords.{read_field_words, code_words, arms_words, branch_ends, arms_ends, lacking, arms_lacking, holds_tokens, token_words, arms_token_words}
use Rattle.kk_insert.specs.Insertion.{dups, drops}

-- ---- the tokens that ends lack

-- what grows by at most `ends` at each step grows by so many times that
raised : (grows : ℕ → ℕ) (ends a b c : ℕ) → a ≤ c → c ≤ a + b → ((d : ℕ) → grows (a + d) ≤ grows a + d * ends)
    → grows c ≤ grows a + b * ends
raised grows ends a b c low high each =
    let few = mul-le (c - a) ends b ends (omega arith) (omega arith) in
    let same : a + (c - a) ≡ c = omega arith in
    omega (arith, each (c - a), few, ap grows same)

-- each opening more may be lacking at each end behind a case
mutual
  lacking_more : (a b : ℕ) (code : Counted) → lacking (a + b) code ≤ lacking a code + b * branch_ends code
  lacking_more a b (give x) = omega arith
  lacking_more a b (tail_call f arguments) = omega arith
  lacking_more a b (case x decisions arms) = arms_lack_more a b arms
  lacking_more a b (compute x form arguments rest) = lacking_more a b rest
  lacking_more a b (inside x block rest) =
      raised (λ n. lacking n rest) (branch_ends rest) (a - openings block) b (a + b - openings block) (omega arith) (omega arith)
      (λ d. lacking_more (a - openings block) d rest)
  lacking_more a b (read x c fields rest) = lacking_more a b rest
  lacking_more a b (open_cell x c fields used rest) =
      raised (λ n. lacking n rest) (branch_ends rest) (a - 1) b (a + b - 1) (omega arith) (omega arith)
      (λ d. lacking_more (a - 1) d rest)
  lacking_more a b (if_unique x c fields used rest) =
      raised (λ n. lacking n rest) (branch_ends rest) (a - 1) b (a + b - 1) (omega arith) (omega arith)
      (λ d. lacking_more (a - 1) d rest)
  lacking_more a b (dup x rest) = lacking_more a b rest
  lacking_more a b (drop x rest) = lacking_more a b rest

  arms_lack_more : (a b : ℕ) (arms : CountedArms) → arms_lacking (a + b) arms ≤ arms_lacking a arms + b * arms_ends arms
  arms_lack_more a b no_arm = omega arith
  arms_lack_more a b (arm body rest) =
      let first = by_test (branch_ends body == 0) (max 1 (branch_ends body)) (omega arith) (omega arith) (lacking_more a b body) in
      let later = arms_lack_more a b rest in
      omega (arith, first, later)
    where
      by_test : (t : Bool) (ends : ℕ) → 1 ≤ ends → branch_ends body ≤ ends
          → lacking (a + b) body ≤ lacking a body + b * branch_ends body
          → (if t then a + b else lacking (a + b) body) ≤ (if t then a else lacking a body) + b * ends
      by_test true ends some most more = let few = mul-le b 1 b ends (omega arith) some in omega (arith, few)
      by_test false ends some most more =
          let few = mul-le b (branch_ends body) b ends (omega arith) most in omega (arith, few, more)

-- of an arm and those behind it: each end of the arm lacks what the others open, and the other way round
arm_lacks : (body : Counted) (rest : CountedArms)
    → arms_lacking (openings_of (arm body rest)) (arm body rest)
    ≤ openings body + lacking (openings body) body + openings_of rest * max 1 (branch_ends body)
    + (arms_lacking (openings_of rest) rest + openings body * arms_ends rest)
arm_lacks body rest =
    let most = openings_of (arm body rest) in
    let later = raised (λ n. arms_lacking n rest) (arms_ends rest) (openings_of rest) (openings body) most (omega arith)
    (omega arith) (λ d. arms_lack_more (openings_of rest) d rest) in
    let first = raised (λ n. lacking n body) (branch_ends body) (openings body) (openings_of rest) most (omega arith) (omega arith)
    (λ d. lacking_more (openings body) d body) in
    omega (arith, by_test (branch_ends body == 0) (max 1 (branch_ends body)) (omega arith) (omega arith) first, later)
  where
    by_test : (t : Bool) (ends : ℕ) → 1 ≤ ends → branch_ends body ≤ ends
        → lacking (max (openings body) (openings_of rest)) body ≤ lacking (openings body) body + openings_of rest * branch_ends body
        → (if t then max (openings body) (openings_of rest) else lacking (max (openings body) (openings_of rest)) body)
        ≤ openings body + lacking (openings body) body + openings_of rest * ends
    by_test true ends some most more =
        let few = mul-le (openings_of rest) 1 (openings_of rest) ends (omega arith) some in omega (arith, few)
    by_test false ends some most more =
        let few = mul-le (openings_of rest) (branch_ends body) (openings_of rest) ends (omega arith) most in
        omega (arith, few, more)

-- ---- what a block needs, form by form

pub needs : ℕ → Counted → ℕ
needs tokens code = 2 * code_words code + 2 * token_words tokens code + 2 * move_length * lacking (openings code) code

pub arms_need : ℕ → CountedArms → ℕ
arms_need tokens arms =
    2 * arms_words arms + 2 * arms_token_words tokens arms + 2 * move_length * arms_lacking (openings_of arms) arms

module _ (tokens : ℕ) where
  -- it is no less than the words of the code and those for its tokens
  pub needs_all : (code : Counted) → 2 * (code_words code + token_words tokens code) ≤ needs tokens code
  unfolding needs
  needs_all code = omega arith

  pub needs_give : (x : ℕ) → needs tokens (give x) ≡ 2 * give_words
  unfolding needs
  needs_give x = omega arith

  pub needs_call : (f : ℕ) (arguments : List ℕ)
      → needs tokens (tail_call f arguments) ≡ 2 * tail_call_words + 2 * argument_words * length arguments
  unfolding needs
  needs_call f arguments = omega arith

  pub needs_case : (x : ℕ) (decisions : List NodeTree) (arms : CountedArms)
      → needs tokens (case x decisions arms) ≡ 2 * case_words + 2 * tests_length decisions + arms_need tokens arms
  unfolding needs arms_need
  needs_case x decisions arms = omega arith

  pub needs_compute : (x : ℕ) (form : Form) (arguments : List ℕ) (rest : Counted)
      → needs tokens (compute x form arguments rest) ≤ 2 * form_words form arguments + 2 * other_length * tokens + needs tokens rest
  unfolding needs
  needs_compute x form arguments rest = omega (arith, by_test (holds_tokens form arguments))
    where
      by_test : (t : Bool) → (if t then other_length * tokens else 0) ≤ other_length * tokens
      by_test true = omega arith
      by_test false = omega arith

  pub needs_inside : (x : ℕ) (block rest : Counted)
      → needs tokens (inside x block rest) ≡ needs tokens block + needs (tokens + openings block) rest
  unfolding needs
  needs_inside x block rest =
      let same : openings block + openings rest - openings block ≡ openings rest = omega arith in
      omega (arith, ap (λ n. lacking n rest) same)

  pub needs_read : (x c : ℕ) (fields : List ℕ) (rest : Counted)
      → needs tokens (read x c fields rest) ≡ 2 * read_field_words * length fields + needs tokens rest
  unfolding needs
  needs_read x c fields rest = omega arith

  pub needs_open : (x c : ℕ) (fields used : List ℕ) (rest : Counted)
      → needs tokens (open_cell x c fields used rest)
      ≡ 2 * opening_words + 2 * opened_field_words * length fields + needs (tokens + 1) rest
  unfolding needs
  needs_open x c fields used rest =
      let same : suc (openings rest) - 1 ≡ openings rest = omega arith in
      let next : suc tokens ≡ tokens + 1 = omega arith in
      omega (arith, ap (λ n. lacking n rest) same, ap (λ n. token_words n rest) next)

  pub needs_dups : (xs : List ℕ) (code : Counted)
      → needs tokens (dups xs code) ≡ 2 * reference_length * length xs + needs tokens code
  unfolding needs
  needs_dups [] code = omega arith
  needs_dups (x ∷ xs) code = omega (arith, needs_dups xs code)

  pub needs_drops : (xs : List ℕ) (code : Counted)
      → needs tokens (drops xs code) ≡ 2 * reference_length * length xs + needs tokens code
  unfolding needs
  needs_drops [] code = omega arith
  needs_drops (x ∷ xs) code = omega (arith, needs_drops xs code)

  pub needs_none : arms_need tokens no_arm ≡ 0
  unfolding arms_need
  needs_none = omega arith

  -- an arm whose openings and ends, and those of the arms behind it, are no more than told
  pub needs_arm : (body : Counted) (rest : CountedArms) (o e l n : ℕ) → openings body ≤ o → max 1 (branch_ends body) ≤ e
      → openings_of rest ≤ l → arms_ends rest ≤ n
      → arms_need tokens (arm body rest)
      ≤ 2 * free_length * tokens + needs tokens body + arms_need tokens rest + 2 * move_length * (o + l * e + o * n)
  unfolding needs arms_need
  needs_arm body rest o e l n one two three four =
      let own = mul-le (openings_of rest) (max 1 (branch_ends body)) l e three two in
      let others = mul-le (openings body) (arms_ends rest) o n one four in
      omega (arith, arm_lacks body rest, own, others, one)
