-- Paired code is short: what it is longer by than the code that it is made of is paid by that code's forms. Each pays, for each
-- slot that a function can have, what it takes to hold a token and to take it back. That is enough for the tokens that are held,
-- named or moved there, and for those that are freed behind it.
use Rattle.std.proofs.Common.{◌≡◌, ◌≤◌, ℕ, zero, suc, ◌+◌, ◌-◌, ◌*◌, Bool, true, false, if◌then◌else◌, List, [], ◌∷◌, map, Some, refl, ◌∙◌, arith}
use Rattle.std.specs.Prelude.{slice_get}
use Rattle.kk_syntax.specs.declared.program.Form.{Form}
use Rattle.kk_syntax.specs.declared.program.Form.TheVariants.{Construct, Call}
use Rattle.kk_counted.specs.CountedCodes.{Counted, give, tail_call, case, compute, inside, read, open_cell, if_unique, dup, drop, CountedArms, no_arm, arm, CountedFunction, CountedProgram}
use Rattle.kk_counted.specs.Lengths.{form_length, code_length, arms_length, functions_length, computes, arms_computes, all_computes, forms_in, arms_forms, all_forms_in, AreShort}
use Rattle.kk_counted.specs.TokenCosts.{openings, openings_of, OpenAtMost}
use Rattle.kk_counted.specs.TokenLengths.{hold_length, unhold_length, free_length, null_length, move_length, other_length}
use Rattle.kk_counted.specs.TokenLengths.{tokened_length, tokened_arms_length, tokened_functions_length}
use Rattle.kk_counted.specs.TokenLengths.{tokened_computes, tokened_arms_computes, all_tokened_computes, AreTokensShort}
use Rattle.kk_counted.specs.TokenLowerable.{most_slots}
use Rattle.kk_counted.specs.TokenedCodes.{Tokened}
use Rattle.kk_reuse.specs.Following.{may_make, kept, taken}
use Rattle.kk_reuse.specs.Pairing.{frees, holds, all_taken_back, nulls, moves_up, filled_up, settled, left_by, paired_form, paired, paired_arms, paired_function, paired_program}
use Rattle.kk_reuse.proofs.TakenBack.{HeldAgain, back_so}
use Rattle.kk_reuse.proofs.TokenRoom.{taken_few, left_few, slots_many}

-- ---- forms that only tokens have, in front of a code

frees_length : (n : ℕ) (code : Tokened) → tokened_length (frees n code) ≡ free_length * n + tokened_length code
frees_length zero code = omega arith
frees_length (suc n) code = omega (arith, frees_length n code)

holds_length : (n : ℕ) (code : Tokened) → tokened_length (holds n code) ≡ hold_length * n + tokened_length code
holds_length zero code = omega arith
holds_length (suc n) code = omega (arith, holds_length n (Tokened.hold n code))

length_still : (y : ℕ) (code less : Tokened) → HeldAgain y code less → tokened_length less ≤ tokened_length code
length_still y _ _ (HeldAgain.here rest) = omega arith
length_still y _ _ (HeldAgain.behind x code less again) = omega (arith, length_still y code less again)

back_length : (n : ℕ) (code : Tokened) → tokened_length (all_taken_back n code) ≤ unhold_length * n + tokened_length code
back_length zero code = omega arith
back_length (suc n) code =
    back_so (λ back. tokened_length back ≤ unhold_length * suc n + tokened_length code) n (all_taken_back n code)
    (omega (arith, back_length n code))
    (λ less again. omega (arith, length_still n (all_taken_back n code) less again, back_length n code))

nulls_length : (n : ℕ) (code : Tokened) → tokened_length (nulls n code) ≡ null_length * n + tokened_length code
nulls_length zero code = omega arith
nulls_length (suc n) code = omega (arith, nulls_length n code)

moves_length : (by n : ℕ) (code : Tokened) → tokened_length (moves_up by n code) ≡ move_length * n + tokened_length code
moves_length by zero code = omega arith
moves_length by (suc n) code = omega (arith, moves_length by n code)

filled_length : (more n : ℕ) (code : Tokened)
    → tokened_length (filled_up more n code) ≤ move_length * n + null_length * more + tokened_length code
filled_length zero n code = omega arith
filled_length (suc more) n code =
    omega (arith, moves_length (suc more) n (nulls (suc more) code), nulls_length (suc more) code)

form_long : (n x : ℕ) (form : Form) (arguments : List ℕ) (rest : Tokened)
    → tokened_length (paired_form n x form arguments rest) ≤ form_length + other_length * n + tokened_length rest
form_long (suc n) x (Construct c) (first ∷ arguments) rest = omega (arith, slots_many n)
form_long n x (Call f) arguments rest =
    omega (
      arith,
      holds_length n (Tokened.compute x (Call f) arguments [] (all_taken_back n rest)),
      back_length n rest,
    )
form_long n x form arguments rest = omega arith

-- ---- code

-- Code before which so many tokens are unspent. What it takes to free each of the others has been saved.
abbrev IsShort : Tokened → ℕ → ℕ → ℕ → Type 0
IsShort code n length forms =
    tokened_length code + free_length * most_slots ≤ length + other_length * most_slots * forms + free_length * n

-- whatever the number of tokens is with which a code begins
abbrev FitsLength : Counted → Bool → ℕ → Type 0
FitsLength code behind l =
    (n : ℕ) → n + openings code ≤ most_slots → IsShort (paired behind l n code) n (code_length code) (forms_in code)

-- what comes behind a form
rest_short : (code : Counted) (behind : Bool) (l n : ℕ) → FitsLength code behind l → n + openings code ≤ most_slots
    → IsShort (settled behind code n (paired behind l (kept behind code n) code)) n (code_length code) (forms_in code)
rest_short code behind l n short few = by (may_make behind code)
  where
    start : Bool → Tokened
    start b = paired behind l (if b then n else 0) code

    by : (b : Bool) → IsShort (if b then start b else frees n (start b)) n (code_length code) (forms_in code)
    by true = short n few
    by false = omega (arith, frees_length n (paired behind l 0 code), short 0 (omega (arith, few)))

mutual
  paired_short : (code : Counted) (behind : Bool) (l : ℕ) → l ≤ most_slots → FitsLength code behind l
  paired_short (give x) behind l fits n few = omega (arith, few, fits, filled_length (l - n) n (Tokened.give x))
  paired_short (tail_call f arguments) behind l fits n few = omega (arith, frees_length n (Tokened.tail_call f arguments))
  paired_short (case x decisions arms) behind l fits n few = omega (arith, arms_short arms behind l n fits few)
  paired_short (compute x form arguments rest) behind l fits n few =
      let left : taken form arguments n ≤ n = taken_few form arguments n in
      omega (
        arith,
        few,
        left,
        form_long n x form arguments (settled behind rest (taken form arguments n)
            (paired behind l (kept behind rest (taken form arguments n)) rest)),
        rest_short rest behind l (taken form arguments n) (paired_short rest behind l fits) (omega (arith, few, left)),
      )
  paired_short (inside x block rest) behind l fits n few =
      let outer : ℕ = left_by behind n block rest in
      let left = left_few behind n block rest in
      let inner : outer ≤ most_slots = omega (arith, few, left) in
      omega (
        arith,
        inner,
        rest_short block (may_make behind rest) outer n (paired_short block (may_make behind rest) outer inner)
            (omega (arith, few)),
        rest_short rest behind l outer (paired_short rest behind l fits) (omega (arith, few, left)),
      )
  paired_short (read x c fields rest) behind l fits n few =
      omega (arith, rest_short rest behind l n (paired_short rest behind l fits) few)
  paired_short (open_cell x c fields used rest) behind l fits n few =
      omega (arith, rest_short rest behind l (suc n) (paired_short rest behind l fits) (omega (arith, few)))
  paired_short (if_unique x c fields used rest) behind l fits n few =
      omega (arith, rest_short rest behind l (suc n) (paired_short rest behind l fits) (omega (arith, few)))
  paired_short (dup x rest) behind l fits n few =
      omega (arith, rest_short rest behind l n (paired_short rest behind l fits) few)
  paired_short (drop x rest) behind l fits n few =
      omega (arith, rest_short rest behind l n (paired_short rest behind l fits) few)

  arms_short : (arms : CountedArms) (behind : Bool) (l n : ℕ) → l ≤ most_slots → n + openings_of arms ≤ most_slots
      → tokened_arms_length (paired_arms behind l n arms) ≤ arms_length arms + other_length * most_slots * arms_forms arms
  arms_short no_arm behind l n fits few = omega arith
  arms_short (arm body rest) behind l n fits few =
      omega (
        arith,
        few,
        rest_short body behind l n (paired_short body behind l fits) (omega (arith, few)),
        arms_short rest behind l n fits (omega (arith, few)),
      )

-- ---- forms on values

frees_compute : (n : ℕ) (code : Tokened) → tokened_computes (frees n code) ≡ tokened_computes code
frees_compute zero code = refl
frees_compute (suc n) code = frees_compute n code

holds_compute : (n : ℕ) (code : Tokened) → tokened_computes (holds n code) ≡ tokened_computes code
holds_compute zero code = refl
holds_compute (suc n) code = holds_compute n (Tokened.hold n code)

computes_still : (y : ℕ) (code less : Tokened) → HeldAgain y code less → tokened_computes less ≡ tokened_computes code
computes_still y _ _ (HeldAgain.here rest) = refl
computes_still y _ _ (HeldAgain.behind x code less again) = computes_still y code less again

back_computes : (n : ℕ) (code : Tokened) → tokened_computes (all_taken_back n code) ≡ tokened_computes code
back_computes zero code = refl
back_computes (suc n) code =
    back_so (λ back. tokened_computes back ≡ tokened_computes code) n (all_taken_back n code) (back_computes n code)
    (λ less again. computes_still n (all_taken_back n code) less again ∙ back_computes n code)

nulls_compute : (n : ℕ) (code : Tokened) → tokened_computes (nulls n code) ≡ tokened_computes code
nulls_compute zero code = refl
nulls_compute (suc n) code = nulls_compute n code

moves_compute : (by n : ℕ) (code : Tokened) → tokened_computes (moves_up by n code) ≡ tokened_computes code
moves_compute by zero code = refl
moves_compute by (suc n) code = moves_compute by n code

filled_compute : (more n : ℕ) (code : Tokened) → tokened_computes (filled_up more n code) ≡ tokened_computes code
filled_compute zero n code = refl
filled_compute (suc more) n code =
    omega (arith, moves_compute (suc more) n (nulls (suc more) code), nulls_compute (suc more) code)

form_computes : (n x : ℕ) (form : Form) (arguments : List ℕ) (rest : Tokened)
    → tokened_computes (paired_form n x form arguments rest) ≤ suc (tokened_computes rest)
form_computes (suc n) x (Construct c) (first ∷ arguments) rest = omega arith
form_computes n x (Call f) arguments rest =
    omega (
      arith,
      holds_compute n (Tokened.compute x (Call f) arguments [] (all_taken_back n rest)),
      back_computes n rest,
    )
form_computes n x form arguments rest = omega arith

-- what comes behind a form
rest_computes : (code : Counted) (behind : Bool) (l n : ℕ)
    → ((k : ℕ) → tokened_computes (paired behind l k code) ≤ computes code)
    → tokened_computes (settled behind code n (paired behind l (kept behind code n) code)) ≤ computes code
rest_computes code behind l n each = by (may_make behind code)
  where
    start : Bool → Tokened
    start b = paired behind l (if b then n else 0) code

    by : (b : Bool) → tokened_computes (if b then start b else frees n (start b)) ≤ computes code
    by true = each n
    by false = omega (arith, frees_compute n (paired behind l 0 code), each 0)

mutual
  few_computes : (code : Counted) (behind : Bool) (l n : ℕ) → tokened_computes (paired behind l n code) ≤ computes code
  few_computes (give x) behind l n = omega (arith, filled_compute (l - n) n (Tokened.give x))
  few_computes (tail_call f arguments) behind l n = omega (arith, frees_compute n (Tokened.tail_call f arguments))
  few_computes (case x decisions arms) behind l n = arms_few arms behind l n
  few_computes (compute x form arguments rest) behind l n =
      omega (
        arith,
        form_computes n x form arguments (settled behind rest (taken form arguments n)
            (paired behind l (kept behind rest (taken form arguments n)) rest)),
        rest_computes rest behind l (taken form arguments n) (few_computes rest behind l),
      )
  few_computes (inside x block rest) behind l n =
      let outer : ℕ = left_by behind n block rest in
      omega (
        arith,
        rest_computes block (may_make behind rest) outer n (few_computes block (may_make behind rest) outer),
        rest_computes rest behind l outer (few_computes rest behind l),
      )
  few_computes (read x c fields rest) behind l n = rest_computes rest behind l n (few_computes rest behind l)
  few_computes (open_cell x c fields used rest) behind l n = rest_computes rest behind l (suc n) (few_computes rest behind l)
  few_computes (if_unique x c fields used rest) behind l n = rest_computes rest behind l (suc n) (few_computes rest behind l)
  few_computes (dup x rest) behind l n = rest_computes rest behind l n (few_computes rest behind l)
  few_computes (drop x rest) behind l n = rest_computes rest behind l n (few_computes rest behind l)

  arms_few : (arms : CountedArms) (behind : Bool) (l n : ℕ)
      → tokened_arms_computes (paired_arms behind l n arms) ≤ arms_computes arms
  arms_few no_arm behind l n = omega arith
  arms_few (arm body rest) behind l n =
      omega (arith, rest_computes body behind l n (few_computes body behind l), arms_few rest behind l n)

-- ---- functions

functions_long : (functions : List CountedFunction)
    → ((f : ℕ) (function : CountedFunction) → slice_get functions f ≡ Some function → openings function.body ≤ most_slots)
    → tokened_functions_length (map paired_function functions)
    ≤ functions_length functions + other_length * most_slots * all_forms_in functions
functions_long [] few = omega arith
functions_long (function ∷ functions) few =
    omega (
      arith,
      paired_short function.body false 0 (omega arith) 0 (omega (arith, few zero function refl)),
      functions_long functions (λ f other there. few (suc f) other there),
    )

functions_compute : (functions : List CountedFunction)
    → all_tokened_computes (map paired_function functions) ≤ all_computes functions
functions_compute [] = omega arith
functions_compute (function ∷ functions) =
    omega (arith, few_computes function.body false 0 0, functions_compute functions)

pub program_short : (most : ℕ) (program : CountedProgram) → OpenAtMost most program → most ≤ most_slots
    → AreShort program.functions → AreTokensShort (paired_program program).functions
program_short most program few fits short =
    let each : (f : ℕ) (function : CountedFunction) → slice_get program.functions f ≡ Some function
    → openings function.body ≤ most_slots
    = λ f function is. omega (arith, few f function is, fits) in
    record {
      length = omega (arith, functions_long program.functions each, short.length, short.forms);
      computes = omega (arith, functions_compute program.functions, short.computes);
    }
