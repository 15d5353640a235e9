-- Paired code can be lowered where the code can that it is made of: its slots are few, and it holds tokens around rows of calls
-- alone.
use Rattle.std.proofs.Common.{◌≤◌, ℕ, zero, suc, ◌+◌, ◌-◌, Bool, true, false, if◌then◌else◌, List, [], ◌∷◌, refl, sym, subst, arith}
use Rattle.kk_syntax.specs.declared.program.Form.{Form}
use Rattle.kk_syntax.specs.declared.program.Form.TheVariants.{Construct, Call}
use Rattle.kk_counted.specs.CountedCodes.{Counted, give, tail_call, case, compute, inside, read, open_cell, if_unique, dup, drop, CountedArms, no_arm, arm, CountedProgram}
use Rattle.kk_counted.specs.FunctionSizes.{AllHaveSlotsBelow}
use Rattle.kk_counted.specs.TokenCosts.{openings, openings_of, OpenAtMost}
use Rattle.kk_counted.specs.TokenLowerable.{slots_of, slots_in, slots_in_arms, most_slots, HoldsAtCalls, HoldAtCalls}
use Rattle.kk_counted.specs.TokenLowerable.{IsTokenLowerable, AreTokensLowerable}
use Rattle.kk_counted.specs.TokenedCodes.{Tokened, TokenedArms, TokenedFunction}
use Rattle.kk_reuse.specs.Following.{may_make, kept, taken}
use Rattle.kk_reuse.specs.Pairing.{slots_below, frees, holds, all_taken_back, nulls, moves_up, filled_up, settled, left_by, paired_form, paired, paired_arms, paired_function, paired_program}
use Rattle.kk_reuse.proofs.TakenBack.{HeldAgain, back_so}
use Rattle.kk_reuse.proofs.MappedLists.{each_made}
use Rattle.kk_reuse.proofs.LeftFields.{paired_none}
use Rattle.kk_reuse.proofs.TokenRoom.{taken_few, left_few}
use Rattle.kk_reuse.proofs.TokenSpending.{slots_are, next_free}

-- by the most slots that a function may have
module _ (most : ℕ) where
  -- code before which tokens are held can be lowered
  record IsLow (held : List ℕ) (code : Tokened) : Type 0 where
    slots : slots_in code ≤ most
    straight : HoldsAtCalls held code

  record AreLow (arms : TokenedArms) : Type 0 where
    slots : slots_in_arms arms ≤ most
    straight : HoldAtCalls arms

  -- ---- forms that only tokens have, in front of a code

  frees_low : (n : ℕ) (code : Tokened) → n ≤ most → IsLow [] code → IsLow [] (frees n code)
  frees_low zero code few low = low
  frees_low (suc n) code few low =
      let rest = frees_low n code (omega (arith, few)) low in
      record { slots = omega (arith, few, rest.slots); straight = (refl, rest.straight) }

  nulls_low : (n : ℕ) (code : Tokened) → n ≤ most → IsLow [] code → IsLow [] (nulls n code)
  nulls_low zero code few low = low
  nulls_low (suc n) code few low =
      let rest = nulls_low n code (omega (arith, few)) low in
      record { slots = omega (arith, few, rest.slots); straight = (refl, rest.straight) }

  moves_low : (by n : ℕ) (code : Tokened) → n + by ≤ most → IsLow [] code → IsLow [] (moves_up by n code)
  moves_low by zero code few low = low
  moves_low by (suc n) code few low =
      let rest = moves_low by n code (omega (arith, few)) low in
      record { slots = omega (arith, few, rest.slots); straight = (refl, rest.straight) }

  filled_low : (more n : ℕ) (code : Tokened) → n + more ≤ most → IsLow [] code → IsLow [] (filled_up more n code)
  filled_low zero n code few low = low
  filled_low (suc more) n code few low =
      moves_low (suc more) n (nulls (suc more) code) few (nulls_low (suc more) code (omega (arith, few)) low)

  -- a token that is taken back and held again can stay held
  still_low : (y : ℕ) (held : List ℕ) (code less : Tokened) → HeldAgain y code less → IsLow held (Tokened.unhold y code)
      → IsLow held less
  still_low y held _ _ (HeldAgain.here rest) low =
      record {
        slots = omega (arith, low.slots);
        straight = subst (λ (slots : List ℕ). HoldsAtCalls slots rest) (sym low.straight.1.0) low.straight.1.1.1;
      }
  still_low y held _ _ (HeldAgain.behind x code less again) low =
      let later = still_low y held code less again (record { slots = low.slots; straight = low.straight }) in
      record { slots = later.slots; straight = later.straight }

  back_low : (n : ℕ) (code : Tokened) → n ≤ most → IsLow [] code → IsLow (slots_below n) (all_taken_back n code)
  back_low zero code few low = low
  back_low (suc n) code few low =
      let rest = back_low n code (omega (arith, few)) low in
      let back : IsLow (slots_below (suc n)) (Tokened.unhold n (all_taken_back n code))
      = record {
        slots = omega (arith, few, rest.slots);
        straight = (slots_below n, (refl, rest.straight));
      } in
      back_so (IsLow (slots_below (suc n))) n (all_taken_back n code) back
      (λ less again. still_low n (slots_below (suc n)) (all_taken_back n code) less again back)

  holds_low : (n : ℕ) (code : Tokened) → n ≤ most → IsLow (slots_below n) code → IsLow [] (holds n code)
  holds_low zero code few low = low
  holds_low (suc n) code few low =
      holds_low n (Tokened.hold n code) (omega (arith, few)) (record {
        slots = omega (arith, few, low.slots);
        straight = (next_free (slots_below n) n (slots_are n), low.straight);
      })

  slots_below_few : (n : ℕ) → slots_of (slots_below n) ≤ n
  slots_below_few zero = omega arith
  slots_below_few (suc n) = omega (arith, slots_below_few n)

  form_low : (n x : ℕ) (form : Form) (arguments : List ℕ) (rest : Tokened) → n ≤ most → IsLow [] rest
      → IsLow [] (paired_form n x form arguments rest)
  form_low (suc n) x (Construct c) (first ∷ arguments) rest few low =
      record {
        slots = omega (arith, few, slots_below_few n, low.slots);
        straight = (refl, low.straight);
      }
  form_low n x (Call f) arguments rest few low =
      let behind = back_low n rest few low in
      holds_low n (Tokened.compute x (Call f) arguments [] (all_taken_back n rest)) few (record {
        slots = omega (arith, behind.slots);
        straight = behind.straight;
      })
  form_low n x form arguments rest few low =
      record { slots = omega (arith, low.slots); straight = (refl, low.straight) }

  -- ---- code

  -- whatever the number of tokens is with which a code begins
  abbrev FitsSlots : Counted → Bool → ℕ → Type 0
  FitsSlots code behind l = (n : ℕ) → n + openings code ≤ most → IsLow [] (paired behind l n code)

  -- what comes behind a form
  rest_low : (code : Counted) (behind : Bool) (l n : ℕ) → FitsSlots code behind l → n + openings code ≤ most
      → IsLow [] (settled behind code n (paired behind l (kept behind code n) code))
  rest_low code behind l n low few = by (may_make behind code)
    where
      start : Bool → Tokened
      start b = paired behind l (if b then n else 0) code

      by : (b : Bool) → IsLow [] (if b then start b else frees n (start b))
      by true = low n few
      by false = frees_low n (paired behind l 0 code) (omega (arith, few)) (low 0 (omega (arith, few)))

  mutual
    paired_low : (code : Counted) → (behind : Bool) (l : ℕ) → l ≤ most → FitsSlots code behind l
    paired_low (give x) behind l fits n few =
        filled_low (l - n) n (Tokened.give x) (omega (arith, few, fits))
        (record { slots = omega arith; straight = refl })
    paired_low (tail_call f arguments) behind l fits n few =
        frees_low n (Tokened.tail_call f arguments) (omega (arith, few))
        (record { slots = omega arith; straight = refl })
    paired_low (case x decisions arms) behind l fits n few =
        let each = arms_low arms behind l n fits few in
        record { slots = each.slots; straight = (refl, each.straight) }
    paired_low (compute x form arguments rest) behind l fits n few =
        let left : taken form arguments n ≤ n = taken_few form arguments n in
        form_low n x form arguments
        (settled behind rest (taken form arguments n) (paired behind l (kept behind rest (taken form arguments n)) rest))
        (omega (arith, few))
        (rest_low rest behind l (taken form arguments n) (paired_low rest behind l fits) (omega (arith, few, left)))
    paired_low (inside x block rest) behind l fits n few =
        let outer : ℕ = left_by behind n block rest in
        let left = left_few behind n block rest in
        let inner : outer ≤ most = omega (arith, few, left) in
        let one = rest_low block (may_make behind rest) outer n (paired_low block (may_make behind rest) outer inner)
        (omega (arith, few)) in
        let two = rest_low rest behind l outer (paired_low rest behind l fits) (omega (arith, few, left)) in
        record {
          slots = omega (arith, one.slots, two.slots);
          straight = (refl, (one.straight, two.straight));
        }
    paired_low (read x c fields rest) behind l fits n few =
        let low = rest_low rest behind l n (paired_low rest behind l fits) few in
        record { slots = low.slots; straight = (refl, low.straight) }
    paired_low (open_cell x c fields used rest) behind l fits n few =
        let low = rest_low rest behind l (suc n) (paired_low rest behind l fits) (omega (arith, few)) in
        record { slots = omega (arith, few, low.slots); straight = (refl, low.straight) }
    paired_low (if_unique x c fields used rest) behind l fits n few =
        let low = rest_low rest behind l (suc n) (paired_low rest behind l fits) (omega (arith, few)) in
        record { slots = omega (arith, few, low.slots); straight = (refl, low.straight) }
    paired_low (dup x rest) behind l fits n few =
        let low = rest_low rest behind l n (paired_low rest behind l fits) few in
        record { slots = low.slots; straight = (refl, low.straight) }
    paired_low (drop x rest) behind l fits n few =
        let low = rest_low rest behind l n (paired_low rest behind l fits) few in
        record { slots = low.slots; straight = low.straight }

    arms_low : (arms : CountedArms) → (behind : Bool) (l n : ℕ) → l ≤ most
        → n + openings_of arms ≤ most → AreLow (paired_arms behind l n arms)
    arms_low no_arm behind l n fits few = record { slots = omega arith; straight = tt }
    arms_low (arm body rest) behind l n fits few =
        let one = rest_low body behind l n (paired_low body behind l fits) (omega (arith, few)) in
        let others = arms_low rest behind l n fits (omega (arith, few)) in
        record {
          slots = omega (arith, one.slots, others.slots);
          straight = (one.straight, others.straight);
        }

-- ---- functions

-- paired code has no more slots than the code has openings on a path
pub program_slots : (most : ℕ) (program : CountedProgram) → OpenAtMost most program
    → AllHaveSlotsBelow most (paired_program program).functions
program_slots most program few =
    each_made paired_function (λ (function : TokenedFunction). slots_in function.body ≤ most) program.functions
    (λ f function is. (paired_low most function.body false 0 (omega arith) 0 (omega (arith, few f function is))).slots)

pub program_low : (most : ℕ) (program : CountedProgram) → OpenAtMost most program → most ≤ most_slots
    → AreTokensLowerable (paired_program program).functions
program_low most program few fits =
    each_made paired_function IsTokenLowerable program.functions
    (λ f function is.
    let low = paired_low most_slots function.body false 0 (omega arith) 0 (omega (arith, few f function is, fits)) in
    record {
      slots = low.slots;
      straight = low.straight;
      leaves = paired_none function.body false 0 0 [];
    })
