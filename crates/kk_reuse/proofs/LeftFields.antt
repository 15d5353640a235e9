-- Paired code leaves no field as it is, so it leaves only fields that are known.
use Rattle.std.proofs.Common.{ℕ, zero, suc, ◌+◌, ◌-◌, Bool, true, false, if◌then◌else◌, List, [], ◌∷◌}
use Rattle.kk_syntax.specs.declared.program.Form.{Form}
use Rattle.kk_syntax.specs.declared.program.Form.TheVariants.{Construct, Call}
use Rattle.kk_counted.specs.CountedCodes.{Counted, give, tail_call, case, compute, inside, read, open_cell, if_unique, dup, drop, CountedArms, no_arm, arm}
use Rattle.kk_counted.specs.KeptFields.{KnownFields, fields_in, known_opened, forget_slot, forget_variable, forget_variables, LeavesKnown, LeaveKnown}
use Rattle.kk_counted.specs.TokenedCodes.{Tokened}
use Rattle.kk_reuse.specs.Following.{may_make, kept, taken}
use Rattle.kk_reuse.specs.Pairing.{frees, holds, all_taken_back, nulls, moves_up, filled_up, settled, left_by, paired_form, paired, paired_arms}
use Rattle.kk_counted.proofs.KeptFields.{keeps_none}
use Rattle.kk_reuse.proofs.TakenBack.{HeldAgain, back_so}

-- whatever is known
abbrev LeavesNone : Tokened → Type 0
LeavesNone code = (known : List KnownFields) → LeavesKnown known code

-- ---- forms that only tokens have, in front of a code

frees_none : (n : ℕ) (code : Tokened) → LeavesNone code → LeavesNone (frees n code)
frees_none zero code none known = none known
frees_none (suc n) code none known = frees_none n code none (forget_slot n known)

nulls_none : (n : ℕ) (code : Tokened) → LeavesNone code → LeavesNone (nulls n code)
nulls_none zero code none known = none known
nulls_none (suc n) code none known = nulls_none n code none (forget_slot n known)

moves_none : (by n : ℕ) (code : Tokened) → LeavesNone code → LeavesNone (moves_up by n code)
moves_none by zero code none known = none known
moves_none by (suc n) code none known = moves_none by n code none (forget_slot (n + by) (forget_slot n known))

filled_none : (more n : ℕ) (code : Tokened) → LeavesNone code → LeavesNone (filled_up more n code)
filled_none zero n code none known = none known
filled_none (suc more) n code none known = moves_none (suc more) n (nulls (suc more) code) (nulls_none (suc more) code none) known

none_still : (y : ℕ) (known : List KnownFields) (code less : Tokened) → HeldAgain y code less → LeavesKnown known code
    → LeavesKnown known less
none_still y known _ _ (HeldAgain.here rest) none = none
none_still y known _ _ (HeldAgain.behind x code less again) none = none_still y known code less again none

back_none : (n : ℕ) (code : Tokened) → LeavesNone code → LeavesNone (all_taken_back n code)
back_none zero code none known = none known
back_none (suc n) code none known =
    back_so (LeavesKnown known) n (all_taken_back n code) (back_none n code none known)
    (λ less again. none_still n known (all_taken_back n code) less again (back_none n code none known))

holds_none : (n : ℕ) (code : Tokened) → LeavesNone code → LeavesNone (holds n code)
holds_none zero code none known = none known
holds_none (suc n) code none known = holds_none n (Tokened.hold n code) none known

form_none : (n x : ℕ) (form : Form) (arguments : List ℕ) (rest : Tokened) → LeavesNone rest
    → LeavesNone (paired_form n x form arguments rest)
form_none (suc n) x (Construct c) (first ∷ arguments) rest none known =
    (keeps_none 0 (fields_in known n) (first ∷ arguments), none (forget_variable x (forget_slot n known)))
form_none n x (Call f) arguments rest none known =
    holds_none n (Tokened.compute x (Call f) arguments [] (all_taken_back n rest))
    (λ others. back_none n rest none (forget_variable x others)) known
form_none n x form arguments rest none known = none (forget_variable x known)

-- ---- code

-- what comes behind a form, whatever the number of tokens is with which it begins
rest_none : (code : Counted) (behind : Bool) (l n : ℕ) → ((m : ℕ) → LeavesNone (paired behind l m code))
    → LeavesNone (settled behind code n (paired behind l (kept behind code n) code))
rest_none code behind l n none = by (may_make behind code)
  where
    start : Bool → Tokened
    start b = paired behind l (if b then n else 0) code

    by : (b : Bool) → LeavesNone (if b then start b else frees n (start b))
    by true = none n
    by false = frees_none n (paired behind l 0 code) (none 0)

mutual
  pub paired_none : (code : Counted) (behind : Bool) (l n : ℕ) → LeavesNone (paired behind l n code)
  paired_none (give x) behind l n known = filled_none (l - n) n (Tokened.give x) (λ others. tt) known
  paired_none (tail_call f arguments) behind l n known = frees_none n (Tokened.tail_call f arguments) (λ others. tt) known
  paired_none (case x decisions arms) behind l n known = arms_none arms behind l n known
  paired_none (compute x form arguments rest) behind l n known =
      form_none n x form arguments
      (settled behind rest (taken form arguments n) (paired behind l (kept behind rest (taken form arguments n)) rest))
      (rest_none rest behind l (taken form arguments n) (paired_none rest behind l)) known
  paired_none (inside x block rest) behind l n known = (
    rest_none block (may_make behind rest) (left_by behind n block rest) n
        (paired_none block (may_make behind rest) (left_by behind n block rest)) known,
    rest_none rest behind l (left_by behind n block rest) (paired_none rest behind l) [],
  )
  paired_none (read x c fields rest) behind l n known =
      rest_none rest behind l n (paired_none rest behind l) (forget_variables fields known)
  paired_none (open_cell x c fields used rest) behind l n known =
      rest_none rest behind l (suc n) (paired_none rest behind l) (known_opened fields n known)
  paired_none (if_unique x c fields used rest) behind l n known =
      rest_none rest behind l (suc n) (paired_none rest behind l) (known_opened fields n known)
  paired_none (dup x rest) behind l n known = rest_none rest behind l n (paired_none rest behind l) known
  paired_none (drop x rest) behind l n known = rest_none rest behind l n (paired_none rest behind l) known

  arms_none : (arms : CountedArms) (behind : Bool) (l n : ℕ) (known : List KnownFields)
      → LeaveKnown known (paired_arms behind l n arms)
  arms_none no_arm behind l n known = tt
  arms_none (arm body rest) behind l n known =
      (rest_none body behind l n (paired_none body behind l) known, arms_none rest behind l n known)
