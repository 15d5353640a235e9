-- Respecialised code can be lowered where the code can that it is made of; and it leaves only fields that are known.
use Rattle.std.proofs.Common.{◌≡◌, ◌≤◌, ◌<◌, ◌==◌, ℕ, suc, Bool, true, false, List, [], ◌∷◌, Some, refl, sym, subst, ◌∙◌, arith}
use Rattle.std.specs.Prelude.{if◌then◌else◌, slice_get}
use Rattle.kk_syntax.specs.declared.program.Form.{Form}
use Rattle.kk_syntax.specs.declared.program.Form.TheVariants.{Number, Unit as Nothing, ReadByte, PrintText, Unary, Binary, Print, Construct, Call}
use Rattle.kk_syntax.specs.Shapes.{is_among}
use Rattle.kk_counted.specs.FunctionSizes.{AllHaveSlotsBelow}
use Rattle.kk_counted.specs.KeptFields.{KnownFields, fields_in, forget_slot, forget_variable, forget_variables, known_opened, KeepsKnown, LeavesKnown, LeaveKnown}
use Rattle.kk_counted.specs.TokenLowerable.{slots_in, most_slots, HoldsAtCalls, HoldAtCalls, IsTokenLowerable, AreTokensLowerable}
use Rattle.kk_counted.specs.TokenedCodes.{Tokened, TokenedArms, TokenedFunction, TokenedProgram}
use Rattle.kk_respec.specs.Respecialised.{kept_from, respec, respec_arms, respecialised_program}
use Rattle.kk_respec.proofs.Forms.{each_function}
use Rattle.kk_respec.proofs.Measures.{slots_same}

-- ---- kept positions

-- those that are counted from a position on are not before it
none_before : (next at : ℕ) (fields arguments : List ℕ) → at < next → is_among (kept_from next fields arguments) at ≡ false
none_before next at [] arguments less = refl
none_before next at (field ∷ fields) [] less = refl
none_before next at (field ∷ fields) (argument ∷ arguments) less =
    by_test (field == argument) (none_before (suc next) at fields arguments (omega (arith, less)))
  where
    apart : at < next → (next == at) ≡ false
    apart less = grind arith

    by_test : (t : Bool) → is_among (kept_from (suc next) fields arguments) at ≡ false
        → is_among (if t then next ∷ kept_from (suc next) fields arguments else kept_from (suc next) fields arguments) at ≡ false
    by_test true later = rw (apart less) later
    by_test false later = later

-- a list with the same positions from there on keeps what is known
keeps_alike : (next : ℕ) (kept fields arguments : List ℕ)
    → ((at : ℕ) → next ≤ at → is_among kept at ≡ is_among (kept_from next fields arguments) at)
    → KeepsKnown next kept fields arguments
keeps_alike next kept [] [] alike = tt
keeps_alike next kept (field ∷ fields) [] alike = tt
keeps_alike next kept [] (argument ∷ arguments) alike =
    (alike next (omega arith), keeps_alike (suc next) kept [] arguments (λ at more. alike at (omega (arith, more))))
keeps_alike next kept (field ∷ fields) (argument ∷ arguments) alike = (
  by_test (field == argument) refl (alike next (omega arith)),
  keeps_alike (suc next) kept fields arguments (λ at more. alike at (omega (arith, more)) ∙ further (field == argument) at more),
)
  where
    equal : (field == argument) ≡ true → field ≡ argument
    equal is = grind arith

    by_test : (t : Bool) → (field == argument) ≡ t
        → is_among kept next
        ≡ is_among (if t then next ∷ kept_from (suc next) fields arguments else kept_from (suc next) fields arguments) next
        → is_among kept next ≡ true → field ≡ argument
    by_test true is same among = equal is
    by_test false is same among =
        let clash : true ≡ false
        = sym among ∙ (same ∙ none_before (suc next) next fields arguments (omega arith)) in
        absurd (cc)

    apart : (at : ℕ) → suc next ≤ at → (next == at) ≡ false
    apart at more = grind arith

    further : (t : Bool) (at : ℕ) → suc next ≤ at
        → is_among (if t then next ∷ kept_from (suc next) fields arguments else kept_from (suc next) fields arguments) at
        ≡ is_among (kept_from (suc next) fields arguments) at
    further true at more = rw (apart at more) refl
    further false at more = refl

-- ---- what is left is known

mutual
  leaves_known : (known : List KnownFields) (code : Tokened) → LeavesKnown known (respec known code)
  leaves_known known (Tokened.give x) = tt
  leaves_known known (Tokened.tail_call f arguments) = tt
  leaves_known known (Tokened.case x decisions arms) = leave_known known arms
  leaves_known known (Tokened.compute x form arguments others rest) = leaves_known (forget_variable x known) rest
  leaves_known known (Tokened.inside x block rest) = (leaves_known known block, leaves_known [] rest)
  leaves_known known (Tokened.read x c fields rest) = leaves_known (forget_variables fields known) rest
  leaves_known known (Tokened.open_cell x c fields used y rest) = leaves_known (known_opened fields y known) rest
  leaves_known known (Tokened.if_unique x c fields used y rest) = leaves_known (known_opened fields y known) rest
  leaves_known known (Tokened.dup x rest) = leaves_known known rest
  leaves_known known (Tokened.drop x rest) = leaves_known known rest
  leaves_known known (Tokened.fill x y c first arguments kept others rest) = (
    keeps_alike 0 (kept_from 0 (fields_in known y) (first ∷ arguments)) (fields_in known y) (first ∷ arguments)
        (λ at more. refl),
    leaves_known (forget_variable x (forget_slot y known)) rest,
  )
  leaves_known known (Tokened.free y rest) = leaves_known (forget_slot y known) rest
  leaves_known known (Tokened.null y rest) = leaves_known (forget_slot y known) rest
  leaves_known known (Tokened.move to of rest) = leaves_known (forget_slot to (forget_slot of known)) rest
  leaves_known known (Tokened.hold y rest) = leaves_known known rest
  leaves_known known (Tokened.unhold y rest) = leaves_known known rest
  leaves_known known (Tokened.if_token y there absent) = (leaves_known known there, leaves_known known absent)

  leave_known : (known : List KnownFields) (arms : TokenedArms) → LeaveKnown known (respec_arms known arms)
  leave_known known TokenedArms.no_arm = tt
  leave_known known (TokenedArms.arm body rest) = (leaves_known known body, leave_known known rest)

-- ---- held tokens

-- the rest of a form that is no call is judged with no token held
abbrev RestStraight : List KnownFields → Tokened → Type 0
RestStraight known rest = (held : List ℕ) → HoldsAtCalls held rest → HoldsAtCalls held (respec known rest)

form_straight : (known : List KnownFields) (x : ℕ) (form : Form) (arguments others held : List ℕ) (rest : Tokened)
    → RestStraight (forget_variable x known) rest → HoldsAtCalls held (Tokened.compute x form arguments others rest)
    → HoldsAtCalls held (Tokened.compute x form arguments others (respec (forget_variable x known) rest))
form_straight known x (Call f) arguments others held rest later straight = later held straight
form_straight known x (Number n) arguments others held rest later straight = (straight.0, later [] straight.1)
form_straight known x Nothing arguments others held rest later straight = (straight.0, later [] straight.1)
form_straight known x ReadByte arguments others held rest later straight = (straight.0, later [] straight.1)
form_straight known x (PrintText form text) arguments others held rest later straight = (straight.0, later [] straight.1)
form_straight known x (Unary operator) arguments others held rest later straight = (straight.0, later [] straight.1)
form_straight known x (Binary operator) arguments others held rest later straight = (straight.0, later [] straight.1)
form_straight known x (Print form) arguments others held rest later straight = (straight.0, later [] straight.1)
form_straight known x (Construct c) arguments others held rest later straight = (straight.0, later [] straight.1)

mutual
  straight_same : (known : List KnownFields) (code : Tokened) → RestStraight known code
  straight_same known (Tokened.give x) held straight = straight
  straight_same known (Tokened.tail_call f arguments) held straight = straight
  straight_same known (Tokened.case x decisions arms) held straight = (straight.0, straight_same_arms known arms straight.1)
  straight_same known (Tokened.compute x form arguments others rest) held straight =
      form_straight known x form arguments others held rest (straight_same (forget_variable x known) rest) straight
  straight_same known (Tokened.inside x block rest) held straight =
      (straight.0, (straight_same known block [] straight.1.0, straight_same [] rest [] straight.1.1))
  straight_same known (Tokened.read x c fields rest) held straight =
      (straight.0, straight_same (forget_variables fields known) rest [] straight.1)
  straight_same known (Tokened.open_cell x c fields used y rest) held straight =
      (straight.0, straight_same (known_opened fields y known) rest [] straight.1)
  straight_same known (Tokened.if_unique x c fields used y rest) held straight =
      (straight.0, straight_same (known_opened fields y known) rest [] straight.1)
  straight_same known (Tokened.dup x rest) held straight = (straight.0, straight_same known rest [] straight.1)
  straight_same known (Tokened.drop x rest) held straight = straight_same known rest held straight
  straight_same known (Tokened.fill x y c first arguments kept others rest) held straight =
      (straight.0, straight_same (forget_variable x (forget_slot y known)) rest [] straight.1)
  straight_same known (Tokened.free y rest) held straight = (straight.0, straight_same (forget_slot y known) rest [] straight.1)
  straight_same known (Tokened.null y rest) held straight = (straight.0, straight_same (forget_slot y known) rest [] straight.1)
  straight_same known (Tokened.move to of rest) held straight =
      (straight.0, straight_same (forget_slot to (forget_slot of known)) rest [] straight.1)
  straight_same known (Tokened.hold y rest) held straight = (straight.0, straight_same known rest (y ∷ held) straight.1)
  straight_same known (Tokened.unhold y rest) held straight =
      (straight.0, (straight.1.0, straight_same known rest straight.0 straight.1.1))
  straight_same known (Tokened.if_token y there absent) held straight =
      (straight.0, (straight_same known there [] straight.1.0, straight_same known absent [] straight.1.1))

  straight_same_arms : (known : List KnownFields) (arms : TokenedArms) → HoldAtCalls arms → HoldAtCalls (respec_arms known arms)
  straight_same_arms known TokenedArms.no_arm straight = tt
  straight_same_arms known (TokenedArms.arm body rest) straight =
      (straight_same known body [] straight.0, straight_same_arms known rest straight.1)

-- ---- functions

pub program_leaves : (program : TokenedProgram) (f : ℕ) (function : TokenedFunction)
    → slice_get (respecialised_program program).functions f ≡ Some function → LeavesKnown [] function.body
program_leaves program =
    each_function (λ function. LeavesKnown [] function.body) program.functions (λ f function is. leaves_known [] function.body)

pub program_lowerable : (program : TokenedProgram) → AreTokensLowerable program.functions
    → AreTokensLowerable (respecialised_program program).functions
program_lowerable program lowerable =
    each_function IsTokenLowerable program.functions
    (λ f function is. record {
      slots = subst (λ n. n ≤ most_slots) (sym (slots_same [] function.body)) (lowerable f function is).slots;
      straight = straight_same [] function.body [] (lowerable f function is).straight;
      leaves = leaves_known [] function.body;
    })

-- it has no more slots
pub program_slots : (most : ℕ) (program : TokenedProgram) → AllHaveSlotsBelow most program.functions
    → AllHaveSlotsBelow most (respecialised_program program).functions
program_slots most program few =
    each_function (λ (function : TokenedFunction). slots_in function.body ≤ most) program.functions
    (λ f function is. subst (λ n. n ≤ most) (sym (slots_same [] function.body)) (few f function is))
