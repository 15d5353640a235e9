-- Respecialised code leaves all fields that are known.
use Rattle.std.proofs.Common.{◌≡◌, ◌==◌, ℕ, suc, Bool, true, false, List, [], ◌∷◌, Some, refl, arith}
use Rattle.std.specs.Prelude.{if◌then◌else◌, slice_get}
use Rattle.kk_syntax.specs.Shapes.{is_among}
use Rattle.kk_counted.specs.KeptFields.{KnownFields, fields_in, forget_slot, forget_variable, forget_variables, known_opened}
use Rattle.kk_counted.specs.TokenedCodes.{Tokened, TokenedArms, TokenedFunction, TokenedProgram}
use Rattle.kk_counted.proofs.Variables.{among_later}
use Rattle.kk_respec.specs.AllKnown.{KeepsAllKnown, LeavesAllKnown, LeaveAllKnown}
use Rattle.kk_respec.specs.Respecialised.{kept_from, respec, respec_arms, respecialised_program}
use Rattle.kk_respec.proofs.Forms.{each_function}

-- a list with the kept positions from there on keeps all that is known
keeps_all : (next : ℕ) (kept fields arguments : List ℕ)
    → ((at : ℕ) → is_among (kept_from next fields arguments) at ≡ true → is_among kept at ≡ true)
    → KeepsAllKnown next kept fields arguments
keeps_all next kept [] [] has = tt
keeps_all next kept (field ∷ fields) [] has = tt
keeps_all next kept [] (argument ∷ arguments) has = tt
keeps_all next kept (field ∷ fields) (argument ∷ arguments) has = (
  λ same. has next (here (field == argument) (equal same)),
  keeps_all (suc next) kept fields arguments (λ at among. has at (further (field == argument) at among)),
)
  where
    equal : field ≡ argument → (field == argument) ≡ true
    equal same = grind arith

    itself : (next == next) ≡ true
    itself = grind arith

    here : (t : Bool) → t ≡ true
        → is_among (if t then next ∷ kept_from (suc next) fields arguments else kept_from (suc next) fields arguments) next ≡ true
    here true is = rw itself refl
    here false is = absurd (cc)

    further : (t : Bool) (at : ℕ) → is_among (kept_from (suc next) fields arguments) at ≡ true
        → is_among (if t then next ∷ kept_from (suc next) fields arguments else kept_from (suc next) fields arguments) at ≡ true
    further true at among = among_later next at (kept_from (suc next) fields arguments) among
    further false at among = among

-- respecialised code leaves all that is known
mutual
  leaves_all : (known : List KnownFields) (code : Tokened) → LeavesAllKnown known (respec known code)
  leaves_all known (Tokened.give x) = tt
  leaves_all known (Tokened.tail_call f arguments) = tt
  leaves_all known (Tokened.case x decisions arms) = arms_leave_all known arms
  leaves_all known (Tokened.compute x form arguments others rest) = leaves_all (forget_variable x known) rest
  leaves_all known (Tokened.inside x block rest) = (leaves_all known block, leaves_all [] rest)
  leaves_all known (Tokened.read x c fields rest) = leaves_all (forget_variables fields known) rest
  leaves_all known (Tokened.open_cell x c fields used y rest) = leaves_all (known_opened fields y known) rest
  leaves_all known (Tokened.if_unique x c fields used y rest) = leaves_all (known_opened fields y known) rest
  leaves_all known (Tokened.dup x rest) = leaves_all known rest
  leaves_all known (Tokened.drop x rest) = leaves_all known rest
  leaves_all known (Tokened.fill x y c first arguments kept others rest) = (
    keeps_all 0 (kept_from 0 (fields_in known y) (first ∷ arguments)) (fields_in known y) (first ∷ arguments)
        (λ at among. among),
    leaves_all (forget_variable x (forget_slot y known)) rest,
  )
  leaves_all known (Tokened.free y rest) = leaves_all (forget_slot y known) rest
  leaves_all known (Tokened.null y rest) = leaves_all (forget_slot y known) rest
  leaves_all known (Tokened.move to of rest) = leaves_all (forget_slot to (forget_slot of known)) rest
  leaves_all known (Tokened.hold y rest) = leaves_all known rest
  leaves_all known (Tokened.unhold y rest) = leaves_all known rest
  leaves_all known (Tokened.if_token y there absent) = (leaves_all known there, leaves_all known absent)

  arms_leave_all : (known : List KnownFields) (arms : TokenedArms) → LeaveAllKnown known (respec_arms known arms)
  arms_leave_all known TokenedArms.no_arm = tt
  arms_leave_all known (TokenedArms.arm body rest) = (leaves_all known body, arms_leave_all known rest)

-- each function of a respecialised program leaves all that is known
pub program_leaves_all : (program : TokenedProgram) (f : ℕ) (function : TokenedFunction)
    → slice_get (respecialised_program program).functions f ≡ Some function → LeavesAllKnown [] function.body
program_leaves_all program =
    each_function (λ function. LeavesAllKnown [] function.body) program.functions
    (λ f function is. leaves_all [] function.body)
