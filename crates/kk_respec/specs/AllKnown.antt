-- Code with tokens whose constructions leave all fields that are known to be their arguments.
use Rattle.std.specs.Prelude.{◌≡◌, ℕ, suc, true, List, [], ◌∷◌}
use Rattle.kk_syntax.specs.Shapes.{is_among}
use Rattle.kk_counted.specs.KeptFields.{KnownFields, fields_in, forget_slot, forget_variable, forget_variables, known_opened}
use Rattle.kk_counted.specs.TokenedCodes.{Tokened, TokenedArms}

-- the positions, counted from a first one on, at which the argument is the variable that is known there are all kept
abbrev pub KeepsAllKnown : ℕ → List ℕ → List ℕ → List ℕ → Type 0
KeepsAllKnown next kept fields [] = Unit {0}
KeepsAllKnown next kept [] (argument ∷ arguments) = Unit {0}
KeepsAllKnown next kept (field ∷ fields) (argument ∷ arguments) =
    (field ≡ argument → is_among kept next ≡ true) × KeepsAllKnown (suc next) kept fields arguments

-- Each construction in a token's cell leaves all fields that are known to be its arguments. What is known is as in
-- kk_counted/specs/KeptFields.
abbrev mutual
  pub LeavesAllKnown : List KnownFields → Tokened → Type 0
  LeavesAllKnown known (Tokened.give x) = Unit {0}
  LeavesAllKnown known (Tokened.tail_call f arguments) = Unit {0}
  LeavesAllKnown known (Tokened.case x decisions arms) = LeaveAllKnown known arms
  LeavesAllKnown known (Tokened.compute x form arguments others rest) = LeavesAllKnown (forget_variable x known) rest
  LeavesAllKnown known (Tokened.inside x block rest) = LeavesAllKnown known block × LeavesAllKnown [] rest
  LeavesAllKnown known (Tokened.read x c fields rest) = LeavesAllKnown (forget_variables fields known) rest
  LeavesAllKnown known (Tokened.open_cell x c fields used y rest) = LeavesAllKnown (known_opened fields y known) rest
  LeavesAllKnown known (Tokened.if_unique x c fields used y rest) = LeavesAllKnown (known_opened fields y known) rest
  LeavesAllKnown known (Tokened.dup x rest) = LeavesAllKnown known rest
  LeavesAllKnown known (Tokened.drop x rest) = LeavesAllKnown known rest
  LeavesAllKnown known (Tokened.fill x y c first arguments kept others rest) =
      KeepsAllKnown 0 kept (fields_in known y) (first ∷ arguments) × LeavesAllKnown (forget_variable x (forget_slot y known)) rest
  LeavesAllKnown known (Tokened.free y rest) = LeavesAllKnown (forget_slot y known) rest
  LeavesAllKnown known (Tokened.null y rest) = LeavesAllKnown (forget_slot y known) rest
  LeavesAllKnown known (Tokened.move to of rest) = LeavesAllKnown (forget_slot to (forget_slot of known)) rest
  LeavesAllKnown known (Tokened.hold y rest) = LeavesAllKnown known rest
  LeavesAllKnown known (Tokened.unhold y rest) = LeavesAllKnown known rest
  LeavesAllKnown known (Tokened.if_token y there absent) = LeavesAllKnown known there × LeavesAllKnown known absent

  pub LeaveAllKnown : List KnownFields → TokenedArms → Type 0
  LeaveAllKnown known TokenedArms.no_arm = Unit {0}
  LeaveAllKnown known (TokenedArms.arm body rest) = LeavesAllKnown known body × LeaveAllKnown known rest
