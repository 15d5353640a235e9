-- Reuse specialisation: a construction in a token's cell leaves the fields that are known to be its arguments.
use Rattle.std.specs.Prelude.{ℕ, suc, ◌==◌, Bool, List, [], ◌∷◌, map, if◌then◌else◌}
use Rattle.kk_counted.specs.KeptFields.{KnownFields, fields_in, forget_slot, forget_variable, forget_variables, known_opened}
use Rattle.kk_counted.specs.TokenStates.{TokenSetting}
use Rattle.kk_counted.specs.TokenedCodes.{Tokened, TokenedArms, TokenedFunction, TokenedProgram}

-- the positions, counted from a first one on, at which the argument is the variable that is known there
abbrev pub kept_from : ℕ → List ℕ → List ℕ → List ℕ
kept_from next [] arguments = []
kept_from next (field ∷ fields) [] = []
kept_from next (field ∷ fields) (argument ∷ arguments) =
    if field == argument then next ∷ kept_from (suc next) fields arguments else kept_from (suc next) fields arguments

-- The code, by what is known in front of it (kk_counted/specs/KeptFields): each construction in a token's cell leaves the fields
-- that are known to be its arguments, and no other.
abbrev mutual
  pub respec : List KnownFields → Tokened → Tokened
  respec known (Tokened.give x) = Tokened.give x
  respec known (Tokened.tail_call f arguments) = Tokened.tail_call f arguments
  respec known (Tokened.case x decisions arms) = Tokened.case x decisions (respec_arms known arms)
  respec known (Tokened.compute x form arguments others rest) =
      Tokened.compute x form arguments others (respec (forget_variable x known) rest)
  respec known (Tokened.inside x block rest) = Tokened.inside x (respec known block) (respec [] rest)
  respec known (Tokened.read x c fields rest) = Tokened.read x c fields (respec (forget_variables fields known) rest)
  respec known (Tokened.open_cell x c fields used y rest) =
      Tokened.open_cell x c fields used y (respec (known_opened fields y known) rest)
  respec known (Tokened.if_unique x c fields used y rest) =
      Tokened.if_unique x c fields used y (respec (known_opened fields y known) rest)
  respec known (Tokened.dup x rest) = Tokened.dup x (respec known rest)
  respec known (Tokened.drop x rest) = Tokened.drop x (respec known rest)
  respec known (Tokened.fill x y c first arguments kept others rest) =
      Tokened.fill x y c first arguments (kept_from 0 (fields_in known y) (first ∷ arguments)) others
      (respec (forget_variable x (forget_slot y known)) rest)
  respec known (Tokened.free y rest) = Tokened.free y (respec (forget_slot y known) rest)
  respec known (Tokened.null y rest) = Tokened.null y (respec (forget_slot y known) rest)
  respec known (Tokened.move to of rest) = Tokened.move to of (respec (forget_slot to (forget_slot of known)) rest)
  respec known (Tokened.hold y rest) = Tokened.hold y (respec known rest)
  respec known (Tokened.unhold y rest) = Tokened.unhold y (respec known rest)
  respec known (Tokened.if_token y there absent) = Tokened.if_token y (respec known there) (respec known absent)

  pub respec_arms : List KnownFields → TokenedArms → TokenedArms
  respec_arms known TokenedArms.no_arm = TokenedArms.no_arm
  respec_arms known (TokenedArms.arm body rest) = TokenedArms.arm (respec known body) (respec_arms known rest)

-- at the start of a function nothing is known
abbrev pub respecialised_function : TokenedFunction → TokenedFunction
respecialised_function function = record { parameters = function.parameters; body = respec [] function.body }

abbrev pub respecialised_program : TokenedProgram → TokenedProgram
respecialised_program program =
    record { functions = map respecialised_function program.functions; texts = program.texts; main = program.main }

-- what is run: whether constructions leave the kept fields or write all of them is told apart
abbrev pub respecialised_setting : Bool → TokenSetting → TokenSetting
respecialised_setting leaves setting = record {
  program = respecialised_program setting.program;
  cells = setting.cells;
  depth = setting.depth;
  leaves = leaves;
}
