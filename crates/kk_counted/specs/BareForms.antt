-- The bare form of code with tokens: the same code without them.
use Rattle.std.specs.Prelude.{◌∷◌, map}
use Rattle.kk_syntax.specs.declared.program.Form.TheVariants.{Construct}
use Rattle.kk_counted.specs.CountedCodes.{Counted, give, tail_call, case, compute, inside, read, open_cell, if_unique, dup, drop, CountedArms, no_arm, arm, CountedFunction, CountedProgram}
use Rattle.kk_counted.specs.TokenedCodes.{Tokened, TokenedArms, TokenedFunction, TokenedProgram}

-- a construction in a token's cell is a construction; a test of a token does the same either way
abbrev mutual
  pub bare : Tokened → Counted
  bare (Tokened.give x) = give x
  bare (Tokened.tail_call f arguments) = tail_call f arguments
  bare (Tokened.case x decisions arms) = case x decisions (bare_arms arms)
  bare (Tokened.compute x form arguments others rest) = compute x form arguments (bare rest)
  bare (Tokened.inside x block rest) = inside x (bare block) (bare rest)
  bare (Tokened.read x c fields rest) = read x c fields (bare rest)
  bare (Tokened.open_cell x c fields used y rest) = open_cell x c fields used (bare rest)
  bare (Tokened.if_unique x c fields used y rest) = if_unique x c fields used (bare rest)
  bare (Tokened.dup x rest) = dup x (bare rest)
  bare (Tokened.drop x rest) = drop x (bare rest)
  bare (Tokened.fill x y c first arguments kept others rest) = compute x (Construct c) (first ∷ arguments) (bare rest)
  bare (Tokened.free y rest) = bare rest
  bare (Tokened.null y rest) = bare rest
  bare (Tokened.move to from rest) = bare rest
  bare (Tokened.hold y rest) = bare rest
  bare (Tokened.unhold y rest) = bare rest
  bare (Tokened.if_token y there absent) = bare there

  pub bare_arms : TokenedArms → CountedArms
  bare_arms TokenedArms.no_arm = no_arm
  bare_arms (TokenedArms.arm body rest) = arm (bare body) (bare_arms rest)

abbrev pub bare_function : TokenedFunction → CountedFunction
bare_function function = record { parameters = function.parameters; body = bare function.body }

abbrev pub bare_program : TokenedProgram → CountedProgram
bare_program program = record { functions = map bare_function program.functions; texts = program.texts; main = program.main }
