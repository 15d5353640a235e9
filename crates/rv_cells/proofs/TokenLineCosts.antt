-- What the steps of code with tokens weigh in assembler code, and how many forms such code has.
use Rattle.std.proofs.Common.{ℕ, suc, ◌+◌}
use Rattle.kk_counted.specs.TokenedCodes.{Tokened, TokenedArms}

-- how many forms a code has, both copies behind a test of a token
abbrev mutual
  pub forms : Tokened → ℕ
  forms (Tokened.give x) = 1
  forms (Tokened.tail_call f arguments) = 1
  forms (Tokened.case x decisions arms) = suc (arms_forms arms)
  forms (Tokened.compute x form arguments others rest) = suc (forms rest)
  forms (Tokened.inside x block rest) = suc (forms block + forms rest)
  forms (Tokened.read x c fields rest) = suc (forms rest)
  forms (Tokened.open_cell x c fields used y rest) = suc (forms rest)
  forms (Tokened.if_unique x c fields used y rest) = suc (forms rest)
  forms (Tokened.dup x rest) = suc (forms rest)
  forms (Tokened.drop x rest) = suc (forms rest)
  forms (Tokened.fill x y c first arguments kept others rest) = suc (forms rest)
  forms (Tokened.free y rest) = suc (forms rest)
  forms (Tokened.null y rest) = suc (forms rest)
  forms (Tokened.move to of rest) = suc (forms rest)
  forms (Tokened.hold y rest) = suc (forms rest)
  forms (Tokened.unhold y rest) = suc (forms rest)
  forms (Tokened.if_token y there absent) = suc (forms there + forms absent)

  pub arms_forms : TokenedArms → ℕ
  arms_forms TokenedArms.no_arm = 0
  arms_forms (TokenedArms.arm body rest) = forms body + arms_forms rest
