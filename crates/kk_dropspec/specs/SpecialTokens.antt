-- Drop specialisation of code with tokens: each opening goes by the count of the cell, and its slot stays.
use Rattle.kk_counted.specs.TokenedCodes.{Tokened, TokenedArms}

abbrev mutual
  pub special_tokened : Tokened → Tokened
  special_tokened (Tokened.give x) = Tokened.give x
  special_tokened (Tokened.tail_call f arguments) = Tokened.tail_call f arguments
  special_tokened (Tokened.case x decisions arms) = Tokened.case x decisions (special_tokened_arms arms)
  special_tokened (Tokened.compute x form arguments others rest) =
      Tokened.compute x form arguments others (special_tokened rest)
  special_tokened (Tokened.inside x block rest) = Tokened.inside x (special_tokened block) (special_tokened rest)
  special_tokened (Tokened.read x c fields rest) = Tokened.read x c fields (special_tokened rest)
  special_tokened (Tokened.open_cell x c fields used y rest) = Tokened.if_unique x c fields used y (special_tokened rest)
  special_tokened (Tokened.if_unique x c fields used y rest) = Tokened.if_unique x c fields used y (special_tokened rest)
  special_tokened (Tokened.dup x rest) = Tokened.dup x (special_tokened rest)
  special_tokened (Tokened.drop x rest) = Tokened.drop x (special_tokened rest)
  special_tokened (Tokened.fill x y c first arguments kept others rest) =
      Tokened.fill x y c first arguments kept others (special_tokened rest)
  special_tokened (Tokened.free y rest) = Tokened.free y (special_tokened rest)
  special_tokened (Tokened.null y rest) = Tokened.null y (special_tokened rest)
  special_tokened (Tokened.move to of rest) = Tokened.move to of (special_tokened rest)
  special_tokened (Tokened.hold y rest) = Tokened.hold y (special_tokened rest)
  special_tokened (Tokened.unhold y rest) = Tokened.unhold y (special_tokened rest)
  special_tokened (Tokened.if_token y there absent) = Tokened.if_token y (special_tokened there) (special_tokened absent)

  pub special_tokened_arms : TokenedArms → TokenedArms
  special_tokened_arms TokenedArms.no_arm = TokenedArms.no_arm
  special_tokened_arms (TokenedArms.arm body rest) = TokenedArms.arm (special_tokened body) (special_tokened_arms rest)
