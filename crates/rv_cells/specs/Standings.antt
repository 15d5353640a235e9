-- Whether code keeps what stands in the cells of its tokens, as a truth.
use Rattle.std.specs.Prelude.{ℕ, Bool, true, ◌&&◌, List, [], ◌∷◌, nat_eq, not}
use Rattle.kk_syntax.specs.declared.program.Form.{Form}
use Rattle.kk_syntax.specs.declared.program.Form.TheVariants.{Call}
use Rattle.kk_counted.specs.TokenedCodes.{Tokened, TokenedArms}
use Rattle.kk_counted.specs.TokenedForms.{TokenedMove}
use Rattle.rv_cells.specs.declared.standing.Standing.{Standing}
use Rattle.rv_cells.specs.declared.standing.Standing.TheVariants.{Nothing, Count, Cell}
use Rattle.rv_cells.specs.TokenedLines.{count_stands}

-- a cell of a constructor has what stands once it is opened
abbrev pub is_of : Standing → ℕ → Bool
is_of Nothing c = true
is_of Count c = true
is_of (Cell k) c = nat_eq k c

-- nothing stands, or no other function is called, and no token is held
abbrev pub calls_none : Standing → Form → Bool
calls_none standing (Call f) = not (count_stands standing)
calls_none standing form = true

abbrev pub holds_none : Standing → List ℕ → Bool
holds_none standing [] = true
holds_none standing (other ∷ others) = not (count_stands standing)

abbrev mutual
  pub keeps_in : Standing → Tokened → Bool
  keeps_in standing (Tokened.give x) = true
  keeps_in standing (Tokened.tail_call f arguments) = true
  keeps_in standing (Tokened.case x decisions arms) = keeps_in_arms standing arms
  keeps_in standing (Tokened.compute x form arguments others rest) =
      (calls_none standing form && holds_none standing others) && keeps_in standing rest
  keeps_in standing (Tokened.inside x block rest) = keeps_in standing block && keeps_in standing rest
  keeps_in standing (Tokened.read x c fields rest) = keeps_in standing rest
  keeps_in standing (Tokened.open_cell x c fields used y rest) = is_of standing c && keeps_in standing rest
  keeps_in standing (Tokened.if_unique x c fields used y rest) = is_of standing c && keeps_in standing rest
  keeps_in standing (Tokened.dup x rest) = keeps_in standing rest
  keeps_in standing (Tokened.drop x rest) = keeps_in standing rest
  keeps_in standing (Tokened.fill x y c first arguments kept others rest) = holds_none standing others && keeps_in standing rest
  keeps_in standing (Tokened.free y rest) = keeps_in standing rest
  keeps_in standing (Tokened.null y rest) = keeps_in standing rest
  keeps_in standing (Tokened.move to of rest) = not (count_stands standing) && keeps_in standing rest
  keeps_in standing (Tokened.hold y rest) = not (count_stands standing) && keeps_in standing rest
  keeps_in standing (Tokened.unhold y rest) = not (count_stands standing) && keeps_in standing rest
  keeps_in standing (Tokened.if_token y there absent) = keeps_in standing there && keeps_in standing absent

  pub keeps_in_arms : Standing → TokenedArms → Bool
  keeps_in_arms standing TokenedArms.no_arm = true
  keeps_in_arms standing (TokenedArms.arm body rest) = keeps_in standing body && keeps_in_arms standing rest

-- the same of steps
abbrev pub keeps_step : Standing → TokenedMove → Bool
keeps_step standing (TokenedMove.computes x form arguments others) = calls_none standing form && holds_none standing others
keeps_step standing (TokenedMove.runs x block) = keeps_in standing block
keeps_step standing (TokenedMove.reads x c fields) = true
keeps_step standing (TokenedMove.opens x c fields used y) = is_of standing c
keeps_step standing (TokenedMove.opens_unique x c fields used y) = is_of standing c
keeps_step standing (TokenedMove.dups x) = true
keeps_step standing (TokenedMove.drops x) = true
keeps_step standing (TokenedMove.fills x y c first arguments kept others) = holds_none standing others
keeps_step standing (TokenedMove.frees y) = true
keeps_step standing (TokenedMove.nulls y) = true
keeps_step standing (TokenedMove.moves to of) = not (count_stands standing)
keeps_step standing (TokenedMove.holds y) = not (count_stands standing)
keeps_step standing (TokenedMove.unholds y) = not (count_stands standing)

abbrev pub keeps_steps : Standing → List TokenedMove → Bool
keeps_steps standing [] = true
keeps_steps standing (move ∷ moves) = keeps_step standing move && keeps_steps standing moves
