-- What the steps of the machine with tokens cost, in the unit of CountedCosts; and the room for this in the costs of the bare form.
use Rattle.std.specs.Prelude.{◌≡◌, ℕ, suc, ◌+◌, ◌*◌, ◌≤◌, List, length, max, Some, if◌then◌else◌, slice_get}
use Rattle.kk_source.specs.State.{Environment}
use Rattle.kk_counted.specs.BareForms.{bare}
use Rattle.kk_counted.specs.CountedCodes.{Counted, give, tail_call, case, compute, inside, read, open_cell, if_unique, dup, drop, CountedArms, no_arm, arm, CountedFunction, CountedProgram}
use Rattle.kk_counted.specs.CountedCosts.{code_cost}
use Rattle.kk_counted.specs.CountedStates.{CountedState}
use Rattle.kk_counted.specs.Heaps.{Heap}
use Rattle.kk_counted.specs.TokenRuns.{is_quiet}
use Rattle.kk_counted.specs.Keeping.{counted_after}
use Rattle.kk_counted.specs.TokenKeeping.{AreKept, token_after}
use Rattle.kk_counted.specs.TokenMachine.{TokenNotStuck}
use Rattle.kk_counted.specs.TokenStates.{TokenSetting, TokenControl, TokenState, bare_configuration, bare_setting}
use Rattle.kk_counted.specs.TokenedCodes.{Tokened, TokenedArms, TokenedFunction, TokenedProgram}

-- a form that its bare form does not have
abbrev pub quiet_cost : ℕ
quiet_cost = 12

-- a token that a construction names beside its own, and that it may have to take
abbrev pub other_cost : ℕ
other_cost = 24

abbrev pub others_cost : Tokened → ℕ
others_cost (Tokened.compute x form arguments others rest) = other_cost * length others
others_cost (Tokened.fill x y c first arguments kept others rest) = other_cost * length others
others_cost _ = 0

-- a form that the bare form has costs what it costs there, and more for the tokens that it names
abbrev pub tokened_cost : Tokened → Environment → Heap → ℕ
tokened_cost code environment heap =
    if is_quiet code then quiet_cost else code_cost (bare code) environment heap + others_cost code

-- the cost of the step from a state; an ended machine has none
abbrev pub token_control_cost : TokenControl → Heap → ℕ
token_control_cost (TokenControl.running code environment joins) heap = tokened_cost code environment heap
token_control_cost _ heap = 0

abbrev pub token_cost : TokenState → ℕ
token_cost s = token_control_cost s.machine.control s.machine.heap

-- ---- the room that tokens need

-- What tokens cost from a code on to the next form that pays room (CountedCosts), which is any but a dup, a drop and those that
-- only tokens have: the tokens that it names too, and the greater way of a test.
abbrev pub tokens_ahead : Tokened → ℕ
tokens_ahead (Tokened.dup x rest) = tokens_ahead rest
tokens_ahead (Tokened.drop x rest) = tokens_ahead rest
tokens_ahead (Tokened.free y rest) = quiet_cost + tokens_ahead rest
tokens_ahead (Tokened.null y rest) = quiet_cost + tokens_ahead rest
tokens_ahead (Tokened.move to of rest) = quiet_cost + tokens_ahead rest
tokens_ahead (Tokened.hold y rest) = quiet_cost + tokens_ahead rest
tokens_ahead (Tokened.unhold y rest) = quiet_cost + tokens_ahead rest
tokens_ahead (Tokened.if_token y there absent) = quiet_cost + max (tokens_ahead there) (tokens_ahead absent)
tokens_ahead code = others_cost code

-- the most that tokens cost so, from any place of a code on
abbrev mutual
  pub room_needed : Tokened → ℕ
  room_needed (Tokened.give x) = 0
  room_needed (Tokened.tail_call f arguments) = 0
  room_needed (Tokened.case x decisions arms) = arms_need_room arms
  room_needed (Tokened.compute x form arguments others rest) = max (other_cost * length others) (room_needed rest)
  room_needed (Tokened.inside x block rest) = max (room_needed block) (room_needed rest)
  room_needed (Tokened.read x c fields rest) = room_needed rest
  room_needed (Tokened.open_cell x c fields used y rest) = room_needed rest
  room_needed (Tokened.if_unique x c fields used y rest) = room_needed rest
  room_needed (Tokened.dup x rest) = room_needed rest
  room_needed (Tokened.drop x rest) = room_needed rest
  room_needed (Tokened.fill x y c first arguments kept others rest) = max (other_cost * length others) (room_needed rest)
  room_needed (Tokened.free y rest) = max (quiet_cost + tokens_ahead rest) (room_needed rest)
  room_needed (Tokened.null y rest) = max (quiet_cost + tokens_ahead rest) (room_needed rest)
  room_needed (Tokened.move to of rest) = max (quiet_cost + tokens_ahead rest) (room_needed rest)
  room_needed (Tokened.hold y rest) = max (quiet_cost + tokens_ahead rest) (room_needed rest)
  room_needed (Tokened.unhold y rest) = max (quiet_cost + tokens_ahead rest) (room_needed rest)
  room_needed (Tokened.if_token y there absent) =
      max (quiet_cost + max (tokens_ahead there) (tokens_ahead absent)) (max (room_needed there) (room_needed absent))

  pub arms_need_room : TokenedArms → ℕ
  arms_need_room TokenedArms.no_arm = 0
  arms_need_room (TokenedArms.arm body rest) = max (room_needed body) (arms_need_room rest)

-- so much room is enough for a program's tokens, at any place of its functions
abbrev pub HasRoom : ℕ → TokenedProgram → Type 0
HasRoom room program =
    (f : ℕ) (function : TokenedFunction) → slice_get program.functions f ≡ Some function → room_needed function.body ≤ room

-- ---- runs, whatever their steps weigh

-- In each state of a run the tokens are kept, it is not stuck, and without its tokens it is a state of the bare run.
pub record AreStatesKept (weight : TokenState → ℕ) (below : CountedState → ℕ) (setting : TokenSetting) (input : List ℕ) : Type 0
  where
    pub kept : (n : ℕ) → AreKept setting.cells (token_after weight setting input n)
    pub never_stuck : (n : ℕ) → TokenNotStuck (token_after weight setting input n).control
    pub states : (n : ℕ) → (m : ℕ)
        × (bare_configuration (token_after weight setting input n) ≡ counted_after below (bare_setting setting) input m)

-- ---- a number of tokens

-- the most openings on a path of a code: so many tokens a function has at most
abbrev mutual
  pub openings : Counted → ℕ
  openings (give x) = 0
  openings (tail_call f arguments) = 0
  openings (case x decisions arms) = openings_of arms
  openings (compute x form arguments rest) = openings rest
  openings (inside x block rest) = openings block + openings rest
  openings (read x c fields rest) = openings rest
  openings (open_cell x c fields used rest) = suc (openings rest)
  openings (if_unique x c fields used rest) = suc (openings rest)
  openings (dup x rest) = openings rest
  openings (drop x rest) = openings rest

  pub openings_of : CountedArms → ℕ
  openings_of no_arm = 0
  openings_of (arm body rest) = max (openings body) (openings_of rest)

-- no function of a program has more of them
abbrev pub OpenAtMost : ℕ → CountedProgram → Type 0
OpenAtMost most program =
    (f : ℕ) (function : CountedFunction) → slice_get program.functions f ≡ Some function → openings function.body ≤ most
