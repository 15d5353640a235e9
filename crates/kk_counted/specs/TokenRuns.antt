-- Runs of code with tokens and of its bare form do the same.
use Rattle.std.specs.Prelude.{◌≡◌, ℕ, ◌+◌, ◌==◌, ◌&&◌, Bool, true, false, List, length, Option, if◌then◌else◌}
use Rattle.kk_base.specs.Agreements.{Agree}
use Rattle.kk_base.specs.Machines.{trace}
use Rattle.kk_source.specs.Actions.{Action, goes, puts, takes, builds, calls}
use Rattle.kk_counted.specs.Heaps.{busy}
use Rattle.kk_counted.specs.CountedStates.{CountedConfiguration, CountedState, counted_first_state}
use Rattle.kk_counted.specs.CountedMachine.{counted_machine}
use Rattle.kk_counted.specs.Keeping.{counted_after}
use Rattle.kk_counted.specs.TokenedCodes.{Tokened}
use Rattle.kk_counted.specs.Tokens.{spent, marked}
use Rattle.kk_counted.specs.TokenStates.{TokenSetting, TokenControl, TokenConfiguration, TokenState, token_first_state, bare_configuration, bare_state, bare_setting}
use Rattle.kk_counted.specs.TokenMachine.{token_machine, TokenNotStuck}
use Rattle.kk_counted.specs.TokenKeeping.{AreKept, Lists, AreKeptBy, token_after}

-- a form that its bare form does not have
abbrev pub is_quiet : Tokened → Bool
is_quiet (Tokened.free y rest) = true
is_quiet (Tokened.null y rest) = true
is_quiet (Tokened.move to of rest) = true
is_quiet (Tokened.hold y rest) = true
is_quiet (Tokened.unhold y rest) = true
is_quiet (Tokened.if_token y there absent) = true
is_quiet _ = false

abbrev pub is_quiet_at : TokenControl → Bool
is_quiet_at (TokenControl.running code environment joins) = is_quiet code
is_quiet_at _ = false

-- a step weighs what its bare form does, and nothing where the bare form does not have it
abbrev pub bare_weight : (CountedState → ℕ) → TokenState → ℕ
bare_weight weight s = if is_quiet_at s.machine.control then 0 else weight (bare_state s)

-- ---- one step

-- an action of the machine with tokens, without them
abbrev pub bare_action : Action TokenConfiguration → Action CountedConfiguration
bare_action (goes to) = goes (bare_configuration to)
bare_action (puts piece to) = puts piece (bare_configuration to)
bare_action (takes to) = takes (λ byte. bare_configuration (to byte))
bare_action (builds found to) = builds found (bare_configuration to)
bare_action (calls found to) = calls found (bare_configuration to)

-- what is true of each configuration to which an action leads
abbrev pub AllLead : (TokenConfiguration → Type 0) → Action TokenConfiguration → Type 0
AllLead P (goes to) = P to
AllLead P (puts piece to) = P to
AllLead P (takes to) = (byte : Option ℕ) → P (to byte)
AllLead P (builds found to) = P to
AllLead P (calls found to) = P to

-- an action does what one of the counted machine does, and leads to tokens that are kept by lists of which something is true
pub record IsFollowed (cells : ℕ) (P : Lists → Type 0) (action : Action TokenConfiguration)
    (below : Action CountedConfiguration) : Type 0 where
  pub does : bare_action action ≡ below
  pub keeps : AllLead (AreKeptBy cells P) action

-- An action that the counted machine does not have: it leads to a configuration that is the same without its tokens, which are
-- kept.
pub record IsUnseen (cells : ℕ) (P : Lists → Type 0) (action : Action TokenConfiguration) (same : CountedConfiguration) : Type 0
  where
    pub to : TokenConfiguration
    pub is : action ≡ goes to
    pub alike : bare_configuration to ≡ same
    pub keeps : AreKeptBy cells P to

-- ---- whole runs

-- Both machines tell the same notes and end alike. In each state of the machine with tokens these are kept, and it is not stuck.
pub record IsSameRun (weight : CountedState → ℕ) (setting : TokenSetting) (input : List ℕ) : Type 0 where
  pub agrees : Agree (counted_machine weight (bare_setting setting)) (token_machine (bare_weight weight) setting) 0 (λ m. m + 1)
      (counted_first_state (bare_setting setting) input) (token_first_state setting input)
  pub kept : (n : ℕ) → AreKept setting.cells (token_after (bare_weight weight) setting input n)
  pub never_stuck : (n : ℕ) → TokenNotStuck (token_after (bare_weight weight) setting input n).control

-- A construction in the cell of the token of a slot takes no cell from anywhere else: as many cells as before are counted or are
-- tokens, no other slot changes, and the chain is the same.
pub record TakesNoCell (f y : ℕ) (from to : TokenConfiguration) : Type 0 where
  pub cells : busy to.heap + marked to.tokens.marks (length to.heap) ≡ busy from.heap + marked from.tokens.marks (length from.heap)
  pub slots : (g z : ℕ) → to.tokens.slots g z ≡ (if (g == f) && (z == y) then spent else from.tokens.slots g z)
  pub chain : to.tokens.chain ≡ from.tokens.chain

-- The run with tokens comes to the n-th state of the bare run: with the same notes told, and at a form that the bare form has too.
abbrev pub ComesTo : (CountedState → ℕ) → (TokenState → ℕ) → TokenSetting → List ℕ → ℕ → Type 0
ComesTo below weight setting input n =
    (m : ℕ)
    × ((bare_configuration (token_after weight setting input m) ≡ counted_after below (bare_setting setting) input n)
    × ((trace (token_machine weight setting) m (token_first_state setting input)
    ≡ trace (counted_machine below (bare_setting setting)) n (counted_first_state (bare_setting setting) input))
    × (is_quiet_at (token_after weight setting input m).control ≡ false)))
