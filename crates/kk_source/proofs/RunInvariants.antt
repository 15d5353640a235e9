-- What each step of a machine of actions keeps, the store machine's too, holds in each state of a run.
use Rattle.std.proofs.Common.{ℕ, zero, suc, List, [], ◌∷◌, Option, Some, None}
use Rattle.kk_base.specs.Machines.{step_unless, weighing, state}
use Rattle.kk_source.specs.Actions.{Action, goes, puts, takes, builds, calls, print_step, WithInput, performed}

-- what an action leads to is of a kind, whatever it takes
abbrev pub LeadsTo : {C : Type 0} → (C → Type 0) → Action C → Type 0
LeadsTo P (goes to) = P to
LeadsTo P (puts piece to) = P to
LeadsTo P (takes to) = (byte : Option ℕ) → P (to byte)
LeadsTo P (builds found to) = P to
LeadsTo P (calls found to) = P to

-- a print leads to where it would without a piece
pub print_leads : {C : Type 0} (P : C → Type 0) (piece : List ℕ) (to : C) → P to → LeadsTo P (print_step piece to)
print_leads P [] to holds = holds
print_leads P (byte ∷ bytes) to holds = holds

module _ {C : Type 0} (P : C → Type 0) where
  pub performed_keeps : (action : Action C) (input : List ℕ) → LeadsTo P action → P (performed action input).1.machine
  performed_keeps (goes to) input holds = holds
  performed_keeps (puts piece to) input holds = holds
  performed_keeps (takes to) [] holds = holds None
  performed_keeps (takes to) (byte ∷ input) holds = holds (Some byte)
  performed_keeps (builds found to) input holds = holds
  performed_keeps (calls found to) input holds = holds

  module _ {W : Type 0} (weight : WithInput C → ℕ) (ending : WithInput C → Option W) (step : C → Action C)
      (each : (c : C) → P c → LeadsTo P (step c)) where
    next_keeps : (s : WithInput C) (how : Option W) → P s.machine
        → P (step_unless how s (performed (step s.machine) s.input)).1.machine
    next_keeps s None holds = performed_keeps (step s.machine) s.input (each s.machine holds)
    next_keeps s (Some end) holds = holds

    pub run_keeps : (n : ℕ) (s : WithInput C) → P s.machine
        → P (state (weighing weight ending (λ t. performed (step t.machine) t.input)) n s).machine
    run_keeps zero s holds = holds
    run_keeps (suc n) s holds =
        run_keeps n (step_unless (ending s) s (performed (step s.machine) s.input)).1 (next_keeps s (ending s) holds)
