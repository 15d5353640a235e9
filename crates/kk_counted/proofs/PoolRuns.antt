-- In each state of a run the names in use have cells of the pool of their own.
use Rattle.std.proofs.Common.{◌≡◌, ◌<◌, ℕ, zero, suc, arith, refl, List, [], ◌∷◌, length, Some, None}
use Rattle.kk_base.specs.Machines.{state}
use Rattle.kk_source.specs.Actions.{Action, goes, puts, takes, builds, calls, performed}
use Rattle.kk_counted.specs.Heaps.{Heap}
use Rattle.kk_counted.specs.Tokens.{Tokens, no_tokens}
use Rattle.kk_counted.specs.TokenStates.{TokenSetting, TokenFrame, TokenControl, TokenConfiguration, TokenState, token_first_state}
use Rattle.kk_counted.specs.TokenMachine.{token_code_step, token_machine}
use Rattle.kk_counted.specs.TokenKeeping.{ArePooled, AreKeptAt, AreKept, token_after}
use Rattle.kk_counted.specs.TokenRuns.{AllLead}
use Rattle.kk_counted.specs.NumberedPool.{IsPlaced, assigned_with, Growth, Placing, same, new}
use Rattle.kk_counted.proofs.NameAssignment.{growth_places}
use Rattle.kk_counted.proofs.NameGrowth.{step_grows}

pub none_placed : (cells : ℕ) (assigned : ℕ → ℕ) → IsPlaced cells assigned [] no_tokens.marks
none_placed cells assigned = record { within = λ p alive. absurd (cc); own = λ p q first second equal. absurd (cc) }

pub pooled_at : (cells : ℕ) (c : TokenConfiguration) (control : TokenControl) → AreKeptAt cells c control
    → ArePooled cells c.heap c.tokens
pooled_at cells c (TokenControl.running code environment joins) kept = kept.1.are.pooled
pooled_at cells c (TokenControl.stopped by) kept = kept.1.pooled
pooled_at cells c TokenControl.stuck kept = kept.1.pooled

module _ (weight : TokenState → ℕ) (setting : TokenSetting) where
  abbrev At : TokenConfiguration → Type 0
  At c = (assigned : ℕ → ℕ) × IsPlaced setting.cells assigned c.heap c.tokens.marks

  -- an assignment for another state, in which the names that were there keep their cells
  abbrev Next : TokenConfiguration → (ℕ → ℕ) → TokenConfiguration → Type 0
  Next from assigned to =
      (next : ℕ → ℕ) × (IsPlaced setting.cells next to.heap to.tokens.marks
      × ((p : ℕ) → p < length from.heap → next p ≡ assigned p))

  by_placing : (assigned : ℕ → ℕ) (from to : TokenConfiguration) → Placing setting.cells assigned from to → Next from assigned to
  by_placing assigned from to (same placed) = (assigned, (placed, λ p less. refl))
  by_placing assigned from to (new each found) =
      (assigned_with (length from.heap) found.0 assigned, (each found.0 found.1.0 found.1.1, λ p less. other p (length from.heap) less))
    where
      other : (p n : ℕ) → p < n → assigned_with n found.0 assigned p ≡ assigned p
      other p n less = grind arith

  performed_at : (from : TokenConfiguration) (action : Action TokenConfiguration) (input : List ℕ) (at : At from)
      → AllLead (Growth setting.cells from) action
      → AreKept setting.cells (performed action input).1.machine → Next from at.0 (performed action input).1.machine
  performed_at from (goes to) input at grown kept =
      by_placing at.0 from to (growth_places setting.cells at.0 from to (pooled_at setting.cells to to.control kept) at.1 grown)
  performed_at from (puts piece to) input at grown kept =
      by_placing at.0 from to (growth_places setting.cells at.0 from to (pooled_at setting.cells to to.control kept) at.1 grown)
  performed_at from (takes to) [] at grown kept =
      by_placing at.0 from (to None) (growth_places setting.cells at.0 from (to None)
      (pooled_at setting.cells (to None) (to None).control kept) at.1 (grown None))
  performed_at from (takes to) (byte ∷ input) at grown kept =
      by_placing at.0 from (to (Some byte)) (growth_places setting.cells at.0 from (to (Some byte))
      (pooled_at setting.cells (to (Some byte)) (to (Some byte)).control kept) at.1 (grown (Some byte)))
  performed_at from (builds found to) input at grown kept =
      by_placing at.0 from to (growth_places setting.cells at.0 from to (pooled_at setting.cells to to.control kept) at.1 grown)
  performed_at from (calls found to) input at grown kept =
      by_placing at.0 from to (growth_places setting.cells at.0 from to (pooled_at setting.cells to to.control kept) at.1 grown)

  abbrev state_of : TokenControl → List TokenFrame → Heap → Tokens → List ℕ → TokenState
  state_of control frames heap tokens input =
      record { machine = record { control = control; frames = frames; heap = heap; tokens = tokens }; input = input }

  next_at : (control : TokenControl) (frames : List TokenFrame) (heap : Heap) (tokens : Tokens) (input : List ℕ)
      → AreKept setting.cells (state_of control frames heap tokens input).machine
      → AreKept setting.cells ((token_machine weight setting).step (state_of control frames heap tokens input)).1.machine
      → (at : At (state_of control frames heap tokens input).machine)
      → Next (state_of control frames heap tokens input).machine at.0
      ((token_machine weight setting).step (state_of control frames heap tokens input)).1.machine
  next_at (TokenControl.running code environment joins) frames heap tokens input kept next at =
      let from = (state_of (TokenControl.running code environment joins) frames heap tokens input).machine in
      performed_at from (token_code_step setting code environment joins from) input at
      (step_grows setting environment joins from kept.0 code kept.1) next
  next_at (TokenControl.stopped by) frames heap tokens input kept next at = (at.0, (at.1, λ p less. refl))
  next_at TokenControl.stuck frames heap tokens input kept next at = (at.0, (at.1, λ p less. refl))

  abbrev Kept : TokenState → Type 0
  Kept s = (k : ℕ) → AreKept setting.cells (state (token_machine weight setting) k s).machine

  next_of : (s : TokenState) → Kept s → (at : At s.machine) → Next s.machine at.0 ((token_machine weight setting).step s).1.machine
  next_of s kept at =
      next_at s.machine.control s.machine.frames s.machine.heap s.machine.tokens s.input (kept zero) (kept (suc zero)) at

  run_at : (n : ℕ) (s : TokenState) → Kept s → At s.machine → At (state (token_machine weight setting) n s).machine
  run_at zero s kept at = at
  run_at (suc n) s kept at =
      run_at n ((token_machine weight setting).step s).1 (λ k. kept (suc k)) ((next_of s kept at).0, (next_of s kept at).1.0)

  -- a name that is there keeps its cell
  run_keeps : (n : ℕ) (s : TokenState) (kept : Kept s) (at : At s.machine) (p : ℕ)
      → p < length (state (token_machine weight setting) n s).machine.heap
      → (run_at (suc n) s kept at).0 p ≡ (run_at n s kept at).0 p
  unfolding run_at next_of
  run_keeps zero s kept at p less = (next_of s kept at).1.1 p less
  run_keeps (suc n) s kept at p less =
      run_keeps n ((token_machine weight setting).step s).1 (λ k. kept (suc k)) ((next_of s kept at).0, (next_of s kept at).1.0) p less

  pub runs_placed : (input : List ℕ) → ((k : ℕ) → AreKept setting.cells (token_after weight setting input k))
      → (assigned : ℕ → ℕ → ℕ) × (((n : ℕ) → IsPlaced setting.cells (assigned n) (token_after weight setting input n).heap
      (token_after weight setting input n).tokens.marks)
      × ((n p : ℕ) → p < length (token_after weight setting input n).heap → assigned (suc n) p ≡ assigned n p))
  runs_placed input kept =
      let first : At (token_first_state setting input).machine = ((λ p. p), none_placed setting.cells (λ p. p)) in (
        λ n. (run_at n (token_first_state setting input) kept first).0,
        (
          λ n. (run_at n (token_first_state setting input) kept first).1,
          λ n p less. run_keeps n (token_first_state setting input) kept first p less,
        ),
      )
