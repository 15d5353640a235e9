-- The code does what its fused form does, step for step, but for the dups and the drops that cancel: these it does alone.
use Rattle.std.proofs.Common.{◌≡◌, ◌⊎◌, inl, inr, ℕ, suc, ◌+◌, ◌≤◌, List, [], ◌∷◌, ◌++◌, map, Option, Some, None, arith, refl, sym, ap, ◌∙◌, subst}
use Rattle.kk_base.specs.Machines.{step_unless, weight_unless, state}
use Rattle.kk_syntax.specs.PositionsOf.{PositionTable}
use Rattle.kk_source.specs.State.{Environment}
use Rattle.kk_source.specs.Notes.{Note}
use Rattle.kk_source.specs.Actions.{Action, goes, puts, takes, builds, calls, performed}
use Rattle.kk_counted.specs.CountedCodes.{Counted, give, tail_call, case, compute, inside, read, open_cell, if_unique, dup, drop}
use Rattle.kk_counted.specs.CountedCosts.{code_cost, room_at, roomy_control_cost, roomy_cost}
use Rattle.kk_counted.specs.Heaps.{Heap}
use Rattle.kk_counted.specs.CountedStates.{CountedSetting, CountedJoin, CountedFrame, CountedControl, running, stopped, stuck, CountedConfiguration, CountedState, counted_end_at}
use Rattle.kk_counted.specs.CountedMachine.{counted_code_step, counted_step_at, counted_machine}
use Rattle.kk_counted.specs.References.{refs, cells_of, counted}
use Rattle.kk_counted.specs.Keeping.{values_of}
use Rattle.kk_counted.proofs.SoundRuns.{sound_heap_is}
use Rattle.kk_dropspec.proofs.ChangedSteps.{changed_action}
use Rattle.kk_fuse.specs.Fused.{without_drop, fuse}
use Rattle.kk_fuse.specs.FusedRuns.{steps_in, fused_join, IsAtForm, IsBetween}
use Rattle.kk_fuse.proofs.Strips.{strip}
use Rattle.kk_fuse.proofs.Steps.{fused_control, fused_configuration, dup_stays, Stays}
use Rattle.kk_fuse.proofs.PendingDups.{AreAlike, IsPending, Follows}
use Rattle.kk_fuse.proofs.FormBounds.{FewControl}

-- ---- steps and what they tell

configuration_is : (c d : CountedConfiguration) → c.control ≡ d.control → c.frames ≡ d.frames → c.heap ≡ d.heap → c ≡ d
configuration_is c d control frames heap =
    ap (λ (control : CountedControl). record { control = control; frames = c.frames; heap = c.heap }) control
    ∙ ap (λ (frames : List CountedFrame). record { control = d.control; frames = frames; heap = c.heap }) frames
    ∙ ap (λ (heap : Heap). record { control = d.control; frames = d.frames; heap = heap }) heap

-- the step at a code, and what it costs
pub step_is : (weight : CountedState → ℕ) (setting : CountedSetting) (s : CountedState) (code : Counted) (environment : Environment)
    (joins : List CountedJoin) → s.machine.control ≡ running code environment joins
    → (counted_machine weight setting).step s ≡ performed (counted_code_step setting code environment joins s.machine) s.input
step_is weight setting s code environment joins at =
    ap (λ control. step_unless (counted_end_at control) s (performed (counted_step_at setting control s.machine) s.input)) at

pub cost_is : (room : ℕ) (setting : CountedSetting) (s : CountedState) (code : Counted) (environment : Environment)
    (joins : List CountedJoin) → s.machine.control ≡ running code environment joins
    → (counted_machine (roomy_cost room) setting).weight s ≡ room_at room code + code_cost code environment s.machine.heap
cost_is room setting s code environment joins at =
    ap (λ control. weight_unless (counted_end_at control) (roomy_control_cost room control s.machine.heap)) at

-- steps that are alike tell the same, and lead to related states with as much of the input left
pub record IsToldAlike (R : CountedConfiguration → CountedConfiguration → Type 0) (one two : List Note × CountedState)
    : Type 0 where
  pub notes : two.0 ≡ one.0
  pub related : R one.1.machine two.1.machine
  pub input : two.1.input ≡ one.1.input

pub told_alike : (R : CountedConfiguration → CountedConfiguration → Type 0) (action other : Action CountedConfiguration)
    (input : List ℕ)
    → AreAlike R action other → IsToldAlike R (performed action input) (performed other input)
told_alike R (goes to) other input alike =
    subst (λ other. IsToldAlike R (performed (goes to) input) (performed other input)) (sym alike.1.0)
    (record { notes = refl; related = alike.1.1; input = refl })
told_alike R (puts piece to) other input alike =
    subst (λ other. IsToldAlike R (performed (puts piece to) input) (performed other input)) (sym alike.1.0)
    (record { notes = refl; related = alike.1.1; input = refl })
told_alike R (takes to) other [] alike =
    subst (λ other. IsToldAlike R (performed (takes to) []) (performed other [])) (sym alike.1.0)
    (record { notes = refl; related = alike.1.1 None; input = refl })
told_alike R (takes to) other (byte ∷ input) alike =
    subst (λ other. IsToldAlike R (performed (takes to) (byte ∷ input)) (performed other (byte ∷ input))) (sym alike.1.0)
    (record { notes = refl; related = alike.1.1 (Some byte); input = refl })
told_alike R (builds found to) other input alike =
    subst (λ other. IsToldAlike R (performed (builds found to) input) (performed other input)) (sym alike.1.0)
    (record { notes = refl; related = alike.1.1; input = refl })
told_alike R (calls found to) other input alike =
    subst (λ other. IsToldAlike R (performed (calls found to) input) (performed other input)) (sym alike.1.0)
    (record { notes = refl; related = alike.1.1; input = refl })

-- ---- the form at which a code is

-- a code begins with a dup that cancels, or it does not
pub record Cancels (code : Counted) : Type 0 where
  pub variable : ℕ
  pub rest : Counted
  pub first : Counted
  pub is : code ≡ dup variable rest
  pub goes_on : without_drop variable (fuse rest) ≡ Some first

pub cancels : (code : Counted) → Stays code ⊎ Cancels code
cancels (give x) = inl tt
cancels (tail_call f arguments) = inl tt
cancels (case x decisions arms) = inl tt
cancels (compute x form arguments rest) = inl tt
cancels (inside x block rest) = inl tt
cancels (read x c fields rest) = inl tt
cancels (open_cell x c fields used rest) = inl tt
cancels (if_unique x c fields used rest) = inl tt
cancels (drop x rest) = inl tt
cancels (dup x rest) = by_found (without_drop x (fuse rest)) refl
  where
    by_found : (found : Option Counted) → without_drop x (fuse rest) ≡ found
        → (without_drop x (fuse rest) ≡ None) ⊎ Cancels (dup x rest)
    by_found None is = inl is
    by_found (Some first) is = inr (record { variable = x; rest = rest; first = first; is = refl; goes_on = is })

-- code that begins with no dup that cancels, and its fused form, are at the same form
pub at_form : (code : Counted) → Stays code → IsAtForm code (fuse code)
at_form (give x) stays = refl
at_form (tail_call f arguments) stays = refl
at_form (case x decisions arms) stays = refl
at_form (compute x form arguments rest) stays = (fuse rest, refl)
at_form (inside x block rest) stays = refl
at_form (read x c fields rest) stays = (fuse rest, refl)
at_form (open_cell x c fields used rest) stays = refl
at_form (if_unique x c fields used rest) stays = refl
at_form (dup x rest) stays = (fuse rest, dup_stays x (fuse rest) stays)
at_form (drop x rest) stays = (fuse rest, refl)

module _ (room : ℕ) (environment : Environment) where
  abbrev cost_of : Counted → Heap → ℕ
  cost_of code heap = room_at room code + code_cost code environment heap

  -- a form costs as much in the fused code
  form_costs : (code less : Counted) (heap : Heap) → IsAtForm code less → cost_of less heap ≡ cost_of code heap
  form_costs (give x) less heap is = ap (λ code. cost_of code heap) is
  form_costs (tail_call f arguments) less heap is = ap (λ code. cost_of code heap) is
  form_costs (case x decisions arms) less heap is = ap (λ code. cost_of code heap) is
  form_costs (compute x form arguments rest) less heap is = ap (λ code. cost_of code heap) is.1
  form_costs (inside x block rest) less heap is = ap (λ code. cost_of code heap) is
  form_costs (read x c fields rest) less heap is = ap (λ code. cost_of code heap) is.1
  form_costs (open_cell x c fields used rest) less heap is = ap (λ code. cost_of code heap) is
  form_costs (if_unique x c fields used rest) less heap is = ap (λ code. cost_of code heap) is
  form_costs (dup x rest) less heap is = ap (λ code. cost_of code heap) is.1
  form_costs (drop x rest) less heap is = ap (λ code. cost_of code heap) is.1

  -- between a dup and the drop with which it cancels no cost looks at the heap
  heap_costs : (code : Counted) (heap other : Heap) → IsBetween code → cost_of code other ≡ cost_of code heap
  heap_costs (compute x form arguments rest) heap other between = refl
  heap_costs (read x c fields rest) heap other between = refl
  heap_costs (dup x rest) heap other between = refl
  heap_costs (drop x rest) heap other between = refl
  heap_costs (give x) heap other between = absurd between
  heap_costs (tail_call f arguments) heap other between = absurd between
  heap_costs (case x decisions arms) heap other between = absurd between
  heap_costs (inside x block rest) heap other between = absurd between
  heap_costs (open_cell x c fields used rest) heap other between = absurd between
  heap_costs (if_unique x c fields used rest) heap other between = absurd between

  pub costs_alike : (code less : Counted) (heap other : Heap) → IsAtForm code less → (other ≡ heap) ⊎ IsBetween code
      → cost_of less other ≡ cost_of code heap
  costs_alike code less heap other form (inl same) = form_costs code less other form ∙ ap (cost_of code) same
  costs_alike code less heap other form (inr between) = form_costs code less other form ∙ heap_costs code heap other between

-- each code has a form
pub one_step : (code : Counted) → 1 ≤ steps_in code
one_step (give x) = omega arith
one_step (tail_call f arguments) = omega arith
one_step (case x decisions arms) = omega arith
one_step (compute x form arguments rest) = omega arith
one_step (inside x block rest) = omega arith
one_step (read x c fields rest) = omega arith
one_step (open_cell x c fields used rest) = omega arith
one_step (if_unique x c fields used rest) = omega arith
one_step (dup x rest) = omega arith
one_step (drop x rest) = omega arith

-- so many steps may go by alone: all forms that are left but the last one
abbrev pub IsLeft : ℕ → CountedControl → Type 0
IsLeft idle (running code environment joins) = steps_in code ≤ suc idle
IsLeft idle (stopped by) = Unit {0}
IsLeft idle stuck = Unit {0}

pub few_left : (most : ℕ) (control : CountedControl) → FewControl most control → IsLeft most control
few_left most (running code environment joins) few = omega (arith, few.0)
few_left most (stopped by) few = tt
few_left most stuck few = tt

module _ (positions : PositionTable) (setting : CountedSetting) where
  -- a step, and the same step with fused code
  pub alike_fused : (action : Action CountedConfiguration)
      → AreAlike (Follows positions setting) action (changed_action fuse action)
  alike_fused (goes to) = (fused_configuration to, (refl, inl refl))
  alike_fused (puts piece to) = (fused_configuration to, (refl, inl refl))
  alike_fused (takes to) = (λ byte. fused_configuration (to byte), (refl, λ byte. inl refl))
  alike_fused (builds found to) = (fused_configuration to, (refl, inl refl))
  alike_fused (calls found to) = (fused_configuration to, (refl, inl refl))

  -- where nothing is pending, the heaps are equal
  pub settled : (state fused : CountedConfiguration) (p : IsPending positions setting state fused) → p.pending.pending ≡ []
      → fused ≡ fused_configuration state
  settled state fused p none =
      configuration_is fused (fused_configuration state)
      (p.fused_at ∙ ap (λ (code : Counted). running code p.environment (map fused_join p.joins)) (sym code)
      ∙ ap fused_control (sym p.at))
      p.frames (sym heap)
    where
      code : fuse p.code ≡ p.less
      code =
          let both : Some (fuse p.code) ≡ Some p.less
          = ap (λ xs. strip xs (fuse p.code)) (sym none) ∙ p.pending.strips in
          cc

      heap : state.heap ≡ fused.heap
      heap =
          sound_heap_is (values_of p.environment (p.pending.pending ++ p.pending.owned) ++ p.pending.below) state.heap
          p.pending.seen.sound
          ∙ ap
          (λ xs. counted (refs (values_of p.environment (xs ++ p.pending.owned) ++ p.pending.below)) (cells_of state.heap)) none
          ∙ ap (counted (refs (values_of p.environment p.pending.owned ++ p.pending.below))) (sym p.pending.cells)
          ∙ sym (sound_heap_is (values_of p.environment p.pending.owned ++ p.pending.below) fused.heap p.pending.fused_seen.sound)
