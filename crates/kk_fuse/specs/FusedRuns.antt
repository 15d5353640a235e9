-- Runs of fused code do what the code does that it is made of.
use Rattle.std.specs.Prelude.{◌≡◌, ◌⊎◌, ℕ, suc, ◌+◌, ◌*◌, ◌≤◌, true, List, map, Some, slice_get}
use Rattle.kk_base.specs.Agreements.{Agree}
use Rattle.kk_source.specs.State.{Environment}
use Rattle.kk_counted.specs.CountedCodes.{Counted, give, tail_call, case, compute, inside, read, open_cell, if_unique, dup, drop, CountedArms, no_arm, arm, CountedFunction, CountedProgram}
use Rattle.kk_counted.specs.CountedCosts.{roomy_cost}
use Rattle.kk_counted.specs.CountedMachine.{counted_machine, NotStuck}
use Rattle.kk_counted.specs.CountedStates.{CountedSetting, CountedJoin, CountedFrame, CountedControl, running, stopped, stuck, CountedConfiguration, CountedState, counted_first_state}
use Rattle.kk_counted.specs.Heaps.{Heap}
use Rattle.kk_counted.specs.Keeping.{counted_after, FitsAlways, HasShapeAlways}
use Rattle.kk_counted.specs.References.{cells_of}
use Rattle.kk_dropspec.specs.Changed.{changed_join, changed_frame}
use Rattle.kk_fuse.specs.Fused.{is_plain, fuse, fused_setting}

-- ---- the length of code

-- the number of forms of a code, dups and drops too
abbrev mutual
  pub steps_in : Counted → ℕ
  steps_in (give x) = 1
  steps_in (tail_call f arguments) = 1
  steps_in (case x decisions arms) = suc (steps_in_arms arms)
  steps_in (compute x form arguments rest) = suc (steps_in rest)
  steps_in (inside x block rest) = suc (steps_in block + steps_in rest)
  steps_in (read x c fields rest) = suc (steps_in rest)
  steps_in (open_cell x c fields used rest) = suc (steps_in rest)
  steps_in (if_unique x c fields used rest) = suc (steps_in rest)
  steps_in (dup x rest) = suc (steps_in rest)
  steps_in (drop x rest) = suc (steps_in rest)

  pub steps_in_arms : CountedArms → ℕ
  steps_in_arms no_arm = 0
  steps_in_arms (arm body rest) = steps_in body + steps_in_arms rest

-- the body of each function has so many forms at most
abbrev pub HasFewSteps : ℕ → CountedProgram → Type 0
HasFewSteps most program =
    (f : ℕ) (function : CountedFunction) → slice_get program.functions f ≡ Some function → steps_in function.body ≤ most

-- ---- a state of fused code

abbrev pub fused_join : CountedJoin → CountedJoin
fused_join = changed_join fuse

abbrev pub fused_frame : CountedFrame → CountedFrame
fused_frame = changed_frame fuse

-- The fused code is at the same form. Of what is left behind a form on values, a reading, a dup or a drop nothing is said: drops
-- whose dups have been cancelled are not there. At each other form it is the code, fused.
abbrev pub IsAtForm : Counted → Counted → Type 0
IsAtForm (compute x form arguments rest) fused = (less : Counted) × (fused ≡ compute x form arguments less)
IsAtForm (read x c fields rest) fused = (less : Counted) × (fused ≡ read x c fields less)
IsAtForm (dup x rest) fused = (less : Counted) × (fused ≡ dup x less)
IsAtForm (drop x rest) fused = (less : Counted) × (fused ≡ drop x less)
IsAtForm code fused = fused ≡ fuse code

-- a form that may stand between a dup and the drop with which it cancels: a dup, a drop, a reading, or a form on values that makes
-- no cell and calls no function
abbrev pub IsBetween : Counted → Type 0
IsBetween (compute x form arguments rest) = is_plain form arguments ≡ true
IsBetween (read x c fields rest) = Unit {0}
IsBetween (dup x rest) = Unit {0}
IsBetween (drop x rest) = Unit {0}
IsBetween code = ⊥

-- Both are at the same form, with the same environment, and the counts are equal; but at a form that may stand between a dup and
-- the drop with which it cancels nothing is said of counts, nor of what is left. Or both are stopped alike, with equal counts.
abbrev pub AreAtOne : Heap → Heap → CountedControl → CountedControl → Type 0
AreAtOne heap other (running code environment joins) control =
    (less : Counted) × ((control ≡ running less environment (map fused_join joins))
    × (IsAtForm code less × ((other ≡ heap) ⊎ IsBetween code)))
AreAtOne heap other (stopped by) control = (control ≡ stopped by) × (other ≡ heap)
AreAtOne heap other stuck control = (control ≡ stuck) × (other ≡ heap)

-- a state, and one of the fused code that stands for it: the cells are the same ones
pub record AreFusedStates (state fused : CountedConfiguration) : Type 0 where
  pub frames : fused.frames ≡ map fused_frame state.frames
  pub cells : cells_of fused.heap ≡ cells_of state.heap
  pub control : AreAtOne state.heap fused.heap state.control fused.control

-- both are at the same test of a count, and the counts are equal
pub record IsSameTest (heap other : Heap) (control : CountedControl) (x c : ℕ) (fields used : List ℕ) (environment : Environment)
    : Type 0 where
  pub rest : Counted
  pub joins : List CountedJoin
  pub at : control ≡ running (if_unique x c fields used rest) environment joins
  pub counts : other ≡ heap

-- ---- runs

-- Fused code tells the same notes and ends alike, so that as many cells are counted at each construction, and as many call frames
-- stand at each call; and it costs no more. In each state of its run operators and prints take values without cells, the code has
-- the shape of a typed program, the machine is not stuck, and the state stands for one of the code that it is made of.
pub record IsFusedRun (setting : CountedSetting) (most : ℕ) (input : List ℕ) : Type 0 where
  pub agrees : (room : ℕ) → Agree (counted_machine (roomy_cost room) setting)
      (counted_machine (roomy_cost room) (fused_setting setting)) 0 (λ m. m * suc most + most)
      (counted_first_state setting input) (counted_first_state (fused_setting setting) input)
  pub fits : (weight : CountedState → ℕ) → FitsAlways weight (fused_setting setting) input
  pub shape : (weight : CountedState → ℕ) → HasShapeAlways weight (fused_setting setting) input
  pub never_stuck : (weight : CountedState → ℕ) (n : ℕ) → NotStuck (counted_after weight (fused_setting setting) input n).control
  pub states : (weight : CountedState → ℕ) (n : ℕ) → (m : ℕ)
      × AreFusedStates (counted_after weight setting input m) (counted_after weight (fused_setting setting) input n)
