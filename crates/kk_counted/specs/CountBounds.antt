-- How many references a function owns at most, by its code: so how great a count can be.
use Rattle.std.specs.Prelude.{◌≡◌, ℕ, suc, ◌+◌, ◌≤◌, List, [], ◌∷◌, length, Some, slice_get}
use Rattle.kk_counted.specs.CountedCodes.{Counted, give, tail_call, case, compute, inside, read, open_cell, if_unique, dup, drop, CountedArms, no_arm, arm, CountedProgram}
use Rattle.kk_counted.specs.CountedStates.{CountedSetting, CountedJoin, CountedFrame, CountedControl, running, stopped, stuck, CountedConfiguration}
use Rattle.kk_counted.specs.Heaps.{busy}

-- ---- code

abbrev pub HasAnArm : CountedArms → Type 0
HasAnArm no_arm = ⊥
HasAnArm (arm body rest) = Unit {0}

-- On each path a code spends at most so many references: those of the arguments of its forms, one for each opening and each
-- drop, and the one that it gives. Each case has an arm.
abbrev mutual
  pub SpendsAtMost : Counted → ℕ → Type 0
  SpendsAtMost (give x) n = 1 ≤ n
  SpendsAtMost (tail_call f arguments) n = length arguments ≤ n
  SpendsAtMost (case x decisions arms) n = HasAnArm arms × SpendAtMost arms n
  SpendsAtMost (compute x form arguments rest) n = (k : ℕ) × ((length arguments + k ≤ n) × SpendsAtMost rest k)
  SpendsAtMost (inside x block rest) n =
      (k : ℕ) × ((m : ℕ) × ((k + m ≤ n) × (SpendsAtMost block k × SpendsAtMost rest m)))
  SpendsAtMost (read x c fields rest) n = SpendsAtMost rest n
  SpendsAtMost (open_cell x c fields used rest) n = (k : ℕ) × ((suc k ≤ n) × SpendsAtMost rest k)
  SpendsAtMost (if_unique x c fields used rest) n = (k : ℕ) × ((suc k ≤ n) × SpendsAtMost rest k)
  SpendsAtMost (dup x rest) n = SpendsAtMost rest n
  SpendsAtMost (drop x rest) n = (k : ℕ) × ((suc k ≤ n) × SpendsAtMost rest k)

  pub SpendAtMost : CountedArms → ℕ → Type 0
  SpendAtMost no_arm n = Unit {0}
  SpendAtMost (arm body rest) n = SpendsAtMost body n × SpendAtMost rest n

-- each case of a code has an arm
abbrev mutual
  pub EachHasAnArm : Counted → Type 0
  EachHasAnArm (case x decisions arms) = HasAnArm arms × AllHaveAnArm arms
  EachHasAnArm (compute x form arguments rest) = EachHasAnArm rest
  EachHasAnArm (inside x block rest) = EachHasAnArm block × EachHasAnArm rest
  EachHasAnArm (read x c fields rest) = EachHasAnArm rest
  EachHasAnArm (open_cell x c fields used rest) = EachHasAnArm rest
  EachHasAnArm (if_unique x c fields used rest) = EachHasAnArm rest
  EachHasAnArm (dup x rest) = EachHasAnArm rest
  EachHasAnArm (drop x rest) = EachHasAnArm rest
  EachHasAnArm _ = Unit {0}

  pub AllHaveAnArm : CountedArms → Type 0
  AllHaveAnArm no_arm = Unit {0}
  AllHaveAnArm (arm body rest) = EachHasAnArm body × AllHaveAnArm rest

-- what a code may gain beside what it owns: the variables that it binds, its dups, and the arguments that it lends
abbrev mutual
  pub gains : Counted → ℕ
  gains (give x) = 0
  gains (tail_call f arguments) = length arguments
  gains (case x decisions arms) = gains_in arms
  gains (compute x form arguments rest) = suc (length arguments + gains rest)
  gains (inside x block rest) = suc (gains block + gains rest)
  gains (read x c fields rest) = gains rest
  gains (open_cell x c fields used rest) = length fields + gains rest
  gains (if_unique x c fields used rest) = length fields + gains rest
  gains (dup x rest) = suc (gains rest)
  gains (drop x rest) = gains rest

  pub gains_in : CountedArms → ℕ
  gains_in no_arm = 0
  gains_in (arm body rest) = gains body + gains_in rest

-- each function of a program spends at most so many
abbrev pub AllSpendAtMost : CountedProgram → ℕ → Type 0
AllSpendAtMost program n =
    (f : ℕ) (function : _) → slice_get program.functions f ≡ Some function → SpendsAtMost function.body n

-- ---- states

abbrev pub JoinsSpend : List CountedJoin → ℕ → Type 0
JoinsSpend [] n = Unit {0}
JoinsSpend (join ∷ joins) n = (k : ℕ) × ((m : ℕ) × ((k + m ≤ n) × (SpendsAtMost join.rest k × JoinsSpend joins m)))

-- a code and the codes behind the blocks that it is in spend at most so many together
abbrev pub RestSpends : Counted → List CountedJoin → ℕ → Type 0
RestSpends code joins n = (k : ℕ) × ((m : ℕ) × ((k + m ≤ n) × (SpendsAtMost code k × JoinsSpend joins m)))

abbrev pub FramesSpend : List CountedFrame → ℕ → Type 0
FramesSpend [] n = Unit {0}
FramesSpend (frame ∷ older) n = RestSpends frame.rest frame.joins n × FramesSpend older n

-- the function that runs; it and those that wait are no more than the call frames that there are
abbrev pub ControlSpends : CountedControl → ℕ → ℕ → ℕ → Type 0
ControlSpends (running code environment joins) frames depth n = RestSpends code joins n × (suc frames ≤ depth)
ControlSpends (stopped by) frames depth n = Unit {0}
ControlSpends stuck frames depth n = Unit {0}

-- In a state each function spends at most so many, and cells and call frames are no more than there are.
pub record IsBounded (setting : CountedSetting) (n : ℕ) (c : CountedConfiguration) : Type 0 where
  pub control_spends : ControlSpends c.control (length c.frames) setting.depth n
  pub frames_spend : FramesSpend c.frames n
  pub cells_busy : busy c.heap ≤ setting.cells
