-- What is true of each state of a run of marked code: each value fits its variable's mark, and so do the fields of each cell.
use Rattle.std.specs.Prelude.{◌≡◌, ℕ, zero, suc, Bool, true, false, List, [], ◌∷◌, map}
use Rattle.kk_syntax.specs.declared.program.Form.{Form}
use Rattle.kk_syntax.specs.declared.program.Form.TheVariants.{Call}
use Rattle.kk_source.specs.State.{Value, integer, unit, place, Environment}
use Rattle.kk_counted.specs.CountedCodes.{Counted, give, tail_call, compute}
use Rattle.kk_counted.specs.Heaps.{Heap}
use Rattle.kk_counted.specs.CountedStates.{CountedSetting, CountedJoin, CountedFrame, CountedControl, running, stopped, stuck, CountedConfiguration, CountedState, counted_first_state}
use Rattle.kk_counted.specs.CountedMachine.{counted_machine}
use Rattle.kk_counted.specs.VariableLists.{AreIn}
use Rattle.kk_counted.specs.Marks.{CellMarks, result_mark, field_marks, HasMark}

-- ---- values

-- A value fits a mark. Where there are cells it is a place or a constructor without fields: no number and no `()`. Where there are
-- none it is no place.
abbrev pub FitsMark : Bool → Value → Type 0
FitsMark true (integer n) = ⊥
FitsMark true unit = ⊥
FitsMark true _ = Unit {0}
FitsMark false (place at) = ⊥
FitsMark false _ = Unit {0}

-- values fit marks, one after the other
abbrev pub FitMarks : List Bool → List Value → Type 0
FitMarks [] [] = Unit {0}
FitMarks [] (v ∷ vs) = ⊥
FitMarks (mark ∷ marks) [] = ⊥
FitMarks (mark ∷ marks) (v ∷ vs) = FitsMark mark v × FitMarks marks vs

-- the fields of each cell of a heap, counted or not, fit the marks of its constructor
abbrev pub CellsFit : CellMarks → Heap → Type 0
CellsFit marks [] = Unit {0}
CellsFit marks (held ∷ heap) = FitMarks (field_marks marks held.cell.made_by) held.cell.fields × CellsFit marks heap

abbrev pub variables_of : Environment → List ℕ
variables_of environment = map (λ binding. binding.variable) environment

-- each value in an environment fits the mark of its variable
abbrev pub EnvironmentFits : (ℕ → Bool) → Environment → Type 0
EnvironmentFits holds [] = Unit {0}
EnvironmentFits holds (binding ∷ environment) = FitsMark (holds binding.variable) binding.value × EnvironmentFits holds environment

-- ---- a function, by its marked variables and by the mark of its result

module _ (marks : CellMarks) (holds : ℕ → Bool) (result : Bool) where
  -- The code behind the innermost block takes a value of the mark that the block gives, and so on; the outermost code gives the
  -- function's result.
  abbrev pub JoinsFit : Environment → Bool → List CountedJoin → Type 0
  JoinsFit environment given [] = given ≡ result
  JoinsFit environment given (join ∷ joins) =
      (bound : List ℕ) × ((next : Bool) × (AreIn bound (variables_of environment) × ((holds join.variable ≡ given)
      × (HasMark marks holds result (join.variable ∷ bound) next join.rest × JoinsFit environment next joins))))

  -- the function that runs
  pub record RunFits (code : Counted) (environment : Environment) (joins : List CountedJoin) : Type 0 where
    pub bound : List ℕ
    pub given : Bool
    pub code_marked : HasMark marks holds result bound given code
    pub bound_in : AreIn bound (variables_of environment)
    pub values_fit : EnvironmentFits holds environment
    pub joins_fit : JoinsFit environment given joins

  -- a function that waits for a value of a mark
  pub record FrameFits (given : Bool) (frame : CountedFrame) : Type 0 where
    pub bound : List ℕ
    pub next : Bool
    pub takes : holds frame.variable ≡ given
    pub rest_marked : HasMark marks holds result (frame.variable ∷ bound) next frame.rest
    pub bound_in : AreIn bound (variables_of frame.environment)
    pub values_fit : EnvironmentFits holds frame.environment
    pub joins_fit : JoinsFit frame.environment next frame.joins

-- ---- states, by the marked variables of each function, and by the numbers of the functions that run and wait, the newest first

module _ (marks : CellMarks) (holds : ℕ → ℕ → Bool) where
  -- the functions that wait, the newest one for a value of a mark
  abbrev pub FramesFit : Bool → List ℕ → List CountedFrame → Type 0
  FramesFit given [] [] = Unit {0}
  FramesFit given [] (frame ∷ older) = ⊥
  FramesFit given (f ∷ numbers) [] = ⊥
  FramesFit given (f ∷ numbers) (frame ∷ older) =
      FrameFits marks (holds f) (result_mark marks f) given frame × FramesFit (result_mark marks f) numbers older

  abbrev pub ControlFits : CountedControl → List ℕ → List CountedFrame → Type 0
  ControlFits (running code environment joins) [] frames = ⊥
  ControlFits (running code environment joins) (f ∷ numbers) frames =
      RunFits marks (holds f) (result_mark marks f) code environment joins × FramesFit (result_mark marks f) numbers frames
  ControlFits (stopped by) numbers frames = Unit {0}
  ControlFits stuck numbers frames = Unit {0}

  abbrev pub StateFits : List ℕ → CountedConfiguration → Type 0
  StateFits numbers c = CellsFit marks c.heap × ControlFits c.control numbers c.frames

-- ---- the functions that run and wait, after a step and after so many of a run

abbrev pub behind : List ℕ → List ℕ
behind [] = []
behind (f ∷ numbers) = numbers

abbrev pub numbers_given : List CountedJoin → List ℕ → List ℕ
numbers_given [] numbers = behind numbers
numbers_given (join ∷ joins) numbers = numbers

abbrev pub numbers_called : Form → List ℕ → List ℕ
numbers_called (Call f) numbers = f ∷ numbers
numbers_called _ numbers = numbers

abbrev pub numbers_at : Counted → List CountedJoin → List ℕ → List ℕ
numbers_at (give x) joins numbers = numbers_given joins numbers
numbers_at (tail_call f arguments) joins numbers = f ∷ behind numbers
numbers_at (compute x form arguments rest) joins numbers = numbers_called form numbers
numbers_at _ joins numbers = numbers

abbrev pub numbers_after : CountedControl → List ℕ → List ℕ
numbers_after (running code environment joins) numbers = numbers_at code joins numbers
numbers_after (stopped by) numbers = numbers
numbers_after stuck numbers = numbers

module _ (weight : CountedState → ℕ) (setting : CountedSetting) where
  abbrev pub numbers_from_state : ℕ → CountedState → List ℕ → List ℕ
  numbers_from_state zero s numbers = numbers
  numbers_from_state (suc n) s numbers =
      numbers_from_state n ((counted_machine weight setting).step s).1 (numbers_after s.machine.control numbers)

  abbrev pub numbers_in : List ℕ → ℕ → List ℕ
  numbers_in input n = numbers_from_state n (counted_first_state setting input) (setting.program.main ∷ [])
