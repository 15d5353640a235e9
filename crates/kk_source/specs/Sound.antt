-- What is true of each state of a run: its values name cells that are there, and a cell's fields name older cells.
use Rattle.std.specs.Prelude.{ℕ, ◌<◌, List, [], ◌∷◌, length}
use Rattle.std.specs.Coded.{×_prop, Unit-prop, le_prop}
use Rattle.kk_source.specs.State.{Value, integer, unit, constant, place, Store, Environment, Frame, arguments, branches, rows, statement, call, Control, expression, value, stopped, Configuration}
use Rattle.kk_source.specs.Live.{fields_at}

-- the cell that a value names, if it names one, is among the first n
abbrev pub Within : ℕ → Value → Type 0
Within n (place at) = at < n
Within n _ = Unit {0}

abbrev pub AllWithin : ℕ → List Value → Type 0
AllWithin n [] = Unit {0}
AllWithin n (v ∷ vs) = Within n v × AllWithin n vs

abbrev pub BoundWithin : ℕ → Environment → Type 0
BoundWithin n [] = Unit {0}
BoundWithin n (binding ∷ environment) = Within n binding.value × BoundWithin n environment

abbrev pub FrameWithin : ℕ → Frame → Type 0
FrameWithin n (arguments form values left environment) = AllWithin n values × BoundWithin n environment
FrameWithin n (branches positive negative environment) = BoundWithin n environment
FrameWithin n (rows of environment) = BoundWithin n environment
FrameWithin n (statement variable rest environment) = BoundWithin n environment
FrameWithin n (call lent) = AllWithin n lent

abbrev pub FramesWithin : ℕ → List Frame → Type 0
FramesWithin n [] = Unit {0}
FramesWithin n (frame ∷ older) = FrameWithin n frame × FramesWithin n older

abbrev pub ControlWithin : ℕ → Control → Type 0
ControlWithin n (expression e environment) = BoundWithin n environment
ControlWithin n (value v) = Within n v
ControlWithin n (stopped by) = Unit {0}

-- a cell's fields name older cells
abbrev pub IsOlder : Store → Type 0
IsOlder store = (at : ℕ) → AllWithin at (fields_at store at)

pub record Sound (c : Configuration) : Type 0 where
  pub older : IsOlder c.store
  pub control : ControlWithin (length c.store) c.control
  pub frames : FramesWithin (length c.store) c.frames

-- there is one way in which a state is sound
pub Within-prop : (n : ℕ) (v : Value) → IsProp (Within n v)
Within-prop n (integer number) = Unit-prop
Within-prop n unit = Unit-prop
Within-prop n (constant of) = Unit-prop
Within-prop n (place at) = le_prop

pub AllWithin-prop : (n : ℕ) (vs : List Value) → IsProp (AllWithin n vs)
AllWithin-prop n [] = Unit-prop
AllWithin-prop n (v ∷ vs) = ×_prop (Within-prop n v) (AllWithin-prop n vs)

pub BoundWithin-prop : (n : ℕ) (environment : Environment) → IsProp (BoundWithin n environment)
BoundWithin-prop n [] = Unit-prop
BoundWithin-prop n (binding ∷ environment) = ×_prop (Within-prop n binding.value) (BoundWithin-prop n environment)

pub FrameWithin-prop : (n : ℕ) (frame : Frame) → IsProp (FrameWithin n frame)
FrameWithin-prop n (arguments form values left environment) = ×_prop (AllWithin-prop n values) (BoundWithin-prop n environment)
FrameWithin-prop n (branches positive negative environment) = BoundWithin-prop n environment
FrameWithin-prop n (rows of environment) = BoundWithin-prop n environment
FrameWithin-prop n (statement variable rest environment) = BoundWithin-prop n environment
FrameWithin-prop n (call lent) = AllWithin-prop n lent

pub FramesWithin-prop : (n : ℕ) (frames : List Frame) → IsProp (FramesWithin n frames)
FramesWithin-prop n [] = Unit-prop
FramesWithin-prop n (frame ∷ older) = ×_prop (FrameWithin-prop n frame) (FramesWithin-prop n older)

pub ControlWithin-prop : (n : ℕ) (control : Control) → IsProp (ControlWithin n control)
ControlWithin-prop n (expression e environment) = BoundWithin-prop n environment
ControlWithin-prop n (value v) = Within-prop n v
ControlWithin-prop n (stopped by) = Unit-prop
