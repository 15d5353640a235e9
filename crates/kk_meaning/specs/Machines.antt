-- The machine as it is kept, seen as the machine of its definition.
use Rattle.std.specs.Prelude.{◌≡◌, ℕ, ◌≤◌, ◌-◌, List, [], ◌∷◌, map, reverse, take, length, vec_len}
use Rattle.std.specs.Coded.{×_prop, Unit-prop, le_prop}
use Rattle.kk_syntax.specs.declared.program.Expr.{Expr}
use Rattle.kk_syntax.specs.Trees.{expr_tree}
use Rattle.kk_syntax.specs.Programs.{program_tree}
use Rattle.kk_syntax.specs.PositionsOf.{positions_of}
use Rattle.kk_source.specs.State as source
use Rattle.kk_source.specs.Step.{call_frames}
use Rattle.kk_meaning.specs.declared.binding.Link.{Link}
use Rattle.kk_meaning.specs.declared.frame.Frame.{Frame}
use Rattle.kk_meaning.specs.declared.frame.Frame.TheVariants as OfFrame
use Rattle.kk_meaning.specs.declared.machine.Stop.{Stop}
use Rattle.kk_meaning.specs.declared.machine.Stop.TheVariants as OfStop
use Rattle.kk_meaning.specs.declared.machine.Control.{Control}
use Rattle.kk_meaning.specs.declared.machine.Control.TheVariants as OfControl
use Rattle.kk_meaning.specs.declared.machine.Machine.{Machine}
use Rattle.kk_meaning.specs.View.{value_view, environment_of, cell_view}
use Rattle.kk_meaning.specs.Frames.{block_tree, frame_view}

abbrev pub stop_view : Stop → source.End
stop_view OfStop.Ended = source.ended
stop_view OfStop.HeapFull = source.heap_full
stop_view OfStop.StackFull = source.stack_full

abbrev pub control_view : List Link → Control → source.Control
control_view links (OfControl.Expression expr environment) = source.expression (expr_tree expr.now) (environment_of links environment)
control_view links (OfControl.Rest rest environment) = source.expression (block_tree rest) (environment_of links environment)
control_view links (OfControl.Value value) = source.value (value_view value)
control_view links (OfControl.Stopped stop) = source.stopped (stop_view stop)

-- what it runs
abbrev pub setting_of : Machine → source.Setting
setting_of machine = record {
  program = program_tree machine.program.now;
  positions = positions_of machine.positions;
  cells = machine.cells;
  depth = machine.depth;
}

-- the machine; its newest frame is kept last
abbrev pub configuration_of : Machine → source.Configuration
configuration_of machine = record {
  control = control_view machine.bindings.links.items machine.control;
  frames = map (frame_view machine.bindings.links.items) (reverse machine.frames.items);
  store = map cell_view machine.store.items;
}

-- The environment of what the machine is at, and those of its frames, are among the first n bindings. A call keeps the
-- bindings that were there before it, and what is older than the call has its environments among those.
abbrev pub ControlFits : ℕ → Control → Type 0
ControlFits n (OfControl.Expression expr environment) = environment ≤ n
ControlFits n (OfControl.Rest rest environment) = environment ≤ n
ControlFits n (OfControl.Value value) = Unit {0}
ControlFits n (OfControl.Stopped stop) = Unit {0}

abbrev pub FramesFit : ℕ → List Frame → Type 0
FramesFit n [] = Unit {0}
FramesFit n (OfFrame.Arguments form values left environment ∷ older) = (environment ≤ n) × FramesFit n older
FramesFit n (OfFrame.Branches positive negative environment ∷ older) = (environment ≤ n) × FramesFit n older
FramesFit n (OfFrame.Rows rows environment ∷ older) = (environment ≤ n) × FramesFit n older
FramesFit n (OfFrame.Statement variable rest environment ∷ older) = (environment ≤ n) × FramesFit n older
FramesFit n (OfFrame.Call lent before ∷ older) = (before ≤ n) × FramesFit before older

-- there is one way in which they do
pub ControlFits-prop : (n : ℕ) (control : Control) → IsProp (ControlFits n control)
ControlFits-prop n (OfControl.Expression expr environment) = le_prop
ControlFits-prop n (OfControl.Rest rest environment) = le_prop
ControlFits-prop n (OfControl.Value value) = Unit-prop
ControlFits-prop n (OfControl.Stopped stop) = Unit-prop

pub FramesFit-prop : (n : ℕ) (frames : List Frame) → IsProp (FramesFit n frames)
FramesFit-prop n [] = Unit-prop
FramesFit-prop n (OfFrame.Arguments form values left environment ∷ older) = ×_prop le_prop (FramesFit-prop n older)
FramesFit-prop n (OfFrame.Branches positive negative environment ∷ older) = ×_prop le_prop (FramesFit-prop n older)
FramesFit-prop n (OfFrame.Rows rows environment ∷ older) = ×_prop le_prop (FramesFit-prop n older)
FramesFit-prop n (OfFrame.Statement variable rest environment ∷ older) = ×_prop le_prop (FramesFit-prop n older)
FramesFit-prop n (OfFrame.Call lent before ∷ older) = ×_prop le_prop (FramesFit-prop before older)

-- the frames without the newest ones
abbrev pub frames_below : ℕ → Machine → List source.Frame
frames_below older machine = map (frame_view machine.bindings.links.items) (reverse (take older machine.frames.items))

-- they are, and the call frames are counted
pub record Fits (machine : Machine) : Type 0 where
  pub control : ControlFits (vec_len machine.bindings.links) machine.control
  pub frames : FramesFit (vec_len machine.bindings.links) (reverse machine.frames.items)
  pub calls : machine.calls ≡ call_frames (configuration_of machine).frames

-- a frame that is no call has that environment
abbrev pub HasEnvironment : ℕ → Frame → Type 0
HasEnvironment e (OfFrame.Arguments form values left environment) = environment ≡ e
HasEnvironment e (OfFrame.Branches positive negative environment) = environment ≡ e
HasEnvironment e (OfFrame.Rows rows environment) = environment ≡ e
HasEnvironment e (OfFrame.Statement variable rest environment) = environment ≡ e
HasEnvironment e (OfFrame.Call lent before) = ⊥

-- a frame is a call before which there were so many bindings
abbrev pub IsCallOf : ℕ → Frame → Type 0
IsCallOf n (OfFrame.Call lent before) = before ≡ n
IsCallOf n _ = ⊥

-- a form waits for the argument before these expressions
abbrev pub IsAwaiting : Expr → List Expr → ℕ → Frame → Type 0
IsAwaiting next left e (OfFrame.Arguments form values rest environment) = (rest.now ≡ next ∷ left) × (environment ≡ e)
IsAwaiting next left e _ = ⊥

-- the newest of some frames, which is kept last
abbrev pub IsNewest : Frame → List Frame → Type 0
IsNewest frame frames = reverse frames ≡ frame ∷ reverse (take (length frames - 1) frames)

pub record IsCall (before : ℕ) (frames : List Frame) : Type 0 where
  pub frame : Frame
  pub newest : IsNewest frame frames
  pub call : IsCallOf before frame

pub record Awaits (next : Expr) (left : List Expr) (environment : ℕ) (frames : List Frame) : Type 0 where
  pub frame : Frame
  pub newest : IsNewest frame frames
  pub awaiting : IsAwaiting next left environment frame

-- the first frames are all, or all but one that is no call
pub record IsBelow (older : ℕ) (frames : List Frame) : Type 0 where
  pub within : older ≤ length frames
  pub calls : (links : List Link) → call_frames (map (frame_view links) (reverse (take older frames))) ≡ call_frames (map (frame_view links) (reverse frames))
  pub fits : (n : ℕ) → FramesFit n (reverse frames) → FramesFit n (reverse (take older frames))

-- the newest of the first frames is a call before which there were so many bindings
pub record IsCallBelow (before older : ℕ) (frames : List Frame) : Type 0 where
  pub frame : Frame
  pub rest : List Frame
  pub newest : reverse (take older frames) ≡ frame ∷ rest
  pub call : IsCallOf before frame

-- the first of some frames, the newest first, is no call
abbrev pub HasNoCall : List Frame → Type 0
HasNoCall [] = Unit {0}
HasNoCall (OfFrame.Call lent before ∷ older) = ⊥
HasNoCall (frame ∷ older) = Unit {0}
