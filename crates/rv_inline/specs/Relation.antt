-- When a state of the machine of code with calls in line stands for one of the machine of the code.
use Rattle.std.specs.Prelude.{⊤, ◌≡◌, ◌≢◌, ◌<◌, ◌⊎◌, ℕ, List, [], ◌∷◌, ◌++◌, Option, Some, map, length, drop, slice_get}
use Rattle.kk_base.specs.Machines.{state}
use Rattle.rv_isa.specs.AsmCode.{Line, Lines}
use Rattle.rv_isa.specs.AsmMachine.{AsmTurn, asm_machine}
use Rattle.rv_isa.specs.Frames.{Frame}
use Rattle.rv_isa.specs.Primitives.{Primitives, go, ended, stuck}
use Rattle.rv_isa.specs.ValueBounds.{AreValuesBelow, IsWrittenBelow, AreLinesBelow}
use Rattle.rv_isa.specs.declared.asm.Operation.TheVariants.{Mv}
use Rattle.rv_inline.specs.InLineLines.{index_in}
use Rattle.rv_inline.specs.InLine.{AreComputing, gives_back, named, named_line, copy, AreInLine, IsInLine}

-- a copy gives its word, and leaves alone what a machine shares
abbrev pub Copies : {H E W : Type 0} → Primitives H E W → Type 0
Copies {H = H} m = (word : ℕ) (shared : H) → m.compute Mv (word ∷ []) shared ≡ Some (word, shared)

-- two frames have the same below a number
abbrev pub SameBelow : ℕ → (ℕ → Option ℕ) → (ℕ → Option ℕ) → Type 0
SameBelow base some other = (x : ℕ) → x < base → other x ≡ some x

-- Two frames, apart from the code that is left and from where a result goes. The one runs a function of q, whose values are below the
-- base, and the other the function of q' that is the same with some calls in line. The values below the base have the same words in both,
-- and both hold the same tokens.
pub record IsLike (q q' : List Lines) (base : ℕ) (f g : Frame Line) : Type 0 where
  pub old : Lines
  pub new : Lines
  pub old_is : slice_get q f.function ≡ Some old
  pub new_is : slice_get q' f.function ≡ Some new
  pub is : IsInLine q base old new
  pub whole : f.whole ≡ old.code
  pub whole' : g.whole ≡ new.code
  pub function : g.function ≡ f.function
  pub cells : SameBelow base f.cells g.cells
  pub held : g.held ≡ f.held
  pub held_below : AreValuesBelow base f.held

-- Two frames are at the same line. What is left of the function is its code behind so many lines, and what is left of the one with calls
-- in line is that behind what these lines have become.
pub record IsAtLine (q : List Lines) (base : ℕ) (whole whole' code new : List Line) : Type 0 where
  pub below : AreLinesBelow base code
  pub is : AreInLine q base code new
  pub line : ℕ
  pub code_is : code ≡ drop line whole
  pub new_is : new ≡ drop (index_in q line whole whole') whole'

-- the frames that wait for the result of a call
abbrev pub AllWait : List Lines → List Lines → List (Frame Line) → List (Frame Line) → Type 0
AllWait q q' [] [] = Unit {0}
AllWait q q' [] (g ∷ gs) = ⊥
AllWait q q' (f ∷ fs) [] = ⊥
AllWait q q' (f ∷ fs) (g ∷ gs) = ((base : ℕ) × (IsLike q q' base f g × (IsAtLine q base f.whole g.whole f.code g.code × ((g.into ≡ f.into)
    × IsWrittenBelow base f.into)))) × AllWait q q' fs gs

-- all frames, where the running ones are at the same line
abbrev pub FramesStand : List Lines → List Lines → List (Frame Line) → List (Frame Line) → Type 0
FramesStand q q' [] [] = Unit {0}
FramesStand q q' [] (g ∷ gs) = ⊥
FramesStand q q' (f ∷ fs) [] = ⊥
FramesStand q q' (f ∷ fs) (g ∷ gs) = ((base : ℕ) × (IsLike q q' base f g × IsAtLine q base f.whole g.whole f.code g.code)) × AllWait q q' fs gs

-- A leaf runs: in the code in a frame of its own, h, above the frame f of its caller; in the code with calls in line in the frame g of
-- the caller. The same lines of it are left in both.
pub record IsInCall (q : List Lines) (base : ℕ) (h f g : Frame Line) : Type 0 where
  pub args : List ℕ
  pub body : List Line
  pub value : ℕ
  pub into : ℕ
  pub rest : List Line
  pub args_below : AreValuesBelow base args
  pub into_below : into < base
  pub computing : AreComputing (length args) body
  pub code : h.code ≡ body ++ (gives_back value ∷ [])
  pub code' : g.code ≡ map (named_line base args) body ++ (copy (named base args value) into ∷ rest)
  pub none_held : h.held ≡ []
  pub known : (v word : ℕ) → h.cells v ≡ Some word → g.cells (named base args v) ≡ Some word
  pub waits : f.into ≡ Some into
  pub at : IsAtLine q base f.whole g.whole f.code rest

abbrev pub FramesInCall : List Lines → List Lines → List (Frame Line) → List (Frame Line) → Type 0
FramesInCall q q' (h ∷ f ∷ fs) (g ∷ gs) = ((base : ℕ) × (IsLike q q' base f g × IsInCall q base h f g)) × AllWait q q' fs gs
FramesInCall q q' _ _ = ⊥

-- Any state stands for one that can do nothing more.
abbrev pub StandsFor : {H W : Type 0} → List Lines → List Lines → AsmTurn H W → AsmTurn H W → Type 0
StandsFor q q' (go s) (go t) = (FramesStand q q' s.frames t.frames ⊎ FramesInCall q q' s.frames t.frames) × (t.shared ≡ s.shared)
StandsFor q q' (go s) (ended how shared) = ⊥
StandsFor q q' (go s) stuck = ⊥
StandsFor q q' (ended how shared) (go t) = ⊥
StandsFor q q' (ended how shared) (ended how' shared') = (how' ≡ how) × (shared' ≡ shared)
StandsFor q q' (ended how shared) stuck = ⊥
StandsFor q q' stuck t = ⊤

-- no run comes to a state that can do nothing more
abbrev pub NeverStuck : {H E W : Type 0} → Primitives H E W → ℕ → List Lines → AsmTurn H W → Type 0
NeverStuck m depth q s = (n : ℕ) → state (asm_machine m depth q) n s ≢ stuck

-- What the simulation keeps. Each step of the one machine is one step of the other, so it needs no credit.
abbrev pub Related : {H E W : Type 0} → Primitives H E W → ℕ → List Lines → List Lines → ℕ → ℕ → AsmTurn H W → AsmTurn H W → Type 0
Related m depth q q' credit idle s t = NeverStuck m depth q s × StandsFor q q' s t

abbrev pub IsNotStuck : {H W : Type 0} → AsmTurn H W → Type 0
IsNotStuck t = t ≢ stuck
