-- That the numbers of counted code, and of each state of its run, are numbers of 32 bits.
use Rattle.std.specs.Prelude.{◌≡◌, ℕ, List, [], ◌∷◌, Some, slice_get}
use Rattle.kk_syntax.specs.declared.program.Form.{Form}
use Rattle.kk_syntax.specs.declared.program.Form.TheVariants.{Number}
use Rattle.kk_source.specs.Arithmetic.{wrapped}
use Rattle.kk_source.specs.State.{Value, integer, Environment}
use Rattle.kk_core.specs.Decisions.{NodeTree, chooses, tests}
use Rattle.kk_core.specs.declared.decisions.Answer.{Answer}
use Rattle.kk_core.specs.declared.decisions.Answer.TheVariants.{Number as OfNumber}
use Rattle.kk_core.specs.declared.decisions.Edge.{Edge}
use Rattle.kk_counted.specs.CountedCodes.{Counted, give, tail_call, case, compute, inside, read, open_cell, if_unique, dup, drop, CountedArms, no_arm, arm, CountedFunction}
use Rattle.kk_counted.specs.CountedStates.{CountedJoin, CountedFrame, CountedControl, running, CountedConfiguration}
use Rattle.kk_counted.specs.Heaps.{Heap}

-- ---- values

-- wrapping leaves a number of 32 bits as it is
abbrev pub IsInt32 : Value → Type 0
IsInt32 (integer n) = wrapped n ≡ n
IsInt32 _ = Unit {0}

abbrev pub AreInt32 : List Value → Type 0
AreInt32 [] = Unit {0}
AreInt32 (v ∷ vs) = IsInt32 v × AreInt32 vs

-- ---- code

abbrev pub IsFormInt32 : Form → Type 0
IsFormInt32 (Number n) = wrapped n ≡ n
IsFormInt32 _ = Unit {0}

abbrev pub IsAnswerInt32 : Answer → Type 0
IsAnswerInt32 (OfNumber n) = wrapped n ≡ n
IsAnswerInt32 _ = Unit {0}

abbrev pub AreEdgesInt32 : List Edge → Type 0
AreEdgesInt32 [] = Unit {0}
AreEdgesInt32 (edge ∷ edges) = IsAnswerInt32 edge.found × AreEdgesInt32 edges

abbrev pub IsNodeInt32 : NodeTree → Type 0
IsNodeInt32 (chooses row) = Unit {0}
IsNodeInt32 (tests at edges otherwise) = AreEdgesInt32 edges

abbrev pub AreNodesInt32 : List NodeTree → Type 0
AreNodesInt32 [] = Unit {0}
AreNodesInt32 (node ∷ nodes) = IsNodeInt32 node × AreNodesInt32 nodes

abbrev mutual
  pub HasInt32 : Counted → Type 0
  HasInt32 (give x) = Unit {0}
  HasInt32 (tail_call f arguments) = Unit {0}
  HasInt32 (case x decisions arms) = AreNodesInt32 decisions × HaveInt32 arms
  HasInt32 (compute x form arguments rest) = IsFormInt32 form × HasInt32 rest
  HasInt32 (inside x block rest) = HasInt32 block × HasInt32 rest
  HasInt32 (read x c fields rest) = HasInt32 rest
  HasInt32 (open_cell x c fields used rest) = HasInt32 rest
  HasInt32 (if_unique x c fields used rest) = HasInt32 rest
  HasInt32 (dup x rest) = HasInt32 rest
  HasInt32 (drop x rest) = HasInt32 rest

  pub HaveInt32 : CountedArms → Type 0
  HaveInt32 no_arm = Unit {0}
  HaveInt32 (arm body rest) = HasInt32 body × HaveInt32 rest

-- in each function
abbrev pub AllHaveInt32 : List CountedFunction → Type 0
AllHaveInt32 functions =
    (f : ℕ) (function : CountedFunction) → slice_get functions f ≡ Some function → HasInt32 function.body

-- ---- states

abbrev pub AreBindingsInt32 : Environment → Type 0
AreBindingsInt32 [] = Unit {0}
AreBindingsInt32 (binding ∷ environment) = IsInt32 binding.value × AreBindingsInt32 environment

abbrev pub IsHeapInt32 : Heap → Type 0
IsHeapInt32 [] = Unit {0}
IsHeapInt32 (held ∷ heap) = AreInt32 held.cell.fields × IsHeapInt32 heap

abbrev pub AreJoinsInt32 : List CountedJoin → Type 0
AreJoinsInt32 [] = Unit {0}
AreJoinsInt32 (join ∷ joins) = HasInt32 join.rest × AreJoinsInt32 joins

-- a function that runs or waits: the numbers of its code, of its variables, and of the blocks that it is in
pub record IsRunInt32 (code : Counted) (environment : Environment) (joins : List CountedJoin) : Type 0 where
  pub ahead : HasInt32 code
  pub bound : AreBindingsInt32 environment
  pub behind : AreJoinsInt32 joins

abbrev pub AreFramesInt32 : List CountedFrame → Type 0
AreFramesInt32 [] = Unit {0}
AreFramesInt32 (frame ∷ older) = IsRunInt32 frame.rest frame.environment frame.joins × AreFramesInt32 older

abbrev pub IsControlInt32 : CountedControl → Type 0
IsControlInt32 (running code environment joins) = IsRunInt32 code environment joins
IsControlInt32 _ = Unit {0}

-- the numbers of a state: those of the function that runs, of those that wait, and of cells
pub record IsStateInt32 (c : CountedConfiguration) : Type 0 where
  pub control : IsControlInt32 c.control
  pub frames : AreFramesInt32 c.frames
  pub heap : IsHeapInt32 c.heap
