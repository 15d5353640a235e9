-- Counted code as Rust has it, as the mathematical code.
use Rattle.std.specs.Prelude.{ℕ, List, [], ◌∷◌, map}
use Rattle.kk_syntax.specs.declared.program.Form.{Form}
use Rattle.kk_core.specs.Decisions.{NodeTree, node_tree}
use Rattle.kk_core.specs.declared.decisions.Decisions.{Decisions}
use Rattle.kk_counted.specs.declared.form.Block.{Block}
use Rattle.kk_counted.specs.declared.form.Last.{Last}
use Rattle.kk_counted.specs.declared.form.Step.{Step}
use Rattle.kk_counted.specs.declared.form.Last.TheOpen.{Block-F, Last-F, Step-F, Let, Inside, Read, Open, IfUnique, Dup, Drop, Return, TailCall, Case}
use Rattle.kk_counted.specs.declared.form.Last.TheFolds.{fold-Block, fold-Last, fold-Step}
use Rattle.kk_counted.specs.CountedCodes.{Counted, give, tail_call, case, compute, inside, read, open_cell, if_unique, dup, drop, CountedArms, no_arm, arm}

-- a step of a block by itself
pub data Move : Type 0 where
  computes : (variable : ℕ) → (form : Form) → (arguments : List ℕ) → Move
  runs : (variable : ℕ) → (block : Counted) → Move
  reads : (variable : ℕ) → (constructor : ℕ) → (fields : List ℕ) → Move
  opens : (variable : ℕ) → (constructor : ℕ) → (fields : List ℕ) → (used : List ℕ) → Move
  opens_unique : (variable : ℕ) → (constructor : ℕ) → (fields : List ℕ) → (used : List ℕ) → Move
  dups : (variable : ℕ) → Move
  drops : (variable : ℕ) → Move

-- a step, and what comes behind it
abbrev pub put : Move → Counted → Counted
put (computes x form arguments) rest = compute x form arguments rest
put (runs x block) rest = inside x block rest
put (reads x c fields) rest = read x c fields rest
put (opens x c fields used) rest = open_cell x c fields used rest
put (opens_unique x c fields used) rest = if_unique x c fields used rest
put (dups x) rest = dup x rest
put (drops x) rest = drop x rest

-- steps, and what comes behind them
abbrev pub plug : List Move → Counted → Counted
plug [] last = last
plug (move ∷ moves) last = put move (plug moves last)

-- a list of codes as arms
abbrev pub arms_of : List Counted → CountedArms
arms_of [] = no_arm
arms_of (body ∷ bodies) = arm body (arms_of bodies)

abbrev pub decisions_of : Decisions → List NodeTree
decisions_of decisions = map node_tree decisions.nodes.items

-- how a block ends, a step and a block as such codes, those of their parts given
abbrev pub last_step : Last-F Counted Move Counted → Counted
last_step (Return x) = give x
last_step (TailCall f arguments) = tail_call f arguments.items
last_step (Case x decisions arms) = case x (decisions_of decisions) (arms_of arms.items)

abbrev pub step_step : Step-F Counted Move Counted → Move
step_step (Let x form arguments) = computes x form arguments.items
step_step (Inside x block) = runs x block
step_step (Read x c fields) = reads x c fields.items
step_step (Open x c fields used) = opens x c fields.items used.items
step_step (IfUnique x c fields used) = opens_unique x c fields.items used.items
step_step (Dup x) = dups x
step_step (Drop x) = drops x

abbrev pub block_step : Block-F Counted Move Counted → Counted
block_step b = plug b.steps.items b.last

-- a block, how it ends and a step as such codes
abbrev pub block_code : Block → Counted
block_code = fold-Block Counted Move Counted last_step step_step block_step

abbrev pub last_code : Last → Counted
last_code = fold-Last Counted Move Counted last_step step_step block_step

abbrev pub step_move : Step → Move
step_move = fold-Step Counted Move Counted last_step step_step block_step
