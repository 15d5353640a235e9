-- The core form of a program as mathematics: no pointers, no capacities.
use Rattle.std.specs.Prelude.{ℕ, List, [], ◌∷◌, map}
use Rattle.kk_syntax.specs.declared.program.Form.{Form}
use Rattle.kk_syntax.specs.Patterns.{Pattern, pattern_tree}
use Rattle.kk_core.specs.declared.form.Arm.{Arm}
use Rattle.kk_core.specs.declared.form.Block.{Block}
use Rattle.kk_core.specs.declared.form.Last.{Last}
use Rattle.kk_core.specs.declared.form.Step.{Step}
use Rattle.kk_core.specs.declared.form.Last.TheOpen.{Arm-F, Block-F, Last-F, Step-F, Let, Use, Open, Inside, Return, TailCall, Case}
use Rattle.kk_core.specs.declared.form.Last.TheFolds.{fold-Block, fold-Last, fold-Step, fold-Arm}
use Rattle.kk_core.specs.declared.form.CoreFunction.{CoreFunction}
use Rattle.kk_core.specs.declared.form.Core.{Core}
use Rattle.kk_core.specs.Decisions.{NodeTree, node_tree}

-- A code, which is what a block does from one of its steps on.
-- give: it ends with the value of a variable.
-- tail_call: it ends as the call of a function on variables.
-- case: it goes on as the arm of the row that the decisions choose for the value of the variable.
-- compute: the variable takes the value of the form on variables, and the rest comes.
-- use_of: the variable is still of use, and the rest comes.
-- unpack: the variables `fields` take the fields of the cell that the variable names, if that constructor made it, and the
-- rest comes.
-- inside: a block is run, the variable takes its value, and the rest comes.
mutual
  pub data Code : Type 0 where
    give : (variable : ℕ) → Code
    tail_call : (function : ℕ) → (arguments : List ℕ) → Code
    case : (on : ℕ) → (decisions : List NodeTree) → (arms : Arms) → Code
    compute : (variable : ℕ) → (form : Form) → (arguments : List ℕ) → (rest : Code) → Code
    use_of : (variable : ℕ) → (rest : Code) → Code
    unpack : (variable : ℕ) → (constructor : ℕ) → (fields : List ℕ) → (rest : Code) → Code
    inside : (variable : ℕ) → (block : Code) → (rest : Code) → Code

  -- Arm i is that of row i, with the row's pattern: by it the arm is typed, and the machine does not look at it.
  pub data Arms : Type 0 where
    no_arm : Arms
    arm : (pattern : Pattern) → (body : Code) → (rest : Arms) → Arms

-- the patterns of arms, in their order
abbrev pub patterns_of : Arms → List Pattern
patterns_of no_arm = []
patterns_of (arm pattern body rest) = pattern ∷ patterns_of rest

-- a step of a block by itself
pub data Piece : Type 0 where
  computes : (variable : ℕ) → (form : Form) → (arguments : List ℕ) → Piece
  uses : (variable : ℕ) → Piece
  unpacks : (variable : ℕ) → (constructor : ℕ) → (fields : List ℕ) → Piece
  runs : (variable : ℕ) → (block : Code) → Piece

-- a step, and what comes behind it
abbrev pub put : Piece → Code → Code
put (computes x form arguments) rest = compute x form arguments rest
put (uses x) rest = use_of x rest
put (unpacks x c fields) rest = unpack x c fields rest
put (runs x block) rest = inside x block rest

-- steps, and what comes behind them
abbrev pub plug : List Piece → Code → Code
plug [] last = last
plug (piece ∷ pieces) last = put piece (plug pieces last)

-- an arm by itself
pub record ArmCode : Type 0 where
  pub pattern : Pattern
  pub body : Code

-- a list of arms as a list of its own type
abbrev pub arms_of : List ArmCode → Arms
arms_of [] = no_arm
arms_of (a ∷ as_well) = arm a.pattern a.body (arms_of as_well)

-- an arm, a block, how it ends and a step as such codes, those of their parts given
abbrev pub arm_step : Arm-F Code Piece ArmCode Code → ArmCode
arm_step a = record { pattern = pattern_tree a.pattern; body = a.body }

abbrev pub block_step : Block-F Code Piece ArmCode Code → Code
block_step b = plug b.steps.items b.last

abbrev pub last_step : Last-F Code Piece ArmCode Code → Code
last_step (Return x) = give x
last_step (TailCall f arguments) = tail_call f arguments.items
last_step (Case x decisions arms) = case x (map node_tree decisions.nodes.items) (arms_of arms.items)

abbrev pub step_step : Step-F Code Piece ArmCode Code → Piece
step_step (Let x form arguments) = computes x form arguments.items
step_step (Use x) = uses x
step_step (Open x c fields) = unpacks x c fields.items
step_step (Inside x block) = runs x block

-- a block, how it ends, a step and an arm as such codes
abbrev pub block_code : Block → Code
block_code = fold-Block Code Piece ArmCode Code last_step step_step arm_step block_step

abbrev pub last_code : Last → Code
last_code = fold-Last Code Piece ArmCode Code last_step step_step arm_step block_step

abbrev pub step_piece : Step → Piece
step_piece = fold-Step Code Piece ArmCode Code last_step step_step arm_step block_step

abbrev pub arm_code : Arm → ArmCode
arm_code = fold-Arm Code Piece ArmCode Code last_step step_step arm_step block_step

-- a function: the number of its parameters, which are its first variables, a number above all of its variables, and its
-- body
pub record FunctionCode : Type 0 where
  pub parameters : ℕ
  pub variables : ℕ
  pub body : Code

-- the functions and the string literals that are printed, each by its number, from 0, and which function is `main`
pub record ProgramCode : Type 0 where
  pub functions : List FunctionCode
  pub texts : List (List ℕ)
  pub main : ℕ

abbrev pub function_code : CoreFunction → FunctionCode
function_code function = record { parameters = function.parameters; variables = function.variables; body = block_code function.body }

abbrev pub core_code : Core → ProgramCode
core_code core = record { functions = map function_code core.functions.items; texts = core.texts.items; main = core.main }
