-- The states of the store machine, which gives a program its meaning.
use Rattle.std.specs.Prelude.{ℕ, ℤ, List, [], ◌∷◌, Option, Some, None}
use Rattle.kk_syntax.specs.declared.program.Form.{Form}
use Rattle.kk_syntax.specs.Trees.{Tree, Trees, Rows}
use Rattle.kk_syntax.specs.Programs.{ProgramTree, body_of}
use Rattle.kk_syntax.specs.PositionsOf.{PositionTable}

-- what is run: a program, the positions that are lent, and so many cells in the heap and call frames in the stack
pub record Setting : Type 0 where
  pub program : ProgramTree
  pub positions : PositionTable
  pub cells : ℕ
  pub depth : ℕ

-- a value: an integer of 32 bits; `()`; a constructor without fields, by its number; or the place of a cell
pub data Value : Type 0 where
  integer : (number : ℤ) → Value
  unit : Value
  constant : (of : ℕ) → Value
  place : (at : ℕ) → Value

-- a cell: the constructor that made it, by its number, and the values of its fields
pub record Cell : Type 0 where
  pub made_by : ℕ
  pub fields : List Value

-- The cells in the order in which they were made: place k is the k-th of them, from 0. The store only grows: nothing is
-- given back.
abbrev pub Store : Type 0
Store = List Cell

-- a variable of a body, by its number, and the value that it stands for
pub record Binding : Type 0 where
  pub variable : ℕ
  pub value : Value

-- the variables that are bound, the newest one first
abbrev pub Environment : Type 0
Environment = List Binding

-- What waits for a value.
-- arguments: a form waits for an argument; it has the values of those before it, and the expressions of those after it.
-- branches: an `if` waits for its condition.
-- rows: a match waits for its scrutinee.
-- statement: what is left of a block waits for the statement before it, whose variable, if any, is still to be bound.
-- call: a call waits for its body; it keeps the values that it was lent.
pub data Frame : Type 0 where
  arguments : (form : Form) → (values : List Value) → (left : Trees) → (environment : Environment) → Frame
  branches : (positive : Tree) → (negative : Tree) → (environment : Environment) → Frame
  rows : (of : Rows) → (environment : Environment) → Frame
  statement : (variable : Option ℕ) → (rest : Tree) → (environment : Environment) → Frame
  call : (lent : List Value) → Frame

-- how a run ends: by itself; at a construction that finds the heap full; at a call that finds the stack full
pub data End : Type 0 where
  ended : End
  heap_full : End
  stack_full : End

-- what the machine is at: an expression and its environment; a value; or its end
pub data Control : Type 0 where
  expression : (tree : Tree) → (environment : Environment) → Control
  value : (of : Value) → Control
  stopped : (by : End) → Control

-- the machine without the outside: what it is at, what waits, the newest frame first, and the store
pub record Configuration : Type 0 where
  pub control : Control
  pub frames : List Frame
  pub store : Store

-- At its start it is at the body of `main`. One call waits for it, which was lent nothing.
abbrev pub start : Setting → Configuration
start setting =
    record { control = expression (body_of setting.program setting.program.main) []; frames = call [] ∷ []; store = [] }

-- its end, if it is there
abbrev pub end_at : Control → Option End
end_at (stopped by) = Some by
end_at _ = None
