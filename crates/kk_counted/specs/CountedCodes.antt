-- Counted code as mathematics: the code of the core form, in which each reference to a cell is counted. This is its bare form:
-- tokens, by which a freed cell is filled again, are laid over it.
use Rattle.std.specs.Prelude.{ℕ, List}
use Rattle.kk_syntax.specs.declared.program.Form.{Form}
use Rattle.kk_core.specs.Decisions.{NodeTree}

-- A code, which is what a block does from one of its steps on.
-- give: it ends with the value of a variable.
-- tail_call: it ends as the call of a function on variables.
-- case: it goes on as the arm of the row that the decisions choose for the value of the variable.
-- compute: the variable takes the value of the form on variables, and the rest comes.
-- inside: a block is run, the variable takes its value, and the rest comes.
-- read: the variables `fields` take the fields of the cell that the variable names, which that constructor made. No count
-- changes: the cell stays, lent or owned by its variable.
-- open_cell: the same, and the variable's reference is given up, in one step: each used field gets a reference more, and
-- then the variable is dropped.
-- if_unique: the same as open_cell, by two ways. Where the cell has one reference, the used fields keep those that the cell
-- had, the other fields are dropped, and the cell is free. Else the used fields get a reference more, and the cell's count
-- is lowered.
-- dup: the value of the variable gets a reference more.
-- drop: a reference of the value of the variable is given up.
mutual
  pub data Counted : Type 0 where
    give : (variable : ℕ) → Counted
    tail_call : (function : ℕ) → (arguments : List ℕ) → Counted
    case : (on : ℕ) → (decisions : List NodeTree) → (arms : CountedArms) → Counted
    compute : (variable : ℕ) → (form : Form) → (arguments : List ℕ) → (rest : Counted) → Counted
    inside : (variable : ℕ) → (block : Counted) → (rest : Counted) → Counted
    read : (variable : ℕ) → (constructor : ℕ) → (fields : List ℕ) → (rest : Counted) → Counted
    open_cell : (variable : ℕ) → (constructor : ℕ) → (fields : List ℕ) → (used : List ℕ) → (rest : Counted) → Counted
    if_unique : (variable : ℕ) → (constructor : ℕ) → (fields : List ℕ) → (used : List ℕ) → (rest : Counted) → Counted
    dup : (variable : ℕ) → (rest : Counted) → Counted
    drop : (variable : ℕ) → (rest : Counted) → Counted

  -- arm i is that of row i
  pub data CountedArms : Type 0 where
    no_arm : CountedArms
    arm : (body : Counted) → (rest : CountedArms) → CountedArms

-- a function: the number of its parameters, which are its first variables, and its body
pub record CountedFunction : Type 0 where
  pub parameters : ℕ
  pub body : Counted

-- the functions and the string literals that are printed, each by its number, from 0, and which function is `main`
pub record CountedProgram : Type 0 where
  pub functions : List CountedFunction
  pub texts : List (List ℕ)
  pub main : ℕ
