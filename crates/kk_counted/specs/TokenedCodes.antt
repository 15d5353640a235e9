-- Counted code with tokens as mathematics. A token is a cell that an opening has freed and that is kept for a construction: it
-- stands in a slot of the function that runs. The code without its tokens is its bare form, which has the same meaning.
use Rattle.std.specs.Prelude.{ℕ, List}
use Rattle.kk_syntax.specs.declared.program.Form.{Form}
use Rattle.kk_core.specs.Decisions.{NodeTree}

-- A code. The forms that Counted has too mean what they mean there; three of them know of tokens:
-- compute: `others` are the other unspent tokens of the function, in the order in which a construction with fields tries them.
-- open_cell, if_unique: where the cell is free then, `slot` takes it as a token; else the slot is null.
-- These forms are new:
-- fill: a construction with fields in the cell of the token in `slot`, which is spent. The fields at the positions `kept` keep
-- the values that the token has there. Where the slot is null all fields are written, in a new cell.
-- free: the token in the slot is spent, and its cell is free.
-- null: the slot has a token that is null.
-- move: the slot `to` takes the token of the slot `from`, which is spent.
-- hold: the token is put on the chain of held tokens, from which a function that is called may take it.
-- unhold: it is taken off the chain, if it is still there.
-- if_token: it goes on as the first code where the slot has a token, and as the second where it is null.
mutual
  pub data Tokened : Type 0 where
    give : (variable : ℕ) → Tokened
    tail_call : (function : ℕ) → (arguments : List ℕ) → Tokened
    case : (on : ℕ) → (decisions : List NodeTree) → (arms : TokenedArms) → Tokened
    compute : (variable : ℕ) → (form : Form) → (arguments : List ℕ) → (others : List ℕ) → (rest : Tokened) → Tokened
    inside : (variable : ℕ) → (block : Tokened) → (rest : Tokened) → Tokened
    read : (variable : ℕ) → (constructor : ℕ) → (fields : List ℕ) → (rest : Tokened) → Tokened
    open_cell : (variable : ℕ) → (constructor : ℕ) → (fields : List ℕ) → (used : List ℕ) → (slot : ℕ) → (rest : Tokened) → Tokened
    if_unique : (variable : ℕ) → (constructor : ℕ) → (fields : List ℕ) → (used : List ℕ) → (slot : ℕ) → (rest : Tokened) → Tokened
    dup : (variable : ℕ) → (rest : Tokened) → Tokened
    drop : (variable : ℕ) → (rest : Tokened) → Tokened
    fill : (variable : ℕ) → (slot : ℕ) → (constructor : ℕ) → (first : ℕ) → (arguments : List ℕ) → (kept : List ℕ)
        → (others : List ℕ) → (rest : Tokened) → Tokened
    free : (slot : ℕ) → (rest : Tokened) → Tokened
    null : (slot : ℕ) → (rest : Tokened) → Tokened
    move : (to : ℕ) → (from : ℕ) → (rest : Tokened) → Tokened
    hold : (slot : ℕ) → (rest : Tokened) → Tokened
    unhold : (slot : ℕ) → (rest : Tokened) → Tokened
    if_token : (slot : ℕ) → (there : Tokened) → (absent : Tokened) → Tokened

  -- arm i is that of row i
  pub data TokenedArms : Type 0 where
    no_arm : TokenedArms
    arm : (body : Tokened) → (rest : TokenedArms) → TokenedArms

-- a function: the number of its parameters, which are its first variables, and its body
pub record TokenedFunction : Type 0 where
  pub parameters : ℕ
  pub body : Tokened

-- the functions and the string literals that are printed, each by its number, from 0, and which function is `main`
pub record TokenedProgram : Type 0 where
  pub functions : List TokenedFunction
  pub texts : List (List ℕ)
  pub main : ℕ
