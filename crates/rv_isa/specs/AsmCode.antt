-- The assembler form over values as mathematics, without pointers and capacities.
use Rattle.std.specs.Prelude.{ℕ, List, Option, map}
use Rattle.rv_isa.specs.declared.asm.Asm.{Asm}
use Rattle.rv_isa.specs.declared.asm.AsmFunction.{AsmFunction}
use Rattle.rv_isa.specs.declared.asm.Statement.{Statement}
use Rattle.rv_isa.specs.declared.asm.Action.{Action}

-- what is done, the values that are read, and the value that is written
pub record Line : Type 0 where
  pub action : Action
  pub args : List ℕ
  pub into : Option ℕ

-- a function: its parameters and its code
pub record Lines : Type 0 where
  pub params : List ℕ
  pub code : List Line

abbrev pub line_of : Statement → Line
line_of s = record { action = s.action; args = s.args.items; into = s.into }

abbrev pub lines_of : AsmFunction → Lines
lines_of f = record { params = f.params.items; code = map line_of f.code.items }

-- the functions of a program; a call names one by its index
abbrev pub asm_functions : Asm → List Lines
asm_functions asm = map lines_of asm.functions.items

-- the constant bytes of a program
abbrev pub asm_constants : Asm → List (List ℕ)
asm_constants asm = asm.constants.items
