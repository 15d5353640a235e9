-- What is promised of the core form of a typed program that is within the limits.
use Rattle.std.specs.Prelude.{◌≡◌, ◌+◌, ◌≤◌, ℕ, List, [], ◌∷◌, length}
use Rattle.kk_syntax.specs.GroundTyping.{table_of}
use Rattle.kk_syntax.specs.Shapes.{nodes_of}
use Rattle.kk_syntax.specs.Programs.{FunctionTree, ProgramTree}
use Rattle.kk_core.specs.Cases.{CasesAreWhole, CasesAreLean}
use Rattle.kk_core.specs.Codes.{ProgramCode}
use Rattle.kk_core.specs.CoreTyping.{IsCoreTyped, IsSmall}
use Rattle.kk_core.specs.Sizes.{most_parameters, most_nodes, most_instances, most_program_nodes}
use Rattle.kk_norm.specs.Meaning.{KeepsMeaningByCells, CostsLittle}

-- a function has few parameters, and its body few nodes
pub record IsFunctionWithin (function : FunctionTree) : Type 0 where
  pub parameters : length function.parameters ≤ most_parameters
  pub nodes : nodes_of function.body ≤ most_nodes

abbrev pub AreWithin : List FunctionTree → Type 0
AreWithin [] = Unit {0}
AreWithin (function ∷ functions) = IsFunctionWithin function × AreWithin functions

-- the nodes of all bodies
abbrev pub all_nodes : List FunctionTree → ℕ
all_nodes [] = 0
all_nodes (function ∷ functions) = nodes_of function.body + all_nodes functions

-- A program is within the limits, as far as they bear on sizes: `main` is its first function, each function is within
-- them, the functions are few, and so are all nodes together.
pub record IsWithin (program : ProgramTree) : Type 0 where
  pub main : program.main ≡ 0
  pub functions : AreWithin program.functions
  pub few : length program.functions ≤ most_instances
  pub all : all_nodes program.functions ≤ most_program_nodes

-- A code is a core form of a program: it keeps the program's meaning, it is typed, its variables in order, and it is small. Each
-- of its cases has an arm for each row of its decisions, and looks at little for the nodes of its patterns; so its steps cost
-- little.
pub record IsNormalForm (program : ProgramTree) (code : ProgramCode) : Type 0 where
  pub keeps_meaning : KeepsMeaningByCells program code
  pub typed : IsCoreTyped (table_of program) code
  pub small : IsSmall code
  pub whole : CasesAreWhole code
  pub lean : CasesAreLean code
  pub costs : CostsLittle program code
