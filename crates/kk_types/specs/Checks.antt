-- What the check of a program answers: its principal types, or the first function that is not typed.
use Rattle.std.specs.Prelude.{◌≡◌, ℕ, Some, List, length, slice_get, All, Result, Ok, Err}
use Rattle.kk_base.specs.Exactly.{IsOnly, ExactlyOne}
use Rattle.kk_syntax.specs.declared.program.Program.{Program}
use Rattle.kk_syntax.specs.declared.typed.TypeNode.{TypeNode}
use Rattle.kk_syntax.specs.declared.typed.BodyTypes.{BodyTypes}
use Rattle.kk_syntax.specs.declared.typed.Typed.{Typed}
use Rattle.kk_syntax.specs.Programs.{ProgramTree, program_tree}
use Rattle.kk_syntax.specs.TypedPrograms.{typings_of}
use Rattle.kk_syntax.specs.Typing.{Choice, ArePrincipal, TypesAs}
use Rattle.kk_unify.specs.Solutions.{NamesEarlier}
use Rattle.kk_walk.specs.Walks.{takings_of, AreTakenBelow}
use Rattle.kk_types.specs.declared.error.TypeError.{TypeError}
use Rattle.kk_types.specs.declared.error.TypeError.TheVariants.{NotTyped, NoMemory}

-- each program is typed, or has exactly one first function that is not
abbrev pub EachProgramIsChecked : Type 0
EachProgramIsChecked = (program : ProgramTree) → ExactlyOne (TypesAs program)

-- each program that is typed has principal types
abbrev pub EachTypedProgramHasPrincipalTypes : Type 0
EachTypedProgramHasPrincipalTypes = (program : ProgramTree) → TypesAs program (Ok tt) → (typings : List (List Choice)) × ArePrincipal program typings

-- The types of a body are nodes: the arguments of each node are nodes before it, and each number that is taken is that of a node.
pub record HasNodes (body : BodyTypes) : Type 0 where
  pub earlier : (number : ℕ) (node : TypeNode) → slice_get body.nodes.items number ≡ Some node → NamesEarlier number node
  pub there : AreTakenBelow (length body.nodes.items) (takings_of body.taken.items)

-- the program itself, with its principal types
pub record IsTypedProgram (program : Program) (typed : Typed) : Type 0 where
  pub same_program : program_tree typed.program ≡ program_tree program
  pub only : IsOnly (TypesAs (program_tree program)) (Ok tt)
  pub principal : ArePrincipal (program_tree program) (typings_of typed)
  pub nodes : All HasNodes typed.bodies.items

-- an answer is what the program comes to, as nothing else is, unless memory ran out
abbrev pub AnswersTypes : Program → Result Typed TypeError → Type 0
AnswersTypes program (Ok typed) = IsTypedProgram program typed
AnswersTypes program (Err (NotTyped f)) = IsOnly (TypesAs (program_tree program)) (Err f)
AnswersTypes program (Err NoMemory) = Unit {0}
