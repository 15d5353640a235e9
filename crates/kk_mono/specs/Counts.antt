-- Which programs keep the limits on nodes and on instances, and which limit another passes first.
use Rattle.std.specs.Prelude.{◌≡◌, ℕ, ◌+◌, ◌-◌, ◌^◌, ◌<◌, ◌≤◌, min, List, length, map, sum, find, nat_lt, All, AllPairs, ◌≢◌, Option, Some, None, Result, Ok, Err}
use Rattle.kk_base.specs.Exactly.{IsOnly, ExactlyOne}
use Rattle.kk_base.specs.Limits.{greatest_of}
use Rattle.kk_base.specs.declared.limit.Limit.{Limit}
use Rattle.kk_base.specs.declared.limit.LimitKind.TheVariants.{FunctionNodes, Instances, ProgramNodes}
use Rattle.kk_syntax.specs.Programs.{FunctionTree, ProgramTree, body_of}
use Rattle.kk_syntax.specs.Shapes.{nodes_of}
use Rattle.kk_syntax.specs.Typing.{Choice, ArePrincipal}
use Rattle.kk_syntax.specs.Declarations.{DeclarationsAs}
use Rattle.kk_mono.specs.Instances.{InstanceTree, IsInstance, AreInstances}

-- the nodes of the first function that has more than the limit
abbrev pub too_many_nodes : List FunctionTree → Option ℕ
too_many_nodes functions = find (λ count. nat_lt (greatest_of FunctionNodes) count) (map (λ function. nodes_of function.body) functions)

-- the nodes of instances, summed
abbrev pub summed_nodes : ProgramTree → List InstanceTree → ℕ
summed_nodes program instances = sum (map (λ instance. nodes_of (body_of program instance.function)) instances)

-- a program keeps the limits on the nodes of each function, on the number of its instances, and on their nodes in all
pub record KeepsCounts (program : ProgramTree) : Type 0 where
  pub functions : too_many_nodes program.functions ≡ None
  pub typings : List (List Choice)
  pub principal : ArePrincipal program typings
  pub instances : List InstanceTree
  pub are : AreInstances program.main typings instances
  pub few : length instances ≤ greatest_of Instances
  pub small : summed_nodes program instances ≤ greatest_of ProgramNodes

-- some instances, more than are allowed, no two of which are equal
pub record AreTooMany (main : ℕ) (typings : List (List Choice)) (instances : List InstanceTree) : Type 0 where
  pub each : All (IsInstance main typings) instances
  pub once : AllPairs (λ one other. one ≢ other) instances
  pub many : greatest_of Instances < length instances

-- A limit is the first of these that a program passes: on the nodes of a function, where the first function in the text
-- decides; on the number of its instances, of which one more than are allowed is told; and on their nodes in all.
pub data PassesFirst (program : ProgramTree) (limit : Limit) : Type 0 where
  of_function : {count : ℕ} → too_many_nodes program.functions ≡ Some count → limit ≡ record { kind = FunctionNodes; count = count } → PassesFirst program limit
  of_instances : {typings : List (List Choice)} {instances : List InstanceTree} → too_many_nodes program.functions ≡ None → ArePrincipal program typings → AreTooMany program.main typings instances → limit ≡ record { kind = Instances; count = greatest_of Instances + 1 } → PassesFirst program limit
  of_program : {typings : List (List Choice)} {instances : List InstanceTree} → too_many_nodes program.functions ≡ None → ArePrincipal program typings → AreInstances program.main typings instances → length instances ≤ greatest_of Instances → greatest_of ProgramNodes < summed_nodes program instances → limit ≡ record { kind = ProgramNodes; count = summed_nodes program instances } → PassesFirst program limit

-- What a program comes to: it keeps its limits, or it passes one first, with the count that does.
abbrev pub CountsAs : ProgramTree → Result (Unit {0}) Limit → Type 0
CountsAs program (Ok _) = KeepsCounts program
CountsAs program (Err limit) = PassesFirst program limit

-- each program comes to exactly one thing by its declarations, and each typed program by its nodes and instances: which
-- principal typings are taken makes no difference
abbrev pub EachProgramIsCounted : Type 0
EachProgramIsCounted = (program : ProgramTree) → ExactlyOne (DeclarationsAs program) × ((typings : List (List Choice)) → ArePrincipal program typings → ExactlyOne (CountsAs program))

-- a limit as it is answered: its count as far as a u64 goes
abbrev pub in_u64 : Limit → Limit
in_u64 limit = record { kind = limit.kind; count = min limit.count (2 ^ 64 - 1) }

-- an answer is what the program comes to, as nothing else is
abbrev pub AnswersCounts : ProgramTree → Result (Unit {0}) Limit → Type 0
AnswersCounts program (Ok _) = IsOnly (CountsAs program) (Ok tt)
AnswersCounts program (Err limit) = (passed : Limit) × IsOnly (CountsAs program) (Err passed) × (limit ≡ in_u64 passed)

-- a program keeps the limits where each function is an instance
pub record IsSmall (instances : ProgramTree) : Type 0 where
  pub bodies : All (λ function. nodes_of function.body ≤ greatest_of FunctionNodes) instances.functions
  pub few : length instances.functions ≤ greatest_of Instances
  pub nodes : sum (map (λ function. nodes_of function.body) instances.functions) ≤ greatest_of ProgramNodes
