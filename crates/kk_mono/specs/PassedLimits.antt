-- Limits that are passed by the functions of a program in memory, and by its instances.
use Rattle.std.specs.Prelude.{◌≡◌, ◌⊎◌, ℕ, ◌+◌, ◌<◌, ◌≤◌, List, length, map, sum, All, Some, None, option_map, Result, Ok, Err}
use Rattle.kk_base.specs.Limits.{greatest_of}
use Rattle.kk_base.specs.declared.limit.Limit.{Limit}
use Rattle.kk_base.specs.declared.limit.LimitKind.{LimitKind}
use Rattle.kk_base.specs.declared.limit.LimitKind.TheVariants.{Parameters, FunctionNodes, Instances, ProgramNodes}
use Rattle.kk_syntax.specs.declared.ground.Ground.{Ground}
use Rattle.kk_syntax.specs.declared.typed.Typed.{Typed}
use Rattle.kk_syntax.specs.Programs.{ProgramTree, program_tree, body_of}
use Rattle.kk_syntax.specs.Shapes.{nodes_of, greatest_nodes}
use Rattle.kk_mono.specs.declared.error.MonoError.{MonoError}
use Rattle.kk_mono.specs.declared.error.MonoError.TheVariants.{Over, NoMemory}
use Rattle.kk_mono.specs.declared.search.Found.{Found}
use Rattle.kk_mono.specs.declared.search.Looked.{Looked}
use Rattle.kk_mono.specs.BuiltInstances.{IsBuilt}
use Rattle.kk_mono.specs.Counts.{too_many_nodes, in_u64}
use Rattle.kk_syntax.specs.Declarations.{DeclarationsAs}
use Rattle.kk_mono.specs.KeyTrees.{KeyTree, keys_in}
use Rattle.kk_mono.specs.InstanceSearch.{HasSearched}

-- a limit as it is answered
abbrev pub told : LimitKind → ℕ → Limit
told kind count = in_u64 (record { kind = kind; count = count })

-- the nodes of instances, summed
abbrev pub summed_keys : ProgramTree → List KeyTree → ℕ
summed_keys program keys = sum (map (λ (key : KeyTree). nodes_of (body_of program key.number)) keys)

-- the instances keep their limits
pub record AreFew (program : ProgramTree) (keys : List KeyTree) : Type 0 where
  pub few : length keys ≤ greatest_of Instances
  pub small : summed_keys program keys ≤ greatest_of ProgramNodes

-- What has been found passes no limit, and nor does the program.
pub record PassesNone (program : ProgramTree) (found : Found) : Type 0 where
  pub declared : DeclarationsAs program (Ok tt)
  pub none : too_many_nodes program.functions ≡ None
  pub few : AreFew program (keys_in found.keys)
  pub parameters : All (λ (looked : Looked). length looked.parameters.items ≤ greatest_of Parameters) found.looked.items

-- the instances pass this limit first
abbrev pub PassedBy : ProgramTree → List KeyTree → Limit → Type 0
PassedBy program keys limit =
    ((greatest_of Instances < length keys) × (limit ≡ record { kind = Instances; count = greatest_of Instances + 1 }))
    ⊎ ((length keys ≤ greatest_of Instances) × (greatest_of ProgramNodes < summed_keys program keys) × (limit ≡ told ProgramNodes (summed_keys program keys)))

-- the instances of a search are built, as no limit is passed
pub record HasBuilt (typed : Typed) (given : Ground) : Type 0 where
  pub found : Found
  pub searched : HasSearched typed found
  pub none : too_many_nodes (program_tree typed.program).functions ≡ None
  pub few : AreFew (program_tree typed.program) (keys_in found.keys)
  pub built : IsBuilt typed.program found given
  pub greatest : given.greatest_nodes ≡ greatest_nodes (program_tree typed.program)
  pub summed : given.summed_nodes ≡ summed_keys (program_tree typed.program) (keys_in found.keys)

-- the instances of a search pass a limit
pub record HasPassed (typed : Typed) (limit : Limit) : Type 0 where
  pub found : Found
  pub searched : HasSearched typed found
  pub none : too_many_nodes (program_tree typed.program).functions ≡ None
  pub by : PassedBy (program_tree typed.program) (keys_in found.keys) limit

-- what is answered of a program, by the typings as they are given
abbrev pub IsFound : Typed → Result Ground MonoError → Type 0
IsFound typed (Ok given) = HasBuilt typed given
IsFound typed (Err (Over limit)) = (Some limit ≡ option_map (told FunctionNodes) (too_many_nodes (program_tree typed.program).functions)) ⊎ HasPassed typed limit
IsFound typed (Err NoMemory) = Unit {0}
