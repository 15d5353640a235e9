-- Instances in memory that are within the limits.
use Rattle.std.specs.Prelude.{ℕ, ◌<◌, ◌≤◌, List, length, map, sum, All}
use Rattle.kk_base.specs.Limits.{greatest_of}
use Rattle.kk_base.specs.declared.limit.LimitKind.TheVariants.{Parameters, Fields, Constructors, FunctionNodes, Instances, ProgramNodes}
use Rattle.kk_syntax.specs.declared.ground.GroundConstructor.{GroundConstructor}
use Rattle.kk_syntax.specs.declared.ground.Instance.{Instance}
use Rattle.kk_syntax.specs.Shapes.{nodes_of}
use Rattle.kk_syntax.specs.Trees.{expr_tree}

-- the nodes of an instance's body
abbrev pub nodes_of_instance : Instance → ℕ
nodes_of_instance instance = nodes_of (expr_tree instance.body)

-- Instances and ground constructors pass no limit, and nor do the two numbers of nodes that are told: the greatest one of a
-- function, and that of all instances. As the constructors of a type are numbered from 0, each is below their limit.
pub record AreWithinLimits (constructors : List GroundConstructor) (instances : List Instance) (greatest summed : ℕ) : Type 0 where
  pub parameters : All (λ (instance : Instance). length instance.parameters.items ≤ greatest_of Parameters) instances
  pub fields : All (λ (made : GroundConstructor). length made.fields.items ≤ greatest_of Fields) constructors
  pub tags : All (λ (made : GroundConstructor). made.tag < greatest_of Constructors) constructors
  pub nodes : All (λ (instance : Instance). nodes_of_instance instance ≤ greatest_of FunctionNodes) instances
  pub few : length instances ≤ greatest_of Instances
  pub all_nodes : sum (map nodes_of_instance instances) ≤ greatest_of ProgramNodes
  pub greatest_told : greatest ≤ greatest_of FunctionNodes
  pub summed_told : summed ≤ greatest_of ProgramNodes
