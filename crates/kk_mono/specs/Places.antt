-- What a body's types and choices are at the types of an instance.
use Rattle.std.specs.Prelude.{◌≡◌, ℕ, List, map}
use Rattle.kk_syntax.specs.declared.typed.TypeNode.{TypeNode}
use Rattle.kk_syntax.specs.declared.typed.TypeNode.TheVariants.{Int32, Unit as Nothing, Variable, Named}
use Rattle.kk_syntax.specs.declared.typed.Taken.{Taken}
use Rattle.kk_syntax.specs.declared.typed.Taken.TheVariants.{Construct, Call, Value}
use Rattle.kk_syntax.specs.Types.{TypeTree, int32, unit_type, named, types_of, type_at}
use Rattle.kk_mono.specs.Tables.{number_in}

-- the type of a node, where types stand for the type variables, by the types of the nodes before it
abbrev pub node_at : List TypeTree → List TypeTree → TypeNode → TypeTree
node_at ts earlier Int32 = int32
node_at ts earlier Nothing = unit_type
node_at ts earlier (Variable of) = type_at ts of
node_at ts earlier (Named by arguments) = named by (types_of (map (type_at earlier) arguments.items))

-- a choice with other numbers, of which each stands at the place that the first one's number names
abbrev pub Renumbers : List ℕ → Taken → Taken → Type 0
Renumbers numbers (Construct by at) (Construct made_by made_at) = (made_by ≡ by) × (made_at.items ≡ map (number_in numbers) at.items)
Renumbers numbers (Construct by at) (Call function made_at) = ⊥
Renumbers numbers (Construct by at) (Value made_of) = ⊥
Renumbers numbers (Call function at) (Construct made_by made_at) = ⊥
Renumbers numbers (Call function at) (Call made_function made_at) = (made_function ≡ function) × (made_at.items ≡ map (number_in numbers) at.items)
Renumbers numbers (Call function at) (Value made_of) = ⊥
Renumbers numbers (Value of) (Construct made_by made_at) = ⊥
Renumbers numbers (Value of) (Call function made_at) = ⊥
Renumbers numbers (Value of) (Value made_of) = made_of ≡ number_in numbers of
