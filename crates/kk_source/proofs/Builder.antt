-- A builder of small programs, for the examples: forms over plain lists, and programs of bodies alone.
use Rattle.std.proofs.Common.{ℕ, ℤ, List, [], ◌∷◌, map}
use Rattle.kk_syntax.specs.declared.operator.BinaryOperator.{BinaryOperator}
use Rattle.kk_syntax.specs.declared.operator.PrintForm.TheVariants.{PrintLine}
use Rattle.kk_syntax.specs.declared.program.Form.TheVariants.{Number, Unit as Value, ReadByte, Binary, Print, Construct, Call}
use Rattle.kk_syntax.specs.declared.program.Binder.TheVariants.{Nothing, Variable}
use Rattle.kk_syntax.specs.Patterns.{Pattern, constructor, patterns_of}
use Rattle.kk_syntax.specs.Trees.{Tree, apply, no_tree, sequence, trees_of}
use Rattle.kk_syntax.specs.Types.{unit_type}
use Rattle.kk_syntax.specs.Programs.{FunctionTree}
use Rattle.kk_syntax.specs.PositionsOf.{all_owned}
use Rattle.kk_source.specs.State.{Setting}

abbrev pub number : ℤ → Tree
number value = apply (Number value) no_tree

abbrev pub unit : Tree
unit = apply Value no_tree

abbrev pub read_byte : Tree
read_byte = apply ReadByte no_tree

abbrev pub binary : BinaryOperator → Tree → Tree → Tree
binary operator left right = apply (Binary operator) (trees_of (left ∷ right ∷ []))

abbrev pub called : ℕ → List Tree → Tree
called f es = apply (Call f) (trees_of es)

abbrev pub made : ℕ → List Tree → Tree
made c es = apply (Construct c) (trees_of es)

abbrev pub printed : Tree → Tree
printed e = apply (Print PrintLine) (trees_of (e ∷ []))

abbrev pub of_made : ℕ → List Pattern → Pattern
of_made c ps = constructor c (patterns_of ps)

abbrev pub bound_to : ℕ → Tree → Tree → Tree
bound_to x first rest = sequence (Variable x) first rest

abbrev pub then : Tree → Tree → Tree
then first rest = sequence Nothing first rest

abbrev pub function : Tree → FunctionTree
function body = record { name = []; at = 0; variables = 0; parameters = []; result = unit_type; body = body }

-- these functions, of which one is `main`, on so many cells and with such a depth
abbrev pub program : List Tree → ℕ → ℕ → ℕ → Setting
program bodies main cells depth = record {
  program = record { types = []; constructors = []; functions = map function bodies; texts = []; main = main };
  positions = all_owned;
  cells = cells;
  depth = depth;
}
