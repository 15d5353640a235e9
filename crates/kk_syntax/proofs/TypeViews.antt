-- Types of the program as trees, by their forms.
use Rattle.std.proofs.Common.{◌≡◌, ℕ, map, ap, sym, ◌∙◌}
use Rattle.kk_syntax.specs.declared.program.Ty.TheVariants.{Int32, Unit as Nothing, Variable, Named, rolls-Int32, rolls-Unit, rolls-Variable, rolls-Named}
use Rattle.kk_syntax.specs.declared.program.Ty.TheFolds.{fold-roll-Ty}
use Rattle.kk_syntax.specs.Types.{TypeTree, int32, unit_type, type_variable, named, types_of, type_step, type_tree}

pub int32_tree : type_tree Int32 ≡ int32
int32_tree = ap type_tree (sym rolls-Int32) ∙ fold-roll-Ty TypeTree type_step _

pub unit_tree : type_tree Nothing ≡ unit_type
unit_tree = ap type_tree (sym rolls-Unit) ∙ fold-roll-Ty TypeTree type_step _

pub variable_tree : (x : ℕ) → type_tree (Variable x) ≡ type_variable x
variable_tree x = ap type_tree (sym (rolls-Variable x)) ∙ fold-roll-Ty TypeTree type_step _

pub named_tree : (by : ℕ) (arguments : _) → type_tree (Named by arguments) ≡ named by (types_of (map type_tree arguments.items))
named_tree by arguments = ap type_tree (sym (rolls-Named by arguments)) ∙ fold-roll-Ty TypeTree type_step _
