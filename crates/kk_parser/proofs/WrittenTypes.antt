-- What the types that are made stand for.
use Rattle.std.proofs.Common.{◌≡◌, map, ap, sym, ◌∙◌}
use Rattle.std.specs.Global.{Vec}
use Rattle.kk_syntax.specs.declared.tree.Identifier.{Identifier}
use Rattle.kk_syntax.specs.declared.tree.SurfaceType.{SurfaceType}
use Rattle.kk_syntax.specs.declared.tree.SurfaceType.TheVariants as OfType
use Rattle.kk_syntax.specs.declared.tree.SurfaceType.TheFolds.{fold-roll-SurfaceType}
use Rattle.kk_syntax.specs.Surface.{WrittenType, type_step, types_of, written_type, unit_type, type_variable, named}

pub written_unit : written_type OfType.Unit ≡ unit_type
written_unit = ap written_type (sym OfType.rolls-Unit) ∙ fold-roll-SurfaceType WrittenType type_step _

pub written_variable : (name : Identifier) → written_type (OfType.Variable name) ≡ type_variable name
written_variable name = ap written_type (sym (OfType.rolls-Variable name)) ∙ fold-roll-SurfaceType WrittenType type_step _

-- a type by its name
pub written_name : (name : Identifier) (arguments : Vec SurfaceType) → written_type (OfType.Named name arguments) ≡ named name (types_of (map written_type arguments.items))
written_name name arguments = ap written_type (sym (OfType.rolls-Named name arguments)) ∙ fold-roll-SurfaceType WrittenType type_step _
