-- What the parser's own types stand for.
use Rattle.std.specs.Prelude.{List, [], ◌∷◌, map, Option, Some, None}
use Rattle.std.specs.Global.{Vec, Box}
use Rattle.kk_syntax.specs.declared.tree.Effect.{Effect}
use Rattle.kk_syntax.specs.declared.tree.Effect.TheVariants.{Total, Div, Exn, Console}
use Rattle.kk_syntax.specs.declared.tree.Declaration.{Declaration}
use Rattle.kk_syntax.specs.declared.tree.SurfaceBinder.{SurfaceBinder}
use Rattle.kk_syntax.specs.declared.tree.SurfaceExpr.{SurfaceExpr}
use Rattle.kk_syntax.specs.declared.tree.SurfacePattern.{SurfacePattern}
use Rattle.kk_syntax.specs.declared.tree.SurfaceType.{SurfaceType}
use Rattle.kk_syntax.specs.Surface.{Written, WrittenDeclaration, WrittenPattern, WrittenStatement, written_pattern, function_declaration, WrittenType, written_declaration, written_expr, written_parameter, written_result, written_type}
use Rattle.kk_parser.specs.declared.name.Names.{Names}
use Rattle.kk_parser.specs.declared.name.Names.TheVariants as OfNames
use Rattle.kk_parser.specs.declared.name.NameClass.{NameClass as CodeClass}
use Rattle.kk_parser.specs.declared.name.NameClass.TheVariants as OfClass
use Rattle.kk_parser.specs.declared.program.Head.{Head}
use Rattle.kk_parser.specs.Forms.{WrittenHead}
use Rattle.kk_parser.specs.Classes.{Class, name as name_of_class, NameClass, word, type_variable, other, print, println, main, total, div, exn, console}
use Rattle.kk_parser.specs.Kinds.{Kind, name_in, names_of, print_words, name, name_but_print, name_but_main, type_variable_name, type_name, type_name_but_effect}

abbrev pub class_view : CodeClass → NameClass
class_view OfClass.Print = word print
class_view OfClass.PrintLine = word println
class_view OfClass.Main = word main
class_view (OfClass.Effect Total) = word total
class_view (OfClass.Effect Div) = word div
class_view (OfClass.Effect Exn) = word exn
class_view (OfClass.Effect Console) = word console
class_view OfClass.TypeVariable = type_variable
class_view OfClass.Other = other

-- the class of an effect's word
abbrev pub class_of_effect : Effect → Class
class_of_effect e = name_of_class (class_view (OfClass.Effect e))

-- the classes of the names of a set, and their kind
abbrev pub classes_in : Names → List NameClass
classes_in OfNames.All = names_of name
classes_in OfNames.Prints = print_words
classes_in OfNames.ButPrints = names_of name_but_print
classes_in OfNames.Main = word main ∷ []
classes_in OfNames.ButMain = names_of name_but_main
classes_in OfNames.TypeVariables = names_of type_variable_name
classes_in OfNames.OfTypes = names_of type_name
classes_in OfNames.OfTypesButEffects = names_of type_name_but_effect

abbrev pub kind_of : Names → Kind
kind_of names = name_in (classes_in names)

-- what an expression in a box stands for
abbrev pub boxed_expr : Box SurfaceExpr → Written
boxed_expr e = written_expr e.value

-- what a pattern in a box stands for
abbrev pub boxed_pattern : Box SurfacePattern → WrittenPattern
boxed_pattern p = written_pattern p.value

-- what arguments in brackets stand for
abbrev pub arguments_view : Option (Vec SurfaceExpr) → Option (List Written)
arguments_view None = None
arguments_view (Some arguments) = Some (map written_expr arguments.items)

-- what stands in a declaration before the body
abbrev pub head_view : Head → WrittenHead
head_view head = record {
  name = head.name;
  parameters = map written_parameter head.parameters.items;
  effects = head.effects.items;
  result = written_result head.result;
}

-- the declaration of a function, from what stands before the body and from the body
abbrev pub declaration_of : WrittenHead → Written → WrittenDeclaration
declaration_of head body = function_declaration head.name head.parameters head.effects head.result body

-- what is bound, and the value
abbrev pub binding_view : SurfaceBinder × Box SurfaceExpr → WrittenStatement
binding_view (binder, value) = record { binder = binder; value = boxed_expr value }

-- what a declaration in a box stands for
abbrev pub boxed_declaration : Box Declaration → WrittenDeclaration
boxed_declaration d = written_declaration d.value

-- effects and a type
abbrev pub result_view : Vec Effect × SurfaceType → List Effect × WrittenType
result_view (effects, t) = (effects.items, written_type t)
