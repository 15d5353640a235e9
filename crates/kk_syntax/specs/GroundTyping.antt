-- Programs without type variables: what it is that they are typed, and that their matches are covered. One clause for each
-- form. What their types may be is asked nowhere: a type variable has no values.
use Rattle.std.specs.Prelude.{◌≡◌, ◌≤◌, ◌<◌, ℕ, List, [], ◌∷◌, length, map, Option, None, Some, slice_get}
use Rattle.kk_syntax.specs.declared.program.Form.{Form}
use Rattle.kk_syntax.specs.declared.program.Form.TheVariants.{Number, Unit as Nothing, ReadByte, PrintText, Unary, Binary, Print, Construct, Call}
use Rattle.kk_syntax.specs.Covered.{IsCovered, asked_by}
use Rattle.kk_syntax.specs.OfType.{IsPatternOf, values_of, field_types}
use Rattle.kk_syntax.specs.Outlines.{outline_of}
use Rattle.kk_syntax.specs.Patterns.{Pattern, anything, variable as pattern_variable, exactly, constructor, Patterns, no_part, part}
use Rattle.kk_syntax.specs.Programs.{ConstructorTree, FunctionTree, ProgramTree}
use Rattle.kk_syntax.specs.Trees.{Tree, variable, apply, branch, match, sequence, Trees, no_tree, tree, Rows, no_row, row, row_parts}
use Rattle.kk_syntax.specs.Types.{TypeTree, int32, unit_type}
use Rattle.kk_syntax.specs.Typing.{bool, Scope, type_in, with_parameters, with_binder, unary_type, binary_type}

-- the types of a function's parameters and of its result
pub record Signature : Type 0 where
  pub parameters : List TypeTree
  pub result : TypeTree

abbrev pub signature_of : FunctionTree → Signature
signature_of function = record { parameters = function.parameters; result = function.result }

-- what a body is typed by: the constructors, the types of the functions, and how many string literals there are
pub record Table : Type 0 where
  pub constructors : List ConstructorTree
  pub functions : List Signature
  pub texts : ℕ

abbrev pub table_of : ProgramTree → Table
table_of program = record { constructors = program.constructors; functions = map signature_of program.functions; texts = length program.texts }

-- a form takes arguments of these types, and gives a value of that one; a print gives `()`
abbrev pub IsFormTyped : Table → Form → List TypeTree → TypeTree → Type 0
IsFormTyped table (Number value) ts t = (ts ≡ []) × (t ≡ int32)
IsFormTyped table Nothing ts t = (ts ≡ []) × (t ≡ unit_type)
IsFormTyped table ReadByte ts t = (ts ≡ []) × (t ≡ int32)
IsFormTyped table (PrintText form text) ts t = (ts ≡ []) × (t ≡ unit_type) × (text < table.texts)
IsFormTyped table (Unary operator) ts t = (ts ≡ unary_type operator ∷ []) × (t ≡ unary_type operator)
IsFormTyped table (Binary operator) ts t = (ts ≡ int32 ∷ int32 ∷ []) × (t ≡ binary_type operator)
IsFormTyped table (Print form) ts t = (ts ≡ int32 ∷ []) × (t ≡ unit_type)
IsFormTyped table (Construct c) ts t = field_types table.constructors t c ≡ Some ts
IsFormTyped table (Call f) ts t = slice_get table.functions f ≡ Some (record { parameters = ts; result = t })

-- the types that a constructor's fields have, if it makes values of the type
abbrev pub types_or_none : Option (List TypeTree) → List TypeTree
types_or_none None = []
types_or_none (Some ts) = ts

-- the variables of a pattern of a type, the last one newest, before other variables
abbrev mutual
  pub with_pattern : List ConstructorTree → Pattern → TypeTree → Scope → Scope
  with_pattern constructors anything t scope = scope
  with_pattern constructors (pattern_variable x) t scope = record { variable = x; type = t } ∷ scope
  with_pattern constructors (exactly value) t scope = scope
  with_pattern constructors (constructor c parts) t scope = with_parts constructors parts (types_or_none (field_types constructors t c)) scope

  pub with_parts : List ConstructorTree → Patterns → List TypeTree → Scope → Scope
  with_parts constructors no_part ts scope = scope
  with_parts constructors (part first rest) [] scope = scope
  with_parts constructors (part first rest) (t ∷ ts) scope = with_parts constructors rest ts (with_pattern constructors first t scope)

-- An expression has a type, expressions have types, and the rows of a match whose scrutinee has the first type have the
-- second one. The rows of a match are covered at its scrutinee's type.
abbrev mutual
  pub HasType : Table → Scope → Tree → TypeTree → Type 0
  HasType table scope (variable x) t = type_in scope x ≡ Some t
  HasType table scope (apply form es) t = (ts : List TypeTree) × HaveTypes table scope es ts × IsFormTyped table form ts t
  HasType table scope (branch e positive negative) t =
      HasType table scope e bool × HasType table scope positive t × HasType table scope negative t
  HasType table scope (match e rows) t =
      (u : TypeTree) × HasType table scope e u × AreRowsTyped table scope rows u t × IsCovered (values_of table.constructors) u (asked_by rows)
  HasType table scope (sequence binder first rest) t =
      (s : TypeTree) × HasType table scope first s × HasType table (with_binder binder s scope) rest t

  pub HaveTypes : Table → Scope → Trees → List TypeTree → Type 0
  HaveTypes table scope no_tree [] = Unit {0}
  HaveTypes table scope no_tree (t ∷ ts) = ⊥
  HaveTypes table scope (tree first rest) [] = ⊥
  HaveTypes table scope (tree first rest) (t ∷ ts) = HasType table scope first t × HaveTypes table scope rest ts

  pub AreRowsTyped : Table → Scope → Rows → TypeTree → TypeTree → Type 0
  AreRowsTyped table scope no_row u t = Unit {0}
  AreRowsTyped table scope (row (row_parts pattern body) rest) u t =
      IsPatternOf (values_of table.constructors) u (outline_of pattern) × HasType table (with_pattern table.constructors pattern u scope) body t
      × AreRowsTyped table scope rest u t

-- a function's body has the type of its result
abbrev pub IsFunctionTyped : Table → FunctionTree → Type 0
IsFunctionTyped table function = HasType table (with_parameters 0 function.parameters []) function.body function.result

-- `bool` has the constructors `False` and `True`, which have no fields, and no others
pub record HasTruths (constructors : List ConstructorTree) : Type 0 where
  pub truths : (c : ℕ) → c ≤ 1 → field_types constructors bool c ≡ Some []
  pub no_others : (c : ℕ) (ts : List TypeTree) → field_types constructors bool c ≡ Some ts → c ≤ 1

-- Each function of a program is typed, where types without variables stand for all that it takes; its matches are covered;
-- and `main` has no parameters and gives `()`.
pub record IsGroundTyped (program : ProgramTree) : Type 0 where
  pub functions : (f : ℕ) (function : FunctionTree) → slice_get program.functions f ≡ Some function → IsFunctionTyped (table_of program) function
  pub main : slice_get (map signature_of program.functions) program.main ≡ Some (record { parameters = []; result = unit_type })
  pub truths : HasTruths program.constructors
