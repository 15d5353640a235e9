-- When a pattern is of a type, and of which types a constructor makes values.
use Rattle.std.specs.Prelude.{◌≡◌, ℕ, Bool, true, false, if◌then◌else◌, ◌==◌, ◌&&◌, List, [], ◌∷◌, map, Option, Some, None, slice_get, IsTrue}
use Rattle.kk_syntax.specs.Types.{TypeTree, int32, unit_type, type_variable, named, TypeTrees, no_type, type, type_list, put, type_at}
use Rattle.kk_syntax.specs.Programs.{ConstructorTree}
use Rattle.kk_syntax.specs.Outlines.{Outline, any, exactly, made, Outlines, no_outline, outline}

-- What the values of types are: whether numbers are of a type, and the types of a constructor's fields at a type, if it
-- makes values of that type.
pub record Values (T : Type 0) : Type 0 where
  pub has_numbers : T → Bool
  pub fields : T → ℕ → Option (List T)

-- A wildcard is of each type. A number is of a type of numbers. A constructor makes values of the type, and each part is of
-- its field's type.
abbrev mutual
  pub IsPatternOf : {T : Type 0} → Values T → T → Outline → Type 0
  IsPatternOf values t any = Unit {0}
  IsPatternOf values t (exactly n) = IsTrue (values.has_numbers t)
  IsPatternOf {T} values t (made c parts) = (us : List T) × (values.fields t c ≡ Some us) × ArePatternsOf values us parts

  pub ArePatternsOf : {T : Type 0} → Values T → List T → Outlines → Type 0
  ArePatternsOf values [] no_outline = Unit {0}
  ArePatternsOf values [] (outline p ps) = ⊥
  ArePatternsOf values (t ∷ ts) no_outline = ⊥
  ArePatternsOf values (t ∷ ts) (outline p ps) = IsPatternOf values t p × ArePatternsOf values ts ps

-- a type with arguments put in place of its variables
abbrev pub with_arguments : TypeTrees → TypeTree → TypeTree
with_arguments arguments = put (type_at (type_list arguments))

-- whether two types are the same
abbrev mutual
  pub same_type : TypeTree → TypeTree → Bool
  same_type int32 int32 = true
  same_type int32 unit_type = false
  same_type int32 (type_variable y) = false
  same_type int32 (named d us) = false
  same_type unit_type int32 = false
  same_type unit_type unit_type = true
  same_type unit_type (type_variable y) = false
  same_type unit_type (named d us) = false
  same_type (type_variable x) int32 = false
  same_type (type_variable x) unit_type = false
  same_type (type_variable x) (type_variable y) = x == y
  same_type (type_variable x) (named d us) = false
  same_type (named c ts) int32 = false
  same_type (named c ts) unit_type = false
  same_type (named c ts) (type_variable y) = false
  same_type (named c ts) (named d us) = (c == d) && same_types ts us

  pub same_types : TypeTrees → TypeTrees → Bool
  same_types no_type no_type = true
  same_types no_type (type u us) = false
  same_types (type t ts) no_type = false
  same_types (type t ts) (type u us) = same_type t u && same_types ts us

-- The types of a constructor's fields, where it makes values of its type at these arguments: a declared one does at all, and
-- they stand for the variables in its fields; a ground one does at its own.
abbrev pub fields_with : Option TypeTrees → List TypeTree → TypeTrees → Option (List TypeTree)
fields_with None fields arguments = Some (map (with_arguments arguments) fields)
fields_with (Some own) fields arguments = if same_types own arguments then Some fields else None

-- the types of a constructor's fields, if it is one of the declared type of that number, and makes values of it at these
-- arguments
abbrev pub fields_of : Option ConstructorTree → ℕ → TypeTrees → Option (List TypeTree)
fields_of None by arguments = None
fields_of (Some constructor) by arguments =
    if constructor.of_type == by then fields_with constructor.arguments constructor.fields arguments else None

-- the types of the fields of a constructor by its number, if it makes values of the type
abbrev pub field_types : List ConstructorTree → TypeTree → ℕ → Option (List TypeTree)
field_types constructors int32 c = None
field_types constructors unit_type c = None
field_types constructors (type_variable of) c = None
field_types constructors (named by arguments) c = fields_of (slice_get constructors c) by arguments

abbrev pub is_int32 : TypeTree → Bool
is_int32 int32 = true
is_int32 unit_type = false
is_int32 (type_variable of) = false
is_int32 (named by arguments) = false

-- the values of types, by the constructors that a program declares
abbrev pub values_of : List ConstructorTree → Values TypeTree
values_of constructors = record { has_numbers = is_int32; fields = field_types constructors }
