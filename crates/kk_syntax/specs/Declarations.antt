-- Which programs keep the limits on their declarations, and which limit another passes first.
use Rattle.std.specs.Prelude.{◌≡◌, ℕ, nat_lt, Bool, List, [], ◌∷◌, ◌++◌, length, map, flat_map, slice_get, Option, Some, None, Result, Ok, Err, if◌then◌else◌}
use Rattle.kk_base.specs.Limits.{greatest_of}
use Rattle.kk_base.specs.declared.limit.Limit.{Limit}
use Rattle.kk_base.specs.declared.limit.LimitKind.TheVariants.{Parameters, Fields, Constructors}
use Rattle.kk_syntax.specs.declared.program.TypeDecl.{TypeDecl}
use Rattle.kk_syntax.specs.Programs.{ConstructorTree, FunctionTree, ProgramTree}
use Rattle.kk_syntax.specs.declared.declarations.Quantity.{Quantity}
use Rattle.kk_syntax.specs.Constructors.{members}

-- the byte at which a type is named; 0 if there is no such type
abbrev pub place_of_type : Option TypeDecl → ℕ
place_of_type None = 0
place_of_type (Some declaration) = declaration.at

-- of a constructor: how many constructors its type has, where the type is named; and its fields
abbrev pub quantities_of_constructor : ProgramTree → ConstructorTree → List Quantity
quantities_of_constructor program constructor =
    record { at = place_of_type (slice_get program.types constructor.of_type); kind = Constructors; count = length (members program.constructors constructor.of_type) }
    ∷ record { at = constructor.at; kind = Fields; count = length constructor.fields } ∷ []

-- of a function: its parameters
abbrev pub quantity_of_function : FunctionTree → Quantity
quantity_of_function function = record { at = function.at; kind = Parameters; count = length function.parameters }

-- The quantities of a program's declarations that have limits, each with the byte at which the text names what has it. A type
-- is named before its constructors, and these before the next declaration.
abbrev pub declared_quantities : ProgramTree → List Quantity
declared_quantities program = flat_map (quantities_of_constructor program) program.constructors ++ map quantity_of_function program.functions

abbrev pub is_over : Quantity → Bool
is_over quantity = nat_lt (greatest_of quantity.kind) quantity.count

abbrev pub if_over : Quantity → Option Quantity
if_over quantity = if is_over quantity then Some quantity else None

-- of two, the one that the text has first; the first one if they are at one byte
abbrev pub sooner : Option Quantity → Option Quantity → Option Quantity
sooner None other = other
sooner (Some one) None = Some one
sooner (Some one) (Some other) = if nat_lt other.at one.at then Some other else Some one

-- of those that pass their greatest numbers, the one that the text has first
abbrev pub first_over : List Quantity → Option Quantity
first_over [] = None
first_over (quantity ∷ quantities) = sooner (if_over quantity) (first_over quantities)

-- What a program comes to: no declaration passes a limit, or one is passed first in the text, with the count that does.
abbrev pub DeclarationsAs : ProgramTree → Result (Unit {0}) Limit → Type 0
DeclarationsAs program (Ok _) = first_over (declared_quantities program) ≡ None
DeclarationsAs program (Err limit) =
    (quantity : Quantity) × (first_over (declared_quantities program) ≡ Some quantity) × (limit ≡ record { kind = quantity.kind; count = quantity.count })
