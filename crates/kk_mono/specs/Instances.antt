-- The instances of a program: `main`, and each function that is called in the body of one, at the types that stand for its
-- type variables there; and their ground constructors, at the types that stand for the variables of the constructors' types.
use Rattle.std.specs.Prelude.{◌≡◌, ℕ, ◌+◌, List, [], ◌∷◌, ◌++◌, map, flat_map, take, length, All, Contains, Some, is_some, if◌then◌else◌, slice_get, slice_index_or}
use Rattle.kk_syntax.specs.declared.program.Form.{Form}
use Rattle.kk_syntax.specs.declared.program.Form.TheVariants.{Construct, Call}
use Rattle.kk_syntax.specs.OfType.{fields_of}
use Rattle.kk_syntax.specs.Patterns.{Pattern, anything, variable as pattern_variable, exactly, constructor as made_pattern, Patterns, no_part, part}
use Rattle.kk_syntax.specs.Shapes.{Gathers, gathered, gathered_all, gathered_rows, Replaces, replaced, replaced_all, replaced_rows}
use Rattle.kk_syntax.specs.Trees.{Tree, Trees, Rows}
use Rattle.kk_syntax.specs.Types.{TypeTree, TypeTrees, types_of, put, type_at}
use Rattle.kk_syntax.specs.Typing.{Choice, constructing, calling, holding}
use Rattle.kk_syntax.specs.Programs.{ConstructorTree, FunctionTree, ProgramTree, constructor_in}

-- a function by its number, at types without variables
pub record InstanceTree : Type 0 where
  pub function : ℕ
  pub at : List TypeTree

-- `main` has no type variables
abbrev pub main_instance : ℕ → InstanceTree
main_instance main = record { function = main; at = [] }

-- The instances that a body calls, in the order of the text, where types stand for the variables of its function. A
-- variable that remains open stands for `()`.
abbrev pub called_at : List TypeTree → List Choice → List InstanceTree
called_at ts [] = []
called_at ts (constructing by at ∷ choices) = called_at ts choices
called_at ts (calling function at ∷ choices) = record { function = function; at = map (put (type_at ts)) at } ∷ called_at ts choices
called_at ts (holding of ∷ choices) = called_at ts choices

-- the instances that are called in the body of an instance, by the typings of all functions
abbrev pub called_in : List (List Choice) → InstanceTree → List InstanceTree
called_in typings instance = called_at instance.at (slice_index_or typings instance.function [])

-- what is an instance: `main`, and what is called in the body of an instance
pub data IsInstance (main : ℕ) (typings : List (List Choice)) : InstanceTree → Type 0 where
  main_is : IsInstance main typings (main_instance main)
  called_is : {caller called : InstanceTree} → IsInstance main typings caller → Contains (called_in typings caller) called
      → IsInstance main typings called

-- which of some things are seen for the first time, in their order, where others have been seen before
pub data FirstSights {X : Type 0} : List X → List X → List X → Type 0 where
  none_left : {seen : List X} → FirstSights seen [] []
  again : {seen : List X} {x : X} {xs new : List X} → Contains seen x → FirstSights seen xs new → FirstSights seen (x ∷ xs) new
  new_one : {seen : List X} {x : X} {xs new : List X} → ¬ Contains seen x → FirstSights (seen ++ (x ∷ [])) xs new
      → FirstSights seen (x ∷ xs) (x ∷ new)

-- These are all instances, each once, in the order of first sight: `main` first, then those that its body calls, those
-- that the body of the second one calls, and so on.
pub record AreInstances (main : ℕ) (typings : List (List Choice)) (instances : List InstanceTree) : Type 0 where
  pub others : List InstanceTree
  pub begins : instances ≡ main_instance main ∷ others
  pub in_order : FirstSights (main_instance main ∷ []) (flat_map (called_in typings) instances) others
  pub each : All (IsInstance main typings) instances
  pub all : (instance : InstanceTree) → IsInstance main typings instance → Contains instances instance

-- the function that a form calls
abbrev pub called_by : Form → List ℕ
called_by (Call function) = function ∷ []
called_by _ = []

-- the functions that an expression calls, as often as it does, in the order of the text
abbrev pub gathers_calls : Gathers ℕ
gathers_calls = record { at_form = called_by; at_rows = λ rows. []; at_pattern = λ pattern. [] }

abbrev pub calls : Tree → List ℕ
calls = gathered gathers_calls

abbrev pub calls_of_all : Trees → List ℕ
calls_of_all = gathered_all gathers_calls

abbrev pub calls_of_rows : Rows → List ℕ
calls_of_rows = gathered_rows gathers_calls

-- the constructor that a form builds with
abbrev pub built_by : Form → List ℕ
built_by (Construct constructor) = constructor ∷ []
built_by _ = []

-- the constructors of a pattern, from left to right
abbrev mutual
  pub tested : Pattern → List ℕ
  tested anything = []
  tested (pattern_variable of) = []
  tested (exactly value) = []
  tested (made_pattern by parts) = by ∷ tested_all parts

  pub tested_all : Patterns → List ℕ
  tested_all no_part = []
  tested_all (part first rest) = tested first ++ tested_all rest

-- the constructors that an expression builds and matches with, as often as it does, in the order of the text
abbrev pub gathers_constructors : Gathers ℕ
gathers_constructors = record { at_form = built_by; at_rows = λ rows. []; at_pattern = tested }

abbrev pub constructors_in : Tree → List ℕ
constructors_in = gathered gathers_constructors

abbrev pub constructors_in_all : Trees → List ℕ
constructors_in_all = gathered_all gathers_constructors

abbrev pub constructors_in_rows : Rows → List ℕ
constructors_in_rows = gathered_rows gathers_constructors

-- A constructor by its number, at types without variables: they stand for the variables of its type.
pub record GroundConstructorTree : Type 0 where
  pub constructor : ℕ
  pub at : List TypeTree

-- The ground constructors with which a body builds and matches, in the order of the text, where types stand for the
-- variables of its function.
abbrev pub constructed_at : List TypeTree → List Choice → List GroundConstructorTree
constructed_at ts [] = []
constructed_at ts (constructing by at ∷ choices) =
    record { constructor = by; at = map (put (type_at ts)) at } ∷ constructed_at ts choices
constructed_at ts (calling function at ∷ choices) = constructed_at ts choices
constructed_at ts (holding of ∷ choices) = constructed_at ts choices

-- those of an instance's body, by the typings of all functions
abbrev pub constructed_in : List (List Choice) → InstanceTree → List GroundConstructorTree
constructed_in typings instance = constructed_at instance.at (slice_index_or typings instance.function [])

-- the numbers of the constructors that make values of a type, in their order, where the first one has this number
abbrev pub makers_from : ℕ → List ConstructorTree → ℕ → TypeTrees → List ℕ
makers_from first [] by arguments = []
makers_from first (constructor ∷ constructors) by arguments =
    if is_some (fields_of (Some constructor) by arguments) then first ∷ makers_from (first + 1) constructors by arguments
    else makers_from (first + 1) constructors by arguments

abbrev pub makers : List ConstructorTree → ℕ → TypeTrees → List ℕ
makers = makers_from 0

-- the ground constructors of a declared type at types without variables, in the order of their declaration
abbrev pub ground_constructors : ProgramTree → ℕ → List TypeTree → List GroundConstructorTree
ground_constructors program by at = map (λ c. record { constructor = c; at = at }) (makers program.constructors by (types_of at))

-- those of the type of one of them
abbrev pub of_same_type : ProgramTree → GroundConstructorTree → List GroundConstructorTree
of_same_type program used = ground_constructors program (constructor_in program used.constructor).of_type used.at

-- These are the ground constructors of instances, each once: first those of `bool`, and then, in the order of first sight, those
-- of each type with whose constructors the body of an instance builds or matches.
pub record AreGroundConstructors (program : ProgramTree) (typings : List (List Choice)) (instances : List InstanceTree)
    (grounds : List GroundConstructorTree) : Type 0 where
  pub others : List GroundConstructorTree
  pub begins : grounds ≡ ground_constructors program 0 [] ++ others
  pub in_order : FirstSights (ground_constructors program 0 [])
      (flat_map (of_same_type program) (flat_map (constructed_in typings) instances)) others

-- A ground constructor as a constructor, without a name and a place in the text: it makes values of its type at its types
-- alone, which stand in the types of its fields. Its tag is its place among the constructors of its type.
abbrev pub ground_constructor : ProgramTree → GroundConstructorTree → ConstructorTree
ground_constructor program used =
    let declared = constructor_in program used.constructor in
    record {
      name = [];
      at = 0;
      of_type = declared.of_type;
      arguments = Some (types_of used.at);
      tag = length (makers (take used.constructor program.constructors) declared.of_type (types_of used.at));
      fields = map (put (type_at used.at)) declared.fields;
    }

-- other numbers for functions and for constructors
pub record Renaming : Type 0 where
  pub functions : ℕ → ℕ
  pub constructors : ℕ → ℕ

-- a form, a pattern, and an expression, that name functions and constructors by other numbers
abbrev pub renamed_form : Renaming → Form → Form
renamed_form new (Call function) = Call (new.functions function)
renamed_form new (Construct constructor) = Construct (new.constructors constructor)
renamed_form new form = form

abbrev mutual
  pub renamed_pattern : Renaming → Pattern → Pattern
  renamed_pattern new anything = anything
  renamed_pattern new (pattern_variable of) = pattern_variable of
  renamed_pattern new (exactly value) = exactly value
  renamed_pattern new (made_pattern by parts) = made_pattern (new.constructors by) (renamed_patterns new parts)

  pub renamed_patterns : Renaming → Patterns → Patterns
  renamed_patterns new no_part = no_part
  renamed_patterns new (part first rest) = part (renamed_pattern new first) (renamed_patterns new rest)

-- an expression that names functions and constructors by other numbers, the same ones everywhere
abbrev pub renames : Replaces Renaming
renames = record {
  form = renamed_form;
  pattern = renamed_pattern;
  behind_form = λ new form. new;
  behind_pattern = λ new pattern. new;
  behind = λ new e. new;
  behind_row = λ new r. new;
}

abbrev pub renamed : Renaming → Tree → Tree
renamed = replaced renames

abbrev pub renamed_all : Renaming → Trees → Trees
renamed_all = replaced_all renames

abbrev pub renamed_rows : Renaming → Rows → Rows
renamed_rows = replaced_rows renames

-- the function of which an instance is one, by the instance's number
abbrev pub function_of : List InstanceTree → ℕ → ℕ
function_of instances n = (slice_index_or instances n (main_instance 0)).function

-- the constructor of which a ground constructor is one, by the ground one's number
abbrev pub constructor_of : List GroundConstructorTree → ℕ → ℕ
constructor_of grounds n = (slice_index_or grounds n (record { constructor = 0; at = [] })).constructor

-- from the numbers of instances and of ground constructors back to those of functions and of constructors
abbrev pub origin_in : List InstanceTree → List GroundConstructorTree → Renaming
origin_in instances grounds = record { functions = function_of instances; constructors = constructor_of grounds }

-- A function is an instance of another, whose body has this typing: its types are without variables, and its body is the
-- other's, in which each call names the instance that is called there, and each construction and each pattern the ground
-- constructor that is used there.
pub record IsAtTypes (instances : List InstanceTree) (grounds : List GroundConstructorTree) (at : List TypeTree)
    (choices : List Choice) (function made : FunctionTree) : Type 0 where
  pub no_variables : made.variables ≡ 0
  pub parameters : made.parameters ≡ map (put (type_at at)) function.parameters
  pub result : made.result ≡ put (type_at at) function.result
  pub body : renamed (origin_in instances grounds) made.body ≡ function.body
  pub called : map (slice_get instances) (calls made.body) ≡ map Some (called_at at choices)
  pub constructed : map (slice_get grounds) (constructors_in made.body) ≡ map Some (constructed_at at choices)

-- These instances of a program are the functions of another, in which `main` is the first. It has the program's types and
-- string literals, and the ground constructors of the instances.
pub record IsInstanceProgram (program : ProgramTree) (typings : List (List Choice)) (instances : List InstanceTree)
    (made : ProgramTree) : Type 0 where
  pub are : AreInstances program.main typings instances
  pub grounds : List GroundConstructorTree
  pub grounds_are : AreGroundConstructors program typings instances grounds
  pub as_many : length made.functions ≡ length instances
  pub each : (n : ℕ) (instance : InstanceTree) (function_made : FunctionTree) → slice_get instances n ≡ Some instance
      → slice_get made.functions n ≡ Some function_made
      → (function : FunctionTree) × (slice_get program.functions instance.function ≡ Some function)
      × IsAtTypes instances grounds instance.at (slice_index_or typings instance.function []) function function_made
  pub main : made.main ≡ 0
  pub types : made.types ≡ program.types
  pub constructors : made.constructors ≡ map (ground_constructor program) grounds
  pub texts : made.texts ≡ program.texts
