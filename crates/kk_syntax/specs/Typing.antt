-- The types of the whole language: one clause for each form. A typing of a body is the list of the types that are chosen
-- in it; they decide the type of each of its nodes.
use Rattle.std.specs.Prelude.{◌≡◌, ◌<◌, ◌+◌, ℕ, List, [], ◌∷◌, ◌++◌, length, map, option_map, MatchOption, Option, Some, None, if◌then◌else◌, ◌==◌, slice_get, Result, Ok, Err}
use Rattle.kk_syntax.specs.declared.operator.UnaryOperator.{UnaryOperator}
use Rattle.kk_syntax.specs.declared.operator.UnaryOperator.TheVariants.{Negate, Not}
use Rattle.kk_syntax.specs.declared.operator.BinaryOperator.{BinaryOperator}
use Rattle.kk_syntax.specs.declared.operator.BinaryOperator.TheVariants.{Add, Subtract, Multiply, Divide, Remainder, Equal, NotEqual, Less, LessEqual, Greater, GreaterEqual}
use Rattle.kk_syntax.specs.declared.program.Binder.{Binder}
use Rattle.kk_syntax.specs.declared.program.Binder.TheVariants as OfBinder
use Rattle.kk_syntax.specs.declared.program.Form.{Form}
use Rattle.kk_syntax.specs.declared.program.Form.TheVariants.{Number, Unit as Nothing, ReadByte, PrintText, Unary, Binary, Print, Construct, Call}
use Rattle.kk_syntax.specs.declared.program.TypeDecl.{TypeDecl}
use Rattle.kk_syntax.specs.Patterns.{Pattern, anything, variable as pattern_variable, exactly, constructor, Patterns, no_part, part}
use Rattle.kk_syntax.specs.Programs.{ConstructorTree, FunctionTree, ProgramTree, declared_in}
use Rattle.kk_syntax.specs.Shapes.{bound}
use Rattle.kk_syntax.specs.Trees.{Tree, variable, apply, branch, match, sequence, Trees, no_tree, tree, Rows, no_row, row, row_parts}
use Rattle.kk_syntax.specs.Types.{TypeTree, int32, unit_type, type_variable, named, no_type, types_of, put, type_at, variables_below}

-- `bool` is the first type of each program, and `False` and `True` are its first constructors
abbrev pub bool : TypeTree
bool = named 0 no_type

-- a variable of a function, and its type
pub record TypedVariable : Type 0 where
  pub variable : ℕ
  pub type : TypeTree

-- the variables that are bound, the newest one first
abbrev pub Scope : Type 0
Scope = List TypedVariable

abbrev pub type_in : Scope → ℕ → Option TypeTree
type_in [] x = None
type_in (typed ∷ scope) x = if typed.variable == x then Some typed.type else type_in scope x

-- parameters, from the one of that number on, before other variables
abbrev pub with_parameters : ℕ → List TypeTree → Scope → Scope
with_parameters next [] scope = scope
with_parameters next (t ∷ ts) scope = with_parameters (next + 1) ts (record { variable = next; type = t } ∷ scope)

-- what a statement binds
abbrev pub with_binder : Binder → TypeTree → Scope → Scope
with_binder OfBinder.Nothing t scope = scope
with_binder OfBinder.Wildcard t scope = scope
with_binder (OfBinder.Variable x) t scope = record { variable = x; type = t } ∷ scope

-- `~` is of `int32`, and `!` of `bool`
abbrev pub unary_type : UnaryOperator → TypeTree
unary_type Negate = int32
unary_type Not = bool

-- operators are of two `int32`; what they give is one too, or a comparison's `bool`
abbrev pub binary_type : BinaryOperator → TypeTree
binary_type Add = int32
binary_type Subtract = int32
binary_type Multiply = int32
binary_type Divide = int32
binary_type Remainder = int32
binary_type Equal = bool
binary_type NotEqual = bool
binary_type Less = bool
binary_type LessEqual = bool
binary_type Greater = bool
binary_type GreaterEqual = bool

-- variables of a pattern, each with a type, before other variables
abbrev pub with_bound : List ℕ → List TypeTree → Scope → Scope
with_bound [] ts scope = scope
with_bound (x ∷ xs) [] scope = scope
with_bound (x ∷ xs) (t ∷ ts) scope = with_bound xs ts (record { variable = x; type = t } ∷ scope)

-- What a use takes and gives, over type variables, of which there are so many: at each use types are chosen for them.
pub record Scheme : Type 0 where
  pub variables : ℕ
  pub parameters : List TypeTree
  pub result : TypeTree

abbrev pub function_scheme : FunctionTree → Scheme
function_scheme function = record { variables = function.variables; parameters = function.parameters; result = function.result }

-- the number of type variables of a declared type
abbrev pub variables_of_type : Option TypeDecl → ℕ
variables_of_type None = 0
variables_of_type (Some declaration) = declaration.variables

-- A declared constructor takes its fields, and gives its type at the variables of that type. A ground one is used at one type
-- alone, so it has no scheme.
abbrev pub scheme_in : ProgramTree → ConstructorTree → Scheme
scheme_in program made =
    let count = variables_of_type (slice_get program.types made.of_type) in
    record { variables = count; parameters = made.fields; result = named made.of_type (types_of (variables_below count)) }

abbrev pub constructor_scheme : ProgramTree → ℕ → Option Scheme
constructor_scheme program c = option_map (scheme_in program) (declared_in (slice_get program.constructors c))

-- what a form takes and gives, if there is such a constructor or function
abbrev pub form_scheme : ProgramTree → Form → Option Scheme
form_scheme program (Number value) = Some (record { variables = 0; parameters = []; result = int32 })
form_scheme program Nothing = Some (record { variables = 0; parameters = []; result = unit_type })
form_scheme program ReadByte = Some (record { variables = 0; parameters = []; result = int32 })
form_scheme program (PrintText form text) = Some (record { variables = 0; parameters = []; result = unit_type })
form_scheme program (Unary operator) = Some (record { variables = 0; parameters = unary_type operator ∷ []; result = unary_type operator })
form_scheme program (Binary operator) = Some (record { variables = 0; parameters = int32 ∷ int32 ∷ []; result = binary_type operator })
form_scheme program (Print form) = Some (record { variables = 0; parameters = int32 ∷ []; result = unit_type })
form_scheme program (Construct c) = constructor_scheme program c
form_scheme program (Call f) = option_map function_scheme (slice_get program.functions f)

-- What is chosen in a body: types for the type variables of a constructor or of a function that is used there; and the
-- type of the value of a statement, of the scrutinee of a match, or of a variable of a pattern.
pub data Choice : Type 0 where
  constructing : (by : ℕ) → (at : List TypeTree) → Choice
  calling : (function : ℕ) → (at : List TypeTree) → Choice
  holding : (of : TypeTree) → Choice

-- a choice, with types put in place of the variables
abbrev pub put_choice : (ℕ → TypeTree) → Choice → Choice
put_choice s (constructing by at) = constructing by (map (put s) at)
put_choice s (calling function at) = calling function (map (put s) at)
put_choice s (holding of) = holding (put s of)

-- what is chosen at a form
abbrev pub chosen_at : Form → List TypeTree → List Choice
chosen_at (Construct c) ts = constructing c ts ∷ []
chosen_at (Call f) ts = calling f ts ∷ []
chosen_at _ ts = []

-- choices in two parts, one behind the other
abbrev pub InTurn : (List Choice → Type 0) → (List Choice → Type 0) → List Choice → Type 0
InTurn P Q choices = (first : List Choice) × (rest : List Choice) × (choices ≡ first ++ rest) × P first × Q rest

-- A use of a scheme: types are chosen for its variables, it gives this type at them, and the rest is a typing of its
-- arguments at the types that it takes.
pub record Uses (scheme : Option Scheme) (chosen : List TypeTree → List Choice) (Arguments : List TypeTree → List Choice → Type 0) (t : TypeTree) (choices : List Choice) : Type 0 where
  pub of : Scheme
  pub is : scheme ≡ Some of
  pub at : List TypeTree
  pub each : length at ≡ of.variables
  pub gives : t ≡ put (type_at at) of.result
  pub rest : List Choice
  pub choices_are : choices ≡ chosen at ++ rest
  pub arguments : Arguments (map (put (type_at at)) of.parameters) rest

-- These choices are a typing of a pattern, of patterns, at a type, at types. The variables of the patterns are in the scope
-- already.
abbrev mutual
  pub IsPatternTyped : ProgramTree → Scope → Pattern → TypeTree → List Choice → Type 0
  IsPatternTyped program scope anything t choices = choices ≡ []
  IsPatternTyped program scope (pattern_variable x) t choices = (type_in scope x ≡ Some t) × (choices ≡ [])
  IsPatternTyped program scope (exactly value) t choices = (t ≡ int32) × (choices ≡ [])
  IsPatternTyped program scope (constructor c parts) t choices =
      Uses (constructor_scheme program c) (λ ts. constructing c ts ∷ []) (λ ts rest. ArePatternsTyped program scope parts ts rest) t choices

  pub ArePatternsTyped : ProgramTree → Scope → Patterns → List TypeTree → List Choice → Type 0
  ArePatternsTyped program scope no_part [] choices = choices ≡ []
  ArePatternsTyped program scope no_part (t ∷ ts) choices = ⊥
  ArePatternsTyped program scope (part first rest) [] choices = ⊥
  ArePatternsTyped program scope (part first rest) (t ∷ ts) choices =
      InTurn (IsPatternTyped program scope first t) (ArePatternsTyped program scope rest ts) choices

-- types are chosen for the variables of a pattern, and the rest is a typing where they are in the scope
pub record Binds (variables : List ℕ) (scope : Scope) (Inside : Scope → List Choice → Type 0) (choices : List Choice) : Type 0 where
  pub at : List TypeTree
  pub each : length at ≡ length variables
  pub rest : List Choice
  pub choices_are : choices ≡ map holding at ++ rest
  pub inside : Inside (with_bound variables at scope) rest

-- one type is chosen, and the rest is a typing with it
pub record Holds (With : TypeTree → List Choice → Type 0) (choices : List Choice) : Type 0 where
  pub of : TypeTree
  pub rest : List Choice
  pub choices_are : choices ≡ holding of ∷ rest
  pub inside : With of rest

-- These choices are a typing of an expression at a type, of expressions at types, and of the rows of a match whose
-- scrutinee has the first type at the second one.
abbrev mutual
  pub IsTypedBy : ProgramTree → Scope → Tree → TypeTree → List Choice → Type 0
  IsTypedBy program scope (variable x) t choices = (type_in scope x ≡ Some t) × (choices ≡ [])
  IsTypedBy program scope (apply form es) t choices =
      Uses (form_scheme program form) (chosen_at form) (λ ts rest. AreTypedBy program scope es ts rest) t choices
  IsTypedBy program scope (branch e positive negative) t choices =
      InTurn (IsTypedBy program scope e bool) (InTurn (IsTypedBy program scope positive t) (IsTypedBy program scope negative t)) choices
  IsTypedBy program scope (match e rows) t choices =
      Holds (λ u. InTurn (IsTypedBy program scope e u) (AreRowsTypedBy program scope rows u t)) choices
  IsTypedBy program scope (sequence binder first rest) t choices =
      Holds (λ s. InTurn (IsTypedBy program scope first s) (IsTypedBy program (with_binder binder s scope) rest t)) choices

  pub AreTypedBy : ProgramTree → Scope → Trees → List TypeTree → List Choice → Type 0
  AreTypedBy program scope no_tree [] choices = choices ≡ []
  AreTypedBy program scope no_tree (t ∷ ts) choices = ⊥
  AreTypedBy program scope (tree first rest) [] choices = ⊥
  AreTypedBy program scope (tree first rest) (t ∷ ts) choices =
      InTurn (IsTypedBy program scope first t) (AreTypedBy program scope rest ts) choices

  pub AreRowsTypedBy : ProgramTree → Scope → Rows → TypeTree → TypeTree → List Choice → Type 0
  AreRowsTypedBy program scope no_row u t choices = choices ≡ []
  AreRowsTypedBy program scope (row (row_parts pattern body) rest) u t choices =
      InTurn
      (Binds (bound pattern) scope (λ inner. InTurn (IsPatternTyped program inner pattern u) (IsTypedBy program inner body t)))
      (AreRowsTypedBy program scope rest u t) choices

-- These choices are a typing of a function: its body has the type of its result. Inside, its own type variables stand for
-- themselves.
abbrev pub IsTyping : ProgramTree → FunctionTree → List Choice → Type 0
IsTyping program function choices =
    let own = put (type_at (variables_below function.variables)) in
    IsTypedBy program (with_parameters 0 (map own function.parameters) []) function.body (own function.result) choices

-- types in place of variables, where the first so many stand for themselves
abbrev pub Fixes : ℕ → (ℕ → TypeTree) → Type 0
Fixes count s = (x : ℕ) → x < count → s x ≡ type_variable x

-- A typing of a function is principal if each other one is it, with types put in place of the variables that remain open:
-- those that are not the function's own.
pub record IsPrincipal (program : ProgramTree) (function : FunctionTree) (choices : List Choice) : Type 0 where
  pub typing : IsTyping program function choices
  pub each : (others : List Choice) → IsTyping program function others → (s : ℕ → TypeTree) × Fixes function.variables s × (others ≡ map (put_choice s) choices)

-- a function is typed if it has a typing
abbrev pub IsTypable : ProgramTree → FunctionTree → Type 0
IsTypable program function = (choices : List Choice) × IsTyping program function choices

-- for each function of a program, by its number, a principal typing
pub record ArePrincipal (program : ProgramTree) (typings : List (List Choice)) : Type 0 where
  pub length : length typings ≡ length program.functions
  pub each : (f : ℕ) (function : FunctionTree) (choices : List Choice) → slice_get program.functions f ≡ Some function → slice_get typings f ≡ Some choices → IsPrincipal program function choices

-- the function of this number is typed, if there is one
abbrev pub IsTypableAt : ProgramTree → ℕ → Type 0
IsTypableAt program f = MatchOption (slice_get program.functions f) (Unit {0}) (IsTypable program)

-- there is a function of this number, it is not typed, and each function before it is
pub record IsFirstUntyped (program : ProgramTree) (f : ℕ) : Type 0 where
  pub function : FunctionTree
  pub is : slice_get program.functions f ≡ Some function
  pub untyped : ¬ IsTypable program function
  pub earlier : (g : ℕ) → g < f → IsTypableAt program g

-- what a program comes to: each function is typed, or one is the first that is not
abbrev pub TypesAs : ProgramTree → Result (Unit {0}) ℕ → Type 0
TypesAs program (Ok _) = (f : ℕ) → IsTypableAt program f
TypesAs program (Err f) = IsFirstUntyped program f
