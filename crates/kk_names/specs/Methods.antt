-- What the calls of the resolver promise: how far they have come, and which fault is the first so far.
use Rattle.std.specs.Prelude.{◌≡◌, ◌≤◌, ℕ, ◌+◌, max, List, [], ◌∷◌, ◌++◌, map, length, take, position, bytes_eq, codes, ◌==◌, nat_lt, ◌||◌, ◌&&◌, ◌⊎◌, Bool, Option, Some, None, Result, Ok, Err, if◌then◌else◌}
use Rattle.kk_base.specs.declared.error.NameError.{NameError}
use Rattle.kk_base.specs.declared.error.NameError.TheVariants.{NoMain, MainShape, NoMemory}
use Rattle.kk_syntax.specs.declared.program.Fun.{Fun}
use Rattle.kk_syntax.specs.declared.program.Program.{Program}
use Rattle.kk_syntax.specs.declared.tree.Identifier.{Identifier}
use Rattle.kk_syntax.specs.Programs.{constructor_tree, function_tree, program_tree}
use Rattle.kk_syntax.specs.Surface.{WrittenPattern, WrittenPatterns, WrittenRow, WrittenRows, Written, branch, branch_alone, Writtens, WrittenStatement, WrittenType, WrittenTypes, WrittenParameter, WrittenConstructor, WrittenDeclaration, block_of}
use Rattle.kk_syntax.specs.Patterns.{Pattern, Patterns}
use Rattle.kk_syntax.specs.Trees as program
use Rattle.kk_syntax.specs.Trees.{RowTree, row_parts, StatementTree}
use Rattle.kk_syntax.specs.Types.{TypeTree, TypeTrees}
use Rattle.kk_names.specs.declared.fault.Fault.{Fault}
use Rattle.kk_names.specs.declared.fault.FaultKind.{FaultKind}
use Rattle.kk_names.specs.declared.program.ProgramParts.{ProgramParts}
use Rattle.kk_names.specs.declared.resolver.Resolver.{Resolver}
use Rattle.kk_names.specs.declared.scope.Bound.{Bound}
use Rattle.kk_names.specs.declared.table.Declared.{Declared}
use Rattle.kk_names.specs.declared.table.DeclaredType.{DeclaredType}
use Rattle.kk_names.specs.Expressions.{pattern_meant, parts_meant, meant, meant_all, meant_rows}
use Rattle.kk_names.specs.Faults.{fault_at, rank, pattern_faults, parts_faults, faults_in, faults_in_all, faults_in_rows, type_faults, types_faults, parameter_faults, second_names, faults_in_function}
use Rattle.kk_names.specs.Names.{with_texts, Parts, MakesProgram, LacksMain, HasOtherMain}
use Rattle.kk_names.specs.Scopes.{Scope, names_in, with_parameters, with_binder, binder_of, with_pattern, with_parts, in_row, pattern_names, Before, past_binder, past_pattern, past_parts, past, past_all, past_rows}
use Rattle.kk_names.specs.Tables.{Known, types_from, cases_from, constructors_from, functions_from, type_names, constructor_names, function_names}
use Rattle.kk_names.specs.TypeNames.{type_meant, types_meant}

-- whether a fault of that kind at that byte comes before another
abbrev pub is_before : FaultKind → ℕ → Fault → Bool
is_before kind at other = nat_lt at other.at || ((at == other.at) && nat_lt (rank kind) (rank other.kind))

-- the first of the faults so far and of one more
abbrev pub earlier_of : Option Fault → Fault → Option Fault
earlier_of None fault = Some fault
earlier_of (Some other) fault = if is_before fault.kind fault.at other then Some fault else Some other

abbrev pub first_with : Option Fault → List Fault → Option Fault
first_with first [] = first
first_with first (fault ∷ more) = first_with (earlier_of first fault) more

-- variables in the order in which they were bound, before older ones
abbrev pub newest_before : Scope → List Bound → Scope
newest_before older [] = older
newest_before older (bound ∷ more) = newest_before (bound ∷ older) more

abbrev pub newest_first : List Bound → Scope
newest_first = newest_before []

-- the names that a resolver knows
abbrev pub known_of : Resolver → Known
known_of resolver = record { types = resolver.types.items; constructors = resolver.constructors.items; functions = resolver.functions.items }

-- how far the resolver has come
pub record State : Type 0 where
  pub known : Known
  pub scope : Scope
  pub before : Before
  pub first : Option Fault

abbrev pub before_of : Resolver → Before
before_of resolver = record { variables = resolver.next; texts = resolver.texts.items }

abbrev pub state_of : Resolver → State
state_of resolver = record {
  known = known_of resolver;
  scope = newest_first resolver.scope.items;
  before = before_of resolver;
  first = resolver.first;
}

-- something else stands before, and some faults more were noted
abbrev pub grown : State → Before → List Fault → State
grown state before faults = record {
  known = state.known;
  scope = state.scope;
  before = before;
  first = first_with state.first faults;
}

abbrev pub noting : List Fault → State → State
noting faults state = grown state state.before faults

-- the same with what was seen before
abbrev pub behind : Written → State → State
behind e state = grown state (past e state.before) (faults_in state.known (names_in state.scope) e)

abbrev pub behind_all : Writtens → State → State
behind_all es state = grown state (past_all es state.before) (faults_in_all state.known (names_in state.scope) es)

abbrev pub meant_at : State → Written → program.Tree
meant_at state e = meant state.known state.scope state.before e

abbrev pub meant_all_at : State → Writtens → program.Trees
meant_all_at state es = meant_all state.known state.scope state.before es

-- a fault, if it is one
abbrev pub faults_if : Bool → FaultKind → Identifier → List Fault
faults_if is_fault kind name = if is_fault then fault_at kind name ∷ [] else []

-- some faults were noted, and nothing else was changed
pub record Notes (faults : List Fault) (old new : Resolver) : Type 0 where
  pub state : state_of new ≡ noting faults (state_of old)
  pub scope : new.scope.items ≡ old.scope.items

-- an expression was resolved, and means this tree
pub record Resolves (e : Written) (old new : Resolver) (tree : program.Tree) : Type 0 where
  pub state : state_of new ≡ behind e (state_of old)
  pub scope : new.scope.items ≡ old.scope.items
  pub tree_is : tree ≡ meant_at (state_of old) e

-- an `if`, with or without a second branch
abbrev pub choice_of : Written → Written → Option Written → Written
choice_of condition positive None = branch_alone condition positive
choice_of condition positive (Some negative) = branch condition positive negative

-- the depth of such an `if`, those of its parts given
abbrev pub choice_depth : ℕ → ℕ → Option ℕ → ℕ
choice_depth condition positive None = max condition positive + 1
choice_depth condition positive (Some negative) = max condition (max positive negative) + 1

-- the same of several expressions
pub record ResolvesAll (es : Writtens) (old new : Resolver) (trees : program.Trees) : Type 0 where
  pub state : state_of new ≡ behind_all es (state_of old)
  pub scope : new.scope.items ≡ old.scope.items
  pub trees_are : trees ≡ meant_all_at (state_of old) es

-- a pattern was resolved, and means this pattern; its variables are behind those of these
pub record ResolvesPattern (p : WrittenPattern) (old new : Resolver) (fresh bound : Scope) (tree : Pattern) : Type 0 where
  pub state : state_of new ≡ grown (state_of old) (past_pattern p (before_of old)) (pattern_faults (known_of old) (names_in fresh) p)
  pub scope : new.scope.items ≡ old.scope.items
  pub bound_is : bound ≡ with_pattern p (before_of old) fresh
  pub tree_is : tree ≡ pattern_meant (known_of old) (before_of old) p

-- the same of several patterns
pub record ResolvesPatterns (ps : WrittenPatterns) (old new : Resolver) (fresh bound : Scope) (trees : Patterns) : Type 0 where
  pub state : state_of new ≡ grown (state_of old) (past_parts ps (before_of old)) (parts_faults (known_of old) (names_in fresh) ps)
  pub scope : new.scope.items ≡ old.scope.items
  pub bound_is : bound ≡ with_parts ps (before_of old) fresh
  pub trees_are : trees ≡ parts_meant (known_of old) (before_of old) ps

-- rows were resolved, and mean these rows
pub record ResolvesRows (rows : WrittenRows) (old new : Resolver) (trees : program.Rows) : Type 0 where
  pub state : state_of new ≡ grown (state_of old) (past_rows rows (before_of old)) (faults_in_rows (known_of old) (names_in (newest_first old.scope.items)) rows)
  pub scope : new.scope.items ≡ old.scope.items
  pub trees_are : trees ≡ meant_rows (known_of old) (newest_first old.scope.items) (before_of old) rows

-- a row was resolved, and means this row
pub record ResolvesRow (row : WrittenRow) (old new : Resolver) (tree : RowTree) : Type 0 where
  pub state : state_of new ≡ grown (state_of old) (past row.body (past_pattern row.pattern (before_of old)))
      (pattern_faults (known_of old) [] row.pattern ++ faults_in (known_of old) (pattern_names row.pattern [] ++ names_in (newest_first old.scope.items)) row.body)
  pub scope : new.scope.items ≡ old.scope.items
  pub tree_is : tree ≡ row_parts (pattern_meant (known_of old) (before_of old) row.pattern)
      (meant (known_of old) (in_row row.pattern (before_of old) (newest_first old.scope.items)) (past_pattern row.pattern (before_of old)) row.body)

-- the variables of a resolver are the first ones of another
abbrev pub KeepsScope : Resolver → Resolver → Type 0
KeepsScope old new = take (length old.scope.items) new.scope.items ≡ old.scope.items

-- a variable was bound, and nothing else was changed
pub record Binds (bound : Bound) (old new : Resolver) : Type 0 where
  pub known : known_of new ≡ known_of old
  pub scope : new.scope.items ≡ old.scope.items ++ bound ∷ []
  pub before : before_of new ≡ before_of old
  pub first : new.first ≡ old.first

-- behind a statement that variable is seen
abbrev pub behind_statement : WrittenStatement → State → State
behind_statement s state = record {
  known = state.known;
  scope = with_binder s.binder state.before.variables state.scope;
  before = past s.value (past_binder s.binder state.before);
  first = first_with state.first (faults_in state.known (names_in state.scope) s.value);
}

-- a statement was resolved
pub record ResolvesStatement (s : WrittenStatement) (old new : Resolver) (tree : StatementTree) : Type 0 where
  pub state : state_of new ≡ behind_statement s (state_of old)
  pub longer : length old.scope.items ≤ length new.scope.items
  pub kept : KeepsScope old new
  pub binder : tree.binder ≡ binder_of s.binder old.next
  pub value : tree.value ≡ meant (known_of old) (newest_first old.scope.items) (past_binder s.binder (before_of old)) s.value

-- Statements were resolved: what comes behind them in their block is then resolved as in the block.
pub record ResolvesStatements (statements : List WrittenStatement) (last : Written) (old new : Resolver) (trees : List StatementTree) : Type 0 where
  pub known : known_of new ≡ known_of old
  pub before : past last (before_of new) ≡ past (block_of statements last) (before_of old)
  pub first : (behind last (state_of new)).first ≡ (behind (block_of statements last) (state_of old)).first
  pub tree_is : program.block_of trees (meant_at (state_of new) last) ≡ meant_at (state_of old) (block_of statements last)

-- a type was resolved, where those type variables are seen, and means this type
pub record MeansType (variables : List (List ℕ)) (t : WrittenType) (old new : Resolver) (tree : TypeTree) : Type 0 where
  pub notes : Notes (type_faults (known_of old) variables t) old new
  pub tree_is : tree ≡ type_meant (known_of old) variables t

-- the same of several types
pub record MeansTypes (variables : List (List ℕ)) (ts : WrittenTypes) (old new : Resolver) (trees : TypeTrees) : Type 0 where
  pub notes : Notes (types_faults (known_of old) variables ts) old new
  pub trees_are : trees ≡ types_meant (known_of old) variables ts

-- parameters were resolved: they are seen, and mean these types
pub record ResolvesParameters (variables : List (List ℕ)) (parameters : List WrittenParameter) (old new : Resolver) (types : List TypeTree) : Type 0 where
  pub known : known_of new ≡ known_of old
  pub scope : newest_first new.scope.items ≡ with_parameters old.next parameters (newest_first old.scope.items)
  pub next : new.next ≡ old.next + length parameters
  pub texts : new.texts.items ≡ old.texts.items
  pub first : new.first ≡ first_with old.first (parameter_faults (known_of old) variables (names_in (newest_first old.scope.items)) parameters)
  pub types_are : types ≡ map (λ parameter. type_meant (known_of old) variables parameter.of_type) parameters

-- ---- declarations

-- other names are known, and some faults more were noted
abbrev pub knowing : State → Known → List Fault → State
knowing state known faults = record {
  known = known;
  scope = state.scope;
  before = state.before;
  first = first_with state.first faults;
}

abbrev pub with_types : Known → List DeclaredType → Known
with_types known more = record { types = known.types ++ more; constructors = known.constructors; functions = known.functions }

abbrev pub with_constructors : Known → List Declared → Known
with_constructors known more = record { types = known.types; constructors = known.constructors ++ more; functions = known.functions }

abbrev pub with_functions : Known → List Declared → Known
with_functions known more = record { types = known.types; constructors = known.constructors; functions = known.functions ++ more }

abbrev pub names_in_table : List Declared → List (List ℕ)
names_in_table = map (λ declared. declared.name)

abbrev pub names_of_types : List DeclaredType → List (List ℕ)
names_of_types = map (λ declared. declared.name)

-- The types of declarations are declared, the constructors of one of them, the constructors and the functions, numbered
-- from that number on; and it was noted where one has the name of an earlier one.
abbrev pub behind_types : ℕ → List WrittenDeclaration → State → State
behind_types number declarations state =
    knowing state (with_types state.known (types_from number declarations)) (second_names (names_of_types state.known.types) (type_names declarations))

abbrev pub behind_cases : ℕ → List WrittenConstructor → State → State
behind_cases number cases state =
    knowing state (with_constructors state.known (cases_from number cases))
    (second_names (names_in_table state.known.constructors) (map (λ case. case.name) cases))

abbrev pub behind_constructors : ℕ → List WrittenDeclaration → State → State
behind_constructors number declarations state =
    knowing state (with_constructors state.known (constructors_from number declarations))
    (second_names (names_in_table state.known.constructors) (constructor_names declarations))

abbrev pub behind_functions : ℕ → List WrittenDeclaration → State → State
behind_functions number declarations state =
    knowing state (with_functions state.known (functions_from number declarations))
    (second_names (names_in_table state.known.functions) (function_names declarations))

-- all of them are declared; `bool` is type 0, and `False` and `True` are constructors 0 and 1
abbrev pub behind_declarations : List WrittenDeclaration → State → State
behind_declarations declarations state = behind_functions 0 declarations (behind_constructors 2 declarations (behind_types 1 declarations state))

-- faults inside of declared types were noted, and the names that are known and the string literals stay
pub record NotesInside (faults : List Fault) (old new : Resolver) : Type 0 where
  pub known : known_of new ≡ known_of old
  pub first : new.first ≡ first_with old.first faults
  pub texts : new.texts.items ≡ old.texts.items

-- a function's faults were noted, and the string literals that it prints are there
pub record ResolvesFunction (declared : WrittenDeclaration) (old new : Resolver) : Type 0 where
  pub known : known_of new ≡ known_of old
  pub first : new.first ≡ first_with old.first (faults_in_function (known_of old) declared)
  pub texts : new.texts.items ≡ with_texts old.texts.items declared

-- the parts of a program as the code holds them
abbrev pub parts_of : ProgramParts → Parts
parts_of parts = record {
  types = parts.types.items;
  constructors = map constructor_tree parts.constructors.items;
  functions = map function_tree parts.functions.items;
  texts = parts.texts.items;
}

-- what comes of the parts of a program, and of the length of their text
abbrev pub AnswersMain : Parts → ℕ → Result Program NameError → Type 0
AnswersMain parts length (Ok program) = MakesProgram parts (program_tree program)
AnswersMain parts length (Err NoMemory) = Unit {0}
AnswersMain parts length (Err error) = LacksMain parts.functions length error ⊎ HasOtherMain parts.functions error

-- the number of `main` among the functions as the code holds them
abbrev pub main_among : List Fun → Option ℕ
main_among functions = position (λ function. bytes_eq function.name (codes "main")) functions

-- the error that no function is called `main`, unless memory ran out
abbrev pub IsNoMain : ℕ → NameError → Type 0
IsNoMain length NoMemory = Unit {0}
IsNoMain length error = error ≡ NoMain (codes "main") length

-- the error that `main` has a parameter or a result, unless memory ran out
abbrev pub IsOtherMain : Fun → NameError → Type 0
IsOtherMain function NoMemory = Unit {0}
IsOtherMain function error = error ≡ MainShape function.name function.at
