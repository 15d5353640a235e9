-- Which variables are seen, and by which numbers they go; and what stands before an expression.
use Rattle.std.specs.Prelude.{ℕ, ◌+◌, List, [], ◌∷◌, ◌++◌, map, Bool, bytes_eq, Option, Some, None, if◌then◌else◌}
use Rattle.std.specs.List.{list_any}
use Rattle.kk_syntax.specs.declared.program.Binder.{Binder}
use Rattle.kk_syntax.specs.declared.program.Binder.TheVariants as OfBinder
use Rattle.kk_syntax.specs.declared.tree.Identifier.{Identifier}
use Rattle.kk_syntax.specs.declared.tree.SurfaceBinder.{SurfaceBinder}
use Rattle.kk_syntax.specs.declared.tree.SurfaceBinder.TheVariants as OfSurface
use Rattle.kk_syntax.specs.Surface.{WrittenPattern, anything, pattern_variable, exactly, constructor, WrittenPatterns, no_part, part, Written, number, unit, variable, call, dot_call, construct, unary, binary, both, either, print_text, branch, branch_alone, match, sequence, Writtens, no_written, written, WrittenRows, no_row, row, WrittenParameter}
use Rattle.kk_names.specs.declared.scope.Bound.{Bound}

-- the variables that are seen, the newest one first
abbrev pub Scope : Type 0
Scope = List Bound

-- the number of a variable: a newer one hides an older one of its name
abbrev pub number_in : Scope → List ℕ → Option ℕ
number_in [] name = None
number_in (bound ∷ older) name = if bytes_eq bound.name name then Some bound.number else number_in older name

-- the names of the variables that are seen
abbrev pub names_in : Scope → List (List ℕ)
names_in = map (λ bound. bound.name)

abbrev pub is_among : List (List ℕ) → List ℕ → Bool
is_among names name = list_any (λ other. bytes_eq other name) names

abbrev pub binding : Identifier → ℕ → Bound
binding name by = record { name = name.name; number = by }

-- the parameters of a function, numbered from that number on, and the variables that were seen before
abbrev pub with_parameters : ℕ → List WrittenParameter → Scope → Scope
with_parameters next [] scope = scope
with_parameters next (parameter ∷ more) scope = with_parameters (next + 1) more (binding parameter.name next ∷ scope)

abbrev pub parameter_names : List WrittenParameter → List (List ℕ) → List (List ℕ)
parameter_names [] names = names
parameter_names (parameter ∷ more) names = parameter_names more (parameter.name.name ∷ names)

-- a statement's binder: what it binds, by that number; and what is seen behind the statement
abbrev pub binder_of : SurfaceBinder → ℕ → Binder
binder_of OfSurface.Nothing next = OfBinder.Nothing
binder_of OfSurface.Wildcard next = OfBinder.Wildcard
binder_of (OfSurface.Variable name) next = OfBinder.Variable next

abbrev pub with_binder : SurfaceBinder → ℕ → Scope → Scope
with_binder OfSurface.Nothing next scope = scope
with_binder OfSurface.Wildcard next scope = scope
with_binder (OfSurface.Variable name) next scope = binding name next ∷ scope

abbrev pub binder_names : SurfaceBinder → List (List ℕ) → List (List ℕ)
binder_names OfSurface.Nothing names = names
binder_names OfSurface.Wildcard names = names
binder_names (OfSurface.Variable name) names = name.name ∷ names

-- What stands before an expression: so many variables of its function, and these string literals that are printed.
pub record Before : Type 0 where
  pub variables : ℕ
  pub texts : List (List ℕ)

-- the same, and a variable more or a print of a string more
abbrev pub with_variable : Before → Before
with_variable before = record { variables = before.variables + 1; texts = before.texts }

abbrev pub with_text : List ℕ → Before → Before
with_text text before = record { variables = before.variables; texts = before.texts ++ text ∷ [] }

abbrev pub past_binder : SurfaceBinder → Before → Before
past_binder OfSurface.Nothing before = before
past_binder OfSurface.Wildcard before = before
past_binder (OfSurface.Variable name) before = with_variable before

-- what stands before what follows a pattern
abbrev mutual
  pub past_pattern : WrittenPattern → Before → Before
  past_pattern anything before = before
  past_pattern (pattern_variable name) before = with_variable before
  past_pattern (exactly value) before = before
  past_pattern (constructor name parts) before = past_parts parts before

  pub past_parts : WrittenPatterns → Before → Before
  past_parts no_part before = before
  past_parts (part first rest) before = past_parts rest (past_pattern first before)

-- the variables of a pattern, the newest one first, and those before it
abbrev mutual
  pub with_pattern : WrittenPattern → Before → Scope → Scope
  with_pattern anything before scope = scope
  with_pattern (pattern_variable name) before scope = binding name before.variables ∷ scope
  with_pattern (exactly value) before scope = scope
  with_pattern (constructor name parts) before scope = with_parts parts before scope

  pub with_parts : WrittenPatterns → Before → Scope → Scope
  with_parts no_part before scope = scope
  with_parts (part first rest) before scope = with_parts rest (past_pattern first before) (with_pattern first before scope)

-- what is seen in a row of a match
abbrev pub in_row : WrittenPattern → Before → Scope → Scope
in_row pattern before scope = with_pattern pattern before [] ++ scope

-- the names of the variables of a pattern, and those before it
abbrev mutual
  pub pattern_names : WrittenPattern → List (List ℕ) → List (List ℕ)
  pattern_names anything names = names
  pattern_names (pattern_variable name) names = name.name ∷ names
  pattern_names (exactly value) names = names
  pattern_names (constructor name parts) names = parts_names parts names

  pub parts_names : WrittenPatterns → List (List ℕ) → List (List ℕ)
  parts_names no_part names = names
  parts_names (part first rest) names = parts_names rest (pattern_names first names)

-- what stands before what follows an expression
abbrev mutual
  pub past : Written → Before → Before
  past (number value) before = before
  past unit before = before
  past (variable name) before = before
  past (call name arguments) before = past_all arguments before
  past (dot_call first name others) before = past_all others (past first before)
  past (construct name arguments) before = past_all arguments before
  past (unary operator operand) before = past operand before
  past (binary operator left right) before = past right (past left before)
  past (both left right) before = past right (past left before)
  past (either left right) before = past right (past left before)
  past (print_text form text) before = with_text text before
  past (branch condition positive negative) before = past negative (past positive (past condition before))
  past (branch_alone condition positive) before = past positive (past condition before)
  past (sequence binder first rest) before = past rest (past first (past_binder binder before))
  past (match scrutinee rows) before = past_rows rows (past scrutinee before)

  pub past_all : Writtens → Before → Before
  past_all no_written before = before
  past_all (written first rest) before = past_all rest (past first before)

  pub past_rows : WrittenRows → Before → Before
  past_rows no_row before = before
  past_rows (row pattern body rest) before = past_rows rest (past body (past_pattern pattern before))
