-- The free variables of a typed function are its parameters.
use Rattle.std.proofs.Common.{◌≡◌, ℕ, ◌<◌, ◌==◌, Bool, true, false, List, [], ◌∷◌, ◌++◌, Some, length, refl, sym, ap, ◌∙◌}
use Rattle.std.proofs.lemmas.Bool.{eqb-true}
use Rattle.kk_syntax.specs.declared.program.Binder.{Binder}
use Rattle.kk_syntax.specs.declared.program.Binder.TheVariants as OfBinder
use Rattle.kk_syntax.specs.GroundTyping.{Table, with_pattern, with_parts, types_or_none, HasType, HaveTypes, AreRowsTyped, IsFunctionTyped}
use Rattle.kk_syntax.specs.OfType.{field_types}
use Rattle.kk_syntax.specs.Patterns.{Pattern, anything, variable as pattern_variable, exactly, constructor, Patterns, no_part, part}
use Rattle.kk_syntax.specs.Programs.{ConstructorTree, FunctionTree}
use Rattle.kk_syntax.specs.Shapes.{bound, bound_all, bound_by, free, free_all, free_rows, is_among, without}
use Rattle.kk_syntax.specs.Trees.{Tree, variable, apply, branch, match, sequence, Trees, no_tree, tree, Rows, no_row, row, row_parts}
use Rattle.kk_syntax.specs.Types.{TypeTree}
use Rattle.kk_syntax.specs.Typing.{Scope, type_in, with_binder, with_parameters}
use Rattle.kk_norm.proofs.PatternNames.{out_left, out_right}
use Rattle.kk_norm.proofs.Scopes.{parameter_low}
use Rattle.kk_norm.proofs.Variables.{among_each, left_over}

-- a variable has a type
abbrev HasSome : Scope → ℕ → Type 0
HasSome scope x = (t : TypeTree) × (type_in scope x ≡ Some t)

typed_before : (binder : Binder) (s : TypeTree) (scope : Scope) (x : ℕ) → is_among (bound_by binder) x ≡ false
    → HasSome (with_binder binder s scope) x → HasSome scope x
typed_before OfBinder.Nothing s scope x out some = some
typed_before OfBinder.Wildcard s scope x out some = some
typed_before (OfBinder.Variable y) s scope x out some = by_test (y == x) refl
  where
    by_test : (same : Bool) → (y == x) ≡ same → HasSome scope x
    by_test true same_is = absurd (let one = rw same_is at out in cc)
    by_test false same_is = (some.0, rw same_is at some.1)

mutual
  -- a variable that a pattern does not bind has its type before it
  pattern_before : (constructors : List ConstructorTree) (p : Pattern) (t : TypeTree) (scope : Scope) (x : ℕ)
      → is_among (bound p) x ≡ false → HasSome (with_pattern constructors p t scope) x → HasSome scope x
  pattern_before constructors anything t scope x out some = some
  pattern_before constructors (pattern_variable y) t scope x out some = by_test (y == x) refl
    where
      by_test : (same : Bool) → (y == x) ≡ same → HasSome scope x
      by_test true same_is = absurd (let one = rw same_is at out in cc)
      by_test false same_is = (some.0, rw same_is at some.1)
  pattern_before constructors (exactly n) t scope x out some = some
  pattern_before constructors (constructor c ps) t scope x out some =
      parts_before constructors ps (types_or_none (field_types constructors t c)) scope x out some

  parts_before : (constructors : List ConstructorTree) (ps : Patterns) (ts : List TypeTree) (scope : Scope) (x : ℕ)
      → is_among (bound_all ps) x ≡ false → HasSome (with_parts constructors ps ts scope) x → HasSome scope x
  parts_before constructors no_part ts scope x out some = some
  parts_before constructors (part first rest) [] scope x out some = some
  parts_before constructors (part first rest) (t ∷ ts) scope x out some =
      pattern_before constructors first t scope x (out_left (bound first) (bound_all rest) x out)
      (parts_before constructors rest ts (with_pattern constructors first t scope) x
      (out_right (bound first) (bound_all rest) x out) some)

mutual
  pub free_typed : (table : Table) (e : Tree) (scope : Scope) (t : TypeTree) (x : ℕ) → HasType table scope e t
      → is_among (free e) x ≡ true → HasSome scope x
  free_typed table (variable y) scope t x has is = by_test (y == x) refl
    where
      by_test : (same : Bool) → (y == x) ≡ same → HasSome scope x
      by_test true same_is = (t, ap (type_in scope) (sym (eqb-true y x same_is)) ∙ has)
      by_test false same_is = absurd (let one = rw same_is at is in cc)
  free_typed table (apply form es) scope t x has is = all_typed table es scope has.0 x has.1 is
  free_typed table (branch e positive negative) scope t x has is =
      among_each (free e) (free positive ++ free negative) x (HasSome scope x)
      (λ in_first. free_typed table e scope _ x has.0 in_first)
      (λ in_parts. among_each (free positive) (free negative) x (HasSome scope x)
      (λ in_positive. free_typed table positive scope t x has.1 in_positive)
      (λ in_negative. free_typed table negative scope t x has.2 in_negative) in_parts)
      is
  free_typed table (match e of) scope t x has is =
      among_each (free e) (free_rows of) x (HasSome scope x)
      (λ in_first. free_typed table e scope has.0 x has.1 in_first)
      (λ in_rows. rows_typed table of scope has.0 t x has.2 in_rows)
      is
  free_typed table (sequence binder first rest) scope t x has is =
      among_each (free first) (without (bound_by binder) (free rest)) x (HasSome scope x)
      (λ in_first. free_typed table first scope has.0 x has.1 in_first)
      (λ in_rest. let over = left_over (bound_by binder) (free rest) x in_rest in typed_before binder has.0 scope x over.0
      (free_typed table rest (with_binder binder has.0 scope) t x has.2 over.1))
      is

  all_typed : (table : Table) (es : Trees) (scope : Scope) (ts : List TypeTree) (x : ℕ) → HaveTypes table scope es ts
      → is_among (free_all es) x ≡ true → HasSome scope x
  all_typed table no_tree scope ts x have is = absurd (cc)
  all_typed table (tree first rest) scope [] x have is = absurd have
  all_typed table (tree first rest) scope (t ∷ ts) x have is =
      among_each (free first) (free_all rest) x (HasSome scope x)
      (λ in_first. free_typed table first scope t x have.0 in_first) (λ in_rest. all_typed table rest scope ts x have.1 in_rest) is

  rows_typed : (table : Table) (of : Rows) (scope : Scope) (u t : TypeTree) (x : ℕ) → AreRowsTyped table scope of u t
      → is_among (free_rows of) x ≡ true → HasSome scope x
  rows_typed table no_row scope u t x typed is = absurd (cc)
  rows_typed table (row (row_parts pattern body) rest) scope u t x typed is =
      among_each (without (bound pattern) (free body)) (free_rows rest) x (HasSome scope x)
      (λ in_body. let over = left_over (bound pattern) (free body) x in_body in
      pattern_before table.constructors pattern u scope x over.0
      (free_typed table body (with_pattern table.constructors pattern u scope) t x typed.1 over.1))
      (λ in_rest. rows_typed table rest scope u t x typed.2 in_rest)
      is

pub is_closed : (table : Table) (function : FunctionTree) → IsFunctionTyped table function → (x : ℕ)
    → is_among (free function.body) x ≡ true → x < length function.parameters
is_closed table function typed x is =
    let some = free_typed table function.body (with_parameters 0 function.parameters []) function.result x typed is in
    parameter_low function.parameters x some.0 some.1
