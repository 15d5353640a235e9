-- Types put in place of variables: twice, in the fields of declared constructors, and in the types of patterns.
use Rattle.std.proofs.Common.{◌≡◌, ℕ, zero, suc, Bool, true, false, List, [], ◌∷◌, length, map, Option, Some, None, refl, sym, ap, ◌∙◌, arith}
use Rattle.std.specs.Prelude.{if◌then◌else◌, ◌==◌, slice_get}
use Rattle.std.proofs.lemmas.List.{take_all}
use Rattle.kk_syntax.specs.Covered.{Each, asked_by}
use Rattle.kk_syntax.specs.OfType.{IsPatternOf, ArePatternsOf, with_arguments, fields_with, fields_of, field_types, is_int32, values_of}
use Rattle.kk_syntax.specs.Outlines.{outline_of, outlines_of}
use Rattle.kk_syntax.specs.Patterns.{Pattern, anything, variable as pattern_variable, exactly, constructor, Patterns, no_part, part}
use Rattle.kk_syntax.specs.Programs.{ConstructorTree, ProgramTree}
use Rattle.kk_syntax.specs.Trees.{Rows, no_row, row, row_parts}
use Rattle.kk_syntax.specs.Types.{TypeTree, TypeTrees, int32, unit_type, type_variable, named, no_type, type, type_list, put, put_each, type_at, variables_below}
use Rattle.kk_syntax.specs.Typing.{Scope, Scheme, Choice, constructor_scheme, IsPatternTyped, ArePatternsTyped, AreRowsTypedBy}
use Rattle.kk_syntax.proofs.PatternTypes.{variables_put, is_declared, fields_found}

-- ---- twice

module _ (s r q : ℕ → TypeTree) (same : (x : ℕ) → put s (r x) ≡ q x) where
  mutual
    pub put_put : (t : TypeTree) → put s (put r t) ≡ put q t
    put_put int32 = refl
    put_put unit_type = refl
    put_put (type_variable x) = same x
    put_put (named by arguments) = ap (λ ts. named by ts) (put_put_each arguments)

    put_put_each : (ts : TypeTrees) → put_each s (put_each r ts) ≡ put_each q ts
    put_put_each no_type = refl
    put_put_each (type first rest) = rw (put_put first, put_put_each rest) refl

  pub put_put_all : (ts : List TypeTree) → map (put s) (map (put r) ts) ≡ map (put q) ts
  put_put_all [] = refl
  put_put_all (t ∷ ts) = rw (put_put t, put_put_all ts) refl

-- what stands for a variable, with types put in place of its own
pub put_at : (s : ℕ → TypeTree) (ts : List TypeTree) (x : ℕ) → put s (type_at ts x) ≡ type_at (map (put s) ts) x
put_at s [] x = refl
put_at s (t ∷ ts) zero = refl
put_at s (t ∷ ts) (suc x) = put_at s ts x

-- types at types, with others put in place of their variables
module _ (s : ℕ → TypeTree) (ts : List TypeTree) where
  pub put_at_types : (t : TypeTree) → put s (put (type_at ts) t) ≡ put (type_at (map (put s) ts)) t
  put_at_types t = put_put s (type_at ts) (type_at (map (put s) ts)) (put_at s ts) t

  pub put_all_at_types : (us : List TypeTree) → map (put s) (map (put (type_at ts)) us) ≡ map (put (type_at (map (put s) ts))) us
  put_all_at_types us = put_put_all s (type_at ts) (type_at (map (put s) ts)) (put_at s ts) us

-- a function's own variables, with types in place of them
module _ (ts : List TypeTree) (n : ℕ) (long : length ts ≡ n) where
  variable_at : (x : ℕ) → put (type_at ts) (type_at (variables_below n) x) ≡ type_at ts x
  variable_at x =
      put_at (type_at ts) (variables_below n) x
      ∙ ap (λ (us : List TypeTree). type_at us x) (variables_put ts n (omega (arith, long)) ∙ take_all n ts (omega (arith, long)))

  pub own_put : (t : TypeTree) → put (type_at ts) (put (type_at (variables_below n)) t) ≡ put (type_at ts) t
  own_put t = put_put (type_at ts) (type_at (variables_below n)) (type_at ts) variable_at t

  pub own_put_all : (us : List TypeTree)
      → map (put (type_at ts)) (map (put (type_at (variables_below n))) us) ≡ map (put (type_at ts)) us
  own_put_all us = put_put_all (type_at ts) (type_at (variables_below n)) (type_at ts) variable_at us

-- ---- constructors and patterns

listed : (s : ℕ → TypeTree) (ts : TypeTrees) → type_list (put_each s ts) ≡ map (put s) (type_list ts)
listed s no_type = refl
listed s (type first rest) = ap (λ us. put s first ∷ us) (listed s rest)

-- the types of the fields of a declared constructor
fields_of_put : (found : Option ConstructorTree) (made : ConstructorTree) (by : ℕ) (s : ℕ → TypeTree) (arguments : TypeTrees)
    (us : List TypeTree) → found ≡ Some made → made.arguments ≡ None → fields_of found by arguments ≡ Some us
    → fields_of found by (put_each s arguments) ≡ Some (map (put s) us)
fields_of_put found made by s arguments us there any is =
    ap (λ o. fields_of o by (put_each s arguments)) there
    ∙ by_arguments made.arguments any (made.of_type == by) (ap (λ o. fields_of o by arguments) (sym there) ∙ is)
  where
    by_test : (b : Bool) → (if b then Some (map (with_arguments arguments) made.fields) else None) ≡ Some us
        → (if b then Some (map (with_arguments (put_each s arguments)) made.fields) else None) ≡ Some (map (put s) us)
    by_test true is =
        let same : map (with_arguments arguments) made.fields ≡ us = cc in
        ap (λ (ts : List TypeTree). Some (map (put (type_at ts)) made.fields)) (listed s arguments)
        ∙ ap (λ (ts : List TypeTree). Some ts)
        (sym (put_all_at_types s (type_list arguments) made.fields) ∙ ap (map (put s)) same)
    by_test false is = absurd (cc)

    by_arguments : (own : Option TypeTrees) → own ≡ None → (b : Bool) → (if b then fields_with own made.fields arguments else None) ≡ Some us
        → (if b then fields_with own made.fields (put_each s arguments) else None) ≡ Some (map (put s) us)
    by_arguments None any b is = by_test b is
    by_arguments (Some arguments) any b is = absurd (cc)

numbers_put : (s : ℕ → TypeTree) (t : TypeTree) → is_int32 t ≡ true → is_int32 (put s t) ≡ true
numbers_put s int32 is = refl
numbers_put s unit_type is = is
numbers_put s (type_variable of) is = absurd (cc)
numbers_put s (named by arguments) is = is

pub fields_put : (constructors : List ConstructorTree) (s : ℕ → TypeTree) (t : TypeTree) (c : ℕ) (made : ConstructorTree) (us : List TypeTree)
    → slice_get constructors c ≡ Some made → made.arguments ≡ None → field_types constructors t c ≡ Some us
    → field_types constructors (put s t) c ≡ Some (map (put s) us)
fields_put constructors s int32 c made us there any is = absurd (cc)
fields_put constructors s unit_type c made us there any is = absurd (cc)
fields_put constructors s (type_variable of) c made us there any is = absurd (cc)
fields_put constructors s (named by arguments) c made us there any is =
    fields_of_put (slice_get constructors c) made by s arguments us there any is

-- Patterns that are typed are of their type where types are put in place of its variables.
module _ (program : ProgramTree) (s : ℕ → TypeTree) where
  pub found_put : (c : ℕ) (of : Scheme) (at : List TypeTree) (t : TypeTree) → constructor_scheme program c ≡ Some of
      → length at ≡ of.variables → t ≡ put (type_at at) of.result
      → field_types program.constructors (put s t) c ≡ Some (map (put s) (map (put (type_at at)) of.parameters))
  found_put c of at t is long gives =
      let known = is_declared program (slice_get program.constructors c) of is in
      fields_put program.constructors s t c known.made (map (put (type_at at)) of.parameters) known.there known.any
      (fields_found program c of at t is long gives)

  mutual
    pub pattern_put : (scope : Scope) (p : Pattern) (t : TypeTree) (choices : List Choice)
        → IsPatternTyped program scope p t choices → IsPatternOf (values_of program.constructors) (put s t) (outline_of p)
    pattern_put scope anything t choices typed = tt
    pattern_put scope (pattern_variable x) t choices typed = tt
    pattern_put scope (exactly value) t choices typed = numbers_put s t (ap is_int32 typed.0)
    pattern_put scope (constructor c parts) t choices uses =
        let fields = map (put (type_at uses.at)) uses.of.parameters in (
          map (put s) fields,
          found_put c uses.of uses.at t uses.is uses.each uses.gives,
          patterns_put scope parts fields uses.rest uses.arguments,
        )

    pub patterns_put : (scope : Scope) (ps : Patterns) (ts : List TypeTree) (choices : List Choice)
        → ArePatternsTyped program scope ps ts choices → ArePatternsOf (values_of program.constructors) (map (put s) ts) (outlines_of ps)
    patterns_put scope no_part [] choices typed = tt
    patterns_put scope no_part (t ∷ ts) choices typed = absurd typed
    patterns_put scope (part first rest) [] choices typed = absurd typed
    patterns_put scope (part first rest) (t ∷ ts) choices typed =
        (pattern_put scope first t typed.0 typed.3, patterns_put scope rest ts typed.1 typed.4)

  pub rows_put : (scope : Scope) (rows : Rows) (u t : TypeTree) (choices : List Choice)
      → AreRowsTypedBy program scope rows u t choices → Each (IsPatternOf (values_of program.constructors) (put s u)) (asked_by rows)
  rows_put scope no_row u t choices typed = tt
  rows_put scope (row (row_parts pattern body) rest) u t choices typed =
      let parts = typed.3.inside in
      (pattern_put _ pattern u parts.0 parts.3, rows_put scope rest u t typed.1 typed.4)
