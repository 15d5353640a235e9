-- What a typing of a pattern says: the pattern is of its type, and the rows of a match are of their scrutinee's.
use Rattle.std.proofs.Common.{◌≡◌, ◌≤◌, ℕ, zero, suc, cond, List, [], ◌∷◌, ◌++◌, length, map, take, Option, Some, None, option_map, refl, sym, ap, ◌∙◌, arith, add-one}
use Rattle.std.proofs.lemmas.Bool.{eq-eqb}
use Rattle.std.proofs.lemmas.List.{map-append, take_more, take_all}
use Rattle.std.specs.List.{slice_get}
use Rattle.kk_syntax.specs.Covered.{Each, asked_by}
use Rattle.kk_syntax.specs.OfType.{IsPatternOf, ArePatternsOf, with_arguments, fields_with, fields_of, field_types, is_int32, values_of}
use Rattle.kk_syntax.specs.Outlines.{outline_of, outlines_of}
use Rattle.kk_syntax.specs.Patterns.{Pattern, anything, variable as pattern_variable, exactly, constructor, Patterns, no_part, part}
use Rattle.kk_syntax.specs.Programs.{ConstructorTree, ProgramTree, if_declared, declared_in}
use Rattle.kk_syntax.specs.Trees.{Rows, no_row, row, row_parts}
use Rattle.kk_syntax.specs.Types.{TypeTree, unit_type, type_variable, named, TypeTrees, types_of, type_list, put, put_each, type_at, variables_below}
use Rattle.kk_syntax.specs.Typing.{Scope, Scheme, Choice, variables_of_type, scheme_in, constructor_scheme, IsPatternTyped, ArePatternsTyped, AreRowsTypedBy}

-- the fields of a declared constructor, where it is one of the type
pub fields_made : (o : Option ConstructorTree) (declared : ConstructorTree) (by : ℕ) (arguments : TypeTrees) → o ≡ Some declared
    → declared.arguments ≡ None → declared.of_type ≡ by → fields_of o by arguments ≡ Some (map (with_arguments arguments) declared.fields)
fields_made o declared by arguments there any owned =
    ap (λ x. fields_of x by arguments) there
    ∙ (ap (λ b. cond b (fields_with declared.arguments declared.fields arguments) None) (eq-eqb declared.of_type by owned)
    ∙ ap (λ own. fields_with own declared.fields arguments) any)

-- the first type variables are the first of the types that are put in their place
pub variables_put : (ts : List TypeTree) (n : ℕ) → n ≤ length ts → map (put (type_at ts)) (variables_below n) ≡ take n ts
variables_put ts zero le = refl
variables_put ts (suc n) le =
    map-append (put (type_at ts)) (variables_below n) (type_variable n ∷ [])
    ∙ (ap (λ (xs : List TypeTree). xs ++ (type_at ts n ∷ [])) (variables_put ts n (omega arith))
    ∙ (sym (take_more ts n unit_type (omega arith)) ∙ ap (λ k. take k ts) (add-one n)))

listed_put : (s : ℕ → TypeTree) (ts : List TypeTree) → type_list (put_each s (types_of ts)) ≡ map (put s) ts
listed_put s [] = refl
listed_put s (t ∷ ts) = ap (λ us. put s t ∷ us) (listed_put s ts)

arguments_are : (ts : List TypeTree) (n : ℕ) → length ts ≡ n → type_list (put_each (type_at ts) (types_of (variables_below n))) ≡ ts
arguments_are ts n long =
    listed_put (type_at ts) (variables_below n) ∙ (variables_put ts n (omega arith) ∙ take_all n ts (omega arith))

-- a declared type, and the types of the fields of one of its constructors
record Fields (found : Option ConstructorTree) (t : TypeTree) (us : List TypeTree) : Type 0 where
  by : ℕ
  arguments : TypeTrees
  is : t ≡ named by arguments
  fields : fields_of found by arguments ≡ Some us

-- a declared constructor with its scheme
pub record Declared (program : ProgramTree) (found : Option ConstructorTree) (of : Scheme) : Type 0 where
  pub made : ConstructorTree
  pub there : found ≡ Some made
  pub any : made.arguments ≡ None
  pub scheme : scheme_in program made ≡ of

module _ (program : ProgramTree) where
  -- a constructor that has a scheme is a declared one
  pub is_declared : (found : Option ConstructorTree) (of : Scheme) → option_map (scheme_in program) (declared_in found) ≡ Some of
      → Declared program found of
  is_declared None of is = absurd (cc)
  is_declared (Some made) of is = by_arguments made.arguments refl is
    where
      by_arguments : (own : Option TypeTrees) → made.arguments ≡ own → option_map (scheme_in program) (if_declared made own) ≡ Some of
          → Declared program (Some made) of
      by_arguments None any is = record { made = made; there = refl; any = any; scheme = cc }
      by_arguments (Some arguments) any is = absurd (cc)

  fields_chosen : (found : Option ConstructorTree) (of : Scheme) (at : List TypeTree)
      → option_map (scheme_in program) (declared_in found) ≡ Some of → length at ≡ of.variables
      → Fields found (put (type_at at) of.result) (map (put (type_at at)) of.parameters)
  fields_chosen found of at is long =
      let known = is_declared found of is in
      let made = known.made in
      let same = known.scheme in
      let count = variables_of_type (slice_get program.types made.of_type) in
      let arguments = put_each (type_at at) (types_of (variables_below count)) in
      let all : length at ≡ count = long ∙ ap (λ (s : Scheme). s.variables) (sym same) in
      record {
        by = made.of_type;
        arguments = arguments;
        is = ap (λ (s : Scheme). put (type_at at) s.result) (sym same);
        fields =
            fields_made found made made.of_type arguments known.there known.any refl
            ∙ (ap (λ ts. Some (map (put (type_at ts)) made.fields)) (arguments_are at count all)
            ∙ ap (λ (s : Scheme). Some (map (put (type_at at)) s.parameters)) same);
      }

  -- a constructor's fields have the types that its scheme gives them
  pub fields_found : (c : ℕ) (of : Scheme) (at : List TypeTree) (t : TypeTree) → constructor_scheme program c ≡ Some of
      → length at ≡ of.variables → t ≡ put (type_at at) of.result
      → field_types program.constructors t c ≡ Some (map (put (type_at at)) of.parameters)
  fields_found c of at t is long gives =
      let found = fields_chosen (slice_get program.constructors c) of at is long in
      ap (λ u. field_types program.constructors u c) (gives ∙ found.is) ∙ found.fields

  mutual
    pub pattern_of_type : (scope : Scope) (p : Pattern) (t : TypeTree) (choices : List Choice)
        → IsPatternTyped program scope p t choices → IsPatternOf (values_of program.constructors) t (outline_of p)
    pattern_of_type scope anything t choices typed = tt
    pattern_of_type scope (pattern_variable x) t choices typed = tt
    pattern_of_type scope (exactly value) t choices typed = ap is_int32 typed.0
    pattern_of_type scope (constructor c parts) t choices uses =
        let fields = map (put (type_at uses.at)) uses.of.parameters in
        let found = fields_found c uses.of uses.at t uses.is uses.each uses.gives in
        (fields, found, patterns_of_types scope parts fields uses.rest uses.arguments)

    pub patterns_of_types : (scope : Scope) (ps : Patterns) (ts : List TypeTree) (choices : List Choice)
        → ArePatternsTyped program scope ps ts choices → ArePatternsOf (values_of program.constructors) ts (outlines_of ps)
    patterns_of_types scope no_part [] choices typed = tt
    patterns_of_types scope no_part (t ∷ ts) choices typed = absurd typed
    patterns_of_types scope (part first rest) [] choices typed = absurd typed
    patterns_of_types scope (part first rest) (t ∷ ts) choices typed =
        (pattern_of_type scope first t typed.0 typed.3, patterns_of_types scope rest ts typed.1 typed.4)

  pub rows_of_type : (scope : Scope) (rows : Rows) (u t : TypeTree) (choices : List Choice)
      → AreRowsTypedBy program scope rows u t choices → Each (IsPatternOf (values_of program.constructors) u) (asked_by rows)
  rows_of_type scope no_row u t choices typed = tt
  rows_of_type scope (row (row_parts pattern body) rest) u t choices typed =
      let parts = typed.3.inside in
      (pattern_of_type _ pattern u parts.0 parts.3, rows_of_type scope rest u t typed.1 typed.4)
