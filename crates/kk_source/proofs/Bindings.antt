-- Scopes and environments: each variable that has a type is bound, to a value of that type. Parameters, statements and
-- patterns keep it so.
use Rattle.std.proofs.Common.{◌≡◌, ◌⊎◌, inl, inr, ℕ, suc, Bool, true, false, List, [], ◌∷◌, ◌++◌, Option, Some, None, refl, sym, subst, add-one}
use Rattle.std.specs.Prelude.{if◌then◌else◌, ◌==◌}
use Rattle.std.proofs.lemmas.Bool.{eqb-true}
use Rattle.kk_syntax.specs.declared.program.Binder.{Binder}
use Rattle.kk_syntax.specs.declared.program.Binder.TheVariants as OfBinder
use Rattle.kk_syntax.specs.Covered.{Each, asked_by}
use Rattle.kk_syntax.specs.GroundTyping.{Table, types_or_none, with_pattern, with_parts, HasType, AreRowsTyped}
use Rattle.kk_syntax.specs.OfType.{IsPatternOf, ArePatternsOf, values_of}
use Rattle.kk_syntax.specs.Outlines.{outline_of, outlines_of}
use Rattle.kk_syntax.specs.Patterns.{Pattern, anything, variable, exactly, constructor, Patterns, no_part, part}
use Rattle.kk_syntax.specs.Programs.{ConstructorTree}
use Rattle.kk_syntax.specs.Shapes.{variable_of}
use Rattle.kk_syntax.specs.Trees.{Tree, Rows, no_row, row, row_parts}
use Rattle.kk_syntax.specs.Types.{TypeTree}
use Rattle.kk_syntax.specs.Typing.{Scope, type_in, with_parameters, with_binder}
use Rattle.kk_source.specs.State.{Value, Store, Environment}
use Rattle.kk_source.specs.Live.{value_of}
use Rattle.kk_source.specs.Matching.{is_integer, fields_under, and_then, matched, matched_all, Chosen, chosen_or, first_match}
use Rattle.kk_source.specs.NeverStuck.{IsBound}
use Rattle.kk_source.specs.Step.{bind, bind_parameters}
use Rattle.kk_source.specs.ValueTypes.{IsOf, AreOf}
use Rattle.kk_source.proofs.Values.{of_longer, at_type, fields_are}

-- a variable is bound to a value of a type
abbrev pub IsKnown : List ConstructorTree → Store → Environment → ℕ → TypeTree → Type 0
IsKnown constructors store environment x t = IsBound environment x × IsOf constructors store t (value_of environment x)

-- each variable of a scope is bound to a value of its type
abbrev pub AreKnown : List ConstructorTree → Store → Scope → Environment → Type 0
AreKnown constructors store scope environment =
    (x : ℕ) (t : TypeTree) → type_in scope x ≡ Some t → IsKnown constructors store environment x t

-- an expression, or what is left of one, stands in some scope whose variables the environment binds
pub record IsTypedIn (constructors : List ConstructorTree) (store : Store) (env : Environment) (In : Scope → Type 0) : Type 0 where
  pub scope : Scope
  pub known : AreKnown constructors store scope env
  pub inside : In scope

-- what a statement is still to bind
abbrev pub with_awaited : Option ℕ → TypeTree → Scope → Scope
with_awaited None t scope = scope
with_awaited (Some x) t scope = record { variable = x; type = t } ∷ scope

pub awaited_is : (binder : Binder) (t : TypeTree) (scope : Scope)
    → with_binder binder t scope ≡ with_awaited (variable_of binder) t scope
awaited_is OfBinder.Nothing t scope = refl
awaited_is OfBinder.Wildcard t scope = refl
awaited_is (OfBinder.Variable x) t scope = refl

some_if : {X : Type 0} (t : Bool) (x y : X) → (if t then Some x else None) ≡ Some y → x ≡ y
some_if true x y is = cc
some_if false x y is = absurd (cc)

some_then : {A B : Type 0} (o : Option A) (next : A → Option B) (y : B) → and_then o next ≡ Some y
    → (x : A) × (o ≡ Some x) × (next x ≡ Some y)
some_then None next y is = absurd (cc)
some_then (Some x) next y is = (x, refl, is)

module _ (constructors : List ConstructorTree) (store : Store) where
  pub known_none : (env : Environment) → AreKnown constructors store [] env
  known_none env = λ x t is. absurd (cc)

  pub known_one : (scope : Scope) (env : Environment) (x : ℕ) (t : TypeTree) (v : Value) → AreKnown constructors store scope env
      → IsOf constructors store t v
      → AreKnown constructors store (record { variable = x; type = t } ∷ scope) (record { variable = x; value = v } ∷ env)
  known_one scope env x t v known of = λ y u is. by_test y u (x == y) refl is
    where
      by_test : (y : ℕ) (u : TypeTree) (same : Bool) → (x == y) ≡ same → (if same then Some t else type_in scope y) ≡ Some u
          → ((x ≡ y) ⊎ IsBound env y) × IsOf constructors store u (if same then v else value_of env y)
      by_test y u true same is = let types : t ≡ u = cc in (inl (eqb-true x y same), at_type constructors store t u v types of)
      by_test y u false other is = let later = known y u is in (inr later.0, later.1)

  pub known_bind : (x : Option ℕ) (t : TypeTree) (v : Value) (scope : Scope) (env : Environment)
      → AreKnown constructors store scope env → IsOf constructors store t v
      → AreKnown constructors store (with_awaited x t scope) (bind x v env)
  known_bind None t v scope env known of = known
  known_bind (Some x) t v scope env known of = known_one scope env x t v known of

  pub known_parameters : (next : ℕ) (ts : List TypeTree) (vs : List Value) (scope : Scope) (env : Environment)
      → AreKnown constructors store scope env → AreOf constructors store ts vs
      → AreKnown constructors store (with_parameters next ts scope) (bind_parameters next vs env)
  known_parameters next [] [] scope env known of = known
  known_parameters next [] (v ∷ vs) scope env known of = absurd of
  known_parameters next (t ∷ ts) [] scope env known of = absurd of
  known_parameters next (t ∷ ts) (v ∷ vs) scope env known of =
      let first : Scope = record { variable = next; type = t } ∷ scope in
      let bound : Environment = record { variable = next; value = v } ∷ env in
      let rest = known_parameters (suc next) ts vs first bound (known_one scope env next t v known of.0) of.1 in
      subst (λ n. AreKnown constructors store (with_parameters n ts first) (bind_parameters (suc next) vs bound))
      (sym (add-one next)) rest

  -- what a pattern binds is of the types of its variables
  mutual
    pub known_matched : (p : Pattern) (t : TypeTree) (v : Value) (scope : Scope) (env bound : Environment)
        → IsPatternOf (values_of constructors) t (outline_of p) → IsOf constructors store t v
        → AreKnown constructors store scope env → matched store p v env ≡ Some bound
        → AreKnown constructors store (with_pattern constructors p t scope) bound
    known_matched anything t v scope env bound pattern of known is =
        let same : env ≡ bound = cc in subst (AreKnown constructors store scope) same known
    known_matched (variable x) t v scope env bound pattern of known is =
        let same : record { variable = x; value = v } ∷ env ≡ bound = cc in
        subst (AreKnown constructors store (record { variable = x; type = t } ∷ scope)) same (known_one scope env x t v known of)
    known_matched (exactly n) t v scope env bound pattern of known is =
        subst (AreKnown constructors store scope) (some_if (is_integer n v) env bound is) known
    known_matched (constructor c ps) t v scope env bound pattern of known is =
        let some = some_then (fields_under store c v) (λ vs. matched_all store ps vs env) bound is in
        let fields = fields_are constructors store t c pattern.0 v some.0 pattern.1 some.1 of in
        subst (λ types. AreKnown constructors store (with_parts constructors ps (types_or_none types) scope) bound) (sym pattern.1)
        (known_matched_all ps pattern.0 some.0 scope env bound pattern.2 fields known some.2)

    pub known_matched_all : (ps : Patterns) (ts : List TypeTree) (vs : List Value) (scope : Scope) (env bound : Environment)
        → ArePatternsOf (values_of constructors) ts (outlines_of ps) → AreOf constructors store ts vs
        → AreKnown constructors store scope env → matched_all store ps vs env ≡ Some bound
        → AreKnown constructors store (with_parts constructors ps ts scope) bound
    known_matched_all no_part ts [] scope env bound patterns of known is =
        let same : env ≡ bound = cc in subst (AreKnown constructors store scope) same known
    known_matched_all no_part ts (v ∷ vs) scope env bound patterns of known is = absurd (cc)
    known_matched_all (part p ps) [] vs scope env bound patterns of known is = absurd patterns
    known_matched_all (part p ps) (t ∷ ts) [] scope env bound patterns of known is = absurd of
    known_matched_all (part p ps) (t ∷ ts) (v ∷ vs) scope env bound patterns of known is =
        let some = some_then (matched store p v env) (λ inner. matched_all store ps vs inner) bound is in
        let first = known_matched p t v scope env some.0 patterns.0 of.0 known some.1 in
        known_matched_all ps ts vs _ some.0 bound patterns.1 of.1 first some.2

-- ---- a longer store

module _ (constructors : List ConstructorTree) (store more : Store) where
  pub known_longer : (scope : Scope) (env : Environment) → AreKnown constructors store scope env
      → AreKnown constructors (store ++ more) scope env
  known_longer scope env known =
      λ x t is. let here = known x t is in (here.0, of_longer store more constructors t (value_of env x) here.1)

  pub inside_longer : (env : Environment) (Inside : Scope → Type 0) → IsTypedIn constructors store env Inside
      → IsTypedIn constructors (store ++ more) env Inside
  inside_longer env Inside typed =
      record { scope = typed.scope; known = known_longer typed.scope env typed.known; inside = typed.inside }

-- ---- the rows of a match

-- patterns of typed rows are of the scrutinee's type
pub rows_of_type : (table : Table) (scope : Scope) (of : Rows) (u t : TypeTree) → AreRowsTyped table scope of u t
    → Each (IsPatternOf (values_of table.constructors) u) (asked_by of)
rows_of_type table scope no_row u t typed = tt
rows_of_type table scope (row (row_parts p body) rest) u t typed = (typed.0, rows_of_type table scope rest u t typed.2)

-- a chosen row has a type
abbrev pub IsChosenTyped : Table → Store → TypeTree → Chosen → Type 0
IsChosenTyped table store t chosen =
    IsTypedIn table.constructors store chosen.environment (λ scope. HasType table scope chosen.body t)

-- the row that is chosen has the type of the match
module _ (table : Table) (store : Store) (u t : TypeTree) (v : Value) (scope : Scope) (env : Environment) where
  chosen_of : (p : Pattern) (body : Tree) (bound : Option Environment) (later : Option Chosen) (chosen : Chosen)
      → IsOf table.constructors store u v → AreKnown table.constructors store scope env → matched store p v env ≡ bound
      → IsPatternOf (values_of table.constructors) u (outline_of p)
      → HasType table (with_pattern table.constructors p u scope) body t
      → (later ≡ Some chosen → IsChosenTyped table store t chosen) → chosen_or body bound later ≡ Some chosen
      → IsChosenTyped table store t chosen
  chosen_of p body None later chosen of known at pattern typed rest is = rest is
  chosen_of p body (Some bound) later chosen of known at pattern typed rest is =
      let same : record { body = body; environment = bound } ≡ chosen = cc in
      let inner = known_matched table.constructors store p u v scope env bound pattern of known at in
      subst (IsChosenTyped table store t) same
      (record { scope = with_pattern table.constructors p u scope; known = inner; inside = typed })

  pub chosen_typed : (of : Rows) (chosen : Chosen) → IsOf table.constructors store u v → AreKnown table.constructors store scope env
      → AreRowsTyped table scope of u t → first_match store of v env ≡ Some chosen → IsChosenTyped table store t chosen
  chosen_typed no_row chosen is known typed found = absurd (cc)
  chosen_typed (row (row_parts p body) rest) chosen is known typed found =
      chosen_of p body (matched store p v env) (first_match store rest v env) chosen is known refl typed.0 typed.1
      (λ later. chosen_typed rest chosen is known typed.2 later) found
