-- Scopes of a function and of its instance: each variable has the same type in both, at the instance's types.
use Rattle.std.proofs.Common.{◌≡◌, ◌⊎◌, ℕ, ◌+◌, Bool, true, false, List, [], ◌∷◌, ◌++◌, length, map, append_assoc, Option, Some, option_map, inl, inr, refl, sym, ap, ◌∙◌, subst, arith}
use Rattle.std.specs.Prelude.{if◌then◌else◌, ◌==◌, slice_get}
use Rattle.std.proofs.lemmas.Bool.{eqb-true}
use Rattle.std.proofs.lemmas.List.{length-map, take_all}
use Rattle.kk_syntax.specs.declared.program.Binder.{Binder}
use Rattle.kk_syntax.specs.declared.program.Binder.TheVariants as OfBinder
use Rattle.kk_syntax.specs.Covered.{Each}
use Rattle.kk_syntax.specs.GroundTyping.{HasTruths, types_or_none, with_pattern, with_parts}
use Rattle.kk_syntax.specs.OfType.{IsPatternOf, ArePatternsOf, field_types, is_int32, values_of}
use Rattle.kk_syntax.specs.Outlines.{outline_of, outlines_of}
use Rattle.kk_syntax.specs.Patterns.{Pattern, anything, variable as pattern_variable, exactly, constructor, Patterns, no_part, part}
use Rattle.kk_syntax.specs.Programs.{ProgramTree}
use Rattle.kk_syntax.specs.Shapes.{bound, bound_all}
use Rattle.kk_syntax.specs.Types.{TypeTree, named, type, types_of, put, put_each, type_at, variables_below}
use Rattle.kk_syntax.specs.Typing.{Scope, Scheme, Choice, constructing, variables_of_type, constructor_scheme, type_in, with_parameters, with_binder, with_bound, IsPatternTyped, ArePatternsTyped}
use Rattle.kk_syntax.proofs.Elements.{each_both}
use Rattle.kk_syntax.proofs.PatternTypes.{variables_put, Declared, is_declared}
use Rattle.kk_syntax.proofs.TypeSubstitution.{put_at_types, put_all_at_types}
use Rattle.kk_mono.specs.Instances.{InstanceTree, GroundConstructorTree, constructed_at, tested, tested_all, Renaming, renamed_pattern, renamed_patterns, origin_in, IsInstanceProgram}
use Rattle.kk_instances.proofs.Grounds.{fields_at}
use Rattle.kk_instances.proofs.NumberRenaming.{same_bound}

module _ (s : ℕ → TypeTree) where
  abbrev pub Stands : Scope → Scope → Type 0
  Stands scope ground = (x : ℕ) (t : TypeTree) → type_in scope x ≡ Some t → type_in ground x ≡ Some (put s t)

  pub stands_one : (scope ground : Scope) (x : ℕ) (u : TypeTree) → Stands scope ground
      → Stands (record { variable = x; type = u } ∷ scope) (record { variable = x; type = put s u } ∷ ground)
  stands_one scope ground x u stands y t = by (x == y)
    where
      by : (same : Bool) → (if same then Some u else type_in scope y) ≡ Some t
          → (if same then Some (put s u) else type_in ground y) ≡ Some (put s t)
      by true is = ap (option_map (put s)) is
      by false is = stands y t is

  pub stands_binder : (binder : Binder) (scope ground : Scope) (u : TypeTree) → Stands scope ground
      → Stands (with_binder binder u scope) (with_binder binder (put s u) ground)
  stands_binder OfBinder.Nothing scope ground u stands = stands
  stands_binder OfBinder.Wildcard scope ground u stands = stands
  stands_binder (OfBinder.Variable x) scope ground u stands = stands_one scope ground x u stands

  pub stands_parameters : (us : List TypeTree) (next : ℕ) (scope ground : Scope) → Stands scope ground
      → Stands (with_parameters next us scope) (with_parameters next (map (put s) us) ground)
  stands_parameters [] next scope ground stands = stands
  stands_parameters (u ∷ us) next scope ground stands =
      stands_parameters us (next + 1) (record { variable = next; type = u } ∷ scope)
      (record { variable = next; type = put s u } ∷ ground) (stands_one scope ground next u stands)

-- a variable is none of these
abbrev IsNone : List ℕ → ℕ → Type 0
IsNone variables x = Each (λ y. (y == x) ≡ false) variables

-- variables that are bound hide no other
bound_looks : (xs : List ℕ) (ts : List TypeTree) (scope : Scope) (x : ℕ) → IsNone xs x
    → type_in (with_bound xs ts scope) x ≡ type_in scope x
bound_looks [] ts scope x none = refl
bound_looks (y ∷ ys) [] scope x none = refl
bound_looks (y ∷ ys) (t ∷ ts) scope x none =
    bound_looks ys ts (record { variable = y; type = t } ∷ scope) x none.1
    ∙ ap (λ (b : Bool). if b then Some t else type_in scope x) none.0

-- types at others, and the fields of a ground constructor
put_types : (s : ℕ → TypeTree) (ts : List TypeTree) → put_each s (types_of ts) ≡ types_of (map (put s) ts)
put_types s [] = refl
put_types s (t ∷ ts) = ap (λ us. type (put s t) us) (put_types s ts)

own_types : (ts : List TypeTree) (n : ℕ) → length ts ≡ n → put_each (type_at ts) (types_of (variables_below n)) ≡ types_of ts
own_types ts n long =
    put_types (type_at ts) (variables_below n)
    ∙ ap types_of (variables_put ts n (omega (arith, long)) ∙ take_all n ts (omega (arith, long)))

module _ (program made : ProgramTree) (typings : List (List Choice)) (instances : List InstanceTree)
    (truths : HasTruths program.constructors) (is : IsInstanceProgram program typings instances made) (at : List TypeTree) where
  abbrev new : Renaming
  new = origin_in instances is.grounds

  -- a type of the function, in the instance
  abbrev ground : TypeTree → TypeTree
  ground = put (type_at at)

  -- these are the ground constructors that the choices use
  abbrev pub AreConstructed : List Choice → List ℕ → Type 0
  AreConstructed choices gs = map (slice_get is.grounds) gs ≡ map Some (constructed_at at choices)

  -- a constructor at types, in the instance
  abbrev pub used : ℕ → List TypeTree → GroundConstructorTree
  used c ts = record { constructor = c; at = map ground ts }

  -- the fields of a ground constructor are those of its scheme, in the instance
  pub fields_used : (g : ℕ) (of : Scheme) (ts : List TypeTree) → constructor_scheme program (new.constructors g) ≡ Some of
      → length ts ≡ of.variables → slice_get is.grounds g ≡ Some (used (new.constructors g) ts)
      → field_types made.constructors (ground (put (type_at ts) of.result)) g
      ≡ Some (map ground (map (put (type_at ts)) of.parameters))
  fields_used g of ts scheme long there =
      ap (λ t. field_types made.constructors t g) type_is
      ∙ (fields_at program made typings instances truths is g (used (new.constructors g) ts) known.made there known.there
      ∙ ap (λ us. Some us) (sym fields_are))
    where
      known : Declared program (slice_get program.constructors (new.constructors g)) of
      known = is_declared program (slice_get program.constructors (new.constructors g)) of scheme

      us : List TypeTree
      us = map ground ts

      count : ℕ
      count = variables_of_type (slice_get program.types known.made.of_type)

      many : length us ≡ count
      many = length-map ts ground ∙ (long ∙ ap (λ (s : Scheme). s.variables) (sym known.scheme))

      type_is : ground (put (type_at ts) of.result) ≡ named known.made.of_type (types_of us)
      type_is =
          put_at_types (type_at at) ts of.result
          ∙ (ap (λ (s : Scheme). put (type_at us) s.result) (sym known.scheme)
          ∙ ap (λ arguments. named known.made.of_type arguments) (own_types us count many))

      fields_are : map ground (map (put (type_at ts)) of.parameters) ≡ map (put (type_at us)) known.made.fields
      fields_are =
          put_all_at_types (type_at at) ts of.parameters
          ∙ ap (λ (s : Scheme). map (put (type_at us)) s.parameters) (sym known.scheme)

  -- ---- what patterns bind

  -- A variable behind a pattern: it has the type that it has inside; or the pattern does not bind it, and it has the type
  -- that it had before.
  abbrev Looks : Scope → Scope → Scope → List ℕ → ℕ → Type 0
  Looks inner before behind variables x =
      ((t : TypeTree) × (type_in inner x ≡ Some t) × (type_in behind x ≡ Some (ground t))) ⊎
      (IsNone variables x × (type_in behind x ≡ type_in before x))

  looks_both : (inner : Scope) (xs ys : List ℕ) (before between behind : Scope) (x : ℕ) → Looks inner before between xs x
      → Looks inner between behind ys x → Looks inner before behind (xs ++ ys) x
  looks_both inner xs ys before between behind x first (inl found) = inl found
  looks_both inner xs ys before between behind x (inl found) (inr other) = inl (found.0, found.1, other.1 ∙ found.2)
  looks_both inner xs ys before between behind x (inr one) (inr other) =
      inr (each_both (λ y. (y == x) ≡ false) xs ys one.0 other.0, other.1 ∙ one.1)

  variable_looks : (inner : Scope) (y : ℕ) (u : TypeTree) (before : Scope) (x : ℕ) → type_in inner y ≡ Some u
      → Looks inner before (record { variable = y; type = ground u } ∷ before) (y ∷ []) x
  variable_looks inner y u before x is_there = by (y == x) refl
    where
      by : (b : Bool) → (y == x) ≡ b
          → ((t : TypeTree) × (type_in inner x ≡ Some t) × ((if b then Some (ground u) else type_in before x) ≡ Some (ground t))) ⊎
          (IsNone (y ∷ []) x × ((if b then Some (ground u) else type_in before x) ≡ type_in before x))
      by true same = inl (u, subst (λ (z : ℕ). type_in inner z ≡ Some u) (eqb-true y x same) is_there, refl)
      by false other = inr ((other, tt), refl)

  -- A pattern of the instance, and patterns: they are of their types there, what they bind has its types, and the ground
  -- constructors that are left are those of what is left.
  record HasPattern (inner before : Scope) (p : Pattern) (u : TypeTree) (more : List Choice) (gs : List ℕ) : Type 0 where
    of : IsPatternOf (values_of made.constructors) (ground u) (outline_of p)
    looks : (x : ℕ) → Looks inner before (with_pattern made.constructors p (ground u) before) (bound p) x
    constructed : AreConstructed more gs

  record HavePatterns (inner before : Scope) (ps : Patterns) (us : List TypeTree) (more : List Choice) (gs : List ℕ) : Type 0 where
    of : ArePatternsOf (values_of made.constructors) (map ground us) (outlines_of ps)
    looks : (x : ℕ) → Looks inner before (with_parts made.constructors ps (map ground us) before) (bound_all ps) x
    constructed : AreConstructed more gs

  chosen : (choices others more : List Choice) (gs : List ℕ) → choices ≡ others → AreConstructed (choices ++ more) gs
      → AreConstructed (others ++ more) gs
  chosen choices others more gs same constructed = subst (λ cs. AreConstructed (cs ++ more) gs) same constructed

  -- the first of them, and the others
  first_used : (g c : ℕ) (ts : List TypeTree) (rest : List Choice) (gs : List ℕ)
      → AreConstructed (constructing c ts ∷ rest) (g ∷ gs)
      → (slice_get is.grounds g ≡ Some (used c ts)) × AreConstructed rest gs
  first_used g c ts rest gs constructed = (cc, cc)

  constructor_stands_in : (g : ℕ) (ps : Patterns) (u : TypeTree) (inner before : Scope) (choices rest more : List Choice)
      (gs : List ℕ) (of : Scheme) (ts : List TypeTree) → constructor_scheme program (new.constructors g) ≡ Some of
      → length ts ≡ of.variables → u ≡ put (type_at ts) of.result → choices ≡ constructing (new.constructors g) ts ∷ rest
      → AreConstructed (choices ++ more) (g ∷ (tested_all ps ++ gs))
      → (AreConstructed (rest ++ more) (tested_all ps ++ gs)
      → HavePatterns inner before ps (map (put (type_at ts)) of.parameters) more gs)
      → HasPattern inner before (constructor g ps) u more gs
  constructor_stands_in g ps u inner before choices rest more gs of ts scheme long gives choices_are constructed inside =
      record {
        of = (map ground us, fields, parts.of);
        looks =
            λ x.
            subst (λ (o : Option (List TypeTree)). Looks inner before (with_parts made.constructors ps (types_or_none o) before)
            (bound_all ps) x) (sym fields) (parts.looks x);
        constructed = parts.constructed;
      }
    where
      us : List TypeTree
      us = map (put (type_at ts)) of.parameters

      here : (slice_get is.grounds g ≡ Some (used (new.constructors g) ts)) × AreConstructed (rest ++ more) (tested_all ps ++ gs)
      here =
          first_used g (new.constructors g) ts (rest ++ more) (tested_all ps ++ gs)
          (chosen choices (constructing (new.constructors g) ts ∷ rest) more (g ∷ (tested_all ps ++ gs)) choices_are constructed)

      fields : field_types made.constructors (ground u) g ≡ Some (map ground us)
      fields = ap (λ t. field_types made.constructors (ground t) g) gives ∙ fields_used g of ts scheme long here.0

      parts : HavePatterns inner before ps us more gs
      parts = inside here.1

  mutual
    pattern_stands_in : (p : Pattern) (u : TypeTree) (inner before : Scope) (choices more : List Choice) (gs : List ℕ)
        → IsPatternTyped program inner (renamed_pattern new p) u choices → AreConstructed (choices ++ more) (tested p ++ gs)
        → HasPattern inner before p u more gs
    pattern_stands_in anything u inner before choices more gs typed constructed = record {
      of = tt;
      looks = λ x. inr (tt, refl);
      constructed = chosen choices [] more gs typed constructed;
    }
    pattern_stands_in (pattern_variable y) u inner before choices more gs typed constructed = record {
      of = tt;
      looks = λ x. variable_looks inner y u before x typed.0;
      constructed = chosen choices [] more gs typed.1 constructed;
    }
    pattern_stands_in (exactly n) u inner before choices more gs typed constructed = record {
      of = ap is_int32 (ap ground typed.0);
      looks = λ x. inr (tt, refl);
      constructed = chosen choices [] more gs typed.1 constructed;
    }
    pattern_stands_in (constructor g ps) u inner before choices more gs uses constructed =
        constructor_stands_in g ps u inner before choices uses.rest more gs uses.of uses.at uses.is uses.each uses.gives
        uses.choices_are constructed
        (λ behind.
        patterns_stand_in ps (map (put (type_at uses.at)) uses.of.parameters) inner before uses.rest more gs uses.arguments behind)

    patterns_stand_in : (ps : Patterns) (us : List TypeTree) (inner before : Scope) (choices more : List Choice) (gs : List ℕ)
        → ArePatternsTyped program inner (renamed_patterns new ps) us choices
        → AreConstructed (choices ++ more) (tested_all ps ++ gs) → HavePatterns inner before ps us more gs
    patterns_stand_in no_part [] inner before choices more gs typed constructed = record {
      of = tt;
      looks = λ x. inr (tt, refl);
      constructed = chosen choices [] more gs typed constructed;
    }
    patterns_stand_in no_part (u ∷ us) inner before choices more gs typed constructed = absurd typed
    patterns_stand_in (part p ps) [] inner before choices more gs typed constructed = absurd typed
    patterns_stand_in (part p ps) (u ∷ us) inner before choices more gs typed constructed =
        let between = with_pattern made.constructors p (ground u) before in
        let parted : AreConstructed (typed.0 ++ (typed.1 ++ more)) (tested p ++ (tested_all ps ++ gs)) =
        ap (map (slice_get is.grounds)) (sym (append_assoc (tested p) (tested_all ps) gs))
        ∙ (constructed
        ∙ ap (λ cs. map Some (constructed_at at cs)) (ap (λ cs. cs ++ more) typed.2 ∙ append_assoc typed.0 typed.1 more)) in
        let first = pattern_stands_in p u inner before typed.0 (typed.1 ++ more) (tested_all ps ++ gs) typed.3 parted in
        let rest = patterns_stand_in ps us inner between typed.1 more gs typed.4 first.constructed in
        record {
          of = (first.of, rest.of);
          looks =
              λ x.
              looks_both inner (bound p) (bound_all ps) before between (with_parts made.constructors ps (map ground us) between) x
              (first.looks x) (rest.looks x);
          constructed = rest.constructed;
        }

  -- what a pattern binds stands in the instance as in the function, and the pattern is of its type there
  pub record StandsBehind (p : Pattern) (u : TypeTree) (scope before : Scope) (ts : List TypeTree) (more : List Choice)
      (gs : List ℕ) : Type 0 where
    pub of : IsPatternOf (values_of made.constructors) (ground u) (outline_of p)
    pub stands : Stands (type_at at) (with_bound (bound (renamed_pattern new p)) ts scope)
        (with_pattern made.constructors p (ground u) before)
    pub constructed : AreConstructed more gs

  pub pattern_stands : (p : Pattern) (u : TypeTree) (scope before : Scope) (ts : List TypeTree) (choices more : List Choice)
      (gs : List ℕ)
      → Stands (type_at at) scope before
      → IsPatternTyped program (with_bound (bound (renamed_pattern new p)) ts scope) (renamed_pattern new p) u choices
      → AreConstructed (choices ++ more) (tested p ++ gs) → StandsBehind p u scope before ts more gs
  pattern_stands p u scope before ts choices more gs stands typed constructed = record {
    of = known.of;
    stands = λ x t is_there. by x t is_there (known.looks x);
    constructed = known.constructed;
  }
    where
      inner : Scope
      inner = with_bound (bound (renamed_pattern new p)) ts scope

      known : HasPattern inner before p u more gs
      known = pattern_stands_in p u inner before choices more gs typed constructed

      by : (x : ℕ) (t : TypeTree) → type_in inner x ≡ Some t
          → Looks inner before (with_pattern made.constructors p (ground u) before) (bound p) x
          → type_in (with_pattern made.constructors p (ground u) before) x ≡ Some (ground t)
      by x t is_there (inl found) = found.2 ∙ ap (option_map ground) (sym found.1 ∙ is_there)
      by x t is_there (inr other) =
          other.1
          ∙ stands x t
          (sym (bound_looks (bound (renamed_pattern new p)) ts scope x
          (subst (λ xs. IsNone xs x) (sym (same_bound new p)) other.0)) ∙ is_there)
