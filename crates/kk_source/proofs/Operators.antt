-- Forms on values: typed arguments are those that a form asks for, and what it does on them is of its type.
use Rattle.std.proofs.Common.{◌≡◌, ◌<◌, ℕ, zero, suc, ℤ, Bool, true, false, List, [], ◌∷◌, length, map, Option, Some, None, refl, sym, subst, ap, ◌∙◌}
use Rattle.std.specs.Prelude.{slice_get, if◌then◌else◌, ◌==◌}
use Rattle.std.proofs.lemmas.List.{length-map}
use Rattle.kk_syntax.specs.declared.operator.UnaryOperator.{UnaryOperator}
use Rattle.kk_syntax.specs.declared.operator.UnaryOperator.TheVariants.{Negate, Not}
use Rattle.kk_syntax.specs.declared.operator.BinaryOperator.{BinaryOperator}
use Rattle.kk_syntax.specs.declared.operator.BinaryOperator.TheVariants.{Add, Subtract, Multiply, Divide, Remainder, Equal, NotEqual, Less, LessEqual, Greater, GreaterEqual}
use Rattle.kk_syntax.specs.declared.program.Form.{Form}
use Rattle.kk_syntax.specs.declared.program.Form.TheVariants.{Number, Unit as Nothing, ReadByte, PrintText, Unary, Binary, Print, Construct, Call}
use Rattle.kk_syntax.specs.GroundTyping.{HasTruths, Table, IsFormTyped}
use Rattle.kk_syntax.specs.OfType.{same_types, with_arguments, fields_with, fields_of, field_types}
use Rattle.kk_syntax.specs.GroundTyping.{Signature, signature_of}
use Rattle.kk_syntax.specs.Programs.{ConstructorTree, FunctionTree}
use Rattle.kk_syntax.specs.Types.{TypeTree, TypeTrees, int32, unit_type, type_variable, named}
use Rattle.kk_syntax.specs.Typing.{bool, unary_type, binary_type}
use Rattle.kk_source.specs.State.{Value, integer, unit, constant, Store}
use Rattle.kk_source.specs.FormEffects.{FormEffect, gives, prints, reads, makes, enters, truth, unary_result, number_result, argument, byte_value, form_effect}
use Rattle.kk_source.specs.NeverStuck.{ArgumentsFit}
use Rattle.kk_source.specs.ValueTypes.{IsOf, AreOf}
use Rattle.kk_source.proofs.Values.{at_type, at_types, construct_of, int32_is, bool_is, of_integer, of_truth, of_unit}

-- ---- what is there

-- a signature is that of a function
pub function_there : (functions : List FunctionTree) (f : ℕ) (ts : List TypeTree) (t : TypeTree)
    → slice_get (map signature_of functions) f ≡ Some (record { parameters = ts; result = t })
    → (function : FunctionTree) × (slice_get functions f ≡ Some function) × (function.parameters ≡ ts) × (function.result ≡ t)
function_there [] f ts t is = absurd (cc)
function_there (function ∷ functions) zero ts t is =
    let same : signature_of function ≡ record { parameters = ts; result = t } = cc in
    (function, refl, ap (λ (s : Signature). s.parameters) same, ap (λ (s : Signature). s.result) same)
function_there (function ∷ functions) (suc f) ts t is = function_there functions f ts t is

-- a constructor that makes values of a type is there, with as many fields
pub constructor_there : (constructors : List ConstructorTree) (t : TypeTree) (c : ℕ) (ts : List TypeTree)
    → field_types constructors t c ≡ Some ts
    → (constructor : ConstructorTree) × (slice_get constructors c ≡ Some constructor) × (length ts ≡ length constructor.fields)
constructor_there constructors int32 c ts is = absurd (cc)
constructor_there constructors unit_type c ts is = absurd (cc)
constructor_there constructors (type_variable x) c ts is = absurd (cc)
constructor_there constructors (named of at) c ts is = by_found (slice_get constructors c) refl is
  where
    by_arguments : (own : Option TypeTrees) (fields : List TypeTree) → fields_with own fields at ≡ Some ts → length ts ≡ length fields
    by_arguments None fields types =
        let same : map (with_arguments at) fields ≡ ts = cc in
        ap (λ (us : List TypeTree). length us) (sym same) ∙ length-map fields (with_arguments at)
    by_arguments (Some arguments) fields types = by_same (same_types arguments at) types
      where
        by_same : (same : Bool) → (if same then Some fields else None) ≡ Some ts → length ts ≡ length fields
        by_same true types = let same : fields ≡ ts = cc in ap (λ (us : List TypeTree). length us) (sym same)
        by_same false types = absurd (cc)

    by_test : (constructor : ConstructorTree) (is : Bool)
        → (if is then fields_with constructor.arguments constructor.fields at else None) ≡ Some ts
        → length ts ≡ length constructor.fields
    by_test constructor true types = by_arguments constructor.arguments constructor.fields types
    by_test constructor false types = absurd (cc)

    by_found : (found : Option ConstructorTree) → slice_get constructors c ≡ found → fields_of found of at ≡ Some ts
        → (constructor : ConstructorTree) × (slice_get constructors c ≡ Some constructor) × (length ts ≡ length constructor.fields)
    by_found None there types = absurd (cc)
    by_found (Some constructor) there types = (constructor, there, by_test constructor (constructor.of_type == of) types)

module _ (constructors : List ConstructorTree) (store : Store) where
  -- ---- arguments of known types

  pub as_many : (ts : List TypeTree) (vs : List Value) → AreOf constructors store ts vs → length vs ≡ length ts
  as_many [] [] of = refl
  as_many [] (v ∷ vs) of = absurd of
  as_many (t ∷ ts) [] of = absurd of
  as_many (t ∷ ts) (v ∷ vs) of = ap suc (as_many ts vs of.1)

  pub no_argument : (vs : List Value) → AreOf constructors store [] vs → vs ≡ []
  no_argument [] of = refl
  no_argument (v ∷ vs) of = absurd of

  pub one_integer : (vs : List Value) → AreOf constructors store (int32 ∷ []) vs → (n : ℤ) × (vs ≡ integer n ∷ [])
  one_integer [] of = absurd of
  one_integer (v ∷ []) of = let n = int32_is constructors store v of.0 in (n.0, ap (λ w. w ∷ []) n.1)
  one_integer (v ∷ w ∷ vs) of = absurd of.1

  pub two_integers : (vs : List Value) → AreOf constructors store (int32 ∷ int32 ∷ []) vs
      → (n m : ℤ) × (vs ≡ integer n ∷ integer m ∷ [])
  two_integers [] of = absurd of
  two_integers (v ∷ vs) of =
      let n = int32_is constructors store v of.0 in
      let m = one_integer vs of.1 in
      (n.0, m.0, ap (λ w. w ∷ vs) n.1 ∙ ap (λ ws. integer n.0 ∷ ws) m.1)

  module _ (truths : HasTruths constructors) where
    pub one_truth : (vs : List Value) → AreOf constructors store (bool ∷ []) vs → (t : Bool) × (vs ≡ truth t ∷ [])
    one_truth [] of = absurd of
    one_truth (v ∷ []) of = let t = bool_is constructors store truths v of.0 in (t.0, ap (λ w. w ∷ []) t.1)
    one_truth (v ∷ w ∷ vs) of = absurd of.1

    -- ---- results

    pub unary_typed : (operator : UnaryOperator) (v : Value)
        → IsOf constructors store (unary_type operator) (unary_result operator v)
    unary_typed Negate v = of_integer constructors store _
    unary_typed Not v = of_truth constructors store truths _

    pub number_typed : (operator : BinaryOperator) (n m : ℤ)
        → IsOf constructors store (binary_type operator) (number_result operator n m)
    number_typed Add n m = of_integer constructors store _
    number_typed Subtract n m = of_integer constructors store _
    number_typed Multiply n m = of_integer constructors store _
    number_typed Divide n m = of_integer constructors store _
    number_typed Remainder n m = of_integer constructors store _
    number_typed Equal n m = of_truth constructors store truths _
    number_typed NotEqual n m = of_truth constructors store truths _
    number_typed Less n m = of_truth constructors store truths _
    number_typed LessEqual n m = of_truth constructors store truths _
    number_typed Greater n m = of_truth constructors store truths _
    number_typed GreaterEqual n m = of_truth constructors store truths _

  pub byte_typed : (byte : Option ℕ) → IsOf constructors store int32 (byte_value byte)
  byte_typed None = of_integer constructors store _
  byte_typed (Some b) = of_integer constructors store _

-- ---- forms

-- Typed arguments are those that a form asks for, where those of a call are those that a call asks for.
module _ (table : Table) (store : Store) (truths : HasTruths table.constructors) (texts : List (List ℕ))
    (CallFits : ℕ → List Value → Type 0) where
  -- arguments of other names for their types
  of_types : (us ts : List TypeTree) (vs : List Value) → ts ≡ us → AreOf table.constructors store ts vs
      → AreOf table.constructors store us vs
  of_types us ts vs same of = at_types table.constructors store ts us vs same of

  pub arguments_fit : table.texts ≡ length texts
      → ((f : ℕ) (ts : List TypeTree) (t : TypeTree) (vs : List Value)
      → slice_get table.functions f ≡ Some (record { parameters = ts; result = t }) → length vs ≡ length ts → CallFits f vs)
      → (form : Form) (ts : List TypeTree) (t : TypeTree) (vs : List Value) → IsFormTyped table form ts t
      → AreOf table.constructors store ts vs → ArgumentsFit table.constructors texts CallFits form vs
  arguments_fit count calls (Number z) ts t vs typed of = no_argument table.constructors store vs (of_types [] ts vs typed.0 of)
  arguments_fit count calls Nothing ts t vs typed of = no_argument table.constructors store vs (of_types [] ts vs typed.0 of)
  arguments_fit count calls ReadByte ts t vs typed of = no_argument table.constructors store vs (of_types [] ts vs typed.0 of)
  arguments_fit count calls (PrintText form text) ts t vs typed of =
      (no_argument table.constructors store vs (of_types [] ts vs typed.0 of), subst (λ n. text < n) count typed.2)
  arguments_fit count calls (Unary Negate) ts t vs typed of =
      one_integer table.constructors store vs (of_types (int32 ∷ []) ts vs typed.0 of)
  arguments_fit count calls (Unary Not) ts t vs typed of =
      one_truth table.constructors store truths vs (of_types (bool ∷ []) ts vs typed.0 of)
  arguments_fit count calls (Binary operator) ts t vs typed of =
      two_integers table.constructors store vs (of_types (int32 ∷ int32 ∷ []) ts vs typed.0 of)
  arguments_fit count calls (Print form) ts t vs typed of =
      one_integer table.constructors store vs (of_types (int32 ∷ []) ts vs typed.0 of)
  arguments_fit count calls (Construct c) ts t vs typed of =
      let there = constructor_there table.constructors t c ts typed in
      (there.0, there.1, as_many table.constructors store ts vs of ∙ there.2)
  arguments_fit count calls (Call f) ts t vs typed of = calls f ts t vs typed (as_many table.constructors store ts vs of)

-- what a form does is of a type
abbrev pub EffectTyped : Table → Store → TypeTree → FormEffect → Type 0
EffectTyped table store t (gives v) = IsOf table.constructors store t v
EffectTyped table store t (prints piece) = t ≡ unit_type
EffectTyped table store t reads = t ≡ int32
EffectTyped table store t (makes c []) = ⊥
EffectTyped table store t (makes c (v ∷ vs)) =
    (ts : List TypeTree) × (field_types table.constructors t c ≡ Some ts) × AreOf table.constructors store ts (v ∷ vs)
EffectTyped table store t (enters f vs) =
    (ts : List TypeTree) × (slice_get table.functions f ≡ Some (record { parameters = ts; result = t }))
    × AreOf table.constructors store ts vs

module _ (table : Table) (store : Store) (truths : HasTruths table.constructors) (texts : List (List ℕ)) where
  -- a value of another name for its type
  of_type : (u t : TypeTree) (v : Value) → t ≡ u → IsOf table.constructors store u v → IsOf table.constructors store t v
  of_type u t v same of = at_type table.constructors store u t v (sym same) of

  pub effect_typed : (form : Form) (ts : List TypeTree) (t : TypeTree) (vs : List Value) → IsFormTyped table form ts t
      → AreOf table.constructors store ts vs → EffectTyped table store t (form_effect texts form vs)
  effect_typed (Number z) ts t vs typed of = of_type int32 t (integer z) typed.1 (of_integer table.constructors store z)
  effect_typed Nothing ts t vs typed of = of_type unit_type t unit typed.1 (of_unit table.constructors store)
  effect_typed ReadByte ts t vs typed of = typed.1
  effect_typed (PrintText form text) ts t vs typed of = typed.1
  effect_typed (Unary operator) ts t vs typed of =
      of_type (unary_type operator) t _ typed.1 (unary_typed table.constructors store truths operator (argument 0 vs))
  effect_typed (Binary operator) ts t vs typed of =
      of_type (binary_type operator) t _ typed.1 (number_typed table.constructors store truths operator _ _)
  effect_typed (Print form) ts t vs typed of = typed.1
  effect_typed (Construct c) ts t [] typed of = construct_of table.constructors store t c ts (constant c) [] typed refl of
  effect_typed (Construct c) ts t (v ∷ vs) typed of = (ts, typed, of)
  effect_typed (Call f) ts t vs typed of = (ts, typed, of)
