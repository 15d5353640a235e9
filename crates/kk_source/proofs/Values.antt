-- Values of types: what a value of a type is, and that it stays of its type in a longer store.
use Rattle.std.proofs.Common.{◌≡◌, ◌≤◌, ℕ, zero, suc, ℤ, Bool, true, false, List, [], ◌∷◌, ◌++◌, length, Some, None, refl, sym, ap, ◌∙◌, subst, arith}
use Rattle.std.specs.Prelude.{slice_get, if◌then◌else◌, ◌==◌}
use Rattle.std.proofs.lemmas.Bool.{eqb-true}
use Rattle.kk_syntax.specs.GroundTyping.{HasTruths}
use Rattle.kk_syntax.specs.OfType.{field_types}
use Rattle.kk_syntax.specs.Programs.{ConstructorTree}
use Rattle.kk_syntax.specs.Types.{TypeTree, int32, unit_type}
use Rattle.kk_syntax.specs.Typing.{bool}
use Rattle.kk_source.specs.State.{Value, integer, unit, constant, place, Cell, Store}
use Rattle.kk_source.specs.FormEffects.{truth}
use Rattle.kk_source.specs.Matching.{fields_made_by, fields_under}
use Rattle.kk_source.specs.ValueTypes.{Content, amount, nothing, built, Contents, no_content, content, IsMadeBy, HasContent, HaveContents, IsContentOf, AreContentsOf, IsOf, AreOf}

-- ---- a longer store

pub get_longer : {X : Type 0} (xs more : List X) (at : ℕ) (x : X) → slice_get xs at ≡ Some x → slice_get (xs ++ more) at ≡ Some x
get_longer [] more at x is = absurd (cc)
get_longer (y ∷ xs) more zero x is = is
get_longer (y ∷ xs) more (suc at) x is = get_longer xs more at x is

pub get_behind : {X : Type 0} (xs : List X) (x : X) → slice_get (xs ++ x ∷ []) (length xs) ≡ Some x
get_behind [] x = refl
get_behind (y ∷ xs) x = get_behind xs x

module _ (store more : Store) where
  pub made_longer : (v : Value) (c : ℕ) (vs : List Value) → IsMadeBy store v c vs → IsMadeBy (store ++ more) v c vs
  made_longer v c [] made = made
  made_longer v c (w ∷ ws) made = (made.0, made.1, get_longer store more made.0 _ made.2)

  mutual
    pub content_longer : (v : Value) (what : Content) → HasContent store v what → HasContent (store ++ more) v what
    content_longer v (amount n) has = has
    content_longer v nothing has = has
    content_longer v (built c parts) has = (has.0, made_longer v c has.0 has.1, contents_longer has.0 parts has.2)

    pub contents_longer : (vs : List Value) (parts : Contents) → HaveContents store vs parts → HaveContents (store ++ more) vs parts
    contents_longer [] no_content has = tt
    contents_longer [] (content first rest) has = absurd has
    contents_longer (v ∷ vs) no_content has = absurd has
    contents_longer (v ∷ vs) (content first rest) has = (content_longer v first has.0, contents_longer vs rest has.1)

  module _ (constructors : List ConstructorTree) where
    pub of_longer : (t : TypeTree) (v : Value) → IsOf constructors store t v → IsOf constructors (store ++ more) t v
    of_longer t v of = record { what = of.what; has = content_longer v of.what of.has; typed = of.typed }

    pub all_longer : (ts : List TypeTree) (vs : List Value) → AreOf constructors store ts vs
        → AreOf constructors (store ++ more) ts vs
    all_longer [] [] of = tt
    all_longer [] (v ∷ vs) of = absurd of
    all_longer (t ∷ ts) [] of = absurd of
    all_longer (t ∷ ts) (v ∷ vs) of = (of_longer t v of.0, all_longer ts vs of.1)

-- ---- what made a value

-- a value that a constructor made has its fields under that constructor, and under no other
pub fields_of_made : (store : Store) (v : Value) (d : ℕ) (vs : List Value) (c : ℕ) → IsMadeBy store v d vs
    → fields_under store c v ≡ (if d == c then Some vs else None)
fields_of_made store v d [] c made = ap (fields_under store c) made
fields_of_made store v d (w ∷ ws) c made = ap (fields_under store c) made.1 ∙ ap (fields_made_by c) made.2

abbrev cell_of : ℕ → List Value → Cell
cell_of c vs = record { made_by = c; fields = vs }

-- one constructor alone makes a value, and from one list of fields
pub made_once : (store : Store) (v : Value) (c d : ℕ) (vs ws : List Value) → IsMadeBy store v c vs → IsMadeBy store v d ws
    → (c ≡ d) × (vs ≡ ws)
made_once store v c d [] [] one two = let same : constant c ≡ constant d = sym one ∙ two in (cc, refl)
made_once store v c d [] (w ∷ ws) one two = let same : constant c ≡ place two.0 = sym one ∙ two.1 in absurd (cc)
made_once store v c d (u ∷ vs) [] one two = let same : place one.0 ≡ constant d = sym one.1 ∙ two in absurd (cc)
made_once store v c d (u ∷ vs) (w ∷ ws) one two =
    let at : place one.0 ≡ place two.0 = sym one.1 ∙ two.1 in
    let same : one.0 ≡ two.0 = cc in
    let found : Some (cell_of c (u ∷ vs)) ≡ Some (cell_of d (w ∷ ws)) = sym one.2 ∙ (ap (slice_get store) same ∙ two.2) in
    let cells : cell_of c (u ∷ vs) ≡ cell_of d (w ∷ ws) = cc in
    (ap (λ (cell : Cell). cell.made_by) cells, ap (λ (cell : Cell). cell.fields) cells)

-- ---- a value of a type

-- a value of a type that has constructors is made by one of them, from fields of its types
pub record IsBuilt (constructors : List ConstructorTree) (store : Store) (t : TypeTree) (v : Value) : Type 0 where
  pub by : ℕ
  pub types : List TypeTree
  pub fields : List Value
  pub of_type : field_types constructors t by ≡ Some types
  pub made : IsMadeBy store v by fields
  pub each : AreOf constructors store types fields

module _ (constructors : List ConstructorTree) (store : Store) where
  pub at_type : (t u : TypeTree) (v : Value) → t ≡ u → IsOf constructors store t v → IsOf constructors store u v
  at_type t u v same of = subst (λ s. IsOf constructors store s v) same of

  pub at_types : (ts us : List TypeTree) (vs : List Value) → ts ≡ us → AreOf constructors store ts vs
      → AreOf constructors store us vs
  at_types ts us vs same of = subst (λ ss. AreOf constructors store ss vs) same of

  pub contents_are : (ts : List TypeTree) (vs : List Value) (parts : Contents) → HaveContents store vs parts
      → AreContentsOf constructors ts parts → AreOf constructors store ts vs
  contents_are [] [] no_content has typed = tt
  contents_are [] [] (content first rest) has typed = absurd has
  contents_are [] (v ∷ vs) no_content has typed = absurd has
  contents_are [] (v ∷ vs) (content first rest) has typed = absurd typed
  contents_are (t ∷ ts) vs no_content has typed = absurd typed
  contents_are (t ∷ ts) [] (content first rest) has typed = absurd has
  contents_are (t ∷ ts) (v ∷ vs) (content first rest) has typed =
      (record { what = first; has = has.0; typed = typed.0 }, contents_are ts vs rest has.1 typed.1)

  pub contents_of : (ts : List TypeTree) (vs : List Value) → AreOf constructors store ts vs
      → (parts : Contents) × HaveContents store vs parts × AreContentsOf constructors ts parts
  contents_of [] [] of = (no_content, tt, tt)
  contents_of [] (v ∷ vs) of = absurd of
  contents_of (t ∷ ts) [] of = absurd of
  contents_of (t ∷ ts) (v ∷ vs) of =
      let rest = contents_of ts vs of.1 in
      (content of.0.what rest.0, (of.0.has, rest.1), (of.0.typed, rest.2))

  -- a constructor and fields of its types make a value of the type
  pub construct_of : (t : TypeTree) (c : ℕ) (ts : List TypeTree) (v : Value) (vs : List Value)
      → field_types constructors t c ≡ Some ts → IsMadeBy store v c vs → AreOf constructors store ts vs
      → IsOf constructors store t v
  construct_of t c ts v vs fields made of =
      let parts = contents_of ts vs of in
      record { what = built c parts.0; has = (vs, made, parts.1); typed = (ts, fields, parts.2) }

  pub built_of : (t : TypeTree) (c : ℕ) (ts : List TypeTree) (v : Value) → field_types constructors t c ≡ Some ts
      → IsOf constructors store t v → IsBuilt constructors store t v
  built_of t c ts v fields of = by_content of.what of.has of.typed
    where
      by_content : (what : Content) → HasContent store v what → IsContentOf constructors t what → IsBuilt constructors store t v
      by_content (amount n) has typed =
          let none : field_types constructors t c ≡ None = ap (λ u. field_types constructors u c) typed in absurd (cc)
      by_content nothing has typed =
          let none : field_types constructors t c ≡ None = ap (λ u. field_types constructors u c) typed in absurd (cc)
      by_content (built d parts) has typed = record {
        by = d;
        types = typed.0;
        fields = has.0;
        of_type = typed.1;
        made = has.1;
        each = contents_are typed.0 has.0 parts has.2 typed.2;
      }

  -- the fields of a value under a constructor of its type are of the types of that constructor's fields
  pub fields_are : (t : TypeTree) (c : ℕ) (ts : List TypeTree) (v : Value) (vs : List Value)
      → field_types constructors t c ≡ Some ts → fields_under store c v ≡ Some vs → IsOf constructors store t v
      → AreOf constructors store ts vs
  fields_are t c ts v vs fields under of =
      by_test (one.by == c) refl (sym (fields_of_made store v one.by one.fields c one.made) ∙ under)
    where
      one : IsBuilt constructors store t v
      one = built_of t c ts v fields of

      by_test : (same : Bool) → (one.by == c) ≡ same → (if same then Some one.fields else None) ≡ Some vs
          → AreOf constructors store ts vs
      by_test false other is = absurd (cc)
      by_test true same is =
          let types : Some one.types ≡ Some ts =
          sym one.of_type ∙ (ap (field_types constructors t) (eqb-true one.by c same) ∙ fields) in
          let types_are : one.types ≡ ts = cc in
          let values_are : one.fields ≡ vs = cc in
          at_types one.types ts vs types_are (subst (λ ws. AreOf constructors store one.types ws) values_are one.each)

  -- ---- the types that operators ask for

  pub int32_is : (v : Value) → IsOf constructors store int32 v → (n : ℤ) × (v ≡ integer n)
  int32_is v of = by_content of.what of.has of.typed
    where
      by_content : (what : Content) → HasContent store v what → IsContentOf constructors int32 what → (n : ℤ) × (v ≡ integer n)
      by_content (amount n) has typed = (n, has)
      by_content nothing has typed = absurd (cc)
      by_content (built c parts) has typed = let none : None ≡ Some typed.0 = typed.1 in absurd (cc)

  pub unit_is : (v : Value) → IsOf constructors store unit_type v → v ≡ unit
  unit_is v of = by_content of.what of.has of.typed
    where
      by_content : (what : Content) → HasContent store v what → IsContentOf constructors unit_type what → v ≡ unit
      by_content (amount n) has typed = absurd (cc)
      by_content nothing has typed = has
      by_content (built c parts) has typed = let none : None ≡ Some typed.0 = typed.1 in absurd (cc)

  pub of_integer : (n : ℤ) → IsOf constructors store int32 (integer n)
  of_integer n = record { what = amount n; has = refl; typed = refl }

  pub of_unit : IsOf constructors store unit_type unit
  of_unit = record { what = nothing; has = refl; typed = refl }

  module _ (truths : HasTruths constructors) where
    pub of_truth : (t : Bool) → IsOf constructors store bool (truth t)
    of_truth false = construct_of bool 0 [] (constant 0) [] (truths.truths 0 (omega arith)) refl tt
    of_truth true = construct_of bool 1 [] (constant 1) [] (truths.truths 1 (omega arith)) refl tt

    constant_is : (c : ℕ) (v : Value) → c ≤ 1 → v ≡ constant c → (t : Bool) × (v ≡ truth t)
    constant_is zero v le is = (false, is)
    constant_is (suc zero) v le is = (true, is)
    constant_is (suc (suc c)) v le is = absurd (omega (arith, le))

    pub bool_is : (v : Value) → IsOf constructors store bool v → (t : Bool) × (v ≡ truth t)
    bool_is v of = by_fields one.types one.fields one.of_type one.made one.each
      where
        one : IsBuilt constructors store bool v
        one = built_of bool 0 [] v (truths.truths 0 (omega arith)) of

        low : one.by ≤ 1
        low = truths.no_others one.by one.types one.of_type

        by_fields : (ts : List TypeTree) (vs : List Value) → field_types constructors bool one.by ≡ Some ts
            → IsMadeBy store v one.by vs → AreOf constructors store ts vs → (t : Bool) × (v ≡ truth t)
        by_fields [] [] fields made each = constant_is one.by v low made
        by_fields [] (w ∷ ws) fields made each = absurd each
        by_fields (t ∷ ts) vs fields made each =
            let none : Some [] ≡ Some (t ∷ ts) = sym (truths.truths one.by low) ∙ fields in absurd (cc)
