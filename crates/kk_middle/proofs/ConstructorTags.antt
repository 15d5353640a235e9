-- Ground constructors of one type are told apart by their tags, and have as many fields as the shape tells.
use Rattle.std.proofs.Common.{◌≡◌, ◌⊎◌, inl, inr, ℕ, zero, suc, ◌+◌, ◌<◌, ◌==◌, Bool, true, false, List, [], ◌∷◌, length, map, take, Option, Some, None, arith, refl, sym, ap, ◌∙◌, subst}
use Rattle.std.specs.Prelude.{if◌then◌else◌, slice_get, slice_index_or, option_map, count_by}
use Rattle.std.proofs.lemmas.Bool.{eqb-true}
use Rattle.std.proofs.lemmas.List.{length-map}
use Rattle.std.proofs.lemmas.List.Sums.{sum_by-cons}
use Rattle.std.proofs.lemmas.Option.{slice_get-map}
use Rattle.kk_syntax.specs.declared.ground.Ground.{Ground}
use Rattle.kk_syntax.specs.declared.ground.GroundConstructor.{GroundConstructor}
use Rattle.kk_syntax.specs.declared.typed.Typed.{Typed}
use Rattle.kk_syntax.specs.GroundPrograms.{ground_types, ground_constructor_tree, ground_program, arguments_of_type}
use Rattle.kk_syntax.specs.OfType.{same_type, same_types, fields_with, fields_of, field_types}
use Rattle.kk_syntax.specs.Programs.{ConstructorTree}
use Rattle.kk_syntax.specs.Types.{TypeTree, TypeTrees, int32, unit_type, type_variable, named, type_at}
use Rattle.kk_syntax.proofs.TypeEquality.{all_same_only, same_itself}
use Rattle.kk_mono.specs.Grounds.{AreGiven}
use Rattle.kk_core.specs.CellTypes.{has_cells, made_type, TellsCells}
use Rattle.kk_core.specs.declared.form.Core.{Core}
use Rattle.kk_core.specs.declared.shape.ConstructorShape.{ConstructorShape}
use Rattle.kk_core.specs.Kinds.{MakeOneType, field_count}
use Rattle.kk_counted.proofs.CountChanges as Counting
use Rattle.kk_insert.specs.Shapes.{facts_of}
use Rattle.kk_middle.specs.ShapeKinds.{tag_of, many_fields, AreToldApart}
use Rattle.kk_middle.proofs.ConstructorConsistency.{order, own_type, number_test, tag_counts}
use Rattle.kk_middle.proofs.SpecialMarks.{same_facts}

-- ---- counts grow

counts_grow : {X : Type 0} (p : X → Bool) (xs : List X) (i j : ℕ) (x : X) → slice_get xs i ≡ Some x → p x ≡ true → i < j
    → count_by p (take i xs) < count_by p (take j xs)
counts_grow p [] i j x there holds less = absurd (cc)
counts_grow p (y ∷ xs) i zero x there holds less = absurd (omega (arith, less))
counts_grow p (y ∷ xs) zero (suc j) x there holds less =
    subst (λ (n : ℕ). 0 < n) (sym (sum_by-cons (λ z. if p z then 1 else 0) y (take j xs)
    ∙ ap (λ (t : Bool). (if t then 1 else 0) + count_by p (take j xs)) (ap p (only there) ∙ holds)))
    (let one : 0 < 1 + count_by p (take j xs) = omega arith in one)
  where
    only : Some y ≡ Some x → y ≡ x
    only same = cc
counts_grow p (y ∷ xs) (suc i) (suc j) x there holds less =
    let more : count_by p (take i xs) < count_by p (take j xs) = counts_grow p xs i j x there holds (omega (arith, less)) in
    omega (
      arith,
      more,
      sum_by-cons (λ z. if p z then 1 else 0) y (take i xs),
      sum_by-cons (λ z. if p z then 1 else 0) y (take j xs),
    )

-- ---- fields are counted

lengths_at : {X : Type 0} (fields : X → List TypeTree) (holds : TypeTree → Bool) (xs : List X) (i : ℕ)
    → slice_index_or (map (λ x. length (fields x)) xs) i 0 ≡ length (slice_index_or (map (λ x. map holds (fields x)) xs) i [])
lengths_at fields holds [] i = refl
lengths_at fields holds (x ∷ xs) zero = sym (length-map (fields x) holds)
lengths_at fields holds (x ∷ xs) (suc i) = lengths_at fields holds xs i

-- ---- ground constructors

module _ (types : List TypeTree) where
  -- one that makes values of a type is there, and that is its type
  pub record Makes (by : ℕ) (arguments : TypeTrees) (o : Option GroundConstructor) : Type 0 where
    pub made : GroundConstructor
    pub there : o ≡ Some made
    pub is : made_type (ground_constructor_tree types made) ≡ named by arguments

  abbrev tree_of : GroundConstructor → ConstructorTree
  tree_of made = ground_constructor_tree types made

  abbrev own_of : GroundConstructor → TypeTrees
  own_of made = arguments_of_type (type_at types made.of_type)

  pub makes : (o : Option GroundConstructor) (by : ℕ) (arguments : TypeTrees) (us : List TypeTree)
      → fields_of (option_map (ground_constructor_tree types) o) by arguments ≡ Some us → Makes by arguments o
  makes None by arguments us is = absurd (cc)
  makes (Some made) by arguments us is = by_test ((tree_of made).of_type == by) refl is
    where
      by_same : (tree_of made).of_type ≡ by → (same : Bool) → same_types (own_of made) arguments ≡ same → (if same then Some (tree_of made).fields else None) ≡ Some us
          → Makes by arguments (Some made)
      by_same of true same is =
          record {
            made = made;
            there = refl;
            is = ap (λ (ts : TypeTrees). named (tree_of made).of_type ts) (all_same_only (own_of made) arguments same)
                ∙ ap (λ (n : ℕ). named n arguments) of;
          }
      by_same of false same is = absurd (cc)

      by_test : (test : Bool) → ((tree_of made).of_type == by) ≡ test
          → (if test then fields_with (Some (own_of made)) (tree_of made).fields arguments else None) ≡ Some us → Makes by arguments (Some made)
      by_test true of is = by_same (eqb-true (tree_of made).of_type by of) (same_types (own_of made) arguments) refl is
      by_test false of is = absurd (cc)

module _ (typed : Typed) (given : Ground) (are : AreGiven typed given) where
  abbrev pub items : List GroundConstructor
  items = given.constructors.items

  abbrev pub types : List TypeTree
  types = ground_types given.types.items

  abbrev pub tree : GroundConstructor → ConstructorTree
  tree = ground_constructor_tree types

  -- two of one type have the same number of their type
  pub one_number : (c d : ℕ) (m n : GroundConstructor) → slice_get items c ≡ Some m → slice_get items d ≡ Some n
      → made_type (tree m) ≡ made_type (tree n) → m.of_type ≡ n.of_type
  one_number c d m n one two same =
      Counting.same m.of_type n.of_type
      (sym (number_test typed given are c d m n one two)
      ∙ ap (λ (t : TypeTree). same_type t (type_at types n.of_type))
      (sym (own_type typed given are c m one) ∙ same ∙ own_type typed given are d n two)
      ∙ same_itself (type_at types n.of_type))

  -- so with one tag they are the same
  by_tags : (c d : ℕ) (m n : GroundConstructor) → slice_get items c ≡ Some m → slice_get items d ≡ Some n
      → m.of_type ≡ n.of_type → m.tag ≡ n.tag → c ≡ d
  by_tags c d m n one two number tag = by_order (order c d)
    where
      counts_are : count_by (λ (x : GroundConstructor). x.of_type == m.of_type) (take c items)
          ≡ count_by (λ (x : GroundConstructor). x.of_type == m.of_type) (take d items)
      counts_are =
          sym (tag_counts typed given are c m one) ∙ tag ∙ tag_counts typed given are d n two
          ∙ ap (λ (k : ℕ). count_by (λ (x : GroundConstructor). x.of_type == k) (take d items)) (sym number)

      by_order : (c < d) ⊎ ((c ≡ d) ⊎ (d < c)) → c ≡ d
      by_order (inl less) =
          let more = counts_grow (λ (x : GroundConstructor). x.of_type == m.of_type) items c d m one (Counting.itself m.of_type) less in
          absurd (omega (arith, more, counts_are))
      by_order (inr (inl same)) = same
      by_order (inr (inr less)) =
          let more = counts_grow (λ (x : GroundConstructor). x.of_type == m.of_type) items d c n two
          (ap (λ (k : ℕ). n.of_type == k) number ∙ Counting.itself n.of_type) less in
          absurd (omega (arith, more, counts_are))

  -- the tag of one that is there
  pub tag_there : (c : ℕ) (m : GroundConstructor) → slice_get items c ≡ Some m
      → slice_index_or (map (λ (one : ConstructorTree). one.tag) (map tree items)) c 0 ≡ m.tag
  tag_there c m there = in_list items c there
    where
      in_list : (ms : List GroundConstructor) (c : ℕ) → slice_get ms c ≡ Some m
          → slice_index_or (map (λ (one : ConstructorTree). one.tag) (map tree ms)) c 0 ≡ m.tag
      in_list [] c there = absurd (cc)
      in_list (n ∷ ms) zero there = ap (λ (x : GroundConstructor). x.tag) (only there)
        where
          only : Some n ≡ Some m → n ≡ m
          only same = cc
      in_list (n ∷ ms) (suc c) there = in_list ms c there

  apart : (t : TypeTree) (c d : ℕ) (us vs : List TypeTree) → field_types (map tree items) t c ≡ Some us
      → field_types (map tree items) t d ≡ Some vs
      → slice_index_or (map (λ (one : ConstructorTree). one.tag) (map tree items)) c 0
      ≡ slice_index_or (map (λ (one : ConstructorTree). one.tag) (map tree items)) d 0 → c ≡ d
  apart int32 c d us vs first second tag = absurd (cc)
  apart unit_type c d us vs first second tag = absurd (cc)
  apart (type_variable x) c d us vs first second tag = absurd (cc)
  apart (named by arguments) c d us vs first second tag =
      let one = makes types (slice_get items c) by arguments us
      (ap (λ (o : Option ConstructorTree). fields_of o by arguments) (sym (slice_get-map tree items c)) ∙ first) in
      let two = makes types (slice_get items d) by arguments vs
      (ap (λ (o : Option ConstructorTree). fields_of o by arguments) (sym (slice_get-map tree items d)) ∙ second) in
      by_tags c d one.made two.made one.there two.there
      (one_number c d one.made two.made one.there two.there (one.is ∙ sym two.is))
      (sym (tag_there c one.made one.there) ∙ tag ∙ tag_there d two.made two.there)

  -- ---- what a shape tells

  module _ (core : Core) (tells : TellsCells (ground_program given) core) (shapes : List ConstructorShape)
      (same : map facts_of shapes ≡ map facts_of core.constructors.items) where
    pub tag_is : (c : ℕ) → tag_of shapes c ≡ slice_index_or (map (λ (one : ConstructorTree). one.tag) (map tree items)) c 0
    tag_is c =
        ap (λ (ns : List ℕ). slice_index_or ns c 0) (same_facts (λ f. f.tag) shapes core.constructors.items same ∙ tells.tags)

    pub told_apart : (c d : ℕ) → MakeOneType (map tree items) c d → AreToldApart shapes c d
    told_apart c d one tag =
        apart one.0 c d one.1 one.2 one.3 one.4 (sym (tag_is c) ∙ tag ∙ tag_is d)

    pub as_many : (c : ℕ) → field_count (map tree items) c ≡ many_fields shapes c
    as_many c =
        lengths_at (λ (one : ConstructorTree). one.fields) (has_cells (map tree items)) (map tree items) c
        ∙ ap (λ (fs : List (List Bool)). length (slice_index_or fs c []))
        (sym (same_facts (λ f. f.fields) shapes core.constructors.items same ∙ tells.fields))
