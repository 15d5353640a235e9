-- The tags of ground constructors are small, and those of `False` and `True` are 0 and 1.
use Rattle.std.proofs.Common.{◌≡◌, ◌<◌, ◌≤◌, ◌==◌, ℕ, zero, suc, Bool, true, List, [], ◌∷◌, map, take, Option, Some, arith, refl, sym, ap, ◌∙◌}
use Rattle.std.specs.Prelude.{All, slice_get, slice_index_or, count_by, if◌then◌else◌}
use Rattle.std.proofs.lemmas.List.Sums.{sum_by-cons}
use Rattle.std.proofs.lemmas.Option.{slice_get-map}
use Rattle.kk_base.specs.Limits.{greatest_of}
use Rattle.kk_base.specs.declared.limit.LimitKind.TheVariants.{Constructors}
use Rattle.kk_syntax.specs.declared.ground.Ground.{Ground}
use Rattle.kk_syntax.specs.declared.ground.GroundConstructor.{GroundConstructor}
use Rattle.kk_syntax.specs.declared.typed.Typed.{Typed}
use Rattle.kk_syntax.specs.GroundPrograms.{ground_program}
use Rattle.kk_syntax.specs.GroundTyping.{HasTruths}
use Rattle.kk_syntax.specs.OfType.{fields_of}
use Rattle.kk_syntax.specs.Programs.{ConstructorTree}
use Rattle.kk_syntax.specs.Types.{no_type}
use Rattle.kk_mono.specs.Grounds.{AreGiven}
use Rattle.kk_core.specs.CellTypes.{TellsCells}
use Rattle.kk_core.specs.declared.form.Core.{Core}
use Rattle.kk_core.specs.declared.shape.ConstructorShape.{ConstructorShape}
use Rattle.kk_counted.proofs.CountChanges as Counting
use Rattle.kk_insert.specs.Shapes.{facts_of}
use Rattle.kk_middle.specs.ShapeKinds.{tag_of}
use Rattle.kk_middle.proofs.ConstructorTags.{items, types, tree, Makes, makes, one_number, tag_there, tag_is}
use Rattle.kk_middle.proofs.ConstructorConsistency.{tag_counts}

-- ---- small tags

small_in : (tags : GroundConstructor → ℕ) (made : List GroundConstructor) → All (λ (one : GroundConstructor). tags one < greatest_of Constructors) made
    → (c : ℕ) → slice_index_or (map tags made) c 0 < 256
small_in tags [] small c = omega arith
small_in tags (one ∷ made) small zero = let here = small zero one (omega arith) in omega (arith, here)
small_in tags (one ∷ made) small (suc c) = small_in tags made (λ k d lt. small (suc k) d (omega (arith, lt))) c

-- ---- counts at the begin

none_before : (p : GroundConstructor → Bool) (xs : List GroundConstructor) → count_by p (take 0 xs) ≡ 0
none_before p [] = refl
none_before p (x ∷ xs) = refl

one_before : (p : GroundConstructor → Bool) (xs : List GroundConstructor) (first : GroundConstructor) → slice_get xs 0 ≡ Some first
    → p first ≡ true → count_by p (take 1 xs) ≡ 1
one_before p [] first there holds = absurd (cc)
one_before p (x ∷ xs) first there holds =
    let same : x ≡ first = cc in
    let is : p x ≡ true = ap p same ∙ holds in
    let none = none_before p xs in
    let here : ◌≡◌ {A = ℕ} (if p x then 1 else 0) 1 = ap (λ (t : Bool). if t then 1 else 0) is in
    let all = sum_by-cons (λ z. if p z then 1 else 0) x (take 0 xs) in
    omega (arith, none, here, all)

module _ (typed : Typed) (given : Ground) (are : AreGiven typed given) where
  same_tags : (ms : List GroundConstructor)
      → map (λ (one : ConstructorTree). one.tag) (map (tree typed given are) ms) ≡ map (λ (m : GroundConstructor). m.tag) ms
  same_tags [] = refl
  same_tags (m ∷ ms) = ap (λ ns. m.tag ∷ ns) (same_tags ms)

  module _ (core : Core) (tells : TellsCells (ground_program given) core) (shapes : List ConstructorShape)
      (same : map facts_of shapes ≡ map facts_of core.constructors.items) where
    pub small_tags : (c : ℕ) → tag_of shapes c < 256
    small_tags c =
        let small = small_in (λ (m : GroundConstructor). m.tag) given.constructors.items given.within.tags c in
        let is = tag_is typed given are core tells shapes same c ∙ ap (λ ns. slice_index_or ns c 0) (same_tags given.constructors.items) in
        omega (arith, small, is)

    module _ (truths : HasTruths (ground_program given).constructors) where
      truth_made : (c : ℕ) → c ≤ 1 → Makes (types typed given are) 0 no_type (slice_get (items typed given are) c)
      truth_made c le =
          makes (types typed given are) (slice_get (items typed given are) c) 0 no_type []
          (ap (λ (o : Option ConstructorTree). fields_of o 0 no_type) (sym (slice_get-map (tree typed given are) (items typed given are) c))
          ∙ truths.truths c le)

      pub first_tag : tag_of shapes 0 ≡ 0
      first_tag =
          let one = truth_made 0 (omega arith) in
          tag_is typed given are core tells shapes same 0 ∙ tag_there typed given are 0 one.made one.there
          ∙ tag_counts typed given are 0 one.made one.there
          ∙ none_before (λ (x : GroundConstructor). x.of_type == one.made.of_type) given.constructors.items

      pub second_tag : tag_of shapes 1 ≡ 1
      second_tag =
          let one = truth_made 0 (omega arith) in
          let two = truth_made 1 (omega arith) in
          let number : one.made.of_type ≡ two.made.of_type
          = one_number typed given are 0 1 one.made two.made one.there two.there (one.is ∙ sym two.is) in
          tag_is typed given are core tells shapes same 1 ∙ tag_there typed given are 1 two.made two.there
          ∙ tag_counts typed given are 1 two.made two.there
          ∙ one_before (λ (x : GroundConstructor). x.of_type == two.made.of_type) given.constructors.items one.made one.there
          (ap (λ (n : ℕ). n == two.made.of_type) number ∙ Counting.itself two.made.of_type)
