-- Ground constructors that are made of those that are known: they stay while the table of types grows.
use Rattle.std.proofs.Common.{◌≡◌, ℕ, ◌+◌, ◌<◌, List, [], ◌∷◌, ◌++◌, length, map, get_or, take, All, sym, ap, ◌∙◌, subst, inl, inr, arith}
use Rattle.std.specs.Prelude.{◌==◌, slice_get, count_by, Some}
use Rattle.std.specs.List.{AllZip}
use Rattle.std.proofs.lemmas.Bool.{cases_lt}
use Rattle.std.proofs.lemmas.List.{length_push, get_or-map, get_or_append_left, get_or_push, take-map, take_more}
use Rattle.std.proofs.lemmas.List.Elements.{All-head, All-tail, All-take}
use Rattle.std.proofs.lemmas.Option.{slice_get_within, get_or_from_slice_get}
use Rattle.kk_syntax.specs.declared.ground.GroundConstructor.{GroundConstructor}
use Rattle.kk_syntax.specs.declared.program.Constructor.{Constructor}
use Rattle.kk_syntax.proofs.Quantities.{members_count}
use Rattle.kk_syntax.specs.Programs.{ConstructorTree, constructor_tree, no_constructor}
use Rattle.kk_syntax.specs.Types.{TypeTree, named, types_of, put, type_at}
use Rattle.kk_mono.specs.BuiltInstances.{place_in, ArePlaces, IsMadeAs, IsMadeOf}
use Rattle.kk_mono.specs.KeyTrees.{KeyTree}
use Rattle.kk_syntax.specs.Constructors.{members}
use Rattle.kk_mono.specs.Tables.{Grows, AreNumbers}
use Rattle.kk_mono.proofs.SearchKeys.{IsKeyWithin}
use Rattle.kk_mono.proofs.TypeNumbers.{grows_on, longer, within_grown, type_stays, types_stay, numbers_grown}
use Rattle.kk_mono.proofs.NewKeys.{type_read}

-- ---- places

-- one place more
pub place_more : (constructors before : List Constructor) (places next : List ℕ) (n by place : ℕ) (found : Constructor)
    → n < length constructors → length places ≡ n
    → found ≡ get_or constructors n found → by ≡ found.of_type → before ≡ take n constructors
    → place ≡ count_by (λ (c : Constructor). c.of_type == by) before
    → next ≡ places ++ place ∷ [] → ArePlaces (map constructor_tree constructors) places
    → ArePlaces (map constructor_tree constructors) next
place_more constructors before places next n by place found lt long is by_is before_is place_is next_is are = subst
    (ArePlaces cs) (sym next_is) pushed
  where
    cs : List ConstructorTree
    cs = map constructor_tree constructors

    here : place ≡ place_in cs n
    here =
        place_is
        ∙ (ap (λ xs. count_by (λ (c : Constructor). c.of_type == by) xs) before_is
        ∙ (sym (members_count by 0 (take n constructors))
        ∙ (ap (λ xs. length (members xs by)) (sym (take-map constructor_tree n constructors))
        ∙ ap (λ b. length (members (take n cs) b)) (by_is ∙ sym (type_read constructors n found lt is)))))

    pushed : ArePlaces cs (places ++ place ∷ [])
    pushed c d below = elim (cases_lt c n) [
      | inl earlier ↦ get_or_append_left places (place ∷ []) d c (omega (arith, earlier, long))
          ∙ are c d (omega (arith, earlier, long))
      | inr past ↦
          let many = length_push places place in
          let last : c ≡ n = omega (arith, many, below, long, past) in
          get_or_push places place d c (omega (arith, long, last)) ∙ (here ∙ ap (place_in cs) (sym last))
    ]

-- ---- one ground constructor

-- what is made stays while the table grows
pub made_stays : (declared : ConstructorTree) (types more : List TypeTree) (key : KeyTree) (tag : ℕ) (made : GroundConstructor)
    → Grows types more → IsKeyWithin types key
    → IsMadeAs declared types key tag made → IsMadeAs declared more key tag made
made_stays declared types more key tag made grows within is = record {
  constructor_is = is.constructor_is;
  of_type_within = let long = longer types more grows in let lt = is.of_type_within in omega (arith, long, lt);
  of_type_is =
      type_stays types more made.of_type is.of_type_within grows
      ∙ (is.of_type_is ∙ ap (λ ts. named declared.of_type (types_of ts)) (sym (types_stay types more key.at within grows)));
  tag_is = is.tag_is;
  fields = subst (λ ts. AreNumbers more made.fields.items (map (put (type_at ts)) declared.fields))
      (sym (types_stay types more key.at within grows))
      (numbers_grown types more made.fields.items _ is.fields grows);
}

-- from its parts
pub made_from : (declared : ConstructorTree) (before with after : List TypeTree) (key : KeyTree) (tag : ℕ)
    (arguments at : List ℕ) (made : GroundConstructor) (written : List TypeTree)
    → IsKeyWithin before key → Grows before with → Grows with after → arguments ≡ key.at → at ≡ key.at
    → made.constructor ≡ key.number → made.of_type < length with
    → type_at with made.of_type ≡ named declared.of_type (types_of (map (type_at before) arguments)) → made.tag ≡ tag
    → AreNumbers after made.fields.items (map (put (type_at (map (type_at with) at))) written) → written ≡ declared.fields
    → IsMadeAs declared after key tag made
made_from declared before with after key tag arguments at made written within first second arguments_are at_is constructor_is
    of_type_within of_type_is tag_is fields written_is =
    let both = grows_on before with after first second in
    let stay = types_stay before after key.at within both in
    let with_same = types_stay with after key.at (within_grown before with key.at within first) second in
    record {
      constructor_is = constructor_is;
      of_type_within = let long = longer with after second in omega (arith, long, of_type_within);
      of_type_is =
          type_stays with after made.of_type of_type_within second
          ∙ (of_type_is ∙ ap (λ ts. named declared.of_type (types_of ts)) (ap (map (type_at before)) arguments_are ∙ sym stay));
      tag_is = tag_is;
      fields = subst (λ ts. AreNumbers after made.fields.items (map (put (type_at ts)) declared.fields))
          (ap (map (type_at with)) at_is ∙ sym with_same)
          (subst (λ ws. AreNumbers after made.fields.items (map (put (type_at (map (type_at with) at))) ws)) written_is fields);
    }

-- with the constructor and the place that are read
pub made_of : (constructors : List Constructor) (places : List ℕ) (types : List TypeTree) (key : KeyTree) (found : Constructor)
    (tag : ℕ) (made : GroundConstructor)
    → key.number < length constructors → length places ≡ length constructors → found ≡ get_or constructors key.number found
    → tag ≡ get_or places key.number tag
    → ArePlaces (map constructor_tree constructors) places → IsMadeAs (constructor_tree found) types key tag made
    → IsMadeOf (map constructor_tree constructors) types key made
made_of constructors places types key found tag made lt many found_is tag_is are is =
    subst (λ n. IsMadeAs (get_or (map constructor_tree constructors) key.number no_constructor) types key n made)
    (tag_is ∙ are key.number tag (omega (arith, lt, many)))
    (subst (λ (k : ConstructorTree). IsMadeAs k types key tag made)
    (ap constructor_tree found_is ∙ sym (get_or-map constructor_tree constructors key.number found no_constructor lt)) is)

-- ---- all of them

zip_pushed : {X Y : Type 0} (R : X → Y → Type 0) (xs : List X) (ys : List Y) (x : X) (y : Y) → AllZip R xs ys → R x y
    → AllZip R (xs ++ x ∷ []) (ys ++ y ∷ [])
zip_pushed R [] [] x y zip is = (is, tt)
zip_pushed R [] (b ∷ ys) x y zip is = absurd zip
zip_pushed R (a ∷ xs) [] x y zip is = absurd zip
zip_pushed R (a ∷ xs) (b ∷ ys) x y zip is = (zip.0, zip_pushed R xs ys x y zip.1 is)

module _ (cs : List ConstructorTree) where
  pub all_made_stay : (types more : List TypeTree) (keys : List KeyTree) (made : List GroundConstructor) → Grows types more
      → All (IsKeyWithin types) keys
      → AllZip (IsMadeOf cs types) keys made → AllZip (IsMadeOf cs more) keys made
  all_made_stay types more [] [] grows within zip = tt
  all_made_stay types more [] (m ∷ made) grows within zip = absurd zip
  all_made_stay types more (key ∷ keys) [] grows within zip = absurd zip
  all_made_stay types more (key ∷ keys) (m ∷ made) grows within zip = (
    made_stays (get_or cs key.number no_constructor) types more key (place_in cs key.number) m grows
        (All-head (IsKeyWithin types) key keys within) zip.0,
    all_made_stay types more keys made grows (All-tail (IsKeyWithin types) key keys within) zip.1,
  )

  -- one more
  pub made_more : (before types more : List TypeTree) (keys : List KeyTree) (made next : List GroundConstructor) (i : ℕ)
      (key : KeyTree) (m : GroundConstructor)
      → Grows before types → Grows types more → All (IsKeyWithin before) keys → slice_get keys i ≡ Some key
      → AllZip (IsMadeOf cs types) (take i keys) made → IsMadeOf cs more key m → next ≡ made ++ m ∷ []
      → AllZip (IsMadeOf cs more) (take (i + 1) keys) next
  made_more before types more keys made next i key m first grows within found so_far is next_is =
      let lt = slice_get_within keys i key found in
      let here : get_or keys i key ≡ key = get_or_from_slice_get keys i key key found in
      let within_now : All (IsKeyWithin types) (take i keys) =
      λ k d below. within_grown before types (get_or (take i keys) k d).at
      (All-take (IsKeyWithin before) i keys within k d below) first in
      subst (λ ks. AllZip (IsMadeOf cs more) ks next) (ap (λ k. take i keys ++ k ∷ []) (sym here) ∙ sym (take_more keys i key lt))
      (subst (λ ms. AllZip (IsMadeOf cs more) (take i keys ++ key ∷ []) ms) (sym next_is)
      (zip_pushed (IsMadeOf cs more) (take i keys) made key m
      (all_made_stay types more (take i keys) made grows within_now so_far) is))
