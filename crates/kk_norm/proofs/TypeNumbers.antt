-- The numbers of types in a table, each once, are the types: of ground constructors that make values of one type the numbers are
-- one.
use Rattle.std.proofs.Common.{◌≡◌, ℕ, ◌<◌, Bool, true, false, Option, None, Some, option_map, List, length, map, AllPairs, refl, sym, ap, ◌∙◌, subst, inl, inr, arith}
use Rattle.std.specs.Prelude.{slice_get, if◌then◌else◌, ◌==◌}
use Rattle.std.proofs.lemmas.Bool.{eqb-true, eq-eqb, cases_lt}
use Rattle.std.proofs.lemmas.Option.{none-some, same_Some, slice_get-map, slice_get_within, get_or_from_slice_get}
use Rattle.kk_syntax.specs.declared.ground.Ground.{Ground}
use Rattle.kk_syntax.specs.declared.ground.GroundConstructor.{GroundConstructor}
use Rattle.kk_syntax.specs.GroundPrograms.{ground_types, ground_constructor_tree, ground_program, number_of_type, arguments_of_type}
use Rattle.kk_syntax.specs.GroundTypes.{is_declared}
use Rattle.kk_syntax.specs.OfType.{same_type, same_types, field_types, fields_of, fields_with}
use Rattle.kk_syntax.specs.Programs.{ConstructorTree}
use Rattle.kk_syntax.specs.Types.{TypeTree, TypeTrees, int32, unit_type, type_variable, named, type_at}
use Rattle.kk_syntax.proofs.TypeEquality.{all_same_only, same_itself, all_same_itself}
use Rattle.kk_match.specs.Parts.{types_of, AreOfOne, AreTypeNumbers, TellTypes}

-- a type has one number in a table in which none stands twice
module _ (ts : List TypeTree) (once : AllPairs (λ one other. same_type one other ≡ false) ts) where
  differ : (i j : ℕ) → i < j → j < length ts → type_at ts i ≡ type_at ts j → ⊥
  differ i j before less same =
      let other : same_type (type_at ts j) (type_at ts j) ≡ false =
      subst (λ t. same_type t (type_at ts j) ≡ false) same (once i j unit_type before less) in
      let itself = same_itself (type_at ts j) in
      absurd (cc)

  pub one_number : (i j : ℕ) → i < length ts → j < length ts → type_at ts i ≡ type_at ts j → i ≡ j
  one_number i j less_i less_j same = elim (cases_lt i j) [
    | inl before ↦ absurd (differ i j before less_j same)
    | inr behind ↦ elim (cases_lt j i) [
      | inl before ↦ absurd (differ j i before less_i (sym same))
      | inr again ↦ omega (arith, behind, again)
    ]
  ]

-- a declared type by its number and its arguments
pub declared_is : (t : TypeTree) → is_declared t ≡ true → t ≡ named (number_of_type t) (arguments_of_type t)
declared_is int32 is = absurd (cc)
declared_is unit_type is = absurd (cc)
declared_is (type_variable of) is = absurd (cc)
declared_is (named by arguments) is = refl

module _ (ts : List TypeTree) where
  -- a ground constructor makes values of its own type alone
  pub own_type : (made : GroundConstructor) (by : ℕ) (arguments : TypeTrees) (us : List TypeTree)
      → is_declared (type_at ts made.of_type) ≡ true
      → fields_of (Some (ground_constructor_tree ts made)) by arguments ≡ Some us → type_at ts made.of_type ≡ named by arguments
  own_type made by arguments us declared is =
      declared_is own declared ∙ (ap (λ n. named n (arguments_of_type own)) (by_number (number_of_type own == by) refl is)
      ∙ ap (named by) (by_arguments (number_of_type own == by) (same_types (arguments_of_type own) arguments) refl is))
    where
      own : TypeTree
      own = type_at ts made.of_type

      by_number : (b : Bool) → (number_of_type own == by) ≡ b
          → (if b then fields_with (Some (arguments_of_type own)) (map (type_at ts) made.fields.items) arguments else None) ≡ Some us
          → number_of_type own ≡ by
      by_number true same some = eqb-true (number_of_type own) by same
      by_number false same some = absurd (none-some us some)

      by_arguments : (b c : Bool) → same_types (arguments_of_type own) arguments ≡ c
          → (if b then (if c then Some (map (type_at ts) made.fields.items) else None) else None) ≡ Some us
          → arguments_of_type own ≡ arguments
      by_arguments true true same some = all_same_only (arguments_of_type own) arguments same
      by_arguments true false same some = absurd (none-some us some)
      by_arguments false c same some = absurd (none-some us some)

-- a constructor that makes values of a type stands in the list, by its number
pub record Makes (given : Ground) (by : ℕ) (arguments : TypeTrees) (c : ℕ) : Type 0 where
  pub made : GroundConstructor
  pub there : slice_get given.constructors.items c ≡ Some made
  pub within : made.of_type < length (ground_types given.types.items)
  pub is : type_at (ground_types given.types.items) made.of_type ≡ named by arguments

pub makes : (given : Ground) (by : ℕ) (arguments : TypeTrees) (c : ℕ) (us : List TypeTree)
    → fields_of (slice_get (ground_program given).constructors c) by arguments ≡ Some us → Makes given by arguments c
makes given by arguments c us is =
    at (slice_get given.constructors.items c) refl
    (subst (λ (found : Option ConstructorTree). fields_of found by arguments ≡ Some us)
    (slice_get-map (ground_constructor_tree (ground_types given.types.items)) given.constructors.items c) is)
  where
    at : (found : Option GroundConstructor) → slice_get given.constructors.items c ≡ found
        → fields_of (option_map (ground_constructor_tree (ground_types given.types.items)) found) by arguments ≡ Some us
        → Makes given by arguments c
    at None there some = absurd (none-some us some)
    at (Some made) there some =
        let less : c < length given.constructors.items = slice_get_within given.constructors.items c made there in
        let here = get_or_from_slice_get given.constructors.items c made made there in
        let declared : is_declared (type_at (ground_types given.types.items) made.of_type) ≡ true =
        subst (λ (k : GroundConstructor). is_declared (type_at (ground_types given.types.items) k.of_type) ≡ true) here
        (given.numbered.declared c made less) in
        record {
          made = made;
          there = there;
          within = subst (λ (k : GroundConstructor). k.of_type < length (ground_types given.types.items)) here
              (given.numbered.there c made less);
          is = own_type (ground_types given.types.items) made by arguments us declared some;
        }

pub are_type_numbers : (given : Ground) → AreTypeNumbers (ground_program given).constructors (types_of given.constructors.items)
are_type_numbers given = λ t. at t
  where
    at : (t : TypeTree) (c d : ℕ) (us vs : List TypeTree) → field_types (ground_program given).constructors t c ≡ Some us
        → field_types (ground_program given).constructors t d ≡ Some vs → AreOfOne (types_of given.constructors.items) c d
    at int32 c d us vs one other = absurd (none-some us one)
    at unit_type c d us vs one other = absurd (none-some us one)
    at (type_variable of) c d us vs one other = absurd (none-some us one)
    at (named by arguments) c d us vs one other =
        let first = makes given by arguments c us one in
        let second = makes given by arguments d vs other in
        let same : first.made.of_type ≡ second.made.of_type =
        one_number (ground_types given.types.items) given.numbered.once first.made.of_type second.made.of_type first.within
        second.within (first.is ∙ sym second.is) in
        record {
          of = first.made.of_type;
          first = slice_get-map (λ (k : GroundConstructor). k.of_type) given.constructors.items c
              ∙ ap (option_map (λ (k : GroundConstructor). k.of_type)) first.there;
          second = slice_get-map (λ (k : GroundConstructor). k.of_type) given.constructors.items d
              ∙ (ap (option_map (λ (k : GroundConstructor). k.of_type)) second.there ∙ ap (λ n. Some n) (sym same));
        }

-- a constructor with a number of a type stands in the list, and makes values of the type of that number
record Numbered (given : Ground) (c of : ℕ) : Type 0 where
  pub fields : List TypeTree
  pub makes : field_types (ground_program given).constructors (type_at (ground_types given.types.items) of) c ≡ Some fields

numbered : (given : Ground) (c of : ℕ) → slice_get (types_of given.constructors.items) c ≡ Some of → Numbered given c of
numbered given c of is =
    at (slice_get given.constructors.items c) refl (sym (slice_get-map (λ (k : GroundConstructor). k.of_type) given.constructors.items c) ∙ is)
  where
    ts : List TypeTree
    ts = ground_types given.types.items

    cs : List ConstructorTree
    cs = (ground_program given).constructors

    -- the fields at a constructor's own type
    own_fields : (made : GroundConstructor) (t : TypeTree) → type_at ts made.of_type ≡ t → is_declared t ≡ true
        → slice_get cs c ≡ Some (ground_constructor_tree ts made) → field_types cs t c ≡ Some (map (type_at ts) made.fields.items)
    own_fields made int32 same is there = absurd (cc)
    own_fields made unit_type same is there = absurd (cc)
    own_fields made (type_variable of) same is there = absurd (cc)
    own_fields made (named by arguments) same is there =
        ap (λ (found : Option ConstructorTree). fields_of found by arguments) there
        ∙ (ap (λ (b : Bool). if b then fields_with (Some (arguments_of_type (type_at ts made.of_type))) (map (type_at ts) made.fields.items) arguments else None)
        (eq-eqb (number_of_type (type_at ts made.of_type)) by (ap number_of_type same))
        ∙ ap (λ (b : Bool). if b then Some (map (type_at ts) made.fields.items) else None)
        (ap (λ (us : TypeTrees). same_types us arguments) (ap arguments_of_type same) ∙ all_same_itself arguments))

    at : (found : Option GroundConstructor) → slice_get given.constructors.items c ≡ found
        → option_map (λ (k : GroundConstructor). k.of_type) found ≡ Some of → Numbered given c of
    at None there some = absurd (none-some of some)
    at (Some made) there some =
        let less : c < length given.constructors.items = slice_get_within given.constructors.items c made there in
        let here = get_or_from_slice_get given.constructors.items c made made there in
        let declared : is_declared (type_at ts made.of_type) ≡ true =
        subst (λ (k : GroundConstructor). is_declared (type_at ts k.of_type) ≡ true) here (given.numbered.declared c made less) in
        let tree : slice_get cs c ≡ Some (ground_constructor_tree ts made) =
        slice_get-map (ground_constructor_tree ts) given.constructors.items c ∙ ap (option_map (ground_constructor_tree ts)) there in
        record {
          fields = map (type_at ts) made.fields.items;
          makes = subst (λ (n : ℕ). field_types cs (type_at ts n) c ≡ Some (map (type_at ts) made.fields.items))
              (same_Some made.of_type of some) (own_fields made (type_at ts made.of_type) refl declared tree);
        }

pub numbers_tell : (given : Ground) → TellTypes (ground_program given).constructors (types_of given.constructors.items)
numbers_tell given = λ c d one.
    let first = numbered given c one.of one.first in
    let second = numbered given d one.of one.second in
    (type_at (ground_types given.types.items) one.of, first.fields, second.fields, first.makes, second.makes)
