-- The ground constructors of a program's instances: each makes values of one type alone, and stands there once.
use Rattle.std.proofs.Common.{◌≡◌, ◌≢◌, ℕ, zero, suc, ◌+◌, ◌≤◌, Bool, true, false, List, [], ◌∷◌, ◌++◌, length, map, Option, Some, None, option_map, AllPairs, is_some, take, refl, sym, ap, ◌∙◌, subst, inl, inr, arith}
use Rattle.std.specs.Prelude.{if◌then◌else◌, ◌==◌, flat_map, slice_get}
use Rattle.std.proofs.lemmas.Bool.{cases_lt, eqb-true, eq-eqb}
use Rattle.std.proofs.lemmas.List.{length-map}
use Rattle.std.proofs.lemmas.Option.{slice_get-map, slice_get_within, get_or_from_slice_get, same_Some}
use Rattle.kk_syntax.specs.Covered.{Each}
use Rattle.kk_syntax.specs.GroundTyping.{HasTruths}
use Rattle.kk_syntax.specs.GroundPrograms.{number_of_type, arguments_of_type}
use Rattle.kk_syntax.specs.OfType.{same_types, with_arguments, fields_with, fields_of, field_types}
use Rattle.kk_syntax.specs.Programs.{ConstructorTree, ProgramTree, no_constructor, constructor_in}
use Rattle.kk_syntax.specs.Types.{TypeTree, TypeTrees, int32, unit_type, type_variable, named, no_type, types_of, type_list, put, type_at}
use Rattle.kk_syntax.specs.Typing.{bool, Choice}
use Rattle.kk_syntax.proofs.Elements.{each_both, each_at}
use Rattle.kk_syntax.proofs.PatternTypes.{fields_made}
use Rattle.kk_syntax.proofs.TypeEquality.{all_same_only, all_same_itself}
use Rattle.kk_source.proofs.Operators.{constructor_there}
use Rattle.kk_mono.specs.Instances.{InstanceTree, GroundConstructorTree, FirstSights, none_left, again, new_one, constructed_in, makers_from, makers, ground_constructors, of_same_type, AreGroundConstructors, ground_constructor, constructor_of, IsInstanceProgram}
use Rattle.kk_mono.proofs.FirstSights.{only_one, sights_once}
use Rattle.kk_instances.proofs.Choices.{AreApart}

-- ---- lists

types_back : (ts : List TypeTree) → type_list (types_of ts) ≡ ts
types_back [] = refl
types_back (t ∷ ts) = ap (λ us. t ∷ us) (types_back ts)

types_only : (ts us : List TypeTree) → types_of ts ≡ types_of us → ts ≡ us
types_only ts us same = sym (types_back ts) ∙ (ap type_list same ∙ types_back us)

-- of what is there once, each has one number
same_place : {X : Type 0} (xs : List X) (i j : ℕ) (x : X) → AllPairs (λ one other. one ≢ other) xs → slice_get xs i ≡ Some x
    → slice_get xs j ≡ Some x → i ≡ j
same_place xs i j x once first second =
    let i_in = slice_get_within xs i x first in
    let j_in = slice_get_within xs j x second in
    let i_is = get_or_from_slice_get xs i x x first in
    let j_is = get_or_from_slice_get xs j x x second in
    elim (cases_lt i j) [
      | inl lt ↦ absurd (once i j x lt j_in (i_is ∙ sym j_is))
      | inr le ↦ elim (cases_lt j i)
          [ inl lt ↦ absurd (once j i x lt i_in (j_is ∙ sym i_is)) | inr other ↦ omega (arith, le, other) ]
    ]

-- what is seen for the first time is seen
sights_keep : {X : Type 0} (P : X → Type 0) {seen xs new : List X} → FirstSights seen xs new → Each P xs → Each P new
sights_keep P none_left each = tt
sights_keep P (again there sights) each = sights_keep P sights each.1
sights_keep P (new_one absent sights) each = (each.0, sights_keep P sights each.1)

-- ---- the constructors of a type

-- a constructor by its number makes values of a declared type at these arguments, from fields of some types
pub record IsMaker (constructors : List ConstructorTree) (by : ℕ) (arguments : TypeTrees) (c : ℕ) : Type 0 where
  pub declared : ConstructorTree
  pub there : slice_get constructors c ≡ Some declared
  pub types : List TypeTree
  pub fields : fields_of (Some declared) by arguments ≡ Some types

module _ (by : ℕ) (arguments : TypeTrees) where
  makers_make : (all : List ConstructorTree) (first : ℕ) (constructors : List ConstructorTree)
      → ((k : ℕ) → slice_get all (first + k) ≡ slice_get constructors k)
      → Each (IsMaker all by arguments) (makers_from first constructors by arguments)
  makers_make all first [] same = tt
  makers_make all first (c ∷ cs) same =
      by_fields (fields_of (Some c) by arguments) refl
      (makers_make all (first + 1) cs
      (λ k. let next : (first + 1) + k ≡ first + suc k = omega arith in ap (slice_get all) next ∙ same (suc k)))
    where
      by_fields : (o : Option (List TypeTree)) → fields_of (Some c) by arguments ≡ o
          → Each (IsMaker all by arguments) (makers_from (first + 1) cs by arguments)
          → Each (IsMaker all by arguments)
          (if is_some o then first ∷ makers_from (first + 1) cs by arguments else makers_from (first + 1) cs by arguments)
      by_fields None fields later = later
      by_fields (Some us) fields later =
          let here : first + 0 ≡ first = omega arith in
          (record { declared = c; there = ap (slice_get all) (sym here) ∙ same 0; types = us; fields = fields }, later)

  no_makers : (first : ℕ) (constructors : List ConstructorTree)
      → ((k : ℕ) (us : List TypeTree) → fields_of (slice_get constructors k) by arguments ≡ Some us → ⊥)
      → makers_from first constructors by arguments ≡ []
  no_makers first [] none = refl
  no_makers first (c ∷ cs) none =
      by_fields (fields_of (Some c) by arguments) refl (no_makers (first + 1) cs (λ k us is. none (suc k) us is))
    where
      by_fields : (o : Option (List TypeTree)) → fields_of (Some c) by arguments ≡ o → makers_from (first + 1) cs by arguments ≡ []
          → (if is_some o then first ∷ makers_from (first + 1) cs by arguments else makers_from (first + 1) cs by arguments) ≡ []
      by_fields None fields later = later
      by_fields (Some us) fields later = absurd (none 0 us fields)

-- `bool` is made by `False` and `True`
makers_of_bool : (constructors : List ConstructorTree) → HasTruths constructors → makers constructors 0 no_type ≡ 0 ∷ 1 ∷ []
makers_of_bool [] truths = let no_false = truths.truths 0 (omega arith) in absurd (cc)
makers_of_bool (c ∷ []) truths = let no_true = truths.truths 1 (omega arith) in absurd (cc)
makers_of_bool (c ∷ d ∷ rest) truths =
    ap (λ (o : Option (List TypeTree)).
    if is_some o then 0 ∷ makers_from 1 (d ∷ rest) 0 no_type else makers_from 1 (d ∷ rest) 0 no_type)
    (truths.truths 0 (omega arith))
    ∙ (ap (λ (o : Option (List TypeTree)).
    0 ∷ (if is_some o then 1 ∷ makers_from 2 rest 0 no_type else makers_from 2 rest 0 no_type))
    (truths.truths 1 (omega arith))
    ∙ ap (λ cs. 0 ∷ 1 ∷ cs)
    (no_makers 0 no_type 2 rest (λ k us is. let low = truths.no_others (suc (suc k)) us is in absurd (omega (arith, low)))))

-- ---- ground constructors

-- a ground constructor is of a constructor of the program, and makes values of its type at its types
pub record IsGround (program : ProgramTree) (x : GroundConstructorTree) : Type 0 where
  pub declared : ConstructorTree
  pub there : slice_get program.constructors x.constructor ≡ Some declared
  pub types : List TypeTree
  pub fields : fields_of (Some declared) declared.of_type (types_of x.at) ≡ Some types

-- the fields of a constructor are those at its own type
pub own_fields : (declared : ConstructorTree) (by : ℕ) (arguments : TypeTrees) (us : List TypeTree)
    → fields_of (Some declared) by arguments ≡ Some us
    → (declared.of_type ≡ by) × (fields_of (Some declared) declared.of_type arguments ≡ Some us)
own_fields declared by arguments us is = by_test (declared.of_type == by) refl is
  where
    by_test : (same : Bool) → (declared.of_type == by) ≡ same
        → (if same then fields_with declared.arguments declared.fields arguments else None) ≡ Some us
        → (declared.of_type ≡ by) × (fields_of (Some declared) declared.of_type arguments ≡ Some us)
    by_test true same fields =
        let of = eqb-true declared.of_type by same in
        (of, ap (λ n. fields_of (Some declared) n arguments) of ∙ is)
    by_test false other fields = absurd (cc)

each_ground : (program : ProgramTree) (by : ℕ) (at : List TypeTree) → Each (IsGround program) (ground_constructors program by at)
each_ground program by at =
    grounds (makers program.constructors by (types_of at))
    (makers_make by (types_of at) program.constructors 0 program.constructors
    (λ k. let same : 0 + k ≡ k = omega arith in ap (slice_get program.constructors) same))
  where
    grounds : (cs : List ℕ) → Each (IsMaker program.constructors by (types_of at)) cs
        → Each (IsGround program) (map (λ c. record { constructor = c; at = at }) cs)
    grounds [] each = tt
    grounds (c ∷ cs) each =
        let one = each.0 in (
          record {
            declared = one.declared;
            there = one.there;
            types = one.types;
            fields = (own_fields one.declared by (types_of at) one.types one.fields).1;
          },
          grounds cs each.1,
        )

each_of_same_type : (program : ProgramTree) (xs : List GroundConstructorTree)
    → Each (IsGround program) (flat_map (of_same_type program) xs)
each_of_same_type program [] = tt
each_of_same_type program (x ∷ xs) =
    each_both (IsGround program) (of_same_type program x) (flat_map (of_same_type program) xs)
    (each_ground program (constructor_in program x.constructor).of_type x.at) (each_of_same_type program xs)

abbrev pub false_ground : GroundConstructorTree
false_ground = record { constructor = 0; at = [] }

abbrev pub true_ground : GroundConstructorTree
true_ground = record { constructor = 1; at = [] }

module _ (program : ProgramTree) (typings : List (List Choice)) (instances : List InstanceTree)
    (grounds : List GroundConstructorTree)
    (truths : HasTruths program.constructors) (are : AreGroundConstructors program typings instances grounds) where
  truths_first : ground_constructors program 0 [] ≡ false_ground ∷ true_ground ∷ []
  truths_first =
      ap (map (λ c. record { constructor = c; at = [] })) (makers_of_bool program.constructors truths)

  pub grounds_begin : grounds ≡ false_ground ∷ true_ground ∷ are.others
  grounds_begin = are.begins ∙ ap (λ xs. xs ++ are.others) truths_first

  pub each_is_ground : Each (IsGround program) grounds
  each_is_ground =
      subst (Each (IsGround program)) (sym are.begins)
      (each_both (IsGround program) (ground_constructors program 0 []) are.others (each_ground program 0 [])
      (sights_keep (IsGround program) are.in_order (each_of_same_type program (flat_map (constructed_in typings) instances))))

  pub grounds_once : AllPairs (λ one other. one ≢ other) grounds
  grounds_once =
      subst (AllPairs (λ one other. one ≢ other)) (sym are.begins)
      (sights_once (subst (AllPairs (λ one other. one ≢ other)) (sym truths_first) two_once) are.in_order)
    where
      none_once : AllPairs (λ (one other : GroundConstructorTree). one ≢ other) []
      none_once = λ i j d lt within. absurd (omega (arith, within))

      other_truths : false_ground ≢ true_ground
      other_truths same =
          let equal : 0 ≡ 1 = ap (λ (x : GroundConstructorTree). x.constructor) same in absurd (omega (arith, equal))

      two_once : AllPairs (λ one other. one ≢ other) (false_ground ∷ true_ground ∷ [])
      two_once =
          sights_once {seen = []} none_once
          (new_one (λ there. absurd (let lt = there.1 in omega (arith, lt)))
          (new_one (λ there. other_truths (only_one false_ground true_ground there)) none_left))

-- ---- the constructors of the made program

-- where a ground constructor makes values of a type
pub record IsMade (program : ProgramTree) (grounds : List GroundConstructorTree) (t : TypeTree) (g : ℕ)
    (us : List TypeTree) : Type 0 where
  pub ground : GroundConstructorTree
  pub there : slice_get grounds g ≡ Some ground
  pub known : IsGround program ground
  pub type_is : t ≡ named known.declared.of_type (types_of ground.at)
  pub fields_are : us ≡ map (put (type_at ground.at)) known.declared.fields

module _ (program made : ProgramTree) (typings : List (List Choice)) (instances : List InstanceTree)
    (truths : HasTruths program.constructors) (is : IsInstanceProgram program typings instances made) where
  abbrev grounds : List GroundConstructorTree
  grounds = is.grounds

  made_at : (g : ℕ) → slice_get made.constructors g ≡ option_map (ground_constructor program) (slice_get grounds g)
  made_at g =
      ap (λ cs. slice_get cs g) is.constructors ∙ slice_get-map (ground_constructor program) grounds g

  ground_at : (g : ℕ) (x : GroundConstructorTree) → slice_get grounds g ≡ Some x → IsGround program x
  ground_at g x there =
      each_at (IsGround program) grounds g x (each_is_ground program typings instances grounds truths is.grounds_are) there

  -- a ground constructor makes values of its type, from fields of the declared types with its own put in
  pub fields_at : (g : ℕ) (x : GroundConstructorTree) (declared : ConstructorTree) → slice_get grounds g ≡ Some x
      → slice_get program.constructors x.constructor ≡ Some declared
      → field_types made.constructors (named declared.of_type (types_of x.at)) g ≡ Some (map (put (type_at x.at)) declared.fields)
  fields_at g x declared there is_there =
      ap (λ o. fields_of o declared.of_type (types_of x.at)) (made_at g ∙ ap (option_map (ground_constructor program)) there)
      ∙ (ap (λ (c : ConstructorTree). fields_of (Some (ground_of x c)) declared.of_type (types_of x.at))
      (get_or_from_slice_get program.constructors x.constructor declared no_constructor is_there)
      ∙ (ap (λ b. if b then fields_with (Some (types_of x.at)) (map (put (type_at x.at)) declared.fields) (types_of x.at) else None)
      (eq-eqb declared.of_type declared.of_type refl)
      ∙ ap (λ b. if b then Some (map (put (type_at x.at)) declared.fields) else None) (all_same_itself (types_of x.at))))
    where
      ground_of : GroundConstructorTree → ConstructorTree → ConstructorTree
      ground_of y c = record {
        name = [];
        at = 0;
        of_type = c.of_type;
        arguments = Some (types_of y.at);
        tag = length (makers (take y.constructor program.constructors) c.of_type (types_of y.at));
        fields = map (put (type_at y.at)) c.fields;
      }

  -- and of no other
  pub is_made : (t : TypeTree) (g : ℕ) (us : List TypeTree) → field_types made.constructors t g ≡ Some us
      → IsMade program grounds t g us
  is_made int32 g us fields = absurd (cc)
  is_made unit_type g us fields = absurd (cc)
  is_made (type_variable x) g us fields = absurd (cc)
  is_made (named by arguments) g us fields =
      by_ground (slice_get grounds g) refl (ap (λ o. fields_of o by arguments) (sym (made_at g)) ∙ fields)
    where
      by_arguments : (x : GroundConstructorTree) (known : IsGround program x) → slice_get grounds g ≡ Some x
          → known.declared.of_type ≡ by → (same : Bool) → same_types (types_of x.at) arguments ≡ same
          → (if same then Some (map (put (type_at x.at)) known.declared.fields) else None) ≡ Some us
          → IsMade program grounds (named by arguments) g us
      by_arguments x known there of false other found = absurd (cc)
      by_arguments x known there of true same found = record {
        ground = x;
        there = there;
        known = known;
        type_is =
            ap (λ n. named n arguments) (sym of)
            ∙ ap (λ ts. named known.declared.of_type ts) (sym (all_same_only (types_of x.at) arguments same));
        fields_are = sym (same_Some _ _ found);
      }

      by_type : (x : GroundConstructorTree) (known : IsGround program x) → slice_get grounds g ≡ Some x
          → (same : Bool) → (known.declared.of_type == by) ≡ same
          → (if same then fields_with (Some (types_of x.at)) (map (put (type_at x.at)) known.declared.fields) arguments else None)
          ≡ Some us
          → IsMade program grounds (named by arguments) g us
      by_type x known there false other found = absurd (cc)
      by_type x known there true same found =
          by_arguments x known there (eqb-true known.declared.of_type by same) (same_types (types_of x.at) arguments) refl found

      by_ground : (o : Option GroundConstructorTree) → slice_get grounds g ≡ o
          → fields_of (option_map (ground_constructor program) o) by arguments ≡ Some us
          → IsMade program grounds (named by arguments) g us
      by_ground None there found = absurd (cc)
      by_ground (Some x) there found =
          let known = ground_at g x there in
          let declared_is = get_or_from_slice_get program.constructors x.constructor known.declared no_constructor known.there in
          by_type x known there (known.declared.of_type == by) refl
          (subst
          (λ (c : ConstructorTree).
          (if c.of_type == by then fields_with (Some (types_of x.at)) (map (put (type_at x.at)) c.fields) arguments else None)
          ≡ Some us)
          declared_is found)

  abbrev pub origin : ℕ → ℕ
  origin = constructor_of grounds

  pub origin_is : (g : ℕ) (x : GroundConstructorTree) → slice_get grounds g ≡ Some x → origin g ≡ x.constructor
  origin_is g x there =
      ap (λ (y : GroundConstructorTree). y.constructor)
      (get_or_from_slice_get grounds g x (record { constructor = 0; at = [] }) there)

  once : AllPairs (λ one other. one ≢ other) grounds
  once = grounds_once program typings instances grounds truths is.grounds_are

  begin : grounds ≡ false_ground ∷ true_ground ∷ is.grounds_are.others
  begin = grounds_begin program typings instances grounds truths is.grounds_are

  pub false_first : origin 0 ≡ 0
  false_first = origin_is 0 false_ground (ap (λ xs. slice_get xs 0) begin)

  pub true_second : origin 1 ≡ 1
  true_second = origin_is 1 true_ground (ap (λ xs. slice_get xs 1) begin)

  -- the ground constructors of one type are of different constructors
  pub apart : AreApart made.constructors origin
  apart t g h us ws g_fields h_fields same =
      let one = is_made t g us g_fields in
      let other = is_made t h ws h_fields in
      let types : named other.known.declared.of_type (types_of other.ground.at)
      ≡ named one.known.declared.of_type (types_of one.ground.at) =
      sym other.type_is ∙ one.type_is in
      let at_is : other.ground.at ≡ one.ground.at = types_only other.ground.at one.ground.at (ap arguments_of_type types) in
      let constructor_is : other.ground.constructor ≡ one.ground.constructor =
      sym (origin_is h other.ground other.there) ∙ (same ∙ origin_is g one.ground one.there) in
      let ground_is : other.ground ≡ one.ground =
      ap (λ c. record { constructor = c; at = other.ground.at }) constructor_is
      ∙ ap (λ ts. record { constructor = one.ground.constructor; at = ts }) at_is in
      same_place grounds h g one.ground once (other.there ∙ ap (λ x. Some x) ground_is) one.there

  -- ---- `bool`

  -- the constructors of `bool` have no fields, and neither have the ground ones
  truth_fields : (declared : ConstructorTree) → fields_of (Some declared) 0 no_type ≡ Some [] → declared.fields ≡ []
  truth_fields declared is = by_arguments declared.arguments declared.fields (by_test (declared.of_type == 0) is)
    where
      by_test : (same : Bool) → (if same then fields_with declared.arguments declared.fields no_type else None) ≡ Some []
          → fields_with declared.arguments declared.fields no_type ≡ Some []
      by_test true found = found
      by_test false found = absurd (cc)

      by_fields : (us : List TypeTree) → map (with_arguments no_type) us ≡ [] → us ≡ []
      by_fields [] none = refl
      by_fields (u ∷ us) none = absurd (cc)

      by_same : (same : Bool) (us : List TypeTree) → (if same then Some us else None) ≡ Some [] → us ≡ []
      by_same true us found = same_Some us [] found
      by_same false us found = absurd (cc)

      by_arguments : (own : Option TypeTrees) (us : List TypeTree) → fields_with own us no_type ≡ Some [] → us ≡ []
      by_arguments None us found = by_fields us (same_Some _ _ found)
      by_arguments (Some own) us found = by_same (same_types own no_type) us found

  truth_made : (g : ℕ) (x : GroundConstructorTree) → slice_get grounds g ≡ Some x → x.at ≡ [] → x.constructor ≤ 1
      → field_types made.constructors bool g ≡ Some []
  truth_made g x there at_is low =
      let known = ground_at g x there in
      let of_bool : fields_of (Some known.declared) 0 no_type ≡ Some [] =
      ap (λ o. fields_of o 0 no_type) (sym known.there) ∙ truths.truths x.constructor low in
      let own = own_fields known.declared 0 no_type [] of_bool in
      ap (λ n. field_types made.constructors (named n no_type) g) (sym own.0)
      ∙ (ap (λ ts. field_types made.constructors (named known.declared.of_type (types_of ts)) g) (sym at_is)
      ∙ (fields_at g x known.declared there known.there
      ∙ ap (λ us. Some (map (put (type_at x.at)) us)) (truth_fields known.declared of_bool)))

  made_truth : (g : ℕ) → g ≤ 1 → field_types made.constructors bool g ≡ Some []
  made_truth zero le = truth_made 0 false_ground (ap (λ xs. slice_get xs 0) begin) refl (omega arith)
  made_truth (suc zero) le = truth_made 1 true_ground (ap (λ xs. slice_get xs 1) begin) refl (omega arith)
  made_truth (suc (suc g)) le = absurd (omega (arith, le))

  -- a ground constructor of `False` or `True` at no types is the first or the second one
  pub is_truth : (g : ℕ) (x : GroundConstructorTree) → slice_get grounds g ≡ Some x → x.at ≡ [] → x.constructor ≤ 1
      → g ≡ x.constructor
  is_truth g x there at_is low = by_constructor x.constructor low refl
    where
      is_at : (c : ℕ) → x.constructor ≡ c → x ≡ record { constructor = c; at = [] }
      is_at c same =
          ap (λ ts. record { constructor = x.constructor; at = ts }) at_is ∙ ap (λ d. record { constructor = d; at = [] }) same

      by_constructor : (c : ℕ) → c ≤ 1 → x.constructor ≡ c → g ≡ c
      by_constructor zero le same =
          same_place grounds g 0 x once there (ap (λ xs. slice_get xs 0) begin ∙ ap (λ y. Some y) (sym (is_at 0 same)))
      by_constructor (suc zero) le same =
          same_place grounds g 1 x once there (ap (λ xs. slice_get xs 1) begin ∙ ap (λ y. Some y) (sym (is_at 1 same)))
      by_constructor (suc (suc c)) le same = absurd (omega (arith, le))

  made_no_others : (g : ℕ) (us : List TypeTree) → field_types made.constructors bool g ≡ Some us → g ≤ 1
  made_no_others g us fields =
      let one = is_made bool g us fields in
      let at_is : one.ground.at ≡ [] = types_only one.ground.at [] (sym (ap arguments_of_type one.type_is)) in
      let of_is : one.known.declared.of_type ≡ 0 = sym (ap number_of_type one.type_is) in
      let of_bool : field_types program.constructors bool one.ground.constructor ≡ Some one.known.types =
      ap (λ o. fields_of o 0 no_type) one.known.there
      ∙ (ap (λ n. fields_of (Some one.known.declared) n no_type) (sym of_is)
      ∙ (ap (λ ts. fields_of (Some one.known.declared) one.known.declared.of_type (types_of ts)) (sym at_is) ∙ one.known.fields)) in
      let low = truths.no_others one.ground.constructor one.known.types of_bool in
      let same = is_truth g one.ground one.there at_is low in
      omega (arith, low, same)

  pub made_truths : HasTruths made.constructors
  made_truths = record { truths = made_truth; no_others = made_no_others }

  -- ---- back to the program

  -- The constructor of a ground one makes values of the same type. A declared one has fields of the same types; in any case
  -- there are as many.
  pub record Back (t : TypeTree) (c : ℕ) (us : List TypeTree) : Type 0 where
    pub declared : ConstructorTree
    pub there : slice_get program.constructors c ≡ Some declared
    pub types : List TypeTree
    pub fields : field_types program.constructors t c ≡ Some types
    pub long : length types ≡ length us
    pub same : declared.arguments ≡ None → types ≡ us

  pub back : (t : TypeTree) (g : ℕ) (us : List TypeTree) → field_types made.constructors t g ≡ Some us → Back t (origin g) us
  back t g us made_fields = record {
    declared = one.known.declared;
    there = there;
    types = one.known.types;
    fields = fields;
    long = long;
    same = λ any. same_Some one.known.types us
        (sym one.known.fields ∙ (of_declared any ∙ ap (λ ts. Some ts) (put_back ∙ sym one.fields_are)));
  }
    where
      one : IsMade program grounds t g us
      one = is_made t g us made_fields

      there : slice_get program.constructors (origin g) ≡ Some one.known.declared
      there = ap (slice_get program.constructors) (origin_is g one.ground one.there) ∙ one.known.there

      fields : field_types program.constructors t (origin g) ≡ Some one.known.types
      fields =
          ap (λ u. field_types program.constructors u (origin g)) one.type_is
          ∙ (ap (λ o. fields_of o one.known.declared.of_type (types_of one.ground.at)) there ∙ one.known.fields)

      long : length one.known.types ≡ length us
      long =
          let found = constructor_there program.constructors t (origin g) one.known.types fields in
          let declared_is = same_Some found.0 one.known.declared (sym found.1 ∙ there) in
          found.2
          ∙ (ap (λ (c : ConstructorTree). length c.fields) declared_is
          ∙ (sym (length-map one.known.declared.fields (put (type_at one.ground.at)))
          ∙ ap (λ (ts : List TypeTree). length ts) (sym one.fields_are)))

      put_back : map (with_arguments (types_of one.ground.at)) one.known.declared.fields
          ≡ map (put (type_at one.ground.at)) one.known.declared.fields
      put_back = ap (λ ts. map (put (type_at ts)) one.known.declared.fields) (types_back one.ground.at)

      of_declared : one.known.declared.arguments ≡ None
          → fields_of (Some one.known.declared) one.known.declared.of_type (types_of one.ground.at)
          ≡ Some (map (with_arguments (types_of one.ground.at)) one.known.declared.fields)
      of_declared any =
          fields_made (Some one.known.declared) one.known.declared one.known.declared.of_type (types_of one.ground.at) refl any refl
