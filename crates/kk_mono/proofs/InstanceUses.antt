-- What is seen in an instance stays while other types and instances become known, and the search goes on by it.
use Rattle.std.proofs.Common.{◌≡◌, ℕ, ◌<◌, List, [], ◌∷◌, ◌++◌, length, map, get_or, take, All, Some, option_map, Vec, Global, refl, sym, ap, ◌∙◌, subst, inl, inr, arith}
use Rattle.std.specs.Prelude.{slice_get, slice_index_or, flat_map}
use Rattle.std.specs.List.{AllZip}
use Rattle.std.proofs.lemmas.Bool.{cases_lt}
use Rattle.std.proofs.lemmas.List.{append-nil, length-map, length_push, get_or-map, get_or_default, get_or_append_left, get_or_push, map-append}
use Rattle.std.proofs.lemmas.List.Elements.{All-nil, All-cons, All-head, All-tail, All-append, All-weaker}
use Rattle.std.proofs.lemmas.Option.{slice_get-map, get_or_from_slice_get}
use Rattle.kk_syntax.specs.declared.program.Constructor.{Constructor}
use Rattle.kk_syntax.specs.declared.program.Fun.{Fun}
use Rattle.kk_syntax.specs.declared.program.Program.{Program}
use Rattle.kk_syntax.specs.declared.typed.BodyTypes.{BodyTypes}
use Rattle.kk_syntax.specs.declared.typed.Taken.{Taken}
use Rattle.kk_syntax.specs.declared.typed.Taken.TheVariants.{Construct, Call, Value}
use Rattle.kk_syntax.specs.declared.program.Ty.{Ty}
use Rattle.kk_syntax.specs.declared.typed.TypeNode.{TypeNode}
use Rattle.kk_syntax.specs.declared.typed.Typed.{Typed}
use Rattle.kk_syntax.specs.Programs.{FunctionTree, ProgramTree, constructor_tree, function_tree, program_tree, no_function}
use Rattle.kk_syntax.specs.TypedPrograms.{choice_of, node_types, typing_of, typings_of}
use Rattle.kk_syntax.specs.Types.{TypeTree, unit_type, type_tree, put, type_at}
use Rattle.kk_syntax.specs.Typing.{Choice, constructing, calling, holding, put_choice}
use Rattle.kk_mono.specs.declared.search.Looked.{Looked}
use Rattle.kk_mono.specs.declared.search.Found.{Found}
use Rattle.kk_mono.specs.Instances.{InstanceTree, GroundConstructorTree, main_instance, called_in, constructed_in, ground_constructors, of_same_type, FirstSights, none_left, AreGroundConstructors}
use Rattle.kk_mono.specs.KeyTrees.{KeyTree, Sees, keys_in, viewed, viewed_constructor, keys_called, keys_constructed, AreTakenWithin}
use Rattle.kk_mono.specs.InstanceUses.{Looks, Uses}
use Rattle.kk_mono.specs.Places.{Renumbers}
use Rattle.kk_mono.specs.InstanceSearch.{Searched, AreConstructionsBelow, IsComplete, function_in, IsLooked, AreLooked, known_in, used_in, IsSearching}
use Rattle.kk_mono.specs.Siblings.{keys_of, siblings, HaveSiblings}
use Rattle.kk_mono.specs.Tables.{Grows, number_in, AreNumbers}
use Rattle.kk_mono.specs.Views.{types_in}
use Rattle.kk_mono.specs.declared.types.Types.{Types}
use Rattle.kk_mono.proofs.ProgramCompleteness.{instance_below}
use Rattle.kk_mono.proofs.SearchKeys.{IsKeyWithin, all_stay, called_within, constructed_within, new_within, sights_viewed, sights_constructed, called_viewed, constructed_viewed, whole_so_far}
use Rattle.kk_mono.proofs.TypeNumbers.{grows_on, unit_of, some_of, within_grown, type_stays, types_stay, numbers_grown, longer, place_within, place_type, places_within, places_types, put_at, put_each_at}
use Rattle.kk_mono.proofs.InstanceSearch.{search_starts, search_steps}
use Rattle.kk_mono.proofs.NewKeys.{whole_first}
use Rattle.kk_mono.proofs.KnownConstructors.{keys_viewed, siblings_viewed, siblings_within, first_within, first_below, below_after}
use Rattle.kk_mono.proofs.KnownConstructors.{used_steps}

-- a choice by other numbers
module _ (types earlier : List TypeTree) (ns : List ℕ) (s : ℕ → TypeTree) (first : type_at types 0 ≡ unit_type) (some : 0 < length types) (are : AreNumbers types ns (map (put s) earlier)) where
  places_put : (ks : List ℕ) → map (type_at types) (map (number_in ns) ks) ≡ map (put s) (map (type_at earlier) ks)
  places_put ks = places_types types ns ks first ∙ (ap (λ ts. map (type_at ts) ks) are.types_are ∙ sym (put_each_at s earlier ks))

  choice_put : (choice made : Taken) → Renumbers ns choice made → AreTakenWithin types made × (choice_of types made ≡ put_choice s (choice_of earlier choice))
  choice_put (Construct by at) (Construct made_by made_at) (by_is, at_is) = (
    subst (λ ks. All (λ n. n < length types) ks) (sym at_is) (places_within types ns at.items some are.within),
    ap (λ b. constructing b (map (type_at types) made_at.items)) by_is ∙ ap (λ ts. constructing by ts) (ap (map (type_at types)) at_is ∙ places_put at.items),
  )
  choice_put (Construct by at) (Call function made_at) wrong = absurd wrong
  choice_put (Construct by at) (Value made_of) wrong = absurd wrong
  choice_put (Call function at) (Construct made_by made_at) wrong = absurd wrong
  choice_put (Call function at) (Call made_function made_at) (function_is, at_is) = (
    subst (λ ks. All (λ n. n < length types) ks) (sym at_is) (places_within types ns at.items some are.within),
    ap (λ f. calling f (map (type_at types) made_at.items)) function_is ∙ ap (λ ts. calling function ts) (ap (map (type_at types)) at_is ∙ places_put at.items),
  )
  choice_put (Call function at) (Value made_of) wrong = absurd wrong
  choice_put (Value of) (Construct made_by made_at) wrong = absurd wrong
  choice_put (Value of) (Call function made_at) wrong = absurd wrong
  choice_put (Value of) (Value made_of) is = (
    subst (λ n. n < length types) (sym is) (place_within types ns of some are.within),
    ap holding (ap (type_at types) is ∙ (place_type types ns of first ∙ (ap (λ ts. type_at ts of) are.types_are ∙ sym (put_at s earlier of)))),
  )

  pub taken_put : (taken made : List Taken) → AllZip (Renumbers ns) taken made → All (AreTakenWithin types) made × (map (choice_of types) made ≡ map (put_choice s) (map (choice_of earlier) taken))
  taken_put [] [] zip = (All-nil (AreTakenWithin types), refl)
  taken_put [] (made ∷ mades) zip = absurd zip
  taken_put (taken ∷ more) [] zip = absurd zip
  taken_put (taken ∷ more) (made ∷ mades) (here, behind) =
      let one = choice_put taken made here in
      let rest = taken_put more mades behind in
      (All-cons (AreTakenWithin types) made mades one.0 rest.0, ap (λ c. c ∷ map (choice_of types) mades) one.1 ∙ ap (λ cs. put_choice s (choice_of earlier taken) ∷ cs) rest.1)

-- what is taken stays while the table grows
module _ (types more : List TypeTree) (grows : Grows types more) where
  choice_stays : (taken : Taken) → AreTakenWithin types taken → AreTakenWithin more taken × (choice_of more taken ≡ choice_of types taken)
  choice_stays (Construct by at) within = (within_grown types more at.items within grows, ap (λ ts. constructing by ts) (types_stay types more at.items within grows))
  choice_stays (Call function at) within = (within_grown types more at.items within grows, ap (λ ts. calling function ts) (types_stay types more at.items within grows))
  choice_stays (Value of) within = (let long = longer types more grows in omega (arith, long, within), ap holding (type_stays types more of within grows))

  pub taken_stays : (taken : List Taken) → All (AreTakenWithin types) taken → All (AreTakenWithin more) taken × (map (choice_of more) taken ≡ map (choice_of types) taken)
  taken_stays [] within = (All-nil (AreTakenWithin more), refl)
  taken_stays (taken ∷ rest) within =
      let one = choice_stays taken (All-head (AreTakenWithin types) taken rest within) in
      let behind = taken_stays rest (All-tail (AreTakenWithin types) taken rest within) in
      (All-cons (AreTakenWithin more) taken rest one.0 behind.0, ap (λ c. c ∷ map (choice_of more) rest) one.1 ∙ ap (λ cs. choice_of types taken ∷ cs) behind.1)

  pub key_stays : (key : KeyTree) → IsKeyWithin types key → viewed more key ≡ viewed types key
  key_stays key within = ap (λ ts. record { function = key.number; at = ts }) (types_stay types more key.at within grows)

  pub keys_stay : (keys : List KeyTree) → All (IsKeyWithin types) keys → map (viewed more) keys ≡ map (viewed types) keys
  keys_stay [] within = refl
  keys_stay (key ∷ keys) within =
      ap (λ x. x ∷ map (viewed more) keys) (key_stays key (All-head (IsKeyWithin types) key keys within)) ∙ ap (λ xs. viewed types key ∷ xs) (keys_stay keys (All-tail (IsKeyWithin types) key keys within))

  pub constructors_stay : (keys : List KeyTree) → All (IsKeyWithin types) keys → map (viewed_constructor more) keys ≡ map (viewed_constructor types) keys
  constructors_stay [] within = refl
  constructors_stay (key ∷ keys) within =
      ap (λ ts. record { constructor = key.number; at = ts } ∷ map (viewed_constructor more) keys) (types_stay types more key.at (All-head (IsKeyWithin types) key keys within) grows)
      ∙ ap (λ xs. viewed_constructor types key ∷ xs) (constructors_stay keys (All-tail (IsKeyWithin types) key keys within))

  pub looked_stays : (program : ProgramTree) (typings : List (List Choice)) (known new : List InstanceTree) (used others : List GroundConstructorTree) (instance : InstanceTree) (looked : Looked)
      → IsLooked program typings types known used instance looked → IsLooked program typings more (known ++ new) (used ++ others) instance looked
  looked_stays program typings known new used others instance looked is =
      let taken = taken_stays looked.taken.items is.taken_within in
      record {
        parameters = numbers_grown types more looked.parameters.items _ is.parameters grows;
        result_within = let long = longer types more grows in let within = is.result_within in omega (arith, long, within);
        result_is = type_stays types more looked.result is.result_within grows ∙ is.result_is;
        taken_within = taken.0;
        taken = taken.1 ∙ is.taken;
        called = all_stay known new looked.called.items (called_in typings instance) is.called;
        constructed = all_stay used others looked.constructed.items (constructed_in typings instance) is.constructed;
      }

found_of : {X : Type 0} (view : KeyTree → X) (keys : List KeyTree) (ns : List ℕ) (asked : List KeyTree) → map (slice_get keys) ns ≡ map Some asked
    → map (slice_get (map view keys)) ns ≡ map Some (map view asked)
found_of view keys [] [] found = refl
found_of view keys [] (key ∷ asked) found = cc
found_of view keys (n ∷ ns) [] found = cc
found_of view keys (n ∷ ns) (key ∷ asked) found =
    let here : slice_get keys n ≡ Some key = cc in
    let behind : map (slice_get keys) ns ≡ map Some asked = cc in
    let first : slice_get (map view keys) n ≡ Some (view key) = slice_get-map view keys n ∙ ap (option_map view) here in
    let rest = found_of view keys ns asked behind in
    cc

-- the function of an instance and its typing, in memory
pub function_read : (program : Program) (f : ℕ) (function : Fun) → f < length program.functions.items → function ≡ get_or program.functions.items f function → function_in (program_tree program) f ≡ function_tree function
function_read program f function lt is = get_or-map function_tree program.functions.items f function no_function lt ∙ ap function_tree (sym is)

pub typing_read : (typed : Typed) (f : ℕ) (body : BodyTypes) → f < length typed.bodies.items → body ≡ get_or typed.bodies.items f body → slice_index_or (typings_of typed) f [] ≡ typing_of body
typing_read typed f body lt is = get_or-map typing_of typed.bodies.items f body [] lt ∙ ap typing_of (sym is)

module _ (typed : Typed) (complete : IsComplete typed) where
  pub known_below : (found : Found) (i : ℕ) (d : InstanceTree) → IsSearching typed found → i < length (known_in found) → (get_or (known_in found) i d).function < length (program_tree typed.program).functions
  known_below found i d searching lt = instance_below typed complete (get_or (known_in found) i d) (searching.searched.each i d lt)

  -- the function of the next instance is one of the program's, with its body's types
  pub key_below : (found : Found) (n : ℕ) (key : KeyTree) → IsSearching typed found → slice_get (keys_in found.keys) n ≡ Some key → n < length (known_in found) → key.number < length (program_tree typed.program).functions
  key_below found n key searching found_at lt =
      let is : get_or (known_in found) n (main_instance 0) ≡ viewed (types_in found.types) key =
      get_or_from_slice_get (known_in found) n (viewed (types_in found.types) key) (main_instance 0) (slice_get-map (viewed (types_in found.types)) (keys_in found.keys) n ∙ ap (option_map (viewed (types_in found.types))) found_at) in
      subst (λ (x : InstanceTree). x.function < length (program_tree typed.program).functions) is (known_below found n (main_instance 0) searching lt)

  pub function_within : (found : Found) (n : ℕ) (key : KeyTree) → IsSearching typed found → slice_get (keys_in found.keys) n ≡ Some key → n < length (known_in found) → key.number < length typed.program.functions.items
  function_within found n key searching found_at lt =
      let below = key_below found n key searching found_at lt in
      let seen = length-map typed.program.functions.items function_tree in
      omega (arith, below, seen)

  pub body_within : (found : Found) (n : ℕ) (key : KeyTree) → IsSearching typed found → slice_get (keys_in found.keys) n ≡ Some key → n < length (known_in found) → key.number < length typed.bodies.items
  body_within found n key searching found_at lt =
      let below = function_within found n key searching found_at lt in
      let as_many = complete.as_many in
      omega (arith, below, as_many)

  pub key_types : (found : Found) (n : ℕ) (key : KeyTree) → IsSearching typed found → slice_get (keys_in found.keys) n ≡ Some key → n < length (known_in found) → All (λ k. k < length (types_in found.types)) key.at
  key_types found n key searching found_at lt = subst (λ (k : KeyTree). IsKeyWithin (types_in found.types) k) (get_or_from_slice_get (keys_in found.keys) n key key found_at)
      (searching.within n key (let long = length-map (keys_in found.keys) (viewed (types_in found.types)) in omega (arith, long, lt)))

  -- at the start
  pub searching_starts : (found : Found) → keys_in found.keys ≡ record { number = typed.program.main; at = [] } ∷ []
      → keys_in found.constructors ≡ keys_of (map constructor_tree typed.program.constructors.items) 0 [] → found.looked.items ≡ [] → IsSearching typed found
  searching_starts found keys_are constructors_are none =
      let cs = map constructor_tree typed.program.constructors.items in
      let types = types_in found.types in
      record {
        within = subst (λ ks. All (IsKeyWithin types) ks) (sym keys_are)
            (All-cons (IsKeyWithin types) (record { number = typed.program.main; at = [] }) [] (All-nil (λ n. n < length types)) (All-nil (IsKeyWithin types)));
        searched = subst (λ xs. Searched typed.program.main (typings_of typed) xs (length found.looked.items)) (sym (ap (map (viewed types)) keys_are))
            (subst (λ (ls : List Looked). Searched typed.program.main (typings_of typed) (main_instance typed.program.main ∷ []) (length ls)) (sym none) (search_starts typed.program.main (typings_of typed)));
        looked = λ i d lt. absurd (let long = ap length none in omega (arith, long, lt));
        used_within = subst (λ ks. All (IsKeyWithin types) ks) (sym constructors_are) (first_within typed.program types);
        below = subst (λ ks. All (λ (key : KeyTree). key.number < length typed.program.constructors.items) ks) (sym constructors_are) (first_below typed.program);
        whole = subst (HaveSiblings cs) (sym constructors_are) (whole_first cs 0 []);
        used = subst (λ (ls : List Looked). AreGroundConstructors (program_tree typed.program) (typings_of typed) (take (length ls) (known_in found)) (used_in found)) (sym none)
            (record {
              others = [];
              begins = ap (map (viewed_constructor types)) constructors_are ∙ (keys_viewed typed.program types 0 [] ∙ sym (append-nil (ground_constructors (program_tree typed.program) 0 [])));
              in_order = none_left;
            });
      }

  -- one instance is looked at
  module _ (found after : Found) (key : KeyTree) (function : Fun) (body : BodyTypes) (looked : Looked) (searching : IsSearching typed found) (found_at : slice_get (keys_in found.keys) (length found.looked.items) ≡ Some key)
      (left : length found.looked.items < length (known_in found)) (function_is : function_in (program_tree typed.program) key.number ≡ function_tree function) (typing_is : slice_index_or (typings_of typed) key.number [] ≡ typing_of body)
      (looks : Looks (types_in found.types) (types_in after.types) key.at (keys_in found.keys) (keys_in after.keys) function body looked)
      (uses : Uses (map constructor_tree typed.program.constructors.items) (keys_in found.constructors) (keys_in after.constructors) looked) (pushed : after.looked.items ≡ found.looked.items ++ looked ∷ []) where
    key_in : IsKeyWithin (types_in found.types) key
    key_in = subst (λ (k : KeyTree). IsKeyWithin (types_in found.types) k) (get_or_from_slice_get (keys_in found.keys) (length found.looked.items) key key found_at)
        (searching.within (length found.looked.items) key (let long = length-map (keys_in found.keys) (viewed (types_in found.types)) in omega (arith, long, left)))

    same_known : map (viewed (types_in after.types)) (keys_in found.keys) ≡ known_in found
    same_known = keys_stay (types_in found.types) (types_in after.types) looks.grows (keys_in found.keys) searching.within

    known_after : known_in after ≡ known_in found ++ map (viewed (types_in after.types)) looks.sights.0
    known_after = ap (map (viewed (types_in after.types))) looks.sights.2 ∙ (map-append (viewed (types_in after.types)) (keys_in found.keys) looks.sights.0 ∙ ap (λ xs. xs ++ map (viewed (types_in after.types)) looks.sights.0) same_known)

    called_is_viewed : map (viewed (types_in after.types)) (keys_called looked.taken.items) ≡ called_in (typings_of typed) (viewed (types_in found.types) key)
    called_is_viewed = called_viewed (types_in after.types) (map (type_at (types_in found.types)) key.at) looked.taken.items (slice_index_or (typings_of typed) key.number [])
        (looks.taken ∙ ap (map (put_choice (type_at (map (type_at (types_in found.types)) key.at)))) (sym typing_is))

    keys_called_in : All (IsKeyWithin (types_in after.types)) (keys_called looked.taken.items)
    keys_called_in = called_within (types_in after.types) looked.taken.items looks.taken_within

    sights : FirstSights (known_in found) (called_in (typings_of typed) (viewed (types_in found.types) key)) (map (viewed (types_in after.types)) looks.sights.0)
    sights = subst (λ xs. FirstSights xs (called_in (typings_of typed) (viewed (types_in found.types) key)) (map (viewed (types_in after.types)) looks.sights.0)) same_known
        (subst (λ ys. FirstSights (map (viewed (types_in after.types)) (keys_in found.keys)) ys (map (viewed (types_in after.types)) looks.sights.0)) called_is_viewed
        (sights_viewed (types_in after.types) after.types.once
        (All-weaker (IsKeyWithin (types_in found.types)) (IsKeyWithin (types_in after.types)) (λ k within. within_grown (types_in found.types) (types_in after.types) k.at within looks.grows) (keys_in found.keys) searching.within) keys_called_in looks.sights.1))

    -- the ground constructors
    same_used : map (viewed_constructor (types_in after.types)) (keys_in found.constructors) ≡ used_in found
    same_used = constructors_stay (types_in found.types) (types_in after.types) looks.grows (keys_in found.constructors) searching.used_within

    abbrev new_used : List GroundConstructorTree
    new_used = map (viewed_constructor (types_in after.types)) uses.sights.0

    used_after : used_in after ≡ used_in found ++ new_used
    used_after =
        ap (map (viewed_constructor (types_in after.types))) uses.sights.2
        ∙ (map-append (viewed_constructor (types_in after.types)) (keys_in found.constructors) uses.sights.0 ∙ ap (λ xs. xs ++ new_used) same_used)

    constructed_is_viewed : map (viewed_constructor (types_in after.types)) (keys_constructed looked.taken.items) ≡ constructed_in (typings_of typed) (viewed (types_in found.types) key)
    constructed_is_viewed = constructed_viewed (types_in after.types) (map (type_at (types_in found.types)) key.at) looked.taken.items (slice_index_or (typings_of typed) key.number [])
        (looks.taken ∙ ap (map (put_choice (type_at (map (type_at (types_in found.types)) key.at)))) (sym typing_is))

    keys_used_in : All (IsKeyWithin (types_in after.types)) (flat_map (siblings (map constructor_tree typed.program.constructors.items)) (keys_constructed looked.taken.items))
    keys_used_in = siblings_within typed.program (types_in after.types) (keys_constructed looked.taken.items) (constructed_within (types_in after.types) looked.taken.items looks.taken_within)

    known_used_in : All (IsKeyWithin (types_in after.types)) (keys_in found.constructors)
    known_used_in = All-weaker (IsKeyWithin (types_in found.types)) (IsKeyWithin (types_in after.types)) (λ k within. within_grown (types_in found.types) (types_in after.types) k.at within looks.grows) (keys_in found.constructors) searching.used_within

    used_sights : FirstSights (used_in found) (flat_map (of_same_type (program_tree typed.program)) (constructed_in (typings_of typed) (viewed (types_in found.types) key))) new_used
    used_sights = subst (λ xs. FirstSights xs (flat_map (of_same_type (program_tree typed.program)) (constructed_in (typings_of typed) (viewed (types_in found.types) key))) new_used) same_used
        (subst (λ ys. FirstSights (map (viewed_constructor (types_in after.types)) (keys_in found.constructors)) ys new_used)
        (siblings_viewed typed.program (types_in after.types) (keys_constructed looked.taken.items) ∙ ap (flat_map (of_same_type (program_tree typed.program))) constructed_is_viewed)
        (sights_constructed (types_in after.types) after.types.once known_used_in keys_used_in uses.sights.1))

    read_at : get_or (known_in found) (length found.looked.items) (viewed (types_in found.types) key) ≡ viewed (types_in found.types) key
    read_at = get_or_from_slice_get (known_in found) (length found.looked.items) (viewed (types_in found.types) key) (viewed (types_in found.types) key)
        (slice_get-map (viewed (types_in found.types)) (keys_in found.keys) (length found.looked.items) ∙ ap (option_map (viewed (types_in found.types))) found_at)

    is_looked : IsLooked (program_tree typed.program) (typings_of typed) (types_in after.types) (known_in found ++ map (viewed (types_in after.types)) looks.sights.0) (used_in found ++ new_used) (viewed (types_in found.types) key) looked
    is_looked = record {
      parameters = subst (λ (f : FunctionTree). AreNumbers (types_in after.types) looked.parameters.items (map (put (type_at (map (type_at (types_in found.types)) key.at))) f.parameters)) (sym function_is) looks.parameters;
      result_within = looks.result_within;
      result_is = looks.result_is ∙ ap (λ (f : FunctionTree). put (type_at (map (type_at (types_in found.types)) key.at)) f.result) (sym function_is);
      taken_within = looks.taken_within;
      taken = looks.taken ∙ ap (map (put_choice (type_at (map (type_at (types_in found.types)) key.at)))) (sym typing_is);
      called =
          ap (λ xs. map (slice_get xs) looked.called.items) (sym known_after)
          ∙ (found_of (viewed (types_in after.types)) (keys_in after.keys) looked.called.items (keys_called looked.taken.items) looks.called
          ∙ ap (map Some) called_is_viewed);
      constructed =
          ap (λ xs. map (slice_get xs) looked.constructed.items) (sym used_after)
          ∙ (found_of (viewed_constructor (types_in after.types)) (keys_in after.constructors) looked.constructed.items (keys_constructed looked.taken.items) uses.constructed
          ∙ ap (map Some) constructed_is_viewed);
    }

    all_looked : AreLooked (program_tree typed.program) (typings_of typed) (types_in after.types) (known_in found ++ map (viewed (types_in after.types)) looks.sights.0) (used_in found ++ new_used) (found.looked.items ++ looked ∷ [])
    all_looked i d lt = elim (cases_lt i (length found.looked.items)) [
      | inl earlier ↦
          subst (λ l. IsLooked (program_tree typed.program) (typings_of typed) (types_in after.types) (known_in found ++ map (viewed (types_in after.types)) looks.sights.0) (used_in found ++ new_used) (get_or (known_in found ++ map (viewed (types_in after.types)) looks.sights.0) i (main_instance 0)) l) (sym (get_or_append_left found.looked.items (looked ∷ []) d i earlier))
          (subst (λ x. IsLooked (program_tree typed.program) (typings_of typed) (types_in after.types) (known_in found ++ map (viewed (types_in after.types)) looks.sights.0) (used_in found ++ new_used) x (get_or found.looked.items i d)) (sym (get_or_append_left (known_in found) (map (viewed (types_in after.types)) looks.sights.0) (main_instance 0) i (omega (arith, earlier, left))))
          (looked_stays (types_in found.types) (types_in after.types) looks.grows (program_tree typed.program) (typings_of typed) (known_in found) (map (viewed (types_in after.types)) looks.sights.0) (used_in found) new_used (get_or (known_in found) i (main_instance 0)) (get_or found.looked.items i d) (searching.looked i d earlier)))
      | inr past ↦
          let long = length_push found.looked.items looked in
          let last : i ≡ length found.looked.items = omega (arith, long, lt, past) in
          let here : get_or (known_in found ++ map (viewed (types_in after.types)) looks.sights.0) i (main_instance 0) ≡ viewed (types_in found.types) key =
          get_or_append_left (known_in found) (map (viewed (types_in after.types)) looks.sights.0) (main_instance 0) i (omega (arith, last, left))
          ∙ (ap (λ k. get_or (known_in found) k (main_instance 0)) last
          ∙ (get_or_default (known_in found) (length found.looked.items) (main_instance 0) (viewed (types_in found.types) key) left ∙ read_at)) in
          subst (λ l. IsLooked (program_tree typed.program) (typings_of typed) (types_in after.types) (known_in found ++ map (viewed (types_in after.types)) looks.sights.0) (used_in found ++ new_used) (get_or (known_in found ++ map (viewed (types_in after.types)) looks.sights.0) i (main_instance 0)) l) (sym (get_or_push found.looked.items looked d i (sym last)))
          (subst (λ x. IsLooked (program_tree typed.program) (typings_of typed) (types_in after.types) (known_in found ++ map (viewed (types_in after.types)) looks.sights.0) (used_in found ++ new_used) x looked) (sym here) is_looked)
    ]

    pub looked_more : IsSearching typed after
    looked_more = record {
      within = subst (λ ks. All (IsKeyWithin (types_in after.types)) ks) (sym looks.sights.2)
          (All-append (IsKeyWithin (types_in after.types)) (keys_in found.keys) looks.sights.0
          (All-weaker (IsKeyWithin (types_in found.types)) (IsKeyWithin (types_in after.types)) (λ k within. within_grown (types_in found.types) (types_in after.types) k.at within looks.grows) (keys_in found.keys) searching.within)
          (new_within (types_in after.types) keys_called_in looks.sights.1));
      searched = subst (λ xs. Searched typed.program.main (typings_of typed) xs (length after.looked.items)) (sym known_after)
          (subst (λ n. Searched typed.program.main (typings_of typed) (known_in found ++ map (viewed (types_in after.types)) looks.sights.0) n) (sym (ap length pushed ∙ length_push found.looked.items looked))
          (search_steps typed.program.main (typings_of typed) (known_in found) (map (viewed (types_in after.types)) looks.sights.0) (length found.looked.items) (viewed (types_in found.types) key) searching.searched left read_at sights));
      looked = subst (λ ys. AreLooked (program_tree typed.program) (typings_of typed) (types_in after.types) (known_in after) ys after.looked.items) (sym used_after)
          (subst (λ xs. AreLooked (program_tree typed.program) (typings_of typed) (types_in after.types) xs (used_in found ++ new_used) after.looked.items) (sym known_after)
          (subst (λ ls. AreLooked (program_tree typed.program) (typings_of typed) (types_in after.types) (known_in found ++ map (viewed (types_in after.types)) looks.sights.0) (used_in found ++ new_used) ls) (sym pushed) all_looked));
      used_within = subst (λ ks. All (IsKeyWithin (types_in after.types)) ks) (sym uses.sights.2)
          (All-append (IsKeyWithin (types_in after.types)) (keys_in found.constructors) uses.sights.0 known_used_in (new_within (types_in after.types) keys_used_in uses.sights.1));
      below = below_after typed.program (keys_in found.constructors) (keys_in after.constructors) (keys_constructed looked.taken.items) searching.below uses.sights;
      whole = whole_so_far (map constructor_tree typed.program.constructors.items) (keys_in found.constructors) (keys_in after.constructors) (keys_constructed looked.taken.items) searching.whole uses.sights;
      used = subst (AreGroundConstructors (program_tree typed.program) (typings_of typed) (take (length after.looked.items) (known_in after))) (sym used_after)
          (subst (λ xs. AreGroundConstructors (program_tree typed.program) (typings_of typed) (take (length after.looked.items) xs) (used_in found ++ new_used)) (sym known_after)
          (subst (λ n. AreGroundConstructors (program_tree typed.program) (typings_of typed) (take n (known_in found ++ map (viewed (types_in after.types)) looks.sights.0)) (used_in found ++ new_used)) (sym (ap length pushed ∙ length_push found.looked.items looked))
          (used_steps (program_tree typed.program) (typings_of typed) (known_in found) (map (viewed (types_in after.types)) looks.sights.0) (length found.looked.items) (viewed (types_in found.types) key) (used_in found) new_used searching.used left read_at used_sights)));
    }

-- what is seen, from its parts
pub looks_from : (first second : Types) (third fourth : List TypeTree) (at : List ℕ) (keys_before keys_after : List KeyTree) (function : Fun) (body : BodyTypes)
    (numbers numbers_slice : List ℕ) (nodes : List TypeNode) (choices : List Taken) (made_slice : List Taken) (written : List Ty) (made : Vec Taken Global) (called constructed : Vec ℕ Global) (parameters : Vec ℕ Global) (result : ℕ) → All (λ n. n < length (types_in first)) at
    → Grows (types_in first) (types_in second) → AreNumbers (types_in second) numbers (map (put (type_at (map (type_at (types_in first)) at))) (node_types nodes)) → nodes ≡ body.nodes.items → numbers_slice ≡ numbers → choices ≡ body.taken.items → AllZip (Renumbers numbers_slice) choices made.items
    → made_slice ≡ made.items → Sees keys_before keys_after (keys_called made_slice) → map (slice_get keys_after) called.items ≡ map Some (keys_called made_slice)
    → written ≡ function.parameters.items → Grows (types_in second) third → AreNumbers third parameters.items (map (put (type_at (map (type_at (types_in second)) at))) (map type_tree written)) → Grows third fourth → result < length fourth → type_at fourth result ≡ put (type_at (map (type_at third) at)) (type_tree function.result)
    → Looks (types_in first) fourth at keys_before keys_after function body (record { parameters = parameters; result = result; taken = made; called = called; constructed = constructed })
looks_from first second third fourth at keys_before keys_after function body numbers numbers_slice nodes choices made_slice written made called constructed parameters result at_in
    grows_nodes numbers_are nodes_is slice_is choices_is renumbers made_is sights found written_is grows_parameters parameters_are grows_result result_in result_is =
    let s : ℕ → TypeTree = type_at (map (type_at (types_in first)) at) in
    let second_same : map (type_at (types_in second)) at ≡ map (type_at (types_in first)) at = types_stay (types_in first) (types_in second) at at_in grows_nodes in
    let at_second = within_grown (types_in first) (types_in second) at at_in grows_nodes in
    let third_same : map (type_at third) at ≡ map (type_at (types_in first)) at = types_stay (types_in second) third at at_second grows_parameters ∙ second_same in
    let to_fourth : Grows (types_in second) fourth = grows_on (types_in second) third fourth grows_parameters grows_result in
    let put_in = taken_put (types_in second) (node_types nodes) numbers s (unit_of second) (some_of second) numbers_are choices made.items (subst (λ ns. AllZip (Renumbers ns) choices made.items) slice_is renumbers) in
    let stays = taken_stays (types_in second) fourth to_fourth made.items put_in.0 in
    record {
      grows = grows_on (types_in first) (types_in second) fourth grows_nodes to_fourth;
      parameters = numbers_grown third fourth parameters.items _
          (subst (λ ts. AreNumbers third parameters.items (map (put (type_at ts)) (map type_tree function.parameters.items))) second_same (subst (λ ws. AreNumbers third parameters.items (map (put (type_at (map (type_at (types_in second)) at))) (map type_tree ws))) written_is parameters_are)) grows_result;
      result_within = result_in;
      result_is = result_is ∙ ap (λ ts. put (type_at ts) (type_tree function.result)) third_same;
      taken_within = stays.0;
      taken = stays.1 ∙ (put_in.1 ∙ (ap (λ ns. map (put_choice s) (map (choice_of (node_types ns)) choices)) nodes_is ∙ ap (λ cs. map (put_choice s) (map (choice_of (node_types body.nodes.items)) cs)) choices_is));
      sights = subst (λ ms. Sees keys_before keys_after (keys_called ms)) made_is sights;
      called = found ∙ ap (λ ms. map Some (keys_called ms)) made_is;
    }

-- the constructors of what is taken at an instance are those of its function's typing
pub constructed_below : (count : ℕ) (types : List TypeTree) (numbers : List ℕ) (taken made : List Taken) → AllZip (Renumbers numbers) taken made
    → AreConstructionsBelow count (map (choice_of types) taken) → All (λ (key : KeyTree). key.number < count) (keys_constructed made)
constructed_below count types numbers [] [] zip below = All-nil (λ (key : KeyTree). key.number < count)
constructed_below count types numbers [] (made ∷ mades) zip below = absurd zip
constructed_below count types numbers (taken ∷ more) [] zip below = absurd zip
constructed_below count types numbers (taken ∷ more) (made ∷ mades) (here, behind) below = by taken made here below (constructed_below count types numbers more mades behind)
  where
    by : (taken made : Taken) → Renumbers numbers taken made → AreConstructionsBelow count (map (choice_of types) (taken ∷ more))
        → (AreConstructionsBelow count (map (choice_of types) more) → All (λ (key : KeyTree). key.number < count) (keys_constructed mades))
        → All (λ (key : KeyTree). key.number < count) (keys_constructed (made ∷ mades))
    by (Construct c at) (Construct d made_at) is below rest =
        All-cons (λ (key : KeyTree). key.number < count) (record { number = d; at = made_at.items }) (keys_constructed mades) (subst (λ n. n < count) (sym is.0) below.0) (rest below.1)
    by (Construct c at) (Call f made_at) wrong below rest = absurd wrong
    by (Construct c at) (Value n) wrong below rest = absurd wrong
    by (Call f at) (Construct d made_at) wrong below rest = absurd wrong
    by (Call f at) (Call g made_at) is below rest = rest below
    by (Call f at) (Value n) wrong below rest = absurd wrong
    by (Value n) (Construct d made_at) wrong below rest = absurd wrong
    by (Value n) (Call g made_at) wrong below rest = absurd wrong
    by (Value n) (Value m) is below rest = rest below

-- the ground constructors of an instance, from their parts
pub uses_from : (constructors slice : List Constructor) (known_before known_after : List KeyTree) (looked : Looked) (made_slice : List Taken) → slice ≡ constructors → made_slice ≡ looked.taken.items
    → Sees known_before known_after (flat_map (siblings (map constructor_tree slice)) (keys_constructed made_slice)) → map (slice_get known_after) looked.constructed.items ≡ map Some (keys_constructed made_slice)
    → Uses (map constructor_tree constructors) known_before known_after looked
uses_from constructors slice known_before known_after looked made_slice slice_is made_is sees found = record {
  sights = subst (λ ms. Sees known_before known_after (flat_map (siblings (map constructor_tree constructors)) (keys_constructed ms))) made_is
      (subst (λ cs. Sees known_before known_after (flat_map (siblings (map constructor_tree cs)) (keys_constructed made_slice))) slice_is sees);
  constructed = found ∙ ap (λ ms. map Some (keys_constructed ms)) made_is;
}
