-- The search stays where its table of types grows, and the ground constructors that are made then are those that are known.
use Rattle.std.proofs.Common.{◌≡◌, ℕ, ◌<◌, ◌≤◌, List, [], ◌∷◌, ◌++◌, length, map, get_or, take, All, Some, refl, sym, ap, ◌∙◌, subst, inl, inr}
use Rattle.std.specs.List.{AllZip}
use Rattle.std.proofs.lemmas.List.{append-nil, take-map}
use Rattle.std.proofs.lemmas.List.Elements.{All-cons, All-nil, All-weaker}
use Rattle.kk_base.specs.Limits.{greatest_of}
use Rattle.kk_base.specs.declared.limit.LimitKind.TheVariants.{Instances}
use Rattle.kk_syntax.specs.declared.ground.GroundConstructor.{GroundConstructor}
use Rattle.kk_syntax.specs.declared.program.Program.{Program}
use Rattle.kk_syntax.specs.declared.typed.Typed.{Typed}
use Rattle.kk_syntax.specs.GroundPrograms.{number_of_type, arguments_of_type, ground_constructor_tree}
use Rattle.kk_syntax.specs.Programs.{constructor_tree, program_tree}
use Rattle.kk_syntax.specs.TypedPrograms.{typings_of}
use Rattle.kk_syntax.specs.Types.{TypeTree, type_list, types_of, type_at}
use Rattle.kk_mono.specs.declared.search.Found.{Found}
use Rattle.kk_mono.specs.declared.search.Looked.{Looked}
use Rattle.kk_mono.specs.declared.types.Types.{Types}
use Rattle.kk_mono.specs.BuiltInstances.{IsMadeOf}
use Rattle.kk_mono.specs.Grounds.{ground_view, HasTypes}
use Rattle.kk_mono.specs.Instances.{main_instance, makers, ground_constructor, AreGroundConstructors}
use Rattle.kk_mono.specs.KeyTrees.{KeyTree, keys_in, viewed_constructor}
use Rattle.kk_mono.specs.InstanceSearch.{Searched, IsLooked, AreLooked, known_in, used_in, HasSearched}
use Rattle.kk_syntax.specs.Constructors.{members}
use Rattle.kk_mono.specs.Siblings.{type_of}
use Rattle.kk_mono.specs.Tables.{Grows}
use Rattle.kk_mono.specs.Views.{types_in}
use Rattle.kk_mono.proofs.SearchKeys.{IsKeyWithin}
use Rattle.kk_mono.proofs.InstanceUses.{keys_stay, constructors_stay, looked_stays}
use Rattle.kk_mono.proofs.Members.{makers_are}
use Rattle.kk_mono.proofs.TypeNumbers.{within_grown}

-- what has been found, with more types
abbrev pub grown : Found → Types → Found
grown found table = record { types = table; keys = found.keys; constructors = found.constructors; looked = found.looked }

module _ (typed : Typed) (found : Found) (table : Types) (grows : Grows (types_in found.types) (types_in table))
    (searched : HasSearched typed found) where
  same_known : known_in (grown found table) ≡ known_in found
  same_known = keys_stay (types_in found.types) (types_in table) grows (keys_in found.keys) searched.searching.within

  same_used : used_in (grown found table) ≡ used_in found
  same_used = constructors_stay (types_in found.types) (types_in table) grows
      (keys_in found.constructors) searched.searching.used_within

  wider : (keys : List KeyTree) → All (IsKeyWithin (types_in found.types)) keys → All (IsKeyWithin (types_in table)) keys
  wider keys within = All-weaker (IsKeyWithin (types_in found.types)) (IsKeyWithin (types_in table))
      (λ k inside. within_grown (types_in found.types) (types_in table) k.at inside grows) keys within

  still_looked : (i : ℕ) (d : Looked) → i < length found.looked.items
      → IsLooked (program_tree typed.program) (typings_of typed) (types_in table) (known_in found) (used_in found)
      (get_or (known_in found) i (main_instance 0)) (get_or found.looked.items i d)
  still_looked i d lt =
      let looked = looked_stays (types_in found.types) (types_in table) grows (program_tree typed.program) (typings_of typed)
      (known_in found) [] (used_in found) []
      (get_or (known_in found) i (main_instance 0)) (get_or found.looked.items i d) (searched.searching.looked i d lt) in
      subst (λ us. IsLooked (program_tree typed.program) (typings_of typed) (types_in table) (known_in found) us
      (get_or (known_in found) i (main_instance 0)) (get_or found.looked.items i d)) (append-nil (used_in found))
      (subst (λ ks. IsLooked (program_tree typed.program) (typings_of typed) (types_in table) ks (used_in found ++ [])
      (get_or (known_in found) i (main_instance 0)) (get_or found.looked.items i d)) (append-nil (known_in found)) looked)

  pub grown_searched : HasSearched typed (grown found table)
  grown_searched = record {
    searching = record {
      within = wider (keys_in found.keys) searched.searching.within;
      searched = subst (λ xs. Searched typed.program.main (typings_of typed) xs (length found.looked.items))
          (sym same_known) searched.searching.searched;
      looked = subst (λ xs. AreLooked (program_tree typed.program) (typings_of typed) (types_in table) xs
          (used_in (grown found table)) found.looked.items) (sym same_known)
          (subst (λ us. AreLooked (program_tree typed.program) (typings_of typed) (types_in table)
          (known_in found) us found.looked.items) (sym same_used) still_looked);
      used_within = wider (keys_in found.constructors) searched.searching.used_within;
      below = searched.searching.below;
      whole = searched.searching.whole;
      used = subst (λ xs. AreGroundConstructors (program_tree typed.program) (typings_of typed)
          (take (length found.looked.items) xs) (used_in (grown found table))) (sym same_known)
          (subst (AreGroundConstructors (program_tree typed.program) (typings_of typed)
          (take (length found.looked.items) (known_in found))) (sym same_used) searched.searching.used);
    };
    ends = elim searched.ends [
      | inl all ↦ inl (subst (λ xs. length xs ≤ length found.looked.items) (sym same_known) all)
      | inr many ↦ inr (subst (λ xs. greatest_of Instances < length xs) (sym same_known) many)
    ];
  }

-- ---- the ground constructors

listed_types : (ts : List TypeTree) → type_list (types_of ts) ≡ ts
listed_types [] = refl
listed_types (t ∷ ts) = ap (λ us. t ∷ us) (listed_types ts)

module _ (program : Program) (types : List TypeTree) where
  one_view : (key : KeyTree) (made : GroundConstructor)
      → IsMadeOf (map constructor_tree program.constructors.items) types key made
      → ground_view types made ≡ viewed_constructor types key
  one_view key made is =
      let at : type_list (arguments_of_type (type_at types made.of_type)) ≡ map (type_at types) key.at =
      ap (λ t. type_list (arguments_of_type t)) is.of_type_is ∙ listed_types (map (type_at types) key.at) in
      λ i. record { constructor = is.constructor_is i; at = at i }

  one_constructor : (key : KeyTree) (made : GroundConstructor)
      → IsMadeOf (map constructor_tree program.constructors.items) types key made
      → ground_constructor_tree types made ≡ ground_constructor (program_tree program) (viewed_constructor types key)
  one_constructor key made is =
      let cs = map constructor_tree program.constructors.items in
      let by = type_of cs key.number in
      let arguments = types_of (map (type_at types) key.at) in
      let before = take-map constructor_tree key.number program.constructors.items in
      let tag : made.tag ≡ length (makers (take key.number cs) by arguments) =
      is.tag_is
      ∙ (ap (λ xs. length (members xs by)) before
      ∙ (ap length (sym (makers_are by arguments 0 (take key.number program.constructors.items)))
      ∙ ap (λ xs. length (makers xs by arguments)) (sym before))) in
      let owner = ap number_of_type is.of_type_is in
      let own = ap (λ t. Some (arguments_of_type t)) is.of_type_is in
      λ i. record { name = []; at = 0; of_type = owner i; arguments = own i; tag = tag i; fields = is.fields.types_are i }

  one_has : (key : KeyTree) (made : GroundConstructor)
      → IsMadeOf (map constructor_tree program.constructors.items) types key made → HasTypes types made
  one_has key made is = record {
    of_type = is.of_type_within;
    by = type_of (map constructor_tree program.constructors.items) key.number;
    arguments = types_of (map (type_at types) key.at);
    is = is.of_type_is;
    fields = is.fields.within;
  }

  pub views_made : (keys : List KeyTree) (made : List GroundConstructor)
      → AllZip (IsMadeOf (map constructor_tree program.constructors.items) types) keys made
      → map (ground_view types) made ≡ map (viewed_constructor types) keys
  views_made [] [] zip = refl
  views_made [] (m ∷ made) zip = absurd zip
  views_made (key ∷ keys) [] zip = absurd zip
  views_made (key ∷ keys) (m ∷ made) zip =
      ap (λ x. x ∷ map (ground_view types) made) (one_view key m zip.0)
      ∙ ap (λ xs. viewed_constructor types key ∷ xs) (views_made keys made zip.1)

  pub constructors_made : (keys : List KeyTree) (made : List GroundConstructor)
      → AllZip (IsMadeOf (map constructor_tree program.constructors.items) types) keys made
      → map (ground_constructor_tree types) made
      ≡ map (ground_constructor (program_tree program)) (map (viewed_constructor types) keys)
  constructors_made [] [] zip = refl
  constructors_made [] (m ∷ made) zip = absurd zip
  constructors_made (key ∷ keys) [] zip = absurd zip
  constructors_made (key ∷ keys) (m ∷ made) zip =
      ap (λ x. x ∷ map (ground_constructor_tree types) made) (one_constructor key m zip.0)
      ∙ ap (λ xs. ground_constructor (program_tree program) (viewed_constructor types key) ∷ xs) (constructors_made keys made zip.1)

  pub made_have : (keys : List KeyTree) (made : List GroundConstructor)
      → AllZip (IsMadeOf (map constructor_tree program.constructors.items) types) keys made → All (HasTypes types) made
  made_have [] [] zip = All-nil (HasTypes types)
  made_have [] (m ∷ made) zip = absurd zip
  made_have (key ∷ keys) [] zip = absurd zip
  made_have (key ∷ keys) (m ∷ made) zip = All-cons (HasTypes types) m made (one_has key m zip.0) (made_have keys made zip.1)
