-- The ground constructors that are known: what they are by the numbers of their types, and that they stay those of the instances
-- that have been looked at, while the search goes on.
use Rattle.std.proofs.Common.{◌≡◌, ℕ, ◌+◌, ◌<◌, List, [], ◌∷◌, ◌++◌, length, map, get_or, take, All, refl, sym, ap, ◌∙◌, subst, inl, inr, arith, append_assoc}
use Rattle.std.specs.Prelude.{flat_map}
use Rattle.std.proofs.lemmas.List.{length-map, map-append, take_more, take-append-le, flat_map_more}
use Rattle.std.proofs.lemmas.List.Elements.{All-nil, Contains-get_or}
use Rattle.kk_syntax.specs.declared.program.Program.{Program}
use Rattle.kk_syntax.specs.Programs.{ProgramTree, constructor_tree, program_tree}
use Rattle.kk_syntax.specs.Types.{TypeTree, types_of, type_at}
use Rattle.kk_syntax.specs.Typing.{Choice}
use Rattle.kk_mono.specs.Instances.{InstanceTree, GroundConstructorTree, constructed_in, ground_constructors, of_same_type, FirstSights, AreGroundConstructors}
use Rattle.kk_mono.specs.KeyTrees.{KeyTree, Sees, viewed_constructor}
use Rattle.kk_syntax.specs.Constructors.{members}
use Rattle.kk_mono.specs.Siblings.{type_of, keys_of, siblings}
use Rattle.kk_mono.proofs.SearchKeys.{IsKeyWithin}
use Rattle.kk_mono.proofs.Members.{key_of_type, makers_are}
use Rattle.kk_mono.proofs.NewKeys.{in_siblings, sees_from}
use Rattle.kk_mono.proofs.FirstSights.{sights_append}

flat_parts : {X Y : Type 0} (f : X → List Y) (xs ys : List X) → flat_map f (xs ++ ys) ≡ flat_map f xs ++ flat_map f ys
flat_parts f [] ys = refl
flat_parts f (x ∷ xs) ys = ap (λ zs. f x ++ zs) (flat_parts f xs ys) ∙ sym (append_assoc (f x) (flat_map f xs) (flat_map f ys))

module _ (program : Program) (types : List TypeTree) where
  -- the ground constructors of a type
  pub keys_viewed : (by : ℕ) (at : List ℕ)
      → map (viewed_constructor types) (keys_of (map constructor_tree program.constructors.items) by at)
      ≡ ground_constructors (program_tree program) by (map (type_at types) at)
  keys_viewed by at =
      each (members (map constructor_tree program.constructors.items) by)
      ∙ ap (map (λ c. record { constructor = c; at = map (type_at types) at }))
      (sym (makers_are by (types_of (map (type_at types) at)) 0 program.constructors.items))
    where
      each : (ns : List ℕ) → map (viewed_constructor types) (map (λ n. record { number = n; at = at }) ns)
          ≡ map (λ c. record { constructor = c; at = map (type_at types) at }) ns
      each [] = refl
      each (n ∷ ns) = ap (λ xs. record { constructor = n; at = map (type_at types) at } ∷ xs) (each ns)

  pub siblings_viewed : (keys : List KeyTree)
      → map (viewed_constructor types) (flat_map (siblings (map constructor_tree program.constructors.items)) keys)
      ≡ flat_map (of_same_type (program_tree program)) (map (viewed_constructor types) keys)
  siblings_viewed [] = refl
  siblings_viewed (key ∷ keys) =
      let cs = map constructor_tree program.constructors.items in
      map-append (viewed_constructor types) (siblings cs key) (flat_map (siblings cs) keys)
      ∙ (ap (λ xs. xs ++ map (viewed_constructor types) (flat_map (siblings cs) keys)) (keys_viewed (type_of cs key.number) key.at)
      ∙ ap (λ xs. of_same_type (program_tree program) (viewed_constructor types key) ++ xs) (siblings_viewed keys))

  -- the numbers of siblings are those of types
  pub siblings_within : (keys : List KeyTree) → All (IsKeyWithin types) keys
      → All (IsKeyWithin types) (flat_map (siblings (map constructor_tree program.constructors.items)) keys)
  siblings_within keys within k d lt =
      let cs = map constructor_tree program.constructors.items in
      let all = flat_map (siblings cs) keys in
      let of = in_siblings cs keys (get_or all k d) (Contains-get_or all k d lt) in
      let at = of.1 in
      let is = key_of_type cs (type_of cs (of.0).number) (of.0).at (get_or all k d) of.2 in
      let source : IsKeyWithin types of.0 = subst (IsKeyWithin types) at.2 (within at.0 of.0 at.1) in
      subst (λ ns. All (λ n. n < length types) ns) (sym is.2) source

  -- those of `bool`
  pub first_within : All (IsKeyWithin types) (keys_of (map constructor_tree program.constructors.items) 0 [])
  first_within k d lt =
      let cs = map constructor_tree program.constructors.items in
      let is = key_of_type cs 0 [] (get_or (keys_of cs 0 []) k d) (Contains-get_or (keys_of cs 0 []) k d lt) in
      subst (λ ns. All (λ n. n < length types) ns) (sym is.2) (All-nil (λ n. n < length types))

-- each known one is a constructor of the program
pub first_below : (program : Program)
    → All (λ (key : KeyTree). key.number < length program.constructors.items)
    (keys_of (map constructor_tree program.constructors.items) 0 [])
first_below program k d lt =
    let cs = map constructor_tree program.constructors.items in
    let is = key_of_type cs 0 [] (get_or (keys_of cs 0 []) k d) (Contains-get_or (keys_of cs 0 []) k d lt) in
    let long = length-map program.constructors.items constructor_tree in
    let below = is.0 in
    omega (arith, below, long)

pub below_after : (program : Program) (before after keys : List KeyTree)
    → All (λ (key : KeyTree). key.number < length program.constructors.items) before
    → Sees before after (flat_map (siblings (map constructor_tree program.constructors.items)) keys)
    → All (λ (key : KeyTree). key.number < length program.constructors.items) after
below_after program before after keys below sees k d lt =
    let cs = map constructor_tree program.constructors.items in
    let long = length-map program.constructors.items constructor_tree in
    elim (sees_from before after (flat_map (siblings cs) keys) sees (get_or after k d) (Contains-get_or after k d lt)) [
      | inl earlier ↦ subst (λ (key : KeyTree). key.number < length program.constructors.items) earlier.2
          (below earlier.0 (get_or after k d) earlier.1)
      | inr later ↦
          let of = in_siblings cs keys (get_or after k d) later in
          let is = key_of_type cs (type_of cs (of.0).number) (of.0).at (get_or after k d) of.2 in
          let in_range = is.0 in
          omega (arith, in_range, long)
    ]

-- one instance more has been looked at
pub taken_next : (known new : List InstanceTree) (looked : ℕ) (next : InstanceTree) → looked < length known
    → get_or known looked next ≡ next
    → take (looked + 1) (known ++ new) ≡ take looked known ++ next ∷ []
taken_next known new looked next lt is =
    take-append-le (looked + 1) known new (omega (arith, lt))
    ∙ (take_more known looked next lt ∙ ap (λ x. take looked known ++ x ∷ []) is)

pub used_steps : (program : ProgramTree) (typings : List (List Choice)) (known new : List InstanceTree) (looked : ℕ)
    (next : InstanceTree) (used more : List GroundConstructorTree)
    → AreGroundConstructors program typings (take looked known) used → looked < length known → get_or known looked next ≡ next
    → FirstSights used (flat_map (of_same_type program) (constructed_in typings next)) more
    → AreGroundConstructors program typings (take (looked + 1) (known ++ new)) (used ++ more)
used_steps program typings known new looked next used more so_far lt is sights = record {
  others = so_far.others ++ more;
  begins = ap (λ xs. xs ++ more) so_far.begins ∙ append_assoc (ground_constructors program 0 []) so_far.others more;
  in_order = subst (λ ys. FirstSights (ground_constructors program 0 []) ys (so_far.others ++ more)) (sym asked)
      (sights_append so_far.in_order (subst (λ xs. FirstSights xs
      (flat_map (of_same_type program) (constructed_in typings next)) more) so_far.begins sights));
}
  where
    front : List GroundConstructorTree
    front = flat_map (constructed_in typings) (take looked known)

    asked : flat_map (of_same_type program) (flat_map (constructed_in typings) (take (looked + 1) (known ++ new)))
        ≡ flat_map (of_same_type program) front ++ flat_map (of_same_type program) (constructed_in typings next)
    asked =
        ap (λ xs. flat_map (of_same_type program) (flat_map (constructed_in typings) xs)) (taken_next known new looked next lt is)
        ∙ (ap (flat_map (of_same_type program)) (sym (flat_map_more (constructed_in typings) [] (take looked known) next))
        ∙ flat_parts (of_same_type program) front (constructed_in typings next))
