-- The instances and the ground constructors that are known, by the numbers of their types: first sights of numbers are first
-- sights of what they stand for.
use Rattle.std.proofs.Common.{◌≡◌, ◌≢◌, ℕ, zero, suc, ◌+◌, ◌<◌, Bool, true, false, nat_eq, ◌||◌, option_map, List, [], ◌∷◌, ◌++◌, length, map, get_or, take, All, AllPairs, Contains, Vec, Global, Some, refl, sym, ap, ◌∙◌, subst, inl, inr, arith, append_assoc}
use Rattle.std.specs.Prelude.{slice_get, flat_map, if◌then◌else◌, IsTrue, ◌↔◌}
use Rattle.std.specs.List.{list_any}
use Rattle.std.proofs.lemmas.Bool.{eqb-true, eq-eqb, cases_Bool, both_ways}
use Rattle.std.proofs.lemmas.List.{append-nil, length-append, length-map, get_or-map, map_push, take_more, get_or_append_left}
use Rattle.std.proofs.lemmas.List.Elements.{All-nil, All-cons, All-head, All-tail, All-contains, All-push, Contains-get_or, Contains-append_left, Contains-append_right, Contains-append_cases}
use Rattle.std.proofs.lemmas.Option.{slice_get-get_or, slice_get_within, slice_get-map}
use Rattle.kk_syntax.specs.declared.typed.Taken.{Taken}
use Rattle.kk_syntax.specs.declared.typed.Taken.TheVariants.{Construct, Call, Value}
use Rattle.kk_syntax.specs.Programs.{ConstructorTree}
use Rattle.kk_syntax.specs.TypedPrograms.{choice_of}
use Rattle.kk_syntax.specs.Types.{TypeTree, put, type_at}
use Rattle.kk_syntax.specs.Typing.{Choice, constructing, calling, holding, put_choice}
use Rattle.kk_mono.specs.declared.keys.Key.{Key}
use Rattle.kk_mono.specs.contracts.keys.KeyPartialEq.TheImpl.{eq-value}
use Rattle.kk_mono.specs.Instances.{InstanceTree, GroundConstructorTree, called_at, constructed_at, FirstSights, none_left, again, new_one}
use Rattle.kk_mono.specs.KeyTrees.{KeyTree, Sees, key_tree, viewed, viewed_constructor, keys_called, keys_constructed, AreTakenWithin}
use Rattle.kk_mono.specs.Siblings.{siblings, HaveSiblings}
use Rattle.kk_mono.proofs.Members.{in_map}
use Rattle.kk_mono.proofs.NewKeys.{sees_none, sees_more, sees_all, sees_kept, sees_from, same_siblings, in_siblings}
use Rattle.kk_mono.proofs.FirstSights.{only_one, sights_each}
use Rattle.kk_mono.proofs.Tables.{numbers_only, and_both, and_true, or_none}
use lib.Pointwise.{bytes_decides}

-- keys that are equal in memory, and others
alike_keys : (one other : Key) → eq-value.it one other ≡ true → key_tree one ≡ key_tree other
alike_keys one other alike =
    let both = and_both (nat_eq one.number other.number) _ alike in
    let heads : one.number ≡ other.number = eqb-true one.number other.number both.0 in
    let numbers : one.arguments.items ≡ other.arguments.items = (bytes_decides one.arguments.items other.arguments.items).0 both.1 in
    λ i. record { number = heads i; at = numbers i }

same_keys : (one other : Key) → key_tree one ≡ key_tree other → eq-value.it one other ≡ true
same_keys one other same = and_true (nat_eq one.number other.number) _ (eq-eqb one.number other.number (ap (λ (k : KeyTree). k.number) same)) ((bytes_decides one.arguments.items other.arguments.items).1 (ap (λ (k : KeyTree). k.at) same))

any_seen : (keys : List Key) (key : Key) → list_any (eq-value.it key) keys ≡ true → Contains (map key_tree keys) (key_tree key)
any_seen [] key any = absurd (both_ways false refl any)
any_seen (first ∷ keys) key any = elim (cases_Bool (eq-value.it key first)) [
  | inl here ↦ (0, omega arith, sym (alike_keys key first here))
  | inr other ↦ Contains-append_right (key_tree first ∷ []) (map key_tree keys) (key_tree key) (any_seen keys key (rest (eq-value.it key first) other any))
]
  where
    rest : (b : Bool) → b ≡ false → (b || list_any (eq-value.it key) keys) ≡ true → list_any (eq-value.it key) keys ≡ true
    rest true e any = absurd (both_ways true e refl)
    rest false e any = any

none_seen : (keys : List Key) (key : Key) → list_any (eq-value.it key) keys ≡ false → Contains (map key_tree keys) (key_tree key) → ⊥
none_seen [] key none there = let lt = there.1 in absurd (omega (arith, lt))
none_seen (first ∷ keys) key none (zero, lt, is) = both_ways (eq-value.it key first) (or_none (eq-value.it key first) (list_any (eq-value.it key) keys) none).0 (same_keys key first (sym is))
none_seen (first ∷ keys) key none (suc k, lt, is) = none_seen keys key (or_none (eq-value.it key first) (list_any (eq-value.it key) keys) none).1 (k, omega (arith, lt), is)

-- whether a key is there
pub key_known : (keys : List Key) (key : Key) (known : Bool) → known ≡ list_any (eq-value.it key) keys
    → IsTrue known ↔ Contains (map key_tree keys) (key_tree key)
key_known keys key known is = (
  λ yes. any_seen keys key (sym is ∙ yes),
  λ there. elim (cases_Bool (list_any (eq-value.it key) keys)) [
    | inl any ↦ is ∙ any
    | inr none ↦ absurd (none_seen keys key none there)
  ],
)

-- one key is asked for
pub key_sighted : (keys after : List Key) (key : Key) → after ≡ (if list_any (eq-value.it key) keys then keys else keys ++ key ∷ [])
    → Sees (map key_tree keys) (map key_tree after) (key_tree key ∷ [])
key_sighted keys after key is = elim (cases_Bool (list_any (eq-value.it key) keys)) [
  | inl there ↦ ([], again (any_seen keys key there) none_left, ap (map key_tree) (is ∙ ap (λ b. if b then keys else keys ++ key ∷ []) there) ∙ sym (append-nil (map key_tree keys)))
  | inr none ↦ (key_tree key ∷ [], new_one (none_seen keys key none) none_left, ap (map key_tree) (is ∙ ap (λ b. if b then keys else keys ++ key ∷ []) none) ∙ map_push key_tree keys key)
]

pub key_found : (after : List Key) (key found : Key) (n : ℕ) → slice_get after n ≡ Some found → eq-value.it key found ≡ true → slice_get (map key_tree after) n ≡ Some (key_tree key)
key_found after key found n at alike = slice_get-map key_tree after n ∙ (ap (λ o. option_map key_tree o) at ∙ ap Some (sym (alike_keys key found alike)))

-- what is found stays where the list grows
pub found_stays : {X : Type 0} (xs more : List X) (n : ℕ) (x : X) → slice_get xs n ≡ Some x → slice_get (xs ++ more) n ≡ Some x
found_stays xs more n x found =
    let lt = slice_get_within xs n x found in
    let long = length-append xs more in
    slice_get-get_or (xs ++ more) n x (omega (arith, lt, long)) ∙ (ap Some (get_or_append_left xs more x n lt) ∙ (sym (slice_get-get_or xs n x lt) ∙ found))

pub all_stay : {X : Type 0} (xs more : List X) (ns : List ℕ) (ys : List X) → map (slice_get xs) ns ≡ map Some ys → map (slice_get (xs ++ more)) ns ≡ map Some ys
all_stay xs more [] [] found = refl
all_stay xs more [] (y ∷ ys) found = cc
all_stay xs more (n ∷ ns) [] found = cc
all_stay xs more (n ∷ ns) (y ∷ ys) found =
    let here : slice_get xs n ≡ Some y = cc in
    let behind : map (slice_get xs) ns ≡ map Some ys = cc in
    let first = found_stays xs more n y here in
    let rest = all_stay xs more ns ys behind in
    cc

-- keys that are called and that are constructed, in parts
called_parts : (xs ys : List Taken) → keys_called (xs ++ ys) ≡ keys_called xs ++ keys_called ys
called_parts [] ys = refl
called_parts (Construct by at ∷ xs) ys = called_parts xs ys
called_parts (Call function at ∷ xs) ys = ap (λ ks. record { number = function; at = at.items } ∷ ks) (called_parts xs ys)
called_parts (Value of ∷ xs) ys = called_parts xs ys

constructed_parts : (xs ys : List Taken) → keys_constructed (xs ++ ys) ≡ keys_constructed xs ++ keys_constructed ys
constructed_parts [] ys = refl
constructed_parts (Construct by at ∷ xs) ys = ap (λ ks. record { number = by; at = at.items } ∷ ks) (constructed_parts xs ys)
constructed_parts (Call function at ∷ xs) ys = constructed_parts xs ys
constructed_parts (Value of ∷ xs) ys = constructed_parts xs ys

module _ (keys : List Taken → List KeyTree) (parts : (xs ys : List Taken) → keys (xs ++ ys) ≡ keys xs ++ keys ys) where
  one_more : (taken : List Taken) (i : ℕ) (choice : Taken) → i < length taken → choice ≡ get_or taken i choice
      → keys (take (i + 1) taken) ≡ keys (take i taken) ++ keys (choice ∷ [])
  one_more taken i choice lt is = ap keys (take_more taken i choice lt ∙ ap (λ c. take i taken ++ c ∷ []) (sym is)) ∙ parts (take i taken) (choice ∷ [])

-- Keys are asked for, and with each one perhaps others; these are the numbers of those.
pub record Calling (before now : List KeyTree) (numbers : List ℕ) (asked called : List KeyTree) : Type 0 where
  pub sights : Sees before now asked
  pub are : map (slice_get now) numbers ≡ map Some called

calling_more : (before now after : List KeyTree) (numbers : List ℕ) (asked called more : List KeyTree) (key : KeyTree) (n : ℕ) → Calling before now numbers asked called
    → Sees now after more → slice_get after n ≡ Some key → Calling before after (numbers ++ n ∷ []) (asked ++ more) (called ++ key ∷ [])
calling_more before now after numbers asked called more key n so_far sees found = record {
  sights = sees_more before now after asked more so_far.sights sees;
  are =
      map_push (slice_get after) numbers n
      ∙ (ap (λ os. os ++ slice_get after n ∷ []) (ap (λ s. map (slice_get s) numbers) sees.2 ∙ all_stay now sees.0 numbers called so_far.are)
      ∙ (ap (λ o. map Some called ++ o ∷ []) found ∙ sym (map_push Some called key)));
}

pub calling_begins : (before : List KeyTree) (numbers : List ℕ) → numbers ≡ [] → Calling before before numbers [] []
calling_begins before numbers none = subst (λ ns. Calling before before ns [] []) (sym none) (record { sights = sees_none before; are = refl })

-- a choice more, which asks for a key and perhaps for others with it, or for none
module _ (keys : List Taken → List KeyTree) (parts : (xs ys : List Taken) → keys (xs ++ ys) ≡ keys xs ++ keys ys) (with : List KeyTree → List KeyTree)
    (with_parts : (xs ys : List KeyTree) → with (xs ++ ys) ≡ with xs ++ with ys) (before now after : List KeyTree) (numbers : List ℕ)
    (taken : List Taken) (i : ℕ) (choice : Taken) (lt : i < length taken) (is : choice ≡ get_or taken i choice)
    (so_far : Calling before now numbers (with (keys (take i taken))) (keys (take i taken))) where
  asked_more : (next : List ℕ) (key : KeyTree) (n : ℕ) → keys (choice ∷ []) ≡ key ∷ [] → Sees now after (with (key ∷ [])) → slice_get after n ≡ Some key
      → next ≡ numbers ++ n ∷ [] → Calling before after next (with (keys (take (i + 1) taken))) (keys (take (i + 1) taken))
  asked_more next key n one sees found next_is =
      let all : keys (take (i + 1) taken) ≡ keys (take i taken) ++ key ∷ [] = one_more keys parts taken i choice lt is ∙ ap (λ ks. keys (take i taken) ++ ks) one in
      subst (λ ks. Calling before after next (with ks) ks) (sym all)
      (subst (λ ks. Calling before after next ks (keys (take i taken) ++ key ∷ [])) (sym (with_parts (keys (take i taken)) (key ∷ [])))
      (subst (λ ns. Calling before after ns (with (keys (take i taken)) ++ with (key ∷ [])) (keys (take i taken) ++ key ∷ [])) (sym next_is)
      (calling_more before now after numbers (with (keys (take i taken))) (keys (take i taken)) (with (key ∷ [])) key n so_far sees found)))

  none_asked : keys (choice ∷ []) ≡ [] → Calling before now numbers (with (keys (take (i + 1) taken))) (keys (take (i + 1) taken))
  none_asked none =
      subst (λ ks. Calling before now numbers (with ks) ks)
      (sym (one_more keys parts taken i choice lt is ∙ (ap (λ ks. keys (take i taken) ++ ks) none ∙ append-nil (keys (take i taken))))) so_far

itself_parts : (xs ys : List KeyTree) → xs ++ ys ≡ xs ++ ys
itself_parts xs ys = refl

-- a call more, or none
pub call_pushed : (before now after : List KeyTree) (numbers next : List ℕ) (taken : List Taken) (i : ℕ) (choice : Taken) (function : ℕ) (at arguments : Vec ℕ Global) (slice : List ℕ) (n : ℕ)
    → i < length taken → choice ≡ get_or taken i choice → choice ≡ Call function at → slice ≡ at.items → arguments.items ≡ slice
    → Calling before now numbers (keys_called (take i taken)) (keys_called (take i taken)) → Sees now after (record { number = function; at = arguments.items } ∷ [])
    → slice_get after n ≡ Some (record { number = function; at = arguments.items }) → next ≡ numbers ++ n ∷ []
    → Calling before after next (keys_called (take (i + 1) taken)) (keys_called (take (i + 1) taken))
call_pushed before now after numbers next taken i choice function at arguments slice n lt is call slice_is copied so_far sees found next_is =
    asked_more keys_called called_parts (λ ks. ks) itself_parts before now after numbers taken i choice lt is so_far next (record { number = function; at = arguments.items }) n
    (ap (λ c. keys_called (c ∷ [])) call ∙ ap (λ ns. record { number = function; at = ns } ∷ []) (sym slice_is ∙ sym copied)) sees found next_is

pub no_call_pushed : (before now : List KeyTree) (numbers : List ℕ) (taken : List Taken) (i : ℕ) (choice : Taken) → i < length taken → choice ≡ get_or taken i choice
    → ((function : ℕ) (at : Vec ℕ Global) → choice ≡ Call function at → ⊥) → Calling before now numbers (keys_called (take i taken)) (keys_called (take i taken))
    → Calling before now numbers (keys_called (take (i + 1) taken)) (keys_called (take (i + 1) taken))
no_call_pushed before now numbers taken i choice lt is other so_far =
    none_asked keys_called called_parts (λ ks. ks) itself_parts before now now numbers taken i choice lt is so_far (not_called choice other)
  where
    not_called : (choice : Taken) → ((function : ℕ) (at : Vec ℕ Global) → choice ≡ Call function at → ⊥) → keys_called (choice ∷ []) ≡ []
    not_called (Construct by at) other = refl
    not_called (Call function at) other = absurd (other function at refl)
    not_called (Value of) other = refl

-- a construction or a pattern more, or none
module _ (cs : List ConstructorTree) where
  -- the keys that have been asked for, with the others of their types
  abbrev pub Constructing : List KeyTree → List KeyTree → List ℕ → List KeyTree → Type 0
  Constructing before now numbers keys = Calling before now numbers (flat_map (siblings cs) keys) keys

  siblings_parts : (xs ys : List KeyTree) → flat_map (siblings cs) (xs ++ ys) ≡ flat_map (siblings cs) xs ++ flat_map (siblings cs) ys
  siblings_parts [] ys = refl
  siblings_parts (x ∷ xs) ys =
      ap (λ ks. siblings cs x ++ ks) (siblings_parts xs ys) ∙ sym (append_assoc (siblings cs x) (flat_map (siblings cs) xs) (flat_map (siblings cs) ys))

  pub construction_pushed : (before now after : List KeyTree) (numbers next : List ℕ) (taken : List Taken) (i : ℕ) (choice : Taken) (by : ℕ) (at : Vec ℕ Global) (slice : List ℕ) (n : ℕ)
      → i < length taken → choice ≡ get_or taken i choice → choice ≡ Construct by at → slice ≡ at.items
      → Constructing before now numbers (keys_constructed (take i taken)) → Sees now after (siblings cs (record { number = by; at = slice }))
      → slice_get after n ≡ Some (record { number = by; at = slice }) → next ≡ numbers ++ n ∷ []
      → Constructing before after next (keys_constructed (take (i + 1) taken))
  construction_pushed before now after numbers next taken i choice by at slice n lt is construction slice_is so_far sees found next_is =
      asked_more keys_constructed constructed_parts (flat_map (siblings cs)) siblings_parts before now after numbers taken i choice lt is so_far next (record { number = by; at = slice }) n
      (ap (λ c. keys_constructed (c ∷ [])) construction ∙ ap (λ ns. record { number = by; at = ns } ∷ []) (sym slice_is))
      (subst (Sees now after) (sym (append-nil (siblings cs (record { number = by; at = slice })))) sees) found next_is

  pub no_construction_pushed : (before now : List KeyTree) (numbers : List ℕ) (taken : List Taken) (i : ℕ) (choice : Taken) → i < length taken → choice ≡ get_or taken i choice
      → ((by : ℕ) (at : Vec ℕ Global) → choice ≡ Construct by at → ⊥) → Constructing before now numbers (keys_constructed (take i taken))
      → Constructing before now numbers (keys_constructed (take (i + 1) taken))
  no_construction_pushed before now numbers taken i choice lt is other so_far =
      none_asked keys_constructed constructed_parts (flat_map (siblings cs)) siblings_parts before now now numbers taken i choice lt is so_far (not_constructed choice other)
    where
      not_constructed : (choice : Taken) → ((by : ℕ) (at : Vec ℕ Global) → choice ≡ Construct by at → ⊥) → keys_constructed (choice ∷ []) ≡ []
      not_constructed (Construct by at) other = absurd (other by at refl)
      not_constructed (Call function at) other = refl
      not_constructed (Value of) other = refl

  -- with what has become known so far, all have the others of their types
  pub whole_so_far : (before now : List KeyTree) (keys : List KeyTree) → HaveSiblings cs before → Sees before now (flat_map (siblings cs) keys) → HaveSiblings cs now
  whole_so_far before now keys whole sees one other there beside = elim (sees_from before now (flat_map (siblings cs) keys) sees one there) [
    | inl earlier ↦ sees_kept before now (flat_map (siblings cs) keys) sees other (whole one other earlier beside)
    | inr later ↦
        let of = in_siblings cs keys one later in
        sees_all before now (flat_map (siblings cs) keys) sees other (all_flat keys of.0 of.1 other (subst (λ ks. Contains ks other) (same_siblings cs of.0 one of.2) beside))
  ]
    where
      all_flat : (keys : List KeyTree) (key : KeyTree) → Contains keys key → (other : KeyTree) → Contains (siblings cs key) other → Contains (flat_map (siblings cs) keys) other
      all_flat [] key there other beside = absurd (let lt = there.1 in omega (arith, lt))
      all_flat (first ∷ keys) key there other beside = elim (Contains-append_cases (first ∷ []) keys key there) [
        | inl here ↦ Contains-append_left (siblings cs first) (flat_map (siblings cs) keys) other (subst (λ k. Contains (siblings cs k) other) (sym (only_one first key here)) beside)
        | inr behind ↦ Contains-append_right (siblings cs first) (flat_map (siblings cs) keys) other (all_flat keys key behind other beside)
      ]

-- the constructor of a construction or a pattern is one of the program's
pub construction_below : (taken : List Taken) (i : ℕ) (choice : Taken) (by : ℕ) (at : Vec ℕ Global) (count : ℕ) → i < length taken → choice ≡ get_or taken i choice → choice ≡ Construct by at
    → All (λ (key : KeyTree). key.number < count) (keys_constructed taken) → by < count
construction_below [] i choice by at count lt is construction below = absurd (omega (arith, lt))
construction_below (first ∷ taken) zero choice by at count lt is construction below =
    All-head (λ (key : KeyTree). key.number < count) (record { number = by; at = at.items }) (keys_constructed taken)
    (subst (λ c. All (λ (key : KeyTree). key.number < count) (keys_constructed (c ∷ taken))) (sym is ∙ construction) below)
construction_below (first ∷ taken) (suc i) choice by at count lt is construction below =
    construction_below taken i choice by at count (omega (arith, lt)) is construction (rest first below)
  where
    rest : (first : Taken) → All (λ (key : KeyTree). key.number < count) (keys_constructed (first ∷ taken)) → All (λ (key : KeyTree). key.number < count) (keys_constructed taken)
    rest (Construct c ts) all = All-tail (λ (key : KeyTree). key.number < count) (record { number = c; at = ts.items }) (keys_constructed taken) all
    rest (Call f ts) all = all
    rest (Value of) all = all

-- all numbers of a key are those of types
abbrev pub IsKeyWithin : List TypeTree → KeyTree → Type 0
IsKeyWithin types key = All (λ n. n < length types) key.at

pub called_within : (types : List TypeTree) (taken : List Taken) → All (AreTakenWithin types) taken → All (IsKeyWithin types) (keys_called taken)
called_within types [] within = All-nil (IsKeyWithin types)
called_within types (Construct by at ∷ taken) within = called_within types taken (All-tail (AreTakenWithin types) _ taken within)
called_within types (Call function at ∷ taken) within =
    All-cons (IsKeyWithin types) (record { number = function; at = at.items }) (keys_called taken) (All-head (AreTakenWithin types) _ taken within)
    (called_within types taken (All-tail (AreTakenWithin types) _ taken within))
called_within types (Value of ∷ taken) within = called_within types taken (All-tail (AreTakenWithin types) _ taken within)

pub constructed_within : (types : List TypeTree) (taken : List Taken) → All (AreTakenWithin types) taken → All (IsKeyWithin types) (keys_constructed taken)
constructed_within types [] within = All-nil (IsKeyWithin types)
constructed_within types (Construct by at ∷ taken) within =
    All-cons (IsKeyWithin types) (record { number = by; at = at.items }) (keys_constructed taken) (All-head (AreTakenWithin types) _ taken within)
    (constructed_within types taken (All-tail (AreTakenWithin types) _ taken within))
constructed_within types (Call function at ∷ taken) within = constructed_within types taken (All-tail (AreTakenWithin types) _ taken within)
constructed_within types (Value of ∷ taken) within = constructed_within types taken (All-tail (AreTakenWithin types) _ taken within)

-- what keys stand for
module _ (types : List TypeTree) {X : Type 0} (view : KeyTree → X)
    (only : (one other : KeyTree) → IsKeyWithin types one → IsKeyWithin types other → view one ≡ view other → one ≡ other) where
  seen_only : (seen : List KeyTree) (key : KeyTree) → All (IsKeyWithin types) seen → IsKeyWithin types key → Contains (map view seen) (view key) → Contains seen key
  seen_only seen key seen_in key_in (k, lt, is) =
      let below : k < length seen = (let long = length-map seen view in omega (arith, long, lt)) in
      (k, below, only (get_or seen k key) key (seen_in k key below) key_in (sym (get_or-map view seen k key (view key) below) ∙ is))

  -- first sights of numbers are first sights of what they stand for
  sights_of : {seen keys new : List KeyTree} → All (IsKeyWithin types) seen → All (IsKeyWithin types) keys → FirstSights seen keys new
      → FirstSights (map view seen) (map view keys) (map view new)
  sights_of seen_in keys_in none_left = none_left
  sights_of {seen = seen} seen_in keys_in (again {x = key} {xs = keys} there rest) =
      again (in_map view seen key there) (sights_of seen_in (All-tail (IsKeyWithin types) key keys keys_in) rest)
  sights_of {seen = seen} seen_in keys_in (new_one {x = key} {xs = keys} {new = new} absent rest) =
      let key_in = All-head (IsKeyWithin types) key keys keys_in in
      new_one (λ there. absent (seen_only seen key seen_in key_in there))
      (subst (λ s. FirstSights s (map view keys) (map view new)) (map_push view seen key)
      (sights_of (All-push (IsKeyWithin types) seen key seen_in key_in) (All-tail (IsKeyWithin types) key keys keys_in) rest))

module _ (types : List TypeTree) (once : AllPairs (λ one other. one ≢ other) types) where
  viewed_only : (one other : KeyTree) → IsKeyWithin types one → IsKeyWithin types other → viewed types one ≡ viewed types other → one ≡ other
  viewed_only one other one_in other_in same =
      let heads = ap (λ (x : InstanceTree). x.function) same in
      let numbers = numbers_only types one.at other.at once one_in other_in (ap (λ (x : InstanceTree). x.at) same) in
      λ i. record { number = heads i; at = numbers i }

  constructor_only : (one other : KeyTree) → IsKeyWithin types one → IsKeyWithin types other → viewed_constructor types one ≡ viewed_constructor types other → one ≡ other
  constructor_only one other one_in other_in same =
      let heads = ap (λ (x : GroundConstructorTree). x.constructor) same in
      let numbers = numbers_only types one.at other.at once one_in other_in (ap (λ (x : GroundConstructorTree). x.at) same) in
      λ i. record { number = heads i; at = numbers i }

  pub sights_viewed : {seen keys new : List KeyTree} → All (IsKeyWithin types) seen → All (IsKeyWithin types) keys → FirstSights seen keys new
      → FirstSights (map (viewed types) seen) (map (viewed types) keys) (map (viewed types) new)
  sights_viewed seen_in keys_in sights = sights_of types (viewed types) viewed_only seen_in keys_in sights

  pub sights_constructed : {seen keys new : List KeyTree} → All (IsKeyWithin types) seen → All (IsKeyWithin types) keys → FirstSights seen keys new
      → FirstSights (map (viewed_constructor types) seen) (map (viewed_constructor types) keys) (map (viewed_constructor types) new)
  sights_constructed seen_in keys_in sights = sights_of types (viewed_constructor types) constructor_only seen_in keys_in sights

pub new_within : (types : List TypeTree) {seen keys new : List KeyTree} → All (IsKeyWithin types) keys → FirstSights seen keys new → All (IsKeyWithin types) new
new_within types {keys = keys} {new = new} keys_in sights = λ k d lt. All-contains (IsKeyWithin types) keys (get_or new k d) keys_in (sights_each sights (get_or new k d) (Contains-get_or new k d lt))

-- the instances that are called, by what is taken at the types of an instance
pub called_viewed : (types ts : List TypeTree) (taken : List Taken) (choices : List Choice) → map (choice_of types) taken ≡ map (put_choice (type_at ts)) choices → map (viewed types) (keys_called taken) ≡ called_at ts choices
called_viewed types ts [] [] same = refl
called_viewed types ts [] (choice ∷ choices) same = cc
called_viewed types ts (taken ∷ more) [] same = cc
called_viewed types ts (taken ∷ more) (choice ∷ choices) same =
    let first : choice_of types taken ≡ put_choice (type_at ts) choice = cc in
    let rest : map (choice_of types) more ≡ map (put_choice (type_at ts)) choices = cc in
    by taken choice first (called_viewed types ts more choices rest)
  where
    by : (taken : Taken) (choice : Choice) → choice_of types taken ≡ put_choice (type_at ts) choice → map (viewed types) (keys_called more) ≡ called_at ts choices → map (viewed types) (keys_called (taken ∷ more)) ≡ called_at ts (choice ∷ choices)
    by (Construct c at) (constructing d us) first behind = behind
    by (Construct c at) (calling f us) first behind = cc
    by (Construct c at) (holding u) first behind = cc
    by (Call f at) (constructing d us) first behind = cc
    by (Call f at) (calling g us) first behind =
        let functions : f ≡ g = cc in
        let numbers : map (type_at types) at.items ≡ map (put (type_at ts)) us = cc in
        (λ i. record { function = functions i; at = numbers i } ∷ map (viewed types) (keys_called more)) ∙ ap (λ xs. record { function = g; at = map (put (type_at ts)) us } ∷ xs) behind
    by (Call f at) (holding u) first behind = cc
    by (Value n) (constructing d us) first behind = cc
    by (Value n) (calling f us) first behind = cc
    by (Value n) (holding u) first behind = behind

-- the ground constructors that are used, likewise
pub constructed_viewed : (types ts : List TypeTree) (taken : List Taken) (choices : List Choice) → map (choice_of types) taken ≡ map (put_choice (type_at ts)) choices
    → map (viewed_constructor types) (keys_constructed taken) ≡ constructed_at ts choices
constructed_viewed types ts [] [] same = refl
constructed_viewed types ts [] (choice ∷ choices) same = cc
constructed_viewed types ts (taken ∷ more) [] same = cc
constructed_viewed types ts (taken ∷ more) (choice ∷ choices) same =
    let first : choice_of types taken ≡ put_choice (type_at ts) choice = cc in
    let rest : map (choice_of types) more ≡ map (put_choice (type_at ts)) choices = cc in
    by taken choice first (constructed_viewed types ts more choices rest)
  where
    by : (taken : Taken) (choice : Choice) → choice_of types taken ≡ put_choice (type_at ts) choice
        → map (viewed_constructor types) (keys_constructed more) ≡ constructed_at ts choices
        → map (viewed_constructor types) (keys_constructed (taken ∷ more)) ≡ constructed_at ts (choice ∷ choices)
    by (Construct c at) (constructing d us) first behind =
        let heads : c ≡ d = cc in
        let numbers : map (type_at types) at.items ≡ map (put (type_at ts)) us = cc in
        (λ i. record { constructor = heads i; at = numbers i } ∷ map (viewed_constructor types) (keys_constructed more))
        ∙ ap (λ xs. record { constructor = d; at = map (put (type_at ts)) us } ∷ xs) behind
    by (Construct c at) (calling f us) first behind = cc
    by (Construct c at) (holding u) first behind = cc
    by (Call f at) (constructing d us) first behind = cc
    by (Call f at) (calling g us) first behind = behind
    by (Call f at) (holding u) first behind = cc
    by (Value n) (constructing d us) first behind = cc
    by (Value n) (calling f us) first behind = cc
    by (Value n) (holding u) first behind = behind
