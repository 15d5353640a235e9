-- Keys that become known, and the ground constructors that become known with one of them.
use Rattle.std.proofs.Common.{◌≡◌, ◌≢◌, ◌⊎◌, ℕ, ◌+◌, ◌<◌, List, [], ◌∷◌, ◌++◌, length, map, get_or, take, AllPairs, Contains, refl, sym, ap, ◌∙◌, subst, inl, inr, arith, append_assoc}
use Rattle.std.specs.Prelude.{flat_map, if◌then◌else◌, ◌==◌, Bool, true, false, Result, Ok, Err, OnOk}
use Rattle.std.proofs.lemmas.Bool.{eq-eqb}
use Rattle.std.proofs.lemmas.List.{append-nil, get_or-map, length-take-le, take_more, map-append}
use Rattle.std.proofs.lemmas.List.Elements.{Contains-get_or, Contains-append_left, Contains-append_right, Contains-append_cases}
use Rattle.kk_syntax.specs.declared.program.Constructor.{Constructor}
use Rattle.kk_syntax.specs.Programs.{ConstructorTree, constructor_tree, no_constructor}
use Rattle.kk_mono.specs.Instances.{FirstSights, none_left, again, new_one}
use Rattle.kk_mono.specs.KeyTrees.{KeyTree, Sees}
use Rattle.kk_syntax.specs.Constructors.{members_from, members}
use Rattle.kk_mono.specs.Siblings.{type_of, keys_of, siblings, HaveSiblings}
use Rattle.kk_mono.proofs.Pigeonhole.{sights_apart}
use Rattle.kk_mono.proofs.Members.{members_append, key_of_type, key_among}
use Rattle.kk_mono.proofs.FirstSights.{sights_append, sights_all, sights_each}

pub sees_none : (before : List KeyTree) → Sees before before []
sees_none before = ([], none_left, sym (append-nil before))

pub sees_more : (before now after asked more : List KeyTree) → Sees before now asked → Sees now after more
    → Sees before after (asked ++ more)
sees_more before now after asked more (first, sights, is) (rest, others, after_is) = (
  first ++ rest,
  sights_append sights (subst (λ s. FirstSights s more rest) is others),
  after_is ∙ (ap (λ s. s ++ rest) is ∙ append_assoc before first rest),
)

pub sees_all : (before after asked : List KeyTree) → Sees before after asked → (key : KeyTree) → Contains asked key
    → Contains after key
sees_all before after asked (new, sights, is) key there = subst (λ ks. Contains ks key) (sym is) (sights_all sights key there)

pub sees_kept : (before after asked : List KeyTree) → Sees before after asked → (key : KeyTree) → Contains before key
    → Contains after key
sees_kept before after asked (new, sights, is) key there = subst (λ ks. Contains ks key) (sym is)
    (Contains-append_left before new key there)

pub sees_from : (before after asked : List KeyTree) → Sees before after asked → (key : KeyTree) → Contains after key
    → Contains before key ⊎ Contains asked key
sees_from before after asked (new, sights, is) key there = elim
    (Contains-append_cases before new key (subst (λ ks. Contains ks key) is there)) [
      | inl earlier ↦ inl earlier
      | inr later ↦ inr (sights_each sights key later)
    ]

-- what is known is not seen anew
pub sees_known : (before asked : List KeyTree) → ((key : KeyTree) → Contains asked key → Contains before key)
    → Sees before before asked
sees_known before [] all = sees_none before
sees_known before (key ∷ asked) all =
    let rest = sees_known before asked (λ other there. all other (Contains-append_right (key ∷ []) asked other there)) in (
      rest.0,
      again (all key (Contains-append_left (key ∷ []) asked key
          (Contains-get_or (key ∷ []) 0 key (omega arith)))) rest.1,
      rest.2,
    )

none_new : {seen new : List KeyTree} {key : KeyTree} → Contains seen key → FirstSights seen (key ∷ []) new → new ≡ []
none_new there (again _ none_left) = refl
none_new there (new_one absent rest) = absurd (absent there)

pub sees_again : (before after : List KeyTree) (key : KeyTree) → Contains before key → Sees before after (key ∷ []) → after ≡ before
sees_again before after key there (new, sights, is) =
    is ∙ (ap (λ ks. before ++ ks) (none_new there sights) ∙ append-nil before)

-- keys of which no two are equal are what becomes known at first
pub sees_first : (after asked : List KeyTree) → AllPairs (λ one other. one ≢ other) asked → Sees [] after asked → after ≡ asked
sees_first after asked once (new, sights, is) =
    is ∙ sights_apart {seen = []} {xs = asked} {new = new} once (λ key there none. let lt = none.1 in omega (arith, lt)) sights

module _ (cs : List ConstructorTree) where
  -- those of one type have all of that type
  pub same_siblings : (key one : KeyTree) → Contains (siblings cs key) one → siblings cs one ≡ siblings cs key
  same_siblings key one there =
      let is = key_of_type cs (type_of cs key.number) key.at one there in
      ap (λ by. keys_of cs by one.at) is.1 ∙ ap (keys_of cs (type_of cs key.number)) is.2

  pub whole_first : (by : ℕ) (at : List ℕ) → HaveSiblings cs (keys_of cs by at)
  whole_first by at key other there beside =
      let is = key_of_type cs by at key there in
      subst (λ ks. Contains ks other) (ap (λ b. keys_of cs b key.at) is.1 ∙ ap (keys_of cs by) is.2) beside

  pub whole_after : (before after : List KeyTree) (key : KeyTree) → HaveSiblings cs before → Sees before after (siblings cs key)
      → HaveSiblings cs after
  whole_after before after key whole sees one other there beside = elim (sees_from before after (siblings cs key) sees one there) [
    | inl earlier ↦ sees_kept before after (siblings cs key) sees other (whole one other earlier beside)
    | inr later ↦ sees_all before after (siblings cs key) sees other
        (subst (λ ks. Contains ks other) (same_siblings key one later) beside)
  ]

  -- the one of which another is a sibling
  pub in_siblings : (keys : List KeyTree) (one : KeyTree) → Contains (flat_map (siblings cs) keys) one
      → (key : KeyTree) × Contains keys key × Contains (siblings cs key) one
  in_siblings [] one there = absurd (let lt = there.1 in omega (arith, lt))
  in_siblings (key ∷ keys) one there = elim (Contains-append_cases (siblings cs key) (flat_map (siblings cs) keys) one there) [
    | inl here ↦ (key, Contains-append_left (key ∷ []) keys key (Contains-get_or (key ∷ []) 0 key (omega arith)), here)
    | inr behind ↦ let rest = in_siblings keys one behind in (rest.0, Contains-append_right (key ∷ []) keys rest.0 rest.1, rest.2)
  ]

  -- the others of a known one are known
  pub sees_siblings : (before : List KeyTree) (key : KeyTree) → HaveSiblings cs before → Contains before key
      → Sees before before (siblings cs key)
  sees_siblings before key whole there = sees_known before (siblings cs key) (λ other beside. whole key other there beside)

  -- one of those that have become known
  pub sees_itself : (before now after : List KeyTree) (key : KeyTree) → key.number < length cs
      → Sees before now (siblings cs key) → Sees now after (key ∷ [])
      → Sees before after (siblings cs key)
  sees_itself before now after key lt sees more =
      let same = sees_again now after key (sees_all before now (siblings cs key) sees key (key_among cs key lt)) more in
      subst (λ ks. Sees before ks (siblings cs key)) (sym same) sees

  -- one constructor more, of the type or of another
  module _ (by : ℕ) (at : List ℕ) where
    keys_behind : (xs : List ConstructorTree) (x : ConstructorTree)
        → keys_of (xs ++ x ∷ []) by at
        ≡ keys_of xs by at ++ (if x.of_type == by then record { number = length xs; at = at } ∷ [] else [])
    keys_behind xs x =
        let key : ℕ → KeyTree = λ n. record { number = n; at = at } in
        ap (map key) (members_append by 0 xs (x ∷ []))
        ∙ (map-append key (members xs by) (members_from (0 + length xs) (x ∷ []) by)
        ∙ ap (λ ks. keys_of xs by at ++ ks) (by_test (x.of_type == by) (0 + length xs) (omega arith)))
      where
        by_test : (b : Bool) (n : ℕ) → n ≡ length xs
            → map {B = KeyTree} (λ n. record { number = n; at = at }) (if b then n ∷ [] else [])
            ≡ (if b then record { number = length xs; at = at } ∷ [] else [])
        by_test true n same = ap (λ k. record { number = k; at = at } ∷ []) same
        by_test false n same = refl

    next : (n : ℕ) (x d : ConstructorTree) → n < length cs → x ≡ get_or cs n d → {b : Bool} → (x.of_type == by) ≡ b
        → keys_of (take (n + 1) cs) by at ≡ keys_of (take n cs) by at ++ (if b then record { number = n; at = at } ∷ [] else [])
    next n x d lt is {b} same =
        let long : length (take n cs) ≡ n = length-take-le n cs (omega (arith, lt)) in
        ap (λ xs. keys_of xs by at) (take_more cs n d lt ∙ ap (λ y. take n cs ++ y ∷ []) (sym is))
        ∙ (keys_behind (take n cs) x
        ∙ (ap (λ k. keys_of (take n cs) by at ++ (if x.of_type == by then record { number = k; at = at } ∷ [] else [])) long
        ∙ ap (λ c. keys_of (take n cs) by at ++ (if c then record { number = n; at = at } ∷ [] else [])) same))

    -- the next constructor is looked at
    pub keys_next : (before now after : List KeyTree) (n : ℕ) (x d : ConstructorTree) → n < length cs → x ≡ get_or cs n d
        → x.of_type ≡ by
        → Sees before now (keys_of (take n cs) by at) → Sees now after (record { number = n; at = at } ∷ [])
        → Sees before after (keys_of (take (n + 1) cs) by at)
    keys_next before now after n x d lt is own so_far sees =
        subst (Sees before after) (sym (next n x d lt is (eq-eqb x.of_type by own)))
        (sees_more before now after (keys_of (take n cs) by at) (record { number = n; at = at } ∷ []) so_far sees)

    pub keys_not : (before now : List KeyTree) (n : ℕ) (x d : ConstructorTree) → n < length cs → x ≡ get_or cs n d
        → (x.of_type == by) ≡ false
        → Sees before now (keys_of (take n cs) by at) → Sees before now (keys_of (take (n + 1) cs) by at)
    keys_not before now n x d lt is other so_far =
        subst (Sees before now) (sym (next n x d lt is other ∙ append-nil (keys_of (take n cs) by at))) so_far

-- the type of a constructor in memory
pub type_read : (constructors : List Constructor) (n : ℕ) (found : Constructor) → n < length constructors
    → found ≡ get_or constructors n found
    → type_of (map constructor_tree constructors) n ≡ found.of_type
type_read constructors n found lt is =
    ap (λ (c : ConstructorTree). c.of_type) (get_or-map constructor_tree constructors n found no_constructor lt)
    ∙ ap (λ (c : Constructor). c.of_type) (sym is)

-- what follows where a call succeeds
pub on_ok : {T E P Q : Type 0} (result : Result T E) → OnOk result P → (P → Q) → OnOk result Q
on_ok (Ok x) holds next = next holds
on_ok (Err e) holds next = tt

-- a key by its parts
pub sees_key : (before after : List KeyTree) (n m : ℕ) (ns ms : List ℕ) → n ≡ m → ns ≡ ms
    → Sees before after (record { number = n; at = ns } ∷ [])
    → Sees before after (record { number = m; at = ms } ∷ [])
sees_key before after n m ns ms numbers types sees = subst (λ (key : KeyTree). Sees before after (key ∷ []))
    (λ i. record { number = numbers i; at = types i }) sees
