-- The constructors of a type by their numbers: which they are, each once, and that they are those that make values of it.
use Rattle.std.proofs.Common.{◌≡◌, ◌≢◌, ℕ, zero, suc, ◌+◌, ◌<◌, Bool, true, false, List, [], ◌∷◌, ◌++◌, length, map, get_or, All, AllPairs, Contains, Some, None, refl, sym, ap, ◌∙◌, subst, arith}
use Rattle.std.specs.Prelude.{◌==◌, if◌then◌else◌, is_some}
use Rattle.std.proofs.lemmas.Bool.{eqb-true, eq-eqb}
use Rattle.std.proofs.lemmas.List.{length-map, get_or-map}
use Rattle.std.proofs.lemmas.List.Elements.{Contains-get_or, Contains-append_right}
use Rattle.std.proofs.lemmas.List.Kept.{AllPairs-cons}
use Rattle.kk_syntax.specs.declared.program.Constructor.{Constructor}
use Rattle.kk_syntax.specs.OfType.{with_arguments, fields_of}
use Rattle.kk_syntax.specs.Programs.{ConstructorTree, constructor_tree, no_constructor}
use Rattle.kk_syntax.specs.Types.{TypeTree, TypeTrees}
use Rattle.kk_mono.specs.Instances.{makers_from}
use Rattle.kk_mono.specs.KeyTrees.{KeyTree}
use Rattle.kk_syntax.specs.Constructors.{members_from, members}
use Rattle.kk_mono.specs.Siblings.{type_of, keys_of, siblings}

-- ---- in a list

pub in_map : {X Y : Type 0} (f : X → Y) (xs : List X) (x : X) → Contains xs x → Contains (map f xs) (f x)
in_map f xs x (k, lt, is) = (k, (let long = length-map xs f in omega (arith, long, lt)), get_or-map f xs k x (f x) lt ∙ ap f is)

pub out_of_map : {X Y : Type 0} (f : X → Y) (xs : List X) (y : Y) → Contains (map f xs) y → (x : X) × Contains xs x × (y ≡ f x)
out_of_map f [] y there = absurd (let lt = there.1 in omega (arith, lt))
out_of_map f (x ∷ xs) y (zero, lt, is) = (x, (0, omega arith, refl), sym is)
out_of_map f (x ∷ xs) y (suc k, lt, is) =
    let rest = out_of_map f xs y (k, omega (arith, lt), is) in
    (rest.0, Contains-append_right (x ∷ []) xs rest.0 rest.1, rest.2)

-- ---- members

module _ (by : ℕ) where
  pub members_append : (first : ℕ) (xs ys : List ConstructorTree)
      → members_from first (xs ++ ys) by ≡ members_from first xs by ++ members_from (first + length xs) ys by
  members_append first [] ys = ap (λ n. members_from n ys by) (omega arith)
  members_append first (x ∷ xs) ys =
      let rest = members_append (first + 1) xs ys
      ∙ ap (λ n. members_from (first + 1) xs by ++ members_from n ys by) (omega arith) in
      ap (λ ns. if x.of_type == by then first ∷ ns else ns) rest ∙ moved (x.of_type == by)
    where
      moved : (b : Bool) → (if b then first ∷ (members_from (first + 1) xs by ++ members_from
          (first + length (x ∷ xs)) ys by) else (members_from (first + 1) xs by ++ members_from (first + length (x ∷ xs)) ys by))
          ≡ (if b then first ∷ members_from (first + 1) xs by else members_from (first + 1) xs by) ++ members_from
          (first + length (x ∷ xs)) ys by
      moved true = refl
      moved false = refl

  -- what a member is
  pub member_is : (first : ℕ) (cs : List ConstructorTree) (n : ℕ) → Contains (members_from first cs by) n
      → (k : ℕ) × (n ≡ first + k) × (k < length cs) × ((d : ConstructorTree) → (get_or cs k d).of_type ≡ by)
  member_is first [] n there = absurd (let lt = there.1 in omega (arith, lt))
  member_is first (c ∷ cs) n there = by_test (member_is (first + 1) cs n) (c.of_type == by) refl there
    where
      behind : (Contains (members_from (first + 1) cs by) n
          → (k : ℕ) × (n ≡ first + 1 + k) × (k < length cs) × ((d : ConstructorTree) → (get_or cs k d).of_type ≡ by))
          → Contains (members_from (first + 1) cs by) n
          → (k : ℕ) × (n ≡ first + k) × (k < length (c ∷ cs)) × ((d : ConstructorTree) → (get_or (c ∷ cs) k d).of_type ≡ by)
      behind rest later = let is = (rest later).1 in let lt = (rest later).2 in
          (suc (rest later).0, omega (arith, is), omega (arith, lt), (rest later).3)

      by_test : (Contains (members_from (first + 1) cs by) n
          → (k : ℕ) × (n ≡ first + 1 + k) × (k < length cs) × ((d : ConstructorTree) → (get_or cs k d).of_type ≡ by))
          → (b : Bool) → (c.of_type == by) ≡ b
          → Contains (if b then first ∷ members_from (first + 1) cs by else members_from (first + 1) cs by) n
          → (k : ℕ) × (n ≡ first + k) × (k < length (c ∷ cs)) × ((d : ConstructorTree) → (get_or (c ∷ cs) k d).of_type ≡ by)
      by_test rest true same (zero, lt, is) = (
        0,
        (let e : first
            ≡ n = is in omega (arith, e)),
        omega arith,
        λ d. eqb-true c.of_type by same,
      )
      by_test rest true same (suc k, lt, is) = behind rest (k, omega (arith, lt), is)
      by_test rest false same later = behind rest later

  pub member_in : (first : ℕ) (cs : List ConstructorTree) (k : ℕ) (d : ConstructorTree) → k < length cs
      → (get_or cs k d).of_type ≡ by
      → Contains (members_from first cs by) (first + k)
  member_in first [] k d lt is = absurd (omega (arith, lt))
  member_in first (c ∷ cs) zero d lt is =
      subst (λ b. Contains (if b then first ∷ members_from (first + 1) cs by else members_from (first + 1) cs by) (first + 0))
      (sym (eq-eqb c.of_type by is))
      (0, omega arith, omega arith)
  member_in first (c ∷ cs) (suc k) d lt is = by_test (c.of_type == by)
      (subst (λ n. Contains (members_from (first + 1) cs by) n) (omega arith) (member_in (first + 1) cs k d (omega (arith, lt)) is))
    where
      by_test : (b : Bool) → Contains (members_from (first + 1) cs by) (first + suc k)
          → Contains (if b then first ∷ members_from (first + 1) cs by else members_from (first + 1) cs by) (first + suc k)
      by_test true later = Contains-append_right (first ∷ []) (members_from (first + 1) cs by) (first + suc k) later
      by_test false later = later

-- the number of a constructor's type, whatever stands behind the last
type_at_default : (cs : List ConstructorTree) (k : ℕ) (d : ConstructorTree) → k < length cs → (get_or cs k d).of_type ≡ type_of cs k
type_at_default [] k d lt = absurd (omega (arith, lt))
type_at_default (c ∷ cs) zero d lt = refl
type_at_default (c ∷ cs) (suc k) d lt = type_at_default cs k d (omega (arith, lt))

-- ---- ground constructors by the numbers of their types

module _ (cs : List ConstructorTree) where
  -- one of a type is of that type
  pub key_of_type : (by : ℕ) (at : List ℕ) (other : KeyTree) → Contains (keys_of cs by at) other
      → (other.number < length cs) × (type_of cs other.number ≡ by) × (other.at ≡ at)
  key_of_type by at other there =
      let from = out_of_map (λ n. record { number = n; at = at }) (members cs by) other there in
      let is = member_is by 0 cs from.0 from.1 in
      let number : other.number ≡ is.0 = ap (λ (k : KeyTree). k.number) from.2 ∙ (is.1 ∙ (omega arith)) in
      let lt = is.2 in (
        omega (arith, number, lt),
        ap (type_of cs) number ∙ is.3 no_constructor,
        ap (λ (k : KeyTree). k.at) from.2,
      )

  -- each is one of its type
  pub key_among : (key : KeyTree) → key.number < length cs → Contains (siblings cs key) key
  key_among key lt =
      let own = members cs (type_of cs key.number) in
      in_map (λ n. record { number = n; at = key.at }) own key.number
      (subst (Contains own) (omega arith) (member_in (type_of cs key.number) 0 cs key.number no_constructor lt refl))

-- ---- each once

module _ (by : ℕ) where
  members_apart : (first : ℕ) (cs : List ConstructorTree) → AllPairs (λ one other. one < other) (members_from first cs by)
  members_apart first [] = λ i j d lt within. absurd (omega (arith, within))
  members_apart first (c ∷ cs) = by_test (members_apart (first + 1) cs) (c.of_type == by)
    where
      later : All (λ n. first < n) (members_from (first + 1) cs by)
      later k d lt =
          let is = member_is by (first + 1) cs (get_or (members_from (first + 1) cs by) k d)
          (Contains-get_or (members_from (first + 1) cs by) k d lt) in
          let e = is.1 in
          omega (arith, e)

      by_test : AllPairs (λ one other. one < other) (members_from (first + 1) cs by) → (b : Bool)
          → AllPairs (λ one other. one < other) (if b then first ∷ members_from (first + 1) cs by else members_from
          (first + 1) cs by)
      by_test rest true = AllPairs-cons (λ one other. one < other) first (members_from (first + 1) cs by) later rest
      by_test rest false = rest

-- no ground constructor of a type is there twice
pub keys_once : (cs : List ConstructorTree) (by : ℕ) (at : List ℕ) → AllPairs (λ one other. one ≢ other) (keys_of cs by at)
keys_once cs by at i j d lt within same =
    let key : ℕ → KeyTree = λ n. record { number = n; at = at } in
    let long = length-map (members cs by) key in
    let one : get_or (keys_of cs by at) i d
    ≡ key (get_or (members cs by) i 0) = get_or-map key (members cs by) i 0 d (omega (arith, long, lt, within)) in
    let other : get_or (keys_of cs by at) j d
    ≡ key (get_or (members cs by) j 0) = get_or-map key (members cs by) j 0 d (omega (arith, long, within)) in
    let numbers : get_or (members cs by) i 0 ≡ get_or (members cs by) j 0 = ap (λ (k : KeyTree). k.number) (sym one
    ∙ (same ∙ other)) in
    let less = members_apart by 0 cs i j 0 lt (omega (arith, long, within)) in
    omega (arith, less, numbers)

-- ---- the constructors that make values

pub makers_are : (by : ℕ) (arguments : TypeTrees) (first : ℕ) (cs : List Constructor)
    → makers_from first (map constructor_tree cs) by arguments ≡ members_from first (map constructor_tree cs) by
makers_are by arguments first [] = refl
makers_are by arguments first (c ∷ cs) =
    ap (λ ns. if is_some (fields_of (Some (constructor_tree c)) by arguments) then first ∷ ns else ns)
    (makers_are by arguments (first + 1) cs)
    ∙ by_test (c.of_type == by) (map (with_arguments arguments) (constructor_tree c).fields)
  where
    by_test : (b : Bool) (us : List TypeTree)
        → (if is_some (if b then Some us else None) then first ∷ members_from (first + 1)
        (map constructor_tree cs) by else members_from (first + 1) (map constructor_tree cs) by)
        ≡ (if b then first ∷ members_from (first + 1) (map constructor_tree cs) by else members_from (first + 1)
        (map constructor_tree cs) by)
    by_test true us = refl
    by_test false us = refl
