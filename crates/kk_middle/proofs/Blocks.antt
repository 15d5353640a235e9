-- The ground constructors of a program stand type by type, those of a type in the order of their declaration. So the tag of each,
-- its place among the constructors of its type, is the number of those of its type that stand before it.
use Rattle.std.proofs.Common.{◌≡◌, ◌≢◌, ◌⊎◌, inl, inr, ℕ, zero, suc, ◌+◌, ◌<◌, ◌≤◌, ◌==◌, Bool, true, false, List, [], ◌∷◌, ◌++◌, length, map, get_or, take, AllPairs, Contains, Some, None, arith, refl, sym, ap, ◌∙◌, subst, append_assoc}
use Rattle.std.specs.Prelude.{if◌then◌else◌, slice_get, slice_index_or, flat_map, is_some, count_by}
use Rattle.std.proofs.lemmas.Bool.{eqb-true}
use Rattle.std.proofs.lemmas.List.Sums.{sum_by-cons, sum_by-append}
use Rattle.std.proofs.lemmas.Option.{slice_get-get_or}
use Rattle.std.proofs.lemmas.List.{append-nil}
use Rattle.std.proofs.lemmas.List.Elements.{Contains-get_or, Contains-append_left, Contains-append_right, Contains-append_cases}
use Rattle.kk_syntax.specs.OfType.{fields_with, fields_of}
use Rattle.kk_syntax.specs.Programs.{ConstructorTree, ProgramTree, no_constructor, constructor_in}
use Rattle.kk_syntax.specs.Types.{TypeTree, TypeTrees, types_of}
use Rattle.kk_mono.specs.Instances.{GroundConstructorTree, FirstSights, none_left, again, new_one, makers_from, makers, ground_constructors, of_same_type}
use Rattle.kk_mono.proofs.Pigeonhole.{sights_apart}
use Rattle.kk_mono.proofs.FirstSights.{Parted, sights_part}

-- ---- the makers of a type

-- what a constructor is that makes values of a type
makes_of : (c : ConstructorTree) (by : ℕ) (arguments : TypeTrees) → is_some (fields_of (Some c) by arguments) ≡ true → c.of_type ≡ by
makes_of c by arguments is = by_test (c.of_type == by) refl is
  where
    by_test : (t : Bool) → (c.of_type == by) ≡ t
        → is_some (if t then fields_with c.arguments c.fields arguments else None) ≡ true → c.of_type ≡ by
    by_test true same made = eqb-true c.of_type by same
    by_test false same made = absurd (cc)

-- a maker by its place among them: how many come before it
record Maker (first : ℕ) (cs : List ConstructorTree) (by : ℕ) (arguments : TypeTrees) (k c : ℕ) : Type 0 where
  behind : ℕ
  is : c ≡ first + behind
  within : behind < length cs
  of_type : (slice_index_or cs behind no_constructor).of_type ≡ by
  count : length (makers_from first (take behind cs) by arguments) ≡ k

maker_at : (first : ℕ) (cs : List ConstructorTree) (by : ℕ) (arguments : TypeTrees) (k c : ℕ)
    → slice_get (makers_from first cs by arguments) k ≡ Some c → Maker first cs by arguments k c
maker_at first [] by arguments k c there = absurd (nothing k there)
  where
    nothing : (k : ℕ) → slice_get [] k ≡ Some c → ⊥
    nothing k is = cc
maker_at first (d ∷ cs) by arguments k c there =
    by_test (is_some (fields_of (Some d) by arguments)) refl k there (maker_at (first + 1) cs by arguments)
  where
    further : (k : ℕ) → Maker (first + 1) cs by arguments k c → (t : Bool)
        → is_some (fields_of (Some d) by arguments) ≡ t → (j : ℕ) → (if t then suc k else k) ≡ j
        → Maker first (d ∷ cs) by arguments j c
    further k one t same j count =
        let e = one.is in
        let lt = one.within in
        record {
          behind = suc one.behind;
          is = omega (arith, e);
          within = omega (arith, lt);
          of_type = one.of_type;
          count = ap (λ (b : Bool). length (if b then first ∷ makers_from (first + 1) (take one.behind cs) by arguments
              else makers_from (first + 1) (take one.behind cs) by arguments)) same ∙ counted t ∙ count;
        }
      where
        counted : (t : Bool) → length (if t then first ∷ makers_from (first + 1) (take one.behind cs) by arguments
            else makers_from (first + 1) (take one.behind cs) by arguments) ≡ (if t then suc k else k)
        counted true = ap suc one.count
        counted false = one.count

    by_test : (t : Bool) → is_some (fields_of (Some d) by arguments) ≡ t → (k : ℕ)
        → slice_get (if t then first ∷ makers_from (first + 1) cs by arguments else makers_from (first + 1) cs by arguments) k ≡ Some c
        → ((k c : ℕ) → slice_get (makers_from (first + 1) cs by arguments) k ≡ Some c → Maker (first + 1) cs by arguments k c)
        → Maker first (d ∷ cs) by arguments k c
    by_test true same zero there rest =
        record {
          behind = 0;
          is = only there ∙ omega arith;
          within = omega arith;
          of_type = makes_of d by arguments same;
          count = refl;
        }
      where
        only : Some first ≡ Some c → c ≡ first
        only is = cc
    by_test true same (suc k) there rest = further k (rest k c there) true same (suc k) refl
    by_test false same k there rest = further k (rest k c there) false same k refl

-- ---- a type's block

module _ (program : ProgramTree) where
  -- a ground constructor of a declared type at types
  abbrev pub IsOf : ℕ → List TypeTree → GroundConstructorTree → Type 0
  IsOf by at x = ((constructor_in program x.constructor).of_type ≡ by) × (x.at ≡ at)

  abbrev pub block : ℕ → List TypeTree → List GroundConstructorTree
  block by at = ground_constructors program by at

  get_mapped : (at : List TypeTree) (cs : List ℕ) (k : ℕ) (x : GroundConstructorTree)
      → slice_get (map (λ c. record { constructor = c; at = at }) cs) k ≡ Some x
      → (slice_get cs k ≡ Some x.constructor) × (x.at ≡ at)
  get_mapped at [] k x there = absurd (nothing k there)
    where
      nothing : (k : ℕ) → slice_get [] k ≡ Some x → ⊥
      nothing k is = cc
  get_mapped at (c ∷ cs) zero x there =
      (ap (λ (g : GroundConstructorTree). Some g.constructor) (only there), ap (λ (g : GroundConstructorTree). g.at) (sym (only there)))
    where
      only : Some (record { constructor = c; at = at }) ≡ Some x → record { constructor = c; at = at } ≡ x
      only is = cc
  get_mapped at (c ∷ cs) (suc k) x there = get_mapped at cs k x there

  get_of : {X : Type 0} (xs : List X) (x : X) → Contains xs x → (k : ℕ) × (slice_get xs k ≡ Some x)
  get_of [] x there = absurd (let lt = there.1 in omega (arith, lt))
  get_of (y ∷ xs) x (zero, lt, is) = (0, ap Some is)
  get_of (y ∷ xs) x (suc k, lt, is) =
      let rest = get_of xs x (k, omega (arith, lt), is) in (suc rest.0, rest.1)

  contains_of : {X : Type 0} (xs : List X) (k : ℕ) (x : X) → slice_get xs k ≡ Some x → Contains xs x
  contains_of [] k x there = absurd (nothing k there)
    where
      nothing : (k : ℕ) → slice_get [] k ≡ Some x → ⊥
      nothing k is = cc
  contains_of (y ∷ xs) zero x there = (0, omega arith, only there)
    where
      only : Some y ≡ Some x → y ≡ x
      only is = cc
  contains_of (y ∷ xs) (suc k) x there = Contains-append_right (y ∷ []) xs x (contains_of xs k x there)

  -- the k-th of a block
  in_block : (by : ℕ) (at : List TypeTree) (k : ℕ) (x : GroundConstructorTree) → slice_get (block by at) k ≡ Some x
      → IsOf by at x × (length (makers (take x.constructor program.constructors) by (types_of at)) ≡ k)
  in_block by at k x there =
      let one = get_mapped at (makers program.constructors by (types_of at)) k x there in
      let maker : Maker 0 program.constructors by (types_of at) k x.constructor =
      maker_at 0 program.constructors by (types_of at) k x.constructor one.0 in
      let same : x.constructor ≡ maker.behind = maker.is ∙ omega arith in (
        (ap (λ (c : ℕ). (constructor_in program c).of_type) same ∙ maker.of_type, one.1),
        ap (λ (c : ℕ). length (makers (take c program.constructors) by (types_of at))) same ∙ maker.count,
      )

  block_of : (by : ℕ) (at : List TypeTree) (x : GroundConstructorTree) → Contains (block by at) x → IsOf by at x
  block_of by at x there = let place = get_of (block by at) x there in (in_block by at place.0 x place.1).0

  -- no ground constructor stands twice in a block, since each has its own place
  block_once : (by : ℕ) (at : List TypeTree) → AllPairs (λ one other. one ≢ other) (block by at)
  block_once by at i j d lt within same =
      let one = in_block by at i (get_or (block by at) i d) (slice_get-get_or (block by at) i d (omega (arith, lt, within))) in
      let other = in_block by at j (get_or (block by at) j d) (slice_get-get_or (block by at) j d within) in
      let equal : i ≡ j = sym one.1 ∙ ap (λ (x : GroundConstructorTree). length (makers (take x.constructor program.constructors) by (types_of at))) same
      ∙ other.1 in
      omega (arith, lt, equal)

  -- ---- lists of whole blocks

  pub data Whole : List GroundConstructorTree → Type 0 where
    no_block : Whole []
    more : {xs : List GroundConstructorTree} → Whole xs → (by : ℕ) → (at : List TypeTree)
        → ((x : GroundConstructorTree) → Contains xs x → IsOf by at x → ⊥) → Whole (xs ++ block by at)

  -- with one of a type all of its block are there
  whole_in : (xs : List GroundConstructorTree) → Whole xs → (by : ℕ) (at : List TypeTree) (x y : GroundConstructorTree)
      → Contains xs x → IsOf by at x → Contains (block by at) y → Contains xs y
  whole_in [] no_block by at x y there is own = absurd (let lt = there.1 in omega (arith, lt))
  whole_in zs (more {xs} whole by' at' fresh) by at x y there is own =
      elim (Contains-append_cases xs (block by' at') x there) [
        | inl before ↦ Contains-append_left xs (block by' at') y (whole_in xs whole by at x y before is own)
        | inr here ↦ Contains-append_right xs (block by' at') y
            (let of = block_of by' at' x here in
            subst (λ (ts : List TypeTree). Contains (block by' ts) y) (sym is.1 ∙ of.1)
            (subst (λ (n : ℕ). Contains (block n at) y) (sym is.0 ∙ of.0) own))
      ]

  -- a block that is looked at is there whole, or none of it
  sees_block : (xs new : List GroundConstructorTree) (by : ℕ) (at : List TypeTree) → Whole xs → FirstSights xs (block by at) new
      → Whole (xs ++ new)
  sees_block xs new by at whole sights = by_case (block by at) refl sights
    where
      none_new : (ys news : List GroundConstructorTree) (seen : List GroundConstructorTree)
          → ((y : GroundConstructorTree) → Contains ys y → Contains seen y) → FirstSights seen ys news → news ≡ []
      none_new [] [] seen all none_left = refl
      none_new [] (z ∷ news) seen all sights = elim sights [ ]
      none_new (y ∷ ys) news seen all (again there rest) =
          none_new ys news seen (λ z later. all z (Contains-append_right (y ∷ []) ys z later)) rest
      none_new (y ∷ ys) (z ∷ news) seen all (new_one absent rest) =
          absurd (absent (all y (Contains-append_left (y ∷ []) ys y (Contains-get_or (y ∷ []) 0 y (omega arith)))))

      fresh : (y : GroundConstructorTree) → Contains (block by at) y → ((Contains xs y → ⊥) → (x : GroundConstructorTree) → Contains xs x → IsOf by at x → ⊥)
      fresh y own absent x there is = absent (whole_in xs whole by at x y there is own)

      by_case : (ys : List GroundConstructorTree) → block by at ≡ ys → FirstSights xs (block by at) new → Whole (xs ++ new)
      by_case [] same look =
          let none : new ≡ [] = none_new [] new xs (λ y there. absurd (let lt = there.1 in omega (arith, lt)))
          (subst (λ (ys : List GroundConstructorTree). FirstSights xs ys new) same look) in
          subst Whole (ap (λ (zs : List GroundConstructorTree). xs ++ zs) (sym none)) (subst Whole (sym (append-nil xs)) whole)
      by_case (y ∷ ys) same look =
          first_case new (subst (λ (zs : List GroundConstructorTree). FirstSights xs zs new) same look) refl look
        where
          own : Contains (block by at) y
          own = subst (λ (zs : List GroundConstructorTree). Contains zs y) (sym same)
              (Contains-append_left (y ∷ []) ys y (Contains-get_or (y ∷ []) 0 y (omega arith)))

          first_case : (news : List GroundConstructorTree) → FirstSights xs (y ∷ ys) news → new ≡ news → FirstSights xs (block by at) new
              → Whole (xs ++ new)
          first_case news (again there rest) equal look =
              let none : new ≡ [] = none_new (block by at) new xs
              (λ z later. whole_in xs whole by at y z there (block_of by at y own) later) look in
              subst Whole (ap (λ (zs : List GroundConstructorTree). xs ++ zs) (sym none)) (subst Whole (sym (append-nil xs)) whole)
          first_case (z ∷ news) (new_one absent rest) equal look =
              let all : new ≡ block by at =
              sights_apart (block_once by at) (λ x later there. fresh y own absent x there (block_of by at x later)) look in
              subst Whole (ap (λ (zs : List GroundConstructorTree). xs ++ zs) (sym all)) (more whole by at (fresh y own absent))

  pub sees_blocks : (xs used new : List GroundConstructorTree) → Whole xs → FirstSights xs (flat_map (of_same_type program) used) new
      → Whole (xs ++ new)
  sees_blocks xs [] [] whole none_left = subst Whole (sym (append-nil xs)) whole
  sees_blocks xs [] (z ∷ new) whole sights = elim sights [ ]
  sees_blocks xs (u ∷ used) new whole sights =
      let parts : Parted xs (of_same_type program u) (flat_map (of_same_type program) used) new =
      sights_part xs (of_same_type program u) (flat_map (of_same_type program) used) new sights in
      let first : Whole (xs ++ parts.first) =
      sees_block xs parts.first (constructor_in program u.constructor).of_type u.at whole parts.of_first in
      subst Whole (append_assoc xs parts.first parts.rest ∙ ap (λ (zs : List GroundConstructorTree). xs ++ zs) (sym parts.whole))
      (sees_blocks (xs ++ parts.first) used parts.rest first parts.of_rest)

  -- ---- tags as places

  -- whether a ground constructor is of a type, told by a test
  pub record Tells (p : GroundConstructorTree → Bool) (by : ℕ) (at : List TypeTree) : Type 0 where
    pub yes : (x : GroundConstructorTree) → IsOf by at x → p x ≡ true
    pub no : (x : GroundConstructorTree) → (IsOf by at x → ⊥) → p x ≡ false

  -- each stands behind as many of its type as come before it among the makers
  abbrev pub Placed : List GroundConstructorTree → Type 0
  Placed xs =
      (i : ℕ) (g : GroundConstructorTree) → slice_get xs i ≡ Some g → (p : GroundConstructorTree → Bool)
      → Tells p (constructor_in program g.constructor).of_type g.at
      → count_by p (take i xs)
      ≡ length (makers (take g.constructor program.constructors) (constructor_in program g.constructor).of_type (types_of g.at))

  count_none : (p : GroundConstructorTree → Bool) (xs : List GroundConstructorTree)
      → ((x : GroundConstructorTree) → Contains xs x → p x ≡ false) → count_by p xs ≡ 0
  count_none p [] none = refl
  count_none p (x ∷ xs) none =
      let rest = count_none p xs (λ y there. none y (Contains-append_right (x ∷ []) xs y there)) in
      sum_by-cons (λ y. if p y then 1 else 0) x xs
      ∙ ap (λ (t : Bool). (if t then 1 else 0) + count_by p xs)
      (none x (Contains-append_left (x ∷ []) xs x (Contains-get_or (x ∷ []) 0 x (omega arith))))
      ∙ omega (arith, rest)

  count_all : (p : GroundConstructorTree → Bool) (xs : List GroundConstructorTree)
      → ((x : GroundConstructorTree) → Contains xs x → p x ≡ true) → count_by p xs ≡ length xs
  count_all p [] all = refl
  count_all p (x ∷ xs) all =
      let rest = count_all p xs (λ y there. all y (Contains-append_right (x ∷ []) xs y there)) in
      sum_by-cons (λ y. if p y then 1 else 0) x xs
      ∙ ap (λ (t : Bool). (if t then 1 else 0) + count_by p xs)
      (all x (Contains-append_left (x ∷ []) xs x (Contains-get_or (x ∷ []) 0 x (omega arith))))
      ∙ omega (arith, rest)

  take_in : (xs : List GroundConstructorTree) (i : ℕ) (x : GroundConstructorTree) → Contains (take i xs) x → Contains xs x
  take_in [] zero x there = absurd (let lt = there.1 in omega (arith, lt))
  take_in [] (suc i) x there = absurd (let lt = there.1 in omega (arith, lt))
  take_in (y ∷ xs) zero x there = absurd (let lt = there.1 in omega (arith, lt))
  take_in (y ∷ xs) (suc i) x there = elim (Contains-append_cases (y ∷ []) (take i xs) x there) [
    | inl first ↦ Contains-append_left (y ∷ []) xs x first
    | inr later ↦ Contains-append_right (y ∷ []) xs x (take_in xs i x later)
  ]

  within_get : {X : Type 0} (xs : List X) (i : ℕ) (x : X) → slice_get xs i ≡ Some x → i < length xs
  within_get [] i x there = absurd (cc)
  within_get (y ∷ xs) zero x there = omega arith
  within_get (y ∷ xs) (suc i) x there = let less = within_get xs i x there in omega (arith, less)

  -- where an element stands in a list and another one behind it
  front_or_back : (xs ys : List GroundConstructorTree) (i : ℕ) (x : GroundConstructorTree) → slice_get (xs ++ ys) i ≡ Some x
      → ((slice_get xs i ≡ Some x) × (take i (xs ++ ys) ≡ take i xs))
      ⊎ ((k : ℕ) × ((slice_get ys k ≡ Some x) × (take i (xs ++ ys) ≡ xs ++ take k ys)))
  front_or_back [] ys i x there = inr (i, (there, refl))
  front_or_back (y ∷ xs) ys zero x there = inl (there, refl)
  front_or_back (y ∷ xs) ys (suc i) x there = by (front_or_back xs ys i x there)
    where
      by : ((slice_get xs i ≡ Some x) × (take i (xs ++ ys) ≡ take i xs))
          ⊎ ((k : ℕ) × ((slice_get ys k ≡ Some x) × (take i (xs ++ ys) ≡ xs ++ take k ys)))
          → ((slice_get xs i ≡ Some x) × (take (suc i) (y ∷ (xs ++ ys)) ≡ take (suc i) (y ∷ xs)))
          ⊎ ((k : ℕ) × ((slice_get ys k ≡ Some x) × (take (suc i) (y ∷ (xs ++ ys)) ≡ (y ∷ xs) ++ take k ys)))
      by (inl one) = inl (one.0, ap (λ (zs : List GroundConstructorTree). y ∷ zs) one.1)
      by (inr one) = inr (one.0, (one.1.0, ap (λ (zs : List GroundConstructorTree). y ∷ zs) one.1.1))

  take_length : (xs : List GroundConstructorTree) (k : ℕ) → k ≤ length xs → length (take k xs) ≡ k
  take_length xs zero le = refl
  take_length [] (suc k) le = absurd (omega (arith, le))
  take_length (x ∷ xs) (suc k) le = ap suc (take_length xs k (omega (arith, le)))

  pub placed : (xs : List GroundConstructorTree) → Whole xs → Placed xs
  placed [] no_block i g there p tells = absurd (nothing i there)
    where
      nothing : (i : ℕ) → slice_get [] i ≡ Some g → ⊥
      nothing i is = cc
  placed zs (more {xs} whole by at fresh) i g there p tells =
      elim (front_or_back xs (block by at) i g there) [
        | inl one ↦ ap (count_by p) one.1 ∙ placed xs whole i g one.0 p tells
        | inr one ↦
            (let place = in_block by at one.0 g one.1.0 in
            let of_type = place.0.0 in
            let types = place.0.1 in
            ap (count_by p) one.1.1 ∙ sum_by-append (λ x. if p x then 1 else 0) xs (take one.0 (block by at))
            ∙ ap (λ (n : ℕ). n + count_by p (take one.0 (block by at)))
            (count_none p xs (λ x before. tells.no x (λ is. fresh x before (is.0 ∙ of_type, is.1 ∙ types))))
            ∙ omega arith
            ∙ count_all p (take one.0 (block by at))
            (λ x inner. let own = block_of by at x (take_in (block by at) one.0 x inner) in
            tells.yes x (own.0 ∙ sym of_type, own.1 ∙ sym types))
            ∙ take_length (block by at) one.0 (let less = within_get (block by at) one.0 g one.1.0 in omega (arith, less))
            ∙ sym place.1
            ∙ ap (λ (n : ℕ). length (makers (take g.constructor program.constructors) n (types_of at))) (sym of_type)
            ∙ ap (λ (ts : List TypeTree). length (makers (take g.constructor program.constructors) (constructor_in program g.constructor).of_type (types_of ts)))
            (sym types))
      ]
