-- What calls change of a sound draft leaves it sound.
use Rattle.std.proofs.Common.{◌≡◌, ◌⊎◌, ℕ, zero, suc, ◌+◌, ◌/◌, ◌%◌, ◌≤◌, ◌<◌, ◌==◌, ◌||◌, Bool, true, false, List, [], ◌∷◌, ◌++◌, map, take, Option, Some, None, arith, refl, sym, ap, ◌∙◌, subst}
use Rattle.std.specs.Prelude.{filter, if◌then◌else◌}
use Rattle.kk_syntax.specs.declared.program.Form.{Form}
use Rattle.kk_syntax.specs.Shapes.{is_among}
use Rattle.kk_syntax.specs.PositionsOf.{PositionTable}
use Rattle.kk_core.specs.Decisions.{NodeTree}
use Rattle.kk_counted.specs.CountedCodes.{CountedFunction}
use Rattle.kk_counted.specs.CountedForms.{Move, computes, reads, dups, drops, plug}
use Rattle.kk_counted.specs.Spending.{AreEven, AllAmong, AreFresh, AreApart, used_by, lent_by, FitsForm, numbers_from}
use Rattle.kk_counted.specs.VariableLists.{minus, minus_all, HasAll, AreLow, AreIn}
use Rattle.kk_emitter.specs.Drafts.{chosen_of, copies, Split, Draft, outside, all_owed, wrote, given, opens_by, opened, read_of, forked}
use Rattle.kk_counted.specs.Programs.{HaveParameters}
use Rattle.kk_emitter.specs.Emitting.{Spent, Leads, first, AllAre, IsFine, AreFine, owned_parameters, first_of, IsSoundBy}
use Rattle.kk_counted.proofs.CountChanges.{same, itself}
use Rattle.kk_counted.proofs.Evenness.{total_append, even_behind, even_among, even_back, even_then, even_front, even_last, even_turned, even_grouped, minus_even, minus_all_even, low_even, low_up, low_both, low_behind, low_one, low_next, low_numbers, low_fresh, numbers_fresh, numbers_apart}
use Rattle.kk_emitter.proofs.OwnershipSteps.{leads_to, leads_then, leads_dup, leads_drop, leads_compute, leads_open, leads_read}

-- ---- the branches, as the next variable grows

fine_one_up : (positions : PositionTable) (lent : List ℕ) (n m : ℕ) (began around : List ℕ) (split : Split) → n ≤ m → IsFine positions lent n began around split → IsFine positions lent m began around split
fine_one_up positions lent n m began around split less fine =
    record {
      before = fine.before;
      on = fine.on;
      arms = fine.arms;
      tails = fine.tails;
      left = fine.left;
      low = low_up n m (split.each ++ around) less fine.low;
    }

pub fine_up : (positions : PositionTable) (lent : List ℕ) (n m : ℕ) (parameters uncalled : List ℕ) (splits : List Split) → n ≤ m → AreFine positions lent n parameters uncalled splits → AreFine positions lent m parameters uncalled splits
fine_up positions lent n m parameters uncalled [] less fine = tt
fine_up positions lent n m parameters uncalled (split ∷ splits) less fine =
    (fine_one_up positions lent n m (first parameters uncalled splits) (outside uncalled (split ∷ splits)) split less fine.0, fine_up positions lent n m parameters uncalled splits less fine.1)

-- ---- steps are written

true_is_not_false : (P : Type 0) (b : Bool) → b ≡ true → b ≡ false → P
true_is_not_false P b one two = absurd (cc)

some_is_not_none : {A : Type 0} (P : Type 0) (o : Option A) (x : A) → o ≡ None → o ≡ Some x → P
some_is_not_none P o x one two = absurd (cc)

pub sound_more : (lent : List ℕ) (d : Draft) (moves : List Move) (owed : List ℕ) (next : ℕ) (read : List ℕ) → IsSoundBy lent d → d.inside ≡ true → d.ending ≡ None → d.next ≤ next → AreIn read lent
    → Leads d.positions lent (all_owed d) (owed ++ outside d.uncalled d.splits) moves → AreLow next (owed ++ outside d.uncalled d.splits)
    → IsSoundBy lent (record d { steps = d.steps ++ moves; owed = owed; next = next; lent = read })
sound_more lent d moves owed next read sound inside ending less within leads low =
    record {
      splits = fine_up d.positions lent d.next next (owned_parameters d) d.uncalled d.splits less sound.splits;
      steps = λ is none. leads_then d.positions lent (first_of d) (all_owed d) (owed ++ outside d.uncalled d.splits) d.steps moves (sound.steps inside ending) leads;
      closed = λ code is. some_is_not_none (Spent d.positions lent None (first_of d) (plug (d.steps ++ moves) code) × (outside d.uncalled d.splits ≡ [])) d.ending code ending is;
      low = low;
      lends = within;
      parameters = sound.parameters;
      quiet = λ is. true_is_not_false ((d.steps ++ moves ≡ []) × ((owed ≡ []) × (d.ending ≡ None))) d.inside inside is;
    }

-- a parameter that is called was owned before
given_even : (owed uncalled : List ℕ) (x : ℕ) → is_among uncalled x ≡ true → AreEven ((owed ++ x ∷ []) ++ minus x uncalled) (owed ++ uncalled)
given_even owed uncalled x among =
    λ w. omega (arith, total_append w (owed ++ x ∷ []) (minus x uncalled), total_append w owed (x ∷ []), total_append w owed uncalled, minus_even x uncalled among w)

pub sound_dup : (lent : List ℕ) (d : Draft) (x : ℕ) → IsSoundBy lent d → d.inside ≡ true → d.ending ≡ None → is_among (lent ++ all_owed d) x ≡ true
    → x < d.next → IsSoundBy lent (wrote d (dups x) (d.owed ++ x ∷ []) d.next)
sound_dup lent d x sound inside ending among less =
    let out : List ℕ = outside d.uncalled d.splits in
    let even : AreEven ((d.owed ++ x ∷ []) ++ out) (x ∷ all_owed d) = even_last d.owed out x in
    sound_more lent d (dups x ∷ []) (d.owed ++ x ∷ []) d.next d.lent sound inside ending (omega arith) sound.lends
    (leads_to d.positions lent (all_owed d) (x ∷ all_owed d) ((d.owed ++ x ∷ []) ++ out) (dups x ∷ []) (even_back ((d.owed ++ x ∷ []) ++ out) (x ∷ all_owed d) even) (leads_dup d.positions lent x (all_owed d) among))
    (low_even d.next ((d.owed ++ x ∷ []) ++ out) (x ∷ all_owed d) even (low_both d.next (x ∷ []) (all_owed d) (low_one d.next x less) sound.low))

-- what is owned, without a variable of the block
minus_owed : (owed out : List ℕ) (x : ℕ) → is_among owed x ≡ true → AreEven (owed ++ out) (x ∷ (minus x owed ++ out))
minus_owed owed out x among = even_front owed (x ∷ minus x owed) out (minus_even x owed among)

pub sound_drop : (lent : List ℕ) (d : Draft) (x : ℕ) → IsSoundBy lent d → d.inside ≡ true → d.ending ≡ None → is_among d.owed x ≡ true → IsSoundBy lent (wrote d (drops x) (minus x d.owed) d.next)
sound_drop lent d x sound inside ending among =
    let out : List ℕ = outside d.uncalled d.splits in
    let even : AreEven (all_owed d) (x ∷ (minus x d.owed ++ out)) = minus_owed d.owed out x among in
    sound_more lent d (drops x ∷ []) (minus x d.owed) d.next d.lent sound inside ending (omega arith) sound.lends
    (leads_drop d.positions lent x (all_owed d) (minus x d.owed ++ out) even)
    (low_behind d.next (x ∷ []) (minus x d.owed ++ out) (low_even d.next (x ∷ (minus x d.owed ++ out)) (all_owed d) (even_back (all_owed d) (x ∷ (minus x d.owed ++ out)) even) sound.low))

-- what is owned, without variables of the block
minus_all_owed : (xs owed out : List ℕ) → HasAll xs owed → AreEven (owed ++ out) (xs ++ (minus_all xs owed ++ out))
minus_all_owed xs owed out has =
    even_then (owed ++ out) ((xs ++ minus_all xs owed) ++ out) (xs ++ (minus_all xs owed ++ out))
    (even_front owed (xs ++ minus_all xs owed) out (minus_all_even xs owed has)) (even_grouped xs (minus_all xs owed) out)

-- what is owned without variables of the block is low, and the next variable is not among it
minus_all_low : (n : ℕ) (xs owed out : List ℕ) → HasAll xs owed → AreLow n (owed ++ out) → AreLow n (minus_all xs owed ++ out)
minus_all_low n xs owed out has low =
    low_behind n xs (minus_all xs owed ++ out)
    (low_even n (xs ++ (minus_all xs owed ++ out)) (owed ++ out) (even_back (owed ++ out) (xs ++ (minus_all xs owed ++ out)) (minus_all_owed xs owed out has)) low)

pub sound_computed : (lent : List ℕ) (d : Draft) (form : Form) (arguments used : List ℕ) → IsSoundBy lent d → d.inside ≡ true → d.ending ≡ None → HasAll used d.owed
    → ((functions : List CountedFunction) → used_by d.positions functions form arguments ≡ used)
    → ((functions : List CountedFunction) → AllAmong (lent_by d.positions functions form arguments) (lent ++ (minus_all used d.owed ++ outside d.uncalled d.splits)))
    → ((functions : List CountedFunction) → HaveParameters d.positions functions → FitsForm d.positions functions form arguments)
    → is_among lent d.next ≡ false
    → IsSoundBy lent (wrote d (computes d.next form arguments) (minus_all used d.owed ++ d.next ∷ []) (d.next + 1))
sound_computed lent d form arguments used sound inside ending has is_used among fits other =
    let out : List ℕ = outside d.uncalled d.splits in
    let kept : List ℕ = minus_all used d.owed ++ out in
    let low : AreLow d.next kept = minus_all_low d.next used d.owed out has sound.low in
    let even : AreEven ((minus_all used d.owed ++ d.next ∷ []) ++ out) (d.next ∷ kept) = even_last (minus_all used d.owed) out d.next in
    sound_more lent d (computes d.next form arguments ∷ []) (minus_all used d.owed ++ d.next ∷ []) (d.next + 1) d.lent sound inside ending (omega arith) sound.lends
    (leads_to d.positions lent (all_owed d) (d.next ∷ kept) ((minus_all used d.owed ++ d.next ∷ []) ++ out) (computes d.next form arguments ∷ [])
    (even_back ((minus_all used d.owed ++ d.next ∷ []) ++ out) (d.next ∷ kept) even)
    (leads_compute d.positions lent d.next form arguments (all_owed d) kept
    (λ functions. subst (λ (xs : List ℕ). AreEven (all_owed d) (xs ++ kept)) (sym (is_used functions)) (minus_all_owed used d.owed out has))
    among fits (low_fresh d.next d.next kept (omega arith) low) other))
    (low_even (d.next + 1) ((minus_all used d.owed ++ d.next ∷ []) ++ out) (d.next ∷ kept) even (low_next d.next kept low))

-- ---- parameters

pub sound_given : (lent : List ℕ) (d : Draft) (x : ℕ) → IsSoundBy lent d → d.inside ≡ true → d.ending ≡ None → d.splits ≡ [] → is_among d.uncalled x ≡ true → IsSoundBy lent (given d x)
sound_given lent d x sound inside ending none among =
    let even : AreEven ((d.owed ++ x ∷ []) ++ minus x d.uncalled) (d.owed ++ d.uncalled) = given_even d.owed d.uncalled x among in
    let steps : Leads d.positions lent (owned_parameters d) (d.owed ++ d.uncalled) d.steps =
    subst (λ (all : List Split). Leads d.positions lent (first (owned_parameters d) d.uncalled all) (d.owed ++ outside d.uncalled all) d.steps) none (sound.steps inside ending) in
    record {
      splits = subst (λ (all : List Split). AreFine d.positions lent d.next (owned_parameters d) (minus x d.uncalled) all) (sym none) tt;
      steps = λ is known. subst (λ (all : List Split). Leads d.positions lent (first (owned_parameters d) (minus x d.uncalled) all) ((d.owed ++ x ∷ []) ++ outside (minus x d.uncalled) all) d.steps) (sym none)
          (leads_to d.positions lent (owned_parameters d) (d.owed ++ d.uncalled) ((d.owed ++ x ∷ []) ++ minus x d.uncalled) d.steps (even_back ((d.owed ++ x ∷ []) ++ minus x d.uncalled) (d.owed ++ d.uncalled) even) steps);
      closed = λ code known. some_is_not_none (Spent d.positions lent None (first (owned_parameters d) (minus x d.uncalled) d.splits) (plug d.steps code) × (outside (minus x d.uncalled) d.splits ≡ [])) d.ending code ending known;
      low = subst (λ (all : List Split). AreLow d.next ((d.owed ++ x ∷ []) ++ outside (minus x d.uncalled) all)) (sym none)
          (low_even d.next ((d.owed ++ x ∷ []) ++ minus x d.uncalled) (d.owed ++ d.uncalled) even (subst (λ (all : List Split). AreLow d.next (d.owed ++ outside d.uncalled all)) none sound.low));
      lends = sound.lends;
      parameters = sound.parameters;
      quiet = λ out. true_is_not_false ((d.steps ≡ []) × (((d.owed ++ x ∷ []) ≡ []) × (d.ending ≡ None))) d.inside inside out;
    }

-- ---- the fields that a mask names

chosen_among : (mask : ℕ) (xs : List ℕ) (x : ℕ) → is_among (chosen_of mask xs) x ≡ true → is_among xs x ≡ true
chosen_among mask [] x is = is
chosen_among mask (y ∷ xs) x is = by_bit (mask % 2 == 1) is (chosen_among (mask / 2) xs x)
  where
    under : (t : Bool) → (t || is_among (chosen_of (mask / 2) xs) x) ≡ true → (is_among (chosen_of (mask / 2) xs) x ≡ true → is_among xs x ≡ true) → (t || is_among xs x) ≡ true
    under true is later = refl
    under false is later = later is

    behind : (t : Bool) → is_among xs x ≡ true → (t || is_among xs x) ≡ true
    behind true is = refl
    behind false is = is

    by_bit : (b : Bool) → is_among (if b then y ∷ chosen_of (mask / 2) xs else chosen_of (mask / 2) xs) x ≡ true → (is_among (chosen_of (mask / 2) xs) x ≡ true → is_among xs x ≡ true) → ((y == x) || is_among xs x) ≡ true
    by_bit true is later = under (y == x) is later
    by_bit false is later = behind (y == x) (later is)

filter_other : (x : ℕ) (used xs : List ℕ) → is_among xs x ≡ false → filter (is_among (x ∷ used)) xs ≡ filter (is_among used) xs
filter_other x used [] apart = refl
filter_other x used (y ∷ xs) apart = by_test (y == x) refl apart (filter_other x used xs)
  where
    turned : (t : Bool) → (x == y) ≡ t → (y == x) ≡ false → t ≡ false
    turned false is apart = refl
    turned true is apart = sym (itself y) ∙ (ap (λ z. y == z) (sym (same x y is)) ∙ apart)

    rest : (t : Bool) → t ≡ false → filter (is_among (x ∷ used)) xs ≡ filter (is_among used) xs → (if (t || is_among used y) then y ∷ filter (is_among (x ∷ used)) xs else filter (is_among (x ∷ used)) xs) ≡ (if is_among used y then y ∷ filter (is_among used) xs else filter (is_among used) xs)
    rest false is later = elim (is_among used y) as (λ t. (if t then y ∷ filter (is_among (x ∷ used)) xs else filter (is_among (x ∷ used)) xs) ≡ (if t then y ∷ filter (is_among used) xs else filter (is_among used) xs)) [ true ↦ ap (λ zs. y ∷ zs) later | false ↦ later ]
    rest true is later = absurd (cc)

    by_test : (t : Bool) → (y == x) ≡ t → (t || is_among xs x) ≡ false → (is_among xs x ≡ false → filter (is_among (x ∷ used)) xs ≡ filter (is_among used) xs) → filter (is_among (x ∷ used)) (y ∷ xs) ≡ filter (is_among used) (y ∷ xs)
    by_test true is fresh later = absurd (cc)
    by_test false is fresh later = rest (x == y) (turned (x == y) refl is) (later fresh)

pub chosen_filter : (mask : ℕ) (xs : List ℕ) → AreApart xs → filter (is_among (chosen_of mask xs)) xs ≡ chosen_of mask xs
chosen_filter mask [] apart = refl
chosen_filter mask (x ∷ xs) apart = by_bit (mask % 2 == 1) (chosen_filter (mask / 2) xs apart.1)
  where
    here : (t b : Bool) (zs us : List ℕ) → t ≡ true → zs ≡ us → (if (t || b) then x ∷ zs else zs) ≡ x ∷ us
    here true b zs us is same = ap (λ ys. x ∷ ys) same
    here false b zs us is same = absurd (cc)

    there : (t : Bool) (zs : List ℕ) → t ≡ false → (if t then x ∷ zs else zs) ≡ zs
    there false zs is = refl
    there true zs is = absurd (cc)

    fresh : (t : Bool) → is_among (chosen_of (mask / 2) xs) x ≡ t → t ≡ false
    fresh false is = refl
    fresh true is = absurd (clash (chosen_among (mask / 2) xs x is) apart.0)
      where
        clash : is_among xs x ≡ true → is_among xs x ≡ false → ⊥
        clash one two = cc

    by_bit : (b : Bool) → filter (is_among (chosen_of (mask / 2) xs)) xs ≡ chosen_of (mask / 2) xs → filter (is_among (if b then x ∷ chosen_of (mask / 2) xs else chosen_of (mask / 2) xs)) (x ∷ xs) ≡ (if b then x ∷ chosen_of (mask / 2) xs else chosen_of (mask / 2) xs)
    by_bit true later =
        here (x == x) (is_among (chosen_of (mask / 2) xs) x) (filter (is_among (x ∷ chosen_of (mask / 2) xs)) xs) (chosen_of (mask / 2) xs) (itself x)
        (filter_other x (chosen_of (mask / 2) xs) xs apart.0 ∙ later)
    by_bit false later =
        there (is_among (chosen_of (mask / 2) xs) x) (filter (is_among (chosen_of (mask / 2) xs)) xs) (fresh (is_among (chosen_of (mask / 2) xs) x) refl) ∙ later

pub sound_opened : (lent : List ℕ) (d : Draft) (by_count : Bool) (x c count mask : ℕ) → IsSoundBy lent d → d.inside ≡ true → d.ending ≡ None → is_among d.owed x ≡ true → AreFresh (numbers_from d.next count) lent → IsSoundBy lent (opened d by_count x c count mask)
sound_opened lent d by_count x c count mask sound inside ending among other =
    let out : List ℕ = outside d.uncalled d.splits in
    let fields : List ℕ = numbers_from d.next count in
    let used : List ℕ = chosen_of mask fields in
    let kept : List ℕ = minus x d.owed ++ out in
    let even : AreEven (all_owed d) (x ∷ kept) = minus_owed d.owed out x among in
    let low : AreLow d.next kept = low_behind d.next (x ∷ []) kept (low_even d.next (x ∷ kept) (all_owed d) (even_back (all_owed d) (x ∷ kept) even) sound.low) in
    let turned : AreEven ((minus x d.owed ++ used) ++ out) (used ++ kept) = even_turned (minus x d.owed) used out in
    let given : AreLow (d.next + count) used = λ y is. low_numbers d.next count y (chosen_among mask fields y is) in
    sound_more lent d (opens_by by_count x c fields used ∷ []) (minus x d.owed ++ used) (d.next + count) d.lent sound inside ending (omega arith) sound.lends
    (leads_to d.positions lent (all_owed d) (used ++ kept) ((minus x d.owed ++ used) ++ out) (opens_by by_count x c fields used ∷ []) (even_back ((minus x d.owed ++ used) ++ out) (used ++ kept) turned)
    (subst (λ (zs : List ℕ). Leads d.positions lent (all_owed d) (zs ++ kept) (opens_by by_count x c fields used ∷ [])) (chosen_filter mask fields (numbers_apart d.next count))
    (leads_open d.positions lent by_count x c fields used (all_owed d) kept even (numbers_apart d.next count) (numbers_fresh d.next d.next count kept (omega arith) low) other)))
    (low_even (d.next + count) ((minus x d.owed ++ used) ++ out) (used ++ kept) turned (low_both (d.next + count) used kept given (low_up d.next (d.next + count) kept (omega arith) low)))

-- a cell that stays is read, and used fields get a reference more
pub sound_read : (lent : List ℕ) (d : Draft) (x c count mask : ℕ) (read : List ℕ) → IsSoundBy lent d → d.inside ≡ true → d.ending ≡ None
    → (is_among lent x ≡ true) ⊎ ((is_among (all_owed d) x ≡ true) × AreFresh (numbers_from d.next count) lent) → AreIn read lent
    → IsSoundBy lent (record (read_of d x c count mask) { lent = read })
sound_read lent d x c count mask read sound inside ending there within =
    let out : List ℕ = outside d.uncalled d.splits in
    let fields : List ℕ = numbers_from d.next count in
    let used : List ℕ = chosen_of mask fields in
    let turned : AreEven ((d.owed ++ used) ++ out) (used ++ all_owed d) = even_turned d.owed used out in
    let given : AreLow (d.next + count) used = λ y is. low_numbers d.next count y (chosen_among mask fields y is) in
    sound_more lent d (reads x c fields ∷ map dups used) (d.owed ++ used) (d.next + count) read sound inside ending (omega arith) within
    (leads_to d.positions lent (all_owed d) (used ++ all_owed d) ((d.owed ++ used) ++ out) (reads x c fields ∷ map dups used) (even_back ((d.owed ++ used) ++ out) (used ++ all_owed d) turned)
    (leads_read d.positions lent x c fields used (all_owed d) (numbers_fresh d.next d.next count (all_owed d) (omega arith) sound.low) there (λ y is. chosen_among mask fields y is)))
    (low_even (d.next + count) ((d.owed ++ used) ++ out) (used ++ all_owed d) turned (low_both (d.next + count) used (all_owed d) given (low_up d.next (d.next + count) (all_owed d) (omega arith) sound.low)))

-- ---- branches

take_among : (k : ℕ) (xs : List ℕ) (x : ℕ) → is_among (take k xs) x ≡ true → is_among xs x ≡ true
take_among zero xs x is = absurd (nothing xs is)
  where
    nothing : (ys : List ℕ) → is_among (take 0 ys) x ≡ true → ⊥
    nothing [] same = cc
    nothing (y ∷ ys) same = cc
take_among (suc k) [] x is = is
take_among (suc k) (y ∷ xs) x is = by_test (y == x) is (take_among k xs x)
  where
    by_test : (t : Bool) → (t || is_among (take k xs) x) ≡ true → (is_among (take k xs) x ≡ true → is_among xs x ≡ true) → (t || is_among xs x) ≡ true
    by_test true there later = refl
    by_test false there later = later there

pub in_take : (k : ℕ) (xs others : List ℕ) → AreIn xs others → AreIn (take k xs) others
in_take k xs others are = λ x is. are x (take_among k xs x is)

copies_are : (n : ℕ) (each : List ℕ) → AllAre each (copies n each)
copies_are zero each = tt
copies_are (suc n) each = (refl, copies_are n each)

pub sound_forked : (lent : List ℕ) (d : Draft) (on : ℕ) (decisions : List NodeTree) (each : List ℕ) (rows : ℕ) → IsSoundBy lent d → d.inside ≡ true → d.ending ≡ None → HasAll each d.owed
    → is_among (lent ++ all_owed d) on ≡ true → IsSoundBy lent (forked d on decisions each rows)
sound_forked lent d on decisions each rows sound inside ending has among =
    let out : List ℕ = outside d.uncalled d.splits in
    let around : List ℕ = minus_all each d.owed ++ out in
    let even : AreEven (all_owed d) (each ++ around) = minus_all_owed each d.owed out has in
    record {
      splits = (
        record {
          before = leads_to d.positions lent (first_of d) (all_owed d) (each ++ around) d.steps even (sound.steps inside ending);
          on = even_among (lent ++ all_owed d) (lent ++ (each ++ around)) on (even_behind lent (all_owed d) (each ++ around) even) among;
          arms = λ is. tt;
          tails = λ is. absurd (false_is_true is);
          left = copies_are rows each;
          low = low_even d.next (each ++ around) (all_owed d) (even_back (all_owed d) (each ++ around) even) sound.low;
        },
        sound.splits,
      );
      steps = λ is none. absurd (false_is_true is);
      closed = λ code is. some_is_not_none (Spent d.positions lent None (each ++ around) code × (around ≡ [])) d.ending code ending is;
      low = minus_all_low d.next each d.owed out has sound.low;
      lends = sound.lends;
      parameters = sound.parameters;
      quiet = λ is. (refl, (refl, ending));
    }
  where
    false_is_true : false ≡ true → ⊥
    false_is_true is = cc

pub sound_entered : (lent : List ℕ) (d : Draft) (split : Split) (splits : List Split) (each : List ℕ) (left : List (List ℕ)) → IsSoundBy lent d → d.inside ≡ false → d.splits ≡ split ∷ splits → split.left ≡ each ∷ left
    → IsSoundBy lent (record d { inside = true; owed = each; lent = take split.lent d.lent; splits = record split { left = left } ∷ splits })
sound_entered lent d split splits each left sound outer is left_is =
    let fine : AreFine d.positions lent d.next (owned_parameters d) d.uncalled (split ∷ splits) = subst (λ (all : List Split). AreFine d.positions lent d.next (owned_parameters d) d.uncalled all) is sound.splits in
    let around : List ℕ = outside d.uncalled (split ∷ splits) in
    let are : AllAre split.each (each ∷ left) = subst (λ (all : List (List ℕ)). AllAre split.each all) left_is fine.0.left in
    let quiet : (d.steps ≡ []) × ((d.owed ≡ []) × (d.ending ≡ None)) = sound.quiet outer in
    record {
      splits =
          (record { before = fine.0.before; on = fine.0.on; arms = fine.0.arms; tails = fine.0.tails; left = are.1; low = fine.0.low }, fine.1);
      steps = λ inside none. subst (λ (moves : List Move). Leads d.positions lent (split.each ++ around) (each ++ around) moves) (sym quiet.0)
          (subst (λ (xs : List ℕ). Leads d.positions lent (split.each ++ around) (xs ++ around) []) (sym are.0) (λ left rest spent. spent));
      closed = λ code known. some_is_not_none (Spent d.positions lent None (split.each ++ around) (plug d.steps code) × (around ≡ [])) d.ending code quiet.1.1 known;
      low = subst (λ (xs : List ℕ). AreLow d.next (xs ++ around)) (sym are.0) fine.0.low;
      lends = in_take split.lent d.lent lent sound.lends;
      parameters = sound.parameters;
      quiet = λ out. absurd (true_is_false out);
    }
  where
    true_is_false : true ≡ false → ⊥
    true_is_false is = cc
