-- The pool of numbered cells: what an assignment of names gives, and that steps keep it.
use Rattle.std.proofs.Common.{◌≡◌, ℕ, zero, suc, ◌+◌, ◌≤◌, ◌<◌, ◌==◌, ◌&&◌, Bool, true, false, [], ◌∷◌, length, Option, Some, None, arith, refl, sym, ap, ◌∙◌, subst}
use Rattle.std.specs.Prelude.{if◌then◌else◌, nat_le}
use Rattle.kk_source.specs.Live.{counted as number_of}
use Rattle.kk_counted.specs.Heaps.{Held, Heap, held_at, count_in, count_at, busy}
use Rattle.kk_counted.specs.Tokens.{Mark, plain, token_of, one_if_token, Tokens, marked}
use Rattle.kk_counted.specs.TokenKeeping.{ArePooled}
use Rattle.kk_counted.specs.TokenStates.{TokenConfiguration}
use Rattle.kk_counted.specs.NumberedPool.{is_used, by_count, by_held, named, is_alive, IsPlaced, numbered_by, numbered, IsPool, assigned_with, Growth, stays, grows, Placing, same as kept_same, new}
use Rattle.kk_counted.proofs.CountChanges.{same, itself, count_top, count_below, counted_within}
use Rattle.kk_counted.proofs.Heaps.{positive}
use Rattle.kk_counted.proofs.Places.{busy_passing}

-- ---- names in use

-- a name in use is counted, or a token that is there
pub data Alive (heap : Heap) (marks : ℕ → Mark) (p : ℕ) : Type 0 where
  by_references : 1 ≤ count_at heap p → Alive heap marks p
  by_token : (f y : ℕ) → marks p ≡ token_of f y → p < length heap → Alive heap marks p

held_within : (heap : Heap) (p : ℕ) (held : Held) → held_at heap p ≡ Some held → p < length heap
held_within [] p held is = absurd (cc)
held_within (other ∷ heap) p held is = by_test (length heap == p) refl is (held_within heap p held)
  where
    by_test : (t : Bool) → (length heap == p) ≡ t → (if t then Some other else held_at heap p) ≡ Some held
        → (held_at heap p ≡ Some held → p < length heap) → p < suc (length heap)
    by_test true test equal later = omega (arith, same (length heap) p test)
    by_test false test equal later = omega (arith, later equal)

held_there : (heap : Heap) (p : ℕ) → p < length heap → (held : Held) × (held_at heap p ≡ Some held)
held_there [] p less = absurd (omega (arith, less))
held_there (other ∷ heap) p less = by_test (length heap == p) refl (held_there heap p)
  where
    below : (length heap == p) ≡ false → p < length heap
    below test = grind arith

    by_test : (t : Bool) → (length heap == p) ≡ t → (p < length heap → (held : Held) × (held_at heap p ≡ Some held))
        → (held : Held) × ((if t then Some other else held_at heap p) ≡ Some held)
    by_test true test later = (other, refl)
    by_test false test later = later (below test)

pub alive_is : (heap : Heap) (marks : ℕ → Mark) (p : ℕ) → is_alive heap marks p ≡ true → Alive heap marks p
alive_is heap marks p alive = by_found (held_at heap p) refl alive
  where
    by_mark : (held : Held) (mark : Mark) → held_at heap p ≡ Some held → marks p ≡ mark
        → is_used (by_count zero held.cell mark) ≡ true → Alive heap marks p
    by_mark held plain here marked_is used = absurd (cc)
    by_mark held (token_of f y) here marked_is used = by_token f y marked_is (held_within heap p held here)

    by_number : (held : Held) (count : ℕ) → held_at heap p ≡ Some held → held.count ≡ count
        → is_used (by_count count held.cell (marks p)) ≡ true → Alive heap marks p
    by_number held zero here counted_is used = by_mark held (marks p) here refl used
    by_number held (suc count) here counted_is used = by_references (omega (arith, ap count_in here, counted_is))

    by_found : (found : Option Held) → held_at heap p ≡ found → is_used (by_held found (marks p)) ≡ true → Alive heap marks p
    by_found None here used = absurd (cc)
    by_found (Some held) here used = by_number held held.count here refl used

pub is_alive_by : (heap : Heap) (marks : ℕ → Mark) (p : ℕ) → Alive heap marks p → is_alive heap marks p ≡ true
is_alive_by heap marks p (by_references counted_is) = by_found (held_at heap p) refl
  where
    by_number : (held : Held) (count : ℕ) → held_at heap p ≡ Some held → held.count ≡ count
        → is_used (by_count count held.cell (marks p)) ≡ true
    by_number held zero here count_is = absurd (omega (arith, ap count_in here, count_is, counted_is))
    by_number held (suc count) here count_is = refl

    by_found : (found : Option Held) → held_at heap p ≡ found → is_used (by_held found (marks p)) ≡ true
    by_found None here = absurd (omega (arith, ap count_in here, counted_is))
    by_found (Some held) here = by_number held held.count here refl
is_alive_by heap marks p (by_token f y marked_is less) =
    let found = held_there heap p less in
    ap (λ o. is_used (by_held o (marks p))) found.1
    ∙ (ap (λ mark. is_used (by_count found.0.count found.0.cell mark)) marked_is ∙ either found.0.count)
  where
    either : (count : ℕ) → is_used (by_count count (held_there heap p less).0.cell (token_of f y)) ≡ true
    either zero = refl
    either (suc count) = refl

and_first : (a b : Bool) → (a && b) ≡ true → a ≡ true
and_first true b is = refl
and_first false b is = is

and_second : (a b : Bool) → (a && b) ≡ true → b ≡ true
and_second true b is = is
and_second false b is = absurd (cc)

-- ---- numbers of cells that pass a test

abbrev one_if : Bool → ℕ
one_if b = if b then 1 else 0

number_same : (f g : ℕ → Bool) (n : ℕ) → ((q : ℕ) → q < n → g q ≡ f q) → number_of g n ≡ number_of f n
number_same f g zero equal = refl
number_same f g (suc n) equal =
    omega (arith, number_same f g n (λ q less. equal q (omega (arith, less))), ap one_if (equal n (omega arith)))

number_more : (f g : ℕ → Bool) (p n : ℕ) → p < n → f p ≡ false → g p ≡ true → ((q : ℕ) → (q == p) ≡ false → g q ≡ f q)
    → number_of g n ≡ suc (number_of f n)
number_more f g p zero less was is equal = absurd (omega (arith, less))
number_more f g p (suc n) less was is equal = by_test (n == p) refl (number_more f g p n)
  where
    apart : (q : ℕ) → n ≡ p → q < n → (q == p) ≡ false
    apart q here less = grind arith

    below : (n == p) ≡ false → p < n
    below test = grind arith

    by_test : (t : Bool) → (n == p) ≡ t → (p < n → f p ≡ false → g p ≡ true → ((q : ℕ) → (q == p) ≡ false → g q ≡ f q)
        → number_of g n ≡ suc (number_of f n)) → number_of g (suc n) ≡ suc (number_of f (suc n))
    by_test true test later =
        omega (
          arith,
          number_same f g n (λ q less. equal q (apart q (same n p test) less)),
          ap one_if (ap f (same n p test) ∙ was),
          ap one_if (ap g (same n p test) ∙ is),
        )
    by_test false test later = omega (arith, later (below test) was is equal, ap one_if (equal n test))

number_none : (f : ℕ → Bool) (n : ℕ) → ((q : ℕ) → q < n → f q ≡ false) → number_of f n ≡ 0
number_none f zero none = refl
number_none f (suc n) none =
    omega (arith, number_none f n (λ q less. none q (omega (arith, less))), ap one_if (none n (omega arith)))

one_is_left : (f : ℕ → Bool) (n : ℕ) → number_of f n < n → (c : ℕ) × ((c < n) × (f c ≡ false))
one_is_left f zero fewer = absurd (omega (arith, fewer))
one_is_left f (suc n) fewer = by_test (f n) refl (one_is_left f n)
  where
    by_test : (t : Bool) → f n ≡ t → (number_of f n < n → (c : ℕ) × ((c < n) × (f c ≡ false)))
        → (c : ℕ) × ((c < suc n) × (f c ≡ false))
    by_test false test later = (n, (omega arith, test))
    by_test true test later =
        let rest = later (omega (arith, fewer, ap one_if test)) in (rest.0, (omega (arith, rest.1.0), rest.1.1))

-- ---- the pool of an assignment

module _ (cells : ℕ) (assigned : ℕ → ℕ) (heap : Heap) (marks : ℕ → Mark) (placed : IsPlaced cells assigned heap marks) where
  -- by the first names, a used cell is that of one of them
  of_name : (n c : ℕ) → is_used (numbered_by assigned heap marks n c) ≡ true
      → (p : ℕ) × ((p < n) × ((is_alive heap marks p ≡ true) × (assigned p ≡ c)))
  of_name zero c used = absurd (cc)
  of_name (suc n) c used = by_test (is_alive heap marks n && (assigned n == c)) refl used (of_name n c)
    where
      by_test : (t : Bool) → (is_alive heap marks n && (assigned n == c)) ≡ t
          → is_used (if t then named heap marks n else numbered_by assigned heap marks n c) ≡ true
          → (is_used (numbered_by assigned heap marks n c) ≡ true
          → (p : ℕ) × ((p < n) × ((is_alive heap marks p ≡ true) × (assigned p ≡ c))))
          → (p : ℕ) × ((p < suc n) × ((is_alive heap marks p ≡ true) × (assigned p ≡ c)))
      by_test true test used later = (
        n,
        (
          omega arith,
          (
            and_first (is_alive heap marks n) (assigned n == c) test,
            same (assigned n) c
                (and_second (is_alive heap marks n) (assigned n == c) test),
          ),
        ),
      )
      by_test false test used later = let rest = later used in (rest.0, (omega (arith, rest.1.0), rest.1.1))

  has_name : (n p : ℕ) → p < n → is_alive heap marks p ≡ true → numbered_by assigned heap marks n (assigned p) ≡ named heap marks p
  has_name zero p less alive = absurd (omega (arith, less))
  has_name (suc n) p less alive = by_test (is_alive heap marks n && (assigned n == assigned p)) refl (has_name n p)
    where
      by_test : (t : Bool) → (is_alive heap marks n && (assigned n == assigned p)) ≡ t
          → (p < n → is_alive heap marks p ≡ true → numbered_by assigned heap marks n (assigned p) ≡ named heap marks p)
          → (if t then named heap marks n else numbered_by assigned heap marks n (assigned p)) ≡ named heap marks p
      by_test true test later =
          ap (named heap marks)
          (placed.own n p (and_first (is_alive heap marks n) (assigned n == assigned p) test) alive
          (same (assigned n) (assigned p) (and_second (is_alive heap marks n) (assigned n == assigned p) test)))
      by_test false test later = by_name (n == p) refl
        where
          below : (n == p) ≡ false → p < n
          below apart = grind arith

          by_name : (t : Bool) → (n == p) ≡ t → numbered_by assigned heap marks n (assigned p) ≡ named heap marks p
          by_name true here =
              let found : (is_alive heap marks n && (assigned n == assigned p)) ≡ true = ap
              (λ q. is_alive heap marks q && (assigned q == assigned p)) (same n p here) ∙ rw alive (itself (assigned p)) in
              absurd (cc)
          by_name false apart = later (below apart) alive

  number_by : (n : ℕ) → number_of (λ c. is_used (numbered_by assigned heap marks n c)) cells ≡ number_of (is_alive heap marks) n
  number_by zero = number_none (λ c. is_used (numbered_by assigned heap marks zero c)) cells (λ q less. refl)
  number_by (suc n) = by_alive (is_alive heap marks n) refl (number_by n)
    where
      turned : (q : ℕ) → (q == assigned n) ≡ false → (assigned n == q) ≡ false
      turned q apart = grind arith

      no_name : (t : Bool) → is_used (numbered_by assigned heap marks n (assigned n)) ≡ t → is_alive heap marks n ≡ true
          → is_used (numbered_by assigned heap marks n (assigned n)) ≡ false
      no_name true used alive =
          let found = of_name n (assigned n) used in
          absurd (omega (arith, placed.own found.0 n found.1.1.0 alive found.1.1.1, found.1.0))
      no_name false used alive = used

      by_alive : (t : Bool) → is_alive heap marks n ≡ t
          → number_of (λ c. is_used (numbered_by assigned heap marks n c)) cells ≡ number_of (is_alive heap marks) n
          → number_of (λ c. is_used (numbered_by assigned heap marks (suc n) c)) cells ≡ number_of (is_alive heap marks) (suc n)
      by_alive false dead later =
          omega (
            arith,
            number_same (λ c. is_used (numbered_by assigned heap marks n c))
                (λ c. is_used (numbered_by assigned heap marks (suc n) c)) cells
                (λ q less. ap (λ b. is_used (if b && (assigned n == q) then named heap marks n else numbered_by assigned heap marks
                n q)) dead),
            later,
            ap one_if dead,
          )
      by_alive true alive later =
          omega (
            arith,
            number_more (λ c. is_used (numbered_by assigned heap marks n c))
                (λ c. is_used (numbered_by assigned heap marks (suc n) c)) (assigned n) cells (placed.within n alive)
                (no_name (is_used (numbered_by assigned heap marks n (assigned n))) refl alive)
                (ap (λ b. is_used (if b && (assigned n == assigned n) then named heap marks n else numbered_by assigned heap marks n
                (assigned n))) alive
                ∙ (ap (λ b. is_used (if b then named heap marks n else numbered_by assigned heap marks n (assigned n)))
                (itself (assigned n)) ∙ alive))
                (λ q apart.
                ap (λ b. is_used (if b && (assigned n == q) then named heap marks n else numbered_by assigned heap marks n q)) alive
                ∙ ap (λ b. is_used (if b then named heap marks n else numbered_by assigned heap marks n q)) (turned q apart)),
            later,
            ap one_if alive,
          )

-- a token's cell is not counted
abbrev Uncounted : Heap → (ℕ → Mark) → Type 0
Uncounted heap marks = (f y p : ℕ) → marks p ≡ token_of f y → count_at heap p ≡ 0

alive_parts : (heap : Heap) (marks : ℕ → Mark) (n : ℕ) → Uncounted heap marks → n ≤ length heap
    → number_of (is_alive heap marks) n ≡ number_of (λ p. nat_le 1 (count_at heap p)) n + marked marks n
alive_parts heap marks zero uncounted within = refl
alive_parts heap marks (suc n) uncounted within =
    omega (arith, alive_parts heap marks n uncounted (omega (arith, within)), one_name (count_at heap n) refl (marks n) refl)
  where
    counts : (count : ℕ) → count_at heap n ≡ suc count → nat_le 1 (count_at heap n) ≡ true
    counts count is = grind arith

    counts_not : count_at heap n ≡ 0 → nat_le 1 (count_at heap n) ≡ false
    counts_not is = grind arith

    dead : (t : Bool) → is_alive heap marks n ≡ t → count_at heap n ≡ 0 → marks n ≡ plain → is_alive heap marks n ≡ false
    dead false is none unmarked = is
    dead true is none unmarked = by_kind (alive_is heap marks n is)
      where
        by_kind : Alive heap marks n → is_alive heap marks n ≡ false
        by_kind (by_references one) = absurd (omega (arith, one, none))
        by_kind (by_token f y marked_is less) = let clash : plain ≡ token_of f y = sym unmarked ∙ marked_is in absurd (cc)

    one_name : (count : ℕ) → count_at heap n ≡ count → (mark : Mark) → marks n ≡ mark
        → (if is_alive heap marks n then 1 else 0) ≡ (if nat_le 1 (count_at heap n) then 1 else 0) + one_if_token (marks n)
    one_name (suc count) is plain marked_is =
        omega (
          arith,
          ap one_if (is_alive_by heap marks n (by_references (omega (arith, is)))),
          ap one_if (counts count is),
          ap one_if_token marked_is,
        )
    one_name (suc count) is (token_of f y) marked_is = absurd (omega (arith, uncounted f y n marked_is, is))
    one_name zero is (token_of f y) marked_is =
        omega (
          arith,
          ap one_if (is_alive_by heap marks n (by_token f y marked_is (omega (arith, within)))),
          ap one_if (counts_not is),
          ap one_if_token marked_is,
        )
    one_name zero is plain marked_is =
        omega (
          arith,
          ap one_if (dead (is_alive heap marks n) refl is marked_is),
          ap one_if (counts_not is),
          ap one_if_token marked_is,
        )

alive_number : (heap : Heap) (marks : ℕ → Mark) → Uncounted heap marks
    → number_of (is_alive heap marks) (length heap) ≡ busy heap + marked marks (length heap)
alive_number heap marks uncounted =
    omega (
      arith,
      alive_parts heap marks (length heap) uncounted (omega arith),
      busy_passing heap (λ p. nat_le 1 (count_at heap p)) (λ p less is. one p is) (λ p less is. test p is),
    )
  where
    one : (p : ℕ) → nat_le 1 (count_at heap p) ≡ true → 1 ≤ count_at heap p
    one p is = grind arith

    test : (p : ℕ) → 1 ≤ count_at heap p → nat_le 1 (count_at heap p) ≡ true
    test p is = grind arith

number_is : (cells : ℕ) (assigned : ℕ → ℕ) (heap : Heap) (marks : ℕ → Mark) → Uncounted heap marks
    → IsPlaced cells assigned heap marks
    → number_of (λ c. is_used (numbered assigned heap marks c)) cells ≡ busy heap + marked marks (length heap)
number_is cells assigned heap marks uncounted placed =
    number_by cells assigned heap marks placed (length heap) ∙ alive_number heap marks uncounted

alive_below : (heap : Heap) (marks : ℕ → Mark) (p : ℕ) → is_alive heap marks p ≡ true → p < length heap
alive_below heap marks p alive = by_kind (alive_is heap marks p alive)
  where
    by_kind : Alive heap marks p → p < length heap
    by_kind (by_references one) = let more = positive (count_at heap p) one in counted_within heap p more.0 more.1
    by_kind (by_token f y marked_is less) = less

pub pool_is : (cells : ℕ) (assigned : ℕ → ℕ) (heap : Heap) (tokens : Tokens) → ArePooled cells heap tokens
    → IsPlaced cells assigned heap tokens.marks → IsPool cells assigned heap tokens.marks
pool_is cells assigned heap tokens pooled placed =
    record {
      names =
          λ p alive. has_name cells assigned heap tokens.marks placed (length heap) p (alive_below heap tokens.marks p alive) alive;
      others = λ c used. let found = of_name cells assigned heap tokens.marks placed (length heap) c used in (found.0, found.1.1);
      number = number_is cells assigned heap tokens.marks pooled.uncounted placed;
    }

-- ---- steps

fewer_placed : (cells : ℕ) (assigned : ℕ → ℕ) (heap after : Heap) (marks others : ℕ → Mark)
    → ((p : ℕ) → is_alive after others p ≡ true → is_alive heap marks p ≡ true) → IsPlaced cells assigned heap marks
    → IsPlaced cells assigned after others
fewer_placed cells assigned heap after marks others fewer placed =
    record {
      within = λ p alive. placed.within p (fewer p alive);
      own = λ p q first second equal. placed.own p q (fewer p first) (fewer q second) equal;
    }

grown_placed : (cells : ℕ) (assigned : ℕ → ℕ) (held : Held) (heap : Heap) (marks : ℕ → Mark) (c : ℕ) → c < cells
    → is_used (numbered assigned heap marks c) ≡ false → IsPlaced cells assigned heap marks
    → IsPlaced cells (assigned_with (length heap) c assigned) (record held { count = 1 } ∷ heap) marks
grown_placed cells assigned held heap marks c less unused placed =
    record {
      within = λ p alive. within p alive (p == length heap) refl;
      own = λ p q first second equal. own p q first second equal (p == length heap) refl (q == length heap) refl;
    }
  where
    older : (p : ℕ) → (p == length heap) ≡ false → is_alive (record held { count = 1 } ∷ heap) marks p ≡ true
        → is_alive heap marks p ≡ true
    older p apart alive =
        sym (ap (λ b. is_used (by_held (if b then Some (record held { count = 1 }) else held_at heap p) (marks p))) (turned apart))
        ∙ alive
      where
        turned : (p == length heap) ≡ false → (length heap == p) ≡ false
        turned apart = grind arith

    given_new : (p : ℕ) → (p == length heap) ≡ true → assigned_with (length heap) c assigned p ≡ c
    given_new p test = ap (λ b. if b then c else assigned p) test

    given_old : (p : ℕ) → (p == length heap) ≡ false → assigned_with (length heap) c assigned p ≡ assigned p
    given_old p test = ap (λ b. if b then c else assigned p) test

    -- no name in use has the free cell
    not_old : (p : ℕ) → is_alive heap marks p ≡ true → assigned p ≡ c → ⊥
    not_old p alive is =
        let used : is_used (numbered assigned heap marks c) ≡ true = ap (λ d. is_used (numbered assigned heap marks d)) (sym is)
        ∙ (ap is_used (has_name cells assigned heap marks placed (length heap) p (alive_below heap marks p alive) alive)
        ∙ alive) in
        absurd (cc)

    within : (p : ℕ) → is_alive (record held { count = 1 } ∷ heap) marks p ≡ true → (t : Bool) → (p == length heap) ≡ t
        → assigned_with (length heap) c assigned p < cells
    within p alive true test = omega (arith, given_new p test, less)
    within p alive false test = omega (arith, given_old p test, placed.within p (older p test alive))

    own : (p q : ℕ) → is_alive (record held { count = 1 } ∷ heap) marks p ≡ true
        → is_alive (record held { count = 1 } ∷ heap) marks q ≡ true
        → assigned_with (length heap) c assigned p ≡ assigned_with (length heap) c assigned q
        → (t : Bool) → (p == length heap) ≡ t → (u : Bool) → (q == length heap) ≡ u → p ≡ q
    own p q first second equal true one true two = same p (length heap) one ∙ sym (same q (length heap) two)
    own p q first second equal true one false two =
        absurd (not_old q (older q two second) (sym (given_old q two) ∙ (sym equal ∙ given_new p one)))
    own p q first second equal false one true two =
        absurd (not_old p (older p one first) (sym (given_old p one) ∙ (equal ∙ given_new q two)))
    own p q first second equal false one false two =
        placed.own p q (older p one first) (older q two second) (sym (given_old p one) ∙ (equal ∙ given_old q two))

pub growth_places : (cells : ℕ) (assigned : ℕ → ℕ) (from to : TokenConfiguration) → ArePooled cells to.heap to.tokens
    → IsPlaced cells assigned from.heap from.tokens.marks → Growth cells from to → Placing cells assigned from to
growth_places cells assigned from to pooled placed (stays cells_are fewer) =
    kept_same (fewer_placed cells assigned from.heap to.heap from.tokens.marks to.tokens.marks fewer placed)
growth_places cells assigned from to pooled placed (grows held is fewer room) =
    new
    (λ c less unused.
    subst (λ heap. IsPlaced cells (assigned_with (length from.heap) c assigned) heap to.tokens.marks) (sym is)
    (grown_placed cells assigned held from.heap to.tokens.marks c less unused without_new))
    (one_is_left (λ c. is_used (numbered assigned from.heap to.tokens.marks c)) cells
    (omega (arith, number_is cells assigned from.heap to.tokens.marks uncounted without_new, room)))
  where
    without_new : IsPlaced cells assigned from.heap to.tokens.marks
    without_new = fewer_placed cells assigned from.heap from.heap from.tokens.marks to.tokens.marks fewer placed

    uncounted : Uncounted from.heap to.tokens.marks
    uncounted f y p marked_is = by_test (length from.heap == p) refl
      where
        none : count_at (record held { count = 1 } ∷ from.heap) p ≡ 0
        none = ap (λ heap. count_at heap p) (sym is) ∙ pooled.uncounted f y p marked_is

        by_test : (t : Bool) → (length from.heap == p) ≡ t → count_at from.heap p ≡ 0
        by_test true test = absurd (omega (arith, count_top (record held { count = 1 }) from.heap p test, none))
        by_test false test = sym (count_below (record held { count = 1 }) from.heap p test) ∙ none
