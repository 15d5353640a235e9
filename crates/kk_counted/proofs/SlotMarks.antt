-- Slots and marks: what stays true of them where a slot gains a token, loses it or is blanked, and where a cell is made.
use Rattle.std.proofs.Common.{◌≡◌, ℕ, zero, suc, ◌+◌, ◌≤◌, ◌<◌, ◌==◌, ◌&&◌, Bool, true, false, ◌∷◌, length, arith, refl, sym, ap, ◌∙◌}
use Rattle.std.specs.Prelude.{if◌then◌else◌}
use Rattle.kk_counted.specs.Heaps.{Held, Heap, count_at, busy}
use Rattle.kk_counted.specs.Tokens.{Slot, spent, null, token, is_token, Mark, plain, token_of, one_if_token, Tokens, marked, slots_with, marks_with, blanked, released, gained, is_of, by_slot, by_token}
use Rattle.kk_counted.specs.TokenKeeping.{ArePooled}
use Rattle.kk_counted.proofs.CountChanges.{same, itself, count_below}
use Rattle.kk_counted.proofs.HeapChanges.{Eased, fewer_busy}

-- ---- one slot changes

-- a slot is the one that changes, or it is another
pub data Which (f y g z : ℕ) : Type 0 where
  this : f ≡ g → y ≡ z → Which f y g z
  other : ((g == f) && (z == y)) ≡ false → Which f y g z

pub which : (f y g z : ℕ) → Which f y g z
which f y g z = by_first (g == f) refl (z == y) refl
  where
    by_first : (s : Bool) → (g == f) ≡ s → (t : Bool) → (z == y) ≡ t → Which f y g z
    by_first true first true second = this (sym (same g f first)) (sym (same z y second))
    by_first true first false second = other (rw first second)
    by_first false first t second = other (rw first refl)

pub slot_here : (f y : ℕ) (slot : Slot) (slots : ℕ → ℕ → Slot) → slots_with f y slot slots f y ≡ slot
slot_here f y slot slots = rw (itself f) (rw (itself y) refl)

pub slot_there : (f y g z : ℕ) (slot : Slot) (slots : ℕ → ℕ → Slot) → ((g == f) && (z == y)) ≡ false
    → slots_with f y slot slots g z ≡ slots g z
slot_there f y g z slot slots apart = rw apart refl

pub mark_here : (p : ℕ) (mark : Mark) (marks : ℕ → Mark) → marks_with p mark marks p ≡ mark
mark_here p mark marks = rw (itself p) refl

pub mark_there : (p q : ℕ) (mark : Mark) (marks : ℕ → Mark) → (q == p) ≡ false → marks_with p mark marks q ≡ marks q
mark_there p q mark marks apart = rw apart refl

pub slot_at : (f y g z : ℕ) (slot : Slot) (slots : ℕ → ℕ → Slot) → f ≡ g → y ≡ z → slots_with f y slot slots g z ≡ slot
slot_at f y g z slot slots first second =
    ap (λ h. slots_with f y slot slots h z) (sym first)
    ∙ (ap (λ x. slots_with f y slot slots f x) (sym second) ∙ slot_here f y slot slots)

pub no_token : (slot : Slot) (p : ℕ) → is_token slot ≡ false → slot ≡ token p → ⊥
no_token spent p empty is = absurd (cc)
no_token null p empty is = absurd (cc)
no_token (token q) p empty is = absurd (cc)

-- ---- how many cells are marked

pub marked_beyond : (p n : ℕ) (mark : Mark) (marks : ℕ → Mark) → n ≤ p → marked (marks_with p mark marks) n ≡ marked marks n
marked_beyond p zero mark marks far = refl
marked_beyond p (suc n) mark marks far =
    let apart : (n == p) ≡ false = grind arith in
    rw (mark_there p n mark marks apart) (ap (λ m. one_if_token (marks n) + m) (marked_beyond p n mark marks (omega (arith, far))))

less_than : (n p : ℕ) → (n == p) ≡ false → p ≤ n → p < n
less_than n p apart le = grind arith

pub marked_with : (p n : ℕ) (mark : Mark) (marks : ℕ → Mark) → p < n
    → marked (marks_with p mark marks) n + one_if_token (marks p) ≡ marked marks n + one_if_token mark
marked_with p zero mark marks less = absurd (omega (arith, less))
marked_with p (suc n) mark marks less = by_test (n == p) refl (marked_with p n mark marks)
  where
    by_test : (t : Bool) → (n == p) ≡ t → (p < n → marked (marks_with p mark marks) n + one_if_token (marks p) ≡ marked marks n +
        one_if_token mark) → marked (marks_with p mark marks) (suc n) + one_if_token (marks p) ≡ marked marks (suc n) + one_if_token
        mark
    by_test true is later =
        omega (
          arith,
          marked_beyond p n mark marks (omega (arith, same n p is)),
          ap (λ q. one_if_token (marks q)) (same n p is),
          ap one_if_token (ap (marks_with p mark marks) (same n p is) ∙ mark_here p mark marks),
        )
    by_test false is later =
        omega (arith, ap one_if_token (mark_there p n mark marks is), later (less_than n p is (omega (arith, less))))

pub none_marked : (n : ℕ) (marks : ℕ → Mark) → ((p : ℕ) → p < n → one_if_token (marks p) ≡ 0) → marked marks n ≡ 0
none_marked zero marks none = refl
none_marked (suc n) marks none =
    omega (arith, none n (omega arith), none_marked n marks (λ p less. none p (omega (arith, less))))

pub one_marked : (p n : ℕ) (marks : ℕ → Mark) → p < n → one_if_token (marks p) ≤ marked marks n
one_marked p zero marks less = absurd (omega (arith, less))
one_marked p (suc n) marks less = by_test (n == p) refl (one_marked p n marks)
  where
    by_test : (t : Bool) → (n == p) ≡ t → (p < n → one_if_token (marks p) ≤ marked marks n)
        → one_if_token (marks p) ≤ marked marks (suc n)
    by_test true is later = omega (arith, ap (λ q. one_if_token (marks q)) (same n p is))
    by_test false is later = omega (arith, later (less_than n p is (omega (arith, less))))

apart_marks : (f y g z : ℕ) → ((g == f) && (z == y)) ≡ false → token_of f y ≡ token_of g z → ⊥
apart_marks f y g z apart is =
    let first : f ≡ g = cc in
    let second : y ≡ z = cc in
    let both : ((g == f) && (z == y)) ≡ true = rw first (rw second (rw (itself g) (itself z))) in
    absurd (cc)

pub plain_is_none : (g z : ℕ) → plain ≡ token_of g z → ⊥
plain_is_none g z is = absurd (cc)

apart_tokens : (p q : ℕ) → (q == p) ≡ false → token p ≡ token q → ⊥
apart_tokens p q apart is =
    let equal : p ≡ q = cc in
    let test : (q == p) ≡ true = rw equal (itself q) in
    absurd (cc)

-- ---- the pool

module _ (cells : ℕ) where
  pub pooled_eased : (before after : Heap) (tokens : Tokens) → Eased before after → ArePooled cells before tokens
      → ArePooled cells after tokens
  pooled_eased before after tokens eased pooled =
      record {
        marks = pooled.marks;
        slots = pooled.slots;
        uncounted = λ f y p is. eased.zeros p (pooled.uncounted f y p is);
        there = λ f y p is. omega (arith, pooled.there f y p is, eased.many);
        room = rw eased.many (omega (arith, pooled.room, fewer_busy before after eased));
      }

  -- a slot without a token is given another value that is no token
  pub pooled_blanked : (f y : ℕ) (slot : Slot) (heap : Heap) (tokens : Tokens) → is_token (tokens.slots f y) ≡ false
      → is_token slot ≡ false
      → ArePooled cells heap tokens → ArePooled cells heap (blanked f y slot tokens)
  pooled_blanked f y slot heap tokens empty new pooled =
      record {
        marks = λ g z p is. marks_are g z p (which f y g z) is;
        slots = λ g z p is. slots_are g z p (which f y g z) is;
        uncounted = pooled.uncounted;
        there = pooled.there;
        room = pooled.room;
      }
    where
      marks_are : (g z p : ℕ) → Which f y g z → slots_with f y slot tokens.slots g z ≡ token p → tokens.marks p ≡ token_of g z
      marks_are g z p (this first second) is =
          absurd (no_token slot p new (sym (slot_at f y g z slot tokens.slots first second) ∙ is))
      marks_are g z p (other apart) is = pooled.marks g z p (sym (slot_there f y g z slot tokens.slots apart) ∙ is)

      slots_are : (g z p : ℕ) → Which f y g z → tokens.marks p ≡ token_of g z → slots_with f y slot tokens.slots g z ≡ token p
      slots_are g z p (this first second) is =
          absurd (no_token (tokens.slots f y) p empty
          (ap (λ h. tokens.slots h y) first ∙ (ap (tokens.slots g) second ∙ pooled.slots g z p is)))
      slots_are g z p (other apart) is = slot_there f y g z slot tokens.slots apart ∙ pooled.slots g z p is

  -- the cell of a token that is released makes room
  pub released_room : (f y p : ℕ) (slot : Slot) (heap : Heap) (tokens : Tokens) → tokens.slots f y ≡ token p
      → ArePooled cells heap tokens → suc (marked (released f y p slot tokens).marks (length heap)) ≡ marked tokens.marks
      (length heap)
  released_room f y p slot heap tokens has pooled =
      omega (
        arith,
        marked_with p (length heap) plain tokens.marks (pooled.there f y p (pooled.marks f y p has)),
        ap one_if_token (pooled.marks f y p has),
      )

  pub pooled_released : (f y p : ℕ) (slot : Slot) (heap : Heap) (tokens : Tokens) → tokens.slots f y ≡ token p
      → is_token slot ≡ false
      → ArePooled cells heap tokens → ArePooled cells heap (released f y p slot tokens)
  pooled_released f y p slot heap tokens has new pooled =
      record {
        marks = λ g z q is. marks_are g z q (which f y g z) is (q == p) refl;
        slots = λ g z q is. slots_are g z q (still g z q is (q == p) refl) (which f y g z);
        uncounted = λ g z q is. pooled.uncounted g z q (still g z q is (q == p) refl).0;
        there = λ g z q is. pooled.there g z q (still g z q is (q == p) refl).0;
        room = omega (arith, pooled.room, released_room f y p slot heap tokens has pooled);
      }
    where
      marks_are : (g z q : ℕ) → Which f y g z → slots_with f y slot tokens.slots g z ≡ token q → (t : Bool) → (q == p) ≡ t
          → marks_with p plain tokens.marks q ≡ token_of g z
      marks_are g z q (this first second) is t test =
          absurd (no_token slot q new (sym (slot_at f y g z slot tokens.slots first second) ∙ is))
      marks_are g z q (other apart) is true test =
          absurd (apart_marks f y g z apart (sym (pooled.marks f y p has)
          ∙ (ap tokens.marks (sym (same q p test)) ∙ pooled.marks g z q
          (sym (slot_there f y g z slot tokens.slots apart) ∙ is))))
      marks_are g z q (other apart) is false test =
          mark_there p q plain tokens.marks test ∙ pooled.marks g z q (sym (slot_there f y g z slot tokens.slots apart) ∙ is)

      still : (g z q : ℕ) → marks_with p plain tokens.marks q ≡ token_of g z → (t : Bool) → (q == p) ≡ t
          → (tokens.marks q ≡ token_of g z) × ((q == p) ≡ false)
      still g z q is true test =
          absurd (plain_is_none g z (sym (mark_here p plain tokens.marks)
          ∙ (ap (marks_with p plain tokens.marks) (sym (same q p test)) ∙ is)))
      still g z q is false test = (sym (mark_there p q plain tokens.marks test) ∙ is, test)

      slots_are : (g z q : ℕ) → (tokens.marks q ≡ token_of g z) × ((q == p) ≡ false) → Which f y g z
          → slots_with f y slot tokens.slots g z ≡ token q
      slots_are g z q was (this first second) =
          absurd (apart_tokens p q was.1 (sym has ∙ (ap (λ h. tokens.slots h y) first
          ∙ (ap (tokens.slots g) second ∙ pooled.slots g z q was.0))))
      slots_are g z q was (other apart) = slot_there f y g z slot tokens.slots apart ∙ pooled.slots g z q was.0

  pub pooled_gained : (f y p : ℕ) (heap : Heap) (tokens : Tokens) → is_token (tokens.slots f y) ≡ false → tokens.marks p ≡ plain
      → count_at heap p ≡ 0 → p < length heap
      → suc (busy heap + marked tokens.marks (length heap)) ≤ cells
      → ArePooled cells heap tokens → ArePooled cells heap (gained f y p tokens)
  pooled_gained f y p heap tokens empty unmarked uncounted there room pooled =
      record {
        marks = λ g z q is. marks_are g z q (which f y g z) is (q == p) refl;
        slots = λ g z q is. slots_are g z q is (which f y g z) (q == p) refl;
        uncounted = λ g z q is. uncounted_is g z q is (q == p) refl;
        there = λ g z q is. there_is g z q is (q == p) refl;
        room = omega (arith, room, marked_with p (length heap) (token_of f y) tokens.marks there, ap one_if_token unmarked);
      }
    where
      old : (q : ℕ) → (q == p) ≡ false → marks_with p (token_of f y) tokens.marks q ≡ tokens.marks q
      old q test = mark_there p q (token_of f y) tokens.marks test

      new : (q : ℕ) → (q == p) ≡ true → marks_with p (token_of f y) tokens.marks q ≡ token_of f y
      new q test = ap (marks_with p (token_of f y) tokens.marks) (same q p test) ∙ mark_here p (token_of f y) tokens.marks

      marks_are : (g z q : ℕ) → Which f y g z → slots_with f y (token p) tokens.slots g z ≡ token q → (t : Bool) → (q == p) ≡ t
          → marks_with p (token_of f y) tokens.marks q ≡ token_of g z
      marks_are g z q (this first second) is true test = new q test ∙ (ap (λ h. token_of h y) first ∙ ap (token_of g) second)
      marks_are g z q (this first second) is false test =
          absurd (apart_tokens p q test (sym (slot_at f y g z (token p) tokens.slots first second) ∙ is))
      marks_are g z q (other apart) is true test =
          absurd (plain_is_none g z (sym unmarked ∙ (ap tokens.marks (sym (same q p test)) ∙ pooled.marks g z q
          (sym (slot_there f y g z (token p) tokens.slots apart) ∙ is))))
      marks_are g z q (other apart) is false test =
          old q test ∙ pooled.marks g z q (sym (slot_there f y g z (token p) tokens.slots apart) ∙ is)

      slots_are : (g z q : ℕ) → marks_with p (token_of f y) tokens.marks q ≡ token_of g z → Which f y g z → (t : Bool)
          → (q == p) ≡ t → slots_with f y (token p) tokens.slots g z ≡ token q
      slots_are g z q is (this first second) true test =
          slot_at f y g z (token p) tokens.slots first second ∙ ap token (sym (same q p test))
      slots_are g z q is (this first second) false test =
          absurd (no_token (tokens.slots f y) q empty
          (ap (λ h. tokens.slots h y) first ∙ (ap (tokens.slots g) second ∙ pooled.slots g z q (sym (old q test) ∙ is))))
      slots_are g z q is (other apart) true test = absurd (apart_marks f y g z apart (sym (new q test) ∙ is))
      slots_are g z q is (other apart) false test =
          slot_there f y g z (token p) tokens.slots apart ∙ pooled.slots g z q (sym (old q test) ∙ is)

      uncounted_is : (g z q : ℕ) → marks_with p (token_of f y) tokens.marks q ≡ token_of g z → (t : Bool) → (q == p) ≡ t
          → count_at heap q ≡ 0
      uncounted_is g z q is true test = ap (count_at heap) (same q p test) ∙ uncounted
      uncounted_is g z q is false test = pooled.uncounted g z q (sym (old q test) ∙ is)

      there_is : (g z q : ℕ) → marks_with p (token_of f y) tokens.marks q ≡ token_of g z → (t : Bool) → (q == p) ≡ t
          → q < length heap
      there_is g z q is true test = omega (arith, same q p test, there)
      there_is g z q is false test = pooled.there g z q (sym (old q test) ∙ is)

  -- a new cell
  pub pooled_made : (held : Held) (heap : Heap) (tokens : Tokens) → suc (busy heap + marked tokens.marks (length heap)) ≤ cells
      → ArePooled cells heap tokens → ArePooled cells (record held { count = 1 } ∷ heap) tokens
  pooled_made held heap tokens room pooled =
      record {
        marks = pooled.marks;
        slots = pooled.slots;
        uncounted =
            λ f y p is. count_below (record held { count = 1 }) heap p (apart (length heap) p (pooled.there f y p is))
            ∙ pooled.uncounted f y p is;
        there = λ f y p is. omega (arith, pooled.there f y p is);
        room = omega (arith, room, unmarked (tokens.marks (length heap)) refl);
      }
    where
      apart : (n p : ℕ) → p < n → (n == p) ≡ false
      apart n p less = grind arith

      unmarked : (mark : Mark) → tokens.marks (length heap) ≡ mark → one_if_token (tokens.marks (length heap)) ≡ 0
      unmarked plain is = ap one_if_token is
      unmarked (token_of f y) is = absurd (omega (arith, pooled.there f y (length heap) is))

  -- ---- spending

  pub by_null : {A : Type 0} → (wrong nothing : A) (cell : ℕ → A) (f y : ℕ) (tokens : Tokens) → tokens.slots f y ≡ null
      → by_token wrong nothing cell f y tokens ≡ nothing
  by_null wrong nothing cell f y tokens is = ap (λ slot. by_slot wrong nothing cell f y slot tokens.marks) is

  pub by_cell : {A : Type 0} → (wrong nothing : A) (cell : ℕ → A) (f y p : ℕ) (heap : Heap) (tokens : Tokens)
      → ArePooled cells heap tokens → tokens.slots f y ≡ token p → by_token wrong nothing cell f y tokens ≡ cell p
  by_cell wrong nothing cell f y p heap tokens pooled is =
      ap (λ slot. by_slot wrong nothing cell f y slot tokens.marks) is
      ∙ (ap (λ mark. if is_of f y mark then cell p else wrong) (pooled.marks f y p is) ∙ rw (itself f) (rw (itself y) refl))
