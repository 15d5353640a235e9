-- What the forms do to the tokens of the function that runs.
use Rattle.std.proofs.Common.{◌≡◌, ℕ, zero, suc, ◌+◌, ◌≤◌, ◌<◌, ◌==◌, ◌&&◌, ◌||◌, Bool, true, false, not, List, [], ◌∷◌, length, arith, refl, sym, ap, ◌∙◌}
use Rattle.std.specs.Prelude.{if◌then◌else◌}
use Rattle.kk_syntax.specs.Shapes.{is_among, without}
use Rattle.kk_counted.specs.Heaps.{Held, Heap, count_at, busy}
use Rattle.kk_counted.specs.Tokens.{Slot, spent, null, token, is_unspent, is_token, Mark, plain, token_of, Tokens, marked, slots_with, marks_with, blanked, released, gained, opened_tokens, held}
use Rattle.kk_counted.specs.TokenStates.{TokenFrame}
use Rattle.kk_counted.specs.TokenKeeping.{ArePooled, AreTokens, AreUnspent, AreHeldFrames}
use Rattle.kk_counted.proofs.CountChanges.{same, itself, counted_within}
use Rattle.kk_counted.proofs.Heaps.{positive}
use Rattle.kk_counted.proofs.HeapChanges.{Eased, freed_busy}
use Rattle.kk_counted.proofs.SlotMarks.{slot_at, slot_there, pooled_eased, pooled_blanked, pooled_released, pooled_gained, pooled_made}
use Rattle.kk_counted.proofs.TokenChain.{EqualBelow, equal_one, chain_same, frames_same, equal_unspent}
use Rattle.kk_counted.proofs.CellRequests.{IsServed}

-- ---- members

same_turned : (a b : ℕ) → (a == b) ≡ (b == a)
same_turned a b = by_test (a == b) refl
  where
    apart : (a == b) ≡ false → (b == a) ≡ false
    apart test = grind arith

    by_test : (t : Bool) → (a == b) ≡ t → (a == b) ≡ (b == a)
    by_test true test = test ∙ sym (ap (λ c. b == c) (same a b test) ∙ itself b)
    by_test false test = test ∙ sym (apart test)

and_false : (t : Bool) → (t && false) ≡ false
and_false true = refl
and_false false = refl

and_true : (t : Bool) → (t && true) ≡ t
and_true true = refl
and_true false = refl

or_false : (t : Bool) → (t || false) ≡ t
or_false true = refl
or_false false = refl

pub among_without : (y z : ℕ) (xs : List ℕ) → is_among (without (y ∷ []) xs) z ≡ (is_among xs z && not (y == z))
among_without y z [] = refl
among_without y z (x ∷ xs) = by_drop (y == x) refl (among_without y z xs)
  where
    dropped : (s : Bool) → (x == z) ≡ s → y ≡ x → is_among (without (y ∷ []) xs) z ≡ (is_among xs z && not (y == z))
        → is_among (without (y ∷ []) xs) z ≡ ((s || is_among xs z) && not (y == z))
    dropped true here equal rest =
        let test : (y == z) ≡ true = ap (λ w. w == z) equal ∙ here in rest ∙ rw test (and_false (is_among xs z))
    dropped false here equal rest = rest

    passed : (s : Bool) → (x == z) ≡ s → (y == x) ≡ false → is_among (without (y ∷ []) xs) z ≡ (is_among xs z && not (y == z))
        → (s || is_among (without (y ∷ []) xs) z) ≡ ((s || is_among xs z) && not (y == z))
    passed true here apart rest = sym (ap not (sym (ap (λ w. y == w) (same x z here)) ∙ apart))
    passed false here apart rest = rest

    by_drop : (t : Bool) → (y == x) ≡ t → is_among (without (y ∷ []) xs) z ≡ (is_among xs z && not (y == z))
        → is_among (if not (t || false) then x ∷ without (y ∷ []) xs else without (y ∷ []) xs) z
        ≡ (is_among (x ∷ xs) z && not (y == z))
    by_drop true drops rest = dropped (x == z) refl (same y x drops) rest
    by_drop false drops rest = passed (x == z) refl drops rest

or_if : (t b : Bool) → (t || b) ≡ (if t then true else b)
or_if true b = refl
or_if false b = refl

and_if : (t b : Bool) → (b && not t) ≡ (if t then false else b)
and_if true b = and_false b
and_if false b = and_true b

-- ---- the tokens of the function that runs, where none is held

pub record AreNow (cells : ℕ) (unspent : List ℕ) (older : List (List ℕ)) (frames : List TokenFrame) (heap : Heap)
    (tokens : Tokens) : Type 0 where
  pub slots_are : AreUnspent (tokens.slots (length older)) unspent
  pub waiting : AreHeldFrames tokens.slots older frames
  pub are : AreTokens cells heap tokens ([] ∷ older)

-- one slot of that function changes
one_changes : (cells : ℕ) (unspent after : List ℕ) (older : List (List ℕ)) (frames : List TokenFrame) (heap : Heap)
    (tokens : Tokens) (y : ℕ) (slot : Slot) (marks : ℕ → Mark)
    → ((z : ℕ) → is_among after z ≡ (if y == z then is_unspent slot else is_among unspent z))
    → ArePooled cells heap (record tokens { slots = slots_with (length older) y slot tokens.slots; marks = marks })
    → AreNow cells unspent older frames heap tokens
    → AreNow cells after older frames heap (record tokens { slots = slots_with (length older) y slot tokens.slots; marks = marks })
one_changes cells unspent after older frames heap tokens y slot marks members pooled now =
    record {
      slots_are = λ z. unspent_is z (y == z) refl;
      waiting = frames_same tokens.slots changed older frames (equal_unspent (length older) tokens.slots changed below) now.waiting;
      are = record {
        pooled = pooled;
        chain = now.are.chain ∙ sym (chain_same tokens.slots changed older below);
        beyond = λ f z far. slot_there (length older) y f z slot tokens.slots (apart f z far) ∙ now.are.beyond f z far;
      };
    }
  where
    changed : ℕ → ℕ → Slot
    changed = slots_with (length older) y slot tokens.slots

    below : EqualBelow (length older) tokens.slots (slots_with (length older) y slot tokens.slots)
    below = equal_one (length older) (length older) y slot tokens.slots (omega arith)

    apart : (f z : ℕ) → suc (length older) ≤ f → ((f == length older) && (z == y)) ≡ false
    apart f z far = rw (first f far) refl
      where
        first : (f : ℕ) → suc (length older) ≤ f → (f == length older) ≡ false
        first f far = grind arith

    unspent_is : (z : ℕ) → (t : Bool) → (y == z) ≡ t
        → is_unspent (slots_with (length older) y slot tokens.slots (length older) z) ≡ is_among after z
    unspent_is z true test =
        ap is_unspent (slot_at (length older) y (length older) z slot tokens.slots refl (same y z test))
        ∙ sym (members z ∙ ap (λ b. if b then is_unspent slot else is_among unspent z) test)
    unspent_is z false test =
        ap is_unspent (slot_there (length older) y (length older) z slot tokens.slots
        (rw (itself (length older)) (same_turned z y ∙ test)))
        ∙ (now.slots_are z ∙ sym (members z ∙ ap (λ b. if b then is_unspent slot else is_among unspent z) test))

-- the slot of an unspent token is null or has a cell
pub data Has (slot : Slot) : Type 0 where
  is_null : slot ≡ null → Has slot
  has_cell : (p : ℕ) → slot ≡ token p → Has slot

pub unspent_has : (slot : Slot) → is_unspent slot ≡ true → Has slot
unspent_has spent is = absurd (cc)
unspent_has null is = is_null refl
unspent_has (token p) is = has_cell p refl

-- a slot without an unspent token is spent
pub not_unspent : (slot : Slot) → is_unspent slot ≡ false → slot ≡ spent
not_unspent spent is = refl
not_unspent null is = absurd (cc)
not_unspent (token p) is = absurd (cc)

module _ (cells : ℕ) (unspent : List ℕ) (older : List (List ℕ)) (frames : List TokenFrame) (heap : Heap) (tokens : Tokens)
    (now : AreNow cells unspent older frames heap tokens) (y : ℕ) where
  -- the slot of a token that is spent
  free_slot : is_among unspent y ≡ false → tokens.slots (length older) y ≡ spent
  free_slot fresh = not_unspent (tokens.slots (length older) y) (now.slots_are y ∙ fresh)

  pub nulled_now : is_among unspent y ≡ false → AreNow cells (y ∷ unspent) older frames heap (blanked (length older) y null tokens)
  nulled_now fresh =
      one_changes cells unspent (y ∷ unspent) older frames heap tokens y null tokens.marks
      (λ z. or_if (y == z) (is_among unspent z))
      (pooled_blanked cells (length older) y null heap tokens (ap is_token (free_slot fresh)) refl now.are.pooled) now

  pub spent_null_now : tokens.slots (length older) y ≡ null
      → AreNow cells (without (y ∷ []) unspent) older frames heap (blanked (length older) y spent tokens)
  spent_null_now is =
      one_changes cells unspent (without (y ∷ []) unspent) older frames heap tokens y spent tokens.marks
      (λ z. among_without y z unspent ∙ and_if (y == z) (is_among unspent z))
      (pooled_blanked cells (length older) y spent heap tokens (ap is_token is) refl now.are.pooled) now

  pub spent_now : (p : ℕ) → tokens.slots (length older) y ≡ token p
      → AreNow cells (without (y ∷ []) unspent) older frames heap (released (length older) y p spent tokens)
  spent_now p is =
      one_changes cells unspent (without (y ∷ []) unspent) older frames heap tokens y spent (marks_with p plain tokens.marks)
      (λ z. among_without y z unspent ∙ and_if (y == z) (is_among unspent z))
      (pooled_released cells (length older) y p spent heap tokens is refl now.are.pooled) now

  pub gained_now : (p : ℕ) → is_among unspent y ≡ false → tokens.marks p ≡ plain → count_at heap p ≡ 0 → p < length heap
      → suc (busy heap + marked tokens.marks (length heap)) ≤ cells
      → AreNow cells (y ∷ unspent) older frames heap (gained (length older) y p tokens)
  gained_now p fresh unmarked uncounted there room =
      one_changes cells unspent (y ∷ unspent) older frames heap tokens y (token p)
      (marks_with p (token_of (length older) y) tokens.marks)
      (λ z. or_if (y == z) (is_among unspent z))
      (pooled_gained cells (length older) y p heap tokens (ap is_token (free_slot fresh)) unmarked uncounted there room
      now.are.pooled) now

pub eased_now : (cells : ℕ) (unspent : List ℕ) (older : List (List ℕ)) (frames : List TokenFrame) (before after : Heap)
    (tokens : Tokens) → Eased before after → AreNow cells unspent older frames before tokens
    → AreNow cells unspent older frames after tokens
eased_now cells unspent older frames before after tokens eased now =
    record {
      slots_are = now.slots_are;
      waiting = now.waiting;
      are = record {
        pooled = pooled_eased cells before after tokens eased now.are.pooled;
        chain = now.are.chain;
        beyond = now.are.beyond;
      };
    }

-- an opening: the slot takes the cell where it is counted no more
pub opened_now : (cells : ℕ) (unspent : List ℕ) (older : List (List ℕ)) (frames : List TokenFrame) (before after : Heap)
    (tokens : Tokens) (y p count : ℕ)
    → Eased before after → is_among unspent y ≡ false → 1 ≤ count_at before p → count_at after p ≡ count
    → AreNow cells unspent older frames before tokens
    → AreNow cells (y ∷ unspent) older frames after (opened_tokens count (length older) y p tokens)
opened_now cells unspent older frames before after tokens y p zero eased fresh counted is now =
    gained_now cells unspent older frames after tokens (eased_now cells unspent older frames before after tokens eased now) y p
    fresh
    (unmarked (tokens.marks p) refl) is there
    (rw eased.many (omega (arith, freed_busy before after p eased counted is, now.are.pooled.room)))
  where
    unmarked : (mark : Mark) → tokens.marks p ≡ mark → tokens.marks p ≡ plain
    unmarked plain is = is
    unmarked (token_of f z) is = absurd (omega (arith, now.are.pooled.uncounted f z p is, counted))

    there : p < length after
    there =
        let more = positive (count_at before p) counted in
        omega (arith, counted_within before p more.0 more.1, eased.many)
opened_now cells unspent older frames before after tokens y p (suc count) eased fresh counted is now =
    nulled_now cells unspent older frames after tokens (eased_now cells unspent older frames before after tokens eased now) y fresh

-- a new cell
pub made_now : (cells : ℕ) (unspent : List ℕ) (older : List (List ℕ)) (frames : List TokenFrame) (held : Held) (heap : Heap)
    (tokens : Tokens) → suc (busy heap + marked tokens.marks (length heap)) ≤ cells
    → AreNow cells unspent older frames heap tokens → AreNow cells unspent older frames (record held { count = 1 } ∷ heap) tokens
made_now cells unspent older frames held heap tokens room now =
    record {
      slots_are = now.slots_are;
      waiting = now.waiting;
      are = record {
        pooled = pooled_made cells held heap tokens room now.are.pooled;
        chain = now.are.chain;
        beyond = now.are.beyond;
      };
    }

-- a request that has been served
pub served_now : (cells : ℕ) (unspent : List ℕ) (older : List (List ℕ)) (frames : List TokenFrame) (heap : Heap)
    (before after : Tokens) → IsServed cells heap before after ([] ∷ older)
    → AreNow cells unspent older frames heap before → AreNow cells unspent older frames heap after
served_now cells unspent older frames heap before after served now =
    record {
      slots_are = λ y. served.unspent (length older) y ∙ now.slots_are y;
      waiting = frames_same before.slots after.slots older frames (λ f y less. served.unspent f y) now.waiting;
      are = served.are;
    }
