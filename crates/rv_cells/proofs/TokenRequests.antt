-- How a request for a cell is served, by what frames hold: which of the cases of lines it is (FillLines, HeldFillLines).
use Rattle.std.proofs.Common.{◌≡◌, ◌≢◌, ℕ, ◌+◌, ◌<◌, ◌≤◌, ◌==◌, Bool, true, false, List, [], ◌∷◌, length, Option, nat_le, refl, sym, ◌∙◌, ap, arith}
use Rattle.std.specs.Prelude.{if◌then◌else◌}
use Rattle.std.proofs.lemmas.Bool.Decides.{nat_tests}
use Rattle.kk_syntax.specs.Shapes.{is_among}
use Rattle.kk_counted.specs.Heaps.{Heap, busy}
use Rattle.kk_counted.specs.Spending.{AreApart}
use Rattle.kk_counted.specs.TokenKeeping.{chain_of}
use Rattle.kk_counted.specs.Tokens.{Slot, spent, null, token, is_unspent, is_token, Link, Tokens, marked, released, first_token, taken, Room, has_room, no_room, from_link, from_chain, from_tokens, request}
use Rattle.kk_counted.proofs.TokenChain.{AllApart, chain_top}
use Rattle.rv_cells.proofs.HeldRows.{live, live_null, live_cell}
use Rattle.rv_cells.specs.TokenedLines.{values_of_slots}
use Rattle.rv_cells.proofs.TokenRelation.{SlotIs, HaveSlotValues, held_values}
use Rattle.rv_cells.proofs.TokenFrames.{First, one, none, first_of}

-- the live values of unspent slots are those of their tokens
pub live_slots : {address : ℕ → ℕ} {slots : ℕ → Slot} {variables count : ℕ} {values : ℕ → Option ℕ}
    → HaveSlotValues address slots variables count values → ((y p : ℕ) → slots y ≡ token p → address p ≢ 0) → (ys : List ℕ)
    → ((y : ℕ) → is_among ys y ≡ true → is_unspent (slots y) ≡ true)
    → live values (values_of_slots variables ys) ≡ held_values slots variables ys
live_slots have some [] unspent = refl
live_slots {address} {slots} {variables} {count} {values} have some (y ∷ ys) unspent =
    by (slots y) refl (have.are y) (unspent y (front y ys))
    (live_slots have some ys (λ z is. unspent z (behind y z ys is)))
  where
    front : (y : ℕ) (ys : List ℕ) → is_among (y ∷ ys) y ≡ true
    front y ys = let itself : (y == y) ≡ true = grind arith in rw itself refl

    behind : (y z : ℕ) (ys : List ℕ) → is_among ys z ≡ true → is_among (y ∷ ys) z ≡ true
    behind y z ys is = by_same (y == z) refl
      where
        by_same : (b : Bool) → (y == z) ≡ b → is_among (y ∷ ys) z ≡ true
        by_same true test = rw test refl
        by_same false test = rw test is

    by : (slot : Slot) → slots y ≡ slot → SlotIs address slot (values (variables + y)) → is_unspent slot ≡ true
        → live values (values_of_slots variables ys) ≡ held_values slots variables ys
        → live values (values_of_slots variables (y ∷ ys)) ≡ held_values slots variables (y ∷ ys)
    by spent is value there later = cc
    by null is value there later =
        live_null (values (variables + y)) (variables + y) (live values (values_of_slots variables ys)) value ∙ later
        ∙ sym (ap (λ slot. if is_token slot then (variables + y) ∷ held_values slots variables ys else
        held_values slots variables ys) is)
    by (token p) is value there later =
        live_cell (values (variables + y)) (address p) (variables + y) (live values (values_of_slots variables ys)) value
        (some y p is)
        ∙ ap (λ more. (variables + y) ∷ more) later
        ∙ sym (ap (λ slot. if is_token slot then (variables + y) ∷ held_values slots variables ys else
        held_values slots variables ys) is)

-- A request is served by a free cell; by the first of the function's own tokens; by the newest held token of an older function; or
-- the heap is full.
pub data Requested (cells variables f : ℕ) (others : List ℕ) (heap : Heap) (tokens : Tokens) (room : Room) : Type 0 where
  by_free : busy heap + marked tokens.marks (length heap) < cells → room ≡ has_room tokens
      → Requested cells variables f others heap tokens room
  by_own : (y p : ℕ) (more : List ℕ) → cells ≤ busy heap + marked tokens.marks (length heap) → tokens.slots f y ≡ token p
      → is_among others y ≡ true → held_values (tokens.slots f) variables others ≡ (variables + y) ∷ more
      → room ≡ has_room (released f y p null tokens) → Requested cells variables f others heap tokens room
  by_older : (link : Link) (links : List Link) (p : ℕ) → cells ≤ busy heap + marked tokens.marks (length heap)
      → held_values (tokens.slots f) variables others ≡ [] → tokens.chain ≡ link ∷ links
      → tokens.slots link.frame link.slot ≡ token p
      → room ≡ has_room (record (released link.frame link.slot p null tokens) { chain = links })
      → Requested cells variables f others heap tokens room
  by_none : cells ≤ busy heap + marked tokens.marks (length heap) → held_values (tokens.slots f) variables others ≡ []
      → tokens.chain ≡ [] → room ≡ no_room → Requested cells variables f others heap tokens room

-- where the function holds none of its own tokens itself, so that the chain is that of older functions
pub requested : (cells variables f : ℕ) (others : List ℕ) (older : List (List ℕ)) (heap : Heap) (tokens : Tokens) → AreApart others
    → AllApart older → tokens.chain ≡ chain_of tokens.slots older
    → Requested cells variables f others heap tokens (request cells others f heap tokens)
requested cells variables f others older heap tokens apart all_apart chain_is =
    by (nat_le cells (busy heap + marked tokens.marks (length heap))) refl
  where
    room_is : (b : Bool) → nat_le cells (busy heap + marked tokens.marks (length heap)) ≡ b
        → request cells others f heap tokens
        ≡ (if b then from_tokens (first_token (tokens.slots f) others) f tokens else has_room tokens)
    room_is b test = ap (λ c. if c then from_tokens (first_token (tokens.slots f) others) f tokens else has_room tokens) test

    by_chain : (links : List Link) → tokens.chain ≡ links → cells ≤ busy heap + marked tokens.marks (length heap)
        → held_values (tokens.slots f) variables others ≡ [] → request cells others f heap tokens ≡ from_chain tokens.chain tokens
        → Requested cells variables f others heap tokens (request cells others f heap tokens)
    by_chain [] is full nothing room = by_none full nothing is (room ∙ ap (λ ls. from_chain ls tokens) is)
    by_chain (link ∷ links) is full nothing room =
        let first = chain_top tokens.slots older link links all_apart (sym chain_is ∙ is) in
        by_older link links first.cell full nothing is first.has
        (room ∙ ap (λ ls. from_chain ls tokens) is ∙ ap (λ slot. from_link link links slot tokens) first.has)

    by_first : First (tokens.slots f) variables others → cells ≤ busy heap + marked tokens.marks (length heap)
        → request cells others f heap tokens ≡ from_tokens (first_token (tokens.slots f) others) f tokens
        → Requested cells variables f others heap tokens (request cells others f heap tokens)
    by_first (one y p more has among first drops found front) full room =
        by_own y p more full has among first
        (room ∙ ap (λ o. from_tokens o f tokens) front ∙ ap (λ slot. has_room (taken f y slot tokens)) has)
    by_first (none nothing found front) full room =
        by_chain tokens.chain refl full nothing (room ∙ ap (λ o. from_tokens o f tokens) front)

    by : (b : Bool) → nat_le cells (busy heap + marked tokens.marks (length heap)) ≡ b
        → Requested cells variables f others heap tokens (request cells others f heap tokens)
    by true test = by_first (first_of (tokens.slots f) variables others apart) (grind (arith, nat_tests)) (room_is true test)
    by false test = by_free (grind (arith, nat_tests)) (room_is false test)
