-- A request for a cell finds none exactly where the counted cells fill the pool.
use Rattle.std.proofs.Common.{◌≡◌, ℕ, suc, ◌+◌, ◌≤◌, ◌<◌, ◌==◌, ◌&&◌, ◌||◌, Bool, true, false, List, [], ◌∷◌, length, Option, Some, None, arith, refl, sym, ap, ◌∙◌}
use Rattle.std.specs.Prelude.{if◌then◌else◌, nat_le}
use Rattle.kk_syntax.specs.Shapes.{is_among}
use Rattle.kk_counted.specs.Heaps.{Heap, busy}
use Rattle.kk_counted.specs.Tokens.{Slot, spent, null, token, is_unspent, is_token, Mark, plain, token_of, one_if_token, Link, Tokens, marked, slots_with, marks_with, released, first_token, taken, Room, has_room, no_room, from_link, from_chain, from_tokens, request}
use Rattle.kk_counted.specs.TokenStates.{TokenFrame}
use Rattle.kk_counted.specs.TokenSpending.{AreSame}
use Rattle.kk_counted.specs.TokenKeeping.{ArePooled, chain_of, AreTokens, AreUnspent, AreHeldFrames}
use Rattle.kk_counted.proofs.CountChanges.{same}
use Rattle.kk_counted.proofs.SlotMarks.{plain_is_none, Which, this, other, which, slot_at, slot_there, none_marked, released_room, pooled_released}
use Rattle.kk_counted.proofs.TokenChain.{equal_one, chain_same, chain_top, frames_apart, none_on_chain, token_is}

-- a request has been served: there is room for one cell more, and the same slots are unspent
pub record IsServed (cells : ℕ) (heap : Heap) (before after : Tokens) (helds : List (List ℕ)) : Type 0 where
  pub are : AreTokens cells heap after helds
  pub room : suc (busy heap + marked after.marks (length heap)) ≤ cells
  pub unspent : (f y : ℕ) → is_unspent (after.slots f y) ≡ is_unspent (before.slots f y)
  pub fewer : (p f y : ℕ) → after.marks p ≡ token_of f y → before.marks p ≡ token_of f y

pub data Asked (cells : ℕ) (heap : Heap) (before : Tokens) (helds : List (List ℕ)) (result : Room) : Type 0 where
  full : cells ≤ busy heap → result ≡ no_room → Asked cells heap before helds result
  served : (after : Tokens) → result ≡ has_room after → IsServed cells heap before after helds → Asked cells heap before helds result

first_none : (slots : ℕ → Slot) (ys : List ℕ) (y : ℕ) → first_token slots ys ≡ None → is_among ys y ≡ true
    → is_token (slots y) ≡ false
first_none slots [] y none is = absurd (cc)
first_none slots (x ∷ ys) y none is = by_test (is_token (slots x)) refl none (first_none slots ys y)
  where
    at : (s : Bool) → (x == y) ≡ s → (s || is_among ys y) ≡ true → is_token (slots x) ≡ false
        → (is_among ys y ≡ true → is_token (slots y) ≡ false) → is_token (slots y) ≡ false
    at true test among first later = ap (λ z. is_token (slots z)) (sym (same x y test)) ∙ first
    at false test among first later = later among

    by_test : (t : Bool) → is_token (slots x) ≡ t → (if t then Some x else first_token slots ys) ≡ None
        → (first_token slots ys ≡ None → is_among ys y ≡ true → is_token (slots y) ≡ false) → is_token (slots y) ≡ false
    by_test true test equal later = absurd (cc)
    by_test false test equal later = at (x == y) refl is test (later equal)

first_some : (slots : ℕ → Slot) (ys : List ℕ) (y : ℕ) → first_token slots ys ≡ Some y → is_token (slots y) ≡ true
first_some slots [] y some = absurd (cc)
first_some slots (x ∷ ys) y some = by_test (is_token (slots x)) refl some (first_some slots ys y)
  where
    by_test : (t : Bool) → is_token (slots x) ≡ t → (if t then Some x else first_token slots ys) ≡ Some y
        → (first_token slots ys ≡ Some y → is_token (slots y) ≡ true) → is_token (slots y) ≡ true
    by_test true test equal later = let is : x ≡ y = cc in ap (λ z. is_token (slots z)) (sym is) ∙ test
    by_test false test equal later = later equal

-- the tokens of a pool see no chain
pub pooled_chain : (cells : ℕ) (heap : Heap) (tokens : Tokens) (links : List Link) → ArePooled cells heap tokens
    → ArePooled cells heap (record tokens { chain = links })
pooled_chain cells heap tokens links pooled =
    record { marks = pooled.marks; slots = pooled.slots; uncounted = pooled.uncounted; there = pooled.there; room = pooled.room }

-- where a mark is taken away, the others were there before
pub fewer_marks : (p q f y : ℕ) (marks : ℕ → Mark) → marks_with p plain marks q ≡ token_of f y → (t : Bool) → (q == p) ≡ t
    → marks q ≡ token_of f y
fewer_marks p q f y marks is true test =
    absurd (plain_is_none f y (sym (ap (λ b. if b then plain else marks q) test) ∙ is))
fewer_marks p q f y marks is false test = sym (ap (λ b. if b then plain else marks q) test) ∙ is

module _ (cells : ℕ) (heap : Heap) (tokens : Tokens) (helds : List (List ℕ)) where
  -- a token of a frame is taken, and what is left of the chain leaves it out
  taken_served : (f y p : ℕ) (links : List Link) → tokens.slots f y ≡ token p → f < length helds → AreTokens cells heap tokens helds
      → chain_of (slots_with f y null tokens.slots) helds ≡ links
      → IsServed cells heap tokens (record (released f y p null tokens) { chain = links }) helds
  taken_served f y p links has below are rest =
      record {
        are = record {
          pooled =
              pooled_chain cells heap (released f y p null tokens) links
              (pooled_released cells f y p null heap tokens has refl are.pooled);
          chain = sym rest;
          beyond = λ g z far. slot_there f y g z null tokens.slots (past g z far) ∙ are.beyond g z far;
        };
        room = omega (arith, released_room cells f y p null heap tokens has are.pooled, are.pooled.room);
        unspent = λ g z. unspent_is g z (which f y g z);
        fewer = λ q g z is. fewer_marks p q g z tokens.marks is (q == p) refl;
      }
    where
      past : (g z : ℕ) → length helds ≤ g → ((g == f) && (z == y)) ≡ false
      past g z far =
          let first : (g == f) ≡ false = apart g far in
          rw first refl
        where
          apart : (g : ℕ) → length helds ≤ g → (g == f) ≡ false
          apart g far = grind arith

      unspent_is : (g z : ℕ) → Which f y g z → is_unspent (slots_with f y null tokens.slots g z) ≡ is_unspent (tokens.slots g z)
      unspent_is g z (this first second) =
          ap is_unspent (slot_at f y g z null tokens.slots first second)
          ∙ sym (ap is_unspent (ap (λ h. tokens.slots h z) (sym first) ∙ (ap (tokens.slots f) (sym second) ∙ has)))
      unspent_is g z (other apart) = ap is_unspent (slot_there f y g z null tokens.slots apart)

pub asked : (cells : ℕ) (unspent others : List ℕ) (older : List (List ℕ)) (frames : List TokenFrame) (heap : Heap) (tokens : Tokens)
    → AreTokens cells heap tokens ([] ∷ older) → AreHeldFrames tokens.slots older frames
    → AreUnspent (tokens.slots (length older)) unspent → AreSame others unspent
    → Asked cells heap tokens ([] ∷ older) (request cells others (length older) heap tokens)
asked cells unspent others older frames heap tokens are waiting slots_are all =
    by_room (nat_le cells (busy heap + marked tokens.marks (length heap))) refl
  where
    -- the chain is that of the older frames
    older_chain : tokens.chain ≡ chain_of tokens.slots older
    older_chain = are.chain

    none_below : tokens.chain ≡ [] → (f y : ℕ) → f < length older → is_token (tokens.slots f y) ≡ false
    none_below empty = none_on_chain tokens.slots older frames waiting (sym are.chain ∙ empty)

    running : first_token (tokens.slots (length older)) others ≡ None → (y : ℕ) (slot : Slot) → tokens.slots (length older) y ≡ slot
        → is_token (tokens.slots (length older) y) ≡ false
    running none y spent is = ap is_token is
    running none y null is = ap is_token is
    running none y (token p) is =
        first_none (tokens.slots (length older)) others y none (all y ∙ (sym (slots_are y) ∙ ap is_unspent is))

    nowhere : tokens.chain ≡ [] → first_token (tokens.slots (length older)) others ≡ None → (f y : ℕ)
        → is_token (tokens.slots f y) ≡ false
    nowhere empty none f y = by_below (nat_le (suc f) (length older)) refl
      where
        below_is : nat_le (suc f) (length older) ≡ true → f < length older
        below_is test = grind arith

        above_is : nat_le (suc f) (length older) ≡ false → (f == length older) ≡ false → suc (length older) ≤ f
        above_is test apart = grind arith

        by_same : nat_le (suc f) (length older) ≡ false → (t : Bool) → (f == length older) ≡ t → is_token (tokens.slots f y) ≡ false
        by_same above true test =
            ap (λ g. is_token (tokens.slots g y)) (same f (length older) test) ∙ running none y (tokens.slots (length older) y) refl
        by_same above false test = ap is_token (are.beyond f y (above_is above test))

        by_below : (t : Bool) → nat_le (suc f) (length older) ≡ t → is_token (tokens.slots f y) ≡ false
        by_below true test = none_below empty f y (below_is test)
        by_below false test = by_same test (f == length older) refl

    unmarked : tokens.chain ≡ [] → first_token (tokens.slots (length older)) others ≡ None → (p : ℕ) (mark : Mark)
        → tokens.marks p ≡ mark → one_if_token (tokens.marks p) ≡ 0
    unmarked empty none p plain is = ap one_if_token is
    unmarked empty none p (token_of f y) is =
        let clash : true ≡ false = ap is_token (sym (are.pooled.slots f y p is)) ∙ nowhere empty none f y in
        absurd (cc)

    by_chain : (links : List Link) → tokens.chain ≡ links → cells ≤ busy heap + marked tokens.marks (length heap)
        → first_token (tokens.slots (length older)) others ≡ None → Asked cells heap tokens ([] ∷ older) (from_chain links tokens)
    by_chain [] is filled none =
        full
        (omega (arith, filled, none_marked (length heap) tokens.marks (λ p less. unmarked is none p (tokens.marks p) refl)))
        refl
    by_chain (link ∷ links) is filled none =
        let top = chain_top tokens.slots older link links (frames_apart tokens.slots older frames waiting) (sym older_chain ∙ is) in
        served (record (released link.frame link.slot top.cell null tokens) { chain = links })
        (ap (λ slot. from_link link links slot tokens) top.has)
        (taken_served cells heap tokens ([] ∷ older) link.frame link.slot top.cell links top.has (omega (arith, top.below)) are
        top.rest)

    by_first : (found : Option ℕ) → first_token (tokens.slots (length older)) others ≡ found
        → cells ≤ busy heap + marked tokens.marks (length heap)
        → Asked cells heap tokens ([] ∷ older) (from_tokens found (length older) tokens)
    by_first None is filled = by_chain tokens.chain refl filled is
    by_first (Some y) is filled =
        let cell = token_is (tokens.slots (length older) y) (first_some (tokens.slots (length older)) others y is) in
        served (record (released (length older) y cell.0 null tokens) { chain = tokens.chain })
        (ap (λ slot. has_room (taken (length older) y slot tokens)) cell.1)
        (taken_served cells heap tokens ([] ∷ older) (length older) y cell.0 tokens.chain cell.1 (omega arith) are
        (chain_same tokens.slots (slots_with (length older) y null tokens.slots) older
        (equal_one (length older) (length older) y null tokens.slots (omega arith)) ∙ sym older_chain))

    filled_is : nat_le cells (busy heap + marked tokens.marks (length heap)) ≡ true
        → cells ≤ busy heap + marked tokens.marks (length heap)
    filled_is test = grind arith

    room_is : nat_le cells (busy heap + marked tokens.marks (length heap)) ≡ false
        → suc (busy heap + marked tokens.marks (length heap)) ≤ cells
    room_is test = grind arith

    by_room : (t : Bool) → nat_le cells (busy heap + marked tokens.marks (length heap)) ≡ t
        → Asked cells heap tokens ([] ∷ older) (if t then from_tokens (first_token (tokens.slots (length older)) others)
        (length older) tokens else has_room tokens)
    by_room true test = by_first (first_token (tokens.slots (length older)) others) refl (filled_is test)
    by_room false test =
        served tokens refl (record { are = are; room = room_is test; unspent = λ f y. refl; fewer = λ p f y is. is })
