-- Tokens: the slots of functions in which they stand, the marks of their cells, and the chain of those that are held.
use Rattle.std.specs.Prelude.{ℕ, zero, suc, ◌+◌, ◌==◌, ◌&&◌, ◌||◌, nat_le, Bool, true, false, List, [], ◌∷◌, length, Option, Some, None, if◌then◌else◌}
use Rattle.kk_counted.specs.Heaps.{Heap, busy}

-- what a slot has: no token, or one that is spent; a token that is null; or the cell of a token
pub data Slot : Type 0 where
  spent : Slot
  null : Slot
  token : (cell : ℕ) → Slot

abbrev pub is_unspent : Slot → Bool
is_unspent spent = false
is_unspent _ = true

abbrev pub is_token : Slot → Bool
is_token (token cell) = true
is_token _ = false

-- what a cell is beside its count: nothing, or the token of a slot of a function's frame
pub data Mark : Type 0 where
  plain : Mark
  token_of : (frame : ℕ) → (slot : ℕ) → Mark

abbrev pub one_if_token : Mark → ℕ
one_if_token plain = 0
one_if_token (token_of f y) = 1

-- a held slot
pub record Link : Type 0 where
  pub frame : ℕ
  pub slot : ℕ

-- The slots, by a frame and a number; frames are numbered from 0, the first function's, and the running one's is the last. The
-- mark of each cell. And the chain of held tokens, the newest one first. A cell is counted, a token, or free, which is neither.
pub record Tokens : Type 0 where
  pub slots : ℕ → ℕ → Slot
  pub marks : ℕ → Mark
  pub chain : List Link

abbrev pub no_tokens : Tokens
no_tokens = record { slots = λ f y. spent; marks = λ p. plain; chain = [] }

-- how many of the first cells are tokens
abbrev pub marked : (ℕ → Mark) → ℕ → ℕ
marked marks zero = 0
marked marks (suc n) = one_if_token (marks n) + marked marks n

-- ---- changes

abbrev pub slots_with : ℕ → ℕ → Slot → (ℕ → ℕ → Slot) → ℕ → ℕ → Slot
slots_with f y slot slots g z = if (g == f) && (z == y) then slot else slots g z

abbrev pub marks_with : ℕ → Mark → (ℕ → Mark) → ℕ → Mark
marks_with p mark marks q = if q == p then mark else marks q

-- the slot is given what is no token; it had none
abbrev pub blanked : ℕ → ℕ → Slot → Tokens → Tokens
blanked f y slot tokens = record tokens { slots = slots_with f y slot tokens.slots }

-- the slot is given what is no token, and its token's cell is free
abbrev pub released : ℕ → ℕ → ℕ → Slot → Tokens → Tokens
released f y p slot tokens = record tokens { slots = slots_with f y slot tokens.slots; marks = marks_with p plain tokens.marks }

-- the slot takes a free cell as its token
abbrev pub gained : ℕ → ℕ → ℕ → Tokens → Tokens
gained f y p tokens =
    record tokens { slots = slots_with f y (token p) tokens.slots; marks = marks_with p (token_of f y) tokens.marks }

-- by the count of a cell after it was opened: where it is free, the slot takes it, else the slot is null
abbrev pub opened_tokens : ℕ → ℕ → ℕ → ℕ → Tokens → Tokens
opened_tokens zero f y p tokens = gained f y p tokens
opened_tokens (suc count) f y p tokens = blanked f y null tokens

-- ---- spending

-- whether a mark is that of a slot
abbrev pub is_of : ℕ → ℕ → Mark → Bool
is_of f y plain = false
is_of f y (token_of g z) = (g == f) && (z == y)

-- By what a slot has: nothing that it may spend, since it is spent, or since the cell is no token of that slot; null; or a cell.
abbrev pub by_slot : {A : Type 0} → A → A → (ℕ → A) → ℕ → ℕ → Slot → (ℕ → Mark) → A
by_slot wrong nothing cell f y spent marks = wrong
by_slot wrong nothing cell f y null marks = nothing
by_slot wrong nothing cell f y (token p) marks = if is_of f y (marks p) then cell p else wrong

abbrev pub by_token : {A : Type 0} → A → A → (ℕ → A) → ℕ → ℕ → Tokens → A
by_token wrong nothing cell f y tokens = by_slot wrong nothing cell f y (tokens.slots f y) tokens.marks

-- the token of a slot is spent, and its cell is free; none where that is wrong
abbrev pub freed : ℕ → ℕ → Tokens → Option Tokens
freed f y tokens = by_token None (Some (blanked f y spent tokens)) (λ p. Some (released f y p spent tokens)) f y tokens

-- a slot takes the token of another one of its frame
abbrev pub moved : ℕ → ℕ → ℕ → Tokens → Option Tokens
moved f to from tokens =
    by_token None (Some (blanked f to null (blanked f from spent tokens)))
    (λ p. Some (gained f to p (released f from p spent tokens))) f from tokens

-- whether a slot is on a chain
abbrev pub is_linked : ℕ → ℕ → List Link → Bool
is_linked f y [] = false
is_linked f y (link ∷ links) = ((link.frame == f) && (link.slot == y)) || is_linked f y links

-- a chain without its top, which is that slot; none where another slot is the top
abbrev pub unlinked : ℕ → ℕ → List Link → Option (List Link)
unlinked f y [] = None
unlinked f y (link ∷ links) = if (link.frame == f) && (link.slot == y) then Some links else None

abbrev pub with_chain : Tokens → Option (List Link) → Option Tokens
with_chain tokens None = None
with_chain tokens (Some links) = Some (record tokens { chain = links })

-- The token of a slot is put on the chain; one that is null is not. None where it is on the chain already.
abbrev pub hold_link : ℕ → ℕ → Tokens → Option Tokens
hold_link f y tokens =
    if is_linked f y tokens.chain then None else Some (record tokens { chain = record { frame = f; slot = y } ∷ tokens.chain })

abbrev pub held : ℕ → ℕ → Tokens → Option Tokens
held f y tokens = by_token None (Some tokens) (λ p. hold_link f y tokens) f y tokens

-- The token of a slot, if it is still there, is taken off the top of the chain. None where another one is the top.
abbrev pub unheld : ℕ → ℕ → Tokens → Option Tokens
unheld f y tokens = by_token None (Some tokens) (λ p. with_chain tokens (unlinked f y tokens.chain)) f y tokens

-- ---- requests for a cell

-- What a request gets: a cell, with the tokens that are left; none, since the heap is full; or nothing, since the chain is wrong.
pub data Room : Type 0 where
  has_room : (left : Tokens) → Room
  no_room : Room
  no_token : Room

-- the first of some slots that has a token
abbrev pub first_token : (ℕ → Slot) → List ℕ → Option ℕ
first_token slots [] = None
first_token slots (y ∷ ys) = if is_token (slots y) then Some y else first_token slots ys

-- the token of a slot is taken, and leaves the slot null
abbrev pub taken : ℕ → ℕ → Slot → Tokens → Tokens
taken f y (token p) tokens = released f y p null tokens
taken f y _ tokens = tokens

-- the token of the top of a chain, which is wrong where that slot has none
abbrev pub from_link : Link → List Link → Slot → Tokens → Room
from_link link links (token p) tokens = has_room (record (released link.frame link.slot p null tokens) { chain = links })
from_link link links _ tokens = no_token

abbrev pub from_chain : List Link → Tokens → Room
from_chain [] tokens = no_room
from_chain (link ∷ links) tokens = from_link link links (tokens.slots link.frame link.slot) tokens

abbrev pub from_tokens : Option ℕ → ℕ → Tokens → Room
from_tokens (Some y) f tokens = has_room (taken f y (tokens.slots f y) tokens)
from_tokens None f tokens = from_chain tokens.chain tokens

-- A request for a cell, of so many, by a function with these unspent tokens: a free cell; else one of those tokens; else the
-- newest held one; else none is there.
abbrev pub request : ℕ → List ℕ → ℕ → Heap → Tokens → Room
request cells others f heap tokens =
    if nat_le cells (busy heap + marked tokens.marks (length heap))
    then from_tokens (first_token (tokens.slots f) others) f tokens
    else has_room tokens
