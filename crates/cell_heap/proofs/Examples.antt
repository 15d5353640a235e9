-- The definitions on a few cells, by computation.
use Rattle.std.proofs.Common.{◌≡◌, ℕ, ◌+◌, ◌*◌, [], ◌∷◌, inr, refl, lit<, lit≤, true}
use Rattle.kk_base.specs.Memory.{Part}
use Rattle.rv_isa.specs.Bytes.{number_at, with_number, bytes_at, with_bytes}
use Rattle.cell_heap.specs.Cells.{Body, no_cell, free, token, counted, Heap, changed, chosen}
use Rattle.cell_heap.specs.Pool.{Pool, places, end_of}
use Rattle.cell_heap.specs.Memory.{HasBody, IsChain, IsSlot, IsHeldChain}
use Rattle.cell_heap.specs.DropMeaning.{GivesUp, all_given, constant, lowered, last}
use Rattle.cell_heap.specs.Counts.{references_to, credit}

abbrev pub pool : Pool
pool = record { first = 64; cells = 4 }

places_are : places pool ≡ 64 ∷ 96 ∷ 128 ∷ 160 ∷ []
places_are = refl

end_is : end_of pool ≡ 192
end_is = refl

-- of three fields the first and the third can hold references
chosen_are : chosen 5 (96 ∷ 7 ∷ 3 ∷ []) ≡ 96 ∷ 3 ∷ []
chosen_are = refl

-- ---- memory

abbrev blank : ℕ → ℕ
blank x = 0

-- `Cons(7, Nil)` at 64, with tag 1, whose second field can hold a reference
abbrev one_pair : ℕ → ℕ
one_pair = with_number 76 4 1 (with_number 72 4 7 (with_number 68 4 (1 + 256 * 2) (with_number 64 4 1 blank)))

abbrev pub pair : Body
pair = record { tag = 1; mask = 2; fields = 7 ∷ 1 ∷ [] }

pair_stands : HasBody one_pair 64 pair
unfolding number_at with_number bytes_at with_bytes
pair_stands = record { header = refl; tag = lit< tt; mask = lit< tt; few = lit≤ tt; fields = (refl, (refl, tt)) }

-- 128 and then 96 are free: the word at 128 is 96, and that at 96 is 0
abbrev two_free : ℕ → ℕ
two_free = with_number 128 4 96 one_pair

abbrev two_free_heap : Heap
two_free_heap = changed 128 free (changed 96 free (changed 64 (counted 1 pair) (λ x. no_cell)))

chain_stands : IsChain two_free two_free_heap 128 (128 ∷ 96 ∷ [])
unfolding number_at with_number bytes_at with_bytes
chain_stands = (refl, refl, refl, (refl, refl, refl, refl))

-- the cell at 64 is opened, and the slot at 200 holds it
abbrev one_held : ℕ → ℕ
one_held = with_number 200 4 64 (with_number 68 4 200 (with_number 64 4 0 one_pair))

abbrev pub memory_part : Part
memory_part = record { start = 64; size = 192; readable = true; writable = true; executable = true; bytes = [] }

pub slot_stands : IsSlot pool (memory_part ∷ []) 200
slot_stands = record { aligned = refl; below = lit≤ tt; apart = inr (lit≤ tt); loads = refl; stores = refl }

held_stands : IsHeldChain pool (memory_part ∷ []) one_held (changed 64 (token (7 ∷ 1 ∷ [])) (λ x. no_cell)) 64 (record { cell = 64; slot = 200 } ∷ [])
unfolding number_at with_number bytes_at with_bytes
held_stands = (refl, record { is_token = tt; is_slot = slot_stands; names_slot = refl; is_in_slot = refl }, refl, refl, refl)

-- ---- giving up

-- `Cons(7, x)` at 64, with x at 96, of which there is one more reference
abbrev longer : Body
longer = record { tag = 1; mask = 2; fields = 7 ∷ 96 ∷ [] }

abbrev shared : Heap
shared = changed 96 (counted 2 pair) (changed 64 (counted 1 longer) (λ x. no_cell))

references_counted : references_to 96 shared (places pool) ≡ 1
references_counted = refl

-- a reference to 64 and then one to 96 are given up: four references and two cells, since `pair` has a reference to `Nil`
all_freed : GivesUp (64 ∷ 96 ∷ []) shared 4 2 (changed 96 free (changed 96 (counted 1 pair) (changed 64 free shared)))
all_freed = last refl refl (lowered refl refl (last refl refl (constant refl all_given)))

credit_falls : credit 52 8 (places pool) shared ≡ 2 * 52 + 2 * 8
credit_falls = refl
