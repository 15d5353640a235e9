-- A machine's memory as it is loaded: parts of the addresses, with what may be done in them.
use Rattle.std.specs.Prelude.{ℕ, ◌+◌, ◌-◌, List, [], ◌∷◌, slice_index, Bool, nat_le, ◌==◌, ◌&&◌, ◌||◌, if◌then◌else◌}

-- a part of the addresses: from `start`, `size` of them; its first bytes, which are followed by zeros; and its flags
pub record Part : Type 0 where
  pub start : ℕ
  pub size : ℕ
  pub readable : Bool
  pub writable : Bool
  pub executable : Bool
  pub bytes : List ℕ

-- the addresses from `at`, `count` of them, lie in the part; an empty range lies in any
abbrev pub covers : Part → ℕ → ℕ → Bool
covers part at count = (count == 0) || (nat_le part.start at && nat_le (at + count) (part.start + part.size))

-- the byte that the parts have at an address as they are loaded; 0 outside of them
abbrev pub byte_loaded : List Part → ℕ → ℕ
byte_loaded [] at = 0
byte_loaded (part ∷ parts) at = if covers part at 1 then slice_index part.bytes (at - part.start) else byte_loaded parts at
