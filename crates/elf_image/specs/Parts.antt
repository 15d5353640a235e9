-- The parts of an image, and what is true of those of every image.
use Rattle.std.specs.Prelude.{ℕ, ◌+◌, ◌%◌, ◌==◌, bit_and, nat_le, nat_lt, min, max, List, [], ◌∷◌, length, map, Bool, true, not, ◌&&◌}
use Rattle.std.specs.List.{list_any, list_all}
use Rattle.kk_base.specs.Memory as memory
use Rattle.elf_image.specs.declared.part.Part.{Part}

-- the flags of a program header (System V ABI, "Segment Permissions")
abbrev pub execute_flag : ℕ
execute_flag = 1

abbrev pub write_flag : ℕ
write_flag = 2

abbrev pub read_flag : ℕ
read_flag = 4

-- a part as a machine's memory has it, by the flags of its program header
abbrev pub loaded : Part → memory.Part
loaded p = record {
  start = p.vaddr;
  size = p.memsz;
  readable = not (bit_and p.flags read_flag == 0);
  writable = not (bit_and p.flags write_flag == 0);
  executable = not (bit_and p.flags execute_flag == 0);
  bytes = p.bytes;
}

-- the memory that an image starts with
abbrev pub memory_of : List Part → List memory.Part
memory_of parts = map loaded parts

-- the address behind the last one of a part, as an exact sum
abbrev pub end_of : Part → ℕ
end_of p = p.vaddr + p.memsz

-- the greatest address behind a part
abbrev pub greatest_end : ℕ
greatest_end = 0xf0000000

-- two parts share an address: the one that starts last does so below both ends
abbrev pub share_address : Part → Part → Bool
share_address p q = nat_lt (max p.vaddr q.vaddr) (min (end_of p) (end_of q))

-- no two parts share an address
abbrev pub are_apart : List Part → Bool
are_apart [] = true
are_apart (p ∷ ps) = not (list_any (share_address p) ps) && are_apart ps

-- no part ends above the greatest address
abbrev pub are_in_reach : List Part → Bool
are_in_reach parts = list_all (λ p. nat_le (end_of p) greatest_end) parts

-- no part has more bytes than addresses
abbrev pub are_filled : List Part → Bool
are_filled parts = list_all (λ p. nat_le (length p.bytes) p.memsz) parts

-- an address lies in a part, which may be executed
abbrev pub is_executable_at : Part → ℕ → Bool
is_executable_at p at = memory.covers (loaded p) at 1 && (loaded p).executable

-- an instruction can begin at an address: it is a multiple of 4, in a part that may be executed
abbrev pub is_entry : List Part → ℕ → Bool
is_entry parts at = (at % 4 == 0) && list_any (λ p. is_executable_at p at) parts
