-- Numbers as bytes in a memory, the lowest byte first.
-- The RISC-V Instruction Set Manual, Volume I: Unprivileged ISA, 1.5 Base Instruction-Length Encoding (instructions are little-endian) and 2.6 Load and Store Instructions.
use Rattle.std.specs.Prelude.{ℕ, zero, suc, ◌+◌, ◌-◌, ◌*◌, ◌≤◌, ◌⊎◌, List, [], ◌∷◌, length, slice_index, ◌&&◌, if◌then◌else◌, nat_le, nat_lt}
use Rattle.std.specs.Int.{bytes_low_first}

-- the number that bytes spell
abbrev pub little_endian : List ℕ → ℕ
little_endian [] = 0
little_endian (byte ∷ bytes) = byte + 256 * little_endian bytes

-- the lowest `count` bytes of a number
abbrev pub lowest_bytes : ℕ → ℕ → List ℕ
lowest_bytes count number = bytes_low_first 0 count number

-- the bytes of a memory from an address on, `count` of them
unfoldable pub bytes_at : (ℕ → ℕ) → ℕ → ℕ → List ℕ
bytes_at memory at zero = []
bytes_at memory at (suc count) = memory at ∷ bytes_at memory (suc at) count

-- the memory with these bytes from an address on
unfoldable pub with_bytes : ℕ → List ℕ → (ℕ → ℕ) → ℕ → ℕ
with_bytes at bytes memory x =
    if nat_le at x && nat_lt x (at + length bytes) then slice_index bytes (x - at) else memory x

-- the number in `count` bytes from an address on, and the memory with a number there
unfoldable pub number_at : (ℕ → ℕ) → ℕ → ℕ → ℕ
number_at memory at count = little_endian (bytes_at memory at count)

unfoldable pub with_number : ℕ → ℕ → ℕ → (ℕ → ℕ) → ℕ → ℕ
with_number at count number memory = with_bytes at (lowest_bytes count number) memory

-- two ranges of addresses, each by its first one and their number, share none
abbrev pub Apart : ℕ → ℕ → ℕ → ℕ → Type 0
Apart at count other size = (other + size ≤ at) ⊎ (at + count ≤ other)
