-- The fields of a word and the immediate that they make tell each other.
use Rattle.std.proofs.Common.{◌≡◌, ℕ, ◌+◌, ◌*◌, ◌^◌, ◌<◌, arith}
use Rattle.rv_isa.specs.Field.{field}
use Rattle.rv_isa.specs.Extension.{extended}
use Rattle.rv_isa.specs.Range.{IsImmediate, IsBranchOffset, IsJumpOffset, IsUpperImmediate}

-- an immediate is made of its own lower bits
pub extended_12 : (imm x : ℕ) → IsImmediate imm → x ≡ field imm 11 0 → extended (2 ^ 11) x ≡ imm
extended_12 imm x range e = omega (arith, range.0, range.1)

pub extended_13 : (offset half : ℕ) → IsBranchOffset offset → half ≡ field offset 12 1 → extended (2 ^ 12) (half * 2) ≡ offset
extended_13 offset half range e = omega (arith, range.0, range.1, range.2)

pub extended_21 : (offset half : ℕ) → IsJumpOffset offset → half ≡ field offset 20 1 → extended (2 ^ 20) (half * 2) ≡ offset
extended_21 offset half range e = omega (arith, range.0, range.1, range.2)

pub upper_20 : (imm x : ℕ) → IsUpperImmediate imm → x ≡ field imm 31 12 → x * 2 ^ 12 ≡ imm
upper_20 imm x range e = omega (arith, range.0, range.1)

-- the lower bits of an immediate are those that it is made of
pub field-extended_12 : (x : ℕ) → x < 2 ^ 12 → field (extended (2 ^ 11) x) 11 0 ≡ x
field-extended_12 x h = omega arith

pub field-extended_13 : (half : ℕ) → half < 2 ^ 12 → field (extended (2 ^ 12) (half * 2)) 12 1 ≡ half
field-extended_13 half h = omega arith

pub field-extended_21 : (half : ℕ) → half < 2 ^ 20 → field (extended (2 ^ 20) (half * 2)) 20 1 ≡ half
field-extended_21 half h = omega arith

pub field-upper_20 : (x : ℕ) → x < 2 ^ 20 → field (x * 2 ^ 12) 31 12 ≡ x
field-upper_20 x h = omega arith

-- the pieces of an immediate, from the highest on
pub pieces_s : (n : ℕ) → field n 11 5 * 2 ^ 5 + field n 4 0 ≡ field n 11 0
pieces_s n = omega arith

pub pieces_b : (n : ℕ) → field n 12 12 * 2 ^ 11 + field n 11 11 * 2 ^ 10 + field n 10 5 * 2 ^ 4 + field n 4 1 ≡ field n 12 1
pieces_b n = omega arith

pub pieces_j : (n : ℕ) → field n 20 20 * 2 ^ 19 + field n 19 12 * 2 ^ 11 + field n 11 11 * 2 ^ 10 + field n 10 1 ≡ field n 20 1
pieces_j n = omega arith

-- and back: the pieces of a number that is put together of them
pub from_pieces_s : (n a b : ℕ) → a < 2 ^ 7 → b < 2 ^ 5 → field n 11 0 ≡ a * 2 ^ 5 + b → (a ≡ field n 11 5) × (b ≡ field n 4 0)
from_pieces_s n a b ha hb e = (omega arith, omega arith)

pub from_pieces_b : (n a b c d : ℕ) → a < 2 → b < 2 → c < 2 ^ 6 → d < 2 ^ 4 → field n 12 1 ≡ a * 2 ^ 11 + b * 2 ^ 10 + c * 2 ^ 4 + d → (a ≡ field n 12 12) × (b ≡ field n 11 11) × (c ≡ field n 10 5) × (d ≡ field n 4 1)
from_pieces_b n a b c d ha hb hc hd e = (omega arith, omega arith, omega arith, omega arith)

pub from_pieces_j : (n a b c d : ℕ) → a < 2 → b < 2 ^ 8 → c < 2 → d < 2 ^ 10 → field n 20 1 ≡ a * 2 ^ 19 + b * 2 ^ 11 + c * 2 ^ 10 + d → (a ≡ field n 20 20) × (b ≡ field n 19 12) × (c ≡ field n 11 11) × (d ≡ field n 10 1)
from_pieces_j n a b c d ha hb hc hd e = (omega arith, omega arith, omega arith, omega arith)
