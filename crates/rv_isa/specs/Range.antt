-- What the immediates of the formats can hold. An immediate is a word: 32 bits, a negative number in two's complement.
-- The RISC-V Instruction Set Manual, Volume I: Unprivileged ISA, 2.3 Immediate Encoding Variants.
use Rattle.std.specs.Prelude.{◌≡◌, ℕ, ◌+◌, ◌%◌, ◌^◌, ◌<◌}

-- 12 bits, sign-extended: -2048 to 2047 (the I-immediate and the S-immediate)
abbrev pub IsImmediate : ℕ → Type 0
IsImmediate word = (word < 2 ^ 32) × ((word + 2 ^ 11) % 2 ^ 32 < 2 ^ 12)

-- 13 bits, sign-extended, of which the lowest is 0: -4096 to 4094 (the B-immediate)
abbrev pub IsBranchOffset : ℕ → Type 0
IsBranchOffset word = (word < 2 ^ 32) × ((word + 2 ^ 12) % 2 ^ 32 < 2 ^ 13) × (word % 2 ≡ 0)

-- 21 bits, sign-extended, of which the lowest is 0: -1048576 to 1048574 (the J-immediate)
abbrev pub IsJumpOffset : ℕ → Type 0
IsJumpOffset word = (word < 2 ^ 32) × ((word + 2 ^ 20) % 2 ^ 32 < 2 ^ 21) × (word % 2 ≡ 0)

-- the upper 20 bits of a word, whose lower 12 bits are 0 (the U-immediate)
abbrev pub IsUpperImmediate : ℕ → Type 0
IsUpperImmediate word = (word < 2 ^ 32) × (word % 2 ^ 12 ≡ 0)
