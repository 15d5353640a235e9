-- The forms that effects of instructions have, over words of any width.
-- The RISC-V Instruction Set Manual, Volume I: Unprivileged ISA, 2.5 Control Transfer Instructions and 2.6 Load and Store Instructions.
use Rattle.std.specs.Prelude.{ℕ, Bool, if◌then◌else◌}
use Rattle.std.specs.Int.{Width}
use Rattle.rv_isa.specs.declared.act.Act.{Act}
use Rattle.rv_isa.specs.declared.act.Act.TheVariants.{Nothing, Set, Load, Store}
use Rattle.rv_isa.specs.declared.act.Effect.{Effect}
use Rattle.rv_isa.specs.Words.{sum_in}

-- the act, and then the next instruction in memory
abbrev pub goes_on_in : Width → ℕ → Act → Effect
goes_on_in width pc act = record { next = sum_in width pc 4; act = act }

-- rd becomes the value
abbrev pub sets_in : Width → ℕ → ℕ → Effect
sets_in width pc value = goes_on_in width pc (Set value)

-- 2.5: rd becomes the address of the instruction after the jump
abbrev pub jumps_in : Width → ℕ → ℕ → Effect
jumps_in width pc target = record { next = target; act = Set (sum_in width pc 4) }

-- 2.5: to pc plus the offset where the test holds
abbrev pub branches_in : Width → ℕ → Bool → ℕ → Effect
branches_in width pc test offset =
    record { next = if test then sum_in width pc offset else sum_in width pc 4; act = Nothing }

-- 2.6: `count` bytes from rs1 plus the immediate, and whether the value is sign-extended
abbrev pub loads_in : Width → ℕ → ℕ → ℕ → ℕ → Bool → Effect
loads_in width pc a imm count signed = goes_on_in width pc (Load (sum_in width a imm) count signed)

-- 2.6: the lowest `count` bytes of rs2 to rs1 plus the immediate
abbrev pub stores_in : Width → ℕ → ℕ → ℕ → ℕ → ℕ → Effect
stores_in width pc a b imm count = goes_on_in width pc (Store (sum_in width a imm) count b)
