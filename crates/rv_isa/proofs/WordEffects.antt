-- The effect of an instruction on words is of words, and a load or store is of one, two or four bytes.
use Rattle.std.proofs.Common.{ℕ, ◌-◌, ◌*◌, ◌%◌, ◌^◌, ◌<◌, inl, inr, ℤ, pos, negsuc, Bool, true, false, if◌then◌else◌, nat_eq, int_div, int_rem, bit_and, refl, lit<, arith}
use Rattle.std.proofs.Math.Nat.{mod-lt, mod-le, div-le_self, lt_of_le_of_lt}
use Rattle.std.proofs.lemmas.Nat.{and_le_l, or_of_32, xor_of_32, shr_le, mul-lt, div_below}
use Rattle.rv_isa.specs.declared.immediate.Immediate.{Immediate}
use Rattle.rv_isa.specs.declared.immediate.BranchOffset.{BranchOffset}
use Rattle.rv_isa.specs.declared.act.Act.{Act}
use Rattle.rv_isa.specs.declared.act.Act.TheVariants.{Nothing, Set, Load, Store, Call, Break}
use Rattle.rv_isa.specs.declared.act.Effect.{Effect}
use Rattle.rv_isa.specs.declared.instr.Instr.{Instr}
use Rattle.rv_isa.specs.declared.instr.Instr.TheVariants.{Lui, Auipc, Jal, Jalr, Beq, Bne, Blt, Bge, Bltu, Bgeu, Lb, Lh, Lw, Lbu, Lhu, Sb, Sh, Sw, Addi, Slti, Sltiu, Xori, Ori, Andi, Slli, Srli, Srai, Add, Sub, Sll, Slt, Sltu, Xor, Srl, Sra, Or, And, Fence, Ecall, Ebreak, Mul, Mulh, Mulhsu, Mulhu, Div, Divu, Rem, Remu}
use Rattle.rv_isa.specs.Arithmetic.{word_of, bit_of, sum_word, difference_word, shift_left, shift_right_logical, product_word, upper_unsigned, quotient_signed, quotient_unsigned, remainder_signed, remainder_unsigned, signed}
use Rattle.rv_isa.specs.Meaning.{IsWidth, sets, jumps, branches, loads, stores, effect_of}

abbrev pub ActFits : Act → Type 0
ActFits Nothing = Unit {0}
ActFits (Set value) = value < 2 ^ 32
ActFits (Load at width signed) = (at < 2 ^ 32) × IsWidth width
ActFits (Store at width value) = (at < 2 ^ 32) × IsWidth width × (value < 2 ^ 32)
ActFits Call = Unit {0}
ActFits Break = Unit {0}

pub record EffectFits (effect : Effect) : Type 0 where
  pub next : effect.next < 2 ^ 32
  pub act : ActFits effect.act

-- ---- the parts of effects

sum_fits : (a b : ℕ) → sum_word a b < 2 ^ 32
sum_fits a b = mod-lt _ (lit< tt)

sets_fits : (pc value : ℕ) → value < 2 ^ 32 → EffectFits (sets pc value)
sets_fits pc value h = record { next = sum_fits pc 4; act = h }

jumps_fits : (pc target : ℕ) → target < 2 ^ 32 → EffectFits (jumps pc target)
jumps_fits pc target h = record { next = h; act = sum_fits pc 4 }

branches_fits : (pc : ℕ) (test : Bool) (offset : BranchOffset) → EffectFits (branches pc test offset)
branches_fits pc true offset = record { next = sum_fits pc offset.word; act = tt }
branches_fits pc false offset = record { next = sum_fits pc 4; act = tt }

loads_fits : (pc a : ℕ) (imm : Immediate) (width : ℕ) (signed : Bool) → IsWidth width → EffectFits (loads pc a imm width signed)
loads_fits pc a imm width signed h = record { next = sum_fits pc 4; act = (sum_fits a imm.word, h) }

stores_fits : (pc a b : ℕ) (imm : Immediate) (width : ℕ) → IsWidth width → b < 2 ^ 32 → EffectFits (stores pc a b imm width)
stores_fits pc a b imm width h hb = record { next = sum_fits pc 4; act = (sum_fits a imm.word, h, hb) }

-- ---- values

even_fits : (n : ℕ) → n < 2 ^ 32 → n - n % 2 < 2 ^ 32
even_fits n h = omega arith

word_of_fits : (z : ℤ) → word_of z < 2 ^ 32
word_of_fits (pos n) = omega arith
word_of_fits (negsuc n) = omega arith

bit_of_fits : (test : Bool) → bit_of test < 2 ^ 32
bit_of_fits true = lit< tt
bit_of_fits false = lit< tt

either_fits : (test : Bool) (x y : ℕ) → x < 2 ^ 32 → y < 2 ^ 32 → (if test then x else y) < 2 ^ 32
either_fits true x y hx hy = hx
either_fits false x y hx hy = hy

and_fits : (a b : ℕ) → a < 2 ^ 32 → bit_and a b < 2 ^ 32
and_fits a b h = lt_of_le_of_lt (and_le_l a b) h

shift_left_fits : (a b : ℕ) → shift_left a b < 2 ^ 32
shift_left_fits a b = mod-lt _ (lit< tt)

shift_right_fits : (a b : ℕ) → a < 2 ^ 32 → shift_right_logical a b < 2 ^ 32
shift_right_fits a b h = lt_of_le_of_lt (shr_le a (b % 32)) h

difference_fits : (a b : ℕ) → difference_word a b < 2 ^ 32
difference_fits a b = mod-lt _ (lit< tt)

product_fits : (a b : ℕ) → product_word a b < 2 ^ 32
product_fits a b = mod-lt _ (lit< tt)

upper_fits : (a b : ℕ) → a < 2 ^ 32 → b < 2 ^ 32 → upper_unsigned a b < 2 ^ 32
upper_fits a b ha hb = div_below (a * b) (2 ^ 32) (2 ^ 32) (lit< tt) (mul-lt a b (2 ^ 32) (2 ^ 32) ha hb)

quotient_signed_fits : (a b : ℕ) → quotient_signed a b < 2 ^ 32
quotient_signed_fits a b =
    either_fits (nat_eq b 0) (2 ^ 32 - 1) _ (lit< tt) (word_of_fits (int_div (signed a) (signed b)))

quotient_unsigned_fits : (a b : ℕ) → a < 2 ^ 32 → quotient_unsigned a b < 2 ^ 32
quotient_unsigned_fits a b h =
    either_fits (nat_eq b 0) (2 ^ 32 - 1) _ (lit< tt) (lt_of_le_of_lt (div-le_self a b) h)

remainder_signed_fits : (a b : ℕ) → a < 2 ^ 32 → remainder_signed a b < 2 ^ 32
remainder_signed_fits a b h = either_fits (nat_eq b 0) a _ h (word_of_fits (int_rem (signed a) (signed b)))

remainder_unsigned_fits : (a b : ℕ) → a < 2 ^ 32 → remainder_unsigned a b < 2 ^ 32
remainder_unsigned_fits a b h = either_fits (nat_eq b 0) a _ h (lt_of_le_of_lt (mod-le a b) h)

pub effect_of_fits : (i : Instr) (pc a b : ℕ) → a < 2 ^ 32 → b < 2 ^ 32 → EffectFits (effect_of i pc a b)
effect_of_fits (Lui rd imm) pc a b ha hb = sets_fits pc _ imm.in_range.0
effect_of_fits (Auipc rd imm) pc a b ha hb = sets_fits pc _ (sum_fits pc imm.word)
effect_of_fits (Jal rd offset) pc a b ha hb = jumps_fits pc _ (sum_fits pc offset.word)
effect_of_fits (Jalr rd rs1 imm) pc a b ha hb = jumps_fits pc _ (even_fits _ (sum_fits a imm.word))
effect_of_fits (Beq rs1 rs2 offset) pc a b ha hb = branches_fits pc _ offset
effect_of_fits (Bne rs1 rs2 offset) pc a b ha hb = branches_fits pc _ offset
effect_of_fits (Blt rs1 rs2 offset) pc a b ha hb = branches_fits pc _ offset
effect_of_fits (Bge rs1 rs2 offset) pc a b ha hb = branches_fits pc _ offset
effect_of_fits (Bltu rs1 rs2 offset) pc a b ha hb = branches_fits pc _ offset
effect_of_fits (Bgeu rs1 rs2 offset) pc a b ha hb = branches_fits pc _ offset
effect_of_fits (Lb rd rs1 imm) pc a b ha hb = loads_fits pc a imm _ _ (inl refl)
effect_of_fits (Lh rd rs1 imm) pc a b ha hb = loads_fits pc a imm _ _ (inr (inl refl))
effect_of_fits (Lw rd rs1 imm) pc a b ha hb = loads_fits pc a imm _ _ (inr (inr refl))
effect_of_fits (Lbu rd rs1 imm) pc a b ha hb = loads_fits pc a imm _ _ (inl refl)
effect_of_fits (Lhu rd rs1 imm) pc a b ha hb = loads_fits pc a imm _ _ (inr (inl refl))
effect_of_fits (Sb rs1 rs2 imm) pc a b ha hb = stores_fits pc a b imm _ (inl refl) hb
effect_of_fits (Sh rs1 rs2 imm) pc a b ha hb = stores_fits pc a b imm _ (inr (inl refl)) hb
effect_of_fits (Sw rs1 rs2 imm) pc a b ha hb = stores_fits pc a b imm _ (inr (inr refl)) hb
effect_of_fits (Addi rd rs1 imm) pc a b ha hb = sets_fits pc _ (sum_fits a imm.word)
effect_of_fits (Slti rd rs1 imm) pc a b ha hb = sets_fits pc _ (bit_of_fits _)
effect_of_fits (Sltiu rd rs1 imm) pc a b ha hb = sets_fits pc _ (bit_of_fits _)
effect_of_fits (Xori rd rs1 imm) pc a b ha hb = sets_fits pc _ (xor_of_32 a imm.word ha imm.in_range.0)
effect_of_fits (Ori rd rs1 imm) pc a b ha hb = sets_fits pc _ (or_of_32 a imm.word ha imm.in_range.0)
effect_of_fits (Andi rd rs1 imm) pc a b ha hb = sets_fits pc _ (and_fits a imm.word ha)
effect_of_fits (Slli rd rs1 shamt) pc a b ha hb = sets_fits pc _ (shift_left_fits a shamt.places)
effect_of_fits (Srli rd rs1 shamt) pc a b ha hb = sets_fits pc _ (shift_right_fits a shamt.places ha)
effect_of_fits (Srai rd rs1 shamt) pc a b ha hb = sets_fits pc _ (word_of_fits _)
effect_of_fits (Add rd rs1 rs2) pc a b ha hb = sets_fits pc _ (sum_fits a b)
effect_of_fits (Sub rd rs1 rs2) pc a b ha hb = sets_fits pc _ (difference_fits a b)
effect_of_fits (Sll rd rs1 rs2) pc a b ha hb = sets_fits pc _ (shift_left_fits a b)
effect_of_fits (Slt rd rs1 rs2) pc a b ha hb = sets_fits pc _ (bit_of_fits _)
effect_of_fits (Sltu rd rs1 rs2) pc a b ha hb = sets_fits pc _ (bit_of_fits _)
effect_of_fits (Xor rd rs1 rs2) pc a b ha hb = sets_fits pc _ (xor_of_32 a b ha hb)
effect_of_fits (Srl rd rs1 rs2) pc a b ha hb = sets_fits pc _ (shift_right_fits a b ha)
effect_of_fits (Sra rd rs1 rs2) pc a b ha hb = sets_fits pc _ (word_of_fits _)
effect_of_fits (Or rd rs1 rs2) pc a b ha hb = sets_fits pc _ (or_of_32 a b ha hb)
effect_of_fits (And rd rs1 rs2) pc a b ha hb = sets_fits pc _ (and_fits a b ha)
effect_of_fits Fence pc a b ha hb = record { next = sum_fits pc 4; act = tt }
effect_of_fits Ecall pc a b ha hb = record { next = sum_fits pc 4; act = tt }
effect_of_fits Ebreak pc a b ha hb = record { next = sum_fits pc 4; act = tt }
effect_of_fits (Mul rd rs1 rs2) pc a b ha hb = sets_fits pc _ (product_fits a b)
effect_of_fits (Mulh rd rs1 rs2) pc a b ha hb = sets_fits pc _ (word_of_fits _)
effect_of_fits (Mulhsu rd rs1 rs2) pc a b ha hb = sets_fits pc _ (word_of_fits _)
effect_of_fits (Mulhu rd rs1 rs2) pc a b ha hb = sets_fits pc _ (upper_fits a b ha hb)
effect_of_fits (Div rd rs1 rs2) pc a b ha hb = sets_fits pc _ (quotient_signed_fits a b)
effect_of_fits (Divu rd rs1 rs2) pc a b ha hb = sets_fits pc _ (quotient_unsigned_fits a b ha)
effect_of_fits (Rem rd rs1 rs2) pc a b ha hb = sets_fits pc _ (remainder_signed_fits a b ha)
effect_of_fits (Remu rd rs1 rs2) pc a b ha hb = sets_fits pc _ (remainder_unsigned_fits a b ha)
