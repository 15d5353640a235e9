-- The operations and conditions of the assembler form on words: what the instructions of their names do.
-- The RISC-V Instruction Set Manual, Volume I: Unprivileged ISA, 2.4 Integer Computational Instructions, 2.5 Control Transfer Instructions, and the chapter '"M" Standard Extension for Integer Multiplication and Division'.
use Rattle.std.specs.Prelude.{ℕ, zero, suc, ◌+◌, ◌-◌, List, [], ◌∷◌, length, take, drop, Option, Some, None, Bool, not, ◌&&◌, if◌then◌else◌, nat_eq, nat_lt, nat_le, int_lt, bit_and, bit_or, bit_xor}
use Rattle.std.specs.List.{flat_map}
use Rattle.rv_isa.specs.Arithmetic.{signed, bit_of, sum_word, difference_word, shift_left, shift_right_logical, shift_right_arithmetic, product_word, upper_signed, upper_signed_unsigned, upper_unsigned, quotient_signed, quotient_unsigned, remainder_signed, remainder_unsigned}
use Rattle.rv_isa.specs.declared.asm.Condition.{Condition}
use Rattle.rv_isa.specs.declared.asm.Condition.TheVariants.{Equal, NotEqual, Less, GreaterEqual, LessUnsigned, GreaterEqualUnsigned}
use Rattle.rv_isa.specs.declared.asm.Operation.{Operation}
use Rattle.rv_isa.specs.declared.asm.Operation.TheVariants.{Register, Immediate, Shift, Li, Mv, La}
use Rattle.rv_isa.specs.declared.asm.RegisterOperation.{RegisterOperation}
use Rattle.rv_isa.specs.declared.asm.RegisterOperation.TheVariants.{Add, Sub, Sll, Slt, Sltu, Xor, Srl, Sra, Or, And, Mul, Mulh, Mulhsu, Mulhu, Div, Divu, Rem, Remu}
use Rattle.rv_isa.specs.declared.asm.ImmediateOperation.{ImmediateOperation}
use Rattle.rv_isa.specs.declared.asm.ImmediateOperation.TheVariants.{Addi, Slti, Sltiu, Xori, Ori, Andi}
use Rattle.rv_isa.specs.declared.asm.ShiftOperation.{ShiftOperation}
use Rattle.rv_isa.specs.declared.asm.ShiftOperation.TheVariants.{Slli, Srli, Srai}

abbrev pub register_word : RegisterOperation → ℕ → ℕ → ℕ
register_word Add a b = sum_word a b
register_word Sub a b = difference_word a b
register_word Sll a b = shift_left a b
register_word Slt a b = bit_of (int_lt (signed a) (signed b))
register_word Sltu a b = bit_of (nat_lt a b)
register_word Xor a b = bit_xor a b
register_word Srl a b = shift_right_logical a b
register_word Sra a b = shift_right_arithmetic a b
register_word Or a b = bit_or a b
register_word And a b = bit_and a b
register_word Mul a b = product_word a b
register_word Mulh a b = upper_signed a b
register_word Mulhsu a b = upper_signed_unsigned a b
register_word Mulhu a b = upper_unsigned a b
register_word Div a b = quotient_signed a b
register_word Divu a b = quotient_unsigned a b
register_word Rem a b = remainder_signed a b
register_word Remu a b = remainder_unsigned a b

-- on a word and the sign-extended word of an immediate
abbrev pub immediate_word : ImmediateOperation → ℕ → ℕ → ℕ
immediate_word Addi a b = sum_word a b
immediate_word Slti a b = bit_of (int_lt (signed a) (signed b))
immediate_word Sltiu a b = bit_of (nat_lt a b)
immediate_word Xori a b = bit_xor a b
immediate_word Ori a b = bit_or a b
immediate_word Andi a b = bit_and a b

abbrev pub shift_word : ShiftOperation → ℕ → ℕ → ℕ
shift_word Slli a places = shift_left a places
shift_word Srli a places = shift_right_logical a places
shift_word Srai a places = shift_right_arithmetic a places

-- whether a condition holds of two words
abbrev pub compares : Condition → ℕ → ℕ → Bool
compares Equal a b = nat_eq a b
compares NotEqual a b = not (nat_eq a b)
compares Less a b = int_lt (signed a) (signed b)
compares GreaterEqual a b = not (int_lt (signed a) (signed b))
compares LessUnsigned a b = nat_lt a b
compares GreaterEqualUnsigned a b = not (nat_lt a b)

-- one argument is compared with zero
abbrev pub holds : Condition → List ℕ → Option Bool
holds condition (a ∷ []) = Some (compares condition a 0)
holds condition (a ∷ b ∷ []) = Some (compares condition a b)
holds condition _ = None

-- the constant bytes of a program in memory: the address of the first byte, and the constants, one behind the other
pub record Constants : Type 0 where
  pub first : ℕ
  pub texts : List (List ℕ)

-- all bytes of constants
abbrev pub all_bytes : List (List ℕ) → List ℕ
all_bytes texts = flat_map (λ text. text) texts

-- where the constant of an index stands, if there is one; the first one at an address
abbrev pub address_in : ℕ → List (List ℕ) → ℕ → Option ℕ
address_in at [] index = None
address_in at (text ∷ texts) zero = Some at
address_in at (text ∷ texts) (suc index) = address_in (at + length text) texts index

-- so many bytes from an address, if they are constants
abbrev pub bytes_at : Constants → ℕ → ℕ → Option (List ℕ)
bytes_at constants at count =
    if nat_le constants.first at && nat_le (at + count) (constants.first + length (all_bytes constants.texts)) then Some (take count (drop (at - constants.first) (all_bytes constants.texts))) else None

-- the word of an operation on words alone
abbrev pub computed : Constants → Operation → List ℕ → Option ℕ
computed constants (Register operation) (a ∷ b ∷ []) = Some (register_word operation a b)
computed constants (Immediate operation immediate) (a ∷ []) = Some (immediate_word operation a immediate.word)
computed constants (Shift operation amount) (a ∷ []) = Some (shift_word operation a amount.places)
computed constants (Li word) [] = Some word
computed constants Mv (a ∷ []) = Some a
computed constants (La index) [] = address_in constants.first constants.texts index
computed constants _ _ = None
