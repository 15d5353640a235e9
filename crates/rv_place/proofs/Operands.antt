-- The registers of operands.
use Rattle.std.proofs.Common.{◌≡◌, ℕ, zero, suc, List, [], ◌∷◌, Option, Some, None, refl, subst}
use Rattle.std.specs.List.{slice_get}
use Rattle.rv_isa.specs.declared.register.Register.{Register}
use Rattle.rv_isa.specs.declared.placed.Place.{Place}
use Rattle.rv_isa.specs.declared.placed.Place.TheVariants.{Register as register, Slot as slot}
use Rattle.rv_isa.specs.declared.placed.Operand.{Operand}
use Rattle.rv_place.specs.Registers.{zero_register}
use Rattle.rv_place.specs.Lines.{registers_of, register_into}
use Rattle.rv_place.specs.Emitted.{register_or_zero}

-- the register of an index, or the zero register
abbrev pub register_in : List Register → ℕ → Register
register_in [] k = zero_register
register_in (r ∷ rs) zero = r
register_in (r ∷ rs) (suc k) = register_in rs k

-- operands in registers have the registers that are theirs
registers_by : (value : ℕ) (place : Place) (args : List Operand) (rest : Option (List Register)) → registers_of args ≡ rest → (registers : List Register) (k : ℕ)
    → ((rs : List Register) (j : ℕ) → registers_of args ≡ Some rs → register_or_zero (slice_get args j) ≡ register_in rs j)
    → registers_of (record { value = value; place = place } ∷ args) ≡ Some registers
    → register_or_zero (slice_get (record { value = value; place = place } ∷ args) k) ≡ register_in registers k
registers_by value (slot j) args rest rest_is registers k behind are = cc
registers_by value (register r) args None rest_is registers k behind are = let none = rw rest_is at are in cc
registers_by value (register r) args (Some rs) rest_is registers zero behind are =
    let some = rw rest_is at are in
    let e : r ∷ rs ≡ registers = cc in
    subst (λ all. r ≡ register_in all 0) e refl
registers_by value (register r) args (Some rs) rest_is registers (suc k) behind are =
    let some = rw rest_is at are in
    let e : r ∷ rs ≡ registers = cc in
    subst (λ all. register_or_zero (slice_get args k) ≡ register_in all (suc k)) e (behind rs k rest_is)

pub operand_register : (args : List Operand) (registers : List Register) (k : ℕ) → registers_of args ≡ Some registers
    → register_or_zero (slice_get args k) ≡ register_in registers k
operand_register [] registers k are = let e : [] ≡ registers = cc in subst (λ rs. zero_register ≡ register_in rs k) e refl
operand_register (operand ∷ args) registers k are =
    registers_by operand.value operand.place args (registers_of args) refl registers k (operand_register args) are

-- where a value goes
into_by : (value : ℕ) (place : Place) (rd : Register) → register_into (Some (record { value = value; place = place })) ≡ Some rd
    → register_or_zero (Some (record { value = value; place = place })) ≡ rd
into_by value (register r) rd is = cc
into_by value (slot k) rd is = cc

pub register_of_into : (into : Option Operand) (rd : Register) → register_into into ≡ Some rd → register_or_zero into ≡ rd
register_of_into None rd is = cc
register_of_into (Some operand) rd is = into_by operand.value operand.place rd is
