-- What the acts of instructions come to, one case after the other.
use Rattle.std.proofs.Common.{◌≡◌, ◌≢◌, ℕ, ◌%◌, Bool, true, false, nat_eq, refl, arith}
use Rattle.std.proofs.lemmas.Bool.Decides.{nat_tests}
use Rattle.rv_isa.specs.Numbers.{illegal_instruction, access_fault, misaligned_access}
use Rattle.rv_isa.specs.declared.act.Act.TheVariants.{Nothing, Set, Load, Store, Call, Break}
use Rattle.rv_isa.specs.Bytes.{number_at, with_number}
use Rattle.rv_isa.specs.Processor.{Processor, goes, traps, put, can_load, can_store}
use Rattle.rv_isa.specs.Environment.{stepped, calls}
use Rattle.rv_isa.specs.Arithmetic.{widened}
use Rattle.rv_isa.specs.InstructionSet.{acts_over}
use Rattle.rv_isa.specs.Execution.{acts}

module _ (rd next word : ℕ) (s : Processor) where
  pub acts-nothing : acts Nothing rd next word s ≡ goes (stepped next s)
  unfolding acts_over
  acts-nothing = refl

  pub acts-set : (v : ℕ) → acts (Set v) rd next word s ≡ goes (record (stepped next s) { registers = put rd v s.registers })
  unfolding acts_over
  acts-set v = refl

  pub acts-load : (at width : ℕ) (signed : Bool) → at % width ≡ 0 → can_load s.parts at width ≡ true
      → acts (Load at width signed) rd next word s ≡ goes (record (stepped next s) { registers = put rd (widened width signed (number_at s.memory at width)) s.registers })
  unfolding acts_over
  acts-load at width signed aligned allowed =
      let test : nat_eq (at % width) 0 ≡ true = grind (arith, nat_tests) in rw (test, allowed) refl

  pub acts-load_misaligned : (at width : ℕ) (signed : Bool) → at % width ≢ 0 → acts (Load at width signed) rd next word s ≡ traps misaligned_access word s
  unfolding acts_over
  acts-load_misaligned at width signed misaligned =
      let test : nat_eq (at % width) 0 ≡ false = grind (arith, nat_tests) in rw test refl

  pub acts-load_denied : (at width : ℕ) (signed : Bool) → at % width ≡ 0 → can_load s.parts at width ≡ false → acts (Load at width signed) rd next word s ≡ traps access_fault word s
  unfolding acts_over
  acts-load_denied at width signed aligned denied =
      let test : nat_eq (at % width) 0 ≡ true = grind (arith, nat_tests) in rw (test, denied) refl

  pub acts-store : (at width v : ℕ) → at % width ≡ 0 → can_store s.parts at width ≡ true
      → acts (Store at width v) rd next word s ≡ goes (record (stepped next s) { memory = with_number at width v s.memory })
  unfolding acts_over
  acts-store at width v aligned allowed =
      let test : nat_eq (at % width) 0 ≡ true = grind (arith, nat_tests) in rw (test, allowed) refl

  pub acts-store_misaligned : (at width v : ℕ) → at % width ≢ 0 → acts (Store at width v) rd next word s ≡ traps misaligned_access word s
  unfolding acts_over
  acts-store_misaligned at width v misaligned =
      let test : nat_eq (at % width) 0 ≡ false = grind (arith, nat_tests) in rw test refl

  pub acts-store_denied : (at width v : ℕ) → at % width ≡ 0 → can_store s.parts at width ≡ false → acts (Store at width v) rd next word s ≡ traps access_fault word s
  unfolding acts_over
  acts-store_denied at width v aligned denied =
      let test : nat_eq (at % width) 0 ≡ true = grind (arith, nat_tests) in rw (test, denied) refl

  pub acts-call : acts Call rd next word s ≡ calls next word s
  unfolding acts_over
  acts-call = refl

  pub acts-break : acts Break rd next word s ≡ traps illegal_instruction word s
  unfolding acts_over
  acts-break = refl
