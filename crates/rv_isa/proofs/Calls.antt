-- What the calls of the environment come to, one case after the other.
use Rattle.std.proofs.Common.{◌≡◌, ◌≢◌, ℕ, ◌%◌, [], ◌∷◌, ◌++◌, Bool, true, false, ◌&&◌, nat_eq, refl, arith}
use Rattle.std.proofs.lemmas.Bool.Decides.{nat_tests}
use Rattle.kk_base.specs.Trace.{output}
use Rattle.rv_isa.specs.Numbers.{read_call, write_call, exit_call, standard_input, standard_output, unknown_call}
use Rattle.rv_isa.specs.Processor.{Processor, goes, traps, exited, value, put, can_load, can_store}
use Rattle.rv_isa.specs.Environment.{stepped, asks, reads, written, writes, calls}

module _ (next : ℕ) (s : Processor) where
  pub reads-none : value s.registers 12 ≡ 0 → reads next s ≡ record (stepped next s) { registers = put 10 0 s.registers }
  reads-none none = let test : nat_eq (value s.registers 12) 0 ≡ true = grind (arith, nat_tests) in rw test refl

  pub reads-some : value s.registers 12 ≢ 0 → reads next s ≡ asks s.left next s
  reads-some some = let test : nat_eq (value s.registers 12) 0 ≡ false = grind (arith, nat_tests) in rw test refl

  pub writes-none : value s.registers 12 ≡ 0 → writes next s ≡ record (stepped next s) { registers = put 10 (value s.registers 12) s.registers }
  writes-none none = let test : nat_eq (value s.registers 12) 0 ≡ true = grind (arith, nat_tests) in rw test refl

  pub writes-some : value s.registers 12 ≢ 0
      → writes next s ≡ record (stepped next s) { registers = put 10 (value s.registers 12) s.registers; trace = s.trace ++ output (written s) ∷ [] }
  writes-some some = let test : nat_eq (value s.registers 12) 0 ≡ false = grind (arith, nat_tests) in rw test refl

not_equal : (a b : ℕ) → a ≢ b → nat_eq a b ≡ false
not_equal a b differ = grind (arith, nat_tests)

none_of : (a number b file : ℕ) (allowed : Bool) → (a ≡ number → b ≡ file → allowed ≡ true → ⊥) → (nat_eq a number && nat_eq b file && allowed) ≡ false
none_of a number b file true none = grind (arith, nat_tests, none)
none_of a number b file false none = grind (arith, nat_tests)

module _ (next word : ℕ) (s : Processor) where
  pub calls-read : value s.registers 17 ≡ read_call → value s.registers 10 ≡ standard_input → can_store s.parts (value s.registers 11) (value s.registers 12) ≡ true → calls next word s ≡ goes (reads next s)
  unfolding calls
  calls-read number file allowed = rw (number, file, allowed) refl

  pub calls-write : value s.registers 17 ≡ write_call → value s.registers 10 ≡ standard_output → can_load s.parts (value s.registers 11) (value s.registers 12) ≡ true → calls next word s ≡ goes (writes next s)
  unfolding calls
  calls-write number file allowed = rw (number, file, allowed) refl

  pub calls-exit : value s.registers 17 ≡ exit_call → calls next word s ≡ record { processor = stepped next s; ending = exited (value s.registers 10 % 256) }
  unfolding calls
  calls-exit number = rw number refl

  pub calls-none : (value s.registers 17 ≡ read_call → value s.registers 10 ≡ standard_input → can_store s.parts (value s.registers 11) (value s.registers 12) ≡ true → ⊥)
      → (value s.registers 17 ≡ write_call → value s.registers 10 ≡ standard_output → can_load s.parts (value s.registers 11) (value s.registers 12) ≡ true → ⊥)
      → value s.registers 17 ≢ exit_call → calls next word s ≡ traps unknown_call word s
  unfolding calls
  calls-none reads writes exits =
      rw (
        none_of (value s.registers 17) read_call (value s.registers 10) standard_input (can_store s.parts (value s.registers 11) (value s.registers 12)) reads,
        none_of (value s.registers 17) write_call (value s.registers 10) standard_output (can_load s.parts (value s.registers 11) (value s.registers 12)) writes,
        not_equal (value s.registers 17) exit_call exits,
      ) refl
