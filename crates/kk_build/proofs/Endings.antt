-- What a run has come to where it has ended.
use Rattle.std.proofs.Common.{◌≡◌, ℕ, nat_eq, true, false, Some, refl, arith, subst}
use Rattle.std.proofs.lemmas.Bool.Decides.{nat_tests}
use Rattle.kk_base.specs.Exits.{heap_full_exit, stack_full_exit}
use Rattle.kk_counted.specs.CountedStates.{CountedControl, running, stopped, stuck, counted_end_at}
use Rattle.kk_source.specs.Ends.{exit_of}
use Rattle.kk_source.specs.State.{End, ended, heap_full, stack_full}
use Rattle.rv_isa.specs.Processor.{Ending, going, exited, trapped}
use Rattle.rv_isa.specs.ProcessorMachine as Machine

pub exited_is : (ending : Ending) (number : ℕ) → Machine.ended ending ≡ Some (exited number) → ending ≡ exited number
exited_is going number is = absurd (cc)
exited_is (exited other) number is = cc
exited_is (trapped cause pc word) number is = absurd (cc)

pub counted_stopped : (control : CountedControl) (by : End) → counted_end_at control ≡ Some by → control ≡ stopped by
counted_stopped (running code environment joins) by is = absurd (cc)
counted_stopped (stopped other) by is = cc
counted_stopped stuck by is = absurd (cc)

-- numbers that are told apart are not the same
apart : (n m : ℕ) → nat_eq n m ≡ false → n ≡ m → ⊥
apart n m differs same = let equal : nat_eq n m ≡ true = subst (λ (k : ℕ). nat_eq n k ≡ true) same (grind (arith, nat_tests)) in cc

-- an image exits with 101 where live cells fill the heap, and with 102 where calls pass the depth
exits_are : (exit_of heap_full ≡ 101) × (exit_of stack_full ≡ 102)
exits_are = (refl, refl)

-- no two ends have the same exit number
pub differ : (a b : End) → exit_of a ≡ exit_of b → a ≡ b
differ ended ended same = refl
differ ended heap_full same = absurd (apart 0 heap_full_exit refl same)
differ ended stack_full same = absurd (apart 0 stack_full_exit refl same)
differ heap_full ended same = absurd (apart heap_full_exit 0 refl same)
differ heap_full heap_full same = refl
differ heap_full stack_full same = absurd (apart heap_full_exit stack_full_exit refl same)
differ stack_full ended same = absurd (apart stack_full_exit 0 refl same)
differ stack_full heap_full same = absurd (apart stack_full_exit heap_full_exit refl same)
differ stack_full stack_full same = refl
