-- An example of two simulations: a count with an event each step, and the same with an event every second step.
use Rattle.std.proofs.Common.{◌≡◌, ℕ, zero, suc, ◌+◌, ◌-◌, ◌*◌, ◌≤◌, ◌<◌, Bool, true, false, List, [], ◌∷◌, Option, Some, None, refl, arith}
use Rattle.kk_base.specs.Machines.{Machine, weighing, until, state}
use Rattle.kk_base.specs.Agreements.{Agree}
use Rattle.kk_base.specs.Simulations.{Reaches, Simulates, Through}
use Rattle.kk_base.proofs.Simulations.{simulates_agree, simulates_passing, simulates_through}

abbrev at_zero : ℕ → Option (Unit {0})
at_zero zero = Some tt
at_zero (suc n) = None

abbrev counts : ℕ → List ℕ × ℕ
counts zero = ([], zero)
counts (suc n) = (suc n ∷ [], n)

-- counts down to zero, and tells each number; a number weighs 2
abbrev pub each : Machine ℕ ℕ (Unit {0})
each = weighing (λ n. 2) at_zero counts

abbrev counts_second : ℕ × Bool → List ℕ × (ℕ × Bool)
counts_second (n, false) = ([], (n, true))
counts_second (n, true) = ((counts n).0, ((counts n).1, false))

-- the same, but it rests before each number; a step weighs 1
abbrev pub every_second : Machine (ℕ × Bool) ℕ (Unit {0})
every_second = until (λ s. at_zero s.0) counts_second

-- it stands before a rest, at a number that is at most `most`
abbrev pub IsBeforeRest : ℕ → ℕ → ℕ → ℕ → ℕ × Bool → Type 0
IsBeforeRest most credit idle n s = (n ≤ most) × (s ≡ (n, false))

-- the number at which it stands is at most `most`
abbrev pub IsAtMost : ℕ → ℕ × Bool → Type 0
IsAtMost most s = s.0 ≤ most

passes_zero : (most k : ℕ) → k < 2 → IsAtMost most (state every_second k (zero, false))
passes_zero most zero less = omega arith
passes_zero most (suc zero) less = omega arith
passes_zero most (suc (suc k)) less = absurd (omega arith)

passes_two : (most n : ℕ) → suc n ≤ most → (k : ℕ) → k < 2 → IsAtMost most (state every_second k (suc n, false))
passes_two most n within zero less = within
passes_two most n within (suc zero) less = within
passes_two most n within (suc (suc k)) less = absurd (omega arith)

second_reaches : (most credit idle n : ℕ) → n ≤ most → Reaches every_second (IsBeforeRest most) (IsAtMost most) 1 (each.weight n + credit) 1 idle (each.step n).0 (each.step n).1 (n, false)
second_reaches most credit idle zero within =
    record { steps = 2; credit_after = credit; idle_after = idle; paid = omega arith; moves = omega arith; events_are = refl; passes = passes_zero most; related = (within, refl) }
second_reaches most credit idle (suc n) within =
    record { steps = 2; credit_after = credit; idle_after = idle; paid = omega arith; moves = omega arith; events_are = refl; passes = passes_two most n within; related = (omega arith, refl) }

-- resting doubles the steps
pub second_simulates_each : (most : ℕ) → Simulates each every_second (IsBeforeRest most) (IsAtMost most) 1
second_simulates_each most =
    record {
      by = λ credit idle n s related. rw related.1 (second_reaches most credit idle n related.0);
      alike = λ credit idle n s related. rw related.1 refl;
    }

-- the weight of a number has been saved in part
abbrev pub IsSaved : ℕ → ℕ → Type 0
IsSaved credit zero = Unit {0}
IsSaved credit (suc n) = 1 ≤ credit

-- it stands at the same number; the rest before it is an idle step, whose weight is saved
abbrev pub IsAtNumber : ℕ → ℕ → ℕ × Bool → ℕ → Type 0
IsAtNumber credit idle (n, false) m = (m ≡ n) × (1 ≤ idle)
IsAtNumber credit idle (n, true) m = (m ≡ n) × IsSaved credit n

abbrev pub any_number : ℕ → Type 0
any_number m = Unit {0}

each_reaches : (credit idle : ℕ) (s : ℕ × Bool) (m : ℕ) → IsAtNumber credit idle s m → Reaches each IsAtNumber any_number 2 (every_second.weight s + credit) 1 idle (every_second.step s).0 (every_second.step s).1 m
each_reaches credit idle (zero, false) m e =
    record { steps = 1; credit_after = credit; idle_after = 1; paid = rw e.0 (omega arith); moves = omega arith; events_are = rw e.0 refl; passes = λ k less. tt; related = rw e.0 (refl, omega arith) }
each_reaches credit idle (suc n, false) m e =
    record { steps = 0; credit_after = 1 + credit; idle_after = 0; paid = omega arith; moves = omega (arith, e.1); events_are = refl; passes = λ k less. tt; related = (e.0, omega arith) }
each_reaches credit idle (zero, true) m e =
    record { steps = 1; credit_after = credit; idle_after = 1; paid = rw e.0 (omega arith); moves = omega arith; events_are = rw e.0 refl; passes = λ k less. tt; related = rw e.0 (refl, tt) }
each_reaches credit idle (suc n, true) m e =
    record { steps = 1; credit_after = credit - 1; idle_after = 1; paid = rw e.0 (omega (arith, e.1)); moves = omega arith; events_are = rw e.0 refl; passes = λ k less. tt; related = rw e.0 (refl, omega arith) }

ends_as_each : (credit idle : ℕ) (s : ℕ × Bool) (m : ℕ) → IsAtNumber credit idle s m → each.ending m ≡ every_second.ending s
ends_as_each credit idle (n, false) m e = rw e.0 refl
ends_as_each credit idle (n, true) m e = rw e.0 refl

-- without the rests half of the steps are left, which weigh as much
pub each_simulates_second : Simulates every_second each IsAtNumber any_number 2
each_simulates_second = record { by = each_reaches; alike = ends_as_each }

-- the two counts agree, from any number
pub each_agrees_with_second : (n : ℕ) → Agree each every_second 0 (λ m. m * 1 + 0 + 1) n (n, false)
each_agrees_with_second n = simulates_agree each every_second (IsBeforeRest n) (IsAtMost n) 1 (second_simulates_each n) 0 0 n (n, false) (omega arith, refl)

-- and no greater number is met on the way, at a rest or not
pub none_greater : (n m : ℕ) → IsAtMost n (state every_second m (n, false))
none_greater n m = simulates_passing each every_second (IsBeforeRest n) (IsAtMost n) 1 (second_simulates_each n) 0 0 n (n, false) (omega arith, refl) m

-- both simulations as one
pub each_through_second : (most : ℕ) → Simulates each each (Through (IsBeforeRest most) IsAtNumber 1) any_number (2 * 1)
each_through_second most = simulates_through each every_second each (IsBeforeRest most) IsAtNumber (IsAtMost most) any_number 1 2 (second_simulates_each most) each_simulates_second
