-- What follows from a simulation: two machines agree, two simulations are one, and what is passed between related states
-- is all that the lower machine comes by.
use Rattle.std.proofs.Common.{◌≡◌, ℕ, zero, suc, ◌+◌, ◌-◌, ◌*◌, ◌≤◌, ◌<◌, List, Option, None, Some, refl, sym, ◌∙◌, ap, subst, arith, zero-mul, add-mul, mul_assoc, mul_comm, mul-le-mul_right, lt_of_mul-lt-mul_right, flat_map, option_map, inl, inr}
use Rattle.std.proofs.lemmas.Bool.{cases_lt}
use Rattle.kk_base.specs.Machines.{Machine, trace, state, weight_of, ending_after, mapped}
use Rattle.kk_base.specs.Agreements.{IsFollowedBy, Does, Agree}
use Rattle.kk_base.specs.Simulations.{Reaches, Simulates, Through}
use Rattle.kk_base.proofs.Machines.{state_ended, trace_ended, state-add, trace-add, weight_of-add, trace_grows, ending_stays, trace_stays, trace-mapped}

-- related states that have ended stay related: the lower machine takes a step that weighs nothing
pub ended_reaches : {S T E W : Type 0} (upper : Machine S E W) (lower : Machine T E W) (Related : ℕ → ℕ → S → T → Type 0) (Passing : T → Type 0) (pace credit idle : ℕ) (s : S) (t : T) (w : W)
    → 1 ≤ pace → Related credit idle s t → upper.ending s ≡ Some w → lower.ending t ≡ Some w → Passing t
    → Reaches lower Related Passing pace (upper.weight s + credit) 1 idle (upper.step s).0 (upper.step s).1 t
ended_reaches upper lower Related Passing pace credit idle s t w paces related upper_ended lower_ended passing =
    record {
      steps = 1;
      credit_after = credit;
      idle_after = idle;
      paid = omega (arith, lower.weightless t w lower_ended);
      moves = omega arith;
      events_are = trace_ended lower 1 t w lower_ended ∙ sym (ap (λ next. next.0) (upper.stays s w upper_ended));
      passes = λ k less. let first : k ≡ 0 = omega arith in rw first passing;
      related = rw (state_ended lower 1 t w lower_ended, upper.stays s w upper_ended) related;
    }

-- a simulation of the steps of states that have not ended is one of all
pub simulates_until_ended : {S T E W : Type 0} (upper : Machine S E W) (lower : Machine T E W) (Related : ℕ → ℕ → S → T → Type 0) (Passing : T → Type 0) (pace : ℕ)
    → 1 ≤ pace
    → ((credit idle : ℕ) (s : S) (t : T) → Related credit idle s t → lower.ending t ≡ upper.ending s)
    → ((credit idle : ℕ) (s : S) (t : T) → Related credit idle s t → Passing t)
    → ((credit idle : ℕ) (s : S) (t : T) → Related credit idle s t → upper.ending s ≡ None → Reaches lower Related Passing pace (upper.weight s + credit) 1 idle (upper.step s).0 (upper.step s).1 t)
    → Simulates upper lower Related Passing pace
simulates_until_ended {S} {T} {E} {W} upper lower Related Passing pace paces alike passing by =
    record {
      by = λ credit idle s t related.
          let Goal : Type 0 = Reaches lower Related Passing pace (upper.weight s + credit) 1 idle (upper.step s).0 (upper.step s).1 t in
          let cases : (how : Option W) → upper.ending s ≡ how → Goal
          = λ how. elim how as (λ how. upper.ending s ≡ how → Goal) [
            | None ↦ λ goes_on. by credit idle s t related goes_on
            | Some w ↦ λ ended. ended_reaches upper lower Related Passing pace credit idle s t w paces related ended (alike credit idle s t related ∙ ended) (passing credit idle s t related)
          ] in
          cases (upper.ending s) refl;
      alike = alike;
    }

-- what is passed in some steps and then in others
passes_in_parts : {T E W : Type 0} (lower : Machine T E W) (Passing : T → Type 0) (first rest : ℕ) (t : T)
    → ((k : ℕ) → k < first → Passing (state lower k t)) → ((k : ℕ) → k < rest → Passing (state lower k (state lower first t)))
    → (k : ℕ) → k < first + rest → Passing (state lower k t)
passes_in_parts lower Passing first rest t before behind k less =
    elim (cases_lt k first) as (λ _. Passing (state lower k t)) [
      | inl near ↦ before k near
      | inr far ↦
          let whole : first + (k - first) ≡ k = omega arith in
          subst (λ (n : ℕ). Passing (state lower n t)) whole (rw (state-add lower first (k - first) t) (behind (k - first) (omega arith)))
    ]

-- n upper steps, as one
pub simulates_many : {S T E W : Type 0} (upper : Machine S E W) (lower : Machine T E W) (Related : ℕ → ℕ → S → T → Type 0) (Passing : T → Type 0) (pace : ℕ)
    → Simulates upper lower Related Passing pace
    → (n credit idle : ℕ) (s : S) (t : T) → Related credit idle s t
    → Reaches lower Related Passing pace (weight_of upper n s + credit) n idle (trace upper n s) (state upper n s) t
simulates_many upper lower Related Passing pace simulation zero credit idle s t related =
    record {
      steps = 0;
      credit_after = credit;
      idle_after = idle;
      paid = omega arith;
      moves = omega (arith, zero-mul pace);
      events_are = refl;
      passes = λ k less. absurd (omega arith);
      related = related;
    }
simulates_many upper lower Related Passing pace simulation (suc n) credit idle s t related =
    let one : Reaches lower Related Passing pace (upper.weight s + credit) 1 idle (upper.step s).0 (upper.step s).1 t = simulation.by credit idle s t related in
    let rest : Reaches lower Related Passing pace (weight_of upper n (upper.step s).1 + one.credit_after) n one.idle_after (trace upper n (upper.step s).1) (state upper n (upper.step s).1) (state lower one.steps t)
    = simulates_many upper lower Related Passing pace simulation n one.credit_after one.idle_after (upper.step s).1 (state lower one.steps t) one.related in
    record {
      steps = one.steps + rest.steps;
      credit_after = rest.credit_after;
      idle_after = rest.idle_after;
      paid = omega (arith, weight_of-add lower one.steps rest.steps t, one.paid, rest.paid);
      moves = omega (arith, add-mul one.steps rest.steps pace, one.moves, rest.moves);
      events_are = rw (trace-add lower one.steps rest.steps t, one.events_are, rest.events_are) refl;
      passes = passes_in_parts lower Passing one.steps rest.steps t one.passes rest.passes;
      related = rw (state-add lower one.steps rest.steps t) rest.related;
    }

-- what the upper machine does in n steps, the lower does in steps that weigh no more than these and the credit
pub simulates_downwards : {S T E W : Type 0} (upper : Machine S E W) (lower : Machine T E W) (Related : ℕ → ℕ → S → T → Type 0) (Passing : T → Type 0) (pace : ℕ)
    → Simulates upper lower Related Passing pace
    → (credit idle : ℕ) (s : S) (t : T) → Related credit idle s t
    → (n : ℕ) → Does lower (weight_of upper n s + credit) (trace upper n s) (ending_after upper n s) t
simulates_downwards upper lower Related Passing pace simulation credit idle s t related n =
    let many : Reaches lower Related Passing pace (weight_of upper n s + credit) n idle (trace upper n s) (state upper n s) t = simulates_many upper lower Related Passing pace simulation n credit idle s t related in
    record {
      steps = many.steps;
      weighs = omega (arith, many.paid);
      events_are = many.events_are;
      ending_is = simulation.alike many.credit_after many.idle_after (state upper n s) (state lower many.steps t) many.related;
    }

-- so many upper steps take more than m lower ones
more_than : (m pace idle steps idle_after : ℕ) → m * pace + idle + 1 + idle_after ≤ steps * pace + idle → m < steps
more_than m pace idle steps idle_after moves =
    let less : m * pace < steps * pace = omega arith in
    lt_of_mul-lt-mul_right pace less

-- what the lower machine does in m steps, the upper does within m * pace + idle + 1
pub simulates_upwards : {S T E W : Type 0} (upper : Machine S E W) (lower : Machine T E W) (Related : ℕ → ℕ → S → T → Type 0) (Passing : T → Type 0) (pace : ℕ)
    → Simulates upper lower Related Passing pace
    → (credit idle : ℕ) (s : S) (t : T) → Related credit idle s t
    → IsFollowedBy lower upper (λ m. m * pace + idle + 1) t s
simulates_upwards upper lower Related Passing pace simulation credit idle s t related =
    let up : ℕ → ℕ = λ m. m * pace + idle + 1 in
    let many : (m : ℕ) → Reaches lower Related Passing pace (weight_of upper (up m) s + credit) (up m) idle (trace upper (up m) s) (state upper (up m) s) t
    = λ m. simulates_many upper lower Related Passing pace simulation (up m) credit idle s t related in
    let enough : (m : ℕ) → m < (many m).steps = λ m. more_than m pace idle (many m).steps (many m).idle_after (many m).moves in
    let less : (m : ℕ) → m ≤ (many m).steps = λ m. omega (arith, enough m) in
    record {
      prefix = λ m. rw (← (many m).events_are) (trace_grows lower m (many m).steps t (less m));
      ending = λ m w e. sym (simulation.alike (many m).credit_after (many m).idle_after (state upper (up m) s) (state lower (many m).steps t) (many m).related) ∙ ending_stays lower m (many m).steps t w e (less m);
      whole = λ m w e. sym (many m).events_are ∙ trace_stays lower m (many m).steps t w e (less m);
    }

-- related states of a simulation agree
pub simulates_agree : {S T E W : Type 0} (upper : Machine S E W) (lower : Machine T E W) (Related : ℕ → ℕ → S → T → Type 0) (Passing : T → Type 0) (pace : ℕ)
    → Simulates upper lower Related Passing pace
    → (credit idle : ℕ) (s : S) (t : T) → Related credit idle s t
    → Agree upper lower credit (λ m. m * pace + idle + 1) s t
simulates_agree upper lower Related Passing pace simulation credit idle s t related =
    record {
      downwards = simulates_downwards upper lower Related Passing pace simulation credit idle s t related;
      upwards = simulates_upwards upper lower Related Passing pace simulation credit idle s t related;
    }

-- every state of the lower machine is one that is passed
pub simulates_passing : {S T E W : Type 0} (upper : Machine S E W) (lower : Machine T E W) (Related : ℕ → ℕ → S → T → Type 0) (Passing : T → Type 0) (pace : ℕ)
    → Simulates upper lower Related Passing pace
    → (credit idle : ℕ) (s : S) (t : T) → Related credit idle s t
    → (m : ℕ) → Passing (state lower m t)
simulates_passing upper lower Related Passing pace simulation credit idle s t related m =
    let n : ℕ = m * pace + idle + 1 in
    let many : Reaches lower Related Passing pace (weight_of upper n s + credit) n idle (trace upper n s) (state upper n s) t = simulates_many upper lower Related Passing pace simulation n credit idle s t related in
    many.passes m (more_than m pace idle many.steps many.idle_after many.moves)

paces_multiply : (b a high low steps high_after below low_after : ℕ) → 1 + high_after ≤ steps * b + high → steps + low_after ≤ below * a + low
    → 1 + (high_after + b * low_after) ≤ below * (a * b) + (high + b * low)
paces_multiply b a high low steps high_after below low_after above under =
    omega (arith, mul-le-mul_right b under, add-mul steps low_after b, add-mul (below * a) low b, mul_assoc below a b, mul_comm low_after b, mul_comm low b)

-- two simulations, one on the other, are one: the credits add up, and the paces multiply
pub simulates_through : {S T U E W : Type 0} (upper : Machine S E W) (middle : Machine T E W) (lower : Machine U E W)
    (High : ℕ → ℕ → S → T → Type 0) (Low : ℕ → ℕ → T → U → Type 0) (PassingHigh : T → Type 0) (PassingLow : U → Type 0) (pace_high pace_low : ℕ)
    → Simulates upper middle High PassingHigh pace_high → Simulates middle lower Low PassingLow pace_low
    → Simulates upper lower (Through High Low pace_high) PassingLow (pace_low * pace_high)
simulates_through {S = S} {T = T} {U = U} upper middle lower High Low PassingHigh PassingLow pace_high pace_low first second =
    record {
      by = λ credit idle s u through.
          let one : Reaches middle High PassingHigh pace_high (upper.weight s + through.credit_high) 1 through.idle_high (upper.step s).0 (upper.step s).1 through.middle
          = first.by through.credit_high through.idle_high s through.middle through.high in
          let many : Reaches lower Low PassingLow pace_low (weight_of middle one.steps through.middle + through.credit_low) one.steps through.idle_low (trace middle one.steps through.middle) (state middle one.steps through.middle) u
          = simulates_many middle lower Low PassingLow pace_low second one.steps through.credit_low through.idle_low through.middle u through.low in
          record {
            steps = many.steps;
            credit_after = one.credit_after + many.credit_after;
            idle_after = one.idle_after + pace_high * many.idle_after;
            paid = omega (arith, one.paid, many.paid, through.credit_is);
            moves = rw through.idle_is (paces_multiply pace_high pace_low through.idle_high through.idle_low one.steps one.idle_after many.steps many.idle_after one.moves many.moves);
            events_are = many.events_are ∙ one.events_are;
            passes = many.passes;
            related = record {
              middle = state middle one.steps through.middle;
              credit_high = one.credit_after;
              idle_high = one.idle_after;
              credit_low = many.credit_after;
              idle_low = many.idle_after;
              credit_is = refl;
              idle_is = refl;
              high = one.related;
              low = many.related;
            };
          };
      alike = λ credit idle s u through. second.alike through.credit_low through.idle_low through.middle u through.low ∙ first.alike through.credit_high through.idle_high s through.middle through.high;
    }

-- what is seen of one machine is done by what is seen of the other
pub simulates_mapped : {S T E F W V : Type 0} (events : E → List F) (seen : W → V) (upper : Machine S E W) (lower : Machine T E W) (Related : ℕ → ℕ → S → T → Type 0) (Passing : T → Type 0) (pace : ℕ)
    → Simulates upper lower Related Passing pace → Simulates (mapped events seen upper) (mapped events seen lower) Related Passing pace
simulates_mapped events seen upper lower Related Passing pace simulation =
    record {
      by = λ credit idle s t related.
          let one : Reaches lower Related Passing pace (upper.weight s + credit) 1 idle (upper.step s).0 (upper.step s).1 t = simulation.by credit idle s t related in
          record {
            steps = one.steps;
            credit_after = one.credit_after;
            idle_after = one.idle_after;
            paid = one.paid;
            moves = one.moves;
            events_are = trace-mapped events seen lower one.steps t ∙ ap (flat_map events) one.events_are;
            passes = one.passes;
            related = one.related;
          };
      alike = λ credit idle s t related. ap (option_map seen) (simulation.alike credit idle s t related);
    }
