-- What follows for two machines that agree: agreements compose, what is seen of both agrees, and they end alike.
use Rattle.std.proofs.Common.{◌≡◌, ◌↔◌, ℕ, ◌+◌, ◌≤◌, List, ◌++◌, Some, sym, ◌∙◌, ap, arith, append_assoc, flat_map, option_map}
use Rattle.kk_base.specs.Trace.{IsPrefix}
use Rattle.kk_base.specs.Machines.{Machine, trace, weight_of, ending_after, WeighsEach, ending_made, mapped}
use Rattle.kk_base.specs.Agreements.{IsFollowedBy, Does, Agree}
use Rattle.kk_base.proofs.Machines.{trace_grows, ending_stays, trace_stays, SameWithin, steps_within, trace-mapped, IsPrefix-flat_map}

pub prefix_through : {E : Type 0} (xs ys zs : List E) → IsPrefix xs ys → IsPrefix ys zs → IsPrefix xs zs
prefix_through xs ys zs a b = (a.0 ++ b.0, sym (append_assoc xs a.0 b.0) ∙ rw a.1 b.1)

-- a greater number of steps does as well
pub follows_later : {S T E W : Type 0} (first : Machine S E W) (second : Machine T E W) (within later : ℕ → ℕ) (s : S) (t : T)
    → IsFollowedBy first second within s t → ((n : ℕ) → within n ≤ later n) → IsFollowedBy first second later s t
follows_later first second within later s t follows le =
    record {
      prefix = λ n. prefix_through (trace first n s) (trace second (within n) t) (trace second (later n) t) (follows.prefix n) (trace_grows second (within n) (later n) t (le n));
      ending = λ n w e. ending_stays second (within n) (later n) t w (follows.ending n w e) (le n);
      whole = λ n w e. trace_stays second (within n) (later n) t w (follows.ending n w e) (le n) ∙ follows.whole n w e;
    }

-- what follows one that follows the first follows the first
pub follows_through : {S T U E W : Type 0} (first : Machine S E W) (second : Machine T E W) (third : Machine U E W) (high low : ℕ → ℕ) (s : S) (t : T) (u : U)
    → IsFollowedBy first second high s t → IsFollowedBy second third low t u → IsFollowedBy first third (λ n. low (high n)) s u
follows_through first second third high low s t u above below =
    record {
      prefix = λ n. prefix_through (trace first n s) (trace second (high n) t) (trace third (low (high n)) u) (above.prefix n) (below.prefix (high n));
      ending = λ n w e. below.ending (high n) w (above.ending n w e);
      whole = λ n w e. below.whole (high n) w (above.ending n w e) ∙ above.whole n w e;
    }

-- two agreements, one on the other, are one: the credits add up
pub agree_through : {S T U E W : Type 0} (upper : Machine S E W) (middle : Machine T E W) (lower : Machine U E W) (credit_high credit_low : ℕ) (up_high up_low : ℕ → ℕ) (s : S) (t : T) (u : U)
    → Agree upper middle credit_high up_high s t → Agree middle lower credit_low up_low t u
    → Agree upper lower (credit_high + credit_low) (λ m. up_high (up_low m)) s u
agree_through upper middle lower credit_high credit_low up_high up_low s t u above below =
    record {
      downwards = λ n.
          let high : Does middle (weight_of upper n s + credit_high) (trace upper n s) (ending_after upper n s) t = above.downwards n in
          let low : Does lower (weight_of middle high.steps t + credit_low) (trace middle high.steps t) (ending_after middle high.steps t) u = below.downwards high.steps in
          record {
            steps = low.steps;
            weighs = omega (arith, high.weighs, low.weighs);
            events_are = low.events_are ∙ high.events_are;
            ending_is = low.ending_is ∙ high.ending_is;
          };
      upwards = follows_through lower middle upper up_low up_high u t s below.upwards above.upwards;
    }

-- what is seen of two machines that agree agrees
pub agree_mapped : {S T E F W V : Type 0} (events : E → List F) (seen : W → V) (upper : Machine S E W) (lower : Machine T E W) (credit : ℕ) (up : ℕ → ℕ) (s : S) (t : T)
    → Agree upper lower credit up s t → Agree (mapped events seen upper) (mapped events seen lower) credit up s t
agree_mapped events seen upper lower credit up s t agree =
    record {
      downwards = λ n.
          let done : Does lower (weight_of upper n s + credit) (trace upper n s) (ending_after upper n s) t = agree.downwards n in
          record {
            steps = done.steps;
            weighs = done.weighs;
            events_are = trace-mapped events seen lower done.steps t ∙ ap (flat_map events) done.events_are ∙ sym (trace-mapped events seen upper n s);
            ending_is = ap (option_map seen) done.ending_is;
          };
      upwards = record {
        prefix = λ m. rw (trace-mapped events seen lower m t, trace-mapped events seen upper (up m) s) (IsPrefix-flat_map events (trace lower m t) (trace upper (up m) s) (agree.upwards.prefix m));
        ending = λ m v e.
            let made = ending_made seen (ending_after lower m t) v e in
            ap (option_map seen) (agree.upwards.ending m made.0 made.1 ∙ sym made.1) ∙ e;
        whole = λ m v e.
            let made = ending_made seen (ending_after lower m t) v e in
            trace-mapped events seen upper (up m) s ∙ ap (flat_map events) (agree.upwards.whole m made.0 made.1) ∙ sym (trace-mapped events seen lower m t);
      };
    }

-- where each lower step weighs at least 1, the weight bounds the number of lower steps
pub agree_in_steps : {S T E W : Type 0} (upper : Machine S E W) (lower : Machine T E W) (credit : ℕ) (up : ℕ → ℕ) (s : S) (t : T)
    → WeighsEach lower → Agree upper lower credit up s t → IsFollowedBy upper lower (λ n. weight_of upper n s + credit) s t
agree_in_steps upper lower credit up s t each agree =
    let done : (n : ℕ) → Does lower (weight_of upper n s + credit) (trace upper n s) (ending_after upper n s) t = agree.downwards in
    let few : (n : ℕ) → SameWithin lower (done n).steps (weight_of upper n s + credit) t = λ n. steps_within lower each (done n).steps (weight_of upper n s + credit) t (done n).weighs in
    let same : (n : ℕ) → trace lower (few n).steps t ≡ trace upper n s = λ n. (few n).trace_is ∙ (done n).events_are in
    let ended : (n : ℕ) (w : _) → ending_after upper n s ≡ Some w → ending_after lower (few n).steps t ≡ Some w = λ n w e. ap lower.ending (few n).state_is ∙ (done n).ending_is ∙ e in
    record {
      prefix = λ n. rw (← same n) (trace_grows lower (few n).steps (weight_of upper n s + credit) t (few n).within);
      ending = λ n w e. ending_stays lower (few n).steps (weight_of upper n s + credit) t w (ended n w e) (few n).within;
      whole = λ n w e. trace_stays lower (few n).steps (weight_of upper n s + credit) t w (ended n w e) (few n).within ∙ same n;
    }

-- one ends if and only if the other does, alike
pub agree_end : {S T E W : Type 0} (upper : Machine S E W) (lower : Machine T E W) (credit : ℕ) (up : ℕ → ℕ) (s : S) (t : T)
    → Agree upper lower credit up s t → (w : W)
    → ((n : ℕ) × (ending_after upper n s ≡ Some w)) ↔ ((m : ℕ) × (ending_after lower m t ≡ Some w))
agree_end upper lower credit up s t agree w =
    (λ ended. ((agree.downwards ended.0).steps, (agree.downwards ended.0).ending_is ∙ ended.1), λ ended. (up ended.0, agree.upwards.ending ended.0 w ended.1))

-- and then with one trace
pub agree_whole : {S T E W : Type 0} (upper : Machine S E W) (lower : Machine T E W) (credit : ℕ) (up : ℕ → ℕ) (s : S) (t : T)
    → Agree upper lower credit up s t → (n m : ℕ) (w v : W) → ending_after upper n s ≡ Some w → ending_after lower m t ≡ Some v → trace lower m t ≡ trace upper n s
agree_whole upper lower credit up s t agree n m w v upper_ended lower_ended =
    let done : Does lower (weight_of upper n s + credit) (trace upper n s) (ending_after upper n s) t = agree.downwards n in
    sym (trace_stays lower m (m + done.steps) t v lower_ended (omega arith))
    ∙ trace_stays lower done.steps (m + done.steps) t w (done.ending_is ∙ upper_ended) (omega arith)
    ∙ done.events_are
