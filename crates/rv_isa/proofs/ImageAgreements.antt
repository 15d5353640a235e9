-- Where a machine agrees with the processor's, from a state that has told nothing yet, the processor's runs agree with it.
use Rattle.std.proofs.Common.{◌≡◌, ℕ, ◌+◌, ◌≤◌, List, [], ◌++◌, Some, None, refl, sym, ap, ◌∙◌, option_map, flat_map, append-nil, arith}
use Rattle.kk_base.specs.Trace.{Event}
use Rattle.kk_base.specs.Machines.{Machine, trace, weight_of, ending_after, WeighsEach, ending_made, mapped}
use Rattle.kk_base.specs.Agreements.{IsFollowedBy, Agree}
use Rattle.kk_base.proofs.Machines.{trace-mapped}
use Rattle.kk_base.proofs.Agreements.{follows_later, agree_in_steps, agree_end, agree_whole}
use Rattle.rv_isa.specs.Processor.{Processor, Ending, going, exited, trapped, goes}
use Rattle.rv_isa.specs.InstructionSet.{InstructionSet, run_over}
use Rattle.rv_isa.specs.ProcessorMachine.{ended, processor_machine, ExitsWell, ImageAgrees, ImageKeepsUp}
use Rattle.rv_isa.proofs.ProcessorMachines.{trace-run, ending-run}

-- each instruction weighs 1
weighs-by : (e : Ending) → ended e ≡ None → e ≡ going
weighs-by going on = refl
weighs-by (exited number) on = cc
weighs-by (trapped cause pc word) on = cc

pub each-weighs : {I : Type 0} (set : InstructionSet I) → WeighsEach (processor_machine set)
each-weighs set progress on = rw (weighs-by progress.ending on) (omega arith)

-- a run that has exited has ended so, and what has ended so is that
exit-ends : (e : Ending) (number : ℕ) → e ≡ exited number → ended e ≡ Some (exited number)
exit-ends e number is = ap ended is

ends-exit : (e : Ending) (number : ℕ) → ended e ≡ Some (exited number) → e ≡ exited number
ends-exit going number is = cc
ends-exit (exited other) number is = cc
ends-exit (trapped cause pc word) number is = cc

same-number : (n m : ℕ) → exited n ≡ exited m → n ≡ m
same-number n m is = cc

same-some : (a b : Ending) → Some a ≡ Some b → a ≡ b
same-some a b is = cc

module _ {I S E W : Type 0} (set : InstructionSet I) (upper : Machine S E W) (told : E → List Event) (exit_of : W → ℕ) (credit : ℕ) (up : ℕ → ℕ) (s : S) (t : Processor)
    (agree : Agree (mapped told (λ end. exited (exit_of end)) upper) (processor_machine set) credit up s (goes t)) (silent : t.trace ≡ []) where
  abbrev seen : Machine S Event Ending
  seen = mapped told (λ end. exited (exit_of end)) upper

  -- the trace of a run is the machine's, and what is seen of the upper machine's is its own
  trace-is : (m : ℕ) → (run_over set m t).processor.trace ≡ trace (processor_machine set) m (goes t)
  trace-is m = trace-run set m t ∙ ap (λ (before : List Event). before ++ trace (processor_machine set) m (goes t)) silent

  seen-is : (n : ℕ) → trace seen n s ≡ flat_map told (trace upper n s)
  seen-is n = trace-mapped told (λ end. exited (exit_of end)) upper n s

  ending-is : (n : ℕ) (end : W) → ending_after upper n s ≡ Some end → ending_after seen n s ≡ Some (exited (exit_of end))
  ending-is n end is = ap (option_map (λ (end : W). exited (exit_of end))) is

  -- an ending that is seen is one of the upper machine
  ending-of : (n : ℕ) (e : Ending) → ending_after seen n s ≡ Some e → (end : W) × (ending_after upper n s ≡ Some end) × (exited (exit_of end) ≡ e)
  ending-of n e is =
      let made = ending_made (λ end. exited (exit_of end)) (ending_after upper n s) e is in
      (made.0, made.1, same-some (exited (exit_of made.0)) e (sym (ending-is n made.0 made.1) ∙ is))

  -- a run that has ended is one whose ending is seen of the upper machine
  well-by : (m : ℕ) (e : Ending) → (run_over set m t).ending ≡ e → ExitsWell exit_of e
  well-by m going is = tt
  well-by m (exited number) is =
      let above = agree.upwards.ending m (exited number) (ending-run set m t ∙ ap ended is) in
      let of = ending-of (up m) (exited number) above in
      (of.0, same-number number (exit_of of.0) (sym of.2))
  well-by m (trapped cause pc word) is =
      let above = agree.upwards.ending m (trapped cause pc word) (ending-run set m t ∙ ap ended is) in
      let of = ending-of (up m) (trapped cause pc word) above in
      let never : exited (exit_of of.0) ≡ trapped cause pc word = of.2 in
      cc

  module _ (differ : (a b : W) → exit_of a ≡ exit_of b → a ≡ b) where
    down : (end : W) → (n : ℕ) × (ending_after upper n s ≡ Some end) → (m : ℕ) × ((run_over set m t).ending ≡ exited (exit_of end))
    down end ends =
        let lower = (agree_end seen (processor_machine set) credit up s (goes t) agree (exited (exit_of end))).0 (ends.0, ending-is ends.0 end ends.1) in
        (lower.0, ends-exit (run_over set lower.0 t).ending (exit_of end) (sym (ending-run set lower.0 t) ∙ lower.1))

    above : (end : W) → (m : ℕ) × ((run_over set m t).ending ≡ exited (exit_of end)) → (n : ℕ) × (ending_after upper n s ≡ Some end)
    above end ends =
        let is = agree.upwards.ending ends.0 (exited (exit_of end)) (ending-run set ends.0 t ∙ exit-ends (run_over set ends.0 t).ending (exit_of end) ends.1) in
        let of = ending-of (up ends.0) (exited (exit_of end)) is in
        let same : of.0 ≡ end = differ of.0 end (same-number (exit_of of.0) (exit_of end) of.2) in
        (up ends.0, of.1 ∙ ap (λ (w : W). Some w) same)

    pub image_agrees : ImageAgrees upper told exit_of s (λ m. run_over set m t)
    image_agrees = record {
      ends_well = λ m. well-by m (run_over set m t).ending refl;
      image_is_behind = λ m. (up m, rw (trace-is m, ← seen-is (up m)) (agree.upwards.prefix m));
      machine_is_behind = λ n. let done = agree.downwards n in (done.steps, ([], rw (trace-is done.steps, done.events_are, seen-is n) (append-nil (flat_map told (trace upper n s)))));
      end_alike = λ end. (down end, above end);
      same_trace = λ end n m upper_ended image_ended.
          sym (seen-is n)
          ∙ sym (agree_whole seen (processor_machine set) credit up s (goes t) agree n m (exited (exit_of end)) (exited (exit_of end)) (ending-is n end upper_ended)
          (ending-run set m t ∙ exit-ends (run_over set m t).ending (exit_of end) image_ended))
          ∙ sym (trace-is m);
    }

  -- and within as many instructions as the steps weigh, and the credit
  pub image_keeps_up : (within : ℕ → ℕ) → ((n : ℕ) → weight_of upper n s + credit ≤ within n) → ImageKeepsUp upper told exit_of within s (λ m. run_over set m t)
  image_keeps_up within enough =
      let follows : IsFollowedBy seen (processor_machine set) (λ n. weight_of seen n s + credit) s (goes t)
      = agree_in_steps seen (processor_machine set) credit up s (goes t) (each-weighs set) agree in
      let later : IsFollowedBy seen (processor_machine set) within s (goes t)
      = follows_later seen (processor_machine set) (λ n. weight_of seen n s + credit) within s (goes t) follows
      enough in
      record {
        goes_on = λ n. rw (trace-is (within n), ← seen-is n) (later.prefix n);
        ends = λ n end is. ends-exit (run_over set (within n) t).ending (exit_of end) (sym (ending-run set (within n) t) ∙ later.ending n (exited (exit_of end)) (ending-is n end is));
      }
