-- What a run does rests on the weights of its own states alone.
use Rattle.std.proofs.Common.{◌≡◌, ℕ, zero, suc, ◌+◌, ◌≤◌, List, Option, refl, sym, ap, subst, ◌∙◌}
use Rattle.kk_base.specs.Agreements.{Agree}
use Rattle.kk_base.specs.Machines.{Machine, step_unless, weight_unless, weighing, until, trace, state, weight_of, ending_after}
use Rattle.kk_base.specs.Trace.{IsPrefix}
use Rattle.kk_base.proofs.Machines.{trace-weighing, state-weighing}

module _ {T E W : Type 0} (one other : T → ℕ) (ending : T → Option W) (step : T → List E × T) where
  weights_same : (n : ℕ) (t : T) → ((m : ℕ) → one (state (until ending step) m t) ≡ other (state (until ending step) m t))
      → weight_of (weighing one ending step) n t ≡ weight_of (weighing other ending step) n t
  weights_same zero t same = refl
  weights_same (suc n) t same =
      let next : T = (step_unless (ending t) t (step t)).1 in
      ap (λ (w : ℕ). weight_unless (ending t) w + weight_of (weighing one ending step) n next) (same 0)
      ∙ ap (λ (w : ℕ). weight_unless (ending t) (other t) + w) (weights_same n next (λ m. same (suc m)))

  traces_same : (n : ℕ) (t : T) → trace (weighing one ending step) n t ≡ trace (weighing other ending step) n t
  traces_same n t = trace-weighing one ending step n t ∙ sym (trace-weighing other ending step n t)

  endings_same : (n : ℕ) (t : T) → ending_after (weighing one ending step) n t ≡ ending_after (weighing other ending step) n t
  endings_same n t = ap ending (state-weighing one ending step n t ∙ sym (state-weighing other ending step n t))

  -- with other weights that are the same in the states of a run, what agreed with the machine still does
  pub reweighed : {S : Type 0} → (upper : Machine S E W) (credit : ℕ) (up : ℕ → ℕ) (s : S) (t : T)
      → ((m : ℕ) → one (state (until ending step) m t) ≡ other (state (until ending step) m t))
      → Agree upper (weighing one ending step) credit up s t → Agree upper (weighing other ending step) credit up s t
  reweighed {S} upper credit up s t same agree =
      record {
        downwards = λ n.
            let does = agree.downwards n in
            record {
              steps = does.steps;
              weighs = subst (λ (w : ℕ). w ≤ weight_of upper n s + credit) (weights_same does.steps t same) does.weighs;
              events_are = sym (traces_same does.steps t) ∙ does.events_are;
              ending_is = sym (endings_same does.steps t) ∙ does.ending_is;
            };
        upwards = record {
          prefix = λ n. subst (λ (told : List E). IsPrefix told (trace upper (up n) s)) (traces_same n t) (agree.upwards.prefix n);
          ending = λ n w ended. agree.upwards.ending n w (endings_same n t ∙ ended);
          whole = λ n w ended. agree.upwards.whole n w (endings_same n t ∙ ended) ∙ traces_same n t;
        };
      }
