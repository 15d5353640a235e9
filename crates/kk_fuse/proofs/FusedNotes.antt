-- In each state of its run fused code stands for a state of the code that it is made of, and has told the same notes.
use Rattle.std.proofs.Common.{◌≡◌, ℕ, zero, suc, ◌+◌, ◌-◌, ◌*◌, ◌≤◌, ◌<◌, Bool, true, false, List, arith, refl, sym, ap, ◌∙◌, subst, add-mul, ◌++◌}
use Rattle.std.specs.Prelude.{nat_le}
use Rattle.kk_base.specs.Machines.{Machine, state, trace}
use Rattle.kk_base.proofs.Machines.{state-add, trace-add}
use Rattle.kk_syntax.specs.PositionsOf.{PositionTable}
use Rattle.kk_source.specs.State.{End}
use Rattle.kk_source.specs.Notes.{Note}
use Rattle.kk_counted.specs.CountedCosts.{roomy_cost}
use Rattle.kk_counted.specs.CountedStates.{CountedSetting, CountedState}
use Rattle.kk_counted.specs.Spending.{IsSpent}
use Rattle.kk_counted.specs.Keeping.{FitsAlways, HasShapeAlways}
use Rattle.kk_fuse.specs.FusedRuns.{HasFewSteps, AreFusedStates}
use Rattle.kk_fuse.proofs.FusedRuns.{upper, lower, Related, Goes, by_follows}

module _ (positions : PositionTable) (setting : CountedSetting) (most room : ℕ) (input : List ℕ)
    (spent : IsSpent positions setting.program) (fits : FitsAlways (roomy_cost room) setting input)
    (shape : HasShapeAlways (roomy_cost room) setting input) (short : HasFewSteps most setting.program) where
  abbrev above : Machine CountedState Note End
  above = upper positions setting most room input spent fits shape short

  abbrev below : Machine CountedState Note End
  below = lower positions setting most room input spent fits shape short

  -- the fused code's state after so many steps stands for one of the code, and both have told the same notes on the way
  pub record IsTold (s t : CountedState) (k : ℕ) : Type 0 where
    pub at : ℕ
    pub stands : AreFusedStates (state above at s).machine (state below k t).machine
    pub told : trace below k t ≡ trace above at s

  pub told_alike : (n k credit idle : ℕ) (s t : CountedState)
      → Related positions setting most room input spent fits shape short credit idle s t
      → k * suc most + idle + 1 ≤ n → IsTold s t k
  told_alike zero k credit idle s t related enough = absurd (omega (arith, enough))
  told_alike (suc n) k credit idle s t related enough =
      by_goes (by_follows positions setting most room input spent fits shape short credit idle s t related related.follows)
      (told_alike n)
    where
      by_goes : Goes positions setting most room input spent fits shape short credit idle s t
          → ((k credit idle : ℕ) (s t : CountedState)
          → Related positions setting most room input spent fits shape short credit idle s t
          → k * suc most + idle + 1 ≤ n → IsTold s t k)
          → IsTold s t k
      by_goes goes later = by_test (nat_le goes.0.steps k) refl
        where
          here : k < goes.0.steps → IsTold s t k
          here under =
              let one = goes.1 k under in
              subst (IsTold s t) (sym one.0) (record { at = 0; stands = one.1; told = refl })

          further : (d : ℕ) → k ≡ goes.0.steps + d → IsTold s t k
          further d is =
              let rest : IsTold (above.step s).1 (state below goes.0.steps t) d
              = later d goes.0.credit_after goes.0.idle_after (above.step s).1 (state below goes.0.steps t) goes.0.related
              (omega (
                arith,
                enough,
                goes.0.moves,
                add-mul goes.0.steps d (suc most),
                ap (λ (m : ℕ). m * suc most) is,
              )) in
              subst (IsTold s t) (sym is)
              (record {
                at = suc rest.at;
                stands =
                    subst (λ (u : CountedState). AreFusedStates (state above rest.at (above.step s).1).machine u.machine)
                    (sym (state-add below goes.0.steps d t)) rest.stands;
                told =
                    trace-add below goes.0.steps d t
                    ∙ (ap (λ (notes : List Note). notes ++ trace below d (state below goes.0.steps t)) goes.0.events_are
                    ∙ ap (λ (notes : List Note). (above.step s).0 ++ notes) rest.told);
              })

          by_test : (test : Bool) → nat_le goes.0.steps k ≡ test → IsTold s t k
          by_test true is = let past : goes.0.steps ≤ k = grind arith in further (k - goes.0.steps) (omega (arith, past))
          by_test false is = let under : k + 1 ≤ goes.0.steps = grind arith in here (omega (arith, under))
