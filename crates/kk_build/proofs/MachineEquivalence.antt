-- An image that agrees with a machine agrees with each one that tells the same and ends alike, step by step.
use Rattle.std.proofs.Common.{◌≡◌, ℕ, List, sym, ap, subst, ◌∙◌, flat_map}
use Rattle.kk_base.specs.Trace.{Event, IsPrefix}
use Rattle.kk_base.specs.Machines.{Machine, trace, ending_after}
use Rattle.rv_isa.specs.Processor.{Progress}
use Rattle.rv_isa.specs.ProcessorMachine.{ImageAgrees, ImageKeepsUp}

module _ {S T E W : Type 0} (machine : Machine S E W) (other : Machine T E W) (told : E → List Event) (exit_of : W → ℕ) (s : S) (t : T) (image : ℕ → Progress)
    (traces : (n : ℕ) → trace machine n s ≡ trace other n t) (endings : (n : ℕ) → ending_after machine n s ≡ ending_after other n t) where
  pub agrees_alike : ImageAgrees machine told exit_of s image → ImageAgrees other told exit_of t image
  agrees_alike agrees =
      record {
        ends_well = agrees.ends_well;
        image_is_behind = λ m.
            let found = agrees.image_is_behind m in
            (found.0, subst (λ (events : List E). IsPrefix (image m).processor.trace (flat_map told events)) (traces found.0) found.1);
        machine_is_behind = λ n.
            let found = agrees.machine_is_behind n in
            (found.0, subst (λ (events : List E). IsPrefix (flat_map told events) (image found.0).processor.trace) (traces n) found.1);
        end_alike = λ end.
            let both = agrees.end_alike end in (
              λ ended. both.0 (ended.0, endings ended.0 ∙ ended.1),
              λ exits. let found = both.1 exits in (found.0, sym (endings found.0) ∙ found.1),
            );
        same_trace = λ end n m ended exits. ap (flat_map told) (sym (traces n)) ∙ agrees.same_trace end n m (endings n ∙ ended) exits;
      }

  pub keeps_up_alike : (within : ℕ → ℕ) → ImageKeepsUp machine told exit_of within s image → ImageKeepsUp other told exit_of within t image
  keeps_up_alike within keeps =
      record {
        goes_on = λ n. subst (λ (events : List E). IsPrefix (flat_map told events) (image (within n)).processor.trace) (traces n) (keeps.goes_on n);
        ends = λ n end ended. keeps.ends n end (endings n ∙ ended);
      }
