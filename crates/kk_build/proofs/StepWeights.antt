-- An image that does what a machine does, each step of which weighs so much, agrees with that machine whatever its steps weigh;
-- and it does n steps within n times that weight and what is done outside of them.
use Rattle.std.proofs.Common.{◌≡◌, ℕ, ◌+◌, ◌*◌, ◌≤◌, List, [], Option, Some, None, ap, arith}
use Rattle.kk_base.specs.Agreements.{Agree}
use Rattle.kk_base.specs.Machines.{Machine, trace, weight_of, weight_unless, ending_after, weighing, until, mapped}
use Rattle.kk_base.specs.Trace.{Event}
use Rattle.kk_base.proofs.Machines.{trace-weighing, state-weighing, weight_of-at_most}
use Rattle.rv_isa.specs.InstructionSet.{InstructionSet, run_over}
use Rattle.rv_isa.specs.Processor.{Processor, exited, goes}
use Rattle.rv_isa.specs.ProcessorMachine.{processor_machine, ImageAgrees, ImageKeepsUp}
use Rattle.rv_isa.proofs.ImageAgreements.{image_agrees, image_keeps_up}
use Rattle.kk_build.proofs.MachineEquivalence.{agrees_alike, keeps_up_alike}

-- a step weighs no more, also one that has ended
unless_at_most : {W : Type 0} (how : Option W) (weight : ℕ) → weight_unless how weight ≤ weight
unless_at_most None weight = omega arith
unless_at_most (Some end) weight = omega arith

-- what its steps weigh makes no difference to what a machine does
module _ {S E W : Type 0} (weight : S → ℕ) (ending : S → Option W) (step : S → List E × S) (n : ℕ) (s : S) where
  same_traces : trace (weighing weight ending step) n s ≡ trace (until ending step) n s
  same_traces = trace-weighing weight ending step n s

  pub same_endings : ending_after (weighing weight ending step) n s ≡ ending_after (until ending step) n s
  same_endings = ap ending (state-weighing weight ending step n s)

module _ {I S E W : Type 0} (set : InstructionSet I) (weight : ℕ) (ending : S → Option W) (step : S → List E × S)
    (told : E → List Event) (exit_of : W → ℕ) (outside : ℕ) (up : ℕ → ℕ) (s : S) (loaded : Processor)
    (agree : Agree (mapped told (λ end. exited (exit_of end)) (weighing (λ t. weight) ending step)) (processor_machine set)
    outside up s (goes loaded))
    (silent : loaded.trace ≡ []) where
  abbrev heavy : Machine S E W
  heavy = weighing (λ t. weight) ending step

  -- the image agrees with the machine, of which no two endings have the same exit number
  pub agrees_weighed : ((a b : W) → exit_of a ≡ exit_of b → a ≡ b)
      → ImageAgrees (until ending step) told exit_of s (λ m. run_over set m loaded)
  agrees_weighed differ =
      agrees_alike heavy (until ending step) told exit_of s s (λ m. run_over set m loaded)
      (λ n. same_traces (λ t. weight) ending step n s) (λ n. same_endings (λ t. weight) ending step n s)
      (image_agrees set heavy told exit_of outside up s loaded agree silent differ)

  -- and keeps up with it
  pub keeps_up_weighed : (within : ℕ → ℕ) → ((n : ℕ) → weight * n + outside ≤ within n)
      → ImageKeepsUp (until ending step) told exit_of within s (λ m. run_over set m loaded)
  keeps_up_weighed within enough =
      keeps_up_alike heavy (until ending step) told exit_of s s (λ m. run_over set m loaded)
      (λ n. same_traces (λ t. weight) ending step n s) (λ n. same_endings (λ t. weight) ending step n s) within
      (image_keeps_up set heavy told exit_of outside up s loaded agree silent within
      (λ n.
      let most : weight_of heavy n s ≤ weight * n
      = weight_of-at_most heavy weight (λ t. unless_at_most (ending t) weight) n s in
      let more = enough n in
      omega (arith, most, more)))
