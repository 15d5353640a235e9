-- A run goes on by one instruction from where it has come to.
use Rattle.std.proofs.Common.{◌≡◌, ℕ, ◌+◌, ap, ◌∙◌}
use Rattle.rv_isa.specs.Processor.{Processor, Progress, goes}
use Rattle.rv_isa.specs.InstructionSet.{go_on}
use Rattle.rv_isa.specs.Execution.{rv32im, run, step}
use Rattle.rv_isa.proofs.Runs.{run-add, run-one}

pub one_more : (from : Processor) (count : ℕ) (to : Processor) → run count from ≡ goes to → run (count + 1) from ≡ step to
one_more from count to comes = run-add rv32im count 1 from ∙ ap (λ (a : Progress). go_on a (run 1)) comes ∙ run-one rv32im to
