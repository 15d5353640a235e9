use Rattle.std.proofs.Common.{refl}
use Rattle.rv_isa.specs.Execution.{step}
use Rattle.rv_sim.proofs.Turns.{HasRun-quiet}
use Rattle.rv_sim.proofs.machine.Machine.step.Goals as goal

pub returns-in-Over-clause-ran : goal.returns-in-Over-clause-ran
returns-in-Over-clause-ran g c =
    HasRun-quiet c.args.self.now c.advance.new.self c.requires.going step _ _ c.requires.whole (λ left trace. refl) (rw c.in-Over.is at c.advance.ensures)
