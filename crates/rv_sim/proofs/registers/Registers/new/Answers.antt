use Rattle.rv_sim.proofs.Zeros.{index-zeros}
use Rattle.rv_sim.proofs.registers.Registers.new.Goals as goal

pub returns : goal.returns
returns c = λ i x. index-zeros 32 x i
