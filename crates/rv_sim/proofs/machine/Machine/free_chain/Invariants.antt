use Rattle.std.proofs.Common.{◌≡◌, ◌≤◌, ◌+◌, ◌-◌, map, length}
use Rattle.kk_base.specs.Memory.{byte_loaded}
use Rattle.rv_isa.specs.Processor.{bare, value}
use Rattle.rv_isa.specs.FreeCells.{chain}
use Rattle.rv_sim.specs.Registers.{registers_of}
use Rattle.rv_sim.proofs.machine.Machine.free_chain.Given as goal

abbrev pub invariant-loop-count : goal.invariant-loop-count
invariant-loop-count l = record {
  within : l.count ≤ l.cells;
  rest : length (chain (map bare l.self.parts) (byte_loaded l.self.parts) l.cells (value (registers_of l.self.registers) 8))
      ≡ l.count + length (chain (map bare l.self.parts) (byte_loaded l.self.parts) (l.cells - l.count) l.at);
}

abbrev pub decreases-loop-count : goal.decreases-loop-count
decreases-loop-count l = l.cells - l.count
