use Rattle.std.proofs.Common.{◌≤◌, [], length, sym, arith}
use Rattle.rv_isa.specs.FreeCells.{free_chain}
use Rattle.rv_sim.specs.Simulation.{processor_of}
use Rattle.rv_sim.proofs.Chains.{free_cells-by}
use Rattle.rv_sim.proofs.machine.Machine.free_cells.Goals as goal

pub returns : goal.returns
returns c =
    let s = processor_of c.args.self.now [] [] in
    let chained = c.free_chain-chained.ensures.value in
    let within : length (free_chain c.args.cells s) ≤ c.args.cells = omega (arith, c.free_chain-chained.ensures.within) in
    rw (c.min.ensures, c.border_size.ensures, chained) (sym (free_cells-by c.args.cells s within))
