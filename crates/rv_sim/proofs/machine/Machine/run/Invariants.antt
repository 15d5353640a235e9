use Rattle.std.proofs.Common.{◌≡◌, ◌≤◌, false, ◌-◌}
use Rattle.rv_sim.specs.Devices.{halt_of, HasRun}
use Rattle.rv_sim.proofs.machine.Machine.run.Given as goal

abbrev pub invariant-loop-left : goal.invariant-loop-left
invariant-loop-left g l = record {
  whole : l.self.faulted ≡ false;
  within : l.left ≤ l.steps;
  ran : HasRun (halt_of l.self.ending) (l.steps - l.left) l.initial.self l.self
      (g.I.Source.state l.initial.input) (g.I.Source.state l.input) (g.O.Sink.state l.initial.out) (g.O.Sink.state l.out);
  input_stays : (g.I.Source.state l.input).faults ≡ (g.I.Source.state l.initial.input).faults;
  output_stays : (g.O.Sink.state l.out).faults ≡ (g.O.Sink.state l.initial.out).faults;
}

abbrev pub decreases-loop-left : goal.decreases-loop-left
decreases-loop-left g l = l.left
