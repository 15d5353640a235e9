use Rattle.std.proofs.Common.{◌≡◌, ◌≤◌, ◌-◌}
use Rattle.kk_meaning.specs.Machines.{setting_of, configuration_of}
use Rattle.kk_eval.specs.EvaluationStates.{HasGone}
use Rattle.kk_eval.proofs.evaluation.evaluate.Given as goal

abbrev pub invariant-loop-left : goal.invariant-loop-left
invariant-loop-left g l = record {
  within : l.left ≤ l.steps;
  setting : setting_of l.meaning.machine ≡ setting_of l.initial.meaning.machine;
  gone : HasGone (setting_of l.initial.meaning.machine) (l.steps - l.left) (configuration_of l.initial.meaning.machine) (configuration_of l.meaning.machine)
      (g.I.Source.state l.initial.input) (g.I.Source.state l.input) (g.O.Sink.state l.initial.out) (g.O.Sink.state l.out);
  input_stays : (g.I.Source.state l.input).faults ≡ (g.I.Source.state l.initial.input).faults;
  output_stays : (g.O.Sink.state l.out).faults ≡ (g.O.Sink.state l.initial.out).faults;
}

abbrev pub decreases-loop-left : goal.decreases-loop-left
decreases-loop-left g l = l.left
