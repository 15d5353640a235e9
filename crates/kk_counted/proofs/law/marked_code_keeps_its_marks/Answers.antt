use Rattle.kk_counted.proofs.MarkPreservation.{start_fits, after_step, always_fit, value_fits, unmarked_fits}
use Rattle.kk_counted.proofs.law.marked_code_keeps_its_marks.Goals as goal

pub returns : goal.returns
returns c = record {
  start = start_fits;
  steps = after_step;
  runs = λ marks holds setting marked weight. always_fit marks holds setting marked weight;
  bound = λ marks holds result code environment joins fits x is. value_fits holds environment x fits.values_fit (fits.bound_in x is);
  unmarked = λ marks holds result code environment joins fits x unmarked. unmarked_fits holds environment x fits.values_fit unmarked;
}
