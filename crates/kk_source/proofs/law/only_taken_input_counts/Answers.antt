use Rattle.kk_source.proofs.Laws.{same_input_taken}
use Rattle.kk_source.proofs.law.only_taken_input_counts.Goals as goal

pub returns : goal.returns
returns c = same_input_taken
