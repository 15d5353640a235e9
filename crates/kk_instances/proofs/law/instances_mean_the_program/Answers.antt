use Rattle.kk_instances.proofs.Meaning.{means_the_same}
use Rattle.kk_instances.proofs.law.instances_mean_the_program.Goals as goal

pub returns : goal.returns
returns c = λ program made typings instances checked is. means_the_same program made typings instances is checked
