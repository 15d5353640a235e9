use Rattle.kk_mono.proofs.SearchAnswer.{answered}
use Rattle.kk_mono.proofs.ProgramCompleteness.{complete_of}
use Rattle.kk_mono.proofs.program.instances.Goals as goal

pub instances_as_typed-requires-clause-complete : goal.instances_as_typed-requires-clause-complete
instances_as_typed-requires-clause-complete c = complete_of c.args.typed.now c.requires.principal

pub returns : goal.returns
returns c = answered c.args.typed.now c.requires.principal c.instances_as_typed.result c.instances_as_typed.ensures
