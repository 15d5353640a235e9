use Rattle.kk_mono.proofs.CountOutcome.{each_program_is_counted}
use Rattle.kk_mono.proofs.program.each_program_is_counted.Goals as goal

pub returns : goal.returns
returns c = each_program_is_counted
