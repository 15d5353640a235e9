use Rattle.kk_command.proofs.Rules.{now_long}
use Rattle.kk_command.proofs.application.number_option.Goals as goal

pub returns-clause-rule : goal.returns-clause-rule
returns-clause-rule c = now_long c.new.result c.long.result _ c.new.ensures.rule _ c.long.ensures
