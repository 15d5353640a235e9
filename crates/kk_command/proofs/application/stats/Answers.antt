use Rattle.kk_command.proofs.Rules.{now_long, now_acting}
use Rattle.kk_command.proofs.application.stats.Goals as goal

pub returns-clause-rule : goal.returns-clause-rule
returns-clause-rule c =
    now_acting c.long.result c.action.result _ (now_long c.new.result c.long.result _ c.new.ensures.rule _ c.long.ensures) _ c.action.ensures
