use Rattle.kk_command.proofs.Rules.{now_required}
use Rattle.kk_command.proofs.application.argument.Goals as goal

pub returns-clause-rule : goal.returns-clause-rule
returns-clause-rule c = now_required c.new.result c.required.result _ c.new.ensures.rule c.required.ensures
