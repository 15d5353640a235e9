use Rattle.kk_command.proofs.Rules.{with_both_sizes}
use Rattle.kk_command.proofs.application.with_size_options.Goals as goal

pub returns-clause-app : goal.returns-clause-app
returns-clause-app c =
    with_both_sizes c.args.command c.with-command.result c.with.result c.number_option.result c.number_option-2.result c.with-command.ensures.app c.with.ensures.app
    c.number_option.ensures.rule c.number_option-2.ensures.rule
