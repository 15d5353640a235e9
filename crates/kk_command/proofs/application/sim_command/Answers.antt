use Rattle.std.specs.Prelude.{Ok, codes}
use Rattle.clap.specs.Words.{new_app, with_rule}
use Rattle.kk_command.specs.Requests.{image_rule, steps_rule}
use Rattle.kk_command.proofs.Rules.{with_argument}
use Rattle.kk_command.proofs.application.sim_command.Goals as goal

pub returns-clause-app : goal.returns-clause-app
returns-clause-app c =
    let first = with_argument (Ok c.new.result) c.with-command.result c.argument.result (new_app (codes "sim")) image_rule c.with-command.ensures.app c.new.ensures.app c.argument.ensures.rule in
    with_argument c.with-command.result c.with.result c.number_option.result (with_rule (new_app (codes "sim")) image_rule) steps_rule c.with.ensures.app first c.number_option.ensures.rule
