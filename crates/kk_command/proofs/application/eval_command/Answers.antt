use Rattle.std.specs.Prelude.{Ok, codes}
use Rattle.clap.specs.Words.{new_app, with_rule}
use Rattle.kk_command.specs.Requests.{file_rule, steps_rule, with_sizes}
use Rattle.kk_command.proofs.Rules.{with_argument, with_step}
use Rattle.kk_command.proofs.application.eval_command.Goals as goal

pub returns-clause-app : goal.returns-clause-app
returns-clause-app c =
    let first = with_argument (Ok c.new.result) c.with-command.result c.argument.result (new_app (codes "eval")) file_rule c.with-command.ensures.app c.new.ensures.app c.argument.ensures.rule in
    let second = with_step c.with-command.result c.with_size_options-command.result with_sizes (with_rule (new_app (codes "eval")) file_rule) c.with_size_options-command.ensures.app first in
    with_argument c.with_size_options-command.result c.with.result c.number_option.result (with_sizes (with_rule (new_app (codes "eval")) file_rule)) steps_rule c.with.ensures.app second c.number_option.ensures.rule
