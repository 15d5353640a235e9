use Rattle.std.specs.Prelude.{Ok, codes}
use Rattle.clap.specs.Words.{new_app, with_rule}
use Rattle.kk_command.specs.Requests.{file_rule, out_rule, with_sizes}
use Rattle.kk_command.proofs.Rules.{with_argument, with_step}
use Rattle.kk_command.proofs.application.build_command.Goals as goal

pub returns-clause-app : goal.returns-clause-app
returns-clause-app c =
    let first = with_argument (Ok c.new.result) c.with-command.result c.argument.result (new_app (codes "build")) file_rule c.with-command.ensures.app c.new.ensures.app c.argument.ensures.rule in
    let second = with_argument c.with-command.result c.with-command-2.result c.out.result (with_rule (new_app (codes "build")) file_rule) out_rule c.with-command-2.ensures.app first c.out.ensures.rule in
    with_step c.with-command-2.result c.with_size_options.result with_sizes (with_rule (with_rule (new_app (codes "build")) file_rule) out_rule) c.with_size_options.ensures.app second
