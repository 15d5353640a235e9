use Rattle.kk_command.proofs.Rules.{without_help, without_help_command, with_command}
use Rattle.kk_command.proofs.application.bare_application.Goals as goal

pub returns : goal.returns
returns c = record {
  app =
      with_command c.disable_help_subcommand.result c.subcommand_required.result _
      (without_help_command c.disable_help_flag.result c.disable_help_subcommand.result _ (without_help c.new.result c.disable_help_flag.result _ c.new.ensures.app c.disable_help_flag.ensures)
      c.disable_help_subcommand.ensures)
      c.subcommand_required.ensures;
}
