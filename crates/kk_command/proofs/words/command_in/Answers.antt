use Rattle.std.proofs.Common.{map, string_bytes, ◌∙◌}
use Rattle.clap.specs.Words.{kind_of}
use Rattle.kk_command.proofs.LineCommands.{line_told, line_refused, unlike}
use Rattle.kk_command.proofs.words.command_in.Goals as goal

pub returns : goal.returns
returns c =
    c.command_of.ensures
    ∙ line_told _ (map string_bytes c.args.words.now) c.in-Ok.matches c.in_ok-application.ensures.app record {
      kinds = c.in-Ok.ensures.kinds;
      matches = c.in-Ok.ensures.matches;
    }

pub returns-in-Err-2 : goal.returns-in-Err-2
returns-in-Err-2 c =
    line_refused _ (map string_bytes c.args.words.now) c.in-Err.error c.in_ok-application.ensures.app c.in-Err.ensures.kinds
    (unlike c.kind.result (kind_of c.in-Err.error) c.eq.result c.kind.ensures c.eq.ensures c.if-eq.false)
