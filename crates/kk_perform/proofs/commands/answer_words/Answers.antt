use Rattle.std.proofs.Common.{map, string_bytes, option_map, ap, sym, ◌∙◌}
use Rattle.kk_command.specs.Requests.{request_of}
use Rattle.kk_command.specs.Commands.{request_read}
use Rattle.kk_perform.proofs.Rows.{no_command, no_words}
use Rattle.kk_perform.proofs.commands.answer_words.Goals as goal

pub returns-in-Ok-None : goal.returns-in-Ok-None
returns-in-Ok-None g c = no_command _ _ _ _ (request_of (map string_bytes c.args.words.now)) (sym (ap (option_map request_read) c.in-Ok-None.field-0-is) ∙ c.in-Ok-None.ensures)

pub returns-in-Err : goal.returns-in-Err
returns-in-Err g c = no_words _ _ _ _ (request_of (map string_bytes c.args.words.now))
