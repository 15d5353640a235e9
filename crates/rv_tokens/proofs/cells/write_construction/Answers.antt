use Rattle.std.proofs.lemmas.Result.{on_ok_weaker}
use Rattle.rv_tokens.proofs.WrittenLines.{construction_written}
use Rattle.rv_tokens.proofs.cells.write_construction.Goals as goal

pub returns : goal.returns
returns c =
    on_ok_weaker c.write_stores.result
    (λ wrote. construction_written c.args.into c.args.header c.args.arguments.now c.in_ok-push.ensures wrote)
    c.write_stores.ensures
