use Rattle.std.proofs.Common.{map}
use Rattle.std.proofs.lemmas.Result.{on_ok_weaker}
use Rattle.rv_lower.specs.Written.{short_line}
use Rattle.rv_tokens.specs.Written.{holds_known}
use Rattle.rv_tokens.proofs.WrittenLines.{alone_written, other_written}
use Rattle.rv_tokens.proofs.cells.write_way.Goals as goal

pub returns-then-alone : goal.returns-then-alone
returns-then-alone c =
    on_ok_weaker c.write_alone.result
    (λ wrote. alone_written (holds_known c.args.known.now) c.args.opening.now.cell c.args.opening.now.fields.now
    c.args.opening.now.used.now c.args.opening.now.token (map short_line c.args.opening.now.loads.now) c.args.alone c.if-alone.true
    wrote)
    c.write_alone.ensures

pub returns : goal.returns
returns c =
    on_ok_weaker c.write_shared.result
    (λ wrote. other_written (holds_known c.args.known.now) c.args.opening.now.cell c.args.opening.now.fields.now
    c.args.opening.now.used.now c.args.opening.now.token (map short_line c.args.opening.now.loads.now) c.args.alone c.if-alone.false
    wrote)
    c.write_shared.ensures
