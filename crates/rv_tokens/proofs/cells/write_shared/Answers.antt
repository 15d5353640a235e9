use Rattle.std.proofs.Common.{List, map, subst}
use Rattle.std.proofs.lemmas.Result.{on_ok_weaker}
use Rattle.rv_isa.specs.AsmCode.{Line}
use Rattle.rv_lower.specs.Written.{short_line, Wrote}
use Rattle.rv_lower.proofs.WrittenLines.{one_same}
use Rattle.rv_tokens.specs.Written.{holds_known}
use Rattle.rv_tokens.proofs.WrittenLines.{shared_written}
use Rattle.rv_tokens.proofs.cells.write_shared.Goals as goal

pub returns : goal.returns
returns c =
    on_ok_weaker c.write_dups.result
    (λ dups. shared_written (holds_known c.args.known.now) c.args.opening.now.cell c.args.opening.now.fields.now
    c.args.opening.now.used.now c.args.opening.now.token (map short_line c.args.opening.now.loads.now)
    c.in_ok-write.ensures c.in_ok-write_less.ensures
    (subst (λ (lines : List Line). Wrote lines c.write_less.new.lowering c.write-2.new.self) (one_same c.set.ensures)
    c.in_ok-write-2.ensures)
    dups)
    c.write_dups.ensures
