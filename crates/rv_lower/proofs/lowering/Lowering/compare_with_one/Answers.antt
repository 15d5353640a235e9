use Rattle.std.proofs.Common.{List, subst}
use Rattle.std.proofs.lemmas.Result.{on_ok_weaker}
use Rattle.rv_isa.specs.AsmCode.{Line}
use Rattle.rv_lower.specs.Lines.{Compares}
use Rattle.rv_lower.proofs.WrittenLines.{two_same}
use Rattle.rv_lower.proofs.lowering.Lowering.compare_with_one.Goals as goal

pub returns : goal.returns
returns c =
    on_ok_weaker c.truth.result
    (λ wrote. record {
      lines = wrote.lines;
      wrote = wrote.wrote;
      are = (c.new-one.result, c.new-one.ensures, subst (λ (first : List Line). Compares c.args.into first wrote.lines) (two_same c.binary.ensures c.unary.ensures) wrote.are);
    })
    c.truth.ensures
