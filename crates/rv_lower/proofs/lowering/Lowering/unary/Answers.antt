use Rattle.std.proofs.Common.{◌∷◌, [], map, sym}
use Rattle.std.proofs.lemmas.Result.{on_ok_weaker}
use Rattle.rv_lower.specs.Written.{short_line}
use Rattle.rv_lower.proofs.WrittenLines.{one_same, not_lines}
use Rattle.rv_lower.proofs.lowering.Lowering.unary.Goals as goal

pub returns-in-Not : goal.returns-in-Not
returns-in-Not c =
    on_ok_weaker c.write-in-Not.result
    (λ wrote. record {
      lines = map short_line (c.unary.result ∷ []);
      wrote = wrote;
      are = not_lines c.args.self.now.base c.args.into c.in-Some.value c.args.operator c.args.arguments.now c.new-two.result _ (sym c.in-Some.ensures) c.in-Not.is c.new-two.ensures (one_same c.unary.ensures);
    })
    c.write-in-Not.ensures
