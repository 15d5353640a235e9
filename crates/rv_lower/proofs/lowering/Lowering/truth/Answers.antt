use Rattle.std.proofs.Common.{refl, [], ◌∷◌, ◌++◌, map}
use Rattle.std.proofs.lemmas.Result.{on_ok_weaker}
use Rattle.rv_lower.specs.Written.{short_line}
use Rattle.rv_lower.proofs.WrittenLines.{wrote_then, two_same}
use Rattle.rv_lower.proofs.lowering.Lowering.truth.Goals as goal

pub returns : goal.returns
returns c =
    on_ok_weaker c.write-2.result
    (λ wrote. record {
      lines = map short_line c.args.first.now ++ map short_line (c.unary.result ∷ c.unary-2.result ∷ []);
      wrote = wrote_then c.in_ok-write.ensures wrote;
      are = (
        map short_line (c.unary.result ∷ c.unary-2.result ∷ []),
        (c.new-one.result, c.new-place.result, c.new-one.ensures, c.new-place.ensures, two_same c.unary.ensures c.unary-2.ensures),
        refl,
      );
    })
    c.write-2.ensures
