use Rattle.std.proofs.Common.{[], ◌∷◌, map, refl}
use Rattle.std.proofs.lemmas.Result.{on_ok_weaker}
use Rattle.rv_lower.specs.Written.{short_line}
use Rattle.rv_tokens.proofs.WrittenLines.{three_same}
use Rattle.rv_tokens.proofs.cells.write_less.Goals as goal

pub returns : goal.returns
returns c =
    on_ok_weaker c.write.result
    (λ wrote. record {
      lines = map short_line (c.in_ok-first.first ∷ c.unary.result ∷ c.in_ok-last.last ∷ []);
      wrote = wrote;
      are = (
        short_line c.in_ok-first.first,
        c.new.result,
        short_line c.in_ok-last.last,
        c.in_ok-first.ensures,
        c.new.ensures,
        c.in_ok-last.ensures,
        three_same refl c.unary.ensures refl,
      );
    })
    c.write.ensures
