use Rattle.std.proofs.Common.{[], ◌∷◌, map, refl}
use Rattle.std.proofs.lemmas.Result.{on_ok_weaker}
use Rattle.rv_lower.specs.Written.{short_line}
use Rattle.rv_lower.proofs.WrittenLines.{two_same}
use Rattle.rv_tokens.proofs.decide.write_tag.Goals as goal

pub returns : goal.returns
returns c =
    on_ok_weaker c.write.result
    (λ wrote. record {
      lines = map short_line (c.in_ok-header.header ∷ c.unary.result ∷ []);
      wrote = wrote;
      are = (
        short_line c.in_ok-header.header,
        c.new.result,
        c.in_ok-header.ensures,
        c.new.ensures,
        two_same refl c.unary.ensures,
      );
    })
    c.write.ensures
