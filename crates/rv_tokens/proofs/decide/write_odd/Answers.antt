use Rattle.std.proofs.Common.{[], ◌∷◌, map}
use Rattle.std.proofs.lemmas.Result.{on_ok_weaker}
use Rattle.rv_lower.specs.Written.{short_line}
use Rattle.rv_tokens.specs.Written.{ways_known}
use Rattle.rv_tokens.proofs.WrittenLines.{odd_lines}
use Rattle.rv_tokens.proofs.decide.write_odd.Goals as goal

pub returns : goal.returns
returns c =
    on_ok_weaker c.write.result
    (λ wrote. record {
      lines = map short_line (c.unary.result ∷ c.act.result ∷ []);
      wrote = wrote;
      are = odd_lines c.args.value c.args.temporary c.in-Some.node c.in_ok-label.label (ways_known c.args.ways.now).to c.args.otherwise
          c.new.result (short_line c.unary.result) (short_line c.act.result) c.in-Some.is c.in_ok-label.ensures c.new.ensures
          c.unary.ensures c.act.ensures;
    })
    c.write.ensures
