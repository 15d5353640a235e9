use Rattle.std.proofs.Common.{ℕ, List, subst, ◌∙◌}
use Rattle.std.proofs.lemmas.Result.{on_ok_weaker}
use Rattle.rv_isa.specs.AsmCode.{Line}
use Rattle.rv_lower.specs.Written.{Wrote}
use Rattle.rv_lower.proofs.WrittenLines.{two_same}
use Rattle.rv_tokens.specs.TokenedWritten.{request_lines}
use Rattle.rv_tokens.proofs.WrittenLines.{fill_written}
use Rattle.rv_tokens.proofs.token_cells.write_fill.Goals as goal

pub returns : goal.returns
returns c =
    on_ok_weaker c.write_words-2.result
    (λ stores. fill_written c.in_ok-filled.ensures
    (subst (λ (lines : List Line). Wrote lines c.take_label.new.self c.write.new.self)
    (two_same c.copy.ensures c.act.ensures) c.in_ok-write.ensures)
    (subst (λ (tokens : List ℕ). Wrote (request_lines c.args.into tokens) c.write.new.self c.write_request.new.lowering)
    (c.deref.ensures.value ∙ c.in_ok-tokens.ensures) c.in_ok-write_request.ensures)
    c.in_ok-write_words.ensures
    c.in_ok-write_label.ensures
    stores)
    c.write_words-2.ensures
