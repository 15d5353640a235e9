use Rattle.std.proofs.Common.{List, subst, arith}
use Rattle.kk_core.specs.declared.decisions.Edge.{Edge}
use Rattle.rv_lower.specs.Written.{Wrote}
use Rattle.rv_cells.specs.CountedLines.{answer_word, number_tests}
use Rattle.std.proofs.lemmas.Result.{on_ok_weaker}
use Rattle.rv_tokens.specs.Written.{layout_known, ways_known}
use Rattle.rv_tokens.proofs.WrittenLines.{tags_written}
use Rattle.rv_tokens.proofs.decide.write_decided.Goals as goal

pub returns : goal.returns
returns c =
    on_ok_weaker c.write_choice-2.result
    (λ choice. tags_written (layout_known c.args.known.now) (ways_known c.args.ways.now).to c.args.behind c.args.value c.args.temporary
    c.args.tried.plain.items c.args.tried.tagged.items c.args.otherwise c.args.tried.other
    (λ none. absurd (grind (arith, none, c.is_empty.ensures, c.if-is_empty.false)))
    c.in_ok-next.ensures (subst (λ (edges : List Edge). Wrote (number_tests (answer_word (layout_known c.args.known.now))
    (ways_known c.args.ways.now).to c.args.value c.args.temporary edges) c.args.lowering.now c.write_numbers.new.lowering)
    c.deref.ensures.value c.in_ok-write_numbers.ensures) c.in_ok-write_odd.ensures c.in_ok-write_tag.ensures choice)
    c.write_choice-2.ensures
