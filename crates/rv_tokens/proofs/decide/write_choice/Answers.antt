use Rattle.std.proofs.Common.{List, subst}
use Rattle.std.proofs.lemmas.Result.{on_ok_weaker}
use Rattle.kk_core.specs.declared.decisions.Edge.{Edge}
use Rattle.rv_lower.specs.Written.{Wrote}
use Rattle.rv_cells.specs.CountedLines.{number_tests}
use Rattle.rv_tokens.specs.Written.{layout_known, ways_known, number_shown}
use Rattle.rv_tokens.proofs.WrittenLines.{choice_written}
use Rattle.rv_tokens.proofs.decide.write_choice.Goals as goal

pub returns : goal.returns
returns c =
    on_ok_weaker c.write_last.result
    (λ last. choice_written (number_shown c.args.tested.shown (layout_known c.args.known.now)) (ways_known c.args.ways.now).to c.args.next
    c.args.tested.value c.args.tested.temporary c.args.edges.items c.pop-last.new.self.items c.pop-last.result c.args.other c.pop-last.ensures.items
    (subst (λ (edges : List Edge). Wrote (number_tests (number_shown c.args.tested.shown (layout_known c.args.known.now))
    (ways_known c.args.ways.now).to c.args.tested.value c.args.tested.temporary edges) c.args.lowering.now c.write_numbers.new.lowering)
    c.deref.ensures.value c.in_ok-write_numbers.ensures) last)
    c.write_last.ensures
