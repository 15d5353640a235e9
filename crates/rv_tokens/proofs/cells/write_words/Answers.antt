use Rattle.std.proofs.Common.{Bool, sym, subst}
use Rattle.std.proofs.lemmas.Result.{on_ok_weaker}
use Rattle.rv_tokens.specs.TokenedWritten.{is_left}
use Rattle.rv_cells.specs.CellLines.{SomeStores, SomeWords, is_kept}
use Rattle.rv_lower.specs.Written.{WroteLines, short_line}
use Rattle.std.specs.Prelude.{map}
use Rattle.rv_tokens.proofs.WrittenLines.{some_words_written}
use Rattle.rv_tokens.proofs.cells.write_words.Goals as goal
use Rattle.rv_cells.specs.Layout.{first_field}

pub returns : goal.returns
returns c =
    on_ok_weaker c.write_word-2.result
    (λ last. subst (λ (count : Bool). WroteLines (SomeWords (is_left c.args.left c.args.filling.now.head) count
    (is_kept c.args.left c.args.filling.now.kept.now) c.args.lowering.now.base c.args.into c.args.filling.now.header
    c.args.filling.now.arguments.now) c.args.lowering.now c.write_word-2.new.lowering) c.is_left-count.ensures
    (subst (λ (head : Bool). WroteLines (SomeWords head c.is_left-count.result
    (is_kept c.args.left c.args.filling.now.kept.now) c.args.lowering.now.base c.args.into c.args.filling.now.header
    c.args.filling.now.arguments.now) c.args.lowering.now c.write_word-2.new.lowering) c.is_left-head.ensures
    (some_words_written c.args.into c.args.filling.now.header c.args.filling.now.arguments.now c.is_left-head.result
    c.is_left-count.result (is_kept c.args.left c.args.filling.now.kept.now) (map short_line c.deref.result.now)
    (subst (λ fields. SomeStores (is_kept c.args.left c.args.filling.now.kept.now) c.args.into first_field 0
    c.args.filling.now.arguments.now
    (map short_line fields)) (sym c.deref.ensures.value) c.in_ok-fields.ensures)
    c.in_ok-write_word.ensures c.in_ok-write.ensures last)))
    c.write_word-2.ensures
