use Rattle.std.proofs.Common.{◌+◌, ◌*◌, List, refl, ap, subst, arith}
use Rattle.cell_runtime.specs.Lines.{words_of, labels_of}
use Rattle.elf_image.specs.Program.{text_start}
use Rattle.rv_isa.specs.declared.placed.Native.{Native}
use Rattle.rv_place.specs.Addresses.{IsBehind}
use Rattle.rv_place.proofs.Rests.{rest_at, nothing_left}
use Rattle.rv_place.proofs.Symbolic.{found_here, passed_over}
use Rattle.rv_place.proofs.chart.address_of.Goals as goal

pub returns-then-is_label_of : goal.returns-then-is_label_of
returns-then-is_label_of c count behind =
    let here = rest_at c.args.natives.now c.loop-line.line-index c.line-item.result c.loop-line-test.true c.line-item.is in
    ap (λ before. text_start + 4 * before)
    (found_here c.args.symbol count c.loop-line.before _ _ c.line-item.result here (c.if-is_label_of.ensures.0 refl) (c.loop-line.invariant.behind count behind))

pub loop-line-preserved : goal.loop-line-preserved
loop-line-preserved c =
    let here = rest_at c.args.natives.now c.loop-line.line-index c.line-item.result c.loop-line-test.true c.line-item.is in
    let words = ap words_of here in
    record {
      words = omega (arith, words, c.loop-line.invariant.words);
      behind = λ count behind. passed_over c.args.symbol count c.loop-line.before c.words_of_native-before.result _ _ c.line-item.result here
          (λ is. let never = c.if-is_label_of.ensures.1 is in (cc)) c.words_of_native-before.ensures.words (c.loop-line.invariant.behind count behind);
    }

pub returns : goal.returns
returns c count behind =
    let none = nothing_left c.args.natives.now c.loop-line.line-index c.loop-line-test.false in
    absurd (subst (λ (rest : List Native). IsBehind c.args.symbol count (labels_of c.loop-line.before rest)) none (c.loop-line.invariant.behind count behind))
