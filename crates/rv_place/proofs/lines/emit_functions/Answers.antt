use Rattle.std.proofs.Common.{List, map, sym, ap, subst, arith}
use Rattle.rv_isa.specs.Costs.{placed_functions_length}
use Rattle.rv_isa.specs.PlacedCode.{PlacedLines, placed_lines_of}
use Rattle.rv_isa.specs.FrameSizes.{slots_of_functions}
use Rattle.rv_place.specs.Addresses.{words_of_functions}
use Rattle.rv_place.specs.Emitted.{Grew, FunctionsBy}
use Rattle.rv_place.proofs.Emissions.{grew_nothing}
use Rattle.rv_place.proofs.Rests.{rest_at, nothing_left}
use Rattle.rv_place.proofs.LineInstructions.{function_then}
use Rattle.rv_place.proofs.lines.emit_functions.Goals as goal

pub loop-function-preserved : goal.loop-function-preserved
loop-function-preserved c =
    let here = ap (map placed_lines_of) (rest_at c.args.functions.now c.loop-function.function-index c.function-item.result c.loop-function-test.true c.function-item.is) in
    let slots = ap slots_of_functions here in
    let lengths = ap placed_functions_length here in
    record {
      grows = λ new more. c.loop-function.invariant.grows new
          (subst (λ (functions : List PlacedLines). Grew (words_of_functions c.args.chart.now.jumps functions) (FunctionsBy c.args.chart.now c.loop-function.at functions) c.loop-function.code.items new) (sym here)
          (function_then c.args.chart.now c.loop-function.at c.words_of_function.result _ _ c.words_of_function.ensures.words c.in_ok-emit_function.ensures more));
      slots = omega (arith, slots, c.loop-function.invariant.slots);
      short = omega (arith, lengths, c.loop-function.invariant.short);
      low = omega (arith, lengths, c.words_of_function.ensures.few, c.loop-function.invariant.low);
    }

pub returns : goal.returns
returns c =
    let none = ap (map placed_lines_of) (nothing_left c.args.functions.now c.loop-function.function-index c.loop-function-test.false) in
    c.loop-function.invariant.grows _
    (subst (λ (functions : List PlacedLines). Grew (words_of_functions c.args.chart.now.jumps functions) (FunctionsBy c.args.chart.now c.loop-function.at functions) c.loop-function.code.items c.loop-function.code.items) (sym none)
    (grew_nothing _ _ (λ code at is map charts inside. tt)))
