use Rattle.std.proofs.Common.{◌+◌, ◌*◌, ◌≤◌, List, map, drop}
use Rattle.rv_isa.specs.declared.instr.Instr.{Instr}
use Rattle.rv_isa.specs.Costs.{placed_functions_length}
use Rattle.rv_isa.specs.PlacedCode.{placed_lines_of}
use Rattle.rv_isa.specs.FrameSizes.{slots_of_functions}
use Rattle.rv_place.specs.Addresses.{words_of_functions}
use Rattle.rv_place.specs.Emitted.{Grew, FunctionsBy}
use Rattle.rv_place.proofs.lines.emit_functions.Given as goal

-- with the rest added, all is there
abbrev pub invariant-loop-function : goal.invariant-loop-function
invariant-loop-function l =
    let rest = map placed_lines_of (drop l.function-index l.functions) in
    let whole = map placed_lines_of l.functions in
    record {
      grows : (new : List Instr) → Grew (words_of_functions l.chart.jumps rest) (FunctionsBy l.chart l.at rest) l.code.items new
          → Grew (words_of_functions l.chart.jumps whole) (FunctionsBy l.chart l.entry whole) l.fn.code.items new;
      slots : slots_of_functions rest ≤ slots_of_functions whole;
      short : placed_functions_length rest ≤ placed_functions_length whole;
      low : l.at + 4 * placed_functions_length rest ≤ l.entry + 28 * l.function-index + 4 * placed_functions_length whole;
    }
