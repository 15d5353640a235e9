use Rattle.std.proofs.Common.{◌≤◌, List, map, drop, ◌+◌, ◌*◌}
use Rattle.rv_isa.specs.declared.instr.Instr.{Instr}
use Rattle.rv_isa.specs.Costs.{placed_code_length}
use Rattle.rv_isa.specs.PlacedCode.{placed_line_of}
use Rattle.rv_isa.specs.FrameSizes.{slots_of_lines}
use Rattle.rv_place.specs.Addresses.{words_of_lines}
use Rattle.rv_place.specs.Emitted.{Grew, LinesBy}
use Rattle.rv_place.proofs.lines.emit_items.Given as goal

-- with the rest added, all is there
abbrev pub invariant-loop-item : goal.invariant-loop-item
invariant-loop-item l =
    let rest = map placed_line_of (drop l.item-index l.items) in
    let whole = map placed_line_of l.items in
    record {
      grows : (new : List Instr) → Grew (words_of_lines l.labels.forms rest) (LinesBy l.chart l.labels l.at rest) l.code.items new
          → Grew (words_of_lines l.labels.forms whole) (LinesBy l.chart l.labels l.start whole) l.fn.code.items new;
      slots : slots_of_lines rest ≤ slots_of_lines whole;
      low : l.at + 4 * placed_code_length rest ≤ l.start + 4 * placed_code_length whole;
    }
