use Rattle.std.proofs.Common.{◌≡◌, ◌++◌, drop}
use Rattle.rv_lower.specs.Written.{lines_written, texts_written}
use Rattle.rv_cells.specs.CountedLines.{number_tests}
use Rattle.rv_tokens.specs.Written.{layout_known, ways_known, number_shown}
use Rattle.rv_tokens.proofs.decide.write_numbers.Given as goal

-- the lines so far and those that are left make the whole
abbrev pub invariant-loop-edge : goal.invariant-loop-edge
invariant-loop-edge l = record {
  code : lines_written l.lowering ++ number_tests (number_shown l.tested.shown (layout_known l.known)) (ways_known l.ways).to
      l.tested.value l.tested.temporary (drop l.edge-index l.edges)
      ≡ lines_written l.fn.lowering ++ number_tests (number_shown l.tested.shown (layout_known l.known)) (ways_known l.ways).to
      l.tested.value l.tested.temporary l.edges;
  texts : texts_written l.lowering ≡ texts_written l.fn.lowering;
  base : l.lowering.base ≡ l.fn.lowering.base;
  label : l.lowering.next_label ≡ l.fn.lowering.next_label;
}
