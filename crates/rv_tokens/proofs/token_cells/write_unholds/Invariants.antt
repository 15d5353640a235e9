use Rattle.std.proofs.Common.{◌≡◌, ◌++◌, drop}
use Rattle.rv_lower.specs.Written.{lines_written, texts_written}
use Rattle.rv_cells.specs.CellLines.{unhold_lines}
use Rattle.rv_tokens.proofs.token_cells.write_unholds.Given as goal

-- the lines so far and those that are left make the whole
abbrev pub invariant-loop-token : goal.invariant-loop-token
invariant-loop-token l = record {
  code : lines_written l.lowering ++ unhold_lines (drop l.token-index l.tokens)
      ≡ lines_written l.fn.lowering ++ unhold_lines l.tokens;
  texts : texts_written l.lowering ≡ texts_written l.fn.lowering;
  base : l.lowering.base ≡ l.fn.lowering.base;
  label : l.lowering.next_label ≡ l.fn.lowering.next_label;
}
