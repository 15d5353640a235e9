use Rattle.std.proofs.Common.{◌≡◌, ◌++◌, drop}
use Rattle.std.specs.Prelude.{filter}
use Rattle.kk_syntax.specs.Shapes.{is_among}
use Rattle.rv_lower.specs.Written.{lines_written, texts_written}
use Rattle.rv_cells.specs.CellLines.{dups_lines}
use Rattle.rv_tokens.specs.Written.{holds_known}
use Rattle.rv_tokens.proofs.cells.write_dups.Given as goal

-- the lines so far and those that are left make the whole
abbrev pub invariant-loop-field : goal.invariant-loop-field
invariant-loop-field l = record {
  code : lines_written l.lowering ++ dups_lines (holds_known l.known) (filter (is_among l.used) (drop l.field-index l.fields))
      ≡ lines_written l.fn.lowering ++ dups_lines (holds_known l.known) (filter (is_among l.used) l.fields);
  texts : texts_written l.lowering ≡ texts_written l.fn.lowering;
  base : l.lowering.base ≡ l.fn.lowering.base;
  label : l.lowering.next_label ≡ l.fn.lowering.next_label;
}
