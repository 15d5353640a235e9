use Rattle.std.proofs.Common.{◌≡◌, ◌+◌, map, take}
use Rattle.rv_lower.specs.Written.{short_line}
use Rattle.rv_cells.specs.CellLines.{AllLoads}
use Rattle.rv_tokens.proofs.cells.loads.Given as goal
use Rattle.rv_cells.specs.Layout.{first_field}

abbrev pub invariant-loop-field : goal.invariant-loop-field
invariant-loop-field l = record {
  index : l.index ≡ 2 + l.field-index;
  lines : AllLoads l.cell first_field (take l.field-index l.fields) (map short_line l.lines.items);
}
