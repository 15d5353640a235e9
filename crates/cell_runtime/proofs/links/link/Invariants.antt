use Rattle.std.proofs.Common.{◌≡◌, ◌*◌, ◌≤◌, ◌++◌, drop}
use Rattle.cell_runtime.specs.Links.{linked_from, linked}
use Rattle.cell_runtime.proofs.links.link.Given as goal

abbrev pub invariant-loop-line : goal.invariant-loop-line
invariant-loop-line l = record {
  rows : l.rows.items ++ linked_from l.lines l.at (drop l.line-index l.lines) ≡ l.fn.rows.items ++ linked l.lines;
  few : l.at ≤ 2 * l.line-index;
}
