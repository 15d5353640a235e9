use Rattle.std.proofs.Common.{◌≡◌, ◌+◌, ◌*◌, ◌≤◌, drop}
use Rattle.cell_runtime.specs.Links.{place_of}
use Rattle.cell_runtime.proofs.links.place_of.Given as goal

abbrev pub invariant-loop-line : goal.invariant-loop-line
invariant-loop-line l = record {
  place : l.before + place_of l.label (drop l.line-index l.lines) ≡ place_of l.label l.lines;
  few : l.before ≤ 2 * l.line-index;
}
