use Rattle.std.proofs.Common.{◌≡◌, take}
use Rattle.rv_lower.specs.Written.{WroteLines}
use Rattle.rv_cells.specs.CellLines.{Walks, walked}
use Rattle.rv_tokens.proofs.decide.write_walk.Given as goal

abbrev pub invariant-loop-field : goal.invariant-loop-field
invariant-loop-field l = record {
  wrote : WroteLines (Walks l.temporary l.value (take l.field-index l.at)) l.fn.lowering l.lowering;
  there : l.there ≡ walked l.temporary l.value (take l.field-index l.at);
}
