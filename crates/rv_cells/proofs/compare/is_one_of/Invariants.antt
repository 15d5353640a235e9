use Rattle.std.proofs.Common.{◌≡◌, drop}
use Rattle.kk_syntax.specs.Shapes.{is_among}
use Rattle.rv_cells.proofs.compare.is_one_of.Given as goal

abbrev pub invariant-loop-other : goal.invariant-loop-other
invariant-loop-other l = is_among (drop l.other-index l.others) l.variable ≡ is_among l.others l.variable
