use Rattle.std.proofs.Common.{drop, map}
use Rattle.rv_isa.specs.AsmCode.{line_of}
use Rattle.rv_isa.specs.ValueBounds.{AreLinesBelow}
use Rattle.rv_inline.proofs.leaf.are_lines_below.Given as goal

abbrev pub invariant-loop-statement : goal.invariant-loop-statement
invariant-loop-statement l =
    AreLinesBelow l.most (map line_of (drop l.statement-index l.code)) → AreLinesBelow l.most (map line_of l.code)
