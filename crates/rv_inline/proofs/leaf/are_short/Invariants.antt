use Rattle.std.proofs.Common.{drop, map}
use Rattle.rv_isa.specs.AsmCode.{line_of}
use Rattle.rv_inline.specs.Growth.{AreShort}
use Rattle.rv_inline.proofs.leaf.are_short.Given as goal

abbrev pub invariant-loop-statement : goal.invariant-loop-statement
invariant-loop-statement l = AreShort (map line_of (drop l.statement-index l.body)) → AreShort (map line_of l.body)
