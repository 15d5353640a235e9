use Rattle.std.proofs.Common.{drop, map}
use Rattle.rv_isa.specs.AsmCode.{line_of}
use Rattle.rv_inline.specs.InLine.{AreComputing}
use Rattle.rv_inline.proofs.leaf.are_computing.Given as goal

abbrev pub invariant-loop-statement : goal.invariant-loop-statement
invariant-loop-statement l =
    AreComputing l.params (map line_of (drop l.statement-index l.body)) → AreComputing l.params (map line_of l.body)
