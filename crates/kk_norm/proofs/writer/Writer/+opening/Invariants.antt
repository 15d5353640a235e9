use Rattle.std.proofs.Common.{map, drop}
use Rattle.kk_syntax.specs.Patterns.{pattern_tree, patterns_of}
use Rattle.kk_norm.proofs.OpeningLoops.{OpenedSoFar}
use Rattle.kk_norm.proofs.writer.Writer.+opening.Given as goal

abbrev pub invariant-open_parts-loop-part : goal.invariant-open_parts-loop-part
invariant-open_parts-loop-part l = OpenedSoFar l.first l.fn.self l.self (patterns_of (map pattern_tree (drop l.part-index l.parts))) (patterns_of (map pattern_tree l.parts)) l.variable
