use Rattle.std.proofs.Common.{map, drop}
use Rattle.kk_syntax.specs.Patterns.{pattern_tree, patterns_of}
use Rattle.kk_norm.proofs.OpeningLoops.{NumberedSoFar}
use Rattle.kk_norm.proofs.writer.Writer.number_parts.Given as goal

abbrev pub invariant-loop : goal.invariant-loop
invariant-loop l = NumberedSoFar l.fn.self l.self (patterns_of (map pattern_tree (drop l.index l.parts))) (patterns_of (map pattern_tree l.parts)) l.fields.items
