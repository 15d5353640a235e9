use Rattle.std.proofs.Common.{take}
use Rattle.rv_place.specs.Bytes.{AreWordsOf}
use Rattle.rv_place.proofs.words.code_bytes.Given as goal

abbrev pub invariant-loop-instruction : goal.invariant-loop-instruction
invariant-loop-instruction l = AreWordsOf (take l.instruction-index l.instructions) l.bytes.items
