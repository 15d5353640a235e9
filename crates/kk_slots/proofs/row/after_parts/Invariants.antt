use Rattle.std.proofs.Common.{◌≡◌, map, take}
use Rattle.kk_syntax.specs.Outlines.{pattern_outline}
use Rattle.kk_slots.specs.Problems.{slot_outline}
use Rattle.kk_slots.proofs.row.after_parts.Given as goal

abbrev pub invariant-loop-part : goal.invariant-loop-part
invariant-loop-part l = map slot_outline l.slots.items ≡ map pattern_outline (take l.part-index l.parts)
