use Rattle.std.proofs.Common.{◌≡◌, map, take}
use Rattle.kk_insert.specs.Shapes.{facts_of}
use Rattle.kk_insert.proofs.shaping.constructors.Given as goal

abbrev pub invariant-loop-one : goal.invariant-loop-one
invariant-loop-one l = map facts_of l.made.items ≡ map facts_of (take l.one-index l.given)
