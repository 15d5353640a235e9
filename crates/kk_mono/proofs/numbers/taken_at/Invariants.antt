use Rattle.std.proofs.Common.{take}
use Rattle.std.specs.List.{AllZip}
use Rattle.kk_mono.specs.Places.{Renumbers}
use Rattle.kk_mono.proofs.numbers.taken_at.Given as goal

abbrev pub invariant-loop-choice : goal.invariant-loop-choice
invariant-loop-choice l = AllZip (Renumbers l.numbers) (take l.choice-index l.taken) l.made.items
