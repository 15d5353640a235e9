use Rattle.std.proofs.Common.{◌≡◌, map, take}
use Rattle.kk_mono.specs.Tables.{number_in}
use Rattle.kk_mono.proofs.numbers.numbers_at.Given as goal

abbrev pub invariant-loop-place : goal.invariant-loop-place
invariant-loop-place l = l.found.items ≡ map (number_in l.numbers) (take l.place-index l.places)
