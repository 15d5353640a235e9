use Rattle.std.proofs.Common.{◌≡◌, ◌++◌, map, drop}
use Rattle.kk_respec.specs.KnownTokens.{known_of}
use Rattle.kk_respec.proofs.known.copied.Given as goal

abbrev pub invariant-loop-one : goal.invariant-loop-one
invariant-loop-one l = map known_of l.copy.items ++ map known_of (drop l.one-index l.known) ≡ map known_of l.known
