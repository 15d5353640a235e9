use Rattle.std.proofs.Common.{◌≡◌, map, drop}
use Rattle.kk_counted.specs.KeptFields.{fields_in}
use Rattle.kk_respec.specs.KnownTokens.{known_of}
use Rattle.kk_respec.proofs.known.kept.Given as goal

abbrev pub invariant-loop-one : goal.invariant-loop-one
invariant-loop-one l = fields_in (map known_of (drop l.one-index l.known)) l.slot ≡ fields_in (map known_of l.known) l.slot
