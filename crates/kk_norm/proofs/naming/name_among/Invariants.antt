use Rattle.std.proofs.Common.{◌≡◌, take}
use Rattle.kk_norm.specs.Names.{name_of}
use Rattle.kk_norm.specs.Written.{names_of}
use Rattle.kk_norm.proofs.naming.name_among.Given as goal

abbrev pub invariant-loop-named : goal.invariant-loop-named
invariant-loop-named l = l.name ≡ name_of (names_of (take l.named-index l.names)) l.variable
