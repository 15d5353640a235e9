use Rattle.std.proofs.Common.{◌≡◌, drop}
use Rattle.rv_regs.specs.Listings.{is_read_in}
use Rattle.rv_regs.proofs.places.is_read.Given as goal

abbrev pub invariant-loop-read : goal.invariant-loop-read
invariant-loop-read l = is_read_in (drop l.read-index l.reads) l.value ≡ is_read_in l.reads l.value
