use Rattle.std.proofs.Common.{◌≡◌, drop}
use Rattle.rv_propose.specs.Listings.{listed_as}
use Rattle.rv_propose.proofs.state.listing.Given as goal

abbrev pub invariant-loop-listed : goal.invariant-loop-listed
invariant-loop-listed l = listed_as l.value (drop l.listed-index l.state) ≡ listed_as l.value l.state
