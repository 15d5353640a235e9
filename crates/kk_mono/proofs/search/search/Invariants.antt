use Rattle.std.proofs.Common.{◌-◌, length}
use Rattle.kk_mono.specs.InstanceSearch.{IsSearching}
use Rattle.kk_mono.proofs.search.search.Given as goal

abbrev pub invariant-loop-found : goal.invariant-loop-found
invariant-loop-found l = IsSearching l.typed l.found

abbrev pub decreases-loop-found : goal.decreases-loop-found
decreases-loop-found l = l.greatest - length l.found.looked.items
