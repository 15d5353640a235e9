use Rattle.std.proofs.Common.{◌≡◌, ◌++◌, drop}
use Rattle.kk_emitter.specs.Drafts.{chosen_of}
use Rattle.kk_emitter.proofs.lists.chosen.Given as goal

abbrev pub invariant-loop-variable : goal.invariant-loop-variable
invariant-loop-variable l =
    l.found.items ++ chosen_of l.rest (drop l.variable-index l.variables) ≡ chosen_of l.mask l.variables
