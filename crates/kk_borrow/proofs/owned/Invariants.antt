use Rattle.kk_syntax.specs.Programs.{program_tree}
use Rattle.kk_borrow.specs.Rules.{rule_trees}
use Rattle.kk_borrow.specs.Standings.{ownerships, waitings, work}
use Rattle.kk_borrow.proofs.Search.{Searches}
use Rattle.kk_borrow.proofs.owned.Given as goal

abbrev pub invariant-apply : goal.invariant-apply
invariant-apply l = Searches (program_tree l.program) (ownerships l.standings) (waitings l.standings) (rule_trees l.rules.items)

abbrev pub decreases-apply : goal.decreases-apply
decreases-apply l = work (waitings l.standings) (rule_trees l.rules.items)
