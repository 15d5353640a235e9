use Rattle.std.proofs.Common.{drop}
use Rattle.kk_syntax.specs.Programs.{program_tree}
use Rattle.kk_walk.specs.Steps.{Goes}
use Rattle.kk_walk.proofs.PatternWalk.{parts_at}
use Rattle.kk_walk.proofs.walk.Walk.+pattern.Given as goal

abbrev pub invariant-parts-loop-index : goal.invariant-parts-loop-index
invariant-parts-loop-index l =
    Goes l.fn.self l.self (parts_at (program_tree l.program) l.fn.self.scope.items l.parts l.wants) (parts_at (program_tree l.program) l.fn.self.scope.items (drop l.index l.parts) (drop l.index l.wants))
