use Rattle.kk_emitter.specs.Emissions.{counted_of}
use Rattle.counted_tests.proofs.FunctionMarks.{ended_marked}
use Rattle.counted_tests.proofs.ending.finished.Goals as goal

pub completed-requires-clause-marked : goal.completed-requires-clause-marked
completed-requires-clause-marked c =
    ended_marked (counted_of c.join.new.self) _ c.in-Ok.both.0.variable _ c.in-Ok.ensures.ok c.in-Ok.ensures.owed.1 c.requires.marked
