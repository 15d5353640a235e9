use Rattle.std.proofs.Common.{refl}
use Rattle.kk_emitter.specs.Emissions.{counted_of}
use Rattle.counted_tests.proofs.FunctionMarks.{same_begun, ended_marked, drops_is, drops_marked}
use Rattle.counted_tests.proofs.lists.drops_one_of_two.Goals as goal

pub completed-requires-clause-marked : goal.completed-requires-clause-marked
completed-requires-clause-marked c =
    ended_marked (counted_of c.drop_ref.new.self) _ c.in_ok-first.first.variable 0
    (drops_is _ _ _ _ (counted_of c.drop_ref.new.self) c.in_ok-first.first.variable c.in-Ok.second.variable
    (same_begun _ _ _ _ _ _ _ c.requires.positions refl c.requires.marks c.in_ok-emitter.ensures.ok) c.in_ok-first.ensures.ok
    c.in-Ok.ensures.ok c.in_default.ensures.ok c.in_ok-first.ensures.owed.1 c.in-Ok.ensures.owed.1)
    c.in_ok-first.ensures.owed.1 (λ going. drops_marked)
