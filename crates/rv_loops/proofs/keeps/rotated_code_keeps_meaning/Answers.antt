-- The law is the simulation of the machines.
use Rattle.rv_loops.proofs.Simulation.{simulates}
use Rattle.rv_loops.proofs.SharedStates.{follows}
use Rattle.rv_loops.proofs.LineArrivals.{has_there, lines_apart, comes}
use Rattle.rv_loops.proofs.StartStates.{starts, agrees, never_stuck}
use Rattle.rv_loops.proofs.keeps.rotated_code_keeps_meaning.Goals as goal

pub returns-clause-simulates : goal.returns-clause-simulates
returns-clause-simulates g c = λ q q' depth all. simulates g.M.Execution.primitives g.M.Execution.opposes depth q q' all

pub returns-clause-starts : goal.returns-clause-starts
returns-clause-starts g c = λ q q' depth main shared all is never. starts g.M.Execution.primitives g.M.Execution.opposes depth q
    q' all main shared is never

pub returns-clause-agrees : goal.returns-clause-agrees
returns-clause-agrees g c = λ q q' depth main shared all is never. agrees g.M.Execution.primitives g.M.Execution.opposes depth q
    q' all main shared is never

pub returns-clause-never_stuck : goal.returns-clause-never_stuck
returns-clause-never_stuck g c =
    λ q q' depth main shared all is never. never_stuck g.M.Execution.primitives g.M.Execution.opposes depth q q' all main shared
    is never

pub returns-clause-follows : goal.returns-clause-follows
returns-clause-follows g c =
    λ q q' depth main shared all is never. follows g.M.Execution.primitives g.M.Execution.opposes depth q q' all main shared is
    never

pub returns-clause-has : goal.returns-clause-has
returns-clause-has g c = λ q q' all f k has. has_there q q' all f k has

pub returns-clause-apart : goal.returns-clause-apart
returns-clause-apart g c = λ q q' all f j k first second same. lines_apart q q' all f j k first second same

pub returns-clause-comes : goal.returns-clause-comes
returns-clause-comes g c =
    λ q q' depth main shared all is never. comes g.M.Execution.primitives g.M.Execution.opposes g.M.Execution.alone depth q q' all
    main shared is never
