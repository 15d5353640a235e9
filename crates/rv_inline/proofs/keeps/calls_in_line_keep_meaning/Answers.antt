-- The law is the simulation of the machines.
use Rattle.rv_inline.proofs.OwnLines.{has_there, lines_apart, comes}
use Rattle.rv_inline.proofs.Simulation.{simulates}
use Rattle.rv_inline.proofs.Starts.{starts, agrees, never_stuck, follows}
use Rattle.rv_inline.proofs.ValueCounts.{functions_below}
use Rattle.rv_inline.proofs.WellFormedness.{program_formed}
use Rattle.rv_inline.proofs.keeps.calls_in_line_keep_meaning.Goals as goal

pub returns-clause-simulates : goal.returns-clause-simulates
returns-clause-simulates g c = λ q q' depth all. simulates g.M.Execution.primitives g.M.Execution.copies depth q q' all

pub returns-clause-starts : goal.returns-clause-starts
returns-clause-starts g c = λ q q' depth main shared all is never. starts g.M.Execution.primitives g.M.Execution.copies depth q
    q' all main shared is never

pub returns-clause-agrees : goal.returns-clause-agrees
returns-clause-agrees g c = λ q q' depth main shared all is never. agrees g.M.Execution.primitives g.M.Execution.copies depth q
    q' all main shared is never

pub returns-clause-never_stuck : goal.returns-clause-never_stuck
returns-clause-never_stuck g c =
    λ q q' depth main shared all is never. never_stuck g.M.Execution.primitives g.M.Execution.copies depth q q' all main shared
    is never

pub returns-clause-follows : goal.returns-clause-follows
returns-clause-follows g c =
    λ q q' depth main shared all is never. follows g.M.Execution.primitives g.M.Execution.copies depth q q' all main shared is
    never

pub returns-clause-has : goal.returns-clause-has
returns-clause-has g c = λ q q' all f k has. has_there q q' all f k has

pub returns-clause-apart : goal.returns-clause-apart
returns-clause-apart g c = λ q q' all f j k first second same. lines_apart q q' all f j k first second same

pub returns-clause-comes : goal.returns-clause-comes
returns-clause-comes g c =
    λ q q' depth main shared all is never. comes g.M.Execution.primitives g.M.Execution.copies depth q q' all main shared is never

pub returns-clause-formed : goal.returns-clause-formed
returns-clause-formed g c = λ q q' all formed. program_formed q q' all formed

pub returns-clause-values : goal.returns-clause-values
returns-clause-values g c = λ q q' most all below. functions_below q q q' most all below
