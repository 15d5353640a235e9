use Rattle.std.proofs.Common.{map, All}
use Rattle.kk_syntax.specs.Programs.{program_tree}
use Rattle.kk_syntax.specs.TypedPrograms.{typing_of}
use Rattle.kk_types.specs.Checks.{HasNodes}
use Rattle.kk_types.proofs.ProgramOutcome.{TypedSoFar}
use Rattle.kk_types.proofs.program.check.Given as goal

abbrev pub invariant-loop-number : goal.invariant-loop-number
invariant-loop-number l = record {
  typed : TypedSoFar (program_tree l.program) (map typing_of l.bodies.items) l.number;
  nodes : All HasNodes l.bodies.items;
}
