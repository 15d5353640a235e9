use Rattle.cell_heap.proofs.RoutineTurns.{turns_computed_first, turns_taken_first}
use Rattle.cell_heap.proofs.laws.turns_are_computed.Goals as goal

pub returns : goal.returns
returns c = record {
  taken = λ fuel given frees left heap end gave freed taken within. turns_computed_first fuel taken within;
  no_other = λ fuel given frees heap after is. turns_taken_first fuel after given frees heap is;
}
