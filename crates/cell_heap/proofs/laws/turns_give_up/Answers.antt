use Rattle.cell_heap.proofs.RoutineTurns.{given_in_turns, turns_give_up}
use Rattle.cell_heap.proofs.laws.turns_give_up.Goals as goal

pub returns : goal.returns
returns c =
    λ given frees heap end gave freed. (λ gives. given_in_turns frees gives, λ taken. turns_give_up taken.1)
