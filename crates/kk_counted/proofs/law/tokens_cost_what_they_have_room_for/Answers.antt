use Rattle.kk_counted.proofs.TokenRoom.{costs_within, states_kept}
use Rattle.kk_counted.proofs.law.tokens_cost_what_they_have_room_for.Goals as goal

pub returns : goal.returns
returns c = record {
  costs = λ room setting input spends fills never_stuck fits. costs_within room setting fits input spends fills never_stuck;
  states = states_kept;
}
