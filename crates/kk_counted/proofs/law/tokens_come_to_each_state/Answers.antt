use Rattle.kk_counted.proofs.TokenAlignment.{comes_to_each}
use Rattle.kk_counted.proofs.law.tokens_come_to_each_state.Goals as goal

pub returns : goal.returns
returns c = λ weight setting input spends. comes_to_each weight setting spends input
