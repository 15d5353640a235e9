use Rattle.rv_cells.proofs.TokenArrivals.{follows_token_states}
use Rattle.rv_cells.proofs.token_law.lowered_tokened_programs_follow_their_tokens.Goals as goal

pub returns : goal.returns
returns c = follows_token_states
