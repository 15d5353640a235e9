use Rattle.kk_counted.proofs.TokenSteps.{follows}
use Rattle.kk_counted.proofs.TokenOnlyForms.{unseen}
use Rattle.kk_counted.proofs.law.tokens_follow_their_forms.Goals as goal

pub returns : goal.returns
returns c = record { follows = follows; unseen = unseen }
