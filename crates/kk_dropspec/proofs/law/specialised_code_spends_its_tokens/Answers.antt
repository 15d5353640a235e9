use Rattle.kk_dropspec.proofs.Tokens.{bare_special, spends_tokens}
use Rattle.kk_dropspec.proofs.law.specialised_code_spends_its_tokens.Goals as goal

pub returns : goal.returns
returns c = record { form = bare_special; spends = spends_tokens }
