use Rattle.kk_respec.proofs.RespecialisedWords.{function_words}
use Rattle.kk_respec.proofs.law.respecialised_code_takes_as_many_words.Goals as goal

pub returns : goal.returns
returns c = function_words
