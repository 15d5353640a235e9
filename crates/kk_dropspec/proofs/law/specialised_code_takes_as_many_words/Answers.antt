use Rattle.kk_dropspec.proofs.SpecialWords.{special_words}
use Rattle.kk_dropspec.proofs.law.specialised_code_takes_as_many_words.Goals as goal

pub returns : goal.returns
returns c = special_words
