use Rattle.kk_insert.proofs.FunctionWords.{inserted_words}
use Rattle.kk_insert.proofs.law.inserted_code_takes_few_words.Goals as goal

pub returns : goal.returns
returns c = inserted_words
