-- The law is the sum of the text's parts.
use Rattle.rv_place.proofs.BootSizes.{text_small}
use Rattle.rv_place.proofs.law.placed_text_takes_few_bytes.Goals as goal

pub returns : goal.returns
returns c = λ runtime program words text placed bytes. text_small placed bytes
