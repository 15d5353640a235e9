use Rattle.kk_counted.proofs.Numbers.{stay_int32}
use Rattle.kk_counted.proofs.law.numbers_stay_in_32_bits.Goals as goal

pub returns : goal.returns
returns c = λ weight setting input bytes all n. stay_int32 setting all weight input bytes n
