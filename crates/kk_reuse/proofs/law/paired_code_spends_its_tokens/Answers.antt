use Rattle.kk_reuse.proofs.Pairs.{program_pairs}
use Rattle.kk_reuse.proofs.Programs.{program_bare}
use Rattle.kk_reuse.proofs.TokenSpending.{program_spends}
use Rattle.kk_reuse.proofs.law.paired_code_spends_its_tokens.Goals as goal

pub returns : goal.returns
returns c = record { form = program_bare; spends = program_spends; paired = program_pairs }
