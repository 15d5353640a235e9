use Rattle.kk_counted.proofs.SoundUses.{uses_counted, chooses_alike}
use Rattle.kk_counted.proofs.law.judged_code_uses_counted_cells.Goals as goal

pub returns : goal.returns
returns c = record { used = uses_counted; chosen = chooses_alike }
