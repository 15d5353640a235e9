use Rattle.kk_source.proofs.Settings.{one_setting, some_setting}
use Rattle.kk_source.proofs.law.programs_are_run_in_one_way.Goals as goal

pub returns : goal.returns
returns c = record { some = some_setting; one = one_setting }
