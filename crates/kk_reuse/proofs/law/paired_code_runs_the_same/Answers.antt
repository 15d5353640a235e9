use Rattle.std.proofs.Common.{ℕ, refl, sym, subst}
use Rattle.kk_counted.specs.CountedMachine.{NotStuck}
use Rattle.kk_counted.specs.CountedStates.{CountedSetting}
use Rattle.kk_counted.specs.Keeping.{counted_after}
use Rattle.kk_counted.specs.TokenRuns.{bare_weight}
use Rattle.kk_reuse.specs.Pairing.{paired_setting}
use Rattle.kk_reuse.proofs.Programs.{setting_bare}
use Rattle.kk_reuse.proofs.TokenSpending.{program_spends}
use Rattle.kk_reuse.proofs.law.paired_code_runs_the_same.Goals as goal

pub returns : goal.returns
returns c weight setting input never =
    let fills = c.tokens_keep_runs_the_same.ensures.written (bare_weight weight) (paired_setting setting) input refl in
    c.tokens_keep_runs_the_same.ensures.same weight (paired_setting setting) input (program_spends setting.program) fills
    (subst (λ (s : CountedSetting). (n : ℕ) → NotStuck (counted_after weight s input n).control) (sym (setting_bare setting)) never)
