use Rattle.std.proofs.Common.{ℕ, true, sym, subst}
use Rattle.kk_counted.specs.CountedCodes.{CountedProgram}
use Rattle.kk_counted.specs.CountedMachine.{NotStuck}
use Rattle.kk_counted.specs.Keeping.{counted_after}
use Rattle.kk_counted.specs.TokenRuns.{bare_weight}
use Rattle.kk_respec.specs.Respecialised.{respecialised_setting}
use Rattle.kk_respec.proofs.Forms.{program_bare, program_spends}
use Rattle.kk_respec.proofs.Lowerability.{program_leaves}
use Rattle.kk_respec.proofs.law.respecialised_code_runs_the_same.Goals as goal

pub returns : goal.returns
returns c = record {
  fills = λ leaves weight setting input spends.
      c.known_fields_may_be_left.ensures.fills weight (respecialised_setting leaves setting) input
      (program_spends setting.program spends) (program_leaves setting.program);
  exact = λ weight setting input spends n.
      c.known_fields_may_be_left.ensures.exact weight (respecialised_setting true setting) input
      (program_spends setting.program spends) (program_leaves setting.program) n;
  same = λ leaves weight setting input spends never.
      c.tokens_keep_runs_the_same.ensures.same weight (respecialised_setting leaves setting) input
      (program_spends setting.program spends)
      (c.known_fields_may_be_left.ensures.fills (bare_weight weight) (respecialised_setting leaves setting) input
      (program_spends setting.program spends) (program_leaves setting.program))
      (subst (λ (program : CountedProgram).
      (n : ℕ) → NotStuck
      (counted_after weight (record { program = program; cells = setting.cells; depth = setting.depth }) input n).control)
      (sym (program_bare setting.program)) never);
}
