use Rattle.std.proofs.Common.{◌+◌, ◌*◌, ℕ, refl, sym, subst}
use Rattle.kk_base.specs.Agreements.{Agree}
use Rattle.kk_counted.specs.CountedCosts.{roomy_cost}
use Rattle.kk_counted.specs.CountedMachine.{counted_machine, NotStuck}
use Rattle.kk_counted.specs.CountedStates.{CountedSetting, counted_first_state}
use Rattle.kk_counted.specs.Keeping.{counted_after}
use Rattle.kk_counted.specs.TokenCosts.{token_cost}
use Rattle.kk_counted.specs.TokenMachine.{token_machine}
use Rattle.kk_counted.specs.TokenStates.{token_first_state}
use Rattle.kk_reuse.specs.Pairing.{paired_setting}
use Rattle.kk_reuse.proofs.Programs.{setting_bare}
use Rattle.kk_reuse.proofs.TokenRoom.{program_has_room}
use Rattle.kk_reuse.proofs.TokenSpending.{program_spends}
use Rattle.kk_reuse.proofs.law.paired_code_costs_what_it_has_room_for.Goals as goal

pub returns : goal.returns
returns c = record {
  room = program_has_room;
  costs = λ most setting input few never.
      let fills = c.tokens_keep_runs_the_same.ensures.written token_cost (paired_setting setting) input refl in
      subst (λ (s : CountedSetting). Agree (counted_machine (roomy_cost (36 * most)) s)
      (token_machine token_cost (paired_setting setting)) (36 * most) (λ m. m + 1) (counted_first_state s input)
      (token_first_state (paired_setting setting) input)) (setting_bare setting)
      (c.tokens_cost_what_they_have_room_for.ensures.costs (36 * most) (paired_setting setting) input
      (program_spends setting.program) fills
      (subst (λ (s : CountedSetting). (n : ℕ) → NotStuck (counted_after (roomy_cost (36 * most)) s input n).control)
      (sym (setting_bare setting)) never)
      (program_has_room most setting.program few));
  states = λ weight below setting input never.
      c.tokens_cost_what_they_have_room_for.ensures.states weight below (paired_setting setting) input
      (program_spends setting.program)
      (c.tokens_keep_runs_the_same.ensures.written weight (paired_setting setting) input refl)
      (subst (λ (s : CountedSetting). (n : ℕ) → NotStuck (counted_after below s input n).control) (sym (setting_bare setting))
      never);
}
