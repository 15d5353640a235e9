use Rattle.kk_counted.proofs.TokenStates.{states_are_bare}
use Rattle.kk_counted.proofs.TokenRuns.{same_run, fills_all}
use Rattle.kk_counted.proofs.law.tokens_keep_runs_the_same.Goals as goal

pub returns : goal.returns
returns c = record {
  same = λ weight setting input spends fills never_stuck. same_run weight setting spends input fills never_stuck;
  states = λ weight setting input spends. states_are_bare weight setting spends input;
  written = fills_all;
}
