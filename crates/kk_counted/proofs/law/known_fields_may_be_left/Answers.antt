use Rattle.kk_counted.proofs.KnownRuns.{known_may_be_left, leaving_is_exact}
use Rattle.kk_counted.proofs.law.known_fields_may_be_left.Goals as goal

pub returns : goal.returns
returns c = record {
  fills = λ weight setting input spends leaves. known_may_be_left weight setting spends leaves input;
  exact = λ weight setting input spends leaves n. leaving_is_exact weight setting spends leaves input n;
}
