use Rattle.kk_counted.proofs.Cost.{drop_cost, drop_pays, dup_weight, opening_cost}
use Rattle.kk_counted.proofs.law.drops_pay_for_themselves.Goals as goal

pub returns : goal.returns
returns c = record { turns = drop_cost; pays = drop_pays; dups = dup_weight; openings = opening_cost }
