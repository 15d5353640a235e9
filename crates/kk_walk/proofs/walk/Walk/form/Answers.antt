use Rattle.std.proofs.Common.{inl, inr}
use Rattle.kk_walk.proofs.walk.Walk.form.Goals as goal

pub returns-in_ok-instance-in-Number : goal.returns-in_ok-instance-in-Number
returns-in_ok-instance-in-Number c = elim c.in-Number.is [
  | inl is ↦ rw is.1 c.in_ok-instance-in-Number.ensures
  | inr is ↦ rw is c.in_ok-instance-in-Number.ensures
]

pub returns-in_ok-instance-in-Unit : goal.returns-in_ok-instance-in-Unit
returns-in_ok-instance-in-Unit c = elim c.in-Unit.is [
  | inl is ↦ rw is c.in_ok-instance-in-Unit.ensures
  | inr is ↦ rw is.2 c.in_ok-instance-in-Unit.ensures
]

pub returns-in_ok-instance-in-Unary : goal.returns-in_ok-instance-in-Unary
returns-in_ok-instance-in-Unary c = rw c.in-Unary.is c.in_ok-instance-in-Unary.ensures

pub returns-in_ok-instance-in-Binary : goal.returns-in_ok-instance-in-Binary
returns-in_ok-instance-in-Binary c = rw c.in-Binary.is c.in_ok-instance-in-Binary.ensures

pub returns-in_ok-instance-in-Print : goal.returns-in_ok-instance-in-Print
returns-in_ok-instance-in-Print c = rw c.in-Print.is c.in_ok-instance-in-Print.ensures
