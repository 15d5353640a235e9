use Rattle.kk_norm.proofs.TypedPreservation.{typed_costs_little}
use Rattle.kk_norm.proofs.law.core_forms_of_typed_programs_cost_little.Goals as goal

pub returns : goal.returns
returns c = typed_costs_little
