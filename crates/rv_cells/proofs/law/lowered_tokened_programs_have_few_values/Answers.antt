use Rattle.rv_cells.proofs.FunctionValues.{tokened_values_below}
use Rattle.rv_cells.proofs.law.lowered_tokened_programs_have_few_values.Goals as goal

pub returns : goal.returns
returns c = λ shape code texts each lowerable spends form variables slots few_variables few_slots.
    tokened_values_below shape code texts each lowerable spends form variables slots few_variables few_slots
