use Rattle.rv_cells.proofs.TokenFormedFunctions.{tokened_program_formed}
use Rattle.rv_cells.proofs.law.lowered_tokened_programs_are_well_formed.Goals as goal

pub returns : goal.returns
returns c = λ shape code texts each lowerable tokens spends form narrow falsity truth_is main main_is alone.
    tokened_program_formed shape code texts each lowerable tokens spends form narrow falsity truth_is main main_is alone
