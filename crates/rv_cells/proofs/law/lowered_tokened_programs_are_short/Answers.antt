use Rattle.rv_cells.proofs.TokenCodeLengths.{tokened_programs_short}
use Rattle.rv_cells.proofs.law.lowered_tokened_programs_are_short.Goals as goal

pub returns : goal.returns
returns c = λ shape code texts each lowerable tokens spends form narrow.
    tokened_programs_short shape code texts each lowerable spends form narrow
