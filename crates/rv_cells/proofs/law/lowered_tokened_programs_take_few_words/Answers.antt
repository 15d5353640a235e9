use Rattle.rv_cells.proofs.TokenCodeWords.{tokened_programs_few}
use Rattle.rv_cells.proofs.law.lowered_tokened_programs_take_few_words.Goals as goal

pub returns : goal.returns
returns c = λ shape code texts each lowerable tokens spends form narrow.
    (tokened_programs_few shape code texts each lowerable spends form, form.few_bytes)
