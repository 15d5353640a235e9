use Rattle.rv_cells.proofs.TokenMeaning.{runs_the_same}
use Rattle.rv_cells.proofs.law.lowered_tokened_programs_run_the_same.Goals as goal

pub returns : goal.returns
returns c = λ layout marks code constants functions lowered room fits_room pool depth first input aligned some bytes fits.
    runs_the_same layout marks code constants functions lowered room fits_room pool depth first input aligned some bytes fits
