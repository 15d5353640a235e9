use Rattle.rv_cells.proofs.LineArrivals.{comes_to_its_lines, follows_each_state}
use Rattle.rv_cells.proofs.FormRoots.{own_lines}
use Rattle.rv_cells.proofs.law.lowered_tokened_programs_come_to_their_lines.Goals as goal

pub returns : goal.returns
returns c = λ layout marks code constants functions lowered lowerable main_first. (
  own_lines layout marks code constants functions lowered lowerable,
  λ room fits_room pool depth first input aligned some bytes fits. (
    comes_to_its_lines layout marks code constants functions lowered lowerable main_first room fits_room pool depth first input
        aligned some bytes fits,
    follows_each_state layout marks code constants functions lowered lowerable main_first room fits_room pool depth first input
        aligned some bytes fits,
  ),
)
