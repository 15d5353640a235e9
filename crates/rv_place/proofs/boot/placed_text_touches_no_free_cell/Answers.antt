-- The simulation passes no state that touches a free cell, and neither do the instructions before it.
use Rattle.std.proofs.Common.{suc}
use Rattle.rv_isa.specs.PlacedCode.{placed_functions}
use Rattle.rv_place.specs.ProcessorStates.{most_lines}
use Rattle.rv_place.proofs.ProcessorSimulation.{simulates}
use Rattle.rv_place.proofs.BootRuns.{image-ground, image-passes}
use Rattle.rv_place.proofs.boot.placed_text_touches_no_free_cell.Goals as goal

pub returns : goal.returns
returns c = λ cells depth runtime program words text input main image bytes never count.
    image-passes image input bytes (suc (most_lines (placed_functions program))) (simulates (image-ground image) image.plain) never count
