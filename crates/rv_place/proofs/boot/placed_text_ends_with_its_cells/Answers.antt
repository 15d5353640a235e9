-- The law is the simulation, from the state on to which the image comes first.
use Rattle.std.proofs.Common.{suc}
use Rattle.rv_isa.specs.PlacedCode.{placed_functions}
use Rattle.rv_place.specs.ProcessorStates.{most_lines}
use Rattle.rv_place.proofs.ProcessorSimulation.{simulates}
use Rattle.rv_place.proofs.BootRuns.{image-ground, image-ends}
use Rattle.rv_place.proofs.boot.placed_text_ends_with_its_cells.Goals as goal

pub returns : goal.returns
returns c = λ cells depth runtime program words text input main image bytes never steps how world is.
    image-ends image input bytes (suc (most_lines (placed_functions program))) (simulates (image-ground image) image.plain) never steps how world is
