-- The law is the simulation, from the state on to which the image comes first.
use Rattle.std.proofs.Common.{ℕ, suc, ◌+◌, ◌*◌, length}
use Rattle.rv_isa.specs.PlacedCode.{placed_functions}
use Rattle.rv_place.specs.ProcessorStates.{most_lines}
use Rattle.rv_place.proofs.ProcessorSimulation.{simulates}
use Rattle.rv_place.proofs.BootRuns.{image-ground, image-agrees}
use Rattle.rv_place.proofs.boot.placed_text_agrees.Goals as goal

pub returns : goal.returns
returns c = λ cells depth runtime program words text input main image bytes never.
    let pace : ℕ = suc (most_lines (placed_functions program)) in
    ((λ m. m * pace + length main.code + 1), image-agrees image input bytes pace (simulates (image-ground image) image.plain) never)
