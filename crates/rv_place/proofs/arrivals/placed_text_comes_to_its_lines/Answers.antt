-- The simulation comes to where each line stands, and the lines stand one behind the other behind the runtime.
use Rattle.std.proofs.Common.{suc}
use Rattle.rv_isa.specs.PlacedCode.{placed_functions}
use Rattle.rv_place.specs.ProcessorStates.{most_lines}
use Rattle.rv_place.proofs.ProcessorSimulation.{simulates}
use Rattle.rv_place.proofs.BootRuns.{image-ground}
use Rattle.rv_place.proofs.BootArrivals.{image-arrives, image-follows, image-apart, image-outside, image-inside}
use Rattle.rv_place.proofs.arrivals.placed_text_comes_to_its_lines.Goals as goal

pub returns-clause-comes : goal.returns-clause-comes
returns-clause-comes c = λ cells depth runtime program words text input main image bytes never n f j shared has at_line.
    image-arrives image input bytes (suc (most_lines (placed_functions program))) (simulates (image-ground image) image.plain) never
    n f j shared at_line

pub returns-clause-follows : goal.returns-clause-follows
returns-clause-follows c = λ cells depth runtime program words text input main image bytes never n t state_is.
    image-follows image input bytes (suc (most_lines (placed_functions program))) (simulates (image-ground image) image.plain) never
    n t state_is

pub returns-clause-apart : goal.returns-clause-apart
returns-clause-apart c = λ cells depth runtime program words text main image f j g i has other same.
    image-apart image f j g i has other same

pub returns-clause-outside : goal.returns-clause-outside
returns-clause-outside c = λ cells depth runtime program words text main image f j has. image-outside image f j has

pub returns-clause-inside : goal.returns-clause-inside
returns-clause-inside c = λ cells depth runtime program words text main image f j has. image-inside image f j has
