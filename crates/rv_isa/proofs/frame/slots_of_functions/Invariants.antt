use Rattle.std.proofs.Common.{◌≡◌, max, map, drop}
use Rattle.rv_isa.specs.PlacedCode.{placed_lines_of}
use Rattle.rv_isa.specs.FrameSizes.{slots_of_functions}
use Rattle.rv_isa.proofs.frame.slots_of_functions.Given as goal

abbrev pub invariant-loop-function : goal.invariant-loop-function
invariant-loop-function l = max l.slots (slots_of_functions (map placed_lines_of (drop l.function-index l.functions))) ≡ slots_of_functions (map placed_lines_of l.functions)
