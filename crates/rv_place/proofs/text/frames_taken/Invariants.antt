use Rattle.std.proofs.Common.{◌≡◌, ◌++◌, map, drop}
use Rattle.rv_isa.specs.PlacedCode.{placed_lines_of}
use Rattle.rv_place.specs.Addresses.{frames_taken}
use Rattle.rv_place.proofs.text.frames_taken.Given as goal

abbrev pub invariant-loop-function : goal.invariant-loop-function
invariant-loop-function l =
    l.takes.items ++ frames_taken l.jumps (map placed_lines_of (drop l.function-index l.functions))
    ≡ frames_taken l.jumps (map placed_lines_of l.functions)
