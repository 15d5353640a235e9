use Rattle.std.proofs.Common.{◌≡◌, ◌+◌, ◌*◌, ◌≤◌, ◌++◌, map, drop}
use Rattle.rv_isa.specs.Costs.{placed_functions_length}
use Rattle.rv_isa.specs.PlacedCode.{placed_lines_of}
use Rattle.rv_place.specs.Addresses.{entries_from}
use Rattle.rv_place.proofs.text.entries.Given as goal

abbrev pub invariant-loop-function : goal.invariant-loop-function
invariant-loop-function l =
    let rest = map placed_lines_of (drop l.function-index l.functions) in
    let whole = map placed_lines_of l.functions in
    record {
      same : l.entries.items ++ entries_from l.jumps l.at rest ≡ entries_from l.jumps l.first whole;
      short : placed_functions_length rest ≤ placed_functions_length whole;
      low : l.at + 4 * placed_functions_length rest ≤ l.first + 28 * l.function-index + 4 * placed_functions_length whole;
    }
