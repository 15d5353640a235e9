use Rattle.std.proofs.Common.{◌≡◌, ◌+◌, ◌*◌, ◌≤◌, map, drop}
use Rattle.rv_isa.specs.Costs.{placed_functions_length}
use Rattle.rv_isa.specs.PlacedCode.{placed_lines_of}
use Rattle.rv_place.specs.Addresses.{words_of_functions, most_entry_words}
use Rattle.rv_place.proofs.sizes.words_of_functions.Given as goal

abbrev pub invariant-loop-function : goal.invariant-loop-function
invariant-loop-function l =
    let rest = map placed_lines_of (drop l.function-index l.functions) in
    let whole = map placed_lines_of l.functions in
    record {
      words : l.words + words_of_functions l.jumps rest ≡ words_of_functions l.jumps whole;
      few : l.words + placed_functions_length rest ≤ most_entry_words * l.function-index + placed_functions_length whole;
      short : placed_functions_length rest ≤ placed_functions_length whole;
    }
