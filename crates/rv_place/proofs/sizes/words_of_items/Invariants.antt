use Rattle.std.proofs.Common.{◌≡◌, ◌+◌, ◌≤◌, map, drop}
use Rattle.rv_isa.specs.Costs.{placed_code_length}
use Rattle.rv_isa.specs.PlacedCode.{placed_line_of}
use Rattle.rv_place.specs.Addresses.{words_of_lines}
use Rattle.rv_place.proofs.sizes.words_of_items.Given as goal

abbrev pub invariant-loop-item : goal.invariant-loop-item
invariant-loop-item l =
    let rest = map placed_line_of (drop l.item-index l.items) in
    let whole = map placed_line_of l.items in
    record {
      words : l.words + words_of_lines l.forms rest ≡ words_of_lines l.forms whole;
      few : l.words + placed_code_length rest ≤ placed_code_length whole;
    }
