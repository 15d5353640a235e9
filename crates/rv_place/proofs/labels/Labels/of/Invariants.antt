use Rattle.std.proofs.Common.{◌≡◌, ℕ, ◌+◌, ◌*◌, ◌≤◌, map, drop}
use Rattle.std.specs.Ordering.{nat_cmp}
use Rattle.std.specs.BTreeMap.{get}
use Rattle.rv_isa.specs.Costs.{placed_code_length}
use Rattle.rv_isa.specs.PlacedCode.{placed_line_of}
use Rattle.rv_place.specs.Addresses.{label_address}
use Rattle.rv_place.specs.Emitted.{or_next}
use Rattle.rv_place.proofs.labels.Labels.of.Given as goal

-- what is found already, or else in the rest, is what is found in all
abbrev pub invariant-loop-item : goal.invariant-loop-item
invariant-loop-item l =
    let rest = map placed_line_of (drop l.item-index l.items) in
    let whole = map placed_line_of l.items in
    record {
      same : (label : ℕ) → or_next (get nat_cmp l.addresses label) (label_address l.forms label l.at rest) ≡ label_address l.forms label l.start whole;
      low : l.at + 4 * placed_code_length rest ≤ l.start + 4 * placed_code_length whole;
    }
