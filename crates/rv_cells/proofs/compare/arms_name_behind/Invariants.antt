use Rattle.std.proofs.Common.{◌≡◌, false, map, drop}
use Rattle.kk_counted.specs.TokenedForms.{tokened_code, tokened_arms}
use Rattle.rv_cells.specs.ComparisonBranch.{arms_name_behind}
use Rattle.rv_cells.proofs.compare.arms_name_behind.Given as goal

abbrev pub invariant-loop-arm : goal.invariant-loop-arm
invariant-loop-arm l =
    arms_name_behind l.variable (tokened_arms (map tokened_code (drop l.arm-index l.arms))) ≡ false
    → arms_name_behind l.variable (tokened_arms (map tokened_code l.arms)) ≡ false
