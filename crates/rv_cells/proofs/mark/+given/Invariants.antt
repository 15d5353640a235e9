use Rattle.std.proofs.Common.{◌≡◌, map, drop}
use Rattle.kk_counted.specs.BareForms.{bare_arms}
use Rattle.kk_counted.specs.Lowerable.{given_by_arms}
use Rattle.kk_counted.specs.TokenedForms.{tokened_code, tokened_arms}
use Rattle.rv_cells.proofs.mark.+given.Given as goal

abbrev pub invariant-given_in-loop-arm : goal.invariant-given_in-loop-arm
invariant-given_in-loop-arm l =
    given_by_arms (bare_arms (tokened_arms (map tokened_code (drop l.arm-index l.arms))))
    ≡ given_by_arms (bare_arms (tokened_arms (map tokened_code l.arms)))
