use Rattle.std.proofs.Common.{◌≡◌, map, take}
use Rattle.kk_counted.specs.declared.shape.Parameter.{Parameter}
use Rattle.kk_insert.proofs.shaping.instance.Given as goal

abbrev pub invariant-loop-at : goal.invariant-loop-at
invariant-loop-at l =
    (map (λ (p : Parameter). p.ownership) l.parameters.items ≡ take l.at l.passed)
    × (map (λ (p : Parameter). p.has_cells) l.parameters.items ≡ take l.at l.function.parameters_have_cells.items)
