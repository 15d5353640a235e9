use Rattle.std.proofs.Common.{◌≡◌, map, take}
use Rattle.rv_cells.proofs.mark.marks_in.Given as goal

abbrev pub invariant-loop-parameter : goal.invariant-loop-parameter
invariant-loop-parameter l = l.marks.items ≡ map (λ parameter. parameter.has_cells) (take l.parameter-index l.parameters)
