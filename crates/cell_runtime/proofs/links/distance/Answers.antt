use Rattle.std.proofs.Common.{arith}
use Rattle.rv_isa.proofs.RangeEquality.{same_branch_offset}
use Rattle.cell_runtime.specs.Links.{distance}
use Rattle.cell_runtime.proofs.links.distance.Goals as goal

pub returns : goal.returns
returns c = same_branch_offset c.new.result (distance c.args.from c.args.to) (let word = c.new.ensures in omega arith)
