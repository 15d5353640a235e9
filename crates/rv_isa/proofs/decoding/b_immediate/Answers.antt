use Rattle.std.proofs.Common.{◌∙◌, ap, arith}
use Rattle.std.proofs.lemmas.Grind.{common_steps}
use Rattle.rv_isa.specs.Extension.{extended}
use Rattle.rv_isa.proofs.RangeEquality.{same_branch_offset}
use Rattle.rv_isa.proofs.decoding.b_immediate.Goals as goal

pub returns : goal.returns
returns c = same_branch_offset _ _ (c.new.ensures ∙ c.sign_extended.ensures ∙ ap (extended 0x1000) (grind (arith, common_steps)))
