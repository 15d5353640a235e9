use Rattle.std.proofs.Common.{◌∙◌, ap, arith}
use Rattle.std.proofs.lemmas.Grind.{common_steps}
use Rattle.rv_isa.specs.Extension.{extended}
use Rattle.rv_isa.proofs.RangeEquality.{same_jump_offset}
use Rattle.rv_isa.proofs.decoding.j_immediate.Goals as goal

pub returns : goal.returns
returns c = same_jump_offset _ _ (c.new.ensures ∙ c.sign_extended.ensures ∙ ap (extended 0x10_0000) (grind (arith, common_steps)))
