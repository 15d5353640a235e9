use Rattle.std.proofs.Common.{◌∙◌, ap, arith}
use Rattle.std.proofs.lemmas.Grind.{common_steps}
use Rattle.rv_isa.specs.Extension.{extended}
use Rattle.rv_isa.proofs.RangeEquality.{same_immediate}
use Rattle.rv_isa.proofs.decoding.s_immediate.Goals as goal

pub returns : goal.returns
returns c = same_immediate _ _ (c.new.ensures ∙ c.sign_extended.ensures ∙ ap (extended 0x800) (grind (arith, common_steps)))
