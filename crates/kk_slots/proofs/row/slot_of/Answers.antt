use Rattle.std.proofs.Common.{map, sym, ap, ◌∙◌}
use Rattle.kk_syntax.specs.Outlines.{made, outline_list, pattern_outline}
use Rattle.kk_slots.proofs.Slots.{constructor_outline}
use Rattle.kk_slots.proofs.row.slot_of.Goals as goal

pub returns-in-Constructor : goal.returns-in-Constructor
returns-in-Constructor c =
    ap (λ xs. made c.in-Constructor.constructor (outline_list (map pattern_outline xs))) c.as_slice.ensures.value
    ∙ (sym (constructor_outline c.in-Constructor.constructor c.in-Constructor.parts) ∙ sym (ap pattern_outline c.in-Constructor.is))
