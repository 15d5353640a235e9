use Rattle.std.proofs.Common.{[], sym, subst, arith}
use Rattle.kk_lexer.specs.Strings.{IsInside, empty}
use Rattle.kk_lexer.proofs.FirstBytes.{closed_string, open_string_, bad_string, answered}
use Rattle.kk_lexer.proofs.StringLemmas.{part_step}
use Rattle.kk_lexer.proofs.strings.string.Goals as goal

pub loop-byte-init : goal.loop-byte-init
loop-byte-init c = record { in_range = omega arith; inside = subst (IsInside []) (sym c.new-bytes.ensures.items) empty }

pub loop-byte-preserved : goal.loop-byte-preserved
loop-byte-preserved c =
    let step = part_step _ _ _ _ _ c.loop-byte.invariant.in_range c.loop-byte.invariant.inside c.in-Byte.ensures in
    record { in_range = step.0; inside = subst (IsInside _) (sym c.in-Ok.ensures.items) step.2 }

pub loop-byte-smaller : goal.loop-byte-smaller
loop-byte-smaller c =
    let step = part_step _ _ _ _ _ c.loop-byte.invariant.in_range c.loop-byte.invariant.inside c.in-Byte.ensures in
    omega arith

pub returns-in-Quote : goal.returns-in-Quote
returns-in-Quote c = λ signed.
    let i = c.loop-byte.invariant in
    answered signed _ _ _ _ _ c.closed.ensures (closed_string signed c.args.at _ c.requires.text c.requires.quote _ _ i.in_range i.inside c.in-Quote.ensures)

pub returns-in-BadEscape : goal.returns-in-BadEscape
returns-in-BadEscape c = λ signed.
    let i = c.loop-byte.invariant in
    (_, bad_string signed c.args.at _ c.requires.text c.requires.quote _ _ i.in_range i.inside c.in-BadEscape.ensures)

pub returns-in-End : goal.returns-in-End
returns-in-End c = λ signed.
    let i = c.loop-byte.invariant in
    (_, open_string_ signed c.args.at _ c.requires.text c.requires.quote _ _ i.in_range i.inside c.in-End.ensures)
