use Rattle.std.proofs.Common.{◌∙◌, ap, sym}
use Rattle.std.specs.Int.{w32}
use Rattle.std.proofs.lemmas.Int.{wrapping_add_is, wrapping_sub_is}
use Rattle.kk_source.specs.State.{integer}
use Rattle.kk_meaning.proofs.arithmetic.binary.Goals as goal
use Rattle.kk_source.specs.FormEffects.{number_result}

pub returns-in-Add : goal.returns-in-Add
returns-in-Add c =
    ap integer (wrapping_add_is w32 c.args.x c.args.y c.ranges.x c.ranges.y)
    ∙ ap (λ op. number_result op c.args.x c.args.y) (sym c.in-Add.is)

pub returns-in-Subtract : goal.returns-in-Subtract
returns-in-Subtract c =
    ap integer (wrapping_sub_is w32 c.args.x c.args.y c.ranges.x c.ranges.y)
    ∙ ap (λ op. number_result op c.args.x c.args.y) (sym c.in-Subtract.is)
