use Rattle.std.proofs.Common.{◌∙◌, ap, rules}
use Rattle.std.proofs.lemmas.Int.{to_z-of_z}
use mir.Syntax.{w32}
use mir.Val.{SFits}
use Rattle.kk_syntax.specs.Surface.{number}
use Rattle.kk_parser.proofs.MemoryDepths.{number_under, box_under}
use Rattle.kk_parser.proofs.Trees.{written-Number, in_box}
use Rattle.kk_parser.proofs.made.number.Goals as goal

pub returns-clause-made : goal.returns-clause-made
returns-clause-made c =
    let fits : SFits w32 c.args.value = search rules in
    in_box c.boxed.result _ _ c.boxed.ensures (written-Number _ ∙ ap number (to_z-of_z w32 c.args.value fits))

pub returns-clause-depth : goal.returns-clause-depth
returns-clause-depth c = box_under c.boxed.result _ c.boxed.ensures (number_under _)
