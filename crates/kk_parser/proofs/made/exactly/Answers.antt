use Rattle.std.proofs.Common.{◌∙◌, ap, rules}
use Rattle.std.proofs.lemmas.Int.{to_z-of_z}
use mir.Syntax.{w32}
use mir.Val.{SFits}
use Rattle.kk_syntax.specs.Surface.{exactly}
use Rattle.kk_parser.proofs.Trees.{written-exactly, pattern_in_box}
use Rattle.kk_parser.proofs.made.exactly.Goals as goal

pub returns : goal.returns
returns c =
    let fits : SFits w32 c.args.value = search rules in
    pattern_in_box c.boxed.result _ _ c.boxed.ensures (written-exactly _ ∙ ap exactly (to_z-of_z w32 c.args.value fits))
