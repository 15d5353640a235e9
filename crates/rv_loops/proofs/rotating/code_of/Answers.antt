use Rattle.std.proofs.Common.{◌≡◌, inr, Option, IfSome, List, length, map, subst, arith, ap, ◌∙◌}
use Rattle.std.proofs.lemmas.Result.{IfOk-weaker}
use Rattle.rv_isa.specs.PlacedCode.{placed_line_of}
use Rattle.rv_loops.specs.declared.head.Head.{Head}
use Rattle.rv_isa.specs.declared.placed.Item.{Item}
use Rattle.rv_loops.specs.Rotation.{rotated_code}
use Rattle.rv_loops.specs.Heads.{loop_of, Begins}
use Rattle.rv_loops.proofs.HeadRotation.{rotates}
use Rattle.rv_loops.proofs.rotating.code_of.Goals as goal

pub returns-in-Some : goal.returns-in-Some
returns-in-Some c =
    let begins : Begins c.in-Some.head c.args.number (map placed_line_of c.args.code.now)
    = subst (λ (o : Option Head). IfSome o (λ (head : Head). Begins head c.args.number
    (map placed_line_of c.args.code.now))) c.in-Some.is c.in_ok-head.ensures in
    let long : c.len.result ≡ length c.in-Some.head.before.items = omega (arith, c.len.ensures, c.in-Some.head.before.ok.0) in
    IfOk-weaker c.rotated_code.result _ _
    (λ new new_is. inr (rotates c.in-Some.head c.args.number c.len.result c.args.code.now (map placed_line_of new.items) begins
    long (c.has_label.ensures c.if-has_label.false)
    (new_is ∙ ap (λ (lines : List Item). rotated_code (loop_of c.in-Some.head
    (map placed_line_of lines))) c.without_first-behind.ensures))) c.rotated_code.ensures
