use Rattle.std.proofs.Common.{List, [], map, drop, sym, subst, arith}
use Rattle.std.proofs.lemmas.List.{append-nil, drop_all}
use Rattle.rv_isa.specs.declared.placed.PlacedFunction.{PlacedFunction}
use Rattle.rv_isa.specs.PlacedCode.{placed_lines_of}
use Rattle.rv_loops.specs.Rotation.{AreRotated}
use Rattle.rv_loops.proofs.rotating.rotated_functions.Goals as goal

pub returns : goal.returns
returns c =
    let none : AreRotated c.loop-number.number (map placed_lines_of (drop c.loop-number.number c.args.functions.now)) [] =
    subst (λ (left : List PlacedFunction). AreRotated c.loop-number.number (map placed_lines_of left) [])
    (sym (drop_all c.loop-number.number c.args.functions.now (omega (arith, c.loop-number-test.false)))) tt in
    subst (AreRotated 0 (map placed_lines_of c.args.functions.now)) (append-nil (map placed_lines_of c.loop-number.new.items))
    (c.loop-number.invariant [] none)
