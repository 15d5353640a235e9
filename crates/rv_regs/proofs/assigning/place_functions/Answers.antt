use Rattle.std.proofs.Common.{List, [], map, drop, sym, subst, arith}
use Rattle.std.proofs.lemmas.List.{append-nil, drop_all}
use Rattle.rv_isa.specs.declared.asm.AsmFunction.{AsmFunction}
use Rattle.rv_isa.specs.AsmCode.{lines_of}
use Rattle.rv_isa.specs.PlacedCode.{placed_lines_of}
use Rattle.rv_regs.specs.Shape.{AreRight}
use Rattle.rv_regs.proofs.assigning.place_functions.Goals as goal

pub returns : goal.returns
returns c =
    let none : AreRight (map lines_of (drop c.loop-function.function-index c.args.functions.now)) [] =
    subst (λ (left : List AsmFunction). AreRight (map lines_of left) []) (sym (drop_all c.loop-function.function-index c.args.functions.now (omega (arith, c.loop-function-test.false)))) tt in
    subst (AreRight (map lines_of c.args.functions.now)) (append-nil (map placed_lines_of c.loop-function.placed.items)) (c.loop-function.invariant.right [] none)
