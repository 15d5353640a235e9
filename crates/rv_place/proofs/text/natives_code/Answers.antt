use Rattle.std.proofs.Common.{List, [], append-nil, refl, sym, subst}
use Rattle.rv_isa.specs.declared.instr.Instr.{Instr}
use Rattle.rv_isa.specs.declared.placed.Native.{Native}
use Rattle.cell_runtime.specs.Lines.{Spells}
use Rattle.rv_place.proofs.Rests.{nothing_left}
use Rattle.rv_place.proofs.text.natives_code.Goals as goal

pub returns-clause-spelled : goal.returns-clause-spelled
returns-clause-spelled c =
    let none = nothing_left c.args.natives.now c.loop-line.line-index c.loop-line-test.false in
    subst (λ (is : List Instr). Spells c.args.memory c.args.natives.now is) (append-nil c.loop-line.code.items)
    (c.loop-line.invariant.spells [] (subst (λ (lines : List Native). Spells c.args.memory lines []) (sym none) refl))
