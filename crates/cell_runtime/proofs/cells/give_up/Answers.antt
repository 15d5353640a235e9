use Rattle.std.proofs.Common.{◌≡◌, refl, ap, ◌∙◌}
use Rattle.rv_isa.specs.declared.register.Register.{Register}
use Rattle.rv_isa.specs.declared.immediate.Immediate.{Immediate}
use Rattle.rv_isa.specs.declared.immediate.ShiftAmount.{ShiftAmount}
use Rattle.rv_isa.specs.declared.instr.Instr.TheVariants.{Andi, Srli}
use Rattle.rv_isa.proofs.RangeEquality.{same_register, same_shamt}
use Rattle.cell_runtime.proofs.RoutineLines.{drop_lines}
use Rattle.cell_runtime.proofs.ItemEquality.{made, then_branch, then_label, then_plain, then_back, same_immediate_format, same_addi, same_lw, same_sw}
use Rattle.cell_runtime.proofs.DropRuns.{drop_makes}
use Rattle.cell_runtime.proofs.cells.give_up.Goals as goal

same_andi : {a a' b b' : Register} {n n' : Immediate} → a.number ≡ a'.number → b.number ≡ b'.number → n.word ≡ n'.word → Andi a b n ≡ Andi a' b' n'
same_andi = same_immediate_format Andi _ _ _ _ _ _

same_srli : {a a' b b' : Register} {n n' : ShiftAmount} → a.number ≡ a'.number → b.number ≡ b'.number → n.places ≡ n'.places → Srli a b n ≡ Srli a' b' n'
same_srli {a} {a'} {b} {b'} {n} {n'} e f g =
    ap (λ x. Srli x b n) (same_register a a' e) ∙ ap (λ x. Srli a' x n) (same_register b b' f) ∙ ap (Srli a' b') (same_shamt n n' g)

pub returns : goal.returns
returns c =
    made drop_lines
    (then_plain c.addi.ensures (same_addi refl refl c.small.ensures)
    (then_branch c.beq.ensures refl refl
    (then_label c.label.ensures
    (then_plain c.andi.ensures (same_andi refl refl c.small-2.ensures)
    (then_branch c.bne.ensures refl refl
    (then_plain c.lw.ensures (same_lw refl refl c.small-3.ensures)
    (then_plain c.addi-2.ensures (same_addi refl refl c.minus_one.ensures)
    (then_branch c.beq-2.ensures refl refl
    (then_plain c.sw.ensures (same_sw refl refl c.small-4.ensures)
    (then_label c.label-2.ensures
    (then_branch c.beq-3.ensures refl refl
    (then_plain c.andi-2.ensures (same_andi refl refl c.small-5.ensures)
    (then_plain c.lw-2.ensures (same_lw refl refl c.small-6.ensures)
    (then_plain c.addi-3.ensures (same_addi refl refl c.small-7.ensures)
    (then_plain c.srli.ensures (same_srli refl refl c.new.ensures)
    (then_branch c.bne-2.ensures refl refl
    (then_branch c.beq-4.ensures refl refl
    (then_label c.label-3.ensures
    (then_plain c.sw-2.ensures (same_sw refl refl c.small-8.ensures)
    (then_plain c.addi-4.ensures (same_addi refl refl c.small-9.ensures)
    (then_branch c.beq-5.ensures refl refl
    (then_label c.label-4.ensures
    (then_branch c.bne-3.ensures refl refl
    (then_back c.ret.ensures refl refl refl
    (then_label c.label-5.ensures
    (then_plain c.lw-3.ensures (same_lw refl refl c.small-10.ensures)
    (then_plain c.sw-3.ensures (same_sw refl refl c.small-11.ensures)
    (then_plain c.addi-5.ensures (same_addi refl refl c.small-12.ensures)
    (then_plain c.lw-4.ensures (same_lw refl refl c.small-13.ensures)
    (then_plain c.srli-2.ensures (same_srli refl refl c.new-2.ensures)
    (then_plain c.addi-6.ensures (same_addi refl refl c.small-14.ensures)
    (then_plain c.addi-7.ensures (same_addi refl refl c.small-15.ensures)
    (then_branch c.beq-6.ensures refl refl refl)))))))))))))))))))))))))))))))))
    drop_makes
