-- Items of equal numbers are equal.
use Rattle.std.proofs.Common.{◌≡◌, ℕ, List, ◌∷◌, sym, ap, ◌∙◌, subst}
use Rattle.rv_isa.specs.declared.register.Register.{Register}
use Rattle.rv_isa.specs.declared.immediate.Immediate.{Immediate}
use Rattle.rv_isa.specs.declared.immediate.BranchOffset.{BranchOffset}
use Rattle.rv_isa.specs.declared.immediate.JumpOffset.{JumpOffset}
use Rattle.rv_isa.specs.declared.instr.Instr.{Instr}
use Rattle.rv_isa.specs.declared.instr.Instr.TheVariants.{Jal, Jalr, Beq, Bne, Lw, Lbu, Sb, Sw, Addi, Add, Sub, Divu, Remu}
use Rattle.rv_isa.proofs.RangeEquality.{same_register, same_immediate, same_branch_offset, same_jump_offset}
use Rattle.rv_isa.specs.Standing.{Code}
use Rattle.rv_isa.specs.declared.placed.Native.{Native}
use Rattle.rv_isa.specs.declared.placed.Native.TheVariants.{Instruction, Address, Label, Branch}
use Rattle.rv_isa.specs.declared.asm.Condition.{Condition}
use Rattle.rv_isa.specs.declared.placed.Symbol.{Symbol}
use Rattle.rv_isa.specs.declared.placed.Section.TheVariants.{Data}
use Rattle.cell_runtime.specs.Lines.{Makes, IsSet, IsWayBack}
use Rattle.cell_runtime.specs.Links.{linked}

-- what the same lines make once they are linked
pub made : {K : ℕ → Code → ℕ → Type 0} {words reach : ℕ} {items : List Native} (others : List Native) → items ≡ others → Makes (linked others) words reach K → Makes (linked items) words reach K
made {K} {words} {reach} others e makes = subst (λ items. Makes (linked items) words reach K) (sym e) makes

-- a list, one item after the other
pub then_line : {i j : Instr} {is js : List Native} → i ≡ j → is ≡ js → Instruction i ∷ is ≡ Instruction j ∷ js
then_line {j = j} {is = is} e rest = ap (λ i. Instruction i ∷ is) e ∙ ap (λ is. Instruction j ∷ is) rest

pub then_address : {rd rd' : Register} {n n' : ℕ} {is js : List Native} → rd.number ≡ rd'.number → n ≡ n' → is ≡ js → Address rd Data n ∷ is ≡ Address rd' Data n' ∷ js
then_address {rd} {rd'} {n} {n'} {is} {js} e same rest =
    ap (λ r. Address r Data n ∷ is) (same_register rd rd' e) ∙ ap (λ m. Address rd' Data m ∷ is) same ∙ ap (λ is. Address rd' Data n' ∷ is) rest

-- an instruction of a format: registers and an immediate, a distance or no more
module _ (make : Register → Register → Immediate → Instr) where
  pub same_immediate_format : (a a' b b' : Register) (imm imm' : Immediate) → a.number ≡ a'.number → b.number ≡ b'.number → imm.word ≡ imm'.word → make a b imm ≡ make a' b' imm'
  same_immediate_format a a' b b' imm imm' e f g =
      ap (λ x. make x b imm) (same_register a a' e) ∙ ap (λ x. make a' x imm) (same_register b b' f) ∙ ap (make a' b') (same_immediate imm imm' g)

module _ (make : Register → Register → BranchOffset → Instr) where
  pub same_branch_format : (a a' b b' : Register) (o o' : BranchOffset) → a.number ≡ a'.number → b.number ≡ b'.number → o.word ≡ o'.word → make a b o ≡ make a' b' o'
  same_branch_format a a' b b' o o' e f g =
      ap (λ x. make x b o) (same_register a a' e) ∙ ap (λ x. make a' x o) (same_register b b' f) ∙ ap (make a' b') (same_branch_offset o o' g)

module _ (make : Register → Register → Register → Instr) where
  pub same_register_format : (a a' b b' c c' : Register) → a.number ≡ a'.number → b.number ≡ b'.number → c.number ≡ c'.number → make a b c ≡ make a' b' c'
  same_register_format a a' b b' c c' e f g =
      ap (λ x. make x b c) (same_register a a' e) ∙ ap (λ x. make a' x c) (same_register b b' f) ∙ ap (make a' b') (same_register c c' g)

pub same_addi : {a a' b b' : Register} {n n' : Immediate} → a.number ≡ a'.number → b.number ≡ b'.number → n.word ≡ n'.word → Addi a b n ≡ Addi a' b' n'
same_addi = same_immediate_format Addi _ _ _ _ _ _

pub same_jalr : {a a' b b' : Register} {n n' : Immediate} → a.number ≡ a'.number → b.number ≡ b'.number → n.word ≡ n'.word → Jalr a b n ≡ Jalr a' b' n'
same_jalr = same_immediate_format Jalr _ _ _ _ _ _

pub same_jal : {a a' : Register} {o o' : JumpOffset} → a.number ≡ a'.number → o.word ≡ o'.word → Jal a o ≡ Jal a' o'
same_jal {a} {a'} {o} {o'} e f = ap (λ x. Jal x o) (same_register a a' e) ∙ ap (Jal a') (same_jump_offset o o' f)

pub same_lw : {a a' b b' : Register} {n n' : Immediate} → a.number ≡ a'.number → b.number ≡ b'.number → n.word ≡ n'.word → Lw a b n ≡ Lw a' b' n'
same_lw = same_immediate_format Lw _ _ _ _ _ _

pub same_lbu : {a a' b b' : Register} {n n' : Immediate} → a.number ≡ a'.number → b.number ≡ b'.number → n.word ≡ n'.word → Lbu a b n ≡ Lbu a' b' n'
same_lbu = same_immediate_format Lbu _ _ _ _ _ _

pub same_sb : {a a' b b' : Register} {n n' : Immediate} → a.number ≡ a'.number → b.number ≡ b'.number → n.word ≡ n'.word → Sb a b n ≡ Sb a' b' n'
same_sb = same_immediate_format Sb _ _ _ _ _ _

pub same_sw : {a a' b b' : Register} {n n' : Immediate} → a.number ≡ a'.number → b.number ≡ b'.number → n.word ≡ n'.word → Sw a b n ≡ Sw a' b' n'
same_sw = same_immediate_format Sw _ _ _ _ _ _

pub same_beq : {a a' b b' : Register} {o o' : BranchOffset} → a.number ≡ a'.number → b.number ≡ b'.number → o.word ≡ o'.word → Beq a b o ≡ Beq a' b' o'
same_beq = same_branch_format Beq _ _ _ _ _ _

pub same_bne : {a a' b b' : Register} {o o' : BranchOffset} → a.number ≡ a'.number → b.number ≡ b'.number → o.word ≡ o'.word → Bne a b o ≡ Bne a' b' o'
same_bne = same_branch_format Bne _ _ _ _ _ _

pub same_add : {a a' b b' c c' : Register} → a.number ≡ a'.number → b.number ≡ b'.number → c.number ≡ c'.number → Add a b c ≡ Add a' b' c'
same_add = same_register_format Add _ _ _ _ _ _

pub same_sub : {a a' b b' c c' : Register} → a.number ≡ a'.number → b.number ≡ b'.number → c.number ≡ c'.number → Sub a b c ≡ Sub a' b' c'
same_sub = same_register_format Sub _ _ _ _ _ _

pub same_divu : {a a' b b' c c' : Register} → a.number ≡ a'.number → b.number ≡ b'.number → c.number ≡ c'.number → Divu a b c ≡ Divu a' b' c'
same_divu = same_register_format Divu _ _ _ _ _ _

pub same_remu : {a a' b b' c c' : Register} → a.number ≡ a'.number → b.number ≡ b'.number → c.number ≡ c'.number → Remu a b c ≡ Remu a' b' c'
same_remu = same_register_format Remu _ _ _ _ _ _

-- items as functions give them
pub then_plain : {a : Native} {i j : Instr} {is js : List Native} → a ≡ Instruction i → i ≡ j → is ≡ js → a ∷ is ≡ Instruction j ∷ js
then_plain {is = is} given e rest = ap (λ item. item ∷ is) given ∙ then_line e rest

pub then_address_of : {a : Native} {rd rd' : Register} {n n' : ℕ} {is js : List Native} → a ≡ Address rd Data n → rd.number ≡ rd'.number → n ≡ n' → is ≡ js → a ∷ is ≡ Address rd' Data n' ∷ js
then_address_of {is = is} given e same rest = ap (λ item. item ∷ is) given ∙ then_address e same rest

pub then_set : {a : Native} {rd rd' zero : Register} {imm : Immediate} {n : ℕ} {is js : List Native} → IsSet rd n a → rd.number ≡ rd'.number → zero.number ≡ 0 → imm.word ≡ n → is ≡ js → a ∷ is ≡ Instruction (Addi rd' zero imm) ∷ js
then_set {is = is} given e zero same rest =
    ap (λ item. item ∷ is) given.line_is
    ∙ then_line (same_immediate_format Addi _ _ _ _ _ _ e (given.zero_is ∙ sym zero) (given.immediate_is ∙ sym same)) rest

pub then_branch : {a : Native} {condition : Condition} {left left' right right' : Register} {target : Symbol} {is js : List Native} → a ≡ Branch condition left right target → left.number ≡ left'.number → right.number ≡ right'.number → is ≡ js
    → a ∷ is ≡ Branch condition left' right' target ∷ js
then_branch {condition = condition} {left = left} {left' = left'} {right = right} {right' = right'} {target = target} {is = is} given e f rest =
    ap (λ item. item ∷ is) given ∙ ap (λ r. Branch condition r right target ∷ is) (same_register left left' e)
    ∙ ap (λ r. Branch condition left' r target ∷ is) (same_register right right' f) ∙ ap (λ is. Branch condition left' right' target ∷ is) rest

pub then_label : {a : Native} {symbol : Symbol} {is js : List Native} → a ≡ Label symbol → is ≡ js → a ∷ is ≡ Label symbol ∷ js
then_label {symbol = symbol} {is = is} given rest = ap (λ item. item ∷ is) given ∙ ap (λ is. Label symbol ∷ is) rest

pub then_back : {a : Native} {zero way : Register} {imm : Immediate} {is js : List Native} → IsWayBack a → zero.number ≡ 0 → way.number ≡ 1 → imm.word ≡ 0 → is ≡ js → a ∷ is ≡ Instruction (Jalr zero way imm) ∷ js
then_back {is = is} given zero way same rest =
    ap (λ item. item ∷ is) given.line_is
    ∙ then_line (same_immediate_format Jalr _ _ _ _ _ _ (given.zero_is ∙ sym zero) (given.way_is ∙ sym way) (given.immediate_is ∙ sym same)) rest
