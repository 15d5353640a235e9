-- Additions to the stack pointer as instructions, one or two.
use Rattle.std.proofs.Common.{◌≡◌, ◌≤◌, ◌⊎◌, inl, inr, ℕ, ◌-◌, ◌^◌, List, Some, Bool, true, false, cond, nat_lt, refl, sym, ap, ◌∙◌, subst, arith}
use Rattle.rv_isa.specs.declared.register.Register.{Register}
use Rattle.rv_isa.specs.declared.immediate.Immediate.{Immediate}
use Rattle.rv_isa.specs.declared.instr.Instr.{Instr}
use Rattle.rv_isa.specs.declared.instr.Instr.TheVariants.{Addi}
use Rattle.rv_isa.specs.Sizes.{reach_down, narrow_frame}
use Rattle.cell_runtime.specs.Layouts.{below_pointer}
use Rattle.cell_runtime.proofs.ItemEquality.{same_addi}
use Rattle.rv_place.specs.declared.reach.Reach.{Reach}
use Rattle.rv_place.specs.declared.reach.Reach.TheVariants.{Near, Far, Wide}
use Rattle.rv_place.specs.Registers.{sp}
use Rattle.rv_place.specs.Addresses.{words_of_shift, words_to_frame, frame_bias, reach_of}
use Rattle.rv_place.specs.Lines.{ShiftsStack, FindsFrame}
use Rattle.rv_place.specs.Emitted.{Grew}
use Rattle.rv_place.proofs.Emissions.{grew_nothing, grew_so}

-- instructions that add so much to the stack pointer were added
abbrev pub ShiftGrew : Reach → ℕ → List Instr → List Instr → Type 0
ShiftGrew reach size old new = Grew (words_of_shift reach) (ShiftsStack reach size) old new

module _ {reach : Reach} {size : ℕ} {old new : List Instr} where
  pub shift_narrow : (reach ≡ Near) ⊎ (reach ≡ Far) → (whole : Immediate) → whole.word ≡ size
      → Grew 1 (λ code at. code at ≡ Some (Addi sp sp whole)) old new → ShiftGrew reach size old new
  shift_narrow (inl is) whole size_is grew =
      subst (λ (r : Reach). ShiftGrew r size old new) (sym is) (grew_so refl (λ code at here. (whole, size_is, here)) grew)
  shift_narrow (inr is) whole size_is grew =
      subst (λ (r : Reach). ShiftGrew r size old new) (sym is) (grew_so refl (λ code at here. (whole, size_is, here)) grew)

-- the address of a narrow frame is there
pub found_narrow : {reach : Reach} {is : List Instr} (free : Register) → (reach ≡ Near) ⊎ (reach ≡ Far) → Grew (words_to_frame reach) (FindsFrame reach free) is is
found_narrow {reach} {is} free (inl near) =
    subst (λ (r : Reach). Grew (words_to_frame r) (FindsFrame r free) is is) (sym near) (grew_nothing (FindsFrame Near free) is (λ code at. tt))
found_narrow {reach} {is} free (inr far) =
    subst (λ (r : Reach). Grew (words_to_frame r) (FindsFrame r free) is is) (sym far) (grew_nothing (FindsFrame Far free) is (λ code at. tt))

-- and that of a wide one comes to a register
pub found_wide : {reach : Reach} {old new : List Instr} {free rs : Register} → reach ≡ Wide → (down : Immediate) → down.word ≡ 2 ^ 32 - reach_down → rs.number ≡ 2
    → Grew 1 (λ code at. code at ≡ Some (Addi free rs down)) old new → Grew (words_to_frame reach) (FindsFrame reach free) old new
found_wide {reach} {old} {new} {free} is down down_is rs_is grew =
    subst (λ (r : Reach). Grew (words_to_frame r) (FindsFrame r free) old new) (sym is)
    (grew_so refl (λ code at here. (down, down_is, here ∙ ap Some (same_addi refl rs_is refl))) grew)

pub to_frame_most : (reach : Reach) → words_to_frame reach ≤ 1
to_frame_most Near = omega arith
to_frame_most Far = omega arith
to_frame_most Wide = omega arith

-- ---- where the stack pointer stands in a frame

-- the stack pointer stands as far above a frame's first word as the runtime's data leave room for
pub bias_below : (frame limit words : ℕ) → frame_bias (cond (nat_lt narrow_frame frame) Wide (reach_of limit words)) ≡ below_pointer frame
bias_below frame limit words = by (nat_lt narrow_frame frame) (nat_lt words limit)
  where
    by : (wide near : Bool) → frame_bias (cond wide Wide (cond near Near Far)) ≡ cond wide reach_down 0
    by true near = refl
    by false true = refl
    by false false = refl
