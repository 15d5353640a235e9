-- Jumps and branches as instructions, near and far.
use Rattle.std.proofs.Common.{◌≡◌, ◌⊎◌, inl, inr, ℕ, ◌*◌, List, refl, sym, subst}
use Rattle.rv_isa.specs.declared.register.Register.{Register}
use Rattle.rv_isa.specs.declared.instr.Instr.{Instr}
use Rattle.rv_isa.specs.declared.asm.Condition.{Condition}
use Rattle.rv_place.specs.declared.reach.Reach.{Reach}
use Rattle.rv_place.specs.declared.reach.Reach.TheVariants.{Near, Far, Wide}
use Rattle.rv_place.specs.Addresses.{branch_words}
use Rattle.rv_place.specs.Instructions.{words_of_jump, JumpsBy, words_of_branch, BranchesOn}
use Rattle.rv_place.specs.Emitted.{Grew, AreNear, JumpReaches, BranchReaches}
use Rattle.rv_place.proofs.Emissions.{grew_so}

-- a jump and a branch of any reach
abbrev pub JumpGrew : ℕ → Reach → Register → ℕ → List Instr → List Instr → Type 0
JumpGrew from reach back target old new =
    Grew (words_of_jump reach) (λ code at. at ≡ from → JumpReaches reach at target → JumpsBy reach code at back target) old new

abbrev pub BranchGrew : ℕ → Reach → Reach → Condition → Register → Register → ℕ → List Instr → List Instr → Type 0
BranchGrew from jumps reach condition a b target old new =
    Grew (words_of_branch jumps reach)
    (λ code at. at ≡ from → BranchReaches jumps reach at target → BranchesOn jumps reach code at condition a b target) old new

module _ (from : ℕ) (back : Register) (target : ℕ) {reach : Reach} {old new : List Instr} where
  pub jump_near : reach ≡ Near → JumpGrew from Near back target old new → JumpGrew from reach back target old new
  jump_near is grew = subst (λ (r : Reach). JumpGrew from r back target old new) (sym is) grew

  pub jump_far : (reach ≡ Far) ⊎ (reach ≡ Wide) → Grew 2 (λ code at. at ≡ from → JumpsBy Far code at back target) old new
      → JumpGrew from reach back target old new
  jump_far (inl is) grew =
      subst (λ (r : Reach). JumpGrew from r back target old new) (sym is)
      (grew_so refl (λ code at here is_at reaches. here is_at) grew)
  jump_far (inr is) grew =
      subst (λ (r : Reach). JumpGrew from r back target old new) (sym is)
      (grew_so refl (λ code at here is_at reaches. here is_at) grew)

module _ (from : ℕ) (jumps : Reach) (condition : Condition) (a b : Register) (target : ℕ)
    {reach : Reach} {old new : List Instr} where
  pub branch_near : reach ≡ Near
      → Grew 1 (λ code at. at ≡ from → AreNear (4 * branch_words) at target → BranchesOn Near Near code at condition a b target)
      old new
      → BranchGrew from jumps reach condition a b target old new
  branch_near is grew = subst (λ (r : Reach). BranchGrew from jumps r condition a b target old new) (sym is) grew

  pub branch_far : (reach ≡ Far) ⊎ (reach ≡ Wide) → BranchGrew from jumps Far condition a b target old new
      → BranchGrew from jumps reach condition a b target old new
  branch_far (inl is) grew = subst (λ (r : Reach). BranchGrew from jumps r condition a b target old new) (sym is) grew
  branch_far (inr is) grew = subst (λ (r : Reach). BranchGrew from jumps r condition a b target old new) (sym is) grew
