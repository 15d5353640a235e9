-- What a statement pays in the assembler form's machine: its own instructions and loads, and the stores that follow from it.
use Rattle.std.proofs.Common.{◌≡◌, ◌≢◌, ◌≤◌, ◌*◌, ℕ, List, [], ◌∷◌, Option, Some, None, slice_get, length, nat_le, refl, sym, ◌∙◌, ap, subst, arith, map, option_map, cond}
use Rattle.std.proofs.lemmas.List.{length-map}
use Rattle.rv_isa.specs.declared.asm.Action.{Action}
use Rattle.rv_isa.specs.declared.asm.Action.TheVariants.{Call, TailCall}
use Rattle.rv_isa.specs.declared.placed.Operand.{Operand}
use Rattle.rv_isa.specs.AsmCode.{Line, Lines}
use Rattle.rv_isa.specs.PlacedCode.{PlacedLine, does, moves, PlacedLines}
use Rattle.rv_isa.specs.Primitives.{Turn, Primitives, ended, stuck, or_stuck}
use Rattle.rv_isa.specs.Costs.{result_moves, move_instructions}
use Rattle.rv_isa.specs.Frames.{Frame, put, all_of}
use Rattle.rv_isa.specs.AsmMachine.{AsmTurn, asm_acts, asm_line, asm_line_weight, asm_goes, asm_entered, bound, unless_held}
use Rattle.rv_regs.specs.Conditions.{value_of, without_moves, ArePlacings}
use Rattle.rv_regs.specs.Relation.{argument_loads, first_args}
use Rattle.rv_regs.proofs.Rows.{moves_are, some_mapped, CallFits}
use Rattle.rv_regs.proofs.Steps.{callee_both}

pub same_result : (into : Option Operand) → result_moves (option_map value_of into) ≡ result_moves into
same_result None = refl
same_result (Some o) = refl

-- what the next statement loads is paid for with it
pub loads_paid : {H E W : Type 0} (m : Primitives H E W) (frames : List (Frame Line)) (shared : H) (f : Frame Line) (code : List PlacedLine) → first_args code * move_instructions ≤ asm_line_weight m frames shared f (without_moves code)
loads_paid m frames shared f [] = omega arith
loads_paid m frames shared f (does alive action args into ∷ rest) =
    omega (arith, moves_are action (length (map value_of args)), ap (argument_loads action) (length-map args value_of))
loads_paid m frames shared f (moves alive value way ∷ rest) = loads_paid m frames shared f rest

-- ---- as many parameters as arguments

-- a turn that goes on has what it goes on with
goes_with : {A S H W : Type 0} (o : Option A) (next : A → Turn S H W) → or_stuck o next ≢ stuck → (a : A) × (o ≡ Some a) × (next a ≢ stuck)
goes_with None next goes = absurd (goes refl)
goes_with (Some a) next goes = (a, refl, goes)

goes_unheld : {S H W : Type 0} (held : List ℕ) (next : Turn S H W) → unless_held held next ≢ stuck → next ≢ stuck
goes_unheld [] next goes = goes
goes_unheld (k ∷ ks) next goes = absurd (goes refl)

all_length : (os : List (Option ℕ)) (words : List ℕ) → all_of os ≡ Some words → length words ≡ length os
all_length [] words e = let none : [] ≡ words = cc in sym (ap length none)
all_length (None ∷ os) words e = cc
all_length (Some word ∷ os) words e =
    let rest = some_mapped (λ more. word ∷ more) (all_of os) words e in
    omega (arith, ap (λ (ws : List ℕ). length ws) rest.2, all_length os rest.0 rest.1)

bound_length : (params words : List ℕ) (cells : ℕ → Option ℕ) → bound params words ≡ Some cells → length params ≡ length words
bound_length [] [] cells e = refl
bound_length [] (w ∷ ws) cells e = cc
bound_length (p ∷ ps) [] cells e = cc
bound_length (p ∷ ps) (w ∷ ws) cells e = let rest = some_mapped (put p (Some w)) (bound ps ws) cells e in omega (arith, bound_length ps ws rest.0 rest.1)

module _ {H E W : Type 0} (m : Primitives H E W) (depth : ℕ) (asm : List Lines) (placed : List PlacedLines) (all : ArePlacings asm placed) where
  -- a callee that is entered with these words
  callee_fits : (n : ℕ) (words : List ℕ) (next : Lines → (ℕ → Option ℕ) → AsmTurn H W) → or_stuck (slice_get asm n) (λ callee. or_stuck (bound callee.params words) (next callee)) ≢ stuck
      → (callee : PlacedLines) → slice_get placed n ≡ Some callee → length callee.params ≤ length words
  callee_fits n words next goes callee e =
      let f = goes_with (slice_get asm n) (λ callee. or_stuck (bound callee.params words) (next callee)) goes in
      let cells = goes_with (bound f.0.params words) (next f.0) f.2 in
      let there = callee_both asm placed all n f.0 f.1 in
      let found : slice_get placed n ≡ Some there.0 = there.1 in
      let same : there.0 ≡ callee = cc in
      let params : callee.params ≡ f.0.params = subst (λ (c : PlacedLines). c.params ≡ f.0.params) same there.2.params in
      omega (arith, ap (λ (ps : List ℕ). length ps) params, bound_length f.0.params words cells.0 cells.1)

  acts_fit : (action : Action) (f : Frame Line) (fs : List (Frame Line)) (shared : H) (args : List ℕ) (into : Option ℕ) (words : List ℕ) → asm_acts m depth asm f fs shared action args into words ≢ stuck
      → CallFits placed action (length words)
  acts_fit (Call n) f fs shared args into words goes =
      callee_fits n words (λ callee cells. cond (nat_le depth (length (f ∷ fs))) (ended m.stack_full shared) (asm_goes (asm_entered n callee cells) (record f { into = into } ∷ fs) shared)) goes
  acts_fit (TailCall n) f fs shared args into words goes =
      callee_fits n words (λ callee cells. asm_goes (asm_entered n callee cells) fs shared)
      (goes_unheld f.held (or_stuck (slice_get asm n) (λ callee. or_stuck (bound callee.params words) (λ cells. asm_goes (asm_entered n callee cells) fs shared))) goes)
  acts_fit action f fs shared args into words goes = tt

  -- a statement that goes on passes as many words as its callee has parameters
  pub call_fits : (action : Action) (args : List Operand) (into : Option Operand) (rest : List Line) (f : Frame Line) (fs : List (Frame Line)) (shared : H)
      → asm_line m depth asm f fs shared (record { action = action; args = map value_of args; into = option_map value_of into } ∷ rest) ≢ stuck → CallFits placed action (length args)
  call_fits action args into rest f fs shared goes =
      let next : List ℕ → AsmTurn H W = λ words. asm_acts m depth asm (record f { code = rest }) fs shared action (map value_of args) (option_map value_of into) words in
      let words = goes_with (all_of (map f.cells (map value_of args))) next goes in
      let as_many : length words.0 ≡ length args = all_length (map f.cells (map value_of args)) words.0 words.1 ∙ length-map (map value_of args) f.cells ∙ length-map args value_of in
      subst (CallFits placed action) as_many (acts_fit action (record f { code = rest }) fs shared (map value_of args) (option_map value_of into) words.0 words.2)
