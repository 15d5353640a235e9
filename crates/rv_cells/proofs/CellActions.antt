-- What one line does that touches cells.
use Rattle.std.proofs.Common.{◌≡◌, ◌≢◌, ◌≤◌, ℕ, ◌+◌, ◌*◌, List, [], ◌∷◌, map, Some, None, option_map, true, false, not, cond, refl, sym, ◌∙◌, ap, subst, arith, ne_eqb, bit_and, length}
use Rattle.rv_isa.specs.declared.asm.Action.TheVariants.{Compute, Label, Jump, Branch, Routine as Calls}
use Rattle.rv_isa.specs.declared.asm.Condition.{Condition}
use Rattle.cell_runtime.specs.Operations.{compares}
use Rattle.rv_isa.specs.declared.asm.ImmediateOperation.TheVariants.{Addi, Andi}
use Rattle.rv_isa.specs.Arithmetic.{sum_word}
use Rattle.rv_isa.specs.declared.asm.Operation.{Operation}
use Rattle.rv_isa.specs.declared.asm.Operation.TheVariants as Op
use Rattle.rv_isa.specs.declared.immediate.Immediate.{Immediate}
use Rattle.rv_isa.specs.declared.routine.Routine.TheVariants.{Take, Drop}
use Rattle.rv_isa.specs.Processor.{Ending, exited}
use Rattle.rv_isa.specs.AsmCode.{Line}
use Rattle.rv_isa.specs.AsmMachine.{is_label, asm_goes, asm_jumps, asm_served}
use Rattle.rv_isa.specs.Frames.{Frame, put, put_into, all_of, top, found}
use Rattle.rv_isa.specs.Primitives.{ended, or_stuck, by_token}
use Rattle.cell_heap.specs.Turns.{Work}
use Rattle.cell_heap.specs.Blocks.{Cells, load, store, dup, release, request, drop_cells, merged_cells}
use Rattle.cell_runtime.specs.declared.process.Ending.TheVariants as OfEnding
use Rattle.cell_runtime.specs.Stops.{number_of}
use Rattle.rv_isa.specs.Costs.{operation_instructions}
use Rattle.cell_runtime.specs.World.{World, computed_in, with_cells, takes_cell, gives_up, drop_count}
use Rattle.cell_runtime.specs.Drops.{most_drop_cost}
use Rattle.rv_lower.proofs.FormEffects.{reads_one, reads_two}
use Rattle.rv_lower.specs.Lines.{computes, sets, copies_to, acts}
use Rattle.rv_cells.specs.CellLines.{Loads, Stores}
use Rattle.rv_cells.proofs.Runs.{Target, left_at, turn_of, Runs, runs_within, line_runs, silent}
use Rattle.rv_cells.proofs.LineCosts.{most_moves}

-- a frame whose value x has a word
abbrev pub put_in : ℕ → ℕ → Frame Line → Frame Line
put_in x word f = record f { cells = put x (Some word) f.cells }

module _ (target : Target) (rest : List Line) (f : Frame Line) (fs : List (Frame Line)) (world : World) where
  -- an operation that writes a value, and one that writes none
  sets_value : (cost : ℕ) (operation : Operation) (args : List ℕ) (into : ℕ) (words : List ℕ) (word : ℕ)
      → all_of (map f.cells args) ≡ Some words → computed_in target.constants operation words world ≡ Some (word, world)
      → 2 * length args + 1 + operation_instructions operation ≤ most_moves + cost
      → Runs target (most_moves + cost) 1 (turn_of (computes operation args into ∷ rest) f fs world)
      (turn_of rest (put_in into word f) fs world)
  sets_value cost operation args into words word words_are is light =
      line_runs target (most_moves + cost) (computes operation args into) rest f fs world words
      (turn_of rest (put_in into word f) fs world)
      words_are
      (ap (λ o. or_stuck o (λ (r : ℕ × World). asm_goes (record (left_at rest f) { cells = put_into (Some into) r.0 f.cells }) fs
      r.1)) is)
      (λ held. omega (arith, light)) (silent target world)

  changes_cells : (cost : ℕ) (operation : Operation) (args : List ℕ) (words : List ℕ) (next : Cells)
      → all_of (map f.cells args) ≡ Some words → computed_in target.constants operation words world
      ≡ Some (0, with_cells world next)
      → 2 * length args + operation_instructions operation ≤ most_moves + cost
      → Runs target (most_moves + cost) 1 (turn_of (acts (Compute operation) args ∷ rest) f fs world)
      (turn_of rest f fs (with_cells world next))
  changes_cells cost operation args words next words_are is light =
      line_runs target (most_moves + cost) (acts (Compute operation) args) rest f fs world words
      (turn_of rest f fs (with_cells world next))
      words_are
      (ap (λ o. or_stuck o (λ (r : ℕ × World). asm_goes (record (left_at rest f) { cells = put_into None r.0 f.cells }) fs r.1)) is)
      (λ held. omega (arith, light)) (silent target world)

  -- a constant, and a copy
  pub sets_runs : (word into : ℕ) → Runs target (most_moves + 2) 1 (turn_of (sets word into ∷ rest) f fs world)
      (turn_of rest (put_in into word f) fs world)
  sets_runs word into = sets_value 2 (Op.Li word) [] into [] word refl refl (omega arith)

  pub copy_runs : (from into word : ℕ) → f.cells from ≡ Some word → Runs target (most_moves + 2) 1
      (turn_of (copies_to from into ∷ rest) f fs world) (turn_of rest (put_in into word f) fs world)
  copy_runs from into word is = sets_value 2 Op.Mv (from ∷ []) into (word ∷ []) word (reads_one f.cells from word is) refl
      (omega arith)

  -- a load, and a store
  pub load_runs : (cell i into at word : ℕ) (line : Line) → Loads cell i into line → f.cells cell ≡ Some at
      → load at (4 * i) world.cells ≡ Some word
      → Runs target (most_moves + 2) 1 (turn_of (line ∷ rest) f fs world) (turn_of rest (put_in into word f) fs world)
  load_runs cell i into at word line loads is loaded =
      subst (λ l. Runs target (most_moves + 2) 1 (turn_of (l ∷ rest) f fs world) (turn_of rest (put_in into word f) fs world))
      (sym loads.2)
      (sets_value 2 (Op.Lw loads.0) (cell ∷ []) into (at ∷ []) word (reads_one f.cells cell at is)
      (ap (option_map (λ w. (w, world))) (ap (λ o. load at o world.cells) loads.1 ∙ loaded)) (omega arith))

  pub store_runs : (cell i from at word : ℕ) (line : Line) (next : Cells) → Stores cell i from line → f.cells cell ≡ Some at
      → f.cells from ≡ Some word → store at (4 * i) word world.cells ≡ Some next
      → Runs target (most_moves + 3) 1 (turn_of (line ∷ rest) f fs world) (turn_of rest f fs (with_cells world next))
  store_runs cell i from at word line next stores is also stored =
      subst (λ l. Runs target (most_moves + 3) 1 (turn_of (l ∷ rest) f fs world) (turn_of rest f fs (with_cells world next)))
      (sym stores.2)
      (changes_cells 3 (Op.Sw stores.0) (cell ∷ from ∷ []) (at ∷ word ∷ []) next (reads_two f.cells cell from at word is also)
      (ap (option_map (λ c. (0, with_cells world c))) (ap (λ o. store at o word world.cells) stores.1 ∙ stored))
      (omega arith))

  -- a reference more, and a cell that is given back
  pub dup_runs : (x word : ℕ) (next : Cells) → f.cells x ≡ Some word → dup word world.cells ≡ Some next
      → Runs target (most_moves + 5) 1 (turn_of (acts (Compute Op.Dup) (x ∷ []) ∷ rest) f fs world)
      (turn_of rest f fs (with_cells world next))
  dup_runs x word next is dupped =
      changes_cells 5 Op.Dup (x ∷ []) (word ∷ []) next (reads_one f.cells x word is)
      (ap (option_map (λ c. (0, with_cells world c))) dupped)
      (omega arith)

  pub free_runs : (x word : ℕ) (next : Cells) → f.cells x ≡ Some word → word ≢ 0 → release word world.cells ≡ Some next
      → Runs target (most_moves + 5) 1 (turn_of (acts (Compute Op.Free) (x ∷ []) ∷ rest) f fs world)
      (turn_of rest f fs (with_cells world next))
  free_runs x word next is some freed =
      let act : by_token release word world.cells ≡ Some next = ap (λ b. cond b (Some world.cells) (release word world.cells))
      (ne_eqb word 0 some) ∙ freed in
      changes_cells 5 Op.Free (x ∷ []) (word ∷ []) next (reads_one f.cells x word is)
      (ap (option_map (λ c. (0, with_cells world c))) act)
      (omega arith)

  -- a null token changes nothing
  pub free_null_runs : (x : ℕ) → f.cells x ≡ Some 0
      → Runs target (most_moves + 5) 1 (turn_of (acts (Compute Op.Free) (x ∷ []) ∷ rest) f fs world) (turn_of rest f fs world)
  free_null_runs x is = changes_cells 5 Op.Free (x ∷ []) (0 ∷ []) world.cells (reads_one f.cells x 0 is) refl (omega arith)

  -- a reference is given up by the runtime
  pub drop_runs : (x word : ℕ) (work : Work) → f.cells x ≡ Some word → drop_cells target.pool word world.cells ≡ Some work
      → Runs target (most_drop_cost work.gave work.freed + (most_moves + 2)) 1
      (turn_of (acts (Calls Drop) (x ∷ []) ∷ rest) f fs world)
      (turn_of rest f fs (with_cells world (merged_cells work world.cells)))
  drop_runs x word work is given =
      line_runs target (most_drop_cost work.gave work.freed + (most_moves + 2)) (acts (Calls Drop) (x ∷ [])) rest f fs world
      (word ∷ [])
      (turn_of rest f fs (with_cells world (merged_cells work world.cells))) (reads_one f.cells x word is)
      (ap (λ o. asm_served None (left_at rest f ∷ fs) (gives_up o world)) given)
      (λ held. omega (arith, ap drop_count given)) (silent target world)

  -- a cell is taken
  pub take_runs : (into at : ℕ) (next : Cells) → request target.pool (top (left_at rest f ∷ fs)) world.cells
      ≡ Some (at, next, false)
      → Runs target (most_moves + 10) 1 (turn_of (record { action = Calls Take; args = []; into = Some into } ∷ rest) f fs world)
      (turn_of rest (put_in into at f) fs (with_cells world next))
  take_runs into at next is =
      line_runs target (most_moves + 10) (record { action = Calls Take; args = []; into = Some into }) rest f fs world []
      (turn_of rest (put_in into at f) fs (with_cells world next)) refl
      (ap (λ o. asm_served (Some into) (left_at rest f ∷ fs) (takes_cell o world)) is)
      (λ held. omega arith) (silent target world)

  -- the heap is full
  pub full_runs : (into : ℕ) → request target.pool (top (left_at rest f ∷ fs)) world.cells ≡ None
      → Runs target (most_moves + 10) 1 (turn_of (record { action = Calls Take; args = []; into = Some into } ∷ rest) f fs world)
      (ended (exited (number_of OfEnding.HeapFull)) world)
  full_runs into is =
      line_runs target (most_moves + 10) (record { action = Calls Take; args = []; into = Some into }) rest f fs world []
      (ended (exited (number_of OfEnding.HeapFull)) world) refl
      (ap (λ o. asm_served (Some into) (left_at rest f ∷ fs) (takes_cell o world)) is)
      (λ held. omega arith) (silent target world)

  -- a value and an immediate
  pub addi_runs : (from into word : ℕ) (immediate : Immediate) → f.cells from ≡ Some word
      → Runs target (most_moves + 2) 1 (turn_of (computes (Op.Immediate Addi immediate) (from ∷ []) into ∷ rest) f fs world)
      (turn_of rest (put_in into (sum_word word immediate.word) f) fs world)
  addi_runs from into word immediate is =
      sets_value 2 (Op.Immediate Addi immediate) (from ∷ []) into (word ∷ []) (sum_word word immediate.word)
      (reads_one f.cells from word is) refl (omega arith)

  pub andi_runs : (from into word : ℕ) (immediate : Immediate) → f.cells from ≡ Some word
      → Runs target (most_moves + 2) 1 (turn_of (computes (Op.Immediate Andi immediate) (from ∷ []) into ∷ rest) f fs world)
      (turn_of rest (put_in into (bit_and word immediate.word) f) fs world)
  andi_runs from into word immediate is =
      sets_value 2 (Op.Immediate Andi immediate) (from ∷ []) into (word ∷ []) (bit_and word immediate.word)
      (reads_one f.cells from word is) refl (omega arith)

  -- ---- labels and jumps

  -- a label weighs nothing
  pub label_exact : (l : ℕ) → Runs target 0 1 (turn_of (acts (Label l) [] ∷ rest) f fs world) (turn_of rest f fs world)
  label_exact l =
      line_runs target 0 (acts (Label l) []) rest f fs world []
      (turn_of rest f fs world) refl refl (λ held. omega arith)
      (silent target world)

  pub label_runs : (l : ℕ) → Runs target (most_moves + 0) 1 (turn_of (acts (Label l) [] ∷ rest) f fs world)
      (turn_of rest f fs world)
  label_runs l =
      runs_within target 0 (most_moves + 0) 1 (turn_of (acts (Label l) [] ∷ rest) f fs world) (turn_of rest f fs world)
      (omega arith) (label_exact l)

  -- the lines from a label on
  abbrev pub Finds : ℕ → List Line → Type 0
  Finds l there = found (λ line. is_label l line.action) f.whole ≡ Some there

  jumps_to : (l : ℕ) (there : List Line) → Finds l there → asm_jumps {W = Ending} l (left_at rest f) fs world ≡ turn_of there f fs
      world
  jumps_to l there finds = ap (λ o. or_stuck o (λ code. asm_goes (record f { code = code }) fs world)) finds

  pub jump_runs : (l : ℕ) (there : List Line) → Finds l there → Runs target (most_moves + 2) 1
      (turn_of (acts (Jump l) [] ∷ rest) f fs world) (turn_of there f fs world)
  jump_runs l there finds =
      line_runs target (most_moves + 2) (acts (Jump l) []) rest f fs world []
      (turn_of there f fs world) refl (jumps_to l there finds)
      (λ held. omega arith) (silent target world)

  -- a branch whose condition does not hold of two values, and one whose condition does
  pub falls_runs : (condition : Condition) (l x y word other : ℕ) → f.cells x ≡ Some word → f.cells y ≡ Some other
      → compares condition word other ≡ false
      → Runs target (most_moves + 3) 1 (turn_of (acts (Branch condition l) (x ∷ y ∷ []) ∷ rest) f fs world)
      (turn_of rest f fs world)
  falls_runs condition l x y word other is also not =
      line_runs target (most_moves + 3) (acts (Branch condition l) (x ∷ y ∷ [])) rest f fs world (word ∷ other ∷ [])
      (turn_of rest f fs world)
      (reads_two f.cells x y word other is also)
      (ap (λ b. or_stuck (Some b)
      (λ taken. cond taken (asm_jumps {W = Ending} l (left_at rest f) fs world) (asm_goes (left_at rest f) fs world))) not)
      (λ held. omega arith) (silent target world)

  pub branch_runs : (condition : Condition) (l x y word other : ℕ) (there : List Line) → f.cells x ≡ Some word
      → f.cells y ≡ Some other → compares condition word other ≡ true → Finds l there
      → Runs target (most_moves + 3) 1 (turn_of (acts (Branch condition l) (x ∷ y ∷ []) ∷ rest) f fs world)
      (turn_of there f fs world)
  branch_runs condition l x y word other there is also holds finds =
      line_runs target (most_moves + 3) (acts (Branch condition l) (x ∷ y ∷ [])) rest f fs world (word ∷ other ∷ [])
      (turn_of there f fs world)
      (reads_two f.cells x y word other is also)
      (ap (λ b. or_stuck (Some b)
      (λ taken. cond taken (asm_jumps {W = Ending} l (left_at rest f) fs world) (asm_goes (left_at rest f) fs world))) holds
      ∙ jumps_to l there finds)
      (λ held. omega arith) (silent target world)

  -- the same of one value, which is compared with zero
  pub falls_one_exact : (condition : Condition) (l x word : ℕ) → f.cells x ≡ Some word → compares condition word 0 ≡ false
      → Runs target (most_moves + 2) 1 (turn_of (acts (Branch condition l) (x ∷ []) ∷ rest) f fs world)
      (turn_of rest f fs world)
  falls_one_exact condition l x word is not =
      line_runs target (most_moves + 2) (acts (Branch condition l) (x ∷ [])) rest f fs world (word ∷ []) (turn_of rest f fs world)
      (reads_one f.cells x word is)
      (ap (λ b. or_stuck (Some b)
      (λ taken. cond taken (asm_jumps {W = Ending} l (left_at rest f) fs world) (asm_goes (left_at rest f) fs world))) not)
      (λ held. omega arith) (silent target world)

  pub branch_one_exact : (condition : Condition) (l x word : ℕ) (there : List Line) → f.cells x ≡ Some word
      → compares condition word 0 ≡ true → Finds l there
      → Runs target (most_moves + 2) 1 (turn_of (acts (Branch condition l) (x ∷ []) ∷ rest) f fs world)
      (turn_of there f fs world)
  branch_one_exact condition l x word there is holds finds =
      line_runs target (most_moves + 2) (acts (Branch condition l) (x ∷ [])) rest f fs world (word ∷ []) (turn_of there f fs world)
      (reads_one f.cells x word is)
      (ap (λ b. or_stuck (Some b)
      (λ taken. cond taken (asm_jumps {W = Ending} l (left_at rest f) fs world) (asm_goes (left_at rest f) fs world))) holds
      ∙ jumps_to l there finds)
      (λ held. omega arith) (silent target world)

  pub falls_one_runs : (condition : Condition) (l x word : ℕ) → f.cells x ≡ Some word → compares condition word 0 ≡ false
      → Runs target (most_moves + 3) 1 (turn_of (acts (Branch condition l) (x ∷ []) ∷ rest) f fs world)
      (turn_of rest f fs world)
  falls_one_runs condition l x word is not =
      runs_within target (most_moves + 2) (most_moves + 3) 1 (turn_of (acts (Branch condition l) (x ∷ []) ∷ rest) f fs world)
      (turn_of rest f fs world) (omega arith) (falls_one_exact condition l x word is not)

  pub branch_one_runs : (condition : Condition) (l x word : ℕ) (there : List Line) → f.cells x ≡ Some word
      → compares condition word 0 ≡ true → Finds l there
      → Runs target (most_moves + 3) 1 (turn_of (acts (Branch condition l) (x ∷ []) ∷ rest) f fs world)
      (turn_of there f fs world)
  branch_one_runs condition l x word there is holds finds =
      runs_within target (most_moves + 2) (most_moves + 3) 1 (turn_of (acts (Branch condition l) (x ∷ []) ∷ rest) f fs world)
      (turn_of there f fs world) (omega arith) (branch_one_exact condition l x word there is holds finds)
