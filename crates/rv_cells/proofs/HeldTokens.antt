-- What one line does with held tokens: it holds one, takes one back, or takes a cell from the newest one.
use mathlib.Core.Path.{fun_ext}
use Rattle.std.proofs.Common.{◌≡◌, ◌≢◌, ◌≤◌, ℕ, ◌+◌, ◌==◌, List, [], ◌∷◌, Option, Some, None, option_map, Bool, true, false, cond, refl, sym, ◌∙◌, ap, arith, eqb-true, ne_eqb}
use Rattle.rv_isa.specs.declared.asm.Action.TheVariants.{Routine as Calls, Unhold}
use Rattle.rv_isa.specs.declared.routine.Routine.TheVariants.{Take}
use Rattle.rv_isa.specs.Processor.{Ending}
use Rattle.rv_isa.specs.AsmCode.{Line}
use Rattle.rv_isa.specs.AsmMachine.{AsmTurn, asm_goes, asm_gives, asm_served}
use Rattle.rv_isa.specs.Costs.{result_moves}
use Rattle.rv_isa.specs.Frames.{Frame, put, put_into, twice_of, top, top_in, top_taken, taken_in, is_among, holding, unholding, off_top}
use Rattle.rv_isa.specs.Primitives.{or_stuck, by_token}
use Rattle.cell_heap.specs.Blocks.{Cells, request}
use Rattle.cell_heap.specs.Blocks as OfBlocks
use Rattle.cell_runtime.specs.World.{World, with_cells, takes_cell, on_cells}
use Rattle.rv_lower.proofs.FormEffects.{reads_one, reads_two}
use Rattle.rv_cells.specs.CellLines.{hold_line}
use Rattle.rv_cells.proofs.Runs.{Target, left_at, turn_of, Runs, line_runs, silent}
use Rattle.rv_cells.proofs.LineCosts.{most_moves}
use Rattle.rv_cells.proofs.CellActions.{put_in}

-- a frame with these held values
abbrev pub holding_now : List ℕ → Frame Line → Frame Line
holding_now held f = record f { held = held }

-- a frame without its newest held value, which is null then
abbrev pub newest_taken : ℕ → List ℕ → Frame Line → Frame Line
newest_taken y more f = record f { cells = put y (Some 0) f.cells; held = more }

-- what is done with a token that is not null
by_word : (act : ℕ → Cells → Option Cells) (word : ℕ) (world : World) (next : Cells) → word ≢ 0 → act word world.cells ≡ Some next
    → by_token (on_cells act) word world ≡ Some (with_cells world next)
by_word act word world next some is =
    ap (λ b. cond b (Some world) (on_cells act word world)) (ne_eqb word 0 some) ∙ ap (option_map (with_cells world)) is

-- a value that is written with the word that it has
pub put_itself : (x word : ℕ) (values : ℕ → Option ℕ) → values x ≡ Some word → put x (Some word) values ≡ values
put_itself x word values is = fun_ext (λ z. by z (z == x) refl)
  where
    by : (z : ℕ) (b : Bool) → (z == x) ≡ b → cond b (Some word) (values z) ≡ values z
    by z true same = sym (ap values (eqb-true z x same) ∙ is)
    by z false same = refl

-- a line that takes a token back, whose value may get it
abbrev pub takes_back : Option ℕ → ℕ → Line
takes_back into x = record { action = Unhold; args = x ∷ []; into = into }

module _ (target : Target) (rest : List Line) (f : Frame Line) (fs : List (Frame Line)) (world : World) where
  -- what a Hold of a value with a word does
  abbrev held_next : ℕ → ℕ → AsmTurn World Ending
  held_next value word =
      or_stuck (holding value word f.held) (λ (hs : List ℕ). or_stuck (by_token (on_cells OfBlocks.hold) word world)
      (λ (w : World). asm_goes {W = Ending} (record (left_at rest f) { held = hs }) fs w))

  hold_acts : (x word : ℕ) (held : List ℕ) (next : Cells) → f.cells x ≡ Some word → holding x word f.held ≡ Some held
      → by_token (on_cells OfBlocks.hold) word world ≡ Some (with_cells world next)
      → Runs target (most_moves + 9) 1 (turn_of (hold_line x ∷ rest) f fs world)
      (turn_of rest (holding_now held f) fs (with_cells world next))
  hold_acts x word held next is holds act =
      let value_itself : (x == x) ≡ true = grind arith in
      let word_itself : (word == word) ≡ true = grind arith in
      line_runs target (most_moves + 9) (hold_line x) rest f fs world (word ∷ word ∷ [])
      (turn_of rest (holding_now held f) fs (with_cells world next)) (reads_two f.cells x x word word is is)
      (ap (λ b. or_stuck (cond b (Some x) None) (λ v. or_stuck (twice_of (word ∷ word ∷ [])) (λ w. held_next v w))) value_itself
      ∙ ap (λ b. or_stuck (cond b (Some word) None) (λ w. held_next x w)) word_itself
      ∙ ap (λ o. or_stuck o (λ (hs : List ℕ). or_stuck (by_token (on_cells OfBlocks.hold) word world)
      (λ (w : World). asm_goes {W = Ending} (record (left_at rest f) { held = hs }) fs w))) holds
      ∙ ap (λ o. or_stuck o (λ (w : World). asm_goes {W = Ending} (record (left_at rest f) { held = held }) fs w)) act)
      (λ top. omega arith) (silent target world)

  unhold_acts : (into : Option ℕ) (x word : ℕ) (held : List ℕ) (next : Cells) → f.cells x ≡ Some word
      → put_into into word f.cells ≡ f.cells → unholding x word f.held ≡ Some held
      → by_token (on_cells OfBlocks.unhold) word world ≡ Some (with_cells world next)
      → Runs target (most_moves + 7) 1 (turn_of (takes_back into x ∷ rest) f fs world)
      (turn_of rest (holding_now held f) fs (with_cells world next))
  unhold_acts into x word held next is same holds act =
      line_runs target (most_moves + 7) (takes_back into x) rest f fs world (word ∷ [])
      (turn_of rest (holding_now held f) fs (with_cells world next)) (reads_one f.cells x word is)
      (ap (λ o. or_stuck o (λ (hs : List ℕ). or_stuck (by_token (on_cells OfBlocks.unhold) word world)
      (λ (w : World). asm_goes {W = Ending} (record (left_at rest f) { cells = put_into into word f.cells; held = hs }) fs w))) holds
      ∙ ap (λ o. or_stuck o
      (λ (w : World). asm_goes {W = Ending} (record (left_at rest f) { cells = put_into into word f.cells; held = held }) fs w)) act
      ∙ ap (λ values. asm_goes {W = Ending} (record (left_at rest f) { cells = values; held = held }) fs (with_cells world next))
      same)
      (λ top. let light = moves into in omega (arith, light)) (silent target world)
    where
      moves : (into : Option ℕ) → result_moves into ≤ 1
      moves None = omega arith
      moves (Some at) = omega arith

  -- a token is held; one that is null changes nothing
  pub hold_runs : (x word : ℕ) (next : Cells) → f.cells x ≡ Some word → word ≢ 0 → is_among x f.held ≡ false
      → OfBlocks.hold word world.cells ≡ Some next
      → Runs target (most_moves + 9) 1 (turn_of (hold_line x ∷ rest) f fs world)
      (turn_of rest (holding_now (x ∷ f.held) f) fs (with_cells world next))
  hold_runs x word next is some apart held =
      hold_acts x word (x ∷ f.held) next is
      (ap (λ b. cond b None (cond (word == 0) (Some f.held) (Some (x ∷ f.held)))) apart
      ∙ ap (λ b. cond b (Some f.held) (Some (x ∷ f.held))) (ne_eqb word 0 some))
      (by_word OfBlocks.hold word world next some held)

  pub hold_null_runs : (x : ℕ) → f.cells x ≡ Some 0 → is_among x f.held ≡ false
      → Runs target (most_moves + 9) 1 (turn_of (hold_line x ∷ rest) f fs world) (turn_of rest f fs world)
  hold_null_runs x is apart =
      hold_acts x 0 f.held world.cells is
      (ap (λ b. cond b None (cond (0 == 0) (Some f.held) (Some (x ∷ f.held)))) apart) refl

  -- the newest held token is taken back; one that is null changes nothing
  pub unhold_runs : (into : Option ℕ) (x word : ℕ) (more : List ℕ) (next : Cells) → f.cells x ≡ Some word
      → put_into into word f.cells ≡ f.cells → word ≢ 0 → f.held ≡ x ∷ more → OfBlocks.unhold word world.cells ≡ Some next
      → Runs target (most_moves + 7) 1 (turn_of (takes_back into x ∷ rest) f fs world)
      (turn_of rest (holding_now more f) fs (with_cells world next))
  unhold_runs into x word more next is same some newest unheld =
      let itself : (x == x) ≡ true = grind arith in
      unhold_acts into x word more next is same
      (ap (λ b. cond b (cond (is_among x f.held) None (Some f.held)) (off_top x f.held)) (ne_eqb word 0 some)
      ∙ ap (off_top x) newest ∙ ap (λ b. cond b (Some more) None) itself)
      (by_word OfBlocks.unhold word world next some unheld)

  pub unhold_null_runs : (into : Option ℕ) (x : ℕ) → f.cells x ≡ Some 0 → put_into into 0 f.cells ≡ f.cells
      → is_among x f.held ≡ false
      → Runs target (most_moves + 7) 1 (turn_of (takes_back into x ∷ rest) f fs world) (turn_of rest f fs world)
  unhold_null_runs into x is same apart =
      unhold_acts into x 0 f.held world.cells is same (ap (λ b. cond b None (Some f.held)) apart) refl

  -- ---- a cell is taken from the newest held token, which is null then

  takes_held : (into at : ℕ) (next : Cells) (g : Frame Line) (gs : List (Frame Line))
      → request target.pool (top (left_at rest f ∷ fs)) world.cells ≡ Some (at, next, true)
      → top_taken (left_at rest f ∷ fs) ≡ Some (left_at rest g ∷ gs)
      → Runs target (most_moves + 10) 1 (turn_of (record { action = Calls Take; args = []; into = Some into } ∷ rest) f fs world)
      (turn_of rest (put_in into at g) gs (with_cells world next))
  takes_held into at next g gs is taken =
      line_runs target (most_moves + 10) (record { action = Calls Take; args = []; into = Some into }) rest f fs world []
      (turn_of rest (put_in into at g) gs (with_cells world next)) refl
      (ap (λ o. asm_served {W = Ending} (Some into) (left_at rest f ∷ fs) (takes_cell o world)) is
      ∙ ap (λ o. or_stuck o (λ left. asm_gives {W = Ending} (Some into) at left (with_cells world next))) taken)
      (λ held. omega arith) (silent target world)

  -- one of the running frame
  pub take_own_runs : (into at y : ℕ) (more : List ℕ) (next : Cells) → f.held ≡ y ∷ more → f.cells y ≡ Some at
      → request target.pool (Some at) world.cells ≡ Some (at, next, true)
      → Runs target (most_moves + 10) 1 (turn_of (record { action = Calls Take; args = []; into = Some into } ∷ rest) f fs world)
      (turn_of rest (put_in into at (newest_taken y more f)) fs (with_cells world next))
  take_own_runs into at y more next newest has is =
      takes_held into at next (newest_taken y more f) fs
      (ap (λ h. request target.pool (top_in h f.cells (top fs)) world.cells) newest
      ∙ ap (λ t. request target.pool t world.cells) has ∙ is)
      (ap (λ h. taken_in h (left_at rest f) fs (top_taken fs)) newest)

  -- one of an older frame
  pub take_older_runs : (into at : ℕ) (next : Cells) (gs : List (Frame Line)) → f.held ≡ [] → top fs ≡ Some at
      → top_taken fs ≡ Some gs → request target.pool (Some at) world.cells ≡ Some (at, next, true)
      → Runs target (most_moves + 10) 1 (turn_of (record { action = Calls Take; args = []; into = Some into } ∷ rest) f fs world)
      (turn_of rest (put_in into at f) gs (with_cells world next))
  take_older_runs into at next gs none has taken is =
      takes_held into at next f gs
      (ap (λ h. request target.pool (top_in h f.cells (top fs)) world.cells) none
      ∙ ap (λ t. request target.pool t world.cells) has ∙ is)
      (ap (λ h. taken_in h (left_at rest f) fs (top_taken fs)) none ∙ ap (option_map (λ later. left_at rest f ∷ later)) taken)
