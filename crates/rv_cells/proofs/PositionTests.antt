-- Tests of the values at positions as lines.
use Rattle.std.proofs.Common.{◌≡◌, ◌≢◌, ◌<◌, ◌≤◌, ℕ, zero, suc, ◌+◌, true, false, List, [], ◌∷◌, ◌++◌, length, Option, Some, None, option_map, refl, sym, ◌∙◌, ap, subst, arith}
use Rattle.std.specs.Prelude.{slice_get}
use Rattle.kk_source.specs.State.{Value, integer, unit, constant, place, Cell}
use Rattle.kk_source.specs.Matching.{and_then}
use Rattle.kk_core.specs.Decisions.{fields_shown, value_at}
use Rattle.kk_counted.specs.Heaps.{Held, Heap, held_at, cell_at, if_counted}
use Rattle.rv_isa.specs.declared.asm.Action.TheVariants.{Branch}
use Rattle.rv_isa.specs.declared.asm.Condition.{Condition}
use Rattle.rv_isa.specs.AsmMachine.{is_label}
use Rattle.rv_lower.specs.Lines.{sets, acts}
use Rattle.rv_isa.specs.AsmCode.{Line}
use Rattle.rv_isa.specs.Frames.{Frame, found}
use Rattle.cell_runtime.specs.Operations.{compares}
use Rattle.cell_runtime.specs.World.{World}
use Rattle.rv_cells.specs.Layout.{Layout, word_in, words_in, first_field}
use Rattle.rv_cells.specs.CountedCells.{AreFrom, Owner, Follows}
use Rattle.rv_cells.specs.CellLines.{Loads, Walks, walked}
use Rattle.rv_cells.proofs.NameContents.{some-is, held_count}
use Rattle.rv_cells.proofs.Words.{load_own, cell_named}
use Rattle.rv_lower.proofs.FormEffects.{put_same, put_other}
use Rattle.rv_cells.proofs.Drops.{fits_length}
use Rattle.rv_cells.proofs.Runs.{Target, turn_of, Runs, runs_none, runs_then}
use Rattle.rv_cells.proofs.CellActions.{put_in, load_runs, sets_runs, falls_runs, branch_runs}
use Rattle.rv_cells.proofs.Spots.{Known}
use Rattle.rv_cells.proofs.LineCosts.{most_moves, row_cost}
use Rattle.rv_cells.proofs.Rows.{then_some}

-- ---- the field of a counted cell

from_index : (layout : Layout) (address : ℕ → ℕ) (words : ℕ → Option ℕ) (i k : ℕ) (vs : List Value) (u : Value)
    → AreFrom words i (words_in layout address vs) → slice_get vs k ≡ Some u
    → (words (i + k) ≡ Some (word_in layout address u)) × (k < length vs)
from_index layout address words i k [] u known is = cc
from_index layout address words i zero (v ∷ vs) u known is =
    let same : v ≡ u = some-is is in
    let whole : i + 0 ≡ i = omega arith in
    (ap words whole ∙ known.0 ∙ ap (λ w. Some (word_in layout address w)) same, omega arith)
from_index layout address words i (suc k) (v ∷ vs) u known is =
    let later = from_index layout address words (suc i) k vs u known.1 is in
    let whole : i + suc k ≡ suc i + k = omega arith in
    (ap words whole ∙ later.0, omega (arith, later.1))

mapped_some : (o : Option Cell) (fields : List Value) → option_map (λ (cell : Cell). cell.fields) o ≡ Some fields
    → (cell : Cell) × (o ≡ Some cell) × (cell.fields ≡ fields)
mapped_some None fields is = cc
mapped_some (Some cell) fields is = (cell, refl, some-is is)

if_some : (n : ℕ) (cell other : Cell) → if_counted n cell ≡ Some other → (1 ≤ n) × (cell ≡ other)
if_some zero cell other is = cc
if_some (suc n) cell other is = (omega arith, some-is is)

module _ (known : Known) (address : ℕ → ℕ) (owners : ℕ → Owner) (heap : Heap) (fs : List (Frame Line)) (world : World)
    (follows : Follows known.target.pool known.layout address owners heap world.cells) where
  -- the field of a value is loaded
  field_runs : (rest : List Line) (f : Frame Line) (from t field : ℕ) (v u : Value) (fields : List Value) (line : Line)
      → Loads from (first_field + field) t line → f.cells from ≡ Some (word_in known.layout address v)
      → fields_shown (cell_at heap) v ≡ Some fields → slice_get fields field ≡ Some u
      → Runs known.target (most_moves + 2) 1 (turn_of (line ∷ rest) f fs world)
      (turn_of rest (put_in t (word_in known.layout address u) f) fs world)
  field_runs rest f from t field (integer n) u fields line loads has shown is =
      let none : slice_get [] field ≡ Some u = ap (λ vs. slice_get vs field) (some-is shown) ∙ is in cc
  field_runs rest f from t field unit u fields line loads has shown is =
      let none : slice_get [] field ≡ Some u = ap (λ vs. slice_get vs field) (some-is shown) ∙ is in cc
  field_runs rest f from t field (constant c) u fields line loads has shown is =
      let none : slice_get [] field ≡ Some u = ap (λ vs. slice_get vs field) (some-is shown) ∙ is in cc
  field_runs rest f from t field (place name) u fields line loads has shown is =
      let cell = mapped_some (cell_at heap name) fields shown in
      let held = then_some (held_at heap name) (λ held. if_counted held.count held.cell) cell.0 cell.1 in
      let some = if_some held.0.count held.0.cell cell.0 held.2 in
      let count = held_count heap name held.0 held.1 in
      let stands = cell_named follows name (let positive = some.0 in omega arith) in
      let same : stands.held ≡ held.0 = some-is (sym stands.there ∙ held.1) in
      let vs : stands.held.cell.fields ≡ fields =
      ap (λ (h : Held). h.cell.fields) same ∙ ap (λ (c : Cell). c.fields) some.1 ∙ cell.2 in
      let many = fits_length (known.layout.fields stands.held.cell.made_by) stands.held.cell.fields stands.shows.fits in
      let few = known.narrow.few stands.held.cell.made_by in
      let word = from_index known.layout address stands.words 2 field stands.held.cell.fields u stands.shows.fields
      (ap (λ ws. slice_get ws field) vs ∙ is) in
      let low = word.1 in
      load_runs known.target rest f fs world from (first_field + field) t (address name) (word_in known.layout address u) line loads
      has
      (load_own world.cells (address name) (first_field + field) (word_in known.layout address u) stands.words stands.is
      (omega arith) word.0)

  -- what then has the value at the position has it, and all values but the temporary are as before
  pub walk_runs : (rest : List Line) (from t : ℕ) (way : List ℕ) (v w : Value) (lines : List Line) (f : Frame Line)
      → Walks t from way lines → f.cells from ≡ Some (word_in known.layout address v) → value_at (cell_at heap) way v ≡ Some w
      → (values : ℕ → Option ℕ)
      × Runs known.target (row_cost way (most_moves + 2)) (length way) (turn_of (lines ++ rest) f fs world)
      (turn_of rest (record f { cells = values }) fs world)
      × (values (walked t from way) ≡ Some (word_in known.layout address w)) × ((z : ℕ) → z ≢ t → values z ≡ f.cells z)
  walk_runs rest from t [] v w lines f walks has is = (
    f.cells,
    subst (λ ls. Runs known.target 0 0 (turn_of (ls ++ rest) f fs world) (turn_of rest f fs world)) (sym walks)
        (runs_none known.target (turn_of rest f fs world)),
    has ∙ ap (λ u. Some (word_in known.layout address u)) (some-is is),
    λ z differ. refl,
  )
  walk_runs rest from t (field ∷ way) v w lines f walks has is =
      let moves = most_moves in
      let step = then_some (and_then (fields_shown (cell_at heap) v) (λ fields. slice_get fields field))
      (value_at (cell_at heap) way) w is in
      let shown = then_some (fields_shown (cell_at heap) v) (λ fields. slice_get fields field) step.0 step.1 in
      let word = word_in known.layout address step.0 in
      let g = put_in t word f in
      let first = field_runs (walks.1 ++ rest) f from t field v step.0 shown.0 walks.0 walks.2 has shown.1 shown.2 in
      let later = walk_runs rest t t way step.0 w walks.1 g walks.3 (put_same t word f.cells) step.2 in
      let one_more : 1 + length way ≡ suc (length way) = omega arith in
      let t0 = turn_of (walks.0 ∷ (walks.1 ++ rest)) f fs world in
      let t2 = turn_of rest (record f { cells = later.0 }) fs world in (
        later.0,
        subst (λ ls. Runs known.target (row_cost (field ∷ way) (moves + 2)) (suc (length way)) (turn_of (ls ++ rest) f fs world) t2)
            (sym walks.4)
            (subst (λ n. Runs known.target (row_cost (field ∷ way) (moves + 2)) n t0 t2) one_more
            (runs_then known.target (moves + 2) (row_cost way (moves + 2)) 1 (length way) t0 (turn_of (walks.1 ++ rest) g fs world)
            t2
            first later.1)),
        ap later.0 (sym (walked_same t way)) ∙ later.2,
        λ z differ. later.3 z differ ∙ put_other t z word f.cells differ,
      )
    where
      walked_same : (t : ℕ) (way : List ℕ) → walked t t way ≡ t
      walked_same t [] = refl
      walked_same t (field ∷ way) = refl

-- ---- tests of words

module _ (target : Target) (rest : List Line) (f : Frame Line) (fs : List (Frame Line)) (world : World) (condition : Condition)
    (value word t label v : ℕ) (has : f.cells value ≡ Some v) (apart : value < t) where
  -- the frame behind a test
  abbrev pub tested : Frame Line
  tested = put_in t word f

  abbrev pub test_line : Line
  test_line = acts (Branch condition label) (value ∷ t ∷ [])

  still_has : tested.cells value ≡ Some v
  still_has = put_other t value word f.cells (λ e. omega (arith, e, apart)) ∙ has

  abbrev test_cost : ℕ
  test_cost = (most_moves + 2) + (most_moves + 3)

  -- where the condition does not hold the next line comes
  pub test_falls : compares condition v word ≡ false
      → Runs target test_cost 2 (turn_of (sets word t ∷ test_line ∷ rest) f fs world) (turn_of rest tested fs world)
  test_falls differ =
      runs_then target (most_moves + 2) (most_moves + 3) 1 1 (turn_of (sets word t ∷ test_line ∷ rest) f fs world)
      (turn_of (test_line ∷ rest) tested fs world) (turn_of rest tested fs world)
      (sets_runs target (test_line ∷ rest) f fs world word t)
      (falls_runs target rest tested fs world condition label value t v word still_has (put_same t word f.cells) differ)

  -- and where it holds the label
  pub test_jumps : (there : List Line) → compares condition v word ≡ true
      → found (λ line. is_label label line.action) f.whole ≡ Some there
      → Runs target test_cost 2 (turn_of (sets word t ∷ test_line ∷ rest) f fs world) (turn_of there tested fs world)
  test_jumps there same finds =
      runs_then target (most_moves + 2) (most_moves + 3) 1 1 (turn_of (sets word t ∷ test_line ∷ rest) f fs world)
      (turn_of (test_line ∷ rest) tested fs world) (turn_of there tested fs world)
      (sets_runs target (test_line ∷ rest) f fs world word t)
      (branch_runs target rest tested fs world condition label value t v word there still_has (put_same t word f.cells) same finds)
