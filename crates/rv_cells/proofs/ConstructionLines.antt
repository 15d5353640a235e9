-- Constructions as lines: a cell is taken, its words are stored, and it is counted; or the heap is full.
use Rattle.std.proofs.Common.{◌≡◌, ◌<◌, ◌≤◌, ℕ, suc, ◌+◌, ◌*◌, Bool, true, false, List, [], ◌∷◌, ◌++◌, length, Option, Some, None, refl, sym, ◌∙◌, ap, subst, arith, append_assoc}
use mathlib.Core.Path.{fun_ext}
use Rattle.std.proofs.lemmas.List.{length-map}
use Rattle.kk_base.specs.Limits.{greatest_of}
use Rattle.kk_base.specs.declared.limit.LimitKind.TheVariants.{Fields}
use Rattle.kk_syntax.specs.Shapes.{is_among}
use Rattle.kk_source.specs.State.{Value, place, Cell}
use Rattle.kk_source.specs.Live.{value_of}
use Rattle.kk_source.specs.Sound.{AllWithin}
use Rattle.kk_counted.specs.Heaps.{Heap, busy, fields_held}
use Rattle.kk_counted.specs.Keeping.{values_of}
use Rattle.kk_counted.specs.Spending.{AllAmong}
use Rattle.rv_isa.specs.Numbers.{cell_words}
use Rattle.rv_isa.specs.declared.asm.Action.TheVariants.{Routine as Calls}
use Rattle.rv_isa.specs.declared.routine.Routine.TheVariants.{Take}
use Rattle.rv_isa.specs.Processor.{exited}
use Rattle.rv_isa.specs.AsmCode.{Line}
use Rattle.rv_isa.specs.Frames.{Frame, put, top}
use Rattle.rv_isa.specs.Primitives.{ended}
use Rattle.cell_heap.specs.Pool.{Pool}
use Rattle.cell_heap.specs.Blocks.{Cells, own, with_block, with_word, nothing, request}
use Rattle.cell_runtime.specs.declared.process.Ending.TheVariants as OfEnding
use Rattle.cell_runtime.specs.Stops.{number_of}
use Rattle.cell_runtime.specs.World.{World, with_cells}
use Rattle.cell_runtime.specs.Drops.{given_cost, freed_cost}
use Rattle.rv_lower.specs.Lines.{sets}
use Rattle.rv_lower.proofs.Calls.{HaveWords}
use Rattle.rv_cells.specs.Layout.{Layout, words_in, header_of, FitsField, FitFields}
use Rattle.rv_cells.specs.CountedCells.{AreFrom, IsBlockOf, Owner, cell_of, in_hand, Follows, with_owner, assign, is_aside}
use Rattle.rv_cells.specs.CountedCells.{set_aside}
use Rattle.rv_cells.specs.CellLines.{Stores, AllStores, ConstructLines}
use Rattle.rv_cells.proofs.Owners.{chosen_by, chosen_same, chosen_other}
use Rattle.rv_cells.proofs.Requests.{served, is_full}
use Rattle.rv_cells.proofs.Words.{store_own, from_later, hand_owned, written, built}
use Rattle.rv_cells.proofs.Drops.{fits_length}
use Rattle.rv_lower.proofs.FormEffects.{put_same, put_other}
use Rattle.rv_cells.proofs.Values.{HasValues, among_none, has_bound, has_temporary, has_cell}
use Rattle.rv_cells.proofs.Runs.{Target, left_at, turn_of, Runs, runs_none, runs_then}
use Rattle.rv_cells.proofs.CellActions.{put_in, take_runs, full_runs, sets_runs, store_runs}
use Rattle.rv_cells.proofs.Spots.{Spot, Known, Here, Did, did_here}
use Rattle.rv_cells.proofs.LineCosts.{row_more, most_moves, row_cost}

-- ---- words one behind the other

abbrev pub with_words : ℕ → List ℕ → (ℕ → Option ℕ) → ℕ → Option ℕ
with_words i [] words = words
with_words i (w ∷ ws) words = with_words (suc i) ws (with_word i w words)

words_below : (i j : ℕ) (ws : List ℕ) (words : ℕ → Option ℕ) → j < i → with_words i ws words j ≡ words j
words_below i j [] words less = refl
words_below i j (w ∷ ws) words less =
    words_below (suc i) j ws (with_word i w words) (omega (arith, less)) ∙ chosen_other j i (Some w) words
    (λ e. omega (arith, e, less))

from_words : (i : ℕ) (ws : List ℕ) (words : ℕ → Option ℕ) → AreFrom (with_words i ws words) i ws
from_words i [] words = tt
from_words i (w ∷ ws) words = (
  words_below (suc i) i ws (with_word i w words) (omega arith) ∙ chosen_same i i (Some w) words refl,
  from_words (suc i) ws
      (with_word i w words),
)

pub twice_owner : (at : ℕ) (first second : Owner) (owners : ℕ → Owner)
    → with_owner at second (with_owner at first owners) ≡ with_owner at second owners
twice_owner at first second owners =
    fun_ext (λ x. chosen_by (λ o. o ≡ with_owner at second owners x) x at second (with_owner at first owners)
    (λ e. sym (chosen_same x at second owners e))
    (λ differ. chosen_other x at first owners differ ∙ sym (chosen_other x at second owners differ)))

-- ---- stores of a cell in hand

abbrev pub Hands : Pool → Layout → (ℕ → ℕ) → (ℕ → Owner) → Heap → ℕ → (ℕ → Option ℕ) → Cells → Type 0
Hands pool layout address owners heap at words cells = Follows pool layout address (with_owner at (in_hand words) owners) heap cells

module _ (target : Target) (layout : Layout) (address : ℕ → ℕ) (owners : ℕ → Owner) (heap : Heap) (fs : List (Frame Line))
    (f : Frame Line) (x at : ℕ) (is : f.cells x ≡ Some at) where
  abbrev Holds : (ℕ → Option ℕ) → Cells → Type 0
  Holds words cells = Hands target.pool layout address owners heap at words cells

  pub stored : (i w : ℕ) (words : ℕ → Option ℕ) (cells : Cells) → Holds words cells → Holds (with_word i w words)
      (with_block at (own (with_word i w words)) cells)
  stored i w words cells holds =
      subst (λ o. Follows target.pool layout address o heap (with_block at (own (with_word i w words)) cells))
      (twice_owner at (in_hand words) (in_hand (with_word i w words)) owners)
      (written holds at i w words (chosen_same at at (in_hand words) owners refl))

  pub store_hand : (rest : List Line) (world : World) (i from w : ℕ) (words : ℕ → Option ℕ) (line : Line) → Stores x i from line
      → f.cells from ≡ Some w → i < cell_words → Holds words world.cells
      → Runs target (most_moves + 3) 1 (turn_of (line ∷ rest) f fs world)
      (turn_of rest f fs (with_cells world (with_block at (own (with_word i w words)) world.cells)))
  store_hand rest world i from w words line stores has low holds =
      let stands = hand_owned holds at words (chosen_same at at (in_hand words) owners refl) in
      store_runs target rest f fs world x i from at w line (with_block at (own (with_word i w words)) world.cells) stores is has
      (store_own world.cells at i w words stands.1 low)

  stores_run : (rest : List Line) (xs ws : List ℕ) (i : ℕ) (lines : List Line) (words : ℕ → Option ℕ) (world : World)
      → AllStores x i xs lines → HaveWords f.cells xs ws → i + length xs ≤ cell_words → Holds words world.cells
      → (cells : Cells) × Runs target (row_cost xs (most_moves + 3)) (length xs) (turn_of (lines ++ rest) f fs world)
      (turn_of rest f fs (with_cells world cells)) × Holds (with_words i ws words) cells
  stores_run rest [] [] i lines words world stores has few holds = (
    world.cells,
    subst (λ ls. Runs target 0 0 (turn_of (ls ++ rest) f fs world) (turn_of rest f fs world)) (sym stores)
        (runs_none target (turn_of rest f fs world)),
    holds,
  )
  stores_run rest [] (w ∷ ws) i lines words world stores has few holds = absurd has
  stores_run rest (y ∷ ys) [] i lines words world stores has few holds = absurd has
  stores_run rest (y ∷ ys) (w ∷ ws) i lines words world stores has few holds =
      let next = with_block at (own (with_word i w words)) world.cells in
      let first = store_hand (stores.1 ++ rest) world i y w words stores.0 stores.2 has.0 (omega (arith, few)) holds in
      let later = stores_run rest ys ws (suc i) stores.1 (with_word i w words) (with_cells world next) stores.3 has.1
      (omega (arith, few)) (stored i w words world.cells holds) in
      let one_more : 1 + length ys ≡ suc (length ys) = omega arith in (
        later.0,
        subst (λ ls. Runs target (row_cost (y ∷ ys) (most_moves + 3)) (suc (length ys)) (turn_of (ls ++ rest) f fs world)
            (turn_of rest f fs (with_cells world later.0))) (sym stores.4)
            (subst (λ n. Runs target (row_cost (y ∷ ys) (most_moves + 3)) n (turn_of ((stores.0 ∷ stores.1) ++ rest) f fs world)
            (turn_of rest f fs (with_cells world later.0))) one_more
            (runs_then target (most_moves + 3) (row_cost ys (most_moves + 3)) 1 (length ys)
            (turn_of (stores.0 ∷ (stores.1 ++ rest)) f fs world) (turn_of (stores.1 ++ rest) f fs (with_cells world next))
            (turn_of rest f fs (with_cells world later.0)) first later.1)),
        later.2,
      )

-- ---- the words of a whole cell

words_filled : (layout : Layout) (address : ℕ → ℕ) (c : ℕ) (vs : List Value) (words : ℕ → Option ℕ) → FitFields (layout.fields c) vs
    → IsBlockOf layout address (record { count = 1; cell = record { made_by = c; fields = vs } })
    (with_word 0 1 (with_words 2 (words_in layout address vs) (with_word 1 (header_of layout c) words)))
words_filled layout address c vs words fits =
    let ws = words_in layout address vs in
    let head = with_word 1 (header_of layout c) words in
    record {
      count = refl;
      header = chosen_other 1 0 (Some 1) (with_words 2 ws head) (λ e. cc) ∙ words_below 2 1 ws head (omega arith);
      fields = from_later 0 1 2 (with_words 2 ws head) ws (omega arith) (from_words 2 ws head);
      fits = fits;
    }

-- ---- constructions

-- a constructor's cell with the values of arguments is to be made
pub record IsMaking (known : Known) (s : Spot) (x c : ℕ) (arguments : List ℕ) : Type 0 where
  pub below : x < known.base
  pub bound : AllAmong arguments s.bound
  pub apart : is_among arguments x ≡ false
  pub holds : known.holds x ≡ true
  pub fits : FitFields (known.layout.fields c) (values_of s.environment arguments)
  pub older : (name : ℕ) → AllWithin name (fields_held s.heap name)

-- the spot behind a construction in a cell
abbrev pub made_spot : Spot → ℕ → ℕ → List Value → ℕ → Frame Line → Cells → Spot
made_spot s x c vs at frame cells =
    record {
      address = assign (length s.heap) at s.address;
      owners = with_owner at (cell_of (length s.heap)) s.owners;
      heap = record { count = 1; cell = record { made_by = c; fields = vs } } ∷ s.heap;
      bound = x ∷ s.bound;
      environment = record { variable = x; value = place (length s.heap) } ∷ s.environment;
      frame = frame;
      world = with_cells s.world cells;
    }

-- a construction costs its lines, and what is saved for the drop of its cell
abbrev pub construct_cost : Known → List ℕ → ℕ
construct_cost known arguments = 5 * most_moves + 26 + row_cost arguments (most_moves + 2) +
    (freed_cost + given_cost * length arguments)

-- the words of arguments, where another variable has an address, and behind a temporary
pub args_words : (known : Known) (s : Spot) (here : Here known s) (x at : ℕ) (xs : List ℕ) → AllAmong xs s.bound
    → is_among xs x ≡ false
    → HaveWords (put x (Some at) s.frame.cells) xs (words_in known.layout s.address (values_of s.environment xs))
args_words known s here x at [] bound apart = tt
args_words known s here x at (y ∷ ys) bound apart =
    let beside = among_none y ys x apart in (
      put_other x y at s.frame.cells (λ e. beside.0 (sym e)) ∙ here.values.words y bound.0,
      args_words known s here x at ys bound.1 beside.1,
    )

pub below_words : (known : Known) (s : Spot) (here : Here known s) (word : ℕ) (values : ℕ → Option ℕ) (xs ws : List ℕ)
    → AllAmong xs s.bound → HaveWords values xs ws → HaveWords (put known.base (Some word) values) xs ws
below_words known s here word values [] [] bound have = tt
below_words known s here word values [] (w ∷ ws) bound have = absurd have
below_words known s here word values (y ∷ ys) [] bound have = absurd have
below_words known s here word values (y ∷ ys) (w ∷ ws) bound have =
    let low = here.values.below y bound.0 in (
      put_other known.base y word values (λ e. omega (arith, e, low)) ∙ have.0,
      below_words known s here word values ys ws bound.1 have.1,
    )

pub args_older : (known : Known) (s : Spot) (here : Here known s) (xs : List ℕ) → AllAmong xs s.bound → AllWithin (length s.heap)
    (values_of s.environment xs)
args_older known s here [] bound = tt
args_older known s here (y ∷ ys) bound = (here.values.older y bound.0, args_older known s here ys bound.1)

fits_place : (b : Bool) (name : ℕ) → b ≡ true → FitsField b (place name)
fits_place true name is = tt
fits_place false name is = cc

-- ---- a cell that is made

-- its fields are few
pub few_arguments : (known : Known) (s : Spot) (x c : ℕ) (arguments : List ℕ) → IsMaking known s x c arguments
    → length arguments ≤ greatest_of Fields
few_arguments known s x c arguments making =
    let many = fits_length (known.layout.fields c) (values_of s.environment arguments) making.fits in
    let long : length (values_of s.environment arguments) ≡ length arguments = length-map arguments (value_of s.environment) in
    let most = known.narrow.few c in omega arith

-- variable x names it
pub names_made : (known : Known) (s : Spot) (x c : ℕ) (arguments : List ℕ) → Here known s → IsMaking known s x c arguments
    → (at : ℕ) → HasValues known.layout (assign (length s.heap) at s.address) known.holds known.base (suc (length s.heap))
    (x ∷ s.bound) (record { variable = x; value = place (length s.heap) } ∷ s.environment) (put x (Some at) s.frame.cells)
names_made known s x c arguments here making at =
    let n = length s.heap in
    let later = assign n at s.address in
    subst (λ w. HasValues known.layout later known.holds known.base (suc n) (x ∷ s.bound)
    (record { variable = x; value = place n } ∷ s.environment) (put x (Some w) s.frame.cells))
    (chosen_same n n at s.address refl)
    (has_bound (has_cell here.values at) x (place n) making.below (fits_place (known.holds x) n making.holds) (omega arith))

-- a cell in hand that has its words is counted
pub counts_made : (known : Known) (s : Spot) (x c : ℕ) (arguments : List ℕ) → Here known s → IsMaking known s x c arguments
    → (f : Frame Line) (at : ℕ) (words : ℕ → Option ℕ) (cells : Cells)
    → Hands known.target.pool known.layout s.address s.owners s.heap at words cells
    → IsBlockOf known.layout s.address
    (record { count = 1; cell = record { made_by = c; fields = values_of s.environment arguments } }) words
    → HasValues known.layout (assign (length s.heap) at s.address) known.holds known.base (suc (length s.heap)) (x ∷ s.bound)
    (record { variable = x; value = place (length s.heap) } ∷ s.environment) f.cells
    → Here known (made_spot s x c (values_of s.environment arguments) at
    (put_in known.base 1 (put_in known.base (header_of known.layout c) f)) cells)
counts_made known s x c arguments here making f at words cells whole shows values =
    let n = length s.heap in
    let cell : Cell = record { made_by = c; fields = values_of s.environment arguments } in
    let counted = built whole at words cell (chosen_same at at (in_hand words) s.owners refl)
    making.older (args_older known s here arguments making.bound) shows in
    record {
      follows = subst (λ o. Follows known.target.pool known.layout (assign n at s.address) o
          (record { count = 1; cell = cell } ∷ s.heap) cells) (twice_owner at (in_hand words) (cell_of n) s.owners) counted;
      values = has_temporary (has_temporary values known.base (header_of known.layout c) (omega arith)) known.base 1 (omega arith);
    }

module _ (known : Known) (rest : List Line) (fs : List (Frame Line)) (s : Spot) (x c : ℕ) (arguments : List ℕ) (lines : List Line)
    (here : Here known s) (making : IsMaking known s x c arguments)
    (constructs : ConstructLines known.base x (header_of known.layout c) arguments lines) where
  vs : List Value
  vs = values_of s.environment arguments

  abbrev pub ws : List ℕ
  ws = words_in known.layout s.address (values_of s.environment arguments)

  abbrev pub header : ℕ
  header = header_of known.layout c

  -- the lines behind the fields, and behind the header
  abbrev tail : List Line
  tail = sets 1 known.base ∷ constructs.2 ∷ []

  abbrev pub behind_take : List Line
  behind_take = sets header known.base ∷ constructs.0 ∷ ((constructs.1 ++ tail) ++ rest)

  pub few : length arguments ≤ greatest_of Fields
  few = few_arguments known s x c arguments making

  -- the frame behind the header, and at the end
  abbrev pub headed : Frame Line → Frame Line
  headed f = put_in known.base header f

  abbrev pub ended_frame : Frame Line → Frame Line
  ended_frame f = put_in known.base 1 (headed f)

  -- values of variables keep their words
  pub ended_spare : (f : Frame Line) (z : ℕ) → z < known.base → (ended_frame f).cells z ≡ f.cells z
  ended_spare f z low =
      put_other known.base z 1 (headed f).cells (λ e. omega (arith, e, low))
      ∙ put_other known.base z header f.cells (λ e. omega (arith, e, low))

  -- the words of the whole cell, from those that were known
  abbrev pub last_words : (ℕ → Option ℕ) → ℕ → Option ℕ
  last_words words = with_word 0 1 (with_words 2 ws (with_word 1 header words))

  abbrev pub HandsOf : ℕ → (ℕ → Option ℕ) → Cells → Type 0
  HandsOf at words cells = Hands known.target.pool known.layout s.address s.owners s.heap at words cells

  -- from a cell in hand, which x names, to the whole cell
  pub fills : (f : Frame Line) (gs : List (Frame Line)) (at : ℕ) (known_words : ℕ → Option ℕ) (world : World)
      → f.cells x ≡ Some at → HaveWords f.cells arguments ws → HandsOf at known_words world.cells
      → (cells : Cells) × Runs known.target (4 * most_moves + 10 + row_cost arguments (most_moves + 3))
      (1 + (1 + (length arguments + (1 + 1))))
      (turn_of behind_take f gs world) (turn_of rest (ended_frame f) gs (with_cells world cells))
      × HandsOf at (last_words known_words) cells
  fills f1 gs at known_words world names have holds =
      let moves = most_moves in
      let target = known.target in
      let low = making.below in
      let f2 = headed f1 in
      let f3 = ended_frame f1 in
      let names_cell : f2.cells x ≡ Some at = put_other known.base x header f1.cells (λ e. omega arith) ∙ names in
      let still_names : f3.cells x ≡ Some at = put_other known.base x 1 f2.cells (λ e. omega arith) ∙ names_cell in
      let first = sets_runs target (constructs.0 ∷ ((constructs.1 ++ tail) ++ rest)) f1 gs world header known.base in
      let c1 = with_block at (own (with_word 1 header known_words)) world.cells in
      let second = store_hand target known.layout s.address s.owners s.heap gs f2 x at names_cell
      ((constructs.1 ++ tail) ++ rest) world 1 known.base header known_words constructs.0 constructs.3
      (put_same known.base header f1.cells) (omega arith) holds in
      let w1 = with_cells world c1 in
      let hold1 = stored target known.layout s.address s.owners s.heap gs f2 x at names_cell 1 header known_words world.cells
      holds in
      let third = stores_run target known.layout s.address s.owners s.heap gs f2 x at names_cell
      (tail ++ rest) arguments ws 2 constructs.1 (with_word 1 header known_words) w1 constructs.4
      (below_words known s here header f1.cells arguments ws making.bound have) (let most = few in omega arith) hold1 in
      let w2 = with_cells w1 third.0 in
      let fourth = sets_runs target (constructs.2 ∷ rest) f2 gs w2 1 known.base in
      let words = with_words 2 ws (with_word 1 header known_words) in
      let fifth = store_hand target known.layout s.address s.owners s.heap gs f3 x at still_names rest w2 0 known.base 1 words
      constructs.2 constructs.5
      (put_same known.base 1 f2.cells) (omega arith) third.2 in
      let c3 = with_block at (own (with_word 0 1 words)) third.0 in
      let hold3 = stored target known.layout s.address s.owners s.heap gs f3 x at still_names 0 1 words third.0 third.2 in
      let row = row_cost arguments (moves + 3) in
      let t1 = turn_of behind_take f1 gs world in
      let t2 = turn_of (constructs.0 ∷ ((constructs.1 ++ tail) ++ rest)) f2 gs world in
      let t3 = turn_of (constructs.1 ++ (tail ++ rest)) f2 gs w1 in
      let t4 = turn_of (tail ++ rest) f2 gs w2 in
      let t5 = turn_of (constructs.2 ∷ rest) f3 gs w2 in
      let t6 = turn_of rest f3 gs (with_cells w2 c3) in
      let last_two : Runs target ((moves + 2) + (moves + 3)) (1 + 1) t4 t6 = runs_then target (moves + 2)
      (moves + 3) 1 1 t4 t5 t6 fourth fifth in
      let from_fields : Runs target (row + ((moves + 2) + (moves + 3))) (length arguments + (1 + 1)) t3 t6 =
      runs_then target row ((moves + 2) + (moves + 3)) (length arguments) (1 + 1) t3 t4 t6 third.1 last_two in
      let to_fields : Runs target (moves + 3) 1 t2 t3 = subst (λ ls. Runs target (moves + 3) 1 t2 (turn_of ls f2 gs w1))
      (append_assoc constructs.1 tail rest) second in
      let from_head : Runs target ((moves + 3) + (row + ((moves + 2) + (moves + 3)))) (1 + (length arguments + (1 + 1))) t2 t6 =
      runs_then target (moves + 3) (row + ((moves + 2) + (moves + 3))) 1 (length arguments + (1 + 1)) t2 t3 t6 to_fields
      from_fields in
      let all : Runs target ((moves + 2) + ((moves + 3) + (row + ((moves + 2) + (moves + 3)))))
      (1 + (1 + (length arguments + (1 + 1)))) t1 t6 =
      runs_then target (moves + 2) ((moves + 3) + (row + ((moves + 2) + (moves + 3)))) 1 (1 + (length arguments + (1 + 1))) t1
      t2 t6 first from_head in
      let cost : (moves + 2) + ((moves + 3) + (row + ((moves + 2) + (moves + 3)))) ≡ 4 * moves + 10 + row = omega arith in
      (c3, subst (λ n. Runs target n (1 + (1 + (length arguments + (1 + 1)))) t1 t6) cost all, hold3)

  abbrev pub n : ℕ
  n = length s.heap

  abbrev pub later : ℕ → ℕ → ℕ
  later at = assign (length s.heap) at s.address

  -- variable x names the cell
  pub names_cell : (at : ℕ) → HasValues known.layout (later at) known.holds known.base (suc n) (x ∷ s.bound)
      (record { variable = x; value = place n } ∷ s.environment) (put x (Some at) s.frame.cells)
  names_cell at = names_made known s x c arguments here making at

  -- the whole cell is counted
  pub counts : (f : Frame Line) (at : ℕ) (known_words : ℕ → Option ℕ) (cells : Cells) → HandsOf at (last_words known_words) cells
      → HasValues known.layout (later at) known.holds known.base (suc n) (x ∷ s.bound)
      (record { variable = x; value = place n } ∷ s.environment) f.cells
      → Here known (made_spot s x c (values_of s.environment arguments) at (ended_frame f) cells)
  counts f at known_words cells whole values =
      counts_made known s x c arguments here making f at (last_words known_words) cells whole
      (words_filled known.layout s.address c (values_of s.environment arguments) known_words making.fits) values

  -- what is set aside stays so, once a cell is counted that was not set aside
  others_aside : (at y : ℕ) → is_aside (s.owners at) ≡ false → is_aside (s.owners y) ≡ true
      → with_owner at (cell_of (length s.heap)) s.owners y ≡ s.owners y
  others_aside at y free is = chosen_other y at (cell_of (length s.heap)) s.owners
      (λ e. let both : true ≡ false = sym is ∙ ap (λ z. is_aside (s.owners z)) e ∙ free in cc)

  others_were : (at y : ℕ) → is_aside (with_owner at (cell_of (length s.heap)) s.owners y) ≡ true
      → with_owner at (cell_of (length s.heap)) s.owners y ≡ s.owners y
  others_were at y = chosen_by (λ o. is_aside o ≡ true → o ≡ s.owners y) y at (cell_of (length s.heap)) s.owners
      (λ e is. cc) (λ differ is. refl)

  -- the cell is counted, where there is a free one
  pub construct_did : busy s.heap + set_aside known.target.pool s.owners < known.target.pool.cells
      → (at : ℕ) × (frame : Frame Line) × (cells : Cells)
      × Did known (construct_cost known arguments) lines rest fs s
      (made_spot s x c (values_of s.environment arguments) at frame cells)
  construct_did room =
      let moves = most_moves in
      let row = row_cost arguments (moves + 3) in
      let took = served here.follows known.aligned (top (left_at behind_take s.frame ∷ fs)) room in
      let at = took.at in
      let f1 = put_in x at s.frame in
      let first = take_runs known.target behind_take s.frame fs s.world x at took.next took.is in
      let filled = fills f1 fs at nothing (with_cells s.world took.next) (put_same x at s.frame.cells)
      (args_words known s here x at arguments making.bound making.apart) took.holds in
      let long : length (values_of s.environment arguments) ≡ length arguments = length-map arguments (value_of s.environment) in
      let t0 = turn_of (lines ++ rest) s.frame fs s.world in
      let t6 = turn_of rest (ended_frame f1) fs (with_cells s.world filled.0) in
      let runs : Runs known.target ((moves + 10) + (4 * moves + 10 + row)) (1 + (1 + (1 + (length arguments + (1 + 1))))) t0 t6 =
      subst (λ ls. Runs known.target ((moves + 10) + (4 * moves + 10 + row)) (1 + (1 + (1 + (length arguments + (1 + 1)))))
      (turn_of (ls ++ rest) s.frame fs s.world) t6) (sym constructs.6)
      (runs_then known.target (moves + 10) (4 * moves + 10 + row) 1 (1 + (1 + (length arguments + (1 + 1))))
      (turn_of (record { action = Calls Take; args = []; into = Some x } ∷ behind_take) s.frame fs s.world)
      (turn_of behind_take f1 fs (with_cells s.world took.next)) t6 first filled.1) in (
        at,
        ended_frame f1,
        filled.0,
        did_here known (construct_cost known arguments) lines rest fs s
            (made_spot s x c (values_of s.environment arguments) at (ended_frame f1) filled.0)
            ((moves + 10) + (4 * moves + 10 + row)) (1 + (1 + (1 + (length arguments + (1 + 1)))))
            (omega (arith, row_more arguments (most_moves + 2), few)) runs (counts f1 at nothing filled.0 filled.2 (names_cell at))
            refl refl (λ y is. others_aside at y (ap is_aside took.free) is) (λ y is. others_were at y is)
            (λ z none. (among_none x s.bound z none).1)
            (λ z low none. ended_spare f1 z low ∙ put_other x z at s.frame.cells (among_none x s.bound z none).0),
      )

  -- the heap is full, where no token is held
  pub full_did : known.target.pool.cells ≤ busy s.heap + set_aside known.target.pool s.owners → top (s.frame ∷ fs) ≡ None
      → Runs known.target (most_moves + 10) 1 (turn_of (lines ++ rest) s.frame fs s.world)
      (ended (exited (number_of OfEnding.HeapFull)) s.world)
  full_did full no_token =
      let none = is_full here.follows known.aligned full in
      subst (λ ls. Runs known.target (most_moves + 10) 1 (turn_of (ls ++ rest) s.frame fs s.world)
      (ended (exited (number_of OfEnding.HeapFull)) s.world)) (sym constructs.6)
      (full_runs known.target behind_take s.frame fs s.world x
      (ap (λ t. request known.target.pool t s.world.cells) no_token ∙ none))
