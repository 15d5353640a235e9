-- A spot in a run of lines: a counted heap with its cells, and a frame with its variables. Lines lead from one to another.
use Rattle.std.proofs.Common.{◌≡◌, ◌<◌, ◌≤◌, ℕ, zero, suc, ◌+◌, ◌*◌, ◌%◌, ◌^◌, Bool, true, false, List, [], ◌∷◌, ◌++◌, length, Some, None, refl, sym, ◌∙◌, ap, subst, arith, append_assoc}
use Rattle.kk_syntax.specs.Shapes.{is_among}
use Rattle.kk_source.specs.State.{Value, integer, unit, constant, place, Environment}
use Rattle.kk_source.specs.Live.{value_of}
use Rattle.kk_counted.specs.Heaps.{Heap, count_at, set_count, more, busy, weight, dup_value, drop_value, give_up, fields_held}
use Rattle.kk_counted.proofs.CountChanges.{set_length}
use Rattle.kk_counted.proofs.Cost.{dup_weight}
use Rattle.std.specs.Prelude.{if◌then◌else◌}
use Rattle.rv_isa.specs.declared.asm.Action.TheVariants.{Compute, Routine as Calls}
use Rattle.rv_isa.specs.declared.asm.Operation.TheVariants as Op
use Rattle.rv_isa.specs.declared.routine.Routine.TheVariants.{Drop}
use Rattle.rv_lower.specs.Lines.{acts}
use Rattle.rv_isa.specs.AsmCode.{Line}
use Rattle.rv_isa.specs.Frames.{Frame}
use Rattle.rv_isa.specs.Numbers.{cell_size}
use Rattle.cell_heap.specs.Blocks.{Cells, merged_cells}
use Rattle.cell_runtime.specs.World.{World, with_cells}
use Rattle.cell_runtime.specs.Drops.{given_cost, freed_cost, most_drop_cost}
use Rattle.rv_cells.specs.Layout.{Layout, IsNarrow, word_in, FitsField}
use Rattle.rv_cells.specs.CountedCells.{Owner, nobody, cell_of, in_hand, kept_aside, Follows, still, still_count, is_aside}
use Rattle.rv_cells.specs.CellLines.{dup_lines, drop_lines}
use Rattle.rv_cells.proofs.NameContents.{some-is}
use Rattle.rv_cells.proofs.Values.{HasValues}
use Rattle.rv_cells.proofs.Cascades.{busy_set}
use Rattle.rv_cells.proofs.Counts.{dupped}
use Rattle.rv_cells.proofs.Drops.{drops, drop_paid}
use Rattle.rv_cells.proofs.Runs.{Target, turn_of, Runs, runs_none, runs_then}
use Rattle.rv_cells.proofs.CellActions.{dup_runs, drop_runs}
use Rattle.rv_cells.proofs.LineCosts.{most_moves}

pub record Spot : Type 0 where
  pub address : ℕ → ℕ
  pub owners : ℕ → Owner
  pub heap : Heap
  pub bound : List ℕ
  pub environment : Environment
  pub frame : Frame Line
  pub world : World

-- what is known of a program: how its values look, which of its variables are of types with cells, and where temporaries begin
pub record Known : Type 0 where
  pub target : Target
  pub layout : Layout
  pub holds : ℕ → Bool
  pub base : ℕ
  pub aligned : target.pool.first % cell_size ≡ 0
  pub narrow : IsNarrow layout

pub record Here (known : Known) (s : Spot) : Type 0 where
  pub follows : Follows known.target.pool known.layout s.address s.owners s.heap s.world.cells
  pub values : HasValues known.layout s.address known.holds known.base (length s.heap) s.bound s.environment s.frame.cells

-- what a heap has saved for drops
abbrev pub saved : Heap → ℕ
saved heap = freed_cost * busy heap + given_cost * weight heap

-- Lines lead from a spot to another, at this cost beyond what was saved. What is set aside stays so. The frame is in the same
-- function and holds the same tokens, and of its values only these change: those of variables that become bound, and temporaries.
pub record Did (known : Known) (most : ℕ) (lines rest : List Line) (fs : List (Frame Line)) (s t : Spot) : Type 0 where
  pub cost : ℕ
  pub steps : ℕ
  pub within : cost + saved t.heap ≤ most + saved s.heap
  pub runs : Runs known.target cost steps (turn_of (lines ++ rest) s.frame fs s.world) (turn_of rest t.frame fs t.world)
  pub here : Here known t
  pub aside : (at : ℕ) → is_aside (s.owners at) ≡ true → t.owners at ≡ s.owners at
  pub was : (at : ℕ) → is_aside (t.owners at) ≡ true → t.owners at ≡ s.owners at
  pub grown : (z : ℕ) → is_among t.bound z ≡ false → is_among s.bound z ≡ false
  pub spared : (z : ℕ) → z < known.base → is_among t.bound z ≡ false → t.frame.cells z ≡ s.frame.cells z
  pub left : t.world.left ≡ s.world.left
  pub whole : t.frame.whole ≡ s.frame.whole
  pub function : t.frame.function ≡ s.frame.function
  pub held : t.frame.held ≡ s.frame.held

-- Lines lead so where of the world they change the cells alone, and of the frame values alone.
pub did_here : (known : Known) (most : ℕ) (lines rest : List Line) (fs : List (Frame Line)) (s t : Spot) (cost steps : ℕ)
    → cost + saved t.heap ≤ most + saved s.heap
    → Runs known.target cost steps (turn_of (lines ++ rest) s.frame fs s.world) (turn_of rest t.frame fs t.world)
    → Here known t → t.world ≡ with_cells s.world t.world.cells → t.frame ≡ record s.frame { cells = t.frame.cells }
    → ((at : ℕ) → is_aside (s.owners at) ≡ true → t.owners at ≡ s.owners at)
    → ((at : ℕ) → is_aside (t.owners at) ≡ true → t.owners at ≡ s.owners at)
    → ((z : ℕ) → is_among t.bound z ≡ false → is_among s.bound z ≡ false)
    → ((z : ℕ) → z < known.base → is_among t.bound z ≡ false → t.frame.cells z ≡ s.frame.cells z)
    → Did known most lines rest fs s t
did_here known most lines rest fs s t cost steps within runs here world_is frame_is aside was grown spared = record {
  cost = cost;
  steps = steps;
  within = within;
  runs = runs;
  here = here;
  aside = aside;
  was = was;
  grown = grown;
  spared = spared;
  left = ap (λ (w : World). w.left) world_is;
  whole = ap (λ (f : Frame Line). f.whole) frame_is;
  function = ap (λ (f : Frame Line). f.function) frame_is;
  held = ap (λ (f : Frame Line). f.held) frame_is;
}

did_idle : (known : Known) (most : ℕ) (rest : List Line) (fs : List (Frame Line)) (s : Spot) → Here known s
    → Did known most [] rest fs s s
did_idle known most rest fs s here =
    did_here known most [] rest fs s s 0 0 (omega arith) (runs_none known.target (turn_of rest s.frame fs s.world)) here refl refl
    (λ at is. refl) (λ at is. refl) (λ z none. none) (λ z low none. refl)

pub did_none : (known : Known) (rest : List Line) (fs : List (Frame Line)) (s : Spot) → Here known s → Did known 0 [] rest fs s s
did_none known rest fs s here = did_idle known 0 rest fs s here

pub did_then : (known : Known) (most others : ℕ) (lines more rest : List Line) (fs : List (Frame Line)) (s t u : Spot)
    → Did known most lines (more ++ rest) fs s t → Did known others more rest fs t u → Did known (most + others)
    (lines ++ more) rest fs s u
did_then known most others lines more rest fs s t u first second =
    let cheap = first.within in
    let cheap_too = second.within in
    record {
      cost = first.cost + second.cost;
      steps = first.steps + second.steps;
      within = omega arith;
      runs = subst (λ ls. Runs known.target (first.cost + second.cost) (first.steps + second.steps) (turn_of ls s.frame fs s.world)
          (turn_of rest u.frame fs u.world)) (sym (append_assoc lines more rest))
          (runs_then known.target first.cost second.cost first.steps second.steps
          (turn_of (lines ++ (more ++ rest)) s.frame fs s.world) (turn_of (more ++ rest) t.frame fs t.world)
          (turn_of rest u.frame fs u.world) first.runs second.runs);
      here = second.here;
      aside = λ at is. let one = first.aside at is in second.aside at (ap is_aside one ∙ is) ∙ one;
      was = λ at is. let two = second.was at is in two ∙ first.was at (sym (ap is_aside two) ∙ is);
      grown = λ z none. first.grown z (second.grown z none);
      spared = λ z low none. second.spared z low none ∙ first.spared z low (second.grown z none);
      left = second.left ∙ first.left;
      whole = second.whole ∙ first.whole;
      function = second.function ∙ first.function;
      held = second.held ∙ first.held;
    }

-- the same cells are set aside
pub did_aside : {known : Known} {most : ℕ} {lines rest : List Line} {fs : List (Frame Line)} {s t : Spot}
    → Did known most lines rest fs s t → (at : ℕ) → is_aside (t.owners at) ≡ is_aside (s.owners at)
did_aside {s = s} {t = t} did at = by (is_aside (t.owners at)) refl (is_aside (s.owners at)) refl
  where
    by : (b : Bool) → is_aside (t.owners at) ≡ b → (c : Bool) → is_aside (s.owners at) ≡ c → b ≡ c
    by true is c was = sym is ∙ ap is_aside (did.was at is) ∙ was
    by false is true was = sym is ∙ ap is_aside (did.aside at was) ∙ was
    by false is false was = refl

-- ---- heaps of the same cells

more_length : (at n : ℕ) (heap next : Heap) → more at n heap ≡ Some next → length next ≡ length heap
more_length at zero heap next is = cc
more_length at (suc n) heap next is = ap length (sym (some-is is)) ∙ set_length at (suc (suc n)) heap

pub dup_length : (v : Value) (heap next : Heap) → dup_value v heap ≡ Some next → length next ≡ length heap
dup_length (integer n) heap next is = ap length (sym (some-is is))
dup_length unit heap next is = ap length (sym (some-is is))
dup_length (constant c) heap next is = ap length (sym (some-is is))
dup_length (place at) heap next is = more_length at (count_at heap at) heap next is

more_busy : (at n : ℕ) (heap next : Heap) → count_at heap at ≡ n → more at n heap ≡ Some next → busy next ≡ busy heap
more_busy at zero heap next counts is = cc
more_busy at (suc n) heap next counts is =
    let same = ap busy (sym (some-is is)) in
    let change = busy_set at (suc (suc n)) n heap counts in omega arith

pub dup_busy : (v : Value) (heap next : Heap) → dup_value v heap ≡ Some next → busy next ≡ busy heap
dup_busy (integer n) heap next is = ap busy (sym (some-is is))
dup_busy unit heap next is = ap busy (sym (some-is is))
dup_busy (constant c) heap next is = ap busy (sym (some-is is))
dup_busy (place at) heap next is = more_busy at (count_at heap at) heap next refl is

-- a value of a type without cells is no cell's
dup_plain : (v : Value) (heap next : Heap) → FitsField false v → dup_value v heap ≡ Some next → heap ≡ next
dup_plain (integer n) heap next fits is = some-is is
dup_plain unit heap next fits is = some-is is
dup_plain (constant c) heap next fits is = some-is is
dup_plain (place at) heap next fits is = absurd fits

drop_plain : (v : Value) (heap next : Heap) → FitsField false v → drop_value v heap ≡ Some next → heap ≡ next
drop_plain (integer n) heap next fits is = given (weight heap) is
  where
    given : (turns : ℕ) → give_up turns [] heap ≡ Some next → heap ≡ next
    given zero is = some-is is
    given (suc turns) is = some-is is
drop_plain unit heap next fits is = given (weight heap) is
  where
    given : (turns : ℕ) → give_up turns [] heap ≡ Some next → heap ≡ next
    given zero is = some-is is
    given (suc turns) is = some-is is
drop_plain (constant c) heap next fits is = given (weight heap) is
  where
    given : (turns : ℕ) → give_up turns [] heap ≡ Some next → heap ≡ next
    given zero is = some-is is
    given (suc turns) is = some-is is
drop_plain (place at) heap next fits is = absurd fits

give_one : (turns at : ℕ) (vs : List Value) (heap next : Heap) (n : ℕ) → count_at heap at ≡ n
    → give_up (suc turns) (place at ∷ vs) heap ≡ Some next
    → ((ws : List Value) (other : Heap) → give_up turns ws other ≡ Some next → length next ≡ length other)
    → length next ≡ length heap
give_one turns at vs heap next zero counts is again =
    let none : give_up (suc turns) (place at ∷ vs) heap ≡ None = rw (counts, give_up) refl in
    let both = sym none ∙ is in cc
give_one turns at vs heap next (suc zero) counts is again =
    let step : give_up (suc turns) (place at ∷ vs) heap ≡ give_up turns (fields_held heap at ++ vs) (set_count at 0 heap) = rw
    (counts, give_up) refl in
    again (fields_held heap at ++ vs) (set_count at 0 heap) (sym step ∙ is) ∙ set_length at 0 heap
give_one turns at vs heap next (suc (suc others)) counts is again =
    let step : give_up (suc turns) (place at ∷ vs) heap ≡ give_up turns vs (set_count at (suc others) heap) = rw
    (counts, give_up) refl in
    again vs (set_count at (suc others) heap) (sym step ∙ is) ∙ set_length at (suc others) heap

give_length : (turns : ℕ) (vs : List Value) (heap next : Heap) → give_up turns vs heap ≡ Some next → length next ≡ length heap
give_length zero [] heap next is = ap length (sym (some-is is))
give_length (suc turns) [] heap next is = ap length (sym (some-is is))
give_length zero (v ∷ vs) heap next is = cc
give_length (suc turns) (integer n ∷ vs) heap next is = give_length turns vs heap next is
give_length (suc turns) (unit ∷ vs) heap next is = give_length turns vs heap next is
give_length (suc turns) (constant c ∷ vs) heap next is = give_length turns vs heap next is
give_length (suc turns) (place at ∷ vs) heap next is =
    give_one turns at vs heap next (count_at heap at) refl is (λ ws other given. give_length turns ws other next given)

pub drop_length : (v : Value) (heap next : Heap) → drop_value v heap ≡ Some next → length next ≡ length heap
drop_length v heap next is = give_length (suc (weight heap)) (v ∷ []) heap next is

-- ---- one reference more, and one less

abbrev pub with_heap : Spot → Heap → (ℕ → Owner) → Cells → Spot
with_heap s next owners cells = record s { heap = next; owners = owners; world = with_cells s.world cells }

-- counts stay below 2^32 for so many references more
abbrev pub AreSmall : ℕ → Heap → Type 0
AreSmall n heap = (name : ℕ) → n + count_at heap name < 2 ^ 32

values_there : (known : Known) (s : Spot) (next : Heap) → length next ≡ length s.heap → Here known s
    → HasValues known.layout s.address known.holds known.base (length next) s.bound s.environment s.frame.cells
values_there known s next long here =
    subst (λ n. HasValues known.layout s.address known.holds known.base n s.bound s.environment s.frame.cells)
    (sym long) here.values

still_aside : (next : Heap) (owner : Owner) → is_aside owner ≡ true → still next owner ≡ owner
still_aside next nobody is = cc
still_aside next (cell_of name) is = cc
still_aside next (in_hand words) is = refl
still_aside next (kept_aside words) is = refl

still_was : (next : Heap) (owner : Owner) → is_aside (still next owner) ≡ true → still next owner ≡ owner
still_was next nobody is = cc
still_was next (in_hand words) is = refl
still_was next (kept_aside words) is = refl
still_was next (cell_of name) is = by (count_at next name) is
  where
    by : (n : ℕ) → is_aside (still_count n name) ≡ true → still_count n name ≡ cell_of name
    by zero is = cc
    by (suc n) is = cc

-- a spot at which the lines of a form have come
abbrev pub Changed : Known → ℕ → List Line → List Line → List (Frame Line) → Spot → Heap → Type 0
Changed known most lines rest fs s next =
    (owners : ℕ → Owner) × (cells : Cells) × Did known most lines rest fs s (with_heap s next owners cells)

-- a heap that is the same
same_did : (known : Known) (most : ℕ) (rest : List Line) (fs : List (Frame Line)) (s : Spot) (next : Heap) → Here known s
    → s.heap ≡ next → Changed known most [] rest fs s next
same_did known most rest fs s next here same = (
  s.owners,
  s.world.cells,
  subst (λ h. Did known most [] rest fs s (with_heap s h s.owners s.world.cells)) same (did_idle known most rest fs s here),
)

module _ (known : Known) (rest : List Line) (fs : List (Frame Line)) (s : Spot) (here : Here known s) (x : ℕ)
    (bound : is_among s.bound x ≡ true) (next : Heap) where
  dup_by : (b : Bool) → FitsField b (value_of s.environment x) → dup_value (value_of s.environment x) s.heap ≡ Some next
      → AreSmall 1 s.heap
      → Changed known (most_moves + 5) (if b then acts (Compute Op.Dup) (x ∷ []) ∷ [] else []) rest fs s next
  dup_by false fits is small = same_did known (most_moves + 5) rest fs s next here
      (dup_plain (value_of s.environment x) s.heap next fits is)
  dup_by true fits is small =
      let done = dupped here.follows (value_of s.environment x) next fits is (λ name. let all = small name in omega arith) in
      let long = dup_length (value_of s.environment x) s.heap next is in
      let cells = dup_busy (value_of s.environment x) s.heap next is in
      let fields = dup_weight (value_of s.environment x) s.heap next is in (
        s.owners,
        done.now,
        did_here known (most_moves + 5) (acts (Compute Op.Dup) (x ∷ []) ∷ []) rest fs s (with_heap s next s.owners done.now)
            (most_moves + 5) 1 (omega arith)
            (dup_runs known.target rest s.frame fs s.world x (word_in known.layout s.address (value_of s.environment x)) done.now
            (here.values.words x bound) done.is)
            (record { follows = done.holds; values = values_there known s next long here }) refl refl (λ at is. refl)
            (λ at is. refl) (λ z none. none) (λ z low none. refl),
      )

  -- a dup
  pub dup_did : dup_value (value_of s.environment x) s.heap ≡ Some next → AreSmall 1 s.heap → Changed known (most_moves + 5)
      (dup_lines known.holds x) rest fs s next
  dup_did is small = dup_by (known.holds x) (here.values.fits x bound) is small

  drop_by : (b : Bool) → FitsField b (value_of s.environment x) → drop_value (value_of s.environment x) s.heap ≡ Some next
      → Changed known (most_moves + 15) (if b then acts (Calls Drop) (x ∷ []) ∷ [] else []) rest fs s next
  drop_by false fits is = same_did known (most_moves + 15) rest fs s next here
      (drop_plain (value_of s.environment x) s.heap next fits is)
  drop_by true fits is =
      let word = word_in known.layout s.address (value_of s.environment x) in
      let done = drops known.aligned known.narrow here.follows (value_of s.environment x) next fits is in
      let paid = drop_paid (value_of s.environment x) s.heap next done.work is done.few done.freed in
      let long = drop_length (value_of s.environment x) s.heap next is in (
        (λ at. still next (s.owners at)),
        merged_cells done.work s.world.cells,
        did_here known (most_moves + 15) (acts (Calls Drop) (x ∷ []) ∷ []) rest fs s
            (with_heap s next (λ at. still next (s.owners at)) (merged_cells done.work s.world.cells))
            (most_drop_cost done.work.gave done.work.freed + (most_moves + 2)) 1 (omega arith)
            (drop_runs known.target rest s.frame fs s.world x word done.work (here.values.words x bound) done.is)
            (record { follows = done.holds; values = values_there known s next long here }) refl refl
            (λ at is. still_aside next (s.owners at) is) (λ at is. still_was next (s.owners at) is) (λ z none. none)
            (λ z low none. refl),
      )

  -- a drop with all that it frees
  pub drop_did : drop_value (value_of s.environment x) s.heap ≡ Some next
      → Changed known (most_moves + 15) (drop_lines known.holds x) rest fs s next
  drop_did is = drop_by (known.holds x) (here.values.fits x bound) is
