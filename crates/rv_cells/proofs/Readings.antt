-- Runs of the lines of a reading, of which one may come behind the others.
use Rattle.std.proofs.Common.{◌≡◌, ◌≢◌, ◌≤◌, ℕ, suc, ◌+◌, ◌==◌, Bool, false, inl, inr, cond, List, [], ◌∷◌, ◌++◌, length, Option, Some, refl, sym, ◌∙◌, ap, subst, arith, append_assoc}
use Rattle.std.proofs.lemmas.Bool.{cases_eq}
use Rattle.kk_syntax.specs.Shapes.{is_among}
use Rattle.kk_source.specs.State.{Environment}
use Rattle.kk_counted.specs.CountedMachine.{Named}
use Rattle.rv_isa.specs.Numbers.{cell_words}
use Rattle.rv_isa.specs.AsmCode.{Line}
use Rattle.rv_isa.specs.Frames.{Frame, put}
use Rattle.cell_heap.specs.Blocks.{own}
use Rattle.cell_runtime.specs.World.{World}
use Rattle.rv_lower.proofs.FormEffects.{put_same, put_other}
use Rattle.rv_cells.specs.Layout.{Layout, words_in, first_field}
use Rattle.rv_cells.specs.CountedCells.{AreFrom}
use Rattle.rv_cells.specs.CellLines.{ReadLines}
use Rattle.rv_cells.proofs.LineCosts.{most_moves, row_cost}
use Rattle.rv_cells.proofs.Words.{load_own}
use Rattle.rv_cells.proofs.Values.{HasValues, put_list, among_none, list_grown, list_spared}
use Rattle.rv_cells.proofs.Runs.{Target, turn_of, Runs, runs_then}
use Rattle.rv_cells.proofs.CellActions.{put_in, load_runs}
use Rattle.rv_cells.proofs.Spots.{Spot, Known, Here, Did, did_here}
use Rattle.rv_cells.proofs.Rows.{loads_run, with_fields, IsReading, fields_there, read_did}
use Rattle.rv_cells.proofs.ReadingLines.{LoadsLast, one_last}

-- ---- values that are written in another order

put_list_other : (xs ws : List ℕ) (z : ℕ) (values : ℕ → Option ℕ) → is_among xs z ≡ false → put_list xs ws values z ≡ values z
put_list_other [] ws z values none = refl
put_list_other (x ∷ xs) [] z values none = refl
put_list_other (x ∷ xs) (w ∷ ws) z values none =
    let beside = among_none x xs z none in
    put_list_other xs ws z (put x (Some w) values) beside.1 ∙ put_other x z w values beside.0

put_list_same : (xs ws : List ℕ) (values others : ℕ → Option ℕ) → ((z : ℕ) → values z ≡ others z) → (z : ℕ)
    → put_list xs ws values z ≡ put_list xs ws others z
put_list_same [] ws values others same z = same z
put_list_same (x ∷ xs) [] values others same z = same z
put_list_same (x ∷ xs) (w ∷ ws) values others same z =
    put_list_same xs ws (put x (Some w) values) (put x (Some w) others)
    (λ y. ap (λ (o : Option ℕ). cond (y == x) (Some w) o) (same y)) z

put_swapped : (x y v w : ℕ) (values : ℕ → Option ℕ) → y ≢ x → (z : ℕ)
    → put y (Some w) (put x (Some v) values) z ≡ put x (Some v) (put y (Some w) values) z
put_swapped x y v w values apart z =
    elim (cases_eq z y) [
      | inl same ↦
          subst (λ a. put y (Some w) (put x (Some v) values) a ≡ put x (Some v) (put y (Some w) values) a) (sym same)
          (put_same y w (put x (Some v) values) ∙ sym (put_other x y v (put y (Some w) values) apart ∙ put_same y w values))
      | inr differ ↦
          put_other y z w (put x (Some v) values) differ
          ∙ ap (λ (o : Option ℕ). cond (z == x) (Some v) o) (sym (put_other y z w values differ))
    ]

-- a value is written behind a list in which it does not stand, as before it
put_last : (xs ws : List ℕ) (y w : ℕ) (values : ℕ → Option ℕ) → is_among xs y ≡ false → (z : ℕ)
    → put y (Some w) (put_list xs ws values) z ≡ put_list xs ws (put y (Some w) values) z
put_last [] ws y w values none z = refl
put_last (x ∷ xs) [] y w values none z = refl
put_last (x ∷ xs) (v ∷ ws) y w values none z =
    let beside = among_none x xs y none in
    put_last xs ws y w (put x (Some v) values) beside.1 z
    ∙ put_list_same xs ws (put y (Some w) (put x (Some v) values)) (put x (Some v) (put y (Some w) values))
    (put_swapped x y v w values beside.0) z

has_same : {layout : Layout} {address : ℕ → ℕ} {holds : ℕ → Bool} {base next : ℕ} {bound : List ℕ} {environment : Environment}
    {values others : ℕ → Option ℕ} → ((z : ℕ) → others z ≡ values z)
    → HasValues layout address holds base next bound environment values
    → HasValues layout address holds base next bound environment others
has_same same has = record {
  below = has.below;
  words = λ x among. same x ∙ has.words x among;
  fits = has.fits;
  older = has.older;
}

-- ---- loads, of which one comes behind the others

-- they lead to these values of a frame
abbrev LeadsTo : Target → List Line → List (Frame Line) → World → List ℕ → List ℕ → List Line → Frame Line → Type 0
LeadsTo target rest fs world xs ws lines f =
    (cells : ℕ → Option ℕ) × ((z : ℕ) → cells z ≡ put_list xs ws f.cells z)
    × Runs target (row_cost xs (most_moves + 2)) (length xs) (turn_of (lines ++ rest) f fs world)
    (turn_of rest (record f { cells = cells }) fs world)

module _ (target : Target) (rest : List Line) (fs : List (Frame Line)) (world : World) (cell at : ℕ) (words : ℕ → Option ℕ)
    (is : world.cells.blocks at ≡ own words) where
  last_run : (before : List ℕ) (y : ℕ) (after ws : List ℕ) (i : ℕ) (lines : List Line) (f : Frame Line)
      → LoadsLast cell i before y after lines → f.cells cell ≡ Some at → AreFrom words i ws
      → length (before ++ (y ∷ after)) ≡ length ws → i + length (before ++ (y ∷ after)) ≤ cell_words
      → is_among (before ++ (y ∷ after)) cell ≡ false → is_among (before ++ after) y ≡ false
      → LeadsTo target rest fs world (before ++ (y ∷ after)) ws lines f
  last_run [] y after [] i lines f loads there known many few apart once = absurd (omega (arith, many))
  last_run [] y after (w ∷ ws) i lines f loads there known many few apart once =
      let beside = among_none y after cell apart in
      let cost = most_moves + 2 in
      let others : Frame Line = record f { cells = put_list after ws f.cells } in
      let more = loads_run target (loads.1 ∷ rest) fs world cell at words is after ws (suc i) loads.0 f loads.2 there known.1
      (omega (arith, many)) (omega (arith, few)) beside.1 in
      let last = load_runs target rest others fs world cell i y at w loads.1 loads.3
      (put_list_other after ws cell f.cells beside.1 ∙ there)
      (load_own world.cells at i w words is (omega (arith, few)) known.0) in
      let end = turn_of rest (put_in y w others) fs world in
      let start = turn_of (loads.0 ++ (loads.1 ∷ rest)) f fs world in
      let summed : row_cost after cost + cost ≡ row_cost (y ∷ after) cost = omega arith in
      let one_more : length after + 1 ≡ length (y ∷ after) = omega arith in (
        put y (Some w) (put_list after ws f.cells),
        put_last after ws y w f.cells once,
        subst (λ ls. Runs target (row_cost (y ∷ after) cost) (suc (length after)) (turn_of ls f fs world) end)
            (sym (ap (λ ls. ls ++ rest) loads.4 ∙ append_assoc loads.0 (loads.1 ∷ []) rest))
            (subst (λ n. Runs target n (suc (length after)) start end) summed
            (subst (λ n. Runs target (row_cost after cost + cost) n start end) one_more
            (runs_then target (row_cost after cost) cost (length after) 1 start (turn_of (loads.1 ∷ rest) others fs world) end more
            last))),
      )
  last_run (x ∷ before) y after [] i lines f loads there known many few apart once = absurd (omega (arith, many))
  last_run (x ∷ before) y after (w ∷ ws) i lines f loads there known many few apart once =
      let xs = before ++ (y ∷ after) in
      let beside = among_none x xs cell apart in
      let cost = most_moves + 2 in
      let next = put_in x w f in
      let first = load_runs target (loads.1 ++ rest) f fs world cell i x at w loads.0 loads.2 there
      (load_own world.cells at i w words is (omega (arith, few)) known.0) in
      let later = last_run before y after ws (suc i) loads.1 next loads.3 (put_other x cell w f.cells beside.0 ∙ there) known.1
      (omega (arith, many)) (omega (arith, few)) beside.1 (among_none x (before ++ after) y once).1 in
      let end = turn_of rest (record f { cells = later.0 }) fs world in
      let one_more : 1 + length xs ≡ suc (length xs) = omega arith in (
        later.0,
        later.1,
        subst (λ ls. Runs target (row_cost (x ∷ xs) cost) (suc (length xs)) (turn_of (ls ++ rest) f fs world) end) (sym loads.4)
            (subst (λ n. Runs target (row_cost (x ∷ xs) cost) n (turn_of ((loads.0 ∷ loads.1) ++ rest) f fs world) end) one_more
            (runs_then target cost (row_cost xs cost) 1 (length xs) (turn_of (loads.0 ∷ (loads.1 ++ rest)) f fs world)
            (turn_of (loads.1 ++ rest) next fs world) end first later.2)),
      )

-- ---- readings

-- the values of the frame behind a reading
abbrev pub reading_values : Known → Spot → List ℕ → Named → ℕ → Option ℕ
reading_values known s fields named = put_list fields (words_in known.layout s.address named.fields) s.frame.cells

-- a spot with such values in its frame
abbrev pub with_values : Spot → (ℕ → Option ℕ) → Spot
with_values s values = record s { frame = record s.frame { cells = values } }

-- a reading leads to the spot with its fields, whose frame has the same values
abbrev pub ReadingDid : Known → List Line → List (Frame Line) → Spot → List ℕ → Named → List Line → Type 0
ReadingDid known rest fs s fields named lines =
    (values : ℕ → Option ℕ)
    × Did known (row_cost fields (most_moves + 2)) lines rest fs s
    (with_values (with_fields known.layout s fields named.fields) values)

last_did : (known : Known) (rest : List Line) (fs : List (Frame Line)) (s : Spot) (x c : ℕ) (lines : List Line) (named : Named)
    (before : List ℕ) (y : ℕ) (after : List ℕ) → Here known s → IsReading known s x c (before ++ (y ∷ after)) named
    → LoadsLast x first_field before y after lines → is_among (before ++ after) y ≡ false
    → ReadingDid known rest fs s (before ++ (y ∷ after)) named lines
last_did known rest fs s x c lines named before y after here reads loads once =
    let fields = before ++ (y ∷ after) in
    let words = words_in known.layout s.address named.fields in
    let are = fields_there known s x c fields named here reads in
    let done = last_run known.target rest fs s.world x (s.address named.at) are.block are.is before y after words first_field lines
    s.frame loads are.there are.words are.many are.few reads.apart once in (
      done.0,
      did_here known (row_cost fields (most_moves + 2)) lines rest fs s
          (with_values (with_fields known.layout s fields named.fields) done.0) (row_cost fields (most_moves + 2)) (length fields)
          (omega arith) done.2 (record { follows = are.here.follows; values = has_same done.1 are.here.values }) refl refl
          (λ at is. refl) (λ at is. refl) (λ z none. list_grown fields s.bound z none)
          (λ z low none. done.1 z ∙ list_spared fields words s.bound z s.frame.cells none),
    )

pub reading_did : (known : Known) (rest : List Line) (fs : List (Frame Line)) (s : Spot) (x c : ℕ) (fields : List ℕ)
    (lines : List Line) (named : Named) → Here known s → IsReading known s x c fields named → ReadLines x fields lines
    → ReadingDid known rest fs s fields named lines
reading_did known rest fs s x c fields lines named here reads (inl loads) =
    (reading_values known s fields named, read_did known rest fs s x c fields lines named here reads loads)
reading_did known rest fs s x c fields lines named here reads (inr loads) =
    subst (λ xs. ReadingDid known rest fs s xs named lines) (sym loads.6.0)
    (last_did known rest fs s x c lines named loads.0 loads.1 loads.2 here
    (subst (λ xs. IsReading known s x c xs named) loads.6.0 reads) (one_last x fields lines loads) loads.6.1)
