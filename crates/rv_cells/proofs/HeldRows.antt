-- Rows of tokens of one frame are held, and taken back.
use Rattle.std.proofs.Common.{◌≡◌, ◌≢◌, ◌⊎◌, inl, inr, ℕ, zero, suc, ◌+◌, ◌==◌, Bool, true, false, List, [], ◌∷◌, ◌++◌, length, Option, Some, None, refl, sym, ◌∙◌, ap, subst, arith, append_assoc}
use Rattle.std.specs.Prelude.{◌||◌}
use Rattle.rv_isa.specs.AsmCode.{Line}
use Rattle.rv_isa.specs.Frames.{Frame, is_among}
use Rattle.cell_heap.specs.Blocks.{Cells, past_links}
use Rattle.kk_counted.specs.Heaps.{Heap}
use Rattle.cell_runtime.specs.World.{World, with_cells}
use Rattle.rv_cells.specs.Layout.{Layout}
use Rattle.rv_cells.specs.CountedCells.{Owner, in_hand, kept_aside, Follows, with_owner}
use Rattle.rv_cells.specs.CellLines.{hold_line, hold_lines, unhold_lines}
use Rattle.rv_cells.proofs.Owners.{chosen_other}
use Rattle.rv_cells.proofs.Counts.{put_aside, taken_back}
use Rattle.rv_cells.proofs.LineCosts.{most_moves, row_cost}
use Rattle.rv_cells.proofs.Runs.{Target, turn_of, Runs, runs_none, runs_then}
use Rattle.rv_cells.proofs.HeldTokens.{takes_back, holding_now, hold_runs, hold_null_runs, unhold_runs, unhold_null_runs}

-- ---- tokens of a frame

-- The value of a token is 0, or the address of a cell, of which words are known, and which is in hand or held.
abbrev pub IsToken : ((ℕ → Option ℕ) → Owner) → (ℕ → Owner) → Option ℕ → Type 0
IsToken stands owners value =
    (value ≡ Some 0) ⊎ ((at : ℕ) × (words : ℕ → Option ℕ) × (value ≡ Some at) × (at ≢ 0) × (owners at ≡ stands words))

-- no value of these is of a cell's address
abbrev pub NoneHas : (ℕ → Option ℕ) → ℕ → List ℕ → Type 0
NoneHas values at [] = Unit {0}
NoneHas values at (z ∷ zs) = (values z ≢ Some at) × NoneHas values at zs

-- these values are tokens; each is another value, and has another cell
abbrev pub AreTokensIn : ((ℕ → Option ℕ) → Owner) → (ℕ → Owner) → (ℕ → Option ℕ) → List ℕ → Type 0
AreTokensIn stands owners values [] = Unit {0}
AreTokensIn stands owners values (z ∷ zs) =
    IsToken stands owners (values z) × (is_among z zs ≡ false) × ((at : ℕ) → at ≢ 0 → values z ≡ Some at → NoneHas values at zs)
    × AreTokensIn stands owners values zs

-- those of them that are not null
abbrev pub live_with : Option ℕ → ℕ → List ℕ → List ℕ
live_with None z rest = z ∷ rest
live_with (Some zero) z rest = rest
live_with (Some (suc n)) z rest = z ∷ rest

abbrev pub live : (ℕ → Option ℕ) → List ℕ → List ℕ
live values [] = []
live values (z ∷ zs) = live_with (values z) z (live values zs)

pub live_null : (value : Option ℕ) (z : ℕ) (rest : List ℕ) → value ≡ Some 0 → live_with value z rest ≡ rest
live_null value z rest is = ap (λ v. live_with v z rest) is

pub live_cell : (value : Option ℕ) (at z : ℕ) (rest : List ℕ) → value ≡ Some at → at ≢ 0 → live_with value z rest ≡ z ∷ rest
live_cell value zero z rest is some = absurd (some refl)
live_cell value (suc n) z rest is some = ap (λ v. live_with v z rest) is

-- ---- owners of their cells

abbrev pub as_held : Owner → Owner
as_held (in_hand words) = kept_aside words
as_held owner = owner

abbrev pub as_back : Owner → Owner
as_back (kept_aside words) = in_hand (past_links words)
as_back owner = owner

abbrev pub one_turned : (Owner → Owner) → Option ℕ → (ℕ → Owner) → ℕ → Owner
one_turned turn None owners = owners
one_turned turn (Some zero) owners = owners
one_turned turn (Some (suc n)) owners = with_owner (suc n) (turn (owners (suc n))) owners

-- the cells of these values are held, the first of them last; and taken back from the first one on
abbrev pub all_held : (ℕ → Option ℕ) → List ℕ → (ℕ → Owner) → ℕ → Owner
all_held values [] owners = owners
all_held values (z ∷ zs) owners = one_turned as_held (values z) (all_held values zs owners)

abbrev pub all_back : (ℕ → Option ℕ) → List ℕ → (ℕ → Owner) → ℕ → Owner
all_back values [] owners = owners
all_back values (z ∷ zs) owners = all_back values zs (one_turned as_back (values z) owners)

pub turned_cell : (turn : Owner → Owner) (value : Option ℕ) (at : ℕ) (owners : ℕ → Owner) → value ≡ Some at → at ≢ 0
    → one_turned turn value owners ≡ with_owner at (turn (owners at)) owners
turned_cell turn value zero owners is some = absurd (some refl)
turned_cell turn value (suc n) owners is some = ap (λ v. one_turned turn v owners) is

turned_other : (turn : Owner → Owner) (value : Option ℕ) (x : ℕ) (owners : ℕ → Owner) → value ≢ Some x
    → one_turned turn value owners x ≡ owners x
turned_other turn None x owners differ = refl
turned_other turn (Some zero) x owners differ = refl
turned_other turn (Some (suc n)) x owners differ =
    chosen_other x (suc n) (turn (owners (suc n))) owners (λ e. differ (ap Some (sym e)))

pub held_others : (values : ℕ → Option ℕ) (zs : List ℕ) (x : ℕ) (owners : ℕ → Owner) → NoneHas values x zs
    → all_held values zs owners x ≡ owners x
held_others values [] x owners none = refl
held_others values (z ∷ zs) x owners none =
    turned_other as_held (values z) x (all_held values zs owners) none.0 ∙ held_others values zs x owners none.1

pub back_others : (values : ℕ → Option ℕ) (zs : List ℕ) (x : ℕ) (owners : ℕ → Owner) → NoneHas values x zs
    → all_back values zs owners x ≡ owners x
back_others values [] x owners none = refl
back_others values (z ∷ zs) x owners none =
    back_others values zs x (one_turned as_back (values z) owners) none.1 ∙ turned_other as_back (values z) x owners none.0

-- where a cell that is none of theirs has another owner they are tokens still
pub tokens_still : (stands : (ℕ → Option ℕ) → Owner) (values : ℕ → Option ℕ) (zs : List ℕ) (at : ℕ) (owner : Owner) (owners : ℕ → Owner)
    → NoneHas values at zs → AreTokensIn stands owners values zs → AreTokensIn stands (with_owner at owner owners) values zs
tokens_still stands values [] at owner owners none are = tt
tokens_still stands values (z ∷ zs) at owner owners none are = (
  by are.0,
  are.1,
  are.2,
  tokens_still stands values zs at owner owners none.1 are.3,
)
  where
    by : IsToken stands owners (values z) → IsToken stands (with_owner at owner owners) (values z)
    by (inl null) = inl null
    by (inr cell) =
        inr (
          cell.0,
          cell.1,
          cell.2,
          cell.3,
          chosen_other cell.0 at owner owners (λ e. none.0 (cell.2 ∙ ap Some e)) ∙ cell.4,
        )

-- ---- which values are held

pub either_false : (a b : Bool) → (a || b) ≡ false → (a ≡ false) × (b ≡ false)
either_false true b is = cc
either_false false b is = (refl, is)

pub neither : (a b : Bool) → a ≡ false → b ≡ false → (a || b) ≡ false
neither a b first second = ap (λ c. c || b) first ∙ second

among_both : (z : ℕ) (xs ys : List ℕ) → is_among z xs ≡ false → is_among z ys ≡ false → is_among z (xs ++ ys) ≡ false
among_both z [] ys none also = also
among_both z (x ∷ xs) ys none also =
    let parts = either_false (x == z) (is_among z xs) none in
    neither (x == z) (is_among z (xs ++ ys)) parts.0 (among_both z xs ys parts.1 also)

live_among : (values : ℕ → Option ℕ) (z : ℕ) (zs : List ℕ) → is_among z zs ≡ false → is_among z (live values zs) ≡ false
live_among values z [] none = refl
live_among values z (y ∷ ys) none =
    let parts = either_false (y == z) (is_among z ys) none in
    by (values y) (neither (y == z) (is_among z (live values ys)) parts.0 (live_among values z ys parts.1))
    (live_among values z ys parts.1)
  where
    by : (value : Option ℕ) → is_among z (y ∷ live values ys) ≡ false → is_among z (live values ys) ≡ false
        → is_among z (live_with value y (live values ys)) ≡ false
    by None with_it without = with_it
    by (Some zero) with_it without = without
    by (Some (suc n)) with_it without = with_it

abbrev pub AllOut : List ℕ → List ℕ → Type 0
AllOut held [] = Unit {0}
AllOut held (z ∷ zs) = (is_among z held ≡ false) × AllOut held zs

-- ---- the rows

module _ (target : Target) (layout : Layout) (address : ℕ → ℕ) (heap : Heap) (fs : List (Frame Line)) where
  abbrev Held : (ℕ → Owner) → Cells → Type 0
  Held owners cells = Follows target.pool layout address owners heap cells

  -- one token more is held
  hold_one : (z : ℕ) (rest : List Line) (g : Frame Line) (owners : ℕ → Owner) (world : World) → Held owners world.cells
      → IsToken in_hand owners (g.cells z) → is_among z g.held ≡ false
      → (cells : Cells) × Runs target (most_moves + 9) 1 (turn_of (hold_line z ∷ rest) g fs world)
      (turn_of rest (holding_now (live_with (g.cells z) z g.held) g) fs (with_cells world cells))
      × Held (one_turned as_held (g.cells z) owners) cells
  hold_one z rest g owners world follows (inl null) apart = (
    world.cells,
    subst (λ h. Runs target (most_moves + 9) 1 (turn_of (hold_line z ∷ rest) g fs world)
        (turn_of rest (holding_now h g) fs world)) (sym (live_null (g.cells z) z g.held null))
        (hold_null_runs target rest g fs world z null apart),
    subst (λ v. Held (one_turned as_held v owners) world.cells) (sym null) follows,
  )
  hold_one z rest g owners world follows (inr cell) apart =
      let put = put_aside follows cell.0 cell.1 cell.4 in (
        put.now,
        subst (λ h. Runs target (most_moves + 9) 1 (turn_of (hold_line z ∷ rest) g fs world)
            (turn_of rest (holding_now h g) fs (with_cells world put.now)))
            (sym (live_cell (g.cells z) cell.0 z g.held cell.2 cell.3))
            (hold_runs target rest g fs world z cell.0 put.now cell.2 cell.3 apart put.is),
        subst (λ o. Held o put.now) (sym (turned_cell as_held (g.cells z) cell.0 owners cell.2 cell.3))
            (subst (λ o. Held (with_owner cell.0 (as_held o) owners) put.now) (sym cell.4) put.holds),
      )

  pub hold_row : (zs : List ℕ) (rest : List Line) (f : Frame Line) (owners : ℕ → Owner) (world : World) → Held owners world.cells
      → AreTokensIn in_hand owners f.cells zs → AllOut f.held zs
      → (cells : Cells) × Runs target (row_cost zs (most_moves + 9)) (length zs) (turn_of (hold_lines zs ++ rest) f fs world)
      (turn_of rest (holding_now (live f.cells zs ++ f.held) f) fs (with_cells world cells))
      × Held (all_held f.cells zs owners) cells
  hold_row [] rest f owners world follows tokens out = (world.cells, runs_none target (turn_of rest f fs world), follows)
  hold_row (z ∷ zs) rest f owners world follows tokens out =
      let line = hold_line z in
      let first = hold_row zs (line ∷ rest) f owners world follows tokens.3 out.1 in
      let g = holding_now (live f.cells zs ++ f.held) f in
      let w1 = with_cells world first.0 in
      let owners1 = all_held f.cells zs owners in
      let still = by owners1 tokens.0 (λ at some is. held_others f.cells zs at owners (tokens.2 at some is)) in
      let apart = among_both z (live f.cells zs) f.held (live_among f.cells z zs tokens.1) out.0 in
      let second = hold_one z rest g owners1 w1 first.2 still apart in
      let long : length zs + 1 ≡ suc (length zs) = omega arith in
      let cost : row_cost zs (most_moves + 9) + (most_moves + 9) ≡ row_cost (z ∷ zs) (most_moves + 9) = omega arith in
      let last = holding_now (live_with (f.cells z) z (live f.cells zs ++ f.held)) f in
      let same : live_with (f.cells z) z (live f.cells zs ++ f.held) ≡ live f.cells (z ∷ zs) ++ f.held =
      live_front (f.cells z) z (live f.cells zs) f.held in
      let both = runs_then target (row_cost zs (most_moves + 9)) (most_moves + 9) (length zs) 1
      (turn_of (hold_lines zs ++ (line ∷ rest)) f fs world) (turn_of (line ∷ rest) g fs w1)
      (turn_of rest last fs (with_cells world second.0)) first.1 second.1 in (
        second.0,
        subst (λ h. Runs target (row_cost (z ∷ zs) (most_moves + 9)) (suc (length zs))
            (turn_of (hold_lines (z ∷ zs) ++ rest) f fs world)
            (turn_of rest (holding_now h f) fs (with_cells world second.0))) same
            (subst (λ ls. Runs target (row_cost (z ∷ zs) (most_moves + 9)) (suc (length zs)) (turn_of ls f fs world)
            (turn_of rest last fs (with_cells world second.0))) (sym (append_assoc (hold_lines zs) (line ∷ []) rest))
            (subst (λ k. Runs target k (suc (length zs)) (turn_of (hold_lines zs ++ (line ∷ rest)) f fs world)
            (turn_of rest last fs (with_cells world second.0))) cost
            (subst (λ k. Runs target (row_cost zs (most_moves + 9) + (most_moves + 9)) k
            (turn_of (hold_lines zs ++ (line ∷ rest)) f fs world) (turn_of rest last fs (with_cells world second.0))) long both))),
        second.2,
      )
    where
      by : (later : ℕ → Owner) → IsToken in_hand owners (f.cells z)
          → ((at : ℕ) → at ≢ 0 → f.cells z ≡ Some at → later at ≡ owners at) → IsToken in_hand later (f.cells z)
      by later (inl null) same = inl null
      by later (inr cell) same = inr (cell.0, cell.1, cell.2, cell.3, same cell.0 cell.3 cell.2 ∙ cell.4)

      live_front : (value : Option ℕ) (y : ℕ) (xs ys : List ℕ) → live_with value y (xs ++ ys) ≡ live_with value y xs ++ ys
      live_front None y xs ys = refl
      live_front (Some zero) y xs ys = refl
      live_front (Some (suc n)) y xs ys = refl

  abbrev pub BackFrom : List ℕ → List Line → Frame Line → List ℕ → (ℕ → Owner) → World → Type 0
  BackFrom zs rest f held owners world =
      (cells : Cells) × Runs target (row_cost zs (most_moves + 7)) (length zs) (turn_of (unhold_lines zs ++ rest) f fs world)
      (turn_of rest (holding_now held f) fs (with_cells world cells))
      × Held (all_back f.cells zs owners) cells

  pub unhold_row : (zs : List ℕ) (rest : List Line) (f : Frame Line) (held : List ℕ) (owners : ℕ → Owner) (world : World)
      → f.held ≡ live f.cells zs ++ held → Held owners world.cells → AreTokensIn kept_aside owners f.cells zs → AllOut held zs
      → BackFrom zs rest f held owners world
  unhold_row [] rest f held owners world is follows tokens out = (
    world.cells,
    subst (λ h. Runs target 0 0 (turn_of rest f fs world) (turn_of rest (holding_now h f) fs world)) is
        (runs_none target (turn_of rest f fs world)),
    follows,
  )
  unhold_row (z ∷ zs) rest f held owners world is follows tokens out =
      by tokens.0 (λ g os w same holds are. unhold_row zs rest g held os w same holds are out.1)
    where
      ends : (g : Frame Line) (w : World) (cells : Cells)
          → Runs target (most_moves + 7) 1 (turn_of (takes_back None z ∷ (unhold_lines zs ++ rest)) f fs world) (turn_of (unhold_lines zs ++ rest) g fs w)
          → Runs target (row_cost zs (most_moves + 7)) (length zs) (turn_of (unhold_lines zs ++ rest) g fs w)
          (turn_of rest (holding_now held f) fs (with_cells world cells))
          → Runs target (row_cost (z ∷ zs) (most_moves + 7)) (length (z ∷ zs))
          (turn_of (takes_back None z ∷ (unhold_lines zs ++ rest)) f fs world) (turn_of rest (holding_now held f) fs (with_cells world cells))
      ends g w cells first second =
          let long : 1 + length zs ≡ suc (length zs) = omega arith in
          subst (λ k. Runs target ((most_moves + 7) + row_cost zs (most_moves + 7)) k
          (turn_of (takes_back None z ∷ (unhold_lines zs ++ rest)) f fs world) (turn_of rest (holding_now held f) fs (with_cells world cells))) long
          (runs_then target (most_moves + 7) (row_cost zs (most_moves + 7)) 1 (length zs)
          (turn_of (takes_back None z ∷ (unhold_lines zs ++ rest)) f fs world) (turn_of (unhold_lines zs ++ rest) g fs w)
          (turn_of rest (holding_now held f) fs (with_cells world cells)) first second)

      by : IsToken kept_aside owners (f.cells z)
          → ((g : Frame Line) (os : ℕ → Owner) (w : World) → g.held ≡ live g.cells zs ++ held → Held os w.cells
          → AreTokensIn kept_aside os g.cells zs → BackFrom zs rest g held os w)
          → BackFrom (z ∷ zs) rest f held owners world
      by (inl null) again =
          let held_is : f.held ≡ live f.cells zs ++ held = is ∙ ap (λ l. l ++ held) (live_null (f.cells z) z (live f.cells zs) null) in
          let apart : is_among z f.held ≡ false = ap (is_among z) held_is
          ∙ among_both z (live f.cells zs) held (live_among f.cells z zs tokens.1) out.0 in
          let second = again f owners world held_is follows tokens.3 in (
            second.0,
            ends f world second.0 (unhold_null_runs target (unhold_lines zs ++ rest) f fs world None z null refl apart) second.1,
            subst (λ v. Held (all_back f.cells zs (one_turned as_back v owners)) second.0) (sym null) second.2,
          )
      by (inr cell) again =
          let newest : f.held ≡ z ∷ (live f.cells zs ++ held) = is
          ∙ ap (λ l. l ++ held) (live_cell (f.cells z) cell.0 z (live f.cells zs) cell.2 cell.3) in
          let back = taken_back follows cell.0 cell.1 cell.4 in
          let g = holding_now (live f.cells zs ++ held) f in
          let w1 = with_cells world back.now in
          let owners1 = with_owner cell.0 (in_hand (past_links cell.1)) owners in
          let others = tokens_still kept_aside f.cells zs cell.0 (in_hand (past_links cell.1)) owners
          (tokens.2 cell.0 cell.3 cell.2) tokens.3 in
          let second = again g owners1 w1 refl back.holds others in (
            second.0,
            ends g w1 second.0
                (unhold_runs target (unhold_lines zs ++ rest) f fs world None z cell.0 (live f.cells zs ++ held) back.now cell.2 refl cell.3 newest
                back.is)
                second.1,
            subst (λ o. Held (all_back f.cells zs o) second.0) (sym (turned_cell as_back (f.cells z) cell.0 owners cell.2 cell.3))
                (subst (λ o. Held (all_back f.cells zs (with_owner cell.0 (as_back o) owners)) second.0) (sym cell.4) second.2),
          )
