-- Some words of a cell in hand are stored: those that a token's cell has already, and the others.
use Rattle.std.proofs.Common.{◌≡◌, ◌≢◌, ◌<◌, ◌≤◌, ℕ, ◌+◌, Bool, true, false, not, List, [], ◌∷◌, ◌++◌, length, Option, Some, refl}
use Rattle.std.proofs.Common.{sym, ◌∙◌, ap, subst, arith, append_assoc}
use Rattle.kk_base.specs.Limits.{greatest_of}
use Rattle.kk_base.specs.declared.limit.LimitKind.TheVariants.{Fields}
use Rattle.kk_counted.specs.Heaps.{Heap}
use Rattle.kk_counted.specs.Spending.{AllAmong}
use Rattle.rv_isa.specs.Numbers.{cell_words}
use Rattle.rv_isa.specs.AsmCode.{Line}
use Rattle.rv_isa.specs.Frames.{Frame, put}
use Rattle.cell_heap.specs.Blocks.{Cells, own, with_block, with_word}
use Rattle.cell_runtime.specs.World.{World, with_cells}
use Rattle.rv_lower.specs.Lines.{sets}
use Rattle.rv_lower.proofs.Calls.{HaveWords}
use Rattle.rv_lower.proofs.FormEffects.{put_same, put_other}
use Rattle.rv_cells.specs.Layout.{Layout, first_field}
use Rattle.rv_cells.specs.CountedCells.{AreFrom, Owner}
use Rattle.rv_cells.specs.CellLines.{SetIf, SomeWords, is_kept}
use Rattle.rv_cells.proofs.CellActions.{put_in, sets_runs}
use Rattle.rv_cells.proofs.ConstructionLines.{Hands, stored, store_hand}
use Rattle.rv_cells.proofs.KeptStores.{picked, word_if, word_other, with_some, AreSome, some_below, some_later, some_written}
use Rattle.rv_cells.proofs.KeptStores.{all_written, some_run}
use Rattle.rv_cells.proofs.LineCosts.{most_moves, row_cost}
use Rattle.rv_cells.proofs.Owners.{chosen_same}
use Rattle.rv_cells.proofs.Runs.{Target, turn_of, Runs, runs_none, runs_then}
use Rattle.rv_cells.proofs.Spots.{Spot, Known, Here}
use Rattle.rv_cells.proofs.Words.{from_later}

-- ---- words

-- a word that stands, or else is stored
word_there : (b : Bool) (i w : ℕ) (words : ℕ → Option ℕ) → (b ≡ true → words i ≡ Some w) → word_if (not b) i w words i ≡ Some w
word_there true i w words is = is refl
word_there false i w words is = chosen_same i i (Some w) words refl

word_stored : (b : Bool) (i w : ℕ) (words : ℕ → Option ℕ) → b ≡ true → word_if b i w words i ≡ Some w
word_stored true i w words is = chosen_same i i (Some w) words refl
word_stored false i w words is = cc is

some_if : (takes : ℕ → Bool) (b : Bool) (i w j position : ℕ) (words : ℕ → Option ℕ) (ws : List ℕ) → i < j
    → AreSome takes words j position ws → AreSome takes (word_if b i w words) j position ws
some_if takes true i w j position words ws less are = some_later takes i w j position words ws less are
some_if takes false i w j position words ws less are = are

from_if : (b : Bool) (i w j : ℕ) (words : ℕ → Option ℕ) (ws : List ℕ) → i < j → AreFrom words j ws
    → AreFrom (word_if b i w words) j ws
from_if true i w j words ws less are = from_later i w j words ws less are
from_if false i w j words ws less are = are

-- what a token's cell has: its header and its count where these truths say so, and its fields at the kept positions
pub record HasWords (head count : Bool) (kept : List ℕ) (header : ℕ) (ws : List ℕ) (words : ℕ → Option ℕ) : Type 0 where
  pub header_is : head ≡ true → words 1 ≡ Some header
  pub count_is : count ≡ true → words 0 ≡ Some 1
  pub fields : AreSome (is_kept true kept) words 2 0 ws

module _ (head count : Bool) (kept : List ℕ) (header : ℕ) (ws : List ℕ) (words : ℕ → Option ℕ) where
  -- a new cell has them too, once they are stored
  pub has_stored : HasWords head count kept header ws
      (word_if count 0 1 (with_some (is_kept true kept) 2 0 ws (word_if head 1 header words)))
  has_stored =
      let first = word_if head 1 header words in
      let fields = with_some (is_kept true kept) 2 0 ws first in
      record {
        header_is = λ is.
            word_other count 0 1 1 fields (λ e. omega (arith, e))
            ∙ some_below (is_kept true kept) 2 0 1 ws first (omega arith)
            ∙ word_stored head 1 header words is;
        count_is = λ is. word_stored count 0 1 fields is;
        fields = some_if (is_kept true kept) count 0 1 2 0 fields ws (omega arith) (some_written (is_kept true kept) 2 0 ws first);
      }

  -- the words of the whole cell, once the others are stored
  abbrev pub words_behind : ℕ → Option ℕ
  words_behind = word_if (not count) 0 1 (with_some (is_kept false kept) 2 0 ws (word_if (not head) 1 header words))

  module _ (has : HasWords head count kept header ws words) where
    abbrev first_now : ℕ → Option ℕ
    first_now = word_if (not head) 1 header words

    abbrev fields_now : ℕ → Option ℕ
    fields_now = with_some (is_kept false kept) 2 0 ws (word_if (not head) 1 header words)

    pub count_behind : words_behind 0 ≡ Some 1
    count_behind =
        word_there count 0 1 fields_now
        (λ is. some_below (is_kept false kept) 2 0 0 ws first_now (omega arith)
        ∙ word_other (not head) 1 header 0 words (λ e. omega (arith, e)) ∙ has.count_is is)

    pub header_behind : words_behind 1 ≡ Some header
    header_behind =
        word_other (not count) 0 1 1 fields_now (λ e. omega (arith, e))
        ∙ some_below (is_kept false kept) 2 0 1 ws first_now (omega arith) ∙ word_there head 1 header words has.header_is

    pub fields_behind : AreFrom words_behind first_field ws
    fields_behind =
        from_if (not count) 0 1 2 fields_now ws (omega arith)
        (all_written kept 2 0 ws first_now
        (some_if (is_kept true kept) (not head) 1 header 2 0 words ws (omega arith) has.fields))

-- ---- values

-- a temporary has a word, or its values stay
abbrev pub put_if : Bool → ℕ → ℕ → (ℕ → Option ℕ) → ℕ → Option ℕ
put_if true base word values = put base (Some word) values
put_if false base word values = values

pub put_spare : (b : Bool) (base word z : ℕ) (values : ℕ → Option ℕ) → z ≢ base → put_if b base word values z ≡ values z
put_spare true base word z values differ = put_other base z word values differ
put_spare false base word z values differ = refl

-- values that are the same below the temporaries
pub words_same : (known : Known) (s : Spot) (here : Here known s) (values later : ℕ → Option ℕ) (xs ws : List ℕ)
    → AllAmong xs s.bound → ((z : ℕ) → z < known.base → later z ≡ values z) → HaveWords values xs ws → HaveWords later xs ws
words_same known s here values later [] [] bound same have = tt
words_same known s here values later [] (w ∷ ws) bound same have = absurd have
words_same known s here values later (y ∷ ys) [] bound same have = absurd have
words_same known s here values later (y ∷ ys) (w ∷ ws) bound same have = (
  same y (here.values.below y bound.0) ∙ have.0,
  words_same known s here values later ys ws bound.1 same have.1,
)

-- ---- stores

abbrev pub set_cost : Bool → ℕ
set_cost true = (most_moves + 2) + (most_moves + 3)
set_cost false = 0

abbrev pub set_steps : Bool → ℕ
set_steps true = 1 + 1
set_steps false = 0

-- a word is stored on one way or on the other
pub both_set : (b : Bool) → set_cost b + set_cost (not b) ≡ (most_moves + 2) + (most_moves + 3)
both_set true = omega arith
both_set false = omega arith

module _ (target : Target) (layout : Layout) (address : ℕ → ℕ) (owners : ℕ → Owner) (heap : Heap) (fs : List (Frame Line)) where
  -- one word
  set_run : (b : Bool) (base x i word : ℕ) (lines rest : List Line) (f : Frame Line) (at : ℕ) (words : ℕ → Option ℕ)
      (world : World) → SetIf b base x i word lines → f.cells x ≡ Some at → x < base → i < cell_words
      → Hands target.pool layout address owners heap at words world.cells
      → (cells : Cells) × Runs target (set_cost b) (set_steps b) (turn_of (lines ++ rest) f fs world)
      (turn_of rest (record f { cells = put_if b base word f.cells }) fs (with_cells world cells))
      × Hands target.pool layout address owners heap at (word_if b i word words) cells
  set_run true base x i word lines rest f at words world are names less low holds =
      let g = put_in base word f in
      let still : g.cells x ≡ Some at = put_other base x word f.cells (λ e. omega (arith, e, less)) ∙ names in
      let next = with_block at (own (with_word i word words)) world.cells in
      let setting = sets_runs target (are.0 ∷ rest) f fs world word base in
      let storing = store_hand target layout address owners heap fs g x at still rest world i base word words are.0 are.1
      (put_same base word f.cells) low holds in (
        next,
        subst (λ ls. Runs target ((most_moves + 2) + (most_moves + 3)) (1 + 1) (turn_of (ls ++ rest) f fs world)
            (turn_of rest g fs (with_cells world next))) (sym are.2)
            (runs_then target (most_moves + 2) (most_moves + 3) 1 1 (turn_of (sets word base ∷ are.0 ∷ rest) f fs world)
            (turn_of (are.0 ∷ rest) g fs world) (turn_of rest g fs (with_cells world next)) setting storing),
        stored target layout address owners heap fs g x at still i word words world.cells holds,
      )
  set_run false base x i word lines rest f at words world are names less low holds = (
    world.cells,
    subst (λ ls. Runs target 0 0 (turn_of (ls ++ rest) f fs world) (turn_of rest f fs world)) (sym are)
        (runs_none target (turn_of rest f fs world)),
    holds,
  )

-- words of a construction, where variable x names the cell
module _ (known : Known) (s : Spot) (here : Here known s) (head count : Bool) (takes : ℕ → Bool) (x header : ℕ)
    (arguments ws : List ℕ) (lines : List Line) (less : x < known.base) (few : length arguments ≤ greatest_of Fields)
    (bound : AllAmong arguments s.bound) (are : SomeWords head count takes known.base x header arguments lines) where
  abbrev pub words_cost : ℕ
  words_cost = set_cost head + (row_cost (picked takes 0 arguments) (most_moves + 3) + set_cost count)

  abbrev pub words_steps : ℕ
  words_steps = set_steps head + (length (picked takes 0 arguments) + set_steps count)

  abbrev pub words_values : (ℕ → Option ℕ) → ℕ → Option ℕ
  words_values values = put_if count known.base 1 (put_if head known.base header values)

  abbrev pub words_now : (ℕ → Option ℕ) → ℕ → Option ℕ
  words_now words = word_if count 0 1 (with_some takes 2 0 ws (word_if head 1 header words))

  pub words_spare : (values : ℕ → Option ℕ) (z : ℕ) → z < known.base → words_values values z ≡ values z
  words_spare values z low =
      put_spare count known.base 1 z (put_if head known.base header values) (λ e. omega (arith, e, low))
      ∙ put_spare head known.base header z values (λ e. omega (arith, e, low))

  pub words_run : (rest : List Line) (f : Frame Line) (gs : List (Frame Line)) (owners : ℕ → Owner) (at : ℕ)
      (words : ℕ → Option ℕ) (world : World) → f.cells x ≡ Some at → HaveWords f.cells arguments ws
      → Hands known.target.pool known.layout s.address owners s.heap at words world.cells
      → (cells : Cells) × Runs known.target words_cost words_steps (turn_of (lines ++ rest) f gs world)
      (turn_of rest (record f { cells = words_values f.cells }) gs (with_cells world cells))
      × Hands known.target.pool known.layout s.address owners s.heap at (words_now words) cells
  words_run rest f gs owners at words world names have holds =
      let target = known.target in
      let row = row_cost (picked takes 0 arguments) (most_moves + 3) in
      let many = length (picked takes 0 arguments) in
      let g : Frame Line = record f { cells = put_if head known.base header f.cells } in
      let still : g.cells x ≡ Some at = put_spare head known.base header x f.cells (λ e. omega (arith, e, less)) ∙ names in
      let words1 = word_if head 1 header words in
      let words2 = with_some takes 2 0 ws words1 in
      let one = set_run target known.layout s.address owners s.heap gs head known.base x 1 header are.0
      ((are.1 ++ are.2) ++ rest) f at words world are.3 names less (omega arith) holds in
      let world1 = with_cells world one.0 in
      let two = some_run target known.layout s.address owners s.heap gs g x at still takes (are.2 ++ rest) arguments ws 2 0 are.1
      words1 world1 are.4
      (words_same known s here f.cells g.cells arguments ws bound
      (λ z low. put_spare head known.base header z f.cells (λ e. omega (arith, e, low))) have)
      (omega (arith, few)) one.2 in
      let world2 = with_cells world1 two.0 in
      let three = set_run target known.layout s.address owners s.heap gs count known.base x 0 1 are.2 rest g at words2 world2
      are.5 still less (omega arith) two.2 in
      let t0 = turn_of (are.0 ++ ((are.1 ++ are.2) ++ rest)) f gs world in
      let t1 = turn_of (are.1 ++ (are.2 ++ rest)) g gs world1 in
      let t2 = turn_of (are.2 ++ rest) g gs world2 in
      let t3 = turn_of rest (record f { cells = words_values f.cells }) gs (with_cells world2 three.0) in
      let first : Runs target (set_cost head) (set_steps head) t0 t1
      = subst (λ ls. Runs target (set_cost head) (set_steps head) t0 (turn_of ls g gs world1)) (append_assoc are.1 are.2 rest)
      one.1 in
      let whole : lines ++ rest ≡ are.0 ++ ((are.1 ++ are.2) ++ rest)
      = ap (λ ls. ls ++ rest) are.6 ∙ append_assoc are.0 (are.1 ++ are.2) rest in (
        three.0,
        subst (λ ls. Runs target words_cost words_steps (turn_of ls f gs world) t3) (sym whole)
            (runs_then target (set_cost head) (row + set_cost count) (set_steps head) (many + set_steps count) t0 t1 t3 first
            (runs_then target row (set_cost count) many (set_steps count) t1 t2 t3 two.1 three.1)),
        three.2,
      )
