-- Openings by the count of the cell that leave a token, as lines.
use Rattle.std.proofs.Common.{◌≡◌, ◌≢◌, ◌<◌, ◌≤◌, ℕ, zero, suc, ◌+◌, ◌*◌, true, false, List, [], ◌∷◌, ◌++◌, length, Option, Some, None, refl, sym, ◌∙◌, subst, arith}
use Rattle.std.specs.Prelude.{filter}
use Rattle.kk_syntax.specs.Shapes.{is_among}
use Rattle.kk_counted.specs.Heaps.{Heap, count_at, set_count, dup_all, drop_all}
use Rattle.kk_counted.specs.CountedMachine.{Named, used_values, other_values, unique_heap}
use Rattle.kk_counted.specs.Lowerable.{bound_list}
use Rattle.kk_counted.specs.Spending.{AreApart}
use Rattle.rv_isa.specs.declared.asm.Action.TheVariants.{Label, Jump}
use Rattle.rv_isa.specs.AsmCode.{Line}
use Rattle.rv_isa.specs.AsmMachine.{is_label}
use Rattle.rv_isa.specs.Frames.{Frame, found}
use Rattle.cell_heap.specs.Blocks.{Cells}
use Rattle.cell_runtime.specs.World.{World, with_cells}
use Rattle.rv_lower.specs.Lines.{copies_to, acts}
use Rattle.rv_lower.proofs.FormEffects.{put_same, put_other}
use Rattle.rv_cells.specs.Layout.{words_in, header_of, first_field}
use Rattle.rv_cells.specs.CountedCells.{AreFrom, Owner, in_hand, is_aside}
use Rattle.rv_cells.specs.CellLines.{TokenUniqueLines}
use Rattle.rv_cells.proofs.Runs.{turn_of, Runs, runs_none, runs_then}
use Rattle.rv_cells.proofs.CellActions.{put_in, copy_runs, label_runs}
use Rattle.rv_cells.proofs.Spots.{AreSmall, Spot, Known, Here, saved}
use Rattle.rv_cells.proofs.LineCosts.{most_moves, row_cost}
use Rattle.rv_cells.proofs.Values.{among_none, has_other}
use Rattle.rv_cells.proofs.Rows.{IsReading}
use Rattle.rv_cells.proofs.Openings.{opened_spot}
use Rattle.rv_cells.proofs.CountOpenings as Opens

-- ---- what is left in the value of a token

-- The address of a cell, which is in hand, with the count 1, a header and the words of its fields; no other cell is set aside or
-- taken.
pub record HasCell (s t : Spot) (token at : ℕ) (fields : List ℕ) (header : ℕ) : Type 0 where
  pub value : t.frame.cells token ≡ Some at
  pub words : ℕ → Option ℕ
  pub hand : t.owners at ≡ in_hand words
  pub count_is : words 0 ≡ Some 1
  pub header_is : words 1 ≡ Some header
  pub fields_are : AreFrom words first_field fields
  pub aside : (y : ℕ) → y ≢ at → is_aside (s.owners y) ≡ true → t.owners y ≡ s.owners y
  pub was : (y : ℕ) → y ≢ at → is_aside (t.owners y) ≡ true → t.owners y ≡ s.owners y

-- the null token; the same cells are set aside
pub record IsNull (s t : Spot) (token : ℕ) : Type 0 where
  pub value : t.frame.cells token ≡ Some 0
  pub aside : (y : ℕ) → is_aside (s.owners y) ≡ true → t.owners y ≡ s.owners y
  pub was : (y : ℕ) → is_aside (t.owners y) ≡ true → t.owners y ≡ s.owners y

-- by the count of the cell before it was opened
abbrev pub TokenIs : ℕ → Spot → Spot → ℕ → ℕ → List ℕ → ℕ → Type 0
TokenIs zero s t token at fields header = ⊥
TokenIs (suc zero) s t token at fields header = HasCell s t token at fields header
TokenIs (suc (suc n)) s t token at fields header = IsNull s t token

-- From lines a spot comes to another, with these lines left, at this cost beyond what was saved, and older frames to other ones.
-- The frame is in the same function and holds the same tokens. Of its values only these change: those of these tokens, those of
-- variables that become bound, and temporaries.
pub record LeadsTo (known : Known) (most : ℕ) (start end : List Line) (fs gs : List (Frame Line)) (s t : Spot)
    (tokens : List ℕ) : Type 0 where
  pub cost : ℕ
  pub steps : ℕ
  pub within : cost + saved t.heap ≤ most + saved s.heap
  pub runs : Runs known.target cost steps (turn_of start s.frame fs s.world) (turn_of end t.frame gs t.world)
  pub here : Here known t
  pub spared : (z : ℕ) → z < known.base → is_among tokens z ≡ false → is_among t.bound z ≡ false
      → t.frame.cells z ≡ s.frame.cells z
  pub left : t.world.left ≡ s.world.left
  pub whole : t.frame.whole ≡ s.frame.whole
  pub function : t.frame.function ≡ s.frame.function
  pub held : t.frame.held ≡ s.frame.held

-- lines lead so to those that stand behind them
abbrev pub Leads : Known → ℕ → List Line → List Line → List (Frame Line) → List (Frame Line) → Spot → Spot → List ℕ → Type 0
Leads known most lines rest fs gs s t tokens = LeadsTo known most (lines ++ rest) rest fs gs s t tokens

-- Where the lines for a cell that had this count come to: behind the opening; or, where the cell is the token that a construction
-- fills at once, to the copy for that one's variable, in front of the lines for other cells.
abbrev pub comes_to : ℕ → Option ℕ → ℕ → ℕ → List Line → List Line → List Line
comes_to zero into token filled rest others = rest
comes_to (suc zero) None token filled rest others = rest
comes_to (suc zero) (Some into) token filled rest others = copies_to token into ∷ acts (Jump filled) [] ∷ others
comes_to (suc (suc n)) into token filled rest others = rest

abbrev pub token_cost : Known → List ℕ → List ℕ → ℕ
token_cost known fields used =
    9 * most_moves + 20 + row_cost fields (most_moves + 2) + row_cost (filter (is_among used) fields)
    (most_moves + 5)
    + row_cost (Opens.others_of used fields) (most_moves + 15)

module _ (known : Known) (rest : List Line) (fs : List (Frame Line)) (s : Spot) (x c : ℕ) (fields used : List ℕ)
    (second behind filled token : ℕ) (into : Option ℕ) (lines : List Line) (named : Named) (next : Heap)
    (here : Here known s) (reads : IsReading known s x c fields named) (apart : AreApart fields)
    (low : token < known.base) (spare : is_among (bound_list fields s.bound) token ≡ false)
    (uniques : TokenUniqueLines known.base known.holds second behind filled x fields used token into lines) where
  abbrev o : Opens.CountOpening known
  o = record {
    rest = rest;
    fs = fs;
    s = s;
    x = x;
    c = c;
    fields = fields;
    used = used;
    token = token;
    into = into;
    second = second;
    behind = behind;
    filled = filled;
    lines = lines;
    named = named;
    next = next;
    here = here;
    reads = reads;
    apart = apart;
    uniques = uniques;
  }

  -- the lines of the second way, with its label; without it; and those before it
  abbrev pub for_second : List Line
  for_second = Opens.for_second known o into

  abbrev pub second_lines : List Line
  second_lines = Opens.second_lines known o into

  abbrev pub head_lines : List Line
  head_lines = Opens.head_of known o into

  abbrev ending : List Line
  ending = acts (Label behind) [] ∷ rest

  pub whole_lines : lines ++ rest ≡ head_lines ++ (for_second ++ ending)
  whole_lines = Opens.whole_lines known o

  abbrev at : ℕ
  at = s.address named.at

  abbrev spot_of : Frame Line → (ℕ → Owner) → Cells → Spot
  spot_of frame owners cells = opened_spot known s fields named.fields next frame owners cells

  abbrev Leaves : List Line → (Spot → Type 0) → Type 0
  Leaves end IsThere =
      (frame : Frame Line) × (owners : ℕ → Owner) × (cells : Cells)
      × LeadsTo known (token_cost known fields used) (lines ++ rest) end fs fs s (spot_of frame owners cells) (token ∷ [])
      × IsThere (spot_of frame owners cells)

  abbrev fields_words : List ℕ
  fields_words = words_in known.layout s.address named.fields

  abbrev FindsSecond : Type 0
  FindsSecond = found (λ line. is_label second line.action) s.frame.whole ≡ Some (for_second ++ ending)

  abbrev FindsBehind : Type 0
  FindsBehind = found (λ line. is_label behind line.action) s.frame.whole ≡ Some ending

  -- the token of a cell of one reference, by what stands behind the copy
  gains_by : (end : List Line) (cost steps : ℕ) → count_at s.heap named.at ≡ 1 → FindsSecond
      → drop_all (other_values used fields named.fields) (set_count named.at 0 s.heap) ≡ Some next
      → cost ≤ most_moves
      → ((frame : Frame Line) (world : World)
      → Runs known.target cost steps (turn_of (Opens.behind_alone known o into) frame fs world) (turn_of end frame fs world))
      → Leaves end (λ t. HasCell s t token at fields_words (header_of known.layout c))
  gains_by end cost steps once finds given cheap leaving =
      let moves = most_moves in
      let target = known.target in
      let emptied = Opens.empties known o once finds given in
      let frame = emptied.0 in
      let owners = emptied.1 in
      let left = emptied.3 in
      let comes = left.comes in
      let world = with_cells s.world emptied.2 in
      let last = put_in token at frame in
      let after = Opens.behind_alone known o into in
      let copied = copy_runs target after frame fs world x token at
      (Opens.x_behind known o frame owners emptied.2 comes.here) in
      let t0 = turn_of (lines ++ rest) s.frame fs s.world in
      let t1 = turn_of (copies_to x token ∷ after) frame fs world in
      let t2 = turn_of after last fs world in
      let t3 = turn_of end last fs world in
      let back = runs_then target (moves + 2) cost 1 steps t1 t2 t3 copied (leaving last world) in
      let within = comes.within in (
        last,
        owners,
        emptied.2,
        record {
          cost = comes.cost + ((moves + 2) + cost);
          steps = comes.steps + (1 + steps);
          within = omega arith;
          runs = runs_then target comes.cost ((moves + 2) + cost) comes.steps (1 + steps) t0 t1 t3 comes.runs back;
          here = record { follows = comes.here.follows; values = has_other comes.here.values token at spare };
          spared = λ z below apart none. put_other token z at frame.cells (among_none token [] z apart).0
              ∙ comes.spared z below none;
          left = refl {a = s.world.left};
          whole = comes.whole;
          function = comes.function;
          held = comes.held;
        },
        record {
          value = put_same token at frame.cells;
          words = left.words;
          hand = left.hand;
          count_is = left.count_is;
          header_is = left.header_is;
          fields_are = left.fields_are;
          aside = left.aside;
          was = left.was;
        },
      )

  -- the null token, where the cell has other references
  blanks : (n : ℕ) → count_at s.heap named.at ≡ suc (suc n)
      → dup_all (used_values used fields named.fields) (set_count named.at (suc n) s.heap) ≡ Some next
      → AreSmall (length (filter (is_among used) fields)) s.heap → FindsSecond → FindsBehind → Leaves rest (λ t. IsNull s t token)
  blanks n several given small finds finds_behind =
      let done = Opens.lessens known o n several given small finds finds_behind spare in
      let comes = done.3 in
      let cheap = comes.within in (
        done.0,
        done.1,
        done.2,
        record {
          cost = comes.cost;
          steps = comes.steps;
          within = omega arith;
          runs = comes.runs;
          here = comes.here;
          spared = λ z below apart none. comes.spared z below none
              ∙ put_other token z 0 s.frame.cells (among_none token [] z apart).0;
          left = refl {a = s.world.left};
          whole = comes.whole;
          function = comes.function;
          held = comes.held;
        },
        record {
          value = comes.spared token low spare ∙ put_same token 0 s.frame.cells;
          aside = done.4;
          was = done.5;
        },
      )

  -- ---- either way

  pub opens_to_token : unique_heap (count_at s.heap named.at) named.at (used_values used fields named.fields)
      (other_values used fields named.fields) s.heap ≡ Some next
      → AreSmall (length (filter (is_among used) fields)) s.heap → FindsSecond → FindsBehind
      → Leaves (comes_to (count_at s.heap named.at) into token filled rest (for_second ++ ending))
      (λ t. TokenIs (count_at s.heap named.at) s t token at fields_words (header_of known.layout c))
  opens_to_token given small finds finds_behind = by (count_at s.heap named.at) into refl refl given
    where
      by : (count : ℕ) (going : Option ℕ) → count_at s.heap named.at ≡ count → into ≡ going
          → unique_heap count named.at (used_values used fields named.fields) (other_values used fields named.fields) s.heap
          ≡ Some next
          → Leaves (comes_to count going token filled rest (for_second ++ ending)) (λ t. TokenIs count s t token at fields_words
          (header_of known.layout c))
      by zero going counts same given = cc
      by (suc zero) None counts same given =
          gains_by rest (most_moves + 0) 1 counts finds given (omega arith)
          (λ frame world. subst (λ one. Runs known.target (most_moves + 0) 1
          (turn_of (Opens.behind_alone known o one) frame fs world) (turn_of rest frame fs world)) (sym same)
          (label_runs known.target rest frame fs world behind))
      by (suc zero) (Some made) counts same given =
          gains_by (comes_to 1 (Some made) token filled rest (for_second ++ ending)) 0 0 counts finds given (omega arith)
          (λ frame world. subst (λ one. Runs known.target 0 0 (turn_of (Opens.behind_alone known o one) frame fs world)
          (turn_of (comes_to 1 (Some made) token filled rest (Opens.for_second known o one ++ ending)) frame fs world)) (sym same)
          (runs_none known.target (turn_of (Opens.behind_alone known o (Some made)) frame fs world)))
      by (suc (suc n)) going counts same given = blanks n counts given small finds finds_behind
