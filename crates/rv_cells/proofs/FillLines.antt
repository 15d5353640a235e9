-- Constructions in the cells of tokens, as lines.
use Rattle.std.proofs.Common.{◌≡◌, ◌≢◌, ◌<◌, ◌≤◌, ℕ, ◌+◌, ◌*◌, Bool, true, false, not, List, [], ◌∷◌, ◌++◌, length, Option, Some, nat_eq, refl, sym, ◌∙◌, ap, subst, arith, append_assoc}
use Rattle.std.proofs.lemmas.List.{length-map}
use Rattle.kk_source.specs.Live.{value_of}
use Rattle.std.proofs.lemmas.Bool.Decides.{nat_tests}
use Rattle.kk_base.specs.Limits.{greatest_of}
use Rattle.kk_base.specs.declared.limit.LimitKind.TheVariants.{Fields}
use Rattle.kk_syntax.specs.Shapes.{is_among}
use Rattle.kk_counted.specs.Keeping.{values_of}
use Rattle.rv_isa.specs.declared.asm.Action.TheVariants.{Label, Branch, Routine as Calls}
use Rattle.rv_isa.specs.declared.asm.Condition.TheVariants.{NotEqual}
use Rattle.rv_isa.specs.declared.routine.Routine.TheVariants.{Take}
use Rattle.rv_isa.specs.AsmCode.{Line}
use Rattle.rv_isa.specs.AsmMachine.{is_label}
use Rattle.rv_isa.specs.Frames.{Frame, put, found}
use Rattle.cell_heap.specs.Blocks.{Cells}
use Rattle.cell_runtime.specs.World.{with_cells}
use Rattle.rv_lower.specs.Lines.{copies_to, acts}
use Rattle.rv_lower.proofs.Calls.{HaveWords}
use Rattle.rv_lower.proofs.FormEffects.{put_same, put_other}
use Rattle.rv_cells.specs.Layout.{words_in, header_of}
use Rattle.rv_cells.specs.CountedCells.{IsBlockOf, Owner, cell_of, in_hand, Follows, with_owner, assign}
use Rattle.rv_cells.specs.CellLines.{is_kept, FillLines, hold_lines, unhold_lines}
use Rattle.rv_cells.proofs.Words.{same_owner}
use Rattle.rv_cells.proofs.Runs.{turn_of, Runs, runs_then}
use Rattle.rv_cells.proofs.CellActions.{put_in, copy_runs, label_exact, falls_one_exact, branch_one_exact}
use Rattle.rv_cells.proofs.Spots.{Spot, Known, Here}
use Rattle.rv_cells.proofs.LineCosts.{most_moves, row_cost, row_more}
use Rattle.rv_cells.proofs.Values.{HasValues, among_none}
use Rattle.rv_cells.proofs.ConstructionLines.{IsMaking, made_spot, construct_cost, Hands, twice_owner, args_words, few_arguments, names_made, counts_made}
use Rattle.rv_cells.proofs.FormWords.{has_same}
use Rattle.rv_cells.proofs.KeptStores.{picked, picked_all, word_if, with_some}
use Rattle.rv_cells.proofs.WordStores.{HasWords, has_stored, words_behind, count_behind, header_behind, fields_behind, put_if, words_same, set_cost, set_steps, both_set, words_spare, words_run}
use Rattle.rv_cells.proofs.TokenOpenings.{LeadsTo}

abbrev takes_into : ℕ → Line
takes_into x = record { action = Calls Take; args = []; into = Some x }

-- a construction in a token's cell costs its lines, and what is saved for the drop of its cell
abbrev pub fill_cost : Known → List ℕ → List ℕ → ℕ
fill_cost known others arguments =
    3 * most_moves + 6 + row_cost others (most_moves + 9) + row_cost others (most_moves + 7) + construct_cost known arguments

module _ (known : Known) (rest : List Line) (fs : List (Frame Line)) (s : Spot) (x token c : ℕ) (others : List ℕ) (filled : ℕ)
    (arguments kept : List ℕ) (head count : Bool) (lines : List Line) (here : Here known s)
    (making : IsMaking known s x c arguments)
    (are : FillLines known.base x token others filled (header_of known.layout c) arguments kept head count lines) where
  abbrev pub takes : Line
  takes = record { action = Calls Take; args = []; into = Some x }

  -- the lines from the label on, from the stores of the kept fields on, and from the first held token on
  abbrev pub from_label : List Line
  from_label = acts (Label filled) [] ∷ (are.1 ++ rest)

  abbrev pub from_kept : List Line
  from_kept = are.0 ++ from_label

  abbrev pub from_holds : List Line
  from_holds = hold_lines others ++ (takes ∷ (unhold_lines others ++ from_kept))

  pub whole_lines : lines ++ rest ≡ copies_to token x ∷ acts (Branch NotEqual filled) (x ∷ []) ∷ from_holds
  whole_lines =
      let own = acts (Label filled) [] ∷ are.1 in
      ap (λ ls. ls ++ rest) are.4
      ∙ ap (λ ls. copies_to token x ∷ acts (Branch NotEqual filled) (x ∷ []) ∷ ls)
      (append_assoc (hold_lines others) (takes ∷ (unhold_lines others ++ (are.0 ++ own))) rest
      ∙ ap (λ ls. hold_lines others ++ (takes ∷ ls))
      (append_assoc (unhold_lines others) (are.0 ++ own) rest
      ∙ ap (λ ls. unhold_lines others ++ ls) (append_assoc are.0 own rest)))

  -- ---- the token's word is tested

  abbrev pub tested : ℕ → Frame Line
  tested word = put_in x word s.frame

  abbrev pub test_cost : ℕ
  test_cost = (most_moves + 2) + (most_moves + 2)

  abbrev branches : Line
  branches = acts (Branch NotEqual filled) (x ∷ [])

  -- it is null
  pub tests_null : s.frame.cells token ≡ Some 0 → Runs known.target test_cost (1 + 1)
      (turn_of (lines ++ rest) s.frame fs s.world) (turn_of from_holds (tested 0) fs s.world)
  tests_null is =
      subst (λ ls. Runs known.target test_cost (1 + 1) (turn_of ls s.frame fs s.world)
      (turn_of from_holds (tested 0) fs s.world)) (sym whole_lines)
      (runs_then known.target (most_moves + 2) (most_moves + 2) 1 1
      (turn_of (copies_to token x ∷ branches ∷ from_holds) s.frame fs s.world)
      (turn_of (branches ∷ from_holds) (tested 0) fs s.world) (turn_of from_holds (tested 0) fs s.world)
      (copy_runs known.target (branches ∷ from_holds) s.frame fs s.world token x 0 is)
      (falls_one_exact known.target from_holds (tested 0) fs s.world NotEqual filled x 0 (put_same x 0 s.frame.cells) refl))

  -- it is a cell's
  pub tests_cell : (at : ℕ) → s.frame.cells token ≡ Some at → at ≢ 0
      → found (λ line. is_label filled line.action) s.frame.whole ≡ Some from_label
      → Runs known.target test_cost (1 + 1) (turn_of (lines ++ rest) s.frame fs s.world)
      (turn_of from_label (tested at) fs s.world)
  tests_cell at is some finds =
      let test : nat_eq at 0 ≡ false = grind (arith, nat_tests) in
      subst (λ ls. Runs known.target test_cost (1 + 1) (turn_of ls s.frame fs s.world)
      (turn_of from_label (tested at) fs s.world)) (sym whole_lines)
      (runs_then known.target (most_moves + 2) (most_moves + 2) 1 1
      (turn_of (copies_to token x ∷ branches ∷ from_holds) s.frame fs s.world)
      (turn_of (branches ∷ from_holds) (tested at) fs s.world) (turn_of from_label (tested at) fs s.world)
      (copy_runs known.target (branches ∷ from_holds) s.frame fs s.world token x at is)
      (branch_one_exact known.target from_holds (tested at) fs s.world NotEqual filled x at from_label
      (put_same x at s.frame.cells) (ap not test) finds))

-- ---- the whole of it

module _ (known : Known) (rest : List Line) (fs : List (Frame Line)) (s : Spot) (x token c : ℕ) (others : List ℕ) (filled : ℕ)
    (arguments kept : List ℕ) (head count : Bool) (lines : List Line) (here : Here known s)
    (making : IsMaking known s x c arguments)
    (are : FillLines known.base x token others filled (header_of known.layout c) arguments kept head count lines) where
  -- the values, where x names a cell
  abbrev pub named : (ℕ → Option ℕ) → ℕ → ℕ → Option ℕ
  named values at = put x (Some at) values

  abbrev pub with_values : (ℕ → Option ℕ) → Frame Line
  with_values values = record s.frame { cells = values }

  -- The cell at an address is made: from older frames to others, with these owners and values before it is counted. Values of
  -- other variables are these in its frame.
  abbrev pub FillsFrom : List Line → List (Frame Line) → (ℕ → Owner) → (ℕ → Option ℕ) → ℕ → Type 0
  FillsFrom start gs owners values at =
      (frame : Frame Line) × (cells : Cells) × LeadsTo known (fill_cost known others arguments) start rest fs gs s
      (made_spot (record s { owners = owners }) x c (values_of s.environment arguments) at frame cells) (token ∷ others)
      × ((z : ℕ) → z < known.base → z ≢ x → frame.cells z ≡ values z)

  abbrev pub Fills : List (Frame Line) → (ℕ → Owner) → (ℕ → Option ℕ) → ℕ → Type 0
  Fills gs owners values at = FillsFrom (lines ++ rest) gs owners values at

  -- other values than those of tokens, of variables and temporaries
  abbrev pub AreSpared : (ℕ → Option ℕ) → Type 0
  AreSpared values = (z : ℕ) → z < known.base → is_among (token ∷ others) z ≡ false → values z ≡ s.frame.cells z

  abbrev pub most_before : ℕ
  most_before = (3 * most_moves + 6) + (most_moves + 10) + row_cost others (most_moves + 9) + row_cost others (most_moves + 7)

  -- the cost of the stores of the words that a token's cell has
  abbrev pub kept_cost : ℕ
  kept_cost = set_cost head + (row_cost (picked (is_kept true kept) 0 arguments) (most_moves + 3) + set_cost count)

  abbrev label : List Line
  label = from_label known rest fs s x token c others filled arguments kept head count lines here making are

  abbrev behind_holds : List Line
  behind_holds = from_kept known rest fs s x token c others filled arguments kept head count lines here making are

  abbrev words_are : List ℕ
  words_are = words_in known.layout s.address (values_of s.environment arguments)

  -- the spot at which the cell is in hand with these words
  abbrev there : (ℕ → Owner) → (ℕ → Option ℕ) → ℕ → (ℕ → Option ℕ) → Cells → Spot
  there owners values at words next =
      record s {
        owners = with_owner at (in_hand words) owners;
        frame = record s.frame { cells = values };
        world = with_cells s.world next;
      }

  making_there : (owners : ℕ → Owner) (values : ℕ → Option ℕ) (at : ℕ) (words : ℕ → Option ℕ) (next : Cells)
      → IsMaking known (there owners values at words next) x c arguments
  making_there owners values at words next = record {
    below = making.below;
    bound = making.bound;
    apart = making.apart;
    holds = making.holds;
    fits = making.fits;
    older = making.older;
  }

  -- variable x has the address, and the arguments have their words
  names_cell : (values : ℕ → Option ℕ) (at : ℕ) → named values at x ≡ Some at
  names_cell values at = put_same x at values

  have_words : (owners : ℕ → Owner) (values : ℕ → Option ℕ) (at : ℕ) (words : ℕ → Option ℕ) (next : Cells)
      → Here known (there owners values at words next) → HaveWords (named values at) arguments words_are
  have_words owners values at words next here_there =
      args_words known (there owners values at words next) here_there x at arguments making.bound making.apart

  abbrev header : ℕ
  header = header_of known.layout c

  few : length arguments ≤ greatest_of Fields
  few = few_arguments known s x c arguments making

  -- from the label on, to which lines have come
  pub ends : (start : List Line) (gs : List (Frame Line)) (owners : ℕ → Owner) (values : ℕ → Option ℕ) (at cost steps : ℕ)
      (words : ℕ → Option ℕ) (next : Cells) (cells : ℕ → Option ℕ)
      → Runs known.target cost steps (turn_of start s.frame fs s.world)
      (turn_of label (with_values cells) gs (with_cells s.world next))
      → ((z : ℕ) → z < known.base → cells z ≡ named values at z)
      → cost ≤ most_before + kept_cost → Hands known.target.pool known.layout s.address owners s.heap at words next
      → HasWords head count kept (header_of known.layout c) words_are words
      → HasValues known.layout s.address known.holds known.base (length s.heap) s.bound s.environment values → AreSpared values
      → FillsFrom start gs owners values at
  ends start gs owners values at cost steps words next cells runs beside cheap hands known_ones has spared =
      let low = making.below in
      let f = with_values cells in
      let world = with_cells s.world next in
      let to : Spot = there owners values at words next in
      let here_there : Here known to = record { follows = hands; values = has } in
      let is_making = making_there owners values at words next in
      let holds = subst (λ o. Follows known.target.pool known.layout s.address o s.heap next)
      (sym (twice_owner at (in_hand words) (in_hand words) owners)) hands in
      let stores = are.1 in
      let takes = is_kept false kept in
      let done = words_run known to here_there (not head) (not count) takes x header arguments words_are stores making.below few
      making.bound are.3 rest f gs to.owners at words world (beside x making.below ∙ names_cell values at)
      (words_same known to here_there (named values at) cells arguments words_are making.bound beside
      (have_words owners values at words next here_there)) holds in
      let storing = set_cost (not head) + (row_cost (picked takes 0 arguments) (most_moves + 3) + set_cost (not count)) in
      let storing_steps = set_steps (not head) + (length (picked takes 0 arguments) + set_steps (not count)) in
      let later_values = put_if (not count) known.base 1 (put_if (not head) known.base header cells) in
      let kept_below : (z : ℕ) → z < known.base → later_values z ≡ named values at z
      = λ z below. words_spare known to here_there (not head) (not count) takes x header arguments words_are stores making.below few
      making.bound are.3 cells z below ∙ beside z below in
      let g = with_values later_values in
      let shows : IsBlockOf known.layout s.address
      (record { count = 1; cell = record { made_by = c; fields = values_of s.environment arguments } })
      (words_behind head count kept header words_are words)
      = record {
        count = count_behind head count kept header words_are words known_ones;
        header = header_behind head count kept header words_are words known_ones;
        fields = fields_behind head count kept header words_are words known_ones;
        fits = making.fits;
      } in
      let made = names_made known to x c arguments here_there is_making at in
      let counted = counts_made known to x c arguments here_there is_making (with_values (named values at)) at
      (words_behind head count kept header words_are words) done.0 done.2 shows made in
      let first = label_exact known.target (stores ++ rest) f gs world filled in
      let many = few in
      let long : length (values_of s.environment arguments) ≡ length arguments = length-map arguments (value_of s.environment) in
      let later = assign (length s.heap) at s.address in
      let heap = record { count = 1; cell = record { made_by = c; fields = values_of s.environment arguments } } ∷ s.heap in (
        g,
        done.0,
        record {
          cost = cost + (0 + storing);
          steps = steps + (1 + storing_steps);
          within = omega (
            arith,
            row_more arguments (most_moves + 2),
            many,
            picked_all kept 0 arguments (most_moves + 3),
            both_set head,
            both_set count,
          );
          runs = runs_then known.target cost (0 + storing) steps (1 + storing_steps) (turn_of start s.frame fs s.world)
              (turn_of label f gs world) (turn_of rest g gs (with_cells s.world done.0)) runs
              (runs_then known.target 0 storing 1 storing_steps (turn_of label f gs world) (turn_of (stores ++ rest) f gs world)
              (turn_of rest g gs (with_cells s.world done.0)) first done.1);
          here = record {
            follows = subst (λ o. Follows known.target.pool known.layout later o heap done.0)
                (twice_owner at (in_hand words) (cell_of (length s.heap)) owners) counted.follows;
            values = has_same made later_values (λ z among. kept_below z (made.below z among));
          };
          spared = λ z below apart none.
              kept_below z below ∙ put_other x z at values (among_none x s.bound z none).0 ∙ spared z below apart;
          left = refl {a = s.world.left};
          whole = refl;
          function = refl;
          held = refl;
        },
        λ z below differ. kept_below z below ∙ put_other x z at values differ,
      )

  -- from behind the request on, which has taken the cell
  pub ends_taken : (gs : List (Frame Line)) (owners : ℕ → Owner) (values : ℕ → Option ℕ) (at cost steps : ℕ)
      (words : ℕ → Option ℕ) (next : Cells)
      → Runs known.target cost steps (turn_of (lines ++ rest) s.frame fs s.world)
      (turn_of behind_holds (with_values (named values at)) gs (with_cells s.world next))
      → cost ≤ most_before → Follows known.target.pool known.layout s.address owners s.heap next → owners at ≡ in_hand words
      → HasValues known.layout s.address known.holds known.base (length s.heap) s.bound s.environment values → AreSpared values
      → Fills gs owners values at
  ends_taken gs owners values at cost steps words next runs cheap follows hand has spared =
      let f = with_values (named values at) in
      let world = with_cells s.world next in
      let to : Spot = there owners values at words next in
      let hands = subst (λ o. Follows known.target.pool known.layout s.address o s.heap next)
      (sym (same_owner at (in_hand words) owners hand)) follows in
      let here_there : Here known to = record { follows = hands; values = has } in
      let takes = is_kept true kept in
      let run = words_run known to here_there head count takes x header arguments words_are are.0 making.below few making.bound
      are.2 label f gs owners at words world (names_cell values at) (have_words owners values at words next here_there) hands in
      let many = set_steps head + (length (picked takes 0 arguments) + set_steps count) in
      ends (lines ++ rest) gs owners values at (cost + kept_cost) (steps + many)
      (word_if count 0 1 (with_some takes 2 0 words_are (word_if head 1 header words))) run.0
      (put_if count known.base 1 (put_if head known.base header (named values at)))
      (runs_then known.target cost kept_cost steps many (turn_of (lines ++ rest) s.frame fs s.world)
      (turn_of behind_holds f gs world)
      (turn_of label (with_values (put_if count known.base 1 (put_if head known.base header (named values at)))) gs
      (with_cells s.world run.0)) runs run.1)
      (λ z below. words_spare known to here_there head count takes x header arguments words_are are.0 making.below few making.bound
      are.2 (named values at) z below)
      (omega (arith, cheap)) run.2 (has_stored head count kept header words_are words) has spared

  -- In the token's own cell, which has these words: from lines that lead to the label as the test of the token does.
  pub fills_from : (start : List Line) (at : ℕ) (words : ℕ → Option ℕ) → s.owners at ≡ in_hand words
      → HasWords head count kept (header_of known.layout c) words_are words
      → Runs known.target (test_cost known rest fs s x token c others filled arguments kept head count lines here making are) (1 +
      1)
      (turn_of start s.frame fs s.world)
      (turn_of label (tested known rest fs s x token c others filled arguments kept head count lines here making are at) fs s.world)
      → FillsFrom start fs s.owners s.frame.cells at
  fills_from start at words hand known_ones runs =
      ends start fs s.owners s.frame.cells at
      (test_cost known rest fs s x token c others filled arguments kept head count lines here making are) (1 + 1) words
      s.world.cells (named s.frame.cells at) runs
      (λ z below. refl) (omega arith)
      (subst (λ o. Follows known.target.pool known.layout s.address o s.heap s.world.cells)
      (sym (same_owner at (in_hand words) s.owners hand)) here.follows)
      known_ones here.values (λ z below apart. refl)
