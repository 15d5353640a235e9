-- Openings by the count of the cell, as lines: on each way, up to what is done with the cell.
use Rattle.std.proofs.Common.{◌≡◌, ◌≢◌, ◌<◌, ◌≤◌, ℕ, suc, ◌+◌, ◌*◌, true, false, not, inl, inr, List, [], ◌∷◌, ◌++◌, length, Option, Some, None, nat_eq, cond, ◌==◌, refl, sym, ◌∙◌, ap, subst, arith, append_assoc}
use Rattle.std.specs.Prelude.{filter}
use Rattle.std.proofs.lemmas.Bool.{cases_eq}
use Rattle.std.proofs.lemmas.Bool.Decides.{nat_tests}
use Rattle.kk_syntax.specs.Shapes.{is_among}
use Rattle.kk_source.specs.State.{place}
use Rattle.kk_source.specs.Live.{value_of}
use Rattle.kk_core.specs.CoreMachine.{bind_fields}
use Rattle.kk_counted.specs.Lowerable.{bound_list}
use Rattle.kk_counted.specs.Heaps.{Held, Heap, count_in, count_at, set_count, dup_all, drop_all}
use Rattle.kk_counted.specs.CountedMachine.{Named, used_values, other_values}
use Rattle.kk_counted.specs.Keeping.{values_of}
use Rattle.kk_counted.specs.Spending.{AreApart}
use Rattle.kk_counted.proofs.CountChanges.{set_length, count_set, kept_weight, freed_weight}
use Rattle.kk_counted.proofs.Variables.{field_past}
use Rattle.rv_isa.specs.declared.asm.Action.TheVariants.{Label, Jump, Branch}
use Rattle.rv_isa.specs.declared.asm.Operation.TheVariants as Op
use Rattle.rv_isa.specs.declared.asm.ImmediateOperation.TheVariants.{Addi}
use Rattle.rv_isa.specs.Arithmetic.{sum_word}
use Rattle.rv_isa.specs.AsmCode.{Line}
use Rattle.rv_isa.specs.AsmMachine.{AsmTurn, is_label}
use Rattle.rv_isa.specs.Processor.{Ending}
use Rattle.rv_isa.specs.Frames.{Frame, put, found}
use Rattle.cell_heap.specs.Blocks.{Cells, own, with_block, with_word}
use Rattle.cell_runtime.specs.World.{World, with_cells}
use Rattle.cell_runtime.specs.Operations.{compares}
use Rattle.rv_lower.specs.Lines.{computes, sets, copies_to, acts}
use Rattle.rv_cells.specs.Layout.{word_in, words_in, header_of, first_field}
use Rattle.rv_cells.specs.CountedCells.{AreFrom, Owner, cell_of, in_hand, IsCellOf, with_owner, is_aside}
use Rattle.rv_cells.specs.CellLines.{dups_lines, drops_lines, TokenUniqueLines}
use Rattle.rv_cells.specs.CellLines.{alone_lines, first_way, second_way, goes_second, leaving_lines}
use Rattle.rv_cells.proofs.NameContents.{some-is, held_other, held_count}
use Rattle.rv_cells.proofs.Owners.{chosen_same, chosen_other}
use Rattle.rv_cells.proofs.Words.{load_own, store_own, cell_named, recount, opened_unique}
use Rattle.rv_cells.proofs.Cascades.{busy_set}
use Rattle.rv_lower.proofs.FormEffects.{put_same, put_other}
use Rattle.rv_cells.proofs.Values.{HasValues, has_other, has_temporary, MadeBy, named_made}
use Rattle.rv_cells.proofs.Runs.{turn_of, Runs, runs_then}
use Rattle.rv_cells.proofs.CellActions.{put_in, load_runs, sets_runs, store_runs, addi_runs, label_runs, jump_runs, falls_runs, branch_runs}
use Rattle.rv_cells.proofs.Spots.{AreSmall, Spot, Known, Here, Did, saved}
use Rattle.rv_cells.proofs.LineCosts.{most_moves, row_cost}
use Rattle.rv_cells.proofs.Rows.{with_fields, IsReading, read_did, dups_did, drops_did}
use Rattle.rv_cells.proofs.Openings.{where_values, bound_older, bound_fields, opened_spot}

abbrev pub others_of : List ℕ → List ℕ → List ℕ
others_of used fields = filter (λ y. not (is_among used y)) fields

-- a spot with temporaries written
abbrev at_frame : Spot → Frame Line → Spot
at_frame s f = record s { frame = f }

still_reads : (known : Known) (s : Spot) (f : Frame Line) (x c : ℕ) (fields : List ℕ) (named : Named)
    → IsReading known s x c fields named → IsReading known (at_frame s f) x c fields named
still_reads known s f x c fields named reads =
    record {
      bound = reads.bound;
      is = reads.is;
      below = reads.below;
      apart = reads.apart;
      kinds = reads.kinds;
      older =
          reads.older;
    }

-- an opening by the count of a cell, and the spot before it
pub record CountOpening (known : Known) : Type 0 where
  pub rest : List Line
  pub fs : List (Frame Line)
  pub s : Spot
  pub x : ℕ
  pub c : ℕ
  pub fields : List ℕ
  pub used : List ℕ
  pub token : ℕ
  pub into : Option ℕ
  pub second : ℕ
  pub behind : ℕ
  pub filled : ℕ
  pub lines : List Line
  pub named : Named
  pub next : Heap
  pub here : Here known s
  pub reads : IsReading known s x c fields named
  pub apart : AreApart fields
  pub uniques : TokenUniqueLines known.base known.holds second behind filled x fields used token into lines

module _ (known : Known) (o : CountOpening known) where
  abbrev rest : List Line
  rest = o.rest

  abbrev fs : List (Frame Line)
  fs = o.fs

  abbrev s : Spot
  s = o.s

  abbrev x : ℕ
  x = o.x

  abbrev c : ℕ
  c = o.c

  abbrev fields : List ℕ
  fields = o.fields

  abbrev used : List ℕ
  used = o.used

  abbrev token : ℕ
  token = o.token

  abbrev second : ℕ
  second = o.second

  abbrev behind : ℕ
  behind = o.behind

  abbrev filled : ℕ
  filled = o.filled

  abbrev lines : List Line
  lines = o.lines

  abbrev named : Named
  named = o.named

  abbrev next : Heap
  next = o.next

  abbrev here : Here known s
  here = o.here

  abbrev reads : IsReading known s x c fields named
  reads = o.reads

  abbrev apart : AreApart fields
  apart = o.apart

  abbrev uniques : TokenUniqueLines known.base known.holds second behind filled x fields used token o.into lines
  uniques = o.uniques

  abbrev pub tested : Line
  tested = uniques.0

  abbrev pub loads : List Line
  loads = uniques.1

  abbrev pub drops : List Line
  drops = drops_lines known.holds (others_of used fields)

  abbrev pub dups : List Line
  dups = dups_lines known.holds (filter (is_among used) fields)

  abbrev pub ending : List Line
  ending = acts (Label behind) [] ∷ rest

  abbrev lowers : List Line
  lowers = uniques.2 ∷ computes (Op.Immediate Addi uniques.3) (known.base ∷ []) known.base ∷ uniques.4 ∷ sets 0 token ∷ dups

  -- the way of a cell of one reference, and that of a cell of several
  abbrev alone : List Line
  alone = alone_lines known.holds x fields used token loads

  abbrev shared : List Line
  shared = loads ++ lowers

  -- which stands first, and which second, and how the first one ends
  abbrev pub leaving : Option ℕ → List Line
  leaving into = leaving_lines into token behind filled

  abbrev pub second_lines : Option ℕ → List Line
  second_lines into = second_way into alone shared

  abbrev pub for_second : Option ℕ → List Line
  for_second into = acts (Label second) [] ∷ second_lines into

  abbrev for_first : Option ℕ → List Line
  for_first into = first_way into alone shared ++ leaving into

  abbrev pub head_of : Option ℕ → List Line
  head_of into = tested ∷ sets 1 (known.base + 1) ∷ acts (Branch (goes_second into) second) (known.base ∷ (known.base + 1) ∷ [])
      ∷ for_first into

  -- what stands behind each way
  abbrev pub behind_alone : Option ℕ → List Line
  behind_alone None = ending
  behind_alone (Some made) = leaving (Some made) ++ (for_second (Some made) ++ ending)

  abbrev pub behind_shared : Option ℕ → List Line
  behind_shared None = leaving None ++ (for_second None ++ ending)
  behind_shared (Some made) = ending

  pub whole_lines : lines ++ rest ≡ head_of o.into ++ (for_second o.into ++ ending)
  whole_lines =
      ap (λ ls. ls ++ rest) uniques.10
      ∙ ap (λ ls. tested ∷ sets 1 (known.base + 1) ∷ acts (Branch (goes_second o.into) second)
      (known.base ∷ (known.base + 1) ∷ []) ∷ ls)
      (append_assoc (for_first o.into) (for_second o.into ++ (acts (Label behind) [] ∷ [])) rest
      ∙ ap (λ ls. for_first o.into ++ ls) (append_assoc (for_second o.into) (acts (Label behind) [] ∷ []) rest))

  pub made : MadeBy c (length fields) s.heap (value_of s.environment x) named
  made = named_made c (length fields) s.heap (value_of s.environment x) named reads.is

  many : length named.fields ≡ length fields
  many = ap length (sym made.fields) ∙ made.many

  pub counted : 1 ≤ count_at s.heap named.at
  counted = let count = held_count s.heap named.at made.held made.there in let some = made.counted in omega arith

  pub stands : IsCellOf known.target.pool known.layout s.address s.heap named.at (s.address named.at)
      (s.world.cells.blocks (s.address named.at))
  stands = cell_named here.follows named.at counted

  count_there : stands.words 0 ≡ Some (count_at s.heap named.at)
  count_there = stands.shows.count ∙ ap Some (sym (held_count s.heap named.at stands.held stands.there))

  x_word : s.frame.cells x ≡ Some (s.address named.at)
  x_word = here.values.words x reads.bound ∙ ap (λ v. Some (word_in known.layout s.address v)) made.is

  -- the frame behind the test of the count
  abbrev pub tests : Frame Line
  tests = put_in (known.base + 1) 1 (put_in known.base (count_at s.heap named.at) s.frame)

  pub here_tests : Here known (at_frame s tests)
  here_tests = record {
    follows = here.follows;
    values = has_temporary (has_temporary here.values known.base (count_at s.heap named.at) (omega arith)) (known.base + 1) 1
        (omega arith);
  }

  -- behind the loads, from such a frame
  abbrev one_from : Frame Line → Spot
  one_from frame = with_fields known.layout (at_frame s frame) fields named.fields

  pub same_x : value_of (bind_fields fields named.fields s.environment) x ≡ place named.at
  same_x = field_past fields named.fields s.environment x reads.apart ∙ made.is

  -- the count is loaded, and 1 is set
  loads_count : (there : List Line) → Runs known.target ((most_moves + 2) + (most_moves + 2)) (1 + 1)
      (turn_of (tested ∷ sets 1 (known.base + 1) ∷ there) s.frame fs s.world) (turn_of there tests fs s.world)
  loads_count there =
      let moves = most_moves in
      let f1 = put_in known.base (count_at s.heap named.at) s.frame in
      runs_then known.target (moves + 2) (moves + 2) 1 1 (turn_of (tested ∷ sets 1 (known.base + 1) ∷ there) s.frame fs s.world)
      (turn_of (sets 1 (known.base + 1) ∷ there) f1 fs s.world) (turn_of there tests fs s.world)
      (load_runs known.target (sets 1 (known.base + 1) ∷ there) s.frame fs s.world x 0 known.base (s.address named.at)
      (count_at s.heap named.at) tested uniques.5 x_word
      (load_own s.world.cells (s.address named.at) 0 (count_at s.heap named.at) stands.words stands.is (omega arith) count_there))
      (sets_runs known.target there f1 fs s.world 1 (known.base + 1))

  first_temporary : tests.cells known.base ≡ Some (count_at s.heap named.at)
  first_temporary =
      put_other (known.base + 1) known.base 1 (put_in known.base (count_at s.heap named.at) s.frame).cells (λ e. omega arith)
      ∙ put_same known.base (count_at s.heap named.at) s.frame.cells

  second_temporary : tests.cells (known.base + 1) ≡ Some 1
  second_temporary = put_same (known.base + 1) 1 (put_in known.base (count_at s.heap named.at) s.frame).cells

  pub tests_spare : (z : ℕ) → z < known.base → tests.cells z ≡ s.frame.cells z
  tests_spare z low =
      put_other (known.base + 1) z 1 (put_in known.base (count_at s.heap named.at) s.frame).cells (λ e. omega (arith, e, low))
      ∙ put_other known.base z (count_at s.heap named.at) s.frame.cells (λ e. omega (arith, e, low))

  abbrev spot_of : Frame Line → (ℕ → Owner) → Cells → Spot
  spot_of frame owners cells = opened_spot known s fields named.fields next frame owners cells

  -- the lines have come to other ones, at this cost beyond what was saved, where values of such a frame are spared
  pub record Comes (most : ℕ) (left : List Line) (from : ℕ → Option ℕ) (frame : Frame Line) (owners : ℕ → Owner)
      (cells : Cells) : Type 0 where
    pub cost : ℕ
    pub steps : ℕ
    pub within : cost + saved next ≤ most + saved s.heap
    pub runs : Runs known.target cost steps (turn_of (lines ++ rest) s.frame fs s.world)
        (turn_of left frame fs (with_cells s.world cells))
    pub here : Here known (spot_of frame owners cells)
    pub spared : (z : ℕ) → z < known.base → is_among (bound_list fields s.bound) z ≡ false → frame.cells z ≡ from z
    pub whole : frame.whole ≡ s.frame.whole
    pub function : frame.function ≡ s.frame.function
    pub held : frame.held ≡ s.frame.held

  -- ---- each way from the test, and behind it

  abbrev pub Finds : ℕ → Frame Line → List Line → Type 0
  Finds label frame there = found (λ line. is_label label line.action) frame.whole ≡ Some there

  -- so many steps lead from a turn to another, at no more than this cost
  record Steps (most : ℕ) (t u : AsmTurn World Ending) : Type 0 where
    pub cost : ℕ
    pub steps : ℕ
    pub cheap : cost ≤ most
    pub runs : Runs known.target cost steps t u

  -- by the test the first way comes, or the second one
  to_first : (into : Option ℕ) → compares (goes_second into) (count_at s.heap named.at) 1 ≡ false
      → Steps (3 * most_moves + 7) (turn_of (head_of into ++ (for_second into ++ ending)) s.frame fs s.world)
      (turn_of (first_way into alone shared ++ (leaving into ++ (for_second into ++ ending))) tests fs s.world)
  to_first into fails =
      let moves = most_moves in
      let target = known.target in
      let others = for_second into ++ ending in
      let branch = acts (Branch (goes_second into) second) (known.base ∷ (known.base + 1) ∷ []) in
      let t0 = turn_of (head_of into ++ others) s.frame fs s.world in
      let t1 = turn_of (branch ∷ (for_first into ++ others)) tests fs s.world in
      let t2 = turn_of (for_first into ++ others) tests fs s.world in
      let falls = falls_runs target (for_first into ++ others) tests fs s.world (goes_second into) second known.base
      (known.base + 1) (count_at s.heap named.at) 1 first_temporary second_temporary fails in
      record {
        cost = ((moves + 2) + (moves + 2)) + (moves + 3);
        steps = (1 + 1) + 1;
        cheap = omega arith;
        runs = subst (λ ls. Runs target (((moves + 2) + (moves + 2)) + (moves + 3)) ((1 + 1) + 1) t0 (turn_of ls tests fs s.world))
            (append_assoc (first_way into alone shared) (leaving into) others)
            (runs_then target ((moves + 2) + (moves + 2)) (moves + 3) (1 + 1) 1 t0 t1 t2
            (loads_count (branch ∷ (for_first into ++ others))) falls);
      }

  to_second : (into : Option ℕ) → compares (goes_second into) (count_at s.heap named.at) 1 ≡ true
      → Finds second s.frame (for_second into ++ ending)
      → Steps (4 * most_moves + 7) (turn_of (head_of into ++ (for_second into ++ ending)) s.frame fs s.world)
      (turn_of (second_lines into ++ ending) tests fs s.world)
  to_second into holds finds =
      let moves = most_moves in
      let target = known.target in
      let others = for_second into ++ ending in
      let branch = acts (Branch (goes_second into) second) (known.base ∷ (known.base + 1) ∷ []) in
      let t0 = turn_of (head_of into ++ others) s.frame fs s.world in
      let t1 = turn_of (branch ∷ (for_first into ++ others)) tests fs s.world in
      let t2 = turn_of others tests fs s.world in
      let t3 = turn_of (second_lines into ++ ending) tests fs s.world in
      let jumps = branch_runs target (for_first into ++ others) tests fs s.world (goes_second into) second known.base
      (known.base + 1) (count_at s.heap named.at) 1 others first_temporary second_temporary holds finds in
      let enters = label_runs target (second_lines into ++ ending) tests fs s.world second in
      record {
        cost = ((moves + 2) + (moves + 2)) + ((moves + 3) + (moves + 0));
        steps = (1 + 1) + (1 + 1);
        cheap = omega arith;
        runs = runs_then target ((moves + 2) + (moves + 2)) ((moves + 3) + (moves + 0)) (1 + 1) (1 + 1) t0 t1 t3
            (loads_count (branch ∷ (for_first into ++ others)))
            (runs_then target (moves + 3) (moves + 0) 1 1 t1 t2 t3 jumps enters);
      }

  to_alone : (into : Option ℕ) → nat_eq (count_at s.heap named.at) 1 ≡ true → Finds second s.frame (for_second into ++ ending)
      → Steps (4 * most_moves + 7) (turn_of (head_of into ++ (for_second into ++ ending)) s.frame fs s.world)
      (turn_of (alone ++ behind_alone into) tests fs s.world)
  to_alone None test finds = to_second None test finds
  to_alone (Some made) test finds =
      let first = to_first (Some made) (ap not test) in
      let cheap = first.cheap in
      record { cost = first.cost; steps = first.steps; cheap = omega arith; runs = first.runs }

  -- the cost to come to the way of a cell of several references, and that to leave it
  abbrev come_cost : Option ℕ → ℕ
  come_cost None = 3 * most_moves + 7
  come_cost (Some _) = 4 * most_moves + 7

  abbrev leave_cost : Option ℕ → ℕ
  leave_cost None = 2 * most_moves + 2
  leave_cost (Some _) = most_moves

  both_cheap : (into : Option ℕ) → come_cost into + leave_cost into ≤ 5 * most_moves + 9
  both_cheap None = omega arith
  both_cheap (Some made) = omega arith

  to_shared : (into : Option ℕ) → nat_eq (count_at s.heap named.at) 1 ≡ false → Finds second s.frame (for_second into ++ ending)
      → Steps (come_cost into) (turn_of (head_of into ++ (for_second into ++ ending)) s.frame fs s.world)
      (turn_of (shared ++ behind_shared into) tests fs s.world)
  to_shared None test finds = to_first None test
  to_shared (Some made) test finds = to_second (Some made) (ap not test) finds

  -- the way of a cell of several references leads behind the opening
  leaves_shared : (into : Option ℕ) (frame : Frame Line) (world : World) → Finds behind frame ending
      → Steps (leave_cost into) (turn_of (behind_shared into) frame fs world) (turn_of rest frame fs world)
  leaves_shared None frame world finds =
      let moves = most_moves in
      let others = for_second None ++ ending in
      record {
        cost = (moves + 2) + (moves + 0);
        steps = 1 + 1;
        cheap = omega arith;
        runs = runs_then known.target (moves + 2) (moves + 0) 1 1 (turn_of (acts (Jump behind) [] ∷ others) frame fs world)
            (turn_of ending frame fs world) (turn_of rest frame fs world)
            (jump_runs known.target others frame fs world behind ending finds) (label_runs known.target rest frame fs world behind);
      }
  leaves_shared (Some made) frame world finds = record {
    cost = most_moves + 0;
    steps = 1;
    cheap = omega arith;
    runs = label_runs known.target rest frame fs world behind;
  }

  pub x_behind : (frame : Frame Line) (owners : ℕ → Owner) (cells : Cells) → Here known (spot_of frame owners cells)
      → frame.cells x ≡ Some (s.address named.at)
  x_behind frame owners cells at = at.values.words x (bound_older fields s.bound x reads.bound)
      ∙ ap (λ v. Some (word_in known.layout s.address v)) same_x

  -- ---- a cell of one reference

  -- The fields are loaded, and those that are not in use dropped. The cell is in hand.

  module _ (once : count_at s.heap named.at ≡ 1) (finds : Finds second s.frame (for_second o.into ++ ending))
      (given : drop_all (other_values used fields named.fields) (set_count named.at 0 s.heap) ≡ Some next) where
    abbrev pub at : ℕ
    at = s.address named.at

    abbrev two : Spot
    two = record (one_from tests) { owners = with_owner at (in_hand stands.words) s.owners; heap = set_count named.at 0 s.heap }

    pub is_owned : s.owners at ≡ cell_of named.at
    is_owned = here.follows.named named.at counted

    abbrev copies : List Line
    copies = copies_to x token ∷ []

    read : Did known (row_cost fields (most_moves + 2)) loads ((drops ++ copies) ++ behind_alone o.into) fs
        (at_frame s tests) (one_from tests)
    read = read_did known ((drops ++ copies) ++ behind_alone o.into) fs (at_frame s tests) x c fields loads named here_tests
        (still_reads known s tests x c fields named reads) uniques.6

    here_two : Here known two
    here_two = record {
      follows = opened_unique here.follows named.at stands.words once stands.is;
      values = subst (λ n. HasValues known.layout s.address known.holds known.base n two.bound two.environment two.frame.cells)
          (sym (set_length named.at 0 s.heap)) read.here.values;
    }

    same_held : stands.held ≡ made.held
    same_held = some-is (sym stands.there ∙ made.there)

    header_there : stands.words 1 ≡ Some (header_of known.layout c)
    header_there =
        stands.shows.header
        ∙ ap (λ k. Some (header_of known.layout k)) (ap (λ (h : Held). h.cell.made_by) same_held ∙ made.made)

    fields_there : AreFrom stands.words first_field (words_in known.layout s.address named.fields)
    fields_there =
        subst (λ vs. AreFrom stands.words first_field (words_in known.layout s.address vs))
        (ap (λ (h : Held). h.cell.fields) same_held ∙ made.fields) stands.shows.fields

    pub record Emptied (frame : Frame Line) (owners : ℕ → Owner) (cells : Cells) : Type 0 where
      pub comes : Comes (4 * most_moves + 7 + row_cost fields (most_moves + 2)
          + row_cost (others_of used fields) (most_moves + 15)) (copies_to x token ∷ behind_alone o.into) s.frame.cells frame
          owners cells
      pub words : ℕ → Option ℕ
      pub hand : owners at ≡ in_hand words
      pub count_is : words 0 ≡ Some 1
      pub header_is : words 1 ≡ Some (header_of known.layout c)
      pub fields_are : AreFrom words first_field (words_in known.layout s.address named.fields)
      pub aside : (y : ℕ) → y ≢ at → is_aside (s.owners y) ≡ true → owners y ≡ s.owners y
      pub was : (y : ℕ) → y ≢ at → is_aside (owners y) ≡ true → owners y ≡ s.owners y

    pub empties : (frame : Frame Line) × (owners : ℕ → Owner) × (cells : Cells) × Emptied frame owners cells
    empties =
        let moves = most_moves in
        let target = known.target in
        let others = others_of used fields in
        let values : values_of two.environment others ≡ other_values used fields named.fields = where_values
        (λ y. not (is_among used y)) fields named.fields s.environment apart many in
        let behind_drops = copies ++ behind_alone o.into in
        let dropped = drops_did known behind_drops fs others two next here_two
        (bound_fields (λ y. not (is_among used y)) fields s.bound)
        (ap (λ vs. drop_all vs (set_count named.at 0 s.heap)) values ∙ given) in
        let frame = two.frame in
        let did = dropped.2 in
        let world = with_cells s.world dropped.1 in
        let here_at : with_owner at (in_hand stands.words) s.owners at ≡ in_hand stands.words =
        chosen_same at at (in_hand stands.words) s.owners refl in
        let test : nat_eq (count_at s.heap named.at) 1 ≡ true = grind (arith, nat_tests) in
        let comes = to_alone o.into test finds in
        let t0 = turn_of (head_of o.into ++ (for_second o.into ++ ending)) s.frame fs s.world in
        let t1 = turn_of (alone ++ behind_alone o.into) tests fs s.world in
        let t2 = turn_of (drops ++ behind_drops) two.frame fs s.world in
        let t3 = turn_of behind_drops frame fs world in
        let reading : Runs target read.cost read.steps t1 t2 =
        subst (λ ls. Runs target read.cost read.steps (turn_of ls tests fs s.world) t2)
        (sym (append_assoc loads (drops ++ copies) (behind_alone o.into)))
        (subst (λ ls. Runs target read.cost read.steps
        (turn_of (loads ++ ((drops ++ copies) ++ behind_alone o.into)) tests fs s.world)
        (turn_of ls two.frame fs s.world)) (append_assoc drops copies (behind_alone o.into)) read.runs) in
        let end_one = runs_then target read.cost did.cost read.steps did.steps t1 t2 t3 reading did.runs in
        let whole = runs_then target comes.cost (read.cost + did.cost) comes.steps (read.steps + did.steps) t0 t1 t3 comes.runs
        end_one in
        let cells = busy_set named.at 0 0 s.heap once in
        let weights = freed_weight named.at 0 s.heap once in
        let cheap_first = comes.cheap in
        let cheap_read = read.within in
        let cheap = did.within in (
          frame,
          dropped.0,
          dropped.1,
          record {
            comes = record {
              cost = comes.cost + (read.cost + did.cost);
              steps = comes.steps + (read.steps + did.steps);
              within = omega arith;
              runs = subst (λ ls. Runs target (comes.cost + (read.cost + did.cost)) (comes.steps + (read.steps + did.steps))
                  (turn_of ls s.frame fs s.world) t3) (sym whole_lines) whole;
              here = did.here;
              spared = λ z low none. did.spared z low none ∙ read.spared z low none ∙ tests_spare z low;
              whole = did.whole;
              function = did.function;
              held = did.held;
            };
            words = stands.words;
            hand = did.aside at (ap is_aside here_at) ∙ here_at;
            count_is = count_there ∙ ap Some once;
            header_is = header_there;
            fields_are = fields_there;
            aside = λ y differ is.
                let same = chosen_other y at (in_hand stands.words) s.owners differ in
                did.aside y (ap is_aside same ∙ is) ∙ same;
            was = λ y differ is. did.was y is ∙ chosen_other y at (in_hand stands.words) s.owners differ;
          },
        )

  -- ---- a cell of several references

  -- The fields are loaded, the count is lowered, the token is null, and the fields in use get a reference more.

  module _ (n : ℕ) (several : count_at s.heap named.at ≡ suc (suc n))
      (given : dup_all (used_values used fields named.fields) (set_count named.at (suc n) s.heap) ≡ Some next)
      (small : AreSmall (length (filter (is_among used) fields)) s.heap)
      (finds : Finds second s.frame (for_second o.into ++ ending)) (finds_behind : Finds behind s.frame ending)
      (spare : is_among (bound_list fields s.bound) token ≡ false) where
    abbrev one : Spot
    one = one_from tests

    read_shared : Did known (row_cost fields (most_moves + 2)) loads (lowers ++ behind_shared o.into) fs (at_frame s tests) one
    read_shared = read_did known (lowers ++ behind_shared o.into) fs (at_frame s tests) x c fields loads named here_tests
        (still_reads known s tests x c fields named reads) uniques.6

    -- the frame behind the count that is lowered, and behind the null token; and the cells
    abbrev counts : Frame Line
    counts = put_in known.base (suc n) (put_in known.base (suc (suc n)) one.frame)

    abbrev cleared : Frame Line
    cleared = put_in token 0 counts

    abbrev stored : Cells
    stored = with_block (s.address named.at) (own (with_word 0 (suc n) stands.words)) s.world.cells

    abbrev three : Spot
    three = record one { heap = set_count named.at (suc n) s.heap; frame = cleared; world = with_cells s.world stored }

    less_one : sum_word (suc (suc n)) uniques.3.word ≡ suc n
    less_one = let word = uniques.8 in let bound = small named.at in omega arith

    x_in_one : one.frame.cells x ≡ Some (s.address named.at)
    x_in_one =
        read_shared.here.values.words x (bound_older fields s.bound x reads.bound)
        ∙ ap (λ v. Some (word_in known.layout s.address v)) same_x

    below_base : x < known.base
    below_base = here.values.below x reads.bound

    here_three : Here known three
    here_three = record {
      follows = recount here.follows named.at n stands.words counted stands.is;
      values = subst (λ k. HasValues known.layout s.address known.holds known.base k one.bound one.environment cleared.cells)
          (sym (set_length named.at (suc n) s.heap))
          (has_other (has_temporary (has_temporary read_shared.here.values known.base (suc (suc n)) (omega arith)) known.base (suc n)
          (omega arith)) token 0 spare);
    }

    lowers_run : Runs known.target ((most_moves + 2) + ((most_moves + 2) + ((most_moves + 3) + (most_moves + 2))))
        (1 + (1 + (1 + 1))) (turn_of (lowers ++ behind_shared o.into) one.frame fs s.world)
        (turn_of (dups ++ behind_shared o.into) cleared fs (with_cells s.world stored))
    lowers_run =
        let moves = most_moves in
        let target = known.target in
        let f1 = put_in known.base (suc (suc n)) one.frame in
        let low = below_base in
        let count_is : stands.words 0 ≡ Some (suc (suc n)) = count_there ∙ ap Some several in
        let left = dups ++ behind_shared o.into in
        let clears = sets 0 token ∷ left in
        let adds = uniques.4 ∷ clears in
        let loaded = load_runs target (computes (Op.Immediate Addi uniques.3) (known.base ∷ []) known.base ∷ adds) one.frame fs
        s.world x 0 known.base (s.address named.at) (suc (suc n)) uniques.2 uniques.7 x_in_one
        (load_own s.world.cells (s.address named.at) 0 (suc (suc n)) stands.words stands.is (omega arith) count_is) in
        let added = addi_runs target adds f1 fs s.world known.base known.base (suc (suc n)) uniques.3
        (put_same known.base (suc (suc n)) one.frame.cells) in
        let t1 = turn_of (lowers ++ behind_shared o.into) one.frame fs s.world in
        let t2 = turn_of (computes (Op.Immediate Addi uniques.3) (known.base ∷ []) known.base ∷ adds) f1 fs s.world in
        let t3 = turn_of adds counts fs s.world in
        let t4 = turn_of clears counts fs (with_cells s.world stored) in
        let t5 = turn_of left cleared fs (with_cells s.world stored) in
        let adding : Runs target (moves + 2) 1 t2 t3 = subst
        (λ w. Runs target (moves + 2) 1 t2 (turn_of adds (put_in known.base w f1) fs s.world)) less_one added in
        let x_here : counts.cells x ≡ Some (s.address named.at) =
        put_other known.base x (suc n) f1.cells (λ e. omega arith) ∙ put_other known.base x (suc (suc n)) one.frame.cells
        (λ e. omega arith) ∙ x_in_one in
        let storing = store_runs target clears counts fs s.world x 0 known.base (s.address named.at) (suc n) uniques.4 stored
        uniques.9 x_here (put_same known.base (suc n) f1.cells)
        (store_own s.world.cells (s.address named.at) 0 (suc n) stands.words stands.is (omega arith)) in
        let clearing = sets_runs target left counts fs (with_cells s.world stored) 0 token in
        runs_then target (moves + 2) ((moves + 2) + ((moves + 3) + (moves + 2))) 1 (1 + (1 + 1)) t1 t2 t5 loaded
        (runs_then target (moves + 2) ((moves + 3) + (moves + 2)) 1 (1 + 1) t2 t3 t5 adding
        (runs_then target (moves + 3) (moves + 2) 1 1 t3 t4 t5 storing clearing))

    fewer_counts : (name : ℕ) → count_at (set_count named.at (suc n) s.heap) name ≤ count_at s.heap name
    fewer_counts name =
        elim (cases_eq named.at name) [
          | inl e ↦
              (let now = count_set named.at (suc n) (suc n) s.heap several in
              let there = ap (count_at (set_count named.at (suc n) s.heap)) e in
              let was = ap (count_at s.heap) e in omega arith)
          | inr differ ↦ (let other = ap count_in (held_other named.at (suc n) name s.heap differ) in omega arith)
        ]

    pub lessens : (frame : Frame Line) × (owners : ℕ → Owner) × (cells : Cells)
        × Comes (9 * most_moves + 18 + row_cost fields (most_moves + 2)
        + row_cost (filter (is_among used) fields) (most_moves + 5)) rest (put token (Some 0) s.frame.cells) frame owners cells
        × ((y : ℕ) → is_aside (s.owners y) ≡ true → owners y ≡ s.owners y)
        × ((y : ℕ) → is_aside (owners y) ≡ true → owners y ≡ s.owners y)
    lessens =
        let moves = most_moves in
        let target = known.target in
        let part = filter (is_among used) fields in
        let values : values_of one.environment part ≡ used_values used fields named.fields = where_values
        (is_among used) fields named.fields s.environment apart many in
        let dupped = dups_did known (behind_shared o.into) fs part three next here_three (bound_fields (is_among used) fields s.bound)
        (ap (λ vs. dup_all vs (set_count named.at (suc n) s.heap)) values ∙ given)
        (λ name. let all = small name in let fewer = fewer_counts name in omega arith) in
        let did = dupped.2 in
        let world = with_cells s.world dupped.1 in
        let test : nat_eq (count_at s.heap named.at) 1 ≡ false = grind (arith, nat_tests) in
        let comes = to_shared o.into test finds in
        let leaves = leaves_shared o.into cleared world (ap (λ w. found (λ line. is_label behind line.action) w) did.whole
        ∙ finds_behind) in
        let left = behind_shared o.into in
        let t0 = turn_of (head_of o.into ++ (for_second o.into ++ ending)) s.frame fs s.world in
        let t1 = turn_of (shared ++ left) tests fs s.world in
        let t2 = turn_of (lowers ++ left) one.frame fs s.world in
        let t3 = turn_of (dups ++ left) cleared fs (with_cells s.world stored) in
        let t4 = turn_of left cleared fs world in
        let t5 = turn_of rest cleared fs world in
        let read = read_shared in
        let reading : Runs target read.cost read.steps t1 t2 =
        subst (λ ls. Runs target read.cost read.steps (turn_of ls tests fs s.world) t2)
        (sym (append_assoc loads lowers left)) read.runs in
        let lowering = (moves + 2) + ((moves + 2) + ((moves + 3) + (moves + 2))) in
        let end_two = runs_then target did.cost leaves.cost did.steps leaves.steps t3 t4 t5 did.runs leaves.runs in
        let end_three = runs_then target lowering (did.cost + leaves.cost) (1 + (1 + (1 + 1))) (did.steps + leaves.steps) t2 t3 t5
        lowers_run end_two in
        let end_four = runs_then target read.cost (lowering + (did.cost + leaves.cost)) read.steps
        ((1 + (1 + (1 + 1))) + (did.steps + leaves.steps)) t1 t2 t5 reading end_three in
        let cost = comes.cost + (read.cost + (lowering + (did.cost + leaves.cost))) in
        let steps = comes.steps + (read.steps + ((1 + (1 + (1 + 1))) + (did.steps + leaves.steps))) in
        let whole = runs_then target comes.cost (read.cost + (lowering + (did.cost + leaves.cost))) comes.steps
        (read.steps + ((1 + (1 + (1 + 1))) + (did.steps + leaves.steps))) t0 t1 t5 comes.runs end_four in
        let cells = busy_set named.at (suc n) (suc n) s.heap several in
        let weights = kept_weight named.at n (suc n) s.heap several in
        let cheap_first = comes.cheap in
        let cheap_last = leaves.cheap in
        let cheap_both = both_cheap o.into in
        let cheap_read = read.within in
        let cheap = did.within in (
          cleared,
          dupped.0,
          dupped.1,
          record {
            cost = cost;
            steps = steps;
            within = omega arith;
            runs = subst (λ ls. Runs target cost steps (turn_of ls s.frame fs s.world) t5) (sym whole_lines) whole;
            here = did.here;
            spared = λ z low none. did.spared z low none
                ∙ ap (λ (word : Option ℕ). cond (z == token) (Some 0) word)
                (put_other known.base z (suc n) (put_in known.base (suc (suc n)) one.frame).cells (λ e. omega (arith, e, low))
                ∙ put_other known.base z (suc (suc n)) one.frame.cells (λ e. omega (arith, e, low))
                ∙ read.spared z low none ∙ tests_spare z low);
            whole = did.whole;
            function = did.function;
            held = did.held;
          },
          did.aside,
          did.was,
        )
