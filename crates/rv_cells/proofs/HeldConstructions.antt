-- The lines of a construction that asks for a cell while other tokens are held do the step of the machine with tokens, where the
-- word that they test is 0.
use Rattle.std.proofs.Common.{◌≡◌, ◌≢◌, ℕ, suc, ◌+◌, ◌<◌, ◌≤◌, inl, inr, Bool, true, false, List, [], ◌∷◌, ◌++◌, length, Option}
use Rattle.std.proofs.Common.{Some, refl, sym, ◌∙◌, ap, subst, arith, append_assoc}
use Rattle.std.proofs.lemmas.Bool.{cases_eq}
use Rattle.kk_syntax.specs.Shapes.{is_among}
use Rattle.kk_source.specs.State.{Value, heap_full}
use Rattle.kk_source.specs.Actions.{builds}
use Rattle.kk_counted.specs.Heaps.{Heap, busy}
use Rattle.kk_counted.specs.Keeping.{values_of}
use Rattle.kk_counted.specs.TokenKeeping.{chain_of, Lists, IsJudged, ListsAfter, AreKeptBy}
use Rattle.kk_counted.specs.TokenMachine.{token_code_step, make_step, bound_to, token_at_end}
use Rattle.kk_counted.specs.Lowerable.{AreBelow}
use Rattle.kk_counted.specs.Spending.{AreApart}
use Rattle.kk_counted.specs.TokenRuns.{is_quiet, AllLead}
use Rattle.kk_counted.specs.TokenStates.{TokenJoin, TokenFrame, TokenConfiguration, TokenState}
use Rattle.kk_counted.specs.TokenedCodes.{Tokened}
use Rattle.kk_counted.specs.Tokens.{null, token, is_unspent, Link, Tokens, is_linked, marked, released}
use Rattle.kk_counted.specs.Tokens.{Room, has_room, no_room, request}
use Rattle.kk_counted.proofs.TokenChain.{equal_one, frames_apart, not_linked, AllApart, chain_top}
use Rattle.kk_counted.proofs.SlotMarks.{slot_here, slot_there, pooled_released}
use Rattle.kk_counted.proofs.TokenForms.{AreNow}
use Rattle.rv_isa.specs.Processor.{Ending, exited}
use Rattle.rv_isa.specs.AsmCode.{Line}
use Rattle.rv_isa.specs.AsmMachine.{AsmTurn}
use Rattle.rv_isa.specs.Frames.{Frame, put}
use Rattle.rv_isa.specs.Primitives.{ended}
use Rattle.cell_heap.specs.Blocks.{nothing}
use Rattle.cell_runtime.specs.Stops.{number_of}
use Rattle.cell_runtime.specs.declared.process.Ending.TheVariants as OfEnding
use Rattle.cell_runtime.specs.World.{World, with_cells}
use Rattle.rv_lower.proofs.FormEffects.{put_other}
use Rattle.rv_cells.specs.Layout.{header_of}
use Rattle.rv_cells.specs.CountedCells.{Owner, cell_of, in_hand, is_aside, with_owner, assign}
use Rattle.rv_cells.specs.CellLines.{FillLines}
use Rattle.rv_cells.specs.TokenedLines.{values_of_slots, HoldsNone}
use Rattle.rv_cells.proofs.BoundVariables.{within_itself}
use Rattle.rv_cells.proofs.ConstructionLines.{IsMaking, made_spot}
use Rattle.rv_cells.proofs.FillLines.{fill_cost, Fills}
use Rattle.rv_cells.proofs.HeldFillLines.{AllSame, AreApartFrom, both_same, puts_same, tokens1, row, fills_free, fills_newest}
use Rattle.rv_cells.proofs.HeldFillLines.{fills_held, fills_none}
use Rattle.rv_cells.proofs.NameContents.{some-is}
use Rattle.rv_cells.proofs.HeldRows.{AreTokensIn, AllOut, all_held, all_back, live}
use Rattle.rv_cells.proofs.LineCosts.{most_moves, row_cost}
use Rattle.rv_cells.proofs.Owners.{chosen_same, chosen_other}
use Rattle.rv_cells.proofs.Runs.{turn_of, Runs, runs_then}
use Rattle.rv_cells.proofs.Spots.{Spot, Known, Here, saved}
use Rattle.rv_cells.proofs.Values.{HasValues, has_cell as carries_cell}
use Rattle.rv_cells.proofs.Words.{hand_owned, aside_owned}
use Rattle.rv_cells.proofs.TokenCells.{token_aside, cells_stay, cell_goes}
use Rattle.rv_cells.proofs.TokenFields.{grown_words, grown_stays}
use Rattle.rv_cells.proofs.TokenRequestCells.{none_out, slots_apart, slots_unbound, aside_some, slots_tokens, named_before}
use Rattle.rv_cells.proofs.TokenRequestCells.{slots_below, AllKept, same_kept, null_kept, aside_restored, restored, linked_here}
use Rattle.rv_cells.proofs.TokenRequestCells.{linked_behind, marked_more}
use Rattle.rv_cells.proofs.TokenFrames.{slots_moved, slots_put, all_carried, all_wait_at}
use Rattle.rv_cells.proofs.TokenLineCosts.{forms}
use Rattle.rv_cells.proofs.TokenContinuations.{token_at, machine_at, StepsOn, seen_action, silent_builds, CodeBehind, does_by, goes_on}
use Rattle.rv_cells.proofs.TokenContinuations.{kept_after}
use Rattle.rv_cells.proofs.TokenRequests.{live_slots, Requested, by_free, by_own, by_older, by_none, requested}
use Rattle.rv_cells.proofs.TokenRelation.{SlotIs, IsTokenCell, token_words, HaveSlotValues, HaveTokenCells, held_values, Lowering}
use Rattle.rv_cells.proofs.TokenRelation.{target, setting, upper, known_of, AllWait, At, IsFitFrom}
use Rattle.rv_cells.proofs.TokenRelation.{by_lines}
use Rattle.rv_cells.proofs.TokenContents.{none_stands}
use Rattle.rv_cells.proofs.TokenTakes.{taken_from, none_held}
use Rattle.rv_cells.proofs.TokenUniques.{another}

module _ (program : Lowering) (code : Tokened) (x c first : ℕ) (arguments kept_at others : List ℕ) (rest : Tokened)
    (inner : List TokenJoin) (frames : List TokenFrame) (tokens : Tokens) (input : List ℕ) (s : Spot) (fs : List (Frame Line))
    (left : List Line) (at : At program code inner frames tokens input s fs left) where
  -- the spot at which the word is tested: values have been written
  abbrev pub tested_at : (ℕ → Option ℕ) → Spot
  tested_at values = record s { frame = record s.frame { cells = values } }

  -- What is known of such a construction: its lines, the code behind it, the tokens when it asks, and what the machine with tokens
  -- does.
  pub record IsAsking : Type 0 where
    pub forms_are : forms code ≡ suc (forms rest)
    pub quiet : is_quiet code ≡ false
    pub own : List Line
    pub more : List Line
    pub next : ℕ
    pub behind : CodeBehind program code inner frames tokens input s fs left at rest own more next (x ∷ s.bound)
    pub variable : x < at.shape.variables
    pub holds : HoldsNone at.shape.standing others
    pub none_held : at.lists.held ≡ []
    pub unspent : List ℕ
    pub lists_after : (next : Lists) → ListsAfter code inner at.lists next → next ≡ record at.lists { unspent = unspent }
    pub asking : Tokens
    pub now : AreNow program.pool.cells unspent at.lists.older frames s.heap asking
    pub cells : HaveTokenCells program.pool program.layout s.address s.owners s.heap asking
    pub waits : AllWait program s.address (length s.heap) asking.slots at.lists.older frames fs at.shape.result
    pub asked : (room : Room) → request program.pool.cells others (length at.lists.older) s.heap asking ≡ room
        → token_code_step (setting program) code s.environment inner
        (machine_at program code s.environment inner frames s.heap tokens)
        ≡ make_step room c (values_of s.environment (first ∷ arguments))
        (λ w. bound_to x w rest s.environment inner (machine_at program code s.environment inner frames s.heap tokens))
        (machine_at program code s.environment inner frames s.heap tokens)
    pub apart : AreApart others
    pub low : AreBelow at.shape.slots others
    pub among : (z : ℕ) → is_among others z ≡ true → is_among unspent z ≡ true
    pub all_are : (z : ℕ) → is_among unspent z ≡ true → is_among others z ≡ true
    pub values : ℕ → Option ℕ
    pub making : IsMaking (known_of program at.shape) (tested_at values) x c (first ∷ arguments)
    pub has_values : HasValues program.layout s.address at.shape.holds (at.shape.variables + at.shape.slots) (length s.heap) s.bound
        s.environment values
    pub slots_are : HaveSlotValues s.address (asking.slots (length at.lists.older)) at.shape.variables at.shape.slots values
    pub test : ℕ
    pub test_is : values test ≡ Some 0
    pub label : ℕ
    pub head : Bool
    pub count : Bool
    pub fill : List Line
    pub fills : FillLines (at.shape.variables + at.shape.slots) x test (values_of_slots at.shape.variables others) label
        (header_of program.layout c) (first ∷ arguments) kept_at head count fill
    pub cost : ℕ
    pub steps : ℕ
    pub started : Runs (target program) cost steps (turn_of (own ++ (more ++ at.does.placed.after)) s.frame fs s.world)
        (turn_of (fill ++ (more ++ at.does.placed.after)) (record s.frame { cells = values }) fs s.world)
    pub cheap : cost + fill_cost (known_of program at.shape) (values_of_slots at.shape.variables others) (first ∷ arguments)
        ≤ (upper program).weight (token_at program code s.environment inner frames s.heap tokens input)

module _ (program : Lowering) (code : Tokened) (x c first : ℕ) (arguments kept_at others : List ℕ) (rest : Tokened) (idle : ℕ)
    (inner : List TokenJoin) (frames : List TokenFrame) (tokens : Tokens) (input : List ℕ) (s : Spot) (fs : List (Frame Line))
    (left : List Line) (idle_is : idle ≡ forms code) (at : At program code inner frames tokens input s fs left)
    (fit : IsFitFrom program (token_at program code s.environment inner frames s.heap tokens input))
    (a : IsAsking program code x c first arguments kept_at others rest inner frames tokens input s fs left at) where
  abbrev n : ℕ
  n = length at.lists.older

  abbrev v : ℕ
  v = at.shape.variables

  abbrev base : ℕ
  base = at.shape.variables + at.shape.slots

  abbrev size : ℕ
  size = length s.heap

  abbrev known : Known
  known = known_of program at.shape

  abbrev zs : List ℕ
  zs = values_of_slots at.shape.variables others

  abbrev rest_lines : List Line
  rest_lines = a.more ++ at.does.placed.after

  abbrev asking : Tokens
  asking = a.asking

  abbrev tested : Spot
  tested = record s { frame = record s.frame { cells = a.values } }

  holds_none : s.frame.held ≡ []
  holds_none = at.has.held_is ∙ ap (held_values (tokens.slots n) v) a.none_held

  unspent : (z : ℕ) → is_among others z ≡ true → is_unspent (asking.slots n z) ≡ true
  unspent z is = a.now.slots_are z ∙ a.among z is

  free : (z : ℕ) → is_linked n z asking.chain ≡ false
  free z = ap (is_linked n z) a.now.are.chain ∙ not_linked asking.slots [] at.lists.older z refl

  some : (one : ℕ) (linked : Bool) (ws : List ℕ) → IsTokenCell linked ws (s.owners one) → one ≢ 0
  some one linked ws is = aside_some at.follows program.some one linked ws is

  here : Here known tested
  here = record { follows = at.follows; values = a.has_values }

  tokens_are : AreTokensIn in_hand s.owners a.values zs
  tokens_are =
      slots_tokens a.cells a.slots_are (λ z p is. a.now.are.pooled.marks n z p is) free (λ one ws is. some one false ws is) others
      a.apart unspent

  out : AllOut s.frame.held zs
  out = subst (λ h. AllOut h zs) (sym holds_none) (none_out zs)

  apart : AreApartFrom base x zs
  apart = slots_apart v at.shape.slots x others a.variable a.low

  -- ---- what the step is, by what the request gets

  abbrev vs : List Value
  vs = values_of s.environment (first ∷ arguments)

  abbrev heap_made : Heap
  heap_made = record { count = 1; cell = record { made_by = c; fields = values_of s.environment (first ∷ arguments) } } ∷ s.heap

  abbrev from : TokenConfiguration
  from = machine_at program code s.environment inner frames s.heap tokens

  abbrev Steps_on : Type 0
  Steps_on = StepsOn program idle code inner frames tokens input s fs left

  abbrev Serves : Room → Type 0
  Serves room = request program.pool.cells others (length at.lists.older) s.heap a.asking ≡ room

  -- ---- what the lines do, by what the request gets

  -- the values while the request is made, and behind it
  abbrev asked_values : ℕ → Option ℕ
  asked_values = put x (Some 0) a.values

  abbrev named_values : (ℕ → Option ℕ) → ℕ → ℕ → Option ℕ
  named_values values one = put x (Some one) values

  -- the owners once the other tokens are taken back, and once the cell is counted
  abbrev owners_back : (ℕ → Option ℕ) → ℕ → ℕ → Owner
  owners_back values one =
      all_back (named_values values one) zs (with_owner one (in_hand nothing) (all_held asked_values zs s.owners))

  abbrev owners_made : (ℕ → Option ℕ) → ℕ → ℕ → Owner
  owners_made values one = with_owner one (cell_of size) (owners_back values one)

  abbrev MadeBy : List (Frame Line) → (ℕ → Owner) → (ℕ → Option ℕ) → ℕ → Type 0
  MadeBy gs owners values one =
      Fills known rest_lines fs tested x a.test c zs a.label (first ∷ arguments) kept_at a.head a.count
      a.fill here a.making a.fills gs owners
      values one

  abbrev later : ℕ → ℕ → ℕ
  later one = assign size one s.address

  -- the fields of the names that are there keep their words
  made_words : (one r : ℕ) → r < size
      → token_words program.layout (later one) heap_made r ≡ token_words program.layout s.address s.heap r
  made_words one r less =
      grown_words program.layout s.address s.heap (record { count = 1; cell = record { made_by = c; fields = vs } }) one r
      a.making.older less

  -- the code goes on with a cell that was made
  goes_there : (gs : List (Frame Line)) (owners : ℕ → Owner) (values : ℕ → Option ℕ) (one : ℕ) (after : Tokens)
      → MadeBy gs owners values one → Serves (has_room after)
      → HaveTokenCells program.pool program.layout (later one) (with_owner one (cell_of size) owners) heap_made after
      → HaveSlotValues s.address (after.slots n) v at.shape.slots values
      → AllWait program s.address size after.slots at.lists.older frames gs at.shape.result → Steps_on
  goes_there gs owners values one after made served cells slots_there waiting =
      let p = at.does.placed in
      let f : Frame Line = made.0 in
      let to : Spot = made_spot (record tested { owners = owners }) x c vs one f made.1 in
      let step : token_code_step (setting program) code s.environment inner from
      ≡ builds (busy s.heap) (machine_at program rest to.environment inner frames to.heap after)
      = a.asked (has_room after) served in
      let kept = subst (AllLead (AreKeptBy program.pool.cells (ListsAfter code inner at.lists))) step
      (kept_after program code inner frames tokens input s fs left at (fit 0).keeps a.quiet) in
      let judged : IsJudged program.pool.cells at.lists.left a.unspent at.lists.held at.lists.older rest inner frames to.heap after
      = subst (λ (l : Lists). IsJudged program.pool.cells l.left l.unspent l.held l.older rest inner frames to.heap after)
      (a.lists_after kept.0 kept.1.0) kept.1.1 in
      let old = λ (g z r : ℕ) (is : after.slots g z ≡ token r).
      named_before program.pool.cells (record { count = 1; cell = record { made_by = c; fields = vs } }) s.heap after (omega arith)
      judged.are.pooled g z r is in
      let few = p.short in
      let forms_are = a.forms_are in
      let cheap = made.2.within in
      goes_on program code inner frames tokens input s fs left at idle fit rest a.own a.more to gs after (x ∷ s.bound)
      (record at.lists { unspent = a.unspent })
      (a.cost + fill_cost known zs (first ∷ arguments)) (builds (busy s.heap))
      (record {
        cost = a.cost + made.2.cost;
        steps = a.steps + made.2.steps;
        within = omega (arith, cheap);
        runs = runs_then (target program) a.cost made.2.cost a.steps made.2.steps (turn_of (a.own ++ rest_lines) s.frame fs s.world)
            (turn_of (a.fill ++ rest_lines) tested.frame fs s.world) (turn_of rest_lines f gs to.world) a.started made.2.runs;
        here = made.2.here;
        left = made.2.left;
        whole = made.2.whole;
        function = made.2.function;
      })
      (record {
        low = a.next;
        behind = a.behind;
        within = within_itself (x ∷ s.bound);
        judged = judged;
        cells = cells;
        stand = none_stands program.layout at.shape.standing to.address to.owners (after.slots n) others a.unspent a.holds
            judged.slots_are a.all_are;
        slots_are = slots_moved {later = later one} {others = f.cells} slots_there (λ z r is. grown_stays size one r s.address
            (old n z r is))
            (λ z low unspent. made.3 (v + z) (omega (arith, low)) (λ e. let under = a.variable in omega (arith, e, under)));
        held_is = made.2.held ∙ holds_none ∙ sym (ap (held_values (after.slots n) v) a.none_held);
        waits = all_carried program s.address size (later one) (suc size) after.slots at.lists.older frames gs at.shape.result
            (λ holds most bound environment values_too has. carries_cell has one)
            (λ g z r is. grown_stays size one r s.address (old g z r is)) waiting;
      })
      (silent_builds program (busy s.heap)) a.cheap
      (ap (λ action. seen_action program action input) step) (omega (arith, idle_is, forms_are)) (omega (arith, few, forms_are))

  -- the slots while the request is made
  slots_asked : HaveSlotValues s.address (asking.slots n) v at.shape.slots asked_values
  slots_asked =
      slots_moved a.slots_are (λ z p is. refl)
      (λ z low unspent. let under = a.variable in
      put_other x (v + z) 0 a.values (λ e. omega (arith, e, under)))

  abbrev words_of : ℕ → List ℕ
  words_of p = token_words program.layout s.address s.heap p

  hand_of : (z p : ℕ) → asking.slots n z ≡ token p → IsTokenCell false (words_of p) (s.owners (s.address p))
  hand_of z p is =
      subst (λ b. IsTokenCell b (words_of p) (s.owners (s.address p))) (free z)
      (a.cells.are n z p (a.now.are.pooled.marks n z p is))

  live_is : live asked_values zs ≡ held_values (asking.slots n) v others
  live_is = live_slots slots_asked (λ z p is. some (s.address p) false (words_of p) (hand_of z p is)) others unspent

  tokens_asked : AreTokensIn in_hand s.owners asked_values zs
  tokens_asked =
      tokens1 known rest_lines fs tested x a.test c zs a.label (first ∷ arguments) kept_at a.head a.count
      a.fill here a.making a.fills a.test_is
      tokens_are out apart program.some

  same_asked : AllSame a.values asked_values zs
  same_asked = puts_same base x 0 a.values zs apart

  all_apart : AllApart at.lists.older
  all_apart = frames_apart tokens.slots at.lists.older frames at.judged.waiting

  -- tokens beside the one that is taken keep their cells
  stays_cell : (values : ℕ → Option ℕ) (one : ℕ) → AllKept one asked_values (named_values values one) zs
      → (place : ℕ) (linked : Bool) (ws : List ℕ) → place ≢ one → IsTokenCell linked ws (s.owners place)
      → IsTokenCell linked ws (owners_made values one place)
  stays_cell values one kept place linked ws differ is =
      subst (IsTokenCell linked ws) (sym (chosen_other place one (cell_of size) (owners_back values one) differ))
      (restored s.owners asked_values (named_values values one) zs one (in_hand nothing) place differ linked ws
      (some place linked ws is) kept tokens_asked is)

  stays_aside : (values : ℕ → Option ℕ) (one place : ℕ) → place ≢ one
      → is_aside (owners_made values one place) ≡ is_aside (s.owners place)
  stays_aside values one place differ =
      ap is_aside (chosen_other place one (cell_of size) (owners_back values one) differ)
      ∙ aside_restored s.owners asked_values (named_values values one) zs one (in_hand nothing) place differ

  is_counted : (values : ℕ → Option ℕ) (one : ℕ) → is_aside (owners_made values one one) ≡ false
  is_counted values one = ap is_aside (chosen_same one one (cell_of size) (owners_back values one) refl)

  same_values : (one : ℕ) → AllKept one asked_values (named_values a.values one) zs
  same_values one =
      same_kept one asked_values (named_values a.values one) zs
      (both_same a.values asked_values (named_values a.values one) zs same_asked
      (puts_same base x one a.values zs apart))

  -- ---- the four ways

  -- a cell is free
  steps_free : busy s.heap + marked asking.marks size < program.pool.cells → Serves (has_room asking) → Steps_on
  steps_free room served =
      let number = a.cells.number in
      let done = fills_free known rest_lines fs tested x a.test c zs a.label (first ∷ arguments) kept_at a.head a.count
      a.fill here a.making
      a.fills a.test_is tokens_are out apart program.some (omega (arith, room, number)) in
      let one = done.0 in
      goes_there fs (owners_back a.values one) a.values one asking done.2 served
      (cells_stay a.cells (later one) (owners_made a.values one) heap_made
      (λ g z r is. grown_stays size one r s.address (a.now.are.pooled.there g z r is))
      (λ g z r is. made_words one r (a.now.are.pooled.there g z r is))
      (λ place linked ws is. stays_cell a.values one (same_values one) place linked ws
      (other one done.1 place linked ws is) is)
      (λ place. same_there one done.1 place)
      (marked_more program.pool.cells s.heap asking a.now.are.pooled))
      a.slots_are a.waits
    where
      other : (one : ℕ) → is_aside (s.owners one) ≡ false → (place : ℕ) (linked : Bool) (ws : List ℕ)
          → IsTokenCell linked ws (s.owners place) → place ≢ one
      other one nobodys place linked ws is =
          λ e. let both : true ≡ false = sym (token_aside linked ws (s.owners place) is) ∙ ap (λ z. is_aside (s.owners z)) e
          ∙ nobodys in cc

      same_there : (one : ℕ) → is_aside (s.owners one) ≡ false → (place : ℕ)
          → is_aside (owners_made a.values one place) ≡ is_aside (s.owners place)
      same_there one nobodys place =
          elim (cases_eq place one) [
            | inl e ↦
                ap (λ z. is_aside (owners_made a.values one z)) e ∙ is_counted a.values one
                ∙ sym (ap (λ z. is_aside (s.owners z)) e ∙ nobodys)
            | inr differ ↦ stays_aside a.values one place differ
          ]

  -- the first of the function's own tokens is taken
  steps_own : (z p : ℕ) (more : List ℕ) → program.pool.cells ≤ busy s.heap + marked asking.marks size → asking.slots n z ≡ token p
      → is_among others z ≡ true → held_values (asking.slots n) v others ≡ (v + z) ∷ more
      → Serves (has_room (released n z p null asking)) → Steps_on
  steps_own z p more full has among front served =
      let number = a.cells.number in
      let after : Tokens = released n z p null asking in
      let mark = a.now.are.pooled.marks n z p has in
      let below = a.now.are.pooled.there n z p mark in
      let hand = hand_of z p has in
      let place = s.address p in
      let values = put (v + z) (Some 0) a.values in
      let there : asked_values (v + z) ≡ Some place = subst (λ slot. SlotIs s.address slot (asked_values (v + z))) has
      (slots_asked.are z) in
      let done = fills_newest known rest_lines fs tested x a.test c zs a.label (first ∷ arguments) kept_at a.head a.count
      a.fill here a.making
      a.fills a.test_is tokens_are out apart program.some (v + z) more (live_is ∙ front)
      (slots_unbound v s.bound others at.has.below) (omega (arith, full, number)) in
      let same : done.0 ≡ place = some-is (sym done.1 ∙ there) in
      let made : MadeBy fs (owners_back values place) values place =
      subst (λ one. MadeBy fs (owners_back values one) values one) same done.2 in
      let kept = null_kept (v + z) place a.values asked_values (named_values values place) zs there same_asked
      (puts_same base x place values zs apart) in
      goes_there fs (owners_back values place) values place after made served
      (cell_goes a.cells program.aligned n z p (later place) (owners_made values place) heap_made after
      (hand_owned at.follows place hand.0 hand.1).0 below mark refl
      (λ g w r differ is. grown_stays size place r s.address (a.now.are.pooled.there g w r is))
      (λ g w r is. made_words place r (a.now.are.pooled.there g w r is))
      (λ g w r differ is. refl)
      (λ one linked ws differ is. stays_cell values place kept one linked ws differ is)
      (is_counted values place)
      (λ one differ. stays_aside values place one differ)
      (marked_more program.pool.cells s.heap after
      (pooled_released program.pool.cells n z p null s.heap asking has refl a.now.are.pooled)))
      (slots_put a.slots_are z 0 null (a.slots_are.below z (unspent z among)) (slot_here n z null asking.slots) refl
      (λ w differ. slot_there n z n w null asking.slots (another n z w differ)))
      (all_wait_at program s.address size asking.slots after.slots at.lists.older frames fs at.shape.result
      (equal_one n n z null asking.slots (omega arith)) a.waits)

  -- the newest held token of an older function is taken
  steps_older : (link : Link) (links : List Link) (p : ℕ) → program.pool.cells ≤ busy s.heap + marked asking.marks size
      → held_values (asking.slots n) v others ≡ [] → asking.chain ≡ link ∷ links → asking.slots link.frame link.slot ≡ token p
      → Serves (has_room (record (released link.frame link.slot p null asking) { chain = links })) → Steps_on
  steps_older link links p full dead chain has served =
      let number = a.cells.number in
      let after : Tokens = record (released link.frame link.slot p null asking) { chain = links } in
      let pooled = a.now.are.pooled in
      let mark = pooled.marks link.frame link.slot p has in
      let below = pooled.there link.frame link.slot p mark in
      let place = s.address p in
      let chain_is : chain_of asking.slots at.lists.older ≡ link ∷ links = sym a.now.are.chain ∙ chain in
      let older = (chain_top asking.slots at.lists.older link links all_apart chain_is).below in
      let linked : is_linked link.frame link.slot asking.chain ≡ true = ap (is_linked link.frame link.slot) chain
      ∙ linked_here link.frame link.slot links in
      let kept = subst (λ b. IsTokenCell b (words_of p) (s.owners place)) linked (a.cells.are link.frame link.slot p mark) in
      let taken = taken_from program s.address size asking.slots at.lists.older frames fs at.shape.result a.waits all_apart link
      links chain_is p has in
      let made = fills_held known rest_lines fs tested x a.test c zs a.label (first ∷ arguments) kept_at a.head a.count
      a.fill here a.making
      a.fills a.test_is tokens_are out apart program.some taken.gs place kept.0 (live_is ∙ dead) holds_none
      taken.newest taken.taken kept.1 (omega (arith, full, number)) in
      let values = a.values in
      goes_there taken.gs (owners_back values place) values place after made served
      (cell_goes a.cells program.aligned link.frame link.slot p (later place) (owners_made values place) heap_made after
      (aside_owned at.follows place kept.0 kept.1).0 below mark refl
      (λ g w r differ is. grown_stays size place r s.address (pooled.there g w r is))
      (λ g w r is. made_words place r (pooled.there g w r is))
      (λ g w r differ is. linked_behind program.pool.cells s.heap asking pooled link links chain p has g w r differ is)
      (λ one held ws differ is. stays_cell values place (same_values place) one held ws differ is)
      (is_counted values place)
      (λ one differ. stays_aside values place one differ)
      (marked_more program.pool.cells s.heap (released link.frame link.slot p null asking)
      (pooled_released program.pool.cells link.frame link.slot p null s.heap asking has refl pooled)))
      (slots_below asking.slots n a.slots_are link.frame link.slot null older)
      taken.waits

  -- no cell is there
  steps_none : program.pool.cells ≤ busy s.heap + marked asking.marks size → held_values (asking.slots n) v others ≡ []
      → asking.chain ≡ [] → Serves no_room → Steps_on
  steps_none full dead chain served =
      let p = at.does.placed in
      let number = a.cells.number in
      let start : TokenState = token_at program code s.environment inner frames s.heap tokens input in
      let next : TokenState = record { machine = token_at_end heap_full from; input = input } in
      let no_token = none_held program s.address size asking.slots at.lists.older frames fs at.shape.result a.waits all_apart
      (sym a.now.are.chain ∙ chain) in
      let ran = fills_none known rest_lines fs tested x a.test c zs a.label (first ∷ arguments) kept_at a.head a.count
      a.fill here a.making
      a.fills a.test_is tokens_are out apart program.some (live_is ∙ dead) holds_none no_token (omega (arith, full, number)) in
      let held = row known rest_lines fs tested x a.test c zs a.label (first ∷ arguments) kept_at a.head a.count
      a.fill here a.making a.fills
      a.test_is tokens_are out apart program.some in
      let world : World = with_cells s.world held.0 in
      let forms_are = a.forms_are in
      let cheap = a.cheap in
      let cost = (8 + row_cost zs (most_moves + 9)) + (most_moves + 10) in
      let steps = ((1 + 1) + length zs) + 1 in
      let t0 = turn_of left s.frame fs s.world in
      let t1 : AsmTurn World Ending = ended (exited (number_of OfEnding.HeapFull)) world in
      let is : left ≡ a.own ++ rest_lines
      = p.left_is ∙ ap (λ own. own ++ p.after) a.behind.parts ∙ append_assoc a.own a.more p.after in
      does_by program idle start next [] t0 (ap (λ action. seen_action program action input) (a.asked no_room served)) fit
      (λ fits. by_lines program (a.steps + steps) (a.cost + cost) ((upper program).weight start) (saved s.heap) idle next t0 t1
      (subst (λ ls. Runs (target program) (a.cost + cost) (a.steps + steps) (turn_of ls s.frame fs s.world) t1) (sym is)
      (runs_then (target program) a.cost cost a.steps steps (turn_of (a.own ++ rest_lines) s.frame fs s.world)
      (turn_of (a.fill ++ rest_lines) tested.frame fs s.world) t1 a.started ran))
      (omega (arith, cheap)) (omega (arith, idle_is, forms_are)) fits
      (record {
        world = world;
        turn_is = refl;
        address = s.address;
        owners = all_held asked_values zs s.owners;
        follows = held.2;
        none = λ e. cc;
      }))

  pub steps_asking : Steps_on
  steps_asking = by (requested program.pool.cells v n others at.lists.older s.heap asking a.apart all_apart a.now.are.chain)
    where
      by : Requested program.pool.cells v n others s.heap asking (request program.pool.cells others n s.heap asking) → Steps_on
      by (by_free room is) = steps_free room is
      by (by_own z p more full has among front is) = steps_own z p more full has among front is
      by (by_older link links p full dead chain has is) = steps_older link links p full dead chain has is
      by (by_none full dead chain is) = steps_none full dead chain is
