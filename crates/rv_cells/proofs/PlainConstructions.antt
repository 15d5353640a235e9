-- The lines of a construction with fields do the step of the machine with tokens, where the function has no unspent token.
use Rattle.std.proofs.Common.{◌≡◌, ℕ, suc, ◌+◌, ◌*◌, ◌<◌, ◌≤◌, inl, inr, true, false, List, [], ◌∷◌, ◌++◌, length, Option, Some, refl, sym, ◌∙◌, ap, subst, arith, append_assoc}
use Rattle.std.proofs.lemmas.List.{length-map}
use Rattle.kk_syntax.specs.declared.program.Form.TheVariants.{Construct}
use Rattle.kk_syntax.specs.Shapes.{is_among}
use Rattle.kk_source.specs.State.{Value, heap_full}
use Rattle.kk_source.specs.Live.{value_of}
use Rattle.kk_source.specs.Actions.{builds}
use Rattle.kk_source.specs.Sound.{AllWithin}
use Rattle.kk_counted.specs.Heaps.{Heap, busy, fields_held}
use Rattle.kk_counted.specs.Keeping.{values_of}
use Rattle.kk_counted.specs.Marks.{field_marks}
use Rattle.kk_counted.specs.TokenKeeping.{chain_of, Lists, IsJudged, ListsAfter, AreKeptBy}
use Rattle.kk_counted.specs.TokenMachine.{token_code_step, make_step, bound_to, token_at_end}
use Rattle.kk_counted.specs.TokenRuns.{AllLead}
use Rattle.kk_counted.specs.TokenStates.{TokenJoin, TokenFrame, TokenConfiguration, TokenState}
use Rattle.kk_counted.specs.TokenedCodes.{Tokened}
use Rattle.kk_counted.specs.Tokens.{null, token, Link, Tokens, is_linked, marked, released, Room, has_room, no_room, request}
use Rattle.kk_counted.proofs.TokenChain.{frames_many, frames_apart, AllApart, chain_top}
use Rattle.kk_counted.proofs.SlotMarks.{pooled_released}
use Rattle.rv_isa.specs.declared.asm.Action.TheVariants.{Routine as Calls}
use Rattle.rv_isa.specs.declared.routine.Routine.TheVariants.{Take}
use Rattle.rv_isa.specs.Processor.{Ending, exited}
use Rattle.rv_isa.specs.AsmCode.{Line}
use Rattle.rv_isa.specs.AsmMachine.{AsmTurn}
use Rattle.rv_isa.specs.Frames.{Frame, top, top_in, top_taken}
use Rattle.rv_isa.specs.Primitives.{ended}
use Rattle.cell_heap.specs.Blocks.{Cells, nothing}
use Rattle.cell_runtime.specs.Stops.{number_of}
use Rattle.cell_runtime.specs.declared.process.Ending.TheVariants as OfEnding
use Rattle.cell_runtime.specs.World.{World, with_cells}
use Rattle.rv_lower.proofs.FormEffects.{put_same, put_other}
use Rattle.rv_cells.specs.CellLines.{ConstructLines}
use Rattle.rv_cells.specs.Layout.{FitFields, header_of}
use Rattle.rv_cells.specs.CountedCells.{cell_of, kept_aside, is_aside, set_aside, with_owner, assign}
use Rattle.rv_cells.proofs.CellActions.{put_in}
use Rattle.rv_cells.proofs.BoundVariables.{within_itself, all_among, apart_above}
use Rattle.rv_cells.proofs.ConstructionLines as Construct
use Rattle.rv_cells.proofs.ConstructionLines.{IsMaking, made_spot, construct_cost, args_words, construct_did, full_did}
use Rattle.rv_cells.proofs.HeldTokens.{take_older_runs}
use Rattle.rv_cells.proofs.LineCosts.{most_moves, row_cost, row_more}
use Rattle.rv_cells.proofs.Owners.{chosen_same, chosen_other}
use Rattle.rv_cells.proofs.Requests.{from_held}
use Rattle.rv_cells.proofs.Runs.{turn_of, Runs, runs_then}
use Rattle.rv_cells.proofs.Spots.{Spot, Known, Here, saved, did_aside}
use Rattle.rv_cells.proofs.Values.{has_cell, among_none, among_by}
use Rattle.rv_cells.proofs.Words.{aside_owned}
use Rattle.rv_cells.proofs.TokenCells.{token_aside, cells_stay, cell_goes}
use Rattle.rv_cells.proofs.TokenCalls.{arguments_fit}
use Rattle.rv_cells.proofs.TokenRequestCells.{named_before, slots_below, linked_here, linked_behind, marked_more}
use Rattle.rv_cells.proofs.TokenFields.{grown_words, grown_stays}
use Rattle.rv_cells.proofs.TokenFrames.{none_behind, slots_moved, all_carried}
use Rattle.rv_cells.proofs.TokenLineCosts.{forms}
use Rattle.rv_cells.proofs.TokenContinuations.{Lands, lands_did, token_at, machine_at, StepsOn, CodeSteps, seen_action, silent_builds, does_by, behind_one, goes_on, kept_after}
use Rattle.rv_cells.proofs.TokenRequests.{Requested, by_free, by_own, by_older, by_none, requested}
use Rattle.rv_cells.proofs.TokenRelation.{IsTokenCell, token_words, HaveSlotValues, HaveTokenCells, held_values, Lowering, target, setting, upper, known_of, AllWait, At, IsFitFrom, by_lines}
use Rattle.rv_cells.proofs.TokenContents.{none_stands}
use Rattle.rv_cells.proofs.TokenTakes.{taken_from, none_held}
use Rattle.rv_cells.proofs.TokenUniques.{row_times}

-- ---- the lines, where the cell of an older frame's token is taken

module _ (known : Known) (rest : List Line) (fs : List (Frame Line)) (s : Spot) (x c : ℕ) (arguments : List ℕ) (lines : List Line)
    (here : Here known s) (making : IsMaking known s x c arguments)
    (constructs : ConstructLines known.base x (header_of known.layout c) arguments lines) where
  -- the frame at the end
  abbrev pub last_frame : ℕ → Frame Line
  last_frame at = put_in known.base 1 (put_in known.base (header_of known.layout c) (put_in x at s.frame))

  pub construct_held : (gs : List (Frame Line)) (at : ℕ) (words : ℕ → Option ℕ) → s.frame.held ≡ [] → top fs ≡ Some at
      → top_taken fs ≡ Some gs → s.owners at ≡ kept_aside words
      → known.target.pool.cells ≤ busy s.heap + set_aside known.target.pool s.owners
      → (cells : Cells) × Lands known (construct_cost known arguments) lines rest fs gs s
      (made_spot s x c (values_of s.environment arguments) at (last_frame at) cells)
      × ((z : ℕ) → z < known.base → is_among (x ∷ s.bound) z ≡ false → (last_frame at).cells z ≡ s.frame.cells z)
  construct_held gs at words none newest taken kept full =
      let moves = most_moves in
      let row = row_cost arguments (moves + 3) in
      let behind = Construct.behind_take known rest fs s x c arguments lines here making constructs in
      let took = from_held here.follows known.aligned at words kept full in
      let f1 = put_in x at s.frame in
      let first = take_older_runs known.target behind s.frame fs s.world x at took.next gs none newest taken took.is in
      let filled = Construct.fills known rest fs s x c arguments lines here making constructs f1 gs at nothing
      (with_cells s.world took.next) (put_same x at s.frame.cells)
      (args_words known s here x at arguments making.bound making.apart) took.holds in
      let long : length (values_of s.environment arguments) ≡ length arguments = length-map arguments (value_of s.environment) in
      let few = Construct.few known rest fs s x c arguments lines here making constructs in
      let t0 = turn_of (lines ++ rest) s.frame fs s.world in
      let t6 = turn_of rest (last_frame at) gs (with_cells s.world filled.0) in
      let storing = 1 + (1 + (length arguments + (1 + 1))) in
      let runs : Runs known.target ((moves + 10) + (4 * moves + 10 + row)) (1 + storing) t0 t6 =
      subst (λ ls. Runs known.target ((moves + 10) + (4 * moves + 10 + row)) (1 + storing)
      (turn_of (ls ++ rest) s.frame fs s.world) t6)
      (sym constructs.6)
      (runs_then known.target (moves + 10) (4 * moves + 10 + row) 1 storing
      (turn_of (record { action = Calls Take; args = []; into = Some x } ∷ behind) s.frame fs s.world)
      (turn_of behind f1 gs (with_cells s.world took.next)) t6 first filled.1) in (
        filled.0,
        record {
          cost = (moves + 10) + (4 * moves + 10 + row);
          steps = 1 + storing;
          within = omega (arith, row_more arguments (most_moves + 2), few, long);
          runs = runs;
          here = Construct.counts known rest fs s x c arguments lines here making constructs f1 at nothing filled.0 filled.2
              (Construct.names_cell known rest fs s x c arguments lines here making constructs at);
          left = refl {a = s.world.left};
          whole = refl;
          function = refl;
        },
        λ z low apart.
            Construct.ended_spare known rest fs s x c arguments lines here making constructs f1 z low
            ∙ put_other x z at s.frame.cells (among_none x s.bound z apart).0,
      )

-- ---- the step

-- what is known of a construction with fields with which a code begins, with any frame
pub making_of : (program : Lowering) (x c a : ℕ) (more others : List ℕ) (rest : Tokened) (inner : List TokenJoin)
    (frames : List TokenFrame) (tokens : Tokens) (input : List ℕ) (s : Spot) (fs : List (Frame Line)) (left : List Line)
    (at : At program (Tokened.compute x (Construct c) (a ∷ more) others rest) inner frames tokens input s fs left)
    (frame : Frame Line) → ((name : ℕ) → AllWithin name (fields_held s.heap name))
    → IsMaking (known_of program at.shape) (record s { frame = frame }) x c (a ∷ more)
making_of program x c a more others rest inner frames tokens input s fs left at frame older =
    let p = at.does.placed in
    let all = all_among (a ∷ more) s.bound p.marked.0 in
    let low = p.numbered.0 in
    record {
      below = omega arith;
      bound = all;
      apart = apart_above x (a ∷ more) s.bound p.numbered.1.0 all;
      holds = p.marked.1.0.1;
      fits = subst (λ marks. FitFields marks (values_of s.environment (a ∷ more))) (sym (program.fields_are c))
          (arguments_fit at.has.values (a ∷ more) (field_marks program.marks c) all p.marked.1.0.0);
      older = older;
    }

module _ (program : Lowering) (x c a : ℕ) (more : List ℕ) (rest : Tokened) (idle : ℕ) (inner : List TokenJoin)
    (frames : List TokenFrame) (tokens : Tokens) (input : List ℕ) (s : Spot) (fs : List (Frame Line)) (left : List Line)
    (idle_is : idle ≡ suc (forms rest))
    (at : At program (Tokened.compute x (Construct c) (a ∷ more) [] rest) inner frames tokens input s fs left)
    (fit : IsFitFrom program
    (token_at program (Tokened.compute x (Construct c) (a ∷ more) [] rest) s.environment inner frames s.heap tokens input)) where
  abbrev code : Tokened
  code = Tokened.compute x (Construct c) (a ∷ more) [] rest

  abbrev n : ℕ
  n = length at.lists.older

  abbrev v : ℕ
  v = at.shape.variables

  abbrev size : ℕ
  size = length s.heap

  abbrev known : Known
  known = known_of program at.shape

  abbrev rest_lines : List Line
  rest_lines = at.does.placed.lines.1 ++ at.does.placed.after

  abbrev vs : List Value
  vs = values_of s.environment (a ∷ more)

  abbrev heap_made : Heap
  heap_made = record { count = 1; cell = record { made_by = c; fields = values_of s.environment (a ∷ more) } } ∷ s.heap

  abbrev from : TokenConfiguration
  from = machine_at program code s.environment inner frames s.heap tokens

  abbrev Steps_on : Type 0
  Steps_on = StepsOn program idle code inner frames tokens input s fs left

  abbrev Serves : Room → Type 0
  Serves room = request program.pool.cells [] (length at.lists.older) s.heap tokens ≡ room

  abbrev later : ℕ → ℕ → ℕ
  later one = assign size one s.address

  none_holds : at.lists.held ≡ []
  none_holds = at.judged.spends.0.0

  holds_none : s.frame.held ≡ []
  holds_none = at.has.held_is ∙ ap (held_values (tokens.slots n) v) none_holds

  chain_is : tokens.chain ≡ chain_of tokens.slots at.lists.older
  chain_is = at.judged.are.chain ∙ ap (λ held. chain_of tokens.slots (held ∷ at.lists.older)) none_holds

  all_apart : AllApart at.lists.older
  all_apart = frames_apart tokens.slots at.lists.older frames at.judged.waiting

  here : Here known s
  here = record { follows = at.follows; values = at.has.values }

  making : IsMaking known s x c (a ∷ more)
  making = making_of program x c a more [] rest inner frames tokens input s fs left at s.frame (fit 0).bare.sound.older

  asked : (room : Room) → Serves room → token_code_step (setting program) code s.environment inner from
      ≡ make_step room c vs (λ w. bound_to x w rest s.environment inner from) from
  asked room is =
      let puts : Value → TokenConfiguration = λ w. bound_to x w rest s.environment inner from in
      ap (λ g. make_step (request program.pool.cells [] g s.heap tokens) c vs puts from)
      (frames_many tokens.slots at.lists.older frames at.judged.waiting)
      ∙ ap (λ o. make_step o c vs puts from) is

  -- the fields of the names that are there keep their words
  made_words : (one r : ℕ) → r < size
      → token_words program.layout (later one) heap_made r ≡ token_words program.layout s.address s.heap r
  made_words one r less =
      grown_words program.layout s.address s.heap (record { count = 1; cell = record { made_by = c; fields = vs } }) one r
      making.older less

  -- the code goes on with a cell that was made
  goes_there : (gs : List (Frame Line)) (one : ℕ) (frame : Frame Line) (cells : Cells) (after : Tokens)
      → Lands known (construct_cost known (a ∷ more)) at.does.placed.lines.0 rest_lines fs gs s (made_spot s x c vs one frame cells)
      → frame.held ≡ s.frame.held
      → ((z : ℕ) → z < at.shape.slots → frame.cells (v + z) ≡ s.frame.cells (v + z)) → Serves (has_room after)
      → HaveTokenCells program.pool program.layout (later one) (with_owner one (cell_of size) s.owners) heap_made after
      → HaveSlotValues s.address (after.slots n) v at.shape.slots s.frame.cells
      → AllWait program s.address size after.slots at.lists.older frames gs at.shape.result → Steps_on
  goes_there gs one frame cells after lands held_same spared served cells_are slots_are waiting =
      let p = at.does.placed in
      let to : Spot = made_spot s x c vs one frame cells in
      let step : token_code_step (setting program) code s.environment inner from
      ≡ builds (busy s.heap) (machine_at program rest to.environment inner frames to.heap after) = asked (has_room after) served in
      let kept = subst (AllLead (AreKeptBy program.pool.cells (ListsAfter code inner at.lists))) step
      (kept_after program code inner frames tokens input s fs left at (fit 0).keeps refl) in
      let judged : IsJudged program.pool.cells at.lists.left at.lists.unspent at.lists.held at.lists.older rest inner frames
      to.heap after
      = subst (λ (l : Lists). IsJudged program.pool.cells l.left l.unspent l.held l.older rest inner frames to.heap after) kept.1.0
      kept.1.1 in
      let old = λ (g z r : ℕ) (is : after.slots g z ≡ token r).
      named_before program.pool.cells (record { count = 1; cell = record { made_by = c; fields = vs } }) s.heap after (omega arith)
      judged.are.pooled g z r is in
      let few = p.short in
      let row = row_times more (most_moves + 2) in
      goes_on program code inner frames tokens input s fs left at idle fit rest p.lines.0 p.lines.1 to gs after (x ∷ s.bound)
      at.lists (construct_cost known (a ∷ more)) (builds (busy s.heap)) lands
      (record {
        low = p.lines.2;
        behind = behind_one program code inner frames tokens input s fs left at x p.numbered.0 p.lines.7 p.lines.2 p.lines.5
            (record { way = 0 ∷ []; is_part = inl refl; code_is = refl }) p.marked.1.1 p.numbered.1.1 p.has.1 p.keeps.1.1;
        within = within_itself (x ∷ s.bound);
        judged = judged;
        cells = cells_are;
        stand = none_stands program.layout at.shape.standing to.address to.owners (after.slots n) [] at.lists.unspent tt
            judged.slots_are (λ z is. at.judged.spends.0.1.1 z ∙ is);
        slots_are = slots_moved {later = later one} {others = frame.cells} slots_are (λ z r is. grown_stays size one r s.address
            (old n z r is))
            (λ z low unspent. spared z low);
        held_is = held_same ∙ holds_none ∙ sym (ap (held_values (after.slots n) v) none_holds);
        waits = all_carried program s.address size (later one) (suc size) after.slots at.lists.older frames gs at.shape.result
            (λ holds most bound environment values has. has_cell has one)
            (λ g z r is. grown_stays size one r s.address (old g z r is)) waiting;
      })
      (silent_builds program (busy s.heap)) (omega (arith, row))
      (ap (λ action. seen_action program action input) step) (omega (arith, idle_is)) (omega arith)

  -- a slot's value is none of the variable's
  slot_spare : (z : ℕ) → is_among (x ∷ s.bound) (v + z) ≡ false
  slot_spare z =
      none_behind (x ∷ s.bound) v z (λ w is. elim (among_by x s.bound w is) [
        | inl e ↦ (let low = at.does.placed.numbered.0 in omega (arith, e, low))
        | inr among ↦ at.has.below w among
      ])

  -- a cell is free
  steps_free : busy s.heap + marked tokens.marks size < program.pool.cells → Serves (has_room tokens) → Steps_on
  steps_free room served =
      let number = at.cells.number in
      let done = construct_did known rest_lines fs s x c (a ∷ more) at.does.placed.lines.0 here making at.does.placed.lines.4.0
      (omega (arith, room, number)) in
      let one = done.0 in
      let did = done.3 in
      goes_there fs one done.1 done.2 tokens (lands_did did) did.held
      (λ z low. did.spared (v + z) (omega (arith, low)) (slot_spare z)) served
      (cells_stay at.cells (later one) (with_owner one (cell_of size) s.owners) heap_made
      (λ g z r is. grown_stays size one r s.address (at.judged.are.pooled.there g z r is))
      (λ g z r is. made_words one r (at.judged.are.pooled.there g z r is))
      (λ place linked ws is. subst (IsTokenCell linked ws) (sym (did.aside place (token_aside linked ws (s.owners place) is))) is)
      (λ place. did_aside did place)
      (marked_more program.pool.cells s.heap tokens at.judged.are.pooled))
      at.has.tokens at.waits

  -- the newest held token of an older function is taken
  steps_older : (link : Link) (links : List Link) (p : ℕ) → program.pool.cells ≤ busy s.heap + marked tokens.marks size
      → tokens.chain ≡ link ∷ links → tokens.slots link.frame link.slot ≡ token p
      → Serves (has_room (record (released link.frame link.slot p null tokens) { chain = links })) → Steps_on
  steps_older link links p full chain has served =
      let number = at.cells.number in
      let after : Tokens = record (released link.frame link.slot p null tokens) { chain = links } in
      let pooled = at.judged.are.pooled in
      let mark = pooled.marks link.frame link.slot p has in
      let place = s.address p in
      let top_is : chain_of tokens.slots at.lists.older ≡ link ∷ links = sym chain_is ∙ chain in
      let older = (chain_top tokens.slots at.lists.older link links all_apart top_is).below in
      let linked : is_linked link.frame link.slot tokens.chain ≡ true = ap (is_linked link.frame link.slot) chain
      ∙ linked_here link.frame link.slot links in
      let kept = subst (λ b. IsTokenCell b (token_words program.layout s.address s.heap p) (s.owners place)) linked
      (at.cells.are link.frame link.slot p mark) in
      let taken = taken_from program s.address size tokens.slots at.lists.older frames fs at.shape.result at.waits all_apart link
      links top_is p has in
      let made = construct_held known rest_lines fs s x c (a ∷ more) at.does.placed.lines.0 here making at.does.placed.lines.4.0
      taken.gs place kept.0 holds_none taken.newest taken.taken kept.1 (omega (arith, full, number)) in
      let owners = with_owner place (cell_of size) s.owners in
      goes_there taken.gs place
      (last_frame known rest_lines fs s x c (a ∷ more) at.does.placed.lines.0 here making at.does.placed.lines.4.0 place) made.0
      after made.1 refl (λ z low. made.2 (v + z) (omega (arith, low)) (slot_spare z)) served
      (cell_goes at.cells program.aligned link.frame link.slot p (later place) owners heap_made after
      (aside_owned at.follows place kept.0 kept.1).0 (pooled.there link.frame link.slot p mark) mark refl
      (λ g w r differ is. grown_stays size place r s.address (pooled.there g w r is))
      (λ g w r is. made_words place r (pooled.there g w r is))
      (λ g w r differ is. linked_behind program.pool.cells s.heap tokens pooled link links chain p has g w r differ is)
      (λ one held ws differ is. subst (IsTokenCell held ws) (sym (chosen_other one place (cell_of size) s.owners differ)) is)
      (ap is_aside (chosen_same place place (cell_of size) s.owners refl))
      (λ one differ. ap is_aside (chosen_other one place (cell_of size) s.owners differ))
      (marked_more program.pool.cells s.heap (released link.frame link.slot p null tokens)
      (pooled_released program.pool.cells link.frame link.slot p null s.heap tokens has refl pooled)))
      (slots_below tokens.slots n at.has.tokens link.frame link.slot null older) taken.waits

  -- no cell is there
  steps_none : program.pool.cells ≤ busy s.heap + marked tokens.marks size → tokens.chain ≡ [] → Serves no_room → Steps_on
  steps_none full chain served =
      let p = at.does.placed in
      let number = at.cells.number in
      let start : TokenState = token_at program code s.environment inner frames s.heap tokens input in
      let next : TokenState = record { machine = token_at_end heap_full from; input = input } in
      let no_token = none_held program s.address size tokens.slots at.lists.older frames fs at.shape.result at.waits all_apart
      (sym chain_is ∙ chain) in
      let ran = full_did known rest_lines fs s x c (a ∷ more) p.lines.0 here making p.lines.4.0 (omega (arith, full, number))
      (ap (λ held. top_in held s.frame.cells (top fs)) holds_none ∙ no_token) in
      let t0 = turn_of left s.frame fs s.world in
      let t1 : AsmTurn World Ending = ended (exited (number_of OfEnding.HeapFull)) s.world in
      let is : left ≡ p.lines.0 ++ rest_lines
      = p.left_is ∙ ap (λ own. own ++ p.after) p.lines.7 ∙ append_assoc p.lines.0 p.lines.1 p.after in
      does_by program idle start next [] t0 (ap (λ action. seen_action program action input) (asked no_room served)) fit
      (λ fits. by_lines program 1 (most_moves + 10) ((upper program).weight start) (saved s.heap) idle next t0 t1
      (subst (λ ls. Runs (target program) (most_moves + 10) 1 (turn_of ls s.frame fs s.world) t1) (sym is) ran)
      (omega arith) (omega (arith, idle_is)) fits
      (record { world = s.world; turn_is = refl; address = s.address; owners = s.owners; follows = at.follows; none = λ e. cc }))

  pub steps_construct : Steps_on
  steps_construct = by (requested program.pool.cells v n [] at.lists.older s.heap tokens tt all_apart chain_is)
    where
      by : Requested program.pool.cells v n [] s.heap tokens (request program.pool.cells [] n s.heap tokens) → Steps_on
      by (by_free room is) = steps_free room is
      by (by_own z p others full has among front is) = cc
      by (by_older link links p full dead chain has is) = steps_older link links p full chain has is
      by (by_none full dead chain is) = steps_none full chain is

pub at_construct : (program : Lowering) (x c a : ℕ) (more : List ℕ) (rest : Tokened)
    → CodeSteps program (Tokened.compute x (Construct c) (a ∷ more) [] rest)
at_construct program x c a more rest idle inner frames tokens input s fs left idle_is at fit =
    steps_construct program x c a more rest idle inner frames tokens input s fs left idle_is at fit
