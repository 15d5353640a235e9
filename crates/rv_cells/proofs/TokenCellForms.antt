-- The lines of forms that leave the tokens as they are, and do the steps of the machine with tokens.
use Rattle.std.proofs.Common.{inl, ◌≡◌, ℕ, suc, ◌+◌, ◌<◌, ◌≤◌, true, false, List, [], ◌∷◌, ◌++◌, length, map, Option, Some, None, refl, sym, ◌∙◌, ap, subst, arith}
use Rattle.kk_syntax.specs.Shapes.{is_among}
use Rattle.kk_source.specs.Live.{value_of}
use Rattle.kk_source.specs.Actions.{Action, goes}
use Rattle.kk_counted.specs.BareForms.{bare}
use Rattle.kk_counted.specs.CountedMachine.{NotStuck}
use Rattle.kk_counted.specs.Heaps.{Heap, dup_value, drop_value}
use Rattle.kk_counted.specs.Lowerable.{AreNumbered}
use Rattle.kk_counted.specs.References.{cells_of}
use Rattle.kk_counted.specs.Marks.{HasMark}
use Rattle.kk_counted.specs.TokenKeeping.{Lists, IsJudged, ListsAfter, AreKeptBy}
use Rattle.kk_counted.specs.TokenMachine.{token_code_step, at_code, to_heap}
use Rattle.kk_counted.specs.TokenRuns.{is_quiet, AllLead}
use Rattle.kk_counted.specs.TokenStates.{TokenJoin, TokenFrame, TokenConfiguration, bare_join, bare_configuration}
use Rattle.kk_counted.specs.TokenedCodes.{Tokened}
use Rattle.kk_counted.specs.Tokens.{Tokens, is_linked, marked}
use Rattle.rv_isa.specs.AsmCode.{Line}
use Rattle.rv_isa.specs.Frames.{Frame}
use Rattle.cell_runtime.specs.World.{World, with_cells}
use Rattle.rv_cells.specs.CountedCells.{Owner}
use Rattle.rv_cells.specs.CellLines.{dup_lines, drop_lines}
use Rattle.rv_cells.specs.TokenedLines.{CodeLines, HasSlots, Keeps}
use Rattle.rv_cells.proofs.BoundVariables.{AreWithin, within_itself}
use Rattle.rv_cells.proofs.LineCosts.{most_moves}
use Rattle.rv_cells.proofs.Runs.{turn_of}
use Rattle.rv_cells.proofs.Spots.{Spot, Here, Did, dup_length, drop_length, dup_did, drop_did, did_aside}
use Rattle.rv_cells.proofs.Values.{Carries, carries_same}
use Rattle.rv_cells.proofs.TokenCells.{token_aside, cells_stay}
use Rattle.rv_cells.proofs.TokenFields.{recounted_words, dup_cells, drop_cells}
use Rattle.rv_cells.proofs.TokenFrames.{none_behind, slots_moved, all_carried}
use Rattle.rv_cells.proofs.TokenLineCosts.{forms}
use Rattle.rv_cells.proofs.TokenRelation.{lines_setting}
use Rattle.rv_cells.proofs.TokenRelation.{IsTokenCell, token_words, Lowering, setting, upper, known_of, At, IsFitFrom, Follows_step}
use Rattle.rv_cells.proofs.TokenContents.{stand_moved}
use Rattle.rv_cells.proofs.TokenContinuations.{lands_did, token_at, machine_at, StepsOn, CodeSteps, IsSilent, silent_goes, seen_action, GoesTo, goes_on, kept_after}

heap_there : (o : Option Heap) (from to : TokenConfiguration) → NotStuck (bare_configuration (to_heap o from to)).control
    → (next : Heap) × (o ≡ Some next)
heap_there None from to going = absurd going
heap_there (Some next) from to going = (next, refl)

module _ (program : Lowering) where
  module _ (code : Tokened) (inner : List TokenJoin) (frames : List TokenFrame) (tokens : Tokens) (input : List ℕ) (s : Spot)
      (fs : List (Frame Line)) (left : List Line) (at : At program code inner frames tokens input s fs left) where
    -- lines that keep what is set aside, and the addresses of names, where the tokens and the lists stay
    pub goes_did : (idle : ℕ) (fit : IsFitFrom program (token_at program code s.environment inner frames s.heap tokens input))
        (rest : Tokened) (own more : List Line) (to : Spot) (later : List ℕ) (most : ℕ)
        (tells : TokenConfiguration → Action TokenConfiguration)
        → (did : Did (known_of program at.shape) most own (more ++ at.does.placed.after) fs s to) → s.address ≡ to.address
        → length to.heap ≡ length s.heap → cells_of to.heap ≡ cells_of s.heap → at.does.placed.own ≡ own ++ more → (low : ℕ)
        → (lines : CodeLines (lines_setting program at.shape)
        at.shape.variables at.does.goal low rest more at.does.placed.high)
        → GoesTo program code inner frames tokens input s fs left at rest own more low lines
        → AreWithin later to.bound → AreWithin s.bound later
        → ((x : ℕ) → is_among to.bound x ≡ true → x < at.shape.variables)
        → HasMark program.marks at.shape.holds at.shape.result later at.does.given (bare rest)
        → AreNumbered at.shape.variables later (bare rest) → HasSlots at.shape.slots rest → Keeps at.shape.standing rest
        → IsJudged program.pool.cells at.lists.left at.lists.unspent at.lists.held at.lists.older rest inner frames to.heap tokens
        → IsSilent program tells
        → most ≤ (upper program).weight (token_at program code s.environment inner frames s.heap tokens input)
        → (upper program).step (token_at program code s.environment inner frames s.heap tokens input)
        ≡ seen_action program (tells (machine_at program rest to.environment inner frames to.heap tokens)) input
        → suc (forms rest) ≤ idle → forms rest ≤ program.most
        → Follows_step program idle (token_at program code s.environment inner frames s.heap tokens input)
        (turn_of left s.frame fs s.world)
    goes_did idle fit rest own more to later most tells did address_is long recounted parts low lines part_is within older below marked_is
        numbered has keeps judged silent cheap is less short =
        let v = at.shape.variables in
        let same : (p : ℕ) → to.address p ≡ s.address p = λ p. ap (λ (g : ℕ → ℕ). g p) (sym address_is) in
        let carries : Carries program.layout s.address (length s.heap) to.address (length to.heap)
        = subst (λ g. Carries program.layout s.address (length s.heap) g (length to.heap)) address_is
        (carries_same program.layout s.address (length s.heap) (length to.heap) long) in
        goes_on program code inner frames tokens input s fs left at idle fit rest own more to fs tokens later at.lists most tells
        (lands_did did)
        (record {
          low = low;
          behind = record {
            parts = parts;
            lines = lines;
            part_is = part_is;
            older = older;
            below = λ x is. below x (within x is);
            marked = marked_is;
            numbered = numbered;
            has = has;
            keeps = keeps;
          };
          within = within;
          judged = judged;
          cells = cells_stay at.cells to.address to.owners to.heap (λ f y p is. same p)
              (λ f y p is. ap (λ (g : ℕ → ℕ). token_words program.layout g to.heap p) (sym address_is)
              ∙ recounted_words program.layout s.address s.heap to.heap p recounted)
              (λ z linked ws is. subst (IsTokenCell linked ws) (sym (did.aside z (token_aside linked ws (s.owners z) is))) is)
              (λ z. did_aside did z) (ap (marked tokens.marks) long);
          stand = stand_moved program.layout at.shape.standing s.address to.address s.owners to.owners
              (tokens.slots (length at.lists.older)) (tokens.slots (length at.lists.older))
              (λ y p is. (
                is,
                ap to.owners (same p)
                    ∙ did.aside (s.address p) (token_aside (is_linked (length at.lists.older) y tokens.chain)
                    (token_words program.layout s.address s.heap p) (s.owners (s.address p))
                    (at.cells.are (length at.lists.older) y p
                    (at.judged.are.pooled.marks (length at.lists.older) y p is))),
              )) at.stand;
          slots_are = slots_moved at.has.tokens (λ y p is. same p)
              (λ y few unspent. did.spared (v + y) (omega (arith, few)) (none_behind to.bound v y below));
          held_is = did.held ∙ at.has.held_is;
          waits = all_carried program s.address (length s.heap) to.address (length to.heap) tokens.slots at.lists.older frames fs
              at.shape.result carries (λ f y p is. same p) at.waits;
        })
        silent cheap is less short

    -- so where no variable is bound, and the step changes counts alone
    goes_counted : (idle : ℕ) (fit : IsFitFrom program (token_at program code s.environment inner frames s.heap tokens input))
        (rest : Tokened) (own more : List Line) (heap : Heap) (frame : Frame Line) (owners : ℕ → Owner) (world : World) (most : ℕ)
        → Did (known_of program at.shape) most own (more ++ at.does.placed.after) fs s
        (record s { heap = heap; frame = frame; owners = owners; world = world })
        → length heap ≡ length s.heap → cells_of heap ≡ cells_of s.heap → at.does.placed.own ≡ own ++ more
        → (lines : CodeLines (lines_setting program at.shape)
        at.shape.variables at.does.goal at.does.placed.low rest more at.does.placed.high)
        → GoesTo program code inner frames tokens input s fs left at rest own more at.does.placed.low lines
        → HasMark program.marks at.shape.holds at.shape.result s.bound at.does.given (bare rest)
        → AreNumbered at.shape.variables s.bound (bare rest) → HasSlots at.shape.slots rest → Keeps at.shape.standing rest
        → token_code_step (setting program) code s.environment inner (machine_at program code s.environment inner frames s.heap
        tokens)
        ≡ goes (machine_at program rest s.environment inner frames heap tokens)
        → is_quiet code ≡ false → ((next : Lists) → ListsAfter code inner at.lists next → next ≡ at.lists)
        → most ≤ (upper program).weight (token_at program code s.environment inner frames s.heap tokens input)
        → suc (forms rest) ≤ idle → forms rest ≤ program.most → StepsOn program idle code inner frames tokens input s fs left
    goes_counted idle fit rest own more heap frame owners world most did long recounted parts lines part_is marked_is numbered has
        keeps step loud stay cheap less short =
        let kept = subst (AllLead (AreKeptBy program.pool.cells (ListsAfter code inner at.lists))) step
        (kept_after program code inner frames tokens input s fs left at (fit 0).keeps loud) in
        goes_did idle fit rest own more (record s { heap = heap; frame = frame; owners = owners; world = world }) s.bound most goes
        did
        refl long recounted parts at.does.placed.low lines part_is (within_itself s.bound) (within_itself s.bound) at.has.below
        marked_is numbered has keeps
        (subst (λ (l : Lists). IsJudged program.pool.cells l.left l.unspent l.held l.older rest inner frames heap tokens)
        (stay kept.0 kept.1.0) kept.1.1)
        (silent_goes program) cheap (ap (λ action. seen_action program action input) step) less short

  pub at_dup : (x : ℕ) (rest : Tokened) → CodeSteps program (Tokened.dup x rest)
  at_dup x rest idle inner frames tokens input s fs left idle_is at fit =
      let p = at.does.placed in
      let code = Tokened.dup x rest in
      let from = machine_at program code s.environment inner frames s.heap tokens in
      let there = at_code rest s.environment inner from in
      let here : Here (known_of program at.shape) s = record { follows = at.follows; values = at.has.values } in
      let counts = (fit 0).bare.counts (bare code) s.environment (map bare_join inner) refl in
      let next = heap_there (dup_value (value_of s.environment x) s.heap) from there (fit 1).bare.going in
      let done = dup_did (known_of program at.shape) (p.lines.0 ++ p.after) fs s here x p.marked.0 next.0 next.1
      (λ name. let small = counts name in omega arith) in
      let step : token_code_step (setting program) code s.environment inner from
      ≡ goes (machine_at program rest s.environment inner frames next.0 tokens) = ap (λ o. goes (to_heap o from there)) next.1 in
      let few = p.short in
      goes_counted code inner frames tokens input s fs left at idle fit rest (dup_lines at.shape.holds x) p.lines.0 next.0 s.frame
      done.0 (with_cells s.world done.1) (most_moves + 5) done.2
      (dup_length (value_of s.environment x) s.heap next.0 next.1) (dup_cells (value_of s.environment x) s.heap next.0 next.1)
      p.lines.2 p.lines.1 (record { way = 0 ∷ []; is_part = inl refl; code_is = refl }) p.marked.1 p.numbered p.has p.keeps step
      refl
      (λ lists is. is) (omega arith) (omega (arith, idle_is)) (omega arith)

  pub at_drop : (x : ℕ) (rest : Tokened) → CodeSteps program (Tokened.drop x rest)
  at_drop x rest idle inner frames tokens input s fs left idle_is at fit =
      let p = at.does.placed in
      let code = Tokened.drop x rest in
      let from = machine_at program code s.environment inner frames s.heap tokens in
      let there = at_code rest s.environment inner from in
      let here : Here (known_of program at.shape) s = record { follows = at.follows; values = at.has.values } in
      let next = heap_there (drop_value (value_of s.environment x) s.heap) from there (fit 1).bare.going in
      let done = drop_did (known_of program at.shape) (p.lines.0 ++ p.after) fs s here x p.marked.0 next.0 next.1 in
      let step : token_code_step (setting program) code s.environment inner from
      ≡ goes (machine_at program rest s.environment inner frames next.0 tokens) = ap (λ o. goes (to_heap o from there)) next.1 in
      let few = p.short in
      goes_counted code inner frames tokens input s fs left at idle fit rest (drop_lines at.shape.holds x) p.lines.0
      next.0 s.frame done.0 (with_cells s.world done.1) (most_moves + 15) done.2
      (drop_length (value_of s.environment x) s.heap next.0 next.1) (drop_cells (value_of s.environment x) s.heap next.0 next.1)
      p.lines.2 p.lines.1 (record { way = 0 ∷ []; is_part = inl refl; code_is = refl }) p.marked.1 p.numbered p.has p.keeps step
      refl
      (λ lists is. is) (omega arith) (omega (arith, idle_is)) (omega arith)
