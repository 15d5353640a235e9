-- The lines of tests of tokens do the steps of the machine with tokens.
use Rattle.std.proofs.Common.{inl, inr, ◌≡◌, ◌≢◌, ℕ, suc, ◌+◌, ◌<◌, ◌≤◌, Bool, true, false, List, [], ◌∷◌, ◌++◌, length, Option, Some, refl, sym, ◌∙◌, ap, subst, arith, append_assoc, ne_eqb}
use Rattle.std.specs.Prelude.{if◌then◌else◌}
use Rattle.kk_source.specs.Actions.{goes}
use Rattle.kk_counted.specs.Heaps.{Heap}
use Rattle.kk_counted.specs.Lowerable.{AreNumbered}
use Rattle.kk_counted.specs.Marks.{HasMark}
use Rattle.kk_counted.specs.TokenKeeping.{Lists, IsJudged}
use Rattle.kk_counted.specs.TokenMachine.{token_code_step}
use Rattle.kk_counted.specs.TokenStates.{TokenJoin, TokenFrame, TokenState}
use Rattle.kk_counted.specs.TokenedCodes.{Tokened}
use Rattle.kk_counted.specs.Tokens.{Slot, is_token, Tokens, is_linked}
use Rattle.kk_counted.proofs.TokenChain.{frames_many}
use Rattle.kk_counted.proofs.TokenForms.{Has, is_null, has_cell, unspent_has}
use Rattle.rv_isa.specs.declared.asm.Action.TheVariants.{Label, Branch}
use Rattle.rv_isa.specs.declared.asm.Condition.TheVariants.{Equal}
use Rattle.rv_isa.specs.AsmCode.{Line}
use Rattle.rv_isa.specs.Frames.{Frame}
use Rattle.cell_heap.specs.Blocks.{Cells}
use Rattle.cell_heap.specs.Pool.{Pool, IsCell}
use Rattle.rv_lower.specs.Lines.{acts}
use Rattle.rv_lower.proofs.Orders.{split_at}
use Rattle.rv_cells.specs.Layout.{Layout}
use Rattle.rv_cells.specs.CountedCells.{Owner, Follows}
use Rattle.rv_cells.proofs.FormPlaces.{stands_behind, stands_behind_three}
use Rattle.rv_cells.proofs.CellActions.{label_runs, falls_one_runs, branch_one_runs}
use Rattle.rv_cells.proofs.FormWords.{has_same}
use Rattle.rv_cells.proofs.LineCosts.{most_moves, leading_cost}
use Rattle.rv_cells.proofs.Runs.{turn_of, Runs, runs_then}
use Rattle.rv_cells.proofs.Spots.{Spot, saved}
use Rattle.rv_cells.proofs.Words.{hand_owned, aside_owned}
use Rattle.rv_cells.proofs.TokenFrames.{slots_moved}
use Rattle.rv_cells.proofs.TokenLineCosts.{forms}
use Rattle.rv_cells.proofs.TokenRelation.{SlotIs, IsTokenCell, token_words, Lowering, target, setting, upper, Placed, At, IsFitFrom, by_lines, finds, Follows_step}
use Rattle.rv_cells.proofs.TokenContinuations.{token_at, machine_at, at_here, at_other, CodeSteps, seen_action, does_by, kept_quiet}

-- the cell of a token, whether it is held or in hand
pub token_cell : {pool : Pool} {layout : Layout} {address : ℕ → ℕ} {owners : ℕ → Owner} {heap : Heap} {cells : Cells}
    → Follows pool layout address owners heap cells → (linked : Bool) (ws : List ℕ) (at : ℕ) → IsTokenCell linked ws (owners at)
    → IsCell pool at
token_cell follows true ws at is = (aside_owned follows at is.0 is.1).0
token_cell follows false ws at is = (hand_owned follows at is.0 is.1).0

module _ (program : Lowering) where
  module _ (code : Tokened) (inner : List TokenJoin) (frames : List TokenFrame) (tokens : Tokens) (input : List ℕ) (s : Spot)
      (fs : List (Frame Line)) (left : List Line) (at : At program code inner frames tokens input s fs left) where
    -- Lines lead to another code of the function, at other lines of it, and change the temporaries of the frame alone.
    pub turns_to : (idle : ℕ) (fit : IsFitFrom program (token_at program code s.environment inner frames s.heap tokens input))
        (next : Tokened) (there : List Line) (values : ℕ → Option ℕ) (n cost : ℕ)
        → ((z : ℕ) → z < at.shape.variables + at.shape.slots → values z ≡ s.frame.cells z)
        → Placed program at.shape at.does.goal at.does.given s.bound s.frame.whole next there
        → IsJudged program.pool.cells at.lists.left at.lists.unspent at.lists.held at.lists.older next inner frames s.heap tokens
        → Runs (target program) cost n (turn_of left s.frame fs s.world)
        (turn_of there (record s.frame { cells = values }) fs s.world)
        → cost ≤ (upper program).weight (token_at program code s.environment inner frames s.heap tokens input)
        → suc (forms next) ≤ idle
        → (upper program).step (token_at program code s.environment inner frames s.heap tokens input)
        ≡ ([], token_at program next s.environment inner frames s.heap tokens input)
        → Follows_step program idle (token_at program code s.environment inner frames s.heap tokens input)
        (turn_of left s.frame fs s.world)
    turns_to idle fit next there values n cost same placed judged runs cheap few is =
        let start : TokenState = token_at program code s.environment inner frames s.heap tokens input in
        let end : TokenState = token_at program next s.environment inner frames s.heap tokens input in
        let f : Frame Line = record s.frame { cells = values } in
        let v = at.shape.variables in
        let t0 = turn_of left s.frame fs s.world in
        let t1 = turn_of there f fs s.world in
        does_by program idle start end [] t0 is fit
        (λ later. by_lines program n cost ((upper program).weight start) (saved s.heap) idle end t0 t1 runs
        (omega (arith, cheap)) (omega (arith, few)) later
        (at_here program
        (at_other program code inner frames tokens input s fs left at next there s.environment values placed judged
        (has_same at.has.values values (λ z among. same z (at.has.values.below z among)))
        (slots_moved at.has.tokens (λ y p is. refl) (λ y low unspent. same (v + y) (omega (arith, low)))))))

  -- ---- tests of tokens

  module _ (y : ℕ) (present absent : Tokened) (idle : ℕ) (inner : List TokenJoin) (frames : List TokenFrame) (tokens : Tokens)
      (input : List ℕ) (s : Spot) (fs : List (Frame Line)) (left : List Line)
      (idle_is : idle ≡ forms (Tokened.if_token y present absent))
      (at : At program (Tokened.if_token y present absent) inner frames tokens input s fs left)
      (fit : IsFitFrom program
      (token_at program (Tokened.if_token y present absent) s.environment inner frames s.heap tokens input)) where
    abbrev slot_value : ℕ
    slot_value = at.shape.variables + y

    abbrev first : List Line
    first = at.does.placed.lines.0

    abbrev second : List Line
    second = at.does.placed.lines.1

    abbrev mark : Line
    mark = acts (Label at.does.placed.low) []

    abbrev tests : List Line
    tests = acts (Branch Equal at.does.placed.low) ((at.shape.variables + y) ∷ []) ∷ []

    abbrev ways : List Line
    ways = (at.does.placed.lines.0 ++ (acts (Label at.does.placed.low) [] ∷ at.does.placed.lines.1)) ++ at.does.placed.after

    parts : left ≡ (tests ++ (first ++ (mark ∷ second))) ++ at.does.placed.after
    parts = at.does.placed.left_is ∙ ap (λ own. own ++ at.does.placed.after) at.does.placed.lines.5

    ways_at : s.frame.whole ≡ (at.does.placed.before ++ tests) ++ ways
    ways_at = split_at s.frame.whole at.does.placed.before left tests (first ++ (mark ∷ second)) at.does.placed.after
        at.does.placed.place parts

    mark_at : s.frame.whole ≡ ((at.does.placed.before ++ tests) ++ first) ++ (mark ∷ (second ++ at.does.placed.after))
    mark_at = split_at s.frame.whole (at.does.placed.before ++ tests) ways first (mark ∷ second) at.does.placed.after ways_at refl

    -- the code of one way
    way : (slot : Slot) → tokens.slots (length at.lists.older) y ≡ slot → (there : List Line) (n cost : ℕ)
        → Placed program at.shape at.does.goal at.does.given s.bound s.frame.whole
        (if is_token slot then present else absent) there
        → Runs (target program) cost n
        (turn_of (tests ++ ways) s.frame fs s.world) (turn_of there s.frame fs s.world)
        → cost ≤ leading_cost → suc (forms (if is_token slot then present else absent)) ≤ idle
        → Follows_step program idle
        (token_at program (Tokened.if_token y present absent) s.environment inner frames s.heap tokens input)
        (turn_of left s.frame fs s.world)
    way slot slot_is there n cost placed runs cheap few =
        let code = Tokened.if_token y present absent in
        let next = if is_token slot then present else absent in
        let many = frames_many tokens.slots at.lists.older frames at.judged.waiting in
        let from = machine_at program code s.environment inner frames s.heap tokens in
        let step : token_code_step (setting program) code s.environment inner from
        ≡ goes (machine_at program next s.environment inner frames s.heap tokens)
        = ap (λ k. goes (machine_at program (if is_token (tokens.slots k y) then present else absent) s.environment inner frames
        s.heap tokens)) many
        ∙ ap (λ sl. goes (machine_at program (if is_token sl then present else absent) s.environment inner frames s.heap tokens))
        slot_is in
        let kept = kept_quiet program code inner frames tokens input s fs left at
        (machine_at program next s.environment inner frames s.heap tokens) step refl in
        let lines_are : left ≡ tests ++ ways = parts ∙ append_assoc tests (first ++ (mark ∷ second)) at.does.placed.after in
        let end = turn_of there s.frame fs s.world in
        turns_to code inner frames tokens input s fs left at idle fit next there s.frame.cells n cost (λ z less. refl) placed
        (subst (λ (l : Lists). IsJudged program.pool.cells l.left l.unspent l.held l.older next inner frames s.heap tokens)
        kept.1.0 kept.1.1)
        (subst (λ ls. Runs (target program) cost n (turn_of ls s.frame fs s.world) end) (sym lines_are) runs)
        (omega (arith, cheap)) few (ap (λ action. seen_action program action input) step)

    by_slot : Has (tokens.slots (length at.lists.older) y)
        → Follows_step program idle
        (token_at program (Tokened.if_token y present absent) s.environment inner frames s.heap tokens input)
        (turn_of left s.frame fs s.world)
    by_slot (has_cell q has) =
        let p = at.does.placed in
        let few = p.short in
        let n = length at.lists.older in
        let address = s.address q in
        let value : s.frame.cells (at.shape.variables + y) ≡ Some address
        = subst (λ slot. SlotIs s.address slot (s.frame.cells (at.shape.variables + y))) has (at.has.tokens.are y) in
        let cell = token_cell at.follows (is_linked n y tokens.chain) (token_words program.layout s.address s.heap q) address
        (at.cells.are n y q (at.judged.are.pooled.marks n y q has)) in
        let behind = cell.behind in
        let some = program.some in
        let differ : address ≢ 0 = λ e. omega (arith, e, behind, some) in
        way (Slot.token q) has ways 1 (most_moves + 3)
        (record {
          before = p.before ++ tests;
          own = first;
          after = mark ∷ (second ++ p.after);
          low = p.low + 1;
          high = p.lines.2;
          lines = p.lines.3;
          left_is = append_assoc first (mark ∷ second) p.after;
          place = ways_at;
          stands = stands_behind p.stands (record { way = []; is_part = inl refl; code_is = refl });
          marked = p.marked;
          numbered = p.numbered;
          has = p.has.1.0;
          keeps = p.keeps.0;
          short = omega arith;
        })
        (falls_one_runs (target program) ways s.frame fs s.world Equal p.low slot_value address value (ne_eqb address 0 differ))
        (omega arith) (omega (arith, idle_is))
    by_slot (is_null empty) =
        let m = most_moves in
        let p = at.does.placed in
        let few = p.short in
        let alike = sym at.judged.spends.1.0 in
        let there = second ++ p.after in
        let value : s.frame.cells (at.shape.variables + y) ≡ Some 0
        = subst (λ slot. SlotIs s.address slot (s.frame.cells (at.shape.variables + y))) empty (at.has.tokens.are y) in
        let f = s.frame in
        let jumps = branch_one_runs (target program) ways f fs s.world Equal p.low slot_value 0 (mark ∷ there) value refl
        (finds p.low s.frame.whole ((p.before ++ tests) ++ first) there at.has.formed mark_at) in
        way Slot.null empty there (1 + 1) ((m + 3) + (m + 0))
        (record {
          before = ((p.before ++ tests) ++ first) ++ (mark ∷ []);
          own = second;
          after = p.after;
          low = p.lines.2;
          high = p.high;
          lines = p.lines.4;
          left_is = refl;
          place = mark_at ∙ sym (append_assoc ((p.before ++ tests) ++ first) (mark ∷ []) there);
          stands = stands_behind_three p.stands tests first (mark ∷ [])
              (record { way = []; is_part = inr (inl refl); code_is = ap (λ c. Some c) alike });
          marked = subst (HasMark program.marks at.shape.holds at.shape.result s.bound at.does.given) alike p.marked;
          numbered = subst (AreNumbered at.shape.variables s.bound) alike p.numbered;
          has = p.has.1.1;
          keeps = p.keeps.1;
          short = omega arith;
        })
        (runs_then (target program) (m + 3) (m + 0) 1 1 (turn_of (tests ++ ways) f fs s.world) (turn_of (mark ∷ there) f fs s.world)
        (turn_of there f fs s.world) jumps (label_runs (target program) there f fs s.world p.low))
        (omega arith) (omega (arith, idle_is))

  -- Where the token is there its slot has the address of a cell, which is not 0; else its slot is null.
  pub at_if_token : (y : ℕ) (present absent : Tokened) → CodeSteps program (Tokened.if_token y present absent)
  at_if_token y present absent idle inner frames tokens input s fs left idle_is at fit =
      by_slot y present absent idle inner frames tokens input s fs left idle_is at fit
      (unspent_has (tokens.slots (length at.lists.older) y) (at.judged.slots_are y ∙ at.judged.spends.0))
