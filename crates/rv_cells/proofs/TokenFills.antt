-- The lines of a construction in the cell of a token do the step of the machine with tokens.
use Rattle.std.proofs.Common.{◌≡◌, ℕ, suc, ◌+◌, ◌<◌, ◌≤◌, inl, true, false, List, [], ◌∷◌, ◌++◌, length, Some, refl, sym, ◌∙◌, ap, subst, arith, ne_eqb, append_assoc}
use Rattle.std.proofs.lemmas.List.{length-map}
use Rattle.kk_syntax.specs.Shapes.{is_among, without}
use Rattle.kk_source.specs.State.{Value}
use Rattle.kk_source.specs.Actions.{goes, builds}
use Rattle.kk_counted.specs.Heaps.{Heap, busy, fields_held}
use Rattle.kk_counted.specs.Keeping.{values_of}
use Rattle.kk_counted.specs.Marks.{field_marks}
use Rattle.kk_counted.specs.TokenKeeping.{ArePooled, Lists, IsJudged, ListsAfter, AreKeptBy}
use Rattle.kk_counted.specs.TokenMachine.{token_code_step, make_step, filled, bound_to, token_at_stuck}
use Rattle.kk_counted.specs.TokenRuns.{AllLead}
use Rattle.kk_counted.specs.TokenStates.{TokenJoin, TokenFrame, TokenConfiguration}
use Rattle.kk_counted.specs.TokenedCodes.{Tokened}
use Rattle.kk_counted.specs.Tokens.{spent, token, Mark, plain, token_of, one_if_token, Tokens, is_linked, by_token, marked, blanked, released, has_room, request}
use Rattle.kk_counted.proofs.TokenChain.{equal_one, frames_many, not_linked}
use Rattle.kk_counted.proofs.KeptFields.{kept_left}
use Rattle.kk_counted.proofs.SlotMarks.{slot_here, slot_there, mark_there, by_cell}
use Rattle.rv_isa.specs.declared.asm.Action.TheVariants.{Branch, Jump, Routine as Calls}
use Rattle.rv_isa.specs.declared.asm.Condition.TheVariants.{NotEqual}
use Rattle.rv_isa.specs.declared.routine.Routine.TheVariants.{Take}
use Rattle.rv_isa.specs.AsmCode.{Line}
use Rattle.rv_isa.specs.Frames.{Frame}
use Rattle.rv_lower.specs.Lines.{copies_to, acts}
use Rattle.rv_lower.proofs.Labels.{found_label}
use Rattle.rv_cells.specs.Layout.{FitFields, words_in, header_of}
use Rattle.rv_cells.specs.CountedCells.{cell_of, is_aside, with_owner, assign}
use Rattle.rv_cells.specs.CellLines.{hold_lines, unhold_lines}
use Rattle.rv_cells.proofs.BoundVariables.{within_itself, all_among, apart_above}
use Rattle.rv_cells.proofs.ConstructionLines.{IsMaking, made_spot}
use Rattle.rv_cells.proofs.FillLines.{fill_cost, from_label, whole_lines, tests_cell, fills_from}
use Rattle.rv_cells.proofs.KeptStores.{kept_words}
use Rattle.rv_cells.proofs.LineCosts.{most_moves}
use Rattle.rv_cells.proofs.Owners.{chosen_same, chosen_other}
use Rattle.rv_cells.proofs.CellActions.{put_in, copy_runs, jump_runs}
use Rattle.rv_cells.proofs.Runs.{turn_of, Runs, runs_then}
use Rattle.rv_cells.proofs.Spots.{Spot, Here}
use Rattle.rv_cells.proofs.Values.{has_cell}
use Rattle.rv_cells.proofs.Words.{hand_owned}
use Rattle.rv_cells.specs.TokenedLines.{values_of_slots, header_stands, count_stands}
use Rattle.rv_cells.proofs.TokenContents.{none_stands, standing_words}
use Rattle.rv_cells.proofs.WordStores.{HasWords}
use Rattle.rv_cells.proofs.TokenCells.{cell_goes}
use Rattle.rv_cells.proofs.TokenCalls.{arguments_fit}
use Rattle.rv_cells.proofs.TokenFields.{grown_words}
use Rattle.rv_cells.proofs.TokenFrames.{slots_moved, all_carried, all_wait_at}
use Rattle.rv_cells.proofs.TokenLineCosts.{forms}
use Rattle.rv_cells.proofs.TokenContinuations.{lands_leads, token_at, machine_at, seen_action, silent_builds, behind_one, goes_from, kept_after}
use Rattle.rv_cells.proofs.TokenRelation.{SlotIs, IsTokenCell, token_words, finds, held_values, Lowering, target, setting, upper, known_of, At, IsFitFrom, Follows_step}
use Rattle.rv_cells.proofs.TokenUniques.{slots_set, another, row_times}

abbrev takes_into : ℕ → Line
takes_into x = record { action = Calls Take; args = []; into = Some x }

-- a label behind the row of tokens that are held and taken back, and behind stores
label_split : (before hs us stores label : List Line) (a b t : Line)
    → before ++ (a ∷ b ∷ (hs ++ (t ∷ (us ++ (stores ++ label))))) ≡ (before ++ (a ∷ b ∷ (hs ++ (t ∷ (us ++ stores))))) ++ label
label_split before hs us stores label a b t =
    ap (λ ls. before ++ (a ∷ b ∷ (hs ++ (t ∷ ls)))) (sym (append_assoc us stores label))
    ∙ ap (λ ls. before ++ (a ∷ b ∷ ls)) (sym (append_assoc hs (t ∷ (us ++ stores)) label))
    ∙ sym (append_assoc before (a ∷ b ∷ (hs ++ (t ∷ (us ++ stores)))) label)

-- the next name is no token's
pub beyond_plain : (cells : ℕ) (heap : Heap) (tokens : Tokens) → ArePooled cells heap tokens → tokens.marks (length heap) ≡ plain
beyond_plain cells heap tokens pooled = by (tokens.marks (length heap)) refl
  where
    by : (mark : Mark) → tokens.marks (length heap) ≡ mark → tokens.marks (length heap) ≡ plain
    by plain is = is
    by (token_of f z) is = (let less = pooled.there f z (length heap) is in absurd (omega arith))

pub none_more : (m : ℕ) → 0 + m ≡ m
none_more m = omega arith

module _ (program : Lowering) (x y c first : ℕ) (arguments kept_at others : List ℕ) (rest : Tokened) (idle : ℕ)
    (inner : List TokenJoin) (frames : List TokenFrame) (tokens : Tokens) (input : List ℕ) (s : Spot) (fs : List (Frame Line))
    (left : List Line)
    (idle_is : idle ≡ suc (forms rest))
    (at : At program (Tokened.fill x y c first arguments kept_at others rest) inner frames tokens input s fs left)
    (fit : IsFitFrom program (token_at program (Tokened.fill x y c first arguments kept_at others rest) s.environment inner frames
    s.heap tokens input)) where
  abbrev pub Fill_steps : Type 0
  Fill_steps =
      Follows_step program idle
      (token_at program (Tokened.fill x y c first arguments kept_at others rest) s.environment inner frames s.heap tokens input)
      (turn_of left s.frame fs s.world)

  pub making : IsMaking (known_of program at.shape) s x c (first ∷ arguments)
  making =
      let p = at.does.placed in
      let all = all_among (first ∷ arguments) s.bound p.marked.0 in
      let low = p.numbered.0 in
      record {
        below = omega arith;
        bound = all;
        apart = apart_above x (first ∷ arguments) s.bound p.numbered.1.0 all;
        holds = p.marked.1.0.1;
        fits = subst (λ marks. FitFields marks (values_of s.environment (first ∷ arguments))) (sym (program.fields_are c))
            (arguments_fit at.has.values (first ∷ arguments) (field_marks program.marks c) all p.marked.1.0.0);
        older = (fit 0).bare.sound.older;
      }

  -- the lines weigh no more than the table of costs says
  pub fill_cheap : fill_cost (known_of program at.shape) (values_of_slots at.shape.variables others) (first ∷ arguments)
      ≤ (upper program).weight
      (token_at program (Tokened.fill x y c first arguments kept_at others rest) s.environment inner frames s.heap tokens input)
  fill_cheap =
      let zs = values_of_slots at.shape.variables others in
      let row = row_times arguments (most_moves + 2) in
      let held = row_times zs (most_moves + 9) in
      let back = row_times zs (most_moves + 7) in
      let long = length-map others (λ z. at.shape.variables + z) in
      omega (arith, row, held, back, long)

  abbrev rest_lines : List Line
  rest_lines = at.does.placed.lines.1 ++ at.does.placed.after

  abbrev held_ones : List ℕ
  held_ones = values_of_slots at.shape.variables others

  here : Here (known_of program at.shape) s
  here = record { follows = at.follows; values = at.has.values }

  -- the lines from the label on, to which a token leads that is there
  abbrev behind_label : List Line
  behind_label = from_label (known_of program at.shape) rest_lines fs s x (at.shape.variables + y) c held_ones at.does.placed.low
      (first ∷ arguments) kept_at (header_stands at.shape.standing c) (count_stands at.shape.standing) at.does.placed.lines.0 here
      making at.does.placed.lines.2

  left_is : left ≡ at.does.placed.lines.0 ++ rest_lines
  left_is =
      let p = at.does.placed in
      p.left_is ∙ ap (λ own. own ++ p.after) p.lines.4 ∙ append_assoc p.lines.0 p.lines.1 p.after

  -- where the label stands
  found_at : found_label at.does.placed.low s.frame.whole ≡ Some behind_label
  found_at =
      let p = at.does.placed in
      let v = at.shape.variables in
      let head = header_stands at.shape.standing c in
      let count = count_stands at.shape.standing in
      let whole_is = whole_lines (known_of program at.shape) rest_lines fs s x (v + y) c held_ones p.low (first ∷ arguments) kept_at
      head count p.lines.0 here making p.lines.2 in
      finds p.low s.frame.whole
      (p.before ++ (copies_to (v + y) x ∷ acts (Branch NotEqual p.low) (x ∷ [])
      ∷ (hold_lines held_ones ++ (takes_into x ∷ (unhold_lines held_ones ++ p.lines.2.0)))))
      (p.lines.2.1 ++ rest_lines) at.has.formed
      (p.place ∙ ap (λ ls. p.before ++ ls) (left_is ∙ whole_is)
      ∙ label_split p.before (hold_lines held_ones) (unhold_lines held_ones) p.lines.2.0 behind_label
      (copies_to (v + y) x) (acts (Branch NotEqual p.low) (x ∷ [])) (takes_into x))

  module _ (q : ℕ) (has : tokens.slots (length at.lists.older) y ≡ token q) where
    free : is_linked (length at.lists.older) y tokens.chain ≡ false
    free = ap (is_linked (length at.lists.older) y) at.judged.are.chain
        ∙ not_linked tokens.slots at.lists.held at.lists.older y (ap (λ (ys : List ℕ). is_among ys y) at.judged.spends.0)

    hand : IsTokenCell false (token_words program.layout s.address s.heap q) (s.owners (s.address q))
    hand = subst (λ b. IsTokenCell b (token_words program.layout s.address s.heap q) (s.owners (s.address q))) free
        (at.cells.are (length at.lists.older) y q (at.judged.are.pooled.marks (length at.lists.older) y q has))

    value : s.frame.cells (at.shape.variables + y) ≡ Some (s.address q)
    value = subst (λ slot. SlotIs s.address slot (s.frame.cells (at.shape.variables + y))) has (at.has.tokens.are y)

    -- the frame at the label, and how lines come there: as the test of the token does
    abbrev copied : Frame Line
    copied = put_in x (s.address q) s.frame

    abbrev LeadsThere : List Line → Type 0
    LeadsThere start =
        Runs (target program) ((most_moves + 2) + (most_moves + 2)) (1 + 1) (turn_of start s.frame fs s.world)
        (turn_of behind_label copied fs s.world)

    -- so its own token is there
    fills_by : (start : List Line) → LeadsThere start
        → Follows_step program idle
        (token_at program (Tokened.fill x y c first arguments kept_at others rest) s.environment inner frames s.heap tokens input)
        (turn_of start s.frame fs s.world)
    fills_by start runs =
        let p = at.does.placed in
        let head = header_stands at.shape.standing c in
        let count = count_stands at.shape.standing in
        let code = Tokened.fill x y c first arguments kept_at others rest in
        let known = known_of program at.shape in
        let v = at.shape.variables in
        let n = length at.lists.older in
        let size = length s.heap in
        let address = s.address q in
        let pooled = at.judged.are.pooled in
        let many = frames_many tokens.slots at.lists.older frames at.judged.waiting in
        let mark = pooled.marks n y q has in
        let nothing = at.judged.spends.0 in
        let vs = values_of s.environment (first ∷ arguments) in
        let after : Tokens = released n y q spent tokens in
        let keeps = (fit 0).keeps q (subst (λ m. tokens.slots m y ≡ token q) (sym many) has) in
        let standing = standing_words program.layout at.shape.standing c (s.owners address) hand.0 hand.1 (at.stand y q has) in
        let known_ones : HasWords head count kept_at (header_of program.layout c) (words_in program.layout s.address vs) hand.0
        = record {
          header_is = standing.0;
          count_is = standing.1;
          fields = kept_words program.layout s.address kept_at hand.0 2 0 (fields_held s.heap q) vs keeps hand.2;
        } in
        let done = fills_from known rest_lines fs s x (v + y) c held_ones p.low (first ∷ arguments) kept_at head count p.lines.0
        here
        making p.lines.2 start address hand.0 hand.1 known_ones runs in
        let later = assign size address s.address in
        let f : Frame Line = done.0 in
        let to : Spot = made_spot s x c vs address f done.1 in
        let from = machine_at program code s.environment inner frames s.heap tokens in
        let puts : Value → TokenConfiguration = λ w. bound_to x w rest s.environment inner from in
        let step : token_code_step (setting program) code s.environment inner from
        ≡ builds (busy s.heap) (machine_at program rest to.environment inner frames to.heap after)
        = ap (λ g. by_token (goes (token_at_stuck from))
        (make_step (request program.pool.cells others g s.heap (blanked g y spent tokens)) c vs puts from)
        (λ r. make_step (has_room (released g y r spent tokens)) c (filled true kept_at (fields_held s.heap r) vs) puts from) g y
        tokens) many
        ∙ by_cell program.pool.cells (goes (token_at_stuck from))
        (make_step (request program.pool.cells others n s.heap (blanked n y spent tokens)) c vs puts from)
        (λ r. make_step (has_room (released n y r spent tokens)) c (filled true kept_at (fields_held s.heap r) vs) puts from) n y q
        s.heap tokens pooled has
        ∙ ap (λ fields. make_step (has_room after) c fields puts from) (kept_left 0 kept_at (fields_held s.heap q) vs keeps) in
        let kept = subst (AllLead (AreKeptBy program.pool.cells (ListsAfter code inner at.lists))) step
        (kept_after program code inner frames tokens input s fs left at (fit 0).keeps refl) in
        let judged : IsJudged program.pool.cells at.lists.left (without (y ∷ []) at.lists.unspent) at.lists.held at.lists.older rest
        inner frames to.heap after
        = subst (λ (l : Lists). IsJudged program.pool.cells l.left l.unspent l.held l.older rest inner frames to.heap after)
        kept.1.0 kept.1.1 in
        let stays : (r : ℕ) → r < size → later r ≡ s.address r
        = λ r less. chosen_other r size address s.address (λ e. omega (arith, e, less)) in
        let below = pooled.there n y q mark in
        let fresh : one_if_token (after.marks size) ≡ 0 = ap one_if_token
        (mark_there q size plain tokens.marks (ne_eqb size q (λ e. omega (arith, e, below)))
        ∙ beyond_plain program.pool.cells s.heap tokens pooled) in
        let moved = slots_moved {later = later} {others = f.cells} at.has.tokens
        (λ z r is. stays r (pooled.there n z r (pooled.marks n z r is)))
        (λ z few unspent. done.3 (v + z) (omega (arith, few)) (λ e. let low = p.numbered.0 in omega (arith, e, low))) in
        let few = p.short in
        goes_from program code inner frames tokens input s fs left at idle fit rest p.lines.0 p.lines.1 start to fs after (x ∷
        s.bound)
        (record at.lists { unspent = without (y ∷ []) at.lists.unspent })
        (fill_cost known held_ones (first ∷ arguments)) (builds (busy s.heap)) (lands_leads done.2)
        (record {
          low = p.low + 1;
          behind = behind_one program code inner frames tokens input s fs left at x p.numbered.0 p.lines.4 (p.low + 1) p.lines.3
              (record { way = 0 ∷ []; is_part = inl refl; code_is = refl }) p.marked.1.1 p.numbered.1.1 p.has.1.1 p.keeps.1;
          within = within_itself (x ∷ s.bound);
          judged = judged;
          stand = none_stands program.layout at.shape.standing to.address to.owners (after.slots n) others
              (without (y ∷ []) at.lists.unspent) p.keeps.0 judged.slots_are (λ z is. at.judged.spends.1.1.1.0 z ∙ is);
          cells = cell_goes at.cells program.aligned n y q later (with_owner address (cell_of size) s.owners) to.heap after
              (hand_owned at.follows address hand.0 hand.1).0 below mark refl
              (λ g z r differ is. stays r (pooled.there g z r is))
              (λ g z r is. grown_words program.layout s.address s.heap
              (record { count = 1; cell = record { made_by = c; fields = vs } }) address r making.older (pooled.there g z r is))
              (λ g z r differ is. refl)
              (λ one linked ws differ is. subst (IsTokenCell linked ws)
              (sym (chosen_other one address (cell_of size) s.owners differ)) is)
              (ap is_aside (chosen_same address address (cell_of size) s.owners refl))
              (λ one differ. ap is_aside (chosen_other one address (cell_of size) s.owners differ))
              (ap (λ k. k + marked after.marks size) fresh ∙ none_more (marked after.marks size));
          slots_are = slots_set moved y spent p.has.0 (slot_here n y spent tokens.slots) tt
              (λ z differ. slot_there n y n z spent tokens.slots (another n y z differ)) (λ z differ low. refl);
          held_is = done.2.held ∙ at.has.held_is ∙ ap (held_values (tokens.slots n) v) nothing
              ∙ sym (ap (held_values (after.slots n) v) nothing);
          waits = all_wait_at program later (suc size) tokens.slots after.slots at.lists.older frames fs at.shape.result
              (equal_one n n y spent tokens.slots (omega arith))
              (all_carried program s.address size later (suc size) tokens.slots at.lists.older frames fs at.shape.result
              (λ holds most bound environment values has_values. has_cell has_values address)
              (λ g z r is. stays r (pooled.there g z r (pooled.marks g z r is))) at.waits);
        })
        (silent_builds program (busy s.heap)) fill_cheap
        (ap (λ action. seen_action program action input) step) (omega (arith, idle_is)) (omega arith)

    -- its lines test it
    pub fills_token : Fill_steps
    fills_token =
        let p = at.does.placed in
        let far = (hand_owned at.follows (s.address q) hand.0 hand.1).0.behind in
        let some = program.some in
        subst (λ ls. Follows_step program idle
        (token_at program (Tokened.fill x y c first arguments kept_at others rest) s.environment inner frames s.heap tokens input)
        (turn_of ls s.frame fs s.world)) (sym left_is)
        (fills_by (p.lines.0 ++ rest_lines)
        (tests_cell (known_of program at.shape) rest_lines fs s x (at.shape.variables + y) c held_ones p.low (first ∷ arguments)
        kept_at (header_stands at.shape.standing c) (count_stands at.shape.standing) p.lines.0 here making p.lines.2 (s.address q)
        value (λ e. absurd (omega (arith, far, e, some))) found_at))

    -- or lines go on behind the test
    pub fills_behind : (behind : List Line)
        → Follows_step program idle
        (token_at program (Tokened.fill x y c first arguments kept_at others rest) s.environment inner frames s.heap tokens input)
        (turn_of (copies_to (at.shape.variables + y) x ∷ acts (Jump at.does.placed.low) [] ∷ behind) s.frame fs s.world)
    fills_behind behind =
        let v = at.shape.variables in
        let jump = acts (Jump at.does.placed.low) [] in
        fills_by (copies_to (v + y) x ∷ jump ∷ behind)
        (runs_then (target program) (most_moves + 2) (most_moves + 2) 1 1
        (turn_of (copies_to (v + y) x ∷ jump ∷ behind) s.frame fs s.world) (turn_of (jump ∷ behind) copied fs s.world)
        (turn_of behind_label copied fs s.world)
        (copy_runs (target program) (jump ∷ behind) s.frame fs s.world (v + y) x (s.address q) value)
        (jump_runs (target program) behind copied fs s.world at.does.placed.low behind_label found_at))
