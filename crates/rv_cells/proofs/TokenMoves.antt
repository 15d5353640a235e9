-- The line that moves a token to another slot does the step of the machine with tokens.
use Rattle.std.proofs.Common.{inl, ◌≡◌, ℕ, suc, ◌+◌, ◌<◌, ◌==◌, Bool, true, false, List, [], ◌∷◌, ◌++◌, length, Some, None, refl, sym, ◌∙◌, ap, subst, arith, eqb-true}
use Rattle.kk_syntax.specs.Shapes.{is_among, without}
use Rattle.kk_counted.specs.Heaps.{Heap}
use Rattle.kk_counted.specs.TokenKeeping.{Lists, IsJudged}
use Rattle.kk_counted.specs.TokenStates.{TokenJoin, TokenFrame}
use Rattle.kk_counted.specs.TokenedCodes.{Tokened}
use Rattle.kk_counted.specs.Tokens.{Slot, spent, null, token, Mark, plain, token_of, one_if_token, Tokens, is_linked, slots_with, marks_with, marked, blanked, released, gained, moved}
use Rattle.kk_counted.proofs.TokenChain.{equal_one, not_linked}
use Rattle.kk_counted.proofs.SlotMarks.{slot_here, slot_there, by_null, by_cell, mark_here, mark_there, marked_with}
use Rattle.kk_counted.proofs.TokenForms.{Has, is_null, has_cell, unspent_has}
use Rattle.cell_heap.specs.Pool.{Pool}
use Rattle.rv_isa.specs.AsmCode.{Line}
use Rattle.rv_isa.specs.Frames.{Frame}
use Rattle.rv_lower.specs.Lines.{copies_to}
use Rattle.rv_cells.specs.CountedCells.{Owner}
use Rattle.rv_cells.proofs.CellActions.{put_in}
use Rattle.rv_cells.specs.Layout.{Layout}
use Rattle.rv_cells.proofs.Runs.{turn_of}
use Rattle.rv_cells.proofs.Spots.{Spot, Here}
use Rattle.rv_cells.proofs.TokenForms.{moves_token}
use Rattle.rv_cells.proofs.TokenFrames.{none_behind, slots_put, all_wait_at}
use Rattle.rv_cells.proofs.TokenLineCosts.{forms}
use Rattle.rv_cells.proofs.TokenRelation.{SlotIs, IsTokenCell, token_words, HaveTokenCells, HaveSlotValues, held_values, Lowering, AllWait, known_of, At, IsFitFrom, Follows_step}
use Rattle.rv_cells.proofs.TokenContents.{nothing_stands}
use Rattle.rv_cells.proofs.TokenContinuations.{token_at, machine_at, CodeSteps, kept_quiet, ActsOnTokens, acts_by, tokens_step}
use Rattle.rv_cells.proofs.TokenContinuations.{acts_on_tokens}
use Rattle.rv_cells.proofs.TokenUniques.{slots_set, another}

-- the cell of a token becomes that of another slot, which is linked where the first one is
pub cell_moves : {pool : Pool} {layout : Layout} {address : ℕ → ℕ} {owners : ℕ → Owner} {heap : Heap} {tokens : Tokens}
    → HaveTokenCells pool layout address owners heap tokens → (f y g z p : ℕ) (after : Tokens) → p < length heap
    → tokens.marks p ≡ token_of f y → after.marks ≡ marks_with p (token_of g z) (marks_with p plain tokens.marks)
    → after.chain ≡ tokens.chain → is_linked g z tokens.chain ≡ is_linked f y tokens.chain
    → HaveTokenCells pool layout address owners heap after
cell_moves {pool} {layout} {address} {owners} {heap} {tokens} have f y g z p after low mark marks_are chain_is linked = record {
  are = λ h x r is. subst (λ links. IsTokenCell (is_linked h x links) (token_words layout address heap r) (owners (address r)))
      (sym chain_is)
      (by_are h x r (sym (ap (λ (m : ℕ → Mark). m r) marks_are) ∙ is) (r == p) refl);
  apart = λ h x r h2 x2 r2 one two e.
      let a = was h x r (sym (ap (λ (m : ℕ → Mark). m r) marks_are) ∙ one) (r == p) refl in
      let b = was h2 x2 r2 (sym (ap (λ (m : ℕ → Mark). m r2) marks_are) ∙ two) (r2 == p) refl in
      have.apart a.0 a.1 r b.0 b.1 r2 a.2 b.2 e;
  number =
      let first = marked_with p (length heap) plain tokens.marks low in
      let second = marked_with p (length heap) (token_of g z) (marks_with p plain tokens.marks) low in
      let gone = ap one_if_token (mark_here p plain tokens.marks) in
      let one = ap one_if_token mark in
      let now = ap (λ m. marked m (length heap)) marks_are in
      let number = have.number in
      omega arith;
}
  where
    mark_parts : {a b c d : ℕ} → token_of a b ≡ token_of c d → (a ≡ c) × (b ≡ d)
    mark_parts e = (cc, cc)

    old : (h x r : ℕ) → marks_with p (token_of g z) (marks_with p plain tokens.marks) r ≡ token_of h x → (r == p) ≡ false
        → tokens.marks r ≡ token_of h x
    old h x r is test =
        sym (mark_there p r plain tokens.marks test) ∙ sym (mark_there p r (token_of g z) (marks_with p plain tokens.marks) test) ∙ is

    was : (h x r : ℕ) → marks_with p (token_of g z) (marks_with p plain tokens.marks) r ≡ token_of h x → (b : Bool) → (r == p) ≡ b
        → (k : ℕ) × (w : ℕ) × (tokens.marks r ≡ token_of k w)
    was h x r is true test = (f, y, ap tokens.marks (eqb-true r p test) ∙ mark)
    was h x r is false test = (h, x, old h x r is test)

    by_are : (h x r : ℕ) → marks_with p (token_of g z) (marks_with p plain tokens.marks) r ≡ token_of h x → (b : Bool)
        → (r == p) ≡ b → IsTokenCell (is_linked h x tokens.chain) (token_words layout address heap r) (owners (address r))
    by_are h x r is true test =
        let e : p ≡ r = sym (eqb-true r p test) in
        let parts = mark_parts (sym (mark_here p (token_of g z) (marks_with p plain tokens.marks))
        ∙ ap (marks_with p (token_of g z) (marks_with p plain tokens.marks)) e ∙ is) in
        let ws = token_words layout address heap p in
        subst (λ q. IsTokenCell (is_linked h x tokens.chain) (token_words layout address heap q) (owners (address q))) e
        (subst (λ w. IsTokenCell (is_linked h w tokens.chain) ws (owners (address p))) parts.1
        (subst (λ k. IsTokenCell (is_linked k z tokens.chain) ws (owners (address p))) parts.0
        (subst (λ b. IsTokenCell b ws (owners (address p))) (sym linked) (have.are f y p mark))))
    by_are h x r is false test = have.are h x r (old h x r is test)

module _ (program : Lowering) (to of : ℕ) (rest : Tokened) where
  module _ (idle : ℕ) (inner : List TokenJoin) (frames : List TokenFrame) (tokens : Tokens) (input : List ℕ) (s : Spot)
      (fs : List (Frame Line)) (left : List Line) (idle_is : idle ≡ suc (forms rest))
      (at : At program (Tokened.move to of rest) inner frames tokens input s fs left)
      (fit : IsFitFrom program (token_at program (Tokened.move to of rest) s.environment inner frames s.heap tokens input)) where
    move_acts : ActsOnTokens program (Tokened.move to of rest) inner frames tokens input s fs left at rest
        (copies_to (at.shape.variables + of) (at.shape.variables + to)) at.does.placed.lines.0
    move_acts =
        acts_by program (Tokened.move to of rest) inner frames tokens input s fs left at rest
        (copies_to (at.shape.variables + of) (at.shape.variables + to)) at.does.placed.lines refl refl
        (record { way = []; is_part = inl refl; code_is = refl }) at.does.placed.has.1.1 at.does.placed.keeps.1

    -- the slot has this token with this word
    moves_it : (word : ℕ) (slot : Slot) (after : Tokens) → s.frame.cells (at.shape.variables + of) ≡ Some word
        → moved (length at.lists.older) to of tokens ≡ Some after
        → slots_with (length at.lists.older) to slot (slots_with (length at.lists.older) of spent tokens.slots) ≡ after.slots
        → SlotIs s.address slot (Some word) → HaveTokenCells program.pool program.layout s.address s.owners s.heap after
        → Follows_step program idle (token_at program (Tokened.move to of rest) s.environment inner frames s.heap tokens input)
        (turn_of left s.frame fs s.world)
    moves_it word slot after value moved_is slots_is slot_is cells =
        let p = at.does.placed in
        let v = at.shape.variables in
        let n = length at.lists.older in
        let here : Here (known_of program at.shape) s = record { follows = at.follows; values = at.has.values } in
        let step = tokens_step program (Tokened.move to of rest) inner frames tokens input s fs left at rest
        (λ f. moved f to of tokens) after moved_is in
        let kept = kept_quiet program (Tokened.move to of rest) inner frames tokens input s fs left at
        (machine_at program rest s.environment inner frames s.heap after) step refl in
        let nothing = at.judged.spends.0 in
        let without_it = slots_with n of spent tokens.slots in
        let first = slots_set {others = without_it n} {after = s.frame.cells} at.has.tokens of spent p.has.1.0
        (slot_here n of spent tokens.slots) tt (λ z differ. slot_there n of n z spent tokens.slots (another n of z differ))
        (λ z differ low. refl) in
        let second = slots_put {others = slots_with n to slot without_it n} first to word slot p.has.0 (slot_here n to slot without_it) slot_is
        (λ z differ. slot_there n to n z slot without_it (another n to z differ)) in
        acts_on_tokens program (Tokened.move to of rest) inner frames tokens input s fs left at idle idle_is fit rest
        (copies_to (v + of) (v + to)) p.lines.0 move_acts (put_in (v + to) word s.frame) s.owners s.world after
        (record at.lists { unspent = to ∷ without (of ∷ []) at.lists.unspent }) 4
        (moves_token (known_of program at.shape) (p.lines.0 ++ p.after) fs s here (v + of) (v + to) word
        (none_behind s.bound v to at.has.below) value)
        (record {
          judged = subst (λ (l : Lists). IsJudged program.pool.cells l.left l.unspent l.held l.older rest inner frames s.heap after)
              kept.1.0 kept.1.1;
          cells = cells;
          stand = nothing_stands program.layout at.shape.standing s.address s.owners (after.slots n) p.keeps.0;
          slots_are = subst (λ (sl : ℕ → ℕ → Slot). HaveSlotValues s.address (sl n) v at.shape.slots
              (put_in (v + to) word s.frame).cells) slots_is second;
          held_is = at.has.held_is ∙ ap (held_values (tokens.slots n) v) nothing
              ∙ sym (ap (held_values (after.slots n) v) nothing);
          waits = subst (λ sl. AllWait program s.address (length s.heap) sl at.lists.older frames fs at.shape.result) slots_is
              (all_wait_at program s.address (length s.heap) without_it (slots_with n to slot without_it) at.lists.older frames fs
              at.shape.result (equal_one n n to slot without_it (omega arith))
              (all_wait_at program s.address (length s.heap) tokens.slots without_it at.lists.older frames fs at.shape.result
              (equal_one n n of spent tokens.slots (omega arith)) at.waits));
        })
        (omega arith) step

    steps_move : Follows_step program idle (token_at program (Tokened.move to of rest) s.environment inner frames s.heap tokens input)
        (turn_of left s.frame fs s.world)
    steps_move =
        by (unspent_has (tokens.slots (length at.lists.older) of) (at.judged.slots_are of ∙ at.judged.spends.1.0))
      where
        free : (z : ℕ) → is_linked (length at.lists.older) z tokens.chain ≡ false
        free z = ap (is_linked (length at.lists.older) z) at.judged.are.chain
            ∙ not_linked tokens.slots at.lists.held at.lists.older z (ap (λ (ys : List ℕ). is_among ys z) at.judged.spends.0)

        by : Has (tokens.slots (length at.lists.older) of)
            → Follows_step program idle (token_at program (Tokened.move to of rest) s.environment inner frames s.heap tokens input)
            (turn_of left s.frame fs s.world)
        by (is_null empty) =
            let n = length at.lists.older in
            moves_it 0 null (blanked n to null (blanked n of spent tokens))
            (subst (λ slot. SlotIs s.address slot (s.frame.cells (at.shape.variables + of))) empty (at.has.tokens.are of))
            (by_null program.pool.cells None (Some (blanked n to null (blanked n of spent tokens)))
            (λ q. Some (gained n to q (released n of q spent tokens))) n of tokens empty) refl refl
            (record { are = at.cells.are; apart = at.cells.apart; number = at.cells.number })
        by (has_cell q has) =
            let n = length at.lists.older in
            let pooled = at.judged.are.pooled in
            let mark = pooled.marks n of q has in
            moves_it (s.address q) (token q) (gained n to q (released n of q spent tokens))
            (subst (λ slot. SlotIs s.address slot (s.frame.cells (at.shape.variables + of))) has (at.has.tokens.are of))
            (by_cell program.pool.cells None (Some (blanked n to null (blanked n of spent tokens)))
            (λ r. Some (gained n to r (released n of r spent tokens))) n of q s.heap tokens pooled has) refl refl
            (cell_moves at.cells n of n to q (gained n to q (released n of q spent tokens)) (pooled.there n of q mark) mark refl refl
            (free to ∙ sym (free of)))

  pub at_move : CodeSteps program (Tokened.move to of rest)
  at_move idle inner frames tokens input s fs left idle_is at fit =
      steps_move idle inner frames tokens input s fs left idle_is at fit
