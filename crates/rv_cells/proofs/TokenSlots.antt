-- The lines of the forms on tokens alone: a token is null, freed, or moved.
use Rattle.std.proofs.Common.{inl, ◌≡◌, ◌≢◌, ℕ, suc, ◌+◌, false, List, [], ◌∷◌, ◌++◌, length, Some, None, refl, sym, ◌∙◌, ap, subst, arith}
use Rattle.kk_syntax.specs.Shapes.{is_among, without}
use Rattle.kk_counted.specs.TokenKeeping.{Lists, IsJudged}
use Rattle.kk_counted.specs.TokenStates.{TokenJoin, TokenFrame}
use Rattle.kk_counted.specs.TokenedCodes.{Tokened}
use Rattle.kk_counted.specs.Tokens.{spent, null, token, Mark, token_of, Tokens, is_linked, blanked, released, freed}
use Rattle.kk_counted.proofs.TokenChain.{equal_one, not_linked}
use Rattle.kk_counted.proofs.SlotMarks.{slot_here, slot_there, by_null, by_cell}
use Rattle.kk_counted.proofs.TokenForms.{is_null, has_cell, unspent_has}
use Rattle.rv_isa.specs.declared.asm.Action.TheVariants.{Compute}
use Rattle.rv_isa.specs.declared.asm.Operation.TheVariants as Op
use Rattle.rv_isa.specs.AsmCode.{Line}
use Rattle.rv_isa.specs.Frames.{Frame}
use Rattle.rv_lower.specs.Lines.{sets, acts}
use Rattle.cell_runtime.specs.World.{World, with_cells}
use Rattle.rv_cells.specs.CountedCells.{Owner, nobody, is_aside, with_owner}
use Rattle.rv_cells.proofs.CellActions.{put_in}
use Rattle.rv_cells.proofs.Owners.{chosen_same, chosen_other}
use Rattle.rv_cells.proofs.Spots.{Spot, Here}
use Rattle.rv_cells.proofs.TokenForms.{nulls_token, frees_token, frees_null}
use Rattle.rv_cells.proofs.TokenLineCosts.{forms}
use Rattle.rv_cells.proofs.Words.{hand_owned}
use Rattle.rv_cells.proofs.TokenCells.{cell_goes}
use Rattle.rv_cells.proofs.TokenFrames.{none_behind, slots_put, all_wait_at}
use Rattle.rv_cells.proofs.TokenRelation.{SlotIs, IsTokenCell, token_words, HaveTokenCells, held_values, Lowering, known_of, At, IsFitFrom}
use Rattle.rv_cells.proofs.TokenContents.{stand_set}
use Rattle.rv_cells.proofs.TokenContinuations.{Lands, token_at, machine_at, StepsOn, CodeSteps, kept_quiet, acts_by, tokens_step}
use Rattle.rv_cells.proofs.TokenContinuations.{acts_on_tokens}
use Rattle.rv_cells.proofs.TokenUniques.{slots_set, another}

-- a mark tells its slot
same_slot : {f g y z : ℕ} → token_of f y ≡ token_of g z → y ≡ z
same_slot e = cc e

module _ (program : Lowering) (y : ℕ) (rest : Tokened) where
  pub at_null : CodeSteps program (Tokened.null y rest)
  at_null idle inner frames tokens input s fs left idle_is at fit =
      let p = at.does.placed in
      let v = at.shape.variables in
      let n = length at.lists.older in
      let here : Here (known_of program at.shape) s = record { follows = at.follows; values = at.has.values } in
      let after : Tokens = blanked n y null tokens in
      let step = tokens_step program (Tokened.null y rest) inner frames tokens input s fs left at rest
      (λ f. Some (blanked f y null tokens)) after refl in
      let kept = kept_quiet program (Tokened.null y rest) inner frames tokens input s fs left at
      (machine_at program rest s.environment inner frames s.heap after) step refl in
      let nothing = at.judged.spends.0 in
      acts_on_tokens program (Tokened.null y rest) inner frames tokens input s fs left at idle idle_is fit rest (sets 0 (v + y))
      p.lines.0
      (acts_by program (Tokened.null y rest) inner frames tokens input s fs left at rest (sets 0 (v + y)) p.lines refl refl
      (record { way = []; is_part = inl refl; code_is = refl }) p.has.1 p.keeps) (put_in (v + y) 0 s.frame) s.owners s.world after
      (record at.lists { unspent = y ∷ at.lists.unspent }) 4
      (nulls_token (known_of program at.shape) (p.lines.0 ++ p.after) fs s here (v + y) (none_behind s.bound v y at.has.below))
      (record {
        judged = subst (λ (l : Lists). IsJudged program.pool.cells l.left l.unspent l.held l.older rest inner frames s.heap after)
            kept.1.0 kept.1.1;
        cells = record { are = at.cells.are; apart = at.cells.apart; number = at.cells.number };
        stand = stand_set program.layout at.shape.standing s.address s.owners s.owners (tokens.slots n) (after.slots n) y
            (λ q has. let both : null ≡ token q = sym (slot_here n y null tokens.slots) ∙ has in cc both)
            (λ z differ. slot_there n y n z null tokens.slots (another n y z differ)) (λ z q differ has. refl) at.stand;
        slots_are = slots_put at.has.tokens y 0 null p.has.0 (slot_here n y null tokens.slots) refl
            (λ z differ. slot_there n y n z null tokens.slots (another n y z differ));
        held_is = at.has.held_is ∙ ap (held_values (tokens.slots n) v) nothing
            ∙ sym (ap (held_values (after.slots n) v) nothing);
        waits = all_wait_at program s.address (length s.heap) tokens.slots after.slots at.lists.older frames fs at.shape.result
            (equal_one n n y null tokens.slots (omega arith)) at.waits;
      })
      (omega arith) step

  module _ (idle : ℕ) (inner : List TokenJoin) (frames : List TokenFrame) (tokens : Tokens) (input : List ℕ) (s : Spot)
      (fs : List (Frame Line)) (left : List Line) (idle_is : idle ≡ suc (forms rest))
      (at : At program (Tokened.free y rest) inner frames tokens input s fs left)
      (fit : IsFitFrom program (token_at program (Tokened.free y rest) s.environment inner frames s.heap tokens input)) where
    abbrev frees : Line
    frees = acts (Compute Op.Free) ((at.shape.variables + y) ∷ [])

    -- the slot is spent, where names have these marks then, and cells these owners
    frees_it : (marks : ℕ → Mark) (owners : ℕ → Owner) (world : World)
        → freed (length at.lists.older) y tokens ≡ Some (record (blanked (length at.lists.older) y spent tokens) { marks = marks })
        → Lands (known_of program at.shape) 7 (frees ∷ []) (at.does.placed.lines.0 ++ at.does.placed.after) fs fs s
        (record s { owners = owners; world = world })
        → HaveTokenCells program.pool program.layout s.address owners s.heap
        (record (blanked (length at.lists.older) y spent tokens) { marks = marks })
        → ((z r : ℕ) → z ≢ y → tokens.slots (length at.lists.older) z ≡ token r
        → owners (s.address r) ≡ s.owners (s.address r))
        → StepsOn program idle (Tokened.free y rest) inner frames tokens input s fs left
    frees_it marks owners world freed_is lands cells_are owners_stay =
        let p = at.does.placed in
        let v = at.shape.variables in
        let n = length at.lists.older in
        let after : Tokens = record (blanked n y spent tokens) { marks = marks } in
        let step = tokens_step program (Tokened.free y rest) inner frames tokens input s fs left at rest
        (λ f. freed f y tokens) after
        freed_is in
        let kept = kept_quiet program (Tokened.free y rest) inner frames tokens input s fs left at
        (machine_at program rest s.environment inner frames s.heap after) step refl in
        let nothing = at.judged.spends.0 in
        acts_on_tokens program (Tokened.free y rest) inner frames tokens input s fs left at idle idle_is fit rest frees p.lines.0
        (acts_by program (Tokened.free y rest) inner frames tokens input s fs left at rest frees p.lines refl refl
        (record { way = []; is_part = inl refl; code_is = refl }) p.has.1 p.keeps) s.frame owners world after
        (record at.lists { unspent = without (y ∷ []) at.lists.unspent }) 7 lands
        (record {
          judged = subst (λ (l : Lists). IsJudged program.pool.cells l.left l.unspent l.held l.older rest inner frames s.heap after)
              kept.1.0 kept.1.1;
          cells = cells_are;
          stand = stand_set program.layout at.shape.standing s.address s.owners owners (tokens.slots n) (after.slots n) y
              (λ q has. let both : spent ≡ token q = sym (slot_here n y spent tokens.slots) ∙ has in cc both)
              (λ z differ. slot_there n y n z spent tokens.slots (another n y z differ)) owners_stay at.stand;
          slots_are = slots_set at.has.tokens y spent p.has.0 (slot_here n y spent tokens.slots) tt
              (λ z differ. slot_there n y n z spent tokens.slots (another n y z differ)) (λ z differ low. refl);
          held_is = at.has.held_is ∙ ap (held_values (tokens.slots n) v) nothing
              ∙ sym (ap (held_values (after.slots n) v) nothing);
          waits = all_wait_at program s.address (length s.heap) tokens.slots after.slots at.lists.older frames fs at.shape.result
              (equal_one n n y spent tokens.slots (omega arith)) at.waits;
        })
        (omega arith) step

    frees_nothing : tokens.slots (length at.lists.older) y ≡ null
        → StepsOn program idle (Tokened.free y rest) inner frames tokens input s fs left
    frees_nothing empty =
        let p = at.does.placed in
        let v = at.shape.variables in
        let n = length at.lists.older in
        frees_it tokens.marks s.owners s.world
        (by_null program.pool.cells None (Some (blanked n y spent tokens)) (λ q. Some
        (released n y q spent tokens)) n y tokens empty)
        (frees_null (known_of program at.shape) (p.lines.0 ++ p.after) fs s
        (record { follows = at.follows; values = at.has.values }) (v + y)
        (subst (λ slot. SlotIs s.address slot (s.frame.cells (v + y))) empty (at.has.tokens.are y)))
        (record { are = at.cells.are; apart = at.cells.apart; number = at.cells.number }) (λ z r differ is. refl)

    frees_cell : (q : ℕ) → tokens.slots (length at.lists.older) y ≡ token q
        → StepsOn program idle (Tokened.free y rest) inner frames tokens input s fs left
    frees_cell q has =
        let p = at.does.placed in
        let v = at.shape.variables in
        let n = length at.lists.older in
        let pooled = at.judged.are.pooled in
        let here : Here (known_of program at.shape) s = record { follows = at.follows; values = at.has.values } in
        let after : Tokens = released n y q spent tokens in
        let value : s.frame.cells (v + y) ≡ Some (s.address q) = subst (λ slot. SlotIs s.address slot (s.frame.cells (v + y))) has
        (at.has.tokens.are y) in
        let mark = pooled.marks n y q has in
        let free : is_linked n y tokens.chain ≡ false = ap (is_linked n y) at.judged.are.chain
        ∙ not_linked tokens.slots at.lists.held at.lists.older y (ap (λ (ys : List ℕ). is_among ys y) at.judged.spends.0) in
        let ws = token_words program.layout s.address s.heap q in
        let hand = subst (λ b. IsTokenCell b ws (s.owners (s.address q))) free (at.cells.are n y q mark) in
        let done = frees_token (known_of program at.shape) (p.lines.0 ++ p.after) fs s here (v + y)
        (s.address q) hand.0 value hand.1
        program.some in
        let owners = with_owner (s.address q) nobody s.owners in
        frees_it after.marks owners (with_cells s.world done.0)
        (by_cell program.pool.cells None (Some (blanked n y spent tokens)) (λ r. Some (released n y r spent tokens)) n y q s.heap
        tokens pooled has)
        done.1
        (cell_goes at.cells program.aligned n y q s.address owners s.heap after
        (hand_owned at.follows (s.address q) hand.0 hand.1).0 (pooled.there n y q mark) mark refl
        (λ g z r differ is. refl) (λ g z r is. refl) (λ g z r differ is. refl)
        (λ one linked list differ is. subst (IsTokenCell linked list)
        (sym (chosen_other one (s.address q) nobody s.owners differ)) is)
        (ap is_aside (chosen_same (s.address q) (s.address q) nobody s.owners refl))
        (λ one differ. ap is_aside (chosen_other one (s.address q) nobody s.owners differ)) refl)
        (λ z r differ is. chosen_other (s.address r) (s.address q) nobody s.owners
        (λ e. differ (same_slot (sym (pooled.marks n z r is)
        ∙ ap tokens.marks (at.cells.apart n z r n y q (pooled.marks n z r is) mark e) ∙ mark))))

    frees_either : StepsOn program idle (Tokened.free y rest) inner frames tokens input s fs left
    frees_either =
        elim (unspent_has (tokens.slots (length at.lists.older) y) (at.judged.slots_are y ∙ at.judged.spends.1.0)) [
          | is_null empty ↦ frees_nothing empty
          | has_cell q has ↦ frees_cell q has
        ]

  pub at_free : CodeSteps program (Tokened.free y rest)
  at_free idle inner frames tokens input s fs left idle_is at fit =
      frees_either idle inner frames tokens input s fs left idle_is at fit
