-- The lines that hold a token and that take it back do the steps of the machine with tokens.
use Rattle.std.proofs.Common.{inl, ◌≡◌, ℕ, ◌+◌, ◌==◌, Bool, true, false, List, [], ◌∷◌, ◌++◌, length, Some, None, refl, sym, ◌∙◌, ap, subst, arith, eqb-true}
use Rattle.std.specs.Prelude.{if◌then◌else◌, ◌||◌}
use Rattle.kk_syntax.specs.Shapes.{is_among}
use Rattle.kk_counted.specs.TokenKeeping.{chain_of, Lists, IsJudged}
use Rattle.kk_counted.specs.TokenStates.{TokenJoin, TokenFrame}
use Rattle.kk_counted.specs.TokenedCodes.{Tokened}
use Rattle.kk_counted.specs.Tokens.{Slot, null, token, is_token, Link, Tokens, is_linked, hold_link, unlinked, with_chain, unheld, held as holds_slot}
use Rattle.kk_counted.proofs.TokenChain.{not_linked}
use Rattle.kk_counted.proofs.SlotMarks.{by_null, by_cell}
use Rattle.kk_counted.proofs.TokenForms.{is_null, has_cell, unspent_has}
use Rattle.rv_isa.specs.AsmCode.{Line}
use Rattle.rv_isa.specs.Frames.{Frame, is_among as is_out}
use Rattle.cell_heap.specs.Blocks.{past_links}
use Rattle.kk_counted.specs.Spending.{AreApart}
use Rattle.kk_counted.specs.TokenCosts.{quiet_cost}
use Rattle.cell_runtime.specs.World.{with_cells}
use Rattle.rv_cells.specs.CellLines.{hold_line, back_line}
use Rattle.rv_cells.specs.CountedCells.{in_hand, kept_aside, with_owner}
use Rattle.rv_cells.proofs.Counts.{put_aside, taken_back}
use Rattle.rv_cells.proofs.Words.{hand_owned, aside_owned}
use Rattle.rv_cells.proofs.HeldTokens.{put_itself, holding_now, hold_runs, hold_null_runs, unhold_runs, unhold_null_runs}
use Rattle.rv_cells.proofs.Spots.{Spot}
use Rattle.rv_cells.proofs.TokenCells.{cell_turns}
use Rattle.rv_cells.proofs.TokenFields.{past_from}
use Rattle.rv_cells.proofs.TokenRelation.{SlotIs, IsTokenCell, token_words, HaveSlotValues, held_values, Lowering, AllWait, target, At}
use Rattle.rv_cells.proofs.TokenContents.{nothing_stands}
use Rattle.rv_cells.proofs.TokenContinuations.{machine_at, StepsOn, CodeSteps, kept_quiet, ActsOnTokens, acts_by, tokens_step, acts_on_tokens}

-- a slot that is not among the held ones has a value that is not held
held_out : (slots : ℕ → Slot) (variables y : ℕ) (ys : List ℕ) → is_among ys y ≡ false
    → is_out (variables + y) (held_values slots variables ys) ≡ false
held_out slots variables y [] none = refl
held_out slots variables y (z ∷ zs) none =
    by (z == y) refl none (is_token (slots z)) (held_out slots variables y zs)
  where
    by : (same : Bool) → (z == y) ≡ same → (same || is_among zs y) ≡ false → (b : Bool)
        → (is_among zs y ≡ false → is_out (variables + y) (held_values slots variables zs) ≡ false)
        → is_out (variables + y) (if b then (variables + z) ∷ held_values slots variables zs else held_values slots variables zs) ≡ false
    by true test among b later = cc
    by false test among false later = later among
    by false test among true later =
        let apart : (variables + z == variables + y) ≡ false = grind arith in
        rw apart (later among)

linked_here : (n y : ℕ) (chain : List Link) → is_linked n y (record { frame = n; slot = y } ∷ chain) ≡ true
linked_here n y chain =
    let first : (n == n) ≡ true = grind arith in
    let second : (y == y) ≡ true = grind arith in
    rw first (rw second refl)

linked_other : (n y g z : ℕ) (chain : List Link) → (n ≡ g → y ≡ z → ⊥)
    → is_linked g z (record { frame = n; slot = y } ∷ chain) ≡ is_linked g z chain
linked_other n y g z chain apart = by (n == g) refl (y == z) refl
  where
    by : (b : Bool) → (n == g) ≡ b → (c : Bool) → (y == z) ≡ c
        → is_linked g z (record { frame = n; slot = y } ∷ chain) ≡ is_linked g z chain
    by true first true second = absurd (apart (eqb-true n g first) (eqb-true y z second))
    by true first false second = rw first (rw second refl)
    by false first c second = rw first refl

unlinked_here : (n y : ℕ) (links : List Link) → unlinked n y (record { frame = n; slot = y } ∷ links) ≡ Some links
unlinked_here n y links =
    let first : (n == n) ≡ true = grind arith in
    let second : (y == y) ≡ true = grind arith in
    rw first (rw second refl)

rest_of : {a b : ℕ} {xs ys : List ℕ} → a ∷ xs ≡ b ∷ ys → xs ≡ ys
rest_of e = cc

cell_same : {a b : ℕ} → token a ≡ token b → a ≡ b
cell_same e = cc

module _ (program : Lowering) (y : ℕ) (rest : Tokened) where
  hold_acts : (inner : List TokenJoin) (frames : List TokenFrame) (tokens : Tokens) (input : List ℕ) (s : Spot)
      (fs : List (Frame Line)) (left : List Line) (at : At program (Tokened.hold y rest) inner frames tokens input s fs left)
      → ActsOnTokens program (Tokened.hold y rest) inner frames tokens input s fs left at rest
      (hold_line (at.shape.variables + y)) at.does.placed.lines.0
  hold_acts inner frames tokens input s fs left at =
      acts_by program (Tokened.hold y rest) inner frames tokens input s fs left at rest
      (hold_line (at.shape.variables + y)) at.does.placed.lines refl refl
      (record { way = []; is_part = inl refl; code_is = refl }) at.does.placed.has.1 at.does.placed.keeps.1

  pub at_hold : CodeSteps program (Tokened.hold y rest)
  at_hold idle inner frames tokens input s fs left idle_is at fit =
      elim (unspent_has (tokens.slots (length at.lists.older) y) (at.judged.slots_are y ∙ at.judged.spends.0)) [
        | is_null empty ↦ holds_null empty
        | has_cell q has ↦ holds_cell q has
      ]
    where
      holds_null : tokens.slots (length at.lists.older) y ≡ null
          → StepsOn program idle (Tokened.hold y rest) inner frames tokens input s fs left
      holds_null empty =
          let p = at.does.placed in
          let v = at.shape.variables in
          let n = length at.lists.older in
          let slots = tokens.slots (length at.lists.older) in
          let line = hold_line (v + y) in
          let out : is_out (v + y) s.frame.held ≡ false = ap (is_out (v + y)) at.has.held_is
          ∙ held_out slots v y at.lists.held at.judged.spends.1.0 in
          let value : s.frame.cells (v + y) ≡ Some 0 = subst (λ slot. SlotIs s.address slot (s.frame.cells (v + y))) empty
          (at.has.tokens.are y) in
          let step = tokens_step program (Tokened.hold y rest) inner frames tokens input s fs left at rest
          (λ f. holds_slot f y tokens) tokens
          (by_null program.pool.cells None (Some tokens) (λ q. hold_link n y tokens) n y tokens empty) in
          let kept = kept_quiet program (Tokened.hold y rest) inner frames tokens input s fs left at
          (machine_at program rest s.environment inner frames s.heap tokens) step refl in
          acts_on_tokens program (Tokened.hold y rest) inner frames tokens input s fs left at idle idle_is fit rest line
          p.lines.0 (hold_acts inner frames tokens input s fs left at) s.frame s.owners s.world tokens
          (record at.lists { held = y ∷ at.lists.held }) quiet_cost
          (record {
            cost = 11;
            steps = 1;
            within = omega arith;
            runs = hold_null_runs (target program) (p.lines.0 ++ p.after) s.frame fs s.world (v + y) value out;
            here = record { follows = at.follows; values = at.has.values };
            left = refl;
            whole = refl;
            function = refl;
          })
          (record {
            judged = subst (λ (l : Lists). IsJudged program.pool.cells l.left l.unspent l.held l.older rest inner frames s.heap tokens)
                kept.1.0 kept.1.1;
            cells = at.cells;
            stand = nothing_stands program.layout at.shape.standing s.address s.owners (tokens.slots n) p.keeps.0;
            slots_are = at.has.tokens;
            held_is = at.has.held_is
                ∙ sym (ap (λ slot. if is_token slot then (v + y) ∷ held_values slots v at.lists.held else
                held_values slots v at.lists.held) empty);
            waits = at.waits;
          })
          (omega arith) step

      holds_cell : (q : ℕ) → tokens.slots (length at.lists.older) y ≡ token q
          → StepsOn program idle (Tokened.hold y rest) inner frames tokens input s fs left
      holds_cell q has =
          let p = at.does.placed in
          let v = at.shape.variables in
          let n = length at.lists.older in
          let slots = tokens.slots (length at.lists.older) in
          let pooled = at.judged.are.pooled in
          let line = hold_line (v + y) in
          let out : is_out (v + y) s.frame.held ≡ false = ap (is_out (v + y)) at.has.held_is
          ∙ held_out slots v y at.lists.held at.judged.spends.1.0 in
          let value : s.frame.cells (v + y) ≡ Some (s.address q) = subst (λ slot. SlotIs s.address slot (s.frame.cells (v + y))) has
          (at.has.tokens.are y) in
          let links : List Link = record { frame = n; slot = y } ∷ tokens.chain in
          let after : Tokens = record tokens { chain = links } in
          let free : is_linked n y tokens.chain ≡ false = ap (is_linked n y) at.judged.are.chain
          ∙ not_linked tokens.slots at.lists.held at.lists.older y at.judged.spends.1.0 in
          let step = tokens_step program (Tokened.hold y rest) inner frames tokens input s fs left at rest
          (λ f. holds_slot f y tokens) after
          (by_cell program.pool.cells None (Some tokens) (λ r. hold_link n y tokens) n y q s.heap tokens pooled has
          ∙ ap (λ b. if b then None else Some after) free) in
          let kept = kept_quiet program (Tokened.hold y rest) inner frames tokens input s fs left at
          (machine_at program rest s.environment inner frames s.heap after) step refl in
          let mark = pooled.marks n y q has in
          let ws = token_words program.layout s.address s.heap q in
          let hand = subst (λ b. IsTokenCell b ws (s.owners (s.address q))) free (at.cells.are n y q mark) in
          let cell = (hand_owned at.follows (s.address q) hand.0 hand.1).0 in
          let behind = cell.behind in
          let some = program.some in
          let put = put_aside at.follows (s.address q) hand.0 hand.1 in
          let to : Spot = record s {
            owners = with_owner (s.address q) (kept_aside hand.0) s.owners;
            frame = holding_now ((v + y) ∷ s.frame.held) s.frame;
            world = with_cells s.world put.now;
          } in
          acts_on_tokens program (Tokened.hold y rest) inner frames tokens input s fs left at idle idle_is fit rest line
          p.lines.0 (hold_acts inner frames tokens input s fs left at) to.frame to.owners to.world after
          (record at.lists { held = y ∷ at.lists.held }) quiet_cost
          (record {
            cost = 11;
            steps = 1;
            within = omega arith;
            runs = hold_runs (target program) (p.lines.0 ++ p.after) s.frame fs s.world (v + y) (s.address q) put.now value
                (λ e. omega arith) out put.is;
            here = record { follows = put.holds; values = at.has.values };
            left = refl;
            whole = refl;
            function = refl;
          })
          (record {
            judged = subst (λ (l : Lists). IsJudged program.pool.cells l.left l.unspent l.held l.older rest inner frames s.heap after)
                kept.1.0 kept.1.1;
            stand = nothing_stands program.layout at.shape.standing s.address to.owners (after.slots n) p.keeps.0;
            cells = cell_turns at.cells program.aligned n y q (kept_aside hand.0) links cell mark
                (subst (λ b. IsTokenCell b ws (kept_aside hand.0)) (sym (linked_here n y tokens.chain)) (hand.0, refl, hand.2))
                (λ g z r differ is. linked_other n y g z tokens.chain (λ e e2. differ (cell_same (sym (pooled.slots g z r is)
                ∙ sym (ap (λ h. tokens.slots h z) e) ∙ sym (ap (tokens.slots n) e2) ∙ has))));
            slots_are = at.has.tokens;
            held_is = ap (λ h. (v + y) ∷ h) at.has.held_is
                ∙ sym (ap (λ slot. if is_token slot then (v + y) ∷ held_values slots v at.lists.held else
                held_values slots v at.lists.held) has);
            waits = at.waits;
          })
          (omega arith) step

  unhold_acts : (inner : List TokenJoin) (frames : List TokenFrame) (tokens : Tokens) (input : List ℕ) (s : Spot)
      (fs : List (Frame Line)) (left : List Line) (at : At program (Tokened.unhold y rest) inner frames tokens input s fs left)
      → ActsOnTokens program (Tokened.unhold y rest) inner frames tokens input s fs left at rest
      (back_line (at.shape.variables + y)) at.does.placed.lines.0
  unhold_acts inner frames tokens input s fs left at =
      acts_by program (Tokened.unhold y rest) inner frames tokens input s fs left at rest
      (back_line (at.shape.variables + y)) at.does.placed.lines refl refl
      (record { way = []; is_part = inl refl; code_is = refl }) at.does.placed.has.1 at.does.placed.keeps.1

  pub at_unhold : CodeSteps program (Tokened.unhold y rest)
  at_unhold idle inner frames tokens input s fs left idle_is at fit =
      elim (unspent_has (tokens.slots (length at.lists.older) y) (at.judged.slots_are y ∙ at.judged.spends.1.1.0)) [
        | is_null empty ↦ unholds_null empty
        | has_cell q has ↦ unholds_cell q has
      ]
    where
      lists_held : (a b : Lists) → a ≡ record b { held = y ∷ b.held } → (a.held ≡ y ∷ b.held) × (a.older ≡ b.older)
      lists_held a b e = (ap (λ (l : Lists). l.held) e, ap (λ (l : Lists). l.older) e)

      unholds_null : tokens.slots (length at.lists.older) y ≡ null
          → StepsOn program idle (Tokened.unhold y rest) inner frames tokens input s fs left
      unholds_null empty =
          let p = at.does.placed in
          let v = at.shape.variables in
          let n = length at.lists.older in
          let slots = tokens.slots (length at.lists.older) in
          let line = back_line (v + y) in
          let step = tokens_step program (Tokened.unhold y rest) inner frames tokens input s fs left at rest
          (λ f. unheld f y tokens) tokens
          (by_null program.pool.cells None (Some tokens) (λ q. with_chain tokens (unlinked n y tokens.chain)) n y tokens empty) in
          let kept = kept_quiet program (Tokened.unhold y rest) inner frames tokens input s fs left at
          (machine_at program rest s.environment inner frames s.heap tokens) step refl in
          let next = kept.0 in
          let parts = lists_held at.lists next kept.1.0 in
          let fresh : is_among next.held y ≡ false = (subst AreApart parts.0 at.judged.apart).0 in
          let left_held : held_values slots v at.lists.held ≡ held_values slots v next.held = ap (held_values slots v) parts.0
          ∙ ap (λ slot. if is_token slot then (v + y) ∷ held_values slots v next.held else held_values slots v next.held) empty in
          let out : is_out (v + y) s.frame.held ≡ false = ap (is_out (v + y)) (at.has.held_is ∙ left_held)
          ∙ held_out slots v y next.held fresh in
          let value : s.frame.cells (v + y) ≡ Some 0 = subst (λ slot. SlotIs s.address slot (s.frame.cells (v + y))) empty
          (at.has.tokens.are y) in
          acts_on_tokens program (Tokened.unhold y rest) inner frames tokens input s fs left at idle idle_is fit rest line
          p.lines.0 (unhold_acts inner frames tokens input s fs left at) s.frame s.owners s.world tokens next quiet_cost
          (record {
            cost = 9;
            steps = 1;
            within = omega arith;
            runs = unhold_null_runs (target program) (p.lines.0 ++ p.after) s.frame fs s.world (Some (v + y)) (v + y) value
                (put_itself (v + y) 0 s.frame.cells value) out;
            here = record { follows = at.follows; values = at.has.values };
            left = refl;
            whole = refl;
            function = refl;
          })
          (record {
            judged = kept.1.1;
            cells = at.cells;
            stand = nothing_stands program.layout at.shape.standing s.address s.owners (tokens.slots (length next.older)) p.keeps.0;
            slots_are = subst (λ (o : List (List ℕ)). HaveSlotValues s.address (tokens.slots (length o)) v at.shape.slots s.frame.cells)
                parts.1 at.has.tokens;
            held_is = subst (λ (o : List (List ℕ)). s.frame.held ≡ held_values (tokens.slots (length o)) v next.held) parts.1
                (at.has.held_is ∙ left_held);
            waits = subst (λ o. AllWait program s.address (length s.heap) tokens.slots o frames fs at.shape.result) parts.1 at.waits;
          })
          (omega arith) step

      unholds_cell : (q : ℕ) → tokens.slots (length at.lists.older) y ≡ token q
          → StepsOn program idle (Tokened.unhold y rest) inner frames tokens input s fs left
      unholds_cell q has =
          let p = at.does.placed in
          let v = at.shape.variables in
          let n = length at.lists.older in
          let slots = tokens.slots (length at.lists.older) in
          let pooled = at.judged.are.pooled in
          let line = back_line (v + y) in
          let older_held = at.judged.spends.0 in
          let held_eq : at.lists.held ≡ y ∷ older_held = at.judged.spends.1.0 in
          let fresh : is_among older_held y ≡ false = (subst AreApart held_eq at.judged.apart).0 in
          let links : List Link = chain_of tokens.slots (older_held ∷ at.lists.older) in
          let after : Tokens = record tokens { chain = links } in
          let chain_is : tokens.chain ≡ record { frame = n; slot = y } ∷ links
          = at.judged.are.chain ∙ ap (λ h. chain_of tokens.slots (h ∷ at.lists.older)) held_eq
          ∙ ap (λ slot. if is_token slot then record { frame = n; slot = y } ∷ links else links) has in
          let top_is : with_chain tokens (unlinked n y tokens.chain) ≡ Some after
          = ap (λ ls. with_chain tokens (unlinked n y ls)) chain_is ∙ ap (with_chain tokens) (unlinked_here n y links) in
          let step = tokens_step program (Tokened.unhold y rest) inner frames tokens input s fs left at rest
          (λ f. unheld f y tokens) after
          (by_cell program.pool.cells None (Some tokens) (λ r. with_chain tokens (unlinked n y tokens.chain)) n y q s.heap tokens
          pooled has ∙ top_is) in
          let kept = kept_quiet program (Tokened.unhold y rest) inner frames tokens input s fs left at
          (machine_at program rest s.environment inner frames s.heap after) step refl in
          let next = kept.0 in
          let parts = lists_held at.lists next kept.1.0 in
          let same_held : older_held ≡ next.held = rest_of (sym held_eq ∙ parts.0) in
          let held_now : s.frame.held ≡ (v + y) ∷ held_values slots v older_held = at.has.held_is
          ∙ ap (held_values slots v) held_eq
          ∙ ap (λ slot. if is_token slot then (v + y) ∷ held_values slots v older_held else held_values slots v older_held) has in
          let value : s.frame.cells (v + y) ≡ Some (s.address q) = subst (λ slot. SlotIs s.address slot (s.frame.cells (v + y))) has
          (at.has.tokens.are y) in
          let mark = pooled.marks n y q has in
          let linked : is_linked n y tokens.chain ≡ true = ap (is_linked n y) chain_is ∙ linked_here n y links in
          let ws = token_words program.layout s.address s.heap q in
          let aside = subst (λ b. IsTokenCell b ws (s.owners (s.address q))) linked (at.cells.are n y q mark) in
          let cell = (aside_owned at.follows (s.address q) aside.0 aside.1).0 in
          let behind = cell.behind in
          let some = program.some in
          let back = taken_back at.follows (s.address q) aside.0 aside.1 in
          let owner = in_hand (past_links aside.0) in
          let to : Spot = record s {
            owners = with_owner (s.address q) owner s.owners;
            frame = holding_now (held_values slots v older_held) s.frame;
            world = with_cells s.world back.now;
          } in
          acts_on_tokens program (Tokened.unhold y rest) inner frames tokens input s fs left at idle idle_is fit rest line
          p.lines.0 (unhold_acts inner frames tokens input s fs left at) to.frame to.owners to.world after next quiet_cost
          (record {
            cost = 9;
            steps = 1;
            within = omega arith;
            runs = unhold_runs (target program) (p.lines.0 ++ p.after) s.frame fs s.world (Some (v + y)) (v + y) (s.address q)
                (held_values slots v older_held) back.now value (put_itself (v + y) (s.address q) s.frame.cells value)
                (λ e. omega arith) held_now back.is;
            here = record { follows = back.holds; values = at.has.values };
            left = refl;
            whole = refl;
            function = refl;
          })
          (record {
            judged = kept.1.1;
            stand = nothing_stands program.layout at.shape.standing s.address to.owners (after.slots (length next.older)) p.keeps.0;
            cells = cell_turns at.cells program.aligned n y q owner links cell mark
                (subst (λ b. IsTokenCell b ws owner) (sym (not_linked tokens.slots older_held at.lists.older y fresh))
                (past_links aside.0, refl, past_from aside.0 2 ws (omega arith) aside.2))
                (λ g z r differ is. sym (ap (is_linked g z) chain_is ∙ linked_other n y g z links
                (λ e e2. differ (cell_same (sym (pooled.slots g z r is)
                ∙ sym (ap (λ h. tokens.slots h z) e) ∙ sym (ap (tokens.slots n) e2) ∙ has)))));
            slots_are = subst (λ (o : List (List ℕ)). HaveSlotValues s.address (tokens.slots (length o)) v at.shape.slots s.frame.cells)
                parts.1 at.has.tokens;
            held_is = subst (λ (o : List (List ℕ)). held_values slots v older_held ≡ held_values (tokens.slots (length o)) v next.held)
                parts.1 (ap (held_values slots v) same_held);
            waits = subst (λ o. AllWait program s.address (length s.heap) tokens.slots o frames fs at.shape.result) parts.1 at.waits;
          })
          (omega arith) step
