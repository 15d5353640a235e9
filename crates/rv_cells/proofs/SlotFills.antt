-- The lines of a construction that fills the cell of a slot do the step of the machine with tokens: where the slot is null too.
use Rattle.std.proofs.Common.{◌≡◌, ℕ, suc, ◌+◌, inl, true, List, [], ◌∷◌, ◌++◌, length, refl, sym, ◌∙◌, ap, subst, arith}
use Rattle.kk_syntax.specs.Shapes.{without}
use Rattle.kk_source.specs.State.{Value}
use Rattle.kk_source.specs.Actions.{goes}
use Rattle.kk_counted.specs.Heaps.{fields_held}
use Rattle.kk_counted.specs.Keeping.{values_of}
use Rattle.kk_counted.specs.TokenKeeping.{AreTokens}
use Rattle.kk_counted.specs.TokenMachine.{make_step, filled, bound_to, token_at_stuck}
use Rattle.kk_counted.specs.TokenStates.{TokenJoin, TokenFrame, TokenConfiguration}
use Rattle.kk_counted.specs.TokenedCodes.{Tokened}
use Rattle.kk_counted.specs.Tokens.{spent, null, Tokens, by_token, blanked, released, has_room, request}
use Rattle.kk_counted.proofs.TokenChain.{equal_one, frames_many}
use Rattle.kk_counted.proofs.SlotMarks.{slot_here, slot_there, by_null}
use Rattle.kk_counted.proofs.TokenForms.{Has, is_null, has_cell, unspent_has, spent_null_now}
use Rattle.rv_isa.specs.AsmCode.{Line}
use Rattle.rv_isa.specs.Frames.{Frame}
use Rattle.rv_cells.proofs.Runs.{turn_of, runs_none}
use Rattle.rv_cells.specs.TokenedLines.{header_stands, count_stands}
use Rattle.rv_cells.proofs.Spots.{Spot}
use Rattle.rv_cells.proofs.HeldConstructions.{steps_asking}
use Rattle.rv_cells.proofs.TokenFills.{making, Fill_steps, fill_cheap, fills_token}
use Rattle.rv_cells.proofs.TokenFrames.{all_wait_at}
use Rattle.rv_cells.proofs.TokenLineCosts.{forms}
use Rattle.rv_cells.proofs.TokenContinuations.{token_at, machine_at, behind_one, CodeSteps}
use Rattle.rv_cells.proofs.TokenRelation.{SlotIs, Lowering, target, At, IsFitFrom}
use Rattle.rv_cells.proofs.TokenUniques.{slots_set, another}

-- where its slot is null
fills_null : (program : Lowering) (x y c first : ℕ) (arguments kept_at others : List ℕ) (rest : Tokened) (idle : ℕ)
    (inner : List TokenJoin) (frames : List TokenFrame) (tokens : Tokens) (input : List ℕ) (s : Spot) (fs : List (Frame Line))
    (left : List Line)
    (idle_is : idle ≡ suc (forms rest))
    (at : At program (Tokened.fill x y c first arguments kept_at others rest) inner frames tokens input s fs left)
    (fit : IsFitFrom program (token_at program (Tokened.fill x y c first arguments kept_at others rest) s.environment inner frames
    s.heap tokens input))
    → tokens.slots (length at.lists.older) y ≡ null
    → Fill_steps program x y c first arguments kept_at others rest idle inner frames tokens input s fs left idle_is at fit
fills_null program x y c first arguments kept_at others rest idle inner frames tokens input s fs left idle_is at fit empty =
    let p = at.does.placed in
    let n = length at.lists.older in
    let v = at.shape.variables in
    let code = Tokened.fill x y c first arguments kept_at others rest in
    let from = machine_at program code s.environment inner frames s.heap tokens in
    let asking : Tokens = blanked n y spent tokens in
    let none_holds : at.lists.held ≡ [] = at.judged.spends.0 in
    let vs = values_of s.environment (first ∷ arguments) in
    let puts : Value → TokenConfiguration = λ w. bound_to x w rest s.environment inner from in
    let cheap = fill_cheap program x y c first arguments kept_at others rest idle inner frames tokens input s fs left idle_is at
    fit in
    let t0 = turn_of (p.lines.0 ++ (p.lines.1 ++ p.after)) s.frame fs s.world in
    steps_asking program code x c first arguments kept_at others rest idle inner frames tokens input s fs left idle_is at fit
    (record {
      forms_are = refl;
      quiet = refl;
      own = p.lines.0;
      more = p.lines.1;
      next = p.low + 1;
      behind = behind_one program code inner frames tokens input s fs left at x p.numbered.0 p.lines.4 (p.low + 1) p.lines.3
          (record { way = 0 ∷ []; is_part = inl refl; code_is = refl }) p.marked.1.1 p.numbered.1.1 p.has.1.1 p.keeps.1;
      variable = p.numbered.0;
      holds = p.keeps.0;
      none_held = none_holds;
      unspent = without (y ∷ []) at.lists.unspent;
      lists_after = λ next is. is;
      asking = asking;
      now = spent_null_now program.pool.cells at.lists.unspent at.lists.older frames s.heap tokens
          (record {
            slots_are = at.judged.slots_are;
            waiting = at.judged.waiting;
            are = subst (λ h. AreTokens program.pool.cells s.heap tokens (h ∷ at.lists.older)) none_holds at.judged.are;
          })
          y empty;
      cells = record { are = at.cells.are; apart = at.cells.apart; number = at.cells.number };
      waits = all_wait_at program s.address (length s.heap) tokens.slots asking.slots at.lists.older frames fs at.shape.result
          (equal_one n n y spent tokens.slots (omega arith)) at.waits;
      asked = λ room is.
          ap (λ g. by_token (goes (token_at_stuck from))
          (make_step (request program.pool.cells others g s.heap (blanked g y spent tokens)) c vs puts from)
          (λ r. make_step (has_room (released g y r spent tokens)) c (filled true kept_at (fields_held s.heap r) vs) puts from) g y
          tokens) (frames_many tokens.slots at.lists.older frames at.judged.waiting)
          ∙ by_null program.pool.cells (goes (token_at_stuck from))
          (make_step (request program.pool.cells others n s.heap asking) c vs puts from)
          (λ r. make_step (has_room (released n y r spent tokens)) c (filled true kept_at (fields_held s.heap r) vs) puts from) n y
          tokens empty
          ∙ ap (λ o. make_step o c vs puts from) is;
      apart = at.judged.spends.1.1.0;
      low = p.has.1.0;
      among = λ z is. sym (at.judged.spends.1.1.1.0 z) ∙ is;
      all_are = λ z is. at.judged.spends.1.1.1.0 z ∙ is;
      values = s.frame.cells;
      making = making program x y c first arguments kept_at others rest idle inner frames tokens input s fs left idle_is at fit;
      has_values = at.has.values;
      slots_are = slots_set at.has.tokens y spent p.has.0 (slot_here n y spent tokens.slots) tt
          (λ z differ. slot_there n y n z spent tokens.slots (another n y z differ)) (λ z differ low. refl);
      test = v + y;
      test_is = subst (λ slot. SlotIs s.address slot (s.frame.cells (v + y))) empty (at.has.tokens.are y);
      label = p.low;
      head = header_stands at.shape.standing c;
      count = count_stands at.shape.standing;
      fill = p.lines.0;
      fills = p.lines.2;
      cost = 0;
      steps = 0;
      started = runs_none (target program) t0;
      cheap = omega (arith, cheap);
    })

pub at_fill : (program : Lowering) (x y c first : ℕ) (arguments kept others : List ℕ) (rest : Tokened)
    → CodeSteps program (Tokened.fill x y c first arguments kept others rest)
at_fill program x y c first arguments kept others rest idle inner frames tokens input s fs left idle_is at fit =
    by (unspent_has (tokens.slots (length at.lists.older) y) (at.judged.slots_are y ∙ at.judged.spends.1.0))
  where
    by : Has (tokens.slots (length at.lists.older) y)
        → Fill_steps program x y c first arguments kept others rest idle inner frames tokens input s fs left idle_is at fit
    by (is_null empty) =
        fills_null program x y c first arguments kept others rest idle inner frames tokens input s fs left idle_is at fit empty
    by (has_cell q has) =
        fills_token program x y c first arguments kept others rest idle inner frames tokens input s fs left idle_is at fit q has
