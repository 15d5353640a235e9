-- The lines of a construction with fields do the step of the machine with tokens, also where it names the tokens of its function.
use Rattle.std.proofs.Common.{◌≡◌, ℕ, ◌+◌, inl, List, [], ◌∷◌, ◌++◌, length, Some, refl, sym, ◌∙◌}
use Rattle.std.proofs.Common.{false, ap, subst, arith}
use Rattle.std.proofs.lemmas.List.{length-map}
use Rattle.kk_syntax.specs.declared.program.Form.TheVariants.{Construct}
use Rattle.kk_source.specs.State.{Value}
use Rattle.kk_counted.specs.Keeping.{values_of}
use Rattle.kk_counted.specs.TokenKeeping.{AreTokens}
use Rattle.kk_counted.specs.TokenMachine.{make_step, bound_to}
use Rattle.kk_counted.specs.TokenStates.{TokenConfiguration}
use Rattle.kk_counted.specs.TokenedCodes.{Tokened}
use Rattle.kk_counted.specs.Tokens.{request}
use Rattle.kk_counted.proofs.TokenChain.{frames_many}
use Rattle.rv_isa.specs.AsmCode.{Line}
use Rattle.rv_isa.specs.Frames.{put}
use Rattle.rv_lower.proofs.FormEffects.{put_same, put_other}
use Rattle.rv_cells.specs.TokenedLines.{values_of_slots}
use Rattle.rv_cells.proofs.CellActions.{put_in, sets_runs}
use Rattle.rv_cells.proofs.BoundVariables.{all_among, not_bound}
use Rattle.rv_cells.proofs.LineCosts.{most_moves}
use Rattle.rv_cells.proofs.Runs.{turn_of, Runs}
use Rattle.rv_cells.proofs.Values.{has_other}
use Rattle.rv_cells.proofs.HeldConstructions.{steps_asking}
use Rattle.rv_cells.proofs.PlainConstructions.{making_of, at_construct}
use Rattle.rv_cells.proofs.TokenFrames.{slots_moved}
use Rattle.rv_cells.proofs.TokenContinuations.{machine_at, behind_one, CodeSteps}
use Rattle.rv_cells.proofs.TokenRelation.{Lowering, target}
use Rattle.rv_cells.proofs.TokenUniques.{row_times}

-- Its variable is null where it asks: so the word that is tested is 0.
at_asked : (program : Lowering) (x c a : ℕ) (more : List ℕ) (other : ℕ) (others : List ℕ) (rest : Tokened)
    → CodeSteps program (Tokened.compute x (Construct c) (a ∷ more) (other ∷ others) rest)
at_asked program x c a more other others rest idle inner frames tokens input s fs left idle_is at fit =
    let p = at.does.placed in
    let n = length at.lists.older in
    let v = at.shape.variables in
    let named = other ∷ others in
    let code = Tokened.compute x (Construct c) (a ∷ more) named rest in
    let from = machine_at program code s.environment inner frames s.heap tokens in
    let zs = values_of_slots v named in
    let none_holds : at.lists.held ≡ [] = at.judged.spends.0.0 in
    let puts : Value → TokenConfiguration = λ w. bound_to x w rest s.environment inner from in
    let all = all_among (a ∷ more) s.bound p.marked.0 in
    let below = p.numbered.0 in
    let values : ℕ → _ = put x (Some 0) s.frame.cells in
    let after : List Line = p.lines.1 ++ p.after in
    let ask = p.lines.4 in
    let row = row_times more (most_moves + 2) in
    let held = row_times zs (most_moves + 9) in
    let back = row_times zs (most_moves + 7) in
    let long = length-map named (λ z. v + z) in
    let asked_turn = turn_of (ask.0 ++ after) (put_in x 0 s.frame) fs s.world in
    steps_asking program code x c a more [] named rest idle inner frames tokens input s fs left idle_is at fit
    (record {
      forms_are = refl;
      quiet = refl;
      own = p.lines.0;
      more = p.lines.1;
      next = p.lines.2;
      behind = behind_one program code inner frames tokens input s fs left at x p.numbered.0 p.lines.7 p.lines.2 p.lines.5
          (record { way = 0 ∷ []; is_part = inl refl; code_is = refl }) p.marked.1.1 p.numbered.1.1 p.has.1 p.keeps.1.1;
      variable = p.numbered.0;
      holds = p.keeps.1.0;
      none_held = none_holds;
      unspent = at.lists.unspent;
      lists_after = λ next is. is;
      asking = tokens;
      now = record {
        slots_are = at.judged.slots_are;
        waiting = at.judged.waiting;
        are = subst (λ h. AreTokens program.pool.cells s.heap tokens (h ∷ at.lists.older)) none_holds at.judged.are;
      };
      cells = at.cells;
      waits = at.waits;
      asked = λ room is.
          ap (λ g. make_step (request program.pool.cells named g s.heap tokens) c (values_of s.environment (a ∷ more)) puts from)
          (frames_many tokens.slots at.lists.older frames at.judged.waiting)
          ∙ ap (λ o. make_step o c (values_of s.environment (a ∷ more)) puts from) is;
      apart = at.judged.spends.0.1.0;
      low = p.has.0;
      among = λ z is. sym (at.judged.spends.0.1.1 z) ∙ is;
      all_are = λ z is. at.judged.spends.0.1.1 z ∙ is;
      values = values;
      making = making_of program x c a more named rest inner frames tokens input s fs left at (put_in x 0 s.frame)
          (fit 0).bare.sound.older;
      has_values = has_other at.has.values x 0 (not_bound x s.bound p.numbered.1.0);
      slots_are = slots_moved at.has.tokens (λ z q is. refl)
          (λ z few unspent. put_other x (v + z) 0 s.frame.cells (λ e. omega (arith, e, below)));
      test = x;
      test_is = put_same x 0 s.frame.cells;
      label = p.low;
      head = false;
      count = false;
      fill = ask.0;
      fills = ask.1;
      cost = most_moves + 2;
      steps = 1;
      started = subst (λ (ls : List Line). Runs (target program) (most_moves + 2) 1 (turn_of (ls ++ after) s.frame fs s.world)
          asked_turn)
          (sym ask.2) (sets_runs (target program) (ask.0 ++ after) s.frame fs s.world 0 x);
      cheap = omega (arith, row, held, back, long);
    })

-- the step of a construction with fields, whatever tokens it names
pub at_made : (program : Lowering) (x c a : ℕ) (more others : List ℕ) (rest : Tokened)
    → CodeSteps program (Tokened.compute x (Construct c) (a ∷ more) others rest)
at_made program x c a more [] rest = at_construct program x c a more rest
at_made program x c a more (other ∷ others) rest = at_asked program x c a more other others rest
