-- The assembler's machine does each step of the machine with tokens, from the start of a run to its end.
use Rattle.std.proofs.Common.{◌≡◌, ◌⊎◌, inl, inr, ℕ, ◌+◌, ◌<◌, true, List, [], Some, None, All, refl, sym, ◌∙◌, ap, subst, arith}
use Rattle.std.specs.Prelude.{slice_get, slice_index_or}
use Rattle.std.proofs.Math.Path.{path_j, subst_refl}
use Rattle.std.proofs.lemmas.Option.{get_or_from_slice_get}
use Rattle.kk_base.specs.Simulations.{Reaches, Simulates}
use Rattle.kk_base.proofs.Simulations.{simulates_until_ended}
use Rattle.kk_syntax.specs.Shapes.{is_among}
use Rattle.kk_source.specs.State.{Environment}
use Rattle.kk_source.specs.Ends.{exit_of}
use Rattle.kk_counted.specs.Heaps.{Heap}
use Rattle.kk_counted.specs.Marks.{result_mark}
use Rattle.kk_counted.specs.Spending.{numbers_from}
use Rattle.kk_counted.specs.TokenStates.{TokenJoin, TokenFrame, TokenControl, TokenConfiguration, TokenState, no_tokened, token_first_state}
use Rattle.kk_counted.specs.TokenedCodes.{Tokened, TokenedFunction}
use Rattle.kk_counted.specs.Tokens.{spent, token, Tokens, no_tokens}
use Rattle.kk_counted.proofs.SlotMarks.{plain_is_none}
use Rattle.kk_counted.proofs.TokenRuns.{judged_at_start}
use Rattle.rv_isa.specs.Processor.{Ending, exited}
use Rattle.rv_isa.specs.AsmCode.{Line, Lines}
use Rattle.rv_isa.specs.AsmMachine.{AsmTurn, asm_entered, asm_start}
use Rattle.rv_isa.specs.Frames.{Frame, empty}
use Rattle.rv_isa.specs.Primitives.{ended, stuck as stuck_turn, end_of}
use Rattle.cell_runtime.specs.World.{World, first_world}
use Rattle.rv_lower.specs.Lowered.{returns}
use Rattle.rv_cells.specs.CountedCells.{nobody}
use Rattle.rv_cells.specs.TokenedLines.{IsFunctionOf}
use Rattle.rv_cells.proofs.UsedCells.{none_aside}
use Rattle.rv_cells.proofs.StartHeap.{starts as begins}
use Rattle.rv_cells.proofs.Values.{HasValues}
use Rattle.rv_cells.proofs.Runs.{turn_of}
use Rattle.rv_cells.proofs.Spots.{Spot, saved}
use Rattle.rv_cells.proofs.TokenLineCosts.{forms}
use Rattle.rv_cells.proofs.TokenRelation.{Lowering, texts, setting, upper, lower, pace, root_in, Passing, At, IsAt, IsNear, MayStandFor, IsFitFrom, Related, HaveTokenCells}
use Rattle.rv_cells.proofs.TokenContinuations.{machine_at, token_at, at_here, steps_at, CodeSteps}
use Rattle.rv_cells.proofs.TokenReturns.{at_give}
use Rattle.rv_cells.proofs.TokenCalls.{at_tail, shape_of, body_placed}
use Rattle.rv_cells.proofs.TokenInnerBlocks.{at_inside, at_read}
use Rattle.rv_cells.proofs.TokenUniques.{at_open, at_unique}
use Rattle.rv_cells.proofs.TokenCellForms.{at_dup, at_drop}
use Rattle.rv_cells.proofs.TokenSlots.{at_null, at_free}
use Rattle.rv_cells.proofs.TokenMoves.{at_move}
use Rattle.rv_cells.proofs.TokenHolds.{at_hold, at_unhold}
use Rattle.rv_cells.proofs.TokenBlocks.{at_if_token}
use Rattle.rv_cells.proofs.TokenCases.{at_case}
use Rattle.rv_cells.proofs.TokenBranches.{near_step}
use Rattle.rv_cells.proofs.TokenPlainForms.{at_compute}
use Rattle.rv_cells.proofs.TokenConstructions.{at_made}
use Rattle.rv_cells.proofs.SlotFills.{at_fill}

module _ (program : Lowering) where
  -- ---- one step

  -- the step of each code
  at_code : (code : Tokened) → CodeSteps program code
  at_code (Tokened.give x) = at_give program x
  at_code (Tokened.tail_call f arguments) = at_tail program f arguments
  at_code (Tokened.case x decisions arms) = at_case program x decisions arms
  at_code (Tokened.compute x form arguments others rest) = at_compute program (at_made program) x form arguments others rest
  at_code (Tokened.inside x block rest) = at_inside program x block rest
  at_code (Tokened.read x c fields rest) = at_read program x c fields rest
  at_code (Tokened.open_cell x c fields used y rest) = at_open program x c fields used y rest
  at_code (Tokened.if_unique x c fields used y rest) = at_unique program x c fields used y rest
  at_code (Tokened.dup x rest) = at_dup program x rest
  at_code (Tokened.drop x rest) = at_drop program x rest
  at_code (Tokened.fill x y c first arguments kept others rest) = at_fill program x y c first arguments kept others rest
  at_code (Tokened.free y rest) = at_free program y rest
  at_code (Tokened.null y rest) = at_null program y rest
  at_code (Tokened.move to of rest) = at_move program to of rest
  at_code (Tokened.hold y rest) = at_hold program y rest
  at_code (Tokened.unhold y rest) = at_unhold program y rest
  at_code (Tokened.if_token y there absent) = at_if_token program y there absent

  -- a step from any state that stands
  abbrev Follows_from : ℕ → ℕ → TokenState → AsmTurn World Ending → Type 0
  Follows_from credit idle s t =
      Reaches (lower program) (Related program) (Passing program) (pace program) ((upper program).weight s + credit) 1 idle
      ((upper program).step s).0 ((upper program).step s).1 t

  -- a code that stands is stepped
  stands_step : (code : Tokened) (environment : Environment) (inner : List TokenJoin) (frames : List TokenFrame) (heap : Heap)
      (tokens : Tokens) (input : List ℕ) (credit idle : ℕ) (t : AsmTurn World Ending) → credit ≡ saved heap → idle ≡ forms code
      → IsFitFrom program (token_at program code environment inner frames heap tokens input)
      → IsAt program code environment inner (machine_at program code environment inner frames heap tokens) input t
      → Follows_from credit idle (token_at program code environment inner frames heap tokens input) t
  stands_step code environment inner frames heap tokens input credit idle t credit_is idle_is fit is =
      subst (λ c. Follows_from c idle (token_at program code environment inner frames heap tokens input) t) (sym credit_is)
      (steps_at program (At program code inner frames tokens input) code environment inner frames heap tokens input idle t is
      (λ fits. at_code code idle inner frames tokens input is.spot is.fs is.left idle_is is.at fits) fit)

  -- where it stands, or is near a comparison
  may_step : (code : Tokened) (environment : Environment) (inner : List TokenJoin) (frames : List TokenFrame) (heap : Heap)
      (tokens : Tokens) (input : List ℕ) (credit idle : ℕ) (t : AsmTurn World Ending) → credit ≡ saved heap → idle ≡ forms code
      → IsFitFrom program (token_at program code environment inner frames heap tokens input)
      → IsAt program code environment inner (machine_at program code environment inner frames heap tokens) input t
      ⊎ IsNear program code environment inner (machine_at program code environment inner frames heap tokens) input t
      → Follows_from credit idle (token_at program code environment inner frames heap tokens input) t
  may_step code environment inner frames heap tokens input credit idle t credit_is idle_is fit (inl is) =
      stands_step code environment inner frames heap tokens input credit idle t credit_is idle_is fit is
  may_step code environment inner frames heap tokens input credit idle t credit_is idle_is fit (inr is) =
      subst (λ c. Follows_from c idle (token_at program code environment inner frames heap tokens input) t) (sym credit_is)
      (near_step program code environment inner frames heap tokens input idle t idle_is fit is)

  -- each state that has not ended is stepped
  steps_by : (control : TokenControl) (frames : List TokenFrame) (heap : Heap) (tokens : Tokens) (input : List ℕ) (credit idle : ℕ)
      (t : AsmTurn World Ending)
      → Related program credit idle (record {
        machine = record { control = control; frames = frames; heap = heap; tokens = tokens };
        input = input;
      }) t
      → (upper program).ending (record {
        machine = record { control = control; frames = frames; heap = heap; tokens = tokens };
        input = input;
      }) ≡ None
      → Follows_from credit idle (record {
        machine = record { control = control; frames = frames; heap = heap; tokens = tokens };
        input = input;
      }) t
  steps_by (TokenControl.running code environment inner) frames heap tokens input credit idle t related goes =
      may_step code environment inner frames heap tokens input credit idle t related.credit_is related.idle_is related.fit
      related.stands
  steps_by (TokenControl.stopped by) frames heap tokens input credit idle t related goes = cc goes
  steps_by TokenControl.stuck frames heap tokens input credit idle t related goes = absurd related.stands

  -- states that stand end alike
  ends_alike : (control : TokenControl) (frames : List TokenFrame) (heap : Heap) (tokens : Tokens) (input : List ℕ)
      (t : AsmTurn World Ending)
      → MayStandFor program control (record { control = control; frames = frames; heap = heap; tokens = tokens }) input t
      → (lower program).ending t
      ≡ (upper program).ending (record {
        machine = record { control = control; frames = frames; heap = heap; tokens = tokens };
        input = input;
      })
  ends_alike (TokenControl.running code environment inner) frames heap tokens input t (inl stands) = ap end_of stands.turn_is
  ends_alike (TokenControl.running code environment inner) frames heap tokens input t (inr behind) = ap end_of behind.turn_is
  ends_alike (TokenControl.stopped by) frames heap tokens input t stands = ap end_of stands.turn_is
  ends_alike TokenControl.stuck frames heap tokens input t stands = absurd stands

  -- a turn that goes on or has ended is not stuck
  goes_not : (t : AsmTurn World Ending) (left : List Line) (f : Frame Line) (fs : List (Frame Line)) (world : World)
      → t ≡ stuck_turn → t ≡ turn_of left f fs world → ⊥
  goes_not t left f fs world is_stuck is = cc (is_stuck, is)

  ends_not : (t : AsmTurn World Ending) (how : Ending) (world : World) → t ≡ stuck_turn → t ≡ ended how world → ⊥
  ends_not t how world is_stuck is = cc (is_stuck, is)

  -- no state that stands is stuck
  passes : (control : TokenControl) (c : TokenConfiguration) (input : List ℕ) (t : AsmTurn World Ending)
      → MayStandFor program control c input t → Passing program t
  passes (TokenControl.running code environment inner) c input t (inl stands) = λ is.
      goes_not t stands.left stands.spot.frame stands.fs stands.spot.world is stands.turn_is
  passes (TokenControl.running code environment inner) c input t (inr behind) = λ is.
      goes_not t behind.left behind.spot.frame behind.fs behind.spot.world is behind.turn_is
  passes (TokenControl.stopped by) c input t stands = λ is. ends_not t (exited (exit_of by)) stands.world is stands.turn_is
  passes TokenControl.stuck c input t stands = absurd stands

  -- the assembler's machine simulates the machine with tokens
  pub simulates : Simulates (upper program) (lower program) (Related program) (Passing program) (pace program)
  simulates =
      simulates_until_ended (upper program) (lower program) (Related program) (Passing program) (pace program) (omega arith)
      (λ credit idle s t related. ends_alike s.machine.control s.machine.frames s.machine.heap s.machine.tokens s.input t
      related.stands)
      (λ credit idle s t related. passes s.machine.control s.machine s.input t related.stands)
      (λ credit idle s t related goes. steps_by s.machine.control s.machine.frames s.machine.heap s.machine.tokens s.input credit
      idle t related goes)

-- ---- the start

module _ (program : Lowering) (main : TokenedFunction) (main_is : slice_get program.code.functions program.code.main ≡ Some main)
    (alone : main.parameters ≡ 0) (lines : Lines) (lines_are : slice_get program.functions program.code.main ≡ Some lines)
    (input : List ℕ) (bytes : All (λ byte. byte < 256) input)
    (fit : IsFitFrom program (token_first_state (setting program) input)) where
  -- no cell is used, and no variable is bound
  abbrev start_spot : Spot
  start_spot = record {
    address = λ name. 0;
    owners = λ at. nobody;
    heap = [];
    bound = numbers_from 0 main.parameters;
    environment = [];
    frame = asm_entered 0 lines empty;
    world = first_world program.pool input;
  }

  -- no cell is a token's
  no_token_cells : HaveTokenCells program.pool program.layout (λ name. 0) (λ at. nobody) [] no_tokens
  no_token_cells = record {
    are = λ f y p is. absurd (plain_is_none f y is);
    apart = λ f y p g z q is other same. absurd (plain_is_none f y is);
    number = none_aside program.pool (λ at. nobody) (λ at. refl);
  }

  -- of the same lines the parts stand so too
  root_moved : (one other : Lines) (same : one ≡ other)
      (of : IsFunctionOf program.layout (texts program) program.marks program.code.main main one)
      → root_in program program.code.main main other
      (subst (λ ls. IsFunctionOf program.layout (texts program) program.marks program.code.main main ls) same of)
      ≡ root_in program program.code.main main one of
  root_moved one other same of =
      path_j (λ ls is. root_in program program.code.main main ls
      (subst (λ l. IsFunctionOf program.layout (texts program) program.marks program.code.main main l) is of)
      ≡ root_in program program.code.main main one of)
      (ap (λ made. root_in program program.code.main main one made)
      (subst_refl (λ l. IsFunctionOf program.layout (texts program) program.marks program.code.main main l) of)) same

  -- the body of `main` is at its lines
  starts_at : At program main.body [] [] no_tokens input start_spot [] lines.code
  starts_at =
      let low = program.lowered program.code.main main main_is in
      let same : low.0 ≡ lines = lines_same (sym low.1 ∙ lines_are) in
      let of = subst (λ ls. IsFunctionOf program.layout (texts program) program.marks program.code.main main ls) same low.2 in
      record {
        shape = shape_of program program.code.main main lines of;
        lists = record { left = []; unspent = []; held = []; older = [] };
        judged = judged_at_start program.pool.cells main.body (program.spends program.code.main main main_is);
        does = record {
          goal = returns;
          given = result_mark program.marks program.code.main;
          placed = body_placed program program.code.main main lines of main_is;
          continues = refl;
        };
        follows = begins program.pool program.layout (λ name. 0) program.aligned;
        cells = no_token_cells;
        stand = λ y p has. absurd (spent_is_none p has);
        has = record {
          values = subst (λ n. HasValues program.layout (λ name. 0) of.lowered.holds (of.lowered.variables + of.lowered.slots) 0
              (numbers_from 0 n) [] empty)
              (sym alone)
              (record { below = λ x is. cc; words = λ x is. cc; fits = λ x is. cc; older = λ x is. cc });
          below = λ x is. absurd (none_bound main.parameters alone x is);
          tokens = record { below = λ y is. cc; are = λ y. tt };
          held_is = refl;
          formed = program.formed program.code.main lines lines_are;
          in_function = record {
            number = λ first. sym first;
            whole_is = refl;
            root_is = (main, (main_is, root_moved low.0 lines same low.2));
          };
        };
        waits = tt;
        input_is = refl;
        bytes = bytes;
      }
    where
      spent_is_none : (p : ℕ) → spent ≡ token p → ⊥
      spent_is_none p e = cc e

      lines_same : {a b : Lines} → Some a ≡ Some b → a ≡ b
      lines_same e = cc

      none_bound : (n : ℕ) → n ≡ 0 → (x : ℕ) → is_among (numbers_from 0 n) x ≡ true → ⊥
      none_bound n none x is =
          let both : is_among (numbers_from 0 0) x ≡ true
          = subst (λ m. is_among (numbers_from 0 m) x ≡ true) none is in
          cc both

  -- the start of both runs
  pub starts : Related program 0 (forms main.body) (token_first_state (setting program) input)
      (asm_start lines (first_world program.pool input))
  starts =
      let body_is : slice_index_or program.code.functions program.code.main no_tokened ≡ main
      = get_or_from_slice_get program.code.functions program.code.main main no_tokened main_is in
      record {
        credit_is = refl;
        idle_is = ap (λ (f : TokenedFunction). forms f.body) (sym body_is);
        fit = fit;
        stands = inl (subst (λ (f : TokenedFunction). IsAt program f.body [] [] (machine_at program f.body [] [] [] [] no_tokens)
            input (asm_start lines (first_world program.pool input))) (sym body_is)
            (at_here program starts_at));
      }
