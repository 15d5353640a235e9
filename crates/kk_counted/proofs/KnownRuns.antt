-- In each state of a run of code that leaves only known fields these are the values of its arguments, so leaving fields and writing
-- all of them come to the same states.
use Rattle.std.proofs.Common.{◌≡◌, ℕ, zero, suc, Bool, true, false, List, [], ◌∷◌, map, length, Some, refl, sym, ap, ◌∙◌, subst}
use Rattle.std.specs.Prelude.{if◌then◌else◌, slice_get, slice_index_or}
use Rattle.kk_base.specs.Machines.{state}
use Rattle.kk_source.specs.Actions.{goes, performed}
use Rattle.kk_source.specs.Notes.{Note}
use Rattle.kk_source.specs.State.{Value, Environment}
use Rattle.kk_source.specs.Live.{value_of}
use Rattle.kk_counted.specs.Heaps.{Heap, fields_held}
use Rattle.kk_counted.specs.TokenedCodes.{Tokened, TokenedFunction}
use Rattle.kk_counted.specs.Tokens.{Slot, spent, null, token, Tokens, blanked, released, by_slot, is_of, has_room, request}
use Rattle.kk_counted.specs.TokenStates.{TokenSetting, TokenJoin, TokenFrame, TokenControl, TokenConfiguration, TokenState, no_tokened, token_start, token_first_state}
use Rattle.kk_counted.specs.TokenMachine.{bound_to, token_at_stuck, make_step, filled, token_code_step, token_machine}
use Rattle.kk_counted.specs.TokenSpending.{AreTokensSpent}
use Rattle.kk_counted.specs.TokenKeeping.{IsJudged, AreKept, AreKeptBy, Lists, ListsAfter, FillsAt, FillsAlways, token_after}
use Rattle.kk_counted.specs.TokenRuns.{AllLead, is_quiet}
use Rattle.kk_counted.specs.KeptFields.{LeavesKnown}
use Rattle.kk_counted.proofs.TokenSteps.{follows}
use Rattle.kk_counted.proofs.TokenOnlyForms.{unseen}
use Rattle.kk_counted.proofs.TokenRuns.{led_kept, weaker, judged_at_start, main_spends}
use Rattle.kk_counted.proofs.PoolRuns.{pooled_at}
use Rattle.kk_counted.proofs.KnownSteps.{IsKnownIn, AreThere, step_known, fills_known}

-- each function leaves only what is known, at whose start nothing is
abbrev AllLeaveKnown : List TokenedFunction → Type 0
AllLeaveKnown functions =
    (f : ℕ) (function : TokenedFunction) → slice_get functions f ≡ Some function → LeavesKnown [] function.body

module _ (weight : TokenState → ℕ) (setting : TokenSetting) (spends : AreTokensSpent setting.program)
    (leaves : AllLeaveKnown setting.program.functions) where
  pub record IsGood (c : TokenConfiguration) : Type 0 where
    kept : AreKept setting.cells c
    pub known : IsKnownIn c

  there : (c : TokenConfiguration) → AreKept setting.cells c → AreThere c.heap c.tokens
  there c kept f y p is =
      let pooled = pooled_at setting.cells c c.control kept in
      pooled.there f y p (pooled.marks f y p is)

  -- the tokens are kept at a step
  code_kept : (lists : Lists) (code : Tokened) (environment : Environment) (joins : List TokenJoin) (from : TokenConfiguration)
      (input : List ℕ)
      → IsJudged setting.cells lists.left lists.unspent lists.held lists.older code joins from.frames from.heap from.tokens
      → FillsAt setting.leaves from (TokenControl.running code environment joins)
      → (quiet : Bool) → is_quiet code ≡ quiet
      → AreKept setting.cells (performed (token_code_step setting code environment joins from) input).1.machine
  code_kept lists code environment joins from input judged fills false quiet =
      weaker setting.cells (ListsAfter code joins lists)
      (performed (token_code_step setting code environment joins from) input).1.machine
      (performed (token_code_step setting code environment joins from) input).1.machine.control
      (led_kept (AreKeptBy setting.cells (ListsAfter code joins lists)) (token_code_step setting code environment joins from) input
      (follows setting spends lists code environment joins from judged fills quiet).keeps)
  code_kept lists code environment joins from input judged fills true quiet =
      let still = unseen setting lists environment joins from code judged quiet in
      weaker setting.cells (ListsAfter code joins lists)
      (performed (token_code_step setting code environment joins from) input).1.machine
      (performed (token_code_step setting code environment joins from) input).1.machine.control
      (led_kept (AreKeptBy setting.cells (ListsAfter code joins lists)) (token_code_step setting code environment joins from) input
      (subst (λ action. AllLead (AreKeptBy setting.cells (ListsAfter code joins lists)) action) (sym still.is) still.keeps))

  step_good : (control : TokenControl) (frames : List TokenFrame) (heap : Heap) (tokens : Tokens) (input : List ℕ)
      → IsGood (record { control = control; frames = frames; heap = heap; tokens = tokens })
      → IsGood ((token_machine weight setting).step
      (record { machine = record { control = control; frames = frames; heap = heap; tokens = tokens }; input = input })).1.machine
  step_good (TokenControl.running code environment joins) frames heap tokens input good =
      let from : TokenConfiguration
      = record { control = TokenControl.running code environment joins; frames = frames; heap = heap; tokens = tokens } in
      record {
        kept =
            code_kept good.kept.0 code environment joins from input good.kept.1
            (fills_known setting.leaves from (TokenControl.running code environment joins) good.known) (is_quiet code) refl;
        known =
            led_kept IsKnownIn (token_code_step setting code environment joins from) input
            (step_known setting leaves code environment joins from good.known (there from good.kept));
      }
  step_good (TokenControl.stopped by) frames heap tokens input good = good
  step_good TokenControl.stuck frames heap tokens input good = good

  run_good : (n : ℕ) (t : TokenState) → IsGood t.machine → IsGood (state (token_machine weight setting) n t).machine
  run_good zero t good = good
  run_good (suc n) t good =
      run_good n ((token_machine weight setting).step t).1
      (step_good t.machine.control t.machine.frames t.machine.heap t.machine.tokens t.input good)

  start_good : IsGood (token_start setting)
  start_good =
      record {
        kept = (
          record { left = []; unspent = []; held = []; older = [] },
          judged_at_start setting.cells (slice_index_or setting.program.functions setting.program.main no_tokened).body
              (main_spends setting.program.functions setting.program.main spends),
        );
        known =
            record {
              known = [];
              are = tt;
              leaves = main_leaves setting.program.functions setting.program.main leaves;
              waits = tt;
              below = tt;
            };
      }
    where
      main_leaves : (functions : List TokenedFunction) (n : ℕ) → AllLeaveKnown functions
          → LeavesKnown [] (slice_index_or functions n no_tokened).body
      main_leaves [] n each = tt
      main_leaves (function ∷ functions) zero each = each zero function refl
      main_leaves (function ∷ functions) (suc n) each = main_leaves functions n (λ f other is. each (suc f) other is)

  pub good_after : (input : List ℕ) (n : ℕ) → IsGood (token_after weight setting input n)
  good_after input n = run_good n (token_first_state setting input) start_good

  pub known_may_be_left : (input : List ℕ) → FillsAlways weight setting input
  known_may_be_left input n =
      fills_known setting.leaves (token_after weight setting input n) (token_after weight setting input n).control
      (good_after input n).known

-- ---- leaving fields and writing all of them

abbrev with_leaves : Bool → TokenSetting → TokenSetting
with_leaves leaves setting = record setting { leaves = leaves }

module _ (weight : TokenState → ℕ) (setting : TokenSetting) where
  fill_same : (y c : ℕ) (fields : List Value) (kept others : List ℕ) (to : Value → TokenConfiguration) (from : TokenConfiguration)
      (slot : Slot) → ((p : ℕ) → slot ≡ token p → filled true kept (fields_held from.heap p) fields ≡ fields)
      → by_slot (goes (token_at_stuck from))
      (make_step (request setting.cells others (length from.frames) from.heap (blanked (length from.frames) y spent from.tokens)) c
      fields to from)
      (λ p. make_step (has_room (released (length from.frames) y p spent from.tokens)) c
      (filled true kept (fields_held from.heap p) fields) to from) (length from.frames) y slot from.tokens.marks
      ≡ by_slot (goes (token_at_stuck from))
      (make_step (request setting.cells others (length from.frames) from.heap (blanked (length from.frames) y spent from.tokens)) c
      fields to from)
      (λ p. make_step (has_room (released (length from.frames) y p spent from.tokens)) c fields to from) (length from.frames) y slot
      from.tokens.marks
  fill_same y c fields kept others to from spent fills = refl
  fill_same y c fields kept others to from null fills = refl
  fill_same y c fields kept others to from (token p) fills =
      ap (λ values. if is_of (length from.frames) y (from.tokens.marks p)
      then make_step (has_room (released (length from.frames) y p spent from.tokens)) c values to from
      else goes (token_at_stuck from)) (fills p refl)

  code_same : (code : Tokened) (environment : Environment) (joins : List TokenJoin) (from : TokenConfiguration)
      → FillsAt true from (TokenControl.running code environment joins)
      → token_code_step (with_leaves true setting) code environment joins from
      ≡ token_code_step (with_leaves false setting) code environment joins from
  code_same (Tokened.give x) environment joins from fills = refl
  code_same (Tokened.tail_call f arguments) environment joins from fills = refl
  code_same (Tokened.case x decisions arms) environment joins from fills = refl
  code_same (Tokened.compute x form arguments others rest) environment joins from fills = refl
  code_same (Tokened.inside x block rest) environment joins from fills = refl
  code_same (Tokened.read x c fields rest) environment joins from fills = refl
  code_same (Tokened.open_cell x c fields used y rest) environment joins from fills = refl
  code_same (Tokened.if_unique x c fields used y rest) environment joins from fills = refl
  code_same (Tokened.dup x rest) environment joins from fills = refl
  code_same (Tokened.drop x rest) environment joins from fills = refl
  code_same (Tokened.fill x y c first arguments kept others rest) environment joins from fills =
      fill_same y c (map (value_of environment) (first ∷ arguments)) kept others
      (λ v. bound_to x v rest environment joins from) from (from.tokens.slots (length from.frames) y) fills
  code_same (Tokened.free y rest) environment joins from fills = refl
  code_same (Tokened.null y rest) environment joins from fills = refl
  code_same (Tokened.move to of rest) environment joins from fills = refl
  code_same (Tokened.hold y rest) environment joins from fills = refl
  code_same (Tokened.unhold y rest) environment joins from fills = refl
  code_same (Tokened.if_token y there_code absent) environment joins from fills = refl

  step_same : (control : TokenControl) (frames : List TokenFrame) (heap : Heap) (tokens : Tokens) (input : List ℕ)
      → FillsAt true (record { control = control; frames = frames; heap = heap; tokens = tokens }) control
      → (token_machine weight (with_leaves true setting)).step
      (record { machine = record { control = control; frames = frames; heap = heap; tokens = tokens }; input = input })
      ≡ (token_machine weight (with_leaves false setting)).step
      (record { machine = record { control = control; frames = frames; heap = heap; tokens = tokens }; input = input })
  step_same (TokenControl.running code environment joins) frames heap tokens input fills =
      ap (λ action. performed action input)
      (code_same code environment joins
      (record { control = TokenControl.running code environment joins; frames = frames; heap = heap; tokens = tokens }) fills)
  step_same (TokenControl.stopped by) frames heap tokens input fills = refl
  step_same TokenControl.stuck frames heap tokens input fills = refl

  run_same : (n : ℕ) (t : TokenState)
      → ((k : ℕ) → FillsAt true (state (token_machine weight (with_leaves true setting)) k t).machine
      (state (token_machine weight (with_leaves true setting)) k t).machine.control)
      → state (token_machine weight (with_leaves true setting)) n t ≡ state (token_machine weight (with_leaves false setting)) n t
  run_same zero t fills = refl
  run_same (suc n) t fills =
      run_same n ((token_machine weight (with_leaves true setting)).step t).1 (λ k. fills (suc k))
      ∙ ap (λ (next : List Note × TokenState). state (token_machine weight (with_leaves false setting)) n next.1)
      (step_same t.machine.control t.machine.frames t.machine.heap t.machine.tokens t.input (fills zero))

  pub leaving_is_exact : AreTokensSpent setting.program → AllLeaveKnown setting.program.functions → (input : List ℕ) (n : ℕ)
      → token_after weight (record setting { leaves = true }) input n
      ≡ token_after weight (record setting { leaves = false }) input n
  leaving_is_exact spends leaves input n =
      ap (λ (t : TokenState). t.machine)
      (run_same n (token_first_state setting input)
      (known_may_be_left weight (with_leaves true setting) spends leaves input))
