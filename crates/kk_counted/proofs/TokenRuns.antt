-- Runs of code that spends its tokens do what the bare form does.
use Rattle.std.proofs.Common.{◌≡◌, ℕ, zero, suc, ◌+◌, ◌*◌, ◌<◌, Bool, true, false, List, [], ◌∷◌, ◌++◌, map, length, Some, None, arith, refl, sym, ap, ◌∙◌, subst}
use Rattle.std.specs.Prelude.{if◌then◌else◌, slice_get, slice_index_or}
use Rattle.kk_base.specs.Machines.{Machine, state, weight_of, trace}
use Rattle.kk_base.specs.Agreements.{IsFollowedBy, Agree}
use Rattle.kk_base.specs.Simulations.{Reaches, Simulates}
use Rattle.kk_base.proofs.Simulations.{simulates_until_ended, simulates_agree, simulates_passing}
use Rattle.kk_source.specs.State.{Environment, End}
use Rattle.kk_source.specs.Notes.{Note}
use Rattle.kk_source.specs.Actions.{Action, goes, puts, takes, builds, calls, performed}
use Rattle.kk_counted.specs.CountedStates.{CountedControl, CountedState, no_function, counted_first_state, counted_end_at}
use Rattle.kk_counted.specs.CountedMachine.{counted_code_step, counted_machine, NotStuck}
use Rattle.kk_counted.specs.CountedCodes.{Counted, CountedFunction}
use Rattle.kk_counted.specs.Heaps.{Heap}
use Rattle.kk_counted.specs.TokenedCodes.{Tokened, TokenedFunction}
use Rattle.kk_counted.specs.BareForms.{bare, bare_function}
use Rattle.kk_counted.specs.Tokens.{spent, token, is_token, Tokens, no_tokens}
use Rattle.kk_counted.specs.TokenStates.{TokenSetting, TokenJoin, TokenFrame, TokenControl, TokenConfiguration, TokenState, no_tokened, token_first_state, token_end_at, bare_join, bare_frame, bare_control, bare_configuration, bare_state, bare_setting}
use Rattle.kk_counted.specs.TokenMachine.{at_code, token_code_step, token_machine, TokenNotStuck}
use Rattle.kk_counted.specs.TokenSpending.{SpendsTokens, AreTokensSpent}
use Rattle.kk_counted.specs.TokenKeeping.{AreKeptAt, AreKept, Lists, IsJudged, ListsAfter, AreKeptByAt, AreKeptBy, FillsAt, FillsAlways, token_after}
use Rattle.kk_counted.specs.TokenRuns.{bare_action, AllLead, IsFollowed, is_quiet, bare_weight, IsSameRun}
use Rattle.kk_counted.proofs.SlotMarks.{plain_is_none}
use Rattle.kk_counted.proofs.TokenSteps.{follows}
use Rattle.kk_counted.proofs.StillForms.{IsStill, free_still, null_still, move_still, hold_still, unhold_still, there_still, absent_still}

-- ---- what is performed

told_alike : (action : Action TokenConfiguration) (input : List ℕ)
    → (performed action input).0 ++ [] ≡ (performed (bare_action action) input).0
told_alike (goes to) input = refl
told_alike (puts piece to) input = refl
told_alike (takes to) [] = refl
told_alike (takes to) (byte ∷ input) = refl
told_alike (builds found to) input = refl
told_alike (calls found to) input = refl

pub led_alike : (action : Action TokenConfiguration) (input : List ℕ)
    → bare_state (performed action input).1 ≡ (performed (bare_action action) input).1
led_alike (goes to) input = refl
led_alike (puts piece to) input = refl
led_alike (takes to) [] = refl
led_alike (takes to) (byte ∷ input) = refl
led_alike (builds found to) input = refl
led_alike (calls found to) input = refl

pub led_kept : (P : TokenConfiguration → Type 0) (action : Action TokenConfiguration) (input : List ℕ) → AllLead P action
    → P (performed action input).1.machine
led_kept P (goes to) input kept = kept
led_kept P (puts piece to) input kept = kept
led_kept P (takes to) [] kept = kept None
led_kept P (takes to) (byte ∷ input) kept = kept (Some byte)
led_kept P (builds found to) input kept = kept
led_kept P (calls found to) input kept = kept

-- a state that is kept by some lists is kept
pub weaker : (cells : ℕ) (P : Lists → Type 0) (c : TokenConfiguration) (control : TokenControl) → AreKeptByAt cells P c control
    → AreKeptAt cells c control
weaker cells P c (TokenControl.running code environment joins) kept = (kept.0, kept.1.1)
weaker cells P c (TokenControl.stopped by) kept = kept
weaker cells P c TokenControl.stuck kept = kept

end_alike : (control : TokenControl) → token_end_at control ≡ counted_end_at (bare_control control)
end_alike (TokenControl.running code environment joins) = refl
end_alike (TokenControl.stopped by) = refl
end_alike TokenControl.stuck = refl

-- ---- the start

spent_is_none : (p : ℕ) → spent ≡ token p → ⊥
spent_is_none p is = absurd (cc)

-- code that spends its tokens is judged where there are none
pub judged_at_start : (cells : ℕ) (body : Tokened) → SpendsTokens [] [] [] body
    → IsJudged cells [] [] [] [] body [] [] [] no_tokens
judged_at_start cells body spends =
    record {
      spends = spends;
      waits = refl;
      slots_are = λ y. refl;
      apart = tt;
      waiting = tt;
      are = record {
        pooled = record {
          marks = λ f y p is. absurd (spent_is_none p is);
          slots = λ f y p is. absurd (plain_is_none f y is);
          uncounted = λ f y p is. absurd (plain_is_none f y is);
          there = λ f y p is. absurd (plain_is_none f y is);
          room = omega arith;
        };
        chain = refl;
        beyond = λ f y far. refl;
      };
    }

pub function_at : (functions : List TokenedFunction) (n : ℕ)
    → slice_index_or (map bare_function functions) n no_function ≡ bare_function (slice_index_or functions n no_tokened)
function_at [] n = refl
function_at (function ∷ functions) zero = refl
function_at (function ∷ functions) (suc n) = function_at functions n

pub main_spends : (functions : List TokenedFunction) (n : ℕ)
    → ((f : ℕ) (function : TokenedFunction) → slice_get functions f ≡ Some function → SpendsTokens [] [] [] function.body)
    → SpendsTokens [] [] [] (slice_index_or functions n no_tokened).body
main_spends [] n each = (refl, λ y. refl)
main_spends (function ∷ functions) zero each = each zero function refl
main_spends (function ∷ functions) (suc n) each = main_spends functions n (λ f other there. each (suc f) other there)

module _ (weight : CountedState → ℕ) (setting : TokenSetting) (program_spends : AreTokensSpent setting.program) where
  abbrev pub upper : Machine CountedState Note End
  upper = counted_machine weight (bare_setting setting)

  abbrev pub lower : Machine TokenState Note End
  lower = token_machine (bare_weight weight) setting

  -- a state stands for its bare form: from it on constructions fill, and the bare machine is never stuck
  pub record Stands (s : CountedState) (t : TokenState) : Type 0 where
    pub is : bare_state t ≡ s
    pub kept : AreKept setting.cells t.machine
    pub fills : (k : ℕ) → FillsAt setting.leaves (state lower k t).machine (state lower k t).machine.control
    pub never_stuck : (k : ℕ) → NotStuck (state upper k s).machine.control

  abbrev pub Related : ℕ → ℕ → CountedState → TokenState → Type 0
  Related credit idle s t = Stands s t

  pub record Passing (t : TokenState) : Type 0 where
    pub kept : AreKept setting.cells t.machine
    pub not_stuck : TokenNotStuck t.machine.control

  abbrev Reached : ℕ → ℕ → CountedState → TokenState → Type 0
  Reached credit idle s t =
      Reaches lower Related Passing 1 (upper.weight s + credit) 1 idle
      (upper.step s).0 (upper.step s).1 t

  abbrev at : Tokened → Environment → List TokenJoin → TokenConfiguration → List ℕ → TokenState
  at code environment joins from input = record { machine = at_code code environment joins from; input = input }

  -- the rest of a code, whatever the tokens are
  abbrev Later : Tokened → Environment → List TokenJoin → TokenConfiguration → List ℕ → ℕ → ℕ → Type 0
  Later rest environment joins from input credit idle =
      (tokens : Tokens) → Stands (bare_state (at rest environment joins (record from { tokens = tokens }) input))
      (at rest environment joins (record from { tokens = tokens }) input)
      → Reached credit idle (bare_state (at rest environment joins (record from { tokens = tokens }) input))
      (at rest environment joins (record from { tokens = tokens }) input)

  -- a step that the bare form does not have
  still : (P : Lists → Type 0) (code rest : Tokened) (environment : Environment) (joins : List TokenJoin)
      (from : TokenConfiguration) (input : List ℕ) (credit idle : ℕ) → is_quiet code ≡ true → bare rest ≡ bare code
      → IsStill setting.cells P (token_code_step setting code environment joins (at_code code environment joins from)) rest
      environment joins (at_code code environment joins from)
      → Stands (bare_state (at code environment joins from input)) (at code environment joins from input)
      → Later rest environment joins from input credit idle
      → Reached credit idle (bare_state (at code environment joins from input)) (at code environment joins from input)
  still P code rest environment joins from input credit idle quiet same is stands later =
      record {
        steps = suc after.steps;
        credit_after = after.credit_after;
        idle_after = after.idle_after;
        paid = omega (arith, weightless, ap (λ (p : List Note × TokenState). weight_of lower after.steps p.1) step_is, after.paid);
        moves = omega (arith, after.moves);
        events_are = ap (λ (p : List Note × TokenState). p.0 ++ trace lower after.steps p.1) step_is ∙ after.events_are;
        passes = passes;
        related =
            subst (λ (p : List Note × TokenState). Stands (upper.step (bare_state before)).1 (state lower after.steps p.1))
            (sym step_is) after.related;
      }
    where
      before : TokenState
      before = at code environment joins from input

      next : TokenState
      next = at rest environment joins (record from { tokens = is.tokens }) input

      step_is : lower.step (at code environment joins from input)
          ≡ ([], at rest environment joins (record from { tokens = is.tokens }) input)
      step_is = ap (λ action. performed action input) is.is

      weightless : lower.weight (at code environment joins from input) ≡ 0
      weightless = ap (λ b. if b then 0 else weight (bare_state (at code environment joins from input))) quiet

      bare_at : Counted → CountedState
      bare_at body =
          record {
            machine = record {
              control = CountedControl.running body environment (map bare_join joins);
              frames = map
                  bare_frame from.frames;
              heap = from.heap;
            };
            input = input;
          }

      stands_next : Stands (bare_at (bare rest)) (at rest environment joins (record from { tokens = is.tokens }) input)
      stands_next =
          record {
            is = refl;
            kept =
                weaker setting.cells P (record (at_code code environment joins from) { tokens = is.tokens })
                (TokenControl.running rest environment joins) is.kept;
            fills =
                λ k. subst (λ (p : List Note × TokenState). FillsAt setting.leaves (state lower k p.1).machine
                (state lower k p.1).machine.control) step_is (stands.fills (suc k));
            never_stuck =
                λ k. subst (λ body. NotStuck (state upper k (bare_at body)).machine.control) (sym same) (stands.never_stuck k);
          }

      after : Reached credit idle (bare_at (bare code)) (at rest environment joins (record from { tokens = is.tokens }) input)
      after =
          subst (λ body. Reached credit idle (bare_at body) (at rest environment joins (record from { tokens = is.tokens }) input))
          same (later is.tokens stands_next)

      passes : (k : ℕ) → k < suc after.steps → Passing (state lower k (at code environment joins from input))
      passes zero less = record { kept = stands.kept; not_stuck = tt }
      passes (suc k) less =
          subst (λ (p : List Note × TokenState). Passing (state lower k p.1)) (sym step_is) (after.passes k (omega (arith, less)))

  -- a step that the bare form has
  steps : (code : Tokened) (environment : Environment) (joins : List TokenJoin) (from : TokenConfiguration) (input : List ℕ)
      (credit idle : ℕ) → is_quiet code ≡ false
      → Stands (bare_state (at code environment joins from input)) (at code environment joins from input)
      → Reached credit idle (bare_state (at code environment joins from input)) (at code environment joins from input)
  steps code environment joins from input credit idle quiet stands =
      record {
        steps = 1;
        credit_after = credit;
        idle_after = idle;
        paid = omega (arith, ap (λ b. if b then 0 else weight (bare_state (at code environment joins from input))) quiet);
        moves = omega arith;
        events_are = told_alike action input ∙ ap (λ below. (performed below input).0) followed.does;
        passes = λ k less. let first : k ≡ 0 = omega arith in rw first (record { kept = stands.kept; not_stuck = tt });
        related = record {
          is = led_alike action input ∙ ap (λ below. (performed below input).1) followed.does;
          kept =
              weaker setting.cells (ListsAfter code joins stands.kept.0) (performed action input).1.machine
              (performed action input).1.machine.control
              (led_kept (AreKeptBy setting.cells (ListsAfter code joins stands.kept.0)) action input followed.keeps);
          fills = λ k. stands.fills (suc k);
          never_stuck = λ k. stands.never_stuck (suc k);
        };
      }
    where
      action : Action TokenConfiguration
      action = token_code_step setting code environment joins (at_code code environment joins from)

      followed : IsFollowed setting.cells (ListsAfter code joins stands.kept.0)
          (token_code_step setting code environment joins (at_code code environment joins from))
          (counted_code_step (bare_setting setting) (bare code) environment (map bare_join joins)
          (bare_configuration (at_code code environment joins from)))
      followed =
          follows setting program_spends stands.kept.0 code environment joins (at_code code environment joins from) stands.kept.1
          (stands.fills zero) quiet

  reaches : (code : Tokened) (environment : Environment) (joins : List TokenJoin) (from : TokenConfiguration) (input : List ℕ)
      (credit idle : ℕ)
      → Stands (bare_state (at code environment joins from input)) (at code environment joins from input)
      → Reached credit idle (bare_state (at code environment joins from input)) (at code environment joins from input)
  reaches (Tokened.free y rest) environment joins from input credit idle stands =
      still (ListsAfter (Tokened.free y rest) joins stands.kept.0) (Tokened.free y rest) rest environment joins from input credit
      idle refl refl (free_still setting environment joins (at_code (Tokened.free y rest) environment joins from) stands.kept.0
      y rest stands.kept.1) stands
      (λ tokens. reaches rest environment joins (record from { tokens = tokens }) input credit idle)
  reaches (Tokened.null y rest) environment joins from input credit idle stands =
      still (ListsAfter (Tokened.null y rest) joins stands.kept.0) (Tokened.null y rest) rest environment joins from input credit
      idle refl refl (null_still setting environment joins (at_code (Tokened.null y rest) environment joins from) stands.kept.0
      y rest stands.kept.1) stands
      (λ tokens. reaches rest environment joins (record from { tokens = tokens }) input credit idle)
  reaches (Tokened.move to of rest) environment joins from input credit idle stands =
      still (ListsAfter (Tokened.move to of rest) joins stands.kept.0) (Tokened.move to of rest) rest environment joins from input
      credit idle refl refl (move_still setting environment joins (at_code (Tokened.move to of rest) environment joins from)
      stands.kept.0 to of rest stands.kept.1) stands
      (λ tokens. reaches rest environment joins (record from { tokens = tokens }) input credit idle)
  reaches (Tokened.hold y rest) environment joins from input credit idle stands =
      still (ListsAfter (Tokened.hold y rest) joins stands.kept.0) (Tokened.hold y rest) rest environment joins from input credit
      idle refl refl (hold_still setting environment joins (at_code (Tokened.hold y rest) environment joins from) stands.kept.0
      y rest stands.kept.1) stands
      (λ tokens. reaches rest environment joins (record from { tokens = tokens }) input credit idle)
  reaches (Tokened.unhold y rest) environment joins from input credit idle stands =
      still (ListsAfter (Tokened.unhold y rest) joins stands.kept.0) (Tokened.unhold y rest) rest environment joins from input
      credit idle refl refl (unhold_still setting environment joins (at_code (Tokened.unhold y rest) environment joins from)
      stands.kept.0 y rest stands.kept.1) stands
      (λ tokens. reaches rest environment joins (record from { tokens = tokens }) input credit idle)
  reaches (Tokened.if_token y there absent) environment joins from input credit idle stands =
      by_test (is_token (from.tokens.slots (length from.frames) y)) refl
      (λ tokens. reaches there environment joins (record from { tokens = tokens }) input credit idle)
      (λ tokens. reaches absent environment joins (record from { tokens = tokens }) input credit idle)
    where
      by_test : (t : Bool) → is_token (from.tokens.slots (length from.frames) y) ≡ t
          → Later there environment joins from input credit idle → Later absent environment joins from input credit idle
          → Reached credit idle (bare_state (at (Tokened.if_token y there absent) environment joins from input))
          (at (Tokened.if_token y there absent) environment joins from input)
      by_test true test later other =
          still (ListsAfter (Tokened.if_token y there absent) joins stands.kept.0) (Tokened.if_token y there absent) there
          environment joins from input credit idle refl refl
          (there_still setting environment joins (at_code (Tokened.if_token y there absent) environment joins from) stands.kept.0 y
          there absent stands.kept.1 test) stands later
      by_test false test other later =
          still (ListsAfter (Tokened.if_token y there absent) joins stands.kept.0) (Tokened.if_token y there absent) absent
          environment joins from input credit idle refl
          stands.kept.1.spends.1.0
          (absent_still setting environment joins (at_code (Tokened.if_token y there absent) environment joins from) stands.kept.0 y
          there absent stands.kept.1 test) stands later
  reaches (Tokened.give x) environment joins from input credit idle stands =
      steps (Tokened.give x) environment joins from input credit idle refl stands
  reaches (Tokened.tail_call f arguments) environment joins from input credit idle stands =
      steps (Tokened.tail_call f arguments) environment joins from input credit idle refl stands
  reaches (Tokened.case x decisions arms) environment joins from input credit idle stands =
      steps (Tokened.case x decisions arms) environment joins from input credit idle refl stands
  reaches (Tokened.compute x form arguments others rest) environment joins from input credit idle stands =
      steps (Tokened.compute x form arguments others rest) environment joins from input credit idle refl stands
  reaches (Tokened.inside x block rest) environment joins from input credit idle stands =
      steps (Tokened.inside x block rest) environment joins from input credit idle refl stands
  reaches (Tokened.read x c fields rest) environment joins from input credit idle stands =
      steps (Tokened.read x c fields rest) environment joins from input credit idle refl stands
  reaches (Tokened.open_cell x c fields used y rest) environment joins from input credit idle stands =
      steps (Tokened.open_cell x c fields used y rest) environment joins from input credit idle refl stands
  reaches (Tokened.if_unique x c fields used y rest) environment joins from input credit idle stands =
      steps (Tokened.if_unique x c fields used y rest) environment joins from input credit idle refl stands
  reaches (Tokened.dup x rest) environment joins from input credit idle stands =
      steps (Tokened.dup x rest) environment joins from input credit idle refl stands
  reaches (Tokened.drop x rest) environment joins from input credit idle stands =
      steps (Tokened.drop x rest) environment joins from input credit idle refl stands
  reaches (Tokened.fill x y c first arguments left others rest) environment joins from input credit idle stands =
      steps (Tokened.fill x y c first arguments left others rest) environment joins from input credit idle refl stands

  pub simulates : Simulates upper lower Related Passing 1
  simulates =
      simulates_until_ended upper lower Related Passing 1 (omega arith)
      (λ credit idle s t stands. end_alike t.machine.control ∙ ap (λ (u : CountedState). counted_end_at u.machine.control)
      stands.is)
      (λ credit idle s t stands. record {
        kept = stands.kept;
        not_stuck =
            unstuck t.machine.control (subst (λ (u : CountedState). NotStuck u.machine.control) (sym stands.is)
            (stands.never_stuck zero));
      })
      (λ credit idle s t stands goes_on.
      subst (λ u. Reached credit idle u t) stands.is
      (by_control credit idle t.machine.control t.machine.frames t.machine.heap t.machine.tokens t.input
      (subst (λ u. Stands u t) (sym stands.is) stands)
      (subst (λ (u : CountedState). upper.ending u ≡ None) (sym stands.is) goes_on)))
    where
      unstuck : (control : TokenControl) → NotStuck (bare_control control) → TokenNotStuck control
      unstuck (TokenControl.running code environment joins) fine = tt
      unstuck (TokenControl.stopped by) fine = tt
      unstuck TokenControl.stuck fine = absurd fine

      by_control : (credit idle : ℕ) (control : TokenControl) (frames : List TokenFrame) (heap : Heap) (tokens : Tokens)
          (input : List ℕ)
          → Stands (bare_state (record {
            machine = record { control = control; frames = frames; heap = heap; tokens = tokens };
            input =
                input;
          })) (record {
            machine = record {
              control =
                  control;
              frames = frames;
              heap = heap;
              tokens = tokens;
            };
            input = input;
          })
          → upper.ending (bare_state (record {
            machine = record
                { control = control; frames = frames; heap = heap; tokens = tokens };
            input = input;
          })) ≡ None
          → Reached credit idle (bare_state (record
          { machine = record { control = control; frames = frames; heap = heap; tokens = tokens }; input = input }))
          (record { machine = record { control = control; frames = frames; heap = heap; tokens = tokens }; input = input })
      by_control credit idle (TokenControl.running code environment joins) frames heap tokens input stands goes_on =
          reaches code environment joins (record { control = TokenControl.stuck; frames = frames; heap = heap; tokens = tokens })
          input credit idle stands
      by_control credit idle (TokenControl.stopped by) frames heap tokens input stands goes_on = absurd (cc)
      by_control credit idle TokenControl.stuck frames heap tokens input stands goes_on = absurd (stands.never_stuck zero)

  pub starts : (input : List ℕ) → FillsAlways (bare_weight weight) setting input
      → ((n : ℕ) → NotStuck (state upper n (counted_first_state (bare_setting setting) input)).machine.control)
      → Stands (counted_first_state (bare_setting setting) input) (token_first_state setting input)
  starts input fills never_stuck =
      record {
        is =
            ap (λ (function : CountedFunction). record {
              machine = record { control = CountedControl.running function.body [] []; frames = []; heap = [] };
              input = input;
            })
            (sym (function_at setting.program.functions setting.program.main));
        kept = (
          record { left = []; unspent = []; held = []; older = [] },
          judged_at_start setting.cells (slice_index_or setting.program.functions setting.program.main no_tokened).body
              (main_spends setting.program.functions setting.program.main program_spends),
        );
        fills = fills;
        never_stuck = never_stuck;
      }

  pub same_run : (input : List ℕ) → FillsAlways (bare_weight weight) setting input
      → ((n : ℕ) → NotStuck (state upper n (counted_first_state (bare_setting setting) input)).machine.control)
      → IsSameRun weight setting input
  same_run input fills never_stuck =
      record {
        agrees =
            record {
              downwards = agree.downwards;
              upwards = subst
                  (λ (up : ℕ → ℕ). IsFollowedBy lower upper up (token_first_state setting input)
                  (counted_first_state (bare_setting setting) input)) within agree.upwards;
            };
        kept = λ n. (passing n).kept;
        never_stuck = λ n. (passing n).not_stuck;
      }
    where
      stands : Stands (counted_first_state (bare_setting setting) input) (token_first_state setting input)
      stands = starts input fills never_stuck

      agree : Agree upper lower 0 (λ m. m * 1 + 0 + 1) (counted_first_state (bare_setting setting) input)
          (token_first_state setting input)
      agree =
          simulates_agree upper lower Related Passing 1 simulates 0 0 (counted_first_state (bare_setting setting) input)
          (token_first_state setting input) stands

      passing : (n : ℕ) → Passing (state lower n (token_first_state setting input))
      passing n =
          simulates_passing upper lower Related Passing 1 simulates 0 0 (counted_first_state (bare_setting setting) input)
          (token_first_state setting input) stands n

      each : (m : ℕ) → m * 1 + 0 + 1 ≡ m + 1
      each m = omega arith

      within : ◌≡◌ {A = ℕ → ℕ} (λ m. m * 1 + 0 + 1) (λ m. m + 1)
      within = λ i m. each m i

written : (c : TokenConfiguration) (control : TokenControl) → FillsAt false c control
written c (TokenControl.running (Tokened.fill x y k first arguments left others rest) environment joins) = λ p is. refl
written c _ = tt

-- where all fields are written, they are
pub fills_all : (weight : TokenState → ℕ) (setting : TokenSetting) (input : List ℕ) → setting.leaves ≡ false
    → FillsAlways weight setting input
fills_all weight setting input writes n =
    subst (λ leaves. FillsAt leaves (token_after weight setting input n) (token_after weight setting input n).control) (sym writes)
    (written (token_after weight setting input n) (token_after weight setting input n).control)
