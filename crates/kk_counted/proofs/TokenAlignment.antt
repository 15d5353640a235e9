-- For each state of a run of the bare form the run with tokens comes to one that is the same without its tokens, and is about to do
-- what the bare form does.
use Rattle.std.proofs.Common.{◌≡◌, ℕ, suc, ◌+◌, Bool, true, false, List, [], ◌++◌, map, length, refl, sym, ap, ◌∙◌, subst}
use Rattle.std.proofs.lemmas.List.{append-nil}
use Rattle.kk_base.specs.Machines.{state, trace}
use Rattle.kk_base.proofs.Machines.{state-add, trace-add}
use Rattle.kk_base.proofs.Simulations.{simulates_many}
use Rattle.kk_source.specs.State.{Environment}
use Rattle.kk_source.specs.Notes.{Note}
use Rattle.kk_source.specs.Actions.{performed}
use Rattle.kk_counted.specs.BareForms.{bare}
use Rattle.kk_counted.specs.CountedCodes.{Counted}
use Rattle.kk_counted.specs.CountedMachine.{NotStuck}
use Rattle.kk_counted.specs.CountedStates.{CountedControl, CountedState, counted_first_state}
use Rattle.kk_counted.specs.Heaps.{Heap}
use Rattle.kk_counted.specs.Keeping.{counted_after}
use Rattle.kk_counted.specs.TokenKeeping.{Lists, ListsAfter, FillsAt, FillsAlways}
use Rattle.kk_counted.specs.TokenMachine.{at_code, token_code_step}
use Rattle.kk_counted.specs.TokenRuns.{is_quiet, is_quiet_at, bare_weight, ComesTo}
use Rattle.kk_counted.specs.TokenSpending.{AreTokensSpent}
use Rattle.kk_counted.specs.TokenStates.{TokenSetting, TokenJoin, TokenFrame, TokenControl, TokenConfiguration, TokenState, token_first_state, bare_join, bare_frame, bare_configuration, bare_state, bare_setting}
use Rattle.kk_counted.specs.TokenedCodes.{Tokened}
use Rattle.kk_counted.specs.Tokens.{is_token, Tokens}
use Rattle.kk_counted.proofs.StillForms.{IsStill, free_still, null_still, move_still, hold_still, unhold_still, there_still, absent_still}
use Rattle.kk_counted.proofs.TokenRuns.{weaker, upper, lower, Stands, Related, Passing, simulates, starts}

module _ (weight : CountedState → ℕ) (setting : TokenSetting) (program_spends : AreTokensSpent setting.program) where
  -- steps that tell nothing lead to a state that is the same without its tokens, at a form that the bare form has too
  record Settles (t : TokenState) : Type 0 where
    steps : ℕ
    silent : trace (lower weight setting program_spends) steps t ≡ []
    alike : bare_state (state (lower weight setting program_spends) steps t) ≡ bare_state t
    loud : is_quiet_at (state (lower weight setting program_spends) steps t).machine.control ≡ false

  -- a state that is there already
  settled : (t : TokenState) → is_quiet_at t.machine.control ≡ false → Settles t
  settled t loud = record { steps = 0; silent = refl; alike = refl; loud = loud }

  abbrev at : Tokened → Environment → List TokenJoin → TokenConfiguration → List ℕ → TokenState
  at code environment joins from input = record { machine = at_code code environment joins from; input = input }

  -- the bare form of such a state, at another code
  abbrev with_code : Counted → Environment → List TokenJoin → TokenConfiguration → List ℕ → CountedState
  with_code body environment joins from input =
      record {
        machine = record {
          control = CountedControl.running body environment (map bare_join joins);
          frames = map bare_frame from.frames;
          heap = from.heap;
        };
        input = input;
      }

  -- a state that stands for its own bare form
  abbrev StandsAt : Tokened → Environment → List TokenJoin → TokenConfiguration → List ℕ → Type 0
  StandsAt code environment joins from input =
      Stands weight setting program_spends (bare_state (at code environment joins from input)) (at code environment joins from input)

  -- the rest of a code settles, whatever the tokens are
  abbrev Later : Tokened → Environment → List TokenJoin → TokenConfiguration → List ℕ → Type 0
  Later rest environment joins from input =
      (tokens : Tokens) → StandsAt rest environment joins (record from { tokens = tokens }) input
      → Settles (at rest environment joins (record from { tokens = tokens }) input)

  -- a step that the bare form does not have
  still : (P : Lists → Type 0) (code rest : Tokened) (environment : Environment) (joins : List TokenJoin)
      (from : TokenConfiguration) (input : List ℕ) → is_quiet code ≡ true → bare rest ≡ bare code
      → IsStill setting.cells P (token_code_step setting code environment joins (at_code code environment joins from)) rest
      environment joins (at_code code environment joins from)
      → StandsAt code environment joins from input → Later rest environment joins from input
      → Settles (at code environment joins from input)
  still P code rest environment joins from input quiet same is stands later =
      record {
        steps = suc after.steps;
        silent = ap (λ (p : List Note × TokenState). p.0 ++ trace (lower weight setting program_spends) after.steps p.1) step_is
            ∙ after.silent;
        alike =
            ap (λ (p : List Note × TokenState). bare_state (state (lower weight setting program_spends) after.steps p.1))
            step_is
            ∙ (after.alike ∙ ap (λ body. with_code body environment joins from input) same);
        loud =
            ap (λ (p : List Note × TokenState). is_quiet_at (state (lower weight setting program_spends)
            after.steps p.1).machine.control) step_is ∙ after.loud;
      }
    where
      step_is : (lower weight setting program_spends).step (at code environment joins from input)
          ≡ ([], at rest environment joins (record from { tokens = is.tokens }) input)
      step_is = ap (λ action. performed action input) is.is

      after : Settles (at rest environment joins (record from { tokens = is.tokens }) input)
      after = later is.tokens (record {
        is = refl;
        kept =
            weaker setting.cells P (record (at_code code environment joins from) { tokens = is.tokens })
            (TokenControl.running rest environment joins) is.kept;
        fills =
            λ k. subst (λ (p : List Note × TokenState). FillsAt setting.leaves
            (state (lower weight setting program_spends) k p.1).machine
            (state (lower weight setting program_spends) k p.1).machine.control) step_is (stands.fills (suc k));
        never_stuck =
            λ k. subst (λ body. NotStuck (state (upper weight setting program_spends) k
            (with_code body environment joins from input)).machine.control) (sym same) (stands.never_stuck k);
      })

  -- a state at a code settles
  settles : (code : Tokened) (environment : Environment) (joins : List TokenJoin) (from : TokenConfiguration) (input : List ℕ)
      → StandsAt code environment joins from input → Settles (at code environment joins from input)
  settles (Tokened.free y rest) environment joins from input stands =
      still (ListsAfter (Tokened.free y rest) joins stands.kept.0) (Tokened.free y rest) rest environment joins from input refl refl
      (free_still setting environment joins (at_code (Tokened.free y rest) environment joins from) stands.kept.0 y rest stands.kept.1) stands
      (λ tokens. settles rest environment joins (record from { tokens = tokens }) input)
  settles (Tokened.null y rest) environment joins from input stands =
      still (ListsAfter (Tokened.null y rest) joins stands.kept.0) (Tokened.null y rest) rest environment joins from input refl refl
      (null_still setting environment joins (at_code (Tokened.null y rest) environment joins from) stands.kept.0 y rest stands.kept.1) stands
      (λ tokens. settles rest environment joins (record from { tokens = tokens }) input)
  settles (Tokened.move to of rest) environment joins from input stands =
      still (ListsAfter (Tokened.move to of rest) joins stands.kept.0) (Tokened.move to of rest) rest environment joins from input refl refl
      (move_still setting environment joins (at_code (Tokened.move to of rest) environment joins from) stands.kept.0 to of rest stands.kept.1) stands
      (λ tokens. settles rest environment joins (record from { tokens = tokens }) input)
  settles (Tokened.hold y rest) environment joins from input stands =
      still (ListsAfter (Tokened.hold y rest) joins stands.kept.0) (Tokened.hold y rest) rest environment joins from input refl refl
      (hold_still setting environment joins (at_code (Tokened.hold y rest) environment joins from) stands.kept.0 y rest stands.kept.1) stands
      (λ tokens. settles rest environment joins (record from { tokens = tokens }) input)
  settles (Tokened.unhold y rest) environment joins from input stands =
      still (ListsAfter (Tokened.unhold y rest) joins stands.kept.0) (Tokened.unhold y rest) rest environment joins from input refl refl
      (unhold_still setting environment joins (at_code (Tokened.unhold y rest) environment joins from) stands.kept.0 y rest stands.kept.1) stands
      (λ tokens. settles rest environment joins (record from { tokens = tokens }) input)
  settles (Tokened.if_token y there absent) environment joins from input stands =
      by_test (is_token (from.tokens.slots (length from.frames) y)) refl
      (λ tokens. settles there environment joins (record from { tokens = tokens }) input)
      (λ tokens. settles absent environment joins (record from { tokens = tokens }) input)
    where
      by_test : (t : Bool) → is_token (from.tokens.slots (length from.frames) y) ≡ t
          → Later there environment joins from input → Later absent environment joins from input
          → Settles (at (Tokened.if_token y there absent) environment joins from input)
      by_test true test later other =
          still (ListsAfter (Tokened.if_token y there absent) joins stands.kept.0) (Tokened.if_token y there absent) there
          environment joins from input refl refl
          (there_still setting environment joins (at_code (Tokened.if_token y there absent) environment joins from) stands.kept.0 y
          there absent stands.kept.1 test) stands later
      by_test false test other later =
          still (ListsAfter (Tokened.if_token y there absent) joins stands.kept.0) (Tokened.if_token y there absent) absent
          environment joins from input refl stands.kept.1.spends.1.0
          (absent_still setting environment joins (at_code (Tokened.if_token y there absent) environment joins from) stands.kept.0 y
          there absent stands.kept.1 test) stands later
  settles (Tokened.give x) environment joins from input stands =
      settled (at (Tokened.give x) environment joins from input) refl
  settles (Tokened.tail_call f arguments) environment joins from input stands =
      settled (at (Tokened.tail_call f arguments) environment joins from input) refl
  settles (Tokened.case x decisions arms) environment joins from input stands =
      settled (at (Tokened.case x decisions arms) environment joins from input) refl
  settles (Tokened.compute x form arguments others rest) environment joins from input stands =
      settled (at (Tokened.compute x form arguments others rest) environment joins from input) refl
  settles (Tokened.inside x block rest) environment joins from input stands =
      settled (at (Tokened.inside x block rest) environment joins from input) refl
  settles (Tokened.read x c fields rest) environment joins from input stands =
      settled (at (Tokened.read x c fields rest) environment joins from input) refl
  settles (Tokened.open_cell x c fields used y rest) environment joins from input stands =
      settled (at (Tokened.open_cell x c fields used y rest) environment joins from input) refl
  settles (Tokened.if_unique x c fields used y rest) environment joins from input stands =
      settled (at (Tokened.if_unique x c fields used y rest) environment joins from input) refl
  settles (Tokened.dup x rest) environment joins from input stands =
      settled (at (Tokened.dup x rest) environment joins from input) refl
  settles (Tokened.drop x rest) environment joins from input stands =
      settled (at (Tokened.drop x rest) environment joins from input) refl
  settles (Tokened.fill x y c first arguments left others rest) environment joins from input stands =
      settled (at (Tokened.fill x y c first arguments left others rest) environment joins from input) refl

  -- each state that stands settles
  stands_settles : (s : CountedState) (t : TokenState) → Stands weight setting program_spends s t → Settles t
  stands_settles s t stands =
      by_control t.machine.control t.machine.frames t.machine.heap t.machine.tokens t.input
      (subst (λ u. Stands weight setting program_spends u t) (sym stands.is) stands)
    where
      by_control : (control : TokenControl) (frames : List TokenFrame) (heap : Heap) (tokens : Tokens) (input : List ℕ)
          → Stands weight setting program_spends (bare_state (record {
            machine = record { control = control; frames = frames; heap = heap; tokens = tokens };
            input = input;
          })) (record {
            machine = record { control = control; frames = frames; heap = heap; tokens = tokens };
            input = input;
          })
          → Settles (record {
            machine = record { control = control; frames = frames; heap = heap; tokens = tokens };
            input = input;
          })
      by_control (TokenControl.running code environment joins) frames heap tokens input stood =
          settles code environment joins (record { control = TokenControl.stuck; frames = frames; heap = heap; tokens = tokens })
          input stood
      by_control (TokenControl.stopped by) frames heap tokens input stood =
          settled (record {
            machine = record { control = TokenControl.stopped by; frames = frames; heap = heap; tokens = tokens };
            input = input;
          }) refl
      by_control TokenControl.stuck frames heap tokens input stood =
          settled (record {
            machine = record { control = TokenControl.stuck; frames = frames; heap = heap; tokens = tokens };
            input = input;
          }) refl

  -- the run with tokens comes to each state of the bare run
  pub comes_to_each : (input : List ℕ) → FillsAlways (bare_weight weight) setting input
      → ((n : ℕ) → NotStuck (counted_after weight (bare_setting setting) input n).control)
      → (n : ℕ) → ComesTo weight (bare_weight weight) setting input n
  comes_to_each input fills never_stuck n =
      let reaches = simulates_many (upper weight setting program_spends) (lower weight setting program_spends)
      (Related weight setting program_spends) (Passing weight setting program_spends) 1 (simulates weight setting program_spends) n
      0 0 (counted_first_state (bare_setting setting) input) (token_first_state setting input)
      (starts weight setting program_spends input fills never_stuck) in
      let m = reaches.steps in
      let start = token_first_state setting input in
      let machine = lower weight setting program_spends in
      let there = state machine m start in
      let settling = stands_settles (state (upper weight setting program_spends) n (counted_first_state (bare_setting setting) input))
      there reaches.related in
      let whole : state machine (m + settling.steps) start ≡ state machine settling.steps there
      = state-add machine m settling.steps start in (
        m + settling.steps,
        (
          ap (λ (t : TokenState). bare_configuration t.machine) whole
              ∙ (ap (λ (s : CountedState). s.machine) (settling.alike ∙ reaches.related.is)),
          (
            trace-add machine m settling.steps start
                ∙ (ap (λ notes. trace machine m start ++ notes) settling.silent
                ∙ (append-nil (trace machine m start) ∙ reaches.events_are)),
            ap (λ (t : TokenState). is_quiet_at t.machine.control) whole ∙ settling.loud,
          ),
        ),
      )
