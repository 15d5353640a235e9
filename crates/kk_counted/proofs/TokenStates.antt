-- Each state of a run with tokens is, without its tokens, a state of the run of the bare form.
use Rattle.std.proofs.Common.{◌≡◌, ℕ, zero, suc, Bool, true, false, List, [], refl, sym, ap, ◌∙◌}
use Rattle.kk_base.specs.Machines.{state}
use Rattle.kk_source.specs.State.{Environment}
use Rattle.kk_source.specs.Actions.{performed}
use Rattle.kk_counted.proofs.TokenRuns.{led_alike, same_run, function_at}
use Rattle.kk_counted.proofs.TokenSteps.{follows}
use Rattle.kk_counted.proofs.TokenOnlyForms.{unseen}
use Rattle.kk_counted.specs.CountedMachine.{NotStuck, counted_machine}
use Rattle.kk_counted.specs.CountedStates.{CountedControl, CountedConfiguration, CountedState, counted_first_state}
use Rattle.kk_counted.specs.CountedCodes.{CountedFunction}
use Rattle.kk_counted.specs.Heaps.{Heap}
use Rattle.kk_counted.specs.Keeping.{counted_after}
use Rattle.kk_counted.specs.TokenKeeping.{AreKept, AreKeptAt, FillsAt, FillsAlways, token_after}
use Rattle.kk_counted.specs.TokenMachine.{token_machine, token_code_step}
use Rattle.kk_counted.specs.TokenRuns.{is_quiet, bare_weight}
use Rattle.kk_counted.specs.TokenSpending.{AreTokensSpent}
use Rattle.kk_counted.specs.TokenStates.{TokenSetting, TokenJoin, TokenFrame, TokenControl, TokenConfiguration, TokenState, token_first_state, bare_configuration, bare_state, bare_setting}
use Rattle.kk_counted.specs.TokenedCodes.{Tokened}
use Rattle.kk_counted.specs.Tokens.{Tokens}

module _ (weight : CountedState → ℕ) (setting : TokenSetting) (spent : AreTokensSpent setting.program) where
  abbrev StateOf : CountedState → TokenState → Type 0
  StateOf first t = (m : ℕ) × (bare_state t ≡ state (counted_machine weight (bare_setting setting)) m first)

  last_step : (m : ℕ) (s : CountedState)
      → state (counted_machine weight (bare_setting setting)) (suc m) s
      ≡ ((counted_machine weight (bare_setting setting)).step (state (counted_machine weight (bare_setting setting)) m s)).1
  last_step zero s = refl
  last_step (suc m) s = last_step m ((counted_machine weight (bare_setting setting)).step s).1

  -- the configuration that runs a code
  abbrev at : Tokened → Environment → List TokenJoin → List TokenFrame → Heap → Tokens → TokenConfiguration
  at code environment joins frames heap tokens =
      record { control = TokenControl.running code environment joins; frames = frames; heap = heap; tokens = tokens }

  running_step : (first : CountedState) (code : Tokened) (environment : Environment) (joins : List TokenJoin)
      (frames : List TokenFrame) (heap : Heap) (tokens : Tokens) (input : List ℕ)
      → AreKeptAt setting.cells (at code environment joins frames heap tokens) (TokenControl.running code environment joins)
      → FillsAt setting.leaves (at code environment joins frames heap tokens) (TokenControl.running code environment joins)
      → StateOf first (record { machine = at code environment joins frames heap tokens; input = input })
      → (quiet : Bool) → is_quiet code ≡ quiet
      → StateOf first (performed (token_code_step setting code environment joins (at code environment joins frames heap tokens))
      input).1
  running_step first code environment joins frames heap tokens input kept fills is false quiet = (
    suc is.0,
    led_alike (token_code_step setting code environment joins (at code environment joins frames heap tokens)) input
        ∙ (ap (λ action. (performed action input).1)
        (follows setting spent kept.0 code environment joins
        (at code environment joins frames heap tokens) kept.1 fills quiet).does
        ∙ (ap (λ s. ((counted_machine weight (bare_setting setting)).step s).1) is.1 ∙ sym (last_step is.0 first))),
  )
  running_step first code environment joins frames heap tokens input kept fills is true quiet =
      let still = unseen setting kept.0 environment joins (at code environment joins frames heap tokens) code kept.1 quiet in (
        is.0,
        ap (λ action. bare_state (performed action input).1) still.is
            ∙ (ap (λ (c : CountedConfiguration). record { machine = c; input = input }) still.alike ∙ is.1),
      )

  one_step : (first : CountedState) (t : TokenState) → AreKept setting.cells t.machine
      → FillsAt setting.leaves t.machine t.machine.control
      → StateOf first t → StateOf first ((token_machine (bare_weight weight) setting).step t).1
  one_step first t kept fills is = by_control t.machine.control t.machine.frames t.machine.heap t.machine.tokens t.input kept fills
      is
    where
      by_control : (control : TokenControl) (frames : List TokenFrame) (heap : Heap) (tokens : Tokens) (input : List ℕ)
          → AreKept setting.cells (record { control = control; frames = frames; heap = heap; tokens = tokens })
          → FillsAt setting.leaves (record { control = control; frames = frames; heap = heap; tokens = tokens }) control
          → StateOf first (record {
            machine = record { control = control; frames = frames; heap = heap; tokens = tokens };
            input =
                input;
          })
          → StateOf first ((token_machine (bare_weight weight) setting).step
          (record { machine = record { control = control; frames = frames; heap = heap; tokens = tokens }; input = input })).1
      by_control (TokenControl.running code environment joins) frames heap tokens input kept fills is =
          running_step first code environment joins frames heap tokens input kept fills is (is_quiet code) refl
      by_control (TokenControl.stopped by) frames heap tokens input kept fills is = is
      by_control TokenControl.stuck frames heap tokens input kept fills is = is

  from_state : (first : CountedState) (n : ℕ) (t : TokenState)
      → ((k : ℕ) → AreKept setting.cells (state (token_machine (bare_weight weight) setting) k t).machine)
      → ((k : ℕ) → FillsAt setting.leaves (state (token_machine (bare_weight weight) setting) k t).machine
      (state (token_machine (bare_weight weight) setting) k t).machine.control)
      → StateOf first t → StateOf first (state (token_machine (bare_weight weight) setting) n t)
  from_state first zero t kept fills is = is
  from_state first (suc n) t kept fills is =
      from_state first n ((token_machine (bare_weight weight) setting).step t).1 (λ k. kept (suc k)) (λ k. fills (suc k))
      (one_step first t (kept zero) (fills zero) is)

  pub states_are_bare : (input : List ℕ) → FillsAlways (bare_weight weight) setting input
      → ((n : ℕ) → NotStuck (counted_after weight (bare_setting setting) input n).control)
      → (n : ℕ) → (m : ℕ) × (bare_configuration (token_after (bare_weight weight) setting input n) ≡ counted_after weight
      (bare_setting setting) input m)
  states_are_bare input fills never_stuck n =
      let is = from_state (counted_first_state (bare_setting setting) input) n (token_first_state setting input)
      (λ k. (same_run weight setting spent input fills never_stuck).kept k) fills (zero, sym (first_bare input)) in
      (is.0, ap (λ (s : CountedState). s.machine) is.1)
    where
      first_bare : (input : List ℕ) → counted_first_state (bare_setting setting) input ≡ bare_state
          (token_first_state setting input)
      first_bare input =
          ap (λ (function : CountedFunction). record {
            machine = record { control = CountedControl.running function.body [] []; frames = []; heap = [] };
            input = input;
          }) (function_at setting.program.functions setting.program.main)
