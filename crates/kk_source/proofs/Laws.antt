-- Laws of whole runs, from those of the store machine.
use Rattle.std.proofs.Common.{◌≡◌, ℕ, zero, suc, ◌≤◌, true, List, ◌++◌, Option, Some, None, refl, sym, ap, ◌∙◌, subst, option_map}
use Rattle.std.specs.Prelude.{◌↔◌}
use Rattle.std.specs.List.{flat_map}
use Rattle.std.proofs.lemmas.Grind.{flat_map-append}
use Rattle.kk_base.specs.Trace.{Event, TakesFrom, IsPrefix}
use Rattle.kk_base.specs.Machines.{Machine, trace, state, ending_after, mapped}
use Rattle.kk_base.proofs.Machines.{trace-mapped}
use Rattle.kk_source.specs.State.{Setting, End, Value}
use Rattle.kk_source.specs.Notes.{events_of}
use Rattle.kk_source.specs.Live.{is_live, Reached}
use Rattle.kk_source.specs.Step.{step_of}
use Rattle.kk_source.specs.SourceAfter.{ending_of, store_machine, source_machine, first_state, After, source_after, HasRoom}
use Rattle.kk_source.specs.Sound.{Sound}
use Rattle.kk_source.proofs.Live.{live_reached, reached_live}
use Rattle.kk_source.proofs.RunInvariants.{run_keeps}
use Rattle.kk_source.proofs.StateSoundness.{step_sound, start_sound}
use Rattle.kk_source.proofs.RoomMonotonicity.{goes_further}
use Rattle.kk_source.proofs.InputDependence.{same_taken}

-- a machine of which less is seen comes to the same states
state-mapped : {S E F W V : Type 0} (events : E → List F) (seen : W → V) (machine : Machine S E W) (n : ℕ) (s : S) → state (mapped events seen machine) n s ≡ state machine n s
state-mapped events seen machine zero s = refl
state-mapped events seen machine (suc n) s = state-mapped events seen machine n (machine.step s).1

module _ (setting : Setting) where
  pub runs_are_sound : (input : List ℕ) (n : ℕ) → Sound (state (store_machine setting) n (first_state setting input)).machine
  runs_are_sound input n = run_keeps Sound (λ s. 1) ending_of (step_of setting) (step_sound setting) n (first_state setting input) (start_sound setting)

  pub live_is_reached : (input : List ℕ) (n : ℕ) (values : List Value) (at : ℕ) → (is_live (state (store_machine setting) n (first_state setting input)).machine.store values at ≡ true) ↔ Reached (state (store_machine setting) n (first_state setting input)).machine.store values at
  live_is_reached input n values at =
      let s = state (store_machine setting) n (first_state setting input) in
      let older = (runs_are_sound input n).older in
      (reached_live s.machine.store older values at, live_reached s.machine.store older values at)

  -- what the world sees
  seen_trace : (input : List ℕ) (n : ℕ) → (source_after setting input n).trace ≡ flat_map events_of (trace (store_machine setting) n (first_state setting input))
  seen_trace input n = trace-mapped events_of (λ end. end) (store_machine setting) n (first_state setting input)

  same_ending : (how : Option End) → option_map (λ end. end) how ≡ how
  same_ending None = refl
  same_ending (Some end) = refl

  pub seen_ending : (input : List ℕ) (n : ℕ) → (source_after setting input n).ending ≡ ending_after (store_machine setting) n (first_state setting input)
  seen_ending input n =
      same_ending (ending_of (state (source_machine setting) n (first_state setting input)))
      ∙ ap ending_of (state-mapped events_of (λ end. end) (store_machine setting) n (first_state setting input))

same_after : (a b : After) → a.trace ≡ b.trace → a.ending ≡ b.ending → a ≡ b
same_after a b t e = ap (λ (x : List Event). record { trace = x; ending = a.ending }) t ∙ ap (λ (x : Option End). record { trace = b.trace; ending = x }) e

pub longer_trace : (setting : Setting) (input : List ℕ) (cells depth : ℕ) → setting.cells ≤ cells → setting.depth ≤ depth → (n : ℕ) → IsPrefix (source_after setting input n).trace (source_after (record setting { cells = cells; depth = depth }) input n).trace
longer_trace setting input cells depth c d n =
    let large : Setting = record setting { cells = cells; depth = depth } in
    let f = goes_further setting cells depth c d n (first_state setting input) in (
      flat_map events_of f.prefix.0,
      ap (λ (l : List Event). l ++ flat_map events_of f.prefix.0) (seen_trace setting input n)
          ∙ (sym (flat_map-append events_of (trace (store_machine setting) n (first_state setting input)) f.prefix.0)
          ∙ (ap (flat_map events_of) f.prefix.1 ∙ sym (seen_trace large input n))),
    )

pub same_with_room : (setting : Setting) (input : List ℕ) (cells depth : ℕ) → setting.cells ≤ cells → setting.depth ≤ depth → (n : ℕ) → HasRoom (source_after setting input n).ending → source_after (record setting { cells = cells; depth = depth }) input n ≡ source_after setting input n
same_with_room setting input cells depth c d n room =
    let large : Setting = record setting { cells = cells; depth = depth } in
    let f = goes_further setting cells depth c d n (first_state setting input) in
    let has_room = subst HasRoom (seen_ending setting input n) room in
    same_after _ _ (seen_trace large input n ∙ (ap (flat_map events_of) (f.trace_is has_room) ∙ sym (seen_trace setting input n)))
    (seen_ending large input n ∙ (ap ending_of (f.state_is has_room) ∙ sym (seen_ending setting input n)))

pub same_input_taken : (setting : Setting) (input other rest : List ℕ) (n : ℕ) → TakesFrom (source_after setting input n).trace other rest → source_after setting other n ≡ source_after setting input n
same_input_taken setting input other rest n takes_from =
    let s = same_taken setting n (first_state setting input).machine input other rest (subst (λ (l : List Event). TakesFrom l other rest) (seen_trace setting input n) takes_from) in
    same_after _ _ (seen_trace setting other n ∙ (ap (flat_map events_of) s.trace_is ∙ sym (seen_trace setting input n)))
    (seen_ending setting other n ∙ (ap ending_of s.state_is ∙ sym (seen_ending setting input n)))
