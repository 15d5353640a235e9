-- What a run does depends on the input that it has taken alone.
use Rattle.std.proofs.Common.{◌≡◌, ℕ, zero, suc, List, [], ◌∷◌, ◌++◌, Option, Some, None, refl, sym, ap, ◌∙◌, subst}
use Rattle.std.specs.List.{flat_map}
use Rattle.kk_base.specs.Trace.{output, input as taken, input_end, TakesFrom}
use Rattle.kk_base.specs.Machines.{step_unless, trace, state}
use Rattle.kk_base.proofs.Machines.{trace_ended, state_ended}
use Rattle.kk_source.specs.State.{Setting, End, Configuration}
use Rattle.kk_source.specs.Notes.{Note, seen, built, called, events_of}
use Rattle.kk_source.specs.Step.{step_of}
use Rattle.kk_source.specs.SourceAfter.{step, ending_of, store_machine, State}
use Rattle.kk_source.specs.Actions.{Action, goes, puts, takes, builds, calls, performed}

abbrev at : Configuration → List ℕ → State
at machine input = record { machine = machine; input = input }

-- from the same machine with another input, the events of which come from that input too
pub record Same (setting : Setting) (n : ℕ) (machine : Configuration) (input other rest : List ℕ) : Type 0 where
  pub trace_is : trace (store_machine setting) n (at machine other) ≡ trace (store_machine setting) n (at machine input)
  pub state_is : state (store_machine setting) n (at machine other) ≡ record { machine = (state (store_machine setting) n (at machine input)).machine; input = rest }

module _ (setting : Setting) where
  abbrev Later : ℕ → Type 0
  Later n = (machine : Configuration) (input other rest : List ℕ) → TakesFrom (flat_map events_of (trace (store_machine setting) n (at machine input))) other rest → Same setting n machine input other rest

  -- one step with both inputs
  same_next : (n : ℕ) (machine next : Configuration) (input left other over rest : List ℕ) (notes : List Note) → (store_machine setting).step (at machine input) ≡ (notes, at next left) → (store_machine setting).step (at machine other) ≡ (notes, at next over) → Same setting n next left over rest → Same setting (suc n) machine input other rest
  same_next n machine next input left other over rest notes first second later = record {
    trace_is =
        ap (λ (p : List Note × State). p.0 ++ trace (store_machine setting) n p.1) second
        ∙ (ap (λ (l : List Note). notes ++ l) later.trace_is ∙ sym (ap (λ (p : List Note × State). p.0 ++ trace (store_machine setting) n p.1) first));
    state_is =
        ap (λ (p : List Note × State). state (store_machine setting) n p.1) second
        ∙ (later.state_is ∙ sym (ap (λ (p : List Note × State). record { machine = (state (store_machine setting) n p.1).machine; input = rest }) first));
  }

  -- what the world sees of a step's note, and of those behind it
  from_later : (n : ℕ) (machine next : Configuration) (input left other rest : List ℕ) (notes : List Note) → (store_machine setting).step (at machine input) ≡ (notes, at next left) → TakesFrom (flat_map events_of (trace (store_machine setting) (suc n) (at machine input))) other rest → TakesFrom (flat_map events_of (notes ++ trace (store_machine setting) n (at next left))) other rest
  from_later n machine next input left other rest notes first from_it =
      subst (λ (l : List Note). TakesFrom (flat_map events_of l) other rest) (ap (λ (p : List Note × State). p.0 ++ trace (store_machine setting) n p.1) first) from_it

  by_action : (n : ℕ) (machine : Configuration) (input other rest : List ℕ) (action : Action Configuration) → Later n → ((i : List ℕ) → (store_machine setting).step (at machine i) ≡ performed action i) → TakesFrom (flat_map events_of (trace (store_machine setting) (suc n) (at machine input))) other rest → Same setting (suc n) machine input other rest
  by_action n machine input other rest (goes to) later is takes_from =
      same_next n machine to input input other other rest [] (is input) (is other) (later to input other rest (from_later n machine to input input other rest [] (is input) takes_from))
  by_action n machine input other rest (puts piece to) later is takes_from =
      same_next n machine to input input other other rest _ (is input) (is other) (later to input other rest (from_later n machine to input input other rest (seen (output piece) ∷ []) (is input) takes_from))
  by_action n machine input other rest (builds found to) later is takes_from =
      same_next n machine to input input other other rest _ (is input) (is other) (later to input other rest (from_later n machine to input input other rest (built found ∷ []) (is input) takes_from))
  by_action n machine input other rest (calls found to) later is takes_from =
      same_next n machine to input input other other rest _ (is input) (is other) (later to input other rest (from_later n machine to input input other rest (called found ∷ []) (is input) takes_from))
  by_action n machine [] [] rest (takes to) later is takes_from =
      same_next n machine (to None) [] [] [] [] rest _ (is []) (is []) (later (to None) [] [] rest (from_later n machine (to None) [] [] [] rest (seen input_end ∷ []) (is []) takes_from))
  by_action n machine [] (c ∷ other) rest (takes to) later is takes_from =
      absurd (from_later n machine (to None) [] [] (c ∷ other) rest (seen input_end ∷ []) (is []) takes_from)
  by_action n machine (b ∷ input) [] rest (takes to) later is takes_from =
      absurd (from_later n machine (to (Some b)) (b ∷ input) input [] rest (seen (taken b) ∷ []) (is (b ∷ input)) takes_from)
  by_action n machine (b ∷ input) (c ∷ other) rest (takes to) later is takes_from =
      let both = from_later n machine (to (Some b)) (b ∷ input) input (c ∷ other) rest (seen (taken b) ∷ []) (is (b ∷ input)) takes_from in
      same_next n machine (to (Some b)) (b ∷ input) input (c ∷ other) other rest (seen (taken b) ∷ []) (is (b ∷ input))
      (is (c ∷ other) ∙ ap (λ (x : ℕ). (seen (taken x) ∷ [], at (to (Some x)) other)) (sym both.0))
      (later (to (Some b)) input other rest both.1)

  pub same_taken : (n : ℕ) → Later n
  same_taken zero machine input other rest takes_from = record { trace_is = refl; state_is = ap (at machine) takes_from }
  same_taken (suc n) machine input other rest takes_from = by_end (ending_of (at machine input)) refl (same_taken n)
    where
      by_end : (how : Option End) → ending_of (at machine input) ≡ how → Later n → Same setting (suc n) machine input other rest
      by_end None e later =
          by_action n machine input other rest (step_of setting machine) later (λ i. ap (λ how. step_unless how (at machine i) (step setting (at machine i))) e) takes_from
      by_end (Some w) e later =
          let none : trace (store_machine setting) (suc n) (at machine input) ≡ [] = trace_ended (store_machine setting) (suc n) (at machine input) w e in
          let rest_is : other ≡ rest = subst (λ (l : List Note). TakesFrom (flat_map events_of l) other rest) none takes_from in
          record {
            trace_is = trace_ended (store_machine setting) (suc n) (at machine other) w e ∙ sym none;
            state_is =
                state_ended (store_machine setting) (suc n) (at machine other) w e
                ∙ (ap (at machine) rest_is ∙ ap (λ (s : State). record { machine = s.machine; input = rest }) (sym (state_ended (store_machine setting) (suc n) (at machine input) w e)));
          }
