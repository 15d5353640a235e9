-- Deterministic machines: what they do in so many steps, what these steps weigh, and how they end.
-- A machine's input is fixed from the start: it is a list in the state. Where a machine may choose, its choices are a
-- parameter of its definition.
use Rattle.std.specs.Prelude.{◌≡◌, ℕ, zero, suc, ◌+◌, ◌≤◌, List, [], ◌++◌, length, drop, Option, Some, None, option_map}
use Rattle.std.specs.List.{flat_map}
use Rattle.std.proofs.Common.{ap, subst, refl}

-- from a state, the events of the next step and the state after it; how a state has ended, if it has; and what the next
-- step weighs. An ended state stays as it is, without an event, and weighs nothing.
pub record Machine (S E W : Type 0) : Type 0 where
  pub step : S → List E × S
  pub ending : S → Option W
  pub weight : S → ℕ
  pub stays : (s : S) (w : W) → ending s ≡ Some w → step s ≡ ([], s)
  pub weightless : (s : S) (w : W) → ending s ≡ Some w → weight s ≡ 0

-- the step of a state that has not ended; one that has stays
abbrev pub step_unless : {S E W : Type 0} → Option W → S → List E × S → List E × S
step_unless None s next = next
step_unless (Some w) s next = ([], s)

-- the weight of a step of a state that has not ended; one that has weighs nothing
abbrev pub weight_unless : {W : Type 0} → Option W → ℕ → ℕ
weight_unless None weight = weight
weight_unless (Some w) weight = 0

-- the machine that takes steps of these weights until it has ended
abbrev pub weighing : {S E W : Type 0} → (S → ℕ) → (S → Option W) → (S → List E × S) → Machine S E W
weighing weight ending step =
    record {
      step = λ s. step_unless (ending s) s (step s);
      ending = ending;
      weight = λ s. weight_unless (ending s) (weight s);
      stays = λ s w ended. ap (λ how. step_unless how s (step s)) ended;
      weightless = λ s w ended. ap (λ how. weight_unless how (weight s)) ended;
    }

-- the machine that takes steps until it has ended, of which each weighs 1
abbrev pub until : {S E W : Type 0} → (S → Option W) → (S → List E × S) → Machine S E W
until ending step = weighing (λ s. 1) ending step

-- the machine of states that hold what they have told so far: the events of a step are those that it adds
abbrev pub telling : {S E W : Type 0} → (S → Option W) → (S → S) → (S → List E) → Machine S E W
telling ending next told = until ending (λ s. (drop (length (told s)) (told (next s)), next s))

-- the events of n steps, the first one first; after the end there are no more
abbrev pub trace : {S E W : Type 0} → Machine S E W → ℕ → S → List E
trace machine zero s = []
trace machine (suc n) s = (machine.step s).0 ++ trace machine n (machine.step s).1

-- the state after n steps, or after fewer where the machine ended
abbrev pub state : {S E W : Type 0} → Machine S E W → ℕ → S → S
state machine zero s = s
state machine (suc n) s = state machine n (machine.step s).1

-- what n steps weigh in all
abbrev pub weight_of : {S E W : Type 0} → Machine S E W → ℕ → S → ℕ
weight_of machine zero s = 0
weight_of machine (suc n) s = machine.weight s + weight_of machine n (machine.step s).1

-- how the machine has ended within n steps, if it has
abbrev pub ending_after : {S E W : Type 0} → Machine S E W → ℕ → S → Option W
ending_after machine n s = machine.ending (state machine n s)

-- each step of a state that has not ended weighs at least 1
abbrev pub WeighsEach : {S E W : Type 0} → Machine S E W → Type 0
WeighsEach {S} machine = (s : S) → machine.ending s ≡ None → 1 ≤ machine.weight s

-- an ending that is made of another is there where the other is
pub ending_made : {W V : Type 0} (seen : W → V) (how : Option W) (v : V) → option_map seen how ≡ Some v → (w : W) × (how ≡ Some w)
ending_made seen None v ended = absurd (subst (λ how. elim how as (λ _. Type 0) [ None ↦ Unit {0} | Some w ↦ ⊥ ]) ended tt)
ending_made seen (Some w) v ended = (w, refl)

-- the machine that does the same, and of which less or other is seen: each event as some events, each ending as another
abbrev pub mapped : {S E F W V : Type 0} → (E → List F) → (W → V) → Machine S E W → Machine S F V
mapped {S} {E} {F} {W} {V} events seen machine =
    record {
      step = λ s. (flat_map events (machine.step s).0, (machine.step s).1);
      ending = λ s. option_map seen (machine.ending s);
      weight = machine.weight;
      stays = λ s v ended. let made = ending_made seen (machine.ending s) v ended in ap (λ (next : List E × S). (flat_map events next.0, next.1)) (machine.stays s made.0 made.1);
      weightless = λ s v ended. let made = ending_made seen (machine.ending s) v ended in machine.weightless s made.0 made.1;
    }
