-- Steps of the counted machine, one after the other, to a state of some kind.
use Rattle.std.proofs.Common.{◌≡◌, ℕ, zero, suc, ◌+◌, ◌≤◌, ◌<◌, List, [], ◌++◌, map, Option, Some, arith, refl, sym, ap, ◌∙◌, subst}
use Rattle.kk_base.specs.Machines.{Machine, trace, state, weight_of}
use Rattle.kk_source.specs.State.{Value, Store, Environment, End}
use Rattle.kk_source.specs.Live.{value_of}
use Rattle.kk_source.specs.Actions.{Action, goes, performed}
use Rattle.kk_source.specs.Notes.{Note}
use Rattle.kk_core.specs.Decisions.{NodeTree}
use Rattle.kk_core.specs.Kinds.{TakesKinds}
use Rattle.kk_counted.specs.CountedCodes.{Counted, give, tail_call, case, compute, inside, read, open_cell, if_unique, dup, drop}
use Rattle.kk_counted.specs.Heaps.{Heap, forwards, dup_value, drop_value}
use Rattle.kk_counted.specs.CountedStates.{CountedSetting, CountedJoin, CountedFrame, CountedControl, running, stopped, stuck, CountedConfiguration, CountedState}
use Rattle.kk_counted.specs.CountedCosts.{roomy_cost}
use Rattle.kk_counted.specs.CountedMachine.{with_heap, counted_code_step, counted_machine, NotStuck}
use Rattle.kk_counted.specs.Keeping.{FitsAt, HasShape}
use Rattle.kk_insert.specs.Meaning.{EndsClean}

-- what is run, and for how much each of its forms but a dup and a drop has room
pub record Priced : Type 0 where
  pub setting : CountedSetting
  pub room : ℕ

-- steps weigh what they cost, with the room
abbrev pub lower : Priced → Machine CountedState Note End
lower priced = counted_machine (roomy_cost priced.room) priced.setting

-- what may be known of a case: of its value in a store, and of its decisions
abbrev pub no_test : Store → Value → List NodeTree → Type 0
no_test store v decisions = ⊥

-- what a code takes is of the kinds that it asks for, where that is known of cases
abbrev pub IsFed : (Store → Value → List NodeTree → Type 0) → Heap → CountedControl → Type 0
IsFed Test heap (running (case x decisions arms) environment joins) = Test (forwards heap) (value_of environment x) decisions
IsFed Test heap (running (compute x form arguments rest) environment joins) =
    TakesKinds form (map (value_of environment) arguments)
IsFed Test heap _ = Unit {0}

-- a state that is not stuck, and finds what it asks for
abbrev pub PassingBy : (Store → Value → List NodeTree → Type 0) → CountedSetting → CountedState → Type 0
PassingBy Test setting t =
    NotStuck t.machine.control × (FitsAt t.machine.control × (EndsClean t.machine.control t.machine.heap
    × (HasShape setting.program.functions (forwards t.machine.heap) t.machine.control × IsFed Test t.machine.heap t.machine.control)))

-- one that is not at a case
abbrev pub Passing : CountedSetting → CountedState → Type 0
Passing = PassingBy no_test

-- not at a case, it is known whatever is known of cases
pub passing_by : (Test : Store → Value → List NodeTree → Type 0) (setting : CountedSetting) (t : CountedState)
    → Passing setting t → PassingBy Test setting t
passing_by Test setting t passing =
    (passing.0, (passing.1.0, (passing.1.1.0, (passing.1.1.1.0, by_control t.machine.heap t.machine.control passing.1.1.1.1))))
  where
    by_code : (heap : Heap) (environment : Environment) (joins : List CountedJoin) (code : Counted)
        → IsFed no_test heap (running code environment joins) → IsFed Test heap (running code environment joins)
    by_code heap environment joins (give x) fed = tt
    by_code heap environment joins (tail_call f arguments) fed = tt
    by_code heap environment joins (case x decisions arms) fed = absurd fed
    by_code heap environment joins (compute x form arguments rest) fed = fed
    by_code heap environment joins (inside x block rest) fed = tt
    by_code heap environment joins (read x c fields rest) fed = tt
    by_code heap environment joins (open_cell x c fields used rest) fed = tt
    by_code heap environment joins (if_unique x c fields used rest) fed = tt
    by_code heap environment joins (dup x rest) fed = tt
    by_code heap environment joins (drop x rest) fed = tt

    by_control : (heap : Heap) (control : CountedControl) → IsFed no_test heap control → IsFed Test heap control
    by_control heap (running code environment joins) fed = by_code heap environment joins code fed
    by_control heap (stopped by) fed = tt
    by_control heap stuck fed = tt

-- the machine at a code
abbrev pub conf : Counted → Environment → List CountedJoin → List CountedFrame → Heap → CountedConfiguration
conf code environment joins frames heap =
    record { control = running code environment joins; frames = frames; heap = heap }

abbrev pub with_input : CountedConfiguration → List ℕ → CountedState
with_input c input = record { machine = c; input = input }

-- From a state some steps with these notes, at least so many, lead to a state of a kind, through states of another kind. What
-- they cost, and what is saved behind them, is at most `most`; and the kind says for how much a state stands that is saved.
pub record PathBy (Q : CountedState → Type 0) (priced : Priced) (least most : ℕ) (events : List Note)
    (P : ℕ → CountedState → Type 0) (t : CountedState) : Type 0 where
  pub steps : ℕ
  pub saved : ℕ
  pub enough : least ≤ steps
  pub paid : weight_of (lower priced) steps t + saved ≤ most
  pub tells : trace (lower priced) steps t ≡ events
  pub passes : (k : ℕ) → k < steps → Q (state (lower priced) k t)
  pub ends : P saved (state (lower priced) steps t)

-- through states that are not at a case
abbrev pub Path : Priced → ℕ → ℕ → List Note → (ℕ → CountedState → Type 0) → CountedState → Type 0
Path priced = PathBy (Passing priced.setting) priced

-- a path through states of one kind is one through states of another
pub path_by : (Q R : CountedState → Type 0) (priced : Priced) (least most : ℕ) (events : List Note)
    (P : ℕ → CountedState → Type 0) (t : CountedState) → ((u : CountedState) → Q u → R u)
    → PathBy Q priced least most events P t → PathBy R priced least most events P t
path_by Q R priced least most events P t other path =
    record {
      steps = path.steps;
      saved = path.saved;
      enough = path.enough;
      paid = path.paid;
      tells = path.tells;
      passes = λ k less. other (state (lower priced) k t) (path.passes k less);
      ends = path.ends;
    }

-- no step: all is saved
pub path_here : (priced : Priced) (most : ℕ) (P : ℕ → CountedState → Type 0) (t : CountedState) → P most t
    → Path priced 0 most [] P t
path_here priced most P t holds =
    record {
      steps = 0;
      saved = most;
      enough = omega arith;
      paid = omega arith;
      tells = refl;
      passes = λ k less. absurd (omega (arith, less));
      ends = holds;
    }

-- a step, and then others
pub path_next : (Q : CountedState → Type 0) (priced : Priced) (least most later : ℕ) (now events : List Note)
    (P : ℕ → CountedState → Type 0) (t u : CountedState) → (lower priced).step t ≡ (now, u) → Q t
    → (lower priced).weight t + later ≤ most → PathBy Q priced least later events P u
    → PathBy Q priced (suc least) most (now ++ events) P t
path_next Q priced least most later now events P t u is passing costs rest =
    record {
      steps = suc rest.steps;
      saved = rest.saved;
      enough = omega (arith, rest.enough);
      paid =
          let whole : weight_of (lower priced) (suc rest.steps) t
          ≡ (lower priced).weight t + weight_of (lower priced) rest.steps u
          = ap (λ (next : List Note × CountedState). (lower priced).weight t + weight_of (lower priced) rest.steps next.1) is in
          omega (arith, whole, costs, rest.paid);
      tells = ap (λ (next : List Note × CountedState). next.0 ++ trace (lower priced) rest.steps next.1) is
          ∙ ap (λ later. now ++ later) rest.tells;
      passes = passes;
      ends = subst (λ (next : List Note × CountedState). P rest.saved (state (lower priced) rest.steps next.1)) (sym is) rest.ends;
    }
  where
    passes : (k : ℕ) → k < suc rest.steps → Q (state (lower priced) k t)
    passes zero less = passing
    passes (suc k) less = subst (λ (next : List Note × CountedState). Q (state (lower priced) k next.1)) (sym is)
        (rest.passes k (omega (arith, less)))

pub path_step : (priced : Priced) (least most later : ℕ) (now events : List Note) (P : ℕ → CountedState → Type 0)
    (t u : CountedState) → (lower priced).step t ≡ (now, u) → Passing priced.setting t → (lower priced).weight t + later ≤ most
    → Path priced least later events P u → Path priced (suc least) most (now ++ events) P t
path_step priced = path_next (Passing priced.setting) priced

-- a path of so many steps is one of fewer, and one that may cost more
pub path_less : (priced : Priced) (least fewer most more : ℕ) (events : List Note) (P : ℕ → CountedState → Type 0)
    (t : CountedState) → fewer ≤ least → most ≤ more → Path priced least most events P t → Path priced fewer more events P t
path_less priced least fewer most more events P t less costs path =
    record {
      steps = path.steps;
      saved = path.saved;
      enough = omega (arith, less, path.enough);
      paid = omega (arith, costs, path.paid);
      tells = path.tells;
      passes = path.passes;
      ends = path.ends;
    }

-- the step at a code
pub code_step : (priced : Priced) (code : Counted) (environment : Environment) (joins : List CountedJoin)
    (frames : List CountedFrame) (heap : Heap) (input : List ℕ) (action : Action CountedConfiguration)
    → counted_code_step priced.setting code environment joins (conf code environment joins frames heap) ≡ action
    → (lower priced).step (with_input (conf code environment joins frames heap) input) ≡ performed action input
code_step priced code environment joins frames heap input action is = ap
    (λ (a : Action CountedConfiguration). performed a input) is

-- a dup, and a drop, that leave a heap
pub dup_step : (priced : Priced) (x : ℕ) (rest : Counted) (environment : Environment) (joins : List CountedJoin)
    (frames : List CountedFrame) (heap after : Heap) (input : List ℕ)
    → dup_value (value_of environment x) heap ≡ Some after
    → (lower priced).step (with_input (conf (dup x rest) environment joins frames heap) input) ≡
    ([], with_input (conf rest environment joins frames after) input)
dup_step priced x rest environment joins frames heap after input is =
    ap (λ (o : Option Heap). performed (goes
    (with_heap o (conf (dup x rest) environment joins frames heap) (conf rest environment joins frames heap))) input) is

pub drop_step : (priced : Priced) (x : ℕ) (rest : Counted) (environment : Environment) (joins : List CountedJoin)
    (frames : List CountedFrame) (heap after : Heap) (input : List ℕ)
    → drop_value (value_of environment x) heap ≡ Some after
    → (lower priced).step (with_input (conf (drop x rest) environment joins frames heap) input) ≡
    ([], with_input (conf rest environment joins frames after) input)
drop_step priced x rest environment joins frames heap after input is =
    ap (λ (o : Option Heap). performed (goes
    (with_heap o (conf (drop x rest) environment joins frames heap) (conf rest environment joins frames heap))) input) is
