-- Which state of the core machine stands for which of the store machine, and how a value comes to where it goes.
use Rattle.std.proofs.Common.{◌≡◌, ℕ, suc, ◌+◌, ◌*◌, ◌<◌, ◌≤◌, true, false, List, [], ◌∷◌, ◌++◌, Some, None, refl, sym, ap, subst, ◌∙◌, arith, add-mul}
use Rattle.std.proofs.Math.Nat.{mul-le-mul_left}
use Rattle.std.proofs.lemmas.List.{append-nil}
use Rattle.kk_base.specs.Machines.{Machine, weight_unless, trace, state, weight_of}
use Rattle.kk_base.specs.Simulations.{Reaches}
use Rattle.kk_base.proofs.Machines.{weight_of-at_most}
use Rattle.kk_syntax.specs.Trees.{Tree}
use Rattle.kk_syntax.specs.Shapes.{free, nodes_of}
use Rattle.kk_source.specs.Notes.{Note}
use Rattle.kk_source.specs.State.{Value, Store, Environment, Frame, End, Control, expression, value, stopped}
use Rattle.kk_source.specs.Live.{value_of}
use Rattle.kk_source.specs.SourceAfter.{State}
use Rattle.kk_core.specs.Codes.{Code, give, use_of}
use Rattle.kk_core.specs.CoreStates.{CoreSetting, Join, CallFrame, stopped as core_stopped, CoreState}
use Rattle.kk_core.specs.CoreMachine.{core_machine, core_ending_of}
use Rattle.kk_norm.specs.Names.{Names}
use Rattle.kk_norm.specs.Normalized.{Then, final, next, size, atom, after, after_use, IsCode}
use Rattle.kk_norm.proofs.Bounds.{Bounds, OpensAtMost}
use Rattle.kk_norm.proofs.Openings.{core_at}
use Rattle.kk_norm.proofs.Variables.{Stands, value_here, same_below_bound}
use Rattle.kk_norm.proofs.FrameRelation.{Goal, nowhere, returns, goes_on, goal_of, Fresh, Waits, waits_move, waits_nowhere, due, due_small, due_returns}

abbrev pub source_at : Control → List Frame → Store → List ℕ → State
source_at control frames store input =
    record { machine = record { control = control; frames = frames; store = store }; input = input }

-- the core machine at the code of an expression
pub record AtTree (given : Bounds) (idle : ℕ) (e : Tree) (environment : Environment) (fs : List Frame) (store : Store) (input : List ℕ) (t : CoreState) : Type 0 where
  pub k : Then
  pub names : Names
  pub n : ℕ
  pub top : ℕ
  pub core : Environment
  pub joins : List Join
  pub frames : List CallFrame
  pub code : Code
  pub is : t ≡ core_at code core joins frames store input
  pub coded : IsCode given.constructors k names n e code
  pub stands : Stands names environment core n (free e)
  pub open_few : OpensAtMost given e
  pub small : nodes_of e ≤ given.most
  pub idles : nodes_of e ≤ idle
  pub fresh : Fresh k joins (n + size e) top
  pub later : Waits given fs (goal_of k (atom names n e) joins) core n top frames

-- it is there at the code of an expression for whose value the frames wait
pub at_code : (given : Bounds) (idle : ℕ) (k : Then) (names : Names) (e : Tree) (code : Code) (environment : Environment) (n top : ℕ) (core : Environment) (joins : List Join) (frames : List CallFrame) (fs : List Frame) (store : Store) (input : List ℕ)
    → IsCode given.constructors k names n e code → Stands names environment core n (free e) → OpensAtMost given e → nodes_of e ≤ given.most → nodes_of e ≤ idle → Fresh k joins (n + size e) top → Waits given fs (goal_of k (atom names n e) joins) core n top frames
    → AtTree given idle e environment fs store input (core_at code core joins frames store input)
at_code given idle k names e code environment n top core joins frames fs store input coded stands open_few small idles fresh waits = record {
  k = k;
  names = names;
  n = n;
  top = top;
  core = core;
  joins = joins;
  frames = frames;
  code = code;
  is = refl;
  coded = coded;
  stands = stands;
  open_few = open_few;
  small = small;
  idles = idles;
  fresh = fresh;
  later = waits;
}

-- the code where a value goes that is in variable a, the variable where it goes, and the blocks around
abbrev pub goal_code : Goal → ℕ → Code
goal_code nowhere a = give a
goal_code returns a = give a
goal_code (goes_on rest x joins) a = rest

abbrev pub goal_variable : Goal → ℕ → ℕ
goal_variable nowhere a = a
goal_variable returns a = a
goal_variable (goes_on rest x joins) a = x

abbrev pub goal_joins : Goal → List Join
goal_joins nowhere = []
goal_joins returns = []
goal_joins (goes_on rest x joins) = joins

-- the core machine at a value, where it goes
pub record AtValue (given : Bounds) (idle : ℕ) (v : Value) (fs : List Frame) (store : Store) (input : List ℕ) (t : CoreState) : Type 0 where
  pub goal : Goal
  pub a : ℕ
  pub low : ℕ
  pub top : ℕ
  pub core : Environment
  pub frames : List CallFrame
  pub is : t ≡ core_at (goal_code goal a) core (goal_joins goal) frames store input
  pub has : value_of core (goal_variable goal a) ≡ v
  pub below_top : goal_variable goal a < top
  pub within : low ≤ top
  pub idles : due fs ≤ idle
  pub later : Waits given fs goal core low top frames

-- it is there at the code where a value goes for which the frames wait
pub at_goal : (given : Bounds) (idle : ℕ) (goal : Goal) (a low top : ℕ) (core : Environment) (frames : List CallFrame) (v : Value) (fs : List Frame) (store : Store) (input : List ℕ)
    → value_of core (goal_variable goal a) ≡ v → goal_variable goal a < top → low ≤ top → due fs ≤ idle → Waits given fs goal core low top frames
    → AtValue given idle v fs store input (core_at (goal_code goal a) core (goal_joins goal) frames store input)
at_goal given idle goal a low top core frames v fs store input has less within_top idles waits = record {
  goal = goal;
  a = a;
  low = low;
  top = top;
  core = core;
  frames = frames;
  is = refl;
  has = has;
  below_top = less;
  within = within_top;
  idles = idles;
  later = waits;
}

abbrev pub At : Bounds → ℕ → Control → List Frame → Store → List ℕ → CoreState → Type 0
At given idle (expression e environment) fs store input t = AtTree given idle e environment fs store input t
At given idle (value v) fs store input t = AtValue given idle v fs store input t
At given idle (stopped by) fs store input t = t.machine.control ≡ core_stopped by

-- the core state stands for the one of the source; no weight is saved
abbrev pub Related : Bounds → ℕ → ℕ → State → CoreState → Type 0
Related given credit idle s t = At given idle s.machine.control s.machine.frames s.machine.store s.input t

abbrev pub Passing : CoreState → Type 0
Passing t = Unit {0}

module _ (setting : CoreSetting) (given : Bounds) (cost : ℕ) (weight : CoreState → ℕ) (light : (t : CoreState) → weight t ≤ cost) where
  abbrev pub lower : Machine CoreState Note End
  lower = core_machine weight setting

  pub weighs_little : (t : CoreState) → lower.weight t ≤ cost
  weighs_little t =
      elim (core_ending_of t) as (λ how. weight_unless how (weight t) ≤ cost) [ None ↦ light t | Some w ↦ omega arith ]

  -- so much of a run of the core machine, which weighs at most w, is one step of the source
  abbrev pub Follows : ℕ → ℕ → List Note → State → CoreState → Type 0
  Follows w idle events s t = Reaches lower (Related given) Passing (given.most + 1) w 1 idle events s t

  pub follows_in : (w idle idle_after steps : ℕ) (events : List Note) (s : State) (t : CoreState)
      → weight_of lower steps t ≤ w → 1 + idle_after ≤ steps * (given.most + 1) + idle → trace lower steps t ≡ events
      → Related given 0 idle_after s (state lower steps t) → Follows w idle events s t
  follows_in w idle idle_after steps events s t few moves are related =
      record {
        steps = steps;
        credit_after = 0;
        idle_after = idle_after;
        paid = omega (arith, few);
        moves = moves;
        events_are = are;
        passes = λ k less. tt;
        related = related;
      }

  pub follows : (w : ℕ) (room : 2 * cost ≤ w) (idle idle_after steps : ℕ) (events : List Note) (s : State) (t : CoreState)
      → steps ≤ 2 → 1 + idle_after ≤ steps * (given.most + 1) + idle → trace lower steps t ≡ events
      → Related given 0 idle_after s (state lower steps t) → Follows w idle events s t
  follows w room idle idle_after steps events s t few moves are related =
      follows_in w idle idle_after steps events s t
      (let least : cost * steps ≤ cost * 2 = mul-le-mul_left cost few in
      let weighs : weight_of lower steps t ≤ cost * steps = weight_of-at_most lower cost weighs_little steps t in omega arith)
      moves are related

  -- one step that tells all of it, and maybe one more that tells nothing
  pub follows_step : (w : ℕ) (room : 2 * cost ≤ w) (idle idle_after later : ℕ) (events : List Note) (s : State) (t between : CoreState)
      → lower.step t ≡ (events, between) → later ≤ 1 → idle_after ≤ given.most → trace lower later between ≡ []
      → Related given 0 idle_after s (state lower later between) → Follows w idle events s t
  follows_step w room idle idle_after later events s t between steps_so few small quiet related =
      follows w room idle idle_after (suc later) events s t (omega arith) (omega (arith, add-mul 1 later (given.most + 1)))
      (subst (λ (one : List Note × CoreState). one.0 ++ trace lower later one.1 ≡ events) (sym steps_so) (ap (λ more. events ++ more) quiet ∙ append-nil events))
      (subst (λ (one : List Note × CoreState). Related given 0 idle_after s (state lower later one.1)) (sym steps_so) related)

  -- a value has come to where it goes
  pub record Delivered (v : Value) (fs : List Frame) (store : Store) (input : List ℕ) (t : CoreState) : Type 0 where
    pub steps : ℕ
    pub few : steps ≤ 1
    pub quiet : trace lower steps t ≡ []
    pub arrives : AtValue given given.most v fs store input (state lower steps t)

  pub deliver : (k : Then) (m low top : ℕ) (core : Environment) (joins : List Join) (frames : List CallFrame) (v : Value) (fs : List Frame) (store : Store) (input : List ℕ)
      → value_of core m ≡ v → low ≤ m → Fresh k joins (m + 1) top → Waits given fs (goal_of k m joins) core low top frames
      → Delivered v fs store input (core_at (after k m) core joins frames store input)
  deliver (next rest) m low top core joins frames v fs store input has le fresh waits =
      record {
        steps = 0;
        few = omega arith;
        quiet = refl;
        arrives = at_goal given given.most (goes_on rest m joins) m low top core frames v fs store input has (omega (arith, fresh)) (omega (arith, fresh)) (due_small given fs (goes_on rest m joins) core low top frames waits) waits;
      }
  deliver (final true) m low top core [] frames v fs store input has le fresh waits =
      record {
        steps = 0;
        few = omega arith;
        quiet = refl;
        arrives = at_goal given given.most returns m low top core frames v fs store input has (omega (arith, fresh)) (omega (arith, fresh)) (due_small given fs returns core low top frames waits) waits;
      }
  deliver (final true) m low top core (join ∷ joins) frames v fs store input has le fresh waits =
      absurd (waits_nowhere given fs core low top frames waits)
  deliver (final false) m low top core [] frames v fs store input has le fresh waits =
      absurd (waits_nowhere given fs core low top frames waits)
  deliver (final false) m low top core (join ∷ joins) frames v fs store input has le fresh waits =
      let x : ℕ = join.variable in
      let bound : Environment = record { variable = x; value = value_of core m } ∷ core in
      let moved : Waits given fs (goes_on join.rest x joins) bound low top frames = waits_move given fs (goes_on join.rest x joins) core bound low low top top frames (same_below_bound low x (value_of core m) core (omega (arith, fresh.0))) (omega arith) (omega arith) waits in
      record {
        steps = 1;
        few = omega arith;
        quiet = refl;
        arrives = at_goal given given.most (goes_on join.rest x joins) x low top bound frames v fs store input (value_here x (value_of core m) core ∙ has) fresh.1 (omega (arith, fresh.0, fresh.1)) (due_small given fs (goes_on join.rest x joins) bound low top frames moved) moved;
      }

  -- a step that puts a value into variable m, and then more, is one of the source that comes to the value
  pub computes_to : (k : Then) (m low top : ℕ) (core : Environment) (joins : List Join) (frames : List CallFrame) (v : Value) (fs : List Frame) (store : Store) (input : List ℕ) (w : ℕ) (room : 2 * cost ≤ w) (idle : ℕ) (events : List Note) (t : CoreState)
      → lower.step t ≡ (events, core_at (after k m) (record { variable = m; value = v } ∷ core) joins frames store input)
      → low ≤ m → Fresh k joins (m + 1) top → Waits given fs (goal_of k m joins) core low top frames
      → Follows w idle events (source_at (value v) fs store input) t
  computes_to k m low top core joins frames v fs store input w room idle events t steps_so le fresh waits =
      let bound : Environment = record { variable = m; value = v } ∷ core in
      let moved : Waits given fs (goal_of k m joins) bound low top frames = waits_move given fs (goal_of k m joins) core bound low low top top frames (same_below_bound low m v core le) (omega arith) (omega arith) waits in
      let done : Delivered v fs store input (core_at (after k m) bound joins frames store input) = deliver k m low top bound joins frames v fs store input (value_here m v core) le fresh moved in
      follows_step w room idle given.most done.steps events (source_at (value v) fs store input) t (core_at (after k m) bound joins frames store input) steps_so done.few (omega arith) done.quiet done.arrives

  -- a variable that has its value already
  pub uses : (k : Then) (y n top : ℕ) (core : Environment) (joins : List Join) (frames : List CallFrame) (v : Value) (fs : List Frame) (store : Store) (input : List ℕ) (w : ℕ) (room : 2 * cost ≤ w) (idle : ℕ)
      → value_of core y ≡ v → y < n → 1 ≤ idle → Fresh k joins n top → Waits given fs (goal_of k y joins) core n top frames
      → Follows w idle [] (source_at (value v) fs store input) (core_at (after_use k y) core joins frames store input)
  uses (next rest) y n top core joins frames v fs store input w room idle has less some fresh waits =
      follows w room idle given.most 1 [] (source_at (value v) fs store input) (core_at (use_of y rest) core joins frames store input) (omega arith) (omega arith) refl
      (at_goal given given.most (goes_on rest y joins) y n top core frames v fs store input has (omega (arith, fresh)) fresh (due_small given fs (goes_on rest y joins) core n top frames waits) waits)
  uses (final true) y n top core [] frames v fs store input w room idle has less some fresh waits =
      follows w room idle 0 0 [] (source_at (value v) fs store input) (core_at (give y) core [] frames store input) (omega arith) (omega arith) refl
      (at_goal given 0 returns y n top core frames v fs store input has (omega (arith, fresh)) fresh (omega (arith, due_returns given fs core n top frames waits)) waits)
  uses (final true) y n top core (join ∷ joins) frames v fs store input w room idle has less some fresh waits =
      absurd (waits_nowhere given fs core n top frames waits)
  uses (final false) y n top core [] frames v fs store input w room idle has less some fresh waits =
      absurd (waits_nowhere given fs core n top frames waits)
  uses (final false) y n top core (join ∷ joins) frames v fs store input w room idle has less some fresh waits =
      let x : ℕ = join.variable in
      let bound : Environment = record { variable = x; value = value_of core y } ∷ core in
      let moved : Waits given fs (goes_on join.rest x joins) bound n top frames = waits_move given fs (goes_on join.rest x joins) core bound n n top top frames (same_below_bound n x (value_of core y) core fresh.0) (omega arith) (omega arith) waits in
      follows w room idle given.most 1 [] (source_at (value v) fs store input) (core_at (give y) core (join ∷ joins) frames store input) (omega arith) (omega arith) refl
      (at_goal given given.most (goes_on join.rest x joins) x n top bound frames v fs store input (value_here x (value_of core y) core ∙ has) fresh.1 (omega (arith, fresh.0, fresh.1)) (due_small given fs (goes_on join.rest x joins) bound n top frames moved) moved)
