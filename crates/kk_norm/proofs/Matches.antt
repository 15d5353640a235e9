-- The core machine at a match whose scrutinee has its value: it chooses the arm of the source's row, and opens what the row's
-- pattern opens.
use Rattle.std.proofs.Common.{◌≡◌, ℕ, suc, ◌+◌, ◌*◌, ◌<◌, ◌≤◌, false, List, [], ◌∷◌, map, Option, Some, None, refl, sym, ap, subst, ◌∙◌, arith, add-mul}
use Rattle.std.specs.Prelude.{slice_get}
use Rattle.kk_base.specs.Machines.{Machine}
use Rattle.kk_syntax.specs.Covered.{Each}
use Rattle.kk_syntax.specs.OfType.{IsPatternOf, values_of}
use Rattle.kk_syntax.specs.Outlines.{outline_of}
use Rattle.kk_syntax.specs.Programs.{ConstructorTree}
use Rattle.kk_syntax.specs.Shapes.{free, nodes_of_rows}
use Rattle.kk_syntax.specs.Trees.{Rows, no_row, row, row_parts}
use Rattle.kk_syntax.specs.Types.{TypeTree}
use Rattle.kk_source.specs.Actions.{performed}
use Rattle.kk_source.specs.Live.{value_of}
use Rattle.kk_source.specs.Matching.{Chosen, and_then, matched}
use Rattle.kk_source.specs.Notes.{Note}
use Rattle.kk_source.specs.SourceAfter.{step, State}
use Rattle.kk_source.specs.State.{Setting, Value, Store, Environment, Frame, rows, End, expression, value}
use Rattle.kk_source.specs.Step.{choice_step}
use Rattle.kk_source.specs.ValueTypes.{IsOf}
use Rattle.kk_core.specs.Codes.{Code, case, Arms}
use Rattle.kk_core.specs.CoreMachine.{arm_at, case_step}
use Rattle.kk_core.specs.CoreStates.{CoreSetting, Join, CallFrame, CoreState}
use Rattle.kk_core.specs.Decisions.{NodeTree, chosen}
use Rattle.kk_core.specs.RowChoice.{first_row}
use Rattle.kk_norm.specs.OpenedCells.{openings}
use Rattle.kk_norm.specs.Meaning.{openings_if, openings_of_rows}
use Rattle.kk_norm.specs.Names.{Names}
use Rattle.kk_norm.specs.Normalized.{Then, final, next, size, size_rows, pattern_size, pattern_names, opened, atom, within, joined, patterns_in}
use Rattle.kk_norm.proofs.Bounds.{Bounds, RowsOpenAtMost, of_match}
use Rattle.kk_norm.proofs.Delivery as Delivery
use Rattle.kk_norm.proofs.Delivery.{source_at, Related}
use Rattle.kk_norm.proofs.Openings as Openings
use Rattle.kk_norm.proofs.Openings.{core_at}
use Rattle.kk_norm.proofs.RowChoice.{Picked, picks}
use Rattle.kk_norm.proofs.Simulation.{goal_final}
use Rattle.kk_norm.proofs.FrameRelation.{Goal, goes_on, goal_of, Fresh, fresh_less, Waits, waits_move}

-- a value is of a type that the patterns of some rows are of, and one of them matches
pub record RowFound (constructors : List ConstructorTree) (of : Rows) (store : Store) (v : Value) : Type 0 where
  pub type : TypeTree
  pub typed : Each (IsPatternOf (values_of constructors) type) (map outline_of (patterns_in of))
  pub value : IsOf constructors store type v
  pub number : ℕ
  pub first : first_row store 0 (patterns_in of) v ≡ Some number

-- no row opens more cells than all of them
pub rows_open_few : (given : Bounds) (of : Rows) (v : Value) (store : Store) (environment : Environment) → RowsOpenAtMost given of
    → openings_of_rows store of v environment ≤ given.cells
rows_open_few given no_row v store environment few = omega arith
rows_open_few given (row (row_parts pattern body) rest) v store environment few =
    by_match (matched store pattern v environment) (rows_open_few given rest v store environment (of_match given body rest few.1).1)
  where
    by_match : (found : Option Environment) → openings_of_rows store rest v environment ≤ given.cells
        → openings_if found (openings pattern) (openings_of_rows store rest v environment) ≤ given.cells
    by_match None later = later
    by_match (Some bound) later = few.0

module _ (setting : Setting) (side : CoreSetting) (given : Bounds) (cost : ℕ) (weight : CoreState → ℕ)
    (light : (t : CoreState) → weight t ≤ cost) (opening : ℕ) (opens_for : Openings.OpensFor opening weight) where
  abbrev lower : Machine CoreState Note End
  lower = Delivery.lower side given cost weight light

  abbrev Follows : ℕ → ℕ → List Note → State → CoreState → Type 0
  Follows = Delivery.Follows side given cost weight light

  abbrev Comes : ℕ → ℕ → CoreState → CoreState → Type 0
  Comes = Openings.Comes weight side opening opens_for

  -- so many steps that tell nothing come to where the source's step comes
  comes_to : (w idle more heavy : ℕ) (s : State) (t after : CoreState) → heavy ≤ w
      → Comes (suc more) heavy t after → Related given 0 given.most s after → Follows w idle [] s t
  comes_to w idle more heavy s t after few comes related =
      Delivery.follows_in side given cost weight light w idle given.most (suc more) [] s t (omega (arith, comes.weighs, few))
      (omega (arith, add-mul 1 more (given.most + 1))) comes.quiet
      (subst (λ (u : CoreState). Related given 0 given.most s u) (sym comes.is) related)

  -- the case goes on as the arm of the row
  case_goes : (x : ℕ) (decisions : List NodeTree) (arms : Arms) (i : ℕ) (body : Code) (v : Value) (core : Environment)
      (joins : List Join) (frames : List CallFrame) (store : Store) (input : List ℕ)
      → value_of core x ≡ v → chosen (slice_get store) v decisions ≡ Some i → arm_at arms i ≡ Some body
      → lower.step (core_at (case x decisions arms) core joins frames store input) ≡
      ([], core_at body core joins frames store input)
  case_goes x decisions arms i body v core joins frames store input has chosen_is arm_is =
      let from = core_at (case x decisions arms) core joins frames store input in
      ap (λ (u : Value). performed (case_step (and_then (chosen (slice_get store) u decisions) (arm_at arms)) core joins
      from.machine) input) has
      ∙ (ap (λ (o : Option ℕ). performed (case_step (and_then o (arm_at arms)) core joins from.machine) input) chosen_is
      ∙ ap (λ (o : Option Code). performed (case_step o core joins from.machine) input) arm_is)

  -- the arm is come to, and its openings are done
  arm_comes : (k : Then) (names : Names) (x n low top i : ℕ) (of : Rows) (decisions : List NodeTree) (arms : Arms) (v : Value)
      (environment core : Environment) (joins : List Join) (frames : List CallFrame) (fs : List Frame) (store : Store)
      (input : List ℕ) (w idle more heavy : ℕ) (t : CoreState)
      → (picked : Picked given k names x n of arms store v environment core low i)
      → value_of core x ≡ v → x < n → low ≤ n → chosen (slice_get store) v decisions ≡ Some i → nodes_of_rows of ≤ given.most
      → ((after : CoreState) → Comes (suc (openings picked.pattern)) (cost + openings picked.pattern * opening)
      (core_at (case x decisions arms) core joins frames store input) after → Comes (suc more) heavy t after)
      → heavy ≤ w
      → Fresh k joins (n + size_rows of) top → ((y : ℕ) → Waits given fs (goal_of k y joins) core low top frames)
      → Follows w idle [] (source_at (expression picked.body picked.later) fs store input) t
  arm_comes k names x n low top i of decisions arms v environment core joins frames fs store input w idle more heavy t picked has
      less le chosen_is small comes few fresh waits =
      let from : ℕ = picked.from + pattern_size picked.pattern in
      let names_here : Names = pattern_names x picked.from picked.pattern names in
      let done = Openings.opens weight side opening opens_for store x picked.from picked.pattern v names environment picked.later
      core picked.match_is has (omega (arith, picked.starts)) in
      let at_body : CoreState = core_at picked.code done.after joins frames store input in
      let at_case : CoreState = core_at (case x decisions arms) core joins frames store input in
      let all : Comes (suc (openings picked.pattern)) (cost + openings picked.pattern * opening) at_case at_body
      = Openings.comes_first weight side opening opens_for (openings picked.pattern) cost (openings picked.pattern * opening)
      at_case (core_at (opened x picked.from picked.pattern picked.code) core joins frames store input) at_body (light at_case)
      (case_goes x decisions arms i (opened x picked.from picked.pattern picked.code) v core joins frames store input has chosen_is
      picked.arm_is) (done.comes picked.code joins frames input) in
      comes_to w idle more heavy (source_at (expression picked.body picked.later) fs store input) t at_body few (comes at_body all)
      (Delivery.at_code given given.most k names_here picked.body picked.code picked.later from top done.after joins frames fs
      store input picked.coded
      (Openings.opened_stands weight side opening opens_for store x picked.from picked.pattern names environment picked.later core
      low (free picked.body) done (omega (arith, picked.starts)) picked.stands)
      picked.body_opens (omega (arith, picked.small)) (omega (arith, picked.small))
      (fresh_less k joins (from + size picked.body) (n + size_rows of) top (omega (arith, picked.ends)) fresh)
      (waits_move given fs (goal_of k (atom names_here from picked.body) joins) core done.after low from top top frames
      (λ y below. done.same y (omega (arith, picked.starts))) (omega (arith, picked.starts)) (omega arith)
      (waits (atom names_here from picked.body))))

  -- a match goes on as the row that is chosen
  row_goes : (k : Then) (names : Names) (x n low top i : ℕ) (of : Rows) (decisions : List NodeTree) (arms : Arms) (v : Value)
      (environment core : Environment) (joins : List Join) (frames : List CallFrame) (fs : List Frame) (store : Store)
      (input : List ℕ) (w idle : ℕ)
      → (picked : Picked given (within k) names x n of arms store v environment core low i)
      → value_of core x ≡ v → x < n → low ≤ n → chosen (slice_get store) v decisions ≡ Some i → nodes_of_rows of ≤ given.most
      → 2 * cost + openings picked.pattern * opening ≤ w
      → Fresh k joins (n + size_rows of + 1) top → Waits given fs (goal_of k (n + size_rows of) joins) core low top frames
      → Follows w idle [] (source_at (expression picked.body picked.later) fs store input)
      (core_at (joined k (n + size_rows of) (case x decisions arms)) core joins frames store input)
  row_goes (final tail) names x n low top i of decisions arms v environment core joins frames fs store input w idle picked has less
      le chosen_is small few fresh waits =
      let k : Then = final tail in
      let o : ℕ = openings picked.pattern in
      arm_comes k names x n low top i of decisions arms v environment core joins frames fs store input w idle o
      (cost + o * opening) (core_at (case x decisions arms) core joins frames store input) picked has less le chosen_is small
      (λ after comes. comes) (omega (arith, few))
      (fresh_less k joins (n + size_rows of) (n + size_rows of + 1) top (omega arith) fresh)
      (λ y. subst (λ (goal : Goal). Waits given fs goal core low top frames) (goal_final tail joins (n + size_rows of) y) waits)
  row_goes (next rest) names x n low top i of decisions arms v environment core joins frames fs store input w idle picked has less
      le chosen_is small few fresh waits =
      let m : ℕ = n + size_rows of in
      let join : Join = record { variable = m; rest = rest } in
      let o : ℕ = openings picked.pattern in
      let t : CoreState = core_at (joined (next rest) m (case x decisions arms)) core joins frames store input in
      let between : CoreState = core_at (case x decisions arms) core (join ∷ joins) frames store input in
      arm_comes (final false) names x n low top i of decisions arms v environment core (join ∷ joins) frames fs store input w idle
      (suc o) (cost + (cost + o * opening)) t picked has less le chosen_is small
      (λ after comes. Openings.comes_first weight side opening opens_for (suc o) cost (cost + o * opening) t between after (light t)
      refl comes)
      (omega (arith, few))
      (omega arith, omega (arith, fresh)) (λ y. waits)

  -- at the scrutinee's value
  pub rows_step : (of : Rows) (environment : Environment) (fs : List Frame) (rest : Code) (x low high : ℕ) (joins : List Join)
      (core : Environment) (frames : List CallFrame) (v : Value) (store : Store) (input : List ℕ) (w idle : ℕ)
      → value_of core x ≡ v → x < high → low ≤ high → Waits given (rows of environment ∷ fs)
      (goes_on rest x joins) core low high frames
      → RowFound given.constructors of store v
      → (openings_of_rows store of v environment ≤ given.cells → 2 * cost + openings_of_rows store of v environment * opening ≤ w)
      → Follows w idle (step setting (source_at (value v) (rows of environment ∷ fs) store input)).0
      (step setting (source_at (value v) (rows of environment ∷ fs) store input)).1 (core_at rest core joins frames store input)
  rows_step of environment fs rest x low high joins core frames v store input w idle has less le waits found paid =
      let n : ℕ = waits.at.n in
      let picked : Picked given (within waits.at.k) waits.at.names x n of waits.arms store v environment core low found.number
      = picks given (within waits.at.k) waits.at.names x n of waits.arms store v environment core low found.number waits.arms_are
      waits.open_few waits.stands found.first in
      let few : 2 * cost + openings picked.pattern * opening ≤ w
      = subst (λ (o : ℕ). 2 * cost + o * opening ≤ w) picked.opens
      (paid (rows_open_few given of v store environment waits.open_few)) in
      let before = (source_at (value v) (rows of environment ∷ fs) store input).machine in
      subst (λ (at : Code). Follows w idle (step setting (source_at (value v) (rows of environment ∷ fs) store input)).0
      (step setting (source_at (value v) (rows of environment ∷ fs) store input)).1 (core_at at core joins frames store input))
      (sym waits.rest_is)
      (subst (λ (o : Option Chosen). Follows w idle (performed (choice_step setting o fs before) input).0
      (performed (choice_step setting o fs before) input).1
      (core_at (joined waits.at.k (n + size_rows of) (case x waits.decisions waits.arms)) core joins frames store input))
      (sym picked.source_is)
      (row_goes waits.at.k waits.at.names x n low waits.at.top found.number of waits.decisions waits.arms v environment core joins
      frames fs store input w idle picked has (omega (arith, waits.from)) (omega (arith, waits.from))
      (waits.decide found.type store v found.number found.typed found.value found.first) waits.small few waits.fresh waits.later))
