-- The core machine does the steps of the store machine at an expression and at a value.
use Rattle.std.proofs.Common.{◌≡◌, ℕ, ◌+◌, ◌*◌, ◌<◌, ◌≤◌, Bool, true, false, List, [], ◌∷◌, ◌++◌, None, refl, sym, ap, subst, ◌∙◌, arith, append_assoc}
use Rattle.kk_base.specs.Machines.{Machine}
use Rattle.kk_base.specs.Simulations.{Reaches, Simulates}
use Rattle.kk_base.proofs.Simulations.{simulates_until_ended}
use Rattle.kk_syntax.specs.Trees.{Tree, Rows, variable, apply, branch as if_tree, match, sequence, no_tree, tree}
use Rattle.kk_syntax.specs.Shapes.{free, free_all, free_rows, nodes_of, variable_of, gathered}
use Rattle.kk_source.specs.Notes.{Note}
use Rattle.kk_source.specs.State.{Setting, Value, Store, Environment, Frame, arguments, branches, rows, statement, call, End, ended, Control, expression, value, stopped, end_at}
use Rattle.kk_source.specs.Live.{value_of}
use Rattle.kk_source.specs.Actions.{performed}
use Rattle.kk_source.specs.FormEffects.{truth}
use Rattle.kk_source.specs.Step.{bind, form_step}
use Rattle.kk_source.specs.SourceAfter.{step, State}
use Rattle.kk_core.specs.Codes.{Code, give, case, ProgramCode}
use Rattle.kk_core.specs.Kinds.{IsTruth}
use Rattle.kk_core.specs.Truths.{truth_case}
use Rattle.kk_core.specs.CoreStates.{CoreSetting, Join, CallFrame, CoreState, core_end_at}
use Rattle.kk_norm.specs.Names.{Names, name_of, named}
use Rattle.kk_norm.specs.Normalized.{Then, next, size, size_all, size_rows, atom, atoms, within, joined, finish, IsCode, AreCodes}
use Rattle.kk_norm.specs.Meaning.{weighed_store_machine, core_setting_of, openings_at, openings_by_frames, openings_of_rows}
use Rattle.kk_norm.proofs.Variables.{alone_among, Stands, stands_left, stands_right, stands_later, stands_bound, all_below_more, all_below_one_more, values_one_more}
use Rattle.kk_norm.proofs.FrameRelation.{Goal, nowhere, returns, goes_on, goal_of, Fresh, fresh_less, Waits, waits_move, due}
use Rattle.kk_syntax.proofs.Elements.{each_parts}
use Rattle.kk_norm.proofs.Bounds.{Bounds, OpensAtMost, gathers_openings, of_parts, of_first, of_match}
use Rattle.kk_norm.proofs.Functions.{AreGood}
use Rattle.kk_norm.proofs.Matches.{RowFound, rows_open_few}
use Rattle.kk_norm.proofs.Matches as Matches
use Rattle.kk_norm.proofs.Openings.{core_at, OpensFor}
use Rattle.kk_norm.proofs.Delivery.{source_at, AtTree, AtValue, At, Related, Passing, goal_code, goal_variable, goal_joins}
use Rattle.kk_norm.proofs.Delivery as Delivery
use Rattle.kk_norm.proofs.Simulation.{some_nodes}
use Rattle.kk_norm.proofs.Simulation as Forms

one_list : (held : List ℕ) (a : ℕ) (xs : List ℕ) → held ++ (a ∷ xs) ≡ (held ++ a ∷ []) ++ xs
one_list held a xs = sym (append_assoc held (a ∷ []) xs)

module _ (setting : Setting) (code : ProgramCode) (given : Bounds) (cost : ℕ) (weight : CoreState → ℕ)
    (light : (t : CoreState) → weight t ≤ cost) (opening : ℕ) (opens_for : OpensFor opening weight)
    (good : AreGood given setting.program.functions code.functions) (texts : code.texts ≡ setting.program.texts) where
  abbrev side : CoreSetting
  side = core_setting_of code setting.positions setting.cells setting.depth

  abbrev pub lower : Machine CoreState Note End
  lower = Delivery.lower side given cost weight light

  abbrev Follows : ℕ → ℕ → List Note → State → CoreState → Type 0
  Follows = Delivery.Follows side given cost weight light

  abbrev pub Steps : ℕ → ℕ → State → CoreState → Type 0
  Steps w idle s t = Follows w idle (step setting s).0 (step setting s).1 t

  -- at an expression
  tree_step : (e : Tree) (environment : Environment) (fs : List Frame) (store : Store) (input : List ℕ) (w : ℕ)
      (room : 2 * cost ≤ w) (idle : ℕ) (t : CoreState)
      → (a : AtTree given idle e environment fs store input t)
      → Steps w idle (source_at (expression e environment) fs store input) (core_at a.code a.core a.joins a.frames store input)
  tree_step (variable x) environment fs store input w room idle t a =
      let stands = a.stands x (alone_among x) in
      subst (λ (at : Code). Steps w idle (source_at (expression (variable x) environment) fs store input)
      (core_at at a.core a.joins a.frames store input)) (sym a.coded)
      (Delivery.uses side given cost weight light a.k (name_of a.names x) a.n a.top a.core a.joins a.frames
      (value_of environment x) fs store input w room idle stands.0 stands.1 (omega (arith, a.idles))
      (fresh_less a.k a.joins a.n (a.n + 0) a.top (omega arith) a.fresh) a.later)
  tree_step (apply form no_tree) environment fs store input w room idle t a =
      let at : Code = finish a.k (a.n + 0) form [] in
      let there : t ≡ core_at at a.core a.joins a.frames store input = a.is
      ∙ ap (λ (c : Code). core_at c a.core a.joins a.frames store input) a.coded in
      subst (λ (c : Code). Steps w idle (source_at (expression (apply form no_tree) environment) fs store input)
      (core_at c a.core a.joins a.frames store input)) (sym a.coded)
      (Forms.acts setting code given cost weight light good texts form [] a.k
      (a.n + 0) a.n a.top a.core a.joins a.frames fs store input w room idle (expression (apply form no_tree) environment) fs
      (omega arith) (fresh_less a.k a.joins (a.n + 0 + 1) (a.n + 1) a.top (omega arith) a.fresh) a.later
      (subst (λ (u : CoreState). AtTree given idle (apply form no_tree) environment fs store input u) there a))
  tree_step (apply form (tree e es)) environment fs store input w room idle t a =
      let m : ℕ = a.n + size_all (tree e es) in
      let rest : Code = a.coded.0 in
      let waits : Waits given (arguments form [] es environment ∷ fs) (goes_on rest (atom a.names a.n e) a.joins) a.core a.n
      (a.n + size e) a.frames
      = record {
        at = record { k = a.k; names = a.names; n = a.n + size e; top = a.top };
        m = m;
        held = [];
        number_is = omega arith;
        values_are = refl;
        held_low = tt;
        rest_is = a.coded.1;
        stands = stands_right a.names environment a.core a.n (free e) (free_all es) a.stands;
        open_few = (of_first given e es a.open_few).1;
        small = omega (arith, a.small);
        from = omega arith;
        fresh = fresh_less a.k a.joins (m + 1) (a.n + (size e + size_all es + 1)) a.top (omega arith) a.fresh;
        later = a.later;
      } in
      Delivery.follows side given cost weight light w room idle (nodes_of e) 0 []
      (source_at (expression e environment) (arguments form [] es environment ∷ fs) store input)
      (core_at a.code a.core a.joins a.frames store input) (omega arith) (omega (arith, a.idles)) refl
      (Delivery.at_code given (nodes_of e) (next rest) a.names e a.code environment a.n (a.n + size e) a.core a.joins a.frames
      (arguments form [] es environment ∷ fs) store input a.coded.2
      (stands_left a.names environment a.core a.n (free e) (free_all es) a.stands) (of_first given e es a.open_few).0
      (omega (arith, a.small)) (omega arith) (omega arith) waits)
  tree_step (if_tree e positive negative) environment fs store input w room idle t a =
      let n : ℕ = a.n + size e in
      let m : ℕ = n + size positive + size negative in
      let x : ℕ = atom a.names a.n e in
      let rest : Code = joined a.k m (truth_case x a.coded.0 a.coded.1) in
      let condition = each_parts (λ o. o ≤ given.cells) (gathered gathers_openings e)
      (gathered gathers_openings positive ++ gathered gathers_openings negative) a.open_few in
      let branches_open = of_parts given positive negative condition.1 in
      let waits : Waits given (branches positive negative environment ∷ fs) (goes_on rest x a.joins) a.core a.n n a.frames
      = record {
        at = record { k = a.k; names = a.names; n = n; top = a.top };
        first = a.coded.0;
        second = a.coded.1;
        first_is = a.coded.2;
        second_is = a.coded.3;
        rest_is = refl;
        stands = stands_right a.names environment a.core a.n (free e) (free positive ++ free negative) a.stands;
        positive_opens = branches_open.0;
        negative_opens = branches_open.1;
        small = omega (arith, a.small);
        from = omega arith;
        fresh = fresh_less a.k a.joins (m + 1) (a.n + (size e + size positive + size negative + 1)) a.top (omega arith) a.fresh;
        later = a.later;
      } in
      Delivery.follows side given cost weight light w room idle (nodes_of e) 0 []
      (source_at (expression e environment) (branches positive negative environment ∷ fs) store input)
      (core_at a.code a.core a.joins a.frames store input) (omega arith) (omega (arith, a.idles)) refl
      (Delivery.at_code given (nodes_of e) (next rest) a.names e a.code environment a.n n a.core a.joins a.frames
      (branches positive negative environment ∷ fs) store input a.coded.4
      (stands_left a.names environment a.core a.n (free e) (free positive ++ free negative) a.stands) condition.0
      (omega (arith, a.small)) (omega arith) (omega arith) waits)
  tree_step (match e of) environment fs store input w room idle t a =
      let n : ℕ = a.n + size e in
      let m : ℕ = n + size_rows of in
      let x : ℕ = atom a.names a.n e in
      let rest : Code = joined a.k m (case x a.coded.0 a.coded.1) in
      let waits : Waits given (rows of environment ∷ fs) (goes_on rest x a.joins) a.core a.n n a.frames
      = record {
        at = record { k = a.k; names = a.names; n = n; top = a.top };
        decisions = a.coded.0;
        arms = a.coded.1;
        decide = a.coded.2.decides;
        arms_are = a.coded.3;
        rest_is = refl;
        stands = stands_right a.names environment a.core a.n (free e) (free_rows of) a.stands;
        open_few = (of_match given e of a.open_few).1;
        small = omega (arith, a.small);
        from = omega arith;
        fresh = fresh_less a.k a.joins (m + 1) (a.n + (size e + size_rows of + 1)) a.top (omega arith) a.fresh;
        later = a.later;
      } in
      Delivery.follows side given cost weight light w room idle (nodes_of e) 0 []
      (source_at (expression e environment) (rows of environment ∷ fs) store input)
      (core_at a.code a.core a.joins a.frames store input) (omega arith) (omega (arith, a.idles)) refl
      (Delivery.at_code given (nodes_of e) (next rest) a.names e a.code environment a.n n a.core a.joins a.frames
      (rows of environment ∷ fs) store input a.coded.4
      (stands_left a.names environment a.core a.n (free e) (free_rows of) a.stands) (of_match given e of a.open_few).0
      (omega (arith, a.small)) (omega arith) (omega arith) waits)
  tree_step (sequence binder first e) environment fs store input w room idle t a =
      let n : ℕ = a.n + size first in
      let x : ℕ = atom a.names a.n first in
      let rest : Code = a.coded.0 in
      let waits : Waits given (statement (variable_of binder) e environment ∷ fs) (goes_on rest x a.joins) a.core a.n n a.frames
      = record {
        at = record { k = a.k; names = a.names; n = n; top = a.top };
        rest_is = a.coded.1;
        stands = Forms.stands_after binder a.names environment a.core a.n (free e)
            (stands_right a.names environment a.core a.n (free first) _ a.stands);
        open_few = (of_parts given first e a.open_few).1;
        small = omega (arith, a.small, some_nodes first);
        from = omega arith;
        fresh = fresh_less a.k a.joins (n + size e) (a.n + (size first + size e)) a.top (omega arith) a.fresh;
        later = a.later;
      } in
      Delivery.follows side given cost weight light w room idle (nodes_of first) 0 []
      (source_at (expression first environment) (statement (variable_of binder) e environment ∷ fs) store input)
      (core_at a.code a.core a.joins a.frames store input) (omega arith) (omega (arith, a.idles, some_nodes e)) refl
      (Delivery.at_code given (nodes_of first) (next rest) a.names first a.code environment a.n n a.core a.joins a.frames
      (statement (variable_of binder) e environment ∷ fs) store input a.coded.2
      (stands_left a.names environment a.core a.n (free first) _ a.stands) (of_parts given first e a.open_few).0
      (omega (arith, a.small, some_nodes e)) (omega arith) (omega arith) waits)

  -- at the condition of an `if`, by what comes after it
  branch_step : (k : Then) (positive negative : Tree) (first second : Code) (names : Names) (environment : Environment)
      (n low top : ℕ) (core : Environment) (joins : List Join) (x : ℕ) (v : Value) (frames : List CallFrame) (fs : List Frame)
      (store : Store) (input : List ℕ) (w : ℕ) (room : 2 * cost ≤ w) (idle : ℕ)
      → value_of core x ≡ v → IsTruth v → IsCode given.constructors (within k) names n positive first
      → IsCode given.constructors (within k) names (n + size positive) negative second
      → low ≤ n → Stands names environment core low (free positive ++ free negative) → OpensAtMost given positive
      → OpensAtMost given negative → nodes_of positive + nodes_of negative ≤ given.most
      → Fresh k joins (n + size positive + size negative + 1) top
      → Waits given fs (goal_of k (n + size positive + size negative) joins) core low top frames
      → Steps w idle (source_at (value v) (branches positive negative environment ∷ fs) store input)
      (core_at (joined k (n + size positive + size negative) (truth_case x first second)) core joins frames store input)
  branch_step k positive negative first second names environment n low top core joins x v frames fs store input w room idle has of
      first_is second_is le stands positive_opens negative_opens small fresh waits =
      subst (λ (v : Value). Steps w idle (source_at (value v) (branches positive negative environment ∷ fs) store input) after_it)
      (sym of.1) (by_test of.0 (has ∙ of.1))
    where
      after_it : CoreState
      after_it = core_at (joined k (n + size positive + size negative) (truth_case x first second)) core joins frames store input

      by_test : (test : Bool) → value_of core x ≡ truth test
          → Steps w idle (source_at (value (truth test)) (branches positive negative environment ∷ fs) store input) after_it
      by_test true is = Forms.branch_goes setting code given cost weight light good texts true k positive negative first second
          names environment n low top core joins x frames fs store input w room idle is first_is second_is le stands positive_opens
          negative_opens small fresh waits
      by_test false is = Forms.branch_goes setting code given cost weight light good texts false k positive negative first second
          names environment n low top core joins x frames fs store input w room idle is first_is second_is le stands positive_opens
          negative_opens small fresh waits

  -- where a match has its scrutinee, a row matches, and there is weight for it; and where an `if` has its condition, it is a truth
  abbrev pub IsReadyFor : List Frame → Store → Value → ℕ → Type 0
  IsReadyFor (rows of environment ∷ fs) store v w =
      RowFound given.constructors of store v
      × (openings_of_rows store of v environment ≤ given.cells → 2 * cost + openings_of_rows store of v environment * opening ≤ w)
  IsReadyFor (branches positive negative environment ∷ fs) store v w = IsTruth v
  IsReadyFor fs store v w = Unit {0}

  ready_more : (fs : List Frame) (store : Store) (v : Value) (w more : ℕ) → w ≤ more → IsReadyFor fs store v w
      → IsReadyFor fs store v more
  ready_more (rows of environment ∷ fs) store v w more le ready =
      (ready.0, λ few. let least : 2 * cost + openings_of_rows store of v environment * opening ≤ w = ready.1 few in omega arith)
  ready_more [] store v w more le ready = tt
  ready_more (arguments form vs es environment ∷ fs) store v w more le ready = tt
  ready_more (branches positive negative environment ∷ fs) store v w more le ready = ready
  ready_more (statement awaits e environment ∷ fs) store v w more le ready = tt
  ready_more (call lent ∷ fs) store v w more le ready = tt

  abbrev pub IsReady : Control → List Frame → Store → ℕ → Type 0
  IsReady (value v) fs store w = IsReadyFor fs store v w
  IsReady control fs store w = Unit {0}

  -- at a value
  value_goes : (fs : List Frame) (goal : Goal) (a low top : ℕ) (core : Environment) (frames : List CallFrame) (v : Value)
      (store : Store) (input : List ℕ) (w : ℕ) (room : 2 * cost ≤ w) (idle : ℕ)
      → value_of core (goal_variable goal a) ≡ v → goal_variable goal a < top → low ≤ top → due fs ≤ idle
      → Waits given fs goal core low top frames → IsReadyFor fs store v w
      → Steps w idle (source_at (value v) fs store input) (core_at (goal_code goal a) core (goal_joins goal) frames store input)
  value_goes (arguments form vs (tree e es) environment ∷ fs)
      (goes_on rest x joins) a low top core frames v store input w room idle has less within_top idles waits ready =
      let later : Code = waits.rest_is.0 in
      let y : ℕ = atom waits.at.names waits.at.n e in
      let more : List ℕ = atoms waits.at.names (waits.at.n + size e) es in
      let stands : Stands waits.at.names environment core waits.at.n
      (free e ++ free_all es) =
      stands_later waits.at.names environment core core low waits.at.n (free e ++ free_all es) (λ z below. refl)
      (omega (arith, waits.from)) waits.stands in
      let onward : Waits given (arguments form (vs ++ v ∷ []) es environment ∷ fs) (goes_on later y joins) core waits.at.n
      (waits.at.n + size e) frames
      = record {
        at = record waits.at { n = waits.at.n + size e };
        m = waits.m;
        held = waits.held ++ x ∷ [];
        number_is = omega (arith, waits.number_is);
        values_are = values_one_more core x v waits.held vs waits.values_are has;
        held_low = all_below_one_more waits.at.n x waits.held
            (all_below_more low waits.at.n waits.held (omega (arith, waits.from)) waits.held_low) (omega (arith, waits.from));
        rest_is = subst (λ (xs : List ℕ). AreCodes given.constructors waits.at.names (waits.at.n + size e) es
            (finish waits.at.k waits.m form xs) later) (one_list waits.held x (y ∷ more)) waits.rest_is.1;
        stands = stands_right waits.at.names environment core waits.at.n (free e) (free_all es) stands;
        open_few = (of_first given e es waits.open_few).1;
        small = omega (arith, waits.small);
        from = omega arith;
        fresh = waits.fresh;
        later = waits_move given fs (goal_of waits.at.k waits.m joins) core core low waits.at.n waits.at.top waits.at.top frames
            (λ z below. refl) (omega (arith, waits.from)) (omega arith) waits.later;
      } in
      Delivery.follows side given cost weight light w room idle (nodes_of e) 0 []
      (source_at (expression e environment) (arguments form (vs ++ v ∷ []) es environment ∷ fs) store input)
      (core_at rest core joins frames store input) (omega arith) (omega arith) refl
      (Delivery.at_code given (nodes_of e) (next later) waits.at.names e rest environment waits.at.n
      (waits.at.n + size e) core joins frames (arguments form (vs ++ v ∷ []) es environment ∷ fs) store input waits.rest_is.2
      (stands_left waits.at.names environment core waits.at.n (free e) (free_all es) stands) (of_first given e es waits.open_few).0
      (omega (arith, waits.small)) (omega arith) (omega arith) onward)
  value_goes (arguments form vs no_tree environment ∷ fs)
      (goes_on rest x joins) a low top core frames v store input w room idle has less within_top idles waits ready =
      let xs : List ℕ = waits.held ++ x ∷ [] in
      let older : List Frame = arguments form vs no_tree environment ∷ fs in
      let at : Code = finish waits.at.k waits.m form xs in
      let stay : AtValue given idle v older store input (core_at at core joins frames store input)
      = subst (λ (at : Code). AtValue given idle v older store input (core_at at core joins frames store input)) waits.rest_is
      (Delivery.at_goal given idle
      (goes_on rest x joins) a low top core frames v older store input has less within_top idles waits) in
      subst (λ (at : Code). Steps w idle (source_at (value v) older store input) (core_at at core joins frames store input))
      (sym waits.rest_is)
      (subst (λ (ws : List Value). Follows w idle (performed
      (form_step setting form ws fs (Forms.from_at setting code given cost weight light good texts
      (value v) older store)) input).0 (performed (form_step setting form ws fs
      (Forms.from_at setting code given cost weight light good texts (value v) older store)) input).1
      (core_at at core joins frames store input)) (values_one_more core x v waits.held vs waits.values_are has)
      (Forms.acts setting code given cost weight light good texts form xs waits.at.k waits.m low waits.at.top core joins frames fs
      store input w room idle (value v) older (omega (arith, waits.from, waits.number_is)) waits.fresh waits.later stay))
  value_goes (branches positive negative environment ∷ fs)
      (goes_on rest x joins) a low top core frames v store input w room idle has less within_top idles waits ready =
      subst (λ (at : Code). Steps w idle (source_at (value v) (branches positive negative environment ∷ fs) store input)
      (core_at at core joins frames store input)) (sym waits.rest_is)
      (branch_step waits.at.k positive negative waits.first waits.second waits.at.names environment waits.at.n low waits.at.top core
      joins x v frames fs store input w room idle has ready waits.first_is waits.second_is
      (omega (arith, waits.from)) waits.stands waits.positive_opens waits.negative_opens waits.small waits.fresh waits.later)
  value_goes (statement awaits e environment ∷ fs)
      (goes_on rest x joins) a low top core frames v store input w room idle has less within_top idles waits ready =
      Delivery.follows side given cost weight light w room idle (nodes_of e) 0 []
      (source_at (expression e (bind awaits v environment)) fs store input) (core_at rest core joins frames store input)
      (omega arith) (omega arith) refl
      (Delivery.at_code given (nodes_of e) waits.at.k (named awaits x waits.at.names) e rest
      (bind awaits v environment) waits.at.n waits.at.top core joins frames fs store input waits.rest_is
      (stands_bound awaits x v waits.at.names environment core low waits.at.n (free e) waits.stands (omega (arith, waits.from)) has
      (omega (arith, waits.from)))
      waits.open_few (omega (arith, waits.small)) (omega arith) waits.fresh
      (waits_move given fs (goal_of waits.at.k
      (atom (named awaits x waits.at.names) waits.at.n e) joins) core core low waits.at.n waits.at.top waits.at.top frames
      (λ z below. refl) (omega (arith, waits.from)) (omega arith) waits.later))
  value_goes (rows of environment ∷ fs)
      (goes_on rest x joins) a low top core frames v store input w room idle has less within_top idles waits ready =
      Matches.rows_step setting side given cost weight light opening opens_for of environment fs rest x low top joins core frames v
      store input w idle has less within_top waits ready.0 ready.1
  value_goes (call lent ∷ []) returns a low top core [] v store input w room idle has less within_top idles waits ready =
      Delivery.follows side given cost weight light w room idle 0 1 [] (source_at (stopped ended) [] store input)
      (core_at (give a) core [] [] store input) (omega arith) (omega arith) refl refl
  value_goes (call lent ∷ []) returns a low top core
      (frame ∷ frames) v store input w room idle has less within_top idles waits ready = absurd waits.later
  value_goes (call lent ∷ (other ∷ fs)) returns a low top core [] v store input w room idle has less within_top idles waits ready =
      absurd (let wrong : other ∷ fs ≡ [] = waits.0 in cc)
  value_goes (call lent ∷ (other ∷ fs)) returns a low top core
      (frame ∷ frames) v store input w room idle has less within_top idles waits ready =
      let x : ℕ = frame.variable in
      Delivery.computes_to side given cost weight light waits.k x waits.low waits.top frame.environment frame.joins frames v
      (other ∷ fs) store input w room idle [] (core_at (give a) core [] (frame ∷ frames) store input)
      (ap (λ (w : Value). (
        [],
        core_at frame.rest (record { variable = x; value = w }
            ∷ frame.environment) frame.joins frames store input,
      )) has
      ∙ ap (λ (at : Code). (
        [],
        core_at at (record { variable = x; value = v }
            ∷ frame.environment) frame.joins frames store input,
      )) waits.rest_is)
      waits.from waits.fresh waits.later
  value_goes [] goal a low top core frames v store input w room idle has less within_top idles waits ready = absurd waits
  value_goes (arguments form vs es environment
      ∷ fs) returns a low top core frames v store input w room idle has less within_top idles waits ready = absurd waits
  value_goes (arguments form vs es environment
      ∷ fs) nowhere a low top core frames v store input w room idle has less within_top idles waits ready = absurd waits
  value_goes (branches positive negative environment
      ∷ fs) returns a low top core frames v store input w room idle has less within_top idles waits ready = absurd waits
  value_goes (branches positive negative environment
      ∷ fs) nowhere a low top core frames v store input w room idle has less within_top idles waits ready = absurd waits
  value_goes (rows of environment
      ∷ fs) returns a low top core frames v store input w room idle has less within_top idles waits ready = absurd waits
  value_goes (rows of environment
      ∷ fs) nowhere a low top core frames v store input w room idle has less within_top idles waits ready = absurd waits
  value_goes (statement awaits e environment
      ∷ fs) returns a low top core frames v store input w room idle has less within_top idles waits ready = absurd waits
  value_goes (statement awaits e environment
      ∷ fs) nowhere a low top core frames v store input w room idle has less within_top idles waits ready = absurd waits
  value_goes (call lent ∷ fs) nowhere a low top core frames v store input w room idle has less within_top idles waits ready =
      absurd waits
  value_goes (call lent ∷ fs)
      (goes_on rest x joins) a low top core frames v store input w room idle has less within_top idles waits ready = absurd waits

  -- at each state that has not ended
  state_step : (control : Control) (fs : List Frame) (store : Store) (input : List ℕ) (w : ℕ) (room : 2 * cost ≤ w) (idle : ℕ)
      (t : CoreState)
      → At given idle control fs store input t → end_at control ≡ None → IsReady control fs store w
      → Steps w idle (source_at control fs store input) t
  state_step (expression e environment) fs store input w room idle t at lasts ready =
      subst (λ (t : CoreState). Steps w idle (source_at (expression e environment) fs store input) t) (sym at.is)
      (tree_step e environment fs store input w room idle t at)
  state_step (value v) fs store input w room idle t at lasts ready =
      subst (λ (t : CoreState). Steps w idle (source_at (value v) fs store input) t) (sym at.is)
      (value_goes fs at.goal at.a at.low at.top at.core at.frames v store input w room idle at.has at.below_top at.within at.idles
      at.later ready)
  state_step (stopped by) fs store input w room idle t at lasts ready = absurd (cc)

  ends_alike : (control : Control) (fs : List Frame) (store : Store) (input : List ℕ) (idle : ℕ) (t : CoreState)
      → At given idle control fs store input t → core_end_at t.machine.control ≡ end_at control
  ends_alike (expression e environment) fs store input idle t at = ap (λ (t : CoreState). core_end_at t.machine.control) at.is
  ends_alike (value v) fs store input idle t at = ap (λ (t : CoreState). core_end_at t.machine.control) at.is
  ends_alike (stopped by) fs store input idle t at = ap core_end_at at

  -- What holds of each state of the source: it is kept, where a match has its scrutinee a row matches, and where an `if` has its
  -- condition it is a truth. Each step weighs at least as much as the core's steps for it.
  module _ (Sane : State → Type 0) (heavy : State → ℕ)
      (stays_sane : (s : State) → Sane s → Sane (step setting s).1)
      (row_there : (of : Rows) (environment : Environment) (fs : List Frame) (v : Value) (store : Store) (input : List ℕ)
      → Sane (source_at (value v) (rows of environment ∷ fs) store input) → RowFound given.constructors of store v)
      (truth_there : (positive negative : Tree) (environment : Environment) (fs : List Frame) (v : Value) (store : Store)
      (input : List ℕ) → Sane (source_at (value v) (branches positive negative environment ∷ fs) store input) → IsTruth v)
      (enough : (s : State) → openings_at s.machine.control s.machine.frames s.machine.store ≤ given.cells
      → 2 * cost + openings_at s.machine.control s.machine.frames s.machine.store * opening ≤ heavy s) where
    abbrev pub upper : Machine State Note End
    upper = weighed_store_machine heavy setting

    abbrev pub SaneRelated : ℕ → ℕ → State → CoreState → Type 0
    SaneRelated credit idle s t = Related given credit idle s t × Sane s

    ready_frames : (fs : List Frame) (v : Value) (store : Store) (input : List ℕ) → Sane (source_at (value v) fs store input)
        → IsReadyFor fs store v (heavy (source_at (value v) fs store input))
    ready_frames (rows of environment ∷ fs) v store input sane = (
      row_there of environment fs v store input sane,
      λ few. enough
          (source_at (value v) (rows of environment ∷ fs) store input) few,
    )
    ready_frames [] v store input sane = tt
    ready_frames (arguments form vs es environment ∷ fs) v store input sane = tt
    ready_frames (branches positive negative environment ∷ fs) v store input sane =
        truth_there positive negative environment fs v store input sane
    ready_frames (statement awaits e environment ∷ fs) v store input sane = tt
    ready_frames (call lent ∷ fs) v store input sane = tt

    -- two steps of the core are paid at each state
    opened_few : (fs : List Frame) (goal : Goal) (core : Environment) (low high : ℕ) (frames : List CallFrame) (v : Value)
        (store : Store) → Waits given fs goal core low high frames → openings_by_frames store v fs ≤ given.cells
    opened_few (rows of environment ∷ fs) (goes_on rest x joins) core low high frames v store waits =
        rows_open_few given of v store environment waits.open_few
    opened_few (rows of environment ∷ fs) returns core low high frames v store waits = absurd waits
    opened_few (rows of environment ∷ fs) nowhere core low high frames v store waits = absurd waits
    opened_few [] goal core low high frames v store waits = omega arith
    opened_few (arguments form vs es environment ∷ fs) goal core low high frames v store waits = omega arith
    opened_few (branches positive negative environment ∷ fs) goal core low high frames v store waits = omega arith
    opened_few (statement awaits e environment ∷ fs) goal core low high frames v store waits = omega arith
    opened_few (call lent ∷ fs) goal core low high frames v store waits = omega arith

    opened_at : (control : Control) (fs : List Frame) (store : Store) (input : List ℕ) (idle : ℕ) (t : CoreState)
        → At given idle control fs store input t → openings_at control fs store ≤ given.cells
    opened_at (expression e environment) fs store input idle t at = omega arith
    opened_at (value v) fs store input idle t at = opened_few fs at.goal at.core at.low at.top at.frames v store at.later
    opened_at (stopped by) fs store input idle t at = omega arith

    paid_for : (control : Control) (fs : List Frame) (store : Store) (input : List ℕ) (idle : ℕ) (t : CoreState)
        → At given idle control fs store input t → 2 * cost ≤ heavy (source_at control fs store input)
    paid_for control fs store input idle t at =
        let least : 2 * cost + openings_at control fs store * opening ≤ heavy (source_at control fs store input)
        = enough (source_at control fs store input) (opened_at control fs store input idle t at) in
        omega arith

    -- what is reached is reached by a sane state
    reaches_sane : (w idle : ℕ) (s : State) (t : CoreState) → Sane (step setting s).1 → Steps w idle s t
        → Reaches lower SaneRelated Passing (given.most + 1) w 1 idle (step setting s).0 (step setting s).1 t
    reaches_sane w idle s t sane reaches =
        record {
          steps = reaches.steps;
          credit_after = reaches.credit_after;
          idle_after = reaches.idle_after;
          paid = reaches.paid;
          moves = reaches.moves;
          events_are = reaches.events_are;
          passes = reaches.passes;
          related = (reaches.related, sane);
        }

    step_by : (control : Control) (fs : List Frame) (store : Store) (input : List ℕ) (credit idle : ℕ) (t : CoreState)
        → At given idle control fs store input t → Sane (source_at control fs store input) → end_at control ≡ None
        → Reaches lower SaneRelated Passing (given.most + 1) (upper.weight (source_at control fs store input) + credit) 1 idle
        (upper.step (source_at control fs store input)).0 (upper.step (source_at control fs store input)).1 t
    step_by (expression e environment) fs store input credit idle t at sane lasts =
        let s : State = source_at (expression e environment) fs store input in
        let room : 2 * cost ≤ heavy s = paid_for (expression e environment) fs store input idle t at in
        reaches_sane (heavy s + credit) idle s t (stays_sane s sane)
        (state_step (expression e environment) fs store input (heavy s + credit) (omega (arith, room)) idle t at lasts tt)
    step_by (value v) fs store input credit idle t at sane lasts =
        let s : State = source_at (value v) fs store input in
        let room : 2 * cost ≤ heavy s = paid_for (value v) fs store input idle t at in
        reaches_sane (heavy s + credit) idle s t (stays_sane s sane)
        (state_step (value v) fs store input (heavy s + credit) (omega (arith, room)) idle t at lasts
        (ready_more fs store v (heavy s) (heavy s + credit) (omega arith) (ready_frames fs v store input sane)))
    step_by (stopped by) fs store input credit idle t at sane lasts = absurd (cc)

    -- Where a step of the source weighs what the steps of the core weigh that do it, the core machine does what the store
    -- machine does: it tells the same, and ends alike.
    pub simulates : Simulates upper lower SaneRelated Passing (given.most + 1)
    simulates =
        simulates_until_ended upper lower SaneRelated Passing (given.most + 1) (omega arith)
        (λ credit idle s t related. ends_alike s.machine.control s.machine.frames s.machine.store s.input idle t related.0)
        (λ credit idle s t related. tt)
        (λ credit idle s t related lasts. step_by s.machine.control s.machine.frames s.machine.store s.input credit idle t related.0
        related.1 lasts)
