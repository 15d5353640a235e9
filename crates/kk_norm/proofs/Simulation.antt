-- The core machine does each step of the store machine.
use Rattle.std.proofs.Common.{◌≡◌, ℕ, suc, ◌+◌, ◌*◌, ◌≤◌, Bool, true, false, List, [], ◌∷◌, ◌++◌, length, Option, Some, None, map, refl, sym, ap, subst, ◌∙◌, arith}
use Rattle.std.specs.Prelude.{nat_le, if◌then◌else◌, slice_get}
use Rattle.kk_base.specs.Machines.{Machine}
use Rattle.kk_syntax.specs.declared.program.Form.{Form}
use Rattle.kk_syntax.specs.declared.program.Form.TheVariants.{Construct, Call}
use Rattle.kk_syntax.specs.Trees.{Tree, sequence}
use Rattle.kk_syntax.specs.declared.program.Binder.{Binder}
use Rattle.kk_syntax.specs.declared.program.Binder.TheVariants as OfBinder
use Rattle.kk_syntax.specs.Shapes.{free, nodes_of, without, bound_by, variable_of}
use Rattle.kk_syntax.specs.Programs.{FunctionTree}
use Rattle.kk_syntax.specs.PositionsOf.{is_lent}
use Rattle.kk_source.specs.Notes.{Note}
use Rattle.kk_source.specs.State.{Setting, Value, unit, place, Store, Environment, Frame, arguments, branches, rows, statement, call, End, heap_full, stack_full, Control, expression, stopped, Configuration}
use Rattle.kk_source.specs.Live.{value_of, awaited, held_by_all, live}
use Rattle.kk_source.specs.Actions.{Action, goes as leads_to, builds, calls, print_step, performed}
use Rattle.kk_source.specs.FormEffects.{truth, byte_value, FormEffect, gives, prints, reads, makes, enters, form_effect, effect_step}
use Rattle.kk_source.specs.SourceAfter.{State}
use Rattle.kk_source.specs.Step.{bind_parameters, call_frames, lent_places, at_end, at_value, at_new_place, in_body, construct_step, form_step, call_step, push_step}
use Rattle.kk_source.specs.Matching.{and_then}
use Rattle.kk_core.specs.Codes.{Code, tail_call, Arms, no_arm, arm, FunctionCode, ProgramCode}
use Rattle.kk_core.specs.Decisions.{chosen}
use Rattle.kk_core.specs.Truths.{true_pattern, false_pattern, truth_decisions, truth_case}
use Rattle.kk_core.specs.CoreStates.{CoreSetting, Join, CallFrame, CoreConfiguration, CoreState}
use Rattle.kk_core.specs.CoreMachine as Core
use Rattle.kk_core.specs.CoreMachine.{held_for, held_by_frames}
use Rattle.kk_core.proofs.Truths.{truth_chosen}
use Rattle.kk_norm.specs.Names.{Names}
use Rattle.kk_norm.specs.Normalized.{Then, final, next, size, atom, after, within, joined, finish, finish_call, IsCode}
use Rattle.kk_norm.specs.Meaning.{core_setting_of}
use Rattle.kk_norm.proofs.Variables.{Stands, stands_left, stands_right, stands_later}
use Rattle.kk_norm.proofs.FrameRelation.{Goal, returns, goes_on, goal_of, Fresh, fresh_less, Waits, waits_move, waits_nowhere}
use Rattle.kk_norm.proofs.FrameRelation.{calls_are}
use Rattle.kk_norm.proofs.Bounds.{Bounds, OpensAtMost}
use Rattle.kk_norm.proofs.Functions.{IsGood, AreGood}
use Rattle.kk_norm.proofs.Openings.{core_at}
use Rattle.kk_norm.proofs.Delivery.{source_at, AtTree, Related}
use Rattle.kk_norm.proofs.Delivery as Delivery
use Rattle.kk_norm.proofs.HeldValues.{live_the_same}

-- each expression has a node
pub some_nodes : (e : Tree) → 1 ≤ nodes_of e
some_nodes (sequence binder first rest) = omega (arith, some_nodes first)
some_nodes e = omega arith

-- a form's value is there at once: it makes no cell, and calls nothing
abbrev pub IsAtOnce : FormEffect → Type 0
IsAtOnce (makes c fields) = ⊥
IsAtOnce (enters f values) = ⊥
IsAtOnce effect = Unit {0}

-- a value that ends a block goes to the same place, wherever it is
pub goal_final : (tail : Bool) (joins : List Join) (x y : ℕ) → goal_of (final tail) x joins ≡ goal_of (final tail) y joins
goal_final true [] x y = refl
goal_final true (join ∷ joins) x y = refl
goal_final false [] x y = refl
goal_final false (join ∷ joins) x y = refl

-- a statement's free variables, by the variable that it binds
pub stands_after : (binder : Binder) (names : Names) (environment core : Environment) (bound : ℕ) (xs : List ℕ)
    → Stands names environment core bound (without (bound_by binder) xs) → Stands names environment core bound (without (awaited (variable_of binder)) xs)
stands_after OfBinder.Nothing names environment core bound xs stands = stands
stands_after OfBinder.Wildcard names environment core bound xs stands = stands
stands_after (OfBinder.Variable x) names environment core bound xs stands = stands

-- what a call frame waits for is the same in every environment
waits_call : (given : Bounds) (lent : List Value) (fs : List Frame) (core other : Environment) (low high low_after high_after : ℕ) (frames : List CallFrame)
    → Waits given (call lent ∷ fs) returns core low high frames → Waits given (call lent ∷ fs) returns other low_after high_after frames
waits_call given lent fs core other low high low_after high_after [] waits = waits
waits_call given lent fs core other low high low_after high_after (frame ∷ frames) waits = waits

module _ (setting : Setting) (code : ProgramCode) (given : Bounds) (cost : ℕ) (weight : CoreState → ℕ) (light : (t : CoreState) → weight t ≤ cost) (good : AreGood given setting.program.functions code.functions) (texts : code.texts ≡ setting.program.texts) where
  abbrev pub side : CoreSetting
  side = core_setting_of code setting.positions setting.cells setting.depth

  abbrev pub lower : Machine CoreState Note End
  lower = Delivery.lower side given cost weight light

  abbrev pub Follows : ℕ → ℕ → List Note → State → CoreState → Type 0
  Follows = Delivery.Follows side given cost weight light

  -- what an action of the source does is done
  abbrev pub Does : ℕ → ℕ → Action Configuration → List ℕ → CoreState → Type 0
  Does w idle action input t = Follows w idle (performed action input).0 (performed action input).1 t

  abbrev pub from_at : Control → List Frame → Store → Configuration
  from_at control fs store = record { control = control; frames = fs; store = store }

  -- a print
  pub prints_to : (piece : List ℕ) (k : Then) (m low top : ℕ) (core : Environment) (joins : List Join) (frames : List CallFrame) (fs : List Frame) (store : Store) (input : List ℕ) (w : ℕ) (room : 2 * cost ≤ w) (idle : ℕ) (control : Control) (t : CoreState)
      → lower.step t ≡ performed (print_step piece (core_at (after k m) (record { variable = m; value = unit } ∷ core) joins frames store input).machine) input
      → low ≤ m → Fresh k joins (m + 1) top → Waits given fs (goal_of k m joins) core low top frames
      → Does w idle (print_step piece (at_value unit (from_at control fs store))) input t
  prints_to [] k m low top core joins frames fs store input w room idle control t is le fresh waits =
      Delivery.computes_to side given cost weight light k m low top core joins frames unit fs store input w room idle _ t is le fresh waits
  prints_to (byte ∷ bytes) k m low top core joins frames fs store input w room idle control t is le fresh waits =
      Delivery.computes_to side given cost weight light k m low top core joins frames unit fs store input w room idle _ t is le fresh waits

  -- A form whose value is there at once does on values what it does in the source, whatever each machine does at a
  -- construction and at a call.
  acts_at_once : (effect : FormEffect) → IsAtOnce effect → (k : Then) (m low top : ℕ) (core : Environment) (joins : List Join) (frames : List CallFrame) (fs : List Frame) (store : Store) (input : List ℕ) (w : ℕ) (room : 2 * cost ≤ w) (idle : ℕ) (control : Control)
      (make enter : ℕ → List Value → Action Configuration) (core_make core_enter : ℕ → List Value → Action CoreConfiguration) (t : CoreState)
      → lower.step t ≡ performed (effect_step (λ v. (core_at (after k m) (record { variable = m; value = v } ∷ core) joins frames store input).machine) core_make core_enter effect) input
      → low ≤ m → Fresh k joins (m + 1) top → Waits given fs (goal_of k m joins) core low top frames
      → Does w idle (effect_step (λ v. at_value v (from_at control fs store)) make enter effect) input t
  acts_at_once (gives v) once k m low top core joins frames fs store input w room idle control make enter core_make core_enter t is le fresh waits =
      Delivery.computes_to side given cost weight light k m low top core joins frames v fs store input w room idle _ t is le fresh waits
  acts_at_once (prints piece) once k m low top core joins frames fs store input w room idle control make enter core_make core_enter t is le fresh waits =
      prints_to piece k m low top core joins frames fs store input w room idle control t is le fresh waits
  acts_at_once reads once k m low top core joins frames fs store [] w room idle control make enter core_make core_enter t is le fresh waits =
      Delivery.computes_to side given cost weight light k m low top core joins frames (byte_value None) fs store [] w room idle _ t is le fresh waits
  acts_at_once reads once k m low top core joins frames fs store (byte ∷ input) w room idle control make enter core_make core_enter t is le fresh waits =
      Delivery.computes_to side given cost weight light k m low top core joins frames (byte_value (Some byte)) fs store input w room idle _ t is le fresh waits
  acts_at_once (makes c fields) once k m low top core joins frames fs store input w room idle control make enter core_make core_enter t is le fresh waits = absurd once
  acts_at_once (enters f values) once k m low top core joins frames fs store input w room idle control make enter core_make core_enter t is le fresh waits = absurd once

  -- a function's body is entered
  in_function : (f : ℕ) (function : FunctionTree) (one : IsGood given code.functions f function) (vs lent : List Value) (fs : List Frame) (core : Environment) (low high : ℕ) (frames : List CallFrame) (store : Store) (input : List ℕ)
      → Waits given (call lent ∷ fs) returns core low high frames
      → AtTree given given.most function.body (bind_parameters 0 vs []) (call lent ∷ fs) store input (core_at one.code.body (bind_parameters 0 vs []) [] frames store input)
  in_function f function one vs lent fs core low high frames store input waits =
      let n : ℕ = length function.parameters in
      let bound : Environment = bind_parameters 0 vs [] in
      Delivery.at_code given given.most (final true) [] function.body one.code.body bound n (n + size function.body) bound [] frames (call lent ∷ fs) store input one.is.body (λ x among. (refl, one.closed x among)) one.open_few one.small one.small (omega arith)
      (waits_call given lent fs core bound low high n (n + size function.body) frames waits)

  -- a tail call
  tail_calls : (f : ℕ) (found : Option FunctionTree) → slice_get setting.program.functions f ≡ found
      → (vs lent : List Value) (older : List Frame) (core : Environment) (low high : ℕ) (frames : List CallFrame) (store : Store) (input : List ℕ) (w : ℕ) (room : 2 * cost ≤ w) (idle : ℕ) (control : Control) (fs : List Frame) (at : Code) (bound : Environment) (joins : List Join)
      → lower.step (core_at at bound joins frames store input) ≡ performed (Core.tail_step (slice_get code.functions f) vs (core_at at bound joins frames store input).machine) input
      → Waits given (call lent ∷ older) returns core low high frames
      → Related given 0 idle (source_at control fs store input) (core_at at bound joins frames store input)
      → Does w idle (call_step setting f found vs (call lent ∷ older) (from_at control fs store)) input (core_at at bound joins frames store input)
  tail_calls f None found_is vs lent older core low high frames store input w room idle control fs at bound joins is waits stay =
      let t : CoreState = core_at at bound joins frames store input in
      let stays : lower.step t ≡ ([], t) = is ∙ ap (λ (o : Option FunctionCode). performed (Core.tail_step o vs t.machine) input) (good.none f found_is) in
      Delivery.follows side given cost weight light w room idle idle 1 [] (source_at control fs store input) t (omega arith) (omega arith)
      (subst (λ (one : List Note × CoreState). one.0 ++ [] ≡ []) (sym stays) refl)
      (subst (λ (one : List Note × CoreState). Related given 0 idle (source_at control fs store input) one.1) (sym stays) stay)
  tail_calls f (Some function) found_is vs lent older core low high frames store input w room idle control fs at bound joins is waits stay =
      let t : CoreState = core_at at bound joins frames store input in
      let one : IsGood given code.functions f function = good.each f function found_is in
      Delivery.follows_step side given cost weight light w room idle given.most 0 [] (source_at (expression function.body (bind_parameters 0 vs [])) (call lent ∷ older) store input) t _
      (is ∙ ap (λ (o : Option FunctionCode). performed (Core.tail_step o vs t.machine) input) one.found) (omega arith) (omega arith) refl
      (in_function f function one vs lent older core low high frames store input waits)

  -- a call that is no tail call: the stack is full, or the body is entered
  full_or_enters : (full : Bool) (f : ℕ) (function : FunctionTree) (one : IsGood given code.functions f function) (found : ℕ) (vs lent : List Value) (older : List Frame) (frames : List CallFrame) (store : Store) (input : List ℕ) (w : ℕ) (room : 2 * cost ≤ w) (idle : ℕ) (control : Control) (fs : List Frame) (t : CoreState) (from : CoreConfiguration)
      → lower.step t ≡ performed (calls found (if full then Core.at_end stack_full from else (core_at one.code.body (bind_parameters 0 vs []) [] frames store input).machine)) input
      → Waits given (call lent ∷ older) returns [] 0 0 frames
      → Does w idle (calls found (if full then at_end stack_full (from_at control fs store) else in_body function vs (from_at control (call lent ∷ older) store))) input t
  full_or_enters true f function one found vs lent older frames store input w room idle control fs t from is waits =
      Delivery.follows_step side given cost weight light w room idle 0 0 _ (source_at (stopped stack_full) fs store input) t _ is (omega arith) (omega arith) refl refl
  full_or_enters false f function one found vs lent older frames store input w room idle control fs t from is waits =
      Delivery.follows_step side given cost weight light w room idle given.most 0 _ (source_at (expression function.body (bind_parameters 0 vs [])) (call lent ∷ older) store input) t _ is (omega arith) (omega arith) refl
      (in_function f function one vs lent older [] 0 0 frames store input waits)

  -- with no call frame directly beneath a call is no tail call
  push_is : (f : ℕ) (function : FunctionTree) (vs : List Value) (fs : List Frame) (from : Configuration) (rest : Code) (x : ℕ) (joins : List Join) (core : Environment) (low high : ℕ) (frames : List CallFrame)
      → Waits given fs (goes_on rest x joins) core low high frames → call_step setting f (Some function) vs fs from ≡ push_step setting f function vs fs from
  push_is f function vs [] from rest x joins core low high frames waits = absurd waits
  push_is f function vs (arguments form ws es environment ∷ fs) from rest x joins core low high frames waits = refl
  push_is f function vs (branches positive negative environment ∷ fs) from rest x joins core low high frames waits = refl
  push_is f function vs (rows of environment ∷ fs) from rest x joins core low high frames waits = refl
  push_is f function vs (statement awaits e environment ∷ fs) from rest x joins core low high frames waits = refl
  push_is f function vs (call lent ∷ fs) from rest x joins core low high frames waits = absurd waits

  -- a call that is no tail call
  pushes : (f : ℕ) (found : Option FunctionTree) → slice_get setting.program.functions f ≡ found
      → (vs : List Value) (k : Then) (m low top : ℕ) (core : Environment) (joins : List Join) (frames : List CallFrame) (fs : List Frame) (store : Store) (input : List ℕ) (w : ℕ) (room : 2 * cost ≤ w) (idle : ℕ) (control : Control) (older : List Frame) (at : Code)
      → lower.step (core_at at core joins frames store input) ≡ performed (Core.call_step side f (slice_get code.functions f) vs (λ lent. record { variable = m; rest = after k m; joins = joins; environment = core; lent = lent }) (core_at at core joins frames store input).machine) input
      → low ≤ m → Fresh k joins (m + 1) top → (rest : Code) (x : ℕ) (others : List Join) → goal_of k m joins ≡ goes_on rest x others → Waits given fs (goal_of k m joins) core low top frames
      → Related given 0 idle (source_at control older store input) (core_at at core joins frames store input)
      → Does w idle (call_step setting f found vs fs (from_at control older store)) input (core_at at core joins frames store input)
  pushes f None found_is vs k m low top core joins frames fs store input w room idle control older at is le fresh rest x others goal_is waits stay =
      let t : CoreState = core_at at core joins frames store input in
      let stays : lower.step t ≡ ([], t) = is ∙ ap (λ (o : Option FunctionCode). performed (Core.call_step side f o vs (λ lent. record { variable = m; rest = after k m; joins = joins; environment = core; lent = lent }) t.machine) input) (good.none f found_is) in
      Delivery.follows side given cost weight light w room idle idle 1 [] (source_at control older store input) t (omega arith) (omega arith)
      (subst (λ (one : List Note × CoreState). one.0 ++ [] ≡ []) (sym stays) refl)
      (subst (λ (one : List Note × CoreState). Related given 0 idle (source_at control older store input) one.1) (sym stays) stay)
  pushes f (Some function) found_is vs k m low top core joins frames fs store input w room idle control older at is le fresh rest x others goal_is waits stay =
      let one : IsGood given code.functions f function = good.each f function found_is in
      let lent : List Value = lent_places (is_lent setting.positions f) 0 vs in
      let t : CoreState = core_at at core joins frames store input in
      let waiting : CallFrame = record { variable = m; rest = after k m; joins = joins; environment = core; lent = lent } in
      let same : call_frames fs ≡ suc (length frames) = calls_are given fs (goal_of k m joins) core low top frames waits in
      let push : call_step setting f (Some function) vs fs (from_at control older store) ≡ push_step setting f function vs fs (from_at control older store)
      = push_is f function vs fs (from_at control older store) rest x others core low top frames (subst (λ (goal : Goal). Waits given fs goal core low top frames) goal_is waits) in
      let called : Waits given (call lent ∷ fs) returns [] 0 0 (waiting ∷ frames)
      = record { k = k; low = low; top = top; lent_is = refl; rest_is = refl; from = le; fresh = fresh; later = waits } in
      let found : ℕ = suc (length frames) in
      let enters_so : lower.step t ≡ performed (calls found (if nat_le setting.depth found then Core.at_end stack_full t.machine else (core_at one.code.body (bind_parameters 0 vs []) [] (waiting ∷ frames) store input).machine)) input
      = is ∙ ap (λ (o : Option FunctionCode). performed (Core.call_step side f o vs (λ lent. record { variable = m; rest = after k m; joins = joins; environment = core; lent = lent }) t.machine) input) one.found in
      let done : Does w idle (calls found (if nat_le setting.depth found then at_end stack_full (from_at control older store) else in_body function vs (from_at control (call lent ∷ fs) store))) input t
      = full_or_enters (nat_le setting.depth found) f function one found vs lent fs (waiting ∷ frames) store input w room idle control older t t.machine enters_so called in
      subst (λ (action : Action Configuration). Does w idle action input t) (sym push)
      (subst (λ (n : ℕ). Does w idle (calls n (if nat_le setting.depth n then at_end stack_full (from_at control older store) else in_body function vs (from_at control (call lent ∷ fs) store))) input t) (sym same) done)

  -- A call on variables, by what comes after it.
  calls_to : (f : ℕ) (xs : List ℕ) (k : Then) (m low top : ℕ) (core : Environment) (joins : List Join) (frames : List CallFrame) (fs : List Frame) (store : Store) (input : List ℕ) (w : ℕ) (room : 2 * cost ≤ w) (idle : ℕ) (control : Control) (older : List Frame)
      → low ≤ m → Fresh k joins (m + 1) top → Waits given fs (goal_of k m joins) core low top frames
      → Related given 0 idle (source_at control older store input) (core_at (finish_call k m f xs) core joins frames store input)
      → Does w idle (call_step setting f (slice_get setting.program.functions f) (map (value_of core) xs) fs (from_at control older store)) input (core_at (finish_call k m f xs) core joins frames store input)
  calls_to f xs (next rest) m low top core joins frames fs store input w room idle control older le fresh waits stay =
      let found : Option FunctionTree = slice_get setting.program.functions f in
      let code_is : Code = finish_call (next rest) m f xs in
      pushes f found refl (map (value_of core) xs) (next rest) m low top core joins frames fs store input w room idle control older code_is
      refl le fresh rest m joins refl waits stay
  calls_to f xs (final false) m low top core [] frames fs store input w room idle control older le fresh waits stay =
      absurd (waits_nowhere given fs core low top frames waits)
  calls_to f xs (final false) m low top core (join ∷ joins) frames fs store input w room idle control older le fresh waits stay =
      let found : Option FunctionTree = slice_get setting.program.functions f in
      let code_is : Code = finish_call (final false) m f xs in
      pushes f found refl (map (value_of core) xs) (final false) m low top core (join ∷ joins) frames fs store input w room idle control older code_is
      refl le fresh join.rest join.variable joins refl waits stay
  calls_to f xs (final true) m low top core (join ∷ joins) frames fs store input w room idle control older le fresh waits stay =
      absurd (waits_nowhere given fs core low top frames waits)
  calls_to f xs (final true) m low top core [] frames (call lent ∷ fs) store input w room idle control older le fresh waits stay =
      let found : Option FunctionTree = slice_get setting.program.functions f in
      tail_calls f found refl (map (value_of core) xs) lent fs core low top frames store input w room idle control older (tail_call f xs) core []
      refl waits stay
  calls_to f xs (final true) m low top core [] frames [] store input w room idle control older le fresh waits stay = absurd waits
  calls_to f xs (final true) m low top core [] frames (arguments form vs es environment ∷ fs) store input w room idle control older le fresh waits stay = absurd waits
  calls_to f xs (final true) m low top core [] frames (branches positive negative environment ∷ fs) store input w room idle control older le fresh waits stay = absurd waits
  calls_to f xs (final true) m low top core [] frames (rows of environment ∷ fs) store input w room idle control older le fresh waits stay = absurd waits
  calls_to f xs (final true) m low top core [] frames (statement awaits e environment ∷ fs) store input w room idle control older le fresh waits stay = absurd waits

  -- a construction with fields: the heap is full, or there is one more cell
  full_or_makes : (full : Bool) (found c : ℕ) (fields : List Value) (k : Then) (m low top : ℕ) (core : Environment) (joins : List Join) (frames : List CallFrame) (fs : List Frame) (store : Store) (input : List ℕ) (w : ℕ) (room : 2 * cost ≤ w) (idle : ℕ) (control : Control) (older : List Frame) (t : CoreState) (from : CoreConfiguration)
      → lower.step t ≡ performed (builds found (if full then Core.at_end heap_full from else (core_at (after k m) (record { variable = m; value = place (length store) } ∷ core) joins frames (store ++ record { made_by = c; fields = fields } ∷ []) input).machine)) input
      → low ≤ m → Fresh k joins (m + 1) top → Waits given fs (goal_of k m joins) core low top frames
      → Does w idle (builds found (if full then at_end heap_full (from_at control older store) else at_new_place c fields (from_at control fs store))) input t
  full_or_makes true found c fields k m low top core joins frames fs store input w room idle control older t from is le fresh waits =
      Delivery.follows_step side given cost weight light w room idle 0 0 _ (source_at (stopped heap_full) older store input) t _ is (omega arith) (omega arith) refl refl
  full_or_makes false found c fields k m low top core joins frames fs store input w room idle control older t from is le fresh waits =
      Delivery.computes_to side given cost weight light k m low top core joins frames (place (length store)) fs (store ++ record { made_by = c; fields = fields } ∷ []) input w room idle _ t is le fresh waits

  -- as many places are live, so both machines find the heap full, or both make a cell
  constructs : (c : ℕ) (fields : List Value) (k : Then) (m low top : ℕ) (core : Environment) (joins : List Join) (frames : List CallFrame) (fs : List Frame) (store : Store) (input : List ℕ) (w : ℕ) (room : 2 * cost ≤ w) (idle : ℕ) (control : Control) (older : List Frame) (at : Code)
      → lower.step (core_at at core joins frames store input) ≡ performed (Core.construct_step side c fields (held_for m (after k m) joins core ++ held_by_frames frames) (λ v. (core_at (after k m) (record { variable = m; value = v } ∷ core) joins frames store input).machine) (core_at at core joins frames store input).machine) input
      → low ≤ m → Fresh k joins (m + 1) top → Waits given fs (goal_of k m joins) core low top frames
      → Does w idle (construct_step setting c fields fs (from_at control older store)) input (core_at at core joins frames store input)
  constructs c fields k m low top core joins frames fs store input w room idle control older at is le fresh waits =
      let t : CoreState = core_at at core joins frames store input in
      let found : ℕ = live store (fields ++ (held_for m (after k m) joins core ++ held_by_frames frames)) in
      let same : live store (fields ++ held_by_all fs) ≡ found = live_the_same given k m low top core joins frames fs store fields le fresh waits in
      subst (λ (n : ℕ). Does w idle (builds n (if nat_le setting.cells n then at_end heap_full (from_at control older store) else at_new_place c fields (from_at control fs store))) input t) (sym same)
      (full_or_makes (nat_le setting.cells found) found c fields k m low top core joins frames fs store input w room idle control older t t.machine is le fresh waits)

  -- a form on variables
  pub acts : (form : Form) (xs : List ℕ) (k : Then) (m low top : ℕ) (core : Environment) (joins : List Join) (frames : List CallFrame) (fs : List Frame) (store : Store) (input : List ℕ) (w : ℕ) (room : 2 * cost ≤ w) (idle : ℕ) (control : Control) (older : List Frame)
      → low ≤ m → Fresh k joins (m + 1) top → Waits given fs (goal_of k m joins) core low top frames
      → Related given 0 idle (source_at control older store input) (core_at (finish k m form xs) core joins frames store input)
      → Does w idle (form_step setting form (map (value_of core) xs) fs (from_at control older store)) input (core_at (finish k m form xs) core joins frames store input)
  acts (Call f) xs k m low top core joins frames fs store input w room idle control older le fresh waits stay =
      calls_to f xs k m low top core joins frames fs store input w room idle control older le fresh waits stay
  acts (Construct c) (x ∷ xs) k m low top core joins frames fs store input w room idle control older le fresh waits stay =
      constructs c (map (value_of core) (x ∷ xs)) k m low top core joins frames fs store input w room idle control older (finish k m (Construct c) (x ∷ xs)) refl le fresh waits
  acts form xs k m low top core joins frames fs store input w room idle control older le fresh waits stay =
      let stays : ℕ → List Value → Action Configuration = λ of values. leads_to (from_at control older store) in
      let core_stays : ℕ → List Value → Action CoreConfiguration = λ of values. leads_to (core_at (finish k m form xs) core joins frames store input).machine in
      acts_at_once (form_effect setting.program.texts form (map (value_of core) xs)) tt k m low top core joins frames fs store input w room idle control stays stays core_stays core_stays _ (ap (λ (all : List (List ℕ)). performed (effect_step (λ v. (core_at (after k m) (record { variable = m; value = v } ∷ core) joins frames store input).machine) core_stays core_stays (form_effect all form (map (value_of core) xs))) input) texts) le fresh waits

  -- the core machine at the branch that is taken
  in_branch : (test : Bool) (k : Then) (positive negative : Tree) (first second : Code) (names : Names) (environment : Environment) (n low top : ℕ) (core : Environment) (joins : List Join) (frames : List CallFrame) (fs : List Frame) (store : Store) (input : List ℕ)
      → IsCode given.constructors k names n positive first → IsCode given.constructors k names (n + size positive) negative second
      → low ≤ n → Stands names environment core low (free positive ++ free negative) → OpensAtMost given positive → OpensAtMost given negative → nodes_of positive + nodes_of negative ≤ given.most
      → Fresh k joins (n + size positive + size negative) top → ((x : ℕ) → Waits given fs (goal_of k x joins) core low top frames)
      → AtTree given given.most (if test then positive else negative) environment fs store input (core_at (if test then first else second) core joins frames store input)
  in_branch true k positive negative first second names environment n low top core joins frames fs store input first_is second_is le stands positive_opens negative_opens small fresh waits =
      Delivery.at_code given given.most k names positive first environment n top core joins frames fs store input first_is
      (stands_left names environment core n (free positive) (free negative) (stands_later names environment core core low n (free positive ++ free negative) (λ z below. refl) le stands))
      positive_opens (omega arith) (omega arith)
      (fresh_less k joins (n + size positive) (n + size positive + size negative) top (omega arith) fresh)
      (waits_move given fs (goal_of k (atom names n positive) joins) core core low n top top frames (λ z below. refl) le (omega arith) (waits (atom names n positive)))
  in_branch false k positive negative first second names environment n low top core joins frames fs store input first_is second_is le stands positive_opens negative_opens small fresh waits =
      let m : ℕ = n + size positive in
      Delivery.at_code given given.most k names negative second environment m top core joins frames fs store input second_is
      (stands_right names environment core m (free positive) (free negative) (stands_later names environment core core low m (free positive ++ free negative) (λ z below. refl) (omega arith) stands))
      negative_opens (omega arith) (omega arith) fresh
      (waits_move given fs (goal_of k (atom names m negative) joins) core core low m top top frames (λ z below. refl) (omega arith) (omega arith) (waits (atom names m negative)))

  -- the case of a truth goes on as its first code or its second
  truth_goes : (x : ℕ) (test : Bool) (first second : Code) (core : Environment) (joins : List Join) (frames : List CallFrame)
      (store : Store) (input : List ℕ) → value_of core x ≡ truth test
      → lower.step (core_at (truth_case x first second) core joins frames store input)
      ≡ ([], core_at (if test then first else second) core joins frames store input)
  truth_goes x test first second core joins frames store input is =
      let arms : Arms = arm true_pattern first (arm false_pattern second no_arm) in
      let from = (core_at (truth_case x first second) core joins frames store input).machine in
      ap (λ (v : Value). performed (Core.case_step (and_then (chosen (slice_get store) v truth_decisions) (Core.arm_at arms)) core joins
      from) input) is
      ∙ (ap (λ (row : Option ℕ). performed (Core.case_step (and_then row (Core.arm_at arms)) core joins from) input)
      (truth_chosen (slice_get store) test) ∙ by_test test)
    where
      by_test : (test : Bool)
          → performed (Core.case_step (and_then (Some (if test then 0 else 1))
          (Core.arm_at (arm true_pattern first (arm false_pattern second no_arm)))) core joins
          (core_at (truth_case x first second) core joins frames store input).machine) input
          ≡ ([], core_at (if test then first else second) core joins frames store input)
      by_test true = refl
      by_test false = refl

  -- a condition decides which branch comes
  pub branch_goes : (test : Bool) (k : Then) (positive negative : Tree) (first second : Code) (names : Names) (environment : Environment) (n low top : ℕ) (core : Environment) (joins : List Join) (x : ℕ) (frames : List CallFrame) (fs : List Frame) (store : Store) (input : List ℕ) (w : ℕ) (room : 2 * cost ≤ w) (idle : ℕ)
      → value_of core x ≡ truth test → IsCode given.constructors (within k) names n positive first → IsCode given.constructors (within k) names (n + size positive) negative second
      → low ≤ n → Stands names environment core low (free positive ++ free negative) → OpensAtMost given positive → OpensAtMost given negative → nodes_of positive + nodes_of negative ≤ given.most
      → Fresh k joins (n + size positive + size negative + 1) top → Waits given fs (goal_of k (n + size positive + size negative) joins) core low top frames
      → Follows w idle [] (source_at (expression (if test then positive else negative) environment) fs store input) (core_at (joined k (n + size positive + size negative) (truth_case x first second)) core joins frames store input)
  branch_goes test (final tail) positive negative first second names environment n low top core joins x frames fs store input w room idle is first_is second_is le stands positive_opens negative_opens small fresh waits =
      let k : Then = final tail in
      Delivery.follows_step side given cost weight light w room idle given.most 0 [] (source_at (expression (if test then positive else negative) environment) fs store input) (core_at (truth_case x first second) core joins frames store input)
      (core_at (if test then first else second) core joins frames store input)
      (truth_goes x test first second core joins frames store input is)
      (omega arith) (omega arith) refl
      (in_branch test k positive negative first second names environment n low top core joins frames fs store input first_is second_is le stands positive_opens negative_opens small
      (fresh_less k joins (n + size positive + size negative) (n + size positive + size negative + 1) top (omega arith) fresh)
      (λ y. subst (λ (goal : Goal). Waits given fs goal core low top frames) (goal_final tail joins (n + size positive + size negative) y) waits))
  branch_goes test (next rest) positive negative first second names environment n low top core joins x frames fs store input w room idle is first_is second_is le stands positive_opens negative_opens small fresh waits =
      let k : Then = final false in
      let m : ℕ = n + size positive + size negative in
      let join : Join = record { variable = m; rest = rest } in
      let between : CoreState = core_at (truth_case x first second) core (join ∷ joins) frames store input in
      let taken : CoreState = core_at (if test then first else second) core (join ∷ joins) frames store input in
      let goes : lower.step between ≡ ([], taken) = truth_goes x test first second core (join ∷ joins) frames store input is in
      let s : State = source_at (expression (if test then positive else negative) environment) fs store input in
      Delivery.follows_step side given cost weight light w room idle given.most 1 [] s (core_at (joined (next rest) m (truth_case x first second)) core joins frames store input)
      between refl (omega arith) (omega arith)
      (subst (λ (one : List Note × CoreState). one.0 ++ [] ≡ []) (sym goes) refl)
      (subst (λ (one : List Note × CoreState). Related given 0 given.most s one.1) (sym goes)
      (in_branch test k positive negative first second names environment n low top core (join ∷ joins) frames fs store input first_is second_is le stands positive_opens negative_opens small (omega arith, omega (arith, fresh)) (λ y. waits)))
