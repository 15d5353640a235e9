-- A run with more cells and a greater depth goes as far as the smaller one goes, and does the same.
use Rattle.std.proofs.Common.{◌≡◌, ℕ, zero, suc, ◌≤◌, Bool, true, false, List, [], ◌∷◌, ◌++◌, Option, Some, None, arith, refl, sym, ap, ◌∙◌, append_assoc, subst}
use Rattle.std.proofs.lemmas.List.{append-nil}
use Rattle.std.specs.Prelude.{slice_get, nat_le, if◌then◌else◌}
use Rattle.kk_base.specs.Trace.{IsPrefix}
use Rattle.kk_base.specs.Machines.{step_unless, trace, state, ending_after}
use Rattle.kk_base.proofs.Machines.{trace_ended, state_ended}
use Rattle.kk_syntax.specs.declared.program.Form.{Form}
use Rattle.kk_syntax.specs.Trees.{Tree, variable, apply, no_tree, tree}
use Rattle.kk_syntax.specs.Programs.{FunctionTree}
use Rattle.kk_syntax.specs.PositionsOf.{is_lent}
use Rattle.kk_source.specs.State.{Setting, Value, Environment, Frame, arguments, branches, rows, statement, call, End, heap_full, stack_full, Control, expression, value, stopped, Configuration}
use Rattle.kk_source.specs.Notes.{Note}
use Rattle.kk_source.specs.Live.{held_by_all, live}
use Rattle.kk_source.specs.Step.{at_value, at_end, at_new_place, in_body, lent_places, call_frames, construct_step, push_step, call_step, form_step, expression_step, value_step, step_at, step_of}
use Rattle.kk_source.specs.SourceAfter.{step, ending_of, store_machine, HasRoom, State}
use Rattle.kk_source.specs.Actions.{Action, builds, calls, performed}
use Rattle.kk_source.specs.FormEffects.{FormEffect, gives, prints, reads, makes, enters, form_effect, effect_step}

-- the same, or a stop where the other goes on
data Follows : Action Configuration → Action Configuration → Type 0 where
  same : (a : Action Configuration) → Follows a a
  no_cell : (found : ℕ) → (c to : Configuration) → Follows (builds found (at_end heap_full c)) (builds found to)
  no_frame : (found : ℕ) → (c to : Configuration) → Follows (calls found (at_end stack_full c)) (calls found to)

module _ (setting : Setting) (cells depth : ℕ) (more_cells : setting.cells ≤ cells) (more_depth : setting.depth ≤ depth) where
  abbrev large : Setting
  large = record setting { cells = cells; depth = depth }

  room : (n m k : ℕ) → n ≤ m → nat_le n k ≡ false → nat_le m k ≡ false
  room n m k le full = grind arith

  construct_follows : (c : ℕ) (vs : List Value) (older : List Frame) (from : Configuration) → Follows (construct_step setting c vs older from) (construct_step large c vs older from)
  construct_follows c vs older from = by_test (nat_le setting.cells (live from.store (vs ++ held_by_all older))) refl
    where
      by_test : (full : Bool) → nat_le setting.cells (live from.store (vs ++ held_by_all older)) ≡ full → Follows (builds (live from.store (vs ++ held_by_all older)) (if full then at_end heap_full from else at_new_place c vs (record from { frames = older }))) (builds (live from.store (vs ++ held_by_all older)) (if nat_le cells (live from.store (vs ++ held_by_all older)) then at_end heap_full from else at_new_place c vs (record from { frames = older })))
      by_test true is = no_cell _ from _
      by_test false is = rw (room setting.cells cells _ more_cells is) (same _)

  push_follows : (f : ℕ) (function : FunctionTree) (vs : List Value) (older : List Frame) (from : Configuration) → Follows (push_step setting f function vs older from) (push_step large f function vs older from)
  push_follows f function vs older from = by_test (nat_le setting.depth (call_frames older)) refl
    where
      by_test : (full : Bool) → nat_le setting.depth (call_frames older) ≡ full → Follows (calls (call_frames older) (if full then at_end stack_full from else in_body function vs (record from { frames = call (lent_places (is_lent setting.positions f) 0 vs) ∷ older }))) (calls (call_frames older) (if nat_le depth (call_frames older) then at_end stack_full from else in_body function vs (record from { frames = call (lent_places (is_lent setting.positions f) 0 vs) ∷ older })))
      by_test true is = no_frame _ from _
      by_test false is = rw (room setting.depth depth _ more_depth is) (same _)

  call_follows : (f : ℕ) (function : Option FunctionTree) (vs : List Value) (older : List Frame) (from : Configuration) → Follows (call_step setting f function vs older from) (call_step large f function vs older from)
  call_follows f None vs older from = same _
  call_follows f (Some function) vs (call lent ∷ older) from = same _
  call_follows f (Some function) vs [] from = push_follows f function vs [] from
  call_follows f (Some function) vs (arguments form values left env ∷ older) from = push_follows f function vs (arguments form values left env ∷ older) from
  call_follows f (Some function) vs (branches p q env ∷ older) from = push_follows f function vs (branches p q env ∷ older) from
  call_follows f (Some function) vs (rows of env ∷ older) from = push_follows f function vs (rows of env ∷ older) from
  call_follows f (Some function) vs (statement x rest env ∷ older) from = push_follows f function vs (statement x rest env ∷ older) from

  form_follows : (form : Form) (vs : List Value) (older : List Frame) (from : Configuration) → Follows (form_step setting form vs older from) (form_step large form vs older from)
  form_follows form vs older from = by_effect (form_effect setting.program.texts form vs)
    where
      by_effect : (effect : FormEffect) → Follows (effect_step (λ v. at_value v (record from { frames = older })) (λ c fields. construct_step setting c fields older from) (λ f arguments. call_step setting f (slice_get setting.program.functions f) arguments older from) effect) (effect_step (λ v. at_value v (record from { frames = older })) (λ c fields. construct_step large c fields older from) (λ f arguments. call_step large f (slice_get setting.program.functions f) arguments older from) effect)
      by_effect (gives v) = same _
      by_effect (prints piece) = same _
      by_effect reads = same _
      by_effect (makes c fields) = construct_follows c fields older from
      by_effect (enters f values) = call_follows f (slice_get setting.program.functions f) values older from

  expression_follows : (e : Tree) (env : Environment) (c : Configuration) → Follows (expression_step setting e env c) (expression_step large e env c)
  expression_follows (variable x) env c = same _
  expression_follows (apply form no_tree) env c = form_follows form [] c.frames c
  expression_follows _ env c = same _

  value_follows : (v : Value) (fs : List Frame) (c : Configuration) → Follows (value_step setting v fs c) (value_step large v fs c)
  value_follows v (arguments form values (tree next left) env ∷ older) c = same _
  value_follows v (arguments form values no_tree env ∷ older) c = form_follows form (values ++ v ∷ []) older c
  value_follows v (branches p q env ∷ older) c = same _
  value_follows v (rows of env ∷ older) c = same _
  value_follows v (statement x rest env ∷ older) c = same _
  value_follows v (call lent ∷ next ∷ older) c = same _
  value_follows v (call lent ∷ []) c = same _
  value_follows v [] c = same _

  step_follows : (control : Control) (c : Configuration) → Follows (step_at setting control c) (step_at large control c)
  step_follows (expression e env) c = expression_follows e env c
  step_follows (value v) c = value_follows v c.frames c
  step_follows (stopped by) c = same _

  -- a run of the smaller machine is the beginning of the larger one's, and the same where it has found room
  pub record Further (n : ℕ) (s : State) : Type 0 where
    pub prefix : IsPrefix (trace (store_machine setting) n s) (trace (store_machine large) n s)
    pub trace_is : HasRoom (ending_after (store_machine setting) n s) → trace (store_machine large) n s ≡ trace (store_machine setting) n s
    pub state_is : HasRoom (ending_after (store_machine setting) n s) → state (store_machine large) n s ≡ state (store_machine setting) n s

  -- both take the same step
  further_same : (n : ℕ) (s next : State) (notes : List Note) → (store_machine setting).step s ≡ (notes, next) → (store_machine large).step s ≡ (notes, next) → Further n next → Further (suc n) s
  further_same n s next notes small_is large_is f =
      let small_trace : trace (store_machine setting) (suc n) s ≡ notes ++ trace (store_machine setting) n next = ap (λ (p : List Note × State). p.0 ++ trace (store_machine setting) n p.1) small_is in
      let large_trace : trace (store_machine large) (suc n) s ≡ notes ++ trace (store_machine large) n next = ap (λ (p : List Note × State). p.0 ++ trace (store_machine large) n p.1) large_is in
      let small_state : state (store_machine setting) (suc n) s ≡ state (store_machine setting) n next = ap (λ (p : List Note × State). state (store_machine setting) n p.1) small_is in
      let large_state : state (store_machine large) (suc n) s ≡ state (store_machine large) n next = ap (λ (p : List Note × State). state (store_machine large) n p.1) large_is in
      let has_room : HasRoom (ending_after (store_machine setting) (suc n) s) → HasRoom (ending_after (store_machine setting) n next) = λ r. subst (λ t. HasRoom (ending_of t)) small_state r in
      record {
        prefix = (f.prefix.0, ap (λ (l : List Note). l ++ f.prefix.0) small_trace ∙ (append_assoc notes (trace (store_machine setting) n next) f.prefix.0 ∙ (ap (λ (l : List Note). notes ++ l) f.prefix.1 ∙ sym large_trace)));
        trace_is = λ r. large_trace ∙ (ap (λ (l : List Note). notes ++ l) (f.trace_is (has_room r)) ∙ sym small_trace);
        state_is = λ r. large_state ∙ (f.state_is (has_room r) ∙ sym small_state);
      }

  -- the smaller one stops
  further_stopped : (n : ℕ) (s next other : State) (notes : List Note) (w : End) → (store_machine setting).step s ≡ (notes, next) → (store_machine large).step s ≡ (notes, other) → ending_of next ≡ Some w → (HasRoom (Some w) → ⊥) → Further (suc n) s
  further_stopped n s next other notes w small_is large_is stops none =
      let small_trace : trace (store_machine setting) (suc n) s ≡ notes ++ [] =
      ap (λ (p : List Note × State). p.0 ++ trace (store_machine setting) n p.1) small_is ∙ ap (λ (l : List Note). notes ++ l) (trace_ended (store_machine setting) n next w stops) in
      let large_trace : trace (store_machine large) (suc n) s ≡ notes ++ trace (store_machine large) n other = ap (λ (p : List Note × State). p.0 ++ trace (store_machine large) n p.1) large_is in
      let small_state : state (store_machine setting) (suc n) s ≡ next =
      ap (λ (p : List Note × State). state (store_machine setting) n p.1) small_is ∙ state_ended (store_machine setting) n next w stops in
      let no_room : HasRoom (ending_after (store_machine setting) (suc n) s) → ⊥ = λ r. none (subst HasRoom stops (subst (λ t. HasRoom (ending_of t)) small_state r)) in
      record {
        prefix = (trace (store_machine large) n other, ap (λ (l : List Note). l ++ trace (store_machine large) n other) (small_trace ∙ append-nil notes) ∙ sym large_trace);
        trace_is = λ r. absurd (no_room r);
        state_is = λ r. absurd (no_room r);
      }

  further_next : (n : ℕ) (s : State) (a b : Action Configuration) → Follows a b → (store_machine setting).step s ≡ performed a s.input → (store_machine large).step s ≡ performed b s.input → ((next : State) → Further n next) → Further (suc n) s
  further_next n s x y (same a) small_is large_is later = further_same n s _ _ small_is large_is (later _)
  further_next n s x y (no_cell found c to) small_is large_is later = further_stopped n s _ _ _ heap_full small_is large_is refl (λ r. r)
  further_next n s x y (no_frame found c to) small_is large_is later = further_stopped n s _ _ _ stack_full small_is large_is refl (λ r. r)

  further_ended : (n : ℕ) (s : State) (w : End) → ending_of s ≡ Some w → Further n s
  further_ended n s w at_end =
      let small_trace = trace_ended (store_machine setting) n s w at_end in
      let large_trace = trace_ended (store_machine large) n s w at_end in
      record {
        prefix = (trace (store_machine large) n s, ap (λ (l : List Note). l ++ trace (store_machine large) n s) small_trace);
        trace_is = λ r. large_trace ∙ sym small_trace;
        state_is = λ r. state_ended (store_machine large) n s w at_end ∙ sym (state_ended (store_machine setting) n s w at_end);
      }

  pub goes_further : (n : ℕ) (s : State) → Further n s
  goes_further zero s = record { prefix = ([], refl); trace_is = λ r. refl; state_is = λ r. refl }
  goes_further (suc n) s = by_end (ending_of s) refl (λ next. goes_further n next)
    where
      by_end : (how : Option End) → ending_of s ≡ how → ((next : State) → Further n next) → Further (suc n) s
      by_end (Some w) e later = further_ended (suc n) s w e
      by_end None e later =
          further_next n s (step_of setting s.machine) (step_of large s.machine) (step_follows s.machine.control s.machine)
          (ap (λ how. step_unless how s (step setting s)) e) (ap (λ how. step_unless how s (step large s)) e) later
