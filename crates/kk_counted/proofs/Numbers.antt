-- The numbers of each state of a run stay numbers of 32 bits.
use Rattle.std.proofs.Common.{◌≡◌, ℕ, zero, suc, ◌<◌, ℤ, pos, negsuc, neg_ℤ, int_div, int_rem, w32, Bool, true, false, not, List, [], ◌∷◌, length, map, Option, Some, None, All, FitsSigned, lt_of_le_of_lt, refl, subst, arith}
use Rattle.std.specs.Prelude.{◌==◌, slice_get, slice_index_or, nat_le, if◌then◌else◌}
use Rattle.std.specs.Fmt.{signed_decimal}
use Rattle.std.specs.Int.{int_wrap}
use Rattle.std.specs.Int.Signed.{mag_rem}
use Rattle.std.proofs.lemmas.Int.{int_wrap_fits, SFits-int_wrap}
use Rattle.std.proofs.lemmas.List.Elements.{All-head, All-tail}
use Rattle.kk_base.specs.Machines.{step_unless, state}
use Rattle.kk_syntax.specs.declared.operator.BinaryOperator.{BinaryOperator}
use Rattle.kk_syntax.specs.declared.operator.BinaryOperator.TheVariants.{Add, Subtract, Multiply, Divide, Remainder, Equal, NotEqual, Less, LessEqual, Greater, GreaterEqual}
use Rattle.kk_syntax.specs.declared.operator.UnaryOperator.{UnaryOperator}
use Rattle.kk_syntax.specs.declared.operator.UnaryOperator.TheVariants.{Negate, Not}
use Rattle.kk_syntax.specs.declared.program.Form.{Form}
use Rattle.kk_syntax.specs.declared.program.Form.TheVariants.{Number, Unit as Nothing, ReadByte, PrintText, Unary, Binary, Print, Construct, Call}
use Rattle.kk_syntax.specs.Programs.{text_at}
use Rattle.kk_source.specs.Actions.{Action, goes, puts, takes, builds, calls, print_step, performed}
use Rattle.kk_source.specs.Arithmetic.{wrapped, quotient_of, remainder_of}
use Rattle.kk_source.specs.FormEffects.{truth, is_true, unary_result, number_result, integer_of, argument, piece_of, byte_value}
use Rattle.kk_source.specs.Live.{value_of}
use Rattle.kk_source.specs.Matching.{and_then}
use Rattle.kk_source.specs.State.{Value, integer, unit, constant, place, Environment, End, heap_full, stack_full}
use Rattle.kk_source.specs.Step.{bind_parameters}
use Rattle.kk_core.specs.CoreMachine.{bind_fields}
use Rattle.kk_counted.specs.CountedCodes.{Counted, give, tail_call, case, compute, inside, read, open_cell, if_unique, dup, drop, CountedArms, no_arm, arm, CountedFunction}
use Rattle.kk_counted.specs.CountedMachine.{at_counted, at_end, at_stuck, with_heap, arm_at, case_step, give_step, in_code, tail_step, Named, cell_named, used_values, other_values, opened_heap, unique_heap, open_step, call_step, form_step, counted_code_step, counted_step_at, counted_step_of, counted_step, counted_ending_of, counted_machine}
use Rattle.kk_counted.specs.CountedStates.{CountedSetting, CountedJoin, CountedFrame, CountedControl, running, stopped, stuck, CountedConfiguration, CountedState, no_function, counted_start, counted_first_state}
use Rattle.kk_counted.specs.Heaps.{Heap, held_at, count_at, set_count, busy, dup_value, drop_value, fields_if_held, fields_held}
use Rattle.kk_counted.specs.Int32.{IsInt32, AreInt32, IsFormInt32, HasInt32, HaveInt32, AllHaveInt32, AreBindingsInt32, IsHeapInt32, AreJoinsInt32, IsRunInt32, AreFramesInt32, IsControlInt32, IsStateInt32}
use Rattle.kk_counted.specs.Keeping.{counted_after}
use Rattle.kk_counted.proofs.CountIndependence.{OnHeap, dup_keeps, drop_keeps, opened_keeps, unique_keeps}
use Rattle.kk_counted.proofs.SoundSteps.{OnNamed, NamedCell, named_cell}

-- ---- numbers

pub wrapped_fits : (n : ℤ) → wrapped n ≡ n → FitsSigned w32 n
wrapped_fits n is = subst (λ z. FitsSigned w32 z) is (SFits-int_wrap w32 n)

twice_wrapped : (n : ℤ) → wrapped (wrapped n) ≡ wrapped n
twice_wrapped n = int_wrap_fits w32 (wrapped n) (SFits-int_wrap w32 n)

zero_wrapped : wrapped (pos 0) ≡ pos 0
unfolding int_wrap
zero_wrapped = refl

end_wrapped : wrapped (negsuc 0) ≡ negsuc 0
unfolding int_wrap
end_wrapped = refl

byte_int32 : (byte : ℕ) → byte < 256 → IsInt32 (byte_value (Some byte))
byte_int32 byte less = int_wrap_fits w32 (pos byte) (record { sfits = omega (arith, less) })

quotient_int32 : (x y : ℤ) → wrapped (quotient_of x y) ≡ quotient_of x y
quotient_int32 x (pos zero) = zero_wrapped
quotient_int32 x (pos (suc n)) = twice_wrapped (int_div x (pos (suc n)))
quotient_int32 x (negsuc n) = twice_wrapped (int_div x (negsuc n))

rest_int32 : (x y : ℤ) → wrapped x ≡ x → wrapped (int_rem x y) ≡ int_rem x y
rest_int32 x y is =
    int_wrap_fits w32 (int_rem x y) (record { sfits = lt_of_le_of_lt (mag_rem x y) (wrapped_fits x is).sfits })

remainder_int32 : (x y : ℤ) → wrapped x ≡ x → wrapped (remainder_of x y) ≡ remainder_of x y
remainder_int32 x (pos zero) is = is
remainder_int32 x (pos (suc n)) is = rest_int32 x (pos (suc n)) is
remainder_int32 x (negsuc n) is = rest_int32 x (negsuc n) is

-- ---- values of forms

integer_int32 : (v : Value) → IsInt32 v → wrapped (integer_of v) ≡ integer_of v
integer_int32 (integer n) is = is
integer_int32 unit is = zero_wrapped
integer_int32 (constant c) is = zero_wrapped
integer_int32 (place at) is = zero_wrapped

truth_int32 : (t : Bool) → IsInt32 (truth t)
truth_int32 true = tt
truth_int32 false = tt

unary_int32 : (operator : UnaryOperator) (v : Value) → IsInt32 (unary_result operator v)
unary_int32 Negate v = twice_wrapped (neg_ℤ (integer_of v))
unary_int32 Not v = truth_int32 (not (is_true v))

number_int32 : (operator : BinaryOperator) (m n : ℤ) → wrapped m ≡ m → IsInt32 (number_result operator m n)
number_int32 Add m n is = twice_wrapped _
number_int32 Subtract m n is = twice_wrapped _
number_int32 Multiply m n is = twice_wrapped _
number_int32 Divide m n is = quotient_int32 m n
number_int32 Remainder m n is = remainder_int32 m n is
number_int32 Equal m n is = truth_int32 _
number_int32 NotEqual m n is = truth_int32 _
number_int32 Less m n is = truth_int32 _
number_int32 LessEqual m n is = truth_int32 _
number_int32 Greater m n is = truth_int32 _
number_int32 GreaterEqual m n is = truth_int32 _

argument_int32 : (index : ℕ) (values : List Value) → AreInt32 values → IsInt32 (argument index values)
argument_int32 index [] all = tt
argument_int32 zero (v ∷ vs) all = all.0
argument_int32 (suc index) (v ∷ vs) all = argument_int32 index vs all.1

-- ---- environments

pub value_int32 : (environment : Environment) (x : ℕ) → AreBindingsInt32 environment → IsInt32 (value_of environment x)
value_int32 [] x all = tt
value_int32 (binding ∷ environment) x all = by_test (binding.variable == x) (value_int32 environment x all.1)
  where
    by_test : (t : Bool) → IsInt32 (value_of environment x) → IsInt32 (if t then binding.value else value_of environment x)
    by_test true later = all.0
    by_test false later = later

pub values_int32 : (environment : Environment) (xs : List ℕ) → AreBindingsInt32 environment
    → AreInt32 (map (value_of environment) xs)
values_int32 environment [] all = tt
values_int32 environment (x ∷ xs) all = (value_int32 environment x all, values_int32 environment xs all)

fields_int32 : (xs : List ℕ) (vs : List Value) (environment : Environment) → AreInt32 vs → AreBindingsInt32 environment
    → AreBindingsInt32 (bind_fields xs vs environment)
fields_int32 [] vs environment are all = all
fields_int32 (x ∷ xs) [] environment are all = all
fields_int32 (x ∷ xs) (v ∷ vs) environment are all =
    fields_int32 xs vs (record { variable = x; value = v } ∷ environment) are.1 (are.0, all)

parameters_int32 : (next : ℕ) (vs : List Value) (environment : Environment) → AreInt32 vs → AreBindingsInt32 environment
    → AreBindingsInt32 (bind_parameters next vs environment)
parameters_int32 next [] environment are all = all
parameters_int32 next (v ∷ vs) environment are all =
    parameters_int32 (suc next) vs (record { variable = next; value = v } ∷ environment) are.1 (are.0, all)

-- ---- heaps

recounted : (at count : ℕ) (heap : Heap) → IsHeapInt32 heap → IsHeapInt32 (set_count at count heap)
recounted at count [] all = tt
recounted at count (held ∷ heap) all = by_test (length heap == at) (recounted at count heap all.1)
  where
    by_test : (t : Bool) → IsHeapInt32 (set_count at count heap)
        → IsHeapInt32 (if t then record held { count = count } ∷ heap else held ∷ set_count at count heap)
    by_test true later = all
    by_test false later = (all.0, later)

pub held_int32 : (heap : Heap) (at : ℕ) → IsHeapInt32 heap → AreInt32 (fields_held heap at)
held_int32 [] at all = tt
held_int32 (held ∷ heap) at all = by_test (length heap == at) (held_int32 heap at all.1)
  where
    by_test : (t : Bool) → AreInt32 (fields_if_held (held_at heap at))
        → AreInt32 (fields_if_held (if t then Some held else held_at heap at))
    by_test true later = all.0
    by_test false later = later

named_int32 : (c count : ℕ) (heap : Heap) (v : Value) → IsHeapInt32 heap
    → OnNamed (λ named. AreInt32 named.fields) (cell_named c count heap v)
named_int32 c count heap v all = by_found (cell_named c count heap v) (named_cell c count heap v)
  where
    by_found : (found : Option Named) → OnNamed (NamedCell heap v count) found → OnNamed (λ named. AreInt32 named.fields) found
    by_found None on = tt
    by_found (Some named) on = subst AreInt32 on.fields (held_int32 heap named.at all)

-- ---- steps

-- where a step leads to the numbers are of 32 bits, if a byte that it takes is
abbrev Leads : Action CountedConfiguration → Type 0
Leads (goes to) = IsStateInt32 to
Leads (puts piece to) = IsStateInt32 to
Leads (takes to) = (byte : Option ℕ) → IsInt32 (byte_value byte) → IsStateInt32 (to byte)
Leads (builds found to) = IsStateInt32 to
Leads (calls found to) = IsStateInt32 to

full_or : (full : Bool) (end : End) (from to : CountedConfiguration) → IsStateInt32 (at_end end from) → IsStateInt32 to
    → IsStateInt32 (if full then at_end end from else to)
full_or true end from to is are = is
full_or false end from to is are = are

abbrev OnArm : Option Counted → Type 0
OnArm None = Unit {0}
OnArm (Some body) = HasInt32 body

arms_int32 : (arms : CountedArms) (row : ℕ) → HaveInt32 arms → OnArm (arm_at arms row)
arms_int32 no_arm row all = tt
arms_int32 (arm first rest) zero all = all.0
arms_int32 (arm first rest) (suc row) all = arms_int32 rest row all.1

module _ (from : CountedConfiguration) (frames : AreFramesInt32 from.frames) (heap : IsHeapInt32 from.heap) where
  stuck_int32 : IsStateInt32 (at_stuck from)
  stuck_int32 = record { control = tt; frames = frames; heap = heap }

  end_int32 : (end : End) → IsStateInt32 (at_end end from)
  end_int32 end = record { control = tt; frames = frames; heap = heap }

  follows : (code : Counted) (environment : Environment) (joins : List CountedJoin) → IsRunInt32 code environment joins
      → IsStateInt32 (at_counted code environment joins from)
  follows code environment joins run = record { control = run; frames = frames; heap = heap }

  entered : (function : CountedFunction) (values : List Value) → HasInt32 function.body → AreInt32 values
      → IsStateInt32 (in_code function values from)
  entered function values body are =
      follows function.body (bind_parameters 0 values []) []
      (record { ahead = body; bound = parameters_int32 0 values [] are tt; behind = tt })

  changed : (result : Option Heap) (to : CountedConfiguration) → OnHeap IsHeapInt32 result → IsStateInt32 to
      → IsStateInt32 (with_heap result from to)
  changed None to on is = stuck_int32
  changed (Some heap) to on is = record { control = is.control; frames = is.frames; heap = on }

  case_leads : (row : Option ℕ) (arms : CountedArms) (environment : Environment) (joins : List CountedJoin) → HaveInt32 arms
      → AreBindingsInt32 environment → AreJoinsInt32 joins
      → Leads (case_step (and_then row (arm_at arms)) environment joins from)
  case_leads None arms environment joins all bound behind = stuck_int32
  case_leads (Some row) arms environment joins all bound behind = by_found (arm_at arms row) (arms_int32 arms row all)
    where
      by_found : (found : Option Counted) → OnArm found → Leads (case_step found environment joins from)
      by_found None on = stuck_int32
      by_found (Some body) on =
          follows body environment joins (record { ahead = on; bound = bound; behind = behind })

  module _ (rest : Counted) (environment : Environment) (joins : List CountedJoin) (run : IsRunInt32 rest environment joins) where
    -- the rest comes, and a variable takes a value
    arrives : (x : ℕ) (v : Value) → IsInt32 v
        → IsStateInt32 (at_counted rest (record { variable = x; value = v } ∷ environment) joins from)
    arrives x v is =
        follows rest (record { variable = x; value = v } ∷ environment) joins
        (record { ahead = run.ahead; bound = (is, run.bound); behind = run.behind })

    opening : (fields : List ℕ) (change : Named → Option Heap) (found : Option Named)
        → OnNamed (λ named. AreInt32 named.fields) found → ((named : Named) → OnHeap IsHeapInt32 (change named))
        → Leads (open_step found change fields rest environment joins from)
    opening fields change None on keeps = stuck_int32
    opening fields change (Some named) on keeps =
        changed (change named) (at_counted rest (bind_fields fields named.fields environment) joins from) (keeps named)
        (follows rest (bind_fields fields named.fields environment) joins (record {
          ahead = run.ahead;
          bound = fields_int32 fields named.fields environment on run.bound;
          behind = run.behind;
        }))

-- a block, a call or the run has its value
given : (v : Value) (joins : List CountedJoin) (waiting : List CountedFrame) (environment : Environment)
    (from : CountedConfiguration) → IsInt32 v → AreBindingsInt32 environment → AreJoinsInt32 joins → AreFramesInt32 waiting
    → AreFramesInt32 from.frames → IsHeapInt32 from.heap → Leads (give_step v joins waiting environment from)
given v (join ∷ joins) waiting environment from is bound behind older frames heap =
    arrives from frames heap join.rest environment joins (record { ahead = behind.0; bound = bound; behind = behind.1 })
    join.variable v is
given v [] (frame ∷ waiting) environment from is bound behind older frames heap =
    arrives (record from { frames = waiting }) older.1 heap frame.rest frame.environment frame.joins older.0 frame.variable v is
given v [] [] environment from is bound behind older frames heap = record { control = tt; frames = frames; heap = heap }

module _ (setting : CountedSetting) (all : AllHaveInt32 setting.program.functions) where
  module _ (from : CountedConfiguration) (frames : AreFramesInt32 from.frames) (heap : IsHeapInt32 from.heap) where
    tail_leads : (f : ℕ) (values : List Value) (found : Option CountedFunction) → slice_get setting.program.functions f ≡ found
        → AreInt32 values → Leads (tail_step found values from)
    tail_leads f values None there are = stuck_int32 from frames heap
    tail_leads f values (Some function) there are = entered from frames heap function values (all f function there) are

    module _ (x : ℕ) (rest : Counted) (environment : Environment) (joins : List CountedJoin)
        (run : IsRunInt32 rest environment joins) where
      valued : (v : Value) → IsInt32 v
          → IsStateInt32 (at_counted rest (record { variable = x; value = v } ∷ environment) joins from)
      valued v is = arrives from frames heap rest environment joins run x v is

      printed : (piece : List ℕ)
          → Leads (print_step piece (at_counted rest (record { variable = x; value = unit } ∷ environment) joins from))
      printed [] = valued unit tt
      printed (byte ∷ bytes) = valued unit tt

      made : (c : ℕ) (values : List Value) → AreInt32 values
          → Leads (form_step setting (Construct c) values x rest environment joins from)
      made c [] are = valued (constant c) tt
      made c (v ∷ vs) are =
          full_or (nat_le setting.cells (busy from.heap)) heap_full from
          (record (at_counted rest (record { variable = x; value = place (length from.heap) } ∷ environment) joins from) {
            heap = record { count = 1; cell = record { made_by = c; fields = v ∷ vs } } ∷ from.heap;
          })
          (end_int32 from frames heap heap_full)
          (record { control = (valued (place (length from.heap)) tt).control; frames = frames; heap = (are, heap) })

      called : (f : ℕ) (values : List Value) (found : Option CountedFunction) → slice_get setting.program.functions f ≡ found
          → AreInt32 values
          → Leads (call_step setting found values
          (record { variable = x; rest = rest; joins = joins; environment = environment }) from)
      called f values None there are = stuck_int32 from frames heap
      called f values (Some function) there are =
          let waiting : CountedConfiguration = record from {
            frames = record { variable = x; rest = rest; joins = joins; environment = environment } ∷ from.frames;
          } in
          full_or (nat_le setting.depth (suc (length from.frames))) stack_full from (in_code function values waiting)
          (end_int32 from frames heap stack_full)
          (entered waiting (run, frames) heap function values (all f function there) are)

      form_leads : (form : Form) (values : List Value) → IsFormInt32 form → AreInt32 values
          → Leads (form_step setting form values x rest environment joins from)
      form_leads (Number n) values is are = valued (integer n) is
      form_leads Nothing values is are = valued unit tt
      form_leads ReadByte values is are = λ byte small. valued (byte_value byte) small
      form_leads (PrintText form text) values is are = printed (piece_of form (text_at setting.program.texts text))
      form_leads (Unary operator) values is are = valued _ (unary_int32 operator (argument 0 values))
      form_leads (Binary operator) values is are =
          valued _ (number_int32 operator (integer_of (argument 0 values)) (integer_of (argument 1 values))
          (integer_int32 (argument 0 values) (argument_int32 0 values are)))
      form_leads (Print form) values is are = printed (piece_of form (signed_decimal (integer_of (argument 0 values))))
      form_leads (Construct c) values is are = made c values are
      form_leads (Call f) values is are = called f values (slice_get setting.program.functions f) refl are

    code_leads : (code : Counted) (environment : Environment) (joins : List CountedJoin) → IsRunInt32 code environment joins
        → Leads (counted_code_step setting code environment joins from)
    code_leads (give x) environment joins run =
        given (value_of environment x) joins from.frames environment from (value_int32 environment x run.bound) run.bound run.behind
        frames frames heap
    code_leads (tail_call f arguments) environment joins run =
        tail_leads f (map (value_of environment) arguments) (slice_get setting.program.functions f) refl
        (values_int32 environment arguments run.bound)
    code_leads (case x decisions arms) environment joins run =
        case_leads from frames heap _ arms environment joins run.ahead.1 run.bound run.behind
    code_leads (compute x form arguments rest) environment joins run =
        form_leads x rest environment joins (record { ahead = run.ahead.1; bound = run.bound; behind = run.behind }) form
        (map (value_of environment) arguments) run.ahead.0 (values_int32 environment arguments run.bound)
    code_leads (inside x block rest) environment joins run =
        follows from frames heap block environment (record { variable = x; rest = rest } ∷ joins)
        (record { ahead = run.ahead.0; bound = run.bound; behind = (run.ahead.1, run.behind) })
    code_leads (read x c fields rest) environment joins run =
        opening from frames heap rest environment joins (record { ahead = run.ahead; bound = run.bound; behind = run.behind })
        fields (λ named. Some from.heap) _ (named_int32 c (length fields) from.heap (value_of environment x) heap) (λ named. heap)
    code_leads (open_cell x c fields used rest) environment joins run =
        opening from frames heap rest environment joins (record { ahead = run.ahead; bound = run.bound; behind = run.behind })
        fields (λ named. opened_heap named.at (used_values used fields named.fields) from.heap) _
        (named_int32 c (length fields) from.heap (value_of environment x) heap)
        (λ named. opened_keeps IsHeapInt32 recounted named.at (used_values used fields named.fields) from.heap heap)
    code_leads (if_unique x c fields used rest) environment joins run =
        opening from frames heap rest environment joins (record { ahead = run.ahead; bound = run.bound; behind = run.behind })
        fields (λ named. unique_heap (count_at from.heap named.at) named.at (used_values used fields named.fields)
        (other_values used fields named.fields) from.heap) _
        (named_int32 c (length fields) from.heap (value_of environment x) heap)
        (λ named. unique_keeps IsHeapInt32 recounted (count_at from.heap named.at) named.at (used_values used fields named.fields)
        (other_values used fields named.fields) from.heap heap)
    code_leads (dup x rest) environment joins run =
        changed from frames heap (dup_value (value_of environment x) from.heap) (at_counted rest environment joins from)
        (dup_keeps IsHeapInt32 recounted (value_of environment x) from.heap heap)
        (follows from frames heap rest environment joins (record { ahead = run.ahead; bound = run.bound; behind = run.behind }))
    code_leads (drop x rest) environment joins run =
        changed from frames heap (drop_value (value_of environment x) from.heap) (at_counted rest environment joins from)
        (drop_keeps IsHeapInt32 recounted (value_of environment x) from.heap heap)
        (follows from frames heap rest environment joins (record { ahead = run.ahead; bound = run.bound; behind = run.behind }))

  step_leads : (control : CountedControl) (c : CountedConfiguration) → IsControlInt32 control → IsStateInt32 c
      → Leads (counted_step_at setting control c)
  step_leads (running code environment joins) c run is = code_leads c is.frames is.heap code environment joins run
  step_leads (stopped by) c run is = is
  step_leads stuck c run is = is

  -- ---- runs

  abbrev IsKept : CountedState → Type 0
  IsKept s = IsStateInt32 s.machine × All (λ byte. byte < 256) s.input

  performed_int32 : (action : Action CountedConfiguration) (input : List ℕ) → Leads action → All (λ byte. byte < 256) input
      → IsKept (performed action input).1
  performed_int32 (goes to) input leads bytes = (leads, bytes)
  performed_int32 (puts piece to) input leads bytes = (leads, bytes)
  performed_int32 (takes to) [] leads bytes = (leads None end_wrapped, bytes)
  performed_int32 (takes to) (byte ∷ input) leads bytes = (
    leads (Some byte) (byte_int32 byte (All-head (λ byte. byte < 256) byte input bytes)),
    All-tail (λ byte. byte < 256) byte input bytes,
  )
  performed_int32 (builds found to) input leads bytes = (leads, bytes)
  performed_int32 (calls found to) input leads bytes = (leads, bytes)

  body_int32 : (functions : List CountedFunction) (f : ℕ) → AllHaveInt32 functions
      → HasInt32 (slice_index_or functions f no_function).body
  body_int32 [] f every = tt
  body_int32 (function ∷ functions) zero every = every 0 function refl
  body_int32 (function ∷ functions) (suc f) every = body_int32 functions f (λ g one there. every (suc g) one there)

  start_int32 : IsStateInt32 (counted_start setting)
  start_int32 = record {
    control = record {
      ahead = body_int32 setting.program.functions setting.program.main all;
      bound = tt;
      behind = tt;
    };
    frames = tt;
    heap = tt;
  }

  module _ (weight : CountedState → ℕ) where
    next_int32 : (s : CountedState) (how : Option End) → IsKept s → IsKept (step_unless how s (counted_step setting s)).1
    next_int32 s None kept =
        performed_int32 (counted_step_of setting s.machine) s.input
        (step_leads s.machine.control s.machine kept.0.control kept.0) kept.1
    next_int32 s (Some end) kept = kept

    run_int32 : (n : ℕ) (s : CountedState) → IsKept s → IsKept (state (counted_machine weight setting) n s)
    run_int32 zero s kept = kept
    run_int32 (suc n) s kept =
        run_int32 n ((counted_machine weight setting).step s).1 (next_int32 s (counted_ending_of s) kept)

    pub stay_int32 : (input : List ℕ) → All (λ byte. byte < 256) input → (n : ℕ)
        → IsStateInt32 (counted_after weight setting input n)
    stay_int32 input bytes n = (run_int32 n (counted_first_state setting input) (start_int32, bytes)).0
