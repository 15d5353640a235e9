-- Each step of code that spends what it owns keeps the heap sound.
use Rattle.std.proofs.Common.{◌≡◌, ◌⊎◌, inl, inr, ℤ, ℕ, zero, suc, ◌+◌, ◌≤◌, ◌<◌, ◌==◌, ◌&&◌, Bool, true, false, List, [], ◌∷◌, ◌++◌, length, map, Option, Some, None, arith, refl, sym, ap, ◌∙◌, subst}
use Rattle.std.proofs.lemmas.List.{length-map}
use Rattle.std.specs.Prelude.{if◌then◌else◌, filter, slice_get, nat_le}
use Rattle.kk_syntax.specs.declared.operator.UnaryOperator.{UnaryOperator}
use Rattle.kk_syntax.specs.declared.operator.UnaryOperator.TheVariants.{Negate, Not}
use Rattle.kk_syntax.specs.declared.operator.BinaryOperator.{BinaryOperator}
use Rattle.kk_syntax.specs.declared.operator.BinaryOperator.TheVariants.{Add, Subtract, Multiply, Divide, Remainder, Equal, NotEqual, Less, LessEqual, Greater, GreaterEqual}
use Rattle.kk_syntax.specs.declared.program.Form.{Form}
use Rattle.kk_syntax.specs.declared.program.Form.TheVariants.{Number, Unit as Nothing, ReadByte, PrintText, Unary, Binary, Print, Construct, Call}
use Rattle.std.specs.Fmt.{signed_decimal}
use Rattle.kk_syntax.specs.Programs.{text_at}
use Rattle.kk_syntax.specs.Shapes.{is_among}
use Rattle.kk_syntax.specs.PositionsOf.{PositionTable, is_lent}
use Rattle.kk_source.specs.State.{Value, integer, unit, constant, place, Cell, Store, Environment, heap_full, stack_full}
use Rattle.kk_source.specs.Live.{value_of, fields_at, Among, Reached}
use Rattle.kk_source.specs.Sound.{AllWithin}
use Rattle.kk_source.specs.Matching.{and_then}
use Rattle.kk_source.specs.Actions.{Action, goes, puts, takes, builds, calls, print_step}
use Rattle.kk_source.specs.FormEffects.{truth, integer_of, unary_result, number_result, binary_result, argument, piece_of, byte_value}
use Rattle.kk_source.specs.Step.{bind_parameters}
use Rattle.kk_source.proofs.Live.{among_front, among_back}
use Rattle.kk_core.specs.CoreMachine.{bind_fields}
use Rattle.kk_core.specs.Decisions.{chosen}
use Rattle.kk_counted.specs.CountedCodes.{Counted, give, tail_call, case, compute, inside, read, open_cell, if_unique, dup, drop, CountedArms, no_arm, arm, CountedFunction}
use Rattle.kk_counted.specs.Heaps.{Held, Heap, held_at, count_in, count_at, if_counted, cell_at, fields_if_held, fields_held, forwards, busy, dup_value, drop_value}
use Rattle.kk_counted.specs.CountedStates.{CountedSetting, CountedJoin, CountedFrame, CountedControl, running, stopped, stuck, CountedConfiguration}
use Rattle.kk_counted.specs.CountedMachine.{at_counted, bound_then, at_end, at_stuck, with_heap, arm_at, case_step, give_step, in_code, tail_step, if_made_by, Named, cell_named, used_values, other_values, opened_heap, unique_heap, open_step, construct_step, call_step, form_step, counted_code_step, counted_step_at, counted_step_of}
use Rattle.kk_counted.specs.References.{refs_of, refs, counted_fields, Counts, IsSound, IsCounted, cells_of}
use Rattle.kk_counted.specs.Spending.{AreEven, AllAmong, AreFresh, AreApart, at_positions, numbers_from, left_by, is_owned, used_by, lent_by, FitsForm, Spends, SpendsAll, IsSpent}
use Rattle.kk_counted.specs.Keeping.{values_of, HaveNoCells, TakesNoCells, FitsAt, AreReached, Waits, Own, IsRunning, IsKeptAt, IsKept}
use Rattle.kk_counted.proofs.CountChanges.{same, refs_append, counted_within}
use Rattle.kk_counted.proofs.Heaps.{Became, positive, ref_here, value_counted, fields_counted, dupped, dropped, with_place, with_fields, opened, opened_by_count}
use Rattle.kk_counted.proofs.Variables.{among_cases, even_refs, refs_of_both, among_refs, among_values, among_others, value_new, value_old, values_fresh, other_variable, fields_fresh, field_past, field_or_old, field_is_one, used_refs, fields_part, values_at, parameters_owned, parameter_among}
use Rattle.kk_counted.proofs.Reachability.{one_among, all_within, same_store, store_fields, same_fields, reached_widen, reached_field, reached_longer, reached_counted, built, built_older}

abbrev pub LeadsTo : (CountedConfiguration → Type 0) → Action CountedConfiguration → Type 0
LeadsTo P (goes to) = P to
LeadsTo P (puts piece to) = P to
LeadsTo P (takes to) = (byte : Option ℕ) → P (to byte)
LeadsTo P (builds found to) = P to
LeadsTo P (calls found to) = P to

-- ---- sound heaps

pub moved : (all other : List Value) (heap : Heap) → ((q : ℕ) → refs other q ≡ refs all q) → IsSound all heap → IsSound other heap
moved all other heap even sound = record { counts = λ q. omega (arith, sound.counts q, even q); older = sound.older }

-- a heap of the same cells, with right counts
pub became_sound : (all other : List Value) (heap : Heap) (result : Option Heap) (outside : ℕ → ℕ) (became : Became heap result outside) → ((q : ℕ) → refs other q ≡ outside q) → IsSound all heap → IsSound other became.heap
became_sound all other heap result outside became even sound =
    record {
      counts = λ q. omega (arith, became.counts q, even q);
      older = λ at. subst (AllWithin at) (sym (same_fields became.heap heap at became.cells)) (sound.older at);
    }

abbrev pub with_variable : ℕ → Value → Environment → Environment
with_variable x v environment = record { variable = x; value = v } ∷ environment

pub landed : (x : ℕ) (v : Value) (environment : Environment) (kept : List ℕ) (below all : List Value) (heap : Heap) → is_among kept x ≡ false → ((q : ℕ) → refs all q ≡ refs_of v q + (refs (values_of environment kept) q + refs below q)) → IsSound all heap → IsSound (values_of (with_variable x v environment) (x ∷ kept) ++ below) heap
landed x v environment kept below all heap fresh even sound =
    moved all (values_of (with_variable x v environment) (x ∷ kept) ++ below) heap
    (λ q. omega (
      arith,
      even q,
      refs_append (values_of (with_variable x v environment) kept) below q,
      ap (λ w. refs_of w q) (value_new x v environment),
      ap (λ vs. refs vs q) (values_fresh x v environment kept fresh),
    ))
    sound

pub reached_bound : (store : Store) (below : List Value) (environment : Environment) (lent : List ℕ) (x : ℕ) (v : Value) → is_among lent x ≡ false → AreReached store below environment lent → AreReached store below (with_variable x v environment) lent
reached_bound store below environment lent x v unlent reached =
    λ y at is named. reached y at is (sym (value_old x y v environment (other_variable x y lent unlent is)) ∙ named)

pub fresh_past : (fields ys : List ℕ) (y : ℕ) → AreFresh fields ys → is_among ys y ≡ true → is_among fields y ≡ false
fresh_past [] ys y fresh is = refl
fresh_past (x ∷ xs) ys y fresh is = rw (other_variable x y ys fresh.0 is) (fresh_past xs ys y fresh.1 is)

pub counted_if : (v : Value) (heap : Heap) → ((at : ℕ) → v ≡ place at → 1 ≤ count_at heap at) → IsCounted heap v
counted_if (integer n) heap each = tt
counted_if unit heap each = tt
counted_if (constant c) heap each = tt
counted_if (place at) heap each = each at refl

pub counted_grows : (v : Value) (heap other : Heap) → ((q : ℕ) → count_at heap q ≤ count_at other q) → IsCounted heap v → IsCounted other v
counted_grows (integer n) heap other grows counted = tt
counted_grows unit heap other grows counted = tt
counted_grows (constant c) heap other grows counted = tt
counted_grows (place at) heap other grows counted = omega (arith, grows at, counted)

pub no_refs : (vs : List Value) (q : ℕ) → HaveNoCells vs → refs vs q ≡ 0
no_refs [] q none = refl
no_refs (integer n ∷ vs) q none = omega (arith, no_refs vs q none.1)
no_refs (unit ∷ vs) q none = omega (arith, no_refs vs q none.1)
no_refs (constant c ∷ vs) q none = omega (arith, no_refs vs q none.1)
no_refs (place at ∷ vs) q none = absurd none.0

none_among : (P : Type 0) (y : ℕ) → is_among [] y ≡ true → P
none_among P y is = absurd (cc)

-- ---- results of operators

pub truth_free : (t : Bool) (q : ℕ) → refs_of (truth t) q ≡ 0
truth_free true q = refl
truth_free false q = refl

pub unary_free : (operator : UnaryOperator) (v : Value) (q : ℕ) → refs_of (unary_result operator v) q ≡ 0
unary_free Negate v q = refl
unary_free Not v q = truth_free _ q

pub number_free : (operator : BinaryOperator) (m n : ℤ) (q : ℕ) → refs_of (number_result operator m n) q ≡ 0
number_free Add m n q = refl
number_free Subtract m n q = refl
number_free Multiply m n q = refl
number_free Divide m n q = refl
number_free Remainder m n q = refl
number_free Equal m n q = truth_free _ q
number_free NotEqual m n q = truth_free _ q
number_free Less m n q = truth_free _ q
number_free LessEqual m n q = truth_free _ q
number_free Greater m n q = truth_free _ q
number_free GreaterEqual m n q = truth_free _ q

pub byte_free : (byte : Option ℕ) (q : ℕ) → refs_of (byte_value byte) q ≡ 0
byte_free None q = refl
byte_free (Some byte) q = refl

-- ---- the cell that a variable names

pub record NamedCell (heap : Heap) (v : Value) (count : ℕ) (named : Named) : Type 0 where
  pub is : v ≡ place named.at
  pub counted : 1 ≤ count_at heap named.at
  pub fields : fields_held heap named.at ≡ named.fields
  pub many : length named.fields ≡ count

abbrev pub OnNamed : (Named → Type 0) → Option Named → Type 0
OnNamed P None = Unit {0}
OnNamed P (Some named) = P named

both : (a b : Bool) → (a && b) ≡ true → b ≡ true
both true b is = is
both false b is = absurd (cc)

pub named_cell : (c count : ℕ) (heap : Heap) (v : Value) → OnNamed (NamedCell heap v count) (cell_named c count heap v)
named_cell c count heap (integer n) = tt
named_cell c count heap unit = tt
named_cell c count heap (constant d) = tt
named_cell c count heap (place at) = by_held (held_at heap at) refl
  where
    by_test : (held : Held) (n : ℕ) → held_at heap at ≡ Some held → held.count ≡ suc n → (t : Bool) → (t ≡ true → length held.cell.fields ≡ count) → OnNamed (NamedCell heap (place at) count) (and_then (if t then Some held.cell.fields else None) (λ fields. Some (record { at = at; fields = fields })))
    by_test held n here counted false many = tt
    by_test held n here counted true many =
        record { is = refl; counted = omega (arith, ap count_in here, counted); fields = ap fields_if_held here; many = many refl }

    by_count : (held : Held) (n : ℕ) → held_at heap at ≡ Some held → held.count ≡ n → OnNamed (NamedCell heap (place at) count) (and_then (if_counted n held.cell) (λ cell. and_then (if_made_by c count cell) (λ fields. Some (record { at = at; fields = fields }))))
    by_count held zero here counted = tt
    by_count held (suc n) here counted =
        by_test held n here counted ((held.cell.made_by == c) && (length held.cell.fields == count))
        (λ is. same (length held.cell.fields) count (both (held.cell.made_by == c) (length held.cell.fields == count) is))

    by_held : (found : Option Held) → held_at heap at ≡ found → OnNamed (NamedCell heap (place at) count) (and_then (and_then found (λ held. if_counted held.count held.cell)) (λ cell. and_then (if_made_by c count cell) (λ fields. Some (record { at = at; fields = fields }))))
    by_held None here = tt
    by_held (Some held) here = by_count held held.count here refl

-- ---- the steps

abbrev pub OnCode : (Counted → Type 0) → Option Counted → Type 0
OnCode P None = Unit {0}
OnCode P (Some code) = P code

module _ (positions : PositionTable) (setting : CountedSetting) (spent : IsSpent positions setting.program) where
  abbrev pub Kept : CountedConfiguration → Type 0
  Kept c = IsKept positions setting.program.functions c

  -- a value comes to a variable of the function that runs
  arrives : (from : CountedConfiguration) (x : ℕ) (v : Value) (rest : Counted) (environment : Environment) (joins : List CountedJoin) (lent kept : List ℕ) (left : Option (List ℕ)) (below all : List Value)
      → Own positions setting.program.functions (forwards from.heap) from.frames below
      → Spends positions setting.program.functions lent [] left (x ∷ kept) rest
      → Waits positions setting.program.functions lent left joins
      → is_among kept x ≡ false → is_among lent x ≡ false
      → AreReached (forwards from.heap) below environment lent
      → ((q : ℕ) → refs all q ≡ refs_of v q + (refs (values_of environment kept) q + refs below q))
      → IsSound all from.heap → Kept (bound_then x v rest environment joins from)
  arrives from x v rest environment joins lent kept left below all own spends waits fresh unlent reached even sound = (
    below,
    (
      own,
      record {
        lent = lent;
        readable = [];
        owned = x ∷ kept;
        left = left;
        spends = spends;
        waits = waits;
        reached = reached_bound (forwards from.heap) below environment lent x v unlent reached;
        counted = λ y is. none_among _ y is;
        sound = landed x v environment kept below all from.heap fresh even sound;
      },
    ),
  )

  -- a block, a call or the run has its value
  give_kept : (x : ℕ) (environment : Environment) (lent owned : List ℕ) (left : Option (List ℕ)) (joins : List CountedJoin) (frames : List CountedFrame) (from : CountedConfiguration) (below : List Value)
      → AreEven owned (x ∷ left_by left) → Waits positions setting.program.functions lent left joins
      → AreReached (forwards from.heap) below environment lent → IsSound (values_of environment owned ++ below) from.heap
      → Own positions setting.program.functions (forwards from.heap) from.frames below → Own positions setting.program.functions (forwards from.heap) frames below
      → LeadsTo Kept (give_step (value_of environment x) joins frames environment from)
  give_kept x environment lent owned None [] [] from below even waits reached sound own own_these =
      (below, (own, (values_of environment owned ++ below, sound)))
  give_kept x environment lent owned None [] (frame ∷ older) from below even waits reached sound own own_these =
      let waiting = own_these.1.0 in
      arrives (record from { frames = older }) frame.variable (value_of environment x) frame.rest frame.environment frame.joins waiting.lent waiting.owned waiting.left own_these.0
      (values_of environment owned ++ below) own_these.1.1.1 waiting.spends waiting.waits waiting.fresh waiting.unlent waiting.reached
      (λ q. omega (
        arith,
        refs_append (values_of environment owned) below q,
        even_refs environment owned (x ∷ []) q even,
        ap (λ vs. refs vs q) own_these.1.1.0,
        refs_append (values_of frame.environment waiting.owned) own_these.0 q,
      ))
      sound
  give_kept x environment lent owned None (join ∷ joins) frames from below even waits reached sound own own_these = absurd waits
  give_kept x environment lent owned (Some kept) [] frames from below even waits reached sound own own_these = absurd waits
  give_kept x environment lent owned (Some kept) (join ∷ joins) frames from below even waits reached sound own own_these =
      arrives from join.variable (value_of environment x) join.rest environment joins lent kept waits.0 below (values_of environment owned ++ below) own
      waits.1.1.1.0 waits.1.1.1.1 waits.1.0 waits.1.1.0 reached
      (λ q. omega (arith, refs_append (values_of environment owned) below q, even_refs environment owned (x ∷ kept) q even))
      sound

  -- a function's body is entered
  pub entered : (f : ℕ) (function : CountedFunction) (values : List Value) (from : CountedConfiguration) (below all : List Value)
      → slice_get setting.program.functions f ≡ Some function → function.parameters ≡ length values
      → Own positions setting.program.functions (forwards from.heap) from.frames below
      → ((at : ℕ) → Among (at_positions (is_lent positions f) 0 values) at → Reached (forwards from.heap) below at)
      → ((q : ℕ) → refs all q ≡ refs (at_positions (is_owned positions setting.program.functions f) 0 values) q + refs below q)
      → IsSound all from.heap → Kept (in_code function values from)
  entered f function values from below all there many own lents even sound = (
    below,
    (
      own,
      record {
        lent = (spent.each f function there).0;
        readable = [];
        owned = at_positions (is_owned positions setting.program.functions f) 0 (numbers_from 0 function.parameters);
        left = None;
        spends = (spent.each f function there).1.1;
        waits = tt;
        reached = λ y at is named. by_case y at is (parameter_among (is_lent positions f) 0 values [] y at named);
        counted = λ y is. none_among _ y is;
        sound = moved all (values_of (bind_parameters 0 values []) (at_positions (is_owned positions setting.program.functions f) 0 (numbers_from 0 function.parameters)) ++ below) from.heap
            (λ q. omega (
              arith,
              even q,
              refs_append (values_of (bind_parameters 0 values []) (at_positions (is_owned positions setting.program.functions f) 0 (numbers_from 0 function.parameters))) below q,
              ap (λ n. refs (values_of (bind_parameters 0 values []) (at_positions (is_owned positions setting.program.functions f) 0 (numbers_from 0 n))) q) many,
              ap (λ vs. refs vs q) (parameters_owned (is_owned positions setting.program.functions f) 0 values []),
            ))
            sound;
      },
    ),
  )
    where
      no_place : (at : ℕ) → unit ≡ place at → ⊥
      no_place at same = absurd (cc)

      by_case : (y at : ℕ) → is_among (spent.each f function there).0 y ≡ true → (unit ≡ place at) ⊎ ((y < 0 + length values) × (is_lent positions f y ≡ true → Among (at_positions (is_lent positions f) 0 values) at)) → Reached (forwards from.heap) below at
      by_case y at is (inl none) = absurd (no_place at none)
      by_case y at is (inr here) = lents at (here.1 (sym ((spent.each f function there).1.0 y (omega (arith, here.0, many))) ∙ is))

  module _ (from : CountedConfiguration) (below : List Value) (own : Own positions setting.program.functions (forwards from.heap) from.frames below) (environment : Environment) (joins : List CountedJoin) where
    -- the machine is stuck, and its heap is as it was
    stuck_kept : (all : List Value) → IsSound all from.heap → Kept (at_stuck from)
    stuck_kept all sound = (below, (own, (all, sound)))

    -- another code follows, which owns the same
    follows : (code : Counted) (lent owned now : List ℕ) (left : Option (List ℕ)) (next : List CountedJoin)
        → Spends positions setting.program.functions lent [] left now code → Waits positions setting.program.functions lent left next
        → AreReached (forwards from.heap) below environment lent → AreEven owned now → IsSound (values_of environment owned ++ below) from.heap
        → Kept (at_counted code environment next from)
    follows code lent owned now left next spends waits reached even sound = (
      below,
      (
        own,
        record {
          lent = lent;
          readable = [];
          owned = now;
          left = left;
          spends = spends;
          waits = waits;
          reached = reached;
          counted = λ y is. none_among _ y is;
          sound = moved (values_of environment owned ++ below) (values_of environment now ++ below) from.heap
              (λ q. omega (arith, refs_append (values_of environment owned) below q, refs_append (values_of environment now) below q, even_refs environment owned now q even))
              sound;
        },
      ),
    )

    arms_spend : (lent now : List ℕ) (left : Option (List ℕ)) (arms : CountedArms) (row : ℕ) → SpendsAll positions setting.program.functions lent left now arms → OnCode (Spends positions setting.program.functions lent [] left now) (arm_at arms row)
    arms_spend lent now left no_arm row all = tt
    arms_spend lent now left (arm body rest) zero all = all.0
    arms_spend lent now left (arm body rest) (suc row) all = arms_spend lent now left rest row all.1

    row_spends : (lent now : List ℕ) (left : Option (List ℕ)) (arms : CountedArms) (row : Option ℕ) → SpendsAll positions setting.program.functions lent left now arms → OnCode (Spends positions setting.program.functions lent [] left now) (and_then row (arm_at arms))
    row_spends lent now left arms None all = tt
    row_spends lent now left arms (Some row) all = arms_spend lent now left arms row all

    case_kept : (found : Option Counted) (lent owned now : List ℕ) (left : Option (List ℕ)) → OnCode (Spends positions setting.program.functions lent [] left now) found
        → Waits positions setting.program.functions lent left joins → AreReached (forwards from.heap) below environment lent → AreEven owned now
        → IsSound (values_of environment owned ++ below) from.heap → LeadsTo Kept (case_step found environment joins from)
    case_kept None lent owned now left spends waits reached even sound = stuck_kept _ sound
    case_kept (Some body) lent owned now left spends waits reached even sound =
        follows body lent owned now left joins spends waits reached even sound

    tail_kept : (f : ℕ) (arguments lent owned : List ℕ) (found : Option CountedFunction) → slice_get setting.program.functions f ≡ found
        → ((function : CountedFunction) → slice_get setting.program.functions f ≡ Some function → function.parameters ≡ length arguments)
        → AllAmong (lent_by positions setting.program.functions (Call f) arguments) lent
        → AreEven owned (used_by positions setting.program.functions (Call f) arguments)
        → AreReached (forwards from.heap) below environment lent → IsSound (values_of environment owned ++ below) from.heap
        → LeadsTo Kept (tail_step found (map (value_of environment) arguments) from)
    tail_kept f arguments lent owned None there many all even reached sound = stuck_kept _ sound
    tail_kept f arguments lent owned (Some function) there many all even reached sound =
        entered f function (map (value_of environment) arguments) from below (values_of environment owned ++ below) there
        (many function there ∙ sym (length-map arguments (value_of environment))) own
        (λ at among.
        let y = among_others environment (at_positions (is_lent positions f) 0 arguments) lent at all
        (subst (λ vs. Among vs at) (sym (values_at environment (is_lent positions f) 0 arguments)) among) in
        reached y.0 at y.1.0 y.1.1)
        (λ q. omega (
          arith,
          refs_append (values_of environment owned) below q,
          even_refs environment owned (at_positions (is_owned positions setting.program.functions f) 0 arguments) q even,
          ap (λ vs. refs vs q) (values_at environment (is_owned positions setting.program.functions f) 0 arguments),
        ))
        sound

    -- ---- calls

    own_more : (x : ℕ) (rest : Counted) (lent kept : List ℕ) (left : Option (List ℕ))
        → Spends positions setting.program.functions lent [] left (x ∷ kept) rest → Waits positions setting.program.functions lent left joins
        → is_among kept x ≡ false → is_among lent x ≡ false → AreReached (forwards from.heap) below environment lent
        → Own positions setting.program.functions (forwards from.heap) (record { variable = x; rest = rest; joins = joins; environment = environment } ∷ from.frames) (values_of environment kept ++ below)
    own_more x rest lent kept left spends waits fresh unlent reached =
        (below, (record { lent = lent; owned = kept; left = left; fresh = fresh; unlent = unlent; spends = spends; waits = waits; reached = reached }, (refl, own)))

    call_kept : (f x : ℕ) (arguments : List ℕ) (rest : Counted) (lent owned kept : List ℕ) (left : Option (List ℕ)) (found : Option CountedFunction) → slice_get setting.program.functions f ≡ found
        → ((function : CountedFunction) → slice_get setting.program.functions f ≡ Some function → function.parameters ≡ length arguments)
        → AllAmong (lent_by positions setting.program.functions (Call f) arguments) (lent ++ kept)
        → AreEven owned (used_by positions setting.program.functions (Call f) arguments ++ kept)
        → Spends positions setting.program.functions lent [] left (x ∷ kept) rest → Waits positions setting.program.functions lent left joins
        → is_among kept x ≡ false → is_among lent x ≡ false → AreReached (forwards from.heap) below environment lent
        → IsSound (values_of environment owned ++ below) from.heap
        → LeadsTo Kept (call_step setting found (map (value_of environment) arguments) (record { variable = x; rest = rest; joins = joins; environment = environment }) from)
    call_kept f x arguments rest lent owned kept left None there many all even spends waits fresh unlent reached sound = stuck_kept _ sound
    call_kept f x arguments rest lent owned kept left (Some function) there many all even spends waits fresh unlent reached sound =
        by_test (nat_le setting.depth (suc (length from.frames)))
      where
        waiting : CountedFrame
        waiting = record { variable = x; rest = rest; joins = joins; environment = environment }

        in_either : (y at : ℕ) → (is_among lent y ≡ true) ⊎ (is_among kept y ≡ true) → value_of environment y ≡ place at → Reached (forwards from.heap) (values_of environment kept ++ below) at
        in_either y at (inl is) named =
            reached_widen (forwards from.heap) below (values_of environment kept ++ below) at (λ goal. among_back (values_of environment kept) below goal) (reached y at is named)
        in_either y at (inr is) named =
            ([], among_front (values_of environment kept) below at (among_values environment kept y at is named))

        lents : (at : ℕ) → Among (at_positions (is_lent positions f) 0 (map (value_of environment) arguments)) at → Reached (forwards from.heap) (values_of environment kept ++ below) at
        lents at among =
            let y = among_others environment (at_positions (is_lent positions f) 0 arguments) (lent ++ kept) at all
            (subst (λ vs. Among vs at) (sym (values_at environment (is_lent positions f) 0 arguments)) among) in
            in_either y.0 at (among_cases lent kept y.0 y.1.0) y.1.1

        inner : Kept (in_code function (map (value_of environment) arguments) (record from { frames = record { variable = x; rest = rest; joins = joins; environment = environment } ∷ from.frames }))
        inner =
            entered f function (map (value_of environment) arguments) (record from { frames = record { variable = x; rest = rest; joins = joins; environment = environment } ∷ from.frames })
            (values_of environment kept ++ below) (values_of environment owned ++ below) there
            (many function there ∙ sym (length-map arguments (value_of environment)))
            (own_more x rest lent kept left spends waits fresh unlent reached) lents
            (λ q. omega (
              arith,
              refs_append (values_of environment owned) below q,
              refs_append (values_of environment kept) below q,
              even_refs environment owned (at_positions (is_owned positions setting.program.functions f) 0 arguments ++ kept) q even,
              refs_of_both environment (at_positions (is_owned positions setting.program.functions f) 0 arguments) kept q,
              ap (λ vs. refs vs q) (values_at environment (is_owned positions setting.program.functions f) 0 arguments),
            ))
            sound

        by_test : (full : Bool) → Kept (if full then at_end stack_full from else in_code function (map (value_of environment) arguments) (record from { frames = record { variable = x; rest = rest; joins = joins; environment = environment } ∷ from.frames }))
        by_test true = (below, (own, (values_of environment owned ++ below, sound)))
        by_test false = inner

    -- ---- forms

    pub own_longer : (store : Store) (cell : Cell) (frames : List CountedFrame) (owned : List Value) → Own positions setting.program.functions store frames owned → Own positions setting.program.functions (store ++ cell ∷ []) frames owned
    own_longer store cell [] owned o = o
    own_longer store cell (frame ∷ older) owned o = (
      o.0,
      (
        record {
          lent = o.1.0.lent;
          owned = o.1.0.owned;
          left = o.1.0.left;
          fresh = o.1.0.fresh;
          unlent = o.1.0.unlent;
          spends = o.1.0.spends;
          waits = o.1.0.waits;
          reached = λ y at is named. reached_longer store cell o.0 at (o.1.0.reached y at is named);
        },
        (o.1.1.0, own_longer store cell older o.0 o.1.1.1),
      ),
    )

    construct_kept : (c x : ℕ) (fields : List Value) (rest : Counted) (lent owned kept : List ℕ) (left : Option (List ℕ))
        → ((q : ℕ) → refs (values_of environment owned) q ≡ refs fields q + refs (values_of environment kept) q)
        → Spends positions setting.program.functions lent [] left (x ∷ kept) rest → Waits positions setting.program.functions lent left joins
        → is_among kept x ≡ false → is_among lent x ≡ false → AreReached (forwards from.heap) below environment lent
        → IsSound (values_of environment owned ++ below) from.heap
        → LeadsTo Kept (construct_step setting c fields (λ v. bound_then x v rest environment joins from) from)
    construct_kept c x fields rest lent owned kept left even spends waits fresh unlent reached sound =
        by_test (nat_le setting.cells (busy from.heap))
      where
        cell : Cell
        cell = record { made_by = c; fields = fields }

        counts : (q : ℕ) → count_at from.heap q ≡ (refs fields q + refs (values_of environment kept ++ below) q) + refs (counted_fields from.heap) q
        counts q =
            omega (arith, sound.counts q, refs_append (values_of environment owned) below q, refs_append (values_of environment kept) below q, even q)

        within : AllWithin (length from.heap) fields
        within =
            all_within (length from.heap) fields
            (λ q one. let k = positive (count_at from.heap q) (omega (arith, counts q, one)) in counted_within from.heap q k.0 k.1)

        made : Kept (bound_then x (place (length from.heap)) rest environment joins (record from { heap = record { count = 1; cell = record { made_by = c; fields = fields } } ∷ from.heap }))
        made =
            arrives (record from { heap = record { count = 1; cell = record { made_by = c; fields = fields } } ∷ from.heap }) x (place (length from.heap)) rest environment joins lent kept left below
            (place (length from.heap) ∷ (values_of environment kept ++ below))
            (own_longer (forwards from.heap) (record { made_by = c; fields = fields }) from.frames below own) spends waits fresh unlent
            (λ y at is named. reached_longer (forwards from.heap) (record { made_by = c; fields = fields }) below at (reached y at is named))
            (λ q. omega (arith, refs_append (values_of environment kept) below q))
            (record {
              counts = λ q. built (record { made_by = c; fields = fields }) (λ p. refs (values_of environment kept ++ below) p) from.heap counts q;
              older = built_older (record { made_by = c; fields = fields }) 1 from.heap within sound.older;
            })

        by_test : (full : Bool) → Kept (if full then at_end heap_full from else record (bound_then x (place (length from.heap)) rest environment joins from) { heap = record { count = 1; cell = record { made_by = c; fields = fields } } ∷ from.heap })
        by_test true = (below, (own, (values_of environment owned ++ below, sound)))
        by_test false = made

    print_kept : (piece : List ℕ) (to : CountedConfiguration) → Kept to → LeadsTo Kept (print_step piece to)
    print_kept [] to kept = kept
    print_kept (byte ∷ bytes) to kept = kept

    module _ (x : ℕ) (rest : Counted) (lent owned kept : List ℕ) (left : Option (List ℕ))
        (spends : Spends positions setting.program.functions lent [] left (x ∷ kept) rest) (waits : Waits positions setting.program.functions lent left joins)
        (fresh : is_among kept x ≡ false) (unlent : is_among lent x ≡ false) (reached : AreReached (forwards from.heap) below environment lent)
        (sound : IsSound (values_of environment owned ++ below) from.heap) where
      -- a value comes that owns what the arguments owned
      value_kept : (v : Value) → ((q : ℕ) → refs (values_of environment owned) q ≡ refs_of v q + refs (values_of environment kept) q) → Kept (bound_then x v rest environment joins from)
      value_kept v even =
          arrives from x v rest environment joins lent kept left below (values_of environment owned ++ below) own spends waits fresh unlent reached
          (λ q. omega (arith, refs_append (values_of environment owned) below q, even q)) sound

      made_kept : (c : ℕ) (values : List Value) → ((q : ℕ) → refs (values_of environment owned) q ≡ refs values q + refs (values_of environment kept) q) → LeadsTo Kept (form_step setting (Construct c) values x rest environment joins from)
      made_kept c [] even = value_kept (constant c) (λ q. omega (arith, even q))
      made_kept c (v ∷ vs) even = construct_kept c x (v ∷ vs) rest lent owned kept left even spends waits fresh unlent reached sound

      plain_kept : (v : Value) (arguments : List ℕ) → AreEven owned (arguments ++ kept) → HaveNoCells (values_of environment arguments) → ((q : ℕ) → refs_of v q ≡ 0) → Kept (bound_then x v rest environment joins from)
      plain_kept v arguments even none free =
          value_kept v
          (λ q. omega (arith, even_refs environment owned (arguments ++ kept) q even, refs_of_both environment arguments kept q, no_refs (values_of environment arguments) q none, free q))

      form_kept : (form : Form) (arguments : List ℕ)
          → AreEven owned (used_by positions setting.program.functions form arguments ++ kept)
          → AllAmong (lent_by positions setting.program.functions form arguments) (lent ++ kept)
          → ((f : ℕ) → form ≡ Call f → (function : CountedFunction) → slice_get setting.program.functions f ≡ Some function → function.parameters ≡ length arguments)
          → TakesNoCells form (values_of environment arguments)
          → LeadsTo Kept (form_step setting form (map (value_of environment) arguments) x rest environment joins from)
      form_kept (Number n) arguments even all many fits = plain_kept (integer n) arguments even fits (λ q. refl)
      form_kept Nothing arguments even all many fits = plain_kept unit arguments even fits (λ q. refl)
      form_kept ReadByte arguments even all many fits = λ byte. plain_kept (byte_value byte) arguments even fits (byte_free byte)
      form_kept (PrintText form text) arguments even all many fits =
          print_kept (piece_of form (text_at setting.program.texts text)) (bound_then x unit rest environment joins from) (plain_kept unit arguments even fits (λ q. refl))
      form_kept (Unary operator) arguments even all many fits =
          plain_kept (unary_result operator (argument 0 (map (value_of environment) arguments))) arguments even fits (unary_free operator (argument 0 (map (value_of environment) arguments)))
      form_kept (Binary operator) arguments even all many fits =
          plain_kept (binary_result operator (argument 0 (map (value_of environment) arguments)) (argument 1 (map (value_of environment) arguments))) arguments even fits
          (number_free operator (integer_of (argument 0 (map (value_of environment) arguments))) (integer_of (argument 1 (map (value_of environment) arguments))))
      form_kept (Print form) arguments even all many fits =
          print_kept (piece_of form (signed_decimal (integer_of (argument 0 (map (value_of environment) arguments))))) (bound_then x unit rest environment joins from)
          (plain_kept unit arguments even fits (λ q. refl))
      form_kept (Construct c) arguments even all many fits =
          made_kept c (map (value_of environment) arguments)
          (λ q. omega (arith, even_refs environment owned (arguments ++ kept) q even, refs_of_both environment arguments kept q))
      form_kept (Call f) arguments even all many fits =
          call_kept f x arguments rest lent owned kept left (slice_get setting.program.functions f) refl (many f refl) all even spends waits fresh unlent reached sound

    -- ---- openings

    own_same : (heap : Heap) → cells_of heap ≡ cells_of from.heap → Own positions setting.program.functions (forwards heap) from.frames below
    own_same heap cells = subst (λ store. Own positions setting.program.functions store from.frames below) (sym (same_store heap from.heap cells)) own

    reached_same : (heap : Heap) (lent : List ℕ) (bound : Environment) → cells_of heap ≡ cells_of from.heap → AreReached (forwards from.heap) below bound lent → AreReached (forwards heap) below bound lent
    reached_same heap lent bound cells reached = subst (λ store. AreReached store below bound lent) (sym (same_store heap from.heap cells)) reached

    module _ (x c : ℕ) (fields used : List ℕ) (rest : Counted) (lent owned kept : List ℕ) (left : Option (List ℕ))
        (even : AreEven owned (x ∷ kept)) (apart : AreApart fields) (fresh : AreFresh fields kept) (unlent : AreFresh fields lent)
        (spends : Spends positions setting.program.functions lent [] left (filter (is_among used) fields ++ kept) rest) (waits : Waits positions setting.program.functions lent left joins)
        (reached : AreReached (forwards from.heap) below environment lent) (sound : IsSound (values_of environment owned ++ below) from.heap) where
      abbrev kept_refs : ℕ → ℕ
      kept_refs q = refs (values_of environment kept ++ below) q

      after_opening : (named : Named) (result : Option Heap) → length named.fields ≡ length fields → (became : Became from.heap result (with_fields (used_values used fields named.fields) kept_refs)) → Kept (with_heap result from (at_counted rest (bind_fields fields named.fields environment) joins from))
      after_opening named result many became =
          subst (λ r. Kept (with_heap r from (at_counted rest (bind_fields fields named.fields environment) joins from))) (sym became.is) (
            below,
            (
              own_same became.heap became.cells,
              record {
                lent = lent;
                readable = [];
                owned = filter (is_among used) fields ++ kept;
                left = left;
                spends = spends;
                waits = waits;
                reached = λ y at is e. reached_same became.heap lent environment became.cells reached y at is (sym (field_past fields named.fields environment y (fresh_past fields lent y unlent is)) ∙ e);
                counted = λ y is. none_among _ y is;
                sound = became_sound (values_of environment owned ++ below) (values_of (bind_fields fields named.fields environment) (filter (is_among used) fields ++ kept) ++ below) from.heap result (with_fields (used_values used fields named.fields) kept_refs) became
                    (λ q. omega (
                      arith,
                      refs_append (values_of (bind_fields fields named.fields environment) (filter (is_among used) fields ++ kept)) below q,
                      refs_of_both (bind_fields fields named.fields environment) (filter (is_among used) fields) kept q,
                      ap (λ vs. refs vs q) (used_refs used fields named.fields environment apart many),
                      ap (λ vs. refs vs q) (fields_fresh fields named.fields environment kept fresh),
                      refs_append (values_of environment kept) below q,
                    ))
                    sound;
              },
            ),
          )

      counts_with : (at : ℕ) → value_of environment x ≡ place at → Counts (with_place at kept_refs) from.heap
      counts_with at is =
          λ q. omega (
            arith,
            sound.counts q,
            refs_append (values_of environment owned) below q,
            refs_append (values_of environment kept) below q,
            even_refs environment owned (x ∷ kept) q even,
            ap (λ v. refs_of v q) is,
          )

      parts : (named : Named) → NamedCell from.heap (value_of environment x) (length fields) named → (q : ℕ) → refs (fields_held from.heap named.at) q ≡ refs (used_values used fields named.fields) q + refs (other_values used fields named.fields) q
      parts named cell q = ap (λ vs. refs vs q) cell.fields ∙ fields_part used fields named.fields q cell.many

      open_kept : (found : Option Named) → OnNamed (NamedCell from.heap (value_of environment x) (length fields)) found → LeadsTo Kept (open_step found (λ named. opened_heap named.at (used_values used fields named.fields) from.heap) fields rest environment joins from)
      open_kept None cell = stuck_kept _ sound
      open_kept (Some named) cell =
          after_opening named (opened_heap named.at (used_values used fields named.fields) from.heap) cell.many
          (opened named.at (used_values used fields named.fields) (other_values used fields named.fields) kept_refs from.heap (counts_with named.at cell.is) (parts named cell))

      unique_kept : (found : Option Named) → OnNamed (NamedCell from.heap (value_of environment x) (length fields)) found → LeadsTo Kept (open_step found (λ named. unique_heap (count_at from.heap named.at) named.at (used_values used fields named.fields) (other_values used fields named.fields) from.heap) fields rest environment joins from)
      unique_kept None cell = stuck_kept _ sound
      unique_kept (Some named) cell =
          after_opening named (unique_heap (count_at from.heap named.at) named.at (used_values used fields named.fields) (other_values used fields named.fields) from.heap) cell.many
          (opened_by_count named.at (used_values used fields named.fields) (other_values used fields named.fields) kept_refs from.heap (counts_with named.at cell.is) (parts named cell))

    -- ---- readings

    read_kept : (x : ℕ) (fields : List ℕ) (rest : Counted) (lent owned now : List ℕ) (left : Option (List ℕ))
        → AreEven owned now → AreFresh fields now → (is_among lent x ≡ true) ⊎ ((is_among now x ≡ true) × AreFresh fields lent)
        → Spends positions setting.program.functions lent fields left now rest → Waits positions setting.program.functions lent left joins
        → AreReached (forwards from.heap) below environment lent → IsSound (values_of environment owned ++ below) from.heap
        → (found : Option Named) → OnNamed (NamedCell from.heap (value_of environment x) (length fields)) found
        → LeadsTo Kept (open_step found (λ named. Some from.heap) fields rest environment joins from)
    read_kept x fields rest lent owned now left even fresh where_from spends waits reached sound None cell = stuck_kept _ sound
    read_kept x fields rest lent owned now left even fresh where_from spends waits reached sound (Some named) cell = (
      below,
      (
        own,
        record {
          lent = lent;
          readable = fields;
          owned = now;
          left = left;
          spends = spends;
          waits = waits;
          reached = λ y at is e. lent_reached where_from y is at e;
          counted = λ y is. field_is_one (IsCounted from.heap) fields named.fields environment y cell.many is (λ v one. field_counted v one);
          sound = moved (values_of environment owned ++ below) (values_of (bind_fields fields named.fields environment) now ++ below) from.heap
              (λ q. omega (
                arith,
                refs_append (values_of environment owned) below q,
                refs_append (values_of (bind_fields fields named.fields environment) now) below q,
                even_refs environment owned now q even,
                ap (λ vs. refs vs q) (fields_fresh fields named.fields environment now fresh),
              ))
              sound;
        },
      ),
    )
      where
        field_counted : (v : Value) → ((q : ℕ) → refs_of v q ≤ refs named.fields q) → IsCounted from.heap v
        field_counted v one =
            let k = positive (count_at from.heap named.at) cell.counted in
            value_counted v from.heap
            (λ q is. fields_counted (refs (values_of environment owned ++ below)) from.heap named.at k.0 q sound.counts k.1 (omega (arith, one q, is, ap (λ vs. refs vs q) cell.fields)))

        field_reached : (at goal : ℕ) → Reached (forwards from.heap) below named.at → 1 ≤ refs named.fields goal → Reached (forwards from.heap) below goal
        field_reached at goal r one =
            reached_field (forwards from.heap) below named.at goal r
            (one_among (fields_at (forwards from.heap) named.at) goal (omega (arith, one, ap (λ vs. refs vs goal) (store_fields from.heap named.at ∙ cell.fields))))

        lent_reached : (is_among lent x ≡ true) ⊎ ((is_among now x ≡ true) × AreFresh fields lent) → (y : ℕ) → is_among lent y ≡ true → (at : ℕ) → value_of (bind_fields fields named.fields environment) y ≡ place at → Reached (forwards from.heap) below at
        lent_reached (inl lent_x) y is =
            field_or_old (λ v. (at : ℕ) → v ≡ place at → Reached (forwards from.heap) below at) fields named.fields environment y
            (λ at e. reached y at is e)
            (λ v one at e. field_reached at at (reached x named.at lent_x cell.is) (omega (arith, one at, ap (λ w. refs_of w at) e, ref_here at)))
        lent_reached (inr owned_x) y is = λ at e. reached y at is (sym (field_past fields named.fields environment y (fresh_past fields lent y owned_x.1 is)) ∙ e)

    -- ---- dup and drop

    pub usable : (x : ℕ) (lent readable owned now : List ℕ) → AreEven owned now → is_among (lent ++ (readable ++ now)) x ≡ true
        → AreReached (forwards from.heap) below environment lent → ((y : ℕ) → is_among readable y ≡ true → IsCounted from.heap (value_of environment y))
        → IsSound (values_of environment owned ++ below) from.heap → IsCounted from.heap (value_of environment x)
    usable x lent readable owned now even is reached counted sound = by_case (among_cases lent (readable ++ now) x is)
      where
        by_now : (is_among readable x ≡ true) ⊎ (is_among now x ≡ true) → IsCounted from.heap (value_of environment x)
        by_now (inl here) = counted x here
        by_now (inr here) =
            value_counted (value_of environment x) from.heap
            (λ q one. omega (arith, one, among_refs environment now x q here, sound.counts q, refs_append (values_of environment owned) below q, even_refs environment owned now q even))

        by_case : (is_among lent x ≡ true) ⊎ (is_among (readable ++ now) x ≡ true) → IsCounted from.heap (value_of environment x)
        by_case (inl here) =
            counted_if (value_of environment x) from.heap
            (λ at e. reached_counted (refs (values_of environment owned ++ below)) from.heap sound.counts below at (λ q. omega (arith, refs_append (values_of environment owned) below q)) (reached x at here e))
        by_case (inr there) = by_now (among_cases readable now x there)

    dup_kept : (x : ℕ) (rest : Counted) (lent readable owned now : List ℕ) (left : Option (List ℕ)) → AreEven owned now → is_among (lent ++ (readable ++ now)) x ≡ true
        → Spends positions setting.program.functions lent readable left (x ∷ now) rest → Waits positions setting.program.functions lent left joins
        → AreReached (forwards from.heap) below environment lent → ((y : ℕ) → is_among readable y ≡ true → IsCounted from.heap (value_of environment y))
        → IsSound (values_of environment owned ++ below) from.heap
        → Kept (with_heap (dup_value (value_of environment x) from.heap) from (at_counted rest environment joins from))
    dup_kept x rest lent readable owned now left even is spends waits reached counted sound =
        let d = dupped (refs (values_of environment owned ++ below)) (λ q. refs_of (value_of environment x) q + refs (values_of environment owned ++ below) q) (value_of environment x) from.heap sound.counts
        (usable x lent readable owned now even is reached counted sound) (λ q. refl) in
        subst (λ r. Kept (with_heap r from (at_counted rest environment joins from))) (sym d.0.is) (
          below,
          (
            own_same d.0.heap d.0.cells,
            record {
              lent = lent;
              readable = readable;
              owned = x ∷ now;
              left = left;
              spends = spends;
              waits = waits;
              reached = reached_same d.0.heap lent environment d.0.cells reached;
              counted = λ y here. counted_grows (value_of environment y) from.heap d.0.heap d.1 (counted y here);
              sound = became_sound (values_of environment owned ++ below) (values_of environment (x ∷ now) ++ below) from.heap (dup_value (value_of environment x) from.heap) (λ q. refs_of (value_of environment x) q + refs (values_of environment owned ++ below) q) d.0
                  (λ q. omega (arith, refs_append (values_of environment owned) below q, refs_append (values_of environment now) below q, even_refs environment owned now q even))
                  sound;
            },
          ),
        )

    drop_kept : (x : ℕ) (rest : Counted) (lent owned kept : List ℕ) (left : Option (List ℕ)) → AreEven owned (x ∷ kept)
        → Spends positions setting.program.functions lent [] left kept rest → Waits positions setting.program.functions lent left joins
        → AreReached (forwards from.heap) below environment lent → IsSound (values_of environment owned ++ below) from.heap
        → Kept (with_heap (drop_value (value_of environment x) from.heap) from (at_counted rest environment joins from))
    drop_kept x rest lent owned kept left even spends waits reached sound =
        let d = dropped (refs (values_of environment owned ++ below)) (refs (values_of environment kept ++ below)) (value_of environment x) from.heap sound.counts
        (λ q. omega (arith, refs_append (values_of environment owned) below q, refs_append (values_of environment kept) below q, even_refs environment owned (x ∷ kept) q even)) in
        subst (λ r. Kept (with_heap r from (at_counted rest environment joins from))) (sym d.is) (
          below,
          (
            own_same d.heap d.cells,
            record {
              lent = lent;
              readable = [];
              owned = kept;
              left = left;
              spends = spends;
              waits = waits;
              reached = reached_same d.heap lent environment d.cells reached;
              counted = λ y here. none_among _ y here;
              sound = became_sound (values_of environment owned ++ below) (values_of environment kept ++ below) from.heap (drop_value (value_of environment x) from.heap) (refs (values_of environment kept ++ below)) d (λ q. refl) sound;
            },
          ),
        )

    -- ---- the step of a code

    code_kept : (code : Counted) → IsRunning positions setting.program.functions from.heap below code environment joins → FitsAt (running code environment joins) → LeadsTo Kept (counted_code_step setting code environment joins from)
    code_kept (give x) r fits = give_kept x environment r.lent r.owned r.left joins from.frames from below r.spends r.waits r.reached r.sound own own
    code_kept (tail_call f arguments) r fits =
        tail_kept f arguments r.lent r.owned (slice_get setting.program.functions f) refl r.spends.1.0 r.spends.1.1.0 r.spends.1.1.1 r.reached r.sound
    code_kept (case x decisions arms) r fits =
        case_kept (and_then (chosen (cell_at from.heap) (value_of environment x) decisions) (arm_at arms)) r.lent r.owned r.spends.0 r.left
        (row_spends r.lent r.spends.0 r.left arms (chosen (cell_at from.heap) (value_of environment x) decisions) r.spends.1.1.1) r.waits r.reached r.spends.1.0 r.sound
    code_kept (compute x form arguments rest) r fits =
        form_kept x rest r.lent r.owned r.spends.0 r.left r.spends.1.1.1.1.1.1 r.waits r.spends.1.1.1.1.0 r.spends.1.1.1.1.1.0 r.reached r.sound form arguments
        r.spends.1.0 r.spends.1.1.0 (λ f is. many form f is r.spends.1.1.1.0) fits
      where
        many : (form : Form) (f : ℕ) → form ≡ Call f → FitsForm positions setting.program.functions form arguments → (function : CountedFunction) → slice_get setting.program.functions f ≡ Some function → function.parameters ≡ length arguments
        many form f is fits_form = subst (λ form. FitsForm positions setting.program.functions form arguments) is fits_form
    code_kept (inside x block rest) r fits =
        follows block r.lent r.owned r.spends.0 (Some r.spends.1.0) (record { variable = x; rest = rest } ∷ joins) r.spends.1.1.1.1.1.0
        (r.left, (r.spends.1.1.1.0, (r.spends.1.1.1.1.0, (r.spends.1.1.1.1.1.1, r.waits)))) r.reached r.spends.1.1.0 r.sound
    code_kept (read x c fields rest) r fits =
        read_kept x fields rest r.lent r.owned r.spends.0 r.left r.spends.1.0 r.spends.1.1.0 r.spends.1.1.1.0 r.spends.1.1.1.1 r.waits r.reached r.sound
        (cell_named c (length fields) from.heap (value_of environment x)) (named_cell c (length fields) from.heap (value_of environment x))
    code_kept (open_cell x c fields used rest) r fits =
        open_kept x c fields used rest r.lent r.owned r.spends.0 r.left r.spends.1.0 r.spends.1.1.0 r.spends.1.1.1.0 r.spends.1.1.1.1.0 r.spends.1.1.1.1.1 r.waits r.reached r.sound
        (cell_named c (length fields) from.heap (value_of environment x)) (named_cell c (length fields) from.heap (value_of environment x))
    code_kept (if_unique x c fields used rest) r fits =
        unique_kept x c fields used rest r.lent r.owned r.spends.0 r.left r.spends.1.0 r.spends.1.1.0 r.spends.1.1.1.0 r.spends.1.1.1.1.0 r.spends.1.1.1.1.1 r.waits r.reached r.sound
        (cell_named c (length fields) from.heap (value_of environment x)) (named_cell c (length fields) from.heap (value_of environment x))
    code_kept (dup x rest) r fits =
        dup_kept x rest r.lent r.readable r.owned r.spends.0 r.left r.spends.1.0 r.spends.1.1.0 r.spends.1.1.1 r.waits r.reached r.counted r.sound
    code_kept (drop x rest) r fits = drop_kept x rest r.lent r.owned r.spends.0 r.left r.spends.1.0 r.spends.1.1 r.waits r.reached r.sound

  control_kept : (control : CountedControl) (c : CountedConfiguration) (below : List Value) → Own positions setting.program.functions (forwards c.heap) c.frames below → IsKeptAt positions setting.program.functions c.heap below control → FitsAt control → Kept c → LeadsTo Kept (counted_step_at setting control c)
  control_kept (running code environment joins) c below own at fits kept = code_kept c below own environment joins code at fits
  control_kept (stopped by) c below own at fits kept = kept
  control_kept stuck c below own at fits kept = kept

  -- each step keeps the heap sound
  pub step_kept : (c : CountedConfiguration) → FitsAt c.control → Kept c → LeadsTo Kept (counted_step_of setting c)
  step_kept c fits kept = control_kept c.control c kept.0 kept.1.0 kept.1.1 fits kept
