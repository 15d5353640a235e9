-- Code that spends what it owns, and has the shape that a typed program has, is never stuck.
use Rattle.std.proofs.Common.{◌≡◌, ℕ, zero, suc, ◌+◌, ◌==◌, ◌&&◌, Bool, true, false, List, [], ◌∷◌, ◌++◌, length, map, Option, Some, None, arith, refl, sym, ap, ◌∙◌, subst}
use Rattle.std.specs.Prelude.{slice_get, nat_le, if◌then◌else◌}
use Rattle.kk_base.specs.Machines.{step_unless, state}
use Rattle.kk_syntax.specs.declared.program.Form.{Form}
use Rattle.kk_syntax.specs.declared.program.Form.TheVariants.{Number, Unit as Nothing, ReadByte, PrintText, Unary, Binary, Print, Construct, Call}
use Rattle.kk_syntax.specs.Programs.{text_at}
use Rattle.std.specs.Fmt.{signed_decimal}
use Rattle.kk_syntax.specs.PositionsOf.{PositionTable}
use Rattle.kk_source.specs.State.{Value, unit, place, Cell, Environment, End, heap_full, stack_full}
use Rattle.kk_source.specs.Live.{value_of}
use Rattle.kk_source.specs.Matching.{and_then}
use Rattle.kk_source.specs.Actions.{print_step}
use Rattle.kk_source.specs.FormEffects.{integer_of, argument, piece_of}
use Rattle.kk_core.specs.CoreMachine.{bind_fields}
use Rattle.kk_core.specs.Decisions.{chosen}
use Rattle.kk_counted.specs.CountedCodes.{Counted, give, tail_call, case, compute, inside, read, open_cell, if_unique, dup, drop, CountedFunction}
use Rattle.kk_counted.specs.Heaps.{Heap, count_at, cell_at, fields_held, forwards, busy, dup_value, drop_value}
use Rattle.kk_counted.specs.CountedStates.{CountedSetting, CountedJoin, CountedFrame, CountedControl, running, stopped, stuck, CountedConfiguration, CountedState, counted_first_state}
use Rattle.kk_counted.specs.CountedMachine.{at_counted, bound_then, at_end, with_heap, arm_at, case_step, give_step, in_code, tail_step, Named, cell_named, used_values, other_values, opened_heap, unique_heap, open_step, call_step, form_step, counted_code_step, counted_step_at, counted_step_of, counted_step, counted_ending_of, counted_machine, NotStuck}
use Rattle.kk_counted.specs.References.{refs_of, refs, Counts, IsCounted}
use Rattle.kk_counted.specs.Spending.{AreEven, IsSpent}
use Rattle.kk_counted.specs.Keeping.{values_of, Own, IsRunning, IsKeptAt, IsKept, CallsOne, IsCell, HasShape, FitsAlways, HasShapeAlways, counted_after}
use Rattle.kk_counted.proofs.CountChanges.{itself, refs_append}
use Rattle.kk_counted.proofs.Heaps.{dupped, dropped, with_place, opened, opened_by_count}
use Rattle.kk_counted.proofs.Variables.{among_first, even_refs, fields_part}
use Rattle.kk_counted.proofs.Looks.{cell_same, chosen_same}
use Rattle.kk_counted.proofs.SoundSteps.{LeadsTo, NamedCell, OnNamed, named_cell}
use Rattle.kk_counted.proofs.SoundRuns.{performed_kept, keeps_sound}
use Rattle.kk_counted.proofs.SoundUses.{use_counted}

abbrev Going : CountedConfiguration → Type 0
Going c = NotStuck c.control

-- ---- the cell is found

and_both : (a b : Bool) → a ≡ true → b ≡ true → (a && b) ≡ true
and_both true b first second = second
and_both false b first second = first

is_equal : (a b : ℕ) → a ≡ b → (a == b) ≡ true
is_equal a b same = ap (λ n. n == b) same ∙ itself b

pub named_place : (c count : ℕ) (heap : Heap) (at : ℕ) (cell : Cell) → cell_at heap at ≡ Some cell → cell.made_by ≡ c → length cell.fields ≡ count → cell_named c count heap (place at) ≡ Some (record { at = at; fields = cell.fields })
named_place c count heap at cell here made many =
    rw here (rw (and_both (cell.made_by == c) (length cell.fields == count) (is_equal cell.made_by c made) (is_equal (length cell.fields) count many)) refl)

named_there : (c count : ℕ) (heap : Heap) (v : Value) → IsCounted heap v → IsCell (forwards heap) c count v → (named : Named) × (cell_named c count heap v ≡ Some named)
named_there c count heap v counted shape = (
  record { at = shape.0; fields = shape.1.0.fields },
  subst (λ w. cell_named c count heap w ≡ Some (record { at = shape.0; fields = shape.1.0.fields })) (sym shape.1.1.0)
      (named_place c count heap shape.0 shape.1.0 (cell_same heap shape.0 (subst (IsCounted heap) shape.1.1.0 counted) ∙ shape.1.1.1.0) shape.1.1.1.1.0 shape.1.1.1.1.1),
)

module _ (positions : PositionTable) (setting : CountedSetting) (spent : IsSpent positions setting.program) where
  give_going : (v : Value) (joins : List CountedJoin) (frames : List CountedFrame) (environment : Environment) (from : CountedConfiguration) → LeadsTo Going (give_step v joins frames environment from)
  give_going v (join ∷ joins) frames environment from = tt
  give_going v [] (frame ∷ older) environment from = tt
  give_going v [] [] environment from = tt

  print_going : (piece : List ℕ) (to : CountedConfiguration) → Going to → LeadsTo Going (print_step piece to)
  print_going [] to going = going
  print_going (byte ∷ bytes) to going = going

  full_or : (full : Bool) (end to : CountedConfiguration) → Going end → Going to → Going (if full then end else to)
  full_or true end to first second = first
  full_or false end to first second = second

  call_going : (found : Option CountedFunction) (function : CountedFunction) (values : List Value) (waiting : CountedFrame) (from : CountedConfiguration) → found ≡ Some function → LeadsTo Going (call_step setting found values waiting from)
  call_going found function values waiting from there =
      subst (λ found. LeadsTo Going (call_step setting found values waiting from)) (sym there)
      (full_or (nat_le setting.depth (suc (length from.frames))) (at_end stack_full from) (in_code function values (record from { frames = waiting ∷ from.frames })) tt tt)

  made_going : (c : ℕ) (values : List Value) (x : ℕ) (rest : Counted) (environment : Environment) (joins : List CountedJoin) (from : CountedConfiguration) → LeadsTo Going (form_step setting (Construct c) values x rest environment joins from)
  made_going c [] x rest environment joins from = tt
  made_going c (v ∷ vs) x rest environment joins from =
      full_or (nat_le setting.cells (busy from.heap)) (at_end heap_full from)
      (record (bound_then x (place (length from.heap)) rest environment joins from) { heap = record { count = 1; cell = record { made_by = c; fields = v ∷ vs } } ∷ from.heap }) tt tt

  form_going : (form : Form) (values : List Value) (x : ℕ) (rest : Counted) (environment : Environment) (joins : List CountedJoin) (from : CountedConfiguration) → CallsOne setting.program.functions form → LeadsTo Going (form_step setting form values x rest environment joins from)
  form_going (Number n) values x rest environment joins from one = tt
  form_going Nothing values x rest environment joins from one = tt
  form_going ReadByte values x rest environment joins from one = λ byte. tt
  form_going (PrintText form text) values x rest environment joins from one =
      print_going (piece_of form (text_at setting.program.texts text)) (bound_then x unit rest environment joins from) tt
  form_going (Unary operator) values x rest environment joins from one = tt
  form_going (Binary operator) values x rest environment joins from one = tt
  form_going (Print form) values x rest environment joins from one =
      print_going (piece_of form (signed_decimal (integer_of (argument 0 values)))) (bound_then x unit rest environment joins from) tt
  form_going (Construct c) values x rest environment joins from one = made_going c values x rest environment joins from
  form_going (Call f) values x rest environment joins from one =
      call_going (slice_get setting.program.functions f) one.0 values (record { variable = x; rest = rest; joins = joins; environment = environment }) from one.1

  module _ (from : CountedConfiguration) (below : List Value) (own : Own positions setting.program.functions (forwards from.heap) from.frames below) (environment : Environment) (joins : List CountedJoin) where
    heap_going : (result : Option Heap) (heap : Heap) (to : CountedConfiguration) → Going to → result ≡ Some heap → Going (with_heap result from to)
    heap_going result heap to going is = subst (λ r. Going (with_heap r from to)) (sym is) going

    -- an opening that finds its cell
    opening_going : (found : Option Named) (named : Named) (change : Named → Option Heap) (heap : Heap) (fields : List ℕ) (rest : Counted) → found ≡ Some named → change named ≡ Some heap → LeadsTo Going (open_step found change fields rest environment joins from)
    opening_going found named change heap fields rest there is =
        subst (λ f. LeadsTo Going (open_step f change fields rest environment joins from)) (sym there)
        (heap_going (change named) heap (at_counted rest (bind_fields fields named.fields environment) joins from) tt is)

    counts_with : (x at : ℕ) (owned kept : List ℕ) → AreEven owned (x ∷ kept) → Counts (refs (values_of environment owned ++ below)) from.heap → value_of environment x ≡ place at → Counts (with_place at (refs (values_of environment kept ++ below))) from.heap
    counts_with x at owned kept even counts is =
        λ q. omega (
          arith,
          counts q,
          refs_append (values_of environment owned) below q,
          refs_append (values_of environment kept) below q,
          even_refs environment owned (x ∷ kept) q even,
          ap (λ v. refs_of v q) is,
        )

    parts : (x : ℕ) (fields used : List ℕ) (named : Named) → NamedCell from.heap (value_of environment x) (length fields) named → (q : ℕ) → refs (fields_held from.heap named.at) q ≡ refs (used_values used fields named.fields) q + refs (other_values used fields named.fields) q
    parts x fields used named cell q = ap (λ vs. refs vs q) cell.fields ∙ fields_part used fields named.fields q cell.many

    code_going : (code : Counted) → IsRunning positions setting.program.functions from.heap below code environment joins → HasShape setting.program.functions (forwards from.heap) (running code environment joins) → LeadsTo Going (counted_code_step setting code environment joins from)
    code_going (give x) r shape = give_going (value_of environment x) joins from.frames environment from
    code_going (tail_call f arguments) r shape =
        subst (λ found. LeadsTo Going (tail_step found (map (value_of environment) arguments) from)) (sym shape.1) tt
    code_going (case x decisions arms) r shape =
        subst (λ found. LeadsTo Going (case_step found environment joins from)) (sym found) tt
      where
        found : and_then (chosen (cell_at from.heap) (value_of environment x) decisions) (arm_at arms) ≡ Some shape.1.0
        found =
            ap (λ (row : Option ℕ). and_then row (arm_at arms))
            (chosen_same (refs (values_of environment r.owned ++ below)) from.heap r.sound.counts (value_of environment x)
            (use_counted positions setting spent from below own environment joins (case x decisions arms) r x (among_first x [])) decisions ∙ shape.1.1.0)
            ∙ shape.1.1.1
    code_going (compute x form arguments rest) r shape = form_going form (map (value_of environment) arguments) x rest environment joins from shape
    code_going (inside x block rest) r shape = tt
    code_going (read x c fields rest) r shape =
        let there = named_there c (length fields) from.heap (value_of environment x)
        (use_counted positions setting spent from below own environment joins (read x c fields rest) r x (among_first x [])) shape in
        opening_going (cell_named c (length fields) from.heap (value_of environment x)) there.0 (λ named. Some from.heap) from.heap fields rest there.1 refl
    code_going (open_cell x c fields used rest) r shape =
        let there = named_there c (length fields) from.heap (value_of environment x)
        (use_counted positions setting spent from below own environment joins (open_cell x c fields used rest) r x (among_first x [])) shape in
        let cell = subst (OnNamed (NamedCell from.heap (value_of environment x) (length fields))) there.1 (named_cell c (length fields) from.heap (value_of environment x)) in
        let became = opened there.0.at (used_values used fields there.0.fields) (other_values used fields there.0.fields) (refs (values_of environment r.spends.0 ++ below)) from.heap
        (counts_with x there.0.at r.owned r.spends.0 r.spends.1.0 r.sound.counts cell.is) (parts x fields used there.0 cell) in
        opening_going (cell_named c (length fields) from.heap (value_of environment x)) there.0 (λ named. opened_heap named.at (used_values used fields named.fields) from.heap) became.heap fields rest there.1 became.is
    code_going (if_unique x c fields used rest) r shape =
        let there = named_there c (length fields) from.heap (value_of environment x)
        (use_counted positions setting spent from below own environment joins (if_unique x c fields used rest) r x (among_first x [])) shape in
        let cell = subst (OnNamed (NamedCell from.heap (value_of environment x) (length fields))) there.1 (named_cell c (length fields) from.heap (value_of environment x)) in
        let became = opened_by_count there.0.at (used_values used fields there.0.fields) (other_values used fields there.0.fields) (refs (values_of environment r.spends.0 ++ below)) from.heap
        (counts_with x there.0.at r.owned r.spends.0 r.spends.1.0 r.sound.counts cell.is) (parts x fields used there.0 cell) in
        opening_going (cell_named c (length fields) from.heap (value_of environment x)) there.0
        (λ named. unique_heap (count_at from.heap named.at) named.at (used_values used fields named.fields) (other_values used fields named.fields) from.heap) became.heap fields rest there.1 became.is
    code_going (dup x rest) r shape =
        let became = dupped (refs (values_of environment r.owned ++ below)) (λ q. refs_of (value_of environment x) q + refs (values_of environment r.owned ++ below) q) (value_of environment x) from.heap r.sound.counts
        (use_counted positions setting spent from below own environment joins (dup x rest) r x (among_first x [])) (λ q. refl) in
        heap_going (dup_value (value_of environment x) from.heap) became.0.heap (at_counted rest environment joins from) tt became.0.is
    code_going (drop x rest) r shape =
        let became = dropped (refs (values_of environment r.owned ++ below)) (refs (values_of environment r.spends.0 ++ below)) (value_of environment x) from.heap r.sound.counts
        (λ q. omega (arith, refs_append (values_of environment r.owned) below q, refs_append (values_of environment r.spends.0) below q, even_refs environment r.owned (x ∷ r.spends.0) q r.spends.1.0)) in
        heap_going (drop_value (value_of environment x) from.heap) became.heap (at_counted rest environment joins from) tt became.is

  control_going : (control : CountedControl) (c : CountedConfiguration) (below : List Value) → Own positions setting.program.functions (forwards c.heap) c.frames below → IsKeptAt positions setting.program.functions c.heap below control → HasShape setting.program.functions (forwards c.heap) control → Going c → LeadsTo Going (counted_step_at setting control c)
  control_going (running code environment joins) c below own at shape going = code_going c below own environment joins code at shape
  control_going (stopped by) c below own at shape going = going
  control_going stuck c below own at shape going = going

  module _ (weight : CountedState → ℕ) where
    next_going : (s : CountedState) (how : Option End) → IsKept positions setting.program.functions s.machine → HasShape setting.program.functions (forwards s.machine.heap) s.machine.control → Going s.machine → Going (step_unless how s (counted_step setting s)).1.machine
    next_going s None kept shape going =
        performed_kept Going (counted_step_of setting s.machine) s.input (control_going s.machine.control s.machine kept.0 kept.1.0 kept.1.1 shape going)
    next_going s (Some end) kept shape going = going

    run_going : (n : ℕ) (s : CountedState) → ((k : ℕ) → IsKept positions setting.program.functions (state (counted_machine weight setting) k s).machine)
        → ((k : ℕ) → HasShape setting.program.functions (forwards (state (counted_machine weight setting) k s).machine.heap) (state (counted_machine weight setting) k s).machine.control)
        → Going s.machine → Going (state (counted_machine weight setting) n s).machine
    run_going zero s kept shape going = going
    run_going (suc n) s kept shape going =
        run_going n ((counted_machine weight setting).step s).1 (λ k. kept (suc k)) (λ k. shape (suc k))
        (next_going s (counted_ending_of s) (kept zero) (shape zero) going)

pub never_stuck : (positions : PositionTable) (setting : CountedSetting) (weight : CountedState → ℕ) (input : List ℕ) → IsSpent positions setting.program
    → FitsAlways weight setting input → HasShapeAlways weight setting input → (n : ℕ) → NotStuck (counted_after weight setting input n).control
never_stuck positions setting weight input spent fits shape n =
    run_going positions setting spent weight n (counted_first_state setting input) (keeps_sound positions setting weight input spent fits) shape tt
