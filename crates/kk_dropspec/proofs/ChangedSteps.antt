-- The parts of a step of changed code are those of the code, where each code is changed by the same function.
use Rattle.std.proofs.Common.{◌≡◌, ℕ, suc, Bool, true, false, List, [], ◌∷◌, map, length, Option, Some, None, refl, ap, ◌∙◌}
use Rattle.std.specs.Prelude.{if◌then◌else◌, nat_le, slice_get, option_map}
use Rattle.std.proofs.lemmas.List.{length-map}
use Rattle.std.proofs.lemmas.Option.{slice_get-map}
use Rattle.kk_source.specs.State.{Value, unit, place, Environment, heap_full, stack_full}
use Rattle.kk_source.specs.Matching.{and_then}
use Rattle.kk_source.specs.Actions.{Action, goes, puts, takes, builds, calls, print_step}
use Rattle.kk_source.specs.FormEffects.{FormEffect, gives, prints, reads, makes, enters, effect_step}
use Rattle.kk_core.specs.CoreMachine.{bind_fields}
use Rattle.kk_counted.specs.CountedCodes.{Counted, CountedArms, CountedFunction}
use Rattle.kk_counted.specs.Heaps.{Heap, busy}
use Rattle.kk_counted.specs.CountedStates.{CountedSetting, CountedJoin, CountedFrame, CountedConfiguration}
use Rattle.kk_counted.specs.CountedMachine.{at_counted, bound_then, at_end, with_heap, arm_at, case_step, give_step, in_code}
use Rattle.kk_counted.specs.CountedMachine.{tail_step, Named, open_step, construct_step, call_step}
use Rattle.kk_dropspec.specs.Changed.{changed_function, changed_setting, changed_join, changed_frame, changed_configuration}

module _ (change : Counted → Counted) where
  abbrev pub changed_action : Action CountedConfiguration → Action CountedConfiguration
  changed_action (goes to) = goes (changed_configuration change to)
  changed_action (puts piece to) = puts piece (changed_configuration change to)
  changed_action (takes to) = takes (λ byte. changed_configuration change (to byte))
  changed_action (builds found to) = builds found (changed_configuration change to)
  changed_action (calls found to) = calls found (changed_configuration change to)

  pub give_same : (v : Value) (joins : List CountedJoin) (frames : List CountedFrame) (environment : Environment)
      (from : CountedConfiguration)
      → changed_action (give_step v joins frames environment from)
      ≡ give_step v (map (changed_join change) joins) (map (changed_frame change) frames) environment
      (changed_configuration change from)
  give_same v (join ∷ joins) frames environment from = refl
  give_same v [] (frame ∷ frames) environment from = refl
  give_same v [] [] environment from = refl

  pub tail_same : (found : Option CountedFunction) (values : List Value) (from : CountedConfiguration)
      → changed_action (tail_step found values from)
      ≡ tail_step (option_map (changed_function change) found) values (changed_configuration change from)
  tail_same None values from = refl
  tail_same (Some function) values from = refl

  pub case_same : (found : Option Counted) (environment : Environment) (joins : List CountedJoin) (from : CountedConfiguration)
      → changed_action (case_step found environment joins from)
      ≡ case_step (option_map change found) environment (map (changed_join change) joins) (changed_configuration change from)
  case_same None environment joins from = refl
  case_same (Some body) environment joins from = refl

  -- the arms of one code are those of another, changed
  pub row_same : (arms others : CountedArms) → ((row : ℕ) → arm_at others row ≡ option_map change (arm_at arms row))
      → (row : Option ℕ) → and_then row (arm_at others) ≡ option_map change (and_then row (arm_at arms))
  row_same arms others same None = refl
  row_same arms others same (Some row) = same row

  pub heap_same : (result : Option Heap) (rest : Counted) (environment : Environment) (joins : List CountedJoin)
      (from : CountedConfiguration)
      → changed_action (goes (with_heap result from (at_counted rest environment joins from)))
      ≡ goes (with_heap result (changed_configuration change from)
      (at_counted (change rest) environment (map (changed_join change) joins) (changed_configuration change from)))
  heap_same None rest environment joins from = refl
  heap_same (Some heap) rest environment joins from = refl

  -- an opening, where both ways change the heap alike
  pub open_same : (found : Option Named) (heap other : Named → Option Heap) (fields : List ℕ) (rest : Counted)
      (environment : Environment) (joins : List CountedJoin) (from : CountedConfiguration)
      → ((named : Named) → found ≡ Some named → heap named ≡ other named)
      → changed_action (open_step found heap fields rest environment joins from)
      ≡ open_step found other fields (change rest) environment (map (changed_join change) joins)
      (changed_configuration change from)
  open_same None heap other fields rest environment joins from equal = refl
  open_same (Some named) heap other fields rest environment joins from equal =
      heap_same (heap named) rest (bind_fields fields named.fields environment) joins from
      ∙ ap (λ result. goes (with_heap result (changed_configuration change from)
      (at_counted (change rest) (bind_fields fields named.fields environment) (map (changed_join change) joins)
      (changed_configuration change from))))
      (equal named refl)

  pub open_still : (found : Option Named) (heap : Named → Option Heap) (fields : List ℕ) (rest : Counted)
      (environment : Environment) (joins : List CountedJoin) (from : CountedConfiguration)
      → changed_action (open_step found heap fields rest environment joins from)
      ≡ open_step found heap fields (change rest) environment (map (changed_join change) joins)
      (changed_configuration change from)
  open_still found heap fields rest environment joins from =
      open_same found heap heap fields rest environment joins from (λ named is. refl)

  print_same : (piece : List ℕ) (to : CountedConfiguration)
      → changed_action (print_step piece to) ≡ print_step piece (changed_configuration change to)
  print_same [] to = refl
  print_same (byte ∷ bytes) to = refl

  module _ (setting : CountedSetting) where
    call_same : (found : Option CountedFunction) (values : List Value) (waiting : CountedFrame) (from : CountedConfiguration)
        → changed_action (call_step setting found values waiting from)
        ≡ call_step (changed_setting change setting) (option_map (changed_function change) found) values
        (changed_frame change waiting) (changed_configuration change from)
    call_same None values waiting from = refl
    call_same (Some function) values waiting from =
        rw (length-map from.frames (changed_frame change)) (by_test (nat_le setting.depth (suc (length from.frames))))
      where
        by_test : (t : Bool) → calls (suc (length from.frames))
            (changed_configuration change (if t then at_end stack_full from else in_code function values
            (record from { frames = waiting ∷ from.frames })))
            ≡ calls (suc (length from.frames)) (if t then at_end stack_full (changed_configuration change from) else in_code
            (changed_function change function) values
            (record (changed_configuration change from)
            { frames = changed_frame change waiting ∷ map (changed_frame change) from.frames }))
        by_test true = refl
        by_test false = refl

    construct_same : (c x : ℕ) (fields : List Value) (rest : Counted) (environment : Environment) (joins : List CountedJoin)
        (from : CountedConfiguration)
        → changed_action (construct_step setting c fields (λ v. bound_then x v rest environment joins from) from)
        ≡ construct_step (changed_setting change setting) c fields
        (λ v. bound_then x v (change rest) environment (map (changed_join change) joins) (changed_configuration change from))
        (changed_configuration change from)
    construct_same c x fields rest environment joins from = by_test (nat_le setting.cells (busy from.heap))
      where
        made : CountedConfiguration
        made =
            record (bound_then x (place (length from.heap)) rest environment joins from)
            { heap = record { count = 1; cell = record { made_by = c; fields = fields } } ∷ from.heap }

        by_test : (t : Bool) → builds (busy from.heap) (changed_configuration change (if t then at_end heap_full from else made))
            ≡ builds (busy from.heap)
            (if t then at_end heap_full (changed_configuration change from) else changed_configuration change made)
        by_test true = refl
        by_test false = refl

    pub effect_same : (effect : FormEffect) (x : ℕ) (rest : Counted) (environment : Environment) (joins : List CountedJoin)
        (from : CountedConfiguration)
        → changed_action
        (effect_step (λ v. bound_then x v rest environment joins from)
        (λ c fields. construct_step setting c fields (λ v. bound_then x v rest environment joins from) from)
        (λ f arguments. call_step setting (slice_get setting.program.functions f) arguments
        (record { variable = x; rest = rest; joins = joins; environment = environment }) from)
        effect)
        ≡ effect_step
        (λ v. bound_then x v (change rest) environment (map (changed_join change) joins) (changed_configuration change from))
        (λ c fields. construct_step (changed_setting change setting) c fields
        (λ v. bound_then x v (change rest) environment (map (changed_join change) joins) (changed_configuration change from))
        (changed_configuration change from))
        (λ f arguments.
        call_step (changed_setting change setting) (slice_get (map (changed_function change) setting.program.functions) f)
        arguments
        (record { variable = x; rest = change rest; joins = map (changed_join change) joins; environment = environment })
        (changed_configuration change from))
        effect
    effect_same (gives v) x rest environment joins from = refl
    effect_same (prints piece) x rest environment joins from = print_same piece (bound_then x unit rest environment joins from)
    effect_same reads x rest environment joins from = refl
    effect_same (makes c fields) x rest environment joins from = construct_same c x fields rest environment joins from
    effect_same (enters f arguments) x rest environment joins from =
        rw (slice_get-map (changed_function change) setting.program.functions f)
        (call_same (slice_get setting.program.functions f) arguments
        (record { variable = x; rest = rest; joins = joins; environment = environment }) from)
