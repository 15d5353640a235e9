-- Each step of specialised code is that of the code that it is made of.
use Rattle.std.proofs.Common.{◌≡◌, ℕ, zero, suc, List, ◌∷◌, ◌++◌, map, length, Some, arith}
use Rattle.std.proofs.Common.{refl, sym, ap, ◌∙◌, subst}
use Rattle.std.specs.Prelude.{slice_get, option_map}
use Rattle.std.proofs.lemmas.Option.{slice_get-map}
use Rattle.kk_syntax.specs.PositionsOf.{PositionTable}
use Rattle.kk_source.specs.State.{Value, place, Environment}
use Rattle.kk_source.specs.Live.{value_of}
use Rattle.kk_source.specs.Matching.{and_then}
use Rattle.kk_source.specs.FormEffects.{form_effect}
use Rattle.kk_core.specs.Decisions.{chosen}
use Rattle.kk_counted.specs.CountedCodes.{Counted, give, tail_call, case, compute, inside, read, open_cell, if_unique, dup, drop}
use Rattle.kk_counted.specs.CountedCodes.{CountedArms, no_arm, arm}
use Rattle.kk_counted.specs.Heaps.{Heap, count_at, cell_at, dup_value, drop_value}
use Rattle.kk_counted.specs.CountedStates.{CountedSetting, CountedJoin, CountedConfiguration}
use Rattle.kk_counted.specs.CountedMachine.{arm_at, case_step}
use Rattle.kk_counted.specs.CountedMachine.{Named, cell_named, used_values, other_values, opened_heap, unique_heap}
use Rattle.kk_counted.specs.CountedMachine.{counted_code_step}
use Rattle.kk_counted.specs.References.{refs_of, refs}
use Rattle.kk_counted.specs.Keeping.{values_of, IsRunning}
use Rattle.kk_counted.proofs.CountChanges.{refs_append}
use Rattle.kk_counted.proofs.Variables.{even_refs, fields_part}
use Rattle.kk_counted.proofs.SoundSteps.{moved, NamedCell, OnNamed, named_cell}
use Rattle.kk_counted.proofs.SoundRuns.{openings_are_alike}
use Rattle.kk_dropspec.proofs.ChangedSteps.{changed_action, give_same, tail_same, case_same, row_same, heap_same, open_same}
use Rattle.kk_dropspec.proofs.ChangedSteps.{open_still, effect_same}
use Rattle.kk_dropspec.specs.Specialised.{special, special_arms, special_function, special_setting, special_join}
use Rattle.kk_dropspec.specs.Specialised.{special_configuration}

pub arm_same : (arms : CountedArms) (row : ℕ) → arm_at (special_arms arms) row ≡ option_map special (arm_at arms row)
arm_same no_arm row = refl
arm_same (arm body rest) zero = refl
arm_same (arm body rest) (suc row) = arm_same rest row

module _ (positions : PositionTable) (setting : CountedSetting) where
  -- both ways to open a cell that is owned leave the same heap
  openings_same : (below : List Value) (x c : ℕ) (fields used : List ℕ) (rest : Counted) (environment : Environment)
      (joins : List CountedJoin) (heap : Heap)
      → IsRunning positions setting.program.functions heap below (open_cell x c fields used rest) environment joins
      → (named : Named) → cell_named c (length fields) heap (value_of environment x) ≡ Some named
      → opened_heap named.at (used_values used fields named.fields) heap
      ≡ unique_heap (count_at heap named.at) named.at (used_values used fields named.fields) (other_values used fields named.fields)
      heap
  openings_same below x c fields used rest environment joins heap r named is =
      sym
      (openings_are_alike named.at (used_values used fields named.fields) (other_values used fields named.fields)
      (values_of environment r.spends.0 ++ below) heap
      (moved (values_of environment r.owned ++ below) (place named.at ∷ (values_of environment r.spends.0 ++ below)) heap
      (λ q. omega (
        arith,
        refs_append (values_of environment r.owned) below q,
        refs_append (values_of environment r.spends.0) below q,
        even_refs environment r.owned (x ∷ r.spends.0) q r.spends.1.0,
        ap (λ v. refs_of v q) cell.is,
      ))
      r.sound)
      (λ q. ap (λ vs. refs vs q) cell.fields ∙ fields_part used fields named.fields q cell.many))
    where
      cell : NamedCell heap (value_of environment x) (length fields) named
      cell =
          subst (OnNamed (NamedCell heap (value_of environment x) (length fields))) is
          (named_cell c (length fields) heap (value_of environment x))

  pub steps_same : (code : Counted) (environment : Environment) (joins : List CountedJoin) (from : CountedConfiguration)
      (below : List Value)
      → IsRunning positions setting.program.functions from.heap below code environment joins
      → changed_action special (counted_code_step setting code environment joins from)
      ≡ counted_code_step (special_setting setting) (special code) environment (map special_join joins) (special_configuration from)
  steps_same (give x) environment joins from below r = give_same special (value_of environment x) joins from.frames environment from
  steps_same (tail_call f arguments) environment joins from below r =
      rw (slice_get-map special_function setting.program.functions f)
      (tail_same special (slice_get setting.program.functions f) (map (value_of environment) arguments) from)
  steps_same (case x decisions arms) environment joins from below r =
      case_same special (and_then (chosen (cell_at from.heap) (value_of environment x) decisions) (arm_at arms)) environment joins
      from
      ∙ ap (λ found. case_step found environment (map special_join joins) (special_configuration from))
      (sym (row_same special arms (special_arms arms) (arm_same arms)
      (chosen (cell_at from.heap) (value_of environment x) decisions)))
  steps_same (compute x form arguments rest) environment joins from below r =
      effect_same special setting (form_effect setting.program.texts form (map (value_of environment) arguments)) x rest environment
      joins from
  steps_same (inside x block rest) environment joins from below r = refl
  steps_same (read x c fields rest) environment joins from below r =
      open_still special (cell_named c (length fields) from.heap (value_of environment x)) (λ named. Some from.heap) fields rest
      environment joins from
  steps_same (open_cell x c fields used rest) environment joins from below r =
      open_same special (cell_named c (length fields) from.heap (value_of environment x))
      (λ named. opened_heap named.at (used_values used fields named.fields) from.heap)
      (λ named. unique_heap (count_at from.heap named.at) named.at (used_values used fields named.fields)
      (other_values used fields named.fields) from.heap) fields rest environment joins from
      (openings_same below x c fields used rest environment joins from.heap r)
  steps_same (if_unique x c fields used rest) environment joins from below r =
      open_still special (cell_named c (length fields) from.heap (value_of environment x))
      (λ named. unique_heap (count_at from.heap named.at) named.at (used_values used fields named.fields)
      (other_values used fields named.fields) from.heap) fields rest environment joins from
  steps_same (dup x rest) environment joins from below r =
      heap_same special (dup_value (value_of environment x) from.heap) rest environment joins from
  steps_same (drop x rest) environment joins from below r =
      heap_same special (drop_value (value_of environment x) from.heap) rest environment joins from
