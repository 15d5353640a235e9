-- Each step of fused code is that of the code that it is made of, where nothing is pending.
use Rattle.std.proofs.Common.{◌≡◌, ℕ, zero, suc, List, map, length, Some, None, refl, sym, ap, ◌∙◌}
use Rattle.std.specs.Prelude.{slice_get, option_map}
use Rattle.std.proofs.lemmas.Option.{slice_get-map}
use Rattle.kk_source.specs.State.{Environment}
use Rattle.kk_source.specs.Live.{value_of}
use Rattle.kk_source.specs.Matching.{and_then}
use Rattle.kk_source.specs.FormEffects.{form_effect}
use Rattle.kk_core.specs.Decisions.{chosen}
use Rattle.kk_counted.specs.CountedCodes.{Counted, give, tail_call, case, compute, inside, read, open_cell, if_unique, dup, drop, CountedArms, no_arm, arm}
use Rattle.kk_counted.specs.Heaps.{count_at, cell_at, dup_value, drop_value}
use Rattle.kk_counted.specs.CountedStates.{CountedSetting, CountedJoin, CountedControl, CountedConfiguration}
use Rattle.kk_counted.specs.CountedMachine.{arm_at, case_step, cell_named, used_values, other_values, opened_heap, unique_heap, counted_code_step}
use Rattle.kk_dropspec.specs.Changed.{changed_control, changed_configuration}
use Rattle.kk_dropspec.proofs.ChangedSteps.{changed_action, give_same, tail_same, case_same, row_same, heap_same, open_still, effect_same}
use Rattle.kk_fuse.specs.Fused.{without_drop, fused_dup, fuse, fuse_arms, fused_function, fused_setting}
use Rattle.kk_fuse.specs.FusedRuns.{fused_join}

-- ---- a state with fused code

abbrev pub fused_control : CountedControl → CountedControl
fused_control = changed_control fuse

abbrev pub fused_configuration : CountedConfiguration → CountedConfiguration
fused_configuration = changed_configuration fuse

-- a dup that cancels with no drop, and one that does
pub dup_stays : (x : ℕ) (code : Counted) → without_drop x code ≡ None → fused_dup x code ≡ dup x code
dup_stays x code is = rw is refl

pub dup_goes : (x : ℕ) (code less : Counted) → without_drop x code ≡ Some less → fused_dup x code ≡ less
dup_goes x code less is = rw is refl

-- the dup that a code begins with cancels with no drop
abbrev pub Stays : Counted → Type 0
Stays (dup x rest) = without_drop x (fuse rest) ≡ None
Stays code = Unit {0}

-- ---- the steps

pub arm_same : (arms : CountedArms) (row : ℕ) → arm_at (fuse_arms arms) row ≡ option_map fuse (arm_at arms row)
arm_same no_arm row = refl
arm_same (arm body rest) zero = refl
arm_same (arm body rest) (suc row) = arm_same rest row

module _ (setting : CountedSetting) where
  -- nothing is pending, and the heaps are equal
  pub steps_same : (code : Counted) (environment : Environment) (joins : List CountedJoin) (from : CountedConfiguration)
      → Stays code
      → changed_action fuse (counted_code_step setting code environment joins from)
      ≡ counted_code_step (fused_setting setting) (fuse code) environment (map fused_join joins) (fused_configuration from)
  steps_same (give x) environment joins from stays = give_same fuse (value_of environment x) joins from.frames environment from
  steps_same (tail_call f arguments) environment joins from stays =
      rw (slice_get-map fused_function setting.program.functions f)
      (tail_same fuse (slice_get setting.program.functions f) (map (value_of environment) arguments) from)
  steps_same (case x decisions arms) environment joins from stays =
      case_same fuse (and_then (chosen (cell_at from.heap) (value_of environment x) decisions) (arm_at arms)) environment joins from
      ∙ ap (λ found. case_step found environment (map fused_join joins) (fused_configuration from))
      (sym (row_same fuse arms (fuse_arms arms) (arm_same arms)
      (chosen (cell_at from.heap) (value_of environment x) decisions)))
  steps_same (compute x form arguments rest) environment joins from stays =
      effect_same fuse setting (form_effect setting.program.texts form (map (value_of environment) arguments)) x rest environment
      joins from
  steps_same (inside x block rest) environment joins from stays = refl
  steps_same (read x c fields rest) environment joins from stays =
      open_still fuse (cell_named c (length fields) from.heap (value_of environment x)) (λ named. Some from.heap) fields rest
      environment joins from
  steps_same (open_cell x c fields used rest) environment joins from stays =
      open_still fuse (cell_named c (length fields) from.heap (value_of environment x))
      (λ named. opened_heap named.at (used_values used fields named.fields) from.heap) fields rest environment joins from
  steps_same (if_unique x c fields used rest) environment joins from stays =
      open_still fuse (cell_named c (length fields) from.heap (value_of environment x))
      (λ named. unique_heap (count_at from.heap named.at) named.at (used_values used fields named.fields)
      (other_values used fields named.fields) from.heap) fields rest environment joins from
  steps_same (dup x rest) environment joins from stays =
      heap_same fuse (dup_value (value_of environment x) from.heap) rest environment joins from
      ∙ ap (λ code. counted_code_step (fused_setting setting) code environment (map fused_join joins) (fused_configuration from))
      (sym (dup_stays x (fuse rest) stays))
  steps_same (drop x rest) environment joins from stays =
      heap_same fuse (drop_value (value_of environment x) from.heap) rest environment joins from
