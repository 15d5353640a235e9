-- Specialised code has the shape of the code that it is made of, and takes the same values.
use Rattle.std.proofs.Common.{ℕ, List, map, sym, ap, subst, ◌∙◌}
use Rattle.std.specs.Prelude.{option_map}
use Rattle.kk_syntax.specs.PositionsOf.{PositionTable}
use Rattle.kk_source.specs.State.{Store, Environment}
use Rattle.kk_counted.specs.CountedCodes.{Counted, give, tail_call, case, compute, inside, read, open_cell, if_unique, dup, drop}
use Rattle.kk_counted.specs.CountedCodes.{CountedFunction}
use Rattle.kk_counted.specs.Heaps.{Heap, forwards}
use Rattle.kk_counted.specs.CountedStates.{CountedSetting, CountedJoin, CountedControl, running, stopped, stuck}
use Rattle.kk_counted.specs.CountedStates.{CountedConfiguration, CountedState}
use Rattle.kk_counted.specs.Keeping.{HasShape, counted_after, FitsAlways, HasShapeAlways}
use Rattle.kk_counted.specs.Kinds.{HasKinds, HasKindsAlways}
use Rattle.kk_counted.specs.Spending.{IsSpent}
use Rattle.kk_dropspec.specs.Specialised.{special, special_function, special_setting, special_control}
use Rattle.kk_dropspec.proofs.ChangedFunctions.{is_there, calls_one}
use Rattle.kk_dropspec.proofs.Runs.{runs_same}
use Rattle.kk_dropspec.proofs.Steps.{arm_same}

module _ (functions : List CountedFunction) where
  module _ (store : Store) where
    code_shape : (code : Counted) (environment : Environment) (joins : List CountedJoin)
        → HasShape functions store (running code environment joins)
        → HasShape (map special_function functions) store (special_control (running code environment joins))
    code_shape (give x) environment joins shape = tt
    code_shape (tail_call f arguments) environment joins shape = is_there special functions f shape
    code_shape (case x decisions arms) environment joins shape =
        (shape.0, (special shape.1.0, (shape.1.1.0, arm_same arms shape.0 ∙ ap (option_map special) shape.1.1.1)))
    code_shape (compute x form arguments rest) environment joins shape = calls_one special functions form shape
    code_shape (inside x block rest) environment joins shape = tt
    code_shape (read x c fields rest) environment joins shape = shape
    code_shape (open_cell x c fields used rest) environment joins shape = shape
    code_shape (if_unique x c fields used rest) environment joins shape = shape
    code_shape (dup x rest) environment joins shape = tt
    code_shape (drop x rest) environment joins shape = tt

    control_shape : (control : CountedControl) → HasShape functions store control
        → HasShape (map special_function functions) store (special_control control)
    control_shape (running code environment joins) shape = code_shape code environment joins shape
    control_shape (stopped by) shape = tt
    control_shape stuck shape = tt

module _ (alike : ℕ → ℕ → Type 0) (fields : ℕ → ℕ) (heap : Heap) where
  code_kinds : (code : Counted) (environment : Environment) (joins : List CountedJoin)
      → HasKinds alike fields heap (running code environment joins)
      → HasKinds alike fields heap (special_control (running code environment joins))
  code_kinds (give x) environment joins kinds = tt
  code_kinds (tail_call f arguments) environment joins kinds = tt
  code_kinds (case x decisions arms) environment joins kinds = kinds
  code_kinds (compute x form arguments rest) environment joins kinds = kinds
  code_kinds _ environment joins kinds = tt

  control_kinds : (control : CountedControl) → HasKinds alike fields heap control
      → HasKinds alike fields heap (special_control control)
  control_kinds (running code environment joins) kinds = code_kinds code environment joins kinds
  control_kinds (stopped by) kinds = tt
  control_kinds stuck kinds = tt

-- ---- in each state of a run

module _ (positions : PositionTable) (setting : CountedSetting) (weight other : CountedState → ℕ) (input : List ℕ)
    (spent : IsSpent positions setting.program) (fits : FitsAlways weight setting input) where
  pub shape_always : HasShapeAlways weight setting input → HasShapeAlways other (special_setting setting) input
  shape_always shape = λ n.
      subst (λ (c : CountedConfiguration). HasShape (map special_function setting.program.functions) (forwards c.heap) c.control)
      (sym (runs_same positions setting weight other input spent fits n).states)
      (control_shape setting.program.functions (forwards (counted_after weight setting input n).heap)
      (counted_after weight setting input n).control (shape n))

  pub kinds_always : (alike : ℕ → ℕ → Type 0) (fields : ℕ → ℕ) → HasKindsAlways alike fields weight setting input
      → HasKindsAlways alike fields other (special_setting setting) input
  kinds_always alike fields kinds = λ n.
      subst (λ (c : CountedConfiguration). HasKinds alike fields c.heap c.control)
      (sym (runs_same positions setting weight other input spent fits n).states)
      (control_kinds alike fields (counted_after weight setting input n).heap (counted_after weight setting input n).control
      (kinds n))
