-- Values of the kinds that code takes stay so where more constructors are alike.
use Rattle.std.proofs.Common.{◌≡◌, ℕ, List}
use Rattle.std.specs.Prelude.{slice_get}
use Rattle.kk_source.specs.Live.{value_of}
use Rattle.kk_source.specs.State.{Environment}
use Rattle.kk_core.proofs.ValueKinds.{tests_alike}
use Rattle.kk_counted.specs.CountedCodes.{Counted, give, tail_call, case, compute, inside, read, open_cell, if_unique, dup, drop}
use Rattle.kk_counted.specs.CountedStates.{CountedJoin, CountedControl, running, stopped, stuck}
use Rattle.kk_counted.specs.Heaps.{Heap, forwards}
use Rattle.kk_counted.specs.Kinds.{HasKinds}

module _ (alike other : ℕ → ℕ → Type 0) (fields many : ℕ → ℕ) (wider : (c d : ℕ) → alike c d → other c d)
    (same : (c : ℕ) → fields c ≡ many c) (heap : Heap) where
  code_kinds : (code : Counted) (environment : Environment) (joins : List CountedJoin)
      → HasKinds alike fields heap (running code environment joins) → HasKinds other many heap (running code environment joins)
  code_kinds (give x) environment joins kinds = tt
  code_kinds (tail_call f arguments) environment joins kinds = tt
  code_kinds (case x decisions arms) environment joins kinds =
      tests_alike alike other fields many wider same (slice_get (forwards heap)) (value_of environment x) decisions kinds
  code_kinds (compute x form arguments rest) environment joins kinds = kinds
  code_kinds (inside x block rest) environment joins kinds = tt
  code_kinds (read x c fields rest) environment joins kinds = tt
  code_kinds (open_cell x c fields used rest) environment joins kinds = tt
  code_kinds (if_unique x c fields used rest) environment joins kinds = tt
  code_kinds (dup x rest) environment joins kinds = tt
  code_kinds (drop x rest) environment joins kinds = tt

  pub control_kinds : (control : CountedControl) → HasKinds alike fields heap control → HasKinds other many heap control
  control_kinds (running code environment joins) kinds = code_kinds code environment joins kinds
  control_kinds (stopped by) kinds = tt
  control_kinds stuck kinds = tt
