-- Of which kind values are in each state of a run of counted code: as its types tell.
use Rattle.std.specs.Prelude.{ℕ, List, map, slice_get}
use Rattle.kk_source.specs.Live.{value_of}
use Rattle.kk_core.specs.Kinds.{TakesKinds, TestsAlike}
use Rattle.kk_counted.specs.CountedCodes.{case, compute}
use Rattle.kk_counted.specs.CountedStates.{CountedSetting, CountedControl, running, CountedState}
use Rattle.kk_counted.specs.Heaps.{Heap, forwards}
use Rattle.kk_counted.specs.Keeping.{counted_after}

-- what the code of a state takes is of the kinds that it asks for
abbrev pub HasKinds : (ℕ → ℕ → Type 0) → (ℕ → ℕ) → Heap → CountedControl → Type 0
HasKinds alike fields heap (running (case x decisions arms) environment joins) =
    TestsAlike alike fields (slice_get (forwards heap)) (value_of environment x) decisions
HasKinds alike fields heap (running (compute x form arguments rest) environment joins) =
    TakesKinds form (map (value_of environment) arguments)
HasKinds alike fields heap _ = Unit {0}

-- so in each state of a run
abbrev pub HasKindsAlways : (ℕ → ℕ → Type 0) → (ℕ → ℕ) → (CountedState → ℕ) → CountedSetting → List ℕ → Type 0
HasKindsAlways alike fields weight setting input =
    (n : ℕ) → HasKinds alike fields (counted_after weight setting input n).heap (counted_after weight setting input n).control
