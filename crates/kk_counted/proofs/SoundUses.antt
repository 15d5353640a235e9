-- The cells that code uses, where it spends what it owns: they are counted, so that no dup, drop or opening is stuck at one.
use Rattle.std.proofs.Common.{◌≡◌, ◌⊎◌, inl, inr, ℕ, ◌==◌, ◌||◌, Bool, true, false, List, [], ◌∷◌, ◌++◌, refl, subst}
use Rattle.std.specs.Prelude.{slice_get}
use Rattle.kk_base.specs.Machines.{state}
use Rattle.kk_syntax.specs.Shapes.{is_among}
use Rattle.kk_syntax.specs.PositionsOf.{PositionTable}
use Rattle.kk_source.specs.State.{Value, Environment}
use Rattle.kk_source.specs.Live.{value_of}
use Rattle.kk_core.specs.Decisions.{NodeTree, chosen}
use Rattle.kk_counted.specs.CountedCodes.{Counted, give, tail_call, case, compute, inside, read, open_cell, if_unique, dup, drop, CountedArms}
use Rattle.kk_counted.specs.Heaps.{forwards, cell_at}
use Rattle.kk_counted.specs.CountedStates.{CountedSetting, CountedJoin, running, CountedConfiguration, CountedState, counted_first_state}
use Rattle.kk_counted.specs.CountedMachine.{counted_machine}
use Rattle.kk_counted.specs.References.{refs, IsCounted}
use Rattle.kk_counted.specs.Spending.{AreFresh, IsSpent}
use Rattle.kk_counted.specs.Keeping.{values_of, FitsAt, FitsAlways, counted_after, uses, Own, IsRunning, IsKeptAt, IsKept}
use Rattle.kk_counted.proofs.CountChanges.{same}
use Rattle.kk_counted.proofs.Evenness.{among_front, among_behind}
use Rattle.kk_counted.proofs.Looks.{chosen_same}
use Rattle.kk_counted.proofs.SoundSteps.{usable}
use Rattle.kk_counted.proofs.SoundRuns.{keeps_sound}
use Rattle.kk_counted.proofs.Variables.{among_first}

none : (y : ℕ) → is_among [] y ≡ true → ⊥
none y is = absurd (cc)

one_only : (y x : ℕ) → is_among (y ∷ []) x ≡ true → y ≡ x
one_only y x is = by_test (y == x) refl is
  where
    by_test : (t : Bool) → (y == x) ≡ t → (t || false) ≡ true → y ≡ x
    by_test true same_ones is = same y x same_ones
    by_test false other is = absurd (cc)

module _ (positions : PositionTable) (setting : CountedSetting) (spent : IsSpent positions setting.program) where
  module _ (from : CountedConfiguration) (below : List Value) (own : Own positions setting.program.functions (forwards from.heap) from.frames below) (environment : Environment) (joins : List CountedJoin) where
    pub use_counted : (code : Counted) → IsRunning positions setting.program.functions from.heap below code environment joins → (y : ℕ) → is_among (uses code) y ≡ true → IsCounted from.heap (value_of environment y)
    use_counted (give x) r y is = absurd (none y is)
    use_counted (tail_call f arguments) r y is = absurd (none y is)
    use_counted (compute x form arguments rest) r y is = absurd (none y is)
    use_counted (inside x block rest) r y is = absurd (none y is)
    use_counted (case x decisions arms) r y is =
        subst (λ z. IsCounted from.heap (value_of environment z)) (one_only x y is)
        (usable positions setting spent from below own environment joins x r.lent [] r.owned r.spends.0 r.spends.1.0 r.spends.1.1.0 r.reached (λ z there. absurd (none z there)) r.sound)
    use_counted (read x c fields rest) r y is =
        subst (λ z. IsCounted from.heap (value_of environment z)) (one_only x y is)
        (usable positions setting spent from below own environment joins x r.lent [] r.owned r.spends.0 r.spends.1.0 (either r.spends.1.1.1.0) r.reached (λ z there. absurd (none z there)) r.sound)
      where
        either : (is_among r.lent x ≡ true) ⊎ ((is_among r.spends.0 x ≡ true) × AreFresh fields r.lent) → is_among (r.lent ++ r.spends.0) x ≡ true
        either (inl here) = among_front r.lent r.spends.0 x here
        either (inr here) = among_behind r.lent r.spends.0 x here.0
    use_counted (open_cell x c fields used rest) r y is =
        subst (λ z. IsCounted from.heap (value_of environment z)) (one_only x y is)
        (usable positions setting spent from below own environment joins x r.lent [] r.owned (x ∷ r.spends.0) r.spends.1.0 (among_behind r.lent (x ∷ r.spends.0) x (among_first x r.spends.0)) r.reached (λ z there. absurd (none z there)) r.sound)
    use_counted (if_unique x c fields used rest) r y is =
        subst (λ z. IsCounted from.heap (value_of environment z)) (one_only x y is)
        (usable positions setting spent from below own environment joins x r.lent [] r.owned (x ∷ r.spends.0) r.spends.1.0 (among_behind r.lent (x ∷ r.spends.0) x (among_first x r.spends.0)) r.reached (λ z there. absurd (none z there)) r.sound)
    use_counted (dup x rest) r y is =
        subst (λ z. IsCounted from.heap (value_of environment z)) (one_only x y is)
        (usable positions setting spent from below own environment joins x r.lent r.readable r.owned r.spends.0 r.spends.1.0 r.spends.1.1.0 r.reached r.counted r.sound)
    use_counted (drop x rest) r y is =
        subst (λ z. IsCounted from.heap (value_of environment z)) (one_only x y is)
        (usable positions setting spent from below own environment joins x r.lent [] r.owned (x ∷ r.spends.0) r.spends.1.0 (among_behind r.lent (x ∷ r.spends.0) x (among_first x r.spends.0)) r.reached (λ z there. absurd (none z there)) r.sound)

pub uses_counted : (positions : PositionTable) (setting : CountedSetting) (weight : CountedState → ℕ) (input : List ℕ) → IsSpent positions setting.program
    → ((k : ℕ) → FitsAt (state (counted_machine weight setting) k (counted_first_state setting input)).machine.control)
    → (n : ℕ) (code : Counted) (environment : Environment) (joins : List CountedJoin) (x : ℕ)
    → (state (counted_machine weight setting) n (counted_first_state setting input)).machine.control ≡ running code environment joins
    → is_among (uses code) x ≡ true → IsCounted (state (counted_machine weight setting) n (counted_first_state setting input)).machine.heap (value_of environment x)
uses_counted positions setting weight input spent fits n code environment joins x control used =
    use_counted positions setting spent (state (counted_machine weight setting) n (counted_first_state setting input)).machine kept.0 kept.1.0 environment joins code
    (subst (IsKeptAt positions setting.program.functions (state (counted_machine weight setting) n (counted_first_state setting input)).machine.heap kept.0) control kept.1.1) x used
  where
    kept : IsKept positions setting.program.functions (state (counted_machine weight setting) n (counted_first_state setting input)).machine
    kept = keeps_sound positions setting weight input spent fits n

-- a case chooses the row that the store of all cells shows
pub chooses_alike : (positions : PositionTable) (setting : CountedSetting) (weight : CountedState → ℕ) (input : List ℕ) → IsSpent positions setting.program
    → FitsAlways weight setting input
    → (n x : ℕ) (decisions : List NodeTree) (arms : CountedArms) (environment : Environment) (joins : List CountedJoin)
    → (counted_after weight setting input n).control ≡ running (case x decisions arms) environment joins
    → chosen (cell_at (counted_after weight setting input n).heap) (value_of environment x) decisions ≡ chosen (slice_get (forwards (counted_after weight setting input n).heap)) (value_of environment x) decisions
chooses_alike positions setting weight input spent fits n x decisions arms environment joins control =
    chosen_same (refs (values_of environment at.owned ++ kept.0)) (counted_after weight setting input n).heap at.sound.counts (value_of environment x)
    (uses_counted positions setting weight input spent fits n (case x decisions arms) environment joins x control (among_first x [])) decisions
  where
    kept : IsKept positions setting.program.functions (counted_after weight setting input n)
    kept = keeps_sound positions setting weight input spent fits n

    at : IsRunning positions setting.program.functions (counted_after weight setting input n).heap kept.0 (case x decisions arms) environment joins
    at = subst (IsKeptAt positions setting.program.functions (counted_after weight setting input n).heap kept.0) control kept.1.1
