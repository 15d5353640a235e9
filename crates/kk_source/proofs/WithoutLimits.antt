-- A run goes as far as the run without limits, and does the same.
use Rattle.std.proofs.Common.{◌≡◌, ℕ, ◌+◌, List, Some, sym, ap, ◌∙◌, subst, arith}
use Rattle.kk_base.specs.Trace.{IsPrefix}
use Rattle.kk_base.proofs.Agreements.{prefix_through}
use Rattle.kk_base.proofs.Machines.{trace_grows, ending_stays, trace_stays}
use Rattle.kk_source.specs.State.{Setting, ended}
use Rattle.kk_source.specs.SourceAfter.{source_machine, first_state, source_after, unlimited_after, HasRoom}
use Rattle.kk_source.proofs.Laws.{seen_ending, longer_trace, same_with_room}
use Rattle.kk_source.proofs.ResourceBounds.{has_room}

-- as many steps as are more than cells, depth and steps
abbrev enough : Setting → ℕ → ℕ
enough setting n = n + (setting.cells + setting.depth)

pub goes_on : (setting : Setting) (input : List ℕ) (n : ℕ)
    → (m : ℕ) × IsPrefix (source_after setting input n).trace (unlimited_after setting input m).trace
goes_on setting input n =
    let m = enough setting n in
    let longer = trace_grows (source_machine setting) n m (first_state setting input) (omega arith) in
    let roomier = longer_trace setting input (m + 2) (m + 2) (omega arith) (omega arith) m in (
      m,
      prefix_through (source_after setting input n).trace (source_after setting input m).trace (unlimited_after setting input m).trace
          longer roomier,
    )

pub ends_so : (setting : Setting) (input : List ℕ) (n : ℕ) → (source_after setting input n).ending ≡ Some ended
    → (m : ℕ) × (unlimited_after setting input m ≡ source_after setting input n)
ends_so setting input n ends =
    let m = enough setting n in
    let later = ending_stays (source_machine setting) n m (first_state setting input) ended ends (omega arith) in
    let same = trace_stays (source_machine setting) n m (first_state setting input) ended ends (omega arith) in
    let room : HasRoom (source_after setting input m).ending = subst HasRoom (sym later) tt in (
      m,
      same_with_room setting input (m + 2) (m + 2) (omega arith) (omega arith) m room
          ∙ (ap (λ events. record { trace = events; ending = (source_after setting input m).ending }) same
          ∙ ap (λ how. record { trace = (source_after setting input n).trace; ending = how }) (later ∙ sym ends)),
    )

pub never_full : (setting : Setting) (input : List ℕ) (n : ℕ) → HasRoom (unlimited_after setting input n).ending
never_full setting input n =
    let wide : Setting = record setting { cells = n + 2; depth = n + 2 } in
    subst HasRoom (sym (seen_ending wide input n)) (has_room wide input n (omega arith) (omega arith))
