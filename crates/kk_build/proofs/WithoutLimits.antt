-- What agrees with a program does what the program means without limits.
use Rattle.std.proofs.Common.{◌≡◌, ℕ, List, Some, sym, ap, ◌∙◌, subst, option_map}
use Rattle.std.specs.List.{flat_map}
use Rattle.kk_base.specs.Trace.{IsPrefix}
use Rattle.kk_base.specs.Machines.{trace}
use Rattle.kk_base.proofs.Agreements.{prefix_through}
use Rattle.kk_base.proofs.Machines.{trace-mapped}
use Rattle.kk_source.specs.Notes.{events_of}
use Rattle.kk_source.specs.SourceAfter.{store_machine, first_state, After, source_after, unlimited_after}
use Rattle.kk_source.specs.State.{Setting, End, ended}
use Rattle.kk_build.specs.Agreement.{AgreesOn}
use Rattle.kk_build.specs.ImageAfter.{file_after}
use Rattle.kk_build.specs.WithoutLimits.{FollowsWithoutLimits}

-- the trace that the world sees
seen : (setting : Setting) (input : List ℕ) (n : ℕ)
    → (source_after setting input n).trace ≡ flat_map events_of (trace (store_machine setting) n (first_state setting input))
seen setting input n = trace-mapped events_of (λ end. end) (store_machine setting) n (first_state setting input)

pub follows : (file : List ℕ) (setting : Setting) (input : List ℕ)
    → ((n : ℕ) → (m : ℕ) × IsPrefix (source_after setting input n).trace (unlimited_after setting input m).trace)
    → ((n : ℕ) → (source_after setting input n).ending ≡ Some ended
    → (m : ℕ) × (unlimited_after setting input m ≡ source_after setting input n))
    → AgreesOn file setting input → FollowsWithoutLimits file setting input
follows file setting input goes_on ends agrees = record {
  prefix = λ m.
      let behind = agrees.image_is_behind m in
      let further = goes_on behind.0 in (
        further.0,
        prefix_through (file_after file input m).processor.trace (source_after setting input behind.0).trace
            (unlimited_after setting input further.0).trace
            (subst (IsPrefix (file_after file input m).processor.trace) (sym (seen setting input behind.0)) behind.1) further.1,
      );
  whole = λ m exits.
      let found = (agrees.end_alike ended).1 (m, exits) in
      let last : (source_after setting input found.0).ending ≡ Some ended = ap (option_map (λ (e : End). e)) found.1 in
      let same = ends found.0 last in (
        same.0,
        ap (λ (after : After). after.ending) same.1 ∙ last,
        ap (λ (after : After). after.trace) same.1
            ∙ (seen setting input found.0 ∙ agrees.same_trace ended found.0 m found.1 exits),
      );
}
