-- Fused code has as many openings on a path as the code that it is made of, and they go by the count of the cell where those do.
use Rattle.std.proofs.Common.{◌≡◌, ℕ, List, map, Some, refl, subst}
use Rattle.kk_counted.specs.CountedCodes.{Counted, give, tail_call, case, compute, inside, read, open_cell, if_unique, dup, drop}
use Rattle.kk_counted.specs.CountedCodes.{CountedArms, no_arm, arm, CountedFunction, CountedProgram}
use Rattle.kk_counted.specs.Lowerable.{OpensByCount, OpenByCount, AllOpenByCount}
use Rattle.kk_counted.specs.TokenCosts.{openings, OpenAtMost}
use Rattle.kk_dropspec.proofs.ChangedFunctions.{found_before}
use Rattle.kk_dropspec.proofs.Openings.{changed_opens}
use Rattle.kk_fuse.specs.Fused.{without_drop, fuse, fuse_arms, fused_function, fused_program}
use Rattle.kk_fuse.proofs.DropRemoval.{by_without, by_fused, Without, fuse_changes}

-- the code without a drop has as many openings
pub less_openings : (x : ℕ) (code less : Counted) → without_drop x code ≡ Some less → openings less ≡ openings code
less_openings x =
    by_without x (λ code less. openings less ≡ openings code) (λ rest. refl) (λ y rest less apart later. later)
    (λ y rest less apart later. later) (λ y c fields rest less apart named later. later)
    (λ y form arguments rest less apart named plain later. later)

-- a fused program has no more openings
pub fused_opens : (most : ℕ) (program : CountedProgram) → OpenAtMost most program → OpenAtMost most (fused_program program)
fused_opens = changed_opens Without less_openings fuse fuse_changes

-- the code without a drop opens by count
less_by_count : (x : ℕ) (code less : Counted) → without_drop x code ≡ Some less → OpensByCount code → OpensByCount less
less_by_count x =
    by_without x (λ code less. OpensByCount code → OpensByCount less) (λ rest by. by) (λ y rest less apart later by. later by)
    (λ y rest less apart later by. later by) (λ y c fields rest less apart named later by. later by)
    (λ y form arguments rest less apart named plain later by. later by)

mutual
  by_count : (code : Counted) → OpensByCount code → OpensByCount (fuse code)
  by_count (give x) by = tt
  by_count (tail_call f arguments) by = tt
  by_count (case x decisions arms) by = arms_by_count arms by
  by_count (compute x form arguments rest) by = by_count rest by
  by_count (inside x block rest) by = (by_count block by.0, by_count rest by.1)
  by_count (read x c fields rest) by = by_count rest by
  by_count (open_cell x c fields used rest) by = by
  by_count (if_unique x c fields used rest) by = by_count rest by
  by_count (dup x rest) by =
      let later = by_count rest by in
      by_fused OpensByCount x (fuse rest) (λ none. later) (λ less is. less_by_count x (fuse rest) less is later)
  by_count (drop x rest) by = by_count rest by

  arms_by_count : (arms : CountedArms) → OpenByCount arms → OpenByCount (fuse_arms arms)
  arms_by_count no_arm by = tt
  arms_by_count (arm body rest) by = (by_count body by.0, arms_by_count rest by.1)

-- fused functions open by count
pub all_by_count : (functions : List CountedFunction) → AllOpenByCount functions → AllOpenByCount (map fused_function functions)
all_by_count functions by f function is =
    let before = found_before fuse functions f function is in
    subst (λ (one : CountedFunction). OpensByCount one.body) before.1.1 (by_count before.0.body (by f before.0 before.1.0))
