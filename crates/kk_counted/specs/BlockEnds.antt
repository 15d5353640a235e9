-- How code ends: each case has an arm, and a block inside ends with values alone.
use Rattle.std.specs.Prelude.{◌≡◌, ℕ, Bool, true, false, List, Some, slice_get}
use Rattle.kk_counted.specs.CountedCodes.{Counted, give, tail_call, case, compute, inside, read, open_cell, if_unique, dup, drop, CountedArms, no_arm, arm, CountedFunction}
pub use Rattle.kk_counted.specs.CountBounds.{HasAnArm}

-- the ways of a code, which is a block inside or a function's body, end so
abbrev mutual
  pub EndsWell : (inner : Bool) → Counted → Type 0
  EndsWell inner (give x) = Unit {0}
  EndsWell inner (tail_call f arguments) = inner ≡ false
  EndsWell inner (case x decisions arms) = HasAnArm arms × ArmsEndWell inner arms
  EndsWell inner (compute x form arguments rest) = EndsWell inner rest
  EndsWell inner (inside x block rest) = EndsWell true block × EndsWell inner rest
  EndsWell inner (read x c fields rest) = EndsWell inner rest
  EndsWell inner (open_cell x c fields used rest) = EndsWell inner rest
  EndsWell inner (if_unique x c fields used rest) = EndsWell inner rest
  EndsWell inner (dup x rest) = EndsWell inner rest
  EndsWell inner (drop x rest) = EndsWell inner rest

  pub ArmsEndWell : (inner : Bool) → CountedArms → Type 0
  ArmsEndWell inner no_arm = Unit {0}
  ArmsEndWell inner (arm body rest) = EndsWell inner body × ArmsEndWell inner rest

-- the bodies of all functions end so
abbrev pub AllEndWell : List CountedFunction → Type 0
AllEndWell functions =
    (f : ℕ) (function : CountedFunction) → slice_get functions f ≡ Some function → EndsWell false function.body
