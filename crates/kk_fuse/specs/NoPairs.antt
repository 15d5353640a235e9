-- Code in which no dup cancels with a drop any more.
use Rattle.std.specs.Prelude.{◌≡◌, None}
use Rattle.kk_counted.specs.CountedCodes.{Counted, give, tail_call, case, compute, inside, read, open_cell, if_unique, dup, drop, CountedArms, no_arm, arm}
use Rattle.kk_fuse.specs.Fused.{without_drop}

-- no dup of the code cancels with a drop behind it, nor one of its blocks and arms
abbrev mutual
  pub HasNoPair : Counted → Type 0
  HasNoPair (give x) = Unit {0}
  HasNoPair (tail_call f arguments) = Unit {0}
  HasNoPair (case x decisions arms) = HaveNoPair arms
  HasNoPair (compute x form arguments rest) = HasNoPair rest
  HasNoPair (inside x block rest) = HasNoPair block × HasNoPair rest
  HasNoPair (read x c fields rest) = HasNoPair rest
  HasNoPair (open_cell x c fields used rest) = HasNoPair rest
  HasNoPair (if_unique x c fields used rest) = HasNoPair rest
  HasNoPair (dup x rest) = (without_drop x rest ≡ None) × HasNoPair rest
  HasNoPair (drop x rest) = HasNoPair rest

  pub HaveNoPair : CountedArms → Type 0
  HaveNoPair no_arm = Unit {0}
  HaveNoPair (arm body rest) = HasNoPair body × HaveNoPair rest
