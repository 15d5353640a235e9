-- Counts of the calls that failed: u64s that never fall, and stay at their last value.
use Rattle.std.specs.Prelude.{◌≡◌, ℕ, ◌+◌, ◌-◌, ◌^◌, ◌<◌, ◌≤◌, min, Bool, true, false}

-- a count with one more; it stays at the last value of a u64
abbrev pub one_more : ℕ → ℕ
one_more count = min (count + 1) (2 ^ 64 - 1)

-- a count with one more where a call failed, and else as it is
abbrev pub count_after : Bool → ℕ → ℕ
count_after true count = one_more count
count_after false count = count

-- a count rose, or stands at the last value of a u64, where a rise cannot be told
abbrev pub Rose : ℕ → ℕ → Type 0
Rose before now = one_more before ≤ now

-- the count over one call or over several: it rose where one of them failed, and else it is as it was
abbrev pub Rises : Bool → ℕ → ℕ → Type 0
Rises true before now = Rose before now
Rises false before now = now ≡ before

-- the count over one call: it never falls, fits in a u64, and rises exactly where the call failed
pub record Counts (failed : Bool) (before now : ℕ) : Type 0 where
  pub later : before ≤ now
  pub fits : now < 2 ^ 64
  pub rises : Rises failed before now
