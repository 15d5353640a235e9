-- When two machines do the same, as far as it is told.
use Rattle.std.specs.Prelude.{◌≡◌, ℕ, ◌+◌, ◌≤◌, List, Option, Some}
use Rattle.kk_base.specs.Trace.{IsPrefix}
use Rattle.kk_base.specs.Machines.{Machine, trace, weight_of, ending_after}

-- What the first machine does in n steps, the second does within `within n`: the first's trace is a prefix of the
-- second's; and where the first has ended, so has the second, alike and with the same trace.
pub record IsFollowedBy {S T E W : Type 0} (first : Machine S E W) (second : Machine T E W) (within : ℕ → ℕ) (s : S) (t : T) : Type 0 where
  pub prefix : (n : ℕ) → IsPrefix (trace first n s) (trace second (within n) t)
  pub ending : (n : ℕ) (w : W) → ending_after first n s ≡ Some w → ending_after second (within n) t ≡ Some w
  pub whole : (n : ℕ) (w : W) → ending_after first n s ≡ Some w → trace second (within n) t ≡ trace first n s

-- the machine does these events, and has then ended so or goes on, in some steps that weigh at most `most`
pub record Does {T E W : Type 0} (machine : Machine T E W) (most : ℕ) (events : List E) (ending : Option W) (t : T) : Type 0 where
  pub steps : ℕ
  pub weighs : weight_of machine steps t ≤ most
  pub events_are : trace machine steps t ≡ events
  pub ending_is : ending_after machine steps t ≡ ending

-- Two machines agree. What the upper does in n steps the lower does in steps that weigh at most as much and the credit;
-- what the lower does in m steps the upper does within `up m`. So each trace of one is a prefix of one of the other, one
-- ends if and only if the other does, alike, and then with one trace.
pub record Agree {S T E W : Type 0} (upper : Machine S E W) (lower : Machine T E W) (credit : ℕ) (up : ℕ → ℕ) (s : S) (t : T) : Type 0 where
  pub downwards : (n : ℕ) → Does lower (weight_of upper n s + credit) (trace upper n s) (ending_after upper n s) t
  pub upwards : IsFollowedBy lower upper up t s
