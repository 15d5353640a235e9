-- Which calls of a device in memory fail, and the counts of those that were made and that failed.
use Rattle.std.specs.Prelude.{ℕ, ◌==◌, List, Bool}
use Rattle.std.specs.List.{list_any}
use Rattle.kk_base.specs.Faults.{one_more, count_after}

-- the numbers, from 1, of the calls that are to fail; and how many calls were made and how many failed, as u64s
pub record Plan : Type 0 where
  pub fails : List ℕ
  pub calls : ℕ
  pub faults : ℕ

-- a plan before the first call
abbrev pub unused : List ℕ → Plan
unused fails = record { fails = fails; calls = 0; faults = 0 }

-- the next call is to fail: its number is in the plan
abbrev pub is_planned : Plan → Bool
is_planned plan = list_any (λ number. number == one_more plan.calls) plan.fails

-- the plan after a call: it counts as one, and as a fault where it failed
abbrev pub after_call : Bool → Plan → Plan
after_call failed plan = record { fails = plan.fails; calls = one_more plan.calls; faults = count_after failed plan.faults }
