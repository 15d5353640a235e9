-- Sinks in memory: what they hold, and what a call of `put` takes.
use Rattle.std.specs.Prelude.{◌≡◌, ℕ, ◌+◌, ◌-◌, ◌^◌, ◌<◌, ◌≤◌, min, List, length, Some, None, Bool, true, false}
use Rattle.kk_base.specs.Sink.{SinkState}
use Rattle.kk_base.specs.declared.outside.Put.{Put}
use Rattle.kk_base.specs.declared.outside.Put.TheVariants.{All, Failed}
use Rattle.kk_memio.specs.Plan.{Plan}

-- a sink with planned failures: the bytes that it has taken, how many it has room for in all, and the plan
pub record PlannedSink : Type 0 where
  pub held : List ℕ
  pub room : ℕ
  pub plan : Plan

-- what a sink tells that fails as planned
abbrev pub planned_sink_state : PlannedSink → SinkState
planned_sink_state sink = record { held = Some sink.held; faults = sink.plan.faults }

-- what a sink tells that keeps the number of its bytes alone, and never fails
abbrev pub tally_state : ℕ → SinkState
tally_state tally = record { held = None; faults = 0 }

-- what is taken of a piece: nothing where a failure is planned; all where it fits; else as much as fills the room
abbrev pub TakesAsPlanned : Bool → Put → List ℕ → List ℕ → ℕ → Type 0
TakesAsPlanned planned All piece held room = (planned ≡ false) × (length held + length piece ≤ room)
TakesAsPlanned true (Failed n) piece held room = n ≡ 0
TakesAsPlanned false (Failed n) piece held room = (room < length held + length piece) × (length held + n ≡ room)

-- a number of bytes after a piece; it stays at the last value of a u64
abbrev pub tally_after : ℕ → List ℕ → ℕ
tally_after tally piece = min (tally + length piece) (2 ^ 64 - 1)
