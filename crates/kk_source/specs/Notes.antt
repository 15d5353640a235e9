-- What a step tells: what the world sees, and two numbers that it does not see.
use Rattle.std.specs.Prelude.{ℕ, List, [], ◌∷◌}
use Rattle.kk_base.specs.Trace.{Event}

-- seen: an event.
-- built: a construction with fields, its arguments computed, found so many places live.
-- called: a call that is no tail call, its arguments computed, found so many call frames.
pub data Note : Type 0 where
  seen : (event : Event) → Note
  built : (live : ℕ) → Note
  called : (frames : ℕ) → Note

-- what the world sees of a note
abbrev pub events_of : Note → List Event
events_of (seen event) = event ∷ []
events_of (built live) = []
events_of (called frames) = []
