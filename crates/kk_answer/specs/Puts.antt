-- A line that is put on a sink, whole or in part.
use Rattle.std.specs.Prelude.{◌≡◌, ℕ, ◌≤◌, List, ◌++◌, length, take, Bool, true, false, not, Option, option_map}
use Rattle.kk_base.specs.Faults.{Rises}
use Rattle.kk_base.specs.Sink.{SinkState}

-- the beginning of a line was put, where the content is told
pub record PutsPart (line : List ℕ) (old new : Option (List ℕ)) : Type 0 where
  pub count : ℕ
  pub within : count ≤ length line
  pub held : new ≡ option_map (λ before. before ++ take count line) old

-- the line was put whole, or else a part of it, where the content is told
abbrev pub PutsLine : Bool → List ℕ → Option (List ℕ) → Option (List ℕ) → Type 0
PutsLine true line old new = new ≡ option_map (λ before. before ++ line) old
PutsLine false line old new = PutsPart line old new

-- a line was put whole and no call failed, or a call failed
pub record Puts (whole : Bool) (line : List ℕ) (old new : SinkState) : Type 0 where
  pub content : PutsLine whole line old.held new.held
  pub faults : Rises (not whole) old.faults new.faults
