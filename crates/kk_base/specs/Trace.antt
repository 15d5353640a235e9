-- What a run has done on the outside: events in their order, of the source's machine and of an image alike.
use Rattle.std.specs.Prelude.{◌≡◌, ℕ, ◌<◌, List, [], ◌∷◌, ◌++◌, All, Bool, true, false}

-- an event: a piece put on the output, which is not empty; or a byte taken from the input; or the input's end met
pub data Event : Type 0 where
  output : (piece : List ℕ) → Event
  input : (byte : ℕ) → Event
  input_end : Event

-- the events of a run, the first one first
abbrev pub Trace : Type 0
Trace = List Event

-- all that was put on the output, joined
abbrev pub output_of : List Event → List ℕ
output_of [] = []
output_of (output piece ∷ later) = piece ++ output_of later
output_of (input byte ∷ later) = output_of later
output_of (input_end ∷ later) = output_of later

-- the bytes that were taken from the input
abbrev pub input_of : List Event → List ℕ
input_of [] = []
input_of (output piece ∷ later) = input_of later
input_of (input byte ∷ later) = byte ∷ input_of later
input_of (input_end ∷ later) = input_of later

-- what was taken from the input are bytes
abbrev pub TakesBytes : List Event → Type 0
TakesBytes events = All (λ byte. byte < 256) (input_of events)

-- the events take a list of bytes from what was left of it before to what is left after: each byte is its next one, and
-- the end is met only where nothing is left
abbrev pub TakesFrom : List Event → List ℕ → List ℕ → Type 0
TakesFrom [] before after = before ≡ after
TakesFrom (output piece ∷ later) before after = TakesFrom later before after
TakesFrom (input byte ∷ later) [] after = ⊥
TakesFrom (input byte ∷ later) (next ∷ rest) after = (byte ≡ next) × TakesFrom later rest after
TakesFrom (input_end ∷ later) [] after = TakesFrom later [] after
TakesFrom (input_end ∷ later) (next ∷ rest) after = ⊥

-- behind the end of the input no byte is taken: the end was met before the events or not, and is met after them where it was met at all
abbrev pub EndsOnce : List Event → Bool → Bool → Type 0
EndsOnce [] before after = before ≡ true → after ≡ true
EndsOnce (output piece ∷ later) before after = EndsOnce later before after
EndsOnce (input byte ∷ later) before after = (before ≡ false) × EndsOnce later false after
EndsOnce (input_end ∷ later) before after = EndsOnce later true after

-- a trace, of these events or of any others, is the beginning of another
abbrev pub IsPrefix : {E : Type 0} → List E → List E → Type 0
IsPrefix {E} before whole = (later : List E) × (before ++ later ≡ whole)
