-- A sink: what a call of `put` took of a piece.
use Rattle.std.specs.Prelude.{ℕ, ◌≤◌, List, length, take, Option, Bool, true, false}
use Rattle.kk_base.specs.declared.outside.Put.{Put}
use Rattle.kk_base.specs.declared.outside.Put.TheVariants.{All, Failed}

-- what a sink tells: what it has taken, where it tells its content; and its count of faults
pub record SinkState : Type 0 where
  pub held : Option (List ℕ)
  pub faults : ℕ

-- what was taken of a piece: all of it, or its first n bytes
abbrev pub taken : Put → List ℕ → List ℕ
taken All piece = piece
taken (Failed n) piece = take n piece

-- no more than the piece was taken
abbrev pub CutWithin : Put → List ℕ → Type 0
CutWithin All piece = Unit {0}
CutWithin (Failed n) piece = n ≤ length piece

abbrev pub put_failed : Put → Bool
put_failed All = false
put_failed (Failed n) = true
