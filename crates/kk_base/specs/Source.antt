-- A source: what a call of `next` gives, out of what was left.
use Rattle.std.specs.Prelude.{◌≡◌, ℕ, List, [], ◌∷◌, Option, Some, Bool, true, false}
use Rattle.kk_base.specs.declared.outside.Next.{Next}
use Rattle.kk_base.specs.declared.outside.Next.TheVariants.{Byte, End, Failed}

-- what a source tells: what is left of it, where it tells its content; whether its end was met; and its count of faults
pub record SourceState : Type 0 where
  pub left : Option (List ℕ)
  pub ended : Bool
  pub faults : ℕ

-- the bytes that an answer took
abbrev pub given : Next → List ℕ
given (Byte b) = b ∷ []
given End = []
given Failed = []

abbrev pub next_failed : Next → Bool
next_failed (Byte b) = false
next_failed End = false
next_failed Failed = true

-- the end comes only where nothing is left
abbrev pub EndsAt : Next → Option (List ℕ) → Type 0
EndsAt (Byte b) left = Unit {0}
EndsAt End left = (rest : List ℕ) → left ≡ Some rest → rest ≡ []
EndsAt Failed left = Unit {0}

-- whether an end was met stays told: behind it no byte comes
abbrev pub KeepsEnd : Next → Bool → Bool → Type 0
KeepsEnd (Byte b) ended ended' = ended ≡ false
KeepsEnd End ended ended' = ended' ≡ true
KeepsEnd Failed ended ended' = ended' ≡ ended
