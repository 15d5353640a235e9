-- One, and no other.
use Rattle.std.specs.Prelude.{◌≡◌}

-- a value of which something holds, as of no other
pub record IsOnly {A : Type 0} (P : A → Type 0) (a : A) : Type 0 where
  pub holds : P a
  pub only : (other : A) → P other → other ≡ a

-- something holds of exactly one value
abbrev pub ExactlyOne : {A : Type 0} → (A → Type 0) → Type 0
ExactlyOne {A} P = (a : A) × IsOnly P a
