-- Sources in memory: what they hold, and what a call of `next` gives.
use Rattle.std.specs.Prelude.{◌≡◌, ℕ, List, [], ◌∷◌, Some, Bool, true, false}
use Rattle.kk_base.specs.Source.{SourceState}
use Rattle.kk_base.specs.declared.outside.Next.{Next}
use Rattle.kk_base.specs.declared.outside.Next.TheVariants.{Byte, End, Failed}
use Rattle.kk_memio.specs.Plan.{Plan}

-- a source with planned failures: the bytes that are left, and the plan
pub record PlannedSource : Type 0 where
  pub left : List ℕ
  pub plan : Plan

-- nothing is left
abbrev pub is_used_up : List ℕ → Bool
is_used_up [] = true
is_used_up (byte ∷ rest) = false

-- what a source tells that never fails; its end was met, or may as well have been, where nothing is left
abbrev pub plain_source_state : List ℕ → SourceState
plain_source_state left = record { left = Some left; ended = is_used_up left; faults = 0 }

-- what a source tells that fails as planned
abbrev pub planned_source_state : PlannedSource → SourceState
planned_source_state source = record { left = Some source.left; ended = is_used_up source.left; faults = source.plan.faults }

-- what is given of the bytes that are left: a failure exactly where one is planned, which takes none; else the first
-- byte, and the end exactly where there is none
abbrev pub GivesAsPlanned : Bool → Next → List ℕ → List ℕ → Type 0
GivesAsPlanned planned (Byte b) old new = (planned ≡ false) × (old ≡ b ∷ new)
GivesAsPlanned planned End old new = (planned ≡ false) × (old ≡ []) × (new ≡ [])
GivesAsPlanned planned Failed old new = (planned ≡ true) × (new ≡ old)
