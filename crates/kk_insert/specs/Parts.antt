-- Arms with their dups and drops, and what each owns at its start.
use Rattle.std.specs.Prelude.{ℕ, List, [], ◌∷◌, map}
use Rattle.kk_syntax.specs.PositionsOf.{PositionTable}
use Rattle.kk_core.specs.Codes.{ArmCode}
use Rattle.kk_counted.specs.CountedCodes.{Counted, CountedArms}
use Rattle.kk_counted.specs.CountedForms.{block_code, arms_of}
use Rattle.kk_insert.specs.declared.blocks.Part.{Part}
use Rattle.kk_insert.specs.Insertion.{before, dropping, own, insert}

-- a code with its dups and drops, and what it owns at its start
pub record PartCode : Type 0 where
  pub owned : List ℕ
  pub code : Counted

abbrev pub part_of : Part → PartCode
part_of part = record { owned = part.owned.items; code = block_code part.block }

-- an arm so, where `left` is owned at its end
abbrev pub part_in : PositionTable → List ℕ → List ℕ → ArmCode → PartCode
part_in positions lent left of =
    record { owned = own positions lent left of.body; code = insert positions lent left of.body }

-- what arms own together, and what is left
abbrev pub own_each : List ℕ → List PartCode → List ℕ
own_each left [] = left
own_each left (part ∷ parts) = before part.owned (own_each left parts)

-- an arm of a case before which all of that is owned, and the arms
abbrev pub arm_in : List ℕ → PartCode → Counted
arm_in all part = dropping all part.owned part.code

abbrev pub insert_each : List ℕ → List PartCode → CountedArms
insert_each all parts = arms_of (map (arm_in all) parts)
