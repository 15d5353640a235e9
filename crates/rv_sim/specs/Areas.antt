-- The parts of a machine's memory, with the bytes that they hold. Private functions alone cite these.
use Rattle.std.specs.Prelude.{◌≡◌, ℕ, ◌-◌, List, [], ◌∷◌, ◌++◌, length, replicate, map, Bool, true, false, ◌&&◌}
use Rattle.kk_base.specs.Memory.{Part, covers}
use Rattle.rv_isa.specs.Processor.{can_fetch, can_load, can_store, lies_in_part}
use Rattle.rv_isa.specs.Meaning.{IsWidth}
use Rattle.rv_isa.specs.declared.act.Act.{Act}
use Rattle.rv_isa.specs.declared.act.Act.TheVariants as act
use Rattle.rv_sim.specs.declared.area.Access.{Access}
use Rattle.rv_sim.specs.declared.area.Access.TheVariants.{Fetch, Load, Store, Inspect}
use Rattle.rv_sim.specs.declared.area.Area.{Area}

-- an area as a part: its bytes are all that it holds
abbrev pub part_of_area : Area → Part
part_of_area area = record {
  start = area.start;
  size = length area.bytes.items;
  readable = area.readable;
  writable = area.writable;
  executable = area.executable;
  bytes = area.bytes.items;
}

abbrev pub parts_of_areas : List Area → List Part
parts_of_areas areas = map part_of_area areas

-- a part with zeros behind the bytes that it is loaded with
abbrev pub filled : Part → Part
filled part = record part { bytes = part.bytes ++ replicate (part.size - length part.bytes) 0 }

-- what an access asks of a part
abbrev pub permits : Access → Part → Bool
permits Fetch part = part.executable
permits Load part = part.readable
permits Store part = part.writable
permits Inspect part = true

-- it may be made in an area, to the addresses from `at`, `count` of them
abbrev pub allows : Access → ℕ → ℕ → Area → Bool
allows access at count area = permits access (part_of_area area) && covers (part_of_area area) at count

-- it may be made to these addresses
abbrev pub can : Access → List Part → ℕ → ℕ → Bool
can Fetch parts at count = can_fetch parts at count
can Load parts at count = can_load parts at count
can Store parts at count = can_store parts at count
can Inspect parts at count = lies_in_part parts at count

-- no address lies in two parts
abbrev pub AreApart : List Part → Type 0
AreApart [] = Unit {0}
AreApart (part ∷ parts) =
    ((at : ℕ) → covers part at 1 ≡ true → lies_in_part parts at 1 ≡ false) × AreApart parts

-- an act moves as many bytes as loads and stores do
abbrev pub MovesWidth : Act → Type 0
MovesWidth (act.Load at width signed) = IsWidth width
MovesWidth (act.Store at width value) = IsWidth width
MovesWidth _ = Unit {0}
