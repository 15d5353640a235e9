-- What is read from an area is what the memory holds there, and what is put in one is what the memory then holds.
use Rattle.std.proofs.Common.{◌≡◌, ◌<◌, ℕ, ◌+◌, ◌-◌, List, map, length, get_or, set, take, drop, ◌++◌, slice_range, Bool, true, false, if◌then◌else◌, Some, inl, inr, refl, sym, ap, ◌∙◌}
use Rattle.std.proofs.lemmas.List.{get_or-map, map-set}
use Rattle.std.proofs.Math.ListN.{length-map}
use Rattle.std.proofs.Math.Seq.{map-set_same}
use Rattle.kk_base.specs.Memory.{covers, byte_loaded}
use Rattle.rv_isa.specs.Bytes.{little_endian, lowest_bytes, bytes_at, with_bytes, number_at, with_number}
use Rattle.std.specs.Int.{to_le_bytes, w32}
use Rattle.rv_isa.specs.Meaning.{IsWidth}
use Rattle.rv_isa.specs.Processor.{bare}
use Rattle.rv_sim.specs.declared.area.Access.{Access}
use Rattle.rv_sim.specs.declared.area.Area.{Area}
use Rattle.rv_sim.specs.Areas.{part_of_area, parts_of_areas, permits, allows, AreApart}
use Rattle.rv_isa.proofs.Cases.{and-right}
use Rattle.rv_sim.proofs.Parts.{bytes_at-this, byte_loaded-put_this, are_apart-same}

pub covered : (access : Access) (at count : ℕ) (area : Area) → allows access at count area ≡ true → covers (part_of_area area) at count ≡ true
covered access at count area allowed = and-right (permits access (part_of_area area)) (covers (part_of_area area) at count) allowed

pub part_at : (areas : List Area) (i : ℕ) (area : Area) → i < length areas → area ≡ get_or areas i area → get_or (parts_of_areas areas) i (part_of_area area) ≡ part_of_area area
part_at areas i area within is = get_or-map part_of_area areas i area (part_of_area area) within ∙ ap part_of_area (sym is)

pub within-parts : (areas : List Area) (i : ℕ) → i < length areas → i < length (parts_of_areas areas)
within-parts areas i within = rw length-map within

-- an area that covers a range has its bytes
pub bytes_at-area : (areas : List Area) (i : ℕ) (area : Area) (at count : ℕ) → AreApart (parts_of_areas areas) → i < length areas → area ≡ get_or areas i area → 0 < count
    → covers (part_of_area area) at count ≡ true → bytes_at (byte_loaded (parts_of_areas areas)) at count ≡ slice_range area.bytes.items (at - area.start) (at - area.start + count)
bytes_at-area areas i area at count apart within is some covers_it =
    bytes_at-this (parts_of_areas areas) i (part_of_area area) at count apart (within-parts areas i within) (part_at areas i area within is) refl some covers_it

-- the number in a range that an access is allowed to
pub number_at-area : (access : Access) (areas : List Area) (i : ℕ) (area : Area) (at count n : ℕ) (bytes : List ℕ) → AreApart (parts_of_areas areas) → i < length areas → area ≡ get_or areas i area → 0 < count
    → allows access at count area ≡ true → bytes ≡ slice_range area.bytes.items (at - area.start) (at - area.start + count) → n ≡ little_endian bytes
    → Some n ≡ Some (number_at (byte_loaded (parts_of_areas areas)) at count)
unfolding number_at
number_at-area access areas i area at count n bytes apart within is some allowed are spelled =
    ap Some (spelled ∙ ap little_endian (are ∙ sym (bytes_at-area areas i area at count apart within is some (covered access at count area allowed))))

pub where_true : {X : Type 0} (b : Bool) (x y z : X) → b ≡ true → x ≡ y → x ≡ (if b then y else z)
where_true true x y z is same = same
where_true false x y z is same = cc

-- an area in whose place another is put
pub parts_of_areas-set : (areas : List Area) (i : ℕ) (new : Area) → parts_of_areas (set areas i new) ≡ set (parts_of_areas areas) i (part_of_area new)
parts_of_areas-set areas i new = map-set part_of_area areas i new

module _ (areas : List Area) (i : ℕ) (old new : Area) (at : ℕ) (bytes : List ℕ) (apart : AreApart (parts_of_areas areas)) (within : i < length areas) (is : old ≡ get_or areas i old)
    (stays : bare (part_of_area new) ≡ bare (part_of_area old)) where
  pub bare-put : map bare (parts_of_areas (set areas i new)) ≡ map bare (parts_of_areas areas)
  bare-put = ap (map bare) (parts_of_areas-set areas i new) ∙ map-set_same bare (parts_of_areas areas) i (part_of_area new) (part_of_area old) (stays ∙ ap bare (sym (part_at areas i old within is)))

  pub are_apart-put : AreApart (parts_of_areas (set areas i new))
  are_apart-put = are_apart-same (parts_of_areas areas) (parts_of_areas (set areas i new)) bare-put apart

  pub byte_loaded-put_area : 0 < length bytes → covers (part_of_area old) at (length bytes) ≡ true
      → new.bytes.items ≡ take (at - old.start) old.bytes.items ++ (bytes ++ drop (at - old.start + length bytes) old.bytes.items)
      → byte_loaded (parts_of_areas (set areas i new)) ≡ with_bytes at bytes (byte_loaded (parts_of_areas areas))
  byte_loaded-put_area some covers_it put =
      ap byte_loaded (parts_of_areas-set areas i new)
      ∙ byte_loaded-put_this (parts_of_areas areas) i (part_of_area old) (part_of_area new) at bytes apart (within-parts areas i within) (part_at areas i old within is) refl some covers_it stays put

-- the first bytes of a word are those of a narrower number
lowest-one : (width word : ℕ) → width ≡ 1 → take width (to_le_bytes w32 word) ≡ lowest_bytes width word
lowest-one width word is = rw is refl

lowest-two : (width word : ℕ) → width ≡ 2 → take width (to_le_bytes w32 word) ≡ lowest_bytes width word
lowest-two width word is = rw is refl

lowest-four : (width word : ℕ) → width ≡ 4 → take width (to_le_bytes w32 word) ≡ lowest_bytes width word
lowest-four width word is = rw is refl

pub take-width : (width word : ℕ) → IsWidth width → take width (to_le_bytes w32 word) ≡ lowest_bytes width word
take-width width word (inl one) = lowest-one width word one
take-width width word (inr (inl two)) = lowest-two width word two
take-width width word (inr (inr four)) = lowest-four width word four

pub with_number-put : (memory new : ℕ → ℕ) (at width word : ℕ) (bytes : List ℕ) → new ≡ with_bytes at bytes memory → bytes ≡ take width (to_le_bytes w32 word) → IsWidth width
    → new ≡ with_number at width word memory
unfolding with_number
with_number-put memory new at width word bytes put are is =
    put ∙ ap (λ b. with_bytes at b memory) (are ∙ take-width width word is)
