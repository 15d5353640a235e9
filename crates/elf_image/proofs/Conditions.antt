-- What the tests of a file's headers and segments say of the conditions on it.
use Rattle.std.proofs.Common.{◌≡◌, ◌≢◌, ℕ, ◌+◌, ◌-◌, ◌*◌, ◌%◌, ◌<◌, ◌≤◌, Bool, true, false, cond, ◌&&◌, List, [], ◌∷◌, length, take, drop, map, filter, Some, nat_eq, nat_le, nat_lt, refl, sym, ap, subst, ◌∙◌, arith}
use Rattle.std.specs.List.{list_any, list_all}
use Rattle.std.proofs.lemmas.Bool.{eq-eqb, ne_eqb, le-leb, lt-leb, leb-true}
use Rattle.std.proofs.lemmas.List.{length-drop, length-take, take_all}
use Rattle.std.proofs.lemmas.List.Folds.{list_all-map}
use Rattle.elf_image.specs.declared.bad_image.BadImage.TheVariants.{BadHeaders, PartOutside, PartsOverlap, TooLarge, BadEntry}
use Rattle.elf_image.specs.declared.header.FileHeader.{FileHeader}
use Rattle.elf_image.specs.declared.header.ProgramHeader.{ProgramHeader}
use Rattle.elf_image.specs.declared.part.Part.{Part}
use Rattle.elf_image.specs.Fields.{headers_of, is_load, loads_of, entry_of, table_offset_of, header_size_of, header_count_of}
use Rattle.elf_image.specs.Parts.{end_of, greatest_end, share_address, are_apart, are_in_reach, are_filled, is_executable_at, is_entry}
use Rattle.elf_image.specs.Loaded.{part_of, parts_of, is_inside, has_headers, has_segments, greatest_file, reason_of, IsLoaded}
use Rattle.elf_image.specs.Reading.{extent_of, IsFileHeader, HasLoads, HasSegments}
use Rattle.elf_image.proofs.SegmentLists.{list_any-map}

-- ---- the program headers

pub loads_are : (file : List ℕ) (header : FileHeader) (loads : List ProgramHeader) (count : ℕ) → IsFileHeader header file → count ≡ header.header_count
    → loads ≡ filter is_load (headers_of count (take (length file - header.table_offset) (drop header.table_offset file))) → loads ≡ loads_of file
loads_are file header loads count says counted is =
    let t : ℕ = header.table_offset in
    let whole : take (length file - t) (drop t file) ≡ drop t file = take_all (length file - t) (drop t file) (omega (arith, length-drop t file)) in
    is
    ∙ ap (λ (bs : List ℕ). filter is_load (headers_of count bs)) whole
    ∙ ap (λ (k : ℕ). filter is_load (headers_of count (drop k file))) says.table_offset_is
    ∙ ap (λ (n : ℕ). filter is_load (headers_of n (drop (table_offset_of file) file))) (counted ∙ says.header_count_is)

-- the table lies in the file, so that all hangs on the sizes of the segments
pub headers_tell : (file : List ℕ) (header : FileHeader) (loads : List ProgramHeader) (count size : ℕ) (filled : Bool) → IsFileHeader header file → count ≡ header.header_count
    → header.header_size ≡ 32 → 1 ≤ count → count ≤ 64 → size ≡ 32 → header.table_offset + size * count ≤ length file → loads ≡ loads_of file
    → filled ≡ list_all (λ h. nat_le h.filesz h.memsz) loads → has_headers file ≡ filled
headers_tell file header loads count size filled says counted wide some few unit inside are told =
    let n : header_count_of file ≡ count = sym says.header_count_is ∙ sym counted in
    let t : table_offset_of file ≡ header.table_offset = sym says.table_offset_is in
    let a : nat_eq (header_size_of file) 32 ≡ true = eq-eqb _ _ (sym says.header_size_is ∙ wide) in
    let b : nat_le 1 (header_count_of file) ≡ true = le-leb _ _ (subst (λ (k : ℕ). 1 ≤ k) (sym n) some) in
    let d : nat_le (header_count_of file) 64 ≡ true = le-leb _ _ (subst (λ (k : ℕ). k ≤ 64) (sym n) few) in
    let within : header.table_offset + 32 * count ≤ length file = subst (λ (k : ℕ). header.table_offset + k * count ≤ length file) unit inside in
    let e : nat_le (table_offset_of file + 32 * header_count_of file) (length file) ≡ true =
    le-leb _ _ (subst (λ (k : ℕ). table_offset_of file + 32 * k ≤ length file) (sym n) (subst (λ (k : ℕ). k + 32 * count ≤ length file) (sym t) within)) in
    rw (a, b, d, e) (ap (λ (hs : List ProgramHeader). list_all (λ h. nat_le h.filesz h.memsz) hs) (sym are) ∙ sym told)

pub fails_headers : (file : List ℕ) (header : FileHeader) → IsFileHeader header file → has_headers file ≡ false → reason_of file ≡ Some BadHeaders
unfolding reason_of
fails_headers file header says fails = rw (says.long, says.elf, says.rv32, says.executable, fails) refl

-- ---- the segments

pub inside_tells : (file : List ℕ) (loads seen : List ProgramHeader) (inside : Bool) → HasLoads file loads → seen ≡ loads → inside ≡ list_all (λ h. is_inside h (length file)) seen → has_segments file ≡ inside
inside_tells file loads seen inside has same told = ap (λ (hs : List ProgramHeader). list_all (λ h. is_inside h (length file)) hs) (sym (same ∙ has.loads_are)) ∙ sym told

pub fails_inside : (file : List ℕ) (header : FileHeader) (loads : List ProgramHeader) → IsFileHeader header file → HasLoads file loads → has_segments file ≡ false → reason_of file ≡ Some PartOutside
unfolding reason_of
fails_inside file header loads says has fails = rw (says.long, says.elf, says.rv32, says.executable, has.readable, fails) refl

pub both : (a b : Bool) → (a && b) ≡ true → (a ≡ true) × (b ≡ true)
both true true e = (refl, refl)
both true false e = absurd cc
both false b e = absurd cc

-- what passes all of a list passes those that are kept
list_all-filter : {X : Type 0} (p q : X → Bool) (xs : List X) → list_all p xs ≡ true → list_all p (filter q xs) ≡ true
list_all-filter p q [] all = refl
list_all-filter p q (x ∷ xs) all =
    let parts = both (p x) (list_all p xs) all in
    let others : list_all p (filter q xs) ≡ true = list_all-filter p q xs parts.1 in
    elim (q x) as (λ b. list_all p (cond b (x ∷ filter q xs) (filter q xs)) ≡ true) [
      | true ↦ rw parts.0 others
      | false ↦ others
    ]

pub segments_are : (file : List ℕ) (loads seen segments : List ProgramHeader) → HasLoads file loads → has_segments file ≡ true
    → seen ≡ loads → segments ≡ filter (λ h. nat_lt 0 h.memsz) seen → HasSegments file segments
unfolding parts_of
segments_are file loads seen segments has inside same are =
    let kept : segments ≡ filter (λ h. nat_lt 0 h.memsz) (loads_of file) = are ∙ ap (filter (λ h. nat_lt 0 h.memsz)) (same ∙ has.loads_are) in
    let filled : list_all (λ h. nat_le h.filesz h.memsz) (loads_of file) ≡ true = (both _ _ has.readable).1 in
    record {
      readable = has.readable;
      inside = inside;
      parts_are = ap (map (part_of file)) (sym kept);
      each_inside = subst (λ (hs : List ProgramHeader). list_all (λ h. is_inside h (length file)) hs ≡ true) (sym kept) (list_all-filter (λ h. is_inside h (length file)) (λ h. nat_lt 0 h.memsz) (loads_of file) inside);
      each_filled = subst (λ (hs : List ProgramHeader). list_all (λ h. nat_le h.filesz h.memsz) hs ≡ true) (sym kept) (list_all-filter (λ h. nat_le h.filesz h.memsz) (λ h. nat_lt 0 h.memsz) (loads_of file) filled);
    }

-- the bytes of a segment do not matter to whether it shares addresses
apart-parts : (file : List ℕ) (hs : List ProgramHeader) → are_apart (map (part_of file) hs) ≡ are_apart (map extent_of hs)
apart-parts file [] = refl
apart-parts file (h ∷ hs) =
    let front : list_any (share_address (part_of file h)) (map (part_of file) hs) ≡ list_any (share_address (extent_of h)) (map extent_of hs) =
    list_any-map (share_address (part_of file h)) (part_of file) hs ∙ sym (list_any-map (share_address (extent_of h)) extent_of hs) in
    rw (front, apart-parts file hs) refl

pub apart_tells : (file : List ℕ) (segments seen : List ProgramHeader) (apart : Bool) → HasSegments file segments → seen ≡ segments
    → apart ≡ are_apart (map extent_of seen) → are_apart (parts_of file) ≡ apart
apart_tells file segments seen apart has same told =
    ap are_apart has.parts_are ∙ apart-parts file segments ∙ ap (λ (hs : List ProgramHeader). are_apart (map extent_of hs)) (sym same) ∙ sym told

pub reach_tells : (file : List ℕ) (segments seen : List ProgramHeader) (reach : Bool) → HasSegments file segments → seen ≡ segments
    → reach ≡ list_all (λ h. nat_le (end_of (extent_of h)) greatest_end) seen → are_in_reach (parts_of file) ≡ reach
reach_tells file segments seen reach has same told =
    ap are_in_reach has.parts_are
    ∙ list_all-map (λ p. nat_le (end_of p) greatest_end) (part_of file) segments
    ∙ ap (λ (hs : List ProgramHeader). list_all (λ h. nat_le (end_of (extent_of h)) greatest_end) hs) (sym same)
    ∙ sym told

pub entry_tells : (file : List ℕ) (header : FileHeader) (segments seen : List ProgramHeader) (executable : Bool) → IsFileHeader header file → HasSegments file segments → seen ≡ segments
    → executable ≡ list_any (λ h. is_executable_at (extent_of h) header.entry) seen → is_entry (parts_of file) (entry_of file) ≡ (nat_eq (header.entry % 4) 0 && executable)
entry_tells file header segments seen executable says has same told =
    let at : ℕ = header.entry in
    let found : list_any (λ p. is_executable_at p at) (parts_of file) ≡ executable =
    ap (list_any (λ p. is_executable_at p at)) has.parts_are
    ∙ list_any-map (λ p. is_executable_at p at) (part_of file) segments
    ∙ ap (list_any (λ h. is_executable_at (extent_of h) at)) (sym same)
    ∙ sym told in
    subst (λ (n : ℕ). is_entry (parts_of file) n ≡ (nat_eq (at % 4) 0 && executable)) says.entry_is (ap (λ (b : Bool). nat_eq (at % 4) 0 && b) found)

-- ---- the conditions on the parts

pub fails_apart : (file : List ℕ) (header : FileHeader) (segments : List ProgramHeader) → IsFileHeader header file → HasSegments file segments
    → are_apart (parts_of file) ≡ false → reason_of file ≡ Some PartsOverlap
unfolding reason_of
fails_apart file header segments says has fails = rw (says.long, says.elf, says.rv32, says.executable, has.readable, has.inside, fails) refl

pub fails_reach : (file : List ℕ) (header : FileHeader) (segments : List ProgramHeader) → IsFileHeader header file → HasSegments file segments
    → are_apart (parts_of file) ≡ true → are_in_reach (parts_of file) ≡ false → reason_of file ≡ Some TooLarge
unfolding reason_of
fails_reach file header segments says has apart fails = rw (says.long, says.elf, says.rv32, says.executable, has.readable, has.inside, apart, fails) refl

pub fails_size : (file : List ℕ) (header : FileHeader) (segments : List ProgramHeader) → IsFileHeader header file → HasSegments file segments
    → are_apart (parts_of file) ≡ true → are_in_reach (parts_of file) ≡ true → greatest_file < length file → reason_of file ≡ Some TooLarge
unfolding reason_of
fails_size file header segments says has apart reach large =
    let fails : nat_le (length file) greatest_file ≡ false = lt-leb _ _ large in
    rw (says.long, says.elf, says.rv32, says.executable, has.readable, has.inside, apart, reach, fails) refl

pub fails_entry : (file : List ℕ) (header : FileHeader) (segments : List ProgramHeader) → IsFileHeader header file → HasSegments file segments
    → are_apart (parts_of file) ≡ true → are_in_reach (parts_of file) ≡ true → length file ≤ greatest_file → is_entry (parts_of file) (entry_of file) ≡ false → reason_of file ≡ Some BadEntry
unfolding reason_of
fails_entry file header segments says has apart reach fits fails =
    let small : nat_le (length file) greatest_file ≡ true = le-leb _ _ fits in
    rw (says.long, says.elf, says.rv32, says.executable, has.readable, has.inside, apart, reach, small, fails) refl

-- an entry that is no multiple of 4, and one that lies in no part to be executed
pub is_unaligned : (file : List ℕ) (header : FileHeader) → IsFileHeader header file → header.entry % 4 ≢ 0 → is_entry (parts_of file) (entry_of file) ≡ false
is_unaligned file header says odd =
    let no_multiple : nat_eq (header.entry % 4) 0 ≡ false = ne_eqb _ _ odd in
    subst (λ (n : ℕ). is_entry (parts_of file) n ≡ false) says.entry_is (rw no_multiple refl)

pub is_elsewhere : (file : List ℕ) (header : FileHeader) (executable : Bool) → is_entry (parts_of file) (entry_of file) ≡ (nat_eq (header.entry % 4) 0 && executable)
    → header.entry % 4 ≡ 0 → executable ≡ false → is_entry (parts_of file) (entry_of file) ≡ false
is_elsewhere file header executable told aligned fails =
    let multiple : nat_eq (header.entry % 4) 0 ≡ true = eq-eqb _ _ aligned in
    told ∙ rw (multiple, fails) refl

pub is_right : (file : List ℕ) (header : FileHeader) (executable : Bool) → is_entry (parts_of file) (entry_of file) ≡ (nat_eq (header.entry % 4) 0 && executable)
    → header.entry % 4 ≡ 0 → executable ≡ true → is_entry (parts_of file) (entry_of file) ≡ true
is_right file header executable told aligned holds =
    let multiple : nat_eq (header.entry % 4) 0 ≡ true = eq-eqb _ _ aligned in
    told ∙ rw (multiple, holds) refl

-- what the parts and the entry of a file are by the answers of the tests, where it passes them
pub record Passes (file : List ℕ) : Type 0 where
  pub apart : are_apart (parts_of file) ≡ true
  pub reach : are_in_reach (parts_of file) ≡ true
  pub begins : is_entry (parts_of file) (entry_of file) ≡ true

pub passes : (file : List ℕ) (header : FileHeader) (segments : List ProgramHeader) {first second third : List ProgramHeader} {apart reach executable : Bool} → IsFileHeader header file → HasSegments file segments
    → first ≡ segments → apart ≡ are_apart (map extent_of first) → apart ≡ true
    → second ≡ segments → reach ≡ list_all (λ h. nat_le (end_of (extent_of h)) greatest_end) second → reach ≡ true
    → third ≡ segments → executable ≡ list_any (λ h. is_executable_at (extent_of h) header.entry) third → header.entry % 4 ≡ 0 → executable ≡ true → Passes file
passes file header segments {first} {second} {third} {apart} {reach} {executable} says has first_is apart_told is_apart second_is reach_told in_reach third_is told aligned holds =
    record {
      apart = apart_tells file segments first apart has first_is apart_told ∙ is_apart;
      reach = reach_tells file segments second reach has second_is reach_told ∙ in_reach;
      begins = is_right file header executable (entry_tells file header segments third executable says has third_is told) aligned holds;
    }

-- a file that meets every condition
pub is_loaded : (file : List ℕ) (header : FileHeader) (segments seen : List ProgramHeader) (parts : List Part) → IsFileHeader header file → HasSegments file segments
    → Passes file → length file ≤ greatest_file → seen ≡ segments → parts ≡ map (part_of file) seen → IsLoaded file header.entry parts
unfolding reason_of
is_loaded file header segments seen parts says has passed fits same are =
    let small : nat_le (length file) greatest_file ≡ true = le-leb _ _ fits in
    record {
      sound = rw (says.long, says.elf, says.rv32, says.executable, has.readable, has.inside, passed.apart, passed.reach, small, passed.begins) refl;
      entry_is = says.entry_is;
      parts_are = are ∙ ap (map (part_of file)) same ∙ sym has.parts_are;
    }

-- the bytes of a segment are as many as the file has, or fewer
pub filled-parts : (file : List ℕ) (hs : List ProgramHeader) → list_all (λ h. nat_le h.filesz h.memsz) hs ≡ true → are_filled (map (part_of file) hs) ≡ true
filled-parts file [] all = refl
filled-parts file (h ∷ hs) all =
    let parts = both (nat_le h.filesz h.memsz) (list_all (λ h. nat_le h.filesz h.memsz) hs) all in
    let room : h.filesz ≤ h.memsz = leb-true _ _ parts.0 in
    let first : nat_le (length (take h.filesz (drop h.offset file))) h.memsz ≡ true = le-leb _ _ (omega (arith, length-take h.filesz (drop h.offset file))) in
    rw (first, filled-parts file hs parts.1) refl

-- what an image asks of the parts of such a file
pub record IsImage (entry : ℕ) (parts : List Part) : Type 0 where
  pub begins : is_entry parts entry ≡ true
  pub apart : are_apart parts ≡ true
  pub in_reach : are_in_reach parts ≡ true
  pub filled : are_filled parts ≡ true

pub is_image : (file : List ℕ) (header : FileHeader) (segments seen : List ProgramHeader) (parts : List Part) → IsFileHeader header file → HasSegments file segments
    → Passes file → seen ≡ segments → parts ≡ map (part_of file) seen → IsImage header.entry parts
is_image file header segments seen parts says has passed same are =
    let of_file : parts_of file ≡ parts = has.parts_are ∙ ap (map (part_of file)) (sym same) ∙ sym are in
    record {
      begins = subst (λ (ps : List Part). is_entry ps header.entry ≡ true) of_file (subst (λ (n : ℕ). is_entry (parts_of file) n ≡ true) (sym says.entry_is) passed.begins);
      apart = subst (λ (ps : List Part). are_apart ps ≡ true) of_file passed.apart;
      in_reach = subst (λ (ps : List Part). are_in_reach ps ≡ true) of_file passed.reach;
      filled = subst (λ (ps : List Part). are_filled ps ≡ true) (ap (map (part_of file)) (sym same) ∙ sym are) (filled-parts file segments has.each_filled);
    }
