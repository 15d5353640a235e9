-- The file of a program: what is written, piece by piece, and what is read of it again.
use Rattle.std.proofs.Common.{◌≡◌, ℕ, ◌+◌, ◌-◌, ◌^◌, ◌<◌, ◌≤◌, Bool, true, false, ◌&&◌, ◌||◌, List, [], ◌∷◌, ◌++◌, length, get_or, take, drop, map, filter, replicate, nat_eq, nat_le, nat_lt, refl, sym, ap, subst, ◌∙◌, arith, ◌*◌}
use Rattle.std.proofs.lemmas.List.{length-append, length-replicate, take_all, drop_at}
use Rattle.std.specs.List.{list_all}
use Rattle.std.proofs.lemmas.Bool.{le-leb, leb-true, lt-ltb}
use Rattle.byteorder.specs.Endian.{little_number, little_bytes}
use Rattle.byteorder.specs.Numbers.{little_from-bytes}
use Rattle.elf_image.specs.declared.header.FileHeader.{FileHeader}
use Rattle.elf_image.specs.declared.header.ProgramHeader.{ProgramHeader}
use Rattle.elf_image.specs.declared.part.Part.{Part}
use Rattle.elf_image.specs.Fields.{file_header_size, program_header_size, entry_of, table_offset_of, header_size_of, header_count_of, headers_of, is_load, loads_of}
use Rattle.elf_image.specs.Parts.{greatest_end, are_apart, are_in_reach, is_entry}
use Rattle.elf_image.specs.Loaded.{is_elf, is_rv32, is_executable, is_inside, has_segments, greatest_file, part_of, parts_of, IsLoaded}
use Rattle.elf_image.specs.Reading.{IsFileHeader, HasLoads, HasSegments}
use Rattle.elf_image.specs.Program.{text_start, memory_start, text_part, memory_part, program_parts, text_of, memory_size_of, IsProgramImage, zeros, file_header, segment_header, program_file, text_offset}
use Rattle.elf_image.proofs.Conditions.{both, headers_tell, inside_tells, segments_are, is_loaded}

zeros-is : (n : ℕ) → replicate n 0 ≡ zeros n
unfolding zeros
zeros-is n = refl

length-zeros : (n : ℕ) → length (zeros n) ≡ n
unfolding zeros
length-zeros n = length-replicate n 0

-- the headers of a program
headers : List ℕ → ℕ → List ℕ
headers text size = file_header text_start ++ segment_header (text_part text) ++ segment_header (memory_part text size)

-- the bytes of the file header and of two program headers
abbrev headers_size : ℕ
headers_size = file_header_size + 2 * program_header_size

length-headers : (text : List ℕ) (size : ℕ) → length (headers text size) ≡ headers_size
unfolding headers file_header segment_header
length-headers text size = refl

-- the pieces that are put one behind the other make the file
pub written : (entry : ℕ) (parts : List Part) (p q : Part) (start head first second padded all text : List ℕ) (len : ℕ) → IsProgramImage entry parts → p ≡ get_or parts 0 p → q ≡ get_or parts 1 q
    → start ≡ [] → head ≡ start ++ file_header entry → first ≡ head ++ segment_header p → second ≡ first ++ segment_header q → len ≡ length second
    → padded ≡ take text_offset second ++ replicate (text_offset - len) 0 → text ≡ p.bytes → all ≡ padded ++ text → all ≡ program_file (text_of parts) (memory_size_of parts)
unfolding headers program_file
written entry parts p q start head first second padded all text len is p-at q-at start-is head-is first-is second-is len-is padded-is text-is all-is =
    let t : List ℕ = text_of parts in
    let m : ℕ = memory_size_of parts in
    let p-is : p ≡ text_part t = p-at ∙ ap (λ (ps : List Part). get_or ps 0 p) is.parts_are in
    let q-is : q ≡ memory_part t m = q-at ∙ ap (λ (ps : List Part). get_or ps 1 q) is.parts_are in
    let head-whole : head ≡ file_header text_start = head-is ∙ ap (λ (l : List ℕ). l ++ file_header entry) start-is ∙ ap file_header is.entry_is in
    let first-whole : first ≡ file_header text_start ++ segment_header (text_part t) = first-is ∙ ap (λ (l : List ℕ). l ++ segment_header p) head-whole ∙ ap (λ (part : Part). file_header text_start ++ segment_header part) p-is in
    let whole : second ≡ headers t m = second-is ∙ ap (λ (l : List ℕ). l ++ segment_header q) first-whole ∙ ap (λ (part : Part). file_header text_start ++ segment_header (text_part t) ++ segment_header part) q-is in
    let size : len ≡ headers_size = len-is ∙ ap (length {A = ℕ}) whole ∙ length-headers t m in
    let front : take text_offset second ≡ headers t m = take_all text_offset second (omega (arith, len-is, size)) ∙ whole in
    let padding : replicate (text_offset - len) 0 ≡ zeros (text_offset - headers_size) = zeros-is (text_offset - len) ∙ ap (λ (n : ℕ). zeros (text_offset - n)) size in
    all-is
    ∙ ap (λ (l : List ℕ). l ++ text) (padded-is ∙ ap (λ (l : List ℕ). l ++ replicate (text_offset - len) 0) front ∙ ap (λ (l : List ℕ). headers t m ++ l) padding)
    ∙ ap (λ (l : List ℕ). headers t m ++ zeros (text_offset - headers_size) ++ l) (text-is ∙ ap (λ (part : Part). part.bytes) p-is)

-- ---- what is read of the file

word-again : (n : ℕ) → n < 2 ^ 32 → little_number 4 (little_bytes 4 n) ≡ n
word-again n lt = little_from-bytes 4 0 n [] ∙ omega arith

-- the two program headers
text_header : ℕ → ProgramHeader
text_header size = record { kind = 1; offset = text_offset; vaddr = text_start; filesz = size; memsz = size; flags = 5 }

memory_header : ℕ → ℕ → ProgramHeader
memory_header vaddr size = record { kind = 1; offset = text_offset; vaddr = vaddr; filesz = 0; memsz = size; flags = 6 }

-- what the file says, field by field
record Says (file text : List ℕ) (size : ℕ) : Type 0 where
  long : length file ≡ text_offset + length text
  elf : is_elf file ≡ true
  rv32 : is_rv32 file ≡ true
  executable : is_executable file ≡ true
  entry : entry_of file ≡ text_start
  table_offset : table_offset_of file ≡ file_header_size
  header_size : header_size_of file ≡ 32
  header_count : header_count_of file ≡ 2
  table : headers_of 2 (drop file_header_size file) ≡ text_header (length text) ∷ memory_header (memory_start (length text)) size ∷ []
  behind : drop text_offset file ≡ text

length-front : (text : List ℕ) (size : ℕ) → length (headers text size ++ zeros (text_offset - headers_size)) ≡ text_offset
length-front text size = omega (arith, length-append (headers text size) (zeros (text_offset - headers_size)), length-headers text size, length-zeros (text_offset - headers_size))

table-is : (text : List ℕ) (size : ℕ) → length text < 2 ^ 32 → memory_start (length text) < 2 ^ 32 → size < 2 ^ 32
    → headers_of 2 (drop file_header_size (program_file text size)) ≡ text_header (length text) ∷ memory_header (memory_start (length text)) size ∷ []
unfolding text_header memory_header file_header segment_header program_file
table-is text size text-lt start-lt size-lt =
    rw (word-again (length text) text-lt, word-again (memory_start (length text)) start-lt, word-again size size-lt) refl

says : (text : List ℕ) (size : ℕ) → length text < 2 ^ 32 → memory_start (length text) < 2 ^ 32 → size < 2 ^ 32 → Says (program_file text size) text size
unfolding headers file_header segment_header program_file
says text size text-lt start-lt size-lt =
    let parts : program_file text size ≡ (headers text size ++ zeros (text_offset - headers_size)) ++ text = refl in
    record {
      long = ap (length {A = ℕ}) parts ∙ omega (arith, length-append (headers text size ++ zeros (text_offset - headers_size)) text, length-front text size);
      elf = refl;
      rv32 = refl;
      executable = refl;
      entry = refl;
      table_offset = refl;
      header_size = refl;
      header_count = refl;
      table = table-is text size text-lt start-lt size-lt;
      behind = ap (λ (l : List ℕ). drop text_offset l) parts ∙ drop_at (headers text size ++ zeros (text_offset - headers_size)) text text_offset (length-front text size);
    }

and-false : (b : Bool) → (b && false) ≡ false
and-false true = refl
and-false false = refl

or-true : (b : Bool) → (b || true) ≡ true
or-true true = refl
or-true false = refl

-- a text at which a program begins has a byte
has-text : (text : List ℕ) (size : ℕ) → is_entry (program_parts text size) text_start ≡ true → 0 < length text
has-text [] size begins = let e : (nat_le (text_start + 1) (text_start + size) && false) ≡ false = and-false (nat_le (text_start + 1) (text_start + size)) in absurd cc
has-text (x ∷ xs) size begins = omega arith

has-reach : (text : List ℕ) (size : ℕ) → are_in_reach (program_parts text size) ≡ true → memory_start (length text) + size ≤ greatest_end
has-reach text size reach = leb-true _ _ (both _ _ (both _ _ reach).1).0

file_header_of : List ℕ → FileHeader
file_header_of file = record { entry = entry_of file; table_offset = table_offset_of file; header_size = header_size_of file; header_count = header_count_of file }

segments_of : List ℕ → ℕ → List ProgramHeader
segments_of text size = text_header (length text) ∷ memory_header (memory_start (length text)) size ∷ []

says-header : (file text : List ℕ) (size : ℕ) → Says file text size → IsFileHeader (file_header_of file) file
unfolding file_header_of
says-header file text size s = record {
  long = le-leb _ _ (omega (arith, s.long));
  elf = s.elf;
  rv32 = s.rv32;
  executable = s.executable;
  entry_is = refl;
  table_offset_is = refl;
  header_size_is = refl;
  header_count_is = refl;
}

says-loads : (file text : List ℕ) (size : ℕ) → Says file text size → loads_of file ≡ segments_of text size
unfolding segments_of text_header memory_header
says-loads file text size s =
    ap (λ (n : ℕ). filter is_load (headers_of n (drop (table_offset_of file) file))) s.header_count
    ∙ ap (λ (k : ℕ). filter is_load (headers_of 2 (drop k file))) s.table_offset
    ∙ ap (filter is_load) s.table

has-loads : (file text : List ℕ) (size : ℕ) → Says file text size → HasLoads file (segments_of text size)
unfolding file_header_of segments_of text_header memory_header
has-loads file text size s =
    let are = says-loads file text size s in
    let same : nat_le (length text) (length text) ≡ true = le-leb _ _ (omega arith) in
    let none : nat_le 0 size ≡ true = le-leb _ _ (omega arith) in
    let filled : true ≡ list_all (λ h. nat_le h.filesz h.memsz) (segments_of text size) = sym (rw (same, none) refl) in
    record {
      readable = headers_tell file (file_header_of file) (segments_of text size) (header_count_of file) 32 true (says-header file text size s) refl s.header_size (omega (arith, s.header_count)) (omega (arith, s.header_count)) refl (omega (arith, s.long, s.table_offset, s.header_count)) (sym are) filled;
      loads_are = sym are;
    }

has-inside : (file text : List ℕ) (size : ℕ) → Says file text size → has_segments file ≡ true
unfolding segments_of text_header memory_header
has-inside file text size s =
    let fits : nat_le (text_offset + length text) (length file) ≡ true = le-leb _ _ (omega (arith, s.long)) in
    let told : true ≡ list_all (λ h. is_inside h (length file)) (segments_of text size) = sym (rw (fits, or-true (nat_eq (length text) 0)) refl) in
    inside_tells file (segments_of text size) (segments_of text size) true (has-loads file text size s) refl told

has-segments : (file text : List ℕ) (size : ℕ) → Says file text size → 0 < length text → 0 < size → HasSegments file (segments_of text size)
unfolding segments_of text_header memory_header
has-segments file text size s some room =
    let first : nat_lt 0 (length text) ≡ true = lt-ltb _ _ some in
    let second : nat_lt 0 size ≡ true = lt-ltb _ _ room in
    let kept : segments_of text size ≡ filter (λ h. nat_lt 0 h.memsz) (segments_of text size) = sym (rw (first, second) refl) in
    segments_are file (segments_of text size) (segments_of text size) (segments_of text size) (has-loads file text size s) (has-inside file text size s) refl kept

has-parts : (file text : List ℕ) (size : ℕ) → Says file text size → program_parts text size ≡ map (part_of file) (segments_of text size)
unfolding segments_of text_header memory_header
has-parts file text size s =
    let bytes : take (length text) (drop text_offset file) ≡ text = ap (λ (l : List ℕ). take (length text) l) s.behind ∙ take_all (length text) text (omega arith) in
    sym (rw bytes refl)

loads : (file text : List ℕ) (size : ℕ) (parts : List Part) → Says file text size → HasSegments file (segments_of text size) → are_apart (parts_of file) ≡ true → are_in_reach (parts_of file) ≡ true
    → length file ≤ greatest_file → is_entry (parts_of file) (entry_of file) ≡ true → parts ≡ map (part_of file) (segments_of text size) → IsLoaded file (entry_of file) parts
unfolding file_header_of
loads file text size parts s has apart reach fits begins same =
    is_loaded file (file_header_of file) (segments_of text size) (segments_of text size) parts (says-header file text size s) has (record { apart = apart; reach = reach; begins = begins }) fits refl same

-- the file of a program loads the program
pub reads_again : (entry : ℕ) (parts : List Part) (file : List ℕ) → IsProgramImage entry parts → is_entry parts entry ≡ true → are_apart parts ≡ true → are_in_reach parts ≡ true
    → file ≡ program_file (text_of parts) (memory_size_of parts) → IsLoaded file entry parts
reads_again entry parts file is begins apart in_reach file-is =
    let text : List ℕ = text_of parts in
    let size : ℕ = memory_size_of parts in
    let some : 0 < length text = has-text text size (subst (λ (ps : List Part). is_entry ps text_start ≡ true) is.parts_are (subst (λ (n : ℕ). is_entry parts n ≡ true) is.entry_is begins)) in
    let reach : memory_start (length text) + size ≤ greatest_end = has-reach text size (subst (λ (ps : List Part). are_in_reach ps ≡ true) is.parts_are in_reach) in
    let fits = is.text_fits in
    let s : Says file text size = subst (λ (f : List ℕ). Says f text size) (sym file-is) (says text size (omega (arith, fits)) (omega (arith, reach)) (omega (arith, reach))) in
    let has : HasSegments file (segments_of text size) = has-segments file text size s some is.has_memory in
    let same : parts ≡ map (part_of file) (segments_of text size) = is.parts_are ∙ has-parts file text size s in
    let of_file : parts ≡ parts_of file = same ∙ sym has.parts_are in
    let at : entry ≡ entry_of file = is.entry_is ∙ sym s.entry in
    let loaded : IsLoaded file (entry_of file) parts = loads file text size parts s has (subst (λ (ps : List Part). are_apart ps ≡ true) of_file apart) (subst (λ (ps : List Part). are_in_reach ps ≡ true) of_file in_reach) (omega (arith, s.long, fits)) (subst (λ (ps : List Part). is_entry ps (entry_of file) ≡ true) of_file (subst (λ (n : ℕ). is_entry parts n ≡ true) at begins)) same in
    subst (λ (n : ℕ). IsLoaded file n parts) (sym at) loaded
