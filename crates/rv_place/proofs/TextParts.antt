-- The parts of a text.
use Rattle.std.proofs.Common.{◌≡◌, ◌≤◌, ◌<◌, ℕ, zero, suc, ◌+◌, ◌*◌, ◌%◌, List, [], ◌∷◌, ◌++◌, length, Some, nat_lt, refl, sym, ap, ◌∙◌, subst, arith}
use Rattle.std.specs.List.{slice_get}
use Rattle.elf_image.specs.Program.{text_start}
use Rattle.rv_isa.specs.declared.register.Register.{Register}
use Rattle.rv_isa.specs.declared.immediate.Immediate.{Immediate}
use Rattle.rv_isa.specs.declared.immediate.UpperImmediate.{UpperImmediate}
use Rattle.rv_isa.specs.declared.instr.Instr.{Instr}
use Rattle.rv_isa.specs.declared.instr.Instr.TheVariants.{Lui, Addi}
use Rattle.rv_isa.specs.declared.placed.Native.{Native}
use Rattle.rv_isa.specs.declared.placed.Native.TheVariants.{Instruction, Address}
use Rattle.rv_isa.specs.declared.placed.Section.{Section}
use Rattle.rv_isa.specs.declared.placed.Section.TheVariants.{Data, Constants}
use Rattle.rv_isa.specs.Arithmetic.{sum_word}
use Rattle.rv_isa.specs.declared.placed.Placed.{Placed}
use Rattle.rv_isa.specs.PlacedCode.{PlacedLines, placed_functions, placed_natives}
use Rattle.rv_isa.specs.Sizes.{narrow_frame}
use Rattle.rv_isa.specs.Standing.{Has, code_of}
use Rattle.rv_isa.proofs.Standing.{Has-back, code_of-Has, code_of-get}
use Rattle.cell_runtime.specs.Operations.{address_in}
use Rattle.rv_place.specs.Instructions.{LoadsWord}
use Rattle.rv_isa.specs.FrameSizes.{frame_size}
use Rattle.rv_place.specs.Addresses.{words_of_function, words_of_functions, entry_words, jump_words, reach_of, entries_from}
use Rattle.rv_place.specs.declared.reach.Reach.{Reach}
use Rattle.rv_place.specs.declared.reach.Reach.TheVariants.{Near}
use Rattle.rv_place.specs.Texts.{jumps_of, text_words}
use Rattle.rv_place.proofs.NearJumps.{near_within, near_narrow}
use Rattle.rv_place.specs.Lines.{Map, FunctionsAt}
use Rattle.cell_runtime.specs.Lines.{AreWithin, words_of}
use Rattle.cell_runtime.specs.Texts.{greatest_reach}
use Rattle.rv_place.specs.declared.chart.Chart.{Chart}
use Rattle.rv_place.specs.Emitted.{Grew, Charts, IsInText, NativeGrew, FunctionsBy, addresses_from}

-- ---- what was added, instruction by instruction

one_is : (is : List Instr) (i : Instr) → length is ≡ 1 → slice_get is 0 ≡ Some i → is ≡ i ∷ []
one_is [] i size first = absurd (omega arith)
one_is (a ∷ []) i size first = cc
one_is (a ∷ b ∷ is) i size first = absurd (omega arith)

two_is : (is : List Instr) (i j : Instr) → length is ≡ 2 → slice_get is 0 ≡ Some i → slice_get is 1 ≡ Some j → is ≡ i ∷ j ∷ []
two_is [] i j size first second = absurd (omega arith)
two_is (a ∷ []) i j size first second = absurd (omega arith)
two_is (a ∷ b ∷ []) i j size first second = cc
two_is (a ∷ b ∷ c ∷ is) i j size first second = absurd (omega arith)

pub exactly_one : {i : Instr} {old new : List Instr} → Grew 1 (λ code at. code at ≡ Some i) old new → new ≡ old ++ i ∷ []
exactly_one {i} {old} grew =
    let is = grew.added in
    let first : slice_get is 0 ≡ Some i = sym (code_of-get 0 is 0) ∙ grew.spelled.stands (code_of 0 is) 0 (code_of-Has 0 is) in
    grew.whole ∙ ap (λ added. old ++ added) (one_is is i grew.spelled.size first)

-- a load of a word, with the parts of the word
record IsLoad (rd : Register) (word : ℕ) (old new : List Instr) : Type 0 where
  upper : UpperImmediate
  lower : Immediate
  sum : sum_word upper.word lower.word ≡ word
  whole : new ≡ old ++ Lui rd upper ∷ Addi rd rd lower ∷ []

exactly_load : {rd : Register} {word : ℕ} {old new : List Instr} → Grew 2 (λ code at. LoadsWord code at rd word) old new → IsLoad rd word old new
exactly_load {rd} {word} {old} grew =
    let is = grew.added in
    let loads = grew.spelled.stands (code_of 0 is) 0 (code_of-Has 0 is) in
    let first : slice_get is 0 ≡ Some (Lui rd loads.0) = sym (code_of-get 0 is 0) ∙ loads.3.0 in
    let second : slice_get is 1 ≡ Some (Addi rd rd loads.1) = sym (code_of-get 0 is 1) ∙ loads.3.1.0 in
    record {
      upper = loads.0;
      lower = loads.1;
      sum = loads.2;
      whole = grew.whole ∙ ap (λ added. old ++ added) (two_is is (Lui rd loads.0) (Addi rd rd loads.1) grew.spelled.size first second);
    }

-- ---- the lines of a runtime

module _ (memory : ℕ) {old new : List Instr} where
  pub native_instruction : {line : Native} {i : Instr} → line ≡ Instruction i → Grew 1 (λ code at. code at ≡ Some i) old new → NativeGrew memory line old new
  native_instruction {line} {i} is grew =
      subst (λ l. NativeGrew memory l old new) (sym is)
      record { added = i ∷ []; whole = exactly_one grew; size = refl; spells = λ lines rest more. (rest, refl, more) }

  address_by : (rd : Register) (section : Section) (offset : ℕ) → AreWithin greatest_reach (Address rd section offset ∷ []) → Grew 2 (λ code at. LoadsWord code at rd (memory + offset)) old new
      → NativeGrew memory (Address rd section offset) old new
  address_by rd Constants offset allowed grew = absurd allowed
  address_by rd Data offset allowed grew =
      let load = exactly_load grew in record {
        added = Lui rd load.upper ∷ Addi rd rd load.lower ∷ [];
        whole = load.whole;
        size = refl;
        spells = λ lines rest more. (load.upper, load.lower, rest, load.sum, refl, more);
      }

  pub native_address : {line : Native} {rd : Register} {section : Section} {offset : ℕ} → line ≡ Address rd section offset → AreWithin greatest_reach (line ∷ [])
      → Grew 2 (λ code at. LoadsWord code at rd (memory + offset)) old new → NativeGrew memory line old new
  native_address {line} {rd} {section} {offset} is allowed grew =
      subst (λ l. NativeGrew memory l old new) (sym is)
      (address_by rd section offset (subst (λ l. AreWithin greatest_reach (l ∷ [])) is allowed) grew)

-- ---- addresses

-- each function stands among all, with its entry before their end
pub record IsAmong (at end entry words : ℕ) : Type 0 where
  pub word : entry % 4 ≡ 0
  pub low : at ≤ entry
  pub high : entry + 4 * words ≤ end

pub entries_among : (jumps : Reach) (at : ℕ) (functions : List PlacedLines) (f entry : ℕ) → slice_get (entries_from jumps at functions) f ≡ Some entry → at % 4 ≡ 0
    → IsAmong at (at + 4 * words_of_functions jumps functions) entry (entry_words jumps)
entries_among jumps at [] f entry there word = cc
entries_among jumps at (function ∷ functions) zero entry there word = let here : at ≡ entry = cc in record { word = omega arith; low = omega arith; high = omega arith }
entries_among jumps at (function ∷ functions) (suc f) entry there word =
    let rest = entries_among jumps (at + 4 * words_of_function jumps function) functions f entry there (omega arith) in
    record { word = rest.word; low = omega (arith, rest.low); high = omega (arith, rest.high) }

-- a text whose jumps are near is short
pub short_text : (runtime program : Placed) → jumps_of runtime program ≡ Near → text_start + 4 * text_words runtime program < text_start + 4 * jump_words
short_text runtime program near =
    let words = words_of (placed_natives runtime) + words_of_functions Near (placed_functions program) in
    let few : words < jump_words =
    near_within jump_words words (near_narrow (nat_lt narrow_frame (frame_size (placed_functions program))) (reach_of jump_words words) near) in
    let same : words_of_functions (jumps_of runtime program) (placed_functions program) ≡ words_of_functions Near (placed_functions program) = ap (λ (j : Reach). words_of_functions j (placed_functions program)) near in
    omega (arith, few, same)

pub addresses_get : (at : ℕ) (texts : List (List ℕ)) (index address : ℕ) → address_in at texts index ≡ Some address → slice_get (addresses_from at texts) index ≡ Some address
addresses_get at [] index address there = cc
addresses_get at (text ∷ texts) zero address there = there
addresses_get at (text ∷ texts) (suc index) address there = addresses_get (at + length text) texts index address there

-- functions that were added behind a runtime stand in the code of the whole
pub functions_at : {words entry : ℕ} {own new : List Instr} {chart : Chart} (functions : List PlacedLines) (map : Map) → Charts chart map → entry ≡ text_start + 4 * length own
    → IsInText map entry (words_of_functions map.jumps functions) → Grew words (FunctionsBy chart entry functions) own new → FunctionsAt map (code_of text_start new) (entries_from map.jumps entry functions) functions
functions_at {own = own} {new = new} functions map charts is inside grew =
    let code = code_of text_start new in
    let whole : Has code text_start (own ++ grew.added) = subst (Has code text_start) grew.whole (code_of-Has text_start new) in
    grew.spelled.stands code (text_start + 4 * length own) (Has-back code text_start own grew.added whole) (sym is) map charts inside
