-- Bytes that a memory holds from an address on: those of a text are read as its instructions.
use Rattle.std.proofs.Common.{◌≡◌, ◌<◌, ℕ, zero, suc, ◌+◌, ◌*◌, ◌^◌, ◌%◌, List, [], ◌∷◌, ◌++◌, length, slice_index, Some, refl, sym, ap, ◌∙◌, subst, arith, append_assoc, length-append}
use Rattle.std.proofs.Common.{All, get_or, Fits, w8}
use Rattle.std.proofs.Math.Nat.{div-one, mod-eq_of_lt}
use Rattle.std.specs.List.{slice_get}
use Rattle.std.proofs.lemmas.List.{append-nil, get_or_default}
use Rattle.std.proofs.lemmas.List.Elements.{All-append}
use Rattle.rv_isa.specs.declared.instr.Instr.{Instr}
use Rattle.rv_isa.specs.Read.{read}
use Rattle.rv_isa.specs.Bytes.{little_endian, lowest_bytes, bytes_at, number_at}
use Rattle.rv_isa.proofs.Bytes.{length-lowest_bytes, little_endian-lowest_from}
use Rattle.rv_place.specs.declared.words.Words.{Words}
use Rattle.rv_place.specs.Bytes.{AreWordsOf, IsTextOf}

-- a memory holds these bytes from an address on
abbrev pub HoldsBytes : (ℕ → ℕ) → ℕ → List ℕ → Type 0
HoldsBytes memory at [] = Unit {0}
HoldsBytes memory at (byte ∷ bytes) = (memory at ≡ byte) × HoldsBytes memory (suc at) bytes

module _ (memory : ℕ → ℕ) where
  pub held-by : (at : ℕ) (bytes : List ℕ) → ((k : ℕ) → k < length bytes → memory (at + k) ≡ slice_index bytes k) → HoldsBytes memory at bytes
  held-by at [] each = tt
  held-by at (byte ∷ bytes) each =
      let here : at + 0 ≡ at = omega arith in (
        subst (λ a. memory a ≡ byte) here (each 0 (omega arith)),
        held-by (suc at) bytes (λ k below. let e : at + suc k ≡ suc at + k = omega arith in subst (λ a. memory a ≡ slice_index bytes k) e (each (suc k) (omega arith))),
      )

  pub held-front : (at : ℕ) (front back : List ℕ) → HoldsBytes memory at (front ++ back) → HoldsBytes memory at front
  held-front at [] back held = tt
  held-front at (byte ∷ front) back held = (held.0, held-front (suc at) front back held.1)

  pub held-back : (at : ℕ) (front back : List ℕ) → HoldsBytes memory at (front ++ back) → HoldsBytes memory (at + length front) back
  held-back at [] back held = let here : at ≡ at + 0 = omega arith in subst (λ a. HoldsBytes memory a back) here held
  held-back at (byte ∷ front) back held =
      let here : suc at + length front ≡ at + suc (length front) = omega arith in
      subst (λ a. HoldsBytes memory a back) here (held-back (suc at) front back held.1)

  pub bytes_at-held : (at : ℕ) (bytes : List ℕ) → HoldsBytes memory at bytes → bytes_at memory at (length bytes) ≡ bytes
  unfolding bytes_at
  bytes_at-held at [] held = refl
  bytes_at-held at (byte ∷ bytes) held =
      let first : memory at ≡ byte = held.0 in
      let rest : bytes_at memory (suc at) (length bytes) ≡ bytes = bytes_at-held (suc at) bytes held.1 in
      cc

  -- a word that is held is its number
  pub number_at-held : (at word : ℕ) → word < 2 ^ 32 → HoldsBytes memory at (lowest_bytes 4 word) → number_at memory at 4 ≡ word
  unfolding number_at
  number_at-held at word below held =
      ap (λ n. little_endian (bytes_at memory at n)) (sym (length-lowest_bytes 4 word))
      ∙ ap little_endian (bytes_at-held at (lowest_bytes 4 word) held)
      ∙ little_endian-lowest_from 0 4 word
      ∙ ap (λ n. n % 256 ^ 4) (div-one word)
      ∙ mod-eq_of_lt below

  -- each instruction of the words that are held is read
  pub reads-held : (at : ℕ) (is : List Instr) (bytes : List ℕ) (k : ℕ) (i : Instr) → AreWordsOf is bytes → HoldsBytes memory at bytes → slice_get is k ≡ Some i
      → read (number_at memory (at + 4 * k) 4) ≡ Some i
  reads-held at [] bytes k i words held there = cc
  reads-held at (j ∷ is) bytes zero i words held there =
      let word = words.0 in
      let rest = words.1 in
      let split : HoldsBytes memory at (lowest_bytes 4 word ++ rest) = subst (HoldsBytes memory at) words.4 held in
      let here : at + 4 * 0 ≡ at = omega arith in
      let is_word : number_at memory at 4 ≡ word = number_at-held at word words.2 (held-front at (lowest_bytes 4 word) rest split) in
      ap (λ a. read (number_at memory a 4)) here ∙ ap read is_word ∙ words.3 ∙ there
  reads-held at (j ∷ is) bytes (suc k) i words held there =
      let word = words.0 in
      let rest = words.1 in
      let split : HoldsBytes memory at (lowest_bytes 4 word ++ rest) = subst (HoldsBytes memory at) words.4 held in
      let behind : HoldsBytes memory (at + 4) rest = held-back at (lowest_bytes 4 word) rest split in
      let e : at + 4 * suc k ≡ at + 4 + 4 * k = omega arith in
      ap (λ a. read (number_at memory a 4)) e ∙ reads-held (at + 4) is rest k i words.5 behind there

-- ---- the bytes of instructions

pub length-words : (is : List Instr) (bytes : List ℕ) → AreWordsOf is bytes → length bytes ≡ 4 * length is
length-words [] bytes words = ap length words
length-words (i ∷ is) bytes words =
    let rest : length words.1 ≡ 4 * length is = length-words is words.1 words.5 in
    let all : length bytes ≡ length (lowest_bytes 4 words.0 ++ words.1) = ap length words.4 in
    omega (arith, length-append (lowest_bytes 4 words.0) words.1, length-lowest_bytes 4 words.0)

-- one instruction more
pub words-append : (is : List Instr) (bytes : List ℕ) (i : Instr) (word : ℕ) → AreWordsOf is bytes → word < 2 ^ 32 → read word ≡ Some i → AreWordsOf (is ++ i ∷ []) (bytes ++ lowest_bytes 4 word)
words-append [] bytes i word words below reads =
    (word, [], below, reads, ap (λ b. b ++ lowest_bytes 4 word) words ∙ sym (append-nil (lowest_bytes 4 word)), refl)
words-append (j ∷ is) bytes i word words below reads = (
  words.0,
  words.1 ++ lowest_bytes 4 word,
  words.2,
  words.3,
  ap (λ b. b ++ lowest_bytes 4 word) words.4 ∙ append_assoc (lowest_bytes 4 words.0) words.1 (lowest_bytes 4 word),
  words-append is words.1 i word words.5 below reads,
)

abbrev pub AreBytes : List ℕ → Type 0
AreBytes bytes = All (λ byte. byte < 256) bytes

pub are-bytes : (bytes : List ℕ) → ((k : ℕ) → Fits w8 (get_or bytes k 0)) → AreBytes bytes
are-bytes bytes fit k d below = rw (get_or_default bytes k d 0 below) (fit k).fits

lowest_are_bytes : (word : ℕ) → AreBytes (lowest_bytes 4 word)
lowest_are_bytes word zero d below = omega arith
lowest_are_bytes word (suc zero) d below = omega arith
lowest_are_bytes word (suc (suc zero)) d below = omega arith
lowest_are_bytes word (suc (suc (suc zero))) d below = omega arith
lowest_are_bytes word (suc (suc (suc (suc k)))) d below = absurd (omega arith)

words-bytes : (is : List Instr) (bytes : List ℕ) → AreWordsOf is bytes → AreBytes bytes
words-bytes [] bytes words = subst AreBytes (sym words) (λ k d below. absurd (omega arith))
words-bytes (i ∷ is) bytes words =
    subst AreBytes (sym words.4) (All-append (λ byte. byte < 256) (lowest_bytes 4 words.0) words.1 (lowest_are_bytes words.0) (words-bytes is words.1 words.5))

-- the bytes of a text, put together
pub text-of : (words : Words) (code text : List ℕ) → AreWordsOf words.instructions.items code → AreBytes words.constants.items → text ≡ code ++ words.constants.items → IsTextOf words text
text-of words code text is_code constants is_text = record {
  code = code;
  code_is = is_code;
  text_is = is_text;
  size = ap length is_text ∙ length-append code words.constants.items ∙ ap (λ n. n + length words.constants.items) (length-words words.instructions.items code is_code);
  bytes = subst AreBytes (sym is_text)
      (All-append (λ byte. byte < 256) code words.constants.items (words-bytes words.instructions.items code is_code) constants);
}
