-- The bytes of a text: each instruction as a word, and the constants behind them.
use Rattle.std.specs.Prelude.{◌≡◌, ℕ, ◌+◌, ◌*◌, ◌^◌, ◌<◌, List, [], ◌∷◌, ◌++◌, length, All, Some}
use Rattle.rv_isa.specs.Bytes.{lowest_bytes}
use Rattle.rv_isa.specs.declared.instr.Instr.{Instr}
use Rattle.rv_isa.specs.Read.{read}
use Rattle.rv_place.specs.declared.words.Words.{Words}

-- these bytes are one word for each instruction, which reads as it; the lowest byte of a word comes first
abbrev pub AreWordsOf : List Instr → List ℕ → Type 0
AreWordsOf [] bytes = bytes ≡ []
AreWordsOf (i ∷ is) bytes =
    (word : ℕ) × (rest : List ℕ) × (word < 2 ^ 32) × (read word ≡ Some i) × (bytes ≡ lowest_bytes 4 word ++ rest) × AreWordsOf is rest

-- the bytes of a text: those of its instructions, and the constants behind them
pub record IsTextOf (words : Words) (text : List ℕ) : Type 0 where
  pub code : List ℕ
  pub code_is : AreWordsOf words.instructions.items code
  pub text_is : text ≡ code ++ words.constants.items
  pub size : length text ≡ 4 * length words.instructions.items + length words.constants.items
  pub bytes : All (λ byte. byte < 256) text
