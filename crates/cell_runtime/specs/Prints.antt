-- The routines that print and read.
use Rattle.std.specs.Prelude.{◌≡◌, ℕ, ◌+◌, ◌*◌, ◌-◌, ◌^◌, ◌<◌, ◌≤◌, ℤ, pos, negsuc, List, [], ◌∷◌, ◌++◌, length, true, if◌then◌else◌, nat_eq}
use Rattle.std.specs.Fmt.{signed_decimal}
use Rattle.kk_base.specs.Trace.{Event, output, input, input_end}
use Rattle.rv_isa.specs.Arithmetic.{signed}
use Rattle.rv_isa.specs.Bytes.{bytes_at}
use Rattle.rv_isa.specs.Processor.{Processor, value, can_load, can_store}
use Rattle.rv_isa.specs.Standing.{Code}
use Rattle.rv_isa.specs.declared.routine.Routine.TheVariants.{PrintInt, PrintText, ReadByte}
use Rattle.rv_isa.specs.declared.placed.Symbol.TheVariants.{Routine}
use Rattle.cell_runtime.specs.Calls.{IsAt, HasWayBack, Returns, KeepsOutside}

-- the event of a print: its piece is put at once, and no bytes are not put
abbrev pub put_of : List ℕ → List Event
put_of [] = []
put_of (byte ∷ bytes) = output (byte ∷ bytes) ∷ []

-- the bytes of the buffer
abbrev pub buffer_bytes : ℕ
buffer_bytes = 12

-- ---- print-int

-- what is printed of a word: the decimal digits of the signed number, with `-` before those of a negative one, and byte 10 behind them where
-- the choice is 1
abbrev pub int_piece : ℕ → ℕ → List ℕ
int_piece word choice = signed_decimal (signed word) ++ (if nat_eq choice 0 then [] else 10 ∷ [])

-- its instructions: 6 for each digit
abbrev pub int_count : ℤ → ℕ
int_count (pos n) = 14 + 6 * length (signed_decimal (pos n))
int_count (negsuc n) = 12 + 6 * length (signed_decimal (negsuc n))

-- x10 holds the word and x11 the choice of a line end; the buffer may be stored and loaded
pub record BeforePrintInt (buffer : ℕ) (s : Processor) : Type 0 where
  pub way_back : HasWayBack s
  pub word : value s.registers 10 < 2 ^ 32
  pub choice : value s.registers 11 ≤ 1
  pub in_range : buffer + buffer_bytes < 2 ^ 32
  pub stored : can_store s.parts buffer buffer_bytes ≡ true
  pub loaded : can_load s.parts buffer buffer_bytes ≡ true

pub record AfterPrintInt (code : Code) (buffer : ℕ) (s t : Processor) : Type 0 where
  pub returns : Returns code (Routine PrintInt) (int_count (signed (value s.registers 10))) s t
  pub trace : t.trace ≡ s.trace ++ output (int_piece (value s.registers 10) (value s.registers 11)) ∷ []
  pub left : t.left ≡ s.left
  pub memory : KeepsOutside buffer buffer_bytes s t

abbrev pub IsPrintInt : ℕ → Code → ℕ → Type 0
IsPrintInt buffer code at =
    (s : Processor) → IsAt code at s → BeforePrintInt buffer s → (t : Processor) × AfterPrintInt code buffer s t

-- ---- print-text

-- x10 holds the address of the bytes and x11 their number; they may be loaded
pub record BeforePrintText (s : Processor) : Type 0 where
  pub way_back : HasWayBack s
  pub address : value s.registers 10 < 2 ^ 32
  pub count : value s.registers 11 < 2 ^ 32
  pub loaded : can_load s.parts (value s.registers 10) (value s.registers 11) ≡ true

pub record AfterPrintText (code : Code) (s t : Processor) : Type 0 where
  pub returns : Returns code (Routine PrintText) 6 s t
  pub trace : t.trace ≡ s.trace ++ put_of (bytes_at s.memory (value s.registers 10) (value s.registers 11))
  pub left : t.left ≡ s.left
  pub memory : t.memory ≡ s.memory

abbrev pub IsPrintText : Code → ℕ → Type 0
IsPrintText code at = (s : Processor) → IsAt code at s → BeforePrintText s → (t : Processor) × AfterPrintText code s t

-- ---- read-byte

-- the first byte of the buffer may be stored and loaded
pub record BeforeReadByte (buffer : ℕ) (s : Processor) : Type 0 where
  pub way_back : HasWayBack s
  pub in_range : buffer < 2 ^ 32
  pub stored : can_store s.parts buffer 1 ≡ true
  pub loaded : can_load s.parts buffer 1 ≡ true

-- by what is left of the input: its next byte comes to x10; at its end x10 is -1
abbrev pub TakesNext : Code → List ℕ → Processor → Processor → Type 0
TakesNext code [] s t =
    Returns code (Routine ReadByte) 9 s t × (value t.registers 10 ≡ 2 ^ 32 - 1)
    × (t.trace ≡ s.trace ++ input_end ∷ []) × (t.left ≡ [])
TakesNext code (byte ∷ rest) s t =
    Returns code (Routine ReadByte) 10 s t × (value t.registers 10 ≡ byte)
    × (t.trace ≡ s.trace ++ input byte ∷ []) × (t.left ≡ rest)

pub record AfterReadByte (code : Code) (buffer : ℕ) (s t : Processor) : Type 0 where
  pub takes : TakesNext code s.left s t
  pub memory : KeepsOutside buffer 1 s t

abbrev pub IsReadByte : ℕ → Code → ℕ → Type 0
IsReadByte buffer code at =
    (s : Processor) → IsAt code at s → BeforeReadByte buffer s → (t : Processor) × AfterReadByte code buffer s t
