-- The judgement of a text: the program that it is accepted as, or the refusal of its first failure.
use Rattle.std.specs.Prelude.{◌≡◌, ℕ, ◌+◌, ◌<◌, ◌≤◌, List, length, slice_get, Bool, true, false, Some, Result, Ok, Err}
use Rattle.kk_base.specs.Limits.{greatest_of}
use Rattle.kk_base.specs.declared.error.LexError.TheVariants as OfLex
use Rattle.kk_base.specs.declared.error.NameError.TheVariants as OfName
use Rattle.kk_base.specs.declared.error.ParseError.TheVariants as OfParse
use Rattle.kk_base.specs.declared.limit.Limit.{Limit}
use Rattle.kk_base.specs.declared.limit.LimitKind.TheVariants.{Source}
use Rattle.kk_base.specs.declared.refusal.Refusal.{Refusal}
use Rattle.kk_base.specs.declared.refusal.Refusal.TheVariants as OfText
use Rattle.kk_syntax.specs.Programs.{FunctionTree, ProgramTree}
use Rattle.kk_syntax.specs.Typing.{TypesAs}
use Rattle.kk_lexer.specs.Readings.{IsReadAs}
use Rattle.kk_layout.specs.Layouts.{laid_out_list}
use Rattle.kk_parser.specs.Parses.{ParsesAs}
use Rattle.kk_names.specs.Names.{ResolvesAs}
use Rattle.kk_cover.specs.Matches.{Miss, CoversAs}
use Rattle.kk_cover.specs.ExampleSpelling.{spelled}
use Rattle.kk_mono.specs.Counts.{CountsAs}
use Rattle.kk_syntax.specs.Declarations.{DeclarationsAs}
use Rattle.kk_front.specs.Chain.{Then, ToldAs, Checking}
use Rattle.kk_front.specs.Outcome.{IsOutcome, HasOneOutcome}

-- a text has at most 65,536 bytes; the count that is told is always one more
abbrev pub ChecksLength : List ℕ → Result (Unit {0}) Limit → Type 0
ChecksLength text (Ok _) = length text ≤ greatest_of Source
ChecksLength text (Err limit) = (greatest_of Source < length text) × (limit ≡ record { kind = Source; count = greatest_of Source + 1 })

-- the first function that is not typed, told by its name
pub record TellsUntyped (program : ProgramTree) (refusal : Refusal) : Type 0 where
  pub number : ℕ
  pub function : FunctionTree
  pub first : TypesAs program (Err number)
  pub is : slice_get program.functions number ≡ Some function
  pub refusal_is : refusal ≡ OfText.NotTyped function.name

-- each function is typed, or the first that is not is told
abbrev pub ChecksTypes : ProgramTree → Result (Unit {0}) Refusal → Type 0
ChecksTypes program (Ok _) = TypesAs program (Ok tt)
ChecksTypes program (Err refusal) = TellsUntyped program refusal

-- the first function with a match that is not covered, told by its name, and what that match misses, as it is written
pub record TellsUncovered (program : ProgramTree) (refusal : Refusal) : Type 0 where
  pub miss : Miss
  pub function : FunctionTree
  pub first : CoversAs program (Err miss)
  pub is : slice_get program.functions miss.function ≡ Some function
  pub refusal_is : refusal ≡ OfText.NotCovered function.name (spelled program miss.example)

-- each match of each function is covered, or the first function with another is told
abbrev pub ChecksCover : ProgramTree → Result (Unit {0}) Refusal → Type 0
ChecksCover program (Ok _) = CoversAs program (Ok tt)
ChecksCover program (Err refusal) = TellsUncovered program refusal

-- what a program whose names are resolved comes to: its declarations, its types, its matches, and its nodes and instances are
-- checked
abbrev pub ChecksProgram : ProgramTree → Result ProgramTree Refusal → Type 0
ChecksProgram =
    Then (ToldAs OfText.Over (Checking DeclarationsAs))
    (Then (Checking ChecksTypes)
    (Then (Checking ChecksCover)
    (ToldAs OfText.Over (Checking CountsAs))))

-- What a text comes to. The first failure decides, in this order: its length; a lexeme that cannot be read; tokens that,
-- laid out, are no program; names; a declaration that passes a limit, on parameters, on constructors or on fields; a function
-- that is not typed; a function with a match that is not covered; a function with too many nodes; too many instances; too many
-- nodes in all.
abbrev pub JudgedAs : List ℕ → Result ProgramTree Refusal → Type 0
JudgedAs =
    Then (ToldAs OfText.Over (Checking ChecksLength))
    (Then (ToldAs OfText.Lex IsReadAs)
    (Then (ToldAs OfText.Parse (λ tokens. ParsesAs (laid_out_list tokens)))
    (Then (ToldAs OfText.Name ResolvesAs)
    ChecksProgram)))

-- the text is accepted as this program, and comes to nothing else
abbrev pub IsProgramOf : List ℕ → ProgramTree → Type 0
IsProgramOf text program = IsOutcome (JudgedAs text) (Ok program)

-- the text is refused for this, and comes to nothing else; where a match is not covered, another example may be told
abbrev pub IsRefusalOf : List ℕ → Refusal → Type 0
IsRefusalOf text refusal = IsOutcome (JudgedAs text) (Err refusal)

-- a refusal is want of memory, which is none of the text's
abbrev pub wants_memory : Refusal → Bool
wants_memory OfText.NoMemory = true
wants_memory (OfText.Lex OfLex.NoMemory) = true
wants_memory (OfText.Parse OfParse.NoMemory) = true
wants_memory (OfText.Name OfName.NoMemory) = true
wants_memory _ = false

-- each text comes to exactly one thing, up to the example of a match that is not covered, and that is no want of memory
abbrev pub EachTextIsJudged : Type 0
EachTextIsJudged = (text : List ℕ) → HasOneOutcome (JudgedAs text) × ((refusal : Refusal) → JudgedAs text (Err refusal) → wants_memory refusal ≡ false)

-- a refusal is the text's, unless it is want of memory
abbrev pub Refuses : List ℕ → Refusal → Type 0
Refuses text refusal = wants_memory refusal ≡ false → IsRefusalOf text refusal

-- a refusal is the program's, unless it is want of memory
abbrev pub RefusesProgram : ProgramTree → Refusal → Type 0
RefusesProgram program refusal = wants_memory refusal ≡ false → IsOutcome (ChecksProgram program) (Err refusal)
