-- The line that tells an answer on the error sink, and the line of `bench` on the output. Numbers are decimal, and each line ends
-- with a line feed.
use Rattle.std.specs.Prelude.{ℕ, ◌==◌, List, [], ◌∷◌, ◌++◌, codes, decimal, Option, Some, None, if◌then◌else◌}
use Rattle.kk_base.specs.Limits.{limit_word_of}
use Rattle.kk_base.specs.Numbers.{lex_number_of, parse_number_of, name_number_of}
use Rattle.kk_base.specs.declared.limit.Limit.{Limit}
use Rattle.kk_base.specs.declared.error.LexError.{LexError}
use Rattle.kk_base.specs.declared.error.LexError.TheVariants as OfLex
use Rattle.kk_base.specs.declared.error.ParseError.{ParseError}
use Rattle.kk_base.specs.declared.error.ParseError.TheVariants as OfParse
use Rattle.kk_base.specs.declared.error.NameError.{NameError}
use Rattle.kk_base.specs.declared.error.NameError.TheVariants as OfName
use Rattle.kk_base.specs.declared.refusal.Refusal.{Refusal}
use Rattle.kk_base.specs.declared.refusal.Refusal.TheVariants as OfText
use Rattle.rv_sim.specs.declared.halt.Halt.{Halt}
use Rattle.rv_sim.specs.declared.halt.Halt.TheVariants as OfHalt
use Rattle.kk_answer.specs.declared.answer.Answer.{Answer}
use Rattle.kk_answer.specs.declared.answer.Answer.TheVariants.{Done, Usage, Refused, NoMemory, FileFault, Ran, Measured, BadImage, Simulated}
use Rattle.kk_answer.specs.declared.answer.RunEnd.{RunEnd}
use Rattle.kk_answer.specs.declared.answer.RunEnd.TheVariants as OfRun

abbrev pub line_feed : List ℕ
line_feed = 10 ∷ []

abbrev pub no_memory_line : List ℕ
no_memory_line = codes "no memory" ++ line_feed

-- refused: lex K at A, with the number of the fault, and its byte
abbrev pub lex_place_of : LexError → ℕ
lex_place_of (OfLex.BadByte at) = at
lex_place_of (OfLex.OpenComment at) = at
lex_place_of (OfLex.OpenString at) = at
lex_place_of (OfLex.NumberTooLarge at) = at
lex_place_of (OfLex.StringTooLong at) = at
lex_place_of OfLex.NoMemory = 0

abbrev pub numbered_lex_line : Option ℕ → ℕ → List ℕ
numbered_lex_line (Some number) at = codes "refused: lex " ++ (decimal number ++ (codes " at " ++ (decimal at ++ line_feed)))
numbered_lex_line None at = no_memory_line

abbrev pub lex_line : LexError → List ℕ
lex_line error = numbered_lex_line (lex_number_of error) (lex_place_of error)

-- refused: parse K at line L column C
abbrev pub parse_line_of : ParseError → ℕ
parse_line_of (OfParse.Unexpected index line column) = line
parse_line_of (OfParse.TooDeep index line column) = line
parse_line_of OfParse.NoMemory = 0

abbrev pub parse_column_of : ParseError → ℕ
parse_column_of (OfParse.Unexpected index line column) = column
parse_column_of (OfParse.TooDeep index line column) = column
parse_column_of OfParse.NoMemory = 0

abbrev pub numbered_parse_line : Option ℕ → ℕ → ℕ → List ℕ
numbered_parse_line (Some number) line column =
    codes "refused: parse " ++ (decimal number ++ (codes " at line " ++ (decimal line ++ (codes " column " ++ (decimal column ++ line_feed)))))
numbered_parse_line None line column = no_memory_line

abbrev pub parse_line : ParseError → List ℕ
parse_line error = numbered_parse_line (parse_number_of error) (parse_line_of error) (parse_column_of error)

-- refused: name K NAME at A
abbrev pub name_spelled_of : NameError → List ℕ
name_spelled_of (OfName.Twice name at) = name
name_spelled_of (OfName.Unknown name at) = name
name_spelled_of (OfName.Arity name at) = name
name_spelled_of (OfName.NoMain name at) = name
name_spelled_of (OfName.MainShape name at) = name
name_spelled_of OfName.NoMemory = []

abbrev pub name_place_of : NameError → ℕ
name_place_of (OfName.Twice name at) = at
name_place_of (OfName.Unknown name at) = at
name_place_of (OfName.Arity name at) = at
name_place_of (OfName.NoMain name at) = at
name_place_of (OfName.MainShape name at) = at
name_place_of OfName.NoMemory = 0

abbrev pub numbered_name_line : Option ℕ → List ℕ → ℕ → List ℕ
numbered_name_line (Some number) name at = codes "refused: name " ++ (decimal number ++ (codes " " ++ (name ++ (codes " at " ++ (decimal at ++ line_feed)))))
numbered_name_line None name at = no_memory_line

abbrev pub name_line : NameError → List ℕ
name_line error = numbered_name_line (name_number_of error) (name_spelled_of error) (name_place_of error)

-- limit: KIND COUNT
abbrev pub limit_line : Limit → List ℕ
limit_line limit = codes "limit: " ++ (limit_word_of limit.kind ++ (codes " " ++ (decimal limit.count ++ line_feed)))

-- not covered in NAME: EXAMPLE
abbrev pub not_covered_line : List ℕ → List ℕ → List ℕ
not_covered_line function example = codes "refused: not covered in " ++ (function ++ (codes ": " ++ (example ++ line_feed)))

abbrev pub refusal_line : Refusal → List ℕ
refusal_line (OfText.Lex error) = lex_line error
refusal_line (OfText.Parse error) = parse_line error
refusal_line (OfText.Name error) = name_line error
refusal_line (OfText.NotTyped function) = codes "refused: type in " ++ (function ++ line_feed)
refusal_line (OfText.NotCovered function example) = not_covered_line function example
refusal_line (OfText.Over limit) = limit_line limit
refusal_line OfText.NoMemory = no_memory_line

-- a budget of instructions is spent; a device of the image failed
abbrev pub steps_spent_line : ℕ → List ℕ
steps_spent_line steps = codes "steps spent: " ++ (decimal steps ++ line_feed)

abbrev pub input_fault_line : List ℕ
input_fault_line = codes "input fault" ++ line_feed

abbrev pub output_fault_line : List ℕ
output_fault_line = codes "output fault" ++ line_feed

-- a run of a program with so many cells and such a depth, out of a budget of `steps`; none where the program ended by itself
abbrev pub run_line : RunEnd → ℕ → ℕ → ℕ → Option (List ℕ)
run_line OfRun.Ended cells depth steps = None
run_line OfRun.HeapFull cells depth steps = Some (codes "heap full: " ++ (decimal cells ++ (codes " cells" ++ line_feed)))
run_line OfRun.StackFull cells depth steps = Some (codes "stack full: " ++ (decimal depth ++ (codes " calls" ++ line_feed)))
run_line OfRun.StepsSpent cells depth steps = Some (steps_spent_line steps)
run_line OfRun.InputFault cells depth steps = Some input_fault_line
run_line OfRun.OutputFault cells depth steps = Some output_fault_line

-- stats: instructions N free F of C
abbrev pub stats_line : ℕ → ℕ → ℕ → List ℕ
stats_line instructions free cells =
    codes "stats: instructions " ++ (decimal instructions ++ (codes " free " ++ (decimal free ++ (codes " of " ++ (decimal cells ++ line_feed)))))

-- bench: source S image M instructions N free F, on the output: the bytes of the text and of the image, the executed instructions
-- and the free cells of the run of a generated program
abbrev pub summary_line : ℕ → ℕ → ℕ → ℕ → List ℕ
summary_line source image instructions free =
    codes "source " ++ (decimal source ++ (codes " image " ++ (decimal image ++ (codes " instructions "
    ++ (decimal instructions ++ (codes " free " ++ (decimal free ++ line_feed)))))))

-- trap: cause K pc P word W
abbrev pub trap_line : ℕ → ℕ → ℕ → List ℕ
trap_line cause pc word =
    codes "trap: cause " ++ (decimal cause ++ (codes " pc " ++ (decimal pc ++ (codes " word " ++ (decimal word ++ line_feed)))))

-- a run of an image, out of a budget of `steps`; none where it exited with 0
abbrev pub halt_line : Halt → ℕ → Option (List ℕ)
halt_line (OfHalt.Exit number) steps = if number == 0 then None else Some (codes "image exit: " ++ (decimal number ++ line_feed))
halt_line OfHalt.StepsSpent steps = Some (steps_spent_line steps)
halt_line (OfHalt.Trap cause pc word) steps = Some (trap_line cause pc word)
halt_line OfHalt.InputFault steps = Some input_fault_line
halt_line OfHalt.OutputFault steps = Some output_fault_line

-- the line of an answer; none where the command did its work and has nothing to tell
abbrev pub line_of : Answer → Option (List ℕ)
line_of Done = None
line_of Usage = Some (codes "usage: kokarv check FILE, build FILE -o OUT, run FILE, sim IMAGE, eval FILE, bench SEED SIZE" ++ line_feed)
line_of (Refused refusal) = Some (refusal_line refusal)
line_of NoMemory = Some no_memory_line
line_of (FileFault name) = Some (codes "file fault: " ++ (name.now ++ line_feed))
line_of (Ran end cells depth steps) = run_line end cells depth steps
line_of (Measured instructions free cells) = Some (stats_line instructions free cells)
line_of (BadImage condition) = Some (codes "bad image: " ++ (decimal condition ++ line_feed))
line_of (Simulated halt steps) = halt_line halt steps
