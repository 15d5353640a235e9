-- The numbers that lines and exit statuses tell: the place of a variant among its kind.
use Rattle.std.specs.Prelude.{ℕ, Option, Some, None}
use Rattle.kk_base.specs.declared.error.LexError.{LexError}
use Rattle.kk_base.specs.declared.error.LexError.TheVariants.{BadByte, OpenComment, OpenString, NumberTooLarge, StringTooLong}
use Rattle.kk_base.specs.declared.error.ParseError.{ParseError}
use Rattle.kk_base.specs.declared.error.ParseError.TheVariants.{Unexpected, TooDeep}
use Rattle.kk_base.specs.declared.error.NameError.{NameError}
use Rattle.kk_base.specs.declared.error.NameError.TheVariants.{Twice, Unknown, Arity, NoMain, MainShape}
use Rattle.kk_base.specs.declared.status.Status.{Status}
use Rattle.kk_base.specs.declared.status.Status.TheVariants.{Done, ImageExit, Usage, Refused, Limit, NoMemory, FileFault, InputFault, OutputFault, BadImage, HeapFull, StackFull, StepsSpent, Trap}

-- the number of a failure to read tokens; none for want of memory
abbrev pub lex_number_of : LexError → Option ℕ
lex_number_of (BadByte at) = Some 1
lex_number_of (OpenComment at) = Some 2
lex_number_of (OpenString at) = Some 3
lex_number_of (NumberTooLarge at) = Some 4
lex_number_of (StringTooLong at) = Some 5
lex_number_of _ = None

-- the number of a failure of the grammar; none for want of memory
abbrev pub parse_number_of : ParseError → Option ℕ
parse_number_of (Unexpected index line column) = Some 1
parse_number_of (TooDeep index line column) = Some 2
parse_number_of _ = None

-- the number of a failure of names; none for want of memory
abbrev pub name_number_of : NameError → Option ℕ
name_number_of (Twice name at) = Some 1
name_number_of (Unknown name at) = Some 2
name_number_of (Arity name at) = Some 3
name_number_of (NoMain name at) = Some 4
name_number_of (MainShape name at) = Some 5
name_number_of _ = None

-- the exit status of the process
abbrev pub status_number_of : Status → ℕ
status_number_of Done = 0
status_number_of ImageExit = 1
status_number_of Usage = 2
status_number_of Refused = 3
status_number_of Limit = 4
status_number_of NoMemory = 5
status_number_of FileFault = 6
status_number_of InputFault = 7
status_number_of OutputFault = 8
status_number_of BadImage = 9
status_number_of HeapFull = 10
status_number_of StackFull = 11
status_number_of StepsSpent = 12
status_number_of Trap = 13
