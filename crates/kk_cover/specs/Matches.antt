-- What an answer for the matches of a program says, in the order of the text.
use Rattle.std.specs.Prelude.{◌≡◌, ℕ, List, ◌∷◌, ◌++◌, map, take, Option, None, Some, MatchOption, Result, Ok, Err, slice_get}
use Rattle.std.specs.Borrow.{Bor}
use Rattle.kk_syntax.specs.declared.program.Pat.{Pat}
use Rattle.kk_syntax.specs.declared.program.Program.{Program}
use Rattle.kk_syntax.specs.declared.program.Row.{Row}
use Rattle.kk_syntax.specs.Programs.{FunctionTree, ProgramTree, AreDeclared, program_tree}
use Rattle.kk_syntax.specs.Matches.{matches, IsMatchCovered, IsFunctionCovered}
use Rattle.kk_syntax.specs.Typing.{TypesAs}
use Rattle.kk_cover.specs.declared.covering.CoverError.{CoverError}
use Rattle.kk_cover.specs.declared.covering.CoverError.TheVariants.{NotCovered, NoMemory}
use Rattle.kk_rows.specs.Covered.{IsMatchMissed, row_outlines}
use Rattle.kk_syntax.specs.Covered.{Each}
use Rattle.kk_syntax.specs.Outlines.{Outline, HasSmallNumbers, pattern_outline}

-- matches in memory, each as its rows
abbrev pub match_rows : List (Bor (List Row)) → List (List Outline)
match_rows all = map (λ rows. row_outlines rows.now) all

-- the first of some matches that is not covered misses this
pub record IsFirstMissed (program : ProgramTree) (all : List (List Outline)) (e : Outline) : Type 0 where
  pub before : List (List Outline)
  pub rows : List Outline
  pub behind : List (List Outline)
  pub place : all ≡ before ++ (rows ∷ behind)
  pub covered : Each (IsMatchCovered program) before
  pub missed : IsMatchMissed program rows e

-- all of some matches are covered, or this is an example for the first that is not
abbrev pub AnswersAll : ProgramTree → List (List Outline) → Option Pat → Type 0
AnswersAll program all found =
    MatchOption found (Each (IsMatchCovered program) all) (λ example. IsFirstMissed program all (pattern_outline example) × HasSmallNumbers (pattern_outline example))

-- a function, by its number, and what its first match that is not covered misses
pub record Miss : Type 0 where
  pub function : ℕ
  pub example : Outline

-- there is a function of this number, its first match that is not covered misses this, and each function before it is covered
pub record IsFirstMiss (program : ProgramTree) (miss : Miss) : Type 0 where
  pub function : FunctionTree
  pub there : slice_get program.functions miss.function ≡ Some function
  pub earlier : Each (IsFunctionCovered program) (take miss.function program.functions)
  pub missed : IsFirstMissed program (matches function.body) miss.example

-- what a program comes to: each match of each function is covered, or the first function that has another misses something
abbrev pub CoversAs : ProgramTree → Result (Unit {0}) Miss → Type 0
CoversAs program (Ok _) = Each (IsFunctionCovered program) program.functions
CoversAs program (Err miss) = IsFirstMiss program miss

-- what is answered of a program is what it comes to, with an example whose numbers are small, unless memory ran out
abbrev pub AnswersProgram : Program → Result (Unit {0}) CoverError → Type 0
AnswersProgram program (Ok _) = CoversAs (program_tree program) (Ok tt)
AnswersProgram program (Err (NotCovered function example)) =
    CoversAs (program_tree program) (Err (record { function = function; example = pattern_outline example })) × HasSmallNumbers (pattern_outline example)
AnswersProgram program (Err NoMemory) = Unit {0}

-- the function that is not covered, if there is one
abbrev pub missed_in : Result (Unit {0}) Miss → Option ℕ
missed_in (Ok _) = None
missed_in (Err miss) = Some miss.function

-- a program comes to something, and to nothing else but that a match may miss several outlines
pub record IsDecided (program : ProgramTree) : Type 0 where
  pub outcome : Result (Unit {0}) Miss
  pub holds : CoversAs program outcome
  pub only : (other : Result (Unit {0}) Miss) → CoversAs program other → missed_in other ≡ missed_in outcome

-- each typed program, whose constructors are declared ones, is covered, or has exactly one first function that is not
abbrev pub EachTypedProgramIsDecided : Type 0
EachTypedProgramIsDecided = (program : ProgramTree) → AreDeclared program.constructors → TypesAs program (Ok tt) → IsDecided program
