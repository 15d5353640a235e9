-- What a list of tokens comes to: the tree that it spells, or the first token with which no program goes on, or the
-- token that opens a level of nesting too many.
use Rattle.std.specs.Prelude.{◌≡◌, ℕ, ◌+◌, ◌-◌, ◌^◌, ◌≤◌, min, All, List, [], ◌∷◌, ◌++◌, length, Result, Ok, Err}
use Rattle.kk_base.specs.Exactly.{IsOnly, ExactlyOne}
use Rattle.kk_base.specs.declared.span.Span.{Span}
use Rattle.kk_base.specs.declared.error.ParseError.{ParseError}
use Rattle.kk_base.specs.declared.error.ParseError.TheVariants.{Unexpected, TooDeep, NoMemory}
use Rattle.kk_syntax.specs.declared.token.LocatedToken.{LocatedToken}
use Rattle.kk_syntax.specs.declared.tree.Tree.{Tree}
use Rattle.kk_syntax.specs.Surface.{WrittenDeclaration, WrittenTree, written_tree}
use Rattle.kk_syntax.specs.TokenList.{TokenList}
use Rattle.kk_parser.specs.Depths.{IsShallow, most_levels}
use Rattle.kk_parser.specs.Grammar.{program_grammar}
use Rattle.kk_parser.specs.Phrases.{program, rule}
use Rattle.kk_parser.specs.Spells.{Marked, tokens_of, Spells}

-- marked tokens that are a program with these declarations
abbrev pub SpellsProgram : List WrittenDeclaration → List Marked → Type 0
SpellsProgram declarations ts = (m : ℕ) × Spells program_grammar (rule program) 0 declarations m ts []

-- marked tokens that begin a program
abbrev pub BeginsProgram : List Marked → Type 0
BeginsProgram front = (declarations : List WrittenDeclaration) × (rest : List Marked) × SpellsProgram declarations (front ++ rest)

-- no more than so many levels are open at each token
abbrev pub AtMost : ℕ → List Marked → Type 0
AtMost limit [] = Unit {0}
AtMost limit (t ∷ ts) = (t.levels ≤ limit) × AtMost limit ts

-- the tokens are a program with these declarations, within the levels that may be open
pub record HasTree (tokens : List LocatedToken) (declarations : List WrittenDeclaration) : Type 0 where
  pub marked : List Marked
  pub tokens_are : tokens_of marked ≡ tokens
  pub shallow : AtMost most_levels marked
  pub program : SpellsProgram declarations marked

-- behind these tokens some program goes on with the first of `rest`; where there is none, some program ends
abbrev pub GoesOn : List LocatedToken → List LocatedToken → Type 0
GoesOn before [] = (declarations : List WrittenDeclaration) × (ts : List Marked) × SpellsProgram declarations ts × (tokens_of ts ≡ before)
GoesOn before (t ∷ rest) = (front : List Marked) × BeginsProgram front × (tokens_of front ≡ before ++ t ∷ [])

-- The first of `rest` behind these tokens, or the end, is the first that is unexpected: the tokens before it begin a
-- program, and no program goes on with it. No level too many was opened before.
pub record IsUnexpected (before rest : List LocatedToken) : Type 0 where
  pub front : List Marked
  pub tokens_are : tokens_of front ≡ before
  pub shallow : AtMost most_levels front
  pub begins : BeginsProgram front
  pub stuck : GoesOn before rest → ⊥

-- The first of `rest` behind these tokens opens the first level too many; up to it the tokens begin a program.
pub record IsTooDeep (before rest : List LocatedToken) : Type 0 where
  pub front : List Marked
  pub opener : Marked
  pub later : List LocatedToken
  pub tokens_are : tokens_of front ≡ before
  pub next_is : rest ≡ opener.token ∷ later
  pub shallow : AtMost most_levels front
  pub begins : BeginsProgram (front ++ opener ∷ [])
  pub opens : opener.levels ≡ most_levels + 1

-- where the first of some tokens stands, or where the text ends
abbrev pub next_place : List LocatedToken → Span → Span
next_place [] end = end
next_place (t ∷ ts) end = t.span

-- the number of the tokens before a place, and the place's line and column
abbrev pub Tells : List LocatedToken → Span → ℕ → ℕ → ℕ → Type 0
Tells before place index line column = (index ≡ length before) × (line ≡ place.line) × (column ≡ place.column)

-- the error tells the first place at which the tokens are no program, and why
abbrev pub RefusesTokens : List LocatedToken → Span → ParseError → Type 0
RefusesTokens tokens end (Unexpected index line column) = (before rest : List LocatedToken) × (before ++ rest ≡ tokens) × IsUnexpected before rest × Tells before (next_place rest end) index line column
RefusesTokens tokens end (TooDeep index line column) = (before rest : List LocatedToken) × (before ++ rest ≡ tokens) × IsTooDeep before rest × Tells before (next_place rest end) index line column
RefusesTokens tokens end NoMemory = ⊥

-- an error as it is answered: its index as far as a u32 goes
abbrev pub in_u32 : ParseError → ParseError
in_u32 (Unexpected index line column) = Unexpected (min index (2 ^ 32 - 1)) line column
in_u32 (TooDeep index line column) = TooDeep (min index (2 ^ 32 - 1)) line column
in_u32 NoMemory = NoMemory

-- What a list of tokens comes to: the tree that it spells, whose length is that of the text, or the first place at which
-- it is no program.
abbrev pub ParsesAs : TokenList → Result WrittenTree ParseError → Type 0
ParsesAs tokens (Ok tree) = HasTree tokens.items tree.declarations × (tree.length ≡ tokens.end.at)
ParsesAs tokens (Err error) = RefusesTokens tokens.items tokens.end error

-- an answer is what the tokens come to, as nothing else is, unless memory ran out
abbrev pub AnswersParse : TokenList → Result Tree ParseError → Type 0
AnswersParse tokens (Ok tree) = IsOnly (ParsesAs tokens) (Ok (written_tree tree))
AnswersParse tokens (Err NoMemory) = Unit {0}
AnswersParse tokens (Err error) = (refusal : ParseError) × IsOnly (ParsesAs tokens) (Err refusal) × (error ≡ in_u32 refusal)

-- each list of tokens comes to exactly one thing
abbrev pub EachListIsParsed : Type 0
EachListIsParsed = (tokens : TokenList) → ExactlyOne (ParsesAs tokens)

-- tokens spell one program, however deep it is nested
abbrev pub OneProgram : Type 0
OneProgram = (declarations others : List WrittenDeclaration) (ts us : List Marked) → SpellsProgram declarations ts → SpellsProgram others us → tokens_of ts ≡ tokens_of us → declarations ≡ others

-- the trees of a program are as shallow as the levels make them that are open at its tokens
abbrev pub LevelsBoundDepth : Type 0
LevelsBoundDepth = (levels : ℕ) (declarations : List WrittenDeclaration) (ts : List Marked) → SpellsProgram declarations ts → AtMost levels ts → All (λ d. IsShallow levels d) declarations
