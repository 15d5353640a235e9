-- What a search for the owned positions goes through: it begins with no position, and while a rule asks for a lent
-- position, that becomes owned.
use Rattle.std.specs.Prelude.{◌≡◌, ◌<◌, ℕ, Bool, true, false, ◌||◌, if◌then◌else◌, IsTrue, Option, Some, None, List, [], ◌∷◌, map, length, replicate, set, slice_index_or}
use Rattle.kk_syntax.specs.declared.positions.Ownership.TheVariants.{Owned, Lent}
use Rattle.kk_syntax.specs.declared.positions.Position.{Position}
use Rattle.kk_syntax.specs.OwnedPositions.{PositionSet, builds, uses, OwnsUsed, is_lent_variable, lent_in_row, handed_by, OwnsHanded, Closed, Within, owned_in}
use Rattle.kk_syntax.specs.PositionsOf.{PositionTable, is_lent}
use Rattle.kk_syntax.specs.Programs.{FunctionTree, ProgramTree}
use Rattle.kk_syntax.specs.Shapes.{TailWalk, tail_walked}
use Rattle.kk_syntax.specs.Trees.{Tree, StatementTree}

-- the table that has each parameter lent
abbrev pub each_lent : List FunctionTree → PositionTable
each_lent functions = map (λ f. replicate (length f.parameters) Lent) functions

-- the table with one more position owned
abbrev pub with_owned : PositionTable → Position → PositionTable
with_owned table p = set table p.function (set (slice_index_or table p.function []) p.parameter Owned)

-- whether statements hold a construction with fields
abbrev pub builds_statements : List StatementTree → Bool
builds_statements [] = false
builds_statements (s ∷ ss) = builds s.value || builds_statements ss

-- What tail calls are given, found by a walk over the body: proved to be the positions of `handed`.
abbrev pub to_handed : TailWalk (List ℕ) Bool Position
to_handed = record {
  at = handed_by;
  at_binder = λ lent binder. [];
  at_row = λ lent opened pattern. [];
  told = is_lent_variable;
  enter = lent_in_row;
}

abbrev pub handed_in : List ℕ → Tree → List Position
handed_in = tail_walked to_handed

-- a position is lent
abbrev pub IsLent : PositionTable → Position → Type 0
IsLent table p = is_lent table p.function p.parameter ≡ true

-- the first of some positions that is lent
abbrev pub first_lent : PositionTable → List Position → Option Position
first_lent table [] = None
first_lent table (p ∷ ps) = if is_lent table p.function p.parameter then Some p else first_lent table ps

-- a position is a lent parameter of a function that stands at an owned place of its body
pub record IsUsed (table : PositionTable) (number : ℕ) (function : FunctionTree) (p : Position) : Type 0 where
  pub of : p.function ≡ number
  pub below : p.parameter < length function.parameters
  pub lent : IsLent table p
  pub used : IsTrue (uses (owned_in table) true p.parameter function.body)

-- what is found of these: one, or none where there is none
abbrev pub FindsUsed : PositionTable → ℕ → FunctionTree → Option Position → Type 0
FindsUsed table number function None =
    (x : ℕ) → x < length function.parameters → is_lent table number x ≡ true → uses (owned_in table) true x function.body ≡ false
FindsUsed table number function (Some p) = IsUsed table number function p

-- A lent position that each set has which has the owned positions and what the rules ask of a function; none where the
-- owned positions are such a set.
abbrev pub AsksIn : ProgramTree → PositionTable → ℕ → FunctionTree → Option Position → Type 0
AsksIn program table number function None = OwnsUsed (owned_in table) number function
    × OwnsHanded program (owned_in table) number function
AsksIn program table number function (Some p) =
    IsLent table p
    × ((set : PositionSet) → OwnsUsed set number function → OwnsHanded program set number function → Within (owned_in table) set
    → IsTrue (set p.function p.parameter))

-- The same for a program: a lent position that each closed set has which has the owned positions; none where these are
-- a closed set.
abbrev pub Asks : ProgramTree → PositionTable → Option Position → Type 0
Asks program table None = Closed program (owned_in table)
Asks program table (Some p) =
    IsLent table p × ((set : PositionSet) → Closed program set → Within (owned_in table) set → IsTrue (set p.function p.parameter))
