-- Which row of a match is taken.
use Rattle.std.specs.Prelude.{ℕ, ℤ, ◌==◌, List, [], ◌∷◌, Bool, false, Option, Some, None, if◌then◌else◌, slice_get}
use Rattle.std.specs.Ordering.{int_eq}
use Rattle.kk_syntax.specs.Patterns.{Pattern, anything, variable, exactly, constructor, Patterns, no_part, part}
use Rattle.kk_syntax.specs.Trees.{Tree, Rows, no_row, row, pattern_of_row, body_of_row}
use Rattle.kk_source.specs.State.{Value, integer, constant, place, Cell, Store, Environment}

abbrev pub is_integer : ℤ → Value → Bool
is_integer n (integer m) = int_eq m n
is_integer n _ = false

-- the fields of a cell, if that constructor made it
abbrev pub fields_made_by : ℕ → Option Cell → Option (List Value)
fields_made_by c None = None
fields_made_by c (Some cell) = if cell.made_by == c then Some cell.fields else None

-- the fields of a value, if it is of that constructor; a constructor without fields has none
abbrev pub fields_under : Store → ℕ → Value → Option (List Value)
fields_under store c (constant d) = if d == c then Some [] else None
fields_under store c (place at) = fields_made_by c (slice_get store at)
fields_under store c _ = None

abbrev pub and_then : {A B : Type 0} → Option A → (A → Option B) → Option B
and_then None next = None
and_then (Some x) next = next x

-- A pattern on a value: the environment, and before it the variables that the pattern binds, the last one newest; or
-- none, where the pattern does not match. A constructor's pattern has as many parts as the value has fields.
abbrev mutual
  pub matched : Store → Pattern → Value → Environment → Option Environment
  matched store anything v environment = Some environment
  matched store (variable x) v environment = Some (record { variable = x; value = v } ∷ environment)
  matched store (exactly n) v environment = if is_integer n v then Some environment else None
  matched store (constructor c parts) v environment = and_then (fields_under store c v) (λ vs. matched_all store parts vs environment)

  pub matched_all : Store → Patterns → List Value → Environment → Option Environment
  matched_all store no_part [] environment = Some environment
  matched_all store no_part (v ∷ vs) environment = None
  matched_all store (part first rest) [] environment = None
  matched_all store (part first rest) (v ∷ vs) environment = and_then (matched store first v environment) (λ bound. matched_all store rest vs bound)

-- the body of a row, with the variables of its pattern bound
pub record Chosen : Type 0 where
  pub body : Tree
  pub environment : Environment

abbrev pub chosen_or : Tree → Option Environment → Option Chosen → Option Chosen
chosen_or body None later = later
chosen_or body (Some environment) later = Some (record { body = body; environment = environment })

-- the first row whose pattern matches a value, if there is one
abbrev pub first_match : Store → Rows → Value → Environment → Option Chosen
first_match store no_row v environment = None
first_match store (row first rest) v environment =
    chosen_or (body_of_row first) (matched store (pattern_of_row first) v environment) (first_match store rest v environment)
