-- The places that are live: those that can be reached, through fields, from what the machine still holds.
use Rattle.std.specs.Prelude.{◌≡◌, ◌⊎◌, ℕ, zero, suc, ◌+◌, ◌==◌, ◌||◌, Bool, false, if◌then◌else◌, List, [], ◌∷◌, ◌++◌, map, length, Option, Some, None, slice_get}
use Rattle.std.specs.List.{list_any}
use Rattle.kk_syntax.specs.Shapes.{free, free_all, free_rows, without}
use Rattle.kk_source.specs.State.{Value, unit, place, Cell, Store, Environment, Frame, arguments, branches, rows, statement, call}

-- the value that a variable stands for; in a resolved program each that is looked up is bound
abbrev pub value_of : Environment → ℕ → Value
value_of [] x = unit
value_of (binding ∷ environment) x = if binding.variable == x then binding.value else value_of environment x

-- the variable that a statement is still to bind
abbrev pub awaited : Option ℕ → List ℕ
awaited None = []
awaited (Some x) = x ∷ []

-- What a frame still holds: the values that are already computed; the values of the free variables of the expressions
-- that are left, the variable that a statement is still to bind aside; and the values that a call was lent.
abbrev pub held : Frame → List Value
held (arguments form values left environment) = values ++ map (value_of environment) (free_all left)
held (branches positive negative environment) = map (value_of environment) (free positive ++ free negative)
held (rows of environment) = map (value_of environment) (free_rows of)
held (statement variable rest environment) = map (value_of environment) (without (awaited variable) (free rest))
held (call lent) = lent

-- what a stack of frames holds
abbrev pub held_by_all : List Frame → List Value
held_by_all [] = []
held_by_all (frame ∷ older) = held frame ++ held_by_all older

-- the fields of the cell at a place; none where there is no cell
abbrev pub fields_in : Option Cell → List Value
fields_in None = []
fields_in (Some cell) = cell.fields

abbrev pub fields_at : Store → ℕ → List Value
fields_at store at = fields_in (slice_get store at)

-- a place is among values
abbrev pub Among : List Value → ℕ → Type 0
Among [] at = ⊥
Among (v ∷ vs) at = (v ≡ place at) ⊎ Among vs at

-- A way through fields: from values to the place of one of them, or to the place of one of them and on from its fields.
abbrev pub Leads : Store → List Value → List ℕ → ℕ → Type 0
Leads store vs [] goal = Among vs goal
Leads store vs (at ∷ way) goal = Among vs at × Leads store (fields_at store at) way goal

-- a place can be reached from values
abbrev pub Reached : Store → List Value → ℕ → Type 0
Reached store vs goal = (way : List ℕ) × Leads store vs way goal

-- The live places as a walk finds them. In a store whose cells name older cells alone, as each run's do, no way is longer
-- than the store; so a place is live where it is among some values, or among what their fields hold, and so on for as
-- many rounds as there are cells.

abbrev pub is_place : ℕ → Value → Bool
is_place at (place other) = other == at
is_place at _ = false

-- the values in the fields of the cells that values name
abbrev pub fields_of : Store → Value → List Value
fields_of store (place at) = fields_at store at
fields_of store _ = []

abbrev pub fields_of_all : Store → List Value → List Value
fields_of_all store [] = []
fields_of_all store (v ∷ vs) = fields_of store v ++ fields_of_all store vs

-- a place is found from values within so many rounds
abbrev pub is_found : ℕ → Store → List Value → ℕ → Bool
is_found zero store vs goal = list_any (is_place goal) vs
is_found (suc rounds) store vs goal = list_any (is_place goal) vs || is_found rounds store (fields_of_all store vs) goal

abbrev pub is_live : Store → List Value → ℕ → Bool
is_live store vs at = is_found (length store) store vs at

-- how many of the numbers below a bound pass a test
abbrev pub counted : (ℕ → Bool) → ℕ → ℕ
counted passes zero = 0
counted passes (suc n) = counted passes n + (if passes n then 1 else 0)

-- the number of places that are live, from what is held
abbrev pub live : Store → List Value → ℕ
live store vs = counted (is_live store vs) (length store)
