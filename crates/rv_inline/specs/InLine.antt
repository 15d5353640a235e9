-- Calls in line. A leaf is a function that computes a value from its parameters alone, one line after the other. In place of a call of
-- it may stand its lines, over values of the caller. The line in front of them ends the run where there is no room for a frame, as the
-- call would. The line behind them copies the value of the leaf to where the result of the call goes.
use Rattle.std.specs.Prelude.{◌≡◌, ◌+◌, ◌≤◌, ◌⊎◌, ℕ, zero, suc, List, [], ◌∷◌, ◌++◌, Option, Some, None, Bool, true, false, map, length, option_map, slice_get}
use Rattle.std.specs.List.{AllByRecursion}
use Rattle.rv_isa.specs.declared.asm.Action.{Action}
use Rattle.rv_isa.specs.declared.asm.Action.TheVariants.{Compute, Call, Return, Room}
use Rattle.rv_isa.specs.declared.asm.Operation.{Operation}
use Rattle.rv_isa.specs.declared.asm.Operation.TheVariants.{Register, Immediate, Shift, Li, Mv, La}
use Rattle.rv_isa.specs.AsmCode.{Line, Lines}
use Rattle.rv_isa.specs.ValueBounds.{HasValuesBelow}
use Rattle.rv_isa.specs.WellFormed.{most_values}

-- ---- leaves

-- an operation that does nothing but compute a word from its arguments
abbrev pub is_pure : Operation → Bool
is_pure (Register operation) = true
is_pure (Immediate operation immediate) = true
is_pure (Shift operation amount) = true
is_pure (Li word) = true
is_pure Mv = true
is_pure (La constant) = true
is_pure _ = false

abbrev pub computes : Action → Bool
computes (Compute operation) = is_pure operation
computes _ = false

-- a value is written, and it is this number or a greater one
abbrev pub IsWrittenFrom : ℕ → Option ℕ → Type 0
IsWrittenFrom low None = ⊥
IsWrittenFrom low (Some v) = low ≤ v

-- A line that computes a value. It writes no parameter: these are the numbers below the count.
abbrev pub IsComputing : ℕ → Line → Type 0
IsComputing count line = (computes line.action ≡ true) × IsWrittenFrom count line.into

abbrev pub AreComputing : ℕ → List Line → Type 0
AreComputing count lines = AllByRecursion (IsComputing count) lines

-- these values are a number, the next one, and so on
abbrev pub AreFrom : ℕ → List ℕ → Type 0
AreFrom n [] = Unit {0}
AreFrom n (v ∷ values) = (v ≡ n) × AreFrom (suc n) values

-- the most values of a leaf besides its parameters, and so the most that a function gets for its calls in line
abbrev pub most_fresh : ℕ
most_fresh = 7

-- the line that gives a value back
abbrev pub gives_back : ℕ → Line
gives_back value = record { action = Return; args = value ∷ []; into = None }

-- A leaf. The body is its lines that compute, and behind these it gives the value back. Its parameters are 0, 1 and so on, and it has
-- few other values.
pub record IsLeaf (leaf : Lines) (body : List Line) (value : ℕ) : Type 0 where
  pub params : AreFrom 0 leaf.params
  pub code : leaf.code ≡ body ++ (gives_back value ∷ [])
  pub computing : AreComputing (length leaf.params) body
  pub few : HasValuesBelow (length leaf.params + most_fresh) leaf

-- ---- in line

-- The value of the caller that stands for a value of a leaf, in a call with these arguments: for a parameter the argument, and for the
-- other values new ones, which are numbered from the base on. All values of the caller itself are below the base.
abbrev pub named : ℕ → List ℕ → ℕ → ℕ
named base [] v = base + v
named base (arg ∷ args) zero = arg
named base (arg ∷ args) (suc v) = named base args v

-- a line of a leaf over these values
abbrev pub named_line : ℕ → List ℕ → Line → Line
named_line base args line =
    record { action = line.action; args = map (named base args) line.args; into = option_map (named base args) line.into }

-- the line that asks for the room of a frame, and ends the run where there is none
abbrev pub room : Line
room = record { action = Room; args = []; into = None }

abbrev pub copy : ℕ → ℕ → Line
copy from to = record { action = Compute Mv; args = from ∷ []; into = Some to }

-- The lines in place of a call with these arguments of a leaf with this body and value, whose result goes to a value of the caller. Behind
-- them stands the rest of the code.
abbrev pub in_line : ℕ → List ℕ → List Line → ℕ → ℕ → List Line → List Line
in_line base args body value into rest = room ∷ (map (named_line base args) body ++ (copy (named base args value) into ∷ rest))

-- A line that may be put in line, in a function whose values are below the base: a call of a leaf, with an argument for each parameter.
-- The numbers of values leave room for those of the leaf.
pub record IsLeafCall (functions : List Lines) (base : ℕ) (line : Line) : Type 0 where
  pub function : ℕ
  pub into : ℕ
  pub leaf : Lines
  pub body : List Line
  pub value : ℕ
  pub calls : line.action ≡ Call function
  pub gives : line.into ≡ Some into
  pub leaf_is : slice_get functions function ≡ Some leaf
  pub is_leaf : IsLeaf leaf body value
  pub passes : length line.args ≡ length leaf.params
  pub fits : base + most_fresh ≤ most_values

-- the lines in place of that call
abbrev pub lines_for : {functions : List Lines} {base : ℕ} (line : Line) → IsLeafCall functions base line → List Line → List Line
lines_for {base = base} line call rest = in_line base line.args call.body call.value call.into rest

-- the code of a function whose values are below the base, and the same with some calls in line
abbrev pub AreInLine : List Lines → ℕ → List Line → List Line → Type 0
AreInLine functions base [] new = new ≡ []
AreInLine functions base (line ∷ old) new =
    ((rest : List Line) × ((new ≡ line ∷ rest) × AreInLine functions base old rest))
    ⊎ ((call : IsLeafCall functions base line) × ((rest : List Line) × ((new ≡ lines_for line call rest)
    × AreInLine functions base old rest)))

-- A function, and the same with some calls in line. The base is the least number that all its values are below. All its calls in line use
-- the same values from the base on.
pub record IsInLine (functions : List Lines) (base : ℕ) (old new : Lines) : Type 0 where
  pub params : new.params ≡ old.params
  pub below : HasValuesBelow base old
  pub least : (most : ℕ) → HasValuesBelow most old → base ≤ most
  pub code : AreInLine functions base old.code new.code

-- some functions of a program, and the same with some calls in line
abbrev pub HaveInLine : List Lines → List Lines → List Lines → Type 0
HaveInLine functions [] [] = Unit {0}
HaveInLine functions [] (new ∷ news) = ⊥
HaveInLine functions (old ∷ olds) [] = ⊥
HaveInLine functions (old ∷ olds) (new ∷ news) = ((base : ℕ) × IsInLine functions base old new) × HaveInLine functions olds news

-- a program, and the same with some calls in line: each function keeps its number, leaves too
abbrev pub HasInLine : List Lines → List Lines → Type 0
HasInLine old new = HaveInLine old old new
