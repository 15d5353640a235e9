-- Code of the placed form: what is alive at its points, and where it goes on.
use Rattle.std.specs.Prelude.{◌==◌, ◌||◌, ℕ, List, [], ◌∷◌, Option, Some, None, Bool, true, false, cond, option_map}
use Rattle.rv_isa.specs.declared.register.Register.{Register}
use Rattle.rv_isa.specs.declared.asm.Action.{Action}
use Rattle.rv_isa.specs.declared.asm.Action.TheVariants.{Jump, Branch, TailCall, Return, Hold, Unhold}
use Rattle.rv_isa.specs.declared.placed.Operand.{Operand}
use Rattle.rv_isa.specs.declared.placed.Listed.{Listed}
use Rattle.rv_isa.specs.PlacedCode.{PlacedLine, does, moves}
use Rattle.rv_isa.specs.Conventions.{spoils}
use Rattle.rv_isa.specs.Frames.{found}
use Rattle.rv_isa.specs.PlacedMachine.{is_label_line}
pub use Rattle.rv_propose.specs.Listings.{listed_as}

-- the values that are alive before a line
abbrev pub alive_before : PlacedLine → List Listed
alive_before (does alive action args into) = alive
alive_before (moves alive value way) = alive

-- what is alive at the begin of code; behind the end, nothing
abbrev pub first_alive : List PlacedLine → List Listed
first_alive [] = []
first_alive (line ∷ code) = alive_before line

-- what is alive behind a line that goes on at the next
abbrev pub alive_behind : List PlacedLine → Action → Option (List Listed)
alive_behind rest (Jump l) = None
alive_behind rest (TailCall f) = None
alive_behind rest Return = None
alive_behind rest _ = Some (first_alive rest)

-- what is alive at the label where it may go on, if that is there
abbrev pub alive_at_label : List PlacedLine → Action → Option (List Listed)
alive_at_label whole (Jump l) = option_map first_alive (found (is_label_line l) whole)
alive_at_label whole (Branch condition l) = option_map first_alive (found (is_label_line l) whole)
alive_at_label whole _ = None

-- the two of them, where they are there
abbrev pub one_if : {A : Type 0} → Option A → List A → List A
one_if None more = more
one_if (Some a) more = a ∷ more

abbrev pub both_of : {A : Type 0} → Option A → Option A → List A
both_of a b = one_if a (one_if b [])

abbrev pub is_read_in : List Operand → ℕ → Bool
is_read_in [] v = false
is_read_in (arg ∷ args) v = (arg.value == v) || is_read_in args v

-- whether a value is the first one that is read
abbrev pub is_first_read : List Operand → ℕ → Bool
is_first_read [] v = false
is_first_read (arg ∷ args) v = arg.value == v

-- A move is no action. Whether a line may change a register, besides what it writes:
abbrev pub spoils_by : Option Action → ℕ → Bool
spoils_by None x = false
spoils_by (Some action) x = spoils action x

-- The listing behind a line of what is listed before it: a token is held from its Hold, of which it is the first argument, to its
-- Unhold.
abbrev pub marks : Option Action → List Operand → Listed → Listed
marks (Some Hold) reads l = cond (is_first_read reads l.value) (record l { held = true }) l
marks (Some Unhold) reads l = cond (is_read_in reads l.value) (record l { held = false }) l
marks _ reads l = l

-- the listing with this copy, or with none
abbrev pub with_copy : Option Register → Listed → Listed
with_copy copy l = record l { copy = copy }
