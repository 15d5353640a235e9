-- When code with places is the code over values that it was made of: one condition a definition.
use Rattle.std.specs.Prelude.{◌≡◌, ◌≢◌, ◌⊎◌, ℕ, List, [], ◌∷◌, Option, Some, None, Bool, true, false, not, ◌==◌, map, option_map, ⊤, All, IsSome, IsTrue, IsSomeAnd}
use Rattle.std.specs.List.{position_from}
use Rattle.std.specs.List.{AllByRecursion}
use Rattle.rv_isa.specs.AsmCode.{Line, Lines}
use Rattle.rv_isa.specs.declared.register.Register.{Register}
use Rattle.rv_isa.specs.declared.asm.Action.{Action}
use Rattle.rv_isa.specs.declared.placed.Place.{Place}
use Rattle.rv_isa.specs.declared.placed.Place.TheVariants.{Register as register, Slot as slot}
use Rattle.rv_isa.specs.declared.placed.Operand.{Operand}
use Rattle.rv_isa.specs.declared.placed.Listed.{Listed}
use Rattle.rv_isa.specs.PlacedCode.{PlacedLine, does, moves, PlacedLines, from_of, to_of}
use Rattle.rv_isa.specs.PlacedMachine.{unless_lost}
use Rattle.rv_isa.specs.Conventions.{is_handed_out, is_of_constant, may_write, is_in, argument, conforms}
use Rattle.rv_regs.specs.Listings.{first_alive, alive_behind, alive_at_label, both_of, listed_as, with_copy, is_read_in, spoils_by, marks}

abbrev pub value_of : Operand → ℕ
value_of operand = operand.value

-- 1. The code without its moves and places.
abbrev pub without_moves : List PlacedLine → List Line
without_moves [] = []
without_moves (does alive action args into ∷ code) = record { action = action; args = map value_of args; into = option_map value_of into } ∷ without_moves code
without_moves (moves alive value way ∷ code) = without_moves code

-- 2. What is listed is read there, or listed at a next point and not written here. (The other half: what is read is listed, by
-- 5; and what is listed at a next point is written or listed here, by 6 and 7.)
abbrev pub IsRead : List Operand → ℕ → Type 0
IsRead reads v = IsTrue (is_read_in reads v)

abbrev pub IsWritten : Option Operand → ℕ → Type 0
IsWritten None v = ⊥
IsWritten (Some into) v = into.value ≡ v

abbrev pub IsListed : List Listed → ℕ → Type 0
IsListed alive v = IsSome (listed_as v alive)

abbrev pub IsListedIn : List (List Listed) → ℕ → Type 0
IsListedIn [] v = ⊥
IsListedIn (next ∷ nexts) v = IsListed next v ⊎ IsListedIn nexts v

abbrev pub IsNeeded : List Operand → Option Operand → List (List Listed) → Listed → Type 0
IsNeeded reads write nexts l = IsRead reads l.value ⊎ ((IsWritten write l.value → ⊥) × IsListedIn nexts l.value)

-- 3. At the start only parameters are listed, each in the register where callers put it, the n-th in a<n>, and without a copy.
-- And each operand stands where its action takes or gives it: `conforms`. A move has its value to read and to write.
unfoldable pub IsPassed : List ℕ → Listed → Type 0
IsPassed params l =
    IsSomeAnd (position_from (λ (param : ℕ). param == l.value) 0 params) (λ n. IsTrue (is_in (argument n) l.place) × ((l.held ≡ false) × (l.copy ≡ None)))

-- 4. Values that are listed at one point are different, and so are their places. (Copies need not be.)
abbrev pub AreApart : Listed → Listed → Type 0
AreApart l m = (l.value ≢ m.value) × (l.place ≢ m.place)

abbrev pub Apart : List Listed → Type 0
Apart [] = ⊤
Apart (l ∷ ls) = All (AreApart l) ls × Apart ls

-- Where a listed value stands: at its place, and in the register of its copy if it has one.
abbrev pub OnCopy : (Place → Type 0) → Option Register → Type 0
OnCopy P None = ⊤
OnCopy P (Some r) = P (register r)

abbrev pub AtBoth : (Place → Type 0) → Listed → Type 0
AtBoth P l = P l.place × OnCopy P l.copy

abbrev pub IsCopyAt : Option Register → Place → Type 0
IsCopyAt None place = ⊥
IsCopyAt (Some r) place = register r ≡ place

-- 5. What is read stands at its value's listed place, or in the register of its copy.
abbrev pub StandsAt : Place → Listed → Type 0
StandsAt place l = (l.place ≡ place) ⊎ IsCopyAt l.copy place

abbrev pub IsAtPlace : List Listed → Operand → Type 0
IsAtPlace alive read = IsSomeAnd (listed_as read.value alive) (StandsAt read.place)

-- 6. What is written stands at its new place where it is listed next, is not held there, and has no copy.
abbrev pub IsNew : Option Operand → Listed → Type 0
IsNew None l = ⊥
IsNew (Some into) l = (into.value ≡ l.value) × ((into.place ≡ l.place) × ((l.held ≡ false) × (l.copy ≡ None)))

-- 6b. Or, behind a move into a register, the moved value is listed as before, and this register has its copy. Or, behind a move from
-- its place, a register, to a slot, it is listed at the slot, and the register has its copy.
abbrev pub HasCopyIn : List Listed → Place → Listed → Type 0
HasCopyIn alive (register r) l = option_map (with_copy (Some r)) (listed_as l.value alive) ≡ Some l
HasCopyIn alive (slot k) l = (l.place ≡ slot k) × ((l.held ≡ false) × IsSomeAnd (listed_as l.value alive) (λ before. IsCopyAt l.copy before.place))

abbrev pub IsCopied : List Listed → Option Action → Option Operand → Listed → Type 0
IsCopied alive None None l = ⊥
IsCopied alive None (Some into) l = (into.value ≡ l.value) × HasCopyIn alive into.place l
IsCopied alive (Some action) write l = ⊥

-- 7. What is listed next and not written is listed here, at the same place, held if it is held behind the line, and with the
-- same copy, or with none. Or it is listed next at its copy alone.
abbrev pub IsAtCopy : List Listed → Listed → Type 0
IsAtCopy alive l = IsSomeAnd (listed_as l.value alive) (λ before. IsCopyAt before.copy l.place) × ((l.held ≡ false) × (l.copy ≡ None))

abbrev pub StaysListed : List Listed → (Listed → Listed) → Listed → Type 0
StaysListed alive marking l =
    (option_map marking (listed_as l.value alive) ≡ Some l)
    ⊎ ((option_map (λ m. with_copy None (marking m)) (listed_as l.value alive) ≡ Some l) ⊎ IsAtCopy alive l)

-- 8. It is not at the place that is written, nor is its copy.
abbrev pub IsClearOf : Option Operand → Listed → Type 0
IsClearOf None l = ⊤
IsClearOf (Some into) l = (into.value ≢ l.value) × AtBoth (λ place. into.place ≢ place) l

-- 10. It is not in a register that may change, nor is its copy.
abbrev pub IsSafe : (ℕ → Bool) → Place → Type 0
IsSafe spoilt (register r) = spoilt r.number ≡ false
IsSafe spoilt (slot k) = ⊤

-- 6, 6b, or 7, 8 and 10 for a value that is listed next. (A word that is lost is written nowhere.)
abbrev pub written_by : Option Action → Option Operand → Option Operand
written_by None write = write
written_by (Some action) write = unless_lost action write

abbrev pub IsKept : List Listed → Option Action → List Operand → Option Operand → Listed → Type 0
IsKept alive action reads write l =
    IsNew (written_by action write) l ⊎ (IsCopied alive action write l
    ⊎ (StaysListed alive (marks action reads) l × (IsClearOf write l × AtBoth (IsSafe (spoils_by action)) l)))

-- 9. Registers of values, and of their copies, are handed out. One that holds a word always is written by that word alone, and by no move.
abbrev pub IsHandedOut : Place → Type 0
IsHandedOut (register r) = is_handed_out r.number ≡ true
IsHandedOut (slot k) = ⊤

abbrev pub may_set : Option Action → Place → Bool
may_set None place = not (is_of_constant place)
may_set (Some action) place = may_write action place

abbrev pub WriteIsHandedOut : Option Action → Option Operand → Type 0
WriteIsHandedOut action None = ⊤
WriteIsHandedOut action (Some into) = IsHandedOut into.place × (may_set action into.place ≡ true)

-- 11. A token that is held behind the line stands in a slot, and stays there, held and without a copy, at each next point.
abbrev pub IsInSlot : Place → Type 0
IsInSlot (register r) = ⊥
IsInSlot (slot k) = ⊤

abbrev pub StaysHeld : (Listed → Listed) → List (List Listed) → Listed → Type 0
StaysHeld marking nexts l =
    (marking l).held ≡ true → IsInSlot l.place × AllByRecursion (λ next. listed_as l.value next ≡ Some (with_copy None (marking l))) nexts

-- All of it for a line: what is alive before it, what it reads and writes, its action if it is no move, and what is alive at
-- each point where it goes on.
pub record Fits (alive : List Listed) (reads : List Operand) (write : Option Operand) (action : Option Action) (nexts : List (List Listed)) : Type 0 where
  pub needed : All (IsNeeded reads write nexts) alive
  pub apart : Apart alive
  pub stand : All (IsAtPlace alive) reads
  pub kept : AllByRecursion (All (IsKept alive action reads write)) nexts
  pub handed_out : All (AtBoth IsHandedOut) alive
  pub write_handed_out : WriteIsHandedOut action write
  pub held : All (StaysHeld (marks action reads) nexts) alive

-- a move goes on at the next line
abbrev pub LineFits : List PlacedLine → List PlacedLine → PlacedLine → Type 0
LineFits whole rest (does alive action args into) =
    (conforms action args into ≡ true) × Fits alive args into (Some action) (both_of (alive_behind rest action) (alive_at_label whole action))
LineFits whole rest (moves alive value way) =
    Fits alive (record { value = value; place = from_of way } ∷ []) (Some (record { value = value; place = to_of way })) None (first_alive rest ∷ [])

-- each line of a function, `whole`, from one on
abbrev pub AllFit : List PlacedLine → List PlacedLine → Type 0
AllFit whole [] = ⊤
AllFit whole (line ∷ rest) = LineFits whole rest line × AllFit whole rest

-- a function with places is one over values
pub record IsPlacing (function : Lines) (placed : PlacedLines) : Type 0 where
  pub params : placed.params ≡ function.params
  pub code : without_moves placed.code ≡ function.code
  pub start : All (IsPassed function.params) (first_alive placed.code)
  pub fit : AllFit placed.code placed.code

abbrev pub ArePlacings : List Lines → List PlacedLines → Type 0
ArePlacings [] [] = ⊤
ArePlacings [] (placed ∷ more) = ⊥
ArePlacings (function ∷ functions) [] = ⊥
ArePlacings (function ∷ functions) (placed ∷ more) = IsPlacing function placed × ArePlacings functions more
