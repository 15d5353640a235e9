-- The open problems of the search: rows that are left at positions that are left, and how those were reached.
use Rattle.std.specs.Prelude.{◌≡◌, ◌≢◌, ◌<◌, ◌≤◌, ◌⊎◌, ℕ, ◌+◌, ◌^◌, ◌==◌, zero, suc, ℤ, pos, Bool, true, false, List, [], ◌∷◌, ◌++◌, length, map, slice_index_or, cond}
use Rattle.std.specs.List.{list_any}
use Rattle.kk_syntax.specs.declared.program.Pat.{Pat}
use Rattle.kk_syntax.specs.Programs.{ProgramTree, no_constructor}
use Rattle.kk_slots.specs.declared.problem.Slot.{Slot}
use Rattle.kk_slots.specs.declared.problem.Slot.TheVariants as OfSlot
use Rattle.kk_slots.specs.declared.problem.Head.{Head}
use Rattle.kk_slots.specs.declared.problem.Head.TheVariants.{Free, Number, Constructor}
use Rattle.kk_slots.specs.declared.problem.Asked.{Asked}
use Rattle.kk_slots.specs.declared.problem.Asked.TheVariants as OfAsked
use Rattle.kk_slots.specs.declared.problem.Asked.TheVariants.{Nothing}
use Rattle.kk_slots.specs.declared.problem.Problem.{Problem}
use Rattle.kk_syntax.specs.Covered.{Each}
use Rattle.kk_syntax.specs.Outlines.{Outline, any, exactly, made, Outlines, no_outline, outline, outline_list, pattern_outline}
use Rattle.kk_slots.specs.Narrowing.{front, back, narrowed, opened}

abbrev pub slot_outline : Slot → Outline
slot_outline OfSlot.Any = any
slot_outline (OfSlot.Number n) = exactly n
slot_outline (OfSlot.Constructor c parts) = made c (outline_list (map pattern_outline parts.now))

abbrev pub row_view : List Slot → Outlines
row_view slots = outline_list (map slot_outline slots)

-- the patterns of the positions from one on, with what is asked at that one put before the others
abbrev pub plug : Head → Outlines → Outlines
plug Free es = outline any es
plug (Number n) es = outline (exactly n) es
plug (Constructor c k) es = outline (made c (front k es)) (back k es)

abbrev pub built : List Head → Outlines → Outlines
built [] es = es
built (h ∷ hs) es = plug h (built hs es)

-- What was asked at the positions before, in their order, and the rows that are left, with so many positions each.
pub record OpenProblem : Type 0 where
  pub path : List Head
  pub rows : List Outlines
  pub width : ℕ

abbrev pub problem_view : Problem → OpenProblem
problem_view problem = record { path = problem.path.items; rows = map (λ row. row_view row.items) problem.rows.items; width = problem.width }

abbrev pub child : OpenProblem → Head → List Outlines → ℕ → OpenProblem
child problem head rows width = record { path = problem.path ++ (head ∷ []); rows = rows; width = width }

-- there are fewer rows than numbers of 32 bits from 0 up
abbrev pub IsFew : OpenProblem → Type 0
IsFew problem = length problem.rows < 2 ^ 31

-- a row that asks nothing
abbrev pub is_blank : Outlines → Bool
is_blank no_outline = true
is_blank (outline any ps) = is_blank ps
is_blank (outline (exactly n) ps) = false
is_blank (outline (made d qs) ps) = false

abbrev pub has_blank : List Outlines → Bool
has_blank rows = list_any is_blank rows

-- a row does not ask for a number first
abbrev pub LacksNumber : ℤ → Outlines → Type 0
LacksNumber n no_outline = Unit {0}
LacksNumber n (outline any ps) = Unit {0}
LacksNumber n (outline (exactly m) ps) = m ≢ n
LacksNumber n (outline (made d qs) ps) = Unit {0}

-- a number is the least from 0 up that no row asks for first
pub record IsLeastLacking (rows : List Outlines) (number : ℤ) : Type 0 where
  pub count : ℕ
  pub is : number ≡ pos count
  pub lacks : Each (LacksNumber number) rows
  pub least : (less : ℕ) → less < count → Each (LacksNumber (pos less)) rows → ⊥

-- whether a row asks for a constructor first
abbrev pub asks_for : ℕ → Outlines → Bool
asks_for c no_outline = false
asks_for c (outline any ps) = false
asks_for c (outline (exactly m) ps) = false
asks_for c (outline (made d qs) ps) = d == c

abbrev pub has_constructor : ℕ → List Outlines → Bool
has_constructor c rows = list_any (asks_for c) rows

-- what the first of the rows that asks for anything first asks for
abbrev pub asked : Outlines → Asked
asked no_outline = Nothing
asked (outline any ps) = Nothing
asked (outline (exactly n) ps) = OfAsked.Number
asked (outline (made c ps) qs) = OfAsked.Constructor c

abbrev pub or_else : Asked → Asked → Asked
or_else Nothing other = other
or_else OfAsked.Number other = OfAsked.Number
or_else (OfAsked.Constructor c) other = OfAsked.Constructor c

abbrev pub first_asked : List Outlines → Asked
first_asked [] = Nothing
first_asked (row ∷ rows) = or_else (asked row) (first_asked rows)

-- the constructors of a program, by their numbers: how many there are, of which type one is, and how many fields it has
abbrev pub owner : ProgramTree → ℕ → ℕ
owner program c = (slice_index_or program.constructors c no_constructor).of_type

abbrev pub arity : ProgramTree → ℕ → ℕ
arity program c = length (slice_index_or program.constructors c no_constructor).fields

-- the problem that is left once the first position is known to be made by a constructor
abbrev pub made_child : ProgramTree → OpenProblem → ℕ → ℕ → OpenProblem
made_child program problem width d = child problem (Constructor d (arity program d)) (narrowed d (arity program d) problem.rows) (arity program d + width)

-- those for the constructors of a type that stand before a place, the last one first
abbrev pub children : ProgramTree → ℕ → OpenProblem → ℕ → ℕ → List OpenProblem
children program of problem width zero = []
children program of problem width (suc d) = cond (owner program d == of) (made_child program problem width d ∷ children program of problem width d) (children program of problem width d)

-- these are enough: they are for all constructors of the type, or for one that no row asks for
abbrev pub IsEnough : ProgramTree → ℕ → List Outlines → ℕ → Type 0
IsEnough program of rows end = (end ≡ length program.constructors) ⊎ ((d : ℕ) × (end ≡ suc d) × (owner program d ≡ of) × (has_constructor d rows ≡ false))

-- what a problem comes down to, by what its rows ask first
abbrev pub StepsTo : ProgramTree → OpenProblem → ℕ → Asked → List OpenProblem → Type 0
StepsTo program p width Nothing after = after ≡ child p Free (opened p.rows) width ∷ []
StepsTo program p width OfAsked.Number after =
    (n : ℤ) × Each (LacksNumber n) p.rows × (after ≡ child p (Number n) (opened p.rows) width ∷ [])
StepsTo program p width (OfAsked.Constructor c) after =
    (end : ℕ) × (end ≤ length program.constructors) × IsEnough program (owner program c) p.rows end × (after ≡ children program (owner program c) p width end)

-- A problem is closed, since a row asks nothing or no position is left; or it comes down to others.
abbrev pub Settles : ProgramTree → OpenProblem → List OpenProblem → Type 0
Settles program p after =
    (((has_blank p.rows ≡ true) ⊎ ((p.width ≡ 0) × (0 < length p.rows))) × (after ≡ []))
    ⊎ ((width : ℕ) × (p.width ≡ suc width) × StepsTo program p width (first_asked p.rows) after)

-- what a problem is settled by: the open problems grow by those that it comes down to
pub record Settled (program : ProgramTree) (p : OpenProblem) (before after : List OpenProblem) : Type 0 where
  pub more : List OpenProblem
  pub settles : Settles program p more
  pub grown : after ≡ before ++ more

-- the patterns of a stack, whose first position stands last
abbrev pub stacked_on : List Outline → Outlines → Outlines
stacked_on [] es = es
stacked_on (p ∷ ps) es = stacked_on ps (outline p es)

abbrev pub stacked : List Pat → Outlines
stacked patterns = stacked_on (map pattern_outline patterns) no_outline
