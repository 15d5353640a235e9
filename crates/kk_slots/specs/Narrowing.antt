-- Rows of several patterns, one for each position, and what is left of them once the first position is known.
use Rattle.std.specs.Prelude.{ℕ, ◌==◌, zero, suc, Bool, true, false, List, [], ◌∷◌, Option, None, Some}
use Rattle.kk_syntax.specs.Covered.{Each}
use Rattle.kk_syntax.specs.Outlines.{Outline, any, exactly, made, Outlines, no_outline, outline, ClashIn}
use Rattle.kk_syntax.specs.OfType.{Values, ArePatternsOf}

-- rows of several positions miss patterns: these are of the positions' types, and clash with each row
pub record IsMissedIn {T : Type 0} (values : Values T) (ts : List T) (rows : List Outlines) (es : Outlines) : Type 0 where
  pub typed : ArePatternsOf values ts es
  pub clashes : Each (ClashIn es) rows

abbrev pub IsCoveredIn : {T : Type 0} → Values T → List T → List Outlines → Type 0
IsCoveredIn values ts rows = (es : Outlines) → IsMissedIn values ts rows es → ⊥

abbrev pub join : Outlines → Outlines → Outlines
join no_outline qs = qs
join (outline p ps) qs = outline p (join ps qs)

-- so many wildcards
abbrev pub anys : ℕ → Outlines
anys zero = no_outline
anys (suc k) = outline any (anys k)

-- the first so many, and those behind them
abbrev pub front : ℕ → Outlines → Outlines
front zero es = no_outline
front (suc k) no_outline = no_outline
front (suc k) (outline e es) = outline e (front k es)

abbrev pub back : ℕ → Outlines → Outlines
back zero es = es
back (suc k) no_outline = no_outline
back (suc k) (outline e es) = back k es

-- the first, or `_` where there is none
abbrev pub top : Outlines → Outline
top no_outline = any
top (outline e es) = e

abbrev pub if_so : {X : Type 0} → Bool → X → Option X
if_so true x = Some x
if_so false x = None

-- The row for values whose first position is made by a constructor of so many fields: the fields come first. None where
-- no such value fits the row.
abbrev pub narrow : ℕ → ℕ → Outlines → Option Outlines
narrow c k no_outline = None
narrow c k (outline any ps) = Some (join (anys k) ps)
narrow c k (outline (exactly n) ps) = None
narrow c k (outline (made d qs) ps) = if_so (d == c) (join qs ps)

-- the row without its first position, if that asks nothing
abbrev pub open_row : Outlines → Option Outlines
open_row no_outline = None
open_row (outline any ps) = Some ps
open_row (outline (exactly n) ps) = None
open_row (outline (made d qs) ps) = None

abbrev pub kept : {X : Type 0} → Option X → List X → List X
kept None xs = xs
kept (Some x) xs = x ∷ xs

abbrev pub each_kept : {X : Type 0} → (X → Option X) → List X → List X
each_kept f [] = []
each_kept f (x ∷ xs) = kept (f x) (each_kept f xs)

abbrev pub narrowed : ℕ → ℕ → List Outlines → List Outlines
narrowed c k rows = each_kept (narrow c k) rows

abbrev pub opened : List Outlines → List Outlines
opened rows = each_kept open_row rows
