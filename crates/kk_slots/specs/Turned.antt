-- Rows whose first positions are turned to their end, so that the first row looks at the first position.
use Rattle.std.specs.Prelude.{◌≡◌, ℕ, suc, Bool, true, false, List, [], ◌∷◌, ◌++◌, length, map, Option, None, Some}
use Rattle.std.specs.Bool.{MatchBool}
use Rattle.kk_syntax.specs.Programs.{ProgramTree}
use Rattle.kk_syntax.specs.Types.{TypeTree}
use Rattle.kk_syntax.specs.Covered.{Each}
use Rattle.kk_syntax.specs.Outlines.{any, exactly, made, Outlines, no_outline, outline}
use Rattle.kk_syntax.specs.OfType.{ArePatternsOf, values_of}
use Rattle.kk_slots.specs.Narrowing.{IsMissedIn, IsCoveredIn, join, front, back}
use Rattle.kk_slots.specs.Problems.{OpenProblem}

abbrev pub rotated : ℕ → Outlines → Outlines
rotated k ps = join (back k ps) (front k ps)

-- how many positions of a row ask nothing before the first that asks something
abbrev pub leading : Outlines → ℕ
leading no_outline = 0
leading (outline any ps) = suc (leading ps)
leading (outline (exactly n) ps) = 0
leading (outline (made c qs) ps) = 0

abbrev pub first_leading : List Outlines → ℕ
first_leading [] = 0
first_leading (row ∷ rows) = leading row

abbrev pub turned : OpenProblem → OpenProblem
turned p = record { path = p.path; rows = map (rotated (first_leading p.rows)) p.rows; width = p.width }

-- whether the rows of a problem are covered, at all types at which they are typed; else they miss something
abbrev pub Tells : ProgramTree → OpenProblem → Bool → Type 0
Tells program p covered =
    (ts : List TypeTree) → length ts ≡ p.width → Each (ArePatternsOf (values_of program.constructors) ts) p.rows
    → MatchBool covered (IsCoveredIn (values_of program.constructors) ts p.rows) ((es : Outlines) × IsMissedIn (values_of program.constructors) ts p.rows es)

-- a problem of some that is not covered, where those behind it are
pub record Picked (program : ProgramTree) (ps : List OpenProblem) (q : OpenProblem) : Type 0 where
  pub before : List OpenProblem
  pub behind : List OpenProblem
  pub place : ps ≡ before ++ (q ∷ behind)
  pub tells : Tells program q false

-- the last of some problems that is not covered, if any
abbrev pub Picks : ProgramTree → List OpenProblem → Option OpenProblem → Type 0
Picks program ps None = Each (λ p. Tells program p true) ps
Picks program ps (Some q) = Picked program ps q
