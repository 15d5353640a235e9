-- When the rows of a match are covered.
use Rattle.std.specs.Prelude.{List, [], ◌∷◌}
use Rattle.kk_syntax.specs.Outlines.{Outline, outline_of, Clash}
use Rattle.kk_syntax.specs.OfType.{Values, IsPatternOf}
use Rattle.kk_syntax.specs.Trees.{Rows, no_row, row, pattern_of_row}

-- each element of a list has a property
abbrev pub Each : {X : Type 0} → (X → Type 0) → List X → Type 0
Each P [] = Unit {0}
Each P (x ∷ xs) = P x × Each P xs

-- Rows at a type miss an outline: it is of that type, and clashes with each row. Its numbers may be of any size.
pub record IsMissed {T : Type 0} (values : Values T) (t : T) (rows : List Outline) (e : Outline) : Type 0 where
  pub typed : IsPatternOf values t e
  pub clashes : Each (Clash e) rows

-- rows are covered at a type where they miss nothing
abbrev pub IsCovered : {T : Type 0} → Values T → T → List Outline → Type 0
IsCovered values t rows = (e : Outline) → IsMissed values t rows e → ⊥

-- the rows of a match: what their patterns ask
abbrev pub asked_by : Rows → List Outline
asked_by no_row = []
asked_by (row first rest) = outline_of (pattern_of_row first) ∷ asked_by rest
