-- How many cells a pattern opens.
use Rattle.std.specs.Prelude.{ℕ, suc, ◌+◌}
use Rattle.kk_syntax.specs.Patterns.{Pattern, anything, variable, exactly, constructor, Patterns, no_part, part}

-- the number of cells that a pattern opens: one for each constructor with fields
abbrev mutual
  pub openings : Pattern → ℕ
  openings anything = 0
  openings (variable x) = 0
  openings (exactly value) = 0
  openings (constructor c no_part) = 0
  openings (constructor c (part first rest)) = suc (openings first + openings_all rest)

  pub openings_all : Patterns → ℕ
  openings_all no_part = 0
  openings_all (part first rest) = openings first + openings_all rest
