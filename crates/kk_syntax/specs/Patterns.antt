-- Patterns as mathematics: no pointers, no capacities. A type that holds a list of itself is declared together with that
-- list.
use Rattle.std.specs.Prelude.{ℕ, ℤ, List, [], ◌∷◌}
use Rattle.kk_syntax.specs.declared.program.Pat.{Pat}
use Rattle.kk_syntax.specs.declared.program.Pat.TheOpen.{Pat-F, Wildcard, Variable, Number, Constructor}
use Rattle.kk_syntax.specs.declared.program.Pat.TheFolds.{fold-Pat}

-- a pattern: `_`; a variable by its number; a number; a constructor by its number, and the patterns of its fields
mutual
  pub data Pattern : Type 0 where
    anything : Pattern
    variable : (of : ℕ) → Pattern
    exactly : (value : ℤ) → Pattern
    constructor : (by : ℕ) → (parts : Patterns) → Pattern

  pub data Patterns : Type 0 where
    no_part : Patterns
    part : (first : Pattern) → (rest : Patterns) → Patterns

-- a list of patterns as a list of its own type
abbrev pub patterns_of : List Pattern → Patterns
patterns_of [] = no_part
patterns_of (p ∷ ps) = part p (patterns_of ps)

-- a pattern of the program as such a pattern, its parts' given
abbrev pub pattern_step : Pat-F Pattern → Pattern
pattern_step Wildcard = anything
pattern_step (Variable of) = variable of
pattern_step (Number value) = exactly value
pattern_step (Constructor by parts) = constructor by (patterns_of parts.items)

-- a pattern of the program as such a pattern
abbrev pub pattern_tree : Pat → Pattern
pattern_tree = fold-Pat Pattern pattern_step
