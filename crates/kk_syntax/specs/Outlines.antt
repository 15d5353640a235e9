-- What patterns ask of values, and when two patterns clash.
use Rattle.std.specs.Prelude.{◌≢◌, ◌⊎◌, ℕ, ℤ, List, [], ◌∷◌, FitsSigned}
use Rattle.std.specs.Int.{w32}
use Rattle.kk_syntax.specs.declared.program.Pat.{Pat}
use Rattle.kk_syntax.specs.Patterns.{Pattern, anything, variable, exactly as number, constructor, Patterns, no_part, part, pattern_tree}

-- The outline of a pattern is what it asks of a value: nothing, as `_` and a variable do; to be a number; or to be made by
-- a constructor, with fields of these outlines.
mutual
  pub data Outline : Type 0 where
    any : Outline
    exactly : (value : ℤ) → Outline
    made : (by : ℕ) → (parts : Outlines) → Outline

  pub data Outlines : Type 0 where
    no_outline : Outlines
    outline : (first : Outline) → (rest : Outlines) → Outlines

abbrev mutual
  pub outline_of : Pattern → Outline
  outline_of anything = any
  outline_of (variable of) = any
  outline_of (number value) = exactly value
  outline_of (constructor by parts) = made by (outlines_of parts)

  pub outlines_of : Patterns → Outlines
  outlines_of no_part = no_outline
  outlines_of (part first rest) = outline (outline_of first) (outlines_of rest)

-- the outline of a pattern of the program
abbrev pub pattern_outline : Pat → Outline
pattern_outline pattern = outline_of (pattern_tree pattern)

-- a list of outlines as a list of its own type
abbrev pub outline_list : List Outline → Outlines
outline_list [] = no_outline
outline_list (p ∷ ps) = outline p (outline_list ps)

-- each number that is asked for fits into 32 bits
abbrev mutual
  pub HasSmallNumbers : Outline → Type 0
  HasSmallNumbers any = Unit {0}
  HasSmallNumbers (exactly n) = FitsSigned w32 n
  HasSmallNumbers (made by parts) = HaveSmallNumbers parts

  pub HaveSmallNumbers : Outlines → Type 0
  HaveSmallNumbers no_outline = Unit {0}
  HaveSmallNumbers (outline first rest) = HasSmallNumbers first × HaveSmallNumbers rest

-- Two patterns clash where, at a position that both reach, they have different constructors or different numbers. (A
-- number and a constructor differ too. No type has both.)
abbrev mutual
  pub Clash : Outline → Outline → Type 0
  Clash any q = ⊥
  Clash (exactly m) any = ⊥
  Clash (exactly m) (exactly n) = m ≢ n
  Clash (exactly m) (made d qs) = Unit {0}
  Clash (made c ps) any = ⊥
  Clash (made c ps) (exactly n) = Unit {0}
  Clash (made c ps) (made d qs) = (c ≢ d) ⊎ ClashIn ps qs

  pub ClashIn : Outlines → Outlines → Type 0
  ClashIn no_outline qs = ⊥
  ClashIn (outline p ps) no_outline = ⊥
  ClashIn (outline p ps) (outline q qs) = Clash p q ⊎ ClashIn ps qs
