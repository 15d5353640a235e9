-- Where a value is listed at a point of code.
use Rattle.std.specs.Prelude.{◌==◌, ℕ, List, [], ◌∷◌, Option, Some, None, cond}
use Rattle.rv_isa.specs.declared.placed.Listed.{Listed}

-- the listing of a value, the first one
abbrev pub listed_as : ℕ → List Listed → Option Listed
listed_as v [] = None
listed_as v (l ∷ ls) = cond (l.value == v) (Some l) (listed_as v ls)
