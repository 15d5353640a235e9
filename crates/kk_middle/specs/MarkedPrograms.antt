-- Counted programs whose variables are marked by the types that their shape tells.
use Rattle.std.specs.Prelude.{ℕ, Bool}
use Rattle.kk_syntax.specs.declared.ground.Ground.{Ground}
use Rattle.kk_counted.specs.declared.counted.Counted.{Counted}
use Rattle.kk_counted.specs.Marks.{marks_of, AreMarked}
use Rattle.kk_counted.specs.Programs.{program_of}

-- a variable is marked exactly where its type has cells, by the shape of the program
abbrev pub IsMarkedByShape : Counted → Ground → Type 0
IsMarkedByShape made given =
    (holds : ℕ → ℕ → Bool)
    × AreMarked (marks_of made.shape.instances.items made.shape.constructors.items) holds
    (program_of made.functions.items given.texts.items)
