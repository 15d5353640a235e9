-- How an example is written.
use Rattle.std.specs.Prelude.{ℕ, List, [], ◌++◌, codes, slice_index_or}
use Rattle.std.specs.Fmt.{signed_decimal}
use Rattle.kk_syntax.specs.Programs.{ProgramTree, no_constructor}
use Rattle.kk_syntax.specs.Outlines.{Outline, any, exactly, made, Outlines, no_outline, outline}

abbrev pub constructor_name : ProgramTree → ℕ → List ℕ
constructor_name program c = (slice_index_or program.constructors c no_constructor).name

-- `_` where nothing is asked; a number in decimal; and a constructor's name, with its parts, if any, in brackets and `, `
-- between them
abbrev mutual
  pub spelled : ProgramTree → Outline → List ℕ
  spelled program any = codes "_"
  spelled program (exactly n) = signed_decimal n
  spelled program (made c parts) = constructor_name program c ++ spelled_parts program parts

  pub spelled_parts : ProgramTree → Outlines → List ℕ
  spelled_parts program no_outline = []
  spelled_parts program (outline p ps) = codes "(" ++ (spelled program p ++ spelled_more program ps)

  pub spelled_more : ProgramTree → Outlines → List ℕ
  spelled_more program no_outline = codes ")"
  spelled_more program (outline p ps) = codes ", " ++ (spelled program p ++ spelled_more program ps)

-- the parts from some place on: the first has this before it
abbrev pub spelled_from : ProgramTree → List ℕ → Outlines → List ℕ
spelled_from program before no_outline = codes ")"
spelled_from program before (outline p ps) = before ++ (spelled program p ++ spelled_more program ps)
