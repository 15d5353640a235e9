-- The text of an example, in pieces.
use Rattle.std.proofs.Common.{◌≡◌, ◌==◌, false, List, [], ◌∷◌, length, map, refl}
use Rattle.std.proofs.lemmas.Bool.{both_ways}
use Rattle.std.specs.Prelude.{codes}
use Rattle.kk_syntax.specs.declared.program.Pat.{Pat}
use Rattle.kk_syntax.specs.Programs.{ProgramTree}
use Rattle.kk_syntax.specs.Outlines.{outline_list, pattern_outline}
use Rattle.kk_cover.specs.ExampleSpelling.{spelled_parts, spelled_from}

-- the brackets of parts, of which there are some
pub from_start : (program : ProgramTree) (parts : List Pat) → (length parts == 0) ≡ false → spelled_from program (codes "(") (outline_list (map pattern_outline parts)) ≡ spelled_parts program (outline_list (map pattern_outline parts))
from_start program [] some = absurd (both_ways (length {A = Pat} [] == 0) some refl)
from_start program (p ∷ parts) some = refl
