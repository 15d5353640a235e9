-- The rows of a match, as they are read one by one.
use Rattle.std.proofs.Common.{◌≡◌, List, [], ◌∷◌, ◌++◌, map, Result, Ok, Err, IsErrAnd, ap, sym, ◌∙◌, subst}
use Rattle.std.proofs.lemmas.List.{map-append}
use Rattle.std.specs.Global.{Box}
use Rattle.kk_syntax.specs.declared.tree.SurfaceExpr.{SurfaceExpr}
use Rattle.kk_syntax.specs.declared.tree.SurfacePattern.{SurfacePattern}
use Rattle.kk_syntax.specs.declared.tree.SurfaceRow.{SurfaceRow}
use Rattle.kk_syntax.specs.Surface.{WrittenPattern, Written, WrittenRow, written_expr, written_pattern, written_row}
use Rattle.kk_parser.specs.declared.fault.Fault.{Fault}
use Rattle.kk_parser.specs.declared.parser.Parser.{Parser}
use Rattle.kk_parser.specs.Methods.{FailedBy, ReadsRow}
use Rattle.kk_parser.specs.Phrases.{Phrase, rule, row}
use Rattle.kk_parser.specs.Reading.{Failure, ReadingFails}
use Rattle.kk_parser.specs.Views.{boxed_expr, boxed_pattern}
use Rattle.kk_parser.proofs.Steps.{passed_on}
use Rattle.kk_parser.proofs.Trees.{written-row}
use Rattle.kk_parser.specs.Depths.{most_levels}

pub gives_up_row : (before after : List WrittenRow) (q : Phrase) (r : Result (Unit {0}) Fault) (e : Fault) (old mid new : Parser) →
    ((f : Failure) → ReadingFails most_levels q mid.depth mid.rest.now f → ReadingFails most_levels (rule row) old.depth old.rest.now f) → IsErrAnd
    r (λ y. y ≡ e) → FailedBy e q mid new → ReadsRow before after r old new
gives_up_row before after q (Ok x) e old mid new t i h = absurd i
gives_up_row before after q (Err y) e old mid new t i h = subst (λ x. FailedBy x (rule row) old new) (sym i)
    (passed_on (rule row) q old mid new t e h)

abbrev row_of : WrittenPattern → Written → WrittenRow
row_of pattern body = record { pattern = pattern; body = body }

-- a row was put behind others
pub put_row : (before after : List SurfaceRow) (pattern : Box SurfacePattern) (body : Box SurfaceExpr) (p : SurfacePattern)
    (e : SurfaceExpr) → p ≡ pattern.value → e ≡ body.value → after ≡ before ++ record { pattern = p; body = e } ∷ [] → map
    written_row after ≡ map written_row before ++ record { pattern = boxed_pattern pattern; body = boxed_expr body } ∷ []
put_row before after pattern body p e i j is =
    let r : SurfaceRow = record { pattern = p; body = e } in
    ap (map written_row) is ∙ map-append written_row before (r ∷ [])
    ∙ ap (λ x. map written_row before ++ x ∷ []) (written-row r ∙ ap (λ q. row_of (written_pattern q) (written_expr e)) i ∙ ap
    (λ x. row_of (boxed_pattern pattern) (written_expr x)) j)
