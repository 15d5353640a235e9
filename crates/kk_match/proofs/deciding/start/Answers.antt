use Rattle.std.proofs.Common.{ℕ, ◌+◌, List, map, drop, ap, ◌∙◌}
use Rattle.kk_match.specs.Graphs.{LineTree, lines_of}
use Rattle.kk_match.specs.Parts.{Part}
use Rattle.kk_match.specs.Views.{part_of, line_tree}
use Rattle.kk_match.proofs.Loops.{left_at, one_made}
use Rattle.kk_match.proofs.deciding.start.Goals as goal

abbrev line_of : ℕ → List Part → LineTree
line_of row left = record { row = row; left = left }

pub loop-row-preserved : goal.loop-row-preserved
loop-row-preserved c =
    let questions = c.args.questions.now in
    let at = c.loop-row.row in
    let asked = c.index-questions-row.result in
    one_made line_tree c.loop-row.lines.items c.push.new.self.items c.in_ok-line.line (line_of at (map part_of asked.items))
    (lines_of at (map (λ qs. map part_of qs.items) (drop at questions)))
    (lines_of (at + 1) (map (λ qs. map part_of qs.items) (drop (at + 1) questions)))
    (lines_of 0 (map (λ qs. map part_of qs.items) questions)) c.in_ok-push.ensures.items
    (c.in_ok-line.ensures
    ∙ (ap (λ n. line_of n (map part_of c.deref.result.now)) c.in_ok-row.ensures
    ∙ ap (λ qs. line_of at (map part_of qs)) c.deref.ensures.value))
    (left_at (λ qs. lines_of at (map (λ q. map part_of q.items) qs)) questions at asked c.index-questions-row.is c.loop-row-test.true)
    c.loop-row.invariant
