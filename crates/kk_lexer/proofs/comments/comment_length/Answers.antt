use Rattle.std.proofs.Common.{◌≡◌, subst, arith}
use Rattle.kk_lexer.proofs.CommentLemmas.{Nests, Nests-closed, open_step, close_step, other_step, end_step}
use Rattle.kk_lexer.proofs.comments.comment_length.Goals as goal

pub loop-depth-preserved-in-Open : goal.loop-depth-preserved-in-Open
loop-depth-preserved-in-Open c =
    let l = c.loop-depth.invariant in
    let step = open_step _ _ _ l.in_range c.loop-depth-test.true l.nests c.in-Open.ensures in
    record { in_range = step.0; few = omega (arith, l.few); nests = step.1 }

pub loop-depth-preserved-in-Close : goal.loop-depth-preserved-in-Close
loop-depth-preserved-in-Close c =
    let l = c.loop-depth.invariant in
    let step = close_step _ _ _ l.in_range c.loop-depth-test.true l.nests c.in-Close.ensures in
    record { in_range = step.0; few = omega (arith, l.few); nests = step.1 }

pub loop-depth-preserved : goal.loop-depth-preserved
loop-depth-preserved c =
    let l = c.loop-depth.invariant in
    let step = other_step _ _ _ l.in_range c.loop-depth-test.true l.nests c.in-Other.ensures in
    record { in_range = step.0; few = omega (arith, l.few); nests = step.1 }

pub returns-in-End : goal.returns-in-End
returns-in-End c = let l = c.loop-depth.invariant in end_step _ _ _ l.in_range c.loop-depth-test.true l.nests c.in-End.ensures

pub returns : goal.returns
returns c =
    let l = c.loop-depth.invariant in
    let all_closed : c.loop-depth.depth ≡ 0 = omega (arith, c.loop-depth-test.false) in
    Nests-closed _ _ (subst (Nests _ _) all_closed l.nests)
