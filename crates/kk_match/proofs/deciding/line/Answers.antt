use Rattle.std.proofs.Common.{◌+◌, map, drop, refl}
use Rattle.kk_match.specs.Views.{part_of}
use Rattle.kk_match.proofs.Loops.{left_at, one_made}
use Rattle.kk_match.proofs.deciding.line.Goals as goal

pub loop-question-preserved : goal.loop-question-preserved
loop-question-preserved c =
    let questions = c.args.questions.now in
    let at = c.loop-question.question-index in
    one_made (λ q. part_of q.now) c.loop-question.left.items c.push.new.self.items _ (part_of c.question-item.result)
    (map part_of (drop at questions)) (map part_of (drop (at + 1) questions)) (map part_of questions) c.in_ok-push.ensures.items refl
    (left_at (map part_of) questions at c.question-item.result c.question-item.is c.loop-question-test.true)
    c.loop-question.invariant
