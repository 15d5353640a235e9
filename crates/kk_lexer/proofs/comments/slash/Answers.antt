use Rattle.std.proofs.Common.{arith}
use Rattle.kk_lexer.proofs.FirstBytes.{line_begins, slash_begins}
use Rattle.kk_lexer.proofs.comments.slash.Goals as goal
use Rattle.kk_lexer.proofs.comments.slash.Goals.{then-text-gt1+else-text-eq47+else-text-eq42, else-text-gt1}

pub returns-then-text-eq47 : goal.returns-then-text-eq47
returns-then-text-eq47 c = λ signed.
    rw c.passed.ensures (line_begins signed c.args.at _ c.requires.slash c.if-text-gt1.true c.if-text-eq47.true _ c.line_length.ensures.value)

pub returns : goal.returns
returns c = λ signed. rw c.kept.ensures (slash_begins signed c.args.at _ c.requires.slash c.requires.text
    (λ long is. elim c.if-text-gt1.branch [ then-text-gt1+else-text-eq47+else-text-eq42 w ↦ w.if-text-eq47.false is | else-text-gt1 w ↦ omega arith ])
    (λ long is. elim c.if-text-gt1.branch [ then-text-gt1+else-text-eq47+else-text-eq42 w ↦ w.if-text-eq42.false is | else-text-gt1 w ↦ omega arith ]))
