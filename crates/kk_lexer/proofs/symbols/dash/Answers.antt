use Rattle.std.proofs.Common.{arith}
use Rattle.kk_lexer.proofs.FirstBytes.{arrow_begins, minus_begins}
use Rattle.kk_lexer.proofs.symbols.dash.Goals as goal
use Rattle.kk_lexer.proofs.symbols.dash.Goals.{then-text-gt1+else-signed+else-text-eq62, else-signed-via-then-signed+else-is_ascii_digit, else-signed-via-else-signed, else-text-gt1}

pub returns-then-text-eq62 : goal.returns-then-text-eq62
returns-then-text-eq62 c = rw c.kept.ensures (arrow_begins _ c.args.signed c.args.at c.if-text-gt1.true c.requires.dash c.if-text-eq62.true)

pub returns : goal.returns
returns c = rw c.kept-2.ensures (minus_begins _ c.args.signed c.args.at c.requires.text c.requires.dash
    (λ is_signed long digit. elim c.if-text-gt1.branch [
      | then-text-gt1+else-signed+else-text-eq62 w ↦ elim w.else-signed.branch [
        | else-signed-via-then-signed+else-is_ascii_digit w' ↦ cc w'.is_ascii_digit.ensures.value
        | else-signed-via-else-signed w' ↦ cc
      ]
      | else-text-gt1 w ↦ omega arith
    ])
    (λ long arrow. elim c.if-text-gt1.branch [ then-text-gt1+else-signed+else-text-eq62 w ↦ w.if-text-eq62.false arrow | else-text-gt1 w ↦ omega arith ]))
