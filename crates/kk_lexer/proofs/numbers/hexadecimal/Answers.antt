use Rattle.std.proofs.Common.{◌≡◌, get_or, sym, ◌∙◌, arith}
use Rattle.kk_lexer.proofs.NumberLemmas.{hexadecimal_none, hexadecimal_longest, hexadecimal_value}
use Rattle.kk_lexer.proofs.numbers.hexadecimal.Goals as goal

pub returns-then-length-eq0-clause-longest : goal.returns-then-length-eq0-clause-longest
returns-then-length-eq0-clause-longest c =
    let first : get_or c.args.text.now 0 0 ≡ 48 = omega arith in
    let second : get_or c.args.text.now 1 0 ≡ 120 = omega arith in
    hexadecimal_none c.args.text.now c.in-48.len_at_least first second (sym c.hexadecimal_digits-length.ensures.value ∙ c.if-length-eq0.true)

pub returns-else-length-eq0-clause-longest : goal.returns-else-length-eq0-clause-longest
returns-else-length-eq0-clause-longest c =
    let first : get_or c.args.text.now 0 0 ≡ 48 = omega arith in
    let second : get_or c.args.text.now 1 0 ≡ 120 = omega arith in
    hexadecimal_longest c.args.text.now c.in-48.len_at_least first second _ c.hexadecimal_digits-length.ensures.value c.if-length-eq0.false

pub returns-else-length-eq0-clause-value : goal.returns-else-length-eq0-clause-value
returns-else-length-eq0-clause-value c =
    let first : get_or c.args.text.now 0 0 ≡ 48 = omega arith in
    let second : get_or c.args.text.now 1 0 ≡ 120 = omega arith in
    (_, hexadecimal_value c.args.text.now c.in-48.len_at_least first second _ c.hexadecimal_digits-length.ensures.value c.if-length-eq0.false, c.value_of.ensures)
