use Rattle.std.proofs.Common.{arith}
use Rattle.kk_lexer.proofs.FirstBytes.{one_byte_symbol}
use Rattle.kk_lexer.proofs.symbols.first_symbol.Goals as goal
use Rattle.kk_lexer.proofs.symbols.first_symbol.Goals.{then-text-gt1+in_default, else-text-gt1}

pub returns-in-Some-symbol_of_one : goal.returns-in-Some-symbol_of_one
returns-in-Some-symbol_of_one c = elim c.if-text-gt1.branch [
  | then-text-gt1+in_default w ↦ one_byte_symbol _ _ c.requires c.in-Some-symbol_of_one.ensures (λ _. w.in_default.ensures)
  | else-text-gt1 w ↦ one_byte_symbol _ _ c.requires c.in-Some-symbol_of_one.ensures (λ long. absurd (omega arith))
]
