-- How symbols are spelled.
use Rattle.std.specs.Prelude.{ℕ, List, codes}
use Rattle.kk_syntax.specs.declared.token.Symbol.{Symbol}
use Rattle.kk_syntax.specs.declared.token.Symbol.TheVariants.{OpenParenthesis, CloseParenthesis, OpenBrace, CloseBrace, Comma, Semicolon, Colon, Dot, Equals, Arrow, Plus, Minus, Star, Slash, Percent, EqualEqual, NotEqual, Less, LessEqual, Greater, GreaterEqual, AndAnd, OrOr, Exclamation, Tilde}

abbrev pub symbol_spelling : Symbol → List ℕ
symbol_spelling OpenParenthesis = codes "("
symbol_spelling CloseParenthesis = codes ")"
symbol_spelling OpenBrace = codes "{"
symbol_spelling CloseBrace = codes "}"
symbol_spelling Comma = codes ","
symbol_spelling Semicolon = codes ";"
symbol_spelling Colon = codes ":"
symbol_spelling Dot = codes "."
symbol_spelling Equals = codes "="
symbol_spelling Arrow = codes "->"
symbol_spelling Plus = codes "+"
symbol_spelling Minus = codes "-"
symbol_spelling Star = codes "*"
symbol_spelling Slash = codes "/"
symbol_spelling Percent = codes "%"
symbol_spelling EqualEqual = codes "=="
symbol_spelling NotEqual = codes "!="
symbol_spelling Less = codes "<"
symbol_spelling LessEqual = codes "<="
symbol_spelling Greater = codes ">"
symbol_spelling GreaterEqual = codes ">="
symbol_spelling AndAnd = codes "&&"
symbol_spelling OrOr = codes "||"
symbol_spelling Exclamation = codes "!"
symbol_spelling Tilde = codes "~"
