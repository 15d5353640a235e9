-- What a text is to all that follows the reading of its tokens.
use Rattle.std.specs.Prelude.{List}
use Rattle.kk_base.specs.declared.span.Span.{Span}
use Rattle.kk_syntax.specs.declared.token.LocatedToken.{LocatedToken}

-- the tokens with their places, in the order of the text, and the place of the text's end
pub record TokenList : Type 0 where
  pub items : List LocatedToken
  pub end : Span
