-- The token list of a text with the braces and semicolons that its layout stands for.
use Rattle.std.specs.Prelude.{ℕ, List, [], ◌∷◌}
use Rattle.kk_base.specs.declared.span.Span.{Span}
use Rattle.kk_syntax.specs.declared.token.LocatedToken.{LocatedToken}
use Rattle.kk_syntax.specs.TokenList.{TokenList}
use Rattle.kk_layout.specs.Rules.{first_rule, second_rule, third_rule, fourth_rule, ended}
use Rattle.kk_layout.specs.States.{State, start}

-- the place of the first of some tokens, or of the text's end
abbrev pub first_place : Span → List LocatedToken → Span
first_place end [] = end
first_place end (t ∷ rest) = t.span

-- the rules 2 to 4, for a token and the column of the token behind it
abbrev pub taken : LocatedToken → ℕ → State → State
taken t column s = fourth_rule t (third_rule t column (second_rule t s))

-- the rules for each of some tokens, behind a token, up to the text's end
abbrev pub laid_behind : Span → LocatedToken → List LocatedToken → State → State
laid_behind end previous [] s = ended end s
laid_behind end previous (t ∷ rest) s =
    laid_behind end t rest (taken t (first_place end rest).column (first_rule previous t s))

-- the tokens of a text; its first token has no token before it, so the first rule leaves it alone
abbrev pub laid_out_items : Span → List LocatedToken → List LocatedToken
laid_out_items end [] = []
laid_out_items end (t ∷ rest) =
    (laid_behind end t rest (taken t (first_place end rest).column (start t.span.column))).laid

abbrev pub laid_out_list : TokenList → TokenList
laid_out_list text = record { items = laid_out_items text.end text.items; end = text.end }
