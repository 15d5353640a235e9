-- What the tables of the grammar's form say is so, nonterminal by nonterminal.
use Rattle.std.proofs.Common.{◌≡◌, Bool, true, false, List, [], ◌∷◌, refl}
use Rattle.kk_syntax.specs.declared.token.Keyword.TheVariants.{Then, Elif, Else}
use Rattle.kk_syntax.specs.declared.token.Symbol.TheVariants.{CloseParenthesis, OpenBrace, Arrow, CloseBrace, Comma, Semicolon, Dot, Plus, Minus, Star, Slash, Percent, EqualEqual, NotEqual, Less, LessEqual, Greater, GreaterEqual, AndAnd, OrOr}
use Rattle.kk_parser.specs.Classes.{Class, keyword, symbol}
use Rattle.kk_parser.specs.Phrases.{Nonterminal, program, decl, con, param, effect, eff, type, result_type, expr, block, stmt, if_, match_, row, pat, or, and, cmp, add, mul, un, post, atom, say, args}
use Rattle.kk_parser.specs.Forms.{form}
use Rattle.kk_parser.specs.Reading.{first, first_of, expr_first, nullable, nullable_of}

pub first-production : (x : Nonterminal) → first (form x) ≡ first_of x
first-production program = refl
first-production decl = refl
first-production con = refl
first-production param = refl
first-production effect = refl
first-production eff = refl
first-production type = refl
first-production result_type = refl
first-production expr = refl
first-production block = refl
first-production stmt = refl
first-production if_ = refl
first-production match_ = refl
first-production row = refl
first-production pat = refl
first-production or = refl
first-production and = refl
first-production cmp = refl
first-production add = refl
first-production mul = refl
first-production un = refl
first-production post = refl
first-production atom = refl
first-production say = refl
first-production args = refl

pub nullable-production : (x : Nonterminal) → nullable (form x) ≡ nullable_of x
nullable-production program = refl
nullable-production decl = refl
nullable-production con = refl
nullable-production param = refl
nullable-production effect = refl
nullable-production eff = refl
nullable-production type = refl
nullable-production result_type = refl
nullable-production expr = refl
nullable-production block = refl
nullable-production stmt = refl
nullable-production if_ = refl
nullable-production match_ = refl
nullable-production row = refl
nullable-production pat = refl
nullable-production or = refl
nullable-production and = refl
nullable-production cmp = refl
nullable-production add = refl
nullable-production mul = refl
nullable-production un = refl
nullable-production post = refl
nullable-production atom = refl
nullable-production say = refl
nullable-production args = refl

-- the classes of token that may follow an expression; a condition or an expression; and each operand in them
abbrev expr_follow : List Class
expr_follow = symbol Semicolon ∷ symbol CloseBrace ∷ symbol CloseParenthesis ∷ symbol Comma ∷ keyword Elif ∷ keyword Else ∷ []

abbrev or_follow : List Class
or_follow = keyword Then ∷ symbol OpenBrace ∷ expr_follow

abbrev and_follow : List Class
and_follow = symbol OrOr ∷ or_follow

abbrev cmp_follow : List Class
cmp_follow = symbol AndAnd ∷ and_follow

abbrev add_follow : List Class
add_follow = symbol EqualEqual ∷ symbol NotEqual ∷ symbol Less ∷ symbol LessEqual ∷ symbol Greater ∷ symbol GreaterEqual ∷ cmp_follow

abbrev mul_follow : List Class
mul_follow = symbol Plus ∷ symbol Minus ∷ add_follow

abbrev un_follow : List Class
un_follow = symbol Star ∷ symbol Slash ∷ symbol Percent ∷ mul_follow

-- the classes of token that may follow a text of a nonterminal. The form makes no use of `stmt` and `say`.
abbrev pub follow_of : Nonterminal → List Class
follow_of program = []
follow_of decl = symbol Semicolon ∷ []
follow_of con = symbol Semicolon ∷ symbol CloseBrace ∷ []
follow_of param = symbol Comma ∷ symbol CloseParenthesis ∷ []
follow_of effect = first_of type
follow_of eff = symbol Comma ∷ symbol Greater ∷ first_of type
follow_of type = symbol Comma ∷ symbol CloseParenthesis ∷ symbol Greater ∷ expr_first
follow_of result_type = expr_first
follow_of row = symbol Semicolon ∷ symbol CloseBrace ∷ []
follow_of pat = symbol Arrow ∷ symbol Comma ∷ symbol CloseParenthesis ∷ []
follow_of or = or_follow
follow_of and = and_follow
follow_of cmp = cmp_follow
follow_of add = add_follow
follow_of mul = mul_follow
follow_of un = un_follow
follow_of post = un_follow
follow_of atom = symbol Dot ∷ un_follow
follow_of args = symbol CloseParenthesis ∷ []
follow_of say = []
follow_of stmt = []
follow_of _ = expr_follow

-- whether the end may follow a text of a nonterminal
abbrev pub end_of : Nonterminal → Bool
end_of con = false
end_of param = false
end_of row = false
end_of pat = false
end_of effect = false
end_of eff = false
end_of type = false
end_of result_type = false
end_of args = false
end_of stmt = false
end_of say = false
end_of _ = true
