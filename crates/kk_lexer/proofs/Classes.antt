-- What a lexeme is, by the class of its first byte.
use Rattle.std.proofs.Common.{◌≡◌, ◌⊎◌, ℕ, ◌+◌, List, [], ◌∷◌, ◌++◌, length, get_or, Bool, true, false, refl, sym, ap, subst, inl, inr, arith}
use Rattle.std.specs.Prelude.{◌==◌, if◌then◌else◌}
use Rattle.std.specs.Char.{is_ascii_digit, is_ascii_lowercase, is_ascii_uppercase}
use Rattle.std.proofs.lemmas.Bool.{and_parts}
use Rattle.std.proofs.lemmas.Bool.Decides.{nat_tests}
use Rattle.kk_base.specs.declared.error.LexError.TheVariants.{BadByte, OpenComment, OpenString}
use Rattle.kk_syntax.specs.declared.token.Keyword.{Keyword}
use Rattle.kk_syntax.specs.declared.token.Keyword.TheVariants as OfKeyword
use Rattle.kk_syntax.specs.declared.token.Symbol.{Symbol}
use Rattle.kk_syntax.specs.declared.token.Symbol.TheVariants as OfSymbol
use Rattle.kk_syntax.specs.declared.token.Token.TheVariants as OfToken
use Rattle.kk_lexer.specs.Comments.{is_within_line, Closes}
use Rattle.kk_lexer.specs.Lexemes.{Meaning, passed, kept, refused, is_blank, number_meaning, negative_meaning, string_meaning, SpellsLexeme, blank, line_comment, comment, open_comment, name, keyword, constructor_name, wildcard, number, negative_number, string, open_string, bad_escape, symbol}
use Rattle.kk_lexer.specs.Names.{is_name, is_constructor_name, is_wildcard, keyword_spelling}
use Rattle.kk_lexer.specs.Numbers.{IsNumber, decimal, hexadecimal, is_decimal}
use Rattle.kk_lexer.specs.Strings.{IsInside}
use Rattle.kk_lexer.specs.Symbols.{symbol_spelling}
use Rattle.kk_lexer.proofs.NumberLemmas.{number_value, number_value-is, number_first}

pub data Class : Type 0 where
  of_blank of_lower of_upper of_underscore of_digit of_quote of_slash of_dash of_other : Class

abbrev pub class_of : ℕ → Class
class_of b =
    if is_blank b then of_blank
    else (if is_ascii_lowercase b then of_lower
    else (if is_ascii_uppercase b then of_upper
    else (if b == 95 then of_underscore
    else (if is_ascii_digit b then of_digit
    else (if b == 34 then of_quote
    else (if b == 47 then of_slash
    else (if b == 45 then of_dash
    else of_other)))))))

pub class_of-blank : (b : ℕ) → is_blank b ≡ true → class_of b ≡ of_blank
class_of-blank b h = rw h refl

pub class_of-lower : (b : ℕ) → is_ascii_lowercase b ≡ true → class_of b ≡ of_lower
class_of-lower b h = grind (arith, nat_tests)

pub class_of-upper : (b : ℕ) → is_ascii_uppercase b ≡ true → class_of b ≡ of_upper
class_of-upper b h = grind (arith, nat_tests)

pub class_of-digit : (b : ℕ) → is_ascii_digit b ≡ true → class_of b ≡ of_digit
class_of-digit b h = grind (arith, nat_tests)

-- a lexeme that begins with `/`
abbrev pub InSlash : List ℕ → Type 0
InSlash [] = ⊥
InSlash (b ∷ []) = Unit {0}
InSlash (b ∷ c ∷ word) = ((c ≡ 47) × (is_within_line word ≡ true)) ⊎ ((c ≡ 42) × ((word ≡ []) ⊎ Closes 1 word))

abbrev pub slash_meaning : ℕ → List ℕ → Meaning
slash_meaning at [] = passed
slash_meaning at (b ∷ []) = kept (OfToken.Symbol OfSymbol.Slash)
slash_meaning at (b ∷ c ∷ []) = if c == 42 then refused (OpenComment at) else passed
slash_meaning at (b ∷ c ∷ d ∷ word) = passed

-- a lexeme that begins with `-`
abbrev pub InDash : Bool → List ℕ → Type 0
InDash signed [] = ⊥
InDash signed (b ∷ word) = (word ≡ []) ⊎ ((word ≡ 62 ∷ []) ⊎ ((signed ≡ true) × ((n : ℕ) × IsNumber word n)))

abbrev pub dash_meaning : ℕ → List ℕ → Meaning
dash_meaning at [] = passed
dash_meaning at (b ∷ []) = kept (OfToken.Symbol OfSymbol.Minus)
dash_meaning at (b ∷ c ∷ word) = if c == 62 then kept (OfToken.Symbol OfSymbol.Arrow) else negative_meaning at (number_value (c ∷ word))

-- a lexeme that begins with a quote, behind the quote
pub data InQuote (at : ℕ) : List ℕ → Meaning → Type 0 where
  in_closed : (word bytes : List ℕ) → IsInside word bytes → InQuote at (word ++ 34 ∷ []) (string_meaning at bytes)
  in_open : (word bytes : List ℕ) → IsInside word bytes → InQuote at word (refused (OpenString at))
  in_bad : (word bytes : List ℕ) → IsInside word bytes → InQuote at (word ++ 92 ∷ []) (refused (BadByte (at + 1 + length word)))

abbrev pub ByClass : Bool → ℕ → Class → List ℕ → Meaning → Type 0
ByClass signed at of_blank w m = (length w ≡ 1) × (m ≡ passed)
ByClass signed at of_lower w m = (is_name w ≡ true) × ((((k : Keyword) → keyword_spelling k ≡ w → ⊥) × (m ≡ kept (OfToken.Name w))) ⊎ ((k : Keyword) × (keyword_spelling k ≡ w) × (m ≡ kept (OfToken.Keyword k))))
ByClass signed at of_upper w m = (is_constructor_name w ≡ true) × (m ≡ kept (OfToken.Constructor w))
ByClass signed at of_underscore w m = (is_wildcard w ≡ true) × (m ≡ kept OfToken.Wildcard)
ByClass signed at of_digit w m = (n : ℕ) × IsNumber w n × (m ≡ number_meaning at n)
ByClass signed at of_quote w m = (word : List ℕ) × (w ≡ 34 ∷ word) × InQuote at word m
ByClass signed at of_slash w m = InSlash w × (m ≡ slash_meaning at w)
ByClass signed at of_dash w m = InDash signed w × (m ≡ dash_meaning at w)
ByClass signed at of_other w m = (s : Symbol) × (symbol_spelling s ≡ w) × (m ≡ kept (OfToken.Symbol s))

module _ (signed : Bool) (at : ℕ) where
  at_class : {c : Class} (d : Class) (w : List ℕ) (m : Meaning) → d ≡ c → ByClass signed at c w m → ByClass signed at d w m
  at_class d w m e h = subst (λ x. ByClass signed at x w m) (sym e) h

  by_name : (w : List ℕ) → is_name w ≡ true → class_of (get_or w 0 0) ≡ of_lower
  by_name [] h = cc
  by_name (b ∷ w) h = class_of-lower b (and_parts _ _ h).0

  by_constructor_name : (w : List ℕ) → is_constructor_name w ≡ true → class_of (get_or w 0 0) ≡ of_upper
  by_constructor_name [] h = cc
  by_constructor_name (b ∷ w) h = class_of-upper b (and_parts _ _ h).0

  by_wildcard : (w : List ℕ) → is_wildcard w ≡ true → class_of (get_or w 0 0) ≡ of_underscore
  by_wildcard [] h = cc
  by_wildcard (b ∷ w) h = grind (arith, nat_tests)

  by_decimal : (w : List ℕ) → is_decimal w ≡ true → class_of (get_or w 0 0) ≡ of_digit
  by_decimal [] h = cc
  by_decimal (b ∷ w) h = class_of-digit b (and_parts _ _ h).0

  by_number : {w : List ℕ} {n : ℕ} → IsNumber w n → class_of (get_or w 0 0) ≡ of_digit
  by_number (decimal word h) = by_decimal word h
  by_number (hexadecimal digits h) = refl

  by_keyword : (k : Keyword) → ByClass signed at (class_of (get_or (keyword_spelling k) 0 0)) (keyword_spelling k) (kept (OfToken.Keyword k))
  by_keyword OfKeyword.If = (refl, inr (OfKeyword.If, refl, refl))
  by_keyword k = (refl, inr (k, refl, refl))

  by_symbol : (s : Symbol) → ByClass signed at (class_of (get_or (symbol_spelling s) 0 0)) (symbol_spelling s) (kept (OfToken.Symbol s))
  by_symbol OfSymbol.Slash = (tt, refl)
  by_symbol OfSymbol.Minus = (inl refl, refl)
  by_symbol OfSymbol.Arrow = (inr (inl refl), refl)
  by_symbol s = (s, refl, refl)

  by_comment : (w : List ℕ) → Closes 1 w → passed ≡ slash_meaning at (47 ∷ 42 ∷ w)
  by_comment [] h = elim h [ ]
  by_comment (b ∷ w) h = refl

  by_line : (w : List ℕ) → passed ≡ slash_meaning at (47 ∷ 47 ∷ w)
  by_line [] = refl
  by_line (b ∷ w) = refl

  by_negative : (w : List ℕ) (n : ℕ) → IsNumber w n → negative_meaning at n ≡ dash_meaning at (45 ∷ w)
  by_negative [] n h = let first = number_first h in cc
  by_negative (c ∷ w) n h =
      let first = number_first h in
      let apart : (c == 62) ≡ false = grind (arith, nat_tests) in
      rw apart (ap (negative_meaning at) (number_value-is h))

  pub by_class : {w : List ℕ} {m : Meaning} → SpellsLexeme signed at w m → ByClass signed at (class_of (get_or w 0 0)) w m
  by_class (blank b h) = at_class (class_of b) (b ∷ []) passed (class_of-blank b h) (refl, refl)
  by_class (line_comment line h) = (inl (refl, h), by_line line)
  by_class (comment inside h) = (inr (refl, inr h), by_comment inside h)
  by_class open_comment = (inr (refl, inl refl), refl)
  by_class (name word h other) = at_class _ word _ (by_name word h) (h, inl (other, refl))
  by_class (keyword k) = by_keyword k
  by_class (constructor_name word h) = at_class _ word _ (by_constructor_name word h) (h, refl)
  by_class (wildcard word h) = at_class _ word _ (by_wildcard word h) (h, refl)
  by_class (number word n h) = at_class _ word _ (by_number h) (n, h, refl)
  by_class (negative_number word n is_signed h) = (inr (inr (is_signed, (n, h))), by_negative word n h)
  by_class (string word bytes h) = (word ++ 34 ∷ [], refl, in_closed word bytes h)
  by_class (open_string word bytes h) = (word, refl, in_open word bytes h)
  by_class (bad_escape word bytes h) = (word ++ 92 ∷ [], refl, in_bad word bytes h)
  by_class (symbol s) = by_symbol s
