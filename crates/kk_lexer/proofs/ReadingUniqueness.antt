-- One word has one meaning, and one text has one reading.
use Rattle.std.proofs.Common.{◌≡◌, ℕ, ◌+◌, List, [], ◌∷◌, ◌++◌, length, take, drop, Bool, false, Option, Some, None, refl, sym, ap, subst, subst₂, ◌∙◌, inl, inr, arith}
use Rattle.std.specs.Prelude.{if◌then◌else◌, codes, Ok, Err}
use Rattle.std.specs.Str.{bytes_eq}
use Rattle.std.proofs.lemmas.Bool.{cases_eq}
use Rattle.std.proofs.lemmas.List.{same_from_push, append-nil}
use Rattle.kk_base.specs.declared.error.LexError.TheVariants.{BadByte}
use Rattle.kk_base.specs.declared.span.Span.{Span}
use Rattle.kk_syntax.specs.declared.token.Keyword.{Keyword}
use Rattle.kk_syntax.specs.declared.token.Keyword.TheVariants as OfKeyword
use Rattle.kk_syntax.specs.declared.token.LocatedToken.{LocatedToken}
use Rattle.kk_syntax.specs.declared.token.Symbol.{Symbol}
use Rattle.kk_syntax.specs.declared.token.Symbol.TheVariants as OfSymbol
use Rattle.kk_syntax.specs.declared.token.Token.TheVariants as OfToken
use Rattle.kk_syntax.specs.Places.{place_behind}
use Rattle.kk_lexer.specs.Lexemes.{Meaning, passed, kept, refused, number_meaning, string_meaning, SpellsLexeme, BeginsWith, lexeme, no_lexeme}
use Rattle.kk_lexer.specs.Names.{keyword_spelling}
use Rattle.kk_lexer.specs.Readings.{is_sign, Outcome, ReadsText, ends, passes, keeps, refuses}
use Rattle.kk_lexer.specs.Strings.{IsInside, empty, is_plain}
use Rattle.kk_lexer.specs.Symbols.{symbol_spelling}
use Rattle.kk_lexer.proofs.Classes.{Class, of_blank, of_lower, of_upper, of_underscore, of_digit, of_quote, of_slash, of_dash, of_other, InQuote, in_closed, in_open, in_bad, ByClass, by_class}
use Rattle.kk_lexer.proofs.FrontLemmas.{IsLongest-unique}
use Rattle.kk_lexer.proofs.NumberLemmas.{one_value}
use Rattle.kk_lexer.proofs.StringInsides.{IsInside-behind, IsInside-stop, IsInside-one}

-- the keyword of a word, and the symbol
pub keyword_of : List ℕ → Option Keyword
keyword_of w =
    if bytes_eq w (codes "type") then Some OfKeyword.«Type»
    else (if bytes_eq w (codes "fun") then Some OfKeyword.Fun
    else (if bytes_eq w (codes "val") then Some OfKeyword.Val
    else (if bytes_eq w (codes "match") then Some OfKeyword.Match
    else (if bytes_eq w (codes "if") then Some OfKeyword.If
    else (if bytes_eq w (codes "then") then Some OfKeyword.Then
    else (if bytes_eq w (codes "elif") then Some OfKeyword.Elif
    else (if bytes_eq w (codes "else") then Some OfKeyword.Else
    else None)))))))

pub keyword_of-spelling : (k : Keyword) → keyword_of (keyword_spelling k) ≡ Some k
unfolding keyword_of
keyword_of-spelling OfKeyword.«Type» = refl
keyword_of-spelling k = refl

pub one_keyword : (k j : Keyword) → keyword_spelling k ≡ keyword_spelling j → k ≡ j
one_keyword k j e = let s : Some k ≡ Some j = sym (keyword_of-spelling k) ∙ (ap keyword_of e ∙ keyword_of-spelling j) in cc

pub symbol_of : List ℕ → Option Symbol
symbol_of w =
    if bytes_eq w (codes "(") then Some OfSymbol.OpenParenthesis
    else (if bytes_eq w (codes ")") then Some OfSymbol.CloseParenthesis
    else (if bytes_eq w (codes "{") then Some OfSymbol.OpenBrace
    else (if bytes_eq w (codes "}") then Some OfSymbol.CloseBrace
    else (if bytes_eq w (codes ",") then Some OfSymbol.Comma
    else (if bytes_eq w (codes ";") then Some OfSymbol.Semicolon
    else (if bytes_eq w (codes ":") then Some OfSymbol.Colon
    else (if bytes_eq w (codes ".") then Some OfSymbol.Dot
    else (if bytes_eq w (codes "=") then Some OfSymbol.Equals
    else (if bytes_eq w (codes "->") then Some OfSymbol.Arrow
    else (if bytes_eq w (codes "+") then Some OfSymbol.Plus
    else (if bytes_eq w (codes "-") then Some OfSymbol.Minus
    else (if bytes_eq w (codes "*") then Some OfSymbol.Star
    else (if bytes_eq w (codes "/") then Some OfSymbol.Slash
    else (if bytes_eq w (codes "%") then Some OfSymbol.Percent
    else (if bytes_eq w (codes "==") then Some OfSymbol.EqualEqual
    else (if bytes_eq w (codes "!=") then Some OfSymbol.NotEqual
    else (if bytes_eq w (codes "<") then Some OfSymbol.Less
    else (if bytes_eq w (codes "<=") then Some OfSymbol.LessEqual
    else (if bytes_eq w (codes ">") then Some OfSymbol.Greater
    else (if bytes_eq w (codes ">=") then Some OfSymbol.GreaterEqual
    else (if bytes_eq w (codes "&&") then Some OfSymbol.AndAnd
    else (if bytes_eq w (codes "||") then Some OfSymbol.OrOr
    else (if bytes_eq w (codes "!") then Some OfSymbol.Exclamation
    else (if bytes_eq w (codes "~") then Some OfSymbol.Tilde
    else None))))))))))))))))))))))))

pub symbol_of-spelling : (s : Symbol) → symbol_of (symbol_spelling s) ≡ Some s
unfolding symbol_of
symbol_of-spelling OfSymbol.Arrow = refl
symbol_of-spelling s = refl

pub one_symbol : (s t : Symbol) → symbol_spelling s ≡ symbol_spelling t → s ≡ t
one_symbol s t e = let p : Some s ≡ Some t = sym (symbol_of-spelling s) ∙ (ap symbol_of e ∙ symbol_of-spelling t) in cc

-- a string that is closed, one that is not and one up to a bad escape are apart
nothing : {bs : List ℕ} → IsInside [] bs → bs ≡ []
nothing empty = refl

one_inside : {u v : List ℕ} {bs cs : List ℕ} → IsInside u bs → IsInside v cs → u ≡ v → bs ≡ cs
one_inside {u} {v} {bs} {cs} a b e =
    let again = IsInside-behind a [] cs (subst (λ w. IsInside w cs) (sym e ∙ sym (append-nil u)) b) in
    sym (again.2 ∙ (ap (λ x. bs ++ x) (nothing again.1) ∙ append-nil bs))

no_longer_inside : {u v bs cs : List ℕ} (b : ℕ) → is_plain b ≡ false → IsInside u bs → IsInside v cs → u ++ b ∷ [] ≡ v → ⊥
no_longer_inside {u} {v} {bs} {cs} b not_plain h k e =
    let rest = IsInside-behind h (b ∷ []) cs (subst (λ w. IsInside w cs) (sym e) k) in
    elim (cases_eq b 92) [
      | inl is ↦ IsInside-one (subst (λ x. IsInside (x ∷ []) rest.0) is rest.1)
      | inr not ↦ IsInside-stop rest.1 not_plain not
    ]

one_in_quote : {at : ℕ} {v w : List ℕ} {m k : Meaning} → InQuote at v m → InQuote at w k → v ≡ w → m ≡ k
one_in_quote {at} (in_closed u bs h) (in_closed v cs k) e = ap (string_meaning at) (one_inside h k (same_from_push _ _ _ _ e).0)
one_in_quote (in_closed u bs h) (in_open v cs k) e = absurd (no_longer_inside 34 refl h k e)
one_in_quote (in_closed u bs h) (in_bad v cs k) e = absurd (omega (arith, (same_from_push u v 34 92 e).1))
one_in_quote (in_open u bs h) (in_closed v cs k) e = absurd (no_longer_inside 34 refl k h (sym e))
one_in_quote (in_open u bs h) (in_open v cs k) e = refl
one_in_quote (in_open u bs h) (in_bad v cs k) e = absurd (no_longer_inside 92 refl k h (sym e))
one_in_quote (in_bad u bs h) (in_closed v cs k) e = absurd (omega (arith, (same_from_push u v 92 34 e).1))
one_in_quote (in_bad u bs h) (in_open v cs k) e = absurd (no_longer_inside 92 refl h k e)
one_in_quote {at} (in_bad u bs h) (in_bad v cs k) e = ap (λ x. refused (BadByte (at + 1 + length x))) (same_from_push _ _ _ _ e).0

-- by the class of the first byte
one_by_class : (signed : Bool) (at : ℕ) (c : Class) (w : List ℕ) (m k : Meaning) → ByClass signed at c w m → ByClass signed at c w k → m ≡ k
one_by_class signed at of_blank w m k h j = h.1 ∙ sym j.1
one_by_class signed at of_lower w m k h j = elim h.1 [
  | inl a ↦ elim j.1 [ inl b ↦ a.1 ∙ sym b.1 | inr b ↦ absurd (a.0 b.0 b.1) ]
  | inr a ↦ elim j.1 [
    | inl b ↦ absurd (b.0 a.0 a.1)
    | inr b ↦ a.2 ∙ (ap (λ x. kept (OfToken.Keyword x)) (one_keyword a.0 b.0 (a.1 ∙ sym b.1)) ∙ sym b.2)
  ]
]
one_by_class signed at of_upper w m k h j = h.1 ∙ sym j.1
one_by_class signed at of_underscore w m k h j = h.1 ∙ sym j.1
one_by_class signed at of_digit w m k h j = h.2 ∙ (ap (number_meaning at) (one_value h.1 j.1) ∙ sym j.2)
one_by_class signed at of_quote w m k h j = one_in_quote h.2 j.2 (let e : 34 ∷ h.0 ≡ 34 ∷ j.0 = sym h.1 ∙ j.1 in cc)
one_by_class signed at of_slash w m k h j = h.1 ∙ sym j.1
one_by_class signed at of_dash w m k h j = h.1 ∙ sym j.1
one_by_class signed at of_other w m k h j = h.2 ∙ (ap (λ s. kept (OfToken.Symbol s)) (one_symbol h.0 j.0 (h.1 ∙ sym j.1)) ∙ sym j.2)

pub one_meaning : {signed : Bool} {at : ℕ} {w : List ℕ} {m k : Meaning} → SpellsLexeme signed at w m → SpellsLexeme signed at w k → m ≡ k
one_meaning {signed} {at} {w} {m} {k} h j = one_by_class signed at _ w m k (by_class signed at h) (by_class signed at j)

-- a lexeme has a byte
no_empty_symbol : (s : Symbol) → symbol_spelling s ≡ [] → ⊥
no_empty_symbol OfSymbol.Arrow e = cc
no_empty_symbol s e = cc

pub no_empty_lexeme : {signed : Bool} {at : ℕ} {m : Meaning} → SpellsLexeme signed at [] m → ⊥
no_empty_lexeme {signed} {at} h = let s = by_class signed at h in no_empty_symbol s.0 s.1

nothing_begins : {signed : Bool} {at n : ℕ} {m : Meaning} → BeginsWith signed at [] n m → ⊥
nothing_begins {signed} {at} (lexeme n m longest spells) =
    let none : n ≡ 0 = omega (arith, longest.fits) in
    no_empty_lexeme (subst (λ x. SpellsLexeme signed at (take x []) m) none spells)
nothing_begins (no_lexeme some none) = omega arith

-- what a text begins with is one
pub one_beginning : {signed : Bool} {at : ℕ} {text : List ℕ} {n j : ℕ} {m k : Meaning} → BeginsWith signed at text n m → BeginsWith signed at text j k → (n ≡ j) × (m ≡ k)
one_beginning {signed} {at} {text} (lexeme n m longest spells) (lexeme j k longest' spells') =
    let e = IsLongest-unique longest longest' in
    (e, one_meaning spells (subst (λ x. SpellsLexeme signed at (take x text) k) (sym e) spells'))
one_beginning (lexeme n m longest spells) (no_lexeme some none) = absurd (none n longest.fits (m, spells))
one_beginning (no_lexeme some none) (lexeme j k longest spells) = absurd (none j longest.fits (k, spells))
one_beginning (no_lexeme some none) (no_lexeme some' none') = (refl, refl)

-- the reading behind what a text begins with
abbrev After : List LocatedToken → Span → List ℕ → Outcome → ℕ → Meaning → Type 0
After before place text outcome n passed = ReadsText before (place_behind place (take n text)) (drop n text) outcome
After before place text outcome n (kept token) = ReadsText (before ++ record { token = token; span = place } ∷ []) (place_behind place (take n text)) (drop n text) outcome
After before place text outcome n (refused error) = outcome ≡ Err error

after_same : (before : List LocatedToken) (place : Span) (text : List ℕ) (outcome : Outcome) {n j : ℕ} {m k : Meaning}
    → BeginsWith (is_sign before place.line) place.at text n m → BeginsWith (is_sign before place.line) place.at text j k
    → After before place text outcome j k → After before place text outcome n m
after_same before place text outcome a b h = let e = one_beginning a b in subst₂ (After before place text outcome) (sym e.0) (sym e.1) h

after : {before : List LocatedToken} {place : Span} {text : List ℕ} {outcome : Outcome} {n : ℕ} {m : Meaning}
    → ReadsText before place text outcome → BeginsWith (is_sign before place.line) place.at text n m → After before place text outcome n m
after (ends before place) b = absurd (nothing_begins b)
after (passes before place text n outcome a r) b = after_same before place text outcome b a r
after (keeps before place text n token outcome a r) b = after_same before place text outcome b a r
after (refuses before place text n error a) b = after_same before place text (Err error) b a refl

at_end : {before : List LocatedToken} {place : Span} {outcome : Outcome} → ReadsText before place [] outcome → outcome ≡ Ok (record { items = before; end = place })
at_end (ends before place) = refl
at_end (passes before place text n outcome a r) = absurd (nothing_begins a)
at_end (keeps before place text n token outcome a r) = absurd (nothing_begins a)
at_end (refuses before place text n error a) = absurd (nothing_begins a)

-- a text has one reading
pub one_reading : {before : List LocatedToken} {place : Span} {text : List ℕ} {a b : Outcome} → ReadsText before place text a → ReadsText before place text b → b ≡ a
one_reading (ends before place) h = at_end h
one_reading (passes before place text n outcome a r) h = one_reading r (after h a)
one_reading (keeps before place text n token outcome a r) h = one_reading r (after h a)
one_reading (refuses before place text n error a) h = after h a
