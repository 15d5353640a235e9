-- What a text begins with, by the class of its first byte. The bytes behind the first one are written as the code reads them.
use Rattle.std.proofs.Common.{◌≡◌, ◌⊎◌, ℕ, zero, suc, ◌+◌, ◌-◌, ◌<◌, ◌≤◌, List, [], ◌∷◌, ◌++◌, length, get_or, take, drop, Bool, true, false, refl, sym, ap, subst, subst₂, ◌∙◌, inl, inr, arith, one-add, min, ℤ, pos, neg_ℤ}
use Rattle.std.specs.Prelude.{◌==◌, nat_lt, not, Result, Ok, Err}
use Rattle.std.specs.Char.{is_ascii_digit, is_ascii_lowercase, is_ascii_uppercase, IsAsciiDigit, IsAsciiLowercase, IsAsciiUppercase}
use Rattle.std.specs.Str.{IsAscii}
use Rattle.std.specs.List.{list_all, prefix_len}
use Rattle.std.proofs.lemmas.Bool.{and_parts, and_from, cases_lt, eq-eqb, eqb-true, eqb-false, ne_eqb, false_from_ne_true, lt-ltb, le-ltb}
use Rattle.std.proofs.lemmas.Bool.Decides.{nat_tests}
use Rattle.std.proofs.lemmas.List.{nil_from_length, take_rest}
use Rattle.std.proofs.lemmas.Str.Ascii.{IsAscii-cons}
use Rattle.kk_base.specs.declared.error.LexError.{LexError}
use Rattle.kk_base.specs.declared.error.LexError.TheVariants as OfLexError
use Rattle.kk_base.specs.declared.error.LexError.TheVariants.{BadByte, NumberTooLarge, OpenComment, OpenString}
use Rattle.kk_syntax.specs.declared.token.Symbol.{Symbol}
use Rattle.kk_syntax.specs.declared.token.Symbol.TheVariants.{Minus, Arrow, Slash}
use Rattle.kk_syntax.specs.declared.token.Token.{Token}
use Rattle.kk_syntax.specs.declared.token.Token.TheVariants as OfToken
use Rattle.kk_lexer.specs.Comments.{Closes}
use Rattle.kk_lexer.specs.FirstLexemes.{AnswersMeaning, IsFirstLexeme, IsNameOrKeyword}
use Rattle.kk_lexer.specs.declared.lexeme.Lexeme.{Lexeme}
use Rattle.kk_lexer.specs.Fronts.{begins_with, HasNoFront, IsLongest}
use Rattle.kk_lexer.specs.Lexemes.{Meaning, passed, kept, refused, IsLexeme, SpellsLexeme, name, keyword, constructor_name, wildcard, number, negative_number, symbol, is_blank, blank, line_comment, comment, open_comment, string, open_string, bad_escape, string_meaning, number_meaning, negative_meaning, BeginsWith, lexeme, no_lexeme}
use Rattle.kk_lexer.specs.Names.{ends_name, is_name, is_constructor_name, is_wildcard, is_word_byte}
use Rattle.kk_lexer.specs.Numbers.{IsNumber, greatest_number, greatest_negative}
use Rattle.kk_lexer.specs.declared.strings.Part.TheVariants.{Quote, BadEscape, End}
use Rattle.kk_lexer.specs.Parts.{IsFirstPart}
use Rattle.kk_lexer.specs.Strings.{IsInside}
use Rattle.kk_lexer.specs.Symbols.{symbol_spelling}
use Rattle.kk_lexer.proofs.Classes.{InQuote, InSlash, of_other, class_of, class_of-blank, class_of-lower, class_of-upper, class_of-digit, ByClass, by_class}
use Rattle.kk_lexer.proofs.FrontLemmas.{prefix_len-longest}
use Rattle.kk_lexer.proofs.NameLemmas.{ends_name-ascii}
use Rattle.kk_lexer.proofs.NumberLemmas.{number_first, two_bytes}
use Rattle.kk_lexer.proofs.ReadingUniqueness.{no_empty_lexeme}
use Rattle.kk_lexer.proofs.StringLemmas.{IsQuoted, closed_longest, open_longest, bad_longest, inside_length, one_behind}
use Rattle.kk_lexer.specs.Scanners.{begins_other, IsSomeNumber, IsSymbol}

-- the longest front behind the first byte makes the longest lexeme
begins_byte : (signed : Bool) (at : ℕ) (P : List ℕ → Type 0) (b : ℕ) (text : List ℕ) (n : ℕ) (m : Meaning) → ((w : List ℕ) → IsLexeme signed at (b ∷ w) → P w)
    → IsLongest P text n → SpellsLexeme signed at (b ∷ take n text) m → BeginsWith signed at (b ∷ text) (suc n) m
begins_byte signed at P b text n m only found spells = lexeme (suc n) m (record { fits = omega (arith, found.fits); member = (m, spells); longest = go }) spells
  where
    go : (j : ℕ) → j ≤ suc (length text) → IsLexeme signed at (take j (b ∷ text)) → j ≤ suc n
    go zero fits p = omega arith
    go (suc j) fits p = omega (arith, found.longest j (omega arith) (only _ p))

pub begins : (signed : Bool) (at : ℕ) (P : List ℕ → Type 0) (text : List ℕ) (n : ℕ) (m : Meaning) → 0 < length text → ((w : List ℕ) → IsLexeme signed at (get_or text 0 0 ∷ w) → P w)
    → IsLongest P (take (length text - 1) (drop 1 text)) n → SpellsLexeme signed at (take (1 + n) text) m → BeginsWith signed at text (1 + n) m
begins signed at P text n m some only found spells = go text some only (rw take_rest at found) (rw one-add at spells)
  where
    go : (text : List ℕ) → 0 < length text → ((w : List ℕ) → IsLexeme signed at (get_or text 0 0 ∷ w) → P w) → IsLongest P (drop 1 text) n → SpellsLexeme signed at (take (suc n) text) m
        → BeginsWith signed at text (1 + n) m
    go [] some only found spells = absurd (omega arith)
    go (b ∷ text) some only found spells = rw one-add (begins_byte signed at P b text n m only found spells)

-- the first byte and the bytes behind it
front : (text : List ℕ) (n : ℕ) → 0 < length text → take (1 + n) text ≡ get_or text 0 0 ∷ take n (take (length text - 1) (drop 1 text))
front text n some = rw (take_rest, one-add) (go text some)
  where
    go : (text : List ℕ) → 0 < length text → take (suc n) text ≡ get_or text 0 0 ∷ take n (drop 1 text)
    go [] some = absurd (omega arith)
    go (b ∷ text) some = refl

-- names
lower_only : (signed : Bool) (at b : ℕ) (w : List ℕ) → is_ascii_lowercase b ≡ true → IsLexeme signed at (b ∷ w) → ends_name b w ≡ true
lower_only signed at b w lower h =
    let found = subst (λ c. ByClass signed at c (b ∷ w) h.0) (class_of-lower b lower) (by_class signed at h.1) in
    (and_parts _ _ found.0).1

upper_only : (signed : Bool) (at b : ℕ) (w : List ℕ) → is_ascii_uppercase b ≡ true → IsLexeme signed at (b ∷ w) → ends_name b w ≡ true
upper_only signed at b w upper h =
    let found = subst (λ c. ByClass signed at c (b ∷ w) h.0) (class_of-upper b upper) (by_class signed at h.1) in
    (and_parts _ _ found.0).1

spells_name : (signed : Bool) (at : ℕ) (word : List ℕ) (token : Token) → is_name word ≡ true → IsNameOrKeyword word token → SpellsLexeme signed at word (kept token)
spells_name signed at word (OfToken.Name spelling) h is = subst (λ x. SpellsLexeme signed at word (kept (OfToken.Name x))) (sym is.0) (name word h is.1)
spells_name signed at word (OfToken.Keyword k) h is = subst (λ x. SpellsLexeme signed at x (kept (OfToken.Keyword k))) is (keyword k)
spells_name signed at word _ h is = absurd is

module _ (text : List ℕ) (n : ℕ) (some : 0 < length text) (found : IsLongest (λ w. ends_name (get_or text 0 0) w ≡ true) (take (length text - 1) (drop 1 text)) n) where
  pub name_ascii : get_or text 0 0 < 128 → IsAscii (take (1 + n) text)
  name_ascii h = rw (front text n some) (IsAscii-cons _ _ h (ends_name-ascii _ _ found.member))

  pub name_begins : (signed : Bool) (at : ℕ) → IsAsciiLowercase (get_or text 0 0) → (token : Token) → IsNameOrKeyword (take (1 + n) text) token → BeginsWith signed at text (1 + n) (kept token)
  name_begins signed at letter token is =
      let lower : is_ascii_lowercase (get_or text 0 0) ≡ true = grind (arith, nat_tests) in
      let is_name_ : is_name (take (1 + n) text) ≡ true = rw (front text n some) (and_from _ _ lower found.member) in
      begins signed at _ text n _ some (λ w. lower_only signed at _ w lower) found (spells_name signed at _ token is_name_ is)

  pub constructor_begins : (signed : Bool) (at : ℕ) → IsAsciiUppercase (get_or text 0 0) → (spelling : List ℕ) → spelling ≡ take (1 + n) text → BeginsWith signed at text (1 + n) (kept (OfToken.Constructor spelling))
  constructor_begins signed at letter spelling is =
      let upper : is_ascii_uppercase (get_or text 0 0) ≡ true = grind (arith, nat_tests) in
      let is_name_ : is_constructor_name (take (1 + n) text) ≡ true = rw (front text n some) (and_from _ _ upper found.member) in
      rw is (begins signed at _ text n _ some (λ w. upper_only signed at _ w upper) found (constructor_name _ is_name_))

-- wildcards
underscore_only : (signed : Bool) (at b : ℕ) (w : List ℕ) → b ≡ 95 → IsLexeme signed at (b ∷ w) → list_all is_word_byte w ≡ true
underscore_only signed at b w is h =
    let found = subst (λ c. ByClass signed at c (b ∷ w) h.0) (ap class_of is) (by_class signed at h.1) in
    (and_parts _ _ found.0).1

pub wildcard_begins : (text : List ℕ) (signed : Bool) (at : ℕ) → 0 < length text → get_or text 0 0 ≡ 95
    → BeginsWith signed at text (1 + prefix_len is_word_byte (take (length text - 1) (drop 1 text))) (kept OfToken.Wildcard)
wildcard_begins text signed at some is =
    let found = prefix_len-longest is_word_byte (take (length text - 1) (drop 1 text)) in
    let wildcard_ : is_wildcard (take (1 + prefix_len is_word_byte (take (length text - 1) (drop 1 text))) text) ≡ true = rw (front text _ some) (and_from _ _ (eq-eqb _ _ is) found.member) in
    begins signed at _ text _ _ some (λ w. underscore_only signed at _ w is) found (wildcard _ wildcard_)

-- numbers
begins_whole : (signed : Bool) (at : ℕ) (P : List ℕ → Type 0) (text : List ℕ) (n : ℕ) (m : Meaning) → ((w : List ℕ) → IsLexeme signed at (get_or text 0 0 ∷ w) → P (get_or text 0 0 ∷ w))
    → IsLongest P text n → SpellsLexeme signed at (take n text) m → BeginsWith signed at text n m
begins_whole signed at P text n m only found spells = lexeme n m (record { fits = found.fits; member = (m, spells); longest = λ j fits h. go text j fits h only found.longest }) spells
  where
    go : (text : List ℕ) (j : ℕ) → j ≤ length text → IsLexeme signed at (take j text) → ((w : List ℕ) → IsLexeme signed at (get_or text 0 0 ∷ w) → P (get_or text 0 0 ∷ w))
        → ((m : ℕ) → m ≤ length text → P (take m text) → m ≤ n) → j ≤ n
    go text zero fits h only longest = omega arith
    go [] (suc j) fits h only longest = absurd (omega arith)
    go (b ∷ text) (suc j) fits h only longest = longest (suc j) fits (only _ h)

digit_only : (signed : Bool) (at b : ℕ) (w : List ℕ) → is_ascii_digit b ≡ true → IsLexeme signed at (b ∷ w) → IsSomeNumber (b ∷ w)
digit_only signed at b w digit h =
    let found = subst (λ c. ByClass signed at c (b ∷ w) h.0) (class_of-digit b digit) (by_class signed at h.1) in
    (found.0, found.1)

number_begins : (text : List ℕ) (n : ℕ) (signed : Bool) (at v : ℕ) → IsAsciiDigit (get_or text 0 0) → IsLongest IsSomeNumber text n → IsNumber (take n text) v → BeginsWith signed at text n (number_meaning at v)
number_begins text n signed at v digit found spelled =
    let is_digit_ : is_ascii_digit (get_or text 0 0) ≡ true = grind (arith, nat_tests) in
    begins_whole signed at IsSomeNumber text n _ (λ w. digit_only signed at _ w is_digit_) found (number _ v spelled)

-- a number as the code answers it: x is its value, or a number that is far away
pub number_too_large : (text : List ℕ) (n : ℕ) (signed : Bool) (at x : ℕ) → IsAsciiDigit (get_or text 0 0) → IsLongest IsSomeNumber text n
    → (v : ℕ) × IsNumber (take n text) v × (x ≡ min v (greatest_negative + 1)) → greatest_number < x → BeginsWith signed at text n (refused (NumberTooLarge at))
number_too_large text n signed at x digit found (v, spelled, is) large =
    let test : nat_lt greatest_number v ≡ true = lt-ltb _ _ (omega arith) in
    subst (BeginsWith signed at text n) (rw test refl) (number_begins text n signed at v digit found spelled)

pub number_fits : (text : List ℕ) (n : ℕ) (signed : Bool) (at x : ℕ) (z : ℤ) → IsAsciiDigit (get_or text 0 0) → IsLongest IsSomeNumber text n
    → (v : ℕ) × IsNumber (take n text) v × (x ≡ min v (greatest_negative + 1)) → x ≤ greatest_number → z ≡ pos x → BeginsWith signed at text n (kept (OfToken.Number z))
number_fits text n signed at x z digit found (v, spelled, is) small z_is =
    let test : nat_lt greatest_number v ≡ false = le-ltb _ _ (omega arith) in
    let value : x ≡ v = omega arith in
    subst (BeginsWith signed at text n) (rw (test, z_is, value) refl) (number_begins text n signed at v digit found spelled)

-- what begins with a `-`, behind it
InDashRest : Bool → List ℕ → Type 0
InDashRest signed w = (w ≡ []) ⊎ ((w ≡ 62 ∷ []) ⊎ ((signed ≡ true) × ((n : ℕ) × IsNumber w n)))

dash_only : (signed : Bool) (at b : ℕ) (w : List ℕ) → b ≡ 45 → IsLexeme signed at (b ∷ w) → InDashRest signed w
unfolding InDashRest
dash_only signed at b w is h = (subst (λ c. ByClass signed at c (b ∷ w) h.0) (ap class_of is) (by_class signed at h.1)).0

-- in a text that goes on with a digit, with another byte than that and `>` (62), and with `>`
no_byte : (text : List ℕ) (m : ℕ) → m ≤ length text → take m text ≡ [] → m ≤ 0
no_byte text zero fits e = omega arith
no_byte [] (suc m) fits e = fits
no_byte (b ∷ text) (suc m) fits e = cc

digit_longest : (signed : Bool) (text : List ℕ) (n : ℕ) → begins_with is_ascii_digit text ≡ true → signed ≡ true → IsLongest IsSomeNumber text n → IsLongest (InDashRest signed) text n
unfolding InDashRest
digit_longest signed [] n digit is_signed found = cc
digit_longest signed (b ∷ text) n digit is_signed found = record { fits = found.fits; member = inr (inr (is_signed, found.member)); longest = go }
  where
    go : (m : ℕ) → m ≤ suc (length text) → InDashRest signed (take m (b ∷ text)) → m ≤ n
    go zero fits h = omega arith
    go (suc m) fits (inl e) = cc
    go (suc m) fits (inr (inl e)) = let is : b ≡ 62 = cc in absurd (grind (arith, nat_tests))
    go (suc m) fits (inr (inr (_, h))) = found.longest (suc m) fits h

other_longest : (signed : Bool) (text : List ℕ) → (signed ≡ true → begins_with is_ascii_digit text ≡ false) → begins_with (λ b. b == 62) text ≡ false → IsLongest (InDashRest signed) text 0
unfolding InDashRest
other_longest signed [] no_digit no_arrow = record { fits = omega arith; member = inl refl; longest = λ m fits h. fits }
other_longest signed (b ∷ text) no_digit no_arrow = record { fits = omega arith; member = inl refl; longest = go }
  where
    go : (m : ℕ) → m ≤ suc (length text) → InDashRest signed (take m (b ∷ text)) → m ≤ 0
    go zero fits h = omega arith
    go (suc m) fits (inl e) = cc
    go (suc m) fits (inr (inl e)) = let is : b ≡ 62 = cc in absurd (grind (arith, nat_tests))
    go (suc m) fits (inr (inr (is_signed, h))) = let yes_ = number_first h.1 in let no_ = no_digit is_signed in absurd (let bad : true ≡ false = sym yes_ ∙ no_ in cc)

arrow_longest : (signed : Bool) (text : List ℕ) → begins_with (λ b. b == 62) text ≡ true → IsLongest (InDashRest signed) text 1
unfolding InDashRest
arrow_longest signed [] arrow = cc
arrow_longest signed (b ∷ text) arrow = record { fits = omega arith; member = inr (inl (ap (λ x. x ∷ []) (eqb-true b 62 arrow))); longest = go }
  where
    go : (m : ℕ) → m ≤ suc (length text) → InDashRest signed (take m (b ∷ text)) → m ≤ 1
    go zero fits h = omega arith
    go (suc zero) fits h = omega arith
    go (suc (suc m)) fits (inl e) = cc
    go (suc (suc m)) fits (inr (inl e)) = let none : take (suc m) text ≡ [] = cc in absurd (omega (arith, no_byte text (suc m) (omega arith) none))
    go (suc (suc m)) fits (inr (inr (_, h))) = let first = number_first h.1 in absurd (grind (arith, nat_tests))

-- the bytes behind the first one, as the code reads them
abbrev rest_of : List ℕ → List ℕ
rest_of text = take (length text - 1) (drop 1 text)

second : (text : List ℕ) (p : ℕ → Bool) → 1 < length text → begins_with p (rest_of text) ≡ p (get_or text 1 0)
second text p long = rw take_rest (go text long)
  where
    go : (text : List ℕ) → 1 < length text → begins_with p (drop 1 text) ≡ p (get_or text 1 0)
    go [] long = absurd (omega arith)
    go (b ∷ []) long = absurd (omega arith)
    go (b ∷ c ∷ text) long = refl

no_second : (text : List ℕ) (p : ℕ → Bool) → length text ≤ 1 → begins_with p (rest_of text) ≡ false
no_second text p short = rw take_rest (go text short)
  where
    go : (text : List ℕ) → length text ≤ 1 → begins_with p (drop 1 text) ≡ false
    go [] short = refl
    go (b ∷ []) short = refl
    go (b ∷ c ∷ text) short = absurd (omega arith)

negative_begins : (text : List ℕ) (n at v : ℕ) → 1 < length text → get_or text 0 0 ≡ 45 → IsAsciiDigit (get_or text 1 0) → IsLongest IsSomeNumber (rest_of text) n → IsNumber (take n (rest_of text)) v
    → BeginsWith true at text (1 + n) (negative_meaning at v)
negative_begins text n at v long dash digit found spelled =
    let is_digit_ : is_ascii_digit (get_or text 1 0) ≡ true = grind (arith, nat_tests) in
    let longest = digit_longest true (rest_of text) n (second text is_ascii_digit long ∙ is_digit_) refl found in
    begins true at (InDashRest true) text n _ (omega arith) (λ w. dash_only true at _ w dash) longest
    (rw (front text n (omega arith), dash) (negative_number _ v refl spelled))

pub negative_too_large : (text : List ℕ) (n at x : ℕ) → 1 < length text → get_or text 0 0 ≡ 45 → IsAsciiDigit (get_or text 1 0) → IsLongest IsSomeNumber (rest_of text) n
    → (v : ℕ) × IsNumber (take n (rest_of text)) v × (x ≡ min v (greatest_negative + 1)) → greatest_negative < x → BeginsWith true at text (1 + n) (refused (NumberTooLarge at))
negative_too_large text n at x long dash digit found (v, spelled, is) large =
    let test : nat_lt greatest_negative v ≡ true = lt-ltb _ _ (omega arith) in
    subst (BeginsWith true at text (1 + n)) (rw test refl) (negative_begins text n at v long dash digit found spelled)

pub negative_fits : (text : List ℕ) (n at x : ℕ) (z : ℤ) → 1 < length text → get_or text 0 0 ≡ 45 → IsAsciiDigit (get_or text 1 0) → IsLongest IsSomeNumber (rest_of text) n
    → (v : ℕ) × IsNumber (take n (rest_of text)) v × (x ≡ min v (greatest_negative + 1)) → x ≤ greatest_negative → z ≡ neg_ℤ (pos x) → BeginsWith true at text (1 + n) (kept (OfToken.Number z))
negative_fits text n at x z long dash digit found (v, spelled, is) small z_is =
    let test : nat_lt greatest_negative v ≡ false = le-ltb _ _ (omega arith) in
    let value : x ≡ v = omega arith in
    subst (BeginsWith true at text (1 + n)) (rw (test, z_is, value) refl) (negative_begins text n at v long dash digit found spelled)

-- `->` and `-`
pub arrow_begins : (text : List ℕ) (signed : Bool) (at : ℕ) → 1 < length text → get_or text 0 0 ≡ 45 → get_or text 1 0 ≡ 62 → BeginsWith signed at text 2 (kept (OfToken.Symbol Arrow))
arrow_begins text signed at long dash arrow =
    begins signed at (InDashRest signed) text 1 _ (omega arith) (λ w. dash_only signed at _ w dash)
    (arrow_longest signed (rest_of text) (second text (λ b. b == 62) long ∙ eq-eqb _ _ arrow))
    (subst (λ w. SpellsLexeme signed at w (kept (OfToken.Symbol Arrow))) (sym (ap (take 2) (two_bytes text 45 62 long dash arrow))) (symbol Arrow))

pub minus_begins : (text : List ℕ) (signed : Bool) (at : ℕ) → 0 < length text → get_or text 0 0 ≡ 45 → (signed ≡ true → 1 < length text → is_ascii_digit (get_or text 1 0) ≡ true → ⊥) → (1 < length text → get_or text 1 0 ≡ 62 → ⊥)
    → BeginsWith signed at text 1 (kept (OfToken.Symbol Minus))
minus_begins text signed at some dash no_digit no_arrow =
    begins signed at (InDashRest signed) text 0 _ some (λ w. dash_only signed at _ w dash)
    (other_longest signed (rest_of text) digit arrow)
    (rw (front text 0 some, dash) (symbol Minus))
  where
    digit : signed ≡ true → begins_with is_ascii_digit (rest_of text) ≡ false
    digit is_signed = elim (cases_lt 1 (length text)) [
      | inl long ↦ second text is_ascii_digit long ∙ false_from_ne_true _ (no_digit is_signed long)
      | inr short ↦ no_second text is_ascii_digit short
    ]

    arrow : begins_with (λ b. b == 62) (rest_of text) ≡ false
    arrow = elim (cases_lt 1 (length text)) [
      | inl long ↦ second text (λ b. b == 62) long ∙ ne_eqb _ _ (no_arrow long)
      | inr short ↦ no_second text (λ b. b == 62) short
    ]

-- symbols
symbol_length : (s : Symbol) → length (symbol_spelling s) ≤ 2
symbol_length Arrow = omega arith
symbol_length s = omega arith

pub one_byte_symbol : (text : List ℕ) (s : Symbol) → 0 < length text → symbol_spelling s ≡ get_or text 0 0 ∷ []
    → (1 < length text → (t : Symbol) → symbol_spelling t ≡ get_or text 0 0 ∷ get_or text 1 0 ∷ [] → ⊥) → IsLongest IsSymbol text 1 × symbol_spelling s ≡ take 1 text
one_byte_symbol [] s some is no_two = absurd (omega arith)
one_byte_symbol (a ∷ text) s some is no_two = (record { fits = omega arith; member = (s, is); longest = go text no_two }, is)
  where
    go : (text : List ℕ) → (1 < suc (length text) → (t : Symbol) → symbol_spelling t ≡ a ∷ get_or text 0 0 ∷ [] → ⊥) → (m : ℕ) → m ≤ suc (length text) → IsSymbol (take m (a ∷ text)) → m ≤ 1
    go text no_two zero fits h = omega arith
    go text no_two (suc zero) fits h = omega arith
    go [] no_two (suc (suc m)) fits h = absurd (omega arith)
    go (b ∷ text) no_two (suc (suc m)) fits (t, e) =
        let short : length (a ∷ b ∷ take m text) ≤ 2 = omega (arith, symbol_length t, ap length e) in
        let none : take m text ≡ [] = nil_from_length (take m text) (omega arith) in
        absurd (no_two (omega arith) t (e ∙ ap (λ x. a ∷ b ∷ x) none))

class_of-other : (b : ℕ) → begins_other b ≡ true → class_of b ≡ of_other
class_of-other b h = grind (arith, nat_tests)

other_only : (signed : Bool) (at b : ℕ) (w : List ℕ) → begins_other b ≡ true → IsLexeme signed at (b ∷ w) → IsSymbol (b ∷ w)
other_only signed at b w other h =
    let found = subst (λ c. ByClass signed at c (b ∷ w) h.0) (class_of-other b other) (by_class signed at h.1) in
    (found.0, found.1)

pub symbol_begins : (text : List ℕ) (signed : Bool) (at n : ℕ) (s : Symbol) → begins_other (get_or text 0 0) ≡ true → IsLongest IsSymbol text n → symbol_spelling s ≡ take n text
    → BeginsWith signed at text n (kept (OfToken.Symbol s))
symbol_begins text signed at n s other found is =
    begins_whole signed at IsSymbol text n _ (λ w. other_only signed at _ w other) found (subst (λ w. SpellsLexeme signed at w (kept (OfToken.Symbol s))) is (symbol s))

pub bad_byte_begins : (text : List ℕ) (signed : Bool) (at : ℕ) → 0 < length text → begins_other (get_or text 0 0) ≡ true → HasNoFront IsSymbol text → BeginsWith signed at text 1 (refused (BadByte at))
bad_byte_begins text signed at some other none = no_lexeme some (λ m fits h. go text m fits h other none)
  where
    go : (text : List ℕ) (m : ℕ) → m ≤ length text → IsLexeme signed at (take m text) → begins_other (get_or text 0 0) ≡ true → HasNoFront IsSymbol text → ⊥
    go text zero fits h other none = no_empty_lexeme h.1
    go [] (suc m) fits h other none = absurd (omega arith)
    go (b ∷ text) (suc m) fits h other none = none (suc m) fits (other_only signed at b _ other h)

-- what begins with a `/`, behind it
slash_only : (signed : Bool) (at : ℕ) (w : List ℕ) → IsLexeme signed at (47 ∷ w) → InSlash (47 ∷ w)
slash_only signed at w h = (by_class signed at h.1).0

slash_byte : (signed : Bool) (at : ℕ) (text : List ℕ) (n : ℕ) (m : Meaning) → ((j : ℕ) → j ≤ length text → InSlash (47 ∷ take j text) → j ≤ n) → n ≤ length text → InSlash (47 ∷ take n text)
    → SpellsLexeme signed at (47 ∷ take n text) m → BeginsWith signed at (47 ∷ text) (suc n) m
slash_byte signed at text n m longest fits member spells =
    begins_byte signed at (λ w. InSlash (47 ∷ w)) 47 text n m (slash_only signed at) (record { fits = fits; member = member; longest = longest }) spells

line_list : (signed : Bool) (at : ℕ) (text : List ℕ) → BeginsWith signed at (47 ∷ 47 ∷ text) (suc (suc (prefix_len (λ b. not (b == 10)) text))) passed
line_list signed at text =
    let found = prefix_len-longest (λ b. not (b == 10)) text in
    slash_byte signed at (47 ∷ text) (suc (prefix_len (λ b. not (b == 10)) text)) passed (longest found) (omega (arith, found.fits)) (inl (refl, found.member)) (line_comment _ found.member)
  where
    longest : IsLongest (λ w. list_all (λ b. not (b == 10)) w ≡ true) text (prefix_len (λ b. not (b == 10)) text)
        → (j : ℕ) → j ≤ suc (length text) → InSlash (47 ∷ take j (47 ∷ text)) → j ≤ suc (prefix_len (λ b. not (b == 10)) text)
    longest found zero fits h = omega arith
    longest found (suc j) fits (inl h) = omega (arith, found.longest j (omega arith) h.1)
    longest found (suc j) fits (inr h) = absurd (omega (arith, h.0))

closed_list : (signed : Bool) (at : ℕ) (text : List ℕ) (n : ℕ) → IsLongest (Closes 1) text n → BeginsWith signed at (47 ∷ 42 ∷ text) (suc (suc n)) passed
closed_list signed at text n found =
    slash_byte signed at (42 ∷ text) (suc n) passed longest (omega (arith, found.fits)) (inr (refl, inr found.member)) (comment _ found.member)
  where
    longest : (j : ℕ) → j ≤ suc (length text) → InSlash (47 ∷ take j (42 ∷ text)) → j ≤ suc n
    longest zero fits h = omega arith
    longest (suc j) fits (inl h) = absurd (omega (arith, h.0))
    longest (suc j) fits (inr (_, inl none)) = omega (arith, no_byte text j (omega arith) none)
    longest (suc j) fits (inr (_, inr h)) = omega (arith, found.longest j (omega arith) h)

open_list : (signed : Bool) (at : ℕ) (text : List ℕ) → HasNoFront (Closes 1) text → BeginsWith signed at (47 ∷ 42 ∷ text) 2 (refused (OpenComment at))
open_list signed at text none =
    slash_byte signed at (42 ∷ text) 1 (refused (OpenComment at)) longest (omega arith) (inr (refl, inl refl)) open_comment
  where
    longest : (j : ℕ) → j ≤ suc (length text) → InSlash (47 ∷ take j (42 ∷ text)) → j ≤ 1
    longest zero fits h = omega arith
    longest (suc j) fits (inl h) = absurd (omega (arith, h.0))
    longest (suc j) fits (inr (_, inl nothing)) = omega (arith, no_byte text j (omega arith) nothing)
    longest (suc j) fits (inr (_, inr h)) = absurd (none j (omega arith) h)

alone_list : (signed : Bool) (at : ℕ) (text : List ℕ) → begins_with (λ b. b == 47) text ≡ false → begins_with (λ b. b == 42) text ≡ false → BeginsWith signed at (47 ∷ text) 1 (kept (OfToken.Symbol Slash))
alone_list signed at text no_slash no_star = slash_byte signed at text 0 _ (longest text no_slash no_star) (omega arith) tt (symbol Slash)
  where
    longest : (text : List ℕ) → begins_with (λ b. b == 47) text ≡ false → begins_with (λ b. b == 42) text ≡ false → (j : ℕ) → j ≤ length text → InSlash (47 ∷ take j text) → j ≤ 0
    longest text no_slash no_star zero fits h = omega arith
    longest [] no_slash no_star (suc j) fits h = fits
    longest (b ∷ text) no_slash no_star (suc j) fits (inl h) = absurd (eqb-false b 47 no_slash h.0)
    longest (b ∷ text) no_slash no_star (suc j) fits (inr h) = absurd (eqb-false b 42 no_star h.0)

-- the bytes behind the first two, as the code reads them
module _ (signed : Bool) (at : ℕ) (text : List ℕ) (first : get_or text 0 0 ≡ 47) where
  pub line_begins : 1 < length text → get_or text 1 0 ≡ 47 → (n : ℕ) → n ≡ prefix_len (λ b. not (b == 10)) (take (length text - 2) (drop 2 text)) → BeginsWith signed at text (2 + n) passed
  line_begins long second n is =
      let size : 2 + n ≡ suc (suc n) = omega arith in
      rw size (subst₂ (λ x k. BeginsWith signed at x (suc (suc k)) passed) (sym (two_bytes text 47 47 long first second)) (sym is) (line_list signed at _))

  pub closed_begins : 1 < length text → get_or text 1 0 ≡ 42 → (n : ℕ) → IsLongest (Closes 1) (take (length text - 2) (drop 2 text)) n → BeginsWith signed at text (2 + n) passed
  closed_begins long second n found =
      let size : 2 + n ≡ suc (suc n) = omega arith in
      rw size (subst (λ x. BeginsWith signed at x (suc (suc n)) passed) (sym (two_bytes text 47 42 long first second)) (closed_list signed at _ n found))

  pub open_begins : 1 < length text → get_or text 1 0 ≡ 42 → HasNoFront (Closes 1) (take (length text - 2) (drop 2 text)) → BeginsWith signed at text 2 (refused (OpenComment at))
  open_begins long second none = subst (λ x. BeginsWith signed at x 2 (refused (OpenComment at))) (sym (two_bytes text 47 42 long first second)) (open_list signed at _ none)

  pub slash_begins : 0 < length text → (1 < length text → get_or text 1 0 ≡ 47 → ⊥) → (1 < length text → get_or text 1 0 ≡ 42 → ⊥) → BeginsWith signed at text 1 (kept (OfToken.Symbol Slash))
  slash_begins some no_slash no_star = subst (λ x. BeginsWith signed at x 1 (kept (OfToken.Symbol Slash))) (sym split) (alone_list signed at (rest_of text) (apart 47 no_slash) (apart 42 no_star))
    where
      split : text ≡ 47 ∷ rest_of text
      split = rw take_rest (go text some first)
        where
          go : (text : List ℕ) → 0 < length text → get_or text 0 0 ≡ 47 → text ≡ 47 ∷ drop 1 text
          go [] some first = absurd (omega arith)
          go (b ∷ text) some first = ap (λ x. x ∷ text) first

      apart : (b : ℕ) → (1 < length text → get_or text 1 0 ≡ b → ⊥) → begins_with (λ c. c == b) (rest_of text) ≡ false
      apart b none = elim (cases_lt 1 (length text)) [
        | inl long ↦ second text (λ c. c == b) long ∙ ne_eqb _ _ (none long)
        | inr short ↦ no_second text (λ c. c == b) short
      ]

-- strings
quote_only : (signed : Bool) (at b : ℕ) (w : List ℕ) → b ≡ 34 → IsLexeme signed at (b ∷ w) → IsQuoted at w
quote_only signed at b w is h =
    let found = subst (λ c. ByClass signed at c (b ∷ w) h.0) (ap class_of is) (by_class signed at h.1) in
    let word : found.0 ≡ w = sym (behind _ _ _ _ found.1) in
    (h.0, subst (λ x. InQuote at x h.0) word found.2)
  where
    behind : (a b : ℕ) (v w : List ℕ) → a ∷ v ≡ b ∷ w → v ≡ w
    behind a b v w e = cc

module _ (signed : Bool) (at : ℕ) (text : List ℕ) (some : 0 < length text) (quote : get_or text 0 0 ≡ 34) (n : ℕ) (bs : List ℕ) (fits : n ≤ length (take (length text - 1) (drop 1 text)))
    (inside : IsInside (take n (take (length text - 1) (drop 1 text))) bs) where
  string_spelled : (m : Meaning) (k : ℕ) (w : List ℕ) → take k (rest_of text) ≡ w → SpellsLexeme signed at (34 ∷ w) m → SpellsLexeme signed at (take (1 + k) text) m
  string_spelled m k w is spells = rw (front text k some, quote, is) spells

  pub closed_string : IsFirstPart (take (length (take (length text - 1) (drop 1 text)) - n) (drop n (take (length text - 1) (drop 1 text)))) Quote → BeginsWith signed at text (n + 2) (string_meaning at bs)
  closed_string (rest, is) =
      let size : n + 2 ≡ 1 + (n + 1) = omega arith in
      let is' : drop n (rest_of text) ≡ 34 ∷ rest = sym (take_rest (rest_of text) n) ∙ is in
      rw size (begins signed at (IsQuoted at) text (n + 1) _ some (λ w. quote_only signed at _ w quote) (closed_longest at _ n bs fits inside rest is')
      (string_spelled _ (n + 1) _ (one_behind at _ n bs fits inside 34 rest is') (string _ bs inside)))

  pub open_string_ : IsFirstPart (take (length (take (length text - 1) (drop 1 text)) - n) (drop n (take (length text - 1) (drop 1 text)))) End → BeginsWith signed at text (1 + n) (refused (OpenString at))
  open_string_ end =
      begins signed at (IsQuoted at) text n _ some (λ w. quote_only signed at _ w quote) (open_longest at _ n bs fits inside (rw (take_rest (rest_of text) n) at end))
      (string_spelled _ n _ refl (open_string _ bs inside))

  pub bad_string : IsFirstPart (take (length (take (length text - 1) (drop 1 text)) - n) (drop n (take (length text - 1) (drop 1 text)))) BadEscape → BeginsWith signed at text (1 + (n + 1)) (refused (BadByte (at + 1 + n)))
  bad_string (rest, is, none) =
      let size = inside_length at _ n bs fits inside in
      let is' : drop n (rest_of text) ≡ 92 ∷ rest = sym (take_rest (rest_of text) n) ∙ is in
      begins signed at (IsQuoted at) text (n + 1) _ some (λ w. quote_only signed at _ w quote) (bad_longest at _ n bs fits inside rest is' none)
      (string_spelled _ (n + 1) _ (one_behind at _ n bs fits inside 92 rest is') (subst (λ x. SpellsLexeme signed at (34 ∷ take n (rest_of text) ++ 92 ∷ []) (refused (BadByte (at + 1 + x)))) size (bad_escape _ bs inside)))

-- an answer that says what so many bytes mean
pub answered : (signed : Bool) (at : ℕ) (text : List ℕ) (n : ℕ) (m : Meaning) (answer : Result Lexeme LexError) → AnswersMeaning n m answer → BeginsWith signed at text n m → IsFirstLexeme signed at text answer
answered signed at text n m (Ok found) says h = subst₂ (BeginsWith signed at text) (sym says.0) (sym says.1) h
answered signed at text n m (Err OfLexError.NoMemory) says h = tt
answered signed at text n m (Err error) says h = (n, subst (BeginsWith signed at text n) (sym says) h)

-- blanks
pub blank_begins : (signed : Bool) (at : ℕ) (text : List ℕ) → 0 < length text → is_blank (get_or text 0 0) ≡ true → BeginsWith signed at text 1 passed
blank_begins signed at text some is =
    begins signed at (λ w. w ≡ []) text 0 passed some only (record { fits = omega arith; member = refl; longest = no_byte (rest_of text) }) (rw (front text 0 some) (blank _ is))
  where
    only : (w : List ℕ) → IsLexeme signed at (get_or text 0 0 ∷ w) → w ≡ []
    only w h =
        let found = subst (λ c. ByClass signed at c (get_or text 0 0 ∷ w) h.0) (class_of-blank (get_or text 0 0) is) (by_class signed at h.1) in
        nil_from_length w (omega (arith, found.0))
