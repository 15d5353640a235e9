-- Each text has a reading: whether a word is a lexeme can be told, so a text has a longest front that is one, or none.
use Rattle.std.proofs.Common.{◌≡◌, ◌⊎◌, ℕ, zero, suc, ◌<◌, ◌≤◌, List, [], ◌∷◌, ◌++◌, length, take, drop, Bool, true, false, cond, Option, Some, None, refl, sym, ap, subst, subst₂, ◌∙◌, inl, inr, arith}
use Rattle.std.specs.Prelude.{nat_lt, Err}
use Rattle.std.specs.Str.{bytes_eq}
use Rattle.std.proofs.lemmas.Bool.{cases_eq, cases_lt, false≢true}
use Rattle.std.proofs.lemmas.Bool.Decides.{nat_tests}
use Rattle.std.proofs.lemmas.List.{same_from_push, length-drop}
use Rattle.std.proofs.lemmas.Slice.Eq.{bytes_eq-Decides}
use Rattle.kk_base.specs.declared.error.LexError.TheVariants as OfLexError
use Rattle.kk_base.specs.declared.span.Span.{Span}
use Rattle.kk_base.specs.Limits.{greatest_string}
use Rattle.kk_syntax.specs.declared.token.Keyword.{Keyword}
use Rattle.kk_syntax.specs.declared.token.LocatedToken.{LocatedToken}
use Rattle.kk_syntax.specs.declared.token.Symbol.{Symbol}
use Rattle.kk_syntax.specs.declared.token.Token.{Token}
use Rattle.kk_syntax.specs.Places.{start, place_behind}
use Rattle.kk_lexer.specs.Comments.{is_within_line, begins_with_mark, Closes, closed, opens, closes, other}
use Rattle.kk_lexer.specs.Fronts.{HasNoFront, IsLongest}
use Rattle.kk_lexer.specs.Lexemes.{Meaning, passed, kept, refused, is_blank, SpellsLexeme, blank, line_comment, comment, open_comment, name, keyword, constructor_name, wildcard, number, negative_number, string, open_string, bad_escape, symbol, IsLexeme, BeginsWith, lexeme, no_lexeme}
use Rattle.kk_lexer.specs.Names.{is_name, is_constructor_name, is_wildcard, keyword_spelling}
use Rattle.kk_lexer.specs.Numbers.{IsNumber, value_behind, decimal, hexadecimal, is_decimal, is_hexadecimal, greatest_number, greatest_negative}
use Rattle.kk_lexer.specs.Readings.{is_sign, Outcome, ReadsText, ends, passes, keeps, refuses, EachTextIsRead}
use Rattle.kk_lexer.specs.Scanners.{IsSomeNumber, IsSymbol}
use Rattle.kk_lexer.specs.Strings.{IsInside, empty, plain, escape, is_plain, escaped}
use Rattle.kk_lexer.specs.Symbols.{symbol_spelling}
use Rattle.kk_lexer.proofs.CommentLemmas.{closes_nothing, closed_at, open_at, close_at, other_at, one_at}
use Rattle.kk_lexer.proofs.StringInsides.{IsInside-plain, IsInside-escape, IsInside-stop, IsInside-no_escape, IsInside-one}
use Rattle.kk_lexer.proofs.ReadingUniqueness.{keyword_of, keyword_of-spelling, symbol_of, symbol_of-spelling, one_reading}
use Rattle.kk_lexer.proofs.ReadingLemmas.{BeginsWith-fits}

-- it can be told whether a fact holds
abbrev CanTell : Type 0 → Type 0
CanTell P = P ⊎ (P → ⊥)

tell : (b : Bool) → CanTell (b ≡ true)
tell true = inl refl
tell false = inr false≢true

tell_same : (xs ys : List ℕ) → CanTell (xs ≡ ys)
tell_same xs ys =
    elim (tell (bytes_eq xs ys)) [
      | inl is ↦ inl ((bytes_eq-Decides xs ys).0 is)
      | inr not ↦ inr (λ e. not ((bytes_eq-Decides xs ys).1 e))
    ]

tell_both : {P Q : Type 0} → CanTell P → CanTell Q → CanTell (P × Q)
tell_both (inl p) (inl q) = inl (p, q)
tell_both (inl p) (inr q) = inr (λ h. q h.1)
tell_both (inr p) _ = inr (λ h. p h.0)

tell_either : {P Q : Type 0} → CanTell P → CanTell Q → CanTell (P ⊎ Q)
tell_either (inl p) _ = inl (inl p)
tell_either (inr p) (inl q) = inl (inr q)
tell_either (inr p) (inr q) = inr (λ h. elim h [ inl x ↦ p x | inr x ↦ q x ])

-- a word is a byte and, behind it, a word of a set
abbrev Behind : ℕ → (List ℕ → Type 0) → List ℕ → Type 0
Behind a P w = (v : List ℕ) × (w ≡ a ∷ v) × P v

tell_behind : {P : List ℕ → Type 0} (a : ℕ) → ((w : List ℕ) → CanTell (P w)) → (w : List ℕ) → CanTell (Behind a P w)
tell_behind a tell_rest [] = inr (λ h. cc h.1)
tell_behind {P} a tell_rest (b ∷ w) =
    elim (cases_eq b a) [
      | inr not ↦ inr (λ h. not (cc h.1))
      | inl is ↦ elim (tell_rest w) [
        | inl h ↦ inl (w, ap (λ x. x ∷ w) is, h)
        | inr none ↦ inr (λ h. let same : h.0 ≡ w = cc (h.1) in none (subst P same h.2))
      ]
    ]

mark_cases : (b c : ℕ) → ((b ≡ 47) × (c ≡ 42)) ⊎ (((b ≡ 42) × (c ≡ 47)) ⊎ ((bytes : List ℕ) → begins_with_mark (b ∷ c ∷ bytes) ≡ false))
mark_cases b c =
    elim (cases_eq b 47) [
      | inl b_is ↦ elim (cases_eq c 42) [
        | inl c_is ↦ inl (b_is, c_is)
        | inr c_not ↦ inr (inr (λ bytes. grind (arith, nat_tests)))
      ]
      | inr b_not ↦ elim (cases_eq b 42) [
        | inl b_is ↦ elim (cases_eq c 47) [
          | inl c_is ↦ inr (inl (b_is, c_is))
          | inr c_not ↦ inr (inr (λ bytes. grind (arith, nat_tests)))
        ]
        | inr b_not' ↦ inr (inr (λ bytes. grind (arith, nat_tests)))
      ]
    ]

-- the inside of a comment
tell_closes : (bytes : List ℕ) (n : ℕ) → CanTell (Closes n bytes)
tell_closes [] zero = inl closed
tell_closes [] (suc n) = inr closes_nothing
tell_closes (b ∷ bytes) zero = inr (λ h. let e = closed_at h refl in cc)
tell_closes (b ∷ []) (suc n) = inr (λ h. one_at h n b refl refl)
tell_closes (b ∷ c ∷ bytes) (suc n) =
    elim (mark_cases b c) [
      | inl (b_is, c_is) ↦
          let P : ℕ → ℕ → Type 0 = λ x y. CanTell (Closes (suc n) (x ∷ y ∷ bytes)) in
          subst₂ P (sym b_is) (sym c_is) (elim (tell_closes bytes (suc (suc n))) [
            | inl h ↦ inl (opens n bytes h)
            | inr none ↦ inr (λ h. none (open_at h n bytes refl refl))
          ])
      | inr (inl (b_is, c_is)) ↦
          let P : ℕ → ℕ → Type 0 = λ x y. CanTell (Closes (suc n) (x ∷ y ∷ bytes)) in
          subst₂ P (sym b_is) (sym c_is) (elim (tell_closes bytes n) [
            | inl h ↦ inl (closes n bytes h)
            | inr none ↦ inr (λ h. none (close_at h n bytes refl refl))
          ])
      | inr (inr no_mark) ↦ elim (tell_closes (c ∷ bytes) (suc n)) [
        | inl h ↦ inl (other n b (c ∷ bytes) (no_mark bytes) h)
        | inr none ↦ inr (λ h. none (other_at h n b (c ∷ bytes) refl refl (no_mark bytes)))
      ]
    ]

is_false : (x : Bool) → (x ≡ true → ⊥) → x ≡ false
is_false true h = absurd (h refl)
is_false false h = refl

-- the inside of a string
tell_inside : (word : List ℕ) → CanTell ((bytes : List ℕ) × IsInside word bytes)
tell_inside [] = inl ([], empty)
tell_inside (b ∷ []) =
    elim (tell (is_plain b)) [
      | inl is ↦ inl (b ∷ [], plain b [] [] is empty)
      | inr not ↦ inr (λ h. elim (cases_eq b 92) [
        | inl is ↦ IsInside-one (subst (λ x. IsInside (x ∷ []) h.0) is h.1)
        | inr no_escape ↦ IsInside-stop h.1 (is_false _ not) no_escape
      ])
    ]
tell_inside (b ∷ c ∷ word) =
    elim (tell (is_plain b)) [
      | inl is ↦ elim (tell_inside (c ∷ word)) [
        | inl h ↦ inl (b ∷ h.0, plain b (c ∷ word) h.0 is h.1)
        | inr none ↦ inr (λ h. let rest = IsInside-plain h.1 is in none (rest.0, rest.1))
      ]
      | inr not ↦ elim (cases_eq b 92) [
        | inr no_escape ↦ inr (λ h. IsInside-stop h.1 (is_false _ not) no_escape)
        | inl is ↦
            let P : ℕ → Type 0 = λ x. CanTell ((bytes : List ℕ) × IsInside (x ∷ c ∷ word) bytes) in
            subst P (sym is) (tell_escape (escaped c) refl (tell_inside word))
      ]
    ]
  where
    tell_escape : (o : Option ℕ) → escaped c ≡ o → CanTell ((bytes : List ℕ) × IsInside word bytes) → CanTell ((bytes : List ℕ) × IsInside (92 ∷ c ∷ word) bytes)
    tell_escape None e rest = inr (λ h. IsInside-no_escape h.1 e)
    tell_escape (Some x) e (inl h) = inl (x ∷ h.0, escape c x word h.0 e h.1)
    tell_escape (Some x) e (inr none) = inr (λ h. let rest = IsInside-escape h.1 e in none (rest.0, rest.1))

-- what stands behind a quote
last_byte : (w : List ℕ) → (w ≡ []) ⊎ ((v : List ℕ) × (b : ℕ) × (w ≡ v ++ b ∷ []))
last_byte [] = inl refl
last_byte (b ∷ w) =
    elim (last_byte w) [
      | inl e ↦ inr ([], b, ap (λ x. b ∷ x) e)
      | inr (v, c, e) ↦ inr (b ∷ v, c, ap (λ x. b ∷ x) e)
    ]

-- a word is closed by a byte behind an inside
abbrev EndsWith : ℕ → List ℕ → Type 0
EndsWith b word = (v : List ℕ) × (bytes : List ℕ) × (word ≡ v ++ b ∷ []) × IsInside v bytes

tell_ends : (b : ℕ) (word : List ℕ) → CanTell (EndsWith b word)
tell_ends b word =
    elim (last_byte word) [
      | inl e ↦ inr (λ h. let bad : [] ≡ h.0 ++ b ∷ [] = sym e ∙ h.2 in no_end h.0 bad)
      | inr (v, c, e) ↦ elim (cases_eq c b) [
        | inr not ↦ inr (λ h. not (same_from_push v h.0 c b (sym e ∙ h.2)).1)
        | inl is ↦ elim (tell_inside v) [
          | inl h ↦ inl (v, h.0, e ∙ ap (λ x. v ++ x ∷ []) is, h.1)
          | inr none ↦ inr (λ h. let same = (same_from_push v h.0 c b (sym e ∙ h.2)).0 in none (h.1, subst (λ x. IsInside x h.1) (sym same) h.3))
        ]
      ]
    ]
  where
    no_end : (v : List ℕ) → [] ≡ v ++ b ∷ [] → ⊥
    no_end [] e = cc
    no_end (x ∷ v) e = cc

-- numbers
tell_number : (word : List ℕ) → CanTell (IsSomeNumber word)
tell_number word =
    elim (tell (is_decimal word)) [
      | inl is ↦ inl (value_behind 10 0 word, decimal word is)
      | inr no_decimal ↦ elim (tell_behind {P = Behind 120 (λ v. is_hexadecimal v ≡ true)} 48 (tell_behind {P = λ w. is_hexadecimal w ≡ true} 120 (λ w. tell (is_hexadecimal w))) word) [
        | inl (v, e, (digits, d, is)) ↦ inl (value_behind 16 0 digits, subst (λ w. IsNumber w (value_behind 16 0 digits)) (sym (e ∙ ap (λ x. 48 ∷ x) d)) (hexadecimal digits is))
        | inr none ↦ inr (λ h. no_number no_decimal none h.1)
      ]
    ]
  where
    no_number : {w : List ℕ} {n : ℕ} → (is_decimal w ≡ true → ⊥) → (Behind 48 (Behind 120 (λ v. is_hexadecimal v ≡ true)) w → ⊥) → IsNumber w n → ⊥
    no_number d x (decimal w is) = d is
    no_number d x (hexadecimal digits is) = x (_, refl, (digits, refl, is))

-- keywords and symbols
tell_keyword : (word : List ℕ) → CanTell ((k : Keyword) × (keyword_spelling k ≡ word))
tell_keyword word = go (keyword_of word) refl
  where
    go : (o : Option Keyword) → keyword_of word ≡ o → CanTell ((k : Keyword) × (keyword_spelling k ≡ word))
    go None e = inr (λ (k, h). let found = sym (keyword_of-spelling k) ∙ (ap keyword_of h ∙ e) in cc)
    go (Some k) e =
        elim (tell_same (keyword_spelling k) word) [
          | inl h ↦ inl (k, h)
          | inr not ↦ inr (λ (j, h). let found = sym (keyword_of-spelling j) ∙ (ap keyword_of h ∙ e) in let same : j ≡ k = cc in not (ap keyword_spelling (sym same) ∙ h))
        ]

tell_symbol : (word : List ℕ) → CanTell (IsSymbol word)
tell_symbol word = go (symbol_of word) refl
  where
    go : (o : Option Symbol) → symbol_of word ≡ o → CanTell (IsSymbol word)
    go None e = inr (λ (s, h). let found = sym (symbol_of-spelling s) ∙ (ap symbol_of h ∙ e) in cc)
    go (Some s) e =
        elim (tell_same (symbol_spelling s) word) [
          | inl h ↦ inl (s, h)
          | inr not ↦ inr (λ (t, h). let found = sym (symbol_of-spelling t) ∙ (ap symbol_of h ∙ e) in let same : t ≡ s = cc in not (ap symbol_spelling (sym same) ∙ h))
        ]

-- lexemes
tell_blank : (word : List ℕ) → CanTell ((b : ℕ) × (word ≡ b ∷ []) × (is_blank b ≡ true))
tell_blank [] = inr (λ h. cc h.1)
tell_blank (b ∷ []) =
    elim (tell (is_blank b)) [
      | inl is ↦ inl (b, refl, is)
      | inr not ↦ inr (λ h. let same : h.0 ≡ b = cc h.1 in not (ap is_blank (sym same) ∙ h.2))
    ]
tell_blank (b ∷ c ∷ word) = inr (λ h. cc h.1)

abbrev IsQuotedWord : List ℕ → Type 0
IsQuotedWord word = ((bytes : List ℕ) × IsInside word bytes) ⊎ (EndsWith 34 word ⊎ EndsWith 92 word)

-- the shapes of lexemes
abbrev HasShape : Bool → List ℕ → Type 0
HasShape signed w =
    ((b : ℕ) × (w ≡ b ∷ []) × (is_blank b ≡ true))
    ⊎ (Behind 47 (Behind 47 (λ v. is_within_line v ≡ true)) w
    ⊎ (Behind 47 (Behind 42 (λ v. (v ≡ []) ⊎ Closes 1 v)) w
    ⊎ (((k : Keyword) × (keyword_spelling k ≡ w))
    ⊎ ((is_name w ≡ true)
    ⊎ ((is_constructor_name w ≡ true)
    ⊎ ((is_wildcard w ≡ true)
    ⊎ (IsSomeNumber w
    ⊎ (((signed ≡ true) × Behind 45 IsSomeNumber w)
    ⊎ (Behind 34 IsQuotedWord w
    ⊎ IsSymbol w)))))))))

tell_shape : (signed : Bool) (w : List ℕ) → CanTell (HasShape signed w)
tell_shape signed w =
    tell_either (tell_blank w)
    (tell_either (tell_behind {P = Behind 47 (λ v. is_within_line v ≡ true)} 47 (tell_behind {P = λ v. is_within_line v ≡ true} 47 (λ v. tell (is_within_line v))) w)
    (tell_either (tell_behind {P = Behind 42 (λ v. (v ≡ []) ⊎ Closes 1 v)} 47 (tell_behind {P = λ v. (v ≡ []) ⊎ Closes 1 v} 42 (λ v. tell_either (tell_same v []) (tell_closes v 1))) w)
    (tell_either (tell_keyword w)
    (tell_either (tell (is_name w))
    (tell_either (tell (is_constructor_name w))
    (tell_either (tell (is_wildcard w))
    (tell_either (tell_number w)
    (tell_either (tell_both (tell signed) (tell_behind {P = IsSomeNumber} 45 tell_number w))
    (tell_either (tell_behind {P = IsQuotedWord} 34 (λ v. tell_either (tell_inside v) (tell_either (tell_ends 34 v) (tell_ends 92 v))) w)
    (tell_symbol w))))))))))

module _ (signed : Bool) (at : ℕ) where
  lexeme_of : (w : List ℕ) → HasShape signed w → IsLexeme signed at w
  lexeme_of w (inl (b, e, h)) = subst (IsLexeme signed at) (sym e) (_, blank b h)
  lexeme_of w (inr (inl (v, e, (u, d, h)))) = subst (IsLexeme signed at) (sym (e ∙ ap (λ x. 47 ∷ x) d)) (_, line_comment u h)
  lexeme_of w (inr (inr (inl (v, e, (u, d, inl h))))) = subst (IsLexeme signed at) (sym (e ∙ ap (λ x. 47 ∷ x) (d ∙ ap (λ x. 42 ∷ x) h))) (_, open_comment)
  lexeme_of w (inr (inr (inl (v, e, (u, d, inr h))))) = subst (IsLexeme signed at) (sym (e ∙ ap (λ x. 47 ∷ x) d)) (_, comment u h)
  lexeme_of w (inr (inr (inr (inl (k, e))))) = subst (IsLexeme signed at) e (_, keyword k)
  lexeme_of w (inr (inr (inr (inr (inl h))))) =
      elim (tell_keyword w) [
        | inl (k, e) ↦ subst (IsLexeme signed at) e (_, keyword k)
        | inr none ↦ (_, name w h (λ k e. none (k, e)))
      ]
  lexeme_of w (inr (inr (inr (inr (inr (inl h)))))) = (_, constructor_name w h)
  lexeme_of w (inr (inr (inr (inr (inr (inr (inl h))))))) = (_, wildcard w h)
  lexeme_of w (inr (inr (inr (inr (inr (inr (inr (inl (n, h))))))))) = (_, number w n h)
  lexeme_of w (inr (inr (inr (inr (inr (inr (inr (inr (inl (s, (v, e, (n, h)))))))))))) = subst (IsLexeme signed at) (sym e) (_, negative_number v n s h)
  lexeme_of w (inr (inr (inr (inr (inr (inr (inr (inr (inr (inl (v, e, inl (bs, h)))))))))))) = subst (IsLexeme signed at) (sym e) (_, open_string v bs h)
  lexeme_of w (inr (inr (inr (inr (inr (inr (inr (inr (inr (inl (v, e, inr (inl (u, bs, d, h))))))))))))) = subst (IsLexeme signed at) (sym (e ∙ ap (λ x. 34 ∷ x) d)) (_, string u bs h)
  lexeme_of w (inr (inr (inr (inr (inr (inr (inr (inr (inr (inl (v, e, inr (inr (u, bs, d, h))))))))))))) = subst (IsLexeme signed at) (sym (e ∙ ap (λ x. 34 ∷ x) d)) (_, bad_escape u bs h)
  lexeme_of w (inr (inr (inr (inr (inr (inr (inr (inr (inr (inr (s, e))))))))))) = subst (IsLexeme signed at) e (_, symbol s)

  shape_of : {w : List ℕ} {m : Meaning} → SpellsLexeme signed at w m → HasShape signed w
  shape_of (blank b h) = inl (b, refl, h)
  shape_of (line_comment line h) = inr (inl (_, refl, (line, refl, h)))
  shape_of (comment inside h) = inr (inr (inl (_, refl, (inside, refl, inr h))))
  shape_of open_comment = inr (inr (inl (_, refl, ([], refl, inl refl))))
  shape_of (keyword k) = inr (inr (inr (inl (k, refl))))
  shape_of (name word h apart) = inr (inr (inr (inr (inl h))))
  shape_of (constructor_name word h) = inr (inr (inr (inr (inr (inl h)))))
  shape_of (wildcard word h) = inr (inr (inr (inr (inr (inr (inl h))))))
  shape_of (number word n h) = inr (inr (inr (inr (inr (inr (inr (inl (n, h))))))))
  shape_of (negative_number word n is h) = inr (inr (inr (inr (inr (inr (inr (inr (inl (is, (word, refl, (n, h)))))))))))
  shape_of (open_string word bytes h) = inr (inr (inr (inr (inr (inr (inr (inr (inr (inl (word, refl, inl (bytes, h)))))))))))
  shape_of (string word bytes h) = inr (inr (inr (inr (inr (inr (inr (inr (inr (inl (_, refl, inr (inl (word, bytes, refl, h))))))))))))
  shape_of (bad_escape word bytes h) = inr (inr (inr (inr (inr (inr (inr (inr (inr (inl (_, refl, inr (inr (word, bytes, refl, h))))))))))))
  shape_of (symbol s) = inr (inr (inr (inr (inr (inr (inr (inr (inr (inr (s, refl))))))))))

  tell_lexeme : (w : List ℕ) → CanTell (IsLexeme signed at w)
  tell_lexeme w =
      elim (tell_shape signed w) [
        | inl h ↦ inl (lexeme_of w h)
        | inr none ↦ inr (λ h. none (shape_of h.1))
      ]

-- a text has a longest front in a set, or none, where the set can be told
module _ {P : List ℕ → Type 0} (can : (w : List ℕ) → CanTell (P w)) (text : List ℕ) where
  -- no front that is longer than k bytes is in the set
  abbrev NoneLonger : ℕ → Type 0
  NoneLonger k = (m : ℕ) → m ≤ length text → k < m → P (take m text) → ⊥

  at_length : (k : ℕ) → k ≤ length text → NoneLonger k → P (take k text) → IsLongest P text k
  at_length k fits longer h = record {
    fits = fits;
    member = h;
    longest = λ m m_fits q. elim (cases_lt k m) [ inl above ↦ absurd (longer m m_fits above q) | inr low ↦ low ];
  }

  none_longer : (k : ℕ) → (P (take (suc k) text) → ⊥) → NoneLonger (suc k) → NoneLonger k
  none_longer k none longer m m_fits above h =
      elim (cases_lt (suc k) m) [
        | inl more ↦ longer m m_fits more h
        | inr low ↦ let is : m ≡ suc k = omega arith in none (subst (λ x. P (take x text)) is h)
      ]

  tell_front : (k : ℕ) → k ≤ length text → NoneLonger k → ((n : ℕ) × IsLongest P text n) ⊎ HasNoFront P text
  tell_front zero fits longer =
      elim (can (take 0 text)) [
        | inl h ↦ inl (0, at_length 0 fits longer h)
        | inr none ↦ inr (λ m m_fits h. elim (cases_lt 0 m) [ inl above ↦ longer m m_fits above h | inr low ↦ let is : m ≡ 0 = omega arith in none (subst (λ x. P (take x text)) is h) ])
      ]
  tell_front (suc k) fits longer =
      elim (can (take (suc k) text)) [
        | inl h ↦ inl (suc k, at_length (suc k) fits longer h)
        | inr none ↦ tell_front k (omega arith) (none_longer k none longer)
      ]

  tell_longest : ((n : ℕ) × IsLongest P text n) ⊎ HasNoFront P text
  tell_longest = tell_front (length text) (omega arith) (λ m m_fits above h. absurd (omega arith))

-- a lexeme that cannot be read is no want of memory
abbrev IsCause : Meaning → Type 0
IsCause (refused OfLexError.NoMemory) = ⊥
IsCause m = Unit {0}

limited : (b : Bool) (at : ℕ) (token : Token) → IsCause (cond b (refused (OfLexError.NumberTooLarge at)) (kept token))
limited true at token = tt
limited false at token = tt

limited_string : (b : Bool) (at : ℕ) (token : Token) → IsCause (cond b (refused (OfLexError.StringTooLong at)) (kept token))
limited_string true at token = tt
limited_string false at token = tt

lexeme_cause : {signed : Bool} {at : ℕ} {w : List ℕ} {m : Meaning} → SpellsLexeme signed at w m → IsCause m
lexeme_cause {signed} {at} (number word n h) = limited (nat_lt greatest_number n) at _
lexeme_cause {signed} {at} (negative_number word n is h) = limited (nat_lt greatest_negative n) at _
lexeme_cause {signed} {at} (string word bytes h) = limited_string (nat_lt greatest_string (length bytes)) at _
lexeme_cause h = tt

-- what a text begins with
abbrev Beginning : Bool → ℕ → List ℕ → Type 0
Beginning signed at text = (n : ℕ) × (m : Meaning) × BeginsWith signed at text n m × IsCause m

each_beginning : (signed : Bool) (at : ℕ) (text : List ℕ) → 0 < length text → Beginning signed at text
each_beginning signed at text some =
    elim (tell_longest (tell_lexeme signed at) text) [
      | inl (n, h) ↦ (n, h.member.0, lexeme n h.member.0 h h.member.1, lexeme_cause h.member.1)
      | inr none ↦ (1, _, no_lexeme some none, tt)
    ]

-- what is left of a text at a place has an outcome
abbrev HasOutcome : List LocatedToken → Span → List ℕ → Type 0
HasOutcome before place text = (outcome : Outcome) × ReadsText before place text outcome × (outcome ≡ Err OfLexError.NoMemory → ⊥)

behind_first : (before : List LocatedToken) (place : Span) (text : List ℕ) → 0 < length text → ((before' : List LocatedToken) (place' : Span) (n : ℕ) → 0 < n → HasOutcome before' place' (drop n text)) → HasOutcome before place text
behind_first before place text some rest = let found = each_beginning (is_sign before place.line) place.at text some in by_meaning found.0 found.1 found.2 found.3
  where
    by_meaning : (n : ℕ) (m : Meaning) → BeginsWith (is_sign before place.line) place.at text n m → IsCause m → HasOutcome before place text
    by_meaning n passed h cause =
        let found = rest before (place_behind place (take n text)) n (BeginsWith-fits h).0 in
        (found.0, passes before place text n found.0 h found.1, found.2)
    by_meaning n (kept token) h cause =
        let found = rest (before ++ record { token = token; span = place } ∷ []) (place_behind place (take n text)) n (BeginsWith-fits h).0 in
        (found.0, keeps before place text n token found.0 h found.1, found.2)
    by_meaning n (refused OfLexError.NoMemory) h cause = absurd cause
    by_meaning n (refused error) h cause = (Err error, refuses before place text n error h, λ e. cc)

each_outcome : (more : ℕ) (before : List LocatedToken) (place : Span) (text : List ℕ) → length text ≤ more → HasOutcome before place text
each_outcome more before place [] short = (_, ends before place, λ e. cc)
each_outcome zero before place (b ∷ text) short = absurd (omega arith)
each_outcome (suc more) before place (b ∷ text) short =
    behind_first before place (b ∷ text) (omega arith) (λ before' place' n some. each_outcome more before' place' (drop n (b ∷ text)) (rw length-drop (omega arith)))

pub each_text_is_read : EachTextIsRead
each_text_is_read text =
    let found = each_outcome (length text) [] start text (omega arith) in
    ((found.0, record { holds = found.1; only = λ other h. one_reading found.1 h }), λ h. found.2 (sym (one_reading found.1 h)))
