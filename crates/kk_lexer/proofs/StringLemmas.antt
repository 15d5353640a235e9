-- Strings, part by part.
use Rattle.std.proofs.Common.{◌≡◌, ◌⊎◌, ℕ, zero, suc, ◌+◌, ◌-◌, ◌<◌, ◌≤◌, List, [], ◌∷◌, ◌++◌, length, take, drop, true, false, Some, None, refl, sym, ap, subst, subst₂, ◌∙◌, inl, inr, arith, zero-add}
use Rattle.std.proofs.lemmas.Bool.{cases_lt}
use Rattle.std.proofs.lemmas.List.{length-drop, length-take-le, take_rest}
use Rattle.kk_lexer.specs.Fronts.{IsLongest}
use Rattle.kk_lexer.specs.Lexemes.{Meaning}
use Rattle.kk_lexer.specs.declared.strings.Part.TheVariants.{Byte}
use Rattle.kk_lexer.specs.Parts.{IsFirstPart, MakesNoEscape}
use Rattle.kk_lexer.specs.Strings.{IsInside, empty, plain, escape, is_plain, escaped}
use Rattle.kk_lexer.proofs.Classes.{InQuote, in_closed, in_open, in_bad}
use Rattle.kk_lexer.proofs.StringInsides.{IsInside-plain, IsInside-escape, IsInside-stop, IsInside-no_escape, IsInside-one, IsInside-append}

no_byte : (text : List ℕ) (m : ℕ) → m ≤ length text → take m text ≡ [] → m ≤ 0
no_byte text zero fits e = omega arith
no_byte [] (suc m) fits e = fits
no_byte (b ∷ text) (suc m) fits e = cc

-- what may stand behind a quote
abbrev pub IsQuoted : ℕ → List ℕ → Type 0
IsQuoted at w = (m : Meaning) × InQuote at w m

first_same : (a b : ℕ) (v w : List ℕ) → a ∷ v ≡ b ∷ w → a ≡ b
first_same a b v w e = cc

rest_same : (a b : ℕ) (v w : List ℕ) → a ∷ v ≡ b ∷ w → v ≡ w
rest_same a b v w e = cc

-- a byte that stands for itself
plain_not : (b : ℕ) → is_plain b ≡ true → (b ≡ 34 → ⊥) × (b ≡ 92 → ⊥) × (b ≡ 10 → ⊥)
plain_not b h = (λ e. no_ 34 e refl, λ e. no_ 92 e refl, λ e. no_ 10 e refl)
  where
    no_ : (c : ℕ) → b ≡ c → is_plain c ≡ false → ⊥
    no_ c e not_plain = let bad : true ≡ false = sym h ∙ (ap is_plain e ∙ not_plain) in cc

inside_of : (b c : ℕ) (u w : List ℕ) (bs : List ℕ) → IsInside (c ∷ u) bs → c ∷ u ≡ b ∷ w → is_plain b ≡ true → (bytes : List ℕ) × IsInside w bytes
inside_of b c u w bs h e is = let found = IsInside-plain (subst (λ x. IsInside x bs) e h) is in (found.0, found.1)

quoted_plain : (at b : ℕ) (w : List ℕ) → is_plain b ≡ true → IsQuoted at (b ∷ w) → IsQuoted at w
quoted_plain at b w is (m, h) = go h refl
  where
    go : {z : List ℕ} {m : Meaning} → InQuote at z m → z ≡ b ∷ w → IsQuoted at w
    go (in_closed [] bs h) e = absurd ((plain_not b is).0 (sym (first_same 34 b [] w e)))
    go (in_closed (c ∷ u) bs h) e =
        let found = inside_of b c u u bs h (ap (λ x. x ∷ u) (first_same c b (u ++ 34 ∷ []) w e)) is in
        subst (IsQuoted at) (rest_same c b (u ++ 34 ∷ []) w e) (_, in_closed u found.0 found.1)
    go (in_open [] bs h) e = cc
    go (in_open (c ∷ u) bs h) e = let found = inside_of b c u w bs h e is in (_, in_open w found.0 found.1)
    go (in_bad [] bs h) e = absurd ((plain_not b is).1 (sym (first_same 92 b [] w e)))
    go (in_bad (c ∷ u) bs h) e =
        let found = inside_of b c u u bs h (ap (λ x. x ∷ u) (first_same c b (u ++ 92 ∷ []) w e)) is in
        subst (IsQuoted at) (rest_same c b (u ++ 92 ∷ []) w e) (_, in_bad u found.0 found.1)

-- an escape
inside_escape : (c x : ℕ) (u bs : List ℕ) (b d : ℕ) → IsInside (b ∷ d ∷ u) bs → b ≡ 92 → d ≡ c → escaped c ≡ Some x → (bytes : List ℕ) × IsInside u bytes
inside_escape c x u bs b d h b_is d_is is = let found = IsInside-escape (subst₂ (λ y z. IsInside (y ∷ z ∷ u) bs) b_is d_is h) is in (found.0, found.1)

lone_backslash : (b : ℕ) (bs : List ℕ) → IsInside (b ∷ []) bs → b ≡ 92 → ⊥
lone_backslash b bs h e = IsInside-one (subst (λ y. IsInside (y ∷ []) bs) e h)

quoted_escape : (at c x : ℕ) (w : List ℕ) → escaped c ≡ Some x → IsQuoted at (92 ∷ c ∷ w) → IsQuoted at w
quoted_escape at c x w is (m, h) = go h refl
  where
    go : {z : List ℕ} {m : Meaning} → InQuote at z m → z ≡ 92 ∷ c ∷ w → IsQuoted at w
    go (in_closed [] bs h) e = absurd (omega (arith, first_same 34 92 [] (c ∷ w) e))
    go (in_closed (b ∷ []) bs h) e = absurd (lone_backslash b bs h (first_same b 92 (34 ∷ []) (c ∷ w) e))
    go (in_closed (b ∷ d ∷ u) bs h) e =
        let rest = rest_same b 92 (d ∷ u ++ 34 ∷ []) (c ∷ w) e in
        let found = inside_escape c x u bs b d h (first_same b 92 (d ∷ u ++ 34 ∷ []) (c ∷ w) e) (first_same d c (u ++ 34 ∷ []) w rest) is in
        subst (IsQuoted at) (rest_same d c (u ++ 34 ∷ []) w rest) (_, in_closed u found.0 found.1)
    go (in_open [] bs h) e = cc
    go (in_open (b ∷ []) bs h) e = cc
    go (in_open (b ∷ d ∷ u) bs h) e =
        let rest = rest_same b 92 (d ∷ u) (c ∷ w) e in
        let found = inside_escape c x u bs b d h (first_same b 92 (d ∷ u) (c ∷ w) e) (first_same d c u w rest) is in
        subst (IsQuoted at) (rest_same d c u w rest) (_, in_open u found.0 found.1)
    go (in_bad [] bs h) e = absurd (omega (arith, ap length e))
    go (in_bad (b ∷ []) bs h) e = absurd (lone_backslash b bs h (first_same b 92 (92 ∷ []) (c ∷ w) e))
    go (in_bad (b ∷ d ∷ u) bs h) e =
        let rest = rest_same b 92 (d ∷ u ++ 92 ∷ []) (c ∷ w) e in
        let found = inside_escape c x u bs b d h (first_same b 92 (d ∷ u ++ 92 ∷ []) (c ∷ w) e) (first_same d c (u ++ 92 ∷ []) w rest) is in
        subst (IsQuoted at) (rest_same d c (u ++ 92 ∷ []) w rest) (_, in_bad u found.0 found.1)

-- what stands behind an inside
quoted_behind : {u bs : List ℕ} (at : ℕ) (v : List ℕ) → IsInside u bs → IsQuoted at (u ++ v) → IsQuoted at v
quoted_behind at v empty h = h
quoted_behind at v (plain b w bytes is k) h = quoted_behind at v k (quoted_plain at b (w ++ v) is h)
quoted_behind at v (escape c x w bytes is k) h = quoted_behind at v k (quoted_escape at c x (w ++ v) is h)

-- a byte that ends an inside is a quote, with nothing behind it
quoted_stop : (at b : ℕ) (w : List ℕ) → is_plain b ≡ false → (b ≡ 92 → ⊥) → IsQuoted at (b ∷ w) → (b ≡ 34) × (w ≡ [])
quoted_stop at b w not_plain no_escape (m, h) = go h refl
  where
    inside_stop : (c : ℕ) (u bs : List ℕ) → IsInside (c ∷ u) bs → c ≡ b → ⊥
    inside_stop c u bs h e = IsInside-stop (subst (λ y. IsInside (y ∷ u) bs) e h) not_plain no_escape

    go : {z : List ℕ} {m : Meaning} → InQuote at z m → z ≡ b ∷ w → (b ≡ 34) × (w ≡ [])
    go (in_closed [] bs h) e = (sym (first_same 34 b [] w e), sym (rest_same 34 b [] w e))
    go (in_closed (c ∷ u) bs h) e = absurd (inside_stop c u bs h (first_same c b (u ++ 34 ∷ []) w e))
    go (in_open [] bs h) e = cc
    go (in_open (c ∷ u) bs h) e = absurd (inside_stop c u bs h (first_same c b u w e))
    go (in_bad [] bs h) e = absurd (no_escape (sym (first_same 92 b [] w e)))
    go (in_bad (c ∷ u) bs h) e = absurd (inside_stop c u bs h (first_same c b (u ++ 92 ∷ []) w e))

-- an escape that there is not
quoted_no_escape : (at c : ℕ) (w : List ℕ) → escaped c ≡ None → IsQuoted at (92 ∷ c ∷ w) → ⊥
quoted_no_escape at c w none (m, h) = go h refl
  where
    inside_none : (b d : ℕ) (u bs : List ℕ) → IsInside (b ∷ d ∷ u) bs → b ≡ 92 → d ≡ c → ⊥
    inside_none b d u bs h b_is d_is = IsInside-no_escape (subst₂ (λ y z. IsInside (y ∷ z ∷ u) bs) b_is d_is h) none

    go : {z : List ℕ} {m : Meaning} → InQuote at z m → z ≡ 92 ∷ c ∷ w → ⊥
    go (in_closed [] bs h) e = omega (arith, first_same 34 92 [] (c ∷ w) e)
    go (in_closed (b ∷ []) bs h) e = lone_backslash b bs h (first_same b 92 (34 ∷ []) (c ∷ w) e)
    go (in_closed (b ∷ d ∷ u) bs h) e =
        let rest = rest_same b 92 (d ∷ u ++ 34 ∷ []) (c ∷ w) e in
        inside_none b d u bs h (first_same b 92 (d ∷ u ++ 34 ∷ []) (c ∷ w) e) (first_same d c (u ++ 34 ∷ []) w rest)
    go (in_open [] bs h) e = cc
    go (in_open (b ∷ []) bs h) e = cc
    go (in_open (b ∷ d ∷ u) bs h) e =
        let rest = rest_same b 92 (d ∷ u) (c ∷ w) e in
        inside_none b d u bs h (first_same b 92 (d ∷ u) (c ∷ w) e) (first_same d c u w rest)
    go (in_bad [] bs h) e = omega (arith, ap length e)
    go (in_bad (b ∷ []) bs h) e = lone_backslash b bs h (first_same b 92 (92 ∷ []) (c ∷ w) e)
    go (in_bad (b ∷ d ∷ u) bs h) e =
        let rest = rest_same b 92 (d ∷ u ++ 92 ∷ []) (c ∷ w) e in
        inside_none b d u bs h (first_same b 92 (d ∷ u ++ 92 ∷ []) (c ∷ w) e) (first_same d c (u ++ 92 ∷ []) w rest)

-- a front that reaches behind the first n bytes
take-add : (n k : ℕ) (t : List ℕ) → take (n + k) t ≡ take n t ++ take k (drop n t)
take-add zero k t = rw zero-add refl
take-add (suc n) k [] = go (suc n + k) k
  where
    go : (m k : ℕ) → take m [] ≡ take {A = ℕ} k []
    go zero zero = refl
    go zero (suc k) = refl
    go (suc m) zero = refl
    go (suc m) (suc k) = refl
take-add (suc n) k (b ∷ t) = let e : suc n + k ≡ suc (n + k) = omega arith in rw e (ap (λ x. b ∷ x) (take-add n k t))

module _ (at : ℕ) (t : List ℕ) (n : ℕ) (bs : List ℕ) (fits : n ≤ length t) (inside : IsInside (take n t) bs) where
  quoted_longest : (e : ℕ) → ((k : ℕ) → k ≤ length (drop n t) → IsQuoted at (take k (drop n t)) → k ≤ e) → (j : ℕ) → j ≤ length t → IsQuoted at (take j t) → j ≤ n + e
  quoted_longest e longest j j_fits h = elim (cases_lt n j) [
    | inr low ↦ omega arith
    | inl high ↦
        let split : j ≡ n + (j - n) = omega arith in
        let behind : IsQuoted at (take (j - n) (drop n t)) = quoted_behind at _ inside (subst (IsQuoted at) (ap (λ m. take m t) split ∙ take-add n (j - n) t) h) in
        let k_fits : j - n ≤ length (drop n t) = rw length-drop (omega arith) in
        omega (arith, longest (j - n) k_fits behind)
  ]

  pub one_behind : (b : ℕ) (rest : List ℕ) → drop n t ≡ b ∷ rest → take (n + 1) t ≡ take n t ++ b ∷ []
  one_behind b rest is = take-add n 1 t ∙ ap (λ x. take n t ++ take 1 x) is

  room : (b : ℕ) (rest : List ℕ) → drop n t ≡ b ∷ rest → n + 1 ≤ length t
  room b rest is = let sizes : length t - n ≡ length (b ∷ rest) = sym (length-drop n t) ∙ ap length is in omega arith

  -- a quote
  pub closed_longest : (rest : List ℕ) → drop n t ≡ 34 ∷ rest → IsLongest (IsQuoted at) t (n + 1)
  closed_longest rest is = record {
    fits = room 34 rest is;
    member = subst (IsQuoted at) (sym (one_behind 34 rest is)) (_, in_closed (take n t) bs inside);
    longest = quoted_longest 1 (subst (λ x. (k : ℕ) → k ≤ length x → IsQuoted at (take k x) → k ≤ 1) (sym is) go);
  }
    where
      go : (k : ℕ) → k ≤ suc (length rest) → IsQuoted at (take k (34 ∷ rest)) → k ≤ 1
      go zero k_fits h = omega arith
      go (suc k) k_fits h = omega (arith, no_byte rest k (omega arith) (quoted_stop at 34 (take k rest) refl (λ e. omega (arith, e)) h).1)

  -- the end of the line or of the text
  pub open_longest : (drop n t ≡ []) ⊎ ((rest : List ℕ) × (drop n t ≡ 10 ∷ rest)) → IsLongest (IsQuoted at) t n
  open_longest end = record {
    fits = fits;
    member = (_, in_open (take n t) bs inside);
    longest = λ j j_fits h. omega (arith, quoted_longest 0 (go end) j j_fits h);
  }
    where
      at_line : (rest : List ℕ) (k : ℕ) → k ≤ suc (length rest) → IsQuoted at (take k (10 ∷ rest)) → k ≤ 0
      at_line rest zero k_fits h = omega arith
      at_line rest (suc k) k_fits h = absurd (omega (arith, (quoted_stop at 10 (take k rest) refl (λ e. omega (arith, e)) h).0))

      go : (drop n t ≡ []) ⊎ ((rest : List ℕ) × (drop n t ≡ 10 ∷ rest)) → (k : ℕ) → k ≤ length (drop n t) → IsQuoted at (take k (drop n t)) → k ≤ 0
      go (inl is) = subst (λ x. (k : ℕ) → k ≤ length x → IsQuoted at (take k x) → k ≤ 0) (sym is) (λ k k_fits h. k_fits)
      go (inr (rest, is)) = subst (λ x. (k : ℕ) → k ≤ length x → IsQuoted at (take k x) → k ≤ 0) (sym is) (at_line rest)

  -- a `\`
  pub bad_longest : (rest : List ℕ) → drop n t ≡ 92 ∷ rest → MakesNoEscape rest → IsLongest (IsQuoted at) t (n + 1)
  bad_longest rest is none = record {
    fits = room 92 rest is;
    member = subst (IsQuoted at) (sym (one_behind 92 rest is)) (_, in_bad (take n t) bs inside);
    longest = quoted_longest 1 (subst (λ x. (k : ℕ) → k ≤ length x → IsQuoted at (take k x) → k ≤ 1) (sym is) (go rest none));
  }
    where
      go : (rest : List ℕ) → MakesNoEscape rest → (k : ℕ) → k ≤ suc (length rest) → IsQuoted at (take k (92 ∷ rest)) → k ≤ 1
      go rest none zero k_fits h = omega arith
      go rest none (suc zero) k_fits h = omega arith
      go [] none (suc (suc k)) k_fits h = absurd (omega arith)
      go (c ∷ rest) none (suc (suc k)) k_fits h = absurd (quoted_no_escape at c (take k rest) none h)

  pub inside_length : length (take n t) ≡ n
  inside_length = length-take-le n t fits

-- the loop; the bytes from n on are written as the code reads them
inside_byte : (t : List ℕ) (n b : ℕ) (bs : List ℕ) → IsInside (take n t) bs → (rest : List ℕ) → drop n t ≡ b ∷ rest → is_plain b ≡ true → IsInside (take (n + 1) t) (bs ++ b ∷ [])
inside_byte t n b bs inside rest is h = rw (take-add n 1 t ∙ ap (λ x. take n t ++ take 1 x) is) (IsInside-append inside (plain b [] [] h empty))

inside_pair : (t : List ℕ) (n c b : ℕ) (bs : List ℕ) → IsInside (take n t) bs → (rest : List ℕ) → drop n t ≡ 92 ∷ c ∷ rest → escaped c ≡ Some b → IsInside (take (n + 2) t) (bs ++ b ∷ [])
inside_pair t n c b bs inside rest is h = rw (take-add n 2 t ∙ ap (λ x. take n t ++ take 2 x) is) (IsInside-append inside (escape c b [] [] h empty))

-- what the first part of the rest makes of it
pub part_step : (t : List ℕ) (n b more : ℕ) (bs : List ℕ) → n ≤ length t → IsInside (take n t) bs → IsFirstPart (take (length t - n) (drop n t)) (Byte b more)
    → (n + more ≤ length t) × (0 < more) × IsInside (take (n + more) t) (bs ++ b ∷ [])
part_step t n b more bs fits inside (inl (one, (rest, is, h))) =
    let is' : drop n t ≡ b ∷ rest = sym (take_rest t n) ∙ is in
    let sizes : length t - n ≡ length (b ∷ rest) = sym (length-drop n t) ∙ ap length is' in
    (omega arith, omega arith, rw one (inside_byte t n b bs inside rest is' h))
part_step t n b more bs fits inside (inr (two, (c, rest, is, h))) =
    let is' : drop n t ≡ 92 ∷ c ∷ rest = sym (take_rest t n) ∙ is in
    let sizes : length t - n ≡ length (92 ∷ c ∷ rest) = sym (length-drop n t) ∙ ap length is' in
    (omega arith, omega arith, rw two (inside_pair t n c b bs inside rest is' h))
