-- Numbers, byte by byte, and their values.
use Rattle.std.proofs.Common.{◌≡◌, ◌⊎◌, ℕ, zero, suc, ◌+◌, ◌-◌, ◌*◌, ◌<◌, ◌≤◌, min, List, [], ◌∷◌, ◌++◌, length, take, drop, get_or, Bool, true, false, refl, sym, ap, subst, ◌∙◌, inl, inr, arith}
use Rattle.std.specs.Prelude.{cond, if◌then◌else◌, ◌==◌}
use Rattle.std.specs.Char.{digit_value, is_digit, is_ascii_digit, is_ascii_hexdigit, IsAsciiDigit}
use Rattle.std.specs.List.{list_all, prefix_len}
use Rattle.std.proofs.lemmas.Bool.Decides.{nat_tests}
use Rattle.std.proofs.lemmas.List.{drop_more, take_more, take_rest}
use Rattle.std.proofs.lemmas.Bool.{and_parts, and_from, cases_lt}
use Rattle.std.proofs.Math.Nat.{mul-le-mul_left}
use Rattle.kk_lexer.specs.Fronts.{begins_with, HasNoFront, IsLongest}
use Rattle.kk_lexer.specs.Numbers.{IsNumber, decimal, hexadecimal, is_decimal, is_decimal_byte, ends_decimal, is_hexadecimal, value_behind, value_with}
use Rattle.kk_lexer.proofs.FrontLemmas.{begins_with-take, begins_with-front, link_kept, link_lost, IsLongest-byte, IsLongest-end, IsLongest-stop, prefix_len-longest, Scans, Scans-start, Scans-byte, Scans-found}
use Rattle.kk_lexer.specs.Scanners.{decimal_goes_on, IsHexadecimalNumber, IsSomeNumber}

-- the value of a number
unfoldable pub number_value : List ℕ → ℕ
number_value w = if is_decimal w then value_behind 10 0 w else value_behind 16 0 (drop 2 w)

pub number_value-is : {w : List ℕ} {n : ℕ} → IsNumber w n → n ≡ number_value w
unfolding number_value
number_value-is (decimal w h) = rw h refl
number_value-is (hexadecimal digits h) = refl

pub one_value : {w : List ℕ} {n m : ℕ} → IsNumber w n → IsNumber w m → n ≡ m
one_value a b = number_value-is a ∙ sym (number_value-is b)

-- its first byte is a digit
pub number_first : {w : List ℕ} {n : ℕ} → IsNumber w n → begins_with is_ascii_digit w ≡ true
number_first (decimal [] h) = cc
number_first (decimal (b ∷ w) h) = (and_parts _ _ h).0
number_first (hexadecimal digits h) = refl

-- a digit behind a byte of the longest decimal number is in that number
digit_kept : (text : List ℕ) (n : ℕ) → IsLongest (λ w. ends_decimal w ≡ true) text n → begins_with is_ascii_digit text ≡ true → begins_with is_ascii_digit (take n text) ≡ true
digit_kept [] n found h = cc
digit_kept (c ∷ text) n found h =
    let one : ends_decimal (c ∷ []) ≡ true = rw h refl in
    let some : 1 ≤ n = found.longest 1 (omega arith) one in
    begins_with-take is_ascii_digit (c ∷ text) n some ∙ h

decimal_byte : (b : ℕ) (text : List ℕ) (n : ℕ) → is_decimal_byte b text ≡ true → IsLongest (λ w. ends_decimal w ≡ true) text n → IsLongest (λ w. ends_decimal w ≡ true) (b ∷ text) (suc n)
decimal_byte b text n h found = IsLongest-byte (record {
  fits = found.fits;
  member = rw (link_kept (is_ascii_digit b) (b == 95) _ _ (digit_kept text n found) h) found.member;
  longest = λ m fits q. found.longest m fits (and_parts _ _ q).1;
})

decimal_stop : (text : List ℕ) → decimal_goes_on text ≡ false → IsLongest (λ w. ends_decimal w ≡ true) text 0
decimal_stop [] h = IsLongest-end refl
decimal_stop (b ∷ text) h = IsLongest-stop refl (λ m q.
    let no_ : is_decimal_byte b (take m text) ≡ false = link_lost (is_ascii_digit b) (b == 95) _ _ (begins_with-front is_ascii_digit text m) h in
    let yes_ : is_decimal_byte b (take m text) ≡ true = (and_parts (is_decimal_byte b (take m text)) (ends_decimal (take m text)) q).0 in
    cc)

first_digit : (b : ℕ) (text : List ℕ) (n : ℕ) → is_ascii_digit b ≡ true → IsLongest (λ w. ends_decimal w ≡ true) text n → IsLongest (λ w. is_decimal w ≡ true) (b ∷ text) (suc n)
first_digit b text n h found = IsLongest-byte (record {
  fits = found.fits;
  member = rw h found.member;
  longest = λ m fits q. found.longest m fits (and_parts _ _ q).1;
})

-- the loop over a decimal number; the bytes from n on are written as the code reads them
pub decimal_start : (text : List ℕ) → 0 < length text → IsAsciiDigit (get_or text 0 0) → Scans (λ w. is_decimal w ≡ true) text 1 (λ w. ends_decimal w ≡ true)
decimal_start text some digit =
    let is_digit_ : is_ascii_digit (get_or text 0 0) ≡ true = grind (arith, nat_tests) in
    Scans-byte some (λ k found. first_digit _ _ k is_digit_ found) (Scans-start _ text)

pub decimal_more : (text : List ℕ) (n : ℕ) → n < length text → Scans (λ w. is_decimal w ≡ true) text n (λ w. ends_decimal w ≡ true)
    → true ≡ decimal_goes_on (take (length text - n) (drop n text)) → Scans (λ w. is_decimal w ≡ true) text (n + 1) (λ w. ends_decimal w ≡ true)
decimal_more text n inside scans h =
    let goes : true ≡ decimal_goes_on (get_or text n 0 ∷ drop (n + 1) text) = rw (take_rest, drop_more text n 0 inside) at h in
    Scans-byte inside (λ k found. decimal_byte _ _ k (sym goes) found) scans

pub decimal_found : (text : List ℕ) (n : ℕ) → Scans (λ w. is_decimal w ≡ true) text n (λ w. ends_decimal w ≡ true)
    → false ≡ decimal_goes_on (take (length text - n) (drop n text)) → IsLongest (λ w. is_decimal w ≡ true) text n
decimal_found text n scans h =
    let stop : false ≡ decimal_goes_on (drop n text) = rw take_rest at h in
    Scans-found scans (decimal_stop (drop n text) (sym stop))

-- the value of a word with one byte more
value_behind-push : (base : ℕ) (w : List ℕ) (n b : ℕ) → value_behind base n (w ++ b ∷ []) ≡ value_with base (value_behind base n w) b
value_behind-push base [] n b = refl
value_behind-push base (c ∷ w) n b = value_behind-push base w _ b

-- a value that is far away stays so
min_step : (far base x d : ℕ) → 1 ≤ base → min (min x far * base + d) far ≡ min (x * base + d) far
min_step far base x d positive =
    let far_more : far * 1 ≤ far * base = mul-le-mul_left far positive in
    let x_more : x * 1 ≤ x * base = mul-le-mul_left x positive in
    elim (cases_lt far x) [
      | inl high ↦ let m : min x far ≡ far = omega arith in rw m (omega arith)
      | inr low ↦ let m : min x far ≡ x = omega arith in rw m refl
    ]

min_with : (far base x b : ℕ) → 1 ≤ base → min (value_with base (min x far) b) far ≡ min (value_with base x b) far
min_with far base x b positive = go (is_digit b 16)
  where
    go : (t : Bool) → min (cond t (min x far * base + digit_value b) (min x far)) far ≡ min (cond t (x * base + digit_value b) x) far
    go true = min_step far base x (digit_value b) positive
    go false = omega arith

pub value_more : (base : ℕ) (w : List ℕ) (i v r far : ℕ) → i < length w → 1 ≤ base → v ≡ min (value_behind base 0 (take i w)) far → r ≡ min (value_with base v (get_or w i 0)) far
    → r ≡ min (value_behind base 0 (take (i + 1) w)) far
value_more base w i v r far inside positive is next =
    rw (next, is, take_more w i 0 inside, value_behind-push base (take i w) 0 (get_or w i 0)) (min_with far base (value_behind base 0 (take i w)) (get_or w i 0) positive)

-- a number is decimal or hexadecimal
number_kinds : {w : List ℕ} → IsSomeNumber w → (is_decimal w ≡ true) ⊎ IsHexadecimalNumber w
number_kinds (n, h) = go h
  where
    go : {w : List ℕ} {n : ℕ} → IsNumber w n → (is_decimal w ≡ true) ⊎ IsHexadecimalNumber w
    go (decimal w h) = inl h
    go (hexadecimal digits h) = inr (digits, refl, h)

-- behind `0x`
behind_prefix : (t : List ℕ) (m : ℕ) → IsSomeNumber (48 ∷ 120 ∷ take m t) → is_hexadecimal (take m t) ≡ true
behind_prefix t m h = elim (number_kinds h) [
  | inl d ↦ absurd (let bad : false ≡ true = d in cc)
  | inr x ↦ let same : take m t ≡ x.0 = cc in rw same x.2
]

hex_longest : (t : List ℕ) (m : ℕ) → m ≤ length t → is_hexadecimal (take m t) ≡ true → m ≤ prefix_len is_ascii_hexdigit t
hex_longest t m fits h = (prefix_len-longest is_ascii_hexdigit t).longest m fits (and_parts (begins_with is_ascii_hexdigit (take m t)) (list_all is_ascii_hexdigit (take m t)) h).1

no_digits : (t : List ℕ) → prefix_len is_ascii_hexdigit t ≡ 0 → HasNoFront IsHexadecimalNumber (48 ∷ 120 ∷ t)
no_digits t none zero fits (digits, e, h) = cc
no_digits t none (suc zero) fits (digits, e, h) = cc
no_digits t none (suc (suc m)) fits (digits, e, h) =
    let same : take m t ≡ digits = cc in
    go m (omega arith) (rw same h)
  where
    go : (k : ℕ) → k ≤ length t → is_hexadecimal (take k t) ≡ true → ⊥
    go zero fits h = cc
    go (suc k) fits h = omega (arith, hex_longest t (suc k) fits h)

first_of_all : (p : ℕ → Bool) (t : List ℕ) (n : ℕ) → 0 < n → n ≤ length t → list_all p (take n t) ≡ true → begins_with p (take n t) ≡ true
first_of_all p t zero some fits h = absurd (omega arith)
first_of_all p [] (suc n) some fits h = absurd (omega arith)
first_of_all p (b ∷ t) (suc n) some fits h = (and_parts (p b) (list_all p (take n t)) h).0

some_digits : (t : List ℕ) (n : ℕ) → IsLongest (λ w. list_all is_ascii_hexdigit w ≡ true) t n → 0 < n → (digits : is_hexadecimal (take n t) ≡ true) × IsLongest IsSomeNumber (48 ∷ 120 ∷ t) (suc (suc n))
some_digits t n found some =
    let digits : is_hexadecimal (take n t) ≡ true = and_from _ _ (first_of_all is_ascii_hexdigit t n some found.fits found.member) found.member in
    (digits, record { fits = omega (arith, found.fits); member = (_, hexadecimal (take n t) digits); longest = go })
  where
    go : (m : ℕ) → m ≤ suc (suc (length t)) → IsSomeNumber (take m (48 ∷ 120 ∷ t)) → m ≤ suc (suc n)
    go zero fits h = omega arith
    go (suc zero) fits h = omega arith
    go (suc (suc m)) fits h = omega (arith, found.longest m (omega arith) (and_parts (begins_with is_ascii_hexdigit (take m t)) (list_all is_ascii_hexdigit (take m t)) (behind_prefix t m h)).1)

pub two_bytes : (text : List ℕ) (a b : ℕ) → 2 ≤ length text → get_or text 0 0 ≡ a → get_or text 1 0 ≡ b → text ≡ a ∷ b ∷ take (length text - 2) (drop 2 text)
two_bytes text a b long first second = rw take_rest (go text long first second)
  where
    go : (text : List ℕ) → 2 ≤ length text → get_or text 0 0 ≡ a → get_or text 1 0 ≡ b → text ≡ a ∷ b ∷ drop 2 text
    go [] long first second = absurd (omega arith)
    go (x ∷ []) long first second = absurd (omega arith)
    go (x ∷ y ∷ text) long first second = cc

-- `0x` (48, 120); the bytes behind it are written as the code reads them
module _ (text : List ℕ) (long : 2 ≤ length text) (first : get_or text 0 0 ≡ 48) (second : get_or text 1 0 ≡ 120) where
  pub hexadecimal_none : prefix_len is_ascii_hexdigit (take (length text - 2) (drop 2 text)) ≡ 0 → HasNoFront IsHexadecimalNumber text
  hexadecimal_none none = subst (HasNoFront IsHexadecimalNumber) (sym (two_bytes text 48 120 long first second)) (no_digits _ none)

  found_digits : (n : ℕ) → n ≡ prefix_len is_ascii_hexdigit (take (length text - 2) (drop 2 text)) → (n ≡ 0 → ⊥)
      → (digits : is_hexadecimal (take n (take (length text - 2) (drop 2 text))) ≡ true) × IsLongest IsSomeNumber (48 ∷ 120 ∷ take (length text - 2) (drop 2 text)) (suc (suc n))
  found_digits n is some =
      let found = subst (IsLongest (λ w. list_all is_ascii_hexdigit w ≡ true) _) (sym is) (prefix_len-longest is_ascii_hexdigit (take (length text - 2) (drop 2 text))) in
      some_digits _ n found (omega arith)

  pub hexadecimal_longest : (n : ℕ) → n ≡ prefix_len is_ascii_hexdigit (take (length text - 2) (drop 2 text)) → (n ≡ 0 → ⊥) → IsLongest IsSomeNumber text (n + 2)
  hexadecimal_longest n is some =
      let e : n + 2 ≡ suc (suc n) = omega arith in
      rw e (subst (λ x. IsLongest IsSomeNumber x (suc (suc n))) (sym (two_bytes text 48 120 long first second)) (found_digits n is some).1)

  pub hexadecimal_value : (n : ℕ) → n ≡ prefix_len is_ascii_hexdigit (take (length text - 2) (drop 2 text)) → (n ≡ 0 → ⊥)
      → IsNumber (take (n + 2) text) (value_behind 16 0 (take n (take (length text - 2) (drop 2 text))))
  hexadecimal_value n is some =
      let e : n + 2 ≡ suc (suc n) = omega arith in
      rw e (subst (λ w. IsNumber w (value_behind 16 0 (take n (take (length text - 2) (drop 2 text))))) (ap (take (suc (suc n))) (sym (two_bytes text 48 120 long first second))) (hexadecimal _ (found_digits n is some).0))

-- the number that is found where no hexadecimal one is
pub decimal_longest : (text : List ℕ) (n : ℕ) → HasNoFront IsHexadecimalNumber text → IsLongest (λ w. is_decimal w ≡ true) text n → IsLongest IsSomeNumber text n
decimal_longest text n none found = record {
  fits = found.fits;
  member = (_, decimal _ found.member);
  longest = λ m fits h. elim (number_kinds h) [ inl d ↦ found.longest m fits d | inr x ↦ absurd (none m fits x) ];
}
