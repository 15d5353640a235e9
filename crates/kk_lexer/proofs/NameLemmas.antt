-- Names, byte by byte.
use Rattle.std.proofs.Common.{◌≡◌, ◌↔◌, ℕ, zero, suc, ◌+◌, ◌-◌, ◌≤◌, ◌<◌, List, [], ◌∷◌, length, take, drop, get_or, Bool, true, false, refl, sym, ◌∙◌, arith}
use Rattle.std.specs.Prelude.{cond, ◌&&◌, ◌==◌}
use Rattle.std.specs.Char.{is_ascii_alphabetic, is_ascii_alphanumeric}
use Rattle.std.specs.List.{list_all, prefix_len}
use Rattle.std.specs.Str.{IsAscii}
use Rattle.std.proofs.lemmas.Bool.{and_parts, eqb-true}
use Rattle.std.proofs.lemmas.Bool.Decides.{nat_tests}
use Rattle.std.proofs.lemmas.List.{drop_more, take_rest}
use Rattle.std.proofs.lemmas.Str.Ascii.{IsAscii-nil, IsAscii-cons}
use Rattle.kk_lexer.specs.Fronts.{begins_with, IsLongest}
use Rattle.kk_lexer.specs.Names.{ends_name, is_name_character, is_word_byte}
use Rattle.kk_lexer.proofs.FrontLemmas.{begins_with-take, begins_with-front, link_kept, link_lost, IsLongest-byte, IsLongest-same, prefix_len-longest, Scans, Scans-byte}
use Rattle.kk_lexer.specs.Scanners.{name_goes_on}

-- a name character is no `'`
no_prime : (before b : ℕ) (after : List ℕ) → is_name_character before b after ≡ true → (b == 39) ≡ false
no_prime before b after h = grind (arith, nat_tests)

ends_name-cons : (before b : ℕ) (after : List ℕ) → (b == 39) ≡ false → ends_name before (b ∷ after) ≡ (is_name_character before b after && ends_name b after)
ends_name-cons before b after h = rw h refl

-- a letter may end a name
one_letter : (before c : ℕ) → is_ascii_alphabetic c ≡ true → ends_name before (c ∷ []) ≡ true
one_letter before c h = grind (arith, nat_tests)

both : (x u v : Bool) → (u ≡ true → v ≡ true) → (x && u) ≡ true → (x && v) ≡ true
both true u v kept h = kept h
both false u v kept h = h

-- a letter behind a byte of the longest name is in that name
letter_kept : (b : ℕ) (text : List ℕ) (n : ℕ) → IsLongest (λ w. ends_name b w ≡ true) text n → begins_with is_ascii_alphabetic text ≡ true → begins_with is_ascii_alphabetic (take n text) ≡ true
letter_kept b [] n found h = cc
letter_kept b (c ∷ text) n found h =
    let some : 1 ≤ n = found.longest 1 (omega arith) (one_letter b c h) in
    begins_with-take is_ascii_alphabetic (c ∷ text) n some ∙ h

-- a name character of the text is one of the longest name
still : (before b : ℕ) (text : List ℕ) (n : ℕ) → is_name_character before b text ≡ true → IsLongest (λ w. ends_name b w ≡ true) text n → is_name_character before b (take n text) ≡ true
still before b text n h found = link_kept (is_word_byte b) (b == 45) _ _ (both (is_ascii_alphanumeric before) _ _ (letter_kept b text n found)) h

pub name_byte : (before b : ℕ) (text : List ℕ) (n : ℕ) → is_name_character before b text ≡ true → IsLongest (λ w. ends_name b w ≡ true) text n → IsLongest (λ w. ends_name before w ≡ true) (b ∷ text) (suc n)
name_byte before b text n h found = IsLongest-byte (record {
  fits = found.fits;
  member = rw (ends_name-cons before b (take n text) (no_prime before b text h), still before b text n h found) found.member;
  longest = λ m fits q. found.longest m fits (and_parts _ _ (rw (ends_name-cons before b (take m text) (no_prime before b text h)) at q)).1;
})

-- where no name character goes on
stops : (before b : ℕ) (text : List ℕ) (m : ℕ) → is_name_character before b text ≡ false → is_name_character before b (take m text) ≡ false
stops before b text m h = link_lost (is_word_byte b) (b == 45) _ _ (both (is_ascii_alphanumeric before) _ _ (begins_with-front is_ascii_alphabetic text m)) h

stop_byte : (before b : ℕ) (w : List ℕ) → is_name_character before b w ≡ false → (list_all (λ b. b == 39) (b ∷ w) ≡ true) ↔ (ends_name before (b ∷ w) ≡ true)
stop_byte before b w h = go (b == 39) (list_all (λ c. c == 39) w) (is_name_character before b w) (ends_name b w) h
  where
    go : (x y z u : Bool) → z ≡ false → ((x && y) ≡ true) ↔ (cond x y (z && u) ≡ true)
    go true y z u e = (λ p. p, λ p. p)
    go false y true u e = cc
    go false y false u e = (λ p. p, λ p. p)

stop_same : (before : ℕ) (text : List ℕ) → name_goes_on before text ≡ false → (m : ℕ) → (list_all (λ b. b == 39) (take m text) ≡ true) ↔ (ends_name before (take m text) ≡ true)
stop_same before text h zero = (λ _. refl, λ _. refl)
stop_same before [] h (suc m) = (λ _. refl, λ _. refl)
stop_same before (b ∷ text) h (suc m) = stop_byte before b (take m text) (stops before b text m h)

pub name_stop : (before : ℕ) (text : List ℕ) → name_goes_on before text ≡ false → IsLongest (λ w. ends_name before w ≡ true) text (prefix_len (λ b. b == 39) text)
name_stop before text h = IsLongest-same (λ m fits. stop_same before text h m) (prefix_len-longest (λ b. b == 39) text)

-- the loop over name characters; the bytes from n on are written as the code reads them
pub name_more : (before last : ℕ) (text : List ℕ) (n : ℕ) → n < length text → Scans (λ w. ends_name before w ≡ true) text n (λ w. ends_name last w ≡ true)
    → true ≡ name_goes_on last (take (length text - n) (drop n text)) → Scans (λ w. ends_name before w ≡ true) text (n + 1) (λ w. ends_name (get_or text n 0) w ≡ true)
name_more before last text n inside scans h =
    let goes : true ≡ name_goes_on last (get_or text n 0 ∷ drop (n + 1) text) = rw (take_rest, drop_more text n 0 inside) at h in
    Scans-byte inside (λ k found. name_byte last (get_or text n 0) (drop (n + 1) text) k (sym goes) found) scans

pub name_found : (before last : ℕ) (text : List ℕ) (n : ℕ) → Scans (λ w. ends_name before w ≡ true) text n (λ w. ends_name last w ≡ true)
    → false ≡ name_goes_on last (take (length text - n) (drop n text)) → IsLongest (λ w. ends_name before w ≡ true) text (n + prefix_len (λ b. b == 39) (take (length text - n) (drop n text)))
name_found before last text n scans h =
    let stop : false ≡ name_goes_on last (drop n text) = rw take_rest at h in
    rw take_rest (scans.found _ (name_stop last (drop n text) (sym stop)))

-- names are ASCII
ascii_primes : (w : List ℕ) → list_all (λ b. b == 39) w ≡ true → IsAscii w
ascii_primes [] h = IsAscii-nil
ascii_primes (b ∷ w) h =
    let parts = and_parts (b == 39) (list_all (λ c. c == 39) w) h in
    IsAscii-cons b w (omega (arith, eqb-true b 39 parts.0)) (ascii_primes w parts.1)

ascii_character : (before b : ℕ) (after : List ℕ) → is_name_character before b after ≡ true → b < 128
ascii_character before b after h = grind (arith, nat_tests)

ascii_byte : (before b : ℕ) (w : List ℕ) → (v : Bool) → (b == 39) ≡ v → (ends_name b w ≡ true → IsAscii w)
    → cond v (list_all (λ c. c == 39) w) (is_name_character before b w && ends_name b w) ≡ true → IsAscii (b ∷ w)
ascii_byte before b w true e rest h = IsAscii-cons b w (omega (arith, eqb-true b 39 e)) (ascii_primes w h)
ascii_byte before b w false e rest h =
    let parts = and_parts (is_name_character before b w) (ends_name b w) h in
    IsAscii-cons b w (ascii_character before b w parts.0) (rest parts.1)

pub ends_name-ascii : (before : ℕ) (w : List ℕ) → ends_name before w ≡ true → IsAscii w
ends_name-ascii before [] h = IsAscii-nil
ends_name-ascii before (b ∷ w) h = ascii_byte before b w (b == 39) refl (ends_name-ascii b w) h
