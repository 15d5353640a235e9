-- What a memory holds after a store of a number: that number there, as far as its bytes hold it, and elsewhere what it held.
use Rattle.std.proofs.Common.{◌≡◌, ◌≢◌, ◌≤◌, ◌<◌, ℕ, zero, suc, ◌+◌, ◌-◌, ◌%◌, ◌^◌, ◌⊎◌, inl, inr, List, [], ◌∷◌, ◌++◌, length, refl, sym, ap, ◌∙◌, arith}
use Rattle.std.proofs.Common.{slice_index}
use Rattle.std.proofs.Math.Nat.{div-one, mod-eq_of_lt}
use Rattle.std.proofs.lemmas.Bool.Decides.{nat_tests}
use Rattle.rv_isa.specs.Bytes.{Apart, little_endian, lowest_bytes, bytes_at, with_bytes, number_at, with_number}
use Rattle.rv_isa.proofs.Bytes.{bytes_at-same, with_bytes-inside, with_bytes-below, with_bytes-above, bytes_at-with_bytes, bytes_at-with_bytes_apart, length-lowest_bytes, little_endian-lowest_from}

-- ---- bytes

pub bytes_at-none : (memory : ℕ → ℕ) (at : ℕ) → bytes_at memory at 0 ≡ []
unfolding bytes_at
bytes_at-none memory at = refl

pub bytes_at-more : (memory : ℕ → ℕ) (at count : ℕ) → bytes_at memory at (suc count) ≡ memory at ∷ bytes_at memory (suc at) count
unfolding bytes_at
bytes_at-more memory at count = refl

pub bytes_at-one : (memory : ℕ → ℕ) (at : ℕ) → bytes_at memory at 1 ≡ memory at ∷ []
unfolding bytes_at
bytes_at-one memory at = refl

-- the bytes of a range are those of its front and then those of its back
pub bytes_at-add : (memory : ℕ → ℕ) (at front back : ℕ) → bytes_at memory at (front + back) ≡ bytes_at memory at front ++ bytes_at memory (at + front) back
unfolding bytes_at
bytes_at-add memory at zero back =
    let none : 0 + back ≡ back = omega arith in let here : at + 0 ≡ at = omega arith in rw (none, here) refl
bytes_at-add memory at (suc front) back =
    let sum : suc front + back ≡ suc (front + back) = omega arith in
    let here : at + suc front ≡ suc at + front = omega arith in
    rw (sum, here) (ap (λ bytes. memory at ∷ bytes) (bytes_at-add memory (suc at) front back))

-- a byte that was put in is there, and another byte is as before
pub with_byte-same : (at byte : ℕ) (memory : ℕ → ℕ) → with_bytes at (byte ∷ []) memory at ≡ byte
unfolding with_bytes
with_byte-same at byte memory = let here : at - at ≡ 0 = omega arith in
    with_bytes-inside at (byte ∷ []) memory at (omega arith) (omega arith) ∙ ap (λ k. slice_index (byte ∷ []) k) here

pub with_byte-apart : (at byte : ℕ) (memory : ℕ → ℕ) (x : ℕ) → x ≢ at → with_bytes at (byte ∷ []) memory x ≡ memory x
unfolding with_bytes
with_byte-apart at byte memory x apart = grind (arith, nat_tests)

-- ---- numbers

-- memories that agree on a range hold the same number there
pub number_at-same : (f g : ℕ → ℕ) (at count : ℕ) → ((x : ℕ) → at ≤ x → x < at + count → f x ≡ g x) → number_at f at count ≡ number_at g at count
unfolding number_at
number_at-same f g at count same = ap little_endian (bytes_at-same f g at count same)

-- a number of one byte is that byte
pub number_at-one : (memory : ℕ → ℕ) (at : ℕ) → number_at memory at 1 ≡ memory at
unfolding number_at bytes_at
number_at-one memory at = omega arith

-- what was stored is read, as far as its bytes hold it
pub number_at-stored : (at count n : ℕ) (memory : ℕ → ℕ) → number_at (with_number at count n memory) at count ≡ n % 256 ^ count
unfolding number_at with_number
number_at-stored at count n memory =
    let length_is = length-lowest_bytes count n in
    ap (λ k. little_endian (bytes_at (with_bytes at (lowest_bytes count n) memory) at k)) (sym length_is)
    ∙ ap little_endian (bytes_at-with_bytes at (lowest_bytes count n) memory)
    ∙ little_endian-lowest_from 0 count n
    ∙ ap (λ q. q % 256 ^ count) (div-one n)

-- a byte that was stored is there, and another byte is as before
pub byte-same : (at n : ℕ) (memory : ℕ → ℕ) → with_number at 1 n memory at ≡ n % 256
byte-same at n memory = sym (number_at-one (with_number at 1 n memory) at) ∙ number_at-stored at 1 n memory

pub byte-apart : (at n : ℕ) (memory : ℕ → ℕ) (x : ℕ) → x ≢ at → with_number at 1 n memory x ≡ memory x
unfolding with_number
byte-apart at n memory x apart = with_byte-apart at _ memory x apart

-- another range holds what it held
pub number_at-with_bytes_apart : (at : ℕ) (bytes : List ℕ) (memory : ℕ → ℕ) (other size : ℕ) → Apart at (length bytes) other size → number_at (with_bytes at bytes memory) other size ≡ number_at memory other size
unfolding number_at
number_at-with_bytes_apart at bytes memory other size apart =
    ap little_endian (bytes_at-with_bytes_apart at bytes memory other size apart)

-- also after a store of nothing
stored_nothing : (at n : ℕ) (memory : ℕ → ℕ) (x : ℕ) → (x < at) ⊎ (at + 0 ≤ x) → with_number at 0 n memory x ≡ memory x
unfolding with_number
stored_nothing at n memory x (inl below) = with_bytes-below at [] memory x below
stored_nothing at n memory x (inr above) = with_bytes-above at [] memory x above

before_or_behind : (at x : ℕ) → (x < at) ⊎ (at + 0 ≤ x)
before_or_behind at x = grind (arith, nat_tests)

pub number_at-apart : (at count n : ℕ) (memory : ℕ → ℕ) (other size : ℕ) → (0 < count → Apart at count other size) → number_at (with_number at count n memory) other size ≡ number_at memory other size
unfolding with_number
number_at-apart at zero n memory other size apart =
    number_at-same (with_number at 0 n memory) memory other size (λ x low high. stored_nothing at n memory x (before_or_behind at x))
number_at-apart at (suc count) n memory other size apart =
    let length_is = length-lowest_bytes (suc count) n in
    number_at-with_bytes_apart at (lowest_bytes (suc count) n) memory other size (rw length_is (apart (omega arith)))

pub bytes_at-with_number_apart : (at count n : ℕ) (memory : ℕ → ℕ) (other size : ℕ) → Apart at count other size → bytes_at (with_number at count n memory) other size ≡ bytes_at memory other size
unfolding with_number
bytes_at-with_number_apart at count n memory other size apart =
    let length_is = length-lowest_bytes count n in
    bytes_at-with_bytes_apart at (lowest_bytes count n) memory other size (rw length_is apart)

-- words
pub word-same : (at n : ℕ) (memory : ℕ → ℕ) → n < 2 ^ 32 → number_at (with_number at 4 n memory) at 4 ≡ n
word-same at n memory fits = number_at-stored at 4 n memory ∙ mod-eq_of_lt fits

pub word-apart : (at n : ℕ) (memory : ℕ → ℕ) (other : ℕ) → Apart at 4 other 4 → number_at (with_number at 4 n memory) other 4 ≡ number_at memory other 4
word-apart at n memory other apart = number_at-apart at 4 n memory other 4 (λ some. apart)
