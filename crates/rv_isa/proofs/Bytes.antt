-- What a memory holds after bytes were put in it: these bytes there, and elsewhere what it held; and which number the bytes of a number spell.
use Rattle.std.proofs.Common.{◌≡◌, ◌≤◌, ◌<◌, ℕ, zero, suc, ◌+◌, ◌-◌, ◌*◌, ◌/◌, ◌%◌, ◌^◌, inl, inr, List, [], ◌∷◌, length, slice_index, refl, sym, ap, ◌∙◌, arith}
use Rattle.std.proofs.Common.{lit<}
use Rattle.std.proofs.Math.Nat.{mod-one, div-one, pow-suc, div-div-eq-div-mul}
use Rattle.std.proofs.Math.Arith.{mod-mul}
use Rattle.std.proofs.lemmas.Bool.Decides.{nat_tests}
use Rattle.std.specs.Int.{bytes_low_first, byte_at}
use Rattle.rv_isa.specs.Bytes.{little_endian, lowest_bytes, bytes_at, with_bytes, Apart}

pub length-bytes_at : (memory : ℕ → ℕ) (at count : ℕ) → length (bytes_at memory at count) ≡ count
unfolding bytes_at
length-bytes_at memory at zero = refl
length-bytes_at memory at (suc count) = ap suc (length-bytes_at memory (suc at) count)

-- memories that agree on a range hold the same bytes there
pub bytes_at-same : (f g : ℕ → ℕ) (at count : ℕ) → ((x : ℕ) → at ≤ x → x < at + count → f x ≡ g x) → bytes_at f at count ≡ bytes_at g at count
unfolding bytes_at
bytes_at-same f g at zero same = refl
bytes_at-same f g at (suc count) same =
    let first : f at ≡ g at = same at (omega arith) (omega arith) in
    let rest : bytes_at f (suc at) count ≡ bytes_at g (suc at) count = bytes_at-same f g (suc at) count (λ x low high. same x (omega arith) (omega arith)) in
    cc

pub with_bytes-inside : (at : ℕ) (bytes : List ℕ) (memory : ℕ → ℕ) (x : ℕ) → at ≤ x → x < at + length bytes → with_bytes at bytes memory x ≡ slice_index bytes (x - at)
unfolding with_bytes
with_bytes-inside at bytes memory x low high = grind (arith, nat_tests)

pub with_bytes-below : (at : ℕ) (bytes : List ℕ) (memory : ℕ → ℕ) (x : ℕ) → x < at → with_bytes at bytes memory x ≡ memory x
unfolding with_bytes
with_bytes-below at bytes memory x below = grind (arith, nat_tests)

pub with_bytes-above : (at : ℕ) (bytes : List ℕ) (memory : ℕ → ℕ) (x : ℕ) → at + length bytes ≤ x → with_bytes at bytes memory x ≡ memory x
unfolding with_bytes
with_bytes-above at bytes memory x above = grind (arith, nat_tests)

-- bytes that were put are there, and those of another range stay
bytes_at-from : (at done : ℕ) (bytes rest : List ℕ) (memory : ℕ → ℕ) → ((k : ℕ) → slice_index rest k ≡ slice_index bytes (done + k)) → done + length rest ≡ length bytes → bytes_at (with_bytes at bytes memory) (at + done) (length rest) ≡ rest
unfolding bytes_at
bytes_at-from at done bytes [] memory part sum = refl
bytes_at-from at done bytes (b ∷ rest) memory part sum =
    let first : with_bytes at bytes memory (at + done) ≡ b =
    with_bytes-inside at bytes memory (at + done) (omega arith) (omega arith)
    ∙ (let e : (at + done) - at ≡ done + 0 = omega arith in rw e (sym (part 0))) in
    let later : bytes_at (with_bytes at bytes memory) (at + suc done) (length rest) ≡ rest =
    bytes_at-from at (suc done) bytes rest memory (λ k. let e : suc done + k ≡ done + suc k = omega arith in rw e (part (suc k))) (omega arith) in
    let e : suc (at + done) ≡ at + suc done = omega arith in
    rw e cc

pub bytes_at-with_bytes : (at : ℕ) (bytes : List ℕ) (memory : ℕ → ℕ) → bytes_at (with_bytes at bytes memory) at (length bytes) ≡ bytes
bytes_at-with_bytes at bytes memory =
    let e : at ≡ at + 0 = omega arith in
    ap (λ a. bytes_at (with_bytes at bytes memory) a (length bytes)) e
    ∙ bytes_at-from at 0 bytes bytes memory (λ k. let z : 0 + k ≡ k = omega arith in rw z refl) (omega arith)

pub bytes_at-with_bytes_apart : (at : ℕ) (bytes : List ℕ) (memory : ℕ → ℕ) (other count : ℕ) → Apart at (length bytes) other count → bytes_at (with_bytes at bytes memory) other count ≡ bytes_at memory other count
bytes_at-with_bytes_apart at bytes memory other count (inl below) =
    bytes_at-same _ _ other count (λ x low high. with_bytes-below at bytes memory x (omega arith))
bytes_at-with_bytes_apart at bytes memory other count (inr above) =
    bytes_at-same _ _ other count (λ x low high. with_bytes-above at bytes memory x (omega arith))

pub length-lowest_from : (i count number : ℕ) → length (bytes_low_first i count number) ≡ count
length-lowest_from i zero number = refl
length-lowest_from i (suc count) number = ap suc (length-lowest_from (suc i) count number)

pub length-lowest_bytes : (count number : ℕ) → length (lowest_bytes count number) ≡ count
length-lowest_bytes count number = length-lowest_from 0 count number

byte_at-quotient : (i n : ℕ) → byte_at i n ≡ n / 256 ^ i % 256
byte_at-quotient zero n = ap (λ q. q % 256) (sym (div-one n))
byte_at-quotient (suc i) n = refl

positive : (n : ℕ) → 0 < 256 ^ n
positive zero = lit< tt
positive (suc n) = let rest = positive n in rw (pow-suc 256 n) (omega arith)

-- the digits of a number to the base 256, from one of them on
pub little_endian-lowest_from : (i count n : ℕ) → little_endian (bytes_low_first i count n) ≡ n / 256 ^ i % 256 ^ count
little_endian-lowest_from i zero n = sym (mod-one (n / 256 ^ i))
little_endian-lowest_from i (suc count) n =
    let rest = little_endian-lowest_from (suc i) count n in
    let first = byte_at-quotient i n in
    let next : n / 256 ^ suc i ≡ n / 256 ^ i / 256 = ap (λ d. n / d) (pow-suc 256 i) ∙ sym (div-div-eq-div-mul n (256 ^ i) 256) in
    let whole : n / 256 ^ i % 256 ^ suc count ≡ (n / 256 ^ i / 256 % 256 ^ count) * 256 + n / 256 ^ i % 256 =
    ap (λ d. n / 256 ^ i % d) (pow-suc 256 count) ∙ mod-mul (n / 256 ^ i) {m = 256 ^ count} {c = 256} (positive count) (lit< tt) in
    rw (rest, first, next, whole) (omega arith)
