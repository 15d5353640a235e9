-- The operators of the language on integers are those of the instructions on their words.
use Rattle.std.proofs.Common.{◌≡◌, ◌≢◌, ◌-◌, ◌^◌, ◌<◌, ℕ, zero, suc, ℤ, pos, negsuc, neg_ℤ, ◌-ℤ◌, Bool, true, false, not, w32, refl, sym, ◌∙◌, ap, subst, arith, lit<, mod-lt, lt_of_le_of_lt, ltb-true, lt-ltb, FitsSigned, nat_eq, nat_lt, int_lt, int_le, int_div, int_rem, int_eq, ne_eqb}
use Rattle.std.specs.Prelude.{bit_xor, if◌then◌else◌}
use Rattle.std.specs.Int.{cast_unsigned, int_wrap}
use Rattle.std.proofs.lemmas.Int.{wrapping_add-bits, wrapping_sub-bits, wrapping_mul-bits, of_z-to_z, int_wrap_fits, SFits-int_wrap, ints}
use Rattle.std.proofs.lemmas.Bool.Decides.{same_from_decides, Decides-int_eq, nat_tests}
use Rattle.std.specs.Int.Signed.{mag_rem}
use Rattle.kk_source.specs.Arithmetic.{wrapped, sum_of, difference_of, product_of, negation_of, quotient_of, remainder_of}
use Rattle.rv_isa.specs.Arithmetic.{signed, word_of, bit_of, sum_word, difference_word, shift_left, product_word, quotient_signed, remainder_signed}

pub sum_follows : (a b : ℕ) → a < 2 ^ 32 → b < 2 ^ 32 → signed (sum_word a b) ≡ sum_of (signed a) (signed b)
sum_follows a b ha hb = wrapping_add-bits w32 a b ha hb

pub difference_follows : (a b : ℕ) → a < 2 ^ 32 → b < 2 ^ 32 → signed (difference_word a b) ≡ difference_of (signed a) (signed b)
difference_follows a b ha hb = wrapping_sub-bits w32 a b ha hb

pub product_follows : (a b : ℕ) → a < 2 ^ 32 → b < 2 ^ 32 → signed (product_word a b) ≡ product_of (signed a) (signed b)
product_follows a b ha hb = wrapping_mul-bits w32 a b ha hb

less_itself : (z : ℤ) → pos 0 -ℤ z ≡ neg_ℤ z
less_itself z = omega (arith, ints)

pub negation_follows : (a : ℕ) → a < 2 ^ 32 → signed (difference_word 0 a) ≡ negation_of (signed a)
negation_follows a ha = difference_follows 0 a (lit< tt) ha ∙ ap (λ z. wrapped z) (less_itself (signed a))

pub sum_fits : (a b : ℕ) → sum_word a b < 2 ^ 32
sum_fits a b = mod-lt _ (lit< tt)

pub difference_fits : (a b : ℕ) → difference_word a b < 2 ^ 32
difference_fits a b = mod-lt _ (lit< tt)

pub product_fits : (a b : ℕ) → product_word a b < 2 ^ 32
product_fits a b = mod-lt _ (lit< tt)

word_of_fits : (z : ℤ) → word_of z < 2 ^ 32
word_of_fits (pos n) = omega arith
word_of_fits (negsuc n) = omega arith

-- a word is that of its number
pub same_word : (a b : ℕ) → a < 2 ^ 32 → b < 2 ^ 32 → signed a ≡ signed b → a ≡ b
same_word a b ha hb same = sym (of_z-to_z w32 a ha) ∙ ap (cast_unsigned w32) same ∙ of_z-to_z w32 b hb

pub not_zero : (b : ℕ) → b < 2 ^ 32 → b ≢ 0 → signed b ≢ pos 0
not_zero b hb not same = not (same_word b 0 hb (lit< tt) same)

-- the number of the word of a number is what is left of it
word_wraps : (z : ℤ) → signed (word_of z) ≡ wrapped z
unfolding int_wrap
word_wraps z = refl

-- ---- division

quotient_by : (x y : ℤ) → y ≢ pos 0 → quotient_of x y ≡ wrapped (int_div x y)
quotient_by x (pos zero) not = absurd (not refl)
quotient_by x (pos (suc n)) not = refl
quotient_by x (negsuc n) not = refl

remainder_by : (x y : ℤ) → y ≢ pos 0 → remainder_of x y ≡ int_rem x y
remainder_by x (pos zero) not = absurd (not refl)
remainder_by x (pos (suc n)) not = refl
remainder_by x (negsuc n) not = refl

-- the quotient of words, which is multiplied by 0 where the divisor is 0
abbrev pub divided : ℕ → ℕ → ℕ
divided a b = product_word (quotient_signed a b) (bit_of (nat_lt 0 b))

chosen : (zero_test some_test : Bool) (x y : ℕ) → zero_test ≡ false → some_test ≡ true → y < 2 ^ 32 → product_word (if zero_test then x else y) (bit_of some_test) ≡ y
chosen true some_test x y is some hy = cc is
chosen false false x y is some hy = cc some
chosen false true x y is some hy = omega (arith, hy)

divided_is : (a b : ℕ) → b ≢ 0 → divided a b ≡ word_of (int_div (signed a) (signed b))
divided_is a b some =
    let quotient : ℕ = word_of (int_div (signed a) (signed b)) in
    chosen (nat_eq b 0) (nat_lt 0 b) (2 ^ 32 - 1) quotient (ne_eqb b 0 some) (lt-ltb 0 b (omega (arith, some))) (word_of_fits (int_div (signed a) (signed b)))

pub quotient_follows : (a b : ℕ) → b < 2 ^ 32 → signed (divided a b) ≡ quotient_of (signed a) (signed b)
quotient_follows a zero hb = refl
quotient_follows a (suc b) hb =
    let not : suc b ≢ 0 = λ e. omega (arith, e) in
    ap signed (divided_is a (suc b) not) ∙ word_wraps (int_div (signed a) (signed (suc b))) ∙ sym (quotient_by (signed a) (signed (suc b)) (not_zero (suc b) hb not))

-- the number of a word is one of 32 bits
pub signed_fits : (a : ℕ) → a < 2 ^ 32 → FitsSigned w32 (signed a)
signed_fits a ha =
    let same : word_of (pos a) ≡ a = omega (arith, ha) in
    subst (λ z. FitsSigned w32 z) (sym (word_wraps (pos a)) ∙ ap signed same) (SFits-int_wrap w32 (pos a))

-- a remainder is a number of 32 bits
rem_fits : (x y : ℤ) → FitsSigned w32 x → FitsSigned w32 (int_rem x y)
rem_fits x y fits = record { sfits = lt_of_le_of_lt (mag_rem x y) fits.sfits }

either_of : (test : Bool) (x y : ℕ) → test ≡ false → (if test then x else y) ≡ y
either_of true x y is = cc is
either_of false x y is = refl

pub remainder_follows : (a b : ℕ) → a < 2 ^ 32 → b < 2 ^ 32 → signed (remainder_signed a b) ≡ remainder_of (signed a) (signed b)
remainder_follows a zero ha hb = refl
remainder_follows a (suc b) ha hb =
    let not : suc b ≢ 0 = λ e. omega (arith, e) in
    let rest : ℤ = int_rem (signed a) (signed (suc b)) in
    ap signed (either_of (nat_eq (suc b) 0) a (word_of rest) (ne_eqb (suc b) 0 not))
    ∙ word_wraps rest ∙ int_wrap_fits w32 rest (rem_fits (signed a) (signed (suc b)) (signed_fits a ha)) ∙ sym (remainder_by (signed a) (signed (suc b)) (not_zero (suc b) hb not))

pub remainder_fits : (a b : ℕ) → a < 2 ^ 32 → remainder_signed a b < 2 ^ 32
remainder_fits a b ha = either (nat_eq b 0)
  where
    either : (test : Bool) → (if test then a else word_of (int_rem (signed a) (signed b))) < 2 ^ 32
    either true = ha
    either false = word_of_fits (int_rem (signed a) (signed b))

-- ---- comparisons

-- the word of a truth
abbrev pub truth_word : Bool → ℕ
truth_word false = 1
truth_word true = 3

pub truth_follows : (b : Bool) → sum_word (shift_left (bit_of b) 1) 1 ≡ truth_word b
truth_follows false = refl
truth_follows true = refl

pub not_follows : (b : Bool) → bit_xor (truth_word b) 2 ≡ truth_word (not b)
not_follows false = refl
not_follows true = refl

pub opposite_follows : (b : Bool) → bit_xor (bit_of b) 1 ≡ bit_of (not b)
opposite_follows false = refl
opposite_follows true = refl

pub equal_follows : (a b : ℕ) → a < 2 ^ 32 → b < 2 ^ 32 → nat_lt (difference_word a b) 1 ≡ int_eq (signed a) (signed b)
equal_follows a b ha hb =
    let d : ℕ = difference_word a b in
    let same = Decides-int_eq (signed a) (signed b) in
    same_from_decides {P = a ≡ b} (nat_lt d 1) (int_eq (signed a) (signed b))
    ((λ e. omega (arith, ltb-true d 1 e, ha, hb)), (λ e. lt-ltb d 1 (omega (arith, e, ha, hb))))
    ((λ e. same_word a b ha hb (same.0 e)), (λ e. same.1 (ap signed e)))

not_less : (d : ℕ) → nat_lt 0 d ≡ not (nat_lt d 1)
not_less d = grind (arith, nat_tests)

pub unequal_follows : (a b : ℕ) → a < 2 ^ 32 → b < 2 ^ 32 → nat_lt 0 (difference_word a b) ≡ not (int_eq (signed a) (signed b))
unequal_follows a b ha hb = not_less (difference_word a b) ∙ ap not (equal_follows a b ha hb)

pub at_most_follows : (x y : ℤ) → not (int_lt y x) ≡ int_le x y
at_most_follows (pos a) (pos b) = grind (arith, nat_tests)
at_most_follows (pos a) (negsuc b) = refl
at_most_follows (negsuc a) (pos b) = refl
at_most_follows (negsuc a) (negsuc b) = grind (arith, nat_tests)
