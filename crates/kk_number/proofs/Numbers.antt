-- What `parse` makes of a number's digits.
use Rattle.std.proofs.Common.{◌≡◌, ℕ, ◌≤◌, ◌<◌, ◌^◌, List, length, Bool, true, false, nat_lt, ◌&&◌, not, Result, Ok, Err, IfSome, IfNone, arith, rules, refl}
use Rattle.std.specs.List.{list_all}
use Rattle.std.specs.Char.{is_ascii_digit}
use Rattle.std.specs.Result.{result_ok}
use Rattle.std.specs.Str.Parse.{digits_value, ParsesUnsigned}
use Rattle.std.proofs.lemmas.Str.Parse.{IsNumeralModel, numerals_by_value, parse_digits}
use Rattle.std.proofs.lemmas.Bool.Decides.{nat_tests}
use Rattle.kk_number.specs.Numbers.{is_number, has_leading_zero}

digits : IsNumeralModel (λ (ds : List ℕ). list_all is_ascii_digit ds ≡ true) (digits_value 10)
digits = numerals_by_value _ (search rules)

third : (a b c : Bool) → (a && (b && c)) ≡ true → c ≡ true
third true true c h = h
third true false c h = cc
third false b c h = cc

first : (a b : Bool) → (a && b) ≡ true → a ≡ true
first true b h = refl
first false b h = h

pub some_value : {E : Type 0} (text : List ℕ) (r : Result ℕ E) → ParsesUnsigned 64 10 text r → is_number text ≡ true → IfSome (result_ok r) (λ n. n ≡ digits_value 10 text)
some_value {E} text (Ok n) h is = (parse_digits digits {E = E} 64 text (Ok n) h (third (nat_lt 0 (length text)) (not (has_leading_zero text)) (list_all is_ascii_digit text) is)).1
some_value {E} text (Err e) h is = tt

nonempty : (text : List ℕ) → nat_lt 0 (length text) ≡ true → 0 < length text
nonempty text h = grind (arith, nat_tests)

at_least : (n m : ℕ) → (n < m → ⊥) → m ≤ n
at_least n m h = omega arith

pub no_value : {E : Type 0} (text : List ℕ) (r : Result ℕ E) → ParsesUnsigned 64 10 text r → is_number text ≡ true → IfNone (result_ok r) (2 ^ 64 ≤ digits_value 10 text)
no_value {E} text (Ok n) h is = tt
no_value {E} text (Err e) h is =
    let rest : Bool = not (has_leading_zero text) && list_all is_ascii_digit text in
    let none = parse_digits digits {E = E} 64 text (Err e) h (third (nat_lt 0 (length text)) (not (has_leading_zero text)) (list_all is_ascii_digit text) is) in
    let some : 0 < length text = nonempty text (first (nat_lt 0 (length text)) rest is) in
    at_least (digits_value 10 text) (2 ^ 64) (λ fits. none (some, fits))
