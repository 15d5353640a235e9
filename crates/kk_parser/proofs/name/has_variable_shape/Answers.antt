use Rattle.std.proofs.Common.{◌≡◌, ℕ, true, List, [], ◌∷◌, ◌&&◌, refl, ap, sym, ◌∙◌}
use Rattle.std.specs.List.{list_all}
use Rattle.std.specs.Char.{is_ascii_digit}
use Rattle.kk_parser.specs.Classes.{is_digit, is_lower, are_digits, has_variable_shape}
use Rattle.kk_parser.proofs.name.has_variable_shape.Goals as goal

digits_alike : (bytes : List ℕ) → list_all is_ascii_digit bytes ≡ are_digits bytes
digits_alike [] = refl
digits_alike (byte ∷ bytes) = ap (λ b. is_digit byte && b) (digits_alike bytes)

pub returns-then-is_ascii_lowercase : goal.returns-then-is_ascii_lowercase
returns-then-is_ascii_lowercase c =
    let lower : is_lower c.in-Some.first.now ≡ true = sym c.is_ascii_lowercase.ensures.value ∙ c.if-is_ascii_lowercase.true in
    c.are_digits.ensures ∙ digits_alike c.in-Some.digits.now ∙ sym (ap (λ b. b && are_digits c.in-Some.digits.now) lower)
    ∙ ap has_variable_shape (sym c.in-Some.ensures.cases.0 ∙ c.as_bytes.ensures.value)
