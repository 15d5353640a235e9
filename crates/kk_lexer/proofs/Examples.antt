-- The definitions of specs/ at worked examples.
use Rattle.std.proofs.Common.{◌≡◌, [], ◌∷◌, true, false, refl}
use Rattle.std.specs.Prelude.{codes}
use Rattle.kk_lexer.specs.Comments.{Closes, closed, opens, closes, other}
use Rattle.kk_lexer.specs.Names.{is_name, is_constructor_name, is_wildcard}
use Rattle.kk_lexer.specs.Numbers.{IsNumber, decimal, hexadecimal}
use Rattle.kk_lexer.specs.Strings.{IsInside, empty, plain, escape}

dash : is_name (codes "a1-b'") ≡ true
dash = refl

dash_before_digit : is_name (codes "a-1") ≡ false
dash_before_digit = refl

two_dashes : is_name (codes "a--b") ≡ false
two_dashes = refl

dash_last : is_name (codes "a-") ≡ false
dash_last = refl

dash_behind_underscore : is_name (codes "a_-b") ≡ false
dash_behind_underscore = refl

behind_a_prime : is_name (codes "a'b") ≡ false
behind_a_prime = refl

constructor_name : is_constructor_name (codes "Cons") ≡ true
constructor_name = refl

wildcard : is_wildcard (codes "_x1") ≡ true
wildcard = refl

thousand : IsNumber (codes "1_000") 1000
thousand = decimal _ refl

hex : IsNumber (codes "0xFf") 255
hex = hexadecimal _ refl

inside_of_a_string : IsInside (codes "a\\n") (97 ∷ 10 ∷ [])
inside_of_a_string = plain _ _ _ refl (escape _ _ _ _ refl empty)

nested : Closes 1 (codes "/**/ */")
nested = opens _ _ (closes _ _ (other _ _ _ refl (closes _ _ closed)))
