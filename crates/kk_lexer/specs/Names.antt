-- How names, wildcards and keywords are spelled.
use Rattle.std.specs.Prelude.{ℕ, List, [], ◌∷◌, Bool, true, false, ◌==◌, ◌&&◌, ◌||◌, if◌then◌else◌, codes}
use Rattle.std.specs.Char.{is_ascii_alphabetic, is_ascii_alphanumeric, is_ascii_lowercase, is_ascii_uppercase}
use Rattle.std.specs.List.{list_all}
use Rattle.kk_syntax.specs.declared.token.Keyword.{Keyword}
use Rattle.kk_syntax.specs.declared.token.Keyword.TheVariants.{«Type», Fun, Val, Match, If, Then, Elif, Else}
use Rattle.kk_lexer.specs.Fronts.{begins_with}

-- a letter, a digit or `_` (95)
abbrev pub is_word_byte : ℕ → Bool
is_word_byte b = is_ascii_alphanumeric b || b == 95

-- a name character, with the byte before it and the bytes after it in the name: a letter, a digit, `_`, or a `-` (45)
-- that stands directly between a letter or digit and a letter
abbrev pub is_name_character : ℕ → ℕ → List ℕ → Bool
is_name_character before b after =
    is_word_byte b || (b == 45 && (is_ascii_alphanumeric before && begins_with is_ascii_alphabetic after))

-- what goes on behind a byte of a name: name characters, and then any number of `'` (39)
abbrev pub ends_name : ℕ → List ℕ → Bool
ends_name before [] = true
ends_name before (b ∷ after) =
    if b == 39 then list_all (λ c. c == 39) after else (is_name_character before b after && ends_name b after)

-- a lower-case letter, and what goes on behind it
abbrev pub is_name : List ℕ → Bool
is_name [] = false
is_name (b ∷ after) = is_ascii_lowercase b && ends_name b after

-- an upper-case letter, and the same
abbrev pub is_constructor_name : List ℕ → Bool
is_constructor_name [] = false
is_constructor_name (b ∷ after) = is_ascii_uppercase b && ends_name b after

-- `_`, and then letters, digits and `_`
abbrev pub is_wildcard : List ℕ → Bool
is_wildcard [] = false
is_wildcard (b ∷ after) = b == 95 && list_all is_word_byte after

abbrev pub keyword_spelling : Keyword → List ℕ
keyword_spelling «Type» = codes "type"
keyword_spelling Fun = codes "fun"
keyword_spelling Val = codes "val"
keyword_spelling Match = codes "match"
keyword_spelling If = codes "if"
keyword_spelling Then = codes "then"
keyword_spelling Elif = codes "elif"
keyword_spelling Else = codes "else"
