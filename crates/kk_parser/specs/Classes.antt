-- The classes of tokens that the grammar tells apart. Each token has exactly one.
use Rattle.std.specs.Prelude.{ℕ, List, [], ◌∷◌, Bool, true, false, ◌&&◌, ◌||◌, if◌then◌else◌, nat_le, codes}
use Rattle.std.specs.Str.{bytes_eq}
use Rattle.kk_syntax.specs.declared.token.LocatedToken.{LocatedToken}
use Rattle.kk_syntax.specs.declared.token.Token.{Token}
use Rattle.kk_syntax.specs.declared.token.Token.TheVariants as OfToken
use Rattle.kk_syntax.specs.declared.token.Keyword.{Keyword}
use Rattle.kk_syntax.specs.declared.token.Symbol.{Symbol}
use Rattle.kk_syntax.specs.contracts.token.Keyword.{the_type as the_keywords}
use Rattle.kk_syntax.specs.contracts.token.Symbol.{the_type as the_symbols}
use denote.Enum.Bare.{sameb}

-- the names that the grammar knows by their spelling
pub data Word : Type 0 where
  print println main total div exn console : Word

-- a name is one of these words; or it has the shape of a type variable; or it is another
pub data NameClass : Type 0 where
  word : Word → NameClass
  type_variable : NameClass
  other : NameClass

pub data Class : Type 0 where
  keyword : Keyword → Class
  symbol : Symbol → Class
  name : NameClass → Class
  constructor : Class
  wildcard : Class
  number : Class
  string : Class

-- a digit, and a lower-case letter
abbrev pub is_digit : ℕ → Bool
is_digit byte = nat_le 48 byte && nat_le byte 57

abbrev pub is_lower : ℕ → Bool
is_lower byte = nat_le 97 byte && nat_le byte 122

abbrev pub are_digits : List ℕ → Bool
are_digits [] = true
are_digits (byte ∷ bytes) = is_digit byte && are_digits bytes

-- one lower-case letter, and digits behind it or nothing
abbrev pub has_variable_shape : List ℕ → Bool
has_variable_shape [] = false
has_variable_shape (byte ∷ bytes) = is_lower byte && are_digits bytes

abbrev pub spelling_of : Word → List ℕ
spelling_of print = codes "print"
spelling_of println = codes "println"
spelling_of main = codes "main"
spelling_of total = codes "total"
spelling_of div = codes "div"
spelling_of exn = codes "exn"
spelling_of console = codes "console"

-- the word of some that has a spelling; else by the shape
abbrev pub class_among : List Word → List ℕ → NameClass
class_among [] spelling = if has_variable_shape spelling then type_variable else other
class_among (w ∷ ws) spelling = if bytes_eq spelling (spelling_of w) then word w else class_among ws spelling

abbrev pub all_words : List Word
all_words = print ∷ println ∷ main ∷ total ∷ div ∷ exn ∷ console ∷ []

abbrev pub name_class : List ℕ → NameClass
name_class spelling = class_among all_words spelling

abbrev pub class_of : Token → Class
class_of (OfToken.Name spelling) = name (name_class spelling)
class_of (OfToken.Constructor spelling) = constructor
class_of OfToken.Wildcard = wildcard
class_of (OfToken.Number value) = number
class_of (OfToken.String text) = string
class_of (OfToken.Keyword k) = keyword k
class_of (OfToken.Symbol s) = symbol s

-- whether two words, and two classes, are one
abbrev pub word_number : Word → ℕ
word_number print = 0
word_number println = 1
word_number main = 2
word_number total = 3
word_number div = 4
word_number exn = 5
word_number console = 6

abbrev pub same_word : Word → Word → Bool
same_word a b = Rattle.std.specs.Prelude.◌==◌ (word_number a) (word_number b)

abbrev pub same_name_class : NameClass → NameClass → Bool
same_name_class (word a) (word b) = same_word a b
same_name_class type_variable type_variable = true
same_name_class other other = true
same_name_class _ _ = false

abbrev pub same_class : Class → Class → Bool
same_class (keyword a) (keyword b) = sameb the_keywords a b
same_class (symbol a) (symbol b) = sameb the_symbols a b
same_class (name a) (name b) = same_name_class a b
same_class constructor constructor = true
same_class wildcard wildcard = true
same_class number number = true
same_class string string = true
same_class _ _ = false

-- a class is one of some
abbrev pub is_one_of : List Class → Class → Bool
is_one_of [] c = false
is_one_of (d ∷ ds) c = same_class c d || is_one_of ds c

-- whether the first of some tokens is of one of some classes
abbrev pub is_at : List Class → List LocatedToken → Bool
is_at classes [] = false
is_at classes (t ∷ ts) = is_one_of classes (class_of t.token)
