-- The kinds of tokens in the grammar's productions, and what a token of a kind says.
use Rattle.std.specs.Prelude.{ℕ, ℤ, List, [], ◌∷◌, map, Option, Some, None, Bool, false, ◌||◌, if◌then◌else◌}
use Rattle.kk_syntax.specs.declared.token.LocatedToken.{LocatedToken}
use Rattle.kk_syntax.specs.declared.token.Token.{Token}
use Rattle.kk_syntax.specs.declared.token.Token.TheVariants as OfToken
use Rattle.kk_syntax.specs.declared.token.Keyword.{Keyword}
use Rattle.kk_syntax.specs.declared.token.Symbol.{Symbol}
use Rattle.kk_syntax.specs.contracts.token.Keyword.{the_type as the_keywords}
use Rattle.kk_syntax.specs.contracts.token.Symbol.{the_type as the_symbols}
use Rattle.kk_syntax.specs.declared.tree.Identifier.{Identifier}
use denote.Enum.Bare.{sameb}
use Rattle.kk_parser.specs.Classes.{NameClass, word, type_variable, other, name_class, same_name_class, print, println, main, total, div, exn, console, Class, keyword as keyword_class, symbol as symbol_class, name as name_of_class, constructor as constructor_class, wildcard as wildcard_class, number as number_class, string as string_class}

-- a keyword; a symbol; a name of one of some classes; a constructor's name; a wildcard; any number; any string
pub data Kind : Type 0 where
  keyword : Keyword → Kind
  symbol : Symbol → Kind
  name_in : List NameClass → Kind
  constructor : Kind
  wildcard : Kind
  number : Kind
  string : Kind

-- the names; those that are no print; those but `main`; those of type variables; the names of types, which are no type
-- variables; and those of them that are no effect
abbrev pub effect_words : List NameClass
effect_words = word total ∷ word div ∷ word exn ∷ word console ∷ []

abbrev pub print_words : List NameClass
print_words = word print ∷ word println ∷ []

abbrev pub other_names : List NameClass
other_names = type_variable ∷ other ∷ []

abbrev pub name : Kind
name = name_in (word print ∷ word println ∷ word main ∷ word total ∷ word div ∷ word exn ∷ word console ∷ type_variable ∷ other ∷ [])

abbrev pub name_but_print : Kind
name_but_print = name_in (word main ∷ word total ∷ word div ∷ word exn ∷ word console ∷ type_variable ∷ other ∷ [])

abbrev pub name_but_main : Kind
name_but_main = name_in (word print ∷ word println ∷ word total ∷ word div ∷ word exn ∷ word console ∷ type_variable ∷ other ∷ [])

abbrev pub type_variable_name : Kind
type_variable_name = name_in (type_variable ∷ [])

abbrev pub type_name : Kind
type_name = name_in (word print ∷ word println ∷ word main ∷ word total ∷ word div ∷ word exn ∷ word console ∷ other ∷ [])

abbrev pub type_name_but_effect : Kind
type_name_but_effect = name_in (word print ∷ word println ∷ word main ∷ other ∷ [])

-- what a token of a kind says besides its kind: a name and the byte where it stands; a number; a string's bytes
abbrev pub Said : Kind → Type 0
Said (keyword k) = Unit {0}
Said (symbol s) = Unit {0}
Said (name_in classes) = Identifier
Said constructor = Identifier
Said wildcard = Unit {0}
Said number = ℤ
Said string = List ℕ

abbrev pub is_name_in : List NameClass → NameClass → Bool
is_name_in [] c = false
is_name_in (d ∷ ds) c = same_name_class c d || is_name_in ds c

-- what a token says that stands at a byte, if it is of a kind
abbrev pub said_at : (k : Kind) → Token → ℕ → Option (Said k)
said_at (keyword k) (OfToken.Keyword found) at = if sameb the_keywords found k then Some tt else None
said_at (symbol s) (OfToken.Symbol found) at = if sameb the_symbols found s then Some tt else None
said_at (name_in classes) (OfToken.Name spelling) at = if is_name_in classes (name_class spelling) then Some (record { name = spelling; at = at }) else None
said_at constructor (OfToken.Constructor spelling) at = Some (record { name = spelling; at = at })
said_at wildcard OfToken.Wildcard at = Some tt
said_at number (OfToken.Number value) at = Some value
said_at string (OfToken.String text) at = Some text
said_at _ _ at = None

-- the same of a token with its place
abbrev pub says : (k : Kind) → LocatedToken → Option (Said k)
says k t = said_at k t.token t.span.at

-- what the first of some tokens says, if it is of a kind
abbrev pub next_says : (k : Kind) → List LocatedToken → Option (Said k)
next_says k [] = None
next_says k (t ∷ ts) = says k t

-- the classes of the tokens of a kind
abbrev pub classes_of : Kind → List Class
classes_of (keyword k) = keyword_class k ∷ []
classes_of (symbol s) = symbol_class s ∷ []
classes_of (name_in classes) = map name_of_class classes
classes_of constructor = constructor_class ∷ []
classes_of wildcard = wildcard_class ∷ []
classes_of number = number_class ∷ []
classes_of string = string_class ∷ []

-- the classes of the names of a kind
abbrev pub names_of : Kind → List NameClass
names_of (name_in classes) = classes
names_of _ = []
