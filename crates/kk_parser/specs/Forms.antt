-- The grammar in the form in which it is read with one token of lookahead. It spells what the grammar of programs
-- spells, with the same levels and the same meaning. Programs, declarations, types, result types, blocks, matches and
-- atoms have other right sides here: what two alternatives begin with, also a semicolon, stands before the choice.
use Rattle.std.specs.Prelude.{List, [], ◌∷◌, ◌++◌, Option, Some, None, ◌⊎◌}
use Rattle.std.proofs.Common.{inl, inr}
use Rattle.kk_syntax.specs.Surface.{Written, number as number_written, unit, construct, writtens_of, print_text, block_of, match, rows_of, WrittenPattern, anything, pattern_variable, exactly, constructor as constructor_pattern, patterns_of, WrittenStatement, WrittenType, unit_type, type_variable, named, types_of, WrittenParameter, WrittenDeclaration, type_declaration}
use Rattle.kk_syntax.specs.declared.token.Keyword.TheVariants.{Val, Match, Then, Elif, Else}
use Rattle.kk_syntax.specs.declared.token.Keyword.TheVariants as Keyword
use Rattle.kk_syntax.specs.declared.token.Symbol.TheVariants.{CloseParenthesis, OpenBrace, CloseBrace, Semicolon, Dot, Equals}
use Rattle.kk_syntax.specs.declared.tree.Effect.{Effect}
use Rattle.kk_syntax.specs.declared.tree.Identifier.{Identifier}
use Rattle.kk_parser.specs.Classes.{NameClass, word as a_word, main as main_name}
use Rattle.kk_syntax.specs.declared.tree.SurfaceBinder.TheVariants as Binder
use Rattle.kk_parser.specs.Kinds.{keyword, symbol, name_in, name, wildcard, name_but_main, name_but_print, names_of, type_variable_name, type_name, type_name_but_effect, constructor, number, string}
use Rattle.kk_parser.specs.Phrases.{Nonterminal, program, decl, con, param, effect, eff, type, result_type, expr, block, stmt, if_, match_, row, pat, or, and, cmp, add, mul, un, post, atom, say, args, Meant, Phrase, token, opener, ◌▸◌, either, many, optional, level, rule, each, perhaps, quoted_or, PhraseValue, Grammar}
use Rattle.kk_parser.specs.Grammar.{production, meaning, semicolons, some_semicolons, bracket, bracketed, no_arguments, print_word, print_form, binder, binder_of, named_of, if_of, parameters, result, listed_of, effects_of, type_of, arguments_of, type_arguments, type_arguments_of, type_parameters, type_parameters_of, declared_function, parts, parts_of}

-- "(" ( ")" | a ")" )
abbrev pub in_brackets : Phrase → Phrase
in_brackets a = bracket ▸ either (token (symbol CloseParenthesis)) (a ▸ token (symbol CloseParenthesis))

-- "val" ( name | wildcard ) "=" expr
abbrev pub binding : Phrase
binding = token (keyword Val) ▸ binder ▸ token (symbol Equals) ▸ rule expr

-- the statements that bind, and an expression behind them
abbrev pub items : Phrase
items = many (binding ▸ some_semicolons) ▸ rule expr

-- tvar | tname [ "<" type { "," type } ">" ] | "(" ")" | "(" type ")", where the type's name is of one of some classes
abbrev pub type_by : List NameClass → Phrase
type_by names = either (token type_variable_name) (either (token (name_in names) ▸ optional type_arguments) (in_brackets (rule type)))

-- what stands behind the first of some phrases: semicolons, and more of these phrases where one likes
abbrev pub and_more : Phrase → Phrase
and_more a = many (token (symbol Semicolon) ▸ optional a)

-- ;* a { ;+ a } ;*
abbrev pub separated : Phrase → Phrase
separated a = semicolons ▸ a ▸ and_more a

-- "type" tname [ type_parameters ] "{" ;* con { ;+ con } ;* "}"
abbrev pub typed : Phrase
typed = token (keyword Keyword.Type) ▸ token type_name ▸ optional type_parameters ▸ opener (symbol OpenBrace) ▸ separated (rule con) ▸ token (symbol CloseBrace)

-- "match" or "{" ;* row { ;+ row } ;* "}"
abbrev pub matched : Phrase
matched = token (keyword Match) ▸ rule or ▸ opener (symbol OpenBrace) ▸ separated (rule row) ▸ token (symbol CloseBrace)

-- a pattern, the levels left open that it opens
abbrev pub open_pattern : Phrase
open_pattern = either (token wildcard) (either (token name) (either (token number) (either (token constructor ▸ parts) (bracketed (rule pat)))))

-- string "." print_word [ "(" ")" ]
abbrev pub spoken : Phrase
spoken = token string ▸ opener (symbol Dot) ▸ print_word ▸ optional no_arguments

-- a print's name, and what may stand behind it: "(" ( string ")" | args ")" )
abbrev pub printed : Phrase
printed = print_word ▸ optional (bracket ▸ quoted_or (rule args ▸ token (symbol CloseParenthesis)))

-- the right side of a production, in this form
abbrev pub form : Nonterminal → Phrase
form program = semicolons ▸ optional (rule decl ▸ and_more (rule decl))
form type = level (type_by (names_of type_name))
form result_type = level (type_by (names_of type_name_but_effect))
form block = opener (symbol OpenBrace) ▸ semicolons ▸ items ▸ and_more items ▸ token (symbol CloseBrace)
form atom = either (token number) (either (token constructor ▸ optional (bracketed (rule args))) (either (in_brackets (rule expr)) (either spoken (either printed (token name_but_print ▸ optional (bracketed (rule args)))))))
form decl = level (either typed declared_function)
form con = production con
form param = production param
form effect = production effect
form eff = production eff
form expr = production expr
form stmt = production stmt
form if_ = production if_
form match_ = matched
form row = production row
form pat = level open_pattern
form or = production or
form and = production and
form cmp = production cmp
form add = production add
form mul = production mul
form un = production un
form post = production post
form say = production say
form args = production args

-- what stands behind semicolons
abbrev pub those_given : {A : Type 0} → List (Unit {0} × Option A) → List A
those_given [] = []
those_given ((_, None) ∷ more) = those_given more
those_given ((_, Some a) ∷ more) = a ∷ those_given more

abbrev pub separated_of : {A : Type 0} → List (Unit {0}) × (A × List (Unit {0} × Option A)) → List A
separated_of (_, (first, more)) = first ∷ those_given more

-- a declaration of a type
abbrev pub typed_of : PhraseValue typed → WrittenDeclaration
typed_of (_, (name, (given, (_, (constructors, _))))) = type_declaration name (type_parameters_of given) (separated_of constructors)

abbrev pub matched_of : PhraseValue matched → Written
matched_of (_, (scrutinee, (_, (rows, _)))) = match scrutinee (rows_of (separated_of rows))

-- what a constructor with its fields' patterns means, and any pattern
abbrev pub constructor_of : PhraseValue (token constructor ▸ parts) → WrittenPattern
constructor_of (name, given) = constructor_pattern name (patterns_of (parts_of given))

abbrev pub pattern_of : PhraseValue open_pattern → WrittenPattern
pattern_of (inl _) = anything
pattern_of (inr (inl name)) = pattern_variable name
pattern_of (inr (inr (inl value))) = exactly value
pattern_of (inr (inr (inr (inl v)))) = constructor_of v
pattern_of (inr (inr (inr (inr (_, (pattern, _)))))) = pattern

-- a statement that binds, and some of them
abbrev pub binding_of : PhraseValue binding → WrittenStatement
binding_of (_, (binder, (_, value))) = record { binder = binder_of binder; value = value }

abbrev pub bindings_of : PhraseValue (many (binding ▸ some_semicolons)) → List WrittenStatement
bindings_of [] = []
bindings_of ((statement, _) ∷ more) = binding_of statement ∷ bindings_of more

-- an expression as a statement
abbrev pub as_statement : Written → WrittenStatement
as_statement value = record { binder = Binder.Nothing; value = value }

-- a block of items: the last expression is the value, and those before it are statements
abbrev pub block_from : PhraseValue items → List (PhraseValue items) → Written
block_from (bindings, value) [] = block_of (bindings_of bindings) value
block_from (bindings, value) (next ∷ more) = block_of (bindings_of bindings ++ as_statement value ∷ []) (block_from next more)

-- what stands in round brackets, or nothing
abbrev pub inside : {A B C : Type 0} → C → (A → C) → B × (Unit {0} ⊎ (A × Unit {0})) → C
inside none one (_, inl _) = none
inside none one (_, inr (a, _)) = one a

abbrev pub type_by_of : PhraseValue (type_by []) → WrittenType
type_by_of (inl name) = type_variable name
type_by_of (inr (inl (name, arguments))) = named name (types_of (type_arguments_of arguments))
type_by_of (inr (inr t)) = inside unit_type (λ u. u) t

abbrev pub spoken_of : PhraseValue spoken → Written
spoken_of (text, (_, (word, _))) = print_text (print_form word) text

-- what stands behind `if` or `elif`
abbrev pub branches : Phrase
branches = rule or ▸ token (keyword Then) ▸ rule expr ▸ each (keyword Elif) (rule or ▸ token (keyword Then) ▸ rule expr) ▸ perhaps (keyword Else) (rule expr)

abbrev pub branches_of : PhraseValue branches → Written
branches_of (condition, (_, (positive, (more, last)))) = if_of condition positive more last

-- what stands in a declaration of a function between `fun` and its body
abbrev pub head : Phrase
head = either (token (name_in (a_word main_name ∷ [])) ▸ parameters ▸ optional result) (token name_but_main ▸ parameters ▸ result)

pub record WrittenHead : Type 0 where
  pub name : Identifier
  pub parameters : List WrittenParameter
  pub effects : List Effect
  pub result : Option WrittenType

abbrev pub head_of : PhraseValue head → WrittenHead
head_of (inl (name, ((_, (given, _)), None))) = record { name = name; parameters = listed_of given; effects = []; result = None }
head_of (inl (name, ((_, (given, _)), Some (_, result)))) = record { name = name; parameters = listed_of given; effects = effects_of result; result = Some (type_of result) }
head_of (inr (name, ((_, (given, _)), (_, result)))) = record { name = name; parameters = listed_of given; effects = effects_of result; result = Some (type_of result) }

-- the name of a print
abbrev pub print_identifier : PhraseValue print_word → Identifier
print_identifier (inl name) = name
print_identifier (inr name) = name

abbrev pub printed_of : PhraseValue printed → Written
printed_of (word, None) = named_of (print_identifier word) None
printed_of (word, Some (_, inl text)) = print_text (print_form word) text
printed_of (word, Some (_, inr (arguments, _))) = named_of (print_identifier word) (Some (tt, (arguments, tt)))

-- what a text of a production means, in this form
abbrev pub form_meaning : (x : Nonterminal) → PhraseValue (form x) → Meant x
form_meaning program (_, None) = []
form_meaning program (_, Some (first, more)) = first ∷ those_given more
form_meaning type t = type_by_of t
form_meaning result_type t = type_by_of t
form_meaning block (_, (_, (first, (more, _)))) = block_from first (those_given more)
form_meaning atom (inl value) = number_written value
form_meaning atom (inr (inl (name, arguments))) = construct name (writtens_of (arguments_of arguments))
form_meaning atom (inr (inr (inl t))) = inside unit (λ u. u) t
form_meaning atom (inr (inr (inr (inl (text, (_, (word, _))))))) = print_text (print_form word) text
form_meaning atom (inr (inr (inr (inr (inl p))))) = printed_of p
form_meaning atom (inr (inr (inr (inr (inr (name, arguments)))))) = named_of name arguments
form_meaning decl (inl t) = typed_of t
form_meaning decl (inr f) = meaning decl (inr f)
form_meaning con v = meaning con v
form_meaning param v = meaning param v
form_meaning effect v = meaning effect v
form_meaning eff v = meaning eff v
form_meaning expr v = meaning expr v
form_meaning stmt v = meaning stmt v
form_meaning if_ v = meaning if_ v
form_meaning match_ v = matched_of v
form_meaning row v = meaning row v
form_meaning pat v = pattern_of v
form_meaning or v = meaning or v
form_meaning and v = meaning and v
form_meaning cmp v = meaning cmp v
form_meaning add v = meaning add v
form_meaning mul v = meaning mul v
form_meaning un v = meaning un v
form_meaning post v = meaning post v
form_meaning say v = meaning say v
form_meaning args v = meaning args v

abbrev pub form_grammar : Grammar
form_grammar = record { right = form; meant = form_meaning }
