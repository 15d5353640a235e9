-- The grammar of programs: the right side of each production, and what a text of it means.
use Rattle.std.specs.Prelude.{List, [], ◌∷◌, Option, Some, None}
use Rattle.std.proofs.Common.{inl, inr}
use Rattle.kk_syntax.specs.Surface.{Written, number as number_written, unit, variable, call, dot_call, construct, unary, binary, both, either as either_written, print_text, branch, branch_alone, writtens_of, block_of, match as match_written, rows_of, WrittenPattern, anything, pattern_variable, exactly, constructor as constructor_pattern, patterns_of, WrittenType, unit_type, type_variable, named, types_of, WrittenDeclaration, WrittenParameter, type_declaration, function_declaration}
use Rattle.kk_syntax.specs.declared.token.Keyword.TheVariants.{Fun, Val, Match, If, Then, Elif, Else}
use Rattle.kk_syntax.specs.declared.token.Keyword.TheVariants as Keyword
use Rattle.kk_syntax.specs.declared.token.Symbol.TheVariants.{OpenParenthesis, CloseParenthesis, OpenBrace, CloseBrace, Comma, Semicolon, Colon, Dot, Equals, Arrow, Plus, Minus, Star, Slash, Percent, EqualEqual, NotEqual, Less, LessEqual, Greater, GreaterEqual, AndAnd, OrOr, Exclamation, Tilde}
use Rattle.kk_syntax.specs.declared.operator.BinaryOperator.{BinaryOperator}
use Rattle.kk_syntax.specs.declared.operator.BinaryOperator.TheVariants as Operator
use Rattle.kk_syntax.specs.declared.operator.UnaryOperator.{UnaryOperator}
use Rattle.kk_syntax.specs.declared.operator.UnaryOperator.TheVariants.{Negate, Not}
use Rattle.kk_syntax.specs.declared.operator.PrintForm.{PrintForm}
use Rattle.kk_syntax.specs.declared.operator.PrintForm.TheVariants.{Print, PrintLine}
use Rattle.kk_syntax.specs.declared.tree.Identifier.{Identifier}
use Rattle.kk_syntax.specs.declared.tree.Effect.{Effect}
use Rattle.kk_syntax.specs.declared.tree.Effect.TheVariants.{Total, Div, Exn, Console}
use Rattle.kk_syntax.specs.declared.tree.SurfaceBinder.{SurfaceBinder}
use Rattle.kk_syntax.specs.declared.tree.SurfaceBinder.TheVariants as Binder
use Rattle.kk_parser.specs.Classes.{word, print as print_name, println as println_name, main as main_name, total as total_name, div as div_name, exn as exn_name, console as console_name}
use Rattle.kk_parser.specs.Kinds.{keyword, symbol, name_in, name, name_but_main, type_variable_name, type_name, type_name_but_effect, constructor, wildcard, number, string}
use Rattle.kk_parser.specs.Phrases.{Nonterminal, program, decl, con, param, effect, eff, type, result_type, expr, block, stmt, if_, match_, row, pat, or, and, cmp, add, mul, un, post, atom, say, args, Meant, Phrase, token, opener, ◌▸◌, either, many, optional, level, rule, each, perhaps, PhraseValue, Grammar}

-- ";"* and ";"+
abbrev pub semicolons : Phrase
semicolons = many (token (symbol Semicolon))

abbrev pub some_semicolons : Phrase
some_semicolons = token (symbol Semicolon) ▸ semicolons

-- phrases with commas between them, at least one; and these or none
abbrev pub some_listed : Phrase → Phrase
some_listed a = a ▸ many (token (symbol Comma) ▸ a)

abbrev pub listed : Phrase → Phrase
listed a = optional (some_listed a)

-- "(", which opens a level; a phrase in round brackets; and these alone
abbrev pub bracket : Phrase
bracket = opener (symbol OpenParenthesis)

abbrev pub bracketed : Phrase → Phrase
bracketed a = bracket ▸ a ▸ token (symbol CloseParenthesis)

abbrev pub no_arguments : Phrase
no_arguments = bracket ▸ token (symbol CloseParenthesis)

-- "print" | "println"
abbrev pub print_word : Phrase
print_word = either (token (name_in (word print_name ∷ []))) (token (name_in (word println_name ∷ [])))

-- "==" | "!=" | "<" | "<=" | ">" | ">="; "+" | "-"; "*" | "/" | "%"; "!" | "~". Each operator opens a level.
abbrev pub comparison : Phrase
comparison = either (opener (symbol EqualEqual)) (either (opener (symbol NotEqual)) (either (opener (symbol Less)) (either (opener (symbol LessEqual)) (either (opener (symbol Greater)) (opener (symbol GreaterEqual))))))

abbrev pub sum_operator : Phrase
sum_operator = either (opener (symbol Plus)) (opener (symbol Minus))

abbrev pub product_operator : Phrase
product_operator = either (opener (symbol Star)) (either (opener (symbol Slash)) (opener (symbol Percent)))

abbrev pub unary_operator : Phrase
unary_operator = either (opener (symbol Exclamation)) (opener (symbol Tilde))

-- "(" [ param { "," param } ] ")"
abbrev pub parameters : Phrase
parameters = bracketed (listed (rule param))

-- "<" tvar { "," tvar } ">"
abbrev pub type_parameters : Phrase
type_parameters = token (symbol Less) ▸ some_listed (token type_variable_name) ▸ token (symbol Greater)

-- [ "(" param { "," param } ")" ]
abbrev pub fields : Phrase
fields = optional (bracketed (some_listed (rule param)))

-- ":" [ effect ] type, where one of the four effect words is always the effect
abbrev pub result : Phrase
result = token (symbol Colon) ▸ either (rule effect ▸ rule type) (rule result_type)

-- "<" type { "," type } ">": it opens a level
abbrev pub type_arguments : Phrase
type_arguments = opener (symbol Less) ▸ some_listed (rule type) ▸ token (symbol Greater)

-- name | wildcard
abbrev pub binder : Phrase
binder = either (token name) (token wildcard)

-- "type" tname [ type_parameters ] "{" ;* con { ;+ con } ;* "}"
abbrev pub declared_type : Phrase
declared_type = token (keyword Keyword.Type) ▸ token type_name ▸ optional type_parameters ▸ opener (symbol OpenBrace) ▸ semicolons ▸ rule con ▸ many (some_semicolons ▸ rule con) ▸ semicolons ▸ token (symbol CloseBrace)

-- "fun" name parameters [ result ] expr; the result may be missing for `main` alone
abbrev pub declared_function : Phrase
declared_function = token (keyword Fun) ▸ either (token (name_in (word main_name ∷ [])) ▸ parameters ▸ optional result) (token name_but_main ▸ parameters ▸ result) ▸ rule expr

-- [ "(" [ pat { "," pat } ] ")" ]
abbrev pub parts : Phrase
parts = optional (bracketed (listed (rule pat)))

-- the right side of a production
abbrev pub production : Nonterminal → Phrase
-- program = ;* [ decl { ;+ decl } ;* ]
production program = semicolons ▸ optional (rule decl ▸ many (some_semicolons ▸ rule decl) ▸ semicolons)
-- decl = declared_type | declared_function
production decl = level (either declared_type declared_function)
-- con = Con [ "(" param { "," param } ")" ]
production con = level (token constructor ▸ fields)
-- param = name ":" type
production param = token name ▸ token (symbol Colon) ▸ rule type
-- effect = eff | "<" [ eff { "," eff } ] ">"
production effect = either (rule eff) (token (symbol Less) ▸ listed (rule eff) ▸ token (symbol Greater))
-- eff = "total" | "div" | "exn" | "console"
production eff = either (token (name_in (word total_name ∷ []))) (either (token (name_in (word div_name ∷ []))) (either (token (name_in (word exn_name ∷ []))) (token (name_in (word console_name ∷ [])))))
-- type = tvar | tname [ "<" type { "," type } ">" ] | "(" ")" | "(" type ")"
production type = level (either (token type_variable_name) (either (token type_name ▸ optional type_arguments) (either no_arguments (bracketed (rule type)))))
-- result_type = type that begins with no effect word
production result_type = level (either (token type_variable_name) (either (token type_name_but_effect ▸ optional type_arguments) (either no_arguments (bracketed (rule type)))))
-- expr = block | if | match | or
production expr = level (either (rule block) (either (rule if_) (either (rule match_) (rule or))))
-- block = "{" ;* { stmt ;+ } expr ;* "}"
production block = opener (symbol OpenBrace) ▸ semicolons ▸ many (rule stmt ▸ some_semicolons) ▸ rule expr ▸ semicolons ▸ token (symbol CloseBrace)
-- stmt = "val" ( name | wildcard ) "=" expr | expr
production stmt = either (token (keyword Val) ▸ binder ▸ token (symbol Equals) ▸ rule expr) (rule expr)
-- if = "if" or "then" expr { "elif" or "then" expr } [ "else" expr ]
production if_ = opener (keyword If) ▸ rule or ▸ token (keyword Then) ▸ rule expr ▸ each (keyword Elif) (rule or ▸ token (keyword Then) ▸ rule expr) ▸ perhaps (keyword Else) (rule expr)
-- match = "match" or "{" ;* row { ;+ row } ;* "}"
production match_ = token (keyword Match) ▸ rule or ▸ opener (symbol OpenBrace) ▸ semicolons ▸ rule row ▸ many (some_semicolons ▸ rule row) ▸ semicolons ▸ token (symbol CloseBrace)
-- row = pat "->" expr
production row = rule pat ▸ token (symbol Arrow) ▸ rule expr
-- pat = wildcard | name | number | Con [ "(" [ pat { "," pat } ] ")" ] | "(" pat ")"
production pat = level (either (token wildcard) (either (token name) (either (token number) (either (token constructor ▸ parts) (bracketed (rule pat))))))
-- or = and [ "||" or ]
production or = rule and ▸ optional (opener (symbol OrOr) ▸ rule or)
-- and = cmp [ "&&" and ]
production and = rule cmp ▸ optional (opener (symbol AndAnd) ▸ rule and)
-- cmp = add [ comparison add ]
production cmp = rule add ▸ optional (comparison ▸ rule add)
-- add = mul { sum_operator mul }
production add = rule mul ▸ many (sum_operator ▸ rule mul)
-- mul = un { product_operator un }
production mul = rule un ▸ many (product_operator ▸ rule un)
-- un = ( "!" | "~" ) un | post
production un = either (unary_operator ▸ rule un) (rule post)
-- post = atom { "." name [ "(" args ")" ] }
production post = rule atom ▸ many (opener (symbol Dot) ▸ token name ▸ optional (bracketed (rule args)))
-- atom = name [ "(" args ")" ] | Con [ "(" args ")" ] | number | "(" ")" | "(" expr ")" | say
production atom = either (token name ▸ optional (bracketed (rule args))) (either (token constructor ▸ optional (bracketed (rule args))) (either (token number) (either no_arguments (either (bracketed (rule expr)) (rule say)))))
-- say = ( "print" | "println" ) "(" string ")" | string "." ( "print" | "println" ) [ "(" ")" ]
production say = either (print_word ▸ bracketed (token string)) (token string ▸ opener (symbol Dot) ▸ print_word ▸ optional no_arguments)
-- args = [ expr { "," expr } ]
production args = listed (rule expr)

-- the form of a print
abbrev pub print_form : PhraseValue print_word → PrintForm
print_form (inl _) = Print
print_form (inr _) = PrintLine

abbrev pub comparison_of : PhraseValue comparison → BinaryOperator
comparison_of (inl _) = Operator.Equal
comparison_of (inr (inl _)) = Operator.NotEqual
comparison_of (inr (inr (inl _))) = Operator.Less
comparison_of (inr (inr (inr (inl _)))) = Operator.LessEqual
comparison_of (inr (inr (inr (inr (inl _))))) = Operator.Greater
comparison_of (inr (inr (inr (inr (inr _))))) = Operator.GreaterEqual

abbrev pub sum_operator_of : PhraseValue sum_operator → BinaryOperator
sum_operator_of (inl _) = Operator.Add
sum_operator_of (inr _) = Operator.Subtract

abbrev pub product_operator_of : PhraseValue product_operator → BinaryOperator
product_operator_of (inl _) = Operator.Multiply
product_operator_of (inr (inl _)) = Operator.Divide
product_operator_of (inr (inr _)) = Operator.Remainder

abbrev pub unary_operator_of : PhraseValue unary_operator → UnaryOperator
unary_operator_of (inl _) = Not
unary_operator_of (inr _) = Negate

-- operators of one level of precedence group to the left
abbrev pub to_left : {A : Type 0} → (A → BinaryOperator) → Written → List (A × Written) → Written
to_left operator left [] = left
to_left operator left ((a, right) ∷ more) = to_left operator (binary (operator a) left right) more

-- what stands in a list with commas
abbrev pub some_listed_of : {A : Type 0} → A × List (Unit {0} × A) → List A
some_listed_of (first, more) = first ∷ Rattle.std.specs.Prelude.map (λ m. m.1) more

abbrev pub listed_of : {A : Type 0} → Option (A × List (Unit {0} × A)) → List A
listed_of None = []
listed_of (Some (first, more)) = first ∷ Rattle.std.specs.Prelude.map (λ m. m.1) more

-- the arguments in brackets, or none
abbrev pub arguments_of : PhraseValue (optional (bracketed (rule args))) → List Written
arguments_of None = []
arguments_of (Some (_, (arguments, _))) = arguments

-- the same, told from no brackets
abbrev pub arguments_given : PhraseValue (optional (bracketed (rule args))) → Option (List Written)
arguments_given None = None
arguments_given (Some (_, (arguments, _))) = Some arguments

-- a name with arguments in brackets is a call; alone it is a variable
abbrev pub named_of : Identifier → PhraseValue (optional (bracketed (rule args))) → Written
named_of name None = variable name
named_of name (Some (_, (arguments, _))) = call name (writtens_of arguments)

-- dot calls, from the left
abbrev pub dotted : Written → PhraseValue (many (opener (symbol Dot) ▸ token name ▸ optional (bracketed (rule args)))) → Written
dotted first [] = first
dotted first ((_, (name, others)) ∷ more) = dotted (dot_call first name (writtens_of (arguments_of others))) more

-- an `elif` is an `if` in the branch of `else`
abbrev pub if_of : Written → Written → PhraseValue (each (keyword Elif) (rule or ▸ token (keyword Then) ▸ rule expr)) → Option Written → Written
if_of condition positive [] None = branch_alone condition positive
if_of condition positive [] (Some negative) = branch condition positive negative
if_of condition positive ((next, (_, second)) ∷ more) last = branch condition positive (if_of next second more last)

abbrev pub binder_of : PhraseValue binder → SurfaceBinder
binder_of (inl name) = Binder.Variable name
binder_of (inr _) = Binder.Wildcard

-- the effects and the type of a result
abbrev pub effects_of : PhraseValue (either (rule effect ▸ rule type) (rule result_type)) → List Effect
effects_of (inl (effects, _)) = effects
effects_of (inr _) = []

abbrev pub type_of : PhraseValue (either (rule effect ▸ rule type) (rule result_type)) → WrittenType
type_of (inl (_, t)) = t
type_of (inr t) = t

-- the type variables and the fields of a declared type
abbrev pub type_parameters_of : PhraseValue (optional type_parameters) → List Identifier
type_parameters_of None = []
type_parameters_of (Some (_, (names, _))) = some_listed_of names

abbrev pub fields_of : PhraseValue fields → List WrittenParameter
fields_of None = []
fields_of (Some (_, (given, _))) = some_listed_of given

-- the patterns of a constructor's fields
abbrev pub parts_of : PhraseValue parts → List WrittenPattern
parts_of None = []
parts_of (Some (_, (given, _))) = listed_of given

-- the declaration of a function: what stands between `fun` and its body, and the body
abbrev pub function_of : PhraseValue (either (token (name_in (word main_name ∷ [])) ▸ parameters ▸ optional result) (token name_but_main ▸ parameters ▸ result)) → Written → WrittenDeclaration
function_of (inl (name, ((_, (given, _)), None))) body = function_declaration name (listed_of given) [] None body
function_of (inl (name, ((_, (given, _)), Some (_, result)))) body = function_declaration name (listed_of given) (effects_of result) (Some (type_of result)) body
function_of (inr (name, ((_, (given, _)), (_, result)))) body = function_declaration name (listed_of given) (effects_of result) (Some (type_of result)) body

-- the arguments of a type, or none
abbrev pub type_arguments_of : PhraseValue (optional type_arguments) → List WrittenType
type_arguments_of None = []
type_arguments_of (Some (_, (types, _))) = some_listed_of types

-- `()`, or a type in brackets
abbrev pub bracketed_type : PhraseValue (either no_arguments (bracketed (rule type))) → WrittenType
bracketed_type (inl _) = unit_type
bracketed_type (inr (_, (t, _))) = t

-- what a text of a production means
abbrev pub meaning : (x : Nonterminal) → PhraseValue (production x) → Meant x
meaning program (_, None) = []
meaning program (_, Some (first, (more, _))) = first ∷ Rattle.std.specs.Prelude.map (λ m. m.1) more
meaning decl (inl (_, (name, (given, (_, (_, (first, (more, _)))))))) = type_declaration name (type_parameters_of given) (first ∷ Rattle.std.specs.Prelude.map (λ m. m.1) more)
meaning decl (inr (_, (head, body))) = function_of head body
meaning con (name, given) = record { name = name; fields = fields_of given }
meaning param (name, (_, t)) = record { name = name; of_type = t }
meaning effect (inl e) = e ∷ []
meaning effect (inr (_, (es, _))) = listed_of es
meaning eff (inl _) = Total
meaning eff (inr (inl _)) = Div
meaning eff (inr (inr (inl _))) = Exn
meaning eff (inr (inr (inr _))) = Console
meaning type (inl name) = type_variable name
meaning type (inr (inl (name, arguments))) = named name (types_of (type_arguments_of arguments))
meaning type (inr (inr t)) = bracketed_type t
meaning result_type (inl name) = type_variable name
meaning result_type (inr (inl (name, arguments))) = named name (types_of (type_arguments_of arguments))
meaning result_type (inr (inr t)) = bracketed_type t
meaning expr (inl t) = t
meaning expr (inr (inl t)) = t
meaning expr (inr (inr (inl t))) = t
meaning expr (inr (inr (inr t))) = t
meaning block (_, (_, (statements, (last, _)))) = block_of (Rattle.std.specs.Prelude.map (λ s. s.0) statements) last
meaning stmt (inl (_, (binder, (_, value)))) = record { binder = binder_of binder; value = value }
meaning stmt (inr value) = record { binder = Binder.Nothing; value = value }
meaning if_ (_, (condition, (_, (positive, (more, last))))) = if_of condition positive more last
meaning match_ (_, (scrutinee, (_, (_, (first, (more, _)))))) = match_written scrutinee (rows_of (first ∷ Rattle.std.specs.Prelude.map (λ m. m.1) more))
meaning row (pattern, (_, body)) = record { pattern = pattern; body = body }
meaning pat (inl _) = anything
meaning pat (inr (inl name)) = pattern_variable name
meaning pat (inr (inr (inl value))) = exactly value
meaning pat (inr (inr (inr (inl (name, given))))) = constructor_pattern name (patterns_of (parts_of given))
meaning pat (inr (inr (inr (inr (_, (pattern, _)))))) = pattern
meaning or (left, None) = left
meaning or (left, Some (_, right)) = either_written left right
meaning and (left, None) = left
meaning and (left, Some (_, right)) = both left right
meaning cmp (left, None) = left
meaning cmp (left, Some (operator, right)) = binary (comparison_of operator) left right
meaning add (left, more) = to_left sum_operator_of left more
meaning mul (left, more) = to_left product_operator_of left more
meaning un (inl (operator, operand)) = unary (unary_operator_of operator) operand
meaning un (inr t) = t
meaning post (first, more) = dotted first more
meaning atom (inl (name, arguments)) = named_of name arguments
meaning atom (inr (inl (name, arguments))) = construct name (writtens_of (arguments_of arguments))
meaning atom (inr (inr (inl value))) = number_written value
meaning atom (inr (inr (inr (inl _)))) = unit
meaning atom (inr (inr (inr (inr (inl (_, (t, _))))))) = t
meaning atom (inr (inr (inr (inr (inr t))))) = t
meaning say (inl (form, (_, (text, _)))) = print_text (print_form form) text
meaning say (inr (text, (_, (form, _)))) = print_text (print_form form) text
meaning args es = listed_of es

-- the grammar of programs
abbrev pub program_grammar : Grammar
program_grammar = record { right = production; meant = meaning }
