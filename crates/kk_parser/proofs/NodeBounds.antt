-- A program has at most twice as many nodes as its text has tokens.
use Rattle.std.proofs.Common.{◌≡◌, ℕ, ◌+◌, ◌*◌, ◌≤◌, List, [], ◌∷◌, map, length, Option, Some, None, inl, inr, refl, ap, arith}
use Rattle.std.specs.Prelude.{All}
use Rattle.std.proofs.lemmas.List.Elements.{All-nil, All-cons}
use Rattle.kk_syntax.specs.declared.token.LocatedToken.{LocatedToken}
use Rattle.kk_syntax.specs.declared.token.Keyword.TheVariants.{Then, Elif, Else}
use Rattle.kk_syntax.specs.declared.token.Symbol.TheVariants.{Dot}
use Rattle.kk_syntax.specs.WrittenNodes.{pattern_nodes, patterns_nodes, binder_nodes, written_nodes, writtens_nodes, rows_nodes, nodes_in}
use Rattle.kk_syntax.specs.Surface.{Written, binary, dot_call, writtens_of, WrittenStatement, block_of, WrittenDeclaration, WrittenPattern, patterns_of, WrittenRow, rows_of}
use Rattle.kk_parser.specs.Classes.{word, main as main_name}
use Rattle.kk_parser.specs.Kinds.{keyword, symbol, name, name_in, name_but_main}
use Rattle.kk_parser.specs.Phrases.{Nonterminal, program, decl, con, param, effect, eff, type, result_type, expr, block, stmt, if_, match_, row, pat, or, and, cmp, add, mul, un, post, atom, say, args, Meant, Phrase, token, opener, ◌▸◌, either, many, optional, level, rule, each, perhaps, quoted_or, PhraseValue}
use Rattle.kk_parser.specs.Grammar.{some_semicolons, bracketed, parameters, result, comparison, sum_operator, product_operator, unary_operator, sum_operator_of, product_operator_of, to_left, listed, listed_of, arguments_of, named_of, dotted, if_of, binder, binder_of, function_of, parts, parts_of, production, meaning, program_grammar}
use Rattle.kk_parser.specs.Parses.{HasTree}
use Rattle.kk_parser.specs.Spells.{Marked, tokens_of, Spells, by_token, by_opener, by_both, by_first, by_second, by_none, by_more, by_absence, by_presence, by_level, by_rule, by_no_more, by_each, by_nothing, by_something, by_quoted, by_unquoted}

-- a sum over a list
abbrev summed : {A : Type 0} → (A → ℕ) → List A → ℕ
summed f [] = 0
summed f (x ∷ xs) = f x + summed f xs

abbrev statement_nodes : WrittenStatement → ℕ
statement_nodes s = binder_nodes s.binder + written_nodes s.value

abbrev row_nodes : WrittenRow → ℕ
row_nodes r = pattern_nodes r.pattern + written_nodes r.body

-- the nodes of what a text of a nonterminal means
abbrev nodes_meant : (x : Nonterminal) → Meant x → ℕ
nodes_meant program declarations = summed nodes_in declarations
nodes_meant decl d = nodes_in d
nodes_meant con c = 0
nodes_meant param p = 0
nodes_meant effect es = 0
nodes_meant eff e = 0
nodes_meant type t = 0
nodes_meant result_type t = 0
nodes_meant expr t = written_nodes t
nodes_meant block t = written_nodes t
nodes_meant stmt s = statement_nodes s
nodes_meant if_ t = written_nodes t
nodes_meant match_ t = written_nodes t
nodes_meant row r = row_nodes r
nodes_meant pat p = pattern_nodes p
nodes_meant or t = written_nodes t
nodes_meant and t = written_nodes t
nodes_meant cmp t = written_nodes t
nodes_meant add t = written_nodes t
nodes_meant mul t = written_nodes t
nodes_meant un t = written_nodes t
nodes_meant post t = written_nodes t
nodes_meant atom t = written_nodes t
nodes_meant say t = written_nodes t
nodes_meant args es = summed written_nodes es

-- twice the tokens of a phrase, those of a nonterminal counted by its nodes
abbrev size : (p : Phrase) → PhraseValue p → ℕ
size (token k) v = 2
size (opener k) v = 2
size (a ▸ b) v = size a v.0 + size b v.1
size (either a b) (inl v) = size a v
size (either a b) (inr v) = size b v
size (many a) vs = summed (size a) vs
size (optional a) None = 0
size (optional a) (Some v) = size a v
size (level a) v = size a v
size (rule x) v = nodes_meant x v
size (each k a) vs = summed (λ v. 2 + size a v) vs
size (perhaps k a) None = 0
size (perhaps k a) (Some v) = 2 + size a v
size (quoted_or a) (inl v) = 4
size (quoted_or a) (inr v) = size a v

comparison_size : (a : PhraseValue comparison) → size comparison a ≡ 2
comparison_size (inl a) = refl
comparison_size (inr (inl a)) = refl
comparison_size (inr (inr (inl a))) = refl
comparison_size (inr (inr (inr (inl a)))) = refl
comparison_size (inr (inr (inr (inr (inl a))))) = refl
comparison_size (inr (inr (inr (inr (inr a))))) = refl

sum_size : (a : PhraseValue sum_operator) → size sum_operator a ≡ 2
sum_size (inl a) = refl
sum_size (inr a) = refl

product_size : (a : PhraseValue product_operator) → size product_operator a ≡ 2
product_size (inl a) = refl
product_size (inr (inl a)) = refl
product_size (inr (inr a)) = refl

unary_size : (a : PhraseValue unary_operator) → size unary_operator a ≡ 2
unary_size (inl a) = refl
unary_size (inr a) = refl

binder_size : (b : PhraseValue binder) → size binder b ≡ 2
binder_size (inl a) = refl
binder_size (inr a) = refl

binder_few : (b : PhraseValue binder) → binder_nodes (binder_of b) ≤ 2
binder_few (inl a) = omega arith
binder_few (inr a) = omega arith

-- operators to the left
sums_few : (left : Written) (more : List (PhraseValue (sum_operator ▸ rule mul))) → written_nodes (to_left sum_operator_of left more) ≤ written_nodes left + size (many (sum_operator ▸ rule mul)) more
sums_few left [] = omega arith
sums_few left ((a, right) ∷ more) = omega (arith, sums_few (binary (sum_operator_of a) left right) more, sum_size a)

products_few : (left : Written) (more : List (PhraseValue (product_operator ▸ rule un))) → written_nodes (to_left product_operator_of left more) ≤ written_nodes left + size (many (product_operator ▸ rule un)) more
products_few left [] = omega arith
products_few left ((a, right) ∷ more) = omega (arith, products_few (binary (product_operator_of a) left right) more, product_size a)

-- lists
writtens_few : (es : List Written) → writtens_nodes (writtens_of es) ≡ summed written_nodes es
writtens_few [] = refl
writtens_few (e ∷ es) = omega (arith, writtens_few es)

behind_few : {A : Type 0} (f : A → ℕ) (more : List (Unit {0} × A)) → summed f (map (λ m. m.1) more) ≤ summed (λ m. 2 + f m.1) more
behind_few f [] = omega arith
behind_few f (m ∷ more) = omega (arith, behind_few f more)

listed_few : (es : PhraseValue (listed (rule expr))) → summed written_nodes (listed_of es) ≤ size (listed (rule expr)) es
listed_few None = omega arith
listed_few (Some (first, more)) = omega (arith, behind_few written_nodes more)

declarations_few : (more : PhraseValue (many (some_semicolons ▸ rule decl))) → summed nodes_in (map (λ m. m.1) more) ≤ size (many (some_semicolons ▸ rule decl)) more
declarations_few [] = omega arith
declarations_few (m ∷ more) = omega (arith, declarations_few more)

block_few : (ss : PhraseValue (many (rule stmt ▸ some_semicolons))) (last : Written) → written_nodes (block_of (map (λ s. s.0) ss) last) ≤ size (many (rule stmt ▸ some_semicolons)) ss + written_nodes last
block_few [] last = omega arith
block_few (s ∷ ss) last = omega (arith, block_few ss last)

function_nodes : (head : PhraseValue (either (token (name_in (word main_name ∷ [])) ▸ parameters ▸ optional result) (token name_but_main ▸ parameters ▸ result))) (body : Written) → nodes_in (function_of head body) ≡ written_nodes body
function_nodes (inl (_, ((_, (given, _)), None))) body = refl
function_nodes (inl (_, ((_, (given, _)), Some r))) body = refl
function_nodes (inr (_, ((_, (given, _)), r))) body = refl

-- rows, and the patterns of a constructor's fields
rows_few : (rs : List WrittenRow) → rows_nodes (rows_of rs) ≡ summed row_nodes rs
rows_few [] = refl
rows_few (r ∷ rs) = omega (arith, rows_few rs)

rows_behind : (more : PhraseValue (many (some_semicolons ▸ rule row))) → summed row_nodes (map (λ m. m.1) more) ≤ size (many (some_semicolons ▸ rule row)) more
rows_behind [] = omega arith
rows_behind (m ∷ more) = omega (arith, rows_behind more)

patterns_few : (ps : List WrittenPattern) → patterns_nodes (patterns_of ps) ≡ summed pattern_nodes ps
patterns_few [] = refl
patterns_few (p ∷ ps) = omega (arith, patterns_few ps)

parts_few : (given : PhraseValue parts) → patterns_nodes (patterns_of (parts_of given)) ≤ size parts given
parts_few None = omega arith
parts_few (Some (_, (None, _))) = omega arith
parts_few (Some (_, (Some (first, more), _))) = omega (arith, patterns_few (map (λ m. m.1) more), behind_few pattern_nodes more)

-- names with arguments
arguments_few : (others : PhraseValue (optional (bracketed (rule args)))) → writtens_nodes (writtens_of (arguments_of others)) ≤ size (optional (bracketed (rule args))) others
arguments_few None = omega arith
arguments_few (Some (_, (es, _))) = omega (arith, writtens_few es)

named_few : (name : _) (others : PhraseValue (optional (bracketed (rule args)))) → written_nodes (named_of name others) ≤ 1 + size (optional (bracketed (rule args))) others
named_few name None = omega arith
named_few name (Some (_, (es, _))) = omega (arith, writtens_few es)

abbrev dots : Phrase
dots = many (opener (symbol Dot) ▸ token name ▸ optional (bracketed (rule args)))

dotted_few : (first : Written) (more : PhraseValue dots) → written_nodes (dotted first more) ≤ written_nodes first + size dots more
dotted_few first [] = omega arith
dotted_few first ((_, (name, others)) ∷ more) = omega (arith, dotted_few (dot_call first name (writtens_of (arguments_of others))) more, arguments_few others)

abbrev elifs : Phrase
elifs = each (keyword Elif) (rule or ▸ token (keyword Then) ▸ rule expr)

if_few : (condition positive : Written) (more : PhraseValue elifs) (last : Option Written) → written_nodes (if_of condition positive more last) ≤ written_nodes condition + written_nodes positive + size elifs more + size (perhaps (keyword Else) (rule expr)) last + 2
if_few condition positive [] None = omega arith
if_few condition positive [] (Some negative) = omega arith
if_few condition positive ((next, (_, second)) ∷ more) last = omega (arith, if_few next second more last)

meant_few : (x : Nonterminal) (v : PhraseValue (production x)) → nodes_meant x (meaning x v) ≤ size (production x) v
meant_few program (_, None) = omega arith
meant_few program (_, Some (first, (more, _))) = omega (arith, declarations_few more)
meant_few decl (inl (_, (name, (given, (_, (_, (first, (more, _)))))))) = omega arith
meant_few decl (inr (_, (head, body))) = omega (arith, function_nodes head body)
meant_few con v = omega arith
meant_few param v = omega arith
meant_few effect v = omega arith
meant_few eff v = omega arith
meant_few type v = omega arith
meant_few result_type v = omega arith
meant_few expr (inl t) = omega arith
meant_few expr (inr (inl t)) = omega arith
meant_few expr (inr (inr (inl t))) = omega arith
meant_few expr (inr (inr (inr t))) = omega arith
meant_few block (_, (_, (ss, (last, _)))) = omega (arith, block_few ss last)
meant_few stmt (inl (_, (binder, (_, value)))) = omega (arith, binder_few binder)
meant_few stmt (inr value) = omega arith
meant_few if_ (_, (condition, (_, (positive, (more, last))))) = omega (arith, if_few condition positive more last)
meant_few match_ (_, (scrutinee, (_, (_, (first, (more, _)))))) = omega (arith, rows_few (map (λ m. m.1) more), rows_behind more)
meant_few row (pattern, (_, body)) = omega arith
meant_few pat (inl _) = omega arith
meant_few pat (inr (inl name)) = omega arith
meant_few pat (inr (inr (inl value))) = omega arith
meant_few pat (inr (inr (inr (inl (name, given))))) = omega (arith, parts_few given)
meant_few pat (inr (inr (inr (inr (_, (pattern, _)))))) = omega arith
meant_few or (left, None) = omega arith
meant_few or (left, Some (_, right)) = omega arith
meant_few and (left, None) = omega arith
meant_few and (left, Some (_, right)) = omega arith
meant_few cmp (left, None) = omega arith
meant_few cmp (left, Some (operator, right)) = omega (arith, comparison_size operator)
meant_few add (left, more) = sums_few left more
meant_few mul (left, more) = products_few left more
meant_few un (inl (operator, operand)) = omega (arith, unary_size operator)
meant_few un (inr t) = omega arith
meant_few post (first, more) = dotted_few first more
meant_few atom (inl (name, arguments)) = omega (arith, named_few name arguments)
meant_few atom (inr (inl (name, arguments))) = omega (arith, arguments_few arguments)
meant_few atom (inr (inr (inl value))) = omega arith
meant_few atom (inr (inr (inr (inl _)))) = omega arith
meant_few atom (inr (inr (inr (inr (inl (_, (t, _))))))) = omega arith
meant_few atom (inr (inr (inr (inr (inr t))))) = omega arith
meant_few say (inl (form, (_, (text, _)))) = omega arith
meant_few say (inr (text, (_, (form, _)))) = omega arith
meant_few args es = listed_few es

spelled_few : {p : Phrase} {n m : ℕ} {v : PhraseValue p} {ts us : List Marked} → Spells program_grammar p n v m ts us → size p v + 2 * length us ≤ 2 * length ts
spelled_few (by_token h) = omega arith
spelled_few (by_opener h) = omega arith
spelled_few (by_both r s) = omega (arith, spelled_few r, spelled_few s)
spelled_few (by_first r) = spelled_few r
spelled_few (by_second r) = spelled_few r
spelled_few by_none = omega arith
spelled_few (by_more r s) = omega (arith, spelled_few r, spelled_few s)
spelled_few by_absence = omega arith
spelled_few (by_presence r) = spelled_few r
spelled_few (by_level r) = spelled_few r
spelled_few (by_rule {x = x} {v = v} r) = omega (arith, spelled_few r, meant_few x v)
spelled_few (by_no_more h) = omega arith
spelled_few (by_each h r s) = omega (arith, spelled_few r, spelled_few s)
spelled_few (by_nothing h) = omega arith
spelled_few (by_something h r) = omega (arith, spelled_few r)
spelled_few (by_quoted r) = omega (arith, spelled_few r)
spelled_few (by_unquoted r) = spelled_few r

each_few : (ds : List WrittenDeclaration) (n : ℕ) → summed nodes_in ds ≤ n → All (λ d. nodes_in d ≤ n) ds
each_few [] n h = All-nil (λ d. nodes_in d ≤ n)
each_few (d ∷ ds) n h = All-cons (λ e. nodes_in e ≤ n) d ds (omega arith) (each_few ds n (omega arith))

pub tokens_of-length : (ts : List Marked) → length (tokens_of ts) ≡ length ts
tokens_of-length [] = refl
tokens_of-length (t ∷ ts) = omega (arith, tokens_of-length ts)

pub few_nodes : {tokens : List LocatedToken} {declarations : List WrittenDeclaration} → HasTree tokens declarations → All (λ d. nodes_in d ≤ 2 * length tokens) declarations
few_nodes {tokens} {declarations} h = each_few declarations (2 * length tokens) (omega (arith, spelled_few h.program.1, tokens_of-length h.marked, ap length h.tokens_are))
