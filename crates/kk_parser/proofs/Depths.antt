-- A program's trees are as shallow as the levels make them that its text opens.
use Rattle.std.proofs.Common.{◌≡◌, ℕ, zero, suc, ◌+◌, ◌*◌, ◌-◌, ◌≤◌, max, List, [], ◌∷◌, map, Option, Some, None, inl, inr, refl, sym, ◌∙◌, subst, arith}
use Rattle.std.specs.Prelude.{All}
use Rattle.std.proofs.lemmas.List.Elements.{All-nil, All-cons}
use Rattle.kk_syntax.specs.declared.tree.Identifier.{Identifier}
use Rattle.kk_syntax.specs.declared.token.Keyword.TheVariants.{Then, Elif, Else}
use Rattle.kk_syntax.specs.declared.token.Symbol.TheVariants.{Comma, Dot}
use Rattle.kk_syntax.specs.Surface.{Written, sequence, binary, dot_call, construct, writtens_of, block_of, WrittenDeclaration, WrittenParameter, patterns_of, rows_of, types_of}
use Rattle.kk_parser.specs.Classes.{word, main as main_name}
use Rattle.kk_parser.specs.Depths.{type_depth, types_depth, pattern_depth, patterns_depth, with_rest, written_depth, writtens_depth, rows_depth, IsShallow}
use Rattle.kk_parser.specs.Kinds.{keyword, symbol, name, name_in, name_but_main}
use Rattle.kk_parser.specs.Phrases.{Nonterminal, program, decl, con, param, effect, eff, type, result_type, expr, block, stmt, if_, match_, row, pat, or, and, cmp, add, mul, un, post, atom, say, args, Meant, Phrase, token, opener, ◌▸◌, either, many, optional, level, rule, each, perhaps, quoted_or, PhraseValue}
use Rattle.kk_parser.specs.Grammar.{semicolons, some_semicolons, bracketed, no_arguments, parameters, fields, fields_of, result, type_of, type_arguments, type_arguments_of, bracketed_type, comparison, sum_operator, product_operator, unary_operator, sum_operator_of, product_operator_of, to_left, listed, listed_of, arguments_of, named_of, dotted, if_of, binder, function_of, parts, parts_of, production, meaning, program_grammar}
use Rattle.kk_parser.specs.Parses.{AtMost, SpellsProgram}
use Rattle.kk_parser.specs.Spells.{Marked, Spells, by_token, by_opener, by_both, by_first, by_second, by_none, by_more, by_absence, by_presence, by_level, by_rule, by_no_more, by_each, by_nothing, by_something, by_quoted, by_unquoted}

-- the depth that an expression has at most where so many more levels may be opened
abbrev deepest : ℕ → ℕ
deepest zero = 1
deepest (suc more) = deepest more + suc more

deepest_some : (a : ℕ) → a + 1 ≤ deepest a
deepest_some zero = omega arith
deepest_some (suc a) = omega (arith, deepest_some a)

deepest_up : (a b : ℕ) → a ≤ b → deepest a ≤ deepest b
deepest_up zero b h = omega (arith, deepest_some b)
deepest_up (suc a) zero h = absurd (omega arith)
deepest_up (suc a) (suc b) h = omega (arith, deepest_up a b (omega arith))

stepped : (a b : ℕ) → b ≡ a - 1 → deepest b + a ≤ deepest a
stepped zero b e =
    let none : b ≡ 0 = omega arith in
    subst (λ x. deepest x + 0 ≤ 1) (sym none) (omega arith)
stepped (suc a) b e =
    let one : b ≡ a = omega arith in
    subst (λ x. deepest x + suc a ≤ deepest a + suc a) (sym one) (omega arith)

twice : (a : ℕ) → 2 * deepest a ≡ suc a * a + 2
twice zero = omega arith
twice (suc a) = omega (arith, twice a)

-- the same where n levels are open
room : ℕ → ℕ → ℕ
room limit n = deepest (limit - n)

room_falls : (limit a b : ℕ) → a ≤ b → room limit b ≤ room limit a
unfolding room
room_falls limit a b h = deepest_up (limit - b) (limit - a) (omega arith)

room_step : (limit n : ℕ) → n ≤ limit → room limit (n + 1) + limit ≤ room limit n + n
unfolding room
room_step limit n h = omega (arith, stepped (limit - n) (limit - (n + 1)) (omega arith))

room_some : (limit n : ℕ) → limit + 1 ≤ room limit n + n
unfolding room
room_some limit n = omega (arith, deepest_some (limit - n))

room_there : (limit n : ℕ) → 1 ≤ room limit n
unfolding room
room_there limit n = omega (arith, deepest_some (limit - n))

room_one : (limit depth : ℕ) → 1 ≤ limit → depth ≤ room limit 1 → 2 * depth ≤ limit * (limit - 1) + 2
unfolding room
room_one zero depth h below = absurd (omega arith)
room_one (suc limit) depth h below =
    let less : suc limit - 1 ≡ limit = omega arith in
    let most : depth ≤ deepest limit = subst (λ x. depth ≤ deepest x) less below in
    subst (λ x. 2 * depth ≤ suc limit * x + 2) (sym less) (omega (arith, twice limit))

-- an expression from n open levels to m
abbrev Deep : ℕ → ℕ → Written → ℕ → Type 0
Deep limit n t m = (written_depth t + n ≤ room limit (n + 1) + m) × (n ≤ m) × (m ≤ limit)

abbrev FieldsShallow : ℕ → List WrittenParameter → Type 0
FieldsShallow limit ps = All (λ p. type_depth p.of_type ≤ limit) ps

-- how deep it is what a text of a nonterminal means, from n open levels to m
abbrev Fits : ℕ → (x : Nonterminal) → ℕ → Meant x → ℕ → Type 0
Fits limit program n ds m = All (λ d. IsShallow limit d) ds
Fits limit decl n d m = IsShallow limit d
Fits limit con n c m = FieldsShallow limit c.fields
Fits limit param n p m = (type_depth p.of_type + n ≤ limit + 1) × (n ≡ m)
Fits limit effect n es m = n ≡ m
Fits limit eff n e m = n ≡ m
Fits limit type n t m = (type_depth t + n ≤ limit + 1) × (n ≡ m)
Fits limit result_type n t m = (type_depth t + n ≤ limit + 1) × (n ≡ m)
Fits limit expr n t m = (written_depth t ≤ room limit n) × (n ≡ m)
Fits limit block n t m = Deep limit n t m
Fits limit stmt n s m = (written_depth s.value ≤ room limit n) × (n ≡ m)
Fits limit if_ n t m = Deep limit n t m
Fits limit match_ n t m = Deep limit n t m
Fits limit row n r m = (pattern_depth r.pattern ≤ room limit n) × (written_depth r.body ≤ room limit n) × (n ≡ m)
Fits limit pat n p m = (pattern_depth p + n ≤ limit + 1) × (n ≡ m)
Fits limit or n t m = Deep limit n t m
Fits limit and n t m = Deep limit n t m
Fits limit cmp n t m = Deep limit n t m
Fits limit add n t m = Deep limit n t m
Fits limit mul n t m = Deep limit n t m
Fits limit un n t m = Deep limit n t m
Fits limit post n t m = Deep limit n t m
Fits limit atom n t m = Deep limit n t m
Fits limit say n t m = Deep limit n t m
Fits limit args n es m = (writtens_depth (writtens_of es) ≤ room limit n) × (n ≡ m)

-- values one behind another, each from the levels that the one before it leaves open
abbrev chained : {A : Type 0} → (ℕ → A → ℕ → Type 0) → ℕ → List A → ℕ → Type 0
chained one n [] m = n ≡ m
chained one n (v ∷ vs) m = (k : ℕ) × one n v k × chained one k vs m

-- what a phrase says, from n open levels to m, nonterminals as deep as they are
abbrev Within : ℕ → (p : Phrase) → ℕ → PhraseValue p → ℕ → Type 0
Within limit (token k) n v m = n ≡ m
Within limit (opener k) n v m = (n + 1 ≡ m) × (m ≤ limit)
Within limit (a ▸ b) n v m = (k : ℕ) × Within limit a n v.0 k × Within limit b k v.1 m
Within limit (either a b) n (inl v) m = Within limit a n v m
Within limit (either a b) n (inr v) m = Within limit b n v m
Within limit (many a) n vs m = chained (Within limit a) n vs m
Within limit (optional a) n None m = n ≡ m
Within limit (optional a) n (Some v) m = Within limit a n v m
Within limit (level a) n v m = (k : ℕ) × (n ≡ m) × (k ≤ limit) × Within limit a n v k
Within limit (rule x) n v m = Fits limit x n v m
Within limit (each k a) n vs m = chained (λ i v j. (i + 1 ≤ limit) × Within limit a (i + 1) v j) n vs m
Within limit (perhaps k a) n None m = n ≡ m
Within limit (perhaps k a) n (Some v) m = Within limit a n v m
Within limit (quoted_or a) n (inl v) m = n ≡ m
Within limit (quoted_or a) n (inr v) m = Within limit a n v m

-- tokens that open a level, and tokens that open none
comparison_opens : (limit n m : ℕ) (a : PhraseValue comparison) → Within limit comparison n a m → (n + 1 ≡ m) × (m ≤ limit)
comparison_opens limit n m (inl a) w = w
comparison_opens limit n m (inr (inl a)) w = w
comparison_opens limit n m (inr (inr (inl a))) w = w
comparison_opens limit n m (inr (inr (inr (inl a)))) w = w
comparison_opens limit n m (inr (inr (inr (inr (inl a))))) w = w
comparison_opens limit n m (inr (inr (inr (inr (inr a))))) w = w

sum_opens : (limit n m : ℕ) (a : PhraseValue sum_operator) → Within limit sum_operator n a m → (n + 1 ≡ m) × (m ≤ limit)
sum_opens limit n m (inl a) w = w
sum_opens limit n m (inr a) w = w

product_opens : (limit n m : ℕ) (a : PhraseValue product_operator) → Within limit product_operator n a m → (n + 1 ≡ m) × (m ≤ limit)
product_opens limit n m (inl a) w = w
product_opens limit n m (inr (inl a)) w = w
product_opens limit n m (inr (inr a)) w = w

unary_opens : (limit n m : ℕ) (a : PhraseValue unary_operator) → Within limit unary_operator n a m → (n + 1 ≡ m) × (m ≤ limit)
unary_opens limit n m (inl a) w = w
unary_opens limit n m (inr a) w = w

binder_level : (limit n m : ℕ) (b : PhraseValue binder) → Within limit binder n b m → n ≡ m
binder_level limit n m (inl a) w = w
binder_level limit n m (inr a) w = w

semicolons_level : (limit n m : ℕ) (ss : PhraseValue semicolons) → Within limit semicolons n ss m → n ≡ m
semicolons_level limit n m [] w = w
semicolons_level limit n m (s ∷ ss) (k, here, more) = here ∙ semicolons_level limit k m ss more

effects_level : (limit n m : ℕ) (es : PhraseValue (many (token (symbol Comma) ▸ rule eff))) → Within limit (many (token (symbol Comma) ▸ rule eff)) n es m → n ≡ m
effects_level limit n m [] w = w
effects_level limit n m (e ∷ es) (k, (j, comma, one), more) = comma ∙ one ∙ effects_level limit k m es more

-- expressions
leaf : (limit n m : ℕ) → n ≤ m → m ≤ limit → (1 + n ≤ room limit (n + 1) + m) × (n ≤ m) × (m ≤ limit)
leaf limit n m h most = (omega (arith, room_there limit (n + 1)), h, most)

operated : (limit n k i m : ℕ) (left right : Written) → Deep limit n left k → k + 1 ≤ i → Deep limit i right m → (max (written_depth left) (written_depth right) + 1 + n ≤ room limit (n + 1) + m) × (n ≤ m) × (m ≤ limit)
operated limit n k i m left right a h b = (omega (arith, room_falls limit (n + 1) (i + 1) (omega arith)), omega arith, omega arith)

sums_deep : (limit n k m : ℕ) (left : Written) (more : List (PhraseValue (sum_operator ▸ rule mul))) → Deep limit n left k → Within limit (many (sum_operator ▸ rule mul)) k more m → Deep limit n (to_left sum_operator_of left more) m
sums_deep limit n k m left [] h w = (omega (arith, h.0), omega (arith, h.1), omega (arith, h.2))
sums_deep limit n k m left ((a, right) ∷ more) h (j, (i, opened, w), others) =
    let next = sum_opens limit k i a opened in
    sums_deep limit n j m (binary (sum_operator_of a) left right) more (operated limit n k i j left right h (omega (arith, next.0)) w) others

products_deep : (limit n k m : ℕ) (left : Written) (more : List (PhraseValue (product_operator ▸ rule un))) → Deep limit n left k → Within limit (many (product_operator ▸ rule un)) k more m → Deep limit n (to_left product_operator_of left more) m
products_deep limit n k m left [] h w = (omega (arith, h.0), omega (arith, h.1), omega (arith, h.2))
products_deep limit n k m left ((a, right) ∷ more) h (j, (i, opened, w), others) =
    let next = product_opens limit k i a opened in
    products_deep limit n j m (binary (product_operator_of a) left right) more (operated limit n k i j left right h (omega (arith, next.0)) w) others

arguments_deep : (limit n m : ℕ) (others : PhraseValue (optional (bracketed (rule args)))) → n ≤ limit → Within limit (optional (bracketed (rule args))) n others m → (writtens_depth (writtens_of (arguments_of others)) + 1 + n ≤ room limit (n + 1) + m) × (n ≤ m) × (m ≤ limit)
arguments_deep limit n m None h w = leaf limit n m (omega arith) (omega arith)
arguments_deep limit n m (Some (_, (es, _))) h (k, opened, (j, w, closed)) =
    (omega (arith, opened.0, w.0, w.1, room_falls limit (n + 1) k (omega (arith, opened.0))), omega (arith, opened.0, w.1), omega (arith, opened.1, w.1))

named_deep : (limit n m : ℕ) (given : Identifier) (others : PhraseValue (optional (bracketed (rule args)))) → n ≤ limit → Within limit (optional (bracketed (rule args))) n others m → Deep limit n (named_of given others) m
named_deep limit n m given None h w = arguments_deep limit n m None h w
named_deep limit n m given (Some (_, (es, _))) h w = arguments_deep limit n m (Some (_, (es, _))) h w

abbrev dots : Phrase
dots = many (opener (symbol Dot) ▸ token name ▸ optional (bracketed (rule args)))

dot_deep : (limit n k i m : ℕ) (first : Written) (depth : ℕ) → Deep limit n first k → k + 1 ≤ i → (depth + 1 + i ≤ room limit (i + 1) + m) × (i ≤ m) × (m ≤ limit) → (max (written_depth first) depth + 1 + n ≤ room limit (n + 1) + m) × (n ≤ m) × (m ≤ limit)
dot_deep limit n k i m first depth a h b = (omega (arith, room_falls limit (n + 1) (i + 1) (omega arith)), omega arith, omega arith)

dotted_deep : (limit n k m : ℕ) (first : Written) (more : PhraseValue dots) → Deep limit n first k → Within limit dots k more m → Deep limit n (dotted first more) m
dotted_deep limit n k m first [] h w = (omega (arith, h.0), omega (arith, h.1), omega (arith, h.2))
dotted_deep limit n k m first ((_, (given, others)) ∷ more) h (j, (i, opened, (l, here, w)), rest) =
    let arguments = arguments_deep limit l j others (omega (arith, opened.0, opened.1)) w in
    dotted_deep limit n j m (dot_call first given (writtens_of (arguments_of others))) more (dot_deep limit n k l j first (writtens_depth (writtens_of (arguments_of others))) h (omega (arith, opened.0)) arguments) rest

abbrev elifs : Phrase
elifs = each (keyword Elif) (rule or ▸ token (keyword Then) ▸ rule expr)

if_deep : (limit n i k j m : ℕ) (condition positive : Written) (more : PhraseValue elifs) (last : Option Written) → n + 1 ≤ i → Deep limit i condition k → written_depth positive ≤ room limit k → Within limit elifs k more j → Within limit (perhaps (keyword Else) (rule expr)) j last m → Deep limit n (if_of condition positive more last) m
if_deep limit n i k j m condition positive [] None h a b w x =
    (omega (arith, a.0, a.1, room_falls limit (n + 1) (i + 1) (omega arith), room_falls limit (n + 1) k (omega (arith, a.1))), omega (arith, a.1), omega (arith, a.2))
if_deep limit n i k j m condition positive [] (Some negative) h a b w x =
    (omega (arith, a.0, a.1, x.0, x.1, room_falls limit (n + 1) (i + 1) (omega arith), room_falls limit (n + 1) k (omega (arith, a.1)), room_falls limit (n + 1) j (omega (arith, a.1))), omega (arith, a.1, x.1), omega (arith, a.2, x.1))
if_deep limit n i k j m condition positive ((next, (_, second)) ∷ more) last h a b (q, (within, (l, c, (g, here, d))), others) x =
    let rest = if_deep limit k (k + 1) q j m next second more last (omega arith) (omega (arith, c.0, here, d.1), omega (arith, c.1, here, d.1), omega (arith, c.2, here, d.1)) (subst (λ y. written_depth second ≤ room limit y) d.1 d.0) others x in
    (omega (arith, a.0, a.1, rest.0, rest.1, room_falls limit (n + 1) (i + 1) (omega arith), room_falls limit (n + 1) k (omega (arith, a.1)), room_falls limit (n + 1) (k + 1) (omega (arith, a.1))), omega (arith, a.1, rest.1), rest.2)

-- an expression that ends its levels
ended : (limit n k : ℕ) (t : Written) → Deep limit n t k → written_depth t ≤ room limit n
ended limit n k t h = omega (arith, h.0, h.1, h.2, room_step limit n (omega (arith, h.1, h.2)))

-- lists
args_deep : (limit n m : ℕ) (more : PhraseValue (many (token (symbol Comma) ▸ rule expr))) → Within limit (many (token (symbol Comma) ▸ rule expr)) n more m → (writtens_depth (writtens_of (map (λ m. m.1) more)) ≤ room limit n) × (n ≡ m)
args_deep limit n m [] w = (omega arith, w)
args_deep limit n m ((_, e) ∷ more) (k, (j, comma, one), others) =
    let rest = args_deep limit k m more others in
    (omega (arith, comma, one.0, one.1, rest.0, room_falls limit n j (omega (arith, comma)), room_falls limit n k (omega (arith, comma, one.1))), comma ∙ one.1 ∙ rest.1)

patterns_deep : (limit n m : ℕ) (more : PhraseValue (many (token (symbol Comma) ▸ rule pat))) → n ≤ limit → Within limit (many (token (symbol Comma) ▸ rule pat)) n more m → (patterns_depth (patterns_of (map (λ m. m.1) more)) + n ≤ limit + 1) × (n ≡ m)
patterns_deep limit n m [] h w = (omega arith, w)
patterns_deep limit n m ((_, p) ∷ more) h (k, (j, comma, one), others) =
    let rest = patterns_deep limit k m more (omega (arith, comma, one.1)) others in
    (omega (arith, comma, one.0, one.1, rest.0), comma ∙ one.1 ∙ rest.1)

types_deep : (limit n m : ℕ) (more : PhraseValue (many (token (symbol Comma) ▸ rule type))) → n ≤ limit → Within limit (many (token (symbol Comma) ▸ rule type)) n more m → types_depth (types_of (map (λ m. m.1) more)) + n ≤ limit + 1
types_deep limit n m [] h w = omega arith
types_deep limit n m ((_, t) ∷ more) h (k, (j, comma, one), others) =
    omega (arith, comma, one.0, one.1, types_deep limit k m more (omega (arith, comma, one.1)) others)

parts_deep : (limit n m : ℕ) (given : PhraseValue parts) → n ≤ limit → Within limit parts n given m → patterns_depth (patterns_of (parts_of given)) + n ≤ limit
parts_deep limit n m None h w = omega arith
parts_deep limit n m (Some (_, (None, _))) h w = omega arith
parts_deep limit n m (Some (_, (Some (first, more), _))) h (k, opened, (j, (i, one, others), closed)) =
    omega (arith, opened.0, opened.1, one.0, one.1, (patterns_deep limit i j more (omega (arith, opened.1, one.1)) others).0)

type_arguments_deep : (limit n m : ℕ) (given : PhraseValue (optional type_arguments)) → n ≤ limit → Within limit (optional type_arguments) n given m → types_depth (types_of (type_arguments_of given)) + n ≤ limit
type_arguments_deep limit n m None h w = omega arith
type_arguments_deep limit n m (Some (_, ((first, more), _))) h (k, opened, (j, (i, one, others), closed)) =
    omega (arith, opened.0, opened.1, one.0, one.1, types_deep limit i j more (omega (arith, opened.1, one.1)) others)

bracketed_deep : (limit n m : ℕ) (t : PhraseValue (either no_arguments (bracketed (rule type)))) → n ≤ limit → Within limit (either no_arguments (bracketed (rule type))) n t m → type_depth (bracketed_type t) + n ≤ limit + 1
bracketed_deep limit n m (inl _) h w = omega arith
bracketed_deep limit n m (inr (_, (t, _))) h (k, opened, (j, one, closed)) = omega (arith, opened.0, one.0)

rows_deep : (limit n m : ℕ) (more : PhraseValue (many (some_semicolons ▸ rule row))) → Within limit (many (some_semicolons ▸ rule row)) n more m → (rows_depth (rows_of (map (λ m. m.1) more)) ≤ room limit n) × (n ≡ m)
rows_deep limit n m [] w = (omega arith, w)
rows_deep limit n m (((_, ss), r) ∷ more) (k, (j, (i, first, semis), one), others) =
    let rest = rows_deep limit k m more others in
    let same : n ≡ j = first ∙ semicolons_level limit i j ss semis in
    (omega (arith, same, one.0, one.1, one.2, rest.0, room_falls limit n j (omega (arith, same)), room_falls limit n k (omega (arith, same, one.2))), same ∙ one.2 ∙ rest.1)

pub with_rest_least : (t : Written) (n : ℕ) → n ≤ with_rest t n
with_rest_least (sequence binder first rest) n = omega arith
with_rest_least _ n = omega arith

with_rest_most : (t : Written) (n : ℕ) → with_rest t n ≤ n + 1
with_rest_most (sequence binder first rest) n = omega arith
with_rest_most _ n = omega arith

block_deep : (limit n m : ℕ) (ss : PhraseValue (many (rule stmt ▸ some_semicolons))) (last : Written) → Within limit (many (rule stmt ▸ some_semicolons)) n ss m → written_depth last ≤ room limit m
    → (with_rest (block_of (map (λ s. s.0) ss) last) (written_depth (block_of (map (λ s. s.0) ss) last)) ≤ room limit n + 1) × (n ≡ m)
block_deep limit n m [] last w h = (omega (arith, h, with_rest_most last (written_depth last), room_falls limit n m (omega (arith, w))), w)
block_deep limit n m ((s, (_, semis)) ∷ more) last (k, (j, one, (i, first, others)), w) h =
    let rest = block_deep limit k m more last w h in
    let same : n ≡ k = one.1 ∙ first ∙ semicolons_level limit i k semis others in
    (omega (arith, same, one.0, rest.0, room_falls limit n k (omega (arith, same))), same ∙ rest.1)

-- declarations
fields_shallow : (limit n m : ℕ) (more : PhraseValue (many (token (symbol Comma) ▸ rule param))) → 1 ≤ n → Within limit (many (token (symbol Comma) ▸ rule param)) n more m → FieldsShallow limit (map (λ m. m.1) more)
fields_shallow limit n m [] h w = All-nil (λ p. type_depth p.of_type ≤ limit)
fields_shallow limit n m ((_, p) ∷ more) h (k, (j, comma, one), others) =
    All-cons (λ q. type_depth q.of_type ≤ limit) p (map (λ m. m.1) more) (omega (arith, comma, one.0)) (fields_shallow limit k m more (omega (arith, comma, one.1)) others)

listed_shallow : (limit n m : ℕ) (given : PhraseValue (listed (rule param))) → 1 ≤ n → Within limit (listed (rule param)) n given m → FieldsShallow limit (listed_of given) × (n ≤ m)
listed_shallow limit n m None h w = (All-nil (λ p. type_depth p.of_type ≤ limit), omega (arith, w))
listed_shallow limit n m (Some (first, more)) h (k, one, others) =
    (All-cons (λ q. type_depth q.of_type ≤ limit) first (map (λ m. m.1) more) (omega (arith, one.0)) (fields_shallow limit k m more (omega (arith, one.1)) others), omega (arith, one.1, listed_level k m more others))
  where
    listed_level : (n m : ℕ) (more : PhraseValue (many (token (symbol Comma) ▸ rule param))) → Within limit (many (token (symbol Comma) ▸ rule param)) n more m → n ≡ m
    listed_level n m [] w = w
    listed_level n m (p ∷ more) (k, (j, comma, one), others) = comma ∙ one.1 ∙ listed_level k m more others

con_shallow : (limit n m : ℕ) (given : PhraseValue fields) → Within limit fields n given m → FieldsShallow limit (fields_of given)
con_shallow limit n m None w = All-nil (λ p. type_depth p.of_type ≤ limit)
con_shallow limit n m (Some (_, ((first, more), _))) (k, opened, (j, w, closed)) =
    (listed_shallow limit k j (Some (first, more)) (omega (arith, opened.0)) w).0

cons_shallow : (limit n m : ℕ) (more : PhraseValue (many (some_semicolons ▸ rule con))) → Within limit (many (some_semicolons ▸ rule con)) n more m → All (λ c. FieldsShallow limit c.fields) (map (λ m. m.1) more)
cons_shallow limit n m [] w = All-nil (λ c. FieldsShallow limit c.fields)
cons_shallow limit n m ((_, c) ∷ more) (k, (j, semis, one), others) = All-cons (λ d. FieldsShallow limit d.fields) c (map (λ m. m.1) more) one (cons_shallow limit k m more others)

decls_shallow : (limit n m : ℕ) (more : PhraseValue (many (some_semicolons ▸ rule decl))) → Within limit (many (some_semicolons ▸ rule decl)) n more m → All (λ d. IsShallow limit d) (map (λ m. m.1) more)
decls_shallow limit n m [] w = All-nil (λ d. IsShallow limit d)
decls_shallow limit n m ((_, d) ∷ more) (k, (j, semis, one), others) = All-cons (λ e. IsShallow limit e) d (map (λ m. m.1) more) one (decls_shallow limit k m more others)

parameters_shallow : (limit n m : ℕ) (given : PhraseValue parameters) → Within limit parameters n given m → FieldsShallow limit (listed_of given.1.0) × (1 ≤ m)
parameters_shallow limit n m (_, (given, _)) (k, opened, (j, w, closed)) =
    let list = listed_shallow limit k j given (omega (arith, opened.0)) w in
    (list.0, omega (arith, opened.0, list.1, closed))

result_shallow : (limit n m : ℕ) (given : PhraseValue result) → 1 ≤ n → Within limit result n given m → (type_depth (type_of given.1) ≤ limit) × (1 ≤ m)
result_shallow limit n m (_, inl (es, t)) h (k, colon, (j, effects, one)) = (omega (arith, colon, effects, one.0), omega (arith, colon, effects, one.1))
result_shallow limit n m (_, inr t) h (k, colon, one) = (omega (arith, colon, one.0), omega (arith, colon, one.1))

abbrev heads : Phrase
heads = either (token (name_in (word main_name ∷ [])) ▸ parameters ▸ optional result) (token name_but_main ▸ parameters ▸ result)

body_shallow : (limit n : ℕ) (body : Written) → 1 ≤ n → n ≤ limit → written_depth body ≤ room limit n → 2 * written_depth body ≤ limit * (limit - 1) + 2
body_shallow limit n body some most h = room_one limit (written_depth body) (omega arith) (omega (arith, room_falls limit 1 n some))

function_shallow : (limit n m : ℕ) (head : PhraseValue heads) (body : Written) → m ≤ limit → Within limit heads n head m → written_depth body ≤ room limit m → IsShallow limit (function_of head body)
function_shallow limit n m (inl (given, (ps, None))) body most (k, named, (j, w, none)) h =
    let list = parameters_shallow limit k j ps w in
    (list.0, tt, body_shallow limit m body (omega (arith, list.1, none)) most h)
function_shallow limit n m (inl (given, (ps, Some r))) body most (k, named, (j, w, x)) h =
    let list = parameters_shallow limit k j ps w in
    let of = result_shallow limit j m r list.1 x in
    (list.0, of.0, body_shallow limit m body of.1 most h)
function_shallow limit n m (inr (given, (ps, r))) body most (k, named, (j, w, x)) h =
    let list = parameters_shallow limit k j ps w in
    let of = result_shallow limit j m r list.1 x in
    (list.0, of.0, body_shallow limit m body of.1 most h)

-- a text of a nonterminal
module _ (limit n m : ℕ) (up : n ≤ m) (most : m ≤ limit) where
  meant_deep : (x : Nonterminal) (v : PhraseValue (production x)) → Within limit (production x) n v m → Fits limit x n (meaning x v) m
  meant_deep program (_, None) w = All-nil (λ d. IsShallow limit d)
  meant_deep program (_, Some (first, (more, _))) (k, semis, (j, one, (i, others, closed))) = All-cons (λ d. IsShallow limit d) first (map (λ m. m.1) more) one (decls_shallow limit j i more others)
  meant_deep decl (inl (_, (given, (ps, (_, (_, (first, (more, _)))))))) (o, ends, below, (a, begun, (b, named, (c, types, (d, opened, (e, semis, (f, one, (g, others, closed)))))))) =
      All-cons (λ c. FieldsShallow limit c.fields) first (map (λ m. m.1) more) one (cons_shallow limit f g more others)
  meant_deep decl (inr (_, (head, body))) (o, ends, below, (k, begun, (j, w, one))) = function_shallow limit k j head body (omega (arith, one.1, below)) w one.0
  meant_deep con (given, fs) (o, ends, below, (k, named, w)) = con_shallow limit k o fs w
  meant_deep param (given, (_, t)) (k, named, (j, colon, one)) = (omega (arith, named, colon, one.0), named ∙ colon ∙ one.1)
  meant_deep effect (inl e) w = w
  meant_deep effect (inr (_, (None, _))) (k, less, (j, w, greater)) = less ∙ w ∙ greater
  meant_deep effect (inr (_, (Some (first, more), _))) (k, less, (j, (i, one, others), greater)) = less ∙ one ∙ effects_level limit i j more others ∙ greater
  meant_deep eff (inl _) w = w
  meant_deep eff (inr (inl _)) w = w
  meant_deep eff (inr (inr (inl _))) w = w
  meant_deep eff (inr (inr (inr _))) w = w
  meant_deep type (inl given) (o, ends, below, w) = (omega arith, ends)
  meant_deep type (inr (inl (given, others))) (o, ends, below, (k, named, w)) = (omega (arith, named, type_arguments_deep limit k o others (omega (arith, named)) w), ends)
  meant_deep type (inr (inr t)) (o, ends, below, w) = (bracketed_deep limit n o t (omega arith) w, ends)
  meant_deep result_type (inl given) (o, ends, below, w) = (omega arith, ends)
  meant_deep result_type (inr (inl (given, others))) (o, ends, below, (k, named, w)) = (omega (arith, named, type_arguments_deep limit k o others (omega (arith, named)) w), ends)
  meant_deep result_type (inr (inr t)) (o, ends, below, w) = (bracketed_deep limit n o t (omega arith) w, ends)
  meant_deep expr (inl t) (o, ends, below, w) = (ended limit n o t w, ends)
  meant_deep expr (inr (inl t)) (o, ends, below, w) = (ended limit n o t w, ends)
  meant_deep expr (inr (inr (inl t))) (o, ends, below, w) = (ended limit n o t w, ends)
  meant_deep expr (inr (inr (inr t))) (o, ends, below, w) = (ended limit n o t w, ends)
  meant_deep block (_, (before, (ss, (last, (behind, _))))) (a, opened, (b, semis, (c, w, (d, one, (e, ends, closed))))) =
      let same : a ≡ b = semicolons_level limit a b before semis in
      let list = block_deep limit b c ss last w one.0 in
      let whole = block_of (map (λ s. s.0) ss) last in
      (omega (arith, opened.0, same, list.0, with_rest_least whole (written_depth whole), list.1, one.1, semicolons_level limit d e behind ends, closed, room_falls limit (n + 1) b (omega (arith, opened.0, same))), up, most)
  meant_deep stmt (inl (_, (bound, (_, value)))) (a, begun, (b, w, (c, equals, one))) =
      let same : n ≡ c = begun ∙ binder_level limit a b bound w ∙ equals in
      (omega (arith, same, one.0, room_falls limit n c (omega (arith, same))), same ∙ one.1)
  meant_deep stmt (inr value) w = w
  meant_deep if_ (_, (condition, (_, (positive, (more, last))))) (a, opened, (b, c, (d, here, (e, p, (f, w, x))))) =
      if_deep limit n a e f m condition positive more last (omega (arith, opened.0)) (omega (arith, c.0, here, p.1), omega (arith, c.1, here, p.1), omega (arith, c.2, here, p.1)) (subst (λ y. written_depth positive ≤ room limit y) p.1 p.0) w x
  meant_deep match_ (_, (scrutinee, (_, (before, (first, (more, (behind, _))))))) (a, begun, (b, s, (c, opened, (d, semis, (e, one, (f, w, (g, ends, closed))))))) =
      let same : c ≡ d = semicolons_level limit c d before semis in
      let rest = rows_deep limit e f more w in
      (omega (arith, begun, s.0, s.1, opened.0, same, one.0, one.1, one.2, rest.0, rest.1, semicolons_level limit f g behind ends, closed, room_falls limit (n + 1) (a + 1) (omega (arith, begun)), room_falls limit (n + 1) d (omega (arith, begun, s.1, opened.0, same)), room_falls limit (n + 1) e (omega (arith, begun, s.1, opened.0, same, one.2))), up, most)
  meant_deep row (pattern, (_, body)) (a, p, (b, arrow, one)) =
      (omega (arith, p.0, room_some limit n), omega (arith, one.0, room_falls limit n b (omega (arith, p.1, arrow))), p.1 ∙ arrow ∙ one.1)
  meant_deep pat (inl _) (o, ends, below, w) = (omega arith, ends)
  meant_deep pat (inr (inl given)) (o, ends, below, w) = (omega arith, ends)
  meant_deep pat (inr (inr (inl value))) (o, ends, below, w) = (omega arith, ends)
  meant_deep pat (inr (inr (inr (inl (given, ps))))) (o, ends, below, (k, named, w)) = (omega (arith, named, parts_deep limit k o ps (omega (arith, named)) w), ends)
  meant_deep pat (inr (inr (inr (inr (_, (pattern, _)))))) (o, ends, below, (k, opened, (j, one, closed))) = (omega (arith, opened.0, one.0), ends)
  meant_deep or (left, None) (k, a, here) = (omega (arith, a.0, here), up, most)
  meant_deep or (left, Some (_, right)) (k, a, (j, opened, b)) = operated limit n k j m left right a (omega (arith, opened.0)) b
  meant_deep and (left, None) (k, a, here) = (omega (arith, a.0, here), up, most)
  meant_deep and (left, Some (_, right)) (k, a, (j, opened, b)) = operated limit n k j m left right a (omega (arith, opened.0)) b
  meant_deep cmp (left, None) (k, a, here) = (omega (arith, a.0, here), up, most)
  meant_deep cmp (left, Some (operator, right)) (k, a, (j, opened, b)) = operated limit n k j m left right a (omega (arith, (comparison_opens limit k j operator opened).0)) b
  meant_deep add (left, more) (k, a, w) = sums_deep limit n k m left more a w
  meant_deep mul (left, more) (k, a, w) = products_deep limit n k m left more a w
  meant_deep un (inl (operator, operand)) (k, opened, a) =
      let next = (unary_opens limit n k operator opened).0 in
      (omega (arith, next, a.0, room_falls limit (n + 1) (k + 1) (omega (arith, next))), up, most)
  meant_deep un (inr t) w = w
  meant_deep post (first, more) (k, a, w) = dotted_deep limit n k m first more a w
  meant_deep atom (inl (given, others)) (k, here, w) =
      subst (λ j. Deep limit j (named_of given others) m) (sym here) (named_deep limit k m given others (omega (arith, here)) w)
  meant_deep atom (inr (inl (given, others))) (k, here, w) =
      subst (λ j. Deep limit j (construct given (writtens_of (arguments_of others))) m) (sym here) (arguments_deep limit k m others (omega (arith, here)) w)
  meant_deep atom (inr (inr (inl value))) w = leaf limit n m up most
  meant_deep atom (inr (inr (inr (inl _)))) w = leaf limit n m up most
  meant_deep atom (inr (inr (inr (inr (inl (_, (t, _))))))) (k, opened, (j, one, closed)) =
      (omega (arith, opened.0, one.0, one.1, closed, room_falls limit (n + 1) k (omega (arith, opened.0))), up, most)
  meant_deep atom (inr (inr (inr (inr (inr t))))) w = w
  meant_deep say (inl (form, (_, (text, _)))) w = leaf limit n m up most
  meant_deep say (inr (text, (_, (form, _)))) w = leaf limit n m up most
  meant_deep args None w = (omega arith, w)
  meant_deep args (Some (first, more)) (k, one, others) =
      let rest = args_deep limit k m more others in
      (omega (arith, one.0, rest.0, room_falls limit n k (omega (arith, one.1))), one.1 ∙ rest.1)

-- what a phrase says that tokens spell, the tokens behind it, and the levels
record Spelled (limit : ℕ) (p : Phrase) (n : ℕ) (v : PhraseValue p) (m : ℕ) (us : List Marked) : Type 0 where
  says : Within limit p n v m
  behind : AtMost limit us
  up : n ≤ m
  most : m ≤ limit

spelled_deep : (limit : ℕ) {p : Phrase} {n m : ℕ} {v : PhraseValue p} {ts us : List Marked} → n ≤ limit → AtMost limit ts → Spells program_grammar p n v m ts us → Spelled limit p n v m us
spelled_deep limit h a (by_token q) = record { says = refl; behind = a.1; up = omega arith; most = h }
spelled_deep limit h a (by_opener q) = record { says = (refl, a.0); behind = a.1; up = omega arith; most = a.0 }
spelled_deep limit h a (by_both {k = k} r s) =
    let x = spelled_deep limit h a r in
    let y = spelled_deep limit x.most x.behind s in
    record { says = (k, x.says, y.says); behind = y.behind; up = omega (arith, x.up, y.up); most = y.most }
spelled_deep limit h a (by_first r) =
    let x = spelled_deep limit h a r in
    record { says = x.says; behind = x.behind; up = x.up; most = x.most }
spelled_deep limit h a (by_second r) =
    let x = spelled_deep limit h a r in
    record { says = x.says; behind = x.behind; up = x.up; most = x.most }
spelled_deep limit h a by_none = record { says = refl; behind = a; up = omega arith; most = h }
spelled_deep limit h a (by_more {k = k} r s) =
    let x = spelled_deep limit h a r in
    let y = spelled_deep limit x.most x.behind s in
    record { says = (k, x.says, y.says); behind = y.behind; up = omega (arith, x.up, y.up); most = y.most }
spelled_deep limit h a by_absence = record { says = refl; behind = a; up = omega arith; most = h }
spelled_deep limit h a (by_presence r) =
    let x = spelled_deep limit h a r in
    record { says = x.says; behind = x.behind; up = x.up; most = x.most }
spelled_deep limit h a (by_level {m = m} r) =
    let x = spelled_deep limit h a r in
    record { says = (m, refl, x.most, x.says); behind = x.behind; up = omega arith; most = h }
spelled_deep limit {n = n} {m = m} h a (by_rule {x = x} {v = v} r) =
    let y = spelled_deep limit h a r in
    record { says = meant_deep limit n m y.up y.most x v y.says; behind = y.behind; up = y.up; most = y.most }
spelled_deep limit h a (by_no_more q) = record { says = refl; behind = a; up = omega arith; most = h }
spelled_deep limit h a (by_each {k = k} q r s) =
    let x = spelled_deep limit a.0 a.1 r in
    let y = spelled_deep limit x.most x.behind s in
    record { says = (k, (a.0, x.says), y.says); behind = y.behind; up = omega (arith, x.up, y.up); most = y.most }
spelled_deep limit h a (by_nothing q) = record { says = refl; behind = a; up = omega arith; most = h }
spelled_deep limit h a (by_something q r) =
    let x = spelled_deep limit h a.1 r in
    record { says = x.says; behind = x.behind; up = x.up; most = x.most }
spelled_deep limit h a (by_quoted r) =
    let x = spelled_deep limit h a r in
    record { says = x.says.1 ∙ x.says.2; behind = x.behind; up = x.up; most = x.most }
spelled_deep limit h a (by_unquoted r) =
    let x = spelled_deep limit h a r in
    record { says = x.says; behind = x.behind; up = x.up; most = x.most }

-- the declarations of a program at whose tokens no more than `limit` levels are open
pub shallow : (limit : ℕ) {declarations : List WrittenDeclaration} {ts : List Marked} → SpellsProgram declarations ts → AtMost limit ts → All (λ d. IsShallow limit d) declarations
shallow limit h a = (spelled_deep limit (omega arith) a h.1).says
