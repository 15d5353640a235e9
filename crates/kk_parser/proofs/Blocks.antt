-- The statements of a block, as they are read one by one.
use Rattle.std.proofs.Common.{◌≡◌, true, false, List, [], ◌∷◌, ◌++◌, map, Some, None, Result, Ok, Err, refl, ap, sym, ◌∙◌, subst, append_assoc}
use Rattle.std.proofs.lemmas.List.{append-nil, map-append}
use Rattle.std.specs.Global.{Box}
use Rattle.kk_syntax.specs.declared.token.Symbol.TheVariants.{OpenBrace, CloseBrace, Semicolon}
use Rattle.kk_syntax.specs.declared.tree.SurfaceBinder.{SurfaceBinder}
use Rattle.kk_syntax.specs.declared.tree.SurfaceBinder.TheVariants.{Nothing}
use Rattle.kk_syntax.specs.declared.tree.SurfaceExpr.{SurfaceExpr}
use Rattle.kk_syntax.specs.declared.tree.SurfaceStatement.{SurfaceStatement}
use Rattle.kk_syntax.specs.Surface.{Written, WrittenStatement, written_expr, written_statement, block_of, sequence}
use Rattle.kk_parser.specs.declared.fault.Fault.{Fault}
use Rattle.kk_parser.specs.declared.parser.Parser.{Parser}
use Rattle.kk_parser.specs.Classes.{is_at}
use Rattle.kk_parser.specs.Forms.{form_meaning, items, and_more, binding, binding_of, bindings_of, block_from, as_statement, those_given}
use Rattle.kk_parser.specs.Grammar.{semicolons, some_semicolons}
use Rattle.kk_parser.specs.Kinds.{symbol}
use Rattle.kk_parser.specs.Methods.{Read, ReadsPhrase, ReadsItems}
use Rattle.kk_parser.specs.Phrases.{Phrase, PhraseValue, token, opener, optional, rule, ◌▸◌, block, expr}
use Rattle.kk_parser.specs.Reading.{first, finds_rule, finds_both, finds_none, finds_absence, finds_presence, fails_rule, fails_behind}
use Rattle.kk_parser.specs.Views.{binding_view, boxed_expr}
use Rattle.kk_parser.proofs.Steps.{Continues, continues_as, continues_many_before, passed_on}
use Rattle.kk_parser.proofs.Trees.{written-statement}

-- a block whose first statements and the value behind them were read, with the items that come behind it
abbrev pub block_behind : List WrittenStatement → Written → List (PhraseValue items) → Written
block_behind before value [] = block_of before value
block_behind before value (next ∷ more) = block_of (before ++ as_statement value ∷ []) (block_from next more)

block_from-behind : (v : PhraseValue items) (more : List (PhraseValue items)) → block_from v more ≡ block_behind (bindings_of v.0) v.1 more
block_from-behind v [] = refl
block_from-behind v (next ∷ more) = refl

pub block_of-append : (ss ts : List WrittenStatement) (last : Written) → block_of (ss ++ ts) last ≡ block_of ss (block_of ts last)
block_of-append [] ts last = refl
block_of-append (s ∷ ss) ts last = ap (sequence s.binder s.value) (block_of-append ss ts last)

block_behind-append : (ss ts : List WrittenStatement) (value : Written) (more : List (PhraseValue items)) → block_of ss (block_behind ts value more) ≡ block_behind (ss ++ ts) value more
block_behind-append ss ts value [] = sym (block_of-append ss ts value)
block_behind-append ss ts value (next ∷ more) = sym (block_of-append ss (ts ++ as_statement value ∷ []) (block_from next more)) ∙ ap (λ us. block_of us (block_from next more)) (sym (append_assoc ss ts (as_statement value ∷ [])))

-- what stands in a block behind its first items
abbrev pub block_end : Phrase
block_end = and_more items ▸ token (symbol CloseBrace)

abbrev pub block_says : List WrittenStatement → Written → PhraseValue block_end → Written
block_says before value w = block_behind before value (those_given w.0)

block-means : (semis : PhraseValue semicolons) (v : PhraseValue items) (w : PhraseValue block_end) → form_meaning block (tt, (semis, (v, w))) ≡ block_from v (those_given w.0)
block-means semis v (more, end) = refl

-- the first items of a block were read
pub block_begins : (semis : PhraseValue semicolons) (v : PhraseValue items) (statements : List WrittenStatement) (value : Written) (start a b here : Parser) → Read (opener (symbol OpenBrace)) tt start a → Read semicolons semis a b → Read items v b here → statements ≡ bindings_of v.0 → v.1 ≡ value → Continues (rule block) block_end (block_says statements value) start here
block_begins semis v statements value start a b here r s t e d =
    continues_as (rule block) block_end (λ w. form_meaning block (tt, (semis, (v, w)))) (block_says statements value) start here
    (λ w. block-means semis v w ∙ block_from-behind v (those_given w.0) ∙ ap (λ ss. block_behind ss v.1 (those_given w.0)) (sym e) ∙ ap (λ x. block_behind statements x (those_given w.0)) d)
    (record {
      found = λ w m us u. finds_rule (finds_both r (finds_both s (finds_both t u)));
      failed = λ f u. fails_rule (fails_behind r (fails_behind s (fails_behind t u)));
    })

-- a semicolon was read, and more items
pub block_goes_on : (before after : List WrittenStatement) (value next_value : Written) (v : PhraseValue items) (start here mid next : Parser) → Continues (rule block) block_end (block_says before value) start here → is_at (first (token (symbol Semicolon))) here.rest.now ≡ true → Read (token (symbol Semicolon)) tt here mid → is_at (first items) mid.rest.now ≡ true → Read items v mid next → after ≡ (before ++ as_statement value ∷ []) ++ bindings_of v.0 → v.1 ≡ next_value → Continues (rule block) block_end (block_says after next_value) start next
block_goes_on before after value next_value v start here mid next c h s i r e d =
    let front = before ++ as_statement value ∷ [] in
    continues_as (rule block) block_end (λ w. block_behind before value (v ∷ those_given w.0)) (block_says after next_value) start next
    (λ w. ap (block_of front) (block_from-behind v (those_given w.0)) ∙ block_behind-append front (bindings_of v.0) v.1 (those_given w.0)
    ∙ ap (λ ss. block_behind ss v.1 (those_given w.0)) (sym e) ∙ ap (λ x. block_behind after x (those_given w.0)) d)
    (continues_many_before (rule block) (token (symbol Semicolon) ▸ optional items) (token (symbol CloseBrace)) (block_says before value) (tt, Some v) start here next c h (finds_both s (finds_presence i r)))

-- a semicolon was read, and no items
pub block_passes : (before : List WrittenStatement) (value : Written) (start here next : Parser) → Continues (rule block) block_end (block_says before value) start here → is_at (first (token (symbol Semicolon))) here.rest.now ≡ true → Read (token (symbol Semicolon)) tt here next → is_at (first items) next.rest.now ≡ false → Continues (rule block) block_end (block_says before value) start next
block_passes before value start here next c h s i =
    continues_many_before (rule block) (token (symbol Semicolon) ▸ optional items) (token (symbol CloseBrace)) (block_says before value) (tt, None) start here next c h (finds_both s (finds_absence i))

-- a value was put behind statements as one of them
pub stated : (before after : List SurfaceStatement) (value : Box SurfaceExpr) (inner : SurfaceExpr) → inner ≡ value.value → after ≡ before ++ record { binder = Nothing; value = inner } ∷ [] → map written_statement after ≡ map written_statement before ++ as_statement (boxed_expr value) ∷ []
stated before after value inner i is =
    ap (map written_statement) is ∙ map-append written_statement before (record { binder = Nothing; value = inner } ∷ [])
    ∙ ap (λ s. map written_statement before ++ s ∷ []) (written-statement (record { binder = Nothing; value = inner }) ∙ ap (λ e. as_statement (written_expr e)) i)

-- a statement was read and put behind others
bindings_of-append : (vs ws : List (PhraseValue (binding ▸ some_semicolons))) → bindings_of (vs ++ ws) ≡ bindings_of vs ++ bindings_of ws
bindings_of-append [] ws = refl
bindings_of-append ((statement, end) ∷ vs) ws = ap (λ ss. binding_of statement ∷ ss) (bindings_of-append vs ws)

-- a statement is its binder and its value
made_statement : (binder : SurfaceBinder) (value : Box SurfaceExpr) (inner : SurfaceExpr) → inner ≡ value.value → written_statement (record { binder = binder; value = inner }) ≡ binding_view (binder, value)
made_statement binder value inner i = written-statement (record { binder = binder; value = inner }) ∙ ap (λ e. record { binder = binder; value = written_expr e }) i

pub bound : (start : List WrittenStatement) (before after : List SurfaceStatement) (binder : SurfaceBinder) (value : Box SurfaceExpr) (inner : SurfaceExpr) (front : List (PhraseValue (binding ▸ some_semicolons))) (v : PhraseValue binding) (end : PhraseValue some_semicolons) → map written_statement before ≡ start ++ bindings_of front → inner ≡ value.value → after ≡ before ++ record { binder = binder; value = inner } ∷ [] → binding_of v ≡ binding_view (binder, value) → map written_statement after ≡ start ++ bindings_of (front ++ (v, end) ∷ [])
bound start before after binder value inner front v end h i is e =
    let s = written_statement (record { binder = binder; value = inner }) in
    ap (map written_statement) is ∙ map-append written_statement before (record { binder = binder; value = inner } ∷ []) ∙ ap (λ ss. ss ++ s ∷ []) h ∙ append_assoc start (bindings_of front) (s ∷ [])
    ∙ ap (λ ss. start ++ ss) (ap (λ t. bindings_of front ++ t ∷ []) (made_statement binder value inner i ∙ sym e) ∙ sym (bindings_of-append front ((v, end) ∷ [])))

pub items_go_on : (front : List (PhraseValue (binding ▸ some_semicolons))) (u : PhraseValue (binding ▸ some_semicolons)) (start here next : Parser) → Continues items items (λ v. (front ++ v.0, v.1)) start here → is_at (first (binding ▸ some_semicolons)) here.rest.now ≡ true → Read (binding ▸ some_semicolons) u here next → Continues items items (λ v. ((front ++ u ∷ []) ++ v.0, v.1)) start next
items_go_on front u start here next c h r =
    continues_as items items (λ v. (front ++ (u ∷ v.0), v.1)) (λ v. ((front ++ u ∷ []) ++ v.0, v.1)) start next (λ v. ap (λ w. (w, v.1)) (sym (append_assoc front (u ∷ []) v.0)))
    (continues_many_before items (binding ▸ some_semicolons) (rule expr) (λ v. (front ++ v.0, v.1)) u start here next c h r)

-- the last of some items was read, or failed
pub items_end : (before after : List WrittenStatement) (front : List (PhraseValue (binding ▸ some_semicolons))) (r : Result (Box SurfaceExpr) Fault) (start here next : Parser) → after ≡ before ++ bindings_of front → Continues items items (λ v. (front ++ v.0, v.1)) start here → is_at (first (binding ▸ some_semicolons)) here.rest.now ≡ false → ReadsPhrase (rule expr) boxed_expr r here next → ReadsItems before after r start next
items_end before after front (Ok x) start here next e c h r = (
  (front, boxed_expr x),
  e,
  refl,
  subst (λ w. Read items (w, boxed_expr x) start next) (append-nil front) (c.found ([], boxed_expr x) next.depth next.rest.now (finds_both (finds_none h) r)),
)
items_end before after front (Err y) start here next e c h r = passed_on items (rule expr) start here next (λ f s. c.failed f (fails_behind (finds_none h) s)) y r
