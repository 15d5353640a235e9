-- Inductions over expressions, each stated once: what holds where an expression's parts end, and of two parts wherever it holds
-- of each, holds of the whole.
use Rattle.std.proofs.Common.{◌≡◌, ◌≤◌, ℕ, Bool, true, false, ◌+◌, List, [], ◌∷◌, ◌++◌, length, map, Some, refl, sym, subst, arith}
use Rattle.kk_syntax.proofs.Elements.{each_both, each_weaker}
use Rattle.kk_syntax.specs.Covered.{Each, IsCovered, asked_by}
use Rattle.kk_syntax.specs.declared.program.Binder.{Binder}
use Rattle.kk_syntax.specs.declared.program.Form.{Form}
use Rattle.kk_syntax.specs.GroundTyping.{Table, with_pattern, HasType, HaveTypes, AreRowsTyped}
use Rattle.kk_syntax.specs.OfType.{values_of}
use Rattle.kk_syntax.specs.OwnedPositions.{is_val, reuses, PlaceWalk, place_walked, place_walked_all, place_walked_rows}
use Rattle.kk_syntax.specs.Patterns.{Pattern}
use Rattle.kk_syntax.specs.Programs.{ProgramTree}
use Rattle.kk_syntax.specs.Shapes.{bound, free, free_all, free_rows, nodes_of, nodes_of_all, nodes_of_rows, nodes_of_pattern}
use Rattle.kk_syntax.specs.Shapes.{TailWalk, tail_walked, tail_walked_rows, Gathers, gathered, gathered_all, gathered_rows}
use Rattle.kk_syntax.specs.Shapes.{Replaces, replaced, replaced_all, replaced_rows}
use Rattle.kk_syntax.specs.Trees.{Tree, variable, apply, branch, match, sequence, Trees, no_tree, tree, Rows, no_row, row, RowTree, row_parts}
use Rattle.kk_syntax.specs.Types.{TypeTree, put, type_at}
use Rattle.kk_syntax.specs.Typing.{Scope, with_binder, Scheme, Choice, holding, form_scheme, chosen_at}
use Rattle.kk_syntax.specs.Typing.{IsPatternTyped, IsTypedBy, AreTypedBy, AreRowsTypedBy}

-- Two walks over the tail positions of an expression agree, where they agree at each such position, and at each binder and row
-- on the way.
module _ {Known Told A Other Heard B : Type 0} (first : TailWalk Known Told A) (second : TailWalk Other Heard B)
    (Agree : List A → List B → Type 0) (none : Agree [] [])
    (both : (xs ys : List A) (us vs : List B) → Agree xs us → Agree ys vs → Agree (xs ++ ys) (us ++ vs))
    (Same : Known → Other → Type 0) (at : (k : Known) (o : Other) → Same k o → (t : Tree) → Agree (first.at k t) (second.at o t))
    (binder : (k : Known) (o : Other) → Same k o → (b : Binder) → Agree (first.at_binder k b) (second.at_binder o b))
    (Alike : Known → Other → Told → Heard → Type 0)
    (told : (k : Known) (o : Other) → Same k o → (t : Tree) → Alike k o (first.told k t) (second.told o t))
    (at_row : (k : Known) (o : Other) → Same k o → (u : Told) (v : Heard) → Alike k o u v → (p : Pattern)
    → Agree (first.at_row k u p) (second.at_row o v p))
    (enter : (k : Known) (o : Other) → Same k o → (u : Told) (v : Heard) → Alike k o u v → (p : Pattern)
    → Same (first.enter k u p) (second.enter o v p)) where
  mutual
    pub tails_agree : (k : Known) (o : Other) → Same k o → (t : Tree) → Agree (tail_walked first k t) (tail_walked second o t)
    tails_agree k o same (variable of) = at k o same (variable of)
    tails_agree k o same (apply form es) = at k o same (apply form es)
    tails_agree k o same (branch e positive negative) =
        both (tail_walked first k positive) (tail_walked first k negative) (tail_walked second o positive)
        (tail_walked second o negative)
        (tails_agree k o same positive) (tails_agree k o same negative)
    tails_agree k o same (match e rows) = tail_rows_agree k o same (first.told k e) (second.told o e) (told k o same e) rows
    tails_agree k o same (sequence b e rest) =
        both (first.at_binder k b) (tail_walked first k rest) (second.at_binder o b) (tail_walked second o rest)
        (binder k o same b) (tails_agree k o same rest)

    tail_rows_agree : (k : Known) (o : Other) → Same k o → (u : Told) (v : Heard) → Alike k o u v → (rows : Rows)
        → Agree (tail_walked_rows first k u rows) (tail_walked_rows second o v rows)
    tail_rows_agree k o same u v alike no_row = none
    tail_rows_agree k o same u v alike (row (row_parts p body) rest) =
        let one = tail_walked first (first.enter k u p) body in
        let other = tail_walked second (second.enter o v p) body in
        both (first.at_row k u p ++ one) (tail_walked_rows first k u rest) (second.at_row o v p ++ other)
        (tail_walked_rows second o v rest)
        (both (first.at_row k u p) one (second.at_row o v p) other (at_row k o same u v alike p)
        (tails_agree (first.enter k u p) (second.enter o v p) (enter k o same u v alike p) body))
        (tail_rows_agree k o same u v alike rest)

-- The same of two walks, the second over the expression with other forms and patterns, where something holds of all that is known
-- for these.
module _ {Known Told A Other Heard B From : Type 0} (with : Replaces From) (Fits : From → Type 0)
    (behind : (from : From) → Fits from → (e : Tree) → Fits (with.behind from e))
    (behind_pattern : (from : From) → Fits from → (p : Pattern) → Fits (with.behind_pattern from p))
    (behind_row : (from : From) → Fits from → (r : RowTree) → Fits (with.behind_row from r))
    (first : TailWalk Known Told A) (second : TailWalk Other Heard B)
    (Agree : List A → List B → Type 0) (none : Agree [] [])
    (both : (xs ys : List A) (us vs : List B) → Agree xs us → Agree ys vs → Agree (xs ++ ys) (us ++ vs))
    (Same : Known → Other → Type 0)
    (at : (from : From) → Fits from → (k : Known) (o : Other) → Same k o → (t : Tree)
    → Agree (first.at k t) (second.at o (replaced with from t)))
    (binder : (k : Known) (o : Other) → Same k o → (b : Binder) → Agree (first.at_binder k b) (second.at_binder o b))
    (Alike : Known → Other → Told → Heard → Type 0)
    (told : (from : From) → Fits from → (k : Known) (o : Other) → Same k o → (t : Tree)
    → Alike k o (first.told k t) (second.told o (replaced with from t)))
    (at_row : (from : From) → Fits from → (k : Known) (o : Other) → Same k o → (u : Told) (v : Heard) → Alike k o u v
    → (p : Pattern)
    → Agree (first.at_row k u p) (second.at_row o v (with.pattern from p)))
    (enter : (from : From) → Fits from → (k : Known) (o : Other) → Same k o → (u : Told) (v : Heard) → Alike k o u v → (p : Pattern)
    → Same (first.enter k u p) (second.enter o v (with.pattern from p))) where
  mutual
    pub tails_replaced : (from : From) → Fits from → (k : Known) (o : Other) → Same k o → (t : Tree)
        → Agree (tail_walked first k t) (tail_walked second o (replaced with from t))
    tails_replaced from fits k o same (variable of) = at from fits k o same (variable of)
    tails_replaced from fits k o same (apply form es) = at from fits k o same (apply form es)
    tails_replaced from fits k o same (branch e positive negative) =
        let before = with.behind from e in
        let after = with.behind before positive in
        let ready = behind from fits e in
        both (tail_walked first k positive) (tail_walked first k negative)
        (tail_walked second o (replaced with before positive)) (tail_walked second o (replaced with after negative))
        (tails_replaced before ready k o same positive) (tails_replaced after (behind before ready positive) k o same negative)
    tails_replaced from fits k o same (match e rows) =
        tail_rows_replaced (with.behind from e) (behind from fits e) k o same (first.told k e)
        (second.told o (replaced with from e))
        (told from fits k o same e) rows
    tails_replaced from fits k o same (sequence b e rest) =
        let after = with.behind from e in
        both (first.at_binder k b) (tail_walked first k rest) (second.at_binder o b)
        (tail_walked second o (replaced with after rest))
        (binder k o same b) (tails_replaced after (behind from fits e) k o same rest)

    tail_rows_replaced : (from : From) → Fits from → (k : Known) (o : Other) → Same k o → (u : Told) (v : Heard) → Alike k o u v
        → (rows : Rows)
        → Agree (tail_walked_rows first k u rows) (tail_walked_rows second o v (replaced_rows with from rows))
    tail_rows_replaced from fits k o same u v alike no_row = none
    tail_rows_replaced from fits k o same u v alike (row (row_parts p body) rest) =
        let within = with.behind_pattern from p in
        let after = with.behind_row from (row_parts p body) in
        let q = with.pattern from p in
        let one = tail_walked first (first.enter k u p) body in
        let other = tail_walked second (second.enter o v q) (replaced with within body) in
        both (first.at_row k u p ++ one) (tail_walked_rows first k u rest)
        (second.at_row o v q ++ other) (tail_walked_rows second o v (replaced_rows with after rest))
        (both (first.at_row k u p) one (second.at_row o v q) other (at_row from fits k o same u v alike p)
        (tails_replaced within (behind_pattern from fits p) (first.enter k u p) (second.enter o v q)
        (enter from fits k o same u v alike p) body))
        (tail_rows_replaced after (behind_row from fits (row_parts p body)) k o same u v alike rest)

-- Two walks over the variables of an expression agree, where they agree at each variable whose places are alike.
module _ {Place Other A B : Type 0} (first : PlaceWalk Place A) (second : PlaceWalk Other B)
    (Alike : Place → Other → Type 0) (Agree : A → B → Type 0) (none : Agree first.none second.none)
    (both : (x y : A) (u v : B) → Agree x u → Agree y v → Agree (first.both x y) (second.both u v))
    (owned : (b : Bool) → Alike (first.owned b) (second.owned b))
    (argument : (form : Form) (index : ℕ) → Alike (first.argument form index) (second.argument form index))
    (at : (p : Place) (q : Other) (of : ℕ) → Alike p q → Agree (first.at p of) (second.at q of)) where
  mutual
    pub places_agree : (p : Place) (q : Other) → Alike p q → (t : Tree) → Agree (place_walked first p t) (place_walked second q t)
    places_agree p q alike (variable of) = at p q of alike
    places_agree p q alike (apply form es) = all_places_agree form 0 es
    places_agree p q alike (branch e positive negative) =
        both _ _ _ _ (places_agree (first.owned false) (second.owned false) (owned false) e)
        (both _ _ _ _ (places_agree (first.owned true) (second.owned true) (owned true) positive)
        (places_agree (first.owned true) (second.owned true) (owned true) negative))
    places_agree p q alike (match e rows) =
        both _ _ _ _ (row_places_agree rows)
        (places_agree (first.owned (reuses rows)) (second.owned (reuses rows)) (owned (reuses rows)) e)
    places_agree p q alike (sequence b e rest) =
        both _ _ _ _ (places_agree (first.owned (is_val b)) (second.owned (is_val b)) (owned (is_val b)) e)
        (places_agree (first.owned true) (second.owned true) (owned true) rest)

    all_places_agree : (form : Form) (index : ℕ) (es : Trees)
        → Agree (place_walked_all first form index es) (place_walked_all second form index es)
    all_places_agree form index no_tree = none
    all_places_agree form index (tree e rest) =
        both _ _ _ _
        (places_agree (first.argument form index) (second.argument form index) (argument form index) e)
        (all_places_agree form (index + 1) rest)

    row_places_agree : (rows : Rows) → Agree (place_walked_rows first rows) (place_walked_rows second rows)
    row_places_agree no_row = none
    row_places_agree (row (row_parts p body) rest) =
        both _ _ _ _ (places_agree (first.owned true) (second.owned true) (owned true) body) (row_places_agree rest)

-- What is gathered from an expression agrees with what is chosen in its typing, where that is so of forms, patterns and
-- matches.
module _ (program : ProgramTree) {A : Type 0} (from : Gathers A) (Agree : List Choice → List A → Type 0) (none : Agree [] [])
    (both : (xs ys : List Choice) (us vs : List A) → Agree xs us → Agree ys vs → Agree (xs ++ ys) (us ++ vs))
    (held : (t : TypeTree) (xs : List Choice) (us : List A) → Agree xs us → Agree (holding t ∷ xs) us)
    (forms : (form : Form) (of : Scheme) (at : List TypeTree) → form_scheme program form ≡ Some of → length at ≡ of.variables
    → Agree (chosen_at form at) (from.at_form form))
    (patterns : (scope : Scope) (p : Pattern) (t : TypeTree) (choices : List Choice) → IsPatternTyped program scope p t choices
    → Agree choices (from.at_pattern p))
    (matches : (scope : Scope) (rows : Rows) (u t : TypeTree) (choices : List Choice)
    → AreRowsTypedBy program scope rows u t choices
    → Agree (holding u ∷ []) (from.at_rows rows)) where
  same : (xs ys : List Choice) (us : List A) → xs ≡ ys → Agree ys us → Agree xs us
  same xs ys us is agree = subst (λ cs. Agree cs us) (sym is) agree

  all_held : (ts : List TypeTree) (xs : List Choice) (us : List A) → Agree xs us → Agree (map holding ts ++ xs) us
  all_held [] xs us agree = agree
  all_held (t ∷ ts) xs us agree = held t (map holding ts ++ xs) us (all_held ts xs us agree)

  mutual
    pub typing_agrees : (scope : Scope) (e : Tree) (t : TypeTree) (choices : List Choice) → IsTypedBy program scope e t choices
        → Agree choices (gathered from e)
    typing_agrees scope (variable x) t choices typed = same choices [] [] typed.1 none
    typing_agrees scope (apply form es) t choices uses =
        same choices (chosen_at form uses.at ++ uses.rest) (gathered from (apply form es)) uses.choices_are
        (both (chosen_at form uses.at) uses.rest (from.at_form form) (gathered_all from es)
        (forms form uses.of uses.at uses.is uses.each)
        (typings_agree scope es (map (put (type_at uses.at)) uses.of.parameters) uses.rest uses.arguments))
    typing_agrees scope (branch e positive negative) t choices (one, other, is, condition, (two, three, rest_is, first, second)) =
        same choices (one ++ other) (gathered from (branch e positive negative)) is
        (both one other (gathered from e) (gathered from positive ++ gathered from negative) (typing_agrees scope e _ one condition)
        (same other (two ++ three) (gathered from positive ++ gathered from negative) rest_is
        (both two three (gathered from positive) (gathered from negative) (typing_agrees scope positive t two first)
        (typing_agrees scope negative t three second))))
    typing_agrees scope (match e rows) t choices holds =
        let parts = holds.inside in
        let others = gathered from e ++ gathered_rows from rows in
        same choices (holding holds.of ∷ holds.rest) (from.at_rows rows ++ others) holds.choices_are
        (both (holding holds.of ∷ []) holds.rest (from.at_rows rows) others (matches scope rows holds.of t parts.1 parts.4)
        (same holds.rest (parts.0 ++ parts.1) others parts.2
        (both parts.0 parts.1 (gathered from e) (gathered_rows from rows) (typing_agrees scope e holds.of parts.0 parts.3)
        (row_typings_agree scope rows holds.of t parts.1 parts.4))))
    typing_agrees scope (sequence binder first rest) t choices holds =
        let parts = holds.inside in
        let others = gathered from first ++ gathered from rest in
        same choices (holding holds.of ∷ holds.rest) others holds.choices_are
        (held holds.of holds.rest others
        (same holds.rest (parts.0 ++ parts.1) others parts.2
        (both parts.0 parts.1 (gathered from first) (gathered from rest) (typing_agrees scope first holds.of parts.0 parts.3)
        (typing_agrees _ rest t parts.1 parts.4))))

    typings_agree : (scope : Scope) (es : Trees) (ts : List TypeTree) (choices : List Choice)
        → AreTypedBy program scope es ts choices → Agree choices (gathered_all from es)
    typings_agree scope no_tree [] choices is = same choices [] [] is none
    typings_agree scope no_tree (t ∷ ts) choices typed = absurd typed
    typings_agree scope (tree first rest) [] choices typed = absurd typed
    typings_agree scope (tree first rest) (t ∷ ts) choices (one, other, is, first_typed, rest_typed) =
        same choices (one ++ other) (gathered from first ++ gathered_all from rest) is
        (both one other (gathered from first) (gathered_all from rest) (typing_agrees scope first t one first_typed)
        (typings_agree scope rest ts other rest_typed))

    row_typings_agree : (scope : Scope) (rows : Rows) (u t : TypeTree) (choices : List Choice)
        → AreRowsTypedBy program scope rows u t choices → Agree choices (gathered_rows from rows)
    row_typings_agree scope no_row u t choices is = same choices [] [] is none
    row_typings_agree scope (row (row_parts pattern body) rest) u t choices (one, other, is, binds, rest_typed) =
        let parts = binds.inside in
        let here = from.at_pattern pattern ++ gathered from body in
        same choices (one ++ other) (here ++ gathered_rows from rest) is
        (both one other here (gathered_rows from rest)
        (same one (map holding binds.at ++ binds.rest) here binds.choices_are
        (all_held binds.at binds.rest here
        (same binds.rest (parts.0 ++ parts.1) here parts.2
        (both parts.0 parts.1 (from.at_pattern pattern) (gathered from body) (patterns _ pattern u parts.0 parts.3)
        (typing_agrees _ body t parts.1 parts.4)))))
        (row_typings_agree scope rest u t other rest_typed))

-- Each thing that is gathered from an expression is as small as the expression's nodes are few, where that is so at forms,
-- patterns and matches.
module _ {A : Type 0} (from : Gathers A) (Within : ℕ → A → Type 0) (wider : (m n : ℕ) → m ≤ n → (x : A) → Within m x → Within n x)
    (forms : (form : Form) → Each (Within 1) (from.at_form form))
    (patterns : (p : Pattern) → Each (Within (nodes_of_pattern p)) (from.at_pattern p))
    (matches : (rows : Rows) → Each (Within (nodes_of_rows rows)) (from.at_rows rows)) where
  two : (k m n : ℕ) (xs ys : List A) → k ≤ n → m ≤ n → Each (Within k) xs → Each (Within m) ys → Each (Within n) (xs ++ ys)
  two k m n xs ys one other first rest =
      each_both (Within n) xs ys (each_weaker (Within k) (Within n) (wider k n one) xs first)
      (each_weaker (Within m) (Within n) (wider m n other) ys rest)

  mutual
    pub nodes_bound : (e : Tree) → Each (Within (nodes_of e)) (gathered from e)
    nodes_bound (variable x) = tt
    nodes_bound (apply form es) =
        two 1 (nodes_of_all es) (nodes_of (apply form es)) (from.at_form form) (gathered_all from es) (omega arith) (omega arith)
        (forms form) (all_nodes_bound es)
    nodes_bound (branch e positive negative) =
        two (nodes_of e) (nodes_of positive + nodes_of negative) (nodes_of (branch e positive negative)) (gathered from e)
        (gathered from positive ++ gathered from negative)
        (omega arith) (omega arith) (nodes_bound e)
        (two (nodes_of positive) (nodes_of negative) (nodes_of positive + nodes_of negative) (gathered from positive)
        (gathered from negative) (omega arith) (omega arith)
        (nodes_bound positive) (nodes_bound negative))
    nodes_bound (match e rows) =
        two (nodes_of_rows rows) (nodes_of e + nodes_of_rows rows) (nodes_of (match e rows)) (from.at_rows rows)
        (gathered from e ++ gathered_rows from rows)
        (omega arith) (omega arith) (matches rows)
        (two (nodes_of e) (nodes_of_rows rows) (nodes_of e + nodes_of_rows rows) (gathered from e) (gathered_rows from rows)
        (omega arith) (omega arith)
        (nodes_bound e) (row_nodes_bound rows))
    nodes_bound (sequence binder first rest) =
        two (nodes_of first) (nodes_of rest) (nodes_of (sequence binder first rest)) (gathered from first) (gathered from rest)
        (omega arith) (omega arith)
        (nodes_bound first) (nodes_bound rest)

    all_nodes_bound : (es : Trees) → Each (Within (nodes_of_all es)) (gathered_all from es)
    all_nodes_bound no_tree = tt
    all_nodes_bound (tree first rest) =
        two (nodes_of first) (nodes_of_all rest) (nodes_of_all (tree first rest)) (gathered from first) (gathered_all from rest)
        (omega arith) (omega arith)
        (nodes_bound first) (all_nodes_bound rest)

    row_nodes_bound : (rows : Rows) → Each (Within (nodes_of_rows rows)) (gathered_rows from rows)
    row_nodes_bound no_row = tt
    row_nodes_bound (row (row_parts pattern body) rest) =
        two (nodes_of_pattern pattern + nodes_of body) (nodes_of_rows rest) (nodes_of_rows (row (row_parts pattern body) rest))
        (from.at_pattern pattern ++ gathered from body) (gathered_rows from rest)
        (omega arith) (omega arith)
        (two (nodes_of_pattern pattern) (nodes_of body) (nodes_of_pattern pattern + nodes_of body) (from.at_pattern pattern)
        (gathered from body) (omega arith) (omega arith)
        (patterns pattern) (nodes_bound body))
        (row_nodes_bound rest)

-- Each thing that is gathered from an expression with a type has a property, where that is so at forms and patterns, and at
-- matches, whose rows are covered.
module _ (table : Table) {A : Type 0} (from : Gathers A) (Has : A → Type 0) (forms : (form : Form) → Each Has (from.at_form form))
    (patterns : (p : Pattern) → Each Has (from.at_pattern p))
    (matches : (rows : Rows) (u : TypeTree) → IsCovered (values_of table.constructors) u (asked_by rows)
    → Each Has (from.at_rows rows)) where
  mutual
    pub typed_gathered : (e : Tree) (scope : Scope) (t : TypeTree) → HasType table scope e t → Each Has (gathered from e)
    typed_gathered (variable x) scope t has = tt
    typed_gathered (apply form es) scope t has =
        each_both Has (from.at_form form) (gathered_all from es) (forms form) (all_typed_gathered es scope has.0 has.1)
    typed_gathered (branch e positive negative) scope t has =
        each_both Has (gathered from e) (gathered from positive ++ gathered from negative) (typed_gathered e scope _ has.0)
        (each_both Has (gathered from positive) (gathered from negative) (typed_gathered positive scope t has.1)
        (typed_gathered negative scope t has.2))
    typed_gathered (match e rows) scope t has =
        each_both Has (from.at_rows rows) (gathered from e ++ gathered_rows from rows) (matches rows has.0 has.3)
        (each_both Has (gathered from e) (gathered_rows from rows) (typed_gathered e scope has.0 has.1)
        (typed_rows_gathered rows scope has.0 t has.2))
    typed_gathered (sequence binder first rest) scope t has =
        each_both Has (gathered from first) (gathered from rest) (typed_gathered first scope has.0 has.1)
        (typed_gathered rest (with_binder binder has.0 scope) t has.2)

    all_typed_gathered : (es : Trees) (scope : Scope) (ts : List TypeTree) → HaveTypes table scope es ts
        → Each Has (gathered_all from es)
    all_typed_gathered no_tree scope ts have = tt
    all_typed_gathered (tree first rest) scope [] have = absurd have
    all_typed_gathered (tree first rest) scope (t ∷ ts) have =
        each_both Has (gathered from first) (gathered_all from rest) (typed_gathered first scope t have.0)
        (all_typed_gathered rest scope ts have.1)

    typed_rows_gathered : (rows : Rows) (scope : Scope) (u t : TypeTree) → AreRowsTyped table scope rows u t
        → Each Has (gathered_rows from rows)
    typed_rows_gathered no_row scope u t are = tt
    typed_rows_gathered (row (row_parts pattern body) rest) scope u t are =
        each_both Has (from.at_pattern pattern ++ gathered from body) (gathered_rows from rest)
        (each_both Has (from.at_pattern pattern) (gathered from body) (patterns pattern)
        (typed_gathered body (with_pattern table.constructors pattern u scope) t are.1))
        (typed_rows_gathered rest scope u t are.2)

-- an expression with other forms and patterns has the nodes, and the free variables, of the first, where its patterns do
module _ {Known : Type 0} (with : Replaces Known) where
  module _ (same : (known : Known) (p : Pattern) → nodes_of_pattern (with.pattern known p) ≡ nodes_of_pattern p) where
    mutual
      pub nodes_replaced : (known : Known) (t : Tree) → nodes_of (replaced with known t) ≡ nodes_of t
      nodes_replaced known (variable of) = refl
      nodes_replaced known (apply form es) = omega (arith, all_nodes_replaced (with.behind_form known form) es)
      nodes_replaced known (branch e positive negative) =
          omega (
            arith,
            nodes_replaced known e,
            nodes_replaced (with.behind known e) positive,
            nodes_replaced (with.behind (with.behind known e) positive) negative,
          )
      nodes_replaced known (match e rows) = omega (arith, nodes_replaced known e, row_nodes_replaced (with.behind known e) rows)
      nodes_replaced known (sequence binder first rest) =
          omega (arith, nodes_replaced known first, nodes_replaced (with.behind known first) rest)

      all_nodes_replaced : (known : Known) (ts : Trees) → nodes_of_all (replaced_all with known ts) ≡ nodes_of_all ts
      all_nodes_replaced known no_tree = refl
      all_nodes_replaced known (tree first rest) =
          omega (arith, nodes_replaced known first, all_nodes_replaced (with.behind known first) rest)

      row_nodes_replaced : (known : Known) (rs : Rows) → nodes_of_rows (replaced_rows with known rs) ≡ nodes_of_rows rs
      row_nodes_replaced known no_row = refl
      row_nodes_replaced known (row (row_parts pattern body) rest) =
          omega (
            arith,
            same known pattern,
            nodes_replaced (with.behind_pattern known pattern) body,
            row_nodes_replaced (with.behind_row known (row_parts pattern body)) rest,
          )

  module _ (same : (known : Known) (p : Pattern) → bound (with.pattern known p) ≡ bound p) where
    mutual
      pub free_replaced : (known : Known) (t : Tree) → free (replaced with known t) ≡ free t
      free_replaced known (variable of) = refl
      free_replaced known (apply form es) = all_free_replaced (with.behind_form known form) es
      free_replaced known (branch e positive negative) =
          rw (
            free_replaced known e,
            free_replaced (with.behind known e) positive,
            free_replaced (with.behind (with.behind known e) positive) negative,
          ) refl
      free_replaced known (match e rows) = rw (free_replaced known e, row_free_replaced (with.behind known e) rows) refl
      free_replaced known (sequence binder first rest) =
          rw (free_replaced known first, free_replaced (with.behind known first) rest) refl

      pub all_free_replaced : (known : Known) (ts : Trees) → free_all (replaced_all with known ts) ≡ free_all ts
      all_free_replaced known no_tree = refl
      all_free_replaced known (tree first rest) =
          rw (free_replaced known first, all_free_replaced (with.behind known first) rest) refl

      pub row_free_replaced : (known : Known) (rs : Rows) → free_rows (replaced_rows with known rs) ≡ free_rows rs
      row_free_replaced known no_row = refl
      row_free_replaced known (row (row_parts pattern body) rest) =
          rw (
            same known pattern,
            free_replaced (with.behind_pattern known pattern) body,
            row_free_replaced (with.behind_row known (row_parts pattern body)) rest,
          ) refl
