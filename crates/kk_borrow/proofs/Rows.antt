-- The standings in memory, seen as lists: one position is changed.
use Rattle.std.proofs.Common.{◌≡◌, ◌<◌, ℕ, zero, suc, true, false, not, IsTrue, List, [], ◌∷◌, ◌++◌, length, map, set, get_or, refl, sym, ap, ◌∙◌, arith}
use Rattle.std.proofs.lemmas.Bool.{both_ways}
use Rattle.std.proofs.lemmas.List.{get_or-map, map-set, map-append, set-get_or, get_or_past, length-map}
use Rattle.kk_syntax.specs.declared.positions.Ownership.{Ownership}
use Rattle.kk_syntax.specs.declared.positions.Ownership.TheVariants as Of
use Rattle.kk_syntax.specs.PositionsOf.{PositionTable, lends, is_lent}
use Rattle.kk_borrow.specs.declared.standing.Standing.{Standing}
use Rattle.kk_borrow.specs.declared.standing.Standing.TheVariants.{Owned, Lent}
use Rattle.kk_borrow.specs.declared.rule.Rule.{Rule}
use Rattle.kk_borrow.specs.Rules.{RuleTree, rule_tree, rule_trees}
use Rattle.kk_syntax.specs.OwnedPositions.{owned_in}
use Rattle.kk_borrow.specs.Standings.{ownership_of, waiting_of, waiting_at}
use Rattle.kk_syntax.proofs.PositionTables.{lent_row, lent_told}

-- rows of standings, as tables
abbrev pub seen : {X Z : Type 0} → (X → List Standing) → (Standing → Z) → List X → List (List Z)
seen items view rows = map (λ r. map view (items r)) rows

-- the table with one element changed
row_set : {X Z : Type 0} (items : X → List Standing) (view : Standing → Z) (rows : List X) (f i : ℕ) (row changed : X) (y : Standing) → f < length rows → row ≡ get_or rows f row → items changed ≡ set (items row) i y
    → seen items view (set rows f changed) ≡ set (seen items view rows) f (set (get_or (seen items view rows) f []) i (view y))
row_set {X} {Z} items view rows f i row changed y lt row_is changed_is =
    let see : X → List Z = λ r. map view (items r) in
    map-set see rows f changed
    ∙ ap (λ (r : List Z). set (map see rows) f r)
    (ap (map view) changed_is
    ∙ (map-set view (items row) i y ∙ ap (λ (r : List Z). set r i (view y)) (ap see row_is ∙ sym (get_or-map see rows f row [] lt))))

-- an element of the table
row_at : {X Z : Type 0} (items : X → List Standing) (view : Standing → Z) (rows : List X) (f i : ℕ) (row : X) (y : Standing) (d : Z) → f < length rows → row ≡ get_or rows f row → i < length (items row) → y ≡ get_or (items row) i y
    → get_or (get_or (seen items view rows) f []) i d ≡ view y
row_at {X} {Z} items view rows f i row y d f_in row_is i_in y_is =
    let see : X → List Z = λ r. map view (items r) in
    ap (λ (r : List Z). get_or r i d) (get_or-map see rows f row [] f_in ∙ ap see (sym row_is))
    ∙ (get_or-map view (items row) i y d i_in ∙ ap view (sym y_is))

-- a lent position is in memory
lent_in_rows : {X : Type 0} (items : X → List Standing) (rows : List X) (f i : ℕ) → is_lent (seen items ownership_of rows) f i ≡ true → f < length rows
lent_in_rows items rows f i is = let lt = lent_row (seen items ownership_of rows) f i is in omega (arith, lt, length-map rows (λ r. map ownership_of (items r)))

lent_in_row : {X : Type 0} (items : X → List Standing) (rows : List X) (f i : ℕ) (row : X) → row ≡ get_or rows f row → is_lent (seen items ownership_of rows) f i ≡ true → i < length (items row)
lent_in_row {X} items rows f i row row_is is =
    let see : X → List Ownership = λ r. map ownership_of (items r) in
    let lt = lent_told (seen items ownership_of rows) f i is in
    let same : length (get_or (map see rows) f []) ≡ length (items row) =
    ap length (get_or-map see rows f row [] (lent_in_rows items rows f i is) ∙ ap see (sym row_is)) ∙ length-map (items row) ownership_of in
    omega (arith, lt, same)

lent_is : (o : Ownership) → lends o ≡ true → o ≡ Of.Lent
lent_is Of.Owned is = absurd (both_ways false refl is)
lent_is Of.Lent is = refl

-- a lent position that is lent again
lent_again : (table : PositionTable) (f i : ℕ) → is_lent table f i ≡ true → set table f (set (get_or table f []) i Of.Lent) ≡ table
lent_again table f i is =
    ap (λ (r : List Ownership). set table f r)
    (ap (λ o. set (get_or table f []) i o) (sym (lent_is (get_or (get_or table f []) i Of.Owned) is)) ∙ set-get_or (get_or table f []) i Of.Owned)
    ∙ set-get_or table f []

-- a lent position for which one rule more waits
pub waits_lent : {X : Type 0} (items : X → List Standing) (rows : List X) (f i : ℕ) (row changed : X) (waiting : _) → row ≡ get_or rows f row → items changed ≡ set (items row) i (Lent waiting) → is_lent (seen items ownership_of rows) f i ≡ true
    → seen items ownership_of (set rows f changed) ≡ seen items ownership_of rows
waits_lent items rows f i row changed waiting row_is changed_is is =
    row_set items ownership_of rows f i row changed (Lent waiting) (lent_in_rows items rows f i is) row_is changed_is
    ∙ lent_again (seen items ownership_of rows) f i is

pub waits_more : {X : Type 0} (items : X → List Standing) (rows : List X) (f i : ℕ) (row changed : X) (before waiting : _) (rule : Rule) → row ≡ get_or rows f row → Lent before ≡ get_or (items row) i (Lent before) → items changed ≡ set (items row) i (Lent waiting)
    → waiting.items ≡ before.items ++ rule ∷ [] → is_lent (seen items ownership_of rows) f i ≡ true
    → seen items waiting_of (set rows f changed) ≡ set (seen items waiting_of rows) f (set (get_or (seen items waiting_of rows) f []) i (get_or (get_or (seen items waiting_of rows) f []) i [] ++ rule_tree rule ∷ []))
waits_more items rows f i row changed before waiting rule row_is before_is changed_is more is =
    row_set items waiting_of rows f i row changed (Lent waiting) (lent_in_rows items rows f i is) row_is changed_is
    ∙ ap (λ (rules : List RuleTree). set (seen items waiting_of rows) f (set (get_or (seen items waiting_of rows) f []) i rules))
    (ap rule_trees more
    ∙ (map-append rule_tree before.items (rule ∷ [])
    ∙ ap (λ (rules : List RuleTree). rules ++ rule_tree rule ∷ [])
    (sym (row_at items waiting_of rows f i row (Lent before) [] (lent_in_rows items rows f i is) row_is (lent_in_row items rows f i row row_is is) before_is))))

-- a lent position that is owned from now on
pub owned_now : {X : Type 0} (items : X → List Standing) (rows : List X) (f i : ℕ) (row changed : X) → row ≡ get_or rows f row → items changed ≡ set (items row) i Owned → is_lent (seen items ownership_of rows) f i ≡ true
    → seen items ownership_of (set rows f changed) ≡ set (seen items ownership_of rows) f (set (get_or (seen items ownership_of rows) f []) i Of.Owned)
owned_now items rows f i row changed row_is changed_is is = row_set items ownership_of rows f i row changed Owned (lent_in_rows items rows f i is) row_is changed_is

pub waits_none : {X : Type 0} (items : X → List Standing) (rows : List X) (f i : ℕ) (row changed : X) → row ≡ get_or rows f row → items changed ≡ set (items row) i Owned → is_lent (seen items ownership_of rows) f i ≡ true
    → seen items waiting_of (set rows f changed) ≡ set (seen items waiting_of rows) f (set (get_or (seen items waiting_of rows) f []) i [])
waits_none items rows f i row changed row_is changed_is is = row_set items waiting_of rows f i row changed Owned (lent_in_rows items rows f i is) row_is changed_is

same_length : {X : Type 0} (items : X → List Standing) (rows : List X) (f : ℕ) → length (get_or (seen items waiting_of rows) f []) ≡ length (get_or (seen items ownership_of rows) f [])
same_length items [] f = ap (λ (r : List (List RuleTree)). length r) (get_or_past [] f [] (omega arith)) ∙ sym (ap (λ (r : List Ownership). length r) (get_or_past [] f [] (omega arith)))
same_length items (r ∷ rows) zero = length-map (items r) waiting_of ∙ sym (length-map (items r) ownership_of)
same_length items (r ∷ rows) (suc f) = same_length items rows f

-- both tables have a lent position
pub waits_in_rows : {X : Type 0} (items : X → List Standing) (rows : List X) (f i : ℕ) → is_lent (seen items ownership_of rows) f i ≡ true → f < length (seen items waiting_of rows)
waits_in_rows items rows f i is = let lt = lent_in_rows items rows f i is in omega (arith, lt, length-map rows (λ r. map waiting_of (items r)))

pub waits_in_row : {X : Type 0} (items : X → List Standing) (rows : List X) (f i : ℕ) → is_lent (seen items ownership_of rows) f i ≡ true → i < length (get_or (seen items waiting_of rows) f [])
waits_in_row items rows f i is = let lt = lent_told (seen items ownership_of rows) f i is in omega (arith, lt, same_length items rows f)

idle_row : (row : List Standing) (i : ℕ) → IsTrue (not (lends (get_or (map ownership_of row) i Of.Lent))) → get_or (map waiting_of row) i [] ≡ []
idle_row [] i is = get_or_past [] i [] (omega arith)
idle_row (Owned ∷ row) zero is = refl
idle_row (Lent waiting ∷ row) zero is = absurd (both_ways false refl is)
idle_row (s ∷ row) (suc i) is = idle_row row i is

-- no rule waits for a position that is owned
pub idle : {X : Type 0} (items : X → List Standing) (rows : List X) (f i : ℕ) → IsTrue (owned_in (seen items ownership_of rows) f i) → waiting_at (seen items waiting_of rows) f i ≡ []
idle items [] f i is = ap (λ (r : List (List RuleTree)). get_or r i []) (get_or_past [] f [] (omega arith)) ∙ get_or_past [] i [] (omega arith)
idle items (r ∷ rows) zero i is = idle_row (items r) i is
idle items (r ∷ rows) (suc f) i is = idle items rows f i is
