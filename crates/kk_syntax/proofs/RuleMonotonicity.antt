-- With more positions owned, the rules ask for no fewer.
use Rattle.std.proofs.Common.{inl, inr, ℕ, zero, suc, ◌+◌, Bool, true, false, ◌==◌, ◌&&◌, ◌||◌, cond, List, [], ◌∷◌, ◌++◌, refl, sym, ◌∙◌, All, IsTrue}
use Rattle.std.proofs.lemmas.Bool.{both_ways, or_left, or_right, or_cases}
use Rattle.std.proofs.lemmas.List.Elements.{All-nil, All-append}
use Rattle.std.proofs.lemmas.List.Folds.{list_any-append}
use Rattle.kk_syntax.proofs.Lists.{all_left, all_right}
use Rattle.kk_syntax.proofs.Walks.{tails_agree, places_agree}
use Rattle.kk_syntax.specs.declared.positions.Position.{Position}
use Rattle.kk_syntax.specs.declared.program.Form.{Form}
use Rattle.kk_syntax.specs.declared.program.Form.TheVariants.{Construct, Call}
use Rattle.kk_syntax.specs.OwnedPositions.{PositionSet, takes, to_uses, uses, lent_below, is_lent_variable, lent_in_row, handed_to, handed_by, Within}
use Rattle.kk_syntax.specs.OwnedSearch.{to_handed, handed_in}
use Rattle.kk_syntax.specs.Patterns.{Pattern}
use Rattle.kk_syntax.specs.Shapes.{bound, is_among}
use Rattle.kk_syntax.specs.Trees.{Tree, variable, apply, Trees, no_tree, tree}

or_grows : (a b c d : Bool) → (IsTrue a → IsTrue c) → (IsTrue b → IsTrue d) → IsTrue (a || b) → IsTrue (c || d)
or_grows a b c d left right is = elim (or_cases a b is) [
  | inl x ↦ or_left c d (left x)
  | inr y ↦ or_right c d (right y)
]

and_grows : (a b c : Bool) → (IsTrue a → IsTrue c) → IsTrue (a && b) → IsTrue (c && b)
and_grows true b c grows is = rw (grows refl) is
and_grows false b c grows is = absurd (both_ways false refl is)

-- ---- o1 to o4

takes_grows : (set other : PositionSet) → Within set other → (form : Form) (index : ℕ) → IsTrue (takes set form index)
    → IsTrue (takes other form index)
takes_grows set other within (Construct of) index is = refl
takes_grows set other within (Call function) index is = within function index is
takes_grows set other within form index is = absurd (both_ways false refl is)

pub uses_grows : (set other : PositionSet) → Within set other → (x : ℕ) (a b : Bool) → (IsTrue a → IsTrue b) → (t : Tree)
    → IsTrue (uses set a x t) → IsTrue (uses other b x t)
uses_grows set other within x a b grows t =
    places_agree (to_uses set) (to_uses other) (λ (p q : Bool). IsTrue p → IsTrue q)
    (λ (u v : ℕ → Bool). (y : ℕ) → IsTrue (u y) → IsTrue (v y))
    (λ y is. is) (λ u v w z left right y. or_grows (u y) (v y) (w y) (z y) (left y) (right y))
    (λ owned is. is) (takes_grows set other within)
    (λ p q of more y. and_grows p (y == of) q more) a b grows t x

-- ---- o5

-- each of some variables is among others
abbrev pub Fewer : List ℕ → List ℕ → Type 0
Fewer small large = (x : ℕ) → IsTrue (is_among small x) → IsTrue (is_among large x)

lent_variable_more : (small large : List ℕ) → Fewer small large → (t : Tree) → IsTrue (is_lent_variable small t)
    → IsTrue (is_lent_variable large t)
lent_variable_more small large fewer (variable of) is = fewer of is
lent_variable_more small large fewer other is = absurd (both_ways false refl is)

append_more : (small large bs cs : List ℕ) → Fewer small large → Fewer bs cs → Fewer (small ++ bs) (large ++ cs)
append_more small large bs cs left right x is =
    list_any-append (λ y. y == x) large cs
    ∙ or_grows (is_among small x) (is_among bs x) (is_among large x) (is_among cs x) (left x) (right x)
    (sym (list_any-append (λ y. y == x) small bs) ∙ is)

row_more : (small large : List ℕ) → Fewer small large → (a b : Bool) → (IsTrue a → IsTrue b) → (p : Pattern)
    → Fewer (lent_in_row small a p) (lent_in_row large b p)
row_more small large fewer false false grows p x is = fewer x is
row_more small large fewer false true grows p x is =
    list_any-append (λ y. y == x) large (bound p) ∙ or_left (is_among large x) (is_among (bound p) x) (fewer x is)
row_more small large fewer true false grows p x is = absurd (both_ways false refl (grows refl))
row_more small large fewer true true grows p x is = append_more small large (bound p) (bound p) fewer (λ y there. there) x is

one_less : (P : Position → Type 0) (q : Position) (a b : Bool) → (IsTrue a → IsTrue b) → All P (cond a [] (q ∷ []))
    → All P (cond b [] (q ∷ []))
one_less P q a true grows all = All-nil P
one_less P q true false grows all = absurd (both_ways false refl (grows refl))
one_less P q false false grows all = all

handed_to_less : (P : Position → Type 0) (small large : List ℕ) → Fewer small large → (f index : ℕ) (ts : Trees)
    → All P (handed_to small f index ts) → All P (handed_to large f index ts)
handed_to_less P small large fewer f index no_tree all = all
handed_to_less P small large fewer f index (tree first rest) all =
    let p : Position = record { function = f; parameter = index } in
    let few = is_lent_variable small first in
    let many = is_lent_variable large first in
    All-append P (cond many [] (p ∷ [])) (handed_to large f (index + 1) rest)
    (one_less P p few many (lent_variable_more small large fewer first)
    (all_left P (cond few [] (p ∷ [])) (handed_to small f (index + 1) rest) all))
    (handed_to_less P small large fewer f (index + 1) rest (all_right P (cond few [] (p ∷ []))
    (handed_to small f (index + 1) rest) all))

handed_by_less : (P : Position → Type 0) (small large : List ℕ) → Fewer small large → (form : Form) (ts : Trees)
    → All P (handed_by small (apply form ts)) → All P (handed_by large (apply form ts))
handed_by_less P small large fewer (Call function) ts all = handed_to_less P small large fewer function 0 ts all
handed_by_less P small large fewer form ts all = All-nil P

handed_at_less : (P : Position → Type 0) (small large : List ℕ) → Fewer small large → (t : Tree) → All P (handed_by small t)
    → All P (handed_by large t)
handed_at_less P small large fewer (apply form ts) all = handed_by_less P small large fewer form ts all
handed_at_less P small large fewer _ all = all

pub handed_less : (P : Position → Type 0) (small large : List ℕ) → Fewer small large → (t : Tree) → All P (handed_in small t)
    → All P (handed_in large t)
handed_less P small large fewer t all =
    tails_agree to_handed to_handed (λ (ps qs : List Position). All P ps → All P qs) (λ none. none)
    (λ xs ys us vs left right whole. All-append P us vs (left (all_left P xs ys whole)) (right (all_right P xs ys whole)))
    Fewer (handed_at_less P) (λ ns ms more b none. none) (λ ns ms a b. IsTrue a → IsTrue b) lent_variable_more
    (λ ns ms more a b grows p none. none) (λ ns ms more a b grows p. row_more ns ms more a b grows p)
    small large fewer t all

-- the parameters that are lent where more are owned
pub below_less : (owned other : ℕ → Bool) → ((x : ℕ) → IsTrue (owned x) → IsTrue (other x)) → (count : ℕ)
    → Fewer (lent_below other count) (lent_below owned count)
below_less owned other grows zero = λ x is. is
below_less owned other grows (suc count) =
    append_more (lent_below other count) (lent_below owned count) (cond (other count) [] (count ∷ []))
    (cond (owned count) [] (count ∷ []))
    (below_less owned other grows count)
    (last (other count) (owned count) (grows count))
  where
    last : (a b : Bool) → (IsTrue b → IsTrue a) → Fewer (cond a [] (count ∷ [])) (cond b [] (count ∷ []))
    last true b more x is = absurd (both_ways false refl is)
    last false true more x is = absurd (both_ways false refl (more refl))
    last false false more x is = is
