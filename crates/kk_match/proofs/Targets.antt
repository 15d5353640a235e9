-- The nodes that tests lead to, and that there are no more nodes than are led to, and one.
use Rattle.std.proofs.Common.{◌≡◌, ℕ, zero, suc, ◌<◌, ◌≤◌, Bool, true, false, ◌||◌, ◌⊎◌, Option, None, Some, List, [], ◌∷◌, ◌++◌, length, map, inl, inr, refl, sym, ap, subst, arith}
use Rattle.std.specs.Prelude.{slice_get, if◌then◌else◌, ◌==◌}
use Rattle.std.proofs.lemmas.Bool.{cases_Bool, both_ways, eq-eqb, eqb-true}
use Rattle.std.proofs.lemmas.Option.{none-some, same_Some}
use Rattle.kk_syntax.specs.Shapes.{is_among}
use Rattle.kk_core.specs.declared.decisions.Answer.{Answer}
use Rattle.kk_core.specs.declared.decisions.Edge.{Edge}
use Rattle.kk_core.specs.Decisions.{NodeTree, tests, targets, is_answer, next_by}

-- ---- the node that an answer leads to

edge_among : (edges : List Edge) (otherwise : Option ℕ) (found : Answer) (j : ℕ) → next_by edges otherwise found ≡ Some j
    → (otherwise ≡ Some j) ⊎ (is_among (map (λ (edge : Edge). edge.next) edges) j ≡ true)
edge_among [] otherwise found j is = inl is
edge_among (edge ∷ edges) otherwise found j is = by (is_answer edge.found found) (edge_among edges otherwise found j) is
  where
    or_else : (a b : Bool) → b ≡ true → (a || b) ≡ true
    or_else true b is = refl
    or_else false b is = is

    or_first : (a b : Bool) → a ≡ true → (a || b) ≡ true
    or_first true b is = refl
    or_first false b is = absurd (cc)

    by : (here : Bool)
        → (next_by edges otherwise found ≡ Some j
        → (otherwise ≡ Some j) ⊎ (is_among (map (λ (edge : Edge). edge.next) edges) j ≡ true))
        → (if here then Some edge.next else next_by edges otherwise found) ≡ Some j
        → (otherwise ≡ Some j) ⊎ (((edge.next == j) || is_among (map (λ (edge : Edge). edge.next) edges) j) ≡ true)
    by true rest is = inr
        (or_first (edge.next == j) (is_among (map (λ (edge : Edge). edge.next) edges) j)
        (eq-eqb edge.next j (same_Some edge.next j is)))
    by false rest is = elim (rest is) [
      | inl other ↦ inl other
      | inr behind ↦ inr (or_else (edge.next == j) (is_among (map (λ (edge : Edge). edge.next) edges) j) behind)
    ]

pub next_among : (at : List ℕ) (edges : List Edge) (otherwise : Option ℕ) (found : Answer) (j : ℕ)
    → next_by edges otherwise found ≡ Some j
    → is_among (targets (tests at edges otherwise)) j ≡ true
next_among at edges None found j is = elim (edge_among edges None found j is) [
  | inl other ↦ absurd (none-some j other)
  | inr behind ↦ behind
]
next_among at edges (Some other) found j is = elim (edge_among edges (Some other) found j is) [
  | inl same ↦ first (other == j) (is_among (map (λ (edge : Edge). edge.next) edges) j) (eq-eqb other j (same_Some other j same))
  | inr behind ↦ later (other == j) (is_among (map (λ (edge : Edge). edge.next) edges) j) behind
]
  where
    first : (a b : Bool) → a ≡ true → (a || b) ≡ true
    first true b is = refl
    first false b is = absurd (cc)

    later : (a b : Bool) → b ≡ true → (a || b) ≡ true
    later true b is = refl
    later false b is = is

pub other_among : (at : List ℕ) (edges : List Edge) (otherwise : Option ℕ) (j : ℕ) → otherwise ≡ Some j
    → is_among (targets (tests at edges otherwise)) j ≡ true
other_among at edges None j is = absurd (none-some j is)
other_among at edges (Some other) j is =
    ap (λ b. b || is_among (map (λ (edge : Edge). edge.next) edges) j) (eq-eqb other j (same_Some other j is))

-- ---- all that nodes lead to

abbrev pub all_targets : List NodeTree → List ℕ
all_targets [] = []
all_targets (node ∷ nodes) = targets node ++ all_targets nodes

or_right : (a b : Bool) → b ≡ true → (a || b) ≡ true
or_right true b is = refl
or_right false b is = is

among_left : (xs ys : List ℕ) (j : ℕ) → is_among xs j ≡ true → is_among (xs ++ ys) j ≡ true
among_left [] ys j is = absurd (both_ways false refl is)
among_left (x ∷ xs) ys j is = by (x == j) is (among_left xs ys j)
  where
    by : (here : Bool) → (here || is_among xs j) ≡ true → (is_among xs j ≡ true → is_among (xs ++ ys) j ≡ true)
        → (here || is_among (xs ++ ys) j) ≡ true
    by true is rest = refl
    by false is rest = rest is

among_right : (xs ys : List ℕ) (j : ℕ) → is_among ys j ≡ true → is_among (xs ++ ys) j ≡ true
among_right [] ys j is = is
among_right (x ∷ xs) ys j is = or_right (x == j) (is_among (xs ++ ys) j) (among_right xs ys j is)

pub among_all : (nodes : List NodeTree) (k j : ℕ) (node : NodeTree) → slice_get nodes k ≡ Some node
    → is_among (targets node) j ≡ true
    → is_among (all_targets nodes) j ≡ true
among_all [] k j node is among = absurd (none-some node is)
among_all (first ∷ nodes) zero j node is among =
    among_left (targets first) (all_targets nodes) j
    (subst (λ (n : NodeTree). is_among (targets n) j ≡ true) (sym (same_Some first node is)) among)
among_all (first ∷ nodes) (suc k) j node is among =
    among_right (targets first) (all_targets nodes) j (among_all nodes k j node is among)

-- ---- numbers that are all among some are no more

-- numbers but for the first that is x
abbrev but : ℕ → List ℕ → List ℕ
but x [] = []
but x (y ∷ ys) = if y == x then ys else y ∷ but x ys

but_shorter : (x : ℕ) (ys : List ℕ) → is_among ys x ≡ true → length ys ≡ suc (length (but x ys))
but_shorter x [] among = absurd (both_ways false refl among)
but_shorter x (y ∷ ys) among = by (y == x) among (but_shorter x ys)
  where
    by : (here : Bool) → (here || is_among ys x) ≡ true → (is_among ys x ≡ true → length ys ≡ suc (length (but x ys)))
        → length (y ∷ ys) ≡ suc (length (if here then ys else y ∷ but x ys))
    by true among rest = refl
    by false among rest = let one = rest among in omega (arith, one)

but_keeps : (x z : ℕ) (ys : List ℕ) → z < x → is_among ys z ≡ true → is_among (but x ys) z ≡ true
but_keeps x z [] less among = among
but_keeps x z (y ∷ ys) less among = elim (cases_Bool (y == x)) [
  | inl here ↦ subst (λ b. is_among (if b then ys else y ∷ but x ys) z ≡ true) (sym here) (behind here (y == z) refl among)
  | inr there ↦
      subst (λ b. is_among (if b then ys else y ∷ but x ys) z ≡ true) (sym there) (on (y == z) among (but_keeps x z ys less))
]
  where
    behind : (y == x) ≡ true → (b : Bool) → (y == z) ≡ b → (b || is_among ys z) ≡ true → is_among ys z ≡ true
    behind here true is among = absurd (let a = eqb-true y z is in let c = eqb-true y x here in omega (arith, a, c, less))
    behind here false is among = among

    on : (b : Bool) → (b || is_among ys z) ≡ true → (is_among ys z ≡ true → is_among (but x ys) z ≡ true)
        → (b || is_among (but x ys) z) ≡ true
    on true among rest = refl
    on false among rest = rest among

pub no_more : (n : ℕ) (xs : List ℕ) → ((k : ℕ) → k < n → is_among xs k ≡ true) → n ≤ length xs
no_more zero xs each = omega arith
no_more (suc n) xs each =
    let shorter = but_shorter n xs (each n (omega arith)) in
    let rest = no_more n (but n xs) (λ k less. but_keeps n k xs less (each k (omega (arith, less)))) in
    omega (arith, shorter, rest)
