-- Whether an assignment obeys a graph is decided, by a walk over lists of nodes.
use Rattle.std.proofs.Common.{◌≡◌, ◌<◌, ◌≤◌, ◌++◌, ◌⊎◌, ℕ, zero, suc, List, [], ◌∷◌, length, map, get_or, set, replicate, sum_by, inl, inr, refl, ◌∙◌, ap, subst, arith}
use Rattle.std.proofs.lemmas.Bool.{cases_lt}
use Rattle.std.proofs.lemmas.List.{length_push, get_or_default}
use Rattle.kk_syntax.specs.Types.{TypeTree}
use Rattle.kk_unify.specs.declared.walk.Mark.{Mark}
use Rattle.kk_unify.specs.declared.walk.Mark.TheVariants.{New, Entered, Numbered}
use Rattle.kk_unify.specs.Graphs.{NodeTree, any_node, same_node, int32_node, unit_node, variable_node, named_node, Assignment, IsFormed, IsPrincipalOf, NoneObeys, EachGraphIsDecided}
use Rattle.kk_unify.specs.Unification.{node_at}
use Rattle.kk_unify.specs.GraphWalk.{root_at, IsRooted, arguments_of, mark_at, work_of, types_so_far, made_type, Walks}
use Rattle.kk_unify.proofs.Unifiability.{last_of}
use Rattle.kk_unify.proofs.Unification.{same_earlier}
use Rattle.kk_unify.proofs.NodeRoots.{RootsSoFar, roots_more, root_same, root_own, root_is, root_of_root}
use Rattle.kk_unify.proofs.GraphSolution.{begins_walk, made_principal}
use Rattle.kk_unify.proofs.GraphWalk.{done_from}
use Rattle.kk_unify.proofs.GraphWalk as on

-- the roots of the first nodes
roots_on : (variables : ℕ) (graph : List NodeTree) (roots : List ℕ) → IsFormed variables graph → length roots < length graph → RootsSoFar graph roots → (node : NodeTree) → node_at graph (length roots) ≡ node → (root : ℕ) × RootsSoFar graph (roots ++ (root ∷ []))
roots_on variables graph roots formed lt so_far any_node is = (length roots, roots_more variables graph roots (length roots) formed lt so_far (root_own graph roots (length roots) any_node is tt refl))
roots_on variables graph roots formed lt so_far (same_node to) is =
    (root_at roots to, roots_more variables graph roots (root_at roots to) formed lt so_far (root_same graph roots to (root_at roots to) is (same_earlier variables graph (length roots) to formed lt is) refl))
roots_on variables graph roots formed lt so_far int32_node is = (length roots, roots_more variables graph roots (length roots) formed lt so_far (root_own graph roots (length roots) int32_node is tt refl))
roots_on variables graph roots formed lt so_far unit_node is = (length roots, roots_more variables graph roots (length roots) formed lt so_far (root_own graph roots (length roots) unit_node is tt refl))
roots_on variables graph roots formed lt so_far (variable_node of) is = (length roots, roots_more variables graph roots (length roots) formed lt so_far (root_own graph roots (length roots) (variable_node of) is tt refl))
roots_on variables graph roots formed lt so_far (named_node by arguments) is = (length roots, roots_more variables graph roots (length roots) formed lt so_far (root_own graph roots (length roots) (named_node by arguments) is tt refl))

first_roots : (variables : ℕ) (graph : List NodeTree) → IsFormed variables graph → (count : ℕ) → count ≤ length graph → (roots : List ℕ) × (length roots ≡ count) × RootsSoFar graph roots
first_roots variables graph formed zero le = ([], refl, λ i lt. absurd (omega (arith, lt)))
first_roots variables graph formed (suc count) le =
    let before = first_roots variables graph formed count (omega (arith, le)) in
    let next = roots_on variables graph before.0 formed (omega (arith, before.1, le)) before.2 (node_at graph (length before.0)) refl in
    (before.0 ++ (next.0 ∷ []), omega (arith, length_push before.0 next.0, before.1), next.1)

all_roots : (variables : ℕ) (graph : List NodeTree) → IsFormed variables graph → (roots : List ℕ) × IsRooted variables graph roots
all_roots variables graph formed =
    let all = first_roots variables graph formed (length graph) (omega arith) in
    (all.0, record { formed = formed; rooted = record { as_long = all.1; each = λ i lt. all.2 i (omega (arith, lt, all.1)) } })

-- either holds of each number below one, or the other of one of them
either : (A B : ℕ → Type 0) (n : ℕ) → ((i : ℕ) → i < n → A i ⊎ B i) → ((i : ℕ) → i < n → A i) ⊎ ((i : ℕ) × (i < n) × B i)
either A B zero each = inl (λ i lt. absurd (omega (arith, lt)))
either A B (suc n) each =
    last (either A B n (λ i lt. each i (omega (arith, lt)))) (each n (omega arith))
  where
    last : ((i : ℕ) → i < n → A i) ⊎ ((i : ℕ) × (i < n) × B i) → A n ⊎ B n → ((i : ℕ) → i < suc n → A i) ⊎ ((i : ℕ) × (i < suc n) × B i)
    last (inl all) (inl here) = inl (λ i lt. elim (cases_lt i n) [ inl before ↦ all i before | inr past ↦ (let is : n ≡ i = omega (arith, past, lt) in subst A is here) ])
    last (inl all) (inr here) = inr (n, omega arith, here)
    last (inr (i, lt, found)) here = inr (i, omega (arith, lt), found)

-- a mark is a number, or it is none
abbrev Is : Mark → Type 0
Is mark = (number : ℕ) × (mark ≡ Numbered number)

number_or_none : (mark : Mark) → Is mark ⊎ ((mark ≡ New) ⊎ (mark ≡ Entered))
number_or_none New = inr (inl refl)
number_or_none Entered = inr (inr refl)
number_or_none (Numbered number) = inl (number, refl)

abbrev Decides : ℕ → List NodeTree → Type 0
Decides variables graph = ((types : Assignment) × IsPrincipalOf variables graph types) ⊎ NoneObeys graph

module _ (variables : ℕ) (graph : List NodeTree) (roots : List ℕ) (rooted : IsRooted variables graph roots) where
  -- what a turn of a walk needs: the walk that goes on
  abbrev Later : List Mark → Type 0
  Later marks = (more : List Mark) (trail : List ℕ) (types : List TypeTree) → sum_by work_of more < sum_by work_of marks → Walks variables graph roots more trail types → Decides variables graph

  -- no node is on the way
  none_on_the_way : (marks : List Mark) (types : List TypeTree) → Walks variables graph roots marks [] types → Later marks → ((i : ℕ) → i < length graph → Is (mark_at marks (root_at roots i))) ⊎ ((i : ℕ) × (i < length graph) × ((mark_at marks (root_at roots i) ≡ New) ⊎ (mark_at marks (root_at roots i) ≡ Entered))) → Decides variables graph
  none_on_the_way marks types walks later (inl all) = inl (types_so_far roots marks types, made_principal variables graph roots rooted marks types walks.numbered all)
  none_on_the_way marks types walks later (inr (i, lt, inl new)) =
      let root = root_at roots i in
      let below = (root_is variables graph roots rooted.formed rooted.rooted i lt).below in
      let within : root < length graph = omega (arith, below, lt) in
      later (set marks root Entered) (root ∷ []) types (on.entered_less variables graph roots rooted marks root new (omega (arith, within, walks.as_long)))
      (on.walks_entered variables graph roots rooted marks [] types root walks within (root_of_root variables graph roots rooted.formed rooted.rooted i lt) new (λ r obeys p h. absurd (omega (arith, h))))
  none_on_the_way marks types walks later (inr (i, lt, inr entered)) =
      let place = walks.held (root_at roots i) entered in
      let nowhere = place.1 in
      absurd (omega (arith, nowhere))

  -- a node is on the way
  one_on_the_way : (marks : List Mark) (front : List ℕ) (i : ℕ) (types : List TypeTree) → Walks variables graph roots marks (front ++ (i ∷ [])) types → Later marks → ((k : ℕ) → k < length (arguments_of (node_at graph i)) → Is (mark_at marks (root_at roots (get_or (arguments_of (node_at graph i)) k 0)))) ⊎ ((k : ℕ) × (k < length (arguments_of (node_at graph i))) × ((mark_at marks (root_at roots (get_or (arguments_of (node_at graph i)) k 0)) ≡ New) ⊎ (mark_at marks (root_at roots (get_or (arguments_of (node_at graph i)) k 0)) ≡ Entered))) → Decides variables graph
  one_on_the_way marks front i types walks later (inl all) =
      later (set marks i (Numbered (length types))) front (types ++ (made_type variables i (map (types_so_far roots marks types) (arguments_of (node_at graph i))) (node_at graph i) ∷ [])) (on.left_less variables graph roots rooted marks front types i walks (length types))
      (on.walks_left variables graph roots rooted marks front types i walks (λ k d h.
      let argument = root_at roots (get_or (arguments_of (node_at graph i)) k d) in
      let number = (all k h).0 in
      let is : mark_at marks argument ≡ Numbered number = ap (λ a. mark_at marks (root_at roots a)) (get_or_default (arguments_of (node_at graph i)) k d 0 h) ∙ (all k h).1 in
      done_from (length types) number (mark_at marks argument) is (walks.numbered argument number is).within))
  one_on_the_way marks front i types walks later (inr (k, lt, inl new)) =
      let child = root_at roots (get_or (arguments_of (node_at graph i)) k 0) in
      let within : child < length graph = on.child_within variables graph roots rooted marks front types i walks k lt in
      later (set marks child Entered) (front ++ (i ∷ []) ++ (child ∷ [])) types (on.entered_less variables graph roots rooted marks child new (omega (arith, within, walks.as_long)))
      (on.walks_entered variables graph roots rooted marks (front ++ (i ∷ [])) types child walks within (on.child_root variables graph roots rooted marks front types i walks k lt) new (on.falls_on variables graph roots rooted marks front types i k walks lt))
  one_on_the_way marks front i types walks later (inr (k, lt, inr entered)) = inr (on.walks_again variables graph roots rooted marks front types i k walks lt entered)

  turn : (marks : List Mark) (trail : List ℕ) (types : List TypeTree) → Walks variables graph roots marks trail types → Later marks → (trail ≡ []) ⊎ ((front : List ℕ) × (last : ℕ) × (trail ≡ front ++ (last ∷ []))) → Decides variables graph
  turn marks trail types walks later (inl none) =
      let P : List ℕ → Type 0 = λ t. Walks variables graph roots marks t types in
      none_on_the_way marks types (subst P none walks) later (either (λ i. Is (mark_at marks (root_at roots i))) (λ i. (mark_at marks (root_at roots i) ≡ New) ⊎ (mark_at marks (root_at roots i) ≡ Entered)) (length graph) (λ i lt. number_or_none (mark_at marks (root_at roots i))))
  turn marks trail types walks later (inr (front, i, is)) =
      let P : List ℕ → Type 0 = λ t. Walks variables graph roots marks t types in
      let at : ℕ → Mark = λ k. mark_at marks (root_at roots (get_or (arguments_of (node_at graph i)) k 0)) in
      one_on_the_way marks front i types (subst P is walks) later (either (λ k. Is (at k)) (λ k. (at k ≡ New) ⊎ (at k ≡ Entered)) (length (arguments_of (node_at graph i))) (λ k lt. number_or_none (at k)))

  walked : (n : ℕ) (marks : List Mark) (trail : List ℕ) (types : List TypeTree) → sum_by work_of marks < n → Walks variables graph roots marks trail types → Decides variables graph
  walked zero marks trail types less walks = absurd (omega (arith, less))
  walked (suc n) marks trail types less walks =
      turn marks trail types walks (λ more trail' types' lighter walks'. walked n more trail' types' (omega (arith, lighter, less)) walks') (last_of trail)

pub each_graph_is_decided : EachGraphIsDecided
each_graph_is_decided variables graph formed =
    let all = all_roots variables graph formed in
    let marks = replicate (length graph) New in
    walked variables graph all.0 all.1 (suc (sum_by work_of marks)) marks [] [] (omega arith) (begins_walk variables graph all.0)
