-- Whether two nodes can be of one type is decided, by the steps of a join over lists of nodes.
use Rattle.std.proofs.Common.{◌≡◌, ◌<◌, ◌+◌, ◌++◌, ◌⊎◌, ℕ, zero, suc, min, max, Bool, true, false, List, [], ◌∷◌, length, Ok, inl, inr, refl, sym, ◌∙◌, ap, subst, arith}
use Rattle.std.proofs.lemmas.Bool.{cases_eq, cases_lt}
use Rattle.std.proofs.lemmas.List.{length_push}
use Rattle.std.proofs.lemmas.List.Elements.{All-nil}
use Rattle.kk_unify.specs.Graphs.{NodeTree, any_node, same_node, int32_node, unit_node, variable_node, named_node, IsFormed, Joins, Clashes, EachJoinIsDecided}
use Rattle.kk_unify.specs.Unification.{Pair, node_at, IsHead, weight, heads_agree, merged, met, linked, Finds, Steps}
use Rattle.kk_unify.proofs.GraphAssignments.{formed_at}
use Rattle.kk_unify.proofs.Unification.{alike_refl, leads_refl, same_holds, same_earlier, linked_steps, linked_formed, linked_clash, merged_formed}
use Rattle.kk_unify.proofs.NodePairs.{steps_found, pair_joined, pair_within, steps_on, clash_on, steps_done}

-- the node that gives a type
found_itself : (graph : List NodeTree) (i : ℕ) (node : NodeTree) → node_at graph i ≡ node → IsHead node → (found : ℕ) × Finds graph graph i found
found_itself graph i node is head =
    let P : NodeTree → Type 0 = IsHead in
    (i, record { leads = leads_refl graph i; head = subst P (sym is) head })

found_further : (variables : ℕ) (graph : List NodeTree) (i to : ℕ) → IsFormed variables graph → i < length graph → node_at graph i ≡ same_node to → (found : ℕ) × Finds graph graph to found → (found : ℕ) × Finds graph graph i found
found_further variables graph i to formed lt is (found, finds) =
    let earlier = same_earlier variables graph i to formed lt is in
    let below = finds.leads.below in (
      found,
      record {
        leads = record {
          alike = alike_refl graph;
          below = omega (arith, earlier, below);
          same = λ r obeys. same_holds graph r i to obeys is ∙ finds.leads.same r obeys;
        };
        head = finds.head;
      },
    )

find_by : (variables : ℕ) (graph : List NodeTree) (i : ℕ) → IsFormed variables graph → i < length graph → ((to : ℕ) → to < i → (found : ℕ) × Finds graph graph to found) → (node : NodeTree) → node_at graph i ≡ node → (found : ℕ) × Finds graph graph i found
find_by variables graph i formed within before any_node is = found_itself graph i any_node is tt
find_by variables graph i formed within before (same_node to) is =
    found_further variables graph i to formed within is (before to (same_earlier variables graph i to formed within is))
find_by variables graph i formed within before int32_node is = found_itself graph i int32_node is tt
find_by variables graph i formed within before unit_node is = found_itself graph i unit_node is tt
find_by variables graph i formed within before (variable_node of) is = found_itself graph i (variable_node of) is tt
find_by variables graph i formed within before (named_node by arguments) is = found_itself graph i (named_node by arguments) is tt

find_node : (variables : ℕ) (graph : List NodeTree) → IsFormed variables graph → (n i : ℕ) → i < n → i < length graph → (found : ℕ) × Finds graph graph i found
find_node variables graph formed zero i lt within = absurd (omega (arith, lt))
find_node variables graph formed (suc n) i lt within =
    find_by variables graph i formed within (λ to earlier. find_node variables graph formed n to (omega (arith, earlier, lt)) (omega (arith, earlier, within))) (node_at graph i) refl

-- one pair is decided
abbrev DecidesStep : ℕ → List NodeTree → List Pair → ℕ → ℕ → Type 0
DecidesStep variables now pairs a b = ((new : List NodeTree) × (left : List Pair) × IsFormed variables new × Steps now pairs a b new left) ⊎ Clashes now a b

decided_heads : (variables : ℕ) (now : List NodeTree) (pairs : List Pair) (low high : ℕ) (agree : Bool) → heads_agree (node_at now low) (node_at now high) ≡ agree → IsFormed variables now → low < high → high < length now → IsHead (node_at now low) → IsHead (node_at now high) → DecidesStep variables now pairs low high
decided_heads variables now pairs low high true is formed order within lower upper =
    let below = formed_at variables now formed low (omega (arith, order, within)) in
    let above = formed_at variables now formed high within in
    inl (linked now low high, pairs ++ met (node_at now low) (node_at now high), linked_formed variables now low high (merged (node_at now low) (node_at now high)) formed order within (merged_formed variables (length now) low high (node_at now low) (node_at now high) upper below above), linked_steps variables now pairs low high formed order within is)
decided_heads variables now pairs low high false is formed order within lower upper = inr (linked_clash now low high lower upper is)

decided_step : (variables : ℕ) (now : List NodeTree) (pairs : List Pair) (a b : ℕ) → IsFormed variables now → a < length now → b < length now → DecidesStep variables now pairs a b
decided_step variables now pairs a b formed lt lt' =
    by_found (find_node variables now formed (suc a) a (omega arith) lt) (find_node variables now formed (suc b) b (omega arith) lt')
  where
    carried : (x y : ℕ) → Finds now now a x → Finds now now b y → DecidesStep variables now pairs (min x y) (max x y) → DecidesStep variables now pairs a b
    carried x y one other (inl (new, left, formed_new, steps)) = inl (new, left, formed_new, pair_joined now now now a b x y one other pairs left new (min x y) (max x y) (Ok true) refl refl steps)
    carried x y one other (inr clash) = inr (pair_joined now now now a b x y one other pairs pairs now (min x y) (max x y) (Ok false) refl refl clash)

    by_found : (x : ℕ) × Finds now now a x → (y : ℕ) × Finds now now b y → DecidesStep variables now pairs a b
    by_found (x, one) (y, other) =
        elim (cases_eq x y) [
          | inl same ↦ inl (now, pairs, formed, steps_found now now now a b x y one other pairs same)
          | inr apart ↦
              let left = one.leads.below in
              let right = other.leads.below in
              let order : min x y < max x y =
              elim (cases_lt x y) [ inl less ↦ omega (arith, less) | inr more ↦ elim (cases_eq x y) [ inl same ↦ absurd (apart same) | inr other' ↦ omega (arith, more, other') ] ] in
              let P : ℕ → Type 0 = λ n. IsHead (node_at now n) in
              let low : P (min x y) = elim (cases_lt x y) [ inl less ↦ (let is : min x y ≡ x = omega (arith, less) in subst P (sym is) one.head) | inr more ↦ (let is : min x y ≡ y = omega (arith, more) in subst P (sym is) other.head) ] in
              let high : P (max x y) = elim (cases_lt x y) [ inl less ↦ (let is : max x y ≡ y = omega (arith, less) in subst P (sym is) other.head) | inr more ↦ (let is : max x y ≡ x = omega (arith, more) in subst P (sym is) one.head) ] in
              carried x y one other (decided_heads variables now pairs (min x y) (max x y) (heads_agree (node_at now (min x y)) (node_at now (max x y))) refl formed order (omega (arith, left, right, lt, lt')) low high)
        ]

-- a list is empty, or it has a last element
pub last_of : {X : Type 0} (xs : List X) → (xs ≡ []) ⊎ ((front : List X) × (last : X) × (xs ≡ front ++ (last ∷ [])))
last_of [] = inl refl
last_of {X} (x ∷ xs) = inr (longer (last_of xs))
  where
    longer : (xs ≡ []) ⊎ ((front : List X) × (last : X) × (xs ≡ front ++ (last ∷ []))) → (front : List X) × (last : X) × (x ∷ xs ≡ front ++ (last ∷ []))
    longer (inl none) = ([], x, ap (λ ys. x ∷ ys) none)
    longer (inr (front, last, is)) = (x ∷ front, last, ap (λ ys. x ∷ ys) is)

abbrev DecidesJoin : ℕ → List NodeTree → ℕ → ℕ → Type 0
DecidesJoin variables graph a b = ((new : List NodeTree) × IsFormed variables new × Joins graph new a b) ⊎ Clashes graph a b

-- the pairs that are left are decided, one after the other
module _ (variables : ℕ) (graph : List NodeTree) (a b : ℕ) (now : List NodeTree) (pairs : List Pair) (formed : IsFormed variables now) (steps : Steps graph [] a b now pairs) (later : (new : List NodeTree) (left : List Pair) → weight new + length left < weight now + length pairs → IsFormed variables new → Steps graph [] a b new left → DecidesJoin variables graph a b) where
  by_step : (front : List Pair) (last : Pair) (is : pairs ≡ front ++ (last ∷ [])) → DecidesStep variables now front last.0 last.1 → DecidesJoin variables graph a b
  by_step front last is (inl (new, left, formed_new, step)) =
      let lighter = step.lighter in
      later new left (omega (arith, lighter, ap length is, length_push front last)) formed_new (steps_on graph a b now front last pairs is steps left new step)
  by_step front last is (inr clash) = inr (clash_on graph a b now front last pairs is steps clash)

  by_last : (pairs ≡ []) ⊎ ((front : List Pair) × (last : Pair) × (pairs ≡ front ++ (last ∷ []))) → DecidesJoin variables graph a b
  by_last (inl none) = inl (now, formed, steps_done graph a b now pairs none steps)
  by_last (inr (front, last, is)) =
      let within = (pair_within graph a b now front last pairs is steps (steps.within (All-nil (λ (p : Pair). (p.0 < length graph) × (p.1 < length graph))))).1 in
      by_step front last is (decided_step variables now front last.0 last.1 formed within.0 within.1)

decided_pairs : (variables : ℕ) (graph : List NodeTree) (a b n : ℕ) (now : List NodeTree) (pairs : List Pair) → weight now + length pairs < n → IsFormed variables now → Steps graph [] a b now pairs → DecidesJoin variables graph a b
decided_pairs variables graph a b zero now pairs less formed steps = absurd (omega (arith, less))
decided_pairs variables graph a b (suc n) now pairs less formed steps =
    by_last variables graph a b now pairs formed steps (λ new left lighter formed_new steps_new. decided_pairs variables graph a b n new left (omega (arith, lighter, less)) formed_new steps_new) (last_of pairs)

pub each_join_is_decided : EachJoinIsDecided
each_join_is_decided variables graph a b formed lt lt' =
    first (decided_step variables graph [] a b formed lt lt')
  where
    first : DecidesStep variables graph [] a b → DecidesJoin variables graph a b
    first (inl (new, left, formed_new, steps)) = decided_pairs variables graph a b (suc (weight new + length left)) new left (omega arith) formed_new steps
    first (inr clash) = inr clash
