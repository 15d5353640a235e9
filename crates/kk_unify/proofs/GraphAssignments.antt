-- Obeying a graph, node by node.
use Rattle.std.proofs.Common.{◌≡◌, ◌≢◌, ◌<◌, ◌≤◌, ◌+◌, ℕ, suc, List, [], ◌∷◌, ◌++◌, length, map, get_or, set, All, inl, inr, refl, sym, ◌∙◌, ap, subst, arith}
use Rattle.std.proofs.lemmas.Bool.{cases_eq, cases_lt}
use Rattle.std.proofs.lemmas.List.{get_or-set_other, get_or-set_same, length-set, get_or_append_left, get_or_push, length_push, get_or_past}
use Rattle.std.proofs.lemmas.Option.{slice_get-get_or, slice_get_within, get_or_from_slice_get}
use Rattle.kk_syntax.specs.Types.{named, types_of}
use Rattle.kk_unify.specs.Graphs.{NodeTree, any_node, same_node, int32_node, unit_node, variable_node, named_node, Assignment, Holds, Obeys, IsNodeFormed, IsFormed, Adds}
use Rattle.kk_unify.specs.Unification.{node_at}
use Rattle.kk_unify.specs.Locality.{ObeyingIsLocal}

pub obeyed_at : (graph : List NodeTree) (r : Assignment) → Obeys graph r → (i : ℕ) → Holds r i (node_at graph i)
obeyed_at graph r obeys i =
    elim (cases_lt i (length graph)) [
      | inl lt ↦ obeys i (node_at graph i) (slice_get-get_or graph i any_node lt)
      | inr past ↦ let P : NodeTree → Type 0 = Holds r i in subst P (sym (get_or_past graph i any_node past)) tt
    ]

pub obeys_from : (graph : List NodeTree) (r : Assignment) → ((i : ℕ) → i < length graph → Holds r i (node_at graph i)) → Obeys graph r
obeys_from graph r each i node is =
    let P : NodeTree → Type 0 = Holds r i in
    subst P (get_or_from_slice_get graph i node any_node is) (each i (slice_get_within graph i node is))

pub formed_at : (variables : ℕ) (graph : List NodeTree) → IsFormed variables graph → (i : ℕ) → i < length graph → IsNodeFormed variables (length graph) i (node_at graph i)
formed_at variables graph formed i lt = formed i (node_at graph i) (slice_get-get_or graph i any_node lt)

pub formed_from : (variables : ℕ) (graph : List NodeTree) → ((i : ℕ) → i < length graph → IsNodeFormed variables (length graph) i (node_at graph i)) → IsFormed variables graph
formed_from variables graph each i node is =
    let P : NodeTree → Type 0 = IsNodeFormed variables (length graph) i in
    subst P (get_or_from_slice_get graph i node any_node is) (each i (slice_get_within graph i node is))

-- two functions that agree at each element of a list
pub map_agree : {X Y : Type 0} (f g : X → Y) (xs : List X) → All (λ x. f x ≡ g x) xs → map f xs ≡ map g xs
map_agree f g [] all = refl
map_agree f g (x ∷ xs) all =
    let here : f x ≡ g x = all 0 x (omega arith) in
    let rest : map f xs ≡ map g xs = map_agree f g xs (λ k d h. all (suc k) d (omega (arith, h))) in
    cc

-- a node of one type is obeyed by what agrees at it and at those that it names
holds_agree : (variables size i : ℕ) (node : NodeTree) (r q : Assignment) → IsNodeFormed variables size i node → i < size → ((j : ℕ) → j < size → r j ≡ q j) → Holds r i node → Holds q i node
holds_agree variables size i any_node r q formed lt agree holds = tt
holds_agree variables size i (same_node to) r q formed lt agree holds =
    sym (agree i lt) ∙ holds ∙ agree to (omega (arith, formed, lt))
holds_agree variables size i int32_node r q formed lt agree holds = sym (agree i lt) ∙ holds
holds_agree variables size i unit_node r q formed lt agree holds = sym (agree i lt) ∙ holds
holds_agree variables size i (variable_node of) r q formed lt agree holds = sym (agree i lt) ∙ holds
holds_agree variables size i (named_node by arguments) r q formed lt agree holds =
    sym (agree i lt) ∙ holds ∙ ap (λ ts. named by (types_of ts)) (map_agree r q arguments (λ k d h. agree (get_or arguments k d) (formed k d h)))

pub obeying_is_local : ObeyingIsLocal
obeying_is_local variables graph r q formed agree obeys =
    obeys_from graph q (λ i lt. holds_agree variables (length graph) i (node_at graph i) r q (formed_at variables graph formed i lt) lt agree (obeyed_at graph r obeys i))

-- a node of the same type obeys the same
pub holds_moved : (r : Assignment) (i j : ℕ) (node : NodeTree) → r i ≡ r j → Holds r i node → Holds r j node
holds_moved r i j any_node same holds = tt
holds_moved r i j (same_node to) same holds = sym same ∙ holds
holds_moved r i j int32_node same holds = sym same ∙ holds
holds_moved r i j unit_node same holds = sym same ∙ holds
holds_moved r i j (variable_node of) same holds = sym same ∙ holds
holds_moved r i j (named_node by arguments) same holds = sym same ∙ holds

-- what a node names is there in a longer graph
pub formed_longer : (variables size more i : ℕ) (node : NodeTree) → size ≤ more → IsNodeFormed variables size i node → IsNodeFormed variables more i node
formed_longer variables size more i any_node le formed = tt
formed_longer variables size more i (same_node to) le formed = formed
formed_longer variables size more i int32_node le formed = tt
formed_longer variables size more i unit_node le formed = tt
formed_longer variables size more i (variable_node of) le formed = formed
formed_longer variables size more i (named_node by arguments) le formed = λ k d h. let below = formed k d h in omega (arith, below, le)

-- a node more
pub formed_more : (variables : ℕ) (graph : List NodeTree) (node : NodeTree) → IsFormed variables graph → IsNodeFormed variables (length graph) (length graph) node → IsFormed variables (graph ++ (node ∷ []))
formed_more variables graph node formed here =
    formed_from variables (graph ++ (node ∷ [])) (λ i lt.
    let longer : length (graph ++ (node ∷ [])) ≡ length graph + 1 = length_push graph node in
    let le : length graph ≤ length (graph ++ (node ∷ [])) = omega (arith, longer) in
    elim (cases_lt i (length graph)) [
      | inl within ↦
          let P : NodeTree → Type 0 = IsNodeFormed variables (length (graph ++ (node ∷ []))) i in
          subst P (sym (get_or_append_left graph (node ∷ []) any_node i within)) (formed_longer variables _ _ i (node_at graph i) le (formed_at variables graph formed i within))
      | inr past ↦
          let last : length graph ≡ i = omega (arith, longer, lt, past) in
          let P : NodeTree → Type 0 = IsNodeFormed variables (length (graph ++ (node ∷ []))) i in
          let Q : ℕ → Type 0 = λ k. IsNodeFormed variables (length graph) k node in
          subst P (sym (get_or_push graph node any_node i last)) (formed_longer variables _ _ i node le (subst Q last here))
    ])

pub added : (graph : List NodeTree) (node : NodeTree) (Means : Assignment → Type 0) → ((r : Assignment) → Means r → Holds r (length graph) node) → ((r : Assignment) → Holds r (length graph) node → Means r) → Adds graph (graph ++ (node ∷ [])) (length graph) Means
added graph node Means says told = record {
  number_is = refl;
  longer = length_push graph node ∙ omega arith;
  onward = λ r obeys means.
      obeys_from (graph ++ (node ∷ [])) r (λ i lt.
      elim (cases_lt i (length graph)) [
        | inl within ↦
            let P : NodeTree → Type 0 = Holds r i in
            subst P (sym (get_or_append_left graph (node ∷ []) any_node i within)) (obeyed_at graph r obeys i)
        | inr past ↦
            let last : length graph ≡ i = omega (arith, length_push graph node, lt, past) in
            let P : NodeTree → Type 0 = Holds r i in
            let Q : ℕ → Type 0 = λ k. Holds r k node in
            subst P (sym (get_or_push graph node any_node i last)) (subst Q last (says r means))
      ]);
  back = λ r obeys. (
    obeys_from graph r (λ i within.
        let P : NodeTree → Type 0 = Holds r i in
        subst P (get_or_append_left graph (node ∷ []) any_node i within) (obeyed_at (graph ++ (node ∷ [])) r obeys i)),
    (let P : NodeTree → Type 0 = Holds r (length graph) in
        told r (subst P (get_or_push graph node any_node (length graph) refl) (obeyed_at (graph ++ (node ∷ [])) r obeys (length graph)))),
  );
}

pub set_at : (graph : List NodeTree) (i k : ℕ) (node : NodeTree) → k ≡ i → k < length graph → node_at (set graph i node) k ≡ node
set_at graph i k node same within =
    let P : ℕ → Type 0 = λ n. n < length graph in
    ap (λ n. node_at (set graph i node) n) same ∙ get_or-set_same graph i node any_node (subst P same within)

-- A node is set: it is formed, obeyed after, and obeyed before.
pub formed_set : (variables : ℕ) (graph : List NodeTree) (i : ℕ) (node : NodeTree) → IsFormed variables graph → IsNodeFormed variables (length graph) i node → IsFormed variables (set graph i node)
formed_set variables graph i node formed here =
    formed_from variables (set graph i node) (λ k lt.
    let as_long : length (set graph i node) ≡ length graph = length-set graph i node in
    let within : k < length graph = omega (arith, as_long, lt) in
    let P : ℕ → Type 0 = λ n. IsNodeFormed variables n k (node_at (set graph i node) k) in
    subst P (sym as_long) (elim (cases_eq k i) [
      | inl same ↦
          let Q : NodeTree → Type 0 = IsNodeFormed variables (length graph) k in
          let R : ℕ → Type 0 = λ n. IsNodeFormed variables (length graph) n node in
          subst Q (sym (set_at graph i k node same within)) (subst R (sym same) here)
      | inr other ↦
          let Q : NodeTree → Type 0 = IsNodeFormed variables (length graph) k in
          subst Q (sym (get_or-set_other graph i k node any_node other)) (formed_at variables graph formed k within)
    ]))

pub obeyed_set : (graph : List NodeTree) (i : ℕ) (node : NodeTree) (r : Assignment) → Holds r i node → ((k : ℕ) → k ≢ i → Holds r k (node_at graph k)) → Obeys (set graph i node) r
obeyed_set graph i node r here others =
    obeys_from (set graph i node) r (λ k lt.
    let within : k < length graph = omega (arith, length-set graph i node, lt) in
    let P : NodeTree → Type 0 = Holds r k in
    elim (cases_eq k i) [
      | inl same ↦
          let Q : ℕ → Type 0 = λ n. Holds r n node in
          subst P (sym (set_at graph i k node same within)) (subst Q (sym same) here)
      | inr other ↦ subst P (sym (get_or-set_other graph i k node any_node other)) (others k other)
    ])

pub obeyed_before : (graph : List NodeTree) (i : ℕ) (node : NodeTree) (r : Assignment) → Obeys (set graph i node) r → i < length graph → Holds r i node × ((k : ℕ) → k ≢ i → Holds r k (node_at graph k))
obeyed_before graph i node r obeys lt = (
  (let P : NodeTree → Type 0 = Holds r i in
      subst P (set_at graph i i node refl lt) (obeyed_at (set graph i node) r obeys i)),
  λ k other.
      let P : NodeTree → Type 0 = Holds r k in
      subst P (get_or-set_other graph i k node any_node other) (obeyed_at (set graph i node) r obeys k),
)

pub obeys_each : (graph : List NodeTree) (i : ℕ) (r : Assignment) → Holds r i (node_at graph i) → ((k : ℕ) → k ≢ i → Holds r k (node_at graph k)) → Obeys graph r
obeys_each graph i r here others =
    obeys_from graph r (λ k lt. elim (cases_eq k i) [
      | inl same ↦ (let P : ℕ → Type 0 = λ n. Holds r n (node_at graph n) in subst P (sym same) here)
      | inr other ↦ others k other
    ])
