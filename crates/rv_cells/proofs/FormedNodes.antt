-- The lines of all nodes of orderly decisions, before the arms: they are well formed, and each label of a node stands in them.
use Rattle.std.proofs.Common.{◌≡◌, ◌≢◌, ℕ, zero, suc, ◌+◌, ◌<◌, ◌≤◌, ◌==◌, ◌⊎◌, inl, inr, true, List, []}
use Rattle.std.proofs.Common.{◌∷◌, ◌++◌, length, Option, None, Some, IsSome, refl, sym, ap, subst, ◌∙◌, arith, append_assoc}
use Rattle.std.specs.Prelude.{map, slice_get}
use Rattle.std.proofs.lemmas.Bool.{or_left, or_right, eq-eqb, cases_eq}
use Rattle.kk_syntax.specs.Shapes.{is_among as is_bound}
use Rattle.kk_core.specs.Decisions.{NodeTree, chooses, tests, targets, row_chosen}
use Rattle.kk_core.specs.declared.decisions.Edge.{Edge}
use Rattle.rv_isa.specs.declared.asm.Action.TheVariants.{Label}
use Rattle.rv_isa.specs.AsmCode.{Line}
use Rattle.rv_lower.specs.Lines.{acts}
use Rattle.rv_lower.proofs.WellFormedness.{Readable, Good, HasRoom}
use Rattle.rv_lower.proofs.AbsentLabels.{HasNo, has_no_append, found_here, alive_at_here, other_label}
use Rattle.rv_lower.proofs.Codes.{good_label}
use Rattle.rv_cells.specs.Layout.{Layout}
use Rattle.rv_cells.specs.CountedLines.{Ways, label_of, TestLines, first_lines, NodeLines, NodesLines}
use Rattle.rv_lower.proofs.Codes.{StandsAhead, stands_past}
use Rattle.rv_cells.proofs.FormedTests.{EdgesAhead, OtherAhead, first_none, test_none, jump_good, test_good}

module _ (base : ℕ) (bound : List ℕ) (has : HasRoom base bound) (nodes : ℕ) (layout : Layout) (arms rows x : ℕ)
    (is_x : is_bound bound x ≡ true) (within : arms + rows ≤ nodes) (ways : Ways)
    (lead : (j : ℕ) → ((row : ℕ) × ((row < rows) × (ways.to j ≡ arms + row))) ⊎ (ways.to j ≡ nodes + j)) where
  abbrev Bound : ℕ → Type 0
  Bound = Readable base base bound

  edges_ahead : (edges : List Edge) (code : List Line)
      → ((j : ℕ) → is_bound (map (λ (edge : Edge). edge.next) edges) j ≡ true → StandsAhead Bound (ways.to j) code)
      → EdgesAhead base bound has ways.to edges code
  edges_ahead [] code stands = tt
  edges_ahead (edge ∷ edges) code stands = (
    stands edge.next (or_left (edge.next == edge.next) (is_bound (map (λ (edge : Edge). edge.next) edges) edge.next)
        (eq-eqb edge.next edge.next refl)),
    edges_ahead edges code (λ j among. stands j (or_right (edge.next == j) (is_bound (map (λ
        (edge : Edge). edge.next) edges) j) among)),
  )

  test_ahead : (at : List ℕ) (edges : List Edge) (otherwise : Option ℕ) (code : List Line)
      → ((j : ℕ) → is_bound (targets (tests at edges otherwise)) j ≡ true → StandsAhead Bound (ways.to j) code)
      → EdgesAhead base bound has ways.to edges code × OtherAhead base bound has ways.to otherwise code
  test_ahead at edges None code stands = (edges_ahead edges code stands, tt)
  test_ahead at edges (Some other) code stands = (
    edges_ahead edges code (λ j among. stands j (or_right (other == j) (is_bound (map (λ
        (edge : Edge). edge.next) edges) j) among)),
    stands other (or_left (other == other) (is_bound (map (λ (edge : Edge). edge.next) edges) other) (eq-eqb other other refl)),
  )

  -- a node has no label but its own
  node_none : (k : ℕ) (node : NodeTree) (lines : List Line) (l : ℕ) → (nodes + k ≡ l → ⊥)
      → NodeLines layout base nodes ways x k node lines → HasNo l lines
  node_none k (chooses row) lines l other is = subst (HasNo l) (sym is) (first_none ways k l)
  node_none k (tests at edges otherwise) lines l other is =
      subst (HasNo l) (sym is.2) (
        other_label l (nodes + k) other,
        test_none layout base ways.to (ways.behind k) x at edges otherwise is.0 l is.1,
      )

  pub nodes_none : (k last : ℕ) (each : List NodeTree) (lines : List Line) → k + length each ≡ last
      → NodesLines layout base nodes ways x k each lines → (l : ℕ) → (l < nodes + k) ⊎ (nodes + last ≤ l) → HasNo l lines
  nodes_none k last [] lines size is l apart = subst (HasNo l) (sym is) tt
  nodes_none k last (node ∷ more) lines size is l apart =
      subst (HasNo l) (sym is.4) (has_no_append l is.0 is.1 (node_none k node is.0 l (λ same. differs same apart) is.2)
      (nodes_none (suc k) last more is.1 (omega (arith, size)) is.3 l (later apart)))
    where
      differs : nodes + k ≡ l → (l < nodes + k) ⊎ (nodes + last ≤ l) → ⊥
      differs same (inl under) = absurd (omega (arith, same, under))
      differs same (inr above) = absurd (omega (arith, same, above, size))

      later : (l < nodes + k) ⊎ (nodes + last ≤ l) → (l < nodes + suc k) ⊎ (nodes + last ≤ l)
      later (inl under) = inl (omega (arith, under))
      later (inr above) = inr above

  -- the nodes from one on name later ones, and rows that are there
  abbrev pub NameLater : ℕ → ℕ → List NodeTree → Type 0
  NameLater k last each = ((i j : ℕ) (node : NodeTree) → slice_get each i ≡ Some node → is_bound (targets node) j ≡ true
      → (k + i < j) × (j < last))
      × ((i row : ℕ) (node : NodeTree) → slice_get each i ≡ Some node → is_bound (row_chosen node) row ≡ true → row < rows)

  -- each of them has its label
  abbrev pub HaveLabels : ℕ → List NodeTree → Type 0
  HaveLabels k each =
      (i : ℕ) (node : NodeTree) → slice_get each i ≡ Some node → ways.to (k + i) ≡ label_of nodes arms (k + i) (Some node)

  module _ (last : ℕ) (tail : List Line) (arms_ahead : (row : ℕ) → row < rows → StandsAhead Bound (arms + row) tail)
      (good_tail : Good Bound tail) where
    abbrev NodesGood : ℕ → List Line → Type 0
    NodesGood k lines =
        Good Bound (lines ++ tail) × ((j : ℕ) → k ≤ j → j < last → StandsAhead Bound (ways.to j) (lines ++ tail))

    module _ (k : ℕ) (more : List NodeTree) (others : List Line) (size : suc k + length more ≡ last)
        (rest_is : NodesLines layout base nodes ways x (suc k) more others)
        (fresh : (l : ℕ) → nodes + k ≤ l → l < nodes + last → HasNo l tail) (rest : NodesGood (suc k) others) where
      abbrev behind : List Line
      behind = others ++ tail

      -- where a node that chooses a row leads
      arm_ahead : (row : ℕ) → row < rows → StandsAhead Bound (arms + row) (others ++ tail)
      arm_ahead row below =
          stands_past Bound (arms + row) others tail
          (nodes_none (suc k) last more others size rest_is (arms + row) (inl (omega (arith, below, within)))) (arms_ahead row below)

      first_good : (k : ℕ) → StandsAhead Bound (ways.to k) (others ++ tail) → Good Bound (first_lines ways k ++ (others ++ tail))
      first_good zero ahead = jump_good base bound has base (ways.behind 0) (ways.to 0) (others ++ tail) (omega arith) ahead rest.0
      first_good (suc k) ahead = rest.0

      -- the lines of a node before those of the others, where its label is known to stand
      with_first : (first : List Line) → Good Bound (first ++ (others ++ tail))
          → ((j : ℕ) → k ≤ j → j < last → StandsAhead Bound (ways.to j) (first ++ (others ++ tail))) → NodesGood k (first ++ others)
      with_first first good stands = (
        subst (Good Bound) (sym (append_assoc first others tail)) good,
        λ j le under. subst (StandsAhead Bound (ways.to j)) (sym (append_assoc first others tail)) (stands j le under),
      )

      choosing : (row : ℕ) (first : List Line) → first ≡ first_lines ways k → row < rows → ways.to k ≡ arms + row
          → NodesGood k (first ++ others)
      choosing row first is below own =
          subst (λ (ls : List Line). NodesGood k (ls ++ others)) (sym is)
          (with_first (first_lines ways k) (first_good k ahead)
          (λ j le under. stands_past Bound (ways.to j) (first_lines ways k) (others ++ tail) (first_none ways k (ways.to j))
          (by j le under (cases_eq k j))))
        where
          ahead : StandsAhead Bound (ways.to k) (others ++ tail)
          ahead = subst (λ l. StandsAhead Bound l (others ++ tail)) (sym own) (arm_ahead row below)

          by : (j : ℕ) → k ≤ j → j < last → (k ≡ j) ⊎ (k ≡ j → ⊥) → StandsAhead Bound (ways.to j) (others ++ tail)
          by j le under (inl same) = subst (λ j. StandsAhead Bound (ways.to j) (others ++ tail)) same ahead
          by j le under (inr differs) = let ne : k ≢ j = differs in rest.1 j (omega (arith, le, ne)) under

      testing : (at : List ℕ) (edges : List Edge) (otherwise : Option ℕ) (own : List Line)
          → TestLines layout base ways.to (ways.behind k) x at edges otherwise own
          → ((j : ℕ) → is_bound (targets (tests at edges otherwise)) j ≡ true → (k < j) × (j < last)) → ways.to k ≡ nodes + k
          → NodesGood k ((acts (Label (nodes + k)) [] ∷ own) ++ others)
      testing at edges otherwise own is names label_is = with_first (acts (Label (nodes + k)) [] ∷ own) labelled stands
        where
          ahead : EdgesAhead base bound has ways.to edges (others ++ tail) × OtherAhead base bound has ways.to otherwise (others ++ tail)
          ahead = test_ahead at edges otherwise (others ++ tail)
              (λ j among. let later = names j among in rest.1 j (omega (arith, later)) later.1)

          good : Good Bound (own ++ (others ++ tail))
          good = test_good base bound has ways.to layout (ways.behind k) x at edges otherwise own (others ++ tail) is_x is ahead.0
              ahead.1 rest.0

          own_none : (l : ℕ) → HasNo l own
          own_none l = test_none layout base ways.to (ways.behind k) x at edges otherwise own l is

          labelled : Good Bound (acts (Label (nodes + k)) [] ∷ (own ++ (others ++ tail)))
          labelled = good_label Bound (nodes + k) (own ++ (others ++ tail))
              (has_no_append (nodes + k) own (others ++ tail) (own_none (nodes + k)) (has_no_append (nodes + k) others tail
              (nodes_none (suc k) last more others size rest_is (nodes + k) (inl (omega arith)))
              (fresh (nodes + k) (omega arith) (omega (arith, size))))) good

          apart : (j : ℕ) → k < j
              → ((row : ℕ) × ((row < rows) × (ways.to j ≡ arms + row))) ⊎ (ways.to j ≡ nodes + j) → nodes + k ≡ ways.to j → ⊥
          apart j less (inl arm) same = let is = arm.1.1 in let below = arm.1.0 in absurd (omega (arith, is, below, within, same))
          apart j less (inr node) same = absurd (omega (arith, node, less, same))

          stands : (j : ℕ) → k ≤ j → j < last
              → StandsAhead Bound (ways.to j) (acts (Label (nodes + k)) [] ∷ (own ++ (others ++ tail)))
          stands j le under = by (cases_eq k j)
            where
              by : (k ≡ j) ⊎ (k ≡ j → ⊥)
                  → StandsAhead Bound (ways.to j) (acts (Label (nodes + k)) [] ∷ (own ++ (others ++ tail)))
              by (inl same) =
                  subst (λ l. StandsAhead Bound l (acts (Label (nodes + k)) [] ∷ (own ++ (others ++ tail))))
                  (sym label_is ∙ ap ways.to same) (
                    subst IsSome (sym (found_here (nodes + k) (own ++ (others ++ tail)))) refl,
                    λ v alive. good.alive v (sym (alive_at_here (nodes + k) v (own ++ (others ++ tail))) ∙ alive),
                  )
              by (inr differs) =
                  let ne : k ≢ j = differs in
                  let less : k < j = omega (arith, le, ne) in
                  stands_past Bound (ways.to j) (acts (Label (nodes + k)) [] ∷ own) (others ++ tail) (
                    other_label (ways.to j) (nodes + k) (apart j less (lead j)),
                    own_none (ways.to j),
                  )
                  (rest.1 j less under)

      one_node : (node : NodeTree) (first : List Line) → NodeLines layout base nodes ways x k node first
          → NameLater k last (node ∷ more) → ways.to k ≡ label_of nodes arms k (Some node) → NodesGood k (first ++ others)
      one_node (chooses row) first own_is names label_is =
          choosing row first own_is (names.1 0 row (chooses row) refl (or_left (row == row) (is_bound [] row) (eq-eqb row row refl)))
          label_is
      one_node (tests at edges otherwise) first own_is names label_is =
          subst (λ (ls : List Line). NodesGood k (ls ++ others)) (sym own_is.2)
          (testing at edges otherwise own_is.0 own_is.1
          (λ j among. let later = names.0 0 j (tests at edges otherwise) refl among in (omega (arith, later), later.1)) label_is)

    pub nodes_good : (k : ℕ) (each : List NodeTree) (lines : List Line) → k + length each ≡ last
        → NodesLines layout base nodes ways x k each lines → NameLater k last each → HaveLabels k each
        → ((l : ℕ) → nodes + k ≤ l → l < nodes + last → HasNo l tail) → NodesGood k lines
    nodes_good k [] lines size is names labels fresh =
        subst (NodesGood k) (sym is) (good_tail, λ j le under. absurd (omega (arith, size, le, under)))
    nodes_good k (node ∷ more) lines size is names labels fresh =
        let none : k + 0 ≡ k = omega arith in
        subst (NodesGood k) (sym is.4) (one_node k more is.1 (omega (arith, size)) is.3 fresh
        (nodes_good (suc k) more is.1 (omega (arith, size)) is.3 (
          λ i j node at among. let later = names.0 (suc i) j node at among in (omega (arith, later), later.1),
          λ i row node at among. names.1 (suc i) row node at among,
        )
        (λ i node at. let there : k + suc i ≡ suc k + i = omega arith in
        subst (λ n. ways.to n ≡ label_of nodes arms n (Some node)) there (labels (suc i) node at))
        (λ l le under. fresh l (omega (arith, le)) under))
        node is.0 is.2 names (subst (λ n. ways.to n ≡ label_of nodes arms n (Some node)) none (labels 0 node refl)))
