-- The lines of a case: those of its decisions before those of its arms, each behind its label.
use Rattle.std.proofs.Common.{◌≡◌, ℕ, zero, suc, ◌+◌, ◌<◌, ◌≤◌, ◌⊎◌, inl, inr, true, List, [], ◌∷◌, ◌++◌, length, Option, None, Some, IsSome, refl}
use Rattle.std.specs.Prelude.{◌==◌, slice_get}
use Rattle.std.proofs.lemmas.Bool.{or_left, eq-eqb}
use Rattle.std.proofs.Common.{sym, ap, subst, ◌∙◌, arith, append_assoc}
use Rattle.kk_syntax.specs.Shapes.{is_among as is_bound}
use Rattle.kk_counted.specs.Arms.{arm_count}
use Rattle.kk_counted.specs.CountBounds.{HasAnArm}
use Rattle.kk_counted.specs.CountedCodes.{CountedArms, no_arm, arm}
use Rattle.kk_core.specs.Decisions.{NodeTree, chooses, tests, AreOrderly}
use Rattle.rv_isa.specs.declared.asm.Action.TheVariants.{Label, Branch}
use Rattle.rv_isa.specs.AsmCode.{Line}
use Rattle.rv_isa.specs.WellFormed.{is_alive}
use Rattle.rv_lower.specs.Lines.{acts}
use Rattle.rv_lower.specs.Lowered.{Goal}
use Rattle.rv_lower.proofs.WellFormedness.{Readable, AreFormed, Good, HasRoom, readable_small}
use Rattle.rv_lower.proofs.AbsentLabels.{HasNo, has_no_append, found_here, alive_at_here, other_label}
use Rattle.rv_lower.proofs.Codes.{Ahead, Fits, good_label, goal_up, goal_later}
use Rattle.rv_cells.specs.Layout.{Layout}
use Rattle.rv_cells.specs.declared.compare.Branching.{Branching}
use Rattle.rv_cells.specs.CountedLines.{label_of, ways_of, NodesLines}
use Rattle.rv_lower.proofs.Codes.{StandsAhead, stands_past, good_branch}
use Rattle.rv_cells.proofs.FormedNodes.{NameLater, HaveLabels, nodes_none, nodes_good}

-- a case that has an arm has some
pub some_arm : (arms : CountedArms) → HasAnArm arms → 0 < arm_count arms
some_arm no_arm some = absurd some
some_arm (arm body rest) some = omega arith

-- the arms before well-formed code: their labels stand there, and where there is an arm only what is bound is alive before them
pub record ArmsGood (base : ℕ) (bound : List ℕ) (label rows : ℕ) (code : List Line) : Type 0 where
  pub formed : AreFormed code
  pub stands : (row : ℕ) → row < rows → StandsAhead (Readable base base bound) (label + row) code
  pub alive : 0 < rows → (v : ℕ) → is_alive v code ≡ true → Readable base base bound v

-- The lines of so many arms, whose labels are those from `label` on, and those in their code from `low` on, below `high`.
pub record ArmsFit (base : ℕ) (bound outer : List ℕ) (goal : Goal) (label rows low high : ℕ) (lines : List Line) : Type 0 where
  pub up : low ≤ high
  pub outside : (l : ℕ) → (l < label) ⊎ (high ≤ l) → HasNo l lines
  pub between : (l : ℕ) → label + rows ≤ l → l < low → HasNo l lines
  pub good : (tail : List Line) → Ahead base outer goal label high tail → ArmsGood base bound label rows (lines ++ tail)

pub arms_none : (base : ℕ) (bound outer : List ℕ) (goal : Goal) (label low : ℕ) → ArmsFit base bound outer goal label 0 low low []
arms_none base bound outer goal label low = record {
  up = omega arith;
  outside = λ l apart. tt;
  between = λ l le less. tt;
  good = λ tail ahead. record {
    formed = ahead.formed;
    stands = λ row less. absurd (omega (arith, less));
    alive = λ less v is. absurd (omega (arith, less));
  };
}

-- an arm before others
module _ (base : ℕ) (bound outer : List ℕ) (goal : Goal) (label rows low middle high : ℕ) (first more : List Line)
    (one : Fits base bound outer goal low middle first) (rest : ArmsFit base bound outer goal (label + 1) rows middle high more)
    (under : label + suc rows ≤ low) where
  abbrev Bound : ℕ → Type 0
  Bound = Readable base base bound

  abbrev arm_lines : List Line
  arm_lines = acts (Label label) [] ∷ (first ++ more)

  arm_none : (l : ℕ) → (label ≡ l → ⊥) → HasNo l first → HasNo l more → HasNo l arm_lines
  arm_none l other none later = (other_label l label other, has_no_append l first more none later)

  outside : (l : ℕ) → (l < label) ⊎ (high ≤ l) → HasNo l arm_lines
  outside l (inl less) =
      arm_none l (λ same. absurd (omega (arith, same, less))) (one.none l (inl (omega (arith, less, under))))
      (rest.outside l (inl (omega (arith, less))))
  outside l (inr above) =
      let up = one.up in let later = rest.up in
      arm_none l (λ same. absurd (omega (arith, same, above, under, up, later))) (one.none l (inr (omega (arith, above, later))))
      (rest.outside l (inr above))

  between : (l : ℕ) → label + suc rows ≤ l → l < low → HasNo l arm_lines
  between l le less =
      let up = one.up in
      arm_none l (λ same. absurd (omega (arith, same, le))) (one.none l (inl less))
      (rest.between l (omega (arith, le)) (omega (arith, less, up)))

  module _ (tail : List Line) (ahead : Ahead base outer goal label high tail) where
    abbrev behind : List Line
    behind = more ++ tail

    abbrev labelled_lines : List Line
    labelled_lines = acts (Label label) [] ∷ (first ++ behind)

    later : ArmsGood base bound (label + 1) rows behind
    later = rest.good tail (record {
      formed = ahead.formed;
      fresh = λ l le less. ahead.fresh l (omega (arith, le)) less;
      goal_ahead = goal_up base outer goal label (label + 1) tail (omega arith) ahead.goal_ahead;
    })

    fresh : (l : ℕ) → low ≤ l → l < middle → HasNo l behind
    fresh l le less =
        let up = rest.up in
        has_no_append l more tail (rest.between l (omega (arith, le, under)) less)
        (ahead.fresh l (omega (arith, le, under)) (omega (arith, less, up)))

    body : Good Bound (first ++ behind)
    body = one.good behind (record {
      formed = later.formed;
      fresh = fresh;
      goal_ahead = goal_later base outer goal label low more tail (omega (arith, under))
          (λ l less. rest.outside l (inl (omega (arith, less)))) ahead.goal_ahead;
    })

    alone : HasNo label (first ++ behind)
    alone =
        let up = one.up in let far = rest.up in
        has_no_append label first behind (one.none label (inl (omega (arith, under))))
        (has_no_append label more tail (rest.outside label (inl (omega arith)))
        (ahead.fresh label (omega arith) (omega (arith, under, up, far))))

    labelled : Good Bound labelled_lines
    labelled = good_label Bound label (first ++ behind) alone body

    stands : (row : ℕ) → row < suc rows → StandsAhead Bound (label + row) labelled_lines
    stands zero less =
        subst (λ (l : ℕ). StandsAhead Bound l labelled_lines) {x = label} {y = label + 0} (omega arith) (
          subst IsSome (sym (found_here label (first ++ behind))) refl,
          λ v alive. body.alive v (sym (alive_at_here label v (first ++ behind)) ∙ alive),
        )
    stands (suc row) less =
        stands_past Bound (label + suc row) (acts (Label label) [] ∷ first) behind (
          other_label (label + suc row) label (λ same. absurd (omega (arith, same))),
          one.none (label + suc row) (inl (omega (arith, less, under))),
        )
        (subst (λ (l : ℕ). StandsAhead Bound l behind) {x = label + 1 + row} {y = label + suc row} (omega arith)
        (later.stands row (omega (arith, less))))

    arm_good : ArmsGood base bound label (suc rows) labelled_lines
    arm_good = record { formed = labelled.formed; stands = stands; alive = λ some. labelled.alive }

  pub arms_more : ArmsFit base bound outer goal label (suc rows) low high arm_lines
  arms_more = record {
    up = let up = one.up in let far = rest.up in omega (arith, up, far);
    outside = outside;
    between = between;
    good = λ tail ahead. subst (ArmsGood base bound label (suc rows))
        (ap (λ (t : List Line). acts (Label label) [] ∷ t) (sym (append_assoc first more tail))) (arm_good tail ahead);
  }

-- decisions before their arms, of which there is one at least
module _ (base : ℕ) (bound outer : List ℕ) (has : HasRoom base bound) (layout : Layout) (x : ℕ) (is_x : is_bound bound x ≡ true)
    (goal : Goal) (low rows nodes high : ℕ) (decisions : List NodeTree) (orderly : AreOrderly decisions rows) (some : 0 < rows)
    (nodes_are : nodes ≡ low + rows) (choice bodies : List Line)
    (choice_is : NodesLines layout base nodes (ways_of decisions nodes low) x 0 decisions choice)
    (arms : ArmsFit base bound outer goal low rows (nodes + length decisions) high bodies) where
  abbrev Before : ℕ → Type 0
  Before = Readable base base bound

  within : low + rows ≤ nodes
  within = omega (arith, nodes_are)

  -- each node leads to an arm that is there, or to its own label
  lead : (j : ℕ) → ((row : ℕ) × ((row < rows) × (label_of nodes low j (slice_get decisions j) ≡ low + row)))
      ⊎ (label_of nodes low j (slice_get decisions j) ≡ nodes + j)
  lead j = by (slice_get decisions j) refl
    where
      by : (o : Option NodeTree) → slice_get decisions j ≡ o
          → ((row : ℕ) × ((row < rows) × (label_of nodes low j o ≡ low + row))) ⊎ (label_of nodes low j o ≡ nodes + j)
      by None is = inr refl
      by (Some (chooses row)) is =
          inl (row, (orderly.below j row (chooses row) is (or_left (row == row) (is_bound [] row) (eq-eqb row row refl)), refl))
      by (Some (tests at edges otherwise)) is = inr refl

  case_none : (l : ℕ) → (l < low) ⊎ (high ≤ l) → HasNo l (choice ++ bodies)
  case_none l apart =
      has_no_append l choice bodies
      (nodes_none base bound has nodes layout low rows x is_x within (ways_of decisions nodes low) lead 0 (length decisions) decisions
      choice (omega arith) choice_is l (far apart)) (arms.outside l apart)
    where
      far : (l < low) ⊎ (high ≤ l) → (l < nodes + 0) ⊎ (nodes + length decisions ≤ l)
      far (inl less) = inl (omega (arith, less, nodes_are))
      far (inr above) = let up = arms.up in inr (omega (arith, above, up))

  names : NameLater base bound has nodes layout low rows x is_x within (ways_of decisions nodes low) lead 0 (length decisions)
      decisions
  names = (
    λ i j node at among. let later = orderly.later i j node at among in (omega (arith, later), later.1),
    λ i row node at among. orderly.below i row node at among,
  )

  labels : HaveLabels base bound has nodes layout low rows x is_x within (ways_of decisions nodes low) lead 0 decisions
  labels i node is =
      let same : i ≡ 0 + i = omega arith in
      subst (λ n. label_of nodes low n (slice_get decisions n) ≡ label_of nodes low n (Some node)) same (ap (label_of nodes low i) is)

  module _ (tail : List Line) (ahead : Ahead base outer goal low high tail) where
    bodies_good : ArmsGood base bound low rows (bodies ++ tail)
    bodies_good = arms.good tail ahead

    fresh_nodes : (l : ℕ) → nodes + 0 ≤ l → l < nodes + length decisions → HasNo l (bodies ++ tail)
    fresh_nodes l le less =
        let up = arms.up in
        has_no_append l bodies tail (arms.between l (omega (arith, le, nodes_are)) less)
        (ahead.fresh l (omega (arith, le, nodes_are)) (omega (arith, less, up)))

    case_good : Good Before (choice ++ (bodies ++ tail))
    case_good = (nodes_good base bound has nodes layout low rows x is_x within (ways_of decisions nodes low) lead (length decisions)
        (bodies ++ tail) bodies_good.stands (record { formed = bodies_good.formed; alive = bodies_good.alive some }) 0 decisions choice
        (omega arith) choice_is names labels fresh_nodes).0

  pub fits_case : Fits base bound outer goal low high (choice ++ bodies)
  fits_case = record {
    up = let up = arms.up in omega (arith, up, nodes_are);
    none = case_none;
    good = λ tail ahead. subst (Good Before) (sym (append_assoc choice bodies tail)) (case_good tail ahead);
  }

-- a branch on two variables before arms, to the second of them
pub fits_branch : (base : ℕ) (bound outer : List ℕ) → HasRoom base bound → (goal : Goal) (low rows middle high : ℕ)
    (branch : Branching) (bodies : List Line) → 1 < rows → low + rows ≤ middle → is_bound bound branch.first ≡ true
    → is_bound bound branch.second ≡ true → ArmsFit base bound outer goal low rows middle high bodies
    → Fits base bound outer goal low high (acts (Branch branch.condition (low + 1)) (branch.first ∷ branch.second ∷ []) ∷ bodies)
fits_branch base bound outer has goal low rows middle high branch bodies two under first second arms = record {
  up = let up = arms.up in omega (arith, up, under);
  none = λ l apart. (refl, arms.outside l apart);
  good = λ tail ahead.
      let after = arms.good tail ahead in
      good_branch (Readable base base bound) (Readable base base bound) branch.condition (low + 1)
      (branch.first ∷ branch.second ∷ []) (bodies ++ tail) (omega arith) (inl first, (inl second, tt)) (λ v is. is)
      (readable_small base base bound has (omega arith)) (after.stands 1 two)
      (record { formed = after.formed; alive = after.alive (omega (arith, two)) });
}
