-- How many words inserted code takes at most, with those for its tokens: by its nodes, and by pairs of them.
use Rattle.std.proofs.Common.{◌≡◌, inl, inr, ℕ, suc, ◌+◌, ◌-◌, ◌*◌, ◌≤◌, ◌&&◌, Bool, true, false, not, List, [], ◌∷◌, ◌++◌, length, arith, refl, ap, subst}
use Rattle.std.specs.Prelude.{if◌then◌else◌}
use Rattle.kk_syntax.specs.declared.program.Form.TheVariants.{Call}
use Rattle.kk_syntax.specs.PositionsOf.{PositionTable}
use Rattle.kk_syntax.specs.Shapes.{is_among, without}
use Rattle.kk_core.specs.CaseLengths.{tests_length, brief_node_length, brief_pair_length, most_brief}
use Rattle.kk_core.specs.Codes.{Code, give, tail_call, case, compute, use_of, unpack, inside, Arms, no_arm, arm, patterns_of}
use Rattle.kk_core.specs.Decisions.{NodeTree}
use Rattle.kk_core.specs.CodeNodes.{are_truths, pattern_nodes, arms_pattern_nodes, other_nodes, arms_other_nodes, first_fields, case_nodes, AreBriefFor, HasBriefTests, HaveBriefTests, plain_words, arms_plain_words}
use Rattle.kk_core.specs.CodeNodes.{reference_length, case_words, drops_words}
use Rattle.kk_core.specs.Sizes.{most_parameters}
use Rattle.kk_counted.proofs.ListLengths.{filter_few}
use Rattle.kk_counted.specs.CountedCodes as Counted
use Rattle.kk_counted.specs.Spending.{total, AreApart}
use Rattle.kk_counted.specs.TokenCosts.{openings}
use Rattle.kk_counted.specs.TokenLengths.{free_length, move_length}
use Rattle.kk_insert.specs.Insertion.{drops, dropping, owns, wants, used, lends, own, own_arms, insert, insert_arms}
use Rattle.kk_insert.proofs.Gains.{used_few}
use Rattle.kk_insert.proofs.InsertedNodes.{some_nodes, fields_few, bodies_nodes, arms_nodes, openings_few, arms_open_few, drops_ends, ends_few, arms_end_few}
use Rattle.kk_insert.proofs.FormWords.{one_if, truths_two, opening_needs, value_room, compute_needs, value_words, bound_few, arms_fields, arms_behind, arms_others, arms_tests, arms_fields_few, arm_before, case_before, branch_before}
use Rattle.kk_insert.proofs.Lengths.{wants_few, before_few}
use Rattle.kk_insert.proofs.NeededWords.{needs, arms_need, needs_give, needs_call, needs_case, needs_inside, needs_dups, needs_drops, needs_none, needs_arm}
use Rattle.kk_insert.proofs.Openings.{drops_open}
use Rattle.kk_insert.proofs.OwnedClasses.{part_total, field_weight, result_weight, all_few, opened_results, kept_part, left_part, arms_drops, case_drops}
use Rattle.kk_insert.proofs.OwnedVariables.{owns_after, own_apart}
use Rattle.kk_insert.proofs.Sets.{no_both, false_if, Part, among_next, in_front, in_back, in_either, before_front, before_back, apart_filter}
use Rattle.kk_insert.proofs.VariableBindings.{AreBelow, IsFine, AreFine}
use Rattle.kk_insert.proofs.WordRooms.{room, arms_room, room_inside}

module _ (positions : PositionTable) (lent parameters : List ℕ) (few : AreBelow parameters most_parameters) where
  -- ---- a case, by its arms

  -- the case of arms that need no more than their room
  case_needs : (fields : List ℕ) (v f t m s : ℕ) (left bound : List ℕ) (x : ℕ) (decisions : List NodeTree) (arms : Arms)
      → let all = own positions lent left (case x decisions arms) in
      let truths = are_truths (patterns_of arms) in
      AreFine lent bound arms → Part left bound → AreApart left
      → AreBriefFor truths (case_nodes arms) (tests_length decisions) → 1 + arms_other_nodes arms ≡ s + 1
      → total (result_weight parameters fields) all ≤ v → total (field_weight fields) all ≤ f → m ≤ t
      → arms_need m (insert_arms positions lent left all arms) + 2 * brief_pair_length * (arms_fields arms * arms_fields arms)
      ≤ 2 * arms_plain_words arms + 2 * reference_length * arms_drops positions lent left all arms
      + 2 * free_length * (length (patterns_of arms) * m)
      + arms_room v f (t + one_if (not truths)) (length (patterns_of arms)) (bodies_nodes fields (not truths) arms)
      (arms_behind arms)
      + 2 * move_length * bodies_nodes fields (not truths) arms
      → needs m (insert positions lent left (case x decisions arms))
      ≤ 2 * plain_words (case x decisions arms) + room v f t (arms_pattern_nodes fields truths arms) s
  case_needs fields v f t m s left bound x decisions no_arm fine part apart brief same results held tokens each =
      let is = needs_case m x decisions Counted.no_arm in
      omega (arith, is, needs_none m, brief)
  case_needs fields v f t m s left bound x decisions (arm pattern body rest) fine part apart brief same results held tokens each =
      by_test (are_truths (pattern ∷ patterns_of rest)) refl brief each
    where
      arms : Arms
      arms = arm pattern body rest

      all : List ℕ
      all = own positions lent left (case x decisions (arm pattern body rest))

      owned : length all ≤ most_parameters + f + v
      owned =
          let most = all_few most_parameters parameters fields all few
          (own_apart positions lent left (case x decisions (arm pattern body rest)) apart) in
          omega (arith, most, results, held)

      dropped : arms_drops positions lent left all arms ≤ length (patterns_of rest) * length all + 1
      dropped = case_drops positions lent left bound x pattern body rest fine part apart

      is : needs m (insert positions lent left (case x decisions (arm pattern body rest)))
          ≡ 2 * case_words + 2 * tests_length decisions + arms_need m (insert_arms positions lent left all arms)
      is = needs_case m x decisions (insert_arms positions lent left all (arm pattern body rest))

      by_test : (truths : Bool) → are_truths (pattern ∷ patterns_of rest) ≡ truths
          → AreBriefFor truths (case_nodes arms) (tests_length decisions)
          → arms_need m (insert_arms positions lent left all arms) + 2 * brief_pair_length * (arms_fields arms * arms_fields arms)
          ≤ 2 * arms_plain_words arms + 2 * reference_length * arms_drops positions lent left all arms
          + 2 * free_length * (suc (length (patterns_of rest)) * m)
          + arms_room v f (t + one_if (not truths)) (suc (length (patterns_of rest))) (bodies_nodes fields (not truths) arms)
          (arms_behind arms) + 2 * move_length * bodies_nodes fields (not truths) arms
          → needs m (insert positions lent left (case x decisions (arm pattern body rest)))
          ≤ 2 * (case_words + reference_length + (if truths then tests_length decisions else brief_node_length * case_nodes arms)
          + drops_words * (suc (length (patterns_of rest)) - 1)
          + arms_plain_words arms) + room v f t (arms_pattern_nodes fields truths arms) s
      by_test true two little need =
          let pair : suc (length (patterns_of rest)) ≡ 2 = truths_two (pattern ∷ patterns_of rest) two in
          let one : length (patterns_of rest) ≡ 1 = omega (arith, pair) in
          let nodes = bodies_nodes fields false arms in
          let fits = branch_before v f t m nodes (arms_behind arms)
          (needs m (insert positions lent left (case x decisions (arm pattern body rest))))
          (arms_need m (insert_arms positions lent left all arms)) (tests_length decisions) (arms_plain_words arms)
          (arms_drops positions lent left all arms) (length all) (2 * brief_pair_length * (arms_fields arms * arms_fields arms)) is
          (omega (
            arith,
            need,
            ap (λ n. n * m) pair,
            ap (λ n. arms_room v f (t + 0) n nodes (arms_behind arms)) pair,
            ap (λ n. arms_room v f n 2 nodes (arms_behind arms)) (let same_tokens : t + 0 ≡ t = omega arith in same_tokens),
          ))
          (omega (arith, dropped, ap (λ n. n * length all) one)) owned tokens in
          omega (
            arith,
            fits,
            one,
            ap (λ n. room v f t n (2 + arms_behind arms))
                (let all_nodes : nodes ≡ arms_pattern_nodes fields true arms = omega (arith, arms_nodes fields true arms) in
                all_nodes),
            ap (room v f t (arms_pattern_nodes fields true arms))
                (let others : 2 + arms_behind arms ≡ s = omega (arith, arms_others arms, same, pair) in others),
          )
      by_test false other little need =
          let nodes = bodies_nodes fields true arms in
          let brief_tests = subst (λ n. tests_length decisions ≤ most_brief n) (arms_tests arms) little in
          let fits = case_before v f t m (length (patterns_of rest)) nodes (arms_behind arms) (arms_fields arms)
          (needs m (insert positions lent left (case x decisions (arm pattern body rest))))
          (arms_need m (insert_arms positions lent left all arms)) (tests_length decisions) (arms_plain_words arms)
          (arms_drops positions lent left all arms) (length all) is brief_tests need dropped owned tokens
          (arms_fields_few fields true arms) in
          omega (
            arith,
            fits,
            arms_tests arms,
            ap (λ n. room v f t n (suc (length (patterns_of rest)) + arms_behind arms))
                (let all_nodes : suc (length (patterns_of rest)) + nodes ≡ arms_pattern_nodes fields false arms =
                omega (arith, arms_nodes fields false arms) in all_nodes),
            ap (room v f t (arms_pattern_nodes fields false arms))
                (let others : suc (length (patterns_of rest)) + arms_behind arms ≡ s = omega (arith, arms_others arms, same) in
                others),
          )

  -- ---- code

  mutual
    -- A code needs no more than twice its plain words and its room, where it owns at most `v` results and `f` fields, and the `m`
    -- tokens that are there, with the one that an arm has to spare, are at most `t`. Its first openings pay for the tests of their
    -- fields, behind `h` other fields.
    pub few_words : (fields : List ℕ) (opens : Bool) (v f t m h s : ℕ) (left bound : List ℕ) (code : Code) → IsFine lent bound code
        → Part fields bound → Part left bound → AreApart left → HasBriefTests code → other_nodes code ≡ s + 1
        → total (result_weight parameters fields) (own positions lent left code) ≤ v
        → total (field_weight fields) (own positions lent left code) ≤ f → m + one_if opens ≤ t → h ≤ f + t
        → needs m (insert positions lent left code)
        + 2 * brief_pair_length * (first_fields code * first_fields code + 2 * (h * first_fields code))
        ≤ 2 * plain_words code + room v f t (pattern_nodes fields opens code) s
    few_words fields opens v f t m h s left bound (give x) fine within part apart brief same results held tokens tests =
        omega (arith, needs_dups m (wants lent (x ∷ []) left) (Counted.give x), needs_give m x, wants_few lent (x ∷ []) left)
    few_words fields opens v f t m h s left bound (tail_call g arguments) fine within part apart brief same results held tokens
        tests =
        omega (
          arith,
          needs_dups m (wants lent (used positions (Call g) arguments) left) (Counted.tail_call g arguments),
          needs_call m g arguments,
          wants_few lent (used positions (Call g) arguments) left,
          used_few positions (Call g) arguments,
        )
    few_words fields opens v f t m h s left bound (case x decisions arms) fine within part apart brief same results held tokens
        tests =
        let all = own positions lent left (case x decisions arms) in
        let spare = not (are_truths (patterns_of arms)) in
        let each = arms_words fields spare v f (t + one_if spare) m left bound all arms fine.1 within part apart brief.1
        (owns_after positions lent (x ∷ []) (own_arms positions lent left arms))
        (own_apart positions lent left (case x decisions arms) apart) results held (omega (arith, tokens)) in
        let fits = case_needs fields v f t m s left bound x decisions arms fine.1 part apart brief.0 same results held
        (omega (arith, tokens)) each in
        omega (arith, fits)
    few_words fields opens v f t m h s left bound (compute x form arguments rest) fine within part apart brief same results held
        tokens tests =
        let now = own positions lent left rest in
        let kept = without (x ∷ []) now in
        let all = own positions lent left (compute x form arguments rest) in
        let after = owns lent (lends positions form arguments) kept in
        let fresh = false_if (is_among fields x) (λ there. no_both ⊥ (is_among bound x) (within x there) fine.1.0) in
        let owned = bound_few parameters fields v f x now all (own_apart positions lent left rest apart)
        (own_apart positions lent left (compute x form arguments rest) apart)
        (λ y is. owns_after positions lent (used positions form arguments) after y
        (owns_after positions lent (lends positions form arguments) kept y is)) fresh results held in
        let later = few_words fields false (v + 1) f t m 0 (other_nodes rest - 1) left (x ∷ bound) rest fine.1.1.1
        (λ y is. among_next x y bound (within y is)) (λ y is. among_next x y bound (part y is)) apart brief
        (omega (arith, some_nodes rest)) owned.0 owned.1 (omega (arith, tokens)) (omega arith) in
        let behind = value_room v f t m (pattern_nodes fields false rest) s x (needs m (insert positions lent left rest)) rest
        (omega (arith, tokens)) same (λ is. value_words positions lent m left x rest is) (omega (arith, later)) in
        omega (arith, compute_needs positions lent m left x form arguments rest, behind)
    few_words fields opens v f t m h s left bound (use_of x rest) fine within part apart brief same results held tokens tests =
        let now = own positions lent left rest in
        let all = own positions lent left (use_of x rest) in
        let into : Part now all = owns_after positions lent (x ∷ []) now in
        let apart_now = own_apart positions lent left rest apart in
        let apart_all = own_apart positions lent left (use_of x rest) apart in
        let later = few_words fields false v f t m 0 s left bound rest fine.1 within part apart brief same
        (omega (arith, part_total (result_weight parameters fields) now all apart_now apart_all into, results))
        (omega (arith, part_total (field_weight fields) now all apart_now apart_all into, held))
        (omega (arith, tokens)) (omega arith) in
        omega (
          arith,
          needs_drops m (without now all) (insert positions lent left rest),
          before_few (without lent (x ∷ [])) now,
          filter_few (λ y. not (is_among lent y)) (x ∷ []),
          later,
        )
    few_words fields opens v f t m h s left bound (unpack x c xs rest) fine within part apart brief same results held tokens tests =
        let now = own positions lent left rest in
        let after = without xs now in
        let all = own positions lent left (unpack x c xs rest) in
        let apart_now = own_apart positions lent left rest apart in
        let apart_after = apart_filter (λ z. not (is_among xs z)) now apart_now in
        let fewer = part_total (result_weight parameters fields) after all apart_after
        (own_apart positions lent left (unpack x c xs rest) apart) (owns_after positions lent (x ∷ []) after) in
        let few_results = opened_results parameters fields xs now in
        opening_needs positions lent fields opens v f t m h s x c xs now (insert positions lent left rest)
        (plain_words rest) (first_fields rest) (pattern_nodes (xs ++ fields) (opens && is_among fields x) rest) brief.0 fine.1.0
        apart_now held tokens tests
        (λ f' t' m' fields_held tokens_there looks. few_words (xs ++ fields) (opens && is_among fields x) v f' t' m' (h + length xs)
        s left (xs ++ bound) rest fine.1.1.1.1
        (λ y is. elim (in_either xs fields y is)
        [ inl here ↦ in_front xs bound y here | inr there ↦ in_back xs bound y (within y there) ])
        (λ y is. in_back xs bound y (part y is)) apart brief.1 same (omega (arith, few_results, fewer, results))
        fields_held tokens_there looks)
    few_words fields opens v f t m h s left bound (inside x block rest) fine within part apart brief same results held tokens
        tests =
        let now = own positions lent left rest in
        let kept = without (x ∷ []) now in
        let all = own positions lent left (inside x block rest) in
        let apart_now = own_apart positions lent left rest apart in
        let bound_kept = kept_part positions lent left bound x rest fine.1.1.1 part in
        let fresh = false_if (is_among fields x) (λ there. no_both ⊥ (is_among bound x) (within x there) fine.1.0) in
        let owned = bound_few parameters fields v f x now all apart_now (own_apart positions lent left (inside x block rest) apart)
        (left_part positions lent kept bound block fine.0 bound_kept) fresh results held in
        let code = insert positions lent kept block in
        let behind = insert positions lent left rest in
        let one = few_words fields false v f t m 0 (other_nodes block - 1) kept bound block fine.0 within bound_kept
        (apart_filter (λ z. not (is_among (x ∷ []) z)) now apart_now) brief.0 (omega (arith, some_nodes block)) results held
        (omega (arith, tokens)) (omega arith) in
        let two = few_words fields false (v + 1) f (t + openings code) (m + openings code) 0 (other_nodes rest - 1) left (x ∷ bound)
        rest fine.1.1.1 (λ y is. among_next x y bound (within y is)) (λ y is. among_next x y bound (part y is)) apart brief.1
        (omega (arith, some_nodes rest)) owned.0 owned.1 (omega (arith, tokens)) (omega arith) in
        let fits = room_inside v f t (pattern_nodes fields false block) (other_nodes block - 1) (pattern_nodes fields false rest)
        (other_nodes rest - 1) (openings code) (openings_few positions lent fields false kept block brief.0) in
        let others : other_nodes block - 1 + (other_nodes rest - 1) + 1 ≡ s =
        omega (arith, same, some_nodes block, some_nodes rest) in
        omega (
          arith,
          needs_inside m x code (dropping (x ∷ []) now behind),
          needs_drops (m + openings code) (without now (x ∷ [])) behind,
          filter_few (λ y. not (is_among now y)) (x ∷ []),
          one,
          two,
          fits,
          ap (room v f t (pattern_nodes fields false block + pattern_nodes fields false rest)) others,
        )

    -- the same of arms, with the drops before each, the tokens that it frees or moves, and those that its ends lack
    arms_words : (fields : List ℕ) (opens : Bool) (v f t m : ℕ) (left bound all : List ℕ) (arms : Arms) → AreFine lent bound arms
        → Part fields bound → Part left bound → AreApart left → HaveBriefTests arms
        → Part (own_arms positions lent left arms) all → AreApart all → total (result_weight parameters fields) all ≤ v
        → total (field_weight fields) all ≤ f → m + one_if opens ≤ t
        → arms_need m (insert_arms positions lent left all arms) + 2 * brief_pair_length * (arms_fields arms * arms_fields arms)
        ≤ 2 * arms_plain_words arms + 2 * reference_length * arms_drops positions lent left all arms
        + 2 * free_length * (length (patterns_of arms) * m)
        + arms_room v f t (length (patterns_of arms)) (bodies_nodes fields opens arms) (arms_behind arms)
        + 2 * move_length * bodies_nodes fields opens arms
    arms_words fields opens v f t m left bound all no_arm fine within part apart brief into each results held tokens =
        omega (arith, needs_none m)
    arms_words fields opens v f t m left bound all (arm pattern body rest) fine within part apart brief into each results held
        tokens =
        let now = own positions lent left body in
        let later = own_arms positions lent left rest in
        let code = insert positions lent left body in
        let behind = insert_arms positions lent left all rest in
        let apart_now = own_apart positions lent left body apart in
        let first : Part now all = λ y is. into y (before_front now later y is) in
        let nodes = pattern_nodes fields opens body in
        let others = other_nodes body - 1 in
        let arms = length (patterns_of rest) + arms_behind rest in
        let one = few_words fields opens v f t m 0 others left bound body fine.0 within part apart brief.0
        (omega (arith, some_nodes body))
        (omega (arith, part_total (result_weight parameters fields) now all apart_now each first, results))
        (omega (arith, part_total (field_weight fields) now all apart_now each first, held)) tokens (omega arith) in
        let two = arms_words fields opens v f t m left bound all rest fine.1 within part apart brief.1
        (λ y is. into y (before_back now later y is)) each results held tokens in
        let needed = needs_arm m (drops (without now all) code) behind nodes (others + 1) (bodies_nodes fields opens rest) arms
        (omega (arith, drops_open (without now all) code, openings_few positions lent fields opens left body brief.0))
        (omega (arith, drops_ends (without now all) code, ends_few positions lent left body, some_nodes body))
        (arms_open_few positions lent fields opens left all rest brief.1)
        (omega (arith, arms_end_few positions lent left all rest, arms_others rest)) in
        arm_before v f t m (length (patterns_of rest)) nodes (bodies_nodes fields opens rest) others (arms_behind rest)
        (first_fields body) (arms_fields rest) (arms_need m (Counted.arm (drops (without now all) code) behind)) (needs m code)
        (arms_need m behind) (plain_words body) (arms_plain_words rest) (length (without now all))
        (arms_drops positions lent left all rest) (omega (arith, needed, needs_drops m (without now all) code))
        (omega (arith, one)) two (fields_few fields opens body) (arms_fields_few fields opens rest)
