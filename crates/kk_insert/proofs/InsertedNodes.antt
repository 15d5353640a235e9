-- What inserted code opens, and how many of its ends come behind a case: no more than its code has nodes.
use Rattle.std.proofs.Common.{◌≡◌, ℕ, ◌+◌, ◌≤◌, ◌||◌, ◌&&◌, Bool, true, false, not, List, [], ◌∷◌, ◌++◌, length, arith, refl}
use Rattle.std.specs.Prelude.{if◌then◌else◌}
use Rattle.kk_syntax.specs.declared.program.Form.TheVariants.{Call}
use Rattle.kk_syntax.specs.PositionsOf.{PositionTable}
use Rattle.kk_syntax.specs.Shapes.{is_among, without}
use Rattle.kk_core.specs.Codes.{Code, give, tail_call, case, compute, use_of, unpack, inside, Arms, no_arm, arm, patterns_of}
use Rattle.kk_core.specs.CodeNodes.{are_truths, gives, pattern_nodes, arms_pattern_nodes, other_nodes, arms_other_nodes, first_fields, HasBriefTests, HaveBriefTests}
use Rattle.kk_counted.specs.CountedCodes as Counted
use Rattle.kk_counted.specs.TokenCosts.{openings, openings_of}
use Rattle.kk_counted.specs.TokenWords.{branch_ends, arms_ends}
use Rattle.kk_insert.specs.Insertion.{common, dups, drops, opening, wants, used, own, insert, insert_arms}
use Rattle.kk_insert.proofs.Openings.{dups_open, drops_open, form_opens, opening_opens}
use Rattle.kk_insert.proofs.PassedCounts.{past_dups, past_drops, past_form}

-- ---- nodes

-- a form that gives the value with which the code ends counts for the end too
pub value_nodes : (x : ℕ) (code : Code) → gives x code ≡ true → other_nodes code ≡ 1
value_nodes x (give y) is = refl
value_nodes x (tail_call f arguments) is = refl
value_nodes x (case y decisions arms) is = absurd (cc)
value_nodes x (compute y form arguments rest) is = absurd (cc)
value_nodes x (use_of y rest) is = absurd (cc)
value_nodes x (unpack y c fields rest) is = absurd (cc)
value_nodes x (inside y block rest) is = absurd (cc)

-- each code has an end
pub some_nodes : (code : Code) → 1 ≤ other_nodes code
some_nodes (give x) = omega arith
some_nodes (tail_call f arguments) = omega arith
some_nodes (case x decisions arms) = omega arith
some_nodes (compute x form arguments rest) = by_test (gives x rest)
  where
    by_test : (t : Bool) → 1 ≤ (if t then 1 else 1 + other_nodes rest)
    by_test true = omega arith
    by_test false = omega arith
some_nodes (use_of x rest) = some_nodes rest
some_nodes (unpack x c fields rest) = some_nodes rest
some_nodes (inside x block rest) = omega (arith, some_nodes block)

-- the fields of first openings are nodes of patterns
pub fields_few : (fields : List ℕ) (opens : Bool) (code : Code) → first_fields code ≤ pattern_nodes fields opens code
fields_few fields opens (give x) = omega arith
fields_few fields opens (tail_call f arguments) = omega arith
fields_few fields opens (case x decisions arms) = omega arith
fields_few fields opens (compute x form arguments rest) = omega arith
fields_few fields opens (use_of x rest) = omega arith
fields_few fields opens (unpack x c xs rest) = omega (arith, fields_few (xs ++ fields) (opens && is_among fields x) rest)
fields_few fields opens (inside x block rest) = omega arith

-- the nodes of the bodies of arms alone, and that with those of the arms they are the nodes of the patterns
abbrev pub bodies_nodes : List ℕ → Bool → Arms → ℕ
bodies_nodes fields opens no_arm = 0
bodies_nodes fields opens (arm pattern body rest) = pattern_nodes fields opens body + bodies_nodes fields opens rest

pub arms_nodes : (fields : List ℕ) (truths : Bool) (arms : Arms)
    → arms_pattern_nodes fields truths arms
    ≡ (if truths then 0 else length (patterns_of arms)) + bodies_nodes fields (not truths) arms
arms_nodes fields true no_arm = refl
arms_nodes fields false no_arm = refl
arms_nodes fields true (arm pattern body rest) = omega (arith, arms_nodes fields true rest)
arms_nodes fields false (arm pattern body rest) = omega (arith, arms_nodes fields false rest)

-- ---- ends behind dups and drops

dups_ends : (xs : List ℕ) (rest : Counted.Counted) → branch_ends (dups xs rest) ≡ branch_ends rest
dups_ends = past_dups branch_ends (λ x rest. refl) (λ x rest. refl)

pub drops_ends : (xs : List ℕ) (rest : Counted.Counted) → branch_ends (drops xs rest) ≡ branch_ends rest
drops_ends = past_drops branch_ends (λ x rest. refl) (λ x rest. refl)

opening_ends : (stays : Bool) (x c : ℕ) (fields in_use : List ℕ) (rest : Counted.Counted)
    → branch_ends (opening stays x c fields in_use rest) ≡ branch_ends rest
opening_ends true x c fields in_use rest = dups_ends in_use rest
opening_ends false x c fields in_use rest = refl

-- ---- inserted code

module _ (positions : PositionTable) (lent : List ℕ) where
  mutual
    -- a cell that is opened has fields, which are nodes of patterns
    pub openings_few : (fields : List ℕ) (opens : Bool) (left : List ℕ) (code : Code) → HasBriefTests code
        → openings (insert positions lent left code) ≤ pattern_nodes fields opens code
    openings_few fields opens left (give x) brief = omega (arith, dups_open (wants lent (x ∷ []) left) (Counted.give x))
    openings_few fields opens left (tail_call f arguments) brief =
        omega (arith, dups_open (wants lent (used positions (Call f) arguments) left) (Counted.tail_call f arguments))
    openings_few fields opens left (case x decisions arms) brief =
        let truths : Bool = are_truths (patterns_of arms) in
        omega (
          arith,
          arms_open_few fields (not truths) left (own positions lent left (case x decisions arms)) arms brief.1,
          arms_nodes fields truths arms,
        )
    openings_few fields opens left (compute x form arguments rest) brief =
        omega (arith, form_opens positions lent left x form arguments rest, openings_few fields false left rest brief)
    openings_few fields opens left (use_of x rest) brief =
        omega (
          arith,
          drops_open (without (own positions lent left rest) (own positions lent left (use_of x rest)))
              (insert positions lent left rest),
          openings_few fields false left rest brief,
        )
    openings_few fields opens left (unpack x c xs rest) brief =
        let now : List ℕ = own positions lent left rest in
        omega (
          arith,
          opening_opens (is_among lent x || is_among now x) x c xs (common now xs) (insert positions lent left rest),
          openings_few (xs ++ fields) (opens && is_among fields x) left rest brief.1,
          brief.0,
        )
    openings_few fields opens left (inside x block rest) brief =
        let now : List ℕ = own positions lent left rest in
        omega (
          arith,
          openings_few fields false (without (x ∷ []) now) block brief.0,
          drops_open (without now (x ∷ [])) (insert positions lent left rest),
          openings_few fields false left rest brief.1,
        )

    pub arms_open_few : (fields : List ℕ) (opens : Bool) (left all : List ℕ) (arms : Arms) → HaveBriefTests arms
        → openings_of (insert_arms positions lent left all arms) ≤ bodies_nodes fields opens arms
    arms_open_few fields opens left all no_arm brief = omega arith
    arms_open_few fields opens left all (arm pattern body rest) brief =
        omega (
          arith,
          drops_open (without (own positions lent left body) all) (insert positions lent left body),
          openings_few fields opens left body brief.0,
          arms_open_few fields opens left all rest brief.1,
        )

  mutual
    pub ends_few : (left : List ℕ) (code : Code) → branch_ends (insert positions lent left code) ≤ other_nodes code
    ends_few left (give x) = omega (arith, dups_ends (wants lent (x ∷ []) left) (Counted.give x))
    ends_few left (tail_call f arguments) =
        omega (arith, dups_ends (wants lent (used positions (Call f) arguments) left) (Counted.tail_call f arguments))
    ends_few left (case x decisions arms) =
        omega (arith, arms_end_few left (own positions lent left (case x decisions arms)) arms)
    ends_few left (compute x form arguments rest) =
        omega (
          arith,
          past_form branch_ends (λ y behind. refl) (λ y behind. refl) positions lent left x form arguments rest (λ behind. refl),
          ends_few left rest,
          by_test (gives x rest) refl,
        )
      where
        by_test : (t : Bool) → gives x rest ≡ t → other_nodes rest ≤ (if t then 1 else 1 + other_nodes rest)
        by_test true is = omega (arith, value_nodes x rest is)
        by_test false is = omega arith
    ends_few left (use_of x rest) =
        omega (
          arith,
          drops_ends (without (own positions lent left rest) (own positions lent left (use_of x rest)))
              (insert positions lent left rest),
          ends_few left rest,
        )
    ends_few left (unpack x c xs rest) =
        let now : List ℕ = own positions lent left rest in
        omega (
          arith,
          opening_ends (is_among lent x || is_among now x) x c xs (common now xs) (insert positions lent left rest),
          ends_few left rest,
        )
    ends_few left (inside x block rest) =
        omega (
          arith,
          drops_ends (without (own positions lent left rest) (x ∷ [])) (insert positions lent left rest),
          ends_few left rest,
        )

    pub arms_end_few : (left all : List ℕ) (arms : Arms)
        → arms_ends (insert_arms positions lent left all arms) ≤ arms_other_nodes arms
    arms_end_few left all no_arm = omega arith
    arms_end_few left all (arm pattern body rest) =
        omega (
          arith,
          drops_ends (without (own positions lent left body) all) (insert positions lent left body),
          ends_few left body,
          some_nodes body,
          arms_end_few left all rest,
        )
