-- Inserted code spends what it owns.
use Rattle.std.proofs.Common.{◌≡◌, ◌⊎◌, inl, inr, ℕ, ◌+◌, ◌||◌, ◌&&◌, Bool, true, false, not, List, [], ◌∷◌, ◌++◌, Option, Some, None, arith, refl, sym, ap, ◌∙◌, subst}
use Rattle.std.specs.Prelude.{if◌then◌else◌, filter}
use Rattle.kk_syntax.specs.declared.program.Form.{Form}
use Rattle.kk_syntax.specs.declared.program.Form.TheVariants.{Number, Unit as Nothing, ReadByte, PrintText, Unary, Binary, Print, Construct, Call}
use Rattle.kk_syntax.specs.Shapes.{is_among, without}
use Rattle.kk_syntax.specs.PositionsOf.{PositionTable}
use Rattle.kk_core.specs.Codes.{Code, give, tail_call, case, compute, use_of, unpack, inside, Arms, no_arm, arm, FunctionCode}
use Rattle.kk_counted.specs.CountedCodes as Counted
use Rattle.kk_counted.specs.CountedCodes.{CountedFunction}
use Rattle.kk_counted.specs.Spending.{total, AreEven, AllAmong, AreFresh, AreApart, left_by, HasAsMany, FitsForm, Spends, SpendsAll}
use Rattle.kk_counted.proofs.Order.{spends_even}
use Rattle.kk_insert.specs.Insertion.{before, common, dups, drops, dropping, used, lends, owns, wants, own, own_arms, back, insert, insert_arms, opening}
use Rattle.kk_insert.specs.Promise.{TakesAsMany, FormTakes, LendsOn, AllLendOn}
use Rattle.kk_insert.proofs.Sets.{no_self, or_cases, or_left, no_both, false_if, is_not, Part, Clear, among_first, among_next, one_only, in_front, in_back, in_either, among_filter, filter_in, without_clear, in_without, clear_back, before_front, before_back, part_all, clear_fresh, apart_filter, total_append, filter_alike, filter_all, total_one, total_minus, total_common}
use Rattle.kk_insert.proofs.VariableBindings.{FineFields, IsFine, AreFine}
use Rattle.kk_insert.proofs.OwnedVariables.{used_same, lends_same, lends_part, owns_either, owns_apart, in_owns, owns_after, wants_in, wants_even, own_part, rest_part, own_apart}

-- whether what comes is the end of the function
abbrev pub at_tail : Option (List ℕ) → Bool
at_tail None = true
at_tail (Some left) = false

-- ---- arguments that are lent

pub lent_arguments : (lent kept xs : List ℕ) → ((y : ℕ) → is_among xs y ≡ true → is_among lent y ≡ false → is_among kept y ≡ true)
    → Part xs (lent ++ kept)
lent_arguments lent kept xs into y is = by_test (is_among lent y) refl
  where
    by_test : (t : Bool) → is_among lent y ≡ t → is_among (lent ++ kept) y ≡ true
    by_test true there = in_front lent kept y there
    by_test false there = in_back lent kept y (into y is there)

-- a variable that is looked at is lent or owned
pub looked_at : (positions : PositionTable) (lent : List ℕ) (x : ℕ) (after : List ℕ)
    → is_among (lent ++ owns lent (x ∷ []) after) x ≡ true
looked_at positions lent x after =
    lent_arguments lent (owns lent (x ∷ []) after) (x ∷ []) (λ y is unlent. in_owns positions lent (x ∷ []) after y is unlent) x
    (among_first x [])

-- ---- a value comes to a variable, and is dropped where nothing uses it

pub landing_even : (x : ℕ) (now : List ℕ) → AreApart now → AreEven (x ∷ without (x ∷ []) now) (without now (x ∷ []) ++ now)
landing_even x now apart = λ weight. by_test weight (is_among now x) refl
  where
    by_test : (weight : ℕ → ℕ) (t : Bool) → is_among now x ≡ t
        → weight x + total weight (without (x ∷ []) now) ≡ total weight ((if not t then x ∷ [] else []) ++ now)
    by_test weight true is = omega (arith, total_one weight x now apart is)
    by_test weight false is =
        omega (
          arith,
          ap (total weight) (filter_all (λ z. not (is_among (x ∷ []) z)) now
              (λ z there. is_not (is_among (x ∷ []) z)
              (false_if (is_among (x ∷ []) z)
              (λ one. no_both ⊥ (is_among now x) (subst (λ w. is_among now w ≡ true) (sym (one_only x z one)) there) is)))),
        )

-- a part of what is owned stays, and the others are dropped
pub dropping_even : (all now : List ℕ) → AreApart all → AreApart now → Part now all → AreEven all (without now all ++ now)
dropping_even all now apart_all apart part =
    λ weight. omega (arith, total_minus weight all now apart_all apart part, total_append weight (without now all) now)

-- the fields in use, and the others that are owned then
pub fields_even : (now fields : List ℕ) → AreApart now → AreApart fields → AreEven (common now fields ++ without fields now) now
fields_even now fields apart_now apart_fields =
    λ weight. omega (
      arith,
      total_common weight fields now apart_fields apart_now,
      total_append weight (common now fields)
          (without fields now),
    )

-- what is used and is owned after that anyhow
pub owns_kept : (positions : PositionTable) (lent xs after : List ℕ)
    → ((y : ℕ) → is_among xs y ≡ true → (is_among lent y ≡ true) ⊎ (is_among after y ≡ true)) → owns lent xs after ≡ after
owns_kept positions lent [] after kept = refl
owns_kept positions lent (x ∷ xs) after kept =
    by_test (is_among lent x) refl (owns_kept positions lent xs after (λ y is. kept y (among_next x y xs is)))
  where
    by_test : (t : Bool) → is_among lent x ≡ t → before (without lent xs) after ≡ after
        → before (if not t then x ∷ without lent xs else without lent xs) after ≡ after
    by_test true is later = later
    by_test false is later =
        ap (λ ys. if is_among ys x then ys else x ∷ ys) later
        ∙ ap (λ b. if b then after else x ∷ after) (there (kept x (among_first x xs)))
      where
        there : (is_among lent x ≡ true) ⊎ (is_among after x ≡ true) → is_among after x ≡ true
        there (inl one) = no_both (is_among after x ≡ true) (is_among lent x) one is
        there (inr two) = two

-- a variable that is used up, and is not owned after that
pub owns_new : (positions : PositionTable) (lent : List ℕ) (x : ℕ) (after : List ℕ) → is_among lent x ≡ false
    → is_among after x ≡ false → owns lent (x ∷ []) after ≡ x ∷ after
owns_new positions lent x after unlent new =
    ap (λ t. before (if not t then x ∷ [] else []) after) unlent ∙ ap (λ b. if b then after else x ∷ after) new

module _ (positions : PositionTable) (source : List FunctionCode) (functions : List CountedFunction)
    (as_many : (f : ℕ) (arguments : List ℕ) → TakesAsMany positions source f arguments → HasAsMany positions functions f arguments)
    (lent : List ℕ) where
  abbrev Spent : List ℕ → Option (List ℕ) → List ℕ → Counted.Counted → Type 0
  Spent readable left owned code = Spends positions functions lent readable left owned code

  even_spent : (readable : List ℕ) (left : Option (List ℕ)) (owned other : List ℕ) (code : Counted.Counted) → AreEven other owned
      → Spent readable left owned code → Spent readable left other code
  even_spent readable left owned other code even s = spends_even positions functions lent readable left owned other even code s

  -- what may be duplicated need not be
  more_readable : (readable : List ℕ) (left : Option (List ℕ)) (owned : List ℕ) (code : Counted.Counted) → Spent [] left owned code
      → Spent readable left owned code
  more_readable readable left owned (Counted.give x) s = s
  more_readable readable left owned (Counted.tail_call f arguments) s = s
  more_readable readable left owned (Counted.case x decisions arms) s = s
  more_readable readable left owned (Counted.compute x form arguments rest) s = s
  more_readable readable left owned (Counted.inside x block rest) s = s
  more_readable readable left owned (Counted.read x c fields rest) s = s
  more_readable readable left owned (Counted.open_cell x c fields in_use rest) s = s
  more_readable readable left owned (Counted.if_unique x c fields in_use rest) s = s
  more_readable readable left owned (Counted.dup x rest) s = (
    s.0,
    (
      s.1.0,
      (
        elim (in_either lent s.0 x s.1.1.0) [
          | inl one ↦ in_front lent (readable ++ s.0) x one
          | inr two ↦ in_back lent (readable ++ s.0) x (in_back readable s.0 x two)
        ],
        more_readable readable left (x ∷ s.0) rest s.1.1.1,
      ),
    ),
  )
  more_readable readable left owned (Counted.drop x rest) s = s

  spends_dups : (xs readable : List ℕ) (left : Option (List ℕ)) (now : List ℕ) (code : Counted.Counted)
      → Part xs (lent ++ (readable ++ now)) → Spent readable left (xs ++ now) code → Spent readable left now (dups xs code)
  spends_dups [] readable left now code part s = s
  spends_dups (x ∷ xs) readable left now code part s = (
    now,
    (
      λ weight. refl,
      (
        part x (among_first x xs),
        spends_dups xs readable left (x ∷ now) code (λ y is. wider y (part y (among_next x y xs is)))
            (even_spent readable left (x ∷ (xs ++ now)) (xs ++ (x ∷ now)) code
            (λ weight. omega (arith, total_append weight xs (x ∷ now), total_append weight xs now)) s),
      ),
    ),
  )
    where
      wider : (y : ℕ) → is_among (lent ++ (readable ++ now)) y ≡ true → is_among (lent ++ (readable ++ (x ∷ now))) y ≡ true
      wider y is = either (in_either lent (readable ++ now) y is)
        where
          second : (is_among readable y ≡ true) ⊎ (is_among now y ≡ true) → is_among (readable ++ (x ∷ now)) y ≡ true
          second (inl one) = in_front readable (x ∷ now) y one
          second (inr two) = in_back readable (x ∷ now) y (among_next x y now two)

          either : (is_among lent y ≡ true) ⊎ (is_among (readable ++ now) y ≡ true)
              → is_among (lent ++ (readable ++ (x ∷ now))) y ≡ true
          either (inl one) = in_front lent (readable ++ (x ∷ now)) y one
          either (inr two) = in_back lent (readable ++ (x ∷ now)) y (second (in_either readable now y two))

  spends_drops : (xs : List ℕ) (left : Option (List ℕ)) (now : List ℕ) (code : Counted.Counted) → Spent [] left now code
      → Spent [] left (xs ++ now) (drops xs code)
  spends_drops [] left now code s = s
  spends_drops (x ∷ xs) left now code s = (xs ++ now, (λ weight. refl, spends_drops xs left now code s))

  pub spends_dropping : (all now : List ℕ) (left : Option (List ℕ)) (code : Counted.Counted) → AreApart all → AreApart now
      → Part now all → Spent [] left now code → Spent [] left all (dropping all now code)
  spends_dropping all now left code apart_all apart part s =
      even_spent [] left (without now all ++ now) all (drops (without now all) code) (dropping_even all now apart_all apart part)
      (spends_drops (without now all) left now code s)

  spends_landing : (x : ℕ) (now : List ℕ) (left : Option (List ℕ)) (code : Counted.Counted) → AreApart now → Spent [] left now code
      → Spent [] left (x ∷ without (x ∷ []) now) (dropping (x ∷ []) now code)
  spends_landing x now left code apart s =
      even_spent [] left (without now (x ∷ []) ++ now) (x ∷ without (x ∷ []) now) (drops (without now (x ∷ [])) code)
      (landing_even x now apart) (spends_drops (without now (x ∷ [])) left now code s)

  spends_back : (given : List ℕ) (x : ℕ) (now : List ℕ) (left : Option (List ℕ)) (code : Counted.Counted) → AreApart now
      → Spent [] left now code
      → Spent [] left (x ∷ owns lent given (without (x ∷ []) now)) (back lent given x now code)
  spends_back given x now left code apart s =
      even_spent [] left (without (without (x ∷ []) now) (owns lent given (without (x ∷ []) now)) ++ (x ∷ without (x ∷ []) now))
      (x ∷ owns lent given (without (x ∷ []) now)) (back lent given x now code)
      (λ weight. omega (
        arith,
        dropping_even (owns lent given (without (x ∷ []) now)) (without (x ∷ []) now)
            (owns_apart positions lent given (without (x ∷ []) now) apart_rest) apart_rest
            (owns_after positions lent given (without (x ∷ []) now)) weight,
        total_append weight (without (without (x ∷ []) now) (owns lent given (without (x ∷ []) now))) (without (x ∷ []) now),
        total_append weight (without (without (x ∷ []) now) (owns lent given (without (x ∷ []) now))) (x ∷ without (x ∷ []) now),
      ))
      (spends_drops (without (without (x ∷ []) now) (owns lent given (without (x ∷ []) now))) left (x ∷ without (x ∷ []) now)
      (dropping (x ∷ []) now code) (spends_landing x now left code apart s))
    where
      apart_rest : AreApart (without (x ∷ []) now)
      apart_rest = apart_filter (λ z. not (is_among (x ∷ []) z)) now apart

  -- ---- openings

  module _ (x c : ℕ) (fields now : List ℕ) (bound : List ℕ) (left : Option (List ℕ)) (rest : Counted.Counted)
      (there : is_among bound x ≡ true) (apart_fields : AreApart fields) (fresh : Clear fields bound)
      (fine : FineFields lent x fields)
      (apart : AreApart now) (part : Part now (fields ++ bound)) (s : Spent [] left now rest) where
    not_field : is_among fields x ≡ false
    not_field = clear_back fields bound fresh x there

    kept : (is_among lent x || is_among now x) ≡ true → owns lent (x ∷ []) (without fields now) ≡ without fields now
    kept stays = owns_kept positions lent (x ∷ []) (without fields now)
        (λ y is. subst (λ z. (is_among lent z ≡ true) ⊎ (is_among (without fields now) z ≡ true)) (one_only x y is)
        (either (or_cases (is_among lent x) (is_among now x) stays)))
      where
        either : (is_among lent x ≡ true) ⊎ (is_among now x ≡ true)
            → (is_among lent x ≡ true) ⊎ (is_among (without fields now) x ≡ true)
        either (inl one) = inl one
        either (inr two) = inr (in_without fields now x two not_field)

    spends_read : (is_among lent x || is_among now x) ≡ true
        → Spent [] left (without fields now) (Counted.read x c fields (dups (common now fields) rest))
    spends_read stays = (
      without fields now,
      (
        λ weight. refl,
        (
          clear_fresh fields (without fields now) (clear_back (without fields now) fields (without_clear fields now)),
          (
            from (or_cases (is_among lent x) (is_among now x) stays) fine,
            spends_dups (common now fields) fields left (without fields now) rest
                (λ y is. in_back lent (fields ++ without fields now) y
                (in_front fields (without fields now) y (filter_in (is_among now) fields y is)))
                (even_spent fields left now (common now fields ++ without fields now) rest
                (fields_even now fields apart apart_fields) (more_readable fields left now rest s)),
          ),
        ),
      ),
    )
      where
        from : (is_among lent x ≡ true) ⊎ (is_among now x ≡ true) → FineFields lent x fields
            → (is_among lent x ≡ true) ⊎ ((is_among (without fields now) x ≡ true) × AreFresh fields lent)
        from (inl one) f = inl one
        from (inr two) (inl f) = inl f.0
        from (inr two) (inr f) = inr (in_without fields now x two not_field, clear_fresh fields lent f.1)

    spends_open : is_among lent x ≡ false → is_among now x ≡ false
        → Spent [] left (x ∷ without fields now) (Counted.open_cell x c fields (common now fields) rest)
    spends_open unlent new = (
      without fields now,
      (
        λ weight. refl,
        (
          apart_fields,
          (
            clear_fresh fields (without fields now) (clear_back (without fields now) fields (without_clear fields now)),
            (
              unlent_fields fine,
              even_spent [] left now (filter (is_among (common now fields)) fields ++ without fields now) rest
                  (λ weight. ap (λ ys. total weight (ys ++ without fields now))
                  (filter_alike (is_among (common now fields)) (is_among now) fields
                  (λ y is. among_filter (is_among now) fields y ∙ ap (λ b. b && is_among now y) is))
                  ∙ fields_even now fields apart apart_fields weight) s,
            ),
          ),
        ),
      ),
    )
      where
        unlent_fields : FineFields lent x fields → AreFresh fields lent
        unlent_fields (inl f) = no_both (AreFresh fields lent) (is_among lent x) f.0 unlent
        unlent_fields (inr f) = clear_fresh fields lent f.1

    spends_opening : Spent [] left (owns lent (x ∷ []) (without fields now))
        (opening (is_among lent x || is_among now x) x c fields (common now fields) rest)
    spends_opening = by_tests (is_among lent x) refl (is_among now x) refl
      where
        by_tests : (t : Bool) → is_among lent x ≡ t → (u : Bool) → is_among now x ≡ u
            → Spent [] left (owns lent (x ∷ []) (without fields now))
            (if t || u then Counted.read x c fields (dups (common now fields) rest) else Counted.open_cell x c fields
            (common now fields) rest)
        by_tests true one u two =
            let stays : (is_among lent x || is_among now x) ≡ true = or_left (is_among lent x) (is_among now x) one in
            subst (λ o. Spent [] left o (Counted.read x c fields (dups (common now fields) rest))) (sym (kept stays))
            (spends_read stays)
        by_tests false one true two =
            let stays : (is_among lent x || is_among now x) ≡ true = ap (λ b. b || is_among now x) one ∙ two in
            subst (λ o. Spent [] left o (Counted.read x c fields (dups (common now fields) rest))) (sym (kept stays))
            (spends_read stays)
        by_tests false one false two =
            subst (λ o. Spent [] left o (Counted.open_cell x c fields (common now fields) rest))
            (sym (owns_new positions lent x (without fields now) one
            (false_if (is_among (without fields now) x)
            (λ is. no_both ⊥ (is_among now x) (filter_in (λ z. not (is_among fields z)) now x is) two))))
            (spends_open one two)

  -- ---- forms

  fits_form : (form : Form) (arguments : List ℕ) → FormTakes positions source form arguments
      → FitsForm positions functions form arguments
  fits_form (Number n) arguments takes = tt
  fits_form Nothing arguments takes = tt
  fits_form ReadByte arguments takes = tt
  fits_form (PrintText form text) arguments takes = tt
  fits_form (Unary operator) arguments takes = tt
  fits_form (Binary operator) arguments takes = tt
  fits_form (Print form) arguments takes = tt
  fits_form (Construct c) arguments takes = tt
  fits_form (Call f) arguments takes = as_many f arguments takes

  spends_compute : (x : ℕ) (form : Form) (arguments now bound : List ℕ) (left : Option (List ℕ)) (rest : Counted.Counted)
      → Part arguments bound → is_among bound x ≡ false → is_among lent x ≡ false → FormTakes positions source form arguments
      → AreApart now → Spent [] left now rest
      → Spent [] left (owns lent (used positions form arguments)
      (owns lent (lends positions form arguments) (without (x ∷ []) now)))
      (dups (wants lent (used positions form arguments) (owns lent (lends positions form arguments) (without (x ∷ []) now)))
      (Counted.compute x form arguments (back lent (lends positions form arguments) x now rest)))
  spends_compute x form arguments now bound left rest part new unlent takes apart s =
      spends_dups (wants lent (used positions form arguments) (owns lent (lends positions form arguments) (without (x ∷ []) now)))
      [] left (owns lent (used positions form arguments) (owns lent (lends positions form arguments) (without (x ∷ []) now)))
      (Counted.compute x form arguments (back lent (lends positions form arguments) x now rest))
      (wants_in positions lent (used positions form arguments) (owns lent (lends positions form arguments) (without
      (x ∷ []) now))) (
        owns lent (lends positions form arguments) (without (x ∷ []) now),
        (
          λ weight. wants_even positions lent (used positions form arguments)
              (owns lent (lends positions form arguments) (without (x ∷ []) now)) weight
              ∙ ap (λ ys. total weight (ys ++ (owns lent (lends positions form arguments) (without (x ∷ []) now))))
              (sym (used_same positions functions form arguments)),
          (
            subst (λ ys. AllAmong ys (lent ++ (owns lent (lends positions form arguments) (without (x ∷ []) now))))
                (sym (lends_same positions functions form arguments))
                (part_all (lends positions form arguments)
                (lent ++ (owns lent (lends positions form arguments) (without (x ∷ []) now)))
                (lent_arguments lent (owns lent (lends positions form arguments) (without (x ∷ []) now))
                (lends positions form arguments)
                (λ y is other. in_owns positions lent (lends positions form arguments) (without (x ∷ []) now) y is other))),
            (
              fits_form form arguments takes,
              (
                false_if (is_among (owns lent (lends positions form arguments) (without (x ∷ []) now)) x)
                    (λ is. never (owns_either positions lent (lends positions form arguments) (without (x ∷ []) now) x is)),
                (unlent, spends_back (lends positions form arguments) x now left rest apart s),
              ),
            ),
          ),
        ),
      )
    where
      never : (is_among (lends positions form arguments) x ≡ true) ⊎ (is_among (without (x ∷ []) now) x ≡ true) → ⊥
      never (inl one) = no_both ⊥ (is_among bound x) (part x (lends_part positions form arguments x one)) new
      never (inr two) = no_both ⊥ (is_among (without (x ∷ []) now) x) two (no_self x now)

  -- ---- codes

  mutual
    pub spends : (code : Code) (bound : List ℕ) (left : Option (List ℕ)) → IsFine lent bound code
        → LendsOn positions source lent (at_tail left) code
        → Part (left_by left) bound → AreApart (left_by left)
        → Spent [] left (own positions lent (left_by left) code) (insert positions lent (left_by left) code)
    spends (give x) bound left fine on part apart =
        spends_dups (wants lent (x ∷ []) (left_by left)) [] left (owns lent (x ∷ []) (left_by left)) (Counted.give x)
        (wants_in positions lent (x ∷ []) (left_by left))
        (wants_even positions lent (x ∷ []) (left_by left))
    spends (tail_call f arguments) bound None fine on part apart =
        spends_dups (wants lent (used positions (Call f) arguments) []) [] None (owns lent (used positions (Call f) arguments) [])
        (Counted.tail_call f arguments) (wants_in positions lent (used positions (Call f) arguments) []) (
          refl,
          (
            as_many f arguments on.1.1,
            (
              on.1.0,
              λ weight. wants_even positions lent (used positions (Call f) arguments) [] weight
                  ∙ omega (arith, total_append weight (used positions (Call f) arguments) []),
            ),
          ),
        )
    spends (tail_call f arguments) bound (Some left) fine on part apart = absurd (cc)
    spends (case x decisions arms) bound left fine on part apart = (
      own positions lent (left_by left) (case x decisions arms),
      (
        λ weight. refl,
        (
          looked_at positions lent x (own_arms positions lent (left_by left) arms),
          spends_arms arms bound left (own positions lent (left_by left) (case x decisions arms)) fine.1 on part apart
              (own_apart positions lent (left_by left) (case x decisions arms) apart)
              (owns_after positions lent (x ∷ []) (own_arms positions lent (left_by left) arms)),
        ),
      ),
    )
    spends (compute x form arguments rest) bound left fine on part apart =
        spends_compute x form arguments (own positions lent (left_by left) rest) bound left
        (insert positions lent (left_by left) rest)
        fine.0 fine.1.0 fine.1.1.0 on.0 (own_apart positions lent (left_by left) rest apart)
        (spends rest (x ∷ bound) left fine.1.1.1 on.1 (λ y is. among_next x y bound (part y is)) apart)
    spends (use_of x rest) bound left fine on part apart =
        spends_dropping (owns lent (x ∷ []) (own positions lent (left_by left) rest)) (own positions lent (left_by left) rest) left
        (insert positions lent (left_by left) rest)
        (own_apart positions lent (left_by left) (use_of x rest) apart) (own_apart positions lent (left_by left) rest apart)
        (owns_after positions lent (x ∷ []) (own positions lent (left_by left) rest))
        (spends rest bound left fine.1 on part apart)
    spends (unpack x c fields rest) bound left fine on part apart =
        spends_opening x c fields (own positions lent (left_by left) rest) bound left (insert positions lent (left_by left) rest)
        fine.0 fine.1.0 fine.1.1.0 fine.1.1.1.0 (own_apart positions lent (left_by left) rest apart)
        (own_part positions lent (left_by left) (fields ++ bound) rest fine.1.1.1.1 (λ y is. in_back fields bound y (part y is)))
        (spends rest (fields ++ bound) left fine.1.1.1.1 on (λ y is. in_back fields bound y (part y is)) apart)
    spends (inside x block rest) bound left fine on part apart = (
      own positions lent (left_by left) (inside x block rest),
      (
        without (x ∷ []) (own positions lent (left_by left) rest),
        (
          λ weight. refl,
          (
            no_self x (own positions lent (left_by left) rest),
            (
              fine.1.1.0,
              (
                spends block bound (Some (without (x ∷ []) (own positions lent (left_by left) rest))) fine.0 on.0
                    (rest_part positions lent x (own positions lent (left_by left) rest) bound
                    (own_part positions lent (left_by left) (x ∷ bound) rest fine.1.1.1
                    (λ y is. among_next x y bound (part y is))))
                    (apart_filter (λ z. not (is_among (x ∷ []) z)) (own positions lent (left_by left) rest)
                    (own_apart positions lent (left_by left) rest apart)),
                spends_landing x (own positions lent (left_by left) rest) left (insert positions lent (left_by left) rest)
                    (own_apart positions lent (left_by left) rest apart)
                    (spends rest (x ∷ bound) left fine.1.1.1 on.1 (λ y is. among_next x y bound (part y is)) apart),
              ),
            ),
          ),
        ),
      ),
    )

    pub spends_arms : (arms : Arms) (bound : List ℕ) (left : Option (List ℕ)) (all : List ℕ) → AreFine lent bound arms
        → AllLendOn positions source lent (at_tail left) arms
        → Part (left_by left) bound → AreApart (left_by left) → AreApart all
        → Part (own_arms positions lent (left_by left) arms) all
        → SpendsAll positions functions lent left all (insert_arms positions lent (left_by left) all arms)
    spends_arms no_arm bound left all fine on part apart apart_all within = tt
    spends_arms (arm pattern body rest) bound left all fine on part apart apart_all within = (
      spends_dropping all (own positions lent (left_by left) body) left (insert positions lent (left_by left) body) apart_all
          (own_apart positions lent (left_by left) body apart)
          (λ y is. within y (before_front (own positions lent (left_by left) body)
          (own_arms positions lent (left_by left) rest) y is)) (spends body bound left fine.0 on.0 part apart),
      spends_arms rest bound left all fine.1 on.1 part apart apart_all
          (λ y is. within y (before_back (own positions lent (left_by left) body)
          (own_arms positions lent (left_by left) rest) y is)),
    )
