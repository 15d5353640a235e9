-- What a code owns: variables that are bound, without repetition, and none that is lent.
use Rattle.std.proofs.Common.{◌≡◌, ◌⊎◌, inl, inr, ℕ, suc, ◌==◌, ◌||◌, Bool, true, false, not, List, [], ◌∷◌, ◌++◌, arith, refl, ap, subst}
use Rattle.std.specs.Prelude.{if◌then◌else◌}
use Rattle.kk_syntax.specs.declared.program.Form.{Form}
use Rattle.kk_syntax.specs.declared.program.Form.TheVariants.{Number, Unit as Nothing, ReadByte, PrintText, Unary, Binary, Print, Construct, Call}
use Rattle.kk_syntax.specs.Shapes.{is_among, without}
use Rattle.kk_syntax.specs.PositionsOf.{PositionTable, is_lent}
use Rattle.kk_core.specs.Codes.{Code, give, tail_call, case, compute, use_of, unpack, inside, Arms, no_arm, arm}
use Rattle.kk_counted.specs.CountedCodes.{CountedFunction}
use Rattle.kk_counted.specs.Spending.{AreEven, AreApart, at_positions, is_owned, used_by, lent_by}
use Rattle.kk_insert.specs.Insertion.{before, extra, common, used, lends, owns, wants, own, own_arms}
use Rattle.kk_insert.proofs.Sets.{or_cases, no_both, Part, Clear, among_next, one_only, in_front, in_back, in_either, filter_in, filter_passes, without_clear, in_without, before_front, before_back, before_either, extra_in, apart_filter, apart_before, total_append, total_before, total_parts}
use Rattle.kk_insert.proofs.VariableBindings.{IsFine, AreFine}

-- ---- arguments

pub part_at : (takes : ℕ → Bool) (next : ℕ) (xs : List ℕ) → Part (at_positions takes next xs) xs
part_at takes next [] y is = is
part_at takes next (x ∷ xs) y is = by_test (takes next) is (part_at takes (suc next) xs y)
  where
    by_test : (t : Bool) → is_among (if t then x ∷ at_positions takes (suc next) xs else at_positions takes (suc next) xs) y ≡ true
        → (is_among (at_positions takes (suc next) xs) y ≡ true → is_among xs y ≡ true) → is_among (x ∷ xs) y ≡ true
    by_test true is later = either (or_cases (x == y) (is_among (at_positions takes (suc next) xs) y) is)
      where
        either : ((x == y) ≡ true) ⊎ (is_among (at_positions takes (suc next) xs) y ≡ true) → is_among (x ∷ xs) y ≡ true
        either (inl here) = ap (λ b. b || is_among xs y) here
        either (inr there) = among_next x y xs (later there)
    by_test false is later = among_next x y xs (later is)

-- which functions there are does not matter
pub used_same : (positions : PositionTable) (functions : List CountedFunction) (form : Form) (xs : List ℕ)
    → used_by positions functions form xs ≡ used positions form xs
used_same positions functions (Number n) xs = refl
used_same positions functions Nothing xs = refl
used_same positions functions ReadByte xs = refl
used_same positions functions (PrintText form text) xs = refl
used_same positions functions (Unary operator) xs = refl
used_same positions functions (Binary operator) xs = refl
used_same positions functions (Print form) xs = refl
used_same positions functions (Construct c) xs = refl
used_same positions functions (Call f) xs = refl

pub lends_same : (positions : PositionTable) (functions : List CountedFunction) (form : Form) (xs : List ℕ)
    → lent_by positions functions form xs ≡ lends positions form xs
lends_same positions functions (Number n) xs = refl
lends_same positions functions Nothing xs = refl
lends_same positions functions ReadByte xs = refl
lends_same positions functions (PrintText form text) xs = refl
lends_same positions functions (Unary operator) xs = refl
lends_same positions functions (Binary operator) xs = refl
lends_same positions functions (Print form) xs = refl
lends_same positions functions (Construct c) xs = refl
lends_same positions functions (Call f) xs = refl

pub used_part : (positions : PositionTable) (form : Form) (xs : List ℕ) → Part (used positions form xs) xs
used_part positions (Number n) xs y is = is
used_part positions Nothing xs y is = is
used_part positions ReadByte xs y is = is
used_part positions (PrintText form text) xs y is = is
used_part positions (Unary operator) xs y is = is
used_part positions (Binary operator) xs y is = is
used_part positions (Print form) xs y is = is
used_part positions (Construct c) xs y is = is
used_part positions (Call f) xs y is = part_at (is_owned positions [] f) 0 xs y is

nothing_in : (xs : List ℕ) → Part [] xs
nothing_in xs y is = absurd (cc)

pub lends_part : (positions : PositionTable) (form : Form) (xs : List ℕ) → Part (lends positions form xs) xs
lends_part positions (Number n) xs y is = nothing_in xs y is
lends_part positions Nothing xs y is = nothing_in xs y is
lends_part positions ReadByte xs y is = nothing_in xs y is
lends_part positions (PrintText form text) xs y is = nothing_in xs y is
lends_part positions (Unary operator) xs y is = nothing_in xs y is
lends_part positions (Binary operator) xs y is = nothing_in xs y is
lends_part positions (Print form) xs y is = nothing_in xs y is
lends_part positions (Construct c) xs y is = nothing_in xs y is
lends_part positions (Call f) xs y is = part_at (is_lent positions f) 0 xs y is

-- ---- what is owned before variables are used up

module _ (positions : PositionTable) (lent : List ℕ) where
  pub owns_either : (xs after : List ℕ) (y : ℕ) → is_among (owns lent xs after) y ≡ true
      → (is_among xs y ≡ true) ⊎ (is_among after y ≡ true)
  owns_either xs after y is = either (before_either (without lent xs) after y is)
    where
      either : (is_among (without lent xs) y ≡ true) ⊎ (is_among after y ≡ true)
          → (is_among xs y ≡ true) ⊎ (is_among after y ≡ true)
      either (inl here) = inl (filter_in (λ x. not (is_among lent x)) xs y here)
      either (inr there) = inr there

  pub owns_part : (xs after bound : List ℕ) → Part xs bound → Part after bound → Part (owns lent xs after) bound
  owns_part xs after bound one two y is = elim (owns_either xs after y is) [ inl here ↦ one y here | inr there ↦ two y there ]

  pub owns_clear : (xs after : List ℕ) → Clear after lent → Clear (owns lent xs after) lent
  owns_clear xs after clear y is =
      elim (before_either (without lent xs) after y is) [ inl here ↦ without_clear lent xs y here | inr there ↦ clear y there ]

  pub owns_apart : (xs after : List ℕ) → AreApart after → AreApart (owns lent xs after)
  owns_apart xs after apart = apart_before (without lent xs) after apart

  -- a variable that is not lent, and is used up, is owned
  pub in_owns : (xs after : List ℕ) (y : ℕ) → is_among xs y ≡ true → is_among lent y ≡ false
      → is_among (owns lent xs after) y ≡ true
  in_owns xs after y is unlent = before_front (without lent xs) after y (in_without lent xs y is unlent)

  pub owns_after : (xs after : List ℕ) → Part after (owns lent xs after)
  owns_after xs after y is = before_back (without lent xs) after y is

  -- the dups of uses are of lent variables and of owned ones
  pub wants_in : (xs after : List ℕ) → Part (wants lent xs after) (lent ++ owns lent xs after)
  wants_in xs after y is = either (in_either (common lent xs) (extra (without lent xs) after) y is)
    where
      either : (is_among (common lent xs) y ≡ true) ⊎ (is_among (extra (without lent xs) after) y ≡ true)
          → is_among (lent ++ owns lent xs after) y ≡ true
      either (inl here) = in_front lent (owns lent xs after) y (filter_passes (is_among lent) xs y here)
      either (inr there) = in_back lent (owns lent xs after) y (extra_in (without lent xs) after y there)

  -- with their dups the uses leave what is to be left
  pub wants_even : (xs after : List ℕ) → AreEven (wants lent xs after ++ owns lent xs after) (xs ++ after)
  wants_even xs after = λ weight. omega (
    arith,
    total_append weight (wants lent xs after) (owns lent xs after),
    total_append weight (common lent xs) (extra (without lent xs) after),
    total_before weight (without lent xs) after,
    total_parts weight lent xs,
    total_append weight xs after,
  )

  -- ---- what a code owns

  pub before_part : (xs ys bound : List ℕ) → Part xs bound → Part ys bound → Part (before xs ys) bound
  before_part xs ys bound one two y is = elim (before_either xs ys y is) [ inl here ↦ one y here | inr there ↦ two y there ]

  pub fields_part : (fields xs bound : List ℕ) → Part xs (fields ++ bound) → Part (without fields xs) bound
  fields_part fields xs bound part y is = either
      (in_either fields bound y (part y (filter_in (λ x. not (is_among fields x)) xs y is)))
    where
      either : (is_among fields y ≡ true) ⊎ (is_among bound y ≡ true) → is_among bound y ≡ true
      either (inl here) = no_both (is_among bound y ≡ true) (is_among fields y) here (without_clear fields xs y is)
      either (inr there) = there

  pub rest_part : (x : ℕ) (xs bound : List ℕ) → Part xs (x ∷ bound) → Part (without (x ∷ []) xs) bound
  rest_part x xs bound part y is = fields_part (x ∷ []) xs bound part y is

  mutual
    pub own_part : (left bound : List ℕ) (code : Code) → IsFine lent bound code → Part left bound
        → Part (own positions lent left code) bound
    own_part left bound (give x) fine part = owns_part (x ∷ []) left bound
        (λ y is. subst (λ z. is_among bound z ≡ true) (one_only x y is) fine) part
    own_part left bound (tail_call f arguments) fine part =
        owns_part (used positions (Call f) arguments) left bound (λ y is. fine y (used_part positions (Call f) arguments y is)) part
    own_part left bound (case x decisions arms) fine part =
        owns_part (x ∷ []) (own_arms positions lent left arms) bound
        (λ y is. subst (λ z. is_among bound z ≡ true) (one_only x y is) fine.0) (own_arms_part left bound arms fine.1 part)
    own_part left bound (compute x form arguments rest) fine part =
        owns_part (used positions form arguments)
        (owns lent (lends positions form arguments) (without (x ∷ []) (own positions lent left rest))) bound
        (λ y is. fine.0 y (used_part positions form arguments y is))
        (owns_part (lends positions form arguments) (without (x ∷ []) (own positions lent left rest)) bound
        (λ y is. fine.0 y (lends_part positions form arguments y is))
        (rest_part x (own positions lent left rest) bound
        (own_part left (x ∷ bound) rest fine.1.1.1 (λ y is. among_next x y bound (part y is)))))
    own_part left bound (use_of x rest) fine part =
        owns_part (x ∷ []) (own positions lent left rest) bound
        (λ y is. subst (λ z. is_among bound z ≡ true) (one_only x y is) fine.0) (own_part left bound rest fine.1 part)
    own_part left bound (unpack x c fields rest) fine part =
        owns_part (x ∷ []) (without fields (own positions lent left rest)) bound
        (λ y is. subst (λ z. is_among bound z ≡ true) (one_only x y is) fine.0)
        (fields_part fields (own positions lent left rest) bound
        (own_part left (fields ++ bound) rest fine.1.1.1.1 (λ y is. in_back fields bound y (part y is))))
    own_part left bound (inside x block rest) fine part =
        own_part (without (x ∷ []) (own positions lent left rest)) bound block fine.0
        (rest_part x (own positions lent left rest) bound
        (own_part left (x ∷ bound) rest fine.1.1.1 (λ y is. among_next x y bound (part y is))))

    pub own_arms_part : (left bound : List ℕ) (arms : Arms) → AreFine lent bound arms → Part left bound
        → Part (own_arms positions lent left arms) bound
    own_arms_part left bound no_arm fine part = part
    own_arms_part left bound (arm pattern body rest) fine part =
        before_part (own positions lent left body) (own_arms positions lent left rest) bound (own_part left bound body fine.0 part)
        (own_arms_part left bound rest fine.1 part)

  mutual
    pub own_clear : (left : List ℕ) (code : Code) → Clear left lent → Clear (own positions lent left code) lent
    own_clear left (give x) clear = owns_clear (x ∷ []) left clear
    own_clear left (tail_call f arguments) clear = owns_clear (used positions (Call f) arguments) left clear
    own_clear left (case x decisions arms) clear = owns_clear (x ∷ []) (own_arms positions lent left arms)
        (own_arms_clear left arms clear)
    own_clear left (compute x form arguments rest) clear =
        owns_clear (used positions form arguments)
        (owns lent (lends positions form arguments) (without (x ∷ []) (own positions lent left rest)))
        (owns_clear (lends positions form arguments) (without (x ∷ []) (own positions lent left rest))
        (λ y is. own_clear left rest clear y (filter_in (λ z. not (is_among (x ∷ []) z)) (own positions lent left rest) y is)))
    own_clear left (use_of x rest) clear = owns_clear (x ∷ []) (own positions lent left rest) (own_clear left rest clear)
    own_clear left (unpack x c fields rest) clear =
        owns_clear (x ∷ []) (without fields (own positions lent left rest))
        (λ y is. own_clear left rest clear y (filter_in (λ z. not (is_among fields z)) (own positions lent left rest) y is))
    own_clear left (inside x block rest) clear =
        own_clear (without (x ∷ []) (own positions lent left rest)) block
        (λ y is. own_clear left rest clear y (filter_in (λ z. not (is_among (x ∷ []) z)) (own positions lent left rest) y is))

    pub own_arms_clear : (left : List ℕ) (arms : Arms) → Clear left lent → Clear (own_arms positions lent left arms) lent
    own_arms_clear left no_arm clear = clear
    own_arms_clear left (arm pattern body rest) clear =
        λ y is. elim (before_either (own positions lent left body) (own_arms positions lent left rest) y is)
        [ inl here ↦ own_clear left body clear y here | inr there ↦ own_arms_clear left rest clear y there ]

  mutual
    pub own_apart : (left : List ℕ) (code : Code) → AreApart left → AreApart (own positions lent left code)
    own_apart left (give x) apart = owns_apart (x ∷ []) left apart
    own_apart left (tail_call f arguments) apart = owns_apart (used positions (Call f) arguments) left apart
    own_apart left (case x decisions arms) apart = owns_apart (x ∷ []) (own_arms positions lent left arms)
        (own_arms_apart left arms apart)
    own_apart left (compute x form arguments rest) apart =
        owns_apart (used positions form arguments)
        (owns lent (lends positions form arguments) (without (x ∷ []) (own positions lent left rest)))
        (owns_apart (lends positions form arguments) (without (x ∷ []) (own positions lent left rest))
        (apart_filter (λ z. not (is_among (x ∷ []) z)) (own positions lent left rest) (own_apart left rest apart)))
    own_apart left (use_of x rest) apart = owns_apart (x ∷ []) (own positions lent left rest) (own_apart left rest apart)
    own_apart left (unpack x c fields rest) apart =
        owns_apart (x ∷ []) (without fields (own positions lent left rest))
        (apart_filter (λ z. not (is_among fields z)) (own positions lent left rest) (own_apart left rest apart))
    own_apart left (inside x block rest) apart =
        own_apart (without (x ∷ []) (own positions lent left rest)) block
        (apart_filter (λ z. not (is_among (x ∷ []) z)) (own positions lent left rest) (own_apart left rest apart))

    pub own_arms_apart : (left : List ℕ) (arms : Arms) → AreApart left → AreApart (own_arms positions lent left arms)
    own_arms_apart left no_arm apart = apart
    own_arms_apart left (arm pattern body rest) apart = apart_before (own positions lent left body)
        (own_arms positions lent left rest) (own_arms_apart left rest apart)
