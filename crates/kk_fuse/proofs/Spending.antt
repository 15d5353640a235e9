-- Fused code spends what the code spends that it is made of.
use Rattle.std.proofs.Common.{◌≡◌, ◌⊎◌, inl, inr, ◌==◌, ◌||◌, ℕ, Bool, true, false, List, [], ◌∷◌, ◌++◌, Option, Some, arith, refl}
use Rattle.std.proofs.Common.{sym, ◌∙◌}
use Rattle.kk_syntax.specs.declared.program.Form.{Form}
use Rattle.kk_syntax.specs.declared.program.Form.TheVariants.{Number, Unit as Nothing, ReadByte, PrintText, Unary, Binary, Print}
use Rattle.kk_syntax.specs.declared.program.Form.TheVariants.{Construct, Call}
use Rattle.kk_syntax.specs.PositionsOf.{PositionTable}
use Rattle.kk_syntax.specs.Shapes.{is_among}
use Rattle.kk_counted.specs.CountedCodes.{Counted, give, tail_call, case, compute, inside, read, open_cell, if_unique, dup, drop}
use Rattle.kk_counted.specs.CountedCodes.{CountedFunction}
use Rattle.kk_counted.specs.VariableLists.{minus}
use Rattle.kk_counted.specs.Spending.{AreEven, AllAmong, AreFresh, used_by, lent_by, Spends, SpendsParameters}
use Rattle.kk_counted.proofs.Evenness.{total_append, even_among, even_back, even_same, minus_even, among_front, among_behind}
use Rattle.kk_counted.proofs.Order.{spends_even}
use Rattle.kk_counted.proofs.Variables.{turned, among_first, among_cases}
use Rattle.kk_dropspec.proofs.ChangedFunctions.{HaveAsMany}
use Rattle.kk_dropspec.proofs.Spending.{changed_spends_parameters}
use Rattle.kk_fuse.specs.Fused.{is_plain, without_drop, fuse, fused_function}
use Rattle.kk_fuse.proofs.DropRemoval.{by_without, Without, fuse_changes}

-- ---- lists of variables

-- what is fresh for a list is fresh for one that has no others
fewer : (xs ys : List ℕ) (y : ℕ) → (is_among ys y ≡ true → is_among xs y ≡ true) → is_among xs y ≡ false → is_among ys y ≡ false
fewer xs ys y has none = by_test (is_among ys y) refl
  where
    by_test : (t : Bool) → is_among ys y ≡ t → t ≡ false
    by_test false is = refl
    by_test true is = sym (has is) ∙ none

-- the same of some variables
fresh_fewer : (fields xs ys : List ℕ) → ((y : ℕ) → is_among ys y ≡ true → is_among xs y ≡ true) → AreFresh fields xs
    → AreFresh fields ys
fresh_fewer [] xs ys has fresh = tt
fresh_fewer (field ∷ fields) xs ys has fresh = (fewer xs ys field (has field) fresh.0, fresh_fewer fields xs ys has fresh.1)

-- a list that has one variable more has the others
still : (xs ys : List ℕ) (x : ℕ) → AreEven xs (x ∷ ys) → (y : ℕ) → is_among ys y ≡ true → is_among xs y ≡ true
still xs ys x even y is = even_among (x ∷ ys) xs y (even_back xs (x ∷ ys) even) (by_test (x == y) is)
  where
    by_test : (t : Bool) → is_among ys y ≡ true → (t || is_among ys y) ≡ true
    by_test true is = refl
    by_test false is = is

-- a variable that is not the first one is among the others
past_first : (x y : ℕ) (ys : List ℕ) → (x == y) ≡ false → is_among (x ∷ ys) y ≡ true → is_among ys y ≡ true
past_first x y ys apart is = by_test (x == y) apart is
  where
    by_test : (t : Bool) → t ≡ false → (t || is_among ys y) ≡ true → is_among ys y ≡ true
    by_test true apart is = absurd (cc)
    by_test false apart is = is

-- a variable is among variables that are used or kept, and not among those that are used
kept_there : (used xs : List ℕ) (x : ℕ) → is_among used x ≡ false → is_among (used ++ xs) x ≡ true → is_among xs x ≡ true
kept_there used xs x none is = by_case (among_cases used xs x is)
  where
    by_case : (is_among used x ≡ true) ⊎ (is_among xs x ≡ true) → is_among xs x ≡ true
    by_case (inl one) = absurd (cc)
    by_case (inr one) = one

-- a variable of a list is among lists of which each has the other's
among_through : (front behind others : List ℕ) (y : ℕ) → (is_among behind y ≡ true → is_among others y ≡ true)
    → is_among (front ++ behind) y ≡ true → is_among (front ++ others) y ≡ true
among_through front behind others y has is = by_case (among_cases front behind y is)
  where
    by_case : (is_among front y ≡ true) ⊎ (is_among behind y ≡ true) → is_among (front ++ others) y ≡ true
    by_case (inl one) = among_front front others y one
    by_case (inr one) = among_behind front others y (has one)

-- ---- plain forms

-- a plain form uses none but its arguments
plain_uses : (positions : PositionTable) (functions : List CountedFunction) (form : Form) (arguments : List ℕ) (x : ℕ)
    → is_plain form arguments ≡ true → is_among arguments x ≡ false
    → is_among (used_by positions functions form arguments) x ≡ false
plain_uses positions functions (Call f) arguments x plain none = absurd (cc)
plain_uses positions functions (Number n) arguments x plain none = none
plain_uses positions functions Nothing arguments x plain none = none
plain_uses positions functions ReadByte arguments x plain none = none
plain_uses positions functions (PrintText form text) arguments x plain none = none
plain_uses positions functions (Unary operator) arguments x plain none = none
plain_uses positions functions (Binary operator) arguments x plain none = none
plain_uses positions functions (Print form) arguments x plain none = none
plain_uses positions functions (Construct c) arguments x plain none = none

-- a plain form is lent nothing
plain_lends : (positions : PositionTable) (functions : List CountedFunction) (form : Form) (arguments ys : List ℕ)
    → is_plain form arguments ≡ true → AllAmong (lent_by positions functions form arguments) ys
plain_lends positions functions (Call f) arguments ys plain = absurd (cc)
plain_lends positions functions (Number n) arguments ys plain = tt
plain_lends positions functions Nothing arguments ys plain = tt
plain_lends positions functions ReadByte arguments ys plain = tt
plain_lends positions functions (PrintText form text) arguments ys plain = tt
plain_lends positions functions (Unary operator) arguments ys plain = tt
plain_lends positions functions (Binary operator) arguments ys plain = tt
plain_lends positions functions (Print form) arguments ys plain = tt
plain_lends positions functions (Construct c) arguments ys plain = tt

-- ---- code without its next drop of a variable spends that variable once less

module _ (positions : PositionTable) (functions : List CountedFunction) (lent : List ℕ) where
  -- variables that have just been read may be duplicated
  readable_too : (readable : List ℕ) (left : Option (List ℕ)) (owned : List ℕ) (code : Counted)
      → Spends positions functions lent [] left owned code → Spends positions functions lent readable left owned code
  readable_too readable left owned (give x) s = s
  readable_too readable left owned (tail_call f arguments) s = s
  readable_too readable left owned (case x decisions arms) s = s
  readable_too readable left owned (compute x form arguments rest) s = s
  readable_too readable left owned (inside x block rest) s = s
  readable_too readable left owned (read x c fields rest) s = s
  readable_too readable left owned (open_cell x c fields used rest) s = s
  readable_too readable left owned (if_unique x c fields used rest) s = s
  readable_too readable left owned (dup x rest) s = (
    s.0,
    (
      s.1.0,
      (
        among_through lent s.0 (readable ++ s.0) x (among_behind readable s.0 x) s.1.1.0,
        readable_too readable left (x ∷ s.0) rest s.1.1.1,
      ),
    ),
  )
  readable_too readable left owned (drop x rest) s = s

  -- what a code spends that owns a variable once more, the code spends without that variable's next drop
  SpendsLess : ℕ → Counted → Counted → Type 0
  SpendsLess x code less =
      (readable : List ℕ) (left : Option (List ℕ)) (owned kept : List ℕ) → AreEven owned (x ∷ kept)
      → Spends positions functions lent readable left owned code → Spends positions functions lent readable left kept less

  module _ (x : ℕ) where
    -- at the drop
    less_at : (rest : Counted) → SpendsLess x (drop x rest) rest
    unfolding SpendsLess
    less_at rest readable left owned kept even s =
        readable_too readable left kept rest
        (spends_even positions functions lent [] left s.0 kept (λ w. omega (arith, even w, s.1.0 w)) rest s.1.1)

    -- past a drop of another variable
    less_drop : (y : ℕ) (rest less : Counted) → (y == x) ≡ false → SpendsLess x rest less → SpendsLess x (drop y rest) (drop y less)
    unfolding SpendsLess
    less_drop y rest less apart later readable left owned kept even s =
        (minus x s.0, (λ w. omega (arith, even w, s.1.0 w, out w), later [] left s.0 (minus x s.0) out s.1.1))
      where
        there : is_among s.0 x ≡ true
        there =
            past_first y x s.0 apart
            (even_among owned (y ∷ s.0) x s.1.0
            (even_among (x ∷ kept) owned x (even_back owned (x ∷ kept) even) (among_first x kept)))

        out : AreEven s.0 (x ∷ minus x s.0)
        out = minus_even x s.0 there

    -- past a dup of another variable
    less_dup : (y : ℕ) (rest less : Counted) → (y == x) ≡ false → SpendsLess x rest less → SpendsLess x (dup y rest) (dup y less)
    unfolding SpendsLess
    less_dup y rest less apart later readable left owned kept even s = (
      kept,
      (
        even_same kept,
        (
          among_through lent (readable ++ s.0) (readable ++ kept) y
              (among_through readable s.0 kept y
              (λ is. past_first x y kept (turned y x apart) (even_among s.0 (x ∷ kept) y out is))) s.1.1.0,
          later readable left (y ∷ s.0) (y ∷ kept) (λ w. omega (arith, out w)) s.1.1.1,
        ),
      ),
    )
      where
        out : AreEven s.0 (x ∷ kept)
        out = λ w. sym (s.1.0 w) ∙ even w

    -- past a reading that does not name the variable
    less_read : (y c : ℕ) (fields : List ℕ) (rest less : Counted) → (y == x) ≡ false → is_among fields x ≡ false
        → SpendsLess x rest less → SpendsLess x (read y c fields rest) (read y c fields less)
    unfolding SpendsLess
    less_read y c fields rest less apart named later readable left owned kept even s = (
      kept,
      (
        even_same kept,
        (
          fresh_fewer fields s.0 kept (still s.0 kept x out) s.1.1.0,
          (by_case s.1.1.1.0, later fields left s.0 kept out s.1.1.1.1),
        ),
      ),
    )
      where
        out : AreEven s.0 (x ∷ kept)
        out = λ w. sym (s.1.0 w) ∙ even w

        by_case : (is_among lent y ≡ true) ⊎ ((is_among s.0 y ≡ true) × AreFresh fields lent)
            → (is_among lent y ≡ true) ⊎ ((is_among kept y ≡ true) × AreFresh fields lent)
        by_case (inl is) = inl is
        by_case (inr both) = inr (past_first x y kept (turned y x apart) (even_among s.0 (x ∷ kept) y out both.0), both.1)

    -- past a plain form that does not name the variable
    less_compute : (y : ℕ) (form : Form) (arguments : List ℕ) (rest less : Counted) → (y == x) ≡ false
        → is_among arguments x ≡ false → is_plain form arguments ≡ true → SpendsLess x rest less
        → SpendsLess x (compute y form arguments rest) (compute y form arguments less)
    unfolding SpendsLess
    less_compute y form arguments rest less apart named plain later readable left owned kept even s = (
      minus x s.0,
      (
        λ w. omega (arith, even w, s.1.0 w, out w, total_append w used s.0, total_append w used (minus x s.0)),
        (
          plain_lends positions functions form arguments (lent ++ minus x s.0) plain,
          (
            s.1.1.1.0,
            (
              fewer s.0 (minus x s.0) y (still s.0 (minus x s.0) x out y) s.1.1.1.1.0,
              (
                s.1.1.1.1.1.0,
                later [] left (y ∷ s.0) (y ∷ minus x s.0) (λ w. omega (arith, out w)) s.1.1.1.1.1.1,
              ),
            ),
          ),
        ),
      ),
    )
      where
        used : List ℕ
        used = used_by positions functions form arguments

        there : is_among s.0 x ≡ true
        there =
            kept_there (used_by positions functions form arguments) s.0 x
            (plain_uses positions functions form arguments x plain named)
            (even_among owned (used_by positions functions form arguments ++ s.0) x s.1.0
            (even_among (x ∷ kept) owned x (even_back owned (x ∷ kept) even) (among_first x kept)))

        out : AreEven s.0 (x ∷ minus x s.0)
        out = minus_even x s.0 there

    -- by each form
    pub spends_less : (code less : Counted) → without_drop x code ≡ Some less → (readable : List ℕ) (left : Option (List ℕ))
        (owned kept : List ℕ) → AreEven owned (x ∷ kept) → Spends positions functions lent readable left owned code
        → Spends positions functions lent readable left kept less
    unfolding SpendsLess
    spends_less = by_without x (SpendsLess x) less_at less_drop less_dup less_read less_compute

-- ---- functions

-- by functions that may be called with as many arguments as others
module _ (positions : PositionTable) (functions others : List CountedFunction) (many : HaveAsMany positions functions others) where
  -- a dup spends what it spends where it cancels with the next drop too
  leaves_spent : (x : ℕ) (code less : Counted) → Without x code less → (lent readable : List ℕ) (left : Option (List ℕ))
      (owned : List ℕ) → Spends positions others lent readable left owned (dup x code)
      → Spends positions others lent readable left owned less
  leaves_spent x code less is lent readable left owned s =
      spends_even positions others lent readable left s.0 owned s.1.0 less
      (spends_less positions others lent x code less is readable left (x ∷ s.0) s.0 (even_same (x ∷ s.0)) s.1.1.1)

  -- a fused function spends its parameters
  pub spends_parameters : (f : ℕ) (function : CountedFunction) → SpendsParameters positions functions f function
      → SpendsParameters positions others f (fused_function function)
  spends_parameters = changed_spends_parameters Without positions functions others many leaves_spent fuse fuse_changes
