-- Changed code spends what the code spends that it is made of.
use Rattle.std.proofs.Common.{ℕ, List, [], ◌∷◌, Option, Some, None}
use Rattle.kk_syntax.specs.PositionsOf.{PositionTable}
use Rattle.kk_counted.specs.CountedCodes.{Counted, dup, CountedArms, CountedFunction}
use Rattle.kk_counted.specs.Spending.{Spends, SpendsAll, SpendsParameters}
use Rattle.kk_dropspec.specs.Changed.{changed_function}
use Rattle.kk_dropspec.specs.Specialised.{special, special_function}
use Rattle.kk_dropspec.proofs.CodeChanges.{Changes, gives, calls, decides, computes, runs, reads, opens, opens_by_count}
use Rattle.kk_dropspec.proofs.CodeChanges.{opens_unique, dups, dups_less, drops, ArmsChange, no_arms, one_more, Never}
use Rattle.kk_dropspec.proofs.CodeChanges.{special_changes}
use Rattle.kk_dropspec.proofs.ChangedFunctions.{HaveAsMany, fits}

-- what a dup that is gone leaves spends what the dup and the code behind it do
abbrev pub LeavesSpent : (ℕ → Counted → Counted → Type 0) → PositionTable → List CountedFunction → Type 0
LeavesSpent Fewer positions functions =
    (x : ℕ) (code less : Counted) → Fewer x code less → (lent readable : List ℕ) (left : Option (List ℕ)) (owned : List ℕ)
    → Spends positions functions lent readable left owned (dup x code)
    → Spends positions functions lent readable left owned less

-- by functions that may be called with as many arguments as others
module _ (Fewer : ℕ → Counted → Counted → Type 0) (positions : PositionTable) (functions others : List CountedFunction)
    (many : HaveAsMany positions functions others) (leaves : LeavesSpent Fewer positions others) where
  mutual
    spends : {code less : Counted} → Changes Fewer code less → (lent readable : List ℕ) (left : Option (List ℕ))
        (owned : List ℕ) → Spends positions functions lent readable left owned code
        → Spends positions others lent readable left owned less
    spends (gives x) lent readable left owned s = s
    spends (calls f arguments) lent readable left owned s = (s.0, (many f arguments s.1.0, s.1.1))
    spends (decides x decisions each) lent readable left owned s =
        (s.0, (s.1.0, (s.1.1.0, spend_all each lent left s.0 s.1.1.1)))
    spends (computes x form arguments after) lent readable left owned s = (
      s.0,
      (
        s.1.0,
        (
          s.1.1.0,
          (
            fits positions functions others many form arguments s.1.1.1.0,
            (s.1.1.1.1.0, (s.1.1.1.1.1.0, spends after lent [] left (x ∷ s.0) s.1.1.1.1.1.1)),
          ),
        ),
      ),
    )
    spends (runs x made after) lent readable left owned s = (
      s.0,
      (
        s.1.0,
        (
          s.1.1.0,
          (
            s.1.1.1.0,
            (
              s.1.1.1.1.0,
              (spends made lent [] (Some s.1.0) s.0 s.1.1.1.1.1.0, spends after lent [] left (x ∷ s.1.0) s.1.1.1.1.1.1),
            ),
          ),
        ),
      ),
    )
    spends (reads x c fields after) lent readable left owned s =
        (s.0, (s.1.0, (s.1.1.0, (s.1.1.1.0, spends after lent fields left s.0 s.1.1.1.1))))
    spends (opens x c fields used after) lent readable left owned s =
        (s.0, (s.1.0, (s.1.1.0, (s.1.1.1.0, (s.1.1.1.1.0, spends after lent [] left _ s.1.1.1.1.1)))))
    spends (opens_by_count x c fields used after) lent readable left owned s =
        (s.0, (s.1.0, (s.1.1.0, (s.1.1.1.0, (s.1.1.1.1.0, spends after lent [] left _ s.1.1.1.1.1)))))
    spends (opens_unique x c fields used after) lent readable left owned s =
        (s.0, (s.1.0, (s.1.1.0, (s.1.1.1.0, (s.1.1.1.1.0, spends after lent [] left _ s.1.1.1.1.1)))))
    spends (dups x after) lent readable left owned s =
        (s.0, (s.1.0, (s.1.1.0, spends after lent readable left (x ∷ s.0) s.1.1.1)))
    spends (dups_less x before less after gone) lent readable left owned s =
        leaves x before less gone lent readable left owned
        (s.0, (s.1.0, (s.1.1.0, spends after lent readable left (x ∷ s.0) s.1.1.1)))
    spends (drops x after) lent readable left owned s = (s.0, (s.1.0, spends after lent [] left s.0 s.1.1))

    spend_all : {arms changed : CountedArms} → ArmsChange Fewer arms changed → (lent : List ℕ) (left : Option (List ℕ))
        (owned : List ℕ) → SpendsAll positions functions lent left owned arms → SpendsAll positions others lent left owned changed
    spend_all no_arms lent left owned s = tt
    spend_all (one_more made rest) lent left owned s = (spends made lent [] left owned s.0, spend_all rest lent left owned s.1)

  -- a changed function spends its parameters
  pub changed_spends_parameters : (change : Counted → Counted) → ((code : Counted) → Changes Fewer code (change code))
      → (f : ℕ) (function : CountedFunction) → SpendsParameters positions functions f function
      → SpendsParameters positions others f (changed_function change function)
  changed_spends_parameters change changes f function s = (s.0, (s.1.0, spends (changes function.body) s.0 [] None _ s.1.1))

pub spends_parameters : (positions : PositionTable) (functions others : List CountedFunction)
    → HaveAsMany positions functions others → (f : ℕ) (function : CountedFunction)
    → SpendsParameters positions functions f function → SpendsParameters positions others f (special_function function)
spends_parameters positions functions others many =
    changed_spends_parameters Never positions functions others many (λ x code less none. absurd none) special special_changes
