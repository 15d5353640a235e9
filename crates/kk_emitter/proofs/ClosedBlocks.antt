-- Code that runs a block last and gives its value has the judgements that it needs where the block ends it instead.
use Rattle.std.proofs.Common.{◌≡◌, ℕ, ◌+◌, Bool, List, [], ◌∷◌, ◌++◌, Some, None, arith, refl, subst}
use Rattle.std.specs.Prelude.{filter}
use Rattle.kk_syntax.specs.Shapes.{is_among}
use Rattle.kk_syntax.specs.PositionsOf.{PositionTable}
use Rattle.kk_counted.specs.Arms.{HasArms}
use Rattle.kk_counted.specs.CountedCodes.{Counted, give, inside, CountedFunction}
use Rattle.kk_counted.specs.CountedForms.{Move, computes, runs, reads, opens, opens_unique, dups, drops, put}
use Rattle.kk_counted.specs.Marks.{CellMarks, result_mark, HasMark, CanBeMarked}
use Rattle.kk_counted.specs.Spending.{total, AreEven, Spends, numbers_from}
use Rattle.kk_emitter.specs.Drafts.{Draft}
use Rattle.kk_emitter.specs.Emitting.{IsBody}
use Rattle.kk_emitter.proofs.OwnershipSteps.{in_tail, spends_even, spends_readable}

-- a code, and the same where a block ends it whose value it gives
pub data Ends : Counted → Counted → Type 0 where
  stays : (code : Counted) → Ends code code
  ends : (x : ℕ) (block : Counted) → Ends (inside x block (give x)) block
  behind : (move : Move) (one two : Counted) → Ends one two → Ends (put move one) (put move two)

-- ---- judgements

-- what is kept beside a value that is all that is given
nothing_kept : (x : ℕ) (kept : List ℕ) → AreEven (x ∷ kept) (x ∷ []) → kept ≡ []
nothing_kept x [] even = refl
nothing_kept x (y ∷ kept) even =
    let many : 1 + (1 + total (λ z. 1) kept) ≡ 1 + 0 = even (λ z. 1) in absurd (omega arith)

-- code in tail position spends the same
module _ (positions : PositionTable) (functions : List CountedFunction) (lent : List ℕ) where
  spends_ends : (readable owned : List ℕ) (one two : Counted) → Ends one two
      → Spends positions functions lent readable None owned one
      → Spends positions functions lent readable None owned two
  spends_ends readable owned _ _ (stays code) s = s
  spends_ends readable owned _ _ (ends x block) s =
      spends_even positions functions lent readable None owned s.0 block s.1.1.0
      (spends_readable positions functions lent readable None s.0 block
      (in_tail positions functions lent [] s.0 block
      (subst (λ (left : List ℕ). Spends positions functions lent [] (Some left) s.0 block)
      (nothing_kept x s.1.0 s.1.1.1.1.1.1) s.1.1.1.1.1.0)))
  spends_ends readable owned _ _ (behind (computes x form arguments) one two rest) s =
      (s.0, (s.1.0, (s.1.1.0, (s.1.1.1.0, (s.1.1.1.1.0, (s.1.1.1.1.1.0, spends_ends [] (x ∷ s.0) one two rest s.1.1.1.1.1.1))))))
  spends_ends readable owned _ _ (behind (runs x block) one two rest) s =
      (s.0, (s.1.0, (s.1.1.0, (s.1.1.1.0, (s.1.1.1.1.0, (s.1.1.1.1.1.0, spends_ends [] (x ∷ s.1.0) one two rest s.1.1.1.1.1.1))))))
  spends_ends readable owned _ _ (behind (reads x c fields) one two rest) s =
      (s.0, (s.1.0, (s.1.1.0, (s.1.1.1.0, spends_ends fields s.0 one two rest s.1.1.1.1))))
  spends_ends readable owned _ _ (behind (opens x c fields used) one two rest) s =
      let later = spends_ends [] (filter (is_among used) fields ++ s.0) one two rest s.1.1.1.1.1 in
      (s.0, (s.1.0, (s.1.1.0, (s.1.1.1.0, (s.1.1.1.1.0, later)))))
  spends_ends readable owned _ _ (behind (opens_unique x c fields used) one two rest) s =
      let later = spends_ends [] (filter (is_among used) fields ++ s.0) one two rest s.1.1.1.1.1 in
      (s.0, (s.1.0, (s.1.1.0, (s.1.1.1.0, (s.1.1.1.1.0, later)))))
  spends_ends readable owned _ _ (behind (dups x) one two rest) s =
      (s.0, (s.1.0, (s.1.1.0, spends_ends readable (x ∷ s.0) one two rest s.1.1.1)))
  spends_ends readable owned _ _ (behind (drops x) one two rest) s = (s.0, (s.1.0, spends_ends [] s.0 one two rest s.1.1))

-- each case has its arms
arms_end : (one two : Counted) → Ends one two → HasArms one → HasArms two
arms_end _ _ (stays code) has = has
arms_end _ _ (ends x block) has = has.0
arms_end _ _ (behind (computes x form arguments) one two rest) has = arms_end one two rest has
arms_end _ _ (behind (runs x block) one two rest) has = (has.0, arms_end one two rest has.1)
arms_end _ _ (behind (reads x c fields) one two rest) has = arms_end one two rest has
arms_end _ _ (behind (opens x c fields used) one two rest) has = arms_end one two rest has
arms_end _ _ (behind (opens_unique x c fields used) one two rest) has = arms_end one two rest has
arms_end _ _ (behind (dups x) one two rest) has = arms_end one two rest has
arms_end _ _ (behind (drops x) one two rest) has = arms_end one two rest has

-- a value of the same mark is given
module _ (marks : CellMarks) (holds : ℕ → Bool) (result : Bool) where
  mark_ends : (bound : List ℕ) (given : Bool) (one two : Counted) → Ends one two → HasMark marks holds result bound given one
      → HasMark marks holds result bound given two
  mark_ends bound given _ _ (stays code) has = has
  mark_ends bound given _ _ (ends x block) has = subst (λ (mark : Bool). HasMark marks holds result bound mark block) has.1.1 has.0
  mark_ends bound given _ _ (behind (computes x form arguments) one two rest) has =
      (has.0, (has.1.0, mark_ends (x ∷ bound) given one two rest has.1.1))
  mark_ends bound given _ _ (behind (runs x block) one two rest) has = (has.0, mark_ends (x ∷ bound) given one two rest has.1)
  mark_ends bound given _ _ (behind (reads x c fields) one two rest) has =
      (has.0, mark_ends (fields ++ bound) given one two rest has.1)
  mark_ends bound given _ _ (behind (opens x c fields used) one two rest) has =
      (has.0, mark_ends (fields ++ bound) given one two rest has.1)
  mark_ends bound given _ _ (behind (opens_unique x c fields used) one two rest) has =
      (has.0, mark_ends (fields ++ bound) given one two rest has.1)
  mark_ends bound given _ _ (behind (dups x) one two rest) has = (has.0, mark_ends bound given one two rest has.1)
  mark_ends bound given _ _ (behind (drops x) one two rest) has = (has.0, mark_ends bound given one two rest has.1)

-- so the body of a function stays one, and can be marked
pub body_ends : (d : Draft) (one two : Counted) → Ends one two → IsBody d one → IsBody d two
body_ends d one two end body =
    record {
      parameters = body.parameters;
      judged = λ functions have.
          let spent = body.judged functions have in
          (spent.0, (spent.1.0, spends_ends d.positions functions spent.0 [] _ one two end spent.1.1));
      arms = arms_end one two end body.arms;
    }

pub marked_ends : (marks : CellMarks) (f parameters : ℕ) (one two : Counted) → Ends one two
    → CanBeMarked marks f (record { parameters = parameters; body = one })
    → CanBeMarked marks f (record { parameters = parameters; body = two })
marked_ends marks f parameters one two end marked = (
  marked.0,
  record {
    parameters_marked = marked.1.parameters_marked;
    body_marked =
        mark_ends marks marked.0 (result_mark marks f) (numbers_from 0 parameters) (result_mark marks f) one two end
        marked.1.body_marked;
  },
)
