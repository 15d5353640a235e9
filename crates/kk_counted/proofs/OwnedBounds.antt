-- What a function owns is no more than its code spends; and a count is no more than the references that can be.
use Rattle.std.proofs.Common.{◌≡◌, ℕ, zero, suc, ◌+◌, ◌*◌, ◌≤◌, Bool, List, [], ◌∷◌, ◌++◌, length, Option, Some, None, arith, refl, ap, ◌∙◌, subst, length-append}
use Rattle.std.proofs.Math.Nat.{mul-suc, suc-mul, mul-le-mul_left, mul-le-mul_right}
use Rattle.std.proofs.lemmas.List.{length-map}
use Rattle.std.specs.Prelude.{filter}
use Rattle.kk_syntax.specs.PositionsOf.{PositionTable}
use Rattle.kk_syntax.specs.Shapes.{is_among}
use Rattle.kk_syntax.specs.declared.program.Form.{Form}
use Rattle.kk_syntax.specs.declared.program.Form.TheVariants.{Number, Unit as Nothing, ReadByte, PrintText, Unary, Binary, Print, Construct, Call}
use Rattle.kk_source.specs.State.{Value, integer, unit, constant, place, Store, Environment}
use Rattle.kk_source.specs.Live.{value_of}
use Rattle.kk_counted.proofs.Evenness.{total_append}
use Rattle.kk_counted.proofs.ListLengths.{total_ones, positions_few}
use Rattle.kk_counted.specs.CountBounds.{HasAnArm, SpendsAtMost, SpendAtMost, JoinsSpend, RestSpends, FramesSpend, ControlSpends, IsBounded}
use Rattle.kk_counted.specs.CountedCodes.{Counted, give, tail_call, case, compute, inside, read, open_cell, if_unique, dup, drop, CountedArms, no_arm, arm, CountedFunction}
use Rattle.kk_counted.specs.CountedStates.{CountedSetting, CountedJoin, CountedFrame, running, CountedConfiguration}
use Rattle.kk_counted.specs.Heaps.{Heap, count_at, forwards, one_if_counted, busy}
use Rattle.kk_counted.specs.Keeping.{values_of, Waits, Own, IsRunning, IsKeptAt, IsKept}
use Rattle.kk_counted.specs.MarkKeeping.{FitMarks, CellsFit}
use Rattle.kk_counted.specs.Marks.{CellMarks, field_marks}
use Rattle.kk_counted.specs.References.{refs_of, refs, fields_if, counted_fields}
use Rattle.kk_counted.specs.Spending.{total, at_positions, left_by, is_owned, used_by, Spends, SpendsAll}

-- ---- code

abbrev pub many : List ℕ → ℕ
many xs = total (λ x. 1) xs

pub few_at : (takes : ℕ → Bool) (next : ℕ) (xs : List ℕ) → many (at_positions takes next xs) ≤ length xs
few_at takes next xs =
    let same = total_ones (at_positions takes next xs) in let few = positions_few takes next xs in omega (arith, same, few)

module _ (positions : PositionTable) (functions : List CountedFunction) where
  pub few_used : (form : Form) (xs : List ℕ) → many (used_by positions functions form xs) ≤ length xs
  few_used (Number n) xs = omega (arith, total_ones xs)
  few_used Nothing xs = omega (arith, total_ones xs)
  few_used ReadByte xs = omega (arith, total_ones xs)
  few_used (PrintText form text) xs = omega (arith, total_ones xs)
  few_used (Unary operator) xs = omega (arith, total_ones xs)
  few_used (Binary operator) xs = omega (arith, total_ones xs)
  few_used (Print form) xs = omega (arith, total_ones xs)
  few_used (Construct c) xs = omega (arith, total_ones xs)
  few_used (Call f) xs = few_at (is_owned positions functions f) 0 xs

  mutual
    pub owned_few : (lent readable : List ℕ) (left : Option (List ℕ)) (owned : List ℕ) (code : Counted) (n : ℕ)
        → Spends positions functions lent readable left owned code → SpendsAtMost code n → many owned ≤ n + many (left_by left)
    owned_few lent readable left owned (give x) n s small = omega (arith, s (λ x. 1), small)
    owned_few lent readable left owned (tail_call f arguments) n s small =
        omega (arith, s.1.1.1 (λ x. 1), few_used (Call f) arguments, small)
    owned_few lent readable left owned (case x decisions arms) n s small =
        omega (arith, s.1.0 (λ x. 1), arms_few lent left s.0 arms n s.1.1.1 small.0 small.1)
    owned_few lent readable left owned (compute x form arguments rest) n s small =
        omega (
          arith,
          s.1.0 (λ x. 1),
          total_append (λ x. 1) (used_by positions functions form arguments) s.0,
          few_used form arguments,
          owned_few lent [] left (x ∷ s.0) rest small.0 s.1.1.1.1.1.1 small.1.1,
          small.1.0,
        )
    owned_few lent readable left owned (inside x block rest) n s small =
        omega (
          arith,
          s.1.1.0 (λ x. 1),
          owned_few lent [] (Some s.1.0) s.0 block small.0 s.1.1.1.1.1.0 small.1.1.1.0,
          owned_few lent [] left (x ∷ s.1.0) rest small.1.0 s.1.1.1.1.1.1 small.1.1.1.1,
          small.1.1.0,
        )
    owned_few lent readable left owned (read x c fields rest) n s small =
        omega (arith, s.1.0 (λ x. 1), owned_few lent fields left s.0 rest n s.1.1.1.1 small)
    owned_few lent readable left owned (open_cell x c fields used rest) n s small =
        let after = owned_few lent [] left (filter (is_among used) fields ++ s.0) rest small.0 s.1.1.1.1.1 small.1.1 in
        omega (arith, s.1.0 (λ x. 1), total_append (λ x. 1) (filter (is_among used) fields) s.0, after, small.1.0)
    owned_few lent readable left owned (if_unique x c fields used rest) n s small =
        let after = owned_few lent [] left (filter (is_among used) fields ++ s.0) rest small.0 s.1.1.1.1.1 small.1.1 in
        omega (arith, s.1.0 (λ x. 1), total_append (λ x. 1) (filter (is_among used) fields) s.0, after, small.1.0)
    owned_few lent readable left owned (dup x rest) n s small =
        omega (arith, s.1.0 (λ x. 1), owned_few lent readable left (x ∷ s.0) rest n s.1.1.1 small)
    owned_few lent readable left owned (drop x rest) n s small =
        omega (arith, s.1.0 (λ x. 1), owned_few lent [] left s.0 rest small.0 s.1.1 small.1.1, small.1.0)

    arms_few : (lent : List ℕ) (left : Option (List ℕ)) (owned : List ℕ) (arms : CountedArms) (n : ℕ)
        → SpendsAll positions functions lent left owned arms → HasAnArm arms → SpendAtMost arms n → many owned ≤ n + many
        (left_by left)
    arms_few lent left owned no_arm n s has small = absurd has
    arms_few lent left owned (arm body rest) n s has small = owned_few lent [] left owned body n s.0 small.0

  -- what is left for the codes behind blocks is no more than they spend
  left_few : (lent : List ℕ) (left : Option (List ℕ)) (joins : List CountedJoin) (n : ℕ) → Waits positions functions lent left joins
      → JoinsSpend joins n → many (left_by left) ≤ n
  left_few lent None [] n waits small = omega arith
  left_few lent None (join ∷ joins) n waits small = absurd waits
  left_few lent (Some kept) [] n waits small = absurd waits
  left_few lent (Some kept) (join ∷ joins) n waits small =
      omega (
        arith,
        owned_few lent [] waits.0 (join.variable ∷ kept) join.rest small.0 waits.1.1.1.0 small.1.1.1.0,
        left_few lent waits.0 joins small.1.0 waits.1.1.1.1 small.1.1.1.1,
        small.1.1.0,
      )

  -- what the functions that wait own
  waiting_few : (store : Store) (frames : List CountedFrame) (owned : List Value) (n : ℕ)
      → Own positions functions store frames owned
      → FramesSpend frames n → length owned ≤ length frames * n
  waiting_few store [] owned n own small = omega (arith, ap length own)
  waiting_few store (frame ∷ older) owned n own small =
      let w = own.1.0 in
      let few = small.0 in
      let one : length w.owned ≤ n =
      omega (
        arith,
        total_ones w.owned,
        owned_few w.lent [] w.left (frame.variable ∷ w.owned) frame.rest few.0 w.spends few.1.1.1.0,
        left_few w.lent w.left frame.joins few.1.0 w.waits few.1.1.1.1,
        few.1.1.0,
      ) in
      let others = waiting_few store older own.0 n own.1.1.1 small.1 in
      let all : length owned ≡ length w.owned + length own.0 =
      ap length own.1.1.0 ∙ (length-append (values_of frame.environment w.owned) own.0
      ∙ ap (λ k. k + length own.0) (length-map w.owned (value_of frame.environment))) in
      grind arith

-- ---- references

few_refs : (vs : List Value) (at : ℕ) → refs vs at ≤ length vs
few_refs [] at = omega arith
few_refs (integer n ∷ vs) at = omega (arith, few_refs vs at)
few_refs (unit ∷ vs) at = omega (arith, few_refs vs at)
few_refs (constant c ∷ vs) at = omega (arith, few_refs vs at)
few_refs (place other ∷ vs) at = omega (arith, few_refs vs at, one (refs_of (place other) at) refl)
  where
    one : (k : ℕ) → refs_of (place other) at ≡ k → refs_of (place other) at ≤ 1
    one k is = grind arith

module _ (marks : CellMarks) (most : ℕ) (few : (c : ℕ) → length (field_marks marks c) ≤ most) where
  as_many : (ms : List Bool) (vs : List Value) → FitMarks ms vs → length vs ≡ length ms
  as_many [] [] fit = refl
  as_many [] (v ∷ vs) fit = absurd fit
  as_many (m ∷ ms) [] fit = absurd fit
  as_many (m ∷ ms) (v ∷ vs) fit = ap suc (as_many ms vs fit.1)

  -- the fields of counted cells
  fields_few : (heap : Heap) → CellsFit marks heap → length (counted_fields heap) ≤ most * busy heap
  fields_few [] fit = omega arith
  fields_few (held ∷ heap) fit = by_count held.count (fields_few heap fit.1)
    where
      one : length held.cell.fields ≤ most
      one = omega (arith, as_many (field_marks marks held.cell.made_by) held.cell.fields fit.0, few held.cell.made_by)

      by_count : (count : ℕ) → length (counted_fields heap) ≤ most * busy heap
          → length (fields_if count held.cell.fields ++ counted_fields heap) ≤ most * (one_if_counted count + busy heap)
      by_count zero later =
          subst (λ k. length (counted_fields heap) ≤ most * k) (let e : busy heap ≡ 0 + busy heap = omega arith in e) later
      by_count (suc k) later =
          omega (
            arith,
            length-append held.cell.fields (counted_fields heap),
            one,
            later,
            ap (λ m. most * m) (let e : 1 + busy heap ≡ suc (busy heap) = omega arith in e) ∙ mul-suc most (busy heap),
          )

-- ---- counts

module _ (positions : PositionTable) (setting : CountedSetting) (marks : CellMarks) (most fields : ℕ)
    (few : (c : ℕ) → length (field_marks marks c) ≤ fields) where
  pub count_few : (c : CountedConfiguration) (code : Counted) (environment : Environment) (joins : List CountedJoin)
      → IsKept positions setting.program.functions c → IsBounded setting most c → CellsFit marks c.heap
      → c.control ≡ running code environment joins → (at : ℕ) → count_at c.heap at ≤ setting.depth * most + fields * setting.cells
  count_few c code environment joins kept bounded fit here at =
      omega (
        arith,
        r.sound.counts at,
        few_refs (values_of environment r.owned ++ kept.0) at,
        length-append (values_of environment r.owned) kept.0,
        length-map r.owned (value_of environment),
        total_ones r.owned,
        owned_few positions setting.program.functions r.lent r.readable r.left r.owned code spends.0.0 r.spends spends.0.1.1.1.0,
        left_few positions setting.program.functions r.lent r.left joins spends.0.1.0 r.waits spends.0.1.1.1.1,
        spends.0.1.1.0,
        waiting_few positions setting.program.functions (forwards c.heap) c.frames kept.0 most kept.1.0 bounded.frames_spend,
        suc-mul (length c.frames) most,
        mul-le-mul_right most spends.1,
        few_refs (counted_fields c.heap) at,
        fields_few marks fields few c.heap fit,
        mul-le-mul_left fields bounded.cells_busy,
      )
    where
      r : IsRunning positions setting.program.functions c.heap kept.0 code environment joins
      r = subst (λ control. IsKeptAt positions setting.program.functions c.heap kept.0 control) here kept.1.1

      spends : RestSpends code joins most × (suc (length c.frames) ≤ setting.depth)
      spends = subst (λ control. ControlSpends control (length c.frames) setting.depth most) here bounded.control_spends
