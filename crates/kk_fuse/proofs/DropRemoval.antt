-- A code without its next drop of a variable, form by form.
use Rattle.std.proofs.Common.{◌≡◌, ◌==◌, ◌||◌, ℕ, Bool, true, false, List, Option, Some, None, refl, sym, subst}
use Rattle.std.specs.Prelude.{option_map, if◌then◌else◌}
use Rattle.kk_syntax.specs.declared.program.Form.{Form}
use Rattle.kk_syntax.specs.Shapes.{is_among}
use Rattle.kk_counted.specs.CountedCodes.{Counted, give, tail_call, case, compute, inside, read, open_cell, if_unique, dup, drop}
use Rattle.kk_counted.specs.CountedCodes.{CountedArms, no_arm, arm}
use Rattle.kk_counted.proofs.CountChanges.{same}
use Rattle.kk_dropspec.proofs.CodeChanges.{Changes, gives, calls, decides, computes, runs, reads, opens, opens_unique, dups}
use Rattle.kk_dropspec.proofs.CodeChanges.{dups_less, drops, ArmsChange, no_arms, one_more}
use Rattle.kk_fuse.specs.Fused.{is_plain, without_drop, fused_dup, fuse, fuse_arms}

-- what is mapped is there
mapped : (f : Counted → Counted) (here : Option Counted) (less : Counted) → option_map f here ≡ Some less
    → (inner : Counted) × ((here ≡ Some inner) × (f inner ≡ less))
mapped f None less is = absurd (cc)
mapped f (Some inner) less is = let one : f inner ≡ less = cc in (inner, (refl, one))

-- What holds of a code and of the code without the next drop of a variable, if it holds at that drop, and past each form that may
-- stand before it.
module _ (x : ℕ) (P : Counted → Counted → Type 0)
    (at_drop : (rest : Counted) → P (drop x rest) rest)
    (past_drop : (y : ℕ) (rest less : Counted) → (y == x) ≡ false → P rest less → P (drop y rest) (drop y less))
    (past_dup : (y : ℕ) (rest less : Counted) → (y == x) ≡ false → P rest less → P (dup y rest) (dup y less))
    (past_read : (y c : ℕ) (fields : List ℕ) (rest less : Counted) → (y == x) ≡ false → is_among fields x ≡ false → P rest less
    → P (read y c fields rest) (read y c fields less))
    (past_compute : (y : ℕ) (form : Form) (arguments : List ℕ) (rest less : Counted) → (y == x) ≡ false
    → is_among arguments x ≡ false → is_plain form arguments ≡ true → P rest less
    → P (compute y form arguments rest) (compute y form arguments less)) where
  -- by each form
  pub by_without : (code less : Counted) → without_drop x code ≡ Some less → P code less
  by_without (give y) less is = absurd (cc)
  by_without (tail_call f arguments) less is = absurd (cc)
  by_without (case y decisions arms) less is = absurd (cc)
  by_without (compute y form arguments rest) less is =
      by_test (y == x) (is_among arguments x) (is_plain form arguments) refl refl refl is (by_without rest)
    where
      by_test : (t named plain : Bool) → (y == x) ≡ t → is_among arguments x ≡ named → is_plain form arguments ≡ plain
          → (if t || named then None
          else if plain then option_map (compute y form arguments) (without_drop x rest) else None) ≡ Some less
          → ((inner : Counted) → without_drop x rest ≡ Some inner → P rest inner) → P (compute y form arguments rest) less
      by_test true named plain one two three is later = absurd (cc)
      by_test false true plain one two three is later = absurd (cc)
      by_test false false false one two three is later = absurd (cc)
      by_test false false true one two three is later =
          let inner = mapped (compute y form arguments) (without_drop x rest) less is in
          subst (P (compute y form arguments rest)) inner.1.1
          (past_compute y form arguments rest inner.0 one two three (later inner.0 inner.1.0))
  by_without (inside y block rest) less is = absurd (cc)
  by_without (read y c fields rest) less is = by_test (y == x) (is_among fields x) refl refl is (by_without rest)
    where
      by_test : (t named : Bool) → (y == x) ≡ t → is_among fields x ≡ named
          → (if t || named then None else option_map (read y c fields) (without_drop x rest)) ≡ Some less
          → ((inner : Counted) → without_drop x rest ≡ Some inner → P rest inner) → P (read y c fields rest) less
      by_test true named one two is later = absurd (cc)
      by_test false true one two is later = absurd (cc)
      by_test false false one two is later =
          let inner = mapped (read y c fields) (without_drop x rest) less is in
          subst (P (read y c fields rest)) inner.1.1 (past_read y c fields rest inner.0 one two (later inner.0 inner.1.0))
  by_without (open_cell y c fields used rest) less is = absurd (cc)
  by_without (if_unique y c fields used rest) less is = absurd (cc)
  by_without (dup y rest) less is = by_test (y == x) refl is (by_without rest)
    where
      by_test : (t : Bool) → (y == x) ≡ t → (if t then None else option_map (dup y) (without_drop x rest)) ≡ Some less
          → ((inner : Counted) → without_drop x rest ≡ Some inner → P rest inner) → P (dup y rest) less
      by_test true one is later = absurd (cc)
      by_test false one is later =
          let inner = mapped (dup y) (without_drop x rest) less is in
          subst (P (dup y rest)) inner.1.1 (past_dup y rest inner.0 one (later inner.0 inner.1.0))
  by_without (drop y rest) less is = by_test (y == x) refl is (by_without rest)
    where
      by_test : (t : Bool) → (y == x) ≡ t → (if t then Some rest else option_map (drop y) (without_drop x rest)) ≡ Some less
          → ((inner : Counted) → without_drop x rest ≡ Some inner → P rest inner) → P (drop y rest) less
      by_test true one is later =
          let last : rest ≡ less = cc in
          subst (P (drop y rest)) last (subst (λ (z : ℕ). P (drop z rest) rest) (sym (same y x one)) (at_drop rest))
      by_test false one is later =
          let inner = mapped (drop y) (without_drop x rest) less is in
          subst (P (drop y rest)) inner.1.1 (past_drop y rest inner.0 one (later inner.0 inner.1.0))

-- what holds with a dup that cancels with no drop in front, and without the next drop, holds of the fused dup
pub by_fused : (P : Counted → Type 0) (x : ℕ) (code : Counted) → (without_drop x code ≡ None → P (dup x code))
    → ((less : Counted) → without_drop x code ≡ Some less → P less) → P (fused_dup x code)
by_fused P x code whole fewer = by_case (without_drop x code) refl
  where
    by_case : (found : Option Counted) → without_drop x code ≡ found → P (fused_dup x code)
    by_case None is = rw is (whole is)
    by_case (Some less) is = rw is (fewer less is)

-- a dup that is gone leaves the code without its next drop
abbrev pub Without : ℕ → Counted → Counted → Type 0
Without x code less = without_drop x code ≡ Some less

-- fusion changes code by that alone
mutual
  pub fuse_changes : (code : Counted) → Changes Without code (fuse code)
  fuse_changes (give x) = gives x
  fuse_changes (tail_call f arguments) = calls f arguments
  fuse_changes (case x decisions arms) = decides x decisions (fuse_arms_change arms)
  fuse_changes (compute x form arguments rest) = computes x form arguments (fuse_changes rest)
  fuse_changes (inside x block rest) = runs x (fuse_changes block) (fuse_changes rest)
  fuse_changes (read x c fields rest) = reads x c fields (fuse_changes rest)
  fuse_changes (open_cell x c fields used rest) = opens x c fields used (fuse_changes rest)
  fuse_changes (if_unique x c fields used rest) = opens_unique x c fields used (fuse_changes rest)
  fuse_changes (dup x rest) =
      let later = fuse_changes rest in
      by_fused (Changes Without (dup x rest)) x (fuse rest) (λ none. dups x later) (λ less is. dups_less x (fuse rest) less later is)
  fuse_changes (drop x rest) = drops x (fuse_changes rest)

  fuse_arms_change : (arms : CountedArms) → ArmsChange Without arms (fuse_arms arms)
  fuse_arms_change no_arm = no_arms
  fuse_arms_change (arm body rest) = one_more (fuse_changes body) (fuse_arms_change rest)
