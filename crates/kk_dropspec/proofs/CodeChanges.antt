-- What a pass may do to code: an opening may go by the count of the cell, a dup may be gone in some way, and each other form stays.
use Rattle.std.proofs.Common.{ℕ, List}
use Rattle.kk_syntax.specs.declared.program.Form.{Form}
use Rattle.kk_core.specs.Decisions.{NodeTree}
use Rattle.kk_counted.specs.CountedCodes.{Counted, give, tail_call, case, compute, inside, read, open_cell, if_unique, dup, drop}
use Rattle.kk_counted.specs.CountedCodes.{CountedArms, no_arm, arm}
use Rattle.kk_dropspec.specs.Specialised.{special, special_arms}

-- `Fewer x code less`: a dup of `x` in front of `code` may become `less`
mutual
  pub data Changes (Fewer : ℕ → Counted → Counted → Type 0) : Counted → Counted → Type 0 where
    gives : (x : ℕ) → Changes Fewer (give x) (give x)
    calls : (f : ℕ) → (arguments : List ℕ) → Changes Fewer (tail_call f arguments) (tail_call f arguments)
    decides : {arms others : CountedArms} → (x : ℕ) → (decisions : List NodeTree) → ArmsChange Fewer arms others
        → Changes Fewer (case x decisions arms) (case x decisions others)
    computes : {rest after : Counted} → (x : ℕ) → (form : Form) → (arguments : List ℕ) → Changes Fewer rest after
        → Changes Fewer (compute x form arguments rest) (compute x form arguments after)
    runs : {block made rest after : Counted} → (x : ℕ) → Changes Fewer block made → Changes Fewer rest after
        → Changes Fewer (inside x block rest) (inside x made after)
    reads : {rest after : Counted} → (x c : ℕ) → (fields : List ℕ) → Changes Fewer rest after
        → Changes Fewer (read x c fields rest) (read x c fields after)
    opens : {rest after : Counted} → (x c : ℕ) → (fields used : List ℕ) → Changes Fewer rest after
        → Changes Fewer (open_cell x c fields used rest) (open_cell x c fields used after)
    opens_by_count : {rest after : Counted} → (x c : ℕ) → (fields used : List ℕ) → Changes Fewer rest after
        → Changes Fewer (open_cell x c fields used rest) (if_unique x c fields used after)
    opens_unique : {rest after : Counted} → (x c : ℕ) → (fields used : List ℕ) → Changes Fewer rest after
        → Changes Fewer (if_unique x c fields used rest) (if_unique x c fields used after)
    dups : {rest after : Counted} → (x : ℕ) → Changes Fewer rest after → Changes Fewer (dup x rest) (dup x after)
    dups_less : {rest : Counted} → (x : ℕ) → (after less : Counted) → Changes Fewer rest after → Fewer x after less
        → Changes Fewer (dup x rest) less
    drops : {rest after : Counted} → (x : ℕ) → Changes Fewer rest after → Changes Fewer (drop x rest) (drop x after)

  pub data ArmsChange (Fewer : ℕ → Counted → Counted → Type 0) : CountedArms → CountedArms → Type 0 where
    no_arms : ArmsChange Fewer no_arm no_arm
    one_more : {body made : Counted} {rest others : CountedArms} → Changes Fewer body made → ArmsChange Fewer rest others
        → ArmsChange Fewer (arm body rest) (arm made others)

-- specialisation leaves each dup
abbrev pub Never : ℕ → Counted → Counted → Type 0
Never x code less = ⊥

mutual
  pub special_changes : (code : Counted) → Changes Never code (special code)
  special_changes (give x) = gives x
  special_changes (tail_call f arguments) = calls f arguments
  special_changes (case x decisions arms) = decides x decisions (special_arms_change arms)
  special_changes (compute x form arguments rest) = computes x form arguments (special_changes rest)
  special_changes (inside x block rest) = runs x (special_changes block) (special_changes rest)
  special_changes (read x c fields rest) = reads x c fields (special_changes rest)
  special_changes (open_cell x c fields used rest) = opens_by_count x c fields used (special_changes rest)
  special_changes (if_unique x c fields used rest) = opens_unique x c fields used (special_changes rest)
  special_changes (dup x rest) = dups x (special_changes rest)
  special_changes (drop x rest) = drops x (special_changes rest)

  special_arms_change : (arms : CountedArms) → ArmsChange Never arms (special_arms arms)
  special_arms_change no_arm = no_arms
  special_arms_change (arm body rest) = one_more (special_changes body) (special_arms_change rest)
