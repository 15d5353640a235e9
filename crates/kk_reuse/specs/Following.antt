-- What can follow in a code: whether a construction with fields can, and how many tokens a path leaves at most.
use Rattle.std.specs.Prelude.{ℕ, suc, ◌-◌, Bool, true, false, ◌||◌, List, ◌∷◌, max, if◌then◌else◌}
use Rattle.kk_syntax.specs.declared.program.Form.{Form}
use Rattle.kk_syntax.specs.declared.program.Form.TheVariants.{Construct}
use Rattle.kk_counted.specs.CountedCodes.{Counted, give, tail_call, case, compute, inside, read, open_cell, if_unique, dup, drop, CountedArms, no_arm, arm}

-- whether a form on variables is a construction with fields
abbrev pub makes_cell : Form → List ℕ → Bool
makes_cell (Construct c) (x ∷ xs) = true
makes_cell _ _ = false

-- Whether on some path of a code its function makes a cell, in the code or behind it: `behind` is whether it can behind the block.
abbrev mutual
  pub may_make : Bool → Counted → Bool
  may_make behind (give x) = behind
  may_make behind (tail_call f arguments) = false
  may_make behind (case x decisions arms) = arms_may_make behind arms
  may_make behind (compute x form arguments rest) = makes_cell form arguments || may_make behind rest
  may_make behind (inside x block rest) = may_make (may_make behind rest) block
  may_make behind (read x c fields rest) = may_make behind rest
  may_make behind (open_cell x c fields used rest) = may_make behind rest
  may_make behind (if_unique x c fields used rest) = may_make behind rest
  may_make behind (dup x rest) = may_make behind rest
  may_make behind (drop x rest) = may_make behind rest

  pub arms_may_make : Bool → CountedArms → Bool
  arms_may_make behind no_arm = false
  arms_may_make behind (arm body rest) = may_make behind body || arms_may_make behind rest

-- of so many tokens those that are kept in front of a code: all where it may make a cell, and else none
abbrev pub kept : Bool → Counted → ℕ → ℕ
kept behind code n = if may_make behind code then n else 0

-- a form takes the newest token, if it makes a cell
abbrev pub taken : Form → List ℕ → ℕ → ℕ
taken form arguments n = if makes_cell form arguments then n - 1 else n

-- the most tokens that a path leaves at the end of a code that begins with so many
abbrev mutual
  pub leaves : Bool → ℕ → Counted → ℕ
  leaves behind n (give x) = n
  leaves behind n (tail_call f arguments) = 0
  leaves behind n (case x decisions arms) = arms_leave behind n arms
  leaves behind n (compute x form arguments rest) = leaves behind (kept behind rest (taken form arguments n)) rest
  leaves behind n (inside x block rest) =
      leaves behind (kept behind rest (leaves (may_make behind rest) (kept (may_make behind rest) block n) block)) rest
  leaves behind n (read x c fields rest) = leaves behind (kept behind rest n) rest
  leaves behind n (open_cell x c fields used rest) = leaves behind (kept behind rest (suc n)) rest
  leaves behind n (if_unique x c fields used rest) = leaves behind (kept behind rest (suc n)) rest
  leaves behind n (dup x rest) = leaves behind (kept behind rest n) rest
  leaves behind n (drop x rest) = leaves behind (kept behind rest n) rest

  pub arms_leave : Bool → ℕ → CountedArms → ℕ
  arms_leave behind n no_arm = 0
  arms_leave behind n (arm body rest) = max (leaves behind (kept behind body n) body) (arms_leave behind n rest)
