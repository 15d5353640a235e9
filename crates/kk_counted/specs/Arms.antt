-- That a case has an arm for each row that its decisions choose.
use Rattle.std.specs.Prelude.{ℕ, zero, suc, List, [], ◌∷◌}
use Rattle.kk_core.specs.Decisions.{AreOrderly}
use Rattle.kk_counted.specs.CountedCodes.{Counted, give, tail_call, case, compute, inside, read, open_cell, if_unique}
use Rattle.kk_counted.specs.CountedCodes.{dup, drop, CountedArms, no_arm, arm}
use Rattle.kk_counted.specs.CountedForms.{Move, runs}

abbrev pub arm_count : CountedArms → ℕ
arm_count no_arm = zero
arm_count (arm body rest) = suc (arm_count rest)

-- each row that the decisions of a case choose has an arm
abbrev mutual
  pub HasArms : Counted → Type 0
  HasArms (give x) = Unit {0}
  HasArms (tail_call f arguments) = Unit {0}
  HasArms (case x decisions arms) = AreOrderly decisions (arm_count arms) × HaveArms arms
  HasArms (compute x form arguments rest) = HasArms rest
  HasArms (inside x block rest) = HasArms block × HasArms rest
  HasArms (read x c fields rest) = HasArms rest
  HasArms (open_cell x c fields used rest) = HasArms rest
  HasArms (if_unique x c fields used rest) = HasArms rest
  HasArms (dup x rest) = HasArms rest
  HasArms (drop x rest) = HasArms rest

  pub HaveArms : CountedArms → Type 0
  HaveArms no_arm = Unit {0}
  HaveArms (arm body rest) = HasArms body × HaveArms rest

-- so has each code of a list, and each block that steps run
abbrev pub AllHaveArms : List Counted → Type 0
AllHaveArms [] = Unit {0}
AllHaveArms (code ∷ codes) = HasArms code × AllHaveArms codes

abbrev pub HasArmsInside : Move → Type 0
HasArmsInside (runs x block) = HasArms block
HasArmsInside _ = Unit {0}

abbrev pub HaveArmsInside : List Move → Type 0
HaveArmsInside [] = Unit {0}
HaveArmsInside (move ∷ moves) = HasArmsInside move × HaveArmsInside moves
