-- What holds of each case of a code, by its decisions and the patterns of its arms.
use Rattle.std.specs.Prelude.{◌≡◌, ◌+◌, ◌*◌, ℕ, List, length, sum_by, Some, slice_get}
use Rattle.kk_syntax.specs.Patterns.{Pattern}
use Rattle.kk_syntax.specs.Shapes.{nodes_of_pattern}
use Rattle.kk_core.specs.Codes.{Code, give, tail_call, case, compute, use_of, unpack, inside, Arms, patterns_of, no_arm, arm, FunctionCode, ProgramCode}
use Rattle.kk_core.specs.Decisions.{NodeTree, AreOrderly}
use Rattle.kk_core.specs.Edges.{HasFewEdges}
use Rattle.kk_core.specs.Looks.{HasFewLooks}

module _ (P : List NodeTree → List Pattern → Type 0) where
  -- it holds of each case of a code
  abbrev mutual
    pub EachCase : Code → Type 0
    EachCase (give x) = Unit {0}
    EachCase (tail_call f arguments) = Unit {0}
    EachCase (case x decisions arms) = P decisions (patterns_of arms) × EachCaseOfArms arms
    EachCase (compute x form arguments rest) = EachCase rest
    EachCase (use_of x rest) = EachCase rest
    EachCase (unpack x c fields rest) = EachCase rest
    EachCase (inside x block rest) = EachCase block × EachCase rest

    pub EachCaseOfArms : Arms → Type 0
    EachCaseOfArms no_arm = Unit {0}
    EachCaseOfArms (arm pattern body rest) = EachCase body × EachCaseOfArms rest

  -- and so of each function of a program
  abbrev pub EachCaseOfAll : ProgramCode → Type 0
  EachCaseOfAll code =
      (f : ℕ) (function : FunctionCode) → slice_get code.functions f ≡ Some function → EachCase function.body

-- decisions have an arm for each row that they choose, and name nodes that are there
abbrev pub IsWhole : List NodeTree → List Pattern → Type 0
IsWhole decisions patterns = AreOrderly decisions (length patterns)

abbrev pub CasesAreWhole : ProgramCode → Type 0
CasesAreWhole = EachCaseOfAll IsWhole

-- No value goes through tests with more edges than the patterns have nodes. Where these are p, the tests on its way look at no more
-- than p * (p + 1) in all: their own nodes, the fields on the way to their positions, and their edges.
pub record IsLean (decisions : List NodeTree) (patterns : List Pattern) : Type 0 where
  pub edges : HasFewEdges decisions (sum_by nodes_of_pattern patterns)
  pub looks : HasFewLooks decisions (sum_by nodes_of_pattern patterns * (sum_by nodes_of_pattern patterns + 1))

abbrev pub CasesAreLean : ProgramCode → Type 0
CasesAreLean = EachCaseOfAll IsLean
