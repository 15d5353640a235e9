-- What the decisions of a match are, by the patterns of its rows.
use Rattle.std.specs.Prelude.{ℕ, ◌≤◌, Bool, List, length, count_by}
use Rattle.kk_syntax.specs.Patterns.{Pattern}
use Rattle.kk_syntax.specs.Programs.{ConstructorTree}
use Rattle.kk_core.specs.CaseLengths.{tests_length}
use Rattle.kk_core.specs.Cases.{IsLean}
use Rattle.kk_core.specs.RowChoice.{Decides}
use Rattle.kk_core.specs.Decisions.{NodeTree, AreOrderly}
use Rattle.kk_core.specs.Kinds.{AsksTyped}
use Rattle.kk_match.specs.Decided.{is_test, most_tests, brief_length, IsBrieflyFormed}
use Rattle.kk_match.specs.Parts.{AreTypeNumbers, TellTypes}

-- They choose the first row that matches, ask what types tell, and name rows and nodes that are there. Their nodes are those of the
-- graph of the states, or of the rows that are tried in turn, by numbers that tell the types of constructors. There are at most eight
-- tests for each node of the patterns, which are brief, and they look at little on the way to a row.
pub record AreDecisions (constructors : List ConstructorTree) (patterns : List Pattern) (decisions : List NodeTree) : Type 0 where
  pub decides : Decides constructors patterns decisions
  pub asks : AsksTyped constructors patterns decisions
  pub orderly : AreOrderly decisions (length patterns)
  pub formed : (types : List ℕ) × (count : ℕ) × (by_rows : Bool) × AreTypeNumbers constructors types × TellTypes constructors types
      × IsBrieflyFormed types patterns decisions count by_rows
  pub few_tests : count_by is_test decisions ≤ most_tests patterns
  pub brief : tests_length decisions ≤ brief_length patterns
  pub lean : IsLean decisions patterns
