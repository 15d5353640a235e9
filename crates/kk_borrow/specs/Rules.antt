-- The rules of ownership in a program, as statements on positions: a position is owned if each of some others is.
use Rattle.std.specs.Prelude.{◌<◌, List, map, All, IsTrue}
use Rattle.kk_syntax.specs.Programs.{ProgramTree}
use Rattle.kk_syntax.specs.declared.positions.Position.{Position}
use Rattle.kk_borrow.specs.declared.rule.Rule.{Rule}
use Rattle.kk_syntax.specs.OwnedPositions.{PositionSet, arity_of}

pub record RuleTree : Type 0 where
  pub premises : List Position
  pub conclusion : Position

abbrev pub rule_tree : Rule → RuleTree
rule_tree rule = record { premises = rule.premises.items; conclusion = rule.conclusion }

abbrev pub rule_trees : List Rule → List RuleTree
rule_trees rules = map rule_tree rules

-- a set has a position
abbrev pub Has : PositionSet → Position → Type 0
Has set p = IsTrue (set p.function p.parameter)

-- a set keeps a rule, whose conclusion counts only if the program has that position
abbrev pub Keeps : ProgramTree → PositionSet → RuleTree → Type 0
Keeps program set rule = All (Has set) rule.premises → rule.conclusion.parameter < arity_of program rule.conclusion.function → Has set rule.conclusion
