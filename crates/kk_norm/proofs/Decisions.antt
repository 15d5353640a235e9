-- What is known of the decisions that a call gives.
use Rattle.std.proofs.Common.{◌≡◌, ◌≤◌, ℕ, Result, Ok, Err, List, length, map, subst, ◌∙◌, arith}
use Rattle.std.specs.Prelude.{count_by, IfOk}
use Rattle.kk_syntax.specs.Patterns.{Pattern}
use Rattle.kk_syntax.specs.Programs.{ConstructorTree}
use Rattle.kk_core.specs.CaseLengths.{tests_length}
use Rattle.kk_core.specs.declared.decisions.Decisions.{Decisions}
use Rattle.kk_core.specs.Decisions.{node_tree, AreOrderly}
use Rattle.kk_match.specs.Decided.{DecidesRows, is_test, brief_length, IsBrieflyFormed}
use Rattle.kk_match.specs.Views.{nodes_in}
use Rattle.kk_match.proofs.RowLengths.{briefly_few}
use Rattle.kk_match.specs.Parts.{AreTypeNumbers, TellTypes}
use Rattle.kk_norm.specs.MatchDecisions.{AreDecisions}

pub are_decisions : {E : Type 0} (constructors : List ConstructorTree) (types : List ℕ) (given patterns : List Pattern) (rows : ℕ)
    (result : Result Decisions E)
    → AreTypeNumbers constructors types → TellTypes constructors types
    → given ≡ patterns → rows ≡ length given
    → IfOk result (λ found. DecidesRows types given (nodes_in found))
    → IfOk result (λ found. IsBrieflyFormed types given (nodes_in found) found.tests found.by_rows)
    → IfOk result (λ found. tests_length (nodes_in found) ≤ brief_length given)
    → IfOk result (λ found. found.tests ≡ count_by is_test (nodes_in found))
    → IfOk result (λ found. found.rows ≡ rows)
    → IfOk result (λ found. AreDecisions constructors patterns (map node_tree found.nodes.items))
are_decisions constructors types given patterns rows (Ok found) numbers tell same long decided formed brief tests wide =
    subst (λ (ps : List Pattern). AreDecisions constructors ps (map node_tree found.nodes.items)) same
    (record {
      decides = decided.decides constructors numbers;
      asks = decided.asks constructors numbers tell;
      orderly = subst (AreOrderly (map node_tree found.nodes.items)) (wide ∙ long) found.orderly;
      formed = (types, found.tests, found.by_rows, numbers, tell, formed);
      few_tests = omega (arith, briefly_few types given (nodes_in found) found.tests found.by_rows formed, tests);
      brief = brief;
      lean = decided.lean;
    })
are_decisions constructors types given patterns rows (Err e) numbers tell same long decided formed brief tests wide = decided
