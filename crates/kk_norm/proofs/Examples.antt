-- A core form of a match with a nested pattern, whose variables, openings and order can be read here.
use Rattle.std.proofs.Common.{◌≡◌, ℕ, zero, suc, ◌<◌, ◌≤◌, ◌-◌, ◌++◌, length, ap, Bool, true, false, ◌||◌, List, [], ◌∷◌, Option, Some, None, refl, sym, subst, arith}
use Rattle.std.specs.Prelude.{if◌then◌else◌, slice_get, ◌==◌, ◌≢◌, AllPairs, Contains}
use Rattle.std.proofs.lemmas.Bool.{eqb-true}
use Rattle.kk_syntax.specs.declared.operator.BinaryOperator.TheVariants.{Subtract}
use Rattle.kk_syntax.specs.declared.program.Form.TheVariants.{Binary}
use Rattle.kk_syntax.specs.Patterns.{Pattern, anything, variable as pattern_variable, constructor, no_part, part}
use Rattle.kk_syntax.specs.Programs.{ConstructorTree}
use Rattle.kk_syntax.specs.Shapes.{is_among, nodes_of}
use Rattle.kk_syntax.specs.Trees.{Tree, variable, apply, match, no_tree, tree, no_row, row, row_parts}
use Rattle.kk_source.specs.State.{Value, Cell}
use Rattle.kk_core.specs.CodeNodes.{pattern_nodes, other_nodes, plain_words}
use Rattle.kk_core.specs.RowChoice.{Decides, matches}
use Rattle.kk_core.specs.Codes.{Code, give, case, compute, use_of, unpack, Arms, no_arm, arm}
use Rattle.kk_core.specs.Decisions.{NodeTree, chooses, tests, targets, row_chosen, AreOrderly}
use Rattle.kk_core.specs.Edges.{edges_from}
use Rattle.kk_core.specs.Looks.{looks_from}
use Rattle.kk_match.specs.Built.{no_state, one_more}
use Rattle.kk_match.specs.Decided.{TestsAt, TestOnce, most_tests, IsBrieflyFormed}
use Rattle.kk_match.specs.Graphs.{StateTree, test_of, lines_from, HasTests, IsReached, at_start, by_answer, by_another}
use Rattle.kk_match.specs.GraphGrowth.{IsGraphOf}
use Rattle.kk_core.specs.declared.decisions.Answer.TheVariants.{Constructor, Number}
use Rattle.kk_match.specs.Parts.{Part, has_several, AreTypeNumbers, TellTypes}
use Rattle.kk_match.specs.Turned.{turned}
use Rattle.kk_norm.specs.MatchDecisions.{AreDecisions}
use Rattle.kk_norm.specs.Normalized.{final, IsCode}
use Rattle.kk_norm.specs.OpenedCells.{openings}

-- In a type with the one constructor 7, the pattern of a pair whose second part is a pair: `Pair(x, Pair(_, y))`.
abbrev nested : Pattern
nested =
    constructor 7 (part (pattern_variable 1) (part (constructor 7 (part anything (part (pattern_variable 2) no_part))) no_part))

-- match p { Pair(x, Pair(_, y)) -> x - y }, where p is parameter 0, x is variable 1 and y is variable 2
abbrev body : Tree
body = match (variable 0) (row (row_parts nested (apply (Binary Subtract) (tree (variable 1) (tree (variable 2) no_tree)))) no_row)

-- what is done in the arm behind its openings
abbrev subtraction : Code
subtraction = use_of 1 (use_of 4 (compute 5 (Binary Subtract) (1 ∷ 4 ∷ []) (give 5)))

-- The outer pair is opened before the inner one, each field has a number, and the numbers follow one another.
abbrev arms : Arms
arms = arm nested (unpack 0 7 (1 ∷ 2 ∷ []) (unpack 2 7 (3 ∷ 4 ∷ []) subtraction)) no_arm

-- where there is one row, it is chosen
one_row : (b : Bool) (i : ℕ) → (if b then Some 0 else None) ≡ Some i → Some 0 ≡ Some i
one_row true i is = is
one_row false i is = absurd (cc)

decides : (constructors : List ConstructorTree) → Decides constructors (nested ∷ []) (chooses 0 ∷ [])
decides constructors = λ t store v i of value is. one_row (matches store nested v) i is

no_edges : (cells : ℕ → Option Cell) (v : Value) (steps k : ℕ) → edges_from cells v (chooses 0 ∷ []) steps k ≡ 0
no_edges cells v zero k = refl
no_edges cells v (suc steps) zero = refl
no_edges cells v (suc steps) (suc k) = refl

no_looks : (cells : ℕ → Option Cell) (v : Value) (steps k : ℕ) → looks_from cells v (chooses 0 ∷ []) steps k ≡ 0
no_looks cells v zero k = refl
no_looks cells v (suc steps) zero = refl
no_looks cells v (suc steps) (suc k) = refl

none_later : (k j : ℕ) (node : NodeTree) → slice_get (chooses 0 ∷ []) k ≡ Some node → is_among (targets node) j ≡ true → ⊥
none_later zero j (chooses r) is among = absurd (cc)
none_later zero j (tests at edges otherwise) is among = absurd (cc)
none_later (suc k) j node is among = absurd (cc)

row_zero : (r : ℕ) → is_among (0 ∷ []) r ≡ true → r < 1
row_zero r among = omega (arith, eqb-true 0 r (alone (0 == r) among))
  where
    alone : (b : Bool) → (b || false) ≡ true → b ≡ true
    alone true same = refl
    alone false same = same

first_alone : (k r : ℕ) (node : NodeTree) → slice_get (chooses 0 ∷ []) k ≡ Some node → is_among (row_chosen node) r ≡ true → r < 1
first_alone zero r node is among = row_zero r (subst (λ (one : NodeTree). is_among (row_chosen one) r ≡ true) (sym only) among)
  where
    only : chooses 0 ≡ node
    only = cc
first_alone (suc k) r node is among = absurd (cc)

only_row : AreOrderly (chooses 0 ∷ []) 1
only_row = record {
  first = omega arith;
  later = λ k j node is among. absurd (none_later k j node is among);
  below = λ k r node is among. first_alone k r node is among;
}

tests_nothing : (k : ℕ) (at : List ℕ) → TestsAt (chooses 0 ∷ []) k at → ⊥
tests_nothing zero at (edges, otherwise, is) = absurd (cc)
tests_nothing (suc k) at (edges, otherwise, is) = absurd (cc)

-- ---- the states of the match: without parts that need a test, the start is the only one

abbrev alone : StateTree
alone = record { row = 0; left = [] } ∷ []

-- the type of constructor 7 has no other
start_is : (types : List ℕ) → has_several types 7 ≡ false → lines_from types 0 (nested ∷ []) ≡ alone
start_is types single =
    ap (λ (b : Bool).
    record {
      row = 0;
      left = (if b then record { at = []; asked = Constructor 7 } ∷ [] else [])
          ++ (((if b then record { at = 1 ∷ []; asked = Constructor 7 } ∷ [] else []) ++ []) ++ []);
    } ∷ [])
    single

alone_apart : AllPairs (λ one other. one ≢ other) (alone ∷ [])
alone_apart i j d less short = absurd (omega (arith, less, short))

alone_reached : (types : List ℕ) (state : StateTree) → Contains (alone ∷ []) state → IsReached types alone state
alone_reached types state (zero, short, same) = subst (IsReached types alone) same (at_start)
alone_reached types state (suc k, short, same) = absurd (omega (arith, short))

no_test : (q : Part) → test_of alone ≡ Some q → ⊥
no_test q is = absurd (cc)

nothing_else : (types : List ℕ) (state : StateTree) → IsReached types alone state → state ≡ alone
nothing_else types state (at_start) = refl
nothing_else types state (by_answer {state = earlier} {q = q} found before test kind) =
    absurd (no_test q (subst (λ (one : StateTree). test_of one ≡ Some q) (nothing_else types earlier before) test))
nothing_else types state (by_another {state = earlier} {at = at} n before test) =
    let q : Part = record { at = at; asked = Number n } in
    absurd (no_test q (subst (λ (one : StateTree). test_of one ≡ Some q) (nothing_else types earlier before) test))

-- what `IsBrieflyFormed` says of the decisions, by the start
abbrev FormedFrom : List ℕ → StateTree → Type 0
FormedFrom types start =
    HasTests types start 0 × (0 ≤ most_tests (nested ∷ [])) × TestOnce (chooses 0 ∷ [])
    × ((others : List NodeTree) × IsGraphOf types (most_tests (nested ∷ [])) start others
    × ((chooses 0 ∷ []) ≡ turned (length others - 1) others))

from_alone : (types : List ℕ) → FormedFrom types alone
from_alone types = (
  record {
    states = alone ∷ [];
    apart = alone_apart;
    reached = alone_reached types;
    all = λ state reached. (0, omega arith, sym (nothing_else types state reached));
    tests = refl;
  },
  omega arith,
  λ k j at leads first second. tests_nothing k at first,
  (
    chooses 0 ∷ [],
    record {
      states = alone ∷ [];
      right = one_more alone (chooses 0) no_state (refl, refl);
      apart = alone_apart;
      reached = (at_start, tt);
      number = 0;
      starts = refl;
      within = omega arith;
    },
    refl,
  ),
)

formed : (types : List ℕ) → has_several types 7 ≡ false → IsBrieflyFormed types (nested ∷ []) (chooses 0 ∷ []) 0 false
formed types single = subst (FormedFrom types) (sym (start_is types single)) (from_alone types)

-- numbers that tell the types of constructors, by which the type of constructor 7 has no other
pub record Numbers (constructors : List ConstructorTree) : Type 0 where
  pub types : List ℕ
  pub are : AreTypeNumbers constructors types
  pub tell : TellTypes constructors types
  pub single : has_several types 7 ≡ false

are_decisions : (constructors : List ConstructorTree) → Numbers constructors → AreDecisions constructors (nested ∷ []) (chooses 0 ∷ [])
are_decisions constructors numbers = record {
  decides = decides constructors;
  asks = λ t store v typed of. tt;
  orderly = only_row;
  formed = (numbers.types, 0, false, numbers.are, numbers.tell, formed numbers.types numbers.single);
  few_tests = omega arith;
  brief = omega arith;
  lean = record {
    edges = λ cells v steps k. omega (arith, no_edges cells v steps k);
    looks = λ cells v steps k. omega (arith, no_looks cells v steps k);
  };
}

pub is_its_code : (constructors : List ConstructorTree) → Numbers constructors
    → IsCode constructors (final true) [] 1 body (use_of 0 (case 0 (chooses 0 ∷ []) arms))
is_its_code constructors numbers = (
  chooses 0 ∷ [],
  arms,
  are_decisions constructors numbers,
  (
    subtraction,
    no_arm,
    refl,
    (
      use_of 4 (compute 5 (Binary Subtract) (1 ∷ 4 ∷ []) (give 5)),
      (compute 5 (Binary Subtract) (1 ∷ 4 ∷ []) (give 5), refl, refl),
      refl,
    ),
    refl,
  ),
  refl,
)

pub opens_two : openings nested ≡ 2
opens_two = refl

-- It stands for seven nodes of ten: those of the pattern, the match, and the operator, which gives the value. It takes few words.
abbrev code : Code
code = use_of 0 (case 0 (chooses 0 ∷ []) arms)

pub stands_for_seven : (pattern_nodes [] false code ≡ 5) × (other_nodes code ≡ 2) × (nodes_of body ≡ 10)
stands_for_seven = (refl, refl, refl)

pub takes_few : plain_words code ≡ 558
takes_few = refl
