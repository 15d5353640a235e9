-- The states of a match, and the graph of their tests.
use Rattle.std.specs.Prelude.{◌≡◌, ◌≢◌, ℕ, suc, ℤ, ◌+◌, Bool, false, List, [], ◌∷◌, length, AllPairs, Contains, Option, None, Some, is_some, option_map, if◌then◌else◌, nat_eq}
use lib.Pointwise.{pointwise}
use Rattle.kk_syntax.specs.Patterns.{Pattern}
use Rattle.kk_core.specs.declared.decisions.Answer.{Answer}
use Rattle.kk_core.specs.declared.decisions.Answer.TheVariants.{Number}
use Rattle.kk_core.specs.Decisions.{is_answer}
use Rattle.kk_match.specs.Parts.{Part, parts_of, IsKind}

-- A row that may still match, and its parts that are not yet known to match. A state is a list of such rows, in their order.
pub record LineTree : Type 0 where
  pub row : ℕ
  pub left : List Part

abbrev pub StateTree : Type 0
StateTree = List LineTree

-- what a test finds: an answer, or another one than all that are asked
abbrev pub agrees : Option Answer → Answer → Bool
agrees None asked = false
agrees (Some found) asked = is_answer found asked

-- What is left of a row's parts once a position's answer is known; none where the row does not match.
abbrev pub left_after : List ℕ → Option Answer → List Part → Option (List Part)
left_after at outcome [] = Some []
left_after at outcome (q ∷ qs) =
    if pointwise nat_eq q.at at then (if agrees outcome q.asked then left_after at outcome qs else None)
    else option_map (λ rest. q ∷ rest) (left_after at outcome qs)

abbrev pub kept_line : ℕ → Option (List Part) → StateTree → StateTree
kept_line row None rest = rest
kept_line row (Some left) rest = record { row = row; left = left } ∷ rest

-- the state that is left once a position's answer is known
abbrev pub after : List ℕ → Option Answer → StateTree → StateTree
after at outcome [] = []
after at outcome (line ∷ lines) = kept_line line.row (left_after at outcome line.left) (after at outcome lines)

abbrev pub first_of : {X : Type 0} → List X → Option X
first_of [] = None
first_of (x ∷ xs) = Some x

-- The test of a state: the first part that is left of its first row. A state without a test chooses its first row.
abbrev pub test_of : StateTree → Option Part
test_of [] = None
test_of (line ∷ lines) = first_of line.left

abbrev pub row_of : StateTree → ℕ
row_of [] = 0
row_of (line ∷ lines) = line.row

-- the parts that are left, in all
abbrev pub weight : StateTree → ℕ
weight [] = 0
weight (line ∷ lines) = length line.left + weight lines

-- the parts that are left at a position
abbrev pub parts_at : List ℕ → List Part → ℕ
parts_at at [] = 0
parts_at at (q ∷ qs) = (if pointwise nat_eq q.at at then 1 else 0) + parts_at at qs

abbrev pub weight_at : List ℕ → StateTree → ℕ
weight_at at [] = 0
weight_at at (line ∷ lines) = parts_at at line.left + weight_at at lines

-- the state of rows that have these parts, from one of a number on
abbrev pub lines_of : ℕ → List (List Part) → StateTree
lines_of k [] = []
lines_of k (left ∷ lefts) = record { row = k; left = left } ∷ lines_of (k + 1) lefts

-- the state of rows from one of a number on, of which nothing is known
abbrev pub lines_from : List ℕ → ℕ → List Pattern → StateTree
lines_from types k [] = []
lines_from types k (p ∷ ps) = record { row = k; left = parts_of types [] p } ∷ lines_from types (k + 1) ps

-- The states that tests lead to: a test leads on for each constructor of its type, or for each number; and where numbers are
-- asked, for another one than all that are asked.
pub data IsReached (types : List ℕ) (start : StateTree) : StateTree → Type 0 where
  at_start : IsReached types start start
  by_answer : {state : StateTree} → {q : Part} → (found : Answer) → IsReached types start state → test_of state ≡ Some q
      → IsKind types q.asked found → IsReached types start (after q.at (Some found) state)
  by_another : {state : StateTree} → {at : List ℕ} → (n : ℤ) → IsReached types start state → test_of state ≡ Some (record { at = at; asked = Number n })
      → IsReached types start (after at None state)

-- how many of some states test
abbrev pub testing : List StateTree → ℕ
testing [] = 0
testing (state ∷ states) = (if is_some (test_of state) then 1 else 0) + testing states

-- so many states that are reached test: equal states are one
pub record HasTests (types : List ℕ) (start : StateTree) (t : ℕ) : Type 0 where
  pub states : List StateTree
  pub apart : AllPairs (λ one other. one ≢ other) states
  pub reached : (state : StateTree) → Contains states state → IsReached types start state
  pub all : (state : StateTree) → IsReached types start state → Contains states state
  pub tests : testing states ≡ t

-- more than so many states that are reached test
pub record HasMoreTests (types : List ℕ) (start : StateTree) (most : ℕ) : Type 0 where
  pub states : List StateTree
  pub apart : AllPairs (λ one other. one ≢ other) states
  pub reached : (state : StateTree) → Contains states state → IsReached types start state
  pub tests : testing states ≡ suc most
