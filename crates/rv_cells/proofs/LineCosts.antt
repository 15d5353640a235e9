-- What lines weigh in assembler code: rows of them, and the tests of decisions.
use Rattle.std.proofs.Common.{◌≡◌, ◌≤◌, refl, ℕ, suc, ◌+◌, ◌*◌, List, [], ◌∷◌, ◌++◌, length, sym, subst, arith}
use Rattle.kk_core.specs.declared.decisions.Edge.{Edge}

-- so much for each
abbrev pub row_cost : List ℕ → ℕ → ℕ
row_cost [] cost = 0
row_cost (x ∷ xs) cost = cost + row_cost xs cost

-- one more for each
pub row_more : (xs : List ℕ) (cost : ℕ) → row_cost xs (cost + 1) ≡ row_cost xs cost + length xs
row_more [] cost = refl
row_more (x ∷ xs) cost = let later = row_more xs cost in omega (arith, later)

-- The most moves that a line has that is no call: two arguments, an argument and a result, or those of a drop, one of them spare.
abbrev pub most_moves : ℕ
most_moves = 2

-- a branch to a label, and the label
abbrev pub leading_cost : ℕ
leading_cost = 2 * most_moves + 4

-- the tests of a node: two lines an edge
abbrev pub edges_cost : List Edge → ℕ
edges_cost [] = 0
edges_cost (edge ∷ edges) = (2 * most_moves + 5) + edges_cost edges

pub edges_apart : (some more : List Edge) → edges_cost (some ++ more) ≡ edges_cost some + edges_cost more
edges_apart [] more = omega arith
edges_apart (edge ∷ some) more = let later = edges_apart some more in omega (arith, later)

-- the most that the lines of a test weigh, for each of what it looks at
abbrev pub look_cost : ℕ
look_cost = 7 * most_moves + 14

-- a row, where each costs no more than this
pub row_within : (xs : List ℕ) (cost most : ℕ) → cost ≤ most → row_cost xs cost ≤ most * length xs
row_within [] cost most cheap = omega arith
row_within (x ∷ xs) cost most cheap = let later = row_within xs cost most cheap in omega (arith, cheap, later)

-- edges, by how many they are
edges_within : (edges : List Edge) → edges_cost edges ≤ look_cost * length edges
edges_within [] = omega arith
edges_within (edge ∷ edges) = let later = edges_within edges in omega (arith, later)

-- a test weighs no more than what it looks at, and the nodes behind it no more than what they look at and the last one's jump
pub test_within : (behind seen : ℕ) (at : List ℕ) (edges : List Edge) → seen ≡ suc (length at + length edges) + behind
    → (most_moves + 0) + ((6 * most_moves + 14 + row_cost at (most_moves + 2) + edges_cost edges)
    + (look_cost * behind + (2 * most_moves + 2)))
    ≤ look_cost * seen + (2 * most_moves + 2)
test_within behind seen at edges is =
    let row = row_within at (most_moves + 2) look_cost (omega arith) in
    let all = edges_within edges in
    subst (λ n. (most_moves + 0) + ((6 * most_moves + 14 + row_cost at (most_moves + 2) + edges_cost edges)
    + (look_cost * behind + (2 * most_moves + 2)))
    ≤ look_cost * n + (2 * most_moves + 2)) (sym is) (omega (arith, row, all))
