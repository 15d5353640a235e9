-- The room for words that grow with pairs of nodes: for the drops and dups of results and fields, for tokens, and for tests.
use Rattle.std.proofs.Common.{◌≡◌, ◌⊎◌, inl, inr, ℕ, suc, ◌+◌, ◌-◌, ◌*◌, ◌/◌, ◌≤◌, ◌<◌, arith, subst}
use Rattle.std.proofs.lemmas.Bool.{cases_lt}
use Rattle.std.proofs.lemmas.Nat.{mul-le}
use Rattle.kk_core.specs.CaseLengths.{brief_pair_length}
use Rattle.kk_core.specs.CodeNodes.{reference_length, most_pair_words}
use Rattle.kk_counted.specs.TokenLengths.{other_length, free_length, move_length}

-- what a field has in an arm, besides its drop there: it has as much as a token
abbrev field_share : ℕ
field_share = 2 * free_length + 2 * other_length - 2 * reference_length

-- A drop of the value of one node at another: the square of the nodes counts each two of them twice.
abbrev half_reference : ℕ
half_reference = (reference_length + 1) / 2

-- Twice the words that may be spent where `v` results and `f` fields are owned and `t` tokens are there, by `p` nodes of patterns
-- and `s + 1` other nodes.
pub room : ℕ → ℕ → ℕ → ℕ → ℕ → ℕ
room v f t p s =
    reference_length * (v * (p + s)) + f * (2 * free_length * p + 2 * other_length * s + field_share)
    + t * (2 * free_length * p + 2 * other_length * s + 2 * other_length)
    + free_length * (p * p) + 2 * other_length * (p * (s + 1)) + half_reference * ((s + 1) * (s + 1))

-- the same of `k` arms together, by the sums of their nodes
pub arms_room : ℕ → ℕ → ℕ → ℕ → ℕ → ℕ → ℕ
arms_room v f t k p s =
    reference_length * (v * (p + s)) + f * (2 * free_length * p + 2 * other_length * s + field_share * k)
    + t * (2 * free_length * p + 2 * other_length * (k + s))
    + free_length * (p * p) + 2 * other_length * (p * (k + s)) + half_reference * ((k + s) * (k + s))

-- a form whose value the code ends with
pub room_value : (v f t p s : ℕ) → 2 * other_length * t ≤ room v f t p s
unfolding room
room_value v f t p s = omega arith

-- a form on values: its value is one result more, and each token is held and taken back
pub room_compute : (v f t p s : ℕ) → room (v + 1) f t p s + 2 * other_length * t ≤ room v f t p (s + 1)
unfolding room
room_compute v f t p s = omega arith

-- an opening whose cell stays: its fields are so many more, and the tests of the case before it look at them
pub room_read : (v f t p s k e h : ℕ) → h ≤ f + t
    → room v (f + k) t p s + 2 * brief_pair_length * (k * k + 2 * (h * k)) ≤ room v f t (k + e + p) s
unfolding room
room_read v f t p s k e h few = let tests = mul-le h k (f + t) k few (omega arith) in omega (arith, tests)

-- an opening of a field that is given up: the field becomes a token
pub room_turn : (v f t p s k h : ℕ) → 1 ≤ k → h ≤ f + 1 + t
    → room v (f + k) (t + 1) p s + 2 * brief_pair_length * (k * k + 2 * (h * k)) ≤ room v (f + 1) t (k + p) s
unfolding room
room_turn v f t p s k h some few = let tests = mul-le h k (f + 1 + t) k few (omega arith) in omega (arith, tests, some)

-- an opening that has a node of its own for its token
pub room_token : (v f t p s k h : ℕ) → h ≤ f + t
    → room v (f + k) (t + 1) p s + 2 * brief_pair_length * (k * k + 2 * (h * k)) ≤ room v f t (k + 1 + p) s
unfolding room
room_token v f t p s k h few = let tests = mul-le h k (f + t) k few (omega arith) in omega (arith, tests)

-- a block and what comes behind it, where the block leaves at most one token for each of its nodes of patterns
pub room_inside : (v f t p s q z o : ℕ) → o ≤ p
    → room v f t p s + room (v + 1) f (t + o) q z ≤ room v f t (p + q) (s + z + 1)
unfolding room
room_inside v f t p s q z o few =
    let patterns = mul-le o q p q few (omega arith) in
    let others = mul-le o z p z few (omega arith) in
    omega (arith, patterns, others, few)

-- an arm and those behind it, with what the ends of each lack of the tokens of the others, and with their tests
pub room_arm : (v f t p s k q z g h : ℕ) → g ≤ p → h ≤ q
    → room v f t p s + arms_room v f t k q z + 2 * move_length * (q * (s + 1) + p * (k + z)) + 2 * brief_pair_length * (2 * (g * h))
    ≤ arms_room v f t (suc k) (p + q) (s + z)
unfolding room arms_room
room_arm v f t p s k q z g h one two = let tests = mul-le g h p q one two in omega (arith, tests)

-- A case of `suc j` arms, each with a token to spare: each arm but one drops results and fields, and frees or moves the tokens.
pub room_case : (v f t j p s m g : ℕ) → m ≤ t → g ≤ p
    → arms_room v f (t + 1) (suc j) p s + 2 * reference_length * (j * (v + f)) + 2 * free_length * (suc j * m) + 2 * move_length * p
    + 2 * brief_pair_length * (suc j * suc j + 2 * (suc j * g)) ≤ room v f t (suc j + p) (suc j + s)
unfolding room arms_room
room_case v f t j p s m g few tests =
    let tokens = mul-le (suc j) m (suc j) t (omega arith) few in
    let fields = mul-le (suc j) g (suc j) p (omega arith) tests in
    omega (arith, tokens, fields, tests)

-- an `if`, whose arms have no node of their own, and no token to spare
pub room_branch : (v f t p s m : ℕ) → m ≤ t
    → arms_room v f t 2 p s + 2 * reference_length * (v + f) + 2 * free_length * (2 * m) + 2 * move_length * p
    ≤ room v f t p (2 + s)
unfolding room arms_room
room_branch v f t p s m few = omega (arith, few)

-- twice a product is at most the sum of both squares
pairs_few : (p r : ℕ) → 2 * (p * r) ≤ p * p + r * r
pairs_few p r = by_order (cases_lt p r)
  where
    more : (least other : ℕ) → 2 * (least * (least + other)) ≤ least * least + (least + other) * (least + other)
    more least other = omega arith

    by_order : (p < r) ⊎ (r ≤ p) → 2 * (p * r) ≤ p * p + r * r
    by_order (inl less) =
        subst (λ n. 2 * (p * n) ≤ p * p + n * n) (let same : p + (r - p) ≡ r = omega arith in same) (more p (r - p))
    by_order (inr most) =
        subst (λ n. 2 * (n * r) ≤ n * n + r * r) (let same : r + (p - r) ≡ p = omega arith in same)
        (omega (arith, more r (p - r)))

-- of a whole function: pairs of its nodes
pub room_whole : (p s : ℕ) → room 0 0 0 p s ≤ 2 * most_pair_words * ((p + (s + 1)) * (p + (s + 1)))
unfolding room
room_whole p s = omega (arith, pairs_few p (s + 1))
