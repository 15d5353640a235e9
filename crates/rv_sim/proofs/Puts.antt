-- A list in which a part was replaced by another of its length has the new items there, and its own elsewhere.
use Rattle.std.proofs.Common.{◌≡◌, ◌≤◌, ◌<◌, ℕ, ◌+◌, ◌-◌, List, ◌++◌, length, take, drop, slice_index, arith}
use Rattle.std.proofs.lemmas.Grind.{common_steps}

pub index-put_below : (xs ys : List ℕ) (a k : ℕ) → k < a → a ≤ length xs → slice_index (take a xs ++ (ys ++ drop (a + length ys) xs)) k ≡ slice_index xs k
index-put_below xs ys a k below within = grind (arith, common_steps)

pub index-put_inside : (xs ys : List ℕ) (a k : ℕ) → a ≤ k → k < a + length ys → a + length ys ≤ length xs → slice_index (take a xs ++ (ys ++ drop (a + length ys) xs)) k ≡ slice_index ys (k - a)
index-put_inside xs ys a k low high within = grind (arith, common_steps)

pub index-put_above : (xs ys : List ℕ) (a k : ℕ) → a + length ys ≤ k → a + length ys ≤ length xs → slice_index (take a xs ++ (ys ++ drop (a + length ys) xs)) k ≡ slice_index xs k
index-put_above xs ys a k high within = grind (arith, common_steps)
