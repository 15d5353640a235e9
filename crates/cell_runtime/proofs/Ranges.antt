-- What may be done with a range of addresses may be done with each part of it.
use Rattle.std.proofs.Common.{◌≡◌, ℕ, ◌+◌, ◌≤◌, ◌<◌, List, [], ◌∷◌, Bool, true, false, ◌&&◌, ◌||◌, refl, arith}
use Rattle.std.proofs.lemmas.Bool.Decides.{nat_tests}
use Rattle.std.specs.List.{list_any}
use Rattle.kk_base.specs.Memory.{Part, covers}

covers-within : (part : Part) (at count x size : ℕ) → 0 < count → at ≤ x → x + size ≤ at + count → covers part at count ≡ true → covers part x size ≡ true
covers-within part at count x size some low high covered = grind (arith, nat_tests)

both-then : (flag wide narrow : Bool) → (wide ≡ true → narrow ≡ true) → (flag && wide) ≡ true → (flag && narrow) ≡ true
both-then true wide narrow weaker both = weaker both
both-then false wide narrow weaker both = both

either-then : (a b c d : Bool) → (a ≡ true → c ≡ true) → (b ≡ true → d ≡ true) → (a || b) ≡ true → (c || d) ≡ true
either-then true b c d left right either = let now : c ≡ true = left refl in rw now refl
either-then false b true d left right either = refl
either-then false b false d left right either = right either

-- in the parts that have a flag
pub can-within : (flag : Part → Bool) (parts : List Part) (at count x size : ℕ) → 0 < count → at ≤ x → x + size ≤ at + count
    → list_any (λ part. flag part && covers part at count) parts ≡ true → list_any (λ part. flag part && covers part x size) parts ≡ true
can-within flag [] at count x size some low high can = can
can-within flag (part ∷ parts) at count x size some low high can =
    either-then (flag part && covers part at count) _ (flag part && covers part x size) _
    (both-then (flag part) (covers part at count) (covers part x size) (covers-within part at count x size some low high))
    (can-within flag parts at count x size some low high) can
