-- The values of the caller that stand for those of a leaf.
use Rattle.std.proofs.Common.{◌≡◌, ◌<◌, ◌≤◌, ◌-◌, ℕ, zero, suc, ◌+◌, List, [], ◌∷◌, length, get_or, refl, arith}
use Rattle.rv_inline.specs.InLine.{named}

-- for a parameter the argument
pub named_argument : (base : ℕ) (args : List ℕ) (v : ℕ) → v < length args → get_or args v 0 ≡ named base args v
named_argument base [] v less = absurd (omega (arith, less))
named_argument base (arg ∷ args) zero less = refl
named_argument base (arg ∷ args) (suc v) less = named_argument base args v (omega (arith, less))

-- and for the others those from a number on
pub named_fresh : (base : ℕ) (args : List ℕ) (v : ℕ) → length args ≤ v → base + (v - length args) ≡ named base args v
named_fresh base [] v high = omega arith
named_fresh base (arg ∷ args) zero high = absurd (omega (arith, high))
named_fresh base (arg ∷ args) (suc v) high =
    let rest = named_fresh base args v (omega (arith, high)) in omega (arith, rest)
