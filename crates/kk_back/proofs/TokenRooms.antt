-- Each program with tokens has a room that is enough for them: the greatest that one of its functions needs.
use Rattle.std.proofs.Common.{◌≡◌, ◌≤◌, ℕ, zero, suc, List, [], ◌∷◌, Some, ap, arith}
use Rattle.std.proofs.Math.Nat.{le-max_left, le-max_right}
use Rattle.std.specs.Prelude.{max, slice_get}
use Rattle.kk_counted.specs.TokenCosts.{room_needed, HasRoom}
use Rattle.kk_counted.specs.TokenedCodes.{TokenedFunction, TokenedProgram}

abbrev pub greatest_room : List TokenedFunction → ℕ
greatest_room [] = 0
greatest_room (function ∷ functions) = max (room_needed function.body) (greatest_room functions)

within_greatest : (functions : List TokenedFunction) (n : ℕ) (function : TokenedFunction) → slice_get functions n ≡ Some function
    → room_needed function.body ≤ greatest_room functions
within_greatest [] n function is = absurd (cc)
within_greatest (first ∷ rest) zero function is =
    let same : first ≡ function = cc in
    let most = le-max_left (room_needed first.body) (greatest_room rest) in
    omega (arith, most, ap (λ (f : TokenedFunction). room_needed f.body) same)
within_greatest (first ∷ rest) (suc n) function is =
    let most = le-max_right (room_needed first.body) (greatest_room rest) in
    let inner = within_greatest rest n function is in
    omega (arith, most, inner)

pub has_enough : (code : TokenedProgram) → HasRoom (greatest_room code.functions) code
has_enough code = within_greatest code.functions
