-- Numbers with no bit in common are put together by `|` as by a sum.
use Rattle.std.proofs.Common.{◌≡◌, ℕ, ◌+◌, ◌*◌, ◌/◌, ◌%◌, ◌^◌, ◌<◌, bit_or, bit_and, sym, ap, ◌∙◌, arith}
use Rattle.std.proofs.lemmas.Nat.{or_shifted, shr_split, and_mask}
use Rattle.rv_isa.specs.Field.{field}

pub bit_or-sum : (n p k : ℕ) → n % 2 ^ k ≡ 0 → p < 2 ^ k → bit_or n p ≡ n + p
bit_or-sum n p k clear below =
    let whole : n / 2 ^ k * 2 ^ k ≡ n = omega (arith, shr_split n k) in
    ap (λ v. bit_or v p) (sym whole) ∙ or_shifted (n / 2 ^ k) k p below ∙ ap (λ v. v + p) whole

-- a word by the five parts that most formats have
pub five_parts : (a b c d e : ℕ) → a < 2 ^ 12 → b < 2 ^ 5 → c < 2 ^ 3 → d < 2 ^ 5 → e < 2 ^ 7 → bit_or (bit_or (bit_or (bit_or (a * 2 ^ 20 % 2 ^ 32) (b * 2 ^ 15 % 2 ^ 32)) (c * 2 ^ 12 % 2 ^ 32)) (d * 2 ^ 7 % 2 ^ 32)) e ≡ a * 2 ^ 20 + b * 2 ^ 15 + c * 2 ^ 12 + d * 2 ^ 7 + e
five_parts a b c d e ha hb hc hd he =
    let one = bit_or-sum (a * 2 ^ 20 % 2 ^ 32) (b * 2 ^ 15 % 2 ^ 32) 20 (omega arith) (omega arith) in
    let two = bit_or-sum (a * 2 ^ 20 % 2 ^ 32 + b * 2 ^ 15 % 2 ^ 32) (c * 2 ^ 12 % 2 ^ 32) 15 (omega arith) (omega arith) in
    let three = bit_or-sum (a * 2 ^ 20 % 2 ^ 32 + b * 2 ^ 15 % 2 ^ 32 + c * 2 ^ 12 % 2 ^ 32) (d * 2 ^ 7 % 2 ^ 32) 12 (omega arith) (omega arith) in
    let four = bit_or-sum (a * 2 ^ 20 % 2 ^ 32 + b * 2 ^ 15 % 2 ^ 32 + c * 2 ^ 12 % 2 ^ 32 + d * 2 ^ 7 % 2 ^ 32) e 7 (omega arith) (omega arith) in
    rw (one, two, three, four) (omega arith)

-- a word by the three parts of the U-type and the J-type
pub three_parts : (a b c : ℕ) → a < 2 ^ 20 → b < 2 ^ 5 → c < 2 ^ 7 → bit_or (bit_or (a * 2 ^ 12 % 2 ^ 32) (b * 2 ^ 7 % 2 ^ 32)) c ≡ a * 2 ^ 12 + b * 2 ^ 7 + c
three_parts a b c ha hb hc =
    let one = bit_or-sum (a * 2 ^ 12 % 2 ^ 32) (b * 2 ^ 7 % 2 ^ 32) 12 (omega arith) (omega arith) in
    let two = bit_or-sum (a * 2 ^ 12 % 2 ^ 32 + b * 2 ^ 7 % 2 ^ 32) c 7 (omega arith) (omega arith) in
    rw (one, two) (omega arith)

-- the upper part of a branch: offset[12], offset[10:5] and rs2
pub branch_upper : (a b c : ℕ) → a < 2 ^ 1 → b < 2 ^ 6 → c < 2 ^ 5 → bit_or (bit_or (a * 2 ^ 11 % 2 ^ 32) (b * 2 ^ 5 % 2 ^ 32)) c ≡ a * 2 ^ 11 + b * 2 ^ 5 + c
branch_upper a b c ha hb hc =
    let one = bit_or-sum (a * 2 ^ 11 % 2 ^ 32) (b * 2 ^ 5 % 2 ^ 32) 11 (omega arith) (omega arith) in
    let two = bit_or-sum (a * 2 ^ 11 % 2 ^ 32 + b * 2 ^ 5 % 2 ^ 32) c 5 (omega arith) (omega arith) in
    rw (one, two) (omega arith)

-- half the offset of a branch: its bits 12, 11, 10 to 5 and 4 to 1
pub branch_halves : (a b c d : ℕ) → a < 2 ^ 1 → b < 2 ^ 1 → c < 2 ^ 6 → d < 2 ^ 4 → bit_or (bit_or (bit_or (a * 2 ^ 11 % 2 ^ 32) (b * 2 ^ 10 % 2 ^ 32)) (c * 2 ^ 4 % 2 ^ 32)) d ≡ a * 2 ^ 11 + b * 2 ^ 10 + c * 2 ^ 4 + d
branch_halves a b c d ha hb hc hd =
    let one = bit_or-sum (a * 2 ^ 11 % 2 ^ 32) (b * 2 ^ 10 % 2 ^ 32) 11 (omega arith) (omega arith) in
    let two = bit_or-sum (a * 2 ^ 11 % 2 ^ 32 + b * 2 ^ 10 % 2 ^ 32) (c * 2 ^ 4 % 2 ^ 32) 10 (omega arith) (omega arith) in
    let three = bit_or-sum (a * 2 ^ 11 % 2 ^ 32 + b * 2 ^ 10 % 2 ^ 32 + c * 2 ^ 4 % 2 ^ 32) d 4 (omega arith) (omega arith) in
    rw (one, two, three) (omega arith)

-- the upper part of a jump: offset[20], offset[10:1], offset[11] and offset[19:12]
pub jump_upper : (a b c d : ℕ) → a < 2 ^ 1 → b < 2 ^ 10 → c < 2 ^ 1 → d < 2 ^ 8 → bit_or (bit_or (bit_or (a * 2 ^ 19 % 2 ^ 32) (b * 2 ^ 9 % 2 ^ 32)) (c * 2 ^ 8 % 2 ^ 32)) d ≡ a * 2 ^ 19 + b * 2 ^ 9 + c * 2 ^ 8 + d
jump_upper a b c d ha hb hc hd =
    let one = bit_or-sum (a * 2 ^ 19 % 2 ^ 32) (b * 2 ^ 9 % 2 ^ 32) 19 (omega arith) (omega arith) in
    let two = bit_or-sum (a * 2 ^ 19 % 2 ^ 32 + b * 2 ^ 9 % 2 ^ 32) (c * 2 ^ 8 % 2 ^ 32) 9 (omega arith) (omega arith) in
    let three = bit_or-sum (a * 2 ^ 19 % 2 ^ 32 + b * 2 ^ 9 % 2 ^ 32 + c * 2 ^ 8 % 2 ^ 32) d 8 (omega arith) (omega arith) in
    rw (one, two, three) (omega arith)

-- half the offset of a jump: its bits 20, 19 to 12, 11 and 10 to 1
pub jump_halves : (a b c d : ℕ) → a < 2 ^ 1 → b < 2 ^ 8 → c < 2 ^ 1 → d < 2 ^ 10 → bit_or (bit_or (bit_or (a * 2 ^ 19 % 2 ^ 32) (b * 2 ^ 11 % 2 ^ 32)) (c * 2 ^ 10 % 2 ^ 32)) d ≡ a * 2 ^ 19 + b * 2 ^ 11 + c * 2 ^ 10 + d
jump_halves a b c d ha hb hc hd =
    let one = bit_or-sum (a * 2 ^ 19 % 2 ^ 32) (b * 2 ^ 11 % 2 ^ 32) 19 (omega arith) (omega arith) in
    let two = bit_or-sum (a * 2 ^ 19 % 2 ^ 32 + b * 2 ^ 11 % 2 ^ 32) (c * 2 ^ 10 % 2 ^ 32) 11 (omega arith) (omega arith) in
    let three = bit_or-sum (a * 2 ^ 19 % 2 ^ 32 + b * 2 ^ 11 % 2 ^ 32 + c * 2 ^ 10 % 2 ^ 32) d 10 (omega arith) (omega arith) in
    rw (one, two, three) (omega arith)

-- the same of an offset and rs2, whose parts are taken by masks
pub branch_upper_of : (n r : ℕ) → r < 2 ^ 5 → bit_or (bit_or (bit_and (n / 2 ^ 12) 0x1 * 2 ^ 11 % 2 ^ 32) (bit_and (n / 2 ^ 5) 0x3f * 2 ^ 5 % 2 ^ 32)) r ≡ field n 12 12 * 2 ^ 11 + field n 10 5 * 2 ^ 5 + r
branch_upper_of n r h =
    rw (and_mask (n / 2 ^ 12) 1, and_mask (n / 2 ^ 5) 6) (branch_upper (field n 12 12) (field n 10 5) r (omega arith) (omega arith) h)

pub branch_lower_of : (n : ℕ) → bit_or (bit_and (n / 2) 0xf * 2 % 2 ^ 32) (bit_and (n / 2 ^ 11) 0x1) ≡ field n 4 1 * 2 + field n 11 11
branch_lower_of n =
    let joined = bit_or-sum (field n 4 1 * 2 % 2 ^ 32) (field n 11 11) 1 (omega arith) (omega arith) in
    rw (and_mask (n / 2) 4, and_mask (n / 2 ^ 11) 1, joined) (omega arith)

pub jump_upper_of : (n : ℕ) → bit_or (bit_or (bit_or (bit_and (n / 2 ^ 20) 0x1 * 2 ^ 19 % 2 ^ 32) (bit_and (n / 2) 0x3ff * 2 ^ 9 % 2 ^ 32)) (bit_and (n / 2 ^ 11) 0x1 * 2 ^ 8 % 2 ^ 32)) (bit_and (n / 2 ^ 12) 0xff) ≡ field n 20 20 * 2 ^ 19 + field n 10 1 * 2 ^ 9 + field n 11 11 * 2 ^ 8 + field n 19 12
jump_upper_of n =
    rw (and_mask (n / 2 ^ 20) 1, and_mask (n / 2) 10, and_mask (n / 2 ^ 11) 1, and_mask (n / 2 ^ 12) 8)
    (jump_upper (field n 20 20) (field n 10 1) (field n 11 11) (field n 19 12) (omega arith) (omega arith) (omega arith) (omega arith))
