-- The immediates that the fields of a word make, with their ranges.
-- The RISC-V Instruction Set Manual, Volume I: Unprivileged ISA, 2.3 Immediate Encoding Variants.
use Rattle.std.specs.Prelude.{◌≡◌, ℕ, ◌+◌, ◌-◌, ◌*◌, ◌%◌, ◌^◌, ◌<◌, ◌≤◌, refl}
use Rattle.std.proofs.Common.{ap, sym, subst, ◌∙◌, add_assoc, lit<, lit≤}
use Rattle.std.proofs.Math.Nat.{mod-lt, mod-mod, mod-add-mod, add-mod_right, mod-eq_of_lt, lt_of_lt_of_le, mul-add-mod_self_right, add-mul-mod_self_right, mul-mod_left, mul-lt-mul_of_pos_right}
use Rattle.std.proofs.Math.Arith.{mod-mul}
use Rattle.rv_isa.specs.Range.{IsImmediate, IsBranchOffset, IsJumpOffset, IsUpperImmediate}

-- a number below `2 * half` as a word: from `half` on it stands for the negative number `2 * half` below it
abbrev pub extended : ℕ → ℕ → ℕ
extended half x = ((x + half) % (2 * half) + (2 ^ 32 - half)) % 2 ^ 32

pub extended-add-half : (m c half : ℕ) → c + half ≡ 2 ^ 32 → m < 2 ^ 32 → ((m + c) % 2 ^ 32 + half) % 2 ^ 32 ≡ m
extended-add-half m c half whole below =
    mod-add-mod (m + c) (2 ^ 32) half
    ∙ ap (λ v. v % 2 ^ 32) (add_assoc m c half ∙ ap (λ v. m + v) whole)
    ∙ add-mod_right m (2 ^ 32)
    ∙ mod-eq_of_lt below

pub mod-double-mod : (n m : ℕ) → 0 < m → n % (m * 2) % 2 ≡ n % 2
mod-double-mod n m positive =
    ap (λ v. v % 2) (mod-mul n {m = m} {c = 2} positive (lit< tt)) ∙ mul-add-mod_self_right _ 2 _ ∙ mod-mod n 2

pub extended-in_range : (half c x : ℕ) → c + half ≡ 2 ^ 32 → 0 < 2 * half → 2 * half ≤ 2 ^ 32 → (((x + half) % (2 * half) + c) % 2 ^ 32 + half) % 2 ^ 32 < 2 * half
extended-in_range half c x whole positive fits =
    subst (λ v. v < 2 * half) (sym (extended-add-half _ c half whole (lt_of_lt_of_le (mod-lt _ positive) fits))) (mod-lt _ positive)

pub immediate_in_range : (x : ℕ) → IsImmediate (extended (2 ^ 11) x)
immediate_in_range x =
    (mod-lt _ (lit< tt), extended-in_range (2 ^ 11) (2 ^ 32 - 2 ^ 11) x refl (lit< tt) (lit≤ tt))

pub branch_offset_in_range : (y : ℕ) → IsBranchOffset (extended (2 ^ 12) (y * 2))
branch_offset_in_range y = (
  mod-lt _ (lit< tt),
  extended-in_range (2 ^ 12) (2 ^ 32 - 2 ^ 12) (y * 2) refl (lit< tt) (lit≤ tt),
  mod-double-mod _ (2 ^ 31) (lit< tt)
      ∙ add-mul-mod_self_right ((y * 2 + 2 ^ 12) % 2 ^ 13) (2 ^ 31 - 2 ^ 11) 2
      ∙ mod-double-mod _ (2 ^ 12) (lit< tt)
      ∙ mul-add-mod_self_right y 2 (2 ^ 12),
)

pub jump_offset_in_range : (y : ℕ) → IsJumpOffset (extended (2 ^ 20) (y * 2))
jump_offset_in_range y = (
  mod-lt _ (lit< tt),
  extended-in_range (2 ^ 20) (2 ^ 32 - 2 ^ 20) (y * 2) refl (lit< tt) (lit≤ tt),
  mod-double-mod _ (2 ^ 31) (lit< tt)
      ∙ add-mul-mod_self_right ((y * 2 + 2 ^ 20) % 2 ^ 21) (2 ^ 31 - 2 ^ 19) 2
      ∙ mod-double-mod _ (2 ^ 20) (lit< tt)
      ∙ mul-add-mod_self_right y 2 (2 ^ 20),
)

pub upper_immediate_in_range : (x : ℕ) → IsUpperImmediate (x % 2 ^ 20 * 2 ^ 12)
upper_immediate_in_range x = (mul-lt-mul_of_pos_right (mod-lt x (lit< tt)) (lit< tt), mul-mod_left (x % 2 ^ 20) (2 ^ 12))
