-- Registers and immediates of equal numbers are equal: a range has one proof at most.
use Rattle.std.proofs.Common.{◌≡◌, ℕ, ◌<◌, subst, ap}
use Rattle.std.proofs.Props.{props}
use Rattle.rv_isa.specs.Range.{IsImmediate, IsBranchOffset, IsJumpOffset, IsUpperImmediate}
use Rattle.rv_isa.specs.declared.register.Register.{Register}
use Rattle.rv_isa.specs.declared.immediate.Immediate.{Immediate}
use Rattle.rv_isa.specs.declared.immediate.BranchOffset.{BranchOffset}
use Rattle.rv_isa.specs.declared.immediate.JumpOffset.{JumpOffset}
use Rattle.rv_isa.specs.declared.immediate.UpperImmediate.{UpperImmediate}
use Rattle.rv_isa.specs.declared.immediate.ShiftAmount.{ShiftAmount}

-- a record of a number with a fact that has one proof is told by its number
same_by : {A : Type 0} (P : ℕ → Type 0) (make : (n : ℕ) → P n → A) → ((n : ℕ) → IsProp (P n)) → (n m : ℕ) (p : P n) (q : P m) → n ≡ m → make n p ≡ make m q
same_by P make one n m p q e =
    subst (λ v. (r : P v) → make n p ≡ make v r) e (λ r. ap (make n) (one n p r)) q

pub same_register : (a b : Register) → a.number ≡ b.number → a ≡ b
same_register a b e =
    same_by (λ n. n < 32) (λ n p. record { number = n; in_range = p }) (λ n. hlevel props) a.number b.number a.in_range b.in_range e

pub same_shamt : (a b : ShiftAmount) → a.places ≡ b.places → a ≡ b
same_shamt a b e =
    same_by (λ n. n < 32) (λ n p. record { places = n; in_range = p }) (λ n. hlevel props) a.places b.places a.in_range b.in_range e

pub same_immediate : (a b : Immediate) → a.word ≡ b.word → a ≡ b
same_immediate a b e =
    same_by IsImmediate (λ n p. record { word = n; in_range = p }) (λ n. hlevel props) a.word b.word a.in_range b.in_range e

pub same_branch_offset : (a b : BranchOffset) → a.word ≡ b.word → a ≡ b
same_branch_offset a b e =
    same_by IsBranchOffset (λ n p. record { word = n; in_range = p }) (λ n. hlevel props) a.word b.word a.in_range b.in_range e

pub same_jump_offset : (a b : JumpOffset) → a.word ≡ b.word → a ≡ b
same_jump_offset a b e =
    same_by IsJumpOffset (λ n p. record { word = n; in_range = p }) (λ n. hlevel props) a.word b.word a.in_range b.in_range e

pub same_upper_immediate : (a b : UpperImmediate) → a.word ≡ b.word → a ≡ b
same_upper_immediate a b e =
    same_by IsUpperImmediate (λ n p. record { word = n; in_range = p }) (λ n. hlevel props) a.word b.word a.in_range b.in_range e
