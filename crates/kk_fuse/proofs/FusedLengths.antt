-- Fused code is no longer than the code that it is made of, and has as many forms beside dups and drops.
use Rattle.std.proofs.Common.{◌≡◌, ◌≤◌, ℕ, suc, List, map, Some, arith, refl, ap}
use Rattle.kk_counted.specs.CountedCodes.{Counted, CountedFunction}
use Rattle.kk_counted.specs.Lengths.{code_length, computes, forms_in, AreShort}
use Rattle.kk_dropspec.proofs.CodeLengths.{changed_short}
use Rattle.kk_fuse.specs.Fused.{without_drop, fuse, fused_function}
use Rattle.kk_fuse.proofs.DropRemoval.{by_without, Without, fuse_changes}

-- the code without a drop is no longer
less_length : (x : ℕ) (code less : Counted) → without_drop x code ≡ Some less → code_length less ≤ code_length code
less_length x =
    by_without x (λ code less. code_length less ≤ code_length code) (λ rest. omega arith)
    (λ y rest less apart later. omega (arith, later)) (λ y rest less apart later. omega (arith, later))
    (λ y c fields rest less apart named later. omega (arith, later))
    (λ y form arguments rest less apart named plain later. omega (arith, later))

-- the code without a drop has as many forms on values
less_computes : (x : ℕ) (code less : Counted) → without_drop x code ≡ Some less → computes less ≡ computes code
less_computes x =
    by_without x (λ code less. computes less ≡ computes code) (λ rest. refl) (λ y rest less apart later. later)
    (λ y rest less apart later. later) (λ y c fields rest less apart named later. later)
    (λ y form arguments rest less apart named plain later. ap suc later)

-- the code without a drop has as many forms beside dups and drops
less_forms : (x : ℕ) (code less : Counted) → without_drop x code ≡ Some less → forms_in less ≡ forms_in code
less_forms x =
    by_without x (λ code less. forms_in less ≡ forms_in code) (λ rest. refl) (λ y rest less apart later. later)
    (λ y rest less apart later. later) (λ y c fields rest less apart named later. ap suc later)
    (λ y form arguments rest less apart named plain later. ap suc later)

-- fused functions are short where the functions are
pub fused_short : (functions : List CountedFunction) → AreShort functions → AreShort (map fused_function functions)
fused_short =
    changed_short Without (record { no_more = less_length; values = less_computes; others = less_forms }) fuse fuse_changes
