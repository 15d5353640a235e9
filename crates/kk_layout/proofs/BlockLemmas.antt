-- The code keeps the innermost block last; the definitions have it first.
use Rattle.std.proofs.Common.{◌≡◌, ℕ, ◌-◌, ◌≤◌, List, [], ◌∷◌, ◌++◌, length, take, drop, reverse, refl, sym, subst, arith}
use Rattle.std.proofs.lemmas.List.{reverse-append, length-reverse, take-append-drop, length-drop}
use Rattle.std.proofs.Math.Seq.{drop-append_seam}

-- what stands last is dropped first from the reversed list
drop_behind : {X : Type 0} (front back : List X) → drop (length back) (reverse (front ++ back)) ≡ reverse front
drop_behind {X} front back =
    let seam = drop-append_seam (reverse back) (reverse front) in
    let counted = subst (λ n. drop n (reverse back ++ reverse front) ≡ reverse front) (length-reverse back) seam in
    subst (λ l. drop (length back) l ≡ reverse front) (sym (reverse-append front back)) counted

-- the first of a reversed list are dropped by taking fewer from the front
pub drop_reverse : {X : Type 0} (n : ℕ) (xs : List X) → n ≤ length xs → drop n (reverse xs) ≡ reverse (take (length xs - n) xs)
drop_reverse {X} n xs fits =
    let parts = drop_behind (take (length xs - n) xs) (drop (length xs - n) xs) in
    let whole = subst (λ l. drop (length (drop (length xs - n) xs)) (reverse l) ≡ reverse (take (length xs - n) xs)) (take-append-drop (length xs - n) xs) parts in
    let count : length (drop (length xs - n) xs) ≡ n = omega (arith, length-drop (length xs - n) xs) in
    subst (λ k. drop k (reverse xs) ≡ reverse (take (length xs - n) xs)) count whole

-- the innermost of some blocks is taken away, if there is one
pub drop_last : {X : Type 0} (xs : List X) → drop 1 (reverse xs) ≡ reverse (take (length xs - 1) xs)
drop_last [] = refl
drop_last (x ∷ xs) = drop_reverse 1 (x ∷ xs) (omega arith)
