-- Lists that are read from their end on.
use Rattle.std.proofs.Common.{◌≡◌, ℕ, suc, ◌+◌, ◌-◌, ◌<◌, ◌≤◌, Bool, true, false, List, [], ◌∷◌, ◌++◌, length, drop, get_or, arith, sym, ap, ◌∙◌, append_assoc}
use Rattle.std.specs.Prelude.{if◌then◌else◌}
use Rattle.kk_syntax.specs.Shapes.{is_among}
use Rattle.kk_counted.specs.Spending.{at_positions}
use Rattle.kk_counted.proofs.PlaceLists.{next_one}
use Rattle.kk_insert.specs.Insertion.{add, before, extra}

pub last_one : {A : Type 0} (xs : List A) (n : ℕ) (d : A) → 0 < n → n ≤ length xs → drop (n - 1) xs ≡ get_or xs (n - 1) d ∷ drop n xs
last_one xs n d some most =
    next_one xs (n - 1) d (omega (arith, some, most)) ∙ ap (λ i. get_or xs (n - 1) d ∷ drop i xs) {x = n - 1 + 1} {y = n} (omega (arith, some))

-- ---- a set that grows

pub before_there : (xs after found : List ℕ) (n d : ℕ) → 0 < n → n ≤ length xs → found ≡ before (drop n xs) after
    → is_among found (get_or xs (n - 1) d) ≡ true → found ≡ before (drop (n - 1) xs) after
before_there xs after found n d some most so_far there =
    let x = get_or xs (n - 1) d in
    ap (λ t. if t then found else x ∷ found) (sym there)
    ∙ ap (add x) so_far ∙ ap (λ ys. before ys after) (sym (last_one xs n d some most))

pub before_new : (xs after found more : List ℕ) (n d : ℕ) → 0 < n → n ≤ length xs → found ≡ before (drop n xs) after
    → is_among found (get_or xs (n - 1) d) ≡ false → more ≡ get_or xs (n - 1) d ∷ found → more ≡ before (drop (n - 1) xs) after
before_new xs after found more n d some most so_far new is =
    let x = get_or xs (n - 1) d in
    is ∙ ap (λ t. if t then found else x ∷ found) (sym new)
    ∙ ap (add x) so_far ∙ ap (λ ys. before ys after) (sym (last_one xs n d some most))

-- ---- uses that are not the last ones

extra_step : (x : ℕ) (xs after later found : List ℕ) (t : Bool) → later ≡ before xs after → found ≡ extra xs after
    → is_among later x ≡ t → (if t then x ∷ found else found) ≡ extra (x ∷ xs) after
extra_step x xs after later found t set so_far is =
    ap (λ s. if s then x ∷ found else found) (sym is) ∙ ap (λ ys. if is_among ys x then x ∷ found else found) set
    ∙ ap (λ ys. if is_among (before xs after) x then x ∷ ys else ys) so_far

pub extra_there : (xs after later found more : List ℕ) (n d : ℕ) → 0 < n → n ≤ length xs → later ≡ before (drop n xs) after
    → found ≡ extra (drop n xs) after → is_among later (get_or xs (n - 1) d) ≡ true → more ≡ get_or xs (n - 1) d ∷ found
    → more ≡ extra (drop (n - 1) xs) after
extra_there xs after later found more n d some most set so_far there is =
    is ∙ extra_step (get_or xs (n - 1) d) (drop n xs) after later found true set so_far there
    ∙ ap (λ ys. extra ys after) (sym (last_one xs n d some most))

pub extra_new : (xs after later found : List ℕ) (n d : ℕ) → 0 < n → n ≤ length xs → later ≡ before (drop n xs) after
    → found ≡ extra (drop n xs) after → is_among later (get_or xs (n - 1) d) ≡ false → found ≡ extra (drop (n - 1) xs) after
extra_new xs after later found n d some most set so_far new =
    extra_step (get_or xs (n - 1) d) (drop n xs) after later found false set so_far new
    ∙ ap (λ ys. extra ys after) (sym (last_one xs n d some most))

-- ---- arguments at positions

next_position : (takes : ℕ → Bool) (i d : ℕ) (xs : List ℕ) → i < length xs → at_positions takes i (drop i xs)
    ≡ (if takes i then get_or xs i d ∷ at_positions takes (i + 1) (drop (i + 1) xs) else at_positions takes (i + 1) (drop (i + 1) xs))
next_position takes i d xs less =
    ap (at_positions takes i) (next_one xs i d less)
    ∙ ap (λ j. if takes i then get_or xs i d ∷ at_positions takes j (drop (i + 1) xs) else at_positions takes j (drop (i + 1) xs))
    {x = suc i} {y = i + 1} (omega arith)

pub position_taken : (takes : ℕ → Bool) (found more : List ℕ) (i d : ℕ) (xs all : List ℕ) → i < length xs → takes i ≡ true
    → more ≡ found ++ get_or xs i d ∷ [] → found ++ at_positions takes i (drop i xs) ≡ all
    → more ++ at_positions takes (i + 1) (drop (i + 1) xs) ≡ all
position_taken takes found more i d xs all less taken is so_far =
    let rest = at_positions takes (i + 1) (drop (i + 1) xs) in
    ap (λ ys. ys ++ rest) is ∙ append_assoc found (get_or xs i d ∷ []) rest
    ∙ ap (λ t. found ++ (if t then get_or xs i d ∷ rest else rest)) (sym taken)
    ∙ ap (λ ys. found ++ ys) (sym (next_position takes i d xs less)) ∙ so_far

pub position_left : (takes : ℕ → Bool) (found same : List ℕ) (i d : ℕ) (xs all : List ℕ) → i < length xs → takes i ≡ false
    → same ≡ found → found ++ at_positions takes i (drop i xs) ≡ all
    → same ++ at_positions takes (i + 1) (drop (i + 1) xs) ≡ all
position_left takes found same i d xs all less left is so_far =
    let rest = at_positions takes (i + 1) (drop (i + 1) xs) in
    ap (λ ys. ys ++ rest) is ∙ ap (λ t. found ++ (if t then get_or xs i d ∷ rest else rest)) (sym left)
    ∙ ap (λ ys. found ++ ys) (sym (next_position takes i d xs less)) ∙ so_far
