-- Rows ask for no more numbers than there are rows.
use Rattle.std.proofs.Common.{◌≡◌, ◌≢◌, ◌<◌, ◌≤◌, inl, inr, ℕ, zero, suc, ◌+◌, ◌==◌, pos, negsuc, Bool, true, false, cond, List, [], ◌∷◌, length, refl, sym, ◌∙◌, subst, arith}
use Rattle.std.proofs.lemmas.Bool.{both_ways, eqb-true, eq-eqb, cases_lt}
use Rattle.kk_syntax.specs.Covered.{Each}
use Rattle.kk_syntax.specs.Outlines.{any, exactly, made, Outlines, no_outline, outline}
use Rattle.kk_slots.specs.Problems.{LacksNumber}

-- whether a row asks for a number from 0 up first
asks : ℕ → Outlines → Bool
asks n no_outline = false
asks n (outline any ps) = false
asks n (outline (exactly (pos m)) ps) = m == n
asks n (outline (exactly (negsuc m)) ps) = false
asks n (outline (made d qs) ps) = false

abbrev NotAsked : ℕ → Outlines → Type 0
NotAsked n row = asks n row ≡ false

row_lacks : (n : ℕ) (row : Outlines) → NotAsked n row → LacksNumber (pos n) row
unfolding asks
row_lacks n no_outline is = tt
row_lacks n (outline any ps) is = tt
row_lacks n (outline (exactly (pos m)) ps) is = λ same. let e : m ≡ n = cc in both_ways (m == n) is (eq-eqb m n e)
row_lacks n (outline (exactly (negsuc m)) ps) is = λ same. absurd (cc)
row_lacks n (outline (made d qs) ps) is = tt

rows_lack : (n : ℕ) (rows : List Outlines) → Each (NotAsked n) rows → Each (LacksNumber (pos n)) rows
rows_lack n [] each = tt
rows_lack n (row ∷ rows) each = (row_lacks n row each.0, rows_lack n rows each.1)

-- a row asks for one number
asks_one : (m n : ℕ) (row : Outlines) → m ≢ n → asks n row ≡ true → NotAsked m row
unfolding asks
asks_one m n no_outline ne is = refl
asks_one m n (outline any ps) ne is = refl
asks_one m n (outline (exactly (pos k)) ps) ne is = by (k == m) refl
  where
    by : (b : Bool) → (k == m) ≡ b → (k == m) ≡ false
    by true same = absurd (ne (sym (eqb-true k m same) ∙ eqb-true k n is))
    by false same = same
asks_one m n (outline (exactly (negsuc k)) ps) ne is = refl
asks_one m n (outline (made d qs) ps) ne is = refl

-- the rows that do not ask for a number
without : ℕ → List Outlines → List Outlines
without n [] = []
without n (row ∷ rows) = cond (asks n row) (without n rows) (row ∷ without n rows)

without_lack : (m n : ℕ) (rows : List Outlines) → m ≢ n → Each (NotAsked m) (without n rows) → Each (NotAsked m) rows
unfolding without
without_lack m n [] ne each = tt
without_lack m n (row ∷ rows) ne each = by (asks n row) refl each (without_lack m n rows ne)
  where
    by : (b : Bool) → asks n row ≡ b → Each (NotAsked m) (cond b (without n rows) (row ∷ without n rows)) → (Each (NotAsked m) (without n rows) → Each (NotAsked m) rows) → NotAsked m row × Each (NotAsked m) rows
    by true is each rest = (asks_one m n row ne is, rest each)
    by false is each rest = (each.0, rest each.1)

without_most : (n : ℕ) (rows : List Outlines) → length (without n rows) ≤ length rows
unfolding without
without_most n [] = omega arith
without_most n (row ∷ rows) = by (asks n row) (without_most n rows)
  where
    by : (b : Bool) → length (without n rows) ≤ length rows → length (cond b (without n rows) (row ∷ without n rows)) ≤ suc (length rows)
    by true le = omega (arith, le)
    by false le = omega (arith, le)

without_less : (n : ℕ) (rows : List Outlines) → (Each (NotAsked n) rows → ⊥) → length (without n rows) < length rows
unfolding without
without_less n [] asked = absurd (asked tt)
without_less n (row ∷ rows) asked = by (asks n row) refl (without_most n rows) (without_less n rows)
  where
    by : (b : Bool) → asks n row ≡ b → length (without n rows) ≤ length rows → ((Each (NotAsked n) rows → ⊥) → length (without n rows) < length rows)
        → length (cond b (without n rows) (row ∷ without n rows)) < suc (length rows)
    by true is most less = omega (arith, most)
    by false is most less = let rest = less (λ each. asked (is, each)) in omega (arith, rest)

none_lacking : (n : ℕ) (rows : List Outlines) → ((m : ℕ) → m < n → Each (NotAsked m) rows → ⊥) → n ≤ length rows
none_lacking zero rows asked = omega arith
none_lacking (suc n) rows asked =
    let rest = none_lacking n (without n rows) (λ m lt each. asked m (omega arith) (without_lack m n rows (λ same. absurd (omega (arith, same))) each)) in
    let less = without_less n rows (asked n (omega arith)) in
    omega (arith, rest, less)

-- each number below another one is asked for by some row: then there are as many rows
pub all_asked : (n : ℕ) (rows : List Outlines) → ((m : ℕ) → m < n → Each (LacksNumber (pos m)) rows → ⊥) → n ≤ length rows
all_asked n rows asked = none_lacking n rows (λ m lt each. asked m lt (rows_lack m rows each))

pub one_more_asked : (n : ℕ) (rows : List Outlines) → ((m : ℕ) → m < n → Each (LacksNumber (pos m)) rows → ⊥) → (Each (LacksNumber (pos n)) rows → ⊥) → (m : ℕ) → m < n + 1 → Each (LacksNumber (pos m)) rows → ⊥
one_more_asked n rows asked this m lt each = elim (cases_lt m n) [
  | inl less ↦ asked m less each
  | inr above ↦ this (let same : m ≡ n = omega arith in subst (λ k. Each (LacksNumber (pos k)) rows) same each)
]
