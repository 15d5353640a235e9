-- The lines of a reading of which one was moved behind the others.
use Rattle.std.proofs.Common.{◌≡◌, ℕ, zero, suc, ◌+◌, ◌<◌, ◌==◌, false, List, [], ◌∷◌, ◌++◌, length, map, take, drop, get_or, Some, inr, refl, sym, ap, subst, ◌∙◌, arith, append_assoc, eqb-true}
use Rattle.std.specs.Prelude.{position, slice_index_or}
use Rattle.std.specs.List.{remove}
use Rattle.std.proofs.Math.Seq.{split_at}
use Rattle.std.proofs.lemmas.List.{length-take-le, map-append}
use Rattle.std.proofs.lemmas.List.Folds.{list_any-append}
use Rattle.std.proofs.lemmas.List.Quantifiers.{position-Some}
use Rattle.kk_syntax.specs.Shapes.{is_among}
use Rattle.rv_lower.specs.declared.lowering.Short.{Short}
use Rattle.rv_lower.specs.Written.{short_line}
use Rattle.rv_cells.specs.Layout.{first_field}
use Rattle.rv_cells.specs.CellLines.{Loads, AllLoads, ReadLines}
use Rattle.rv_tokens.specs.Written.{IsOnlyPlace}

none_before : (xs : List ℕ) (i y : ℕ) → ((k : ℕ) → k < i → (get_or xs k 0 == y) ≡ false) → is_among (take i xs) y ≡ false
none_before xs zero y none = refl
none_before [] (suc i) y none = refl
none_before (x ∷ xs) (suc i) y none =
    rw (none 0 (omega arith)) (none_before xs i y (λ k less. none (suc k) (omega (arith, less))))

-- a value that stands at its first place, and behind it no more, stands once
pub stands_once : (xs : List ℕ) (y i : ℕ) → position (λ x. x == y) xs ≡ Some i → is_among (drop (i + 1) xs) y ≡ false
    → IsOnlyPlace xs y i
stands_once xs y i first behind =
    let found = position-Some (λ x. x == y) xs i 0 first in
    let same : get_or xs i 0 ≡ y = eqb-true (get_or xs i 0) y found.1 in
    let next : i + 1 ≡ suc i = omega arith in
    let after : is_among (drop (suc i) xs) y ≡ false = ap (λ n. is_among (drop n xs) y) (sym next) ∙ behind in (
      take i xs,
      drop (suc i) xs,
      (
        subst (λ z. xs ≡ take i xs ++ (z ∷ drop (suc i) xs)) same (split_at xs i 0 found.0),
        list_any-append (λ x. x == y) (take i xs) (drop (suc i) xs)
            ∙ rw (none_before xs i y found.2, after) refl,
      ),
      length-take-le i xs (let less = found.0 in omega (arith, less)),
    )

-- the loads of values, with those before one of them, its own, and those behind it
pub loads_apart : (cell i : ℕ) (before : List ℕ) (y : ℕ) (after : List ℕ) (lines : List Short) (d : Short)
    → AllLoads cell i (before ++ (y ∷ after)) (map short_line lines)
    → AllLoads cell i before (map short_line (take (length before) lines))
    × AllLoads cell (i + suc (length before)) after (map short_line (drop (suc (length before)) lines))
    × Loads cell (i + length before) y (short_line (slice_index_or lines (length before) d)) × (length before < length lines)
loads_apart cell i [] y after [] d all = cc all.4
loads_apart cell i [] y after (l ∷ ls) d all =
    let more : map short_line ls ≡ all.1 = cc all.4 in
    let one : short_line l ≡ all.0 = cc all.4 in (
      refl,
      subst (λ n. AllLoads cell n after (map short_line ls)) (omega arith) (subst (AllLoads cell (suc i) after) (sym more) all.3),
      subst (λ n. Loads cell n y (short_line l)) (omega arith) (subst (Loads cell i y) (sym one) all.2),
      omega arith,
    )
loads_apart cell i (x ∷ before) y after [] d all = cc all.4
loads_apart cell i (x ∷ before) y after (l ∷ ls) d all =
    let more : map short_line ls ≡ all.1 = cc all.4 in
    let one : short_line l ≡ all.0 = cc all.4 in
    let parts = loads_apart cell (suc i) before y after ls d (subst (AllLoads cell (suc i) (before ++ (y ∷ after))) (sym more) all.3) in
    let few = parts.3 in (
      (
        short_line l,
        map short_line (take (length before) ls),
        subst (Loads cell i x) (sym one) all.2,
        parts.0,
        refl,
      ),
      subst (λ n. AllLoads cell n after (map short_line (drop (suc (length before)) ls))) (omega arith) parts.1,
      subst (λ n. Loads cell n y (short_line (slice_index_or ls (length before) d))) (omega arith) parts.2,
      omega (arith, few),
    )

no_loads : (cell i : ℕ) (before : List ℕ) (y : ℕ) (after : List ℕ) → AllLoads cell i (before ++ (y ∷ after)) [] → ⊥
no_loads cell i [] y after all = cc all.4
no_loads cell i (x ∷ before) y after all = cc all.4

-- a place of the fields is one of their loads
pub place_there : (x : ℕ) (fields : List ℕ) (y place : ℕ) (lines : List Short) → IsOnlyPlace fields y place
    → AllLoads x first_field fields (map short_line lines) → place < length lines
place_there x fields y place [] only all =
    absurd (no_loads x first_field only.0 y only.1 (subst (λ xs. AllLoads x first_field xs []) only.2.0 all))
place_there x fields y place (l ∷ ls) only all =
    let parts = loads_apart x first_field only.0 y only.1 (l ∷ ls) l
    (subst (λ xs. AllLoads x first_field xs (map short_line (l ∷ ls))) only.2.0 all) in
    let few = parts.3 in omega (arith, few, only.3)

-- the lines of a reading are loads of which one is moved behind the others
pub moved_last : (x : ℕ) (fields : List ℕ) (y place : ℕ) (lines : List Short) (line : Short) (moved : List Short)
    → IsOnlyPlace fields y place → AllLoads x first_field fields (map short_line lines) → line ≡ slice_index_or lines place line
    → moved ≡ remove lines place ++ (line ∷ []) → ReadLines x fields (map short_line moved)
moved_last x fields y place lines line moved only all line_is moved_is =
    let parts = loads_apart x first_field only.0 y only.1 lines line
    (subst (λ xs. AllLoads x first_field xs (map short_line lines)) only.2.0 all) in
    let first = map short_line (take (length only.0) lines) in
    let others = map short_line (drop (suc (length only.0)) lines) in
    inr (
      only.0,
      y,
      only.1,
      first,
      others,
      short_line line,
      only.2,
      parts.0,
      parts.1,
      subst (λ l. Loads x (first_field + length only.0) y (short_line l))
          (ap (λ n. slice_index_or lines n line) only.3 ∙ sym line_is) parts.2,
      ap (map short_line) (moved_is ∙ ap (λ n. remove lines n ++ (line ∷ [])) (sym only.3))
          ∙ map-append short_line (remove lines (length only.0)) (line ∷ [])
          ∙ ap (λ ls. ls ++ (short_line line ∷ []))
          (map-append short_line (take (length only.0) lines) (drop (suc (length only.0)) lines))
          ∙ append_assoc first others (short_line line ∷ []),
    )
