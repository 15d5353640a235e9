-- The search for the next drop of a variable, in steps of which the last one was written first.
use Rattle.std.proofs.Common.{◌≡◌, ◌+◌, ◌<◌, ℕ, suc, true, false, List, [], ◌∷◌, ◌++◌, length, take, drop, get_or, map, reverse, Option, Some, None, arith, refl, sym, ap, ◌∙◌, subst}
use Rattle.std.proofs.Math.Seq.{take-suc, drop-cons}
use Rattle.std.proofs.lemmas.List.{map-append, reverse-append}
use Rattle.std.specs.Prelude.{option_map}
use Rattle.kk_counted.specs.CountedForms.{Move, step_move}
use Rattle.kk_counted.specs.declared.form.Step.{Step}
use Rattle.kk_fuse.specs.FusedForms.{backwards, drops_it, lets_past, moves_without}

-- ---- steps backwards

-- two lists of steps
pub backwards_both : (xs ys : List Step) → backwards (xs ++ ys) ≡ backwards ys ++ backwards xs
unfolding backwards
backwards_both xs ys = ap reverse (map-append step_move xs ys) ∙ reverse-append (map step_move xs) (map step_move ys)

-- one step
pub backwards_one : (step : Step) → backwards (step ∷ []) ≡ step_move step ∷ []
unfolding backwards
backwards_one step = refl

-- no step
pub backwards_none : backwards [] ≡ []
unfolding backwards
backwards_none = refl

-- a step in front of those before it
pub backwards_taken : (xs : List Step) (i : ℕ) (step : Step) → i < length xs → step ≡ get_or xs i step
    → backwards (take (i + 1) xs) ≡ step_move step ∷ backwards (take i xs)
backwards_taken xs i step within is =
    ap (λ n. backwards (take n xs)) {x = i + 1} {y = suc i} (omega arith)
    ∙ ap backwards (take-suc xs i step within ∙ ap (λ s. take i xs ++ s ∷ []) (sym is))
    ∙ backwards_both (take i xs) (step ∷ []) ∙ ap (λ ms. ms ++ backwards (take i xs)) (backwards_one step)

-- a step behind those after it
pub backwards_dropped : (xs : List Step) (i : ℕ) (step : Step) → i < length xs → step ≡ get_or xs i step
    → backwards (drop i xs) ≡ backwards (drop (i + 1) xs) ++ step_move step ∷ []
backwards_dropped xs i step within is =
    ap backwards (drop-cons xs i step within ∙ ap (λ s. s ∷ drop (suc i) xs) (sym is))
    ∙ backwards_both (step ∷ []) (drop (suc i) xs) ∙ ap (λ ms. backwards (drop (suc i) xs) ++ ms) (backwards_one step)
    ∙ ap (λ n. backwards (drop n xs) ++ step_move step ∷ []) {x = suc i} {y = i + 1} (omega arith)

-- ---- one step

-- at the drop
at_drop : (x : ℕ) (move : Move) (moves : List Move) → drops_it x move ≡ true → moves_without x (move ∷ moves) ≡ Some moves
at_drop x move moves is = rw is refl

-- at a step that may stand before the drop
past_step : (x : ℕ) (move : Move) (moves : List Move) → drops_it x move ≡ false → lets_past x move ≡ true
    → moves_without x (move ∷ moves) ≡ option_map (λ less. move ∷ less) (moves_without x moves)
past_step x move moves other past = rw other (rw past refl)

-- at any other step
at_step : (x : ℕ) (move : Move) (moves : List Move) → drops_it x move ≡ false → lets_past x move ≡ false
    → moves_without x (move ∷ moves) ≡ None
at_step x move moves other none = rw other (rw none refl)

-- a step between the passed ones and the others
mapped_twice : (front : List Move) (move : Move) (found : Option (List Move))
    → option_map (λ less. front ++ less) (option_map (λ less. move ∷ less) found)
    ≡ option_map (λ less. (front ++ move ∷ []) ++ less) found
mapped_twice front move None = refl
mapped_twice front move (Some less) = ap Some (sym (grouped front))
  where
    grouped : (front : List Move) → (front ++ move ∷ []) ++ less ≡ front ++ move ∷ less
    grouped [] = refl
    grouped (first ∷ front) = ap (λ ms. first ∷ ms) (grouped front)

-- ---- the search

-- the drop is not among the steps that were passed
abbrev pub IsPassed : ℕ → List Step → ℕ → Type 0
IsPassed x xs left =
    moves_without x (backwards xs)
    ≡ option_map (λ less. backwards (drop left xs) ++ less) (moves_without x (backwards (take left xs)))

module _ (x : ℕ) (xs : List Step) where
  -- at first no step is passed
  pub passed_first : (left : ℕ) → left ≡ length xs → IsPassed x xs left
  passed_first left is =
      subst (IsPassed x xs) (sym is)
      (rw (taken_all xs) (rw (dropped_all xs) (rw backwards_none (same (moves_without x (backwards xs))))))
    where
      taken_all : (xs : List Step) → take (length xs) xs ≡ xs
      taken_all [] = refl
      taken_all (step ∷ xs) = ap (λ ss. step ∷ ss) (taken_all xs)

      dropped_all : (xs : List Step) → drop (length xs) xs ≡ []
      dropped_all [] = refl
      dropped_all (step ∷ xs) = dropped_all xs

      same : (found : Option (List Move)) → found ≡ option_map (λ less. [] ++ less) found
      same None = refl
      same (Some less) = refl

  -- what a step behind the passed ones tells
  seen : (left i : ℕ) (step : Step) → left ≡ i + 1 → i < length xs → step ≡ get_or xs i step → IsPassed x xs left
      → moves_without x (backwards xs)
      ≡ option_map (λ less. backwards (drop (i + 1) xs) ++ less) (moves_without x (step_move step ∷ backwards (take i xs)))
  seen left i step same within is passed =
      subst (IsPassed x xs) same passed
      ∙ ap (λ ms. option_map (λ less. backwards (drop (i + 1) xs) ++ less) (moves_without x ms))
      (backwards_taken xs i step within is)

  -- where the step is the drop, it is found
  pub found_drop : (left i : ℕ) (step : Step) → left ≡ i + 1 → i < length xs → step ≡ get_or xs i step → IsPassed x xs left
      → drops_it x (step_move step) ≡ true
      → moves_without x (backwards xs) ≡ Some (backwards (take i xs ++ drop (i + 1) xs))
  found_drop left i step same within is passed drops =
      seen left i step same within is passed
      ∙ ap (option_map (λ less. backwards (drop (i + 1) xs) ++ less)) (at_drop x (step_move step) (backwards (take i xs)) drops)
      ∙ ap Some (sym (backwards_both (take i xs) (drop (i + 1) xs)))

  -- where the step may not stand before the drop, there is none
  pub found_none : (left i : ℕ) (step : Step) → left ≡ i + 1 → i < length xs → step ≡ get_or xs i step → IsPassed x xs left
      → drops_it x (step_move step) ≡ false → lets_past x (step_move step) ≡ false → moves_without x (backwards xs) ≡ None
  found_none left i step same within is passed other none =
      seen left i step same within is passed
      ∙ ap (option_map (λ less. backwards (drop (i + 1) xs) ++ less))
      (at_step x (step_move step) (backwards (take i xs)) other none)

  -- where the step may stand before the drop, it is passed
  pub passed_next : (left i : ℕ) (step : Step) → left ≡ i + 1 → i < length xs → step ≡ get_or xs i step → IsPassed x xs left
      → drops_it x (step_move step) ≡ false → lets_past x (step_move step) ≡ true → IsPassed x xs i
  passed_next left i step same within is passed other past =
      seen left i step same within is passed
      ∙ ap (option_map (λ less. backwards (drop (i + 1) xs) ++ less))
      (past_step x (step_move step) (backwards (take i xs)) other past)
      ∙ mapped_twice (backwards (drop (i + 1) xs)) (step_move step) (moves_without x (backwards (take i xs)))
      ∙ ap (λ ms. option_map (λ less. ms ++ less) (moves_without x (backwards (take i xs))))
      (sym (backwards_dropped xs i step within is))

  -- where all steps are passed, there is none
  pub passed_all : (left : ℕ) → left ≡ 0 → IsPassed x xs left → moves_without x (backwards xs) ≡ None
  passed_all left is passed =
      subst (IsPassed x xs) is passed
      ∙ ap (λ ms. option_map (λ less. backwards xs ++ less) (moves_without x ms)) backwards_none
