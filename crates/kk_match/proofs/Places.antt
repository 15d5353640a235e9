-- Elements of lists by their places.
use Rattle.std.proofs.Common.{◌≡◌, ◌≢◌, ◌⊎◌, inl, inr, ℕ, zero, suc, ◌<◌, List, [], ◌∷◌, ◌++◌, length, Contains, AllPairs, Some, refl, sym, ap, ◌∙◌, arith}
use Rattle.std.specs.Prelude.{slice_get}
use Rattle.std.proofs.lemmas.Bool.{cases_lt}
use Rattle.std.proofs.lemmas.Option.{slice_get_within, get_or_from_slice_get, slice_get-get_or, same_Some}

module _ {A : Type 0} where
  pub get_left : (xs ys : List A) (k : ℕ) (x : A) → slice_get xs k ≡ Some x → slice_get (xs ++ ys) k ≡ Some x
  get_left [] ys k x got = cc
  get_left (y ∷ xs) ys zero x got = got
  get_left (y ∷ xs) ys (suc k) x got = get_left xs ys k x got

  pub get_last : (xs : List A) (x : A) → slice_get (xs ++ x ∷ []) (length xs) ≡ Some x
  get_last [] x = refl
  get_last (y ∷ xs) x = get_last xs x

  -- an element of a list with one more is an earlier one or the last
  pub get_push : (xs : List A) (x y : A) (k : ℕ) → slice_get (xs ++ x ∷ []) k ≡ Some y → (slice_get xs k ≡ Some y) ⊎ ((k ≡ length xs) × (x ≡ y))
  get_push [] x y zero got = inr (refl, cc)
  get_push [] x y (suc k) got = cc
  get_push (z ∷ xs) x y zero got = inl got
  get_push (z ∷ xs) x y (suc k) got = elim (get_push xs x y k got) [
    | inl before ↦ inl before
    | inr last ↦ inr (ap suc last.0, last.1)
  ]

  pub get_there : (xs : List A) (k : ℕ) → k < length xs → (x : A) × (slice_get xs k ≡ Some x)
  get_there [] k within = absurd (omega (arith, within))
  get_there (x ∷ xs) zero within = (x, refl)
  get_there (x ∷ xs) (suc k) within = get_there xs k (omega (arith, within))

  pub get_same : (xs : List A) (k : ℕ) (x y : A) → slice_get xs k ≡ Some x → slice_get xs k ≡ Some y → x ≡ y
  get_same xs k x y one other = same_Some x y (sym one ∙ other)

  pub contained : (xs : List A) (k : ℕ) (x : A) → slice_get xs k ≡ Some x → Contains xs x
  contained xs k x got = (k, slice_get_within xs k x got, get_or_from_slice_get xs k x x got)

  pub place_of : (xs : List A) (x : A) → Contains xs x → (k : ℕ) × (slice_get xs k ≡ Some x)
  place_of xs x contains = (contains.0, slice_get-get_or xs contains.0 x contains.1 ∙ ap Some contains.2)

  -- where no element is there twice, the same element has the same place
  pub same_place : (xs : List A) (i j : ℕ) (x : A) → AllPairs (λ one other. one ≢ other) xs → slice_get xs i ≡ Some x → slice_get xs j ≡ Some x → i ≡ j
  same_place xs i j x apart one other = elim (cases_lt i j) [
    | inl less ↦ absurd (apart i j x less (slice_get_within xs j x other) (get_or_from_slice_get xs i x x one ∙ sym (get_or_from_slice_get xs j x x other)))
    | inr no_less ↦ elim (cases_lt j i) [
      | inl more ↦ absurd (apart j i x more (slice_get_within xs i x one) (get_or_from_slice_get xs j x x other ∙ sym (get_or_from_slice_get xs i x x one)))
      | inr no_more ↦ omega (arith, no_less, no_more)
    ]
  ]
