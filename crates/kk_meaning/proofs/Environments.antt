-- Environments are bindings that are linked to those before them.
use Rattle.std.proofs.Common.{◌≡◌, ℕ, zero, suc, ◌+◌, ◌-◌, ◌<◌, ◌≤◌, Bool, true, false, List, [], ◌∷◌, ◌++◌, length, take, map, Some, None, arith, refl, sym, ap, ◌∙◌, add-one, cond, ◌==◌, get_or, drop}
use Rattle.std.proofs.lemmas.List.{drop_more}
use Rattle.std.proofs.lemmas.Option.{slice_get-get_or}
use Rattle.std.specs.Prelude.{slice_get}
use Rattle.kk_source.specs.State as source
use Rattle.kk_source.specs.Live.{value_of}
use Rattle.kk_source.specs.Step.{bind_parameters}
use Rattle.kk_meaning.specs.declared.binding.Bound.{Bound}
use Rattle.kk_meaning.specs.declared.binding.Link.{Link}
use Rattle.kk_meaning.specs.View.{bound_view, linked, environment_within, environment_of, pushed}

-- what stands at an index of a front, and of a list with one more element
pub get-take : {X : Type 0} (xs : List X) (k at : ℕ) → at < k → slice_get (take k xs) at ≡ slice_get xs at
get-take [] zero at lt = refl
get-take [] (suc k) at lt = refl
get-take (x ∷ xs) zero at lt = absurd (omega arith)
get-take (x ∷ xs) (suc k) zero lt = refl
get-take (x ∷ xs) (suc k) (suc at) lt = get-take xs k at (omega arith)

pub get_last : {X : Type 0} (xs : List X) (x : X) (n : ℕ) → n ≡ length xs → slice_get (xs ++ x ∷ []) n ≡ Some x
get_last [] x zero e = refl
get_last [] x (suc n) e = absurd (omega arith)
get_last (y ∷ xs) x zero e = absurd (omega arith)
get_last (y ∷ xs) x (suc n) e = get_last xs x n (omega arith)

pub get_front : {X : Type 0} (xs ys : List X) (at : ℕ) → at < length xs → slice_get (xs ++ ys) at ≡ slice_get xs at
get_front [] ys at lt = absurd (omega arith)
get_front (x ∷ xs) ys zero lt = refl
get_front (x ∷ xs) ys (suc at) lt = get_front xs ys at (omega arith)

-- an environment has no more bindings than its number
pub same_within : (links : List Link) (m n e : ℕ) → e ≤ m → e ≤ n → environment_within links m e ≡ environment_within links n e
same_within links zero zero e h k = refl
same_within links zero (suc n) zero h k = refl
same_within links zero (suc n) (suc at) h k = absurd (omega arith)
same_within links (suc m) zero zero h k = refl
same_within links (suc m) zero (suc at) h k = absurd (omega arith)
same_within links (suc m) (suc n) zero h k = refl
same_within links (suc m) (suc n) (suc at) h k =
    elim (slice_get links at) as (λ link. linked at link (λ before. environment_within links m before) ≡ linked at link (λ before. environment_within links n before)) [
      | None ↦ refl
      | Some link ↦ ap (λ (rest : source.Environment). bound_view link.bound ∷ rest) (same_within links m n (at - link.skips) (omega arith) (omega arith))
    ]

-- lists that have the same links up to a number
pub record Agree (links others : List Link) (k : ℕ) : Type 0 where
  pub at : (index : ℕ) → index < k → slice_get links index ≡ slice_get others index

pub agree_on_front : (links others : List Link) (k : ℕ) → take k links ≡ take k others → Agree links others k
agree_on_front links others k same =
    record { at = λ index lt. sym (get-take links k index lt) ∙ (ap (λ l. slice_get l index) same ∙ get-take others k index lt) }

pub agree_below : (links others : List Link) (k j : ℕ) → j ≤ k → Agree links others k → Agree links others j
agree_below links others k j le a = record { at = λ index lt. a.at index (omega arith) }

within_agree : (links others : List Link) (k : ℕ) → Agree links others k → (most e : ℕ) → e ≤ k → environment_within links most e ≡ environment_within others most e
within_agree links others k a zero e le = refl
within_agree links others k a (suc most) zero le = refl
within_agree links others k a (suc most) (suc at) le =
    ap (λ link. linked at link (λ before. environment_within links most before)) (a.at at (omega arith))
    ∙ elim (slice_get others at) as (λ link. linked at link (λ before. environment_within links most before) ≡ linked at link (λ before. environment_within others most before)) [
      | None ↦ refl
      | Some link ↦ ap (λ (rest : source.Environment). bound_view link.bound ∷ rest) (within_agree links others k a most (at - link.skips) (omega arith))
    ]

pub environment_agree : (links others : List Link) (k e : ℕ) → Agree links others k → e ≤ k → environment_of links e ≡ environment_of others e
environment_agree links others k e a le = within_agree links others k a e e le

-- one more binding
pub one_more : (links : List Link) (link : Link) (newest n : ℕ) → newest ≤ length links → n ≡ length links → link.skips ≡ n - newest → environment_of (links ++ link ∷ []) (n + 1) ≡ bound_view link.bound ∷ environment_of links newest
one_more links link newest n le all skips =
    let longer : List Link = links ++ link ∷ [] in
    let there : slice_get longer n ≡ Some link = get_last links link n all in
    let before : n - link.skips ≡ newest = omega arith in
    let agree : Agree longer links (length links) = record { at = λ index lt. get_front links (link ∷ []) index lt } in
    rw (add-one n)
    (ap (λ l. linked n l (λ e. environment_within longer n e)) there
    ∙ ap (λ (rest : source.Environment). bound_view link.bound ∷ rest)
    (ap (λ e. environment_within longer n e) before
    ∙ (same_within longer n newest newest (omega arith) (omega arith) ∙ environment_agree longer links (length links) newest agree le)))

-- the newest binding of an environment, and those before it
pub at_newest : (links : List Link) (n : ℕ) (link : Link) → 0 < n → slice_get links (n - 1) ≡ Some link → environment_of links n ≡ bound_view link.bound ∷ environment_of links (n - 1 - link.skips)
at_newest links zero link some there = absurd (omega arith)
at_newest links (suc at) link some there =
    let here : suc at - 1 ≡ at = omega arith in
    let there' : slice_get links at ≡ Some link = ap (slice_get links) (sym here) ∙ there in
    ap (λ l. linked at l (λ e. environment_within links at e)) there'
    ∙ ap (λ (rest : source.Environment). bound_view link.bound ∷ rest)
    (same_within links at (at - link.skips) (at - link.skips) (omega arith) (omega arith)
    ∙ ap (λ k. environment_of links (k - link.skips)) (sym here))

pub at_nothing : (links : List Link) (n : ℕ) → slice_get links (n - 1) ≡ None → environment_of links n ≡ []
at_nothing links zero none = refl
at_nothing links (suc at) none =
    let here : suc at - 1 ≡ at = omega arith in
    let none' : slice_get links at ≡ None = ap (slice_get links) (sym here) ∙ none in
    ap (λ l. linked at l (λ e. environment_within links at e)) none'

-- a variable that is not the newest one
pub value_of_other : (b : source.Binding) (environment : source.Environment) (x : ℕ) → (b.variable ≡ x → ⊥) → value_of (b ∷ environment) x ≡ value_of environment x
value_of_other b environment x other = by_test (b.variable == x) refl
  where
    by_test : (t : Bool) → (b.variable == x) ≡ t → cond t b.value (value_of environment x) ≡ value_of environment x
    by_test true is = absurd (other (grind arith))
    by_test false is = refl

-- an element, as it is looked up
pub found : {X : Type 0} (xs ys : List X) (at : ℕ) (x : X) → ys ≡ xs → at < length ys → x ≡ get_or ys at x → slice_get xs at ≡ Some x
found xs ys at x same lt is = ap (λ l. slice_get l at) (sym same) ∙ (slice_get-get_or ys at x lt ∙ ap Some (sym is))

pub take_again : {X : Type 0} (xs ys : List X) (k : ℕ) → ys ≡ take k xs → take k ys ≡ take k xs
take_again xs ys k same = ap (take k) same ∙ twice xs k
  where
    twice : {X : Type 0} (xs : List X) (k : ℕ) → take k (take k xs) ≡ take k xs
    twice [] zero = refl
    twice [] (suc k) = refl
    twice (x ∷ xs) zero = refl
    twice {X = X} (x ∷ xs) (suc k) = ap (λ (l : List X). x ∷ l) (twice xs k)

pub take_longer : {X : Type 0} (xs ys zs : List X) (k : ℕ) → k ≤ length xs → ys ≡ xs ++ zs → take k ys ≡ take k xs
take_longer xs ys zs k le same = ap (take k) same ∙ front xs zs k le
  where
    front : {X : Type 0} (xs zs : List X) (k : ℕ) → k ≤ length xs → take k (xs ++ zs) ≡ take k xs
    front [] zs zero le = refl
    front [] zs (suc k) le = absurd (omega arith)
    front (x ∷ xs) zs zero le = refl
    front {X = X} (x ∷ xs) zs (suc k) le = ap (λ (l : List X). x ∷ l) (front xs zs k (omega arith))

-- the parameters of a function bound to the arguments, and nothing else
pub parameters_bound : (links : List Link) (n : ℕ) (given bound : List Bound) (values : List source.Value) → environment_of links n ≡ pushed (map bound_view given) [] → given ≡ bound → ((environment : source.Environment) → pushed (map bound_view bound) environment ≡ bind_parameters 0 values environment) → environment_of links n ≡ bind_parameters 0 values []
parameters_bound links n given bound values is same all =
    is ∙ (ap (λ bs. pushed (map bound_view bs) []) same ∙ all [])

-- one more of several bindings
pub pushed_one : (links longer : List Link) (bs : List Bound) (i n m newest : ℕ) (d : Bound) (link : Link) (whole : source.Environment) → i < length bs → newest ≤ length links → n ≡ length links → m ≡ n + 1 → longer ≡ links ++ link ∷ [] → link.bound ≡ get_or bs i d → link.skips ≡ n - newest → pushed (map bound_view (drop i bs)) (environment_of links newest) ≡ whole → pushed (map bound_view (drop (i + 1) bs)) (environment_of longer m) ≡ whole
pushed_one links longer bs i n m newest d link whole lt le all next longer_is bound_is skips_is before =
    let env : environment_of longer m ≡ bound_view (get_or bs i d) ∷ environment_of links newest =
    ap (λ l. environment_of l m) longer_is
    ∙ (ap (environment_of (links ++ link ∷ [])) next
    ∙ (one_more links link newest n le all skips_is
    ∙ ap (λ b. bound_view b ∷ environment_of links newest) bound_is)) in
    ap (pushed (map bound_view (drop (i + 1) bs))) env
    ∙ (ap (λ l. pushed (map bound_view l) (environment_of links newest)) (sym (drop_more bs i d lt)) ∙ before)
