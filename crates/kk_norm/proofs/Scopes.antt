-- A parameter of a function has a small number.
use Rattle.std.proofs.Common.{◌≡◌, ℕ, ◌+◌, ◌<◌, ◌==◌, Bool, true, false, zero, suc, List, [], ◌∷◌, length, Some, refl, ap, subst, ◌∙◌, arith}
use Rattle.std.proofs.lemmas.Bool.{eqb-true}
use Rattle.kk_syntax.specs.Shapes.{is_among}
use Rattle.kk_syntax.specs.Types.{TypeTree}
use Rattle.kk_syntax.specs.Typing.{Scope, type_in, with_parameters}
use Rattle.kk_core.specs.Sizes.{below}

-- the variables of a scope
abbrev bound_in : Scope → List ℕ
bound_in [] = []
bound_in (typed ∷ scope) = typed.variable ∷ bound_in scope

-- a variable that has a type is bound
typed_is_bound : (scope : Scope) (x : ℕ) (t : TypeTree) → type_in scope x ≡ Some t → is_among (bound_in scope) x ≡ true
typed_is_bound [] x t is = absurd (cc)
typed_is_bound (typed ∷ scope) x t is = by_test (typed.variable == x) refl (λ later. typed_is_bound scope x t later)
  where
    by_test : (same : Bool) → (typed.variable == x) ≡ same → (type_in scope x ≡ Some t → is_among (bound_in scope) x ≡ true) → is_among (bound_in (typed ∷ scope)) x ≡ true
    by_test true same_is rest = rw same_is refl
    by_test false same_is rest = rw same_is (rest (rw same_is at is))

-- ---- parameters

parameters_are : (next : ℕ) (ts : List TypeTree) (scope : Scope) → bound_in scope ≡ below next → bound_in (with_parameters next ts scope) ≡ below (next + length ts)
parameters_are next [] scope are = are ∙ ap below (omega arith)
parameters_are next (t ∷ ts) scope are =
    parameters_are (next + 1) ts (record { variable = next; type = t } ∷ scope) (ap (λ (xs : List ℕ). next ∷ xs) are ∙ ap below {x = suc next} {y = next + 1} (omega arith)) ∙ ap below (omega arith)

-- the numbers below a bound are those that are smaller
among_below : (n x : ℕ) → is_among (below n) x ≡ true → x < n
among_below zero x is = absurd (cc)
among_below (suc n) x is = by_test (n == x) refl (λ later. among_below n x later)
  where
    by_test : (same : Bool) → (n == x) ≡ same → (is_among (below n) x ≡ true → x < n) → x < suc n
    by_test true same_is rest = let same : n ≡ x = eqb-true n x same_is in omega arith
    by_test false same_is rest = let less : x < n = rest (rw same_is at is) in omega arith

pub parameter_low : (ts : List TypeTree) (x : ℕ) (t : TypeTree) → type_in (with_parameters 0 ts []) x ≡ Some t → x < length ts
parameter_low ts x t is =
    let among : is_among (bound_in (with_parameters 0 ts [])) x ≡ true = typed_is_bound (with_parameters 0 ts []) x t is in
    let are : bound_in (with_parameters 0 ts []) ≡ below (0 + length ts) = parameters_are 0 ts [] refl in
    let less : x < 0 + length ts = among_below (0 + length ts) x (subst (λ (xs : List ℕ). is_among xs x ≡ true) are among) in
    omega arith
