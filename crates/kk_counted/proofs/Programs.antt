-- Programs whose functions are those of their instances are spent.
use Rattle.std.proofs.Common.{◌≡◌, ℕ, zero, suc, ◌+◌, ◌<◌, Bool, true, false, List, [], ◌∷◌, ◌++◌, map, length, Some}
use Rattle.std.proofs.Common.{arith, refl, sym, ap, ◌∙◌, subst}
use Rattle.std.proofs.Math.Logic.{∥∥₁_elim, ∥∥₁_map, ∥∥₁_prop}
use Rattle.std.specs.Prelude.{if◌then◌else◌, slice_get, slice_index_or}
use Rattle.kk_syntax.specs.PositionsOf.{PositionTable}
use Rattle.kk_counted.specs.declared.counted.CountedFun.{CountedFun}
use Rattle.kk_counted.specs.CountedCodes.{CountedFunction}
use Rattle.kk_counted.specs.Programs.{function_of, IsFunctionOf, AreFunctions, program_of, HaveParameters}
use Rattle.kk_counted.specs.Spending.{SpendsParameters, IsSpent}

pub no_functions : (positions : PositionTable) (functions : List CountedFun) → functions ≡ []
    → ∥ AreFunctions positions functions ∥₁
no_functions positions functions none =
    ∣ (λ f fun there. absurd (nothing f fun (ap (λ all. slice_get all f) (sym none) ∙ there))) ∣₁
  where
    nothing : (f : ℕ) (fun : CountedFun) → slice_get [] f ≡ Some fun → ⊥
    nothing f fun there = cc

-- a function more
one_more : (positions : PositionTable) (functions : List CountedFun) (fun : CountedFun) (first : ℕ)
    → ((f : ℕ) (one : CountedFun) → slice_get functions f ≡ Some one → IsFunctionOf positions (first + f) one)
    → IsFunctionOf positions (first + length functions) fun → (f : ℕ) (one : CountedFun)
    → slice_get (functions ++ fun ∷ []) f ≡ Some one → IsFunctionOf positions (first + f) one
one_more positions [] fun first are next zero one there = by_same one there
  where
    by_same : (one : CountedFun) → Some fun ≡ Some one → IsFunctionOf positions (first + 0) one
    by_same one same = subst (IsFunctionOf positions (first + 0)) (inner same) next
      where
        inner : Some fun ≡ Some one → fun ≡ one
        inner two = cc
one_more positions [] fun first are next (suc f) one there = absurd (nothing f one there)
  where
    nothing : (f : ℕ) (fun : CountedFun) → slice_get [] f ≡ Some fun → ⊥
    nothing f fun there = cc
one_more positions (x ∷ functions) fun first are next zero one there = are zero one there
one_more positions (x ∷ functions) fun first are next (suc f) one there =
    subst (λ (n : ℕ). IsFunctionOf positions n one) {x = suc first + f} {y = first + suc f} (omega arith)
    (one_more positions functions fun (suc first)
    (λ g other known.
    subst (λ (n : ℕ). IsFunctionOf positions n other) {x = first + suc g} {y = suc first + g} (omega arith)
    (are (suc g) other known))
    (subst (λ (n : ℕ). IsFunctionOf positions n fun) {x = first + suc (length functions)} {y = suc first + length functions}
    (omega arith) next)
    f one there)

function_more : (positions : PositionTable) (functions all : List CountedFun) (fun : CountedFun)
    → ∥ AreFunctions positions functions ∥₁ → IsFunctionOf positions (length functions) fun → all ≡ functions ++ fun ∷ []
    → ∥ AreFunctions positions all ∥₁
function_more positions functions all fun are next is =
    ∥∥₁_map are (λ each f one there.
    subst (λ (n : ℕ). IsFunctionOf positions n one) {x = 0 + f} {y = f} (omega arith)
    (one_more positions functions fun 0
    (λ g other known. subst (λ (n : ℕ). IsFunctionOf positions n other) {x = g} {y = 0 + g} (omega arith) (each g other known))
    (subst (λ (n : ℕ). IsFunctionOf positions n fun) {x = length functions} {y = 0 + length functions} (omega arith) next)
    f one (sym (ap (λ (xs : List CountedFun). slice_get xs f) is) ∙ there)))

-- a function is added, or there is no room for it
pub function_pushed : (positions : PositionTable) (functions all : List CountedFun) (fun : CountedFun) (ok : Bool)
    → ∥ AreFunctions positions functions ∥₁ → ∥ IsFunctionOf positions (length functions) fun ∥₁
    → all ≡ (if ok then functions ++ fun ∷ [] else functions) → ∥ AreFunctions positions all ∥₁
function_pushed positions functions all fun true are next is =
    ∥∥₁_elim next ∥∥₁_prop (λ one. function_more positions functions all fun are one is)
function_pushed positions functions all fun false are next is =
    subst (λ (xs : List CountedFun). ∥ AreFunctions positions xs ∥₁) (sym is) are

-- ---- a whole program

-- a function of the code is that of one as Rust has it
Found : List CountedFun → ℕ → CountedFunction → Type 0
Found functions f function = (fun : CountedFun) × ((slice_get functions f ≡ Some fun) × (function_of fun ≡ function))

found : (functions : List CountedFun) (f : ℕ) (function : CountedFunction)
    → slice_get (map function_of functions) f ≡ Some function → Found functions f function
unfolding Found
found [] f function there = absurd (nothing f there)
  where
    nothing : (f : ℕ) → slice_get [] f ≡ Some function → ⊥
    nothing f there = cc
found (fun ∷ functions) zero function there = (fun, (refl, inner there))
  where
    inner : Some (function_of fun) ≡ Some function → function_of fun ≡ function
    inner same = cc
found (fun ∷ functions) (suc f) function there = found functions f function there

pub programs_spent : (positions : PositionTable) (functions : List CountedFun) (texts : List (List ℕ)) → 0 < length functions
    → slice_index_or positions 0 [] ≡ [] → ∥ AreFunctions positions functions ∥₁
    → ∥ IsSpent positions (program_of functions texts) ∥₁
unfolding Found
programs_spent positions functions texts some none are = ∥∥₁_map are spent
  where
    have : AreFunctions positions functions → HaveParameters positions (map function_of functions)
    have all f function there =
        let one : Found functions f function = found functions f function there in
        ap (λ g. g.parameters) (sym one.1.1) ∙ (all f one.0 one.1.0).parameters

    first : (xs : List CountedFun) → 0 < length xs → AreFunctions positions xs
        → (function : CountedFunction) × ((slice_get (map function_of xs) 0 ≡ Some function) × (function.parameters ≡ 0))
    first [] less all = absurd (omega (arith, less))
    first (fun ∷ xs) less all = (function_of fun, (refl, (all 0 fun refl).parameters ∙ ap length none))

    spent : AreFunctions positions functions → IsSpent positions (program_of functions texts)
    spent all =
        record {
          each = λ f function there.
              let one : Found functions f function = found functions f function there in
              subst (λ g. SpendsParameters positions (map function_of functions) f g) one.1.1
              ((all f one.0 one.1.0).judged (map function_of functions) (have all));
          main = first functions some all;
        }
