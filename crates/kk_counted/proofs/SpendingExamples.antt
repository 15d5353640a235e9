-- Small programs that spend what they own, and one that is lent a list.
use Rattle.std.proofs.Common.{◌≡◌, inl, ℕ, zero, suc, ◌<◌, pos, List, [], ◌∷◌, Option, Some, None, arith, refl, sym, ap, subst}
use Rattle.std.specs.Prelude.{slice_get}
use Rattle.kk_syntax.specs.declared.operator.BinaryOperator.TheVariants.{Add}
use Rattle.kk_syntax.specs.declared.positions.Ownership.TheVariants.{Lent}
use Rattle.kk_syntax.specs.declared.program.Form.TheVariants.{Number, Binary, Construct, Call}
use Rattle.kk_syntax.specs.Shapes.{is_among}
use Rattle.kk_syntax.specs.PositionsOf.{PositionTable, all_owned, is_lent}
use Rattle.kk_counted.specs.CountedCodes.{give, case, compute, read, no_arm, arm, CountedFunction}
use Rattle.kk_counted.specs.Spending.{Spends, SpendsParameters, IsSpent}
use Rattle.kk_counted.proofs.Examples.{function, nil_or_cons, inc, by_count, two_cells, unique, unique_run}

parameters_if : Option CountedFunction → ℕ → ℕ
parameters_if None n = n
parameters_if (Some function) n = function.parameters

-- a function that is there has the parameters that it has
as_many : (found : CountedFunction) (function : CountedFunction) → Some found ≡ Some function → function.parameters ≡ found.parameters
unfolding parameters_if
as_many found function same = sym (ap (λ (o : Option CountedFunction). parameters_if o 0) same)

the_function : CountedFunction → Option CountedFunction → CountedFunction
the_function other None = other
the_function other (Some function) = function

only_function : (found : CountedFunction) (function : CountedFunction) → Some found ≡ Some function → found ≡ function
unfolding the_function
only_function found function same = ap (λ (o : Option CountedFunction). the_function found o) same

abbrev functions : List CountedFunction
functions = inc by_count ∷ two_cells unique ∷ []

-- inc, from its opening on: it owns the head and the tail
inc_rest : Spends all_owned functions [] [] None (1 ∷ 2 ∷ []) (compute 3 (Number (pos 1)) [] (compute 4 (Binary Add) (1 ∷ 3 ∷ []) (compute 5 (Call 0) (2 ∷ []) (compute 6 (Construct 3) (4 ∷ 5 ∷ []) (give 6)))))
inc_rest =
    (1 ∷ 2 ∷ [], (λ w. refl, (tt, (tt, (refl, (refl, (2 ∷ [], (λ w. omega arith, (tt, (tt, (refl, (refl, (4 ∷ [], (λ w. omega arith, (tt, (λ called there. as_many (inc by_count) called there, (refl, (refl, ([], (λ w. omega arith, (tt, (tt, (refl, (refl, λ w. refl))))))))))))))))))))))))

inc_spends : SpendsParameters all_owned functions 0 (inc by_count)
inc_spends =
    ([], (λ i less. refl, (0 ∷ [], (λ w. refl, (refl, (λ w. refl, (([], (λ w. refl, ((refl, (refl, tt)), ((refl, (refl, tt)), ((refl, (refl, tt)), inc_rest))))), tt)))))))

main_spends : SpendsParameters all_owned functions 1 (two_cells unique)
main_spends =
    ([], (λ i less. refl, ([], (λ w. refl, (tt, (tt, (refl, (refl, (0 ∷ [], (λ w. refl, (tt, (tt, (refl, (refl, ([], (λ w. omega arith, (tt, (tt, (refl, (refl, (2 ∷ [], (λ w. refl, (tt, (tt, (refl, (refl, ([], (λ w. omega arith, (tt, (tt, (refl, (refl, ([], (λ w. refl, (tt, (λ called there. as_many (inc by_count) called there, (refl, (refl, ([], (λ w. refl, ([], (λ w. refl, (tt, (tt, (refl, (refl, λ w. refl))))))))))))))))))))))))))))))))))))))))))))))

no_function_there : (P : Type 0) (function : CountedFunction) → slice_get {X = CountedFunction} [] 0 ≡ Some function → P
no_function_there P function there = absurd (cc)

unique_is_spent : IsSpent all_owned (unique_run by_count 2 4).program
unique_is_spent = record { each = each; main = (two_cells unique, (refl, refl)) }
  where
    each : (f : ℕ) (function : CountedFunction) → slice_get (inc by_count ∷ two_cells unique ∷ []) f ≡ Some function → SpendsParameters all_owned functions f function
    each zero function there = subst (SpendsParameters all_owned functions 0) (only_function (inc by_count) function there) inc_spends
    each (suc zero) function there = subst (SpendsParameters all_owned functions 1) (only_function (two_cells unique) function there) main_spends
    each (suc (suc zero)) function there = absurd (cc)
    each (suc (suc (suc f))) function there = absurd (cc)

-- fun len(^xs) { match xs { Nil -> 0; Cons(_, xx) -> 1 + len(xx) } }, whose parameter is lent: it reads the cells, and changes no count
abbrev lent_first : PositionTable
lent_first = (Lent ∷ []) ∷ []

abbrev len : CountedFunction
len =
    function 1
    (case 0 nil_or_cons
    (arm (compute 1 (Number (pos 0)) [] (give 1))
    (arm
    (read 0 3 (2 ∷ 3 ∷ [])
    (compute 4 (Call 0) (3 ∷ []) (compute 5 (Number (pos 1)) [] (compute 6 (Binary Add) (5 ∷ 4 ∷ []) (give 6)))))
    no_arm)))

len_spends : SpendsParameters lent_first (len ∷ []) 0 len
len_spends =
    (0 ∷ 2 ∷ 3 ∷ [], (lent_one, ([], (λ w. refl, (refl, (([], (λ w. refl, (tt, (tt, (refl, (refl, λ w. refl)))))), (([], (λ w. refl, ((refl, (refl, tt)), (inl refl, ([], (λ w. refl, ((refl, tt), (λ called there. as_many len called there, (refl, (refl, (4 ∷ [], (λ w. refl, (tt, (tt, (refl, (refl, ([], (λ w. omega arith, (tt, (tt, (refl, (refl, λ w. refl)))))))))))))))))))))), tt)))))))
  where
    lent_one : (i : ℕ) → i < 1 → is_among (0 ∷ 2 ∷ 3 ∷ []) i ≡ is_lent lent_first 0 i
    lent_one zero less = refl
    lent_one (suc i) less = absurd (omega (arith, less))
