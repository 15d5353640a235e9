-- That inserted functions are those of their instances.
use Rattle.std.proofs.Common.{◌≡◌, ℕ, zero, suc, ◌+◌, ◌<◌, List, [], ◌∷◌, ◌++◌, drop, get_or, append_assoc, arith, map, length, Some, sym, ap, ◌∙◌, subst}
use Rattle.std.proofs.lemmas.List.{map-append}
use Rattle.std.specs.Prelude.{slice_get, slice_index_or}
use Rattle.kk_syntax.specs.PositionsOf.{PositionTable, is_lent}
use Rattle.kk_core.specs.Codes.{FunctionCode, function_code}
use Rattle.kk_core.specs.declared.form.CoreFunction.{CoreFunction}
use Rattle.kk_counted.specs.Arms.{HasArms}
use Rattle.kk_counted.specs.CountedCodes as Counted
use Rattle.kk_counted.specs.CountedCodes.{CountedFunction}
use Rattle.kk_counted.specs.CountedForms.{block_code}
use Rattle.kk_counted.specs.declared.counted.CountedFun.{CountedFun}
use Rattle.kk_counted.specs.Programs.{function_of, IsFunctionOf, HaveParameters}
use Rattle.kk_counted.specs.Spending.{at_positions, numbers_from, is_owned, HasAsMany, SpendsParameters}
use Rattle.kk_counted.proofs.PlaceLists.{next_one}
use Rattle.kk_insert.specs.Insertion.{dropping, lent_in, own, insert, inserted_function, inserted_functions}
use Rattle.kk_insert.specs.Promise.{TakesAsMany, IsFunctionInsertable, HasRows}
use Rattle.kk_insert.proofs.Programs.{function_spent}
use Rattle.kk_insert.proofs.Rows.{function_has_arms}

-- a function that is made step by step
pub function_inserted : (positions : PositionTable) (f : ℕ) (function : FunctionCode) (parameters given owned lent now : List ℕ)
    (first made : Counted.Counted) (fun : CountedFun) → parameters ≡ numbers_from 0 function.parameters
    → given ≡ at_positions (is_lent positions f) 0 parameters → owned ≡ at_positions (is_owned positions [] f) 0 parameters
    → lent ≡ lent_in given function.body → now ≡ own positions lent [] function.body
    → first ≡ insert positions lent [] function.body → made ≡ dropping owned now first
    → fun.parameters ≡ function.parameters → block_code fun.body ≡ made
    → function_of fun ≡ inserted_function positions f function
function_inserted positions f function parameters given owned lent now first made fun e1 e2 e3 e4 e5 e6 e7 e8 e9 =
    let given_is = e2 ∙ ap (at_positions (is_lent positions f) 0) e1 in
    let owned_is = e3 ∙ ap (at_positions (is_owned positions [] f) 0) e1 in
    let lent_is = e4 ∙ ap (λ xs. lent_in xs function.body) given_is in
    ap (λ n. same_function n (block_code fun.body)) e8
    ∙ ap (same_function function.parameters) (e9 ∙ e7 ∙ ap (λ xs. dropping xs now first) owned_is
    ∙ ap (λ xs. dropping (at_positions (is_owned positions [] f) 0 (numbers_from 0 function.parameters)) xs first)
    (e5 ∙ ap (λ xs. own positions xs [] function.body) lent_is)
    ∙ ap (dropping (at_positions (is_owned positions [] f) 0 (numbers_from 0 function.parameters))
    (own positions (lent_in (at_positions (is_lent positions f) 0 (numbers_from 0 function.parameters)) function.body) [] function.body))
    (e6 ∙ ap (λ xs. insert positions xs [] function.body) lent_is))
  where
    same_function : ℕ → Counted.Counted → CountedFunction
    same_function n body = record { parameters = n; body = body }

-- ---- the table of positions tells the parameters

told_at : (positions : PositionTable) (source : List FunctionCode) (f : ℕ) (function : FunctionCode)
    → map length positions ≡ map (λ (one : FunctionCode). one.parameters) source → slice_get source f ≡ Some function
    → function.parameters ≡ length (slice_index_or positions f [])
told_at positions [] f function told there = absurd (nothing there)
  where
    nothing : slice_get [] f ≡ Some function → ⊥
    nothing is = cc
told_at [] (first ∷ source) f function told there = absurd (nothing told)
  where
    nothing : [] ≡ first.parameters ∷ map (λ (one : FunctionCode). one.parameters) source → ⊥
    nothing is = cc
told_at (row ∷ positions) (first ∷ source) zero function told there = sym (ap (λ (one : FunctionCode). one.parameters) (only there)) ∙ sym (head told)
  where
    only : Some first ≡ Some function → first ≡ function
    only is = cc

    head : length row ∷ map length positions ≡ first.parameters ∷ map (λ (one : FunctionCode). one.parameters) source
        → length row ≡ first.parameters
    head is = cc
told_at (row ∷ positions) (first ∷ source) (suc f) function told there = told_at positions source f function (rest told) there
  where
    rest : length row ∷ map length positions ≡ first.parameters ∷ map (λ (one : FunctionCode). one.parameters) source
        → map length positions ≡ map (λ (one : FunctionCode). one.parameters) source
    rest is = cc

pub is_function : (positions : PositionTable) (source : List FunctionCode) (f : ℕ) (function : FunctionCode) (fun : CountedFun)
    → map length positions ≡ map (λ (one : FunctionCode). one.parameters) source → slice_get source f ≡ Some function
    → IsFunctionInsertable positions source f function → HasRows function.body → fun.instance ≡ f
    → function_of fun ≡ inserted_function positions f function → IsFunctionOf positions f fun
is_function positions source f function fun told there promise rows number same =
    record {
      instance = number;
      parameters = ap (λ (one : CountedFunction). one.parameters) same ∙ told_at positions source f function told there;
      judged = λ functions have. subst (SpendsParameters positions functions f) (sym same)
          (function_spent positions source f function promise functions (as_many functions have));
      arms = subst HasArms (sym (ap (λ (one : CountedFunction). one.body) same)) (function_has_arms positions f function rows);
    }
  where
    as_many : (functions : List CountedFunction) → HaveParameters positions functions → (g : ℕ) (arguments : List ℕ)
        → TakesAsMany positions source g arguments → HasAsMany positions functions g arguments
    as_many functions have g arguments takes result known =
        have g result known ∙ (sym (told_at positions source g takes.0 told takes.1.0) ∙ takes.1.1)

-- ---- one function after the other

pub functions_next : (positions : PositionTable) (functions : List CoreFunction) (at : ℕ) (function : CoreFunction)
    (made more all : List CountedFunction) → at < length functions → get_or functions at function ≡ function
    → more ≡ made ++ inserted_function positions at (function_code function) ∷ []
    → made ++ inserted_functions positions at (map function_code (drop at functions)) ≡ all
    → more ++ inserted_functions positions (at + 1) (map function_code (drop (at + 1) functions)) ≡ all
functions_next positions functions at function made more all less here is so_far =
    let rest = inserted_functions positions (at + 1) (map function_code (drop (at + 1) functions)) in
    ap (λ xs. xs ++ rest) is ∙ append_assoc made (inserted_function positions at (function_code function) ∷ []) rest
    ∙ ap (λ n. made ++ inserted_function positions at (function_code function) ∷ inserted_functions positions n (map function_code (drop (at + 1) functions)))
    {x = at + 1} {y = suc at} (omega arith)
    ∙ ap (λ (one : CoreFunction). made ++ inserted_functions positions at (map function_code (one ∷ drop (at + 1) functions))) (sym here)
    ∙ ap (λ (fs : List CoreFunction). made ++ inserted_functions positions at (map function_code fs)) (sym (next_one functions at function less))
    ∙ so_far

there : (source : List CoreFunction) (at : ℕ) (function : CoreFunction) → at < length source → get_or source at function ≡ function
    → slice_get (map function_code source) at ≡ Some (function_code function)
there [] at function less is = absurd (omega (arith, less))
there (first ∷ source) zero function less is = ap (λ f. Some (function_code f)) is
there (first ∷ source) (suc at) function less is = there source at function (omega (arith, less)) is

pub next_function : (positions others : PositionTable) (source : List CoreFunction) (functions : List CountedFun) (at : ℕ)
    (function : CoreFunction) (fun : CountedFun)
    → ((f : ℕ) (one : FunctionCode) → slice_get (map function_code source) f ≡ Some one
    → IsFunctionInsertable positions (map function_code source) f one)
    → ((f : ℕ) (one : FunctionCode) → slice_get (map function_code source) f ≡ Some one → HasRows one.body)
    → map length positions ≡ map (λ (one : FunctionCode). one.parameters) (map function_code source)
    → at < length source → get_or source at function ≡ function → others ≡ positions → length functions ≡ at
    → fun.instance ≡ at → function_of fun ≡ inserted_function positions at (function_code function)
    → ∥ IsFunctionOf others (length functions) fun ∥₁
next_function positions others source functions at function fun promise rows told less is table count number same =
    let known = there source at function less is in
    ∣ subst (λ (p : PositionTable). IsFunctionOf p (length functions) fun) (sym table)
    (subst (λ (n : ℕ). IsFunctionOf positions n fun) (sym count)
    (is_function positions (map function_code source) at (function_code function) fun told known
    (promise at (function_code function) known) (rows at (function_code function) known) number same)) ∣₁

-- a function is added
pub functions_added : (positions : PositionTable) (functions all : List CountedFun) (at : ℕ) (function : CoreFunction) (fun : CountedFun)
    → all ≡ functions ++ fun ∷ [] → function_of fun ≡ inserted_function positions at (function_code function)
    → map function_of all ≡ map function_of functions ++ inserted_function positions at (function_code function) ∷ []
functions_added positions functions all at function fun is same =
    ap (map function_of) is ∙ map-append function_of functions (fun ∷ [])
    ∙ ap (λ one. map function_of functions ++ one ∷ []) same
