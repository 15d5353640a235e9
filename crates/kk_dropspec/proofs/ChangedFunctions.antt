-- Functions in which each code is changed by the same function.
use Rattle.std.proofs.Common.{◌≡◌, ℕ, List, map, Option, Some, None, refl, sym, ap, ◌∙◌, subst}
use Rattle.std.proofs.Math.ListN.{get_or}
use Rattle.std.specs.Prelude.{◌<◌, slice_get, option_map, length}
use Rattle.std.proofs.Math.Logic.{∥∥₁_map}
use Rattle.std.proofs.lemmas.Option.{slice_get-map, slice_get_read}
use Rattle.kk_syntax.specs.declared.program.Form.{Form}
use Rattle.kk_syntax.specs.declared.program.Form.TheVariants.{Number, Unit as Nothing, ReadByte, PrintText, Unary, Binary, Print}
use Rattle.kk_syntax.specs.declared.program.Form.TheVariants.{Construct, Call}
use Rattle.kk_syntax.specs.PositionsOf.{PositionTable}
use Rattle.kk_counted.specs.declared.counted.CountedFun.{CountedFun}
use Rattle.kk_counted.specs.Arms.{HasArms}
use Rattle.kk_counted.specs.CountedCodes.{Counted, CountedFunction, CountedProgram}
use Rattle.kk_counted.specs.CountedForms.{block_code}
use Rattle.kk_counted.specs.Keeping.{IsThere, CallsOne}
use Rattle.kk_counted.specs.Programs.{function_of, IsFunctionOf, AreFunctions}
use Rattle.kk_counted.specs.Spending.{HasAsMany, FitsForm, SpendsParameters, IsSpent}
use Rattle.kk_dropspec.specs.Changed.{changed_function, changed_program}

-- functions may be called with as many arguments as others
abbrev pub HaveAsMany : PositionTable → List CountedFunction → List CountedFunction → Type 0
HaveAsMany positions functions others =
    (f : ℕ) (arguments : List ℕ) → HasAsMany positions functions f arguments → HasAsMany positions others f arguments

-- then forms fit still
pub fits : (positions : PositionTable) (functions others : List CountedFunction) → HaveAsMany positions functions others
    → (form : Form) (arguments : List ℕ) → FitsForm positions functions form arguments → FitsForm positions others form arguments
fits positions functions others many (Call f) arguments fit = many f arguments fit
fits positions functions others many (Number n) arguments fit = tt
fits positions functions others many Nothing arguments fit = tt
fits positions functions others many ReadByte arguments fit = tt
fits positions functions others many (PrintText form text) arguments fit = tt
fits positions functions others many (Unary operator) arguments fit = tt
fits positions functions others many (Binary operator) arguments fit = tt
fits positions functions others many (Print form) arguments fit = tt
fits positions functions others many (Construct c) arguments fit = tt

module _ (change : Counted → Counted) where
  -- what is made with as many parameters and the changed body is the changed function
  pub function_made : (fun item : CountedFun) → fun.parameters ≡ item.parameters
      → block_code fun.body ≡ change (block_code item.body) → function_of fun ≡ changed_function change (function_of item)
  function_made fun item many body = ap (of (block_code fun.body)) many ∙ ap (λ code. of code item.parameters) body
    where
      of : Counted → ℕ → CountedFunction
      of code n = record { parameters = n; body = code }

  module _ (functions : List CountedFunction) where
    found : (f : ℕ) (other : CountedFunction) (here : Option CountedFunction) → slice_get functions f ≡ here
        → option_map (changed_function change) here ≡ Some other
        → (function : CountedFunction) × ((slice_get functions f ≡ Some function) × (changed_function change function ≡ other))
    found f other None here is = absurd (cc)
    found f other (Some function) here is =
        let same : changed_function change function ≡ other = cc in (function, (here, same))

    -- a changed function is made of one
    pub found_before : (f : ℕ) (other : CountedFunction) → slice_get (map (changed_function change) functions) f ≡ Some other
        → (function : CountedFunction) × ((slice_get functions f ≡ Some function) × (changed_function change function ≡ other))
    found_before f other is =
        found f other (slice_get functions f) refl (sym (slice_get-map (changed_function change) functions f) ∙ is)

    -- it is there where the function is, so forms still call one
    pub is_there : (f : ℕ) → IsThere functions f → IsThere (map (changed_function change) functions) f
    is_there f there = (
      changed_function change there.0,
      slice_get-map (changed_function change) functions f ∙ ap (option_map (changed_function change)) there.1,
    )

    pub calls_one : (form : Form) → CallsOne functions form → CallsOne (map (changed_function change) functions) form
    calls_one (Call f) calls = is_there f calls
    calls_one _ calls = tt

    -- it is called with as many arguments
    as_many : (positions : PositionTable) → HaveAsMany positions functions (map (changed_function change) functions)
    as_many positions f arguments many other is =
        let before = found_before f other is in
        sym (ap (λ (function : CountedFunction). function.parameters) before.1.1) ∙ many before.0 before.1.0

  -- a change after which functions spend their parameters still
  abbrev pub SpendsStill : Type 0
  SpendsStill =
      (positions : PositionTable) (functions others : List CountedFunction) → HaveAsMany positions functions others
      → (f : ℕ) (function : CountedFunction) → SpendsParameters positions functions f function
      → SpendsParameters positions others f (changed_function change function)

  module _ (spends : SpendsStill) where
    -- a changed program spends what it owns
    pub is_spent : (positions : PositionTable) (program : CountedProgram) → IsSpent positions program
        → IsSpent positions (changed_program change program)
    is_spent positions program spent =
        record {
          each = λ f other is.
              let before = found_before program.functions f other is in
              subst (SpendsParameters positions (map (changed_function change) program.functions) f) before.1.1
              (spends positions program.functions (map (changed_function change) program.functions)
              (as_many program.functions positions) f before.0 (spent.each f before.0 before.1.0));
          main = (
            changed_function change spent.main.0,
            (
              slice_get-map (changed_function change) program.functions program.main
                  ∙ ap (option_map (changed_function change)) spent.main.1.0,
              spent.main.1.1,
            ),
          );
        }

    module _ (has_arms : (code : Counted) → HasArms code → HasArms (change code)) where
      -- the function of an instance, changed, is one of that instance
      is_function : (positions : PositionTable) (f : ℕ) (fun made : CountedFun) → IsFunctionOf positions f fun
          → made.instance ≡ fun.instance → made.parameters ≡ fun.parameters → block_code made.body ≡ change (block_code fun.body)
          → IsFunctionOf positions f made
      is_function positions f fun made is instance parameters body =
          record {
            instance = instance ∙ is.instance;
            parameters = parameters ∙ is.parameters;
            judged = λ functions have.
                subst (SpendsParameters positions functions f) (sym (function_made made fun parameters body))
                (spends positions functions functions (λ g arguments many. many) f (function_of fun) (is.judged functions have));
            arms = subst HasArms (sym body) (has_arms (block_code fun.body) is.arms);
          }

      -- so is the next one, of functions that are
      pub next_is_function : (positions others : PositionTable) (functions items : List CountedFun) (fun made : CountedFun)
          (f at : ℕ) → ∥ AreFunctions positions functions ∥₁ → others ≡ positions → items ≡ functions → f < length items
          → fun ≡ get_or items f fun → at ≡ f → made.instance ≡ fun.instance → made.parameters ≡ fun.parameters
          → block_code made.body ≡ change (block_code fun.body) → ∥ IsFunctionOf others at made ∥₁
      next_is_function positions others functions items fun made f at are table same within is place instance parameters body =
          ∥∥₁_map are (λ each.
          subst (λ (p : PositionTable). IsFunctionOf p at made) (sym table)
          (subst (λ (n : ℕ). IsFunctionOf positions n made) (sym place)
          (is_function positions f fun made
          (each f fun (ap (λ (xs : List CountedFun). slice_get xs f) (sym same)
          ∙ slice_get_read items (length items) f fun refl within is))
          instance parameters body)))
