-- A core form of a typed program is typed.
use Rattle.std.proofs.Common.{◌≡◌, ℕ, ◌+◌, true, zero, suc, List, [], ◌∷◌, length, Some, map, refl, sym, ap, subst, ◌∙◌, arith}
use Rattle.std.specs.Prelude.{slice_get}
use Rattle.kk_syntax.specs.GroundTyping.{Table, table_of, IsFunctionTyped, HasTruths, IsGroundTyped}
use Rattle.kk_syntax.specs.GroundTyping.{signature_of}
use Rattle.kk_syntax.specs.Programs.{FunctionTree, ProgramTree}
use Rattle.kk_syntax.specs.Types.{unit_type}
use Rattle.kk_syntax.specs.Typing.{with_parameters}
use Rattle.kk_core.specs.Codes.{FunctionCode, ProgramCode}
use Rattle.kk_core.specs.CoreTyping.{Facts, typing_parameters, IsCodeTyped, AreCodesTyped, IsCoreTyped}
use Rattle.kk_core.specs.Sizes.{below, Ordered}
use Rattle.kk_norm.specs.Normalized.{final, size, IsCoreOf, AreCoresOf, IsCoreForm}
use Rattle.kk_norm.proofs.CoreTyping.{Fits, code_fits}
use Rattle.kk_norm.proofs.Facts.{parameters_known, parameters_named}

function_typed : (table : Table) → HasTruths table.constructors → (function : FunctionTree) (core : FunctionCode) → IsCoreOf table.constructors function core
    → IsFunctionTyped table function → IsCodeTyped table core (signature_of function)
function_typed table truths function core is typed =
    let n : ℕ = length function.parameters in
    let high : ℕ = n + size function.body in
    let facts : Facts = typing_parameters 0 function.parameters [] in
    let fits : Fits table true facts n core.body high function.result
    = code_fits table truths true (final true) [] n function.body core.body
    (with_parameters 0 function.parameters []) facts n high function.result function.result is.body typed
    (parameters_named function.parameters) (omega arith) ((λ same. same), refl, omega arith) in
    let ordered : Ordered (below n) n core.body high
    = subst (λ (xs : List ℕ). Ordered xs n core.body high)
    (parameters_known 0 function.parameters [] refl ∙ ap below (omega arith)) fits.ordered in
    record {
      parameters = sym is.parameters;
      body = fits.typed;
      ordered = subst (λ (q : ℕ). Ordered (below core.parameters) core.parameters core.body q) (sym is.variables)
          (subst (λ (p : ℕ). Ordered (below p) p core.body high) (sym is.parameters) ordered);
    }

functions_typed : (table : Table) → HasTruths table.constructors → (functions : List FunctionTree) (cores : List FunctionCode)
    → AreCoresOf table.constructors functions cores
    → ((f : ℕ) (function : FunctionTree) → slice_get functions f ≡ Some function → IsFunctionTyped table function)
    → AreCodesTyped table cores (map signature_of functions)
functions_typed table truths [] cores are each = subst (λ (all : List FunctionCode). AreCodesTyped table all []) (sym are) tt
functions_typed table truths (function ∷ functions) [] are each = absurd are
functions_typed table truths (function ∷ functions) (core ∷ cores) are each = (
  function_typed table truths function core are.0 (each zero function refl),
  functions_typed table truths functions cores are.1
      (λ f other is. each (suc f) other is),
)

pub core_form_typed : (program : ProgramTree) (code : ProgramCode) → IsGroundTyped program → IsCoreForm program code
    → IsCoreTyped (table_of program) code
core_form_typed program code typed form =
    record {
      functions = functions_typed (table_of program) typed.truths program.functions code.functions form.functions typed.functions;
      texts = ap length form.texts;
      main = subst (λ (m : ℕ). slice_get (map signature_of program.functions) m ≡ Some
          (record { parameters = []; result = unit_type })) (sym form.main) typed.main;
      truths = typed.truths;
    }
