-- The lines of a form that has as many arguments as it takes, before those of the code that follows it.
use Rattle.std.proofs.Common.{ℕ, ◌+◌, ◌*◌, ◌<◌, List, [], ◌∷◌, ◌++◌, refl, sym, subst, arith}
use Rattle.kk_syntax.specs.declared.program.Form.{Form}
use Rattle.kk_syntax.specs.declared.program.Form.TheVariants.{Number, Unit as Nothing, ReadByte, PrintText}
use Rattle.kk_syntax.specs.declared.program.Form.TheVariants.{Unary, Binary, Print, Construct, Call}
use Rattle.kk_core.specs.Sizes.{AreBound}
use Rattle.kk_counted.specs.Lowerable.{HasArity}
use Rattle.rv_isa.specs.declared.asm.Operation.TheVariants as Op
use Rattle.rv_isa.specs.AsmCode.{Line}
use Rattle.rv_lower.specs.Lines.{sets, FormLines}
use Rattle.rv_lower.specs.Lowered.{Goal}
use Rattle.rv_lower.proofs.WellFormedness.{Readable, HasRoom, to_variable}
use Rattle.rv_lower.proofs.Operations.{Leads, HasArguments, form_serves, call_lines}
use Rattle.rv_lower.proofs.Codes.{Fits}
use Rattle.rv_cells.specs.Layout.{header_of}
use Rattle.rv_cells.specs.CountedLines.{Setting, ComputeLines}
use Rattle.rv_cells.proofs.FormedSteps.{all_bound, fits_step, fits_construct}

module _ (setting : Setting) (bound outer : List ℕ) (has : HasRoom setting.base bound) (x : ℕ) (less : x < setting.base)
    (goal : Goal) (low high : ℕ) (more : List Line) (fits : Fits setting.base (x ∷ bound) outer goal low high more) where
  abbrev Before : ℕ → Type 0
  Before = Readable setting.base setting.base bound

  abbrev Behind : ℕ → Type 0
  Behind = Readable setting.base setting.base (x ∷ bound)

  leads_fit : (m : ℕ) (lines : List Line) → Leads Before Behind m lines
      → Fits setting.base bound outer goal low high (lines ++ more)
  leads_fit m lines leads = fits_step setting.base bound (x ∷ bound) outer goal low high m lines more leads fits

  -- a form that calls and constructs nothing
  typed_fits : (of : Form) (arguments : List ℕ) (lines : List Line)
      → HasArguments of arguments → AreBound bound arguments
      → FormLines setting.base setting.texts x of arguments lines → Fits setting.base bound outer goal low high (lines ++ more)
  typed_fits of arguments lines as_many are is =
      leads_fit 9 lines
      (form_serves setting.base bound has x less setting.texts of arguments lines as_many (all_bound bound arguments are) is)

  -- a constructor without fields
  word_leads : (word : ℕ) → Leads Before Behind 1 (sets word x ∷ [])
  word_leads word = record {
    no_label = λ l. (refl, tt);
    few = omega arith;
    good = λ rest good. to_variable setting.base setting.base bound (Op.Li word) [] x rest has (omega arith) refl (omega arith) tt
        less good;
  }

  pub fits_form : (of : Form) (arguments : List ℕ) (lines : List Line) → HasArity of arguments → AreBound bound arguments
      → ComputeLines setting x of arguments lines → Fits setting.base bound outer goal low high (lines ++ more)
  fits_form (Number value) arguments lines arity are is = typed_fits (Number value) [] lines tt tt is
  fits_form Nothing arguments lines arity are is = typed_fits Nothing [] lines tt tt is
  fits_form ReadByte arguments lines arity are is = typed_fits ReadByte [] lines tt tt is
  fits_form (PrintText how text) arguments lines arity are is =
      typed_fits (PrintText how text) [] lines tt tt is
  fits_form (Unary operator) arguments lines arity are is =
      typed_fits (Unary operator) arguments lines arity are is
  fits_form (Binary operator) arguments lines arity are is =
      typed_fits (Binary operator) arguments lines arity are is
  fits_form (Print how) arguments lines arity are is =
      typed_fits (Print how) arguments lines arity are is
  fits_form (Construct c) [] lines arity are is =
      subst (λ (own : List Line). Fits setting.base bound outer goal low high (own ++ more)) (sym is)
      (leads_fit 1 (sets (2 * setting.layout.tag c + 1) x ∷ []) (word_leads (2 * setting.layout.tag c + 1)))
  fits_form (Construct c) (a ∷ arguments) lines arity are is =
      fits_construct setting.base bound outer has goal low high more x (header_of setting.layout c) (a ∷ arguments) lines less are
      is fits
  fits_form (Call f) arguments lines arity are is =
      subst (λ (own : List Line). Fits setting.base bound outer goal low high (own ++ more)) (sym is)
      (leads_fit 9 _ (call_lines setting.base bound has x less f arguments arity (all_bound bound arguments are)))
