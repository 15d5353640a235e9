-- The functions of a program with tokens that were lowered, one after the other.
use Rattle.std.proofs.Common.{◌≡◌, ◌⊎◌, inl, inr, ℕ, zero, suc, ◌+◌, ◌<◌, ◌≤◌, Bool, List, [], ◌∷◌, ◌++◌, length, map, take, Some}
use Rattle.std.proofs.Common.{get_or, sym, ap, subst, ◌∙◌, arith, append_assoc, append-nil, length-append}
use Rattle.std.specs.Prelude.{slice_get}
use Rattle.std.proofs.lemmas.List.{map-append, take_more, take_all}
use Rattle.kk_core.specs.declared.shape.ConstructorShape.{ConstructorShape}
use Rattle.kk_counted.specs.BareForms.{bare_function}
use Rattle.kk_counted.specs.Lowerable.{AreLowerable}
use Rattle.kk_counted.specs.TokenedWords.{tokened_prints, all_tokened_prints}
use Rattle.kk_counted.specs.TokenLowerable.{slots_in, AreTokensLowerable}
use Rattle.kk_counted.specs.TokenedCodes.{Tokened, TokenedFunction}
use Rattle.kk_counted.specs.TokenedForms.{tokened_function}
use Rattle.kk_counted.specs.declared.shape.Shape.{Shape}
use Rattle.kk_counted.specs.declared.tokened.TokenedFun.{TokenedFun}
use Rattle.rv_isa.specs.AsmCode.{Line, Lines}
use Rattle.rv_lower.specs.declared.lowering.Lowering.{Lowering}
use Rattle.rv_lower.specs.Lowered.{returns, from_to}
use Rattle.rv_lower.specs.Written.{lines_written, texts_written}
use Rattle.rv_lower.proofs.CodeGrowth.{all_bytes_append}
use Rattle.cell_runtime.specs.Operations.{all_bytes}
use Rattle.rv_cells.specs.Layout.{layout_of}
use Rattle.rv_cells.specs.Marking.{function_marks, holds_in}
use Rattle.rv_cells.specs.Tables.{table_of, layout_in}
use Rattle.rv_tokens.specs.TokenedFunctions.{facts_for, variables_for, IsTokenedWritten, LoweredTokened, LoweredTokenedFunctions}
use Rattle.rv_cells.specs.declared.standing.Standing.{Standing}
use Rattle.rv_cells.specs.TokenedLines.{Keeps, CodeLines}
use Rattle.rv_cells.specs.TokenedLowered.{IsTokenedForm}
use Rattle.rv_tokens.specs.TokenedWritten.{WroteTokened}
use Rattle.rv_tokens.specs.Written.{setting_in}
use Rattle.rv_tokens.proofs.ListGrowth.{get_longer, get_behind, get_push}
use Rattle.rv_cells.proofs.FunctionMarks.{known}
use Rattle.rv_cells.proofs.TokenMarks.{has_slots}

pub tokened_written : {a b : Lowering} (shape : Shape) (literals : List (List ℕ)) (f : ℕ) (function : TokenedFunction)
    (constructors : List ConstructorShape) (body : Tokened) (params : List ℕ) (count slots : ℕ) (marks : List Bool)
    (standing : Standing)
    → WroteTokened (record { literals = literals; layout = layout_of constructors; holds = holds_in marks; standing = standing })
    (length marks) returns body a b → Keeps standing body
    → constructors ≡ shape.constructors.items → marks ≡ function_marks (table_of shape) f (bare_function function)
    → body ≡ function.body → lines_written a ≡ [] → a.next_label ≡ 0 → slots ≡ slots_in body
    → a.base ≡ length marks + slots → params ≡ from_to 0 count → count ≡ function.parameters
    → LoweredTokened shape literals f function (record { params = params; code = lines_written b }) (texts_written a)
    (texts_written b)
tokened_written {a} {b} shape literals f function constructors body params count slots marks standing wrote keeps
    constructors_are marks_are
    body_is empty first slots_are at params_are count_is = record {
      more = there.grows.more;
      texts = there.grows.texts;
      few = there.grows.few;
      is = λ later. record {
        params = params_are ∙ ap (from_to 0) count_is;
        labels = b.next_label;
        standing = standing;
        keeps = subst (Keeps standing) body_is keeps;
        code =
            subst (λ n. CodeLines (setting_in (facts_for shape literals f (bare_function function) standing) n (texts_written b ++ later))
            (variables_for shape f function) returns 0 function.body (lines_written b) b.next_label) base_is
            (subst (λ n. CodeLines (setting_in (facts_for shape literals f (bare_function function) standing) a.base
            (texts_written b ++ later)) (variables_for shape f function) returns n function.body (lines_written b) b.next_label)
            first
            (subst (λ (lines : List Line). CodeLines (setting_in (facts_for shape literals f (bare_function function) standing) a.base
            (texts_written b ++ later)) (variables_for shape f function) returns a.next_label function.body lines b.next_label)
            (sym (there.grows.code ∙ ap (λ (lines : List Line). lines ++ there.lines) empty)) (there.are later)));
      };
    }
  where
    base_is : a.base ≡ variables_for shape f function + slots_in function.body
    base_is = at ∙ ap (λ (ms : List Bool). length ms + slots) marks_are
        ∙ ap (λ (n : ℕ). variables_for shape f function + n) (slots_are ∙ ap slots_in body_is)

    there : WroteTokened (facts_for shape literals f (bare_function function) standing) (variables_for shape f function) returns
        function.body a b
    there =
        subst (λ (ms : List Bool). WroteTokened (record { literals = literals; layout = layout_in shape; holds = holds_in ms; standing = standing })
        (length ms) returns function.body a b) marks_are
        (subst (λ cs. WroteTokened (record { literals = literals; layout = layout_of cs; holds = holds_in marks; standing = standing }) (length marks)
        returns function.body a b) constructors_are
        (subst (λ code. WroteTokened (record { literals = literals; layout = layout_of constructors; holds = holds_in marks; standing = standing })
        (length marks) returns code a b) body_is wrote))

-- ---- functions

all_prints_more : (functions : List TokenedFunction) (function : TokenedFunction)
    → all_tokened_prints (functions ++ function ∷ []) ≡ all_tokened_prints functions + tokened_prints function.body
all_prints_more [] function = omega arith
all_prints_more (first ∷ functions) function = omega (arith, all_prints_more functions function)

pub tokened_then : (shape : Shape) (literals : List (List ℕ)) (functions : List TokenedFunction) (each : List Lines) (f : ℕ)
    (function : TokenedFunction) (lines : Lines) (old new : List (List ℕ))
    → f ≡ length functions → LoweredTokenedFunctions shape literals functions each old
    → LoweredTokened shape literals f function lines old new
    → LoweredTokenedFunctions shape literals (functions ++ function ∷ []) (each ++ lines ∷ []) new
tokened_then shape literals functions each f function lines old new f_is are one = record {
  as_many = length-append each (lines ∷ []) ∙ omega (arith, are.as_many, length-append functions (function ∷ []));
  few = omega (
    arith,
    ap (λ ts. length (all_bytes ts)) one.texts,
    all_bytes_append old one.more,
    all_prints_more functions function,
    are.few,
    one.few,
  );
  are = λ later k other is. by later k other (get_push functions function other k is);
}
  where
    by : (later : List (List ℕ)) (k : ℕ) (other : TokenedFunction)
        → (slice_get functions k ≡ Some other) ⊎ ((k ≡ length functions) × (function ≡ other))
        → (found : Lines) × ((slice_get (each ++ lines ∷ []) k ≡ Some found)
        × IsTokenedWritten shape literals (new ++ later) k other found)
    by later k other (inl there) =
        let own = are.are (one.more ++ later) k other there in (
          own.0,
          (
            get_longer each (lines ∷ []) k own.0 own.1.0,
            subst (λ ts. IsTokenedWritten shape literals ts k other own.0)
                (sym (ap (λ (ts : List (List ℕ)). ts ++ later) one.texts ∙ append_assoc old one.more later)) own.1.1,
          ),
        )
    by later k other (inr last) = (
      lines,
      (
        get_behind each lines k (omega (arith, last.0, are.as_many)),
        subst (λ g. IsTokenedWritten shape literals (new ++ later) k g lines) last.1
            (subst (λ n. IsTokenedWritten shape literals (new ++ later) n function lines) (f_is ∙ sym last.0) (one.is later)),
      ),
    )

pub tokened_more : (functions items : List TokenedFun) (i : ℕ) (function : TokenedFun) → items ≡ functions → i < length items
    → get_or items i function ≡ function
    → map tokened_function (take i functions) ++ tokened_function function ∷ [] ≡ map tokened_function (take (i + 1) functions)
tokened_more functions items i function same within is =
    subst (λ fs. map tokened_function (take i fs) ++ tokened_function function ∷ [] ≡ map tokened_function (take (i + 1) fs)) same
    (ap (λ (g : TokenedFun). map tokened_function (take i items) ++ tokened_function g ∷ []) (sym is)
    ∙ sym (map-append tokened_function (take i items) (get_or items i function ∷ []))
    ∙ ap (map tokened_function) (sym (take_more items i function within)))

pub tokened_all : (functions items : List TokenedFun) (i : ℕ) → items ≡ functions → length items ≤ i
    → map tokened_function (take i functions) ≡ map tokened_function functions
tokened_all functions items i same over =
    ap (map tokened_function) (take_all i functions (subst (λ fs. length fs ≤ i) same over))

pub bare_at : (functions : List TokenedFunction) (f : ℕ) (function : TokenedFunction) → slice_get functions f ≡ Some function
    → slice_get (map bare_function functions) f ≡ Some (bare_function function)
bare_at [] f function is = absurd (cc)
bare_at (first ∷ functions) zero function is = grind (arith, is)
bare_at (first ∷ functions) (suc f) function is = bare_at functions f function is

pub tokened_form : (shape : Shape) (literals : List (List ℕ)) (functions : List TokenedFunction) (each : List Lines)
    (texts : List (List ℕ)) → AreLowerable (table_of shape) (map bare_function functions) → AreTokensLowerable functions
    → LoweredTokenedFunctions shape literals functions each texts → IsTokenedForm shape literals functions each texts
tokened_form shape literals functions each texts lowerable tokens are = record {
  lowered = λ f function is.
      let own = are.are [] f function is in
      let written = subst (λ ts. IsTokenedWritten shape literals ts f function own.0) (append-nil texts) own.1.1 in
      let found = known (table_of shape) f (bare_function function)
      (lowerable f (bare_function function) (bare_at functions f function is)) in (
        own.0,
        own.1.0,
        record {
          lowered = record {
            holds = holds_in (function_marks (table_of shape) f (bare_function function));
            variables = variables_for shape f function;
            slots = slots_in function.body;
            params = written.params;
            labels = written.labels;
            standing = written.standing;
            keeps = written.keeps;
            code = written.code;
          };
          marked = found.marked;
          few = found.few;
          low = omega (arith, found.low, (tokens f function is).slots);
          fewest = found.fewest;
          least = omega arith;
          numbered = found.numbered;
          has = has_slots (slots_in function.body) function.body (omega arith);
        },
      );
  as_many = are.as_many;
  few_bytes = are.few;
}
