-- A typed program whose tail calls lend on what is lent may be inserted.
use Rattle.std.proofs.Common.{◌≡◌, ℕ, zero, suc, ◌≤◌, Bool, true, false, List, [], ◌∷◌, length, Option, Some, None, refl, sym, ap, ◌∙◌, subst}
use Rattle.std.specs.Prelude.{slice_get}
use Rattle.kk_syntax.specs.declared.program.Form.{Form}
use Rattle.kk_syntax.specs.declared.program.Form.TheVariants.{Number, Unit as Nothing, ReadByte, PrintText, Unary, Binary, Print, Construct, Call}
use Rattle.kk_syntax.specs.GroundTyping.{Table, IsFormTyped}
use Rattle.kk_syntax.specs.GroundTyping.{Signature}
use Rattle.kk_syntax.specs.PositionsOf.{PositionTable}
use Rattle.kk_syntax.specs.Types.{TypeTree}
use Rattle.kk_core.specs.Codes.{Code, give, tail_call, case, compute, use_of, unpack, inside, Arms, no_arm, arm, FunctionCode, ProgramCode}
use Rattle.kk_core.specs.CoreTyping.{Facts, HaveTypes, HasCodeType, AreArmsTyped, IsCodeTyped, AreCodesTyped, IsCoreTyped, AreSmall, IsSmall}
use Rattle.kk_core.specs.Sizes.{forms, most_forms}
use Rattle.kk_insert.specs.Insertion.{lent_of}
use Rattle.kk_insert.specs.Promise.{TakesAsMany, FormTakes, LendsOn, AllLendOn, LendsTails, AllLendTails, TailsLendOn, IsInsertable}

pub same_length : (facts : Facts) (xs : List ℕ) (ts : List TypeTree) → HaveTypes facts xs ts → length ts ≡ length xs
same_length facts [] [] have = refl
same_length facts [] (t ∷ ts) have = absurd have
same_length facts (x ∷ xs) [] have = absurd have
same_length facts (x ∷ xs) (t ∷ ts) have = ap suc (same_length facts xs ts have.1)

-- a function and its signature
pub signature_there : (table : Table) (functions : List FunctionCode) (signatures : List Signature) (f : ℕ) (function : FunctionCode)
    → AreCodesTyped table functions signatures → slice_get functions f ≡ Some function
    → (signature : Signature) × ((slice_get signatures f ≡ Some signature) × IsCodeTyped table function signature)
signature_there table [] signatures f function typed there = absurd (cc)
signature_there table (first ∷ functions) [] f function typed there = absurd typed
signature_there table (first ∷ functions) (signature ∷ signatures) zero function typed there =
    (signature, (refl, subst (λ (other : FunctionCode). IsCodeTyped table other signature) (only first function there) typed.0))
  where
    only : (first function : FunctionCode) → Some first ≡ Some function → first ≡ function
    only first function same = ap (λ (o : Option FunctionCode). elim o as (λ _. FunctionCode) [ None ↦ first | Some other ↦ other ])
        same
signature_there table (first ∷ functions) (signature ∷ signatures) (suc f) function typed there =
    signature_there table functions signatures f function typed.1 there

pub function_there : (table : Table) (functions : List FunctionCode) (signatures : List Signature) (f : ℕ) (signature : Signature)
    → AreCodesTyped table functions signatures → slice_get signatures f ≡ Some signature
    → (function : FunctionCode) × ((slice_get functions f ≡ Some function) × (function.parameters ≡ length signature.parameters))
function_there table [] [] f signature typed there = absurd (cc)
function_there table [] (other ∷ signatures) f signature typed there = absurd typed
function_there table (first ∷ functions) [] f signature typed there = absurd typed
function_there table (first ∷ functions) (other ∷ signatures) zero signature typed there = (
  first,
  (
    refl,
    sym typed.0.parameters
        ∙ ap (λ (o : Option Signature). elim o as (λ _. ℕ) [ None ↦ 0 | Some one ↦ length one.parameters ]) there,
  ),
)
function_there table (first ∷ functions) (other ∷ signatures) (suc f) signature typed there =
    function_there table functions signatures f signature typed.1 there

small_there : (functions : List FunctionCode) (f : ℕ) (function : FunctionCode) → AreSmall functions
    → slice_get functions f ≡ Some function → forms function.body ≤ most_forms
small_there [] f function small there = absurd (cc)
small_there (first ∷ functions) zero function small there =
    subst (λ n. n ≤ most_forms) (ap
    (λ (o : Option FunctionCode). elim o as (λ _. ℕ) [ None ↦ 0 | Some other ↦ forms other.body ]) there) small.0.forms
small_there (first ∷ functions) (suc f) function small there = small_there functions f function small.1 there

module _ (positions : PositionTable) (table : Table) (source : List FunctionCode)
    (typed : AreCodesTyped table source table.functions) where
  takes : (f : ℕ) (facts : Facts) (arguments : List ℕ) (ts : List TypeTree) (t : TypeTree) → HaveTypes facts arguments ts
      → slice_get table.functions f ≡ Some (record { parameters = ts; result = t }) → TakesAsMany positions source f arguments
  takes f facts arguments ts t have is =
      let found = function_there table source table.functions f (record { parameters = ts; result = t }) typed is in
      (found.0, (found.1.0, found.1.1 ∙ same_length facts arguments ts have))

  form_takes : (form : Form) (facts : Facts) (arguments : List ℕ) (ts : List TypeTree) (t : TypeTree) → HaveTypes facts arguments ts
      → IsFormTyped table form ts t → FormTakes positions source form arguments
  form_takes (Number n) facts arguments ts t have is = tt
  form_takes Nothing facts arguments ts t have is = tt
  form_takes ReadByte facts arguments ts t have is = tt
  form_takes (PrintText form text) facts arguments ts t have is = tt
  form_takes (Unary operator) facts arguments ts t have is = tt
  form_takes (Binary operator) facts arguments ts t have is = tt
  form_takes (Print form) facts arguments ts t have is = tt
  form_takes (Construct c) facts arguments ts t have is = tt
  form_takes (Call f) facts arguments ts t have is = takes f facts arguments ts t have is

  module _ (lent : List ℕ) where
    mutual
      lends_on : (code : Code) (tail : Bool) (facts : Facts) (t : TypeTree) → HasCodeType table tail facts code t
          → LendsTails positions lent code → LendsOn positions source lent tail code
      lends_on (give x) tail facts t has lends = tt
      lends_on (tail_call f arguments) tail facts t has lends = (has.0, (lends, takes f facts arguments has.1 t has.2 has.3))
      lends_on (case x decisions arms) tail facts t has lends = arms_lend_on arms tail facts x has.0 t has.2 lends
      lends_on (compute x form arguments rest) tail facts t has lends =
          (form_takes form facts arguments has.1 has.0 has.2 has.3, lends_on rest tail _ t has.4 lends)
      lends_on (use_of x rest) tail facts t has lends = lends_on rest tail facts t has.2 lends
      lends_on (unpack x c fields rest) tail facts t has lends = lends_on rest tail _ t has.7 lends
      lends_on (inside x block rest) tail facts t has lends =
          (lends_on block false facts has.0 has.1 lends.0, lends_on rest tail _ t has.2 lends.1)

      arms_lend_on : (arms : Arms) (tail : Bool) (facts : Facts) (x : ℕ) (u t : TypeTree) → AreArmsTyped table tail facts x u arms t
          → AllLendTails positions lent arms → AllLendOn positions source lent tail arms
      arms_lend_on no_arm tail facts x u t has lends = tt
      arms_lend_on (arm pattern body rest) tail facts x u t has lends =
          (lends_on body tail _ t has.1 lends.0, arms_lend_on rest tail facts x u t has.2 lends.1)

pub typed_insertable : (positions : PositionTable) (table : Table) (code : ProgramCode) → IsCoreTyped table code → IsSmall code
    → TailsLendOn positions code → IsInsertable positions code
typed_insertable positions table code typed small lends =
    record {
      each = λ f function there.
          let signed = signature_there table code.functions table.functions f function typed.functions there in
          record {
            ordered = signed.1.1.ordered;
            small = small_there code.functions f function small.functions there;
            tails = lends_on positions table code.functions typed.functions
                (lent_of positions f function) function.body true _ signed.0.result signed.1.1.body (lends f function there);
          };
      main = function_there table code.functions table.functions code.main
          (record { parameters = []; result = _ }) typed.functions typed.main;
    }
