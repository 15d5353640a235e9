-- Inserted code of a typed program within the limits can be lowered, and spends little on each path.
use Rattle.std.proofs.Common.{◌≡◌, ℕ, zero, suc, ◌+◌, ◌≤◌, Bool, true, false, List, [], ◌∷◌, map, length, Option, Some, None, arith, refl, sym, ap, ◌∙◌, subst}
use Rattle.std.specs.Prelude.{slice_get, if◌then◌else◌, ◌==◌}
use Rattle.std.proofs.lemmas.List.{length-map}
use Rattle.kk_syntax.specs.GroundTyping.{Table}
use Rattle.kk_syntax.specs.OfType.{field_types, fields_of, fields_with, same_types, with_arguments}
use Rattle.kk_syntax.specs.PositionsOf.{PositionTable}
use Rattle.kk_syntax.specs.Programs.{ConstructorTree}
use Rattle.kk_syntax.specs.Types.{TypeTree, TypeTrees, int32, unit_type, type_variable, named}
use Rattle.kk_core.specs.Codes.{FunctionCode, ProgramCode}
use Rattle.kk_core.specs.CoreTyping.{IsCoreTyped, IsFunctionSmall, AreSmall, IsSmall, typing_parameters}
use Rattle.kk_core.specs.Sizes.{most_variables, most_parameters, below}
use Rattle.kk_core.specs.VariableBounds.{HaveVariablesAtMost}
use Rattle.kk_counted.specs.CountBounds.{SpendsAtMost, gains, AllSpendAtMost}
use Rattle.kk_counted.specs.CountedCodes.{CountedFunction}
use Rattle.kk_counted.specs.FunctionSizes.{HasVariablesBelow, AllHaveVariablesBelow}
use Rattle.kk_counted.specs.Lengths.{AreShort}
use Rattle.kk_counted.specs.Lowerable.{IsLowerable, AreLowerable}
use Rattle.kk_counted.specs.Marks.{CellMarks, IsMarked, AreMarked}
use Rattle.kk_counted.specs.Spending.{SpendsParameters, IsSpent}
use Rattle.kk_counted.proofs.GainBounds.{more_spent, function_spends}
use Rattle.kk_insert.specs.Insertion.{inserted_function, inserted_functions, inserted}
use Rattle.kk_insert.specs.Limits.{most_fields, HaveFewFields, most_spent}
use Rattle.kk_insert.specs.MarkTables.{marks_of_types, AreGround}
use Rattle.kk_insert.specs.Promise.{AllHaveRows}
use Rattle.kk_insert.proofs.Gains.{HasFew, function_gains}
use Rattle.kk_insert.proofs.BlockValues.{function_well}
use Rattle.kk_insert.proofs.MarkedPrograms.{typed_is_marked}
use Rattle.kk_insert.proofs.VariableBindings.{ordered_high}
use Rattle.kk_insert.proofs.VariableNumbers.{function_numbered}
use Rattle.kk_insert.proofs.Rows.{function_has_arms}
use Rattle.kk_insert.proofs.LengthBounds.{inserted_short}
use Rattle.kk_insert.proofs.TypedPrograms.{signature_there, function_there}

-- ---- limits

few_with : (own : Option TypeTrees) (fields us : List TypeTree) (arguments : TypeTrees) → length fields ≤ most_fields
    → fields_with own fields arguments ≡ Some us → length us ≤ most_parameters
few_with None fields us arguments few is = by (some is)
  where
    some : Some (map (with_arguments arguments) fields) ≡ Some us → map (with_arguments arguments) fields ≡ us
    some same = cc

    by : map (with_arguments arguments) fields ≡ us → length us ≤ most_parameters
    by same = let long = ap length (sym same) ∙ length-map fields (with_arguments arguments) in omega (arith, long, few)
few_with (Some own) fields us arguments few is = by (same_types own arguments) is
  where
    by : (b : Bool) → (if b then Some fields else None) ≡ Some us → length us ≤ most_parameters
    by true same = let eq : fields ≡ us = cc in let long = ap length (sym eq) in omega (arith, long, few)
    by false same = absurd (cc)

few_of : (constructors : List ConstructorTree) (found : Option ConstructorTree) (c by : ℕ) (arguments : TypeTrees) (us : List TypeTree)
    → slice_get constructors c ≡ found → HaveFewFields constructors → fields_of found by arguments ≡ Some us → length us ≤ most_parameters
few_of constructors None c by arguments us there few is = absurd (cc)
few_of constructors (Some one) c by arguments us there few is = by_type (one.of_type == by) is
  where
    by_type : (b : Bool) → (if b then fields_with one.arguments one.fields arguments else None) ≡ Some us → length us ≤ most_parameters
    by_type true same = few_with one.arguments one.fields us arguments (few c one there) same
    by_type false same = absurd (cc)

few_fields : (constructors : List ConstructorTree) → HaveFewFields constructors → (t : TypeTree) (c : ℕ) (us : List TypeTree)
    → field_types constructors t c ≡ Some us → length us ≤ most_parameters
few_fields constructors few int32 c us is = absurd (cc)
few_fields constructors few unit_type c us is = absurd (cc)
few_fields constructors few (type_variable x) c us is = absurd (cc)
few_fields constructors few (named by arguments) c us is =
    few_of constructors (slice_get constructors c) c by arguments us refl few is

pub small_at : (functions : List FunctionCode) (f : ℕ) (function : FunctionCode) → AreSmall functions
    → slice_get functions f ≡ Some function → IsFunctionSmall function
small_at [] f function small there = absurd (cc)
small_at (first ∷ functions) zero function small there = let same : first ≡ function = cc in subst IsFunctionSmall same small.0
small_at (first ∷ functions) (suc f) function small there = small_at functions f function small.1 there

has_few : (table : Table) (code : ProgramCode) → IsCoreTyped table code → IsSmall code → HaveFewFields table.constructors → HasFew table
has_few table code typed small few =
    record {
      parameters = λ f signature there.
          let function = function_there table code.functions table.functions f signature typed.functions there in
          let most = (small_at code.functions f function.0 small.functions function.1.0).parameters in
          let many = function.1.1 in
          omega (arith, most, many);
      fields = few_fields table.constructors few;
    }

-- ---- an inserted function is that of one that is there

pub inserted_from : (positions : PositionTable) (next f : ℕ) (functions : List FunctionCode) (made : CountedFunction)
    → slice_get (inserted_functions positions next functions) f ≡ Some made
    → (function : FunctionCode) × ((slice_get functions f ≡ Some function) × (inserted_function positions (next + f) function ≡ made))
inserted_from positions next f [] made there = absurd (cc)
inserted_from positions next zero (function ∷ functions) made there =
    (function, (refl, ap (λ n. inserted_function positions n function) {x = next + 0} {y = next} (omega arith) ∙ only there))
  where
    only : Some (inserted_function positions next function) ≡ Some made → inserted_function positions next function ≡ made
    only same = cc
inserted_from positions next (suc f) (function ∷ functions) made there =
    let later = inserted_from positions (suc next) f functions made there in
    (later.0, (later.1.0, ap (λ n. inserted_function positions n later.0) {x = next + suc f} {y = suc next + f} (omega arith) ∙ later.1.1))

pub inserted_at : (positions : PositionTable) (f : ℕ) (functions : List FunctionCode) (made : CountedFunction)
    → slice_get (inserted_functions positions 0 functions) f ≡ Some made
    → (function : FunctionCode) × ((slice_get functions f ≡ Some function) × (inserted_function positions f function ≡ made))
inserted_at positions f functions made there =
    let from = inserted_from positions 0 f functions made there in
    (from.0, (from.1.0, ap (λ n. inserted_function positions n from.0) {x = f} {y = 0 + f} (omega arith) ∙ from.1.1))

module _ (positions : PositionTable) (table : Table) (code : ProgramCode) (typed : IsCoreTyped table code) (small : IsSmall code) where
  pub can_be_lowered : (marks : CellMarks) (holds : ℕ → ℕ → Bool) → AreMarked marks holds (inserted positions code)
      → AllHaveRows code → HaveFewFields table.constructors → AreLowerable marks (inserted positions code).functions
  can_be_lowered marks holds marked rows fields f made there =
      let from = inserted_at positions f code.functions made there in
      let signed = signature_there table code.functions table.functions f from.0 typed.functions from.1.0 in
      let few = small_at code.functions f from.0 small.functions from.1.0 in
      let well = function_well positions table (has_few table code typed small fields) f from.0 (typing_parameters 0 signed.0.parameters []) signed.0.result signed.1.1.body in
      subst (IsLowerable marks f) from.1.1 (record {
        holds = holds f;
        base = most_variables;
        few = omega arith;
        few_parameters = few.parameters;
        marked = subst (IsMarked marks (holds f) f) (sym from.1.1) (marked.each f made there);
        numbered = function_numbered positions f most_variables from.0 signed.1.1.ordered few.variables;
        parameters_below = let most = few.parameters in omega (arith, most);
        arms = function_has_arms positions f from.0 (rows f from.0 from.1.0);
        some_arm = well.1.0;
        gives = well.0;
        arities = well.1.1;
      })

  pub spends_little : HaveFewFields table.constructors → IsSpent positions (inserted positions code)
      → AllSpendAtMost (inserted positions code) most_spent
  spends_little fields spent f made there =
      let from = inserted_at positions f code.functions made there in
      let signed = signature_there table code.functions table.functions f from.0 typed.functions from.1.0 in
      let few = small_at code.functions f from.0 small.functions from.1.0 in
      let facts = typing_parameters 0 signed.0.parameters [] in
      let well = function_well positions table (has_few table code typed small fields) f from.0 facts signed.0.result signed.1.1.body in
      let own = subst (λ (one : CountedFunction). SpendsParameters positions (inserted positions code).functions f one) (sym from.1.1) (spent.each f made there) in
      let most = function_spends positions (inserted positions code).functions f (inserted_function positions f from.0) own well.1.0 in
      let gain = function_gains table (has_few table code typed small fields) positions f from.0 facts signed.0.result signed.1.1.body in
      let parameters = few.parameters in
      let size = few.forms in
      subst (λ (one : CountedFunction). SpendsAtMost one.body most_spent) from.1.1
      (more_spent (inserted_function positions f from.0).body (from.0.parameters + gains (inserted_function positions f from.0).body) most_spent
      (omega (arith, gain, parameters, size)) most)

pub typed_can_be_lowered : (positions : PositionTable) (table : Table) (code : ProgramCode) → IsCoreTyped table code → IsSmall code
    → AllHaveRows code → AreGround table.constructors → HaveFewFields table.constructors
    → AreLowerable (marks_of_types table) (inserted positions code).functions
typed_can_be_lowered positions table code typed small rows ground fields =
    let marked = typed_is_marked positions table ground typed.truths code typed in
    can_be_lowered positions table code typed small (marks_of_types table) marked.0 marked.1 rows fields

pub typed_is_short : (positions : PositionTable) (table : Table) (code : ProgramCode) → IsCoreTyped table code → IsSmall code
    → HaveFewFields table.constructors → AreShort (inserted positions code).functions
typed_is_short positions table code typed small fields =
    inserted_short positions table code typed small (has_few table code typed small fields)

-- it has no more variables than the core code
pub variables_below : (positions : PositionTable) (table : Table) (code : ProgramCode) → IsCoreTyped table code → (most : ℕ)
    → HaveVariablesAtMost most code → AllHaveVariablesBelow most (inserted positions code).functions
variables_below positions table code typed most few f made there =
    let from = inserted_at positions f code.functions made there in
    let signed = signature_there table code.functions table.functions f from.0 typed.functions from.1.0 in
    let ordered = signed.1.1.ordered in
    let le = few f from.0 from.1.0 in
    let high = ordered_high (below from.0.parameters) from.0.parameters from.0.body from.0.variables ordered in
    subst (HasVariablesBelow most) from.1.1 (record {
      parameters = omega (arith, high, le);
      numbered = function_numbered positions f most from.0 ordered le;
    })
