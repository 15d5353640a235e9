-- How long inserted code is at most, and how many forms it has.
use Rattle.std.proofs.Common.{◌≡◌, ℕ, suc, ◌+◌, ◌*◌, ◌≤◌, ◌||◌, Bool, true, false, not, List, [], ◌∷◌, ◌++◌, length, arith, refl, ap, ◌∙◌}
use Rattle.kk_syntax.specs.Shapes.{is_among, without}
use Rattle.kk_syntax.specs.GroundTyping.{Signature, Table}
use Rattle.kk_syntax.specs.PositionsOf.{PositionTable}
use Rattle.kk_syntax.specs.Types.{TypeTree}
use Rattle.kk_syntax.specs.declared.program.Form.TheVariants.{Call}
use Rattle.kk_core.specs.CaseLengths.{cases_length, arms_cases_length, all_cases_length}
use Rattle.kk_core.specs.Codes.{Code, give, tail_call, case, compute, use_of, unpack, inside, Arms, no_arm, arm, FunctionCode, ProgramCode}
use Rattle.kk_core.specs.CoreTyping.{Facts, HasCodeType, AreArmsTyped, AreCodesTyped, IsCoreTyped, AreSmall, all_forms, IsSmall, typing_parameters}
use Rattle.kk_core.specs.Sizes.{Ordered, OrderedArms, below, forms, forms_of_arms, most_variables, most_program_forms}
use Rattle.kk_counted.proofs.ListLengths.{filter_few, positions_few, numbers_length}
use Rattle.kk_counted.specs.CountedCodes as Counted
use Rattle.kk_counted.specs.Lengths.{form_length, reference_length, most_references, most_length, code_length, arms_length, functions_length, computes, arms_computes, all_computes, forms_in, arms_forms, all_forms_in, AreShort}
use Rattle.kk_counted.specs.Spending.{AreApart, at_positions, numbers_from, is_owned}
use Rattle.kk_insert.specs.Insertion.{dups, drops, dropping, common, used, lends, owns, wants, back, opening, lent_of, own, insert, insert_arms, inserted_functions, inserted}
use Rattle.kk_insert.proofs.VariableBounds.{more_below, filter_below, fields_below, own_below}
use Rattle.kk_insert.proofs.VariableBindings.{AreBelow, one_below, ordered_high, arms_high}
use Rattle.kk_insert.proofs.Gains.{HasFew, form_few, used_few, lends_few}
use Rattle.kk_insert.proofs.Lengths.{wants_few, few_below, before_few}
use Rattle.kk_insert.proofs.OwnedVariables.{own_apart}
use Rattle.kk_insert.proofs.Programs.{below_less}
use Rattle.kk_insert.proofs.Sets.{apart_filter}
use Rattle.kk_insert.proofs.TypedPrograms.{same_length}

-- ---- dups and drops

dups_length : (xs : List ℕ) (code : Counted.Counted)
    → code_length (dups xs code) ≡ reference_length * length xs + code_length code
dups_length [] code = omega arith
dups_length (x ∷ xs) code = let rest = dups_length xs code in omega (arith, rest)

drops_length : (xs : List ℕ) (code : Counted.Counted)
    → code_length (drops xs code) ≡ reference_length * length xs + code_length code
drops_length [] code = omega arith
drops_length (x ∷ xs) code = let rest = drops_length xs code in omega (arith, rest)

dropping_length : (all now : List ℕ) (code : Counted.Counted)
    → code_length (dropping all now code) ≤ reference_length * length all + code_length code
dropping_length all now code =
    let same = drops_length (without now all) code in
    let few = filter_few (λ x. not (is_among now x)) all in
    omega (arith, same, few)

-- a code before which variables of a function are owned
arm_length : (all now : List ℕ) (code : Counted.Counted) → AreApart all → AreBelow all most_variables
    → code_length (dropping all now code) ≤ reference_length * most_variables + code_length code
arm_length all now code apart below =
    let same = dropping_length all now code in let few = few_below most_variables all apart below in omega (arith, same, few)

back_length : (lent given : List ℕ) (x : ℕ) (now : List ℕ) (code : Counted.Counted)
    → code_length (back lent given x now code) ≤ reference_length * (length given + 1) + code_length code
back_length lent given x now code =
    let kept = without (x ∷ []) now in
    let behind = drops_length (without kept (owns lent given kept)) (dropping (x ∷ []) now code) in
    let few = before_few (without lent given) kept in
    let own = filter_few (λ y. not (is_among lent y)) given in
    let one = dropping_length (x ∷ []) now code in
    omega (arith, behind, few, own, one)

opening_length : (stays : Bool) (x c : ℕ) (now fields : List ℕ) (code : Counted.Counted)
    → code_length (opening stays x c fields (common now fields) code)
    ≤ form_length + reference_length * length fields + code_length code
opening_length true x c now fields code =
    let few = filter_few (is_among now) fields in
    let same = dups_length (common now fields) code in
    omega (arith, few, same)
opening_length false x c now fields code = omega arith

-- ---- code

-- a code with so many references of its own to drop before it
abbrev IsShort : Counted.Counted → ℕ → ℕ → Type 0
IsShort code n cases =
    code_length code + reference_length * most_variables ≤ (form_length + reference_length * most_references) * n + cases

module _ (table : Table) (few : HasFew table) (positions : PositionTable) (lent : List ℕ) where
  mutual
    long : (left bound : List ℕ) (low : ℕ) (code : Code) (high : ℕ) (tail : Bool) (facts : Facts) (t : TypeTree)
        → Ordered bound low code high → high ≤ most_variables → AreBelow bound low → AreBelow left most_variables → AreApart left
        → HasCodeType table tail facts code t → IsShort (insert positions lent left code) (forms code) (cases_length code)
    long left bound low (give x) high tail facts t o le under most apart has =
        let same = dups_length (wants lent (x ∷ []) left) (Counted.give x) in
        let one = wants_few lent (x ∷ []) left in
        omega (arith, same, one)
    long left bound low (tail_call f arguments) high tail facts t o le under most apart has =
        let same = dups_length (wants lent (used positions (Call f) arguments) left) (Counted.tail_call f arguments) in
        let wanted = wants_few lent (used positions (Call f) arguments) left in
        let fewer = used_few positions (Call f) arguments in
        let many = same_length facts arguments has.1 has.2 in
        let eight = few.parameters f (record { parameters = has.1; result = t }) has.3 in
        omega (arith, same, wanted, fewer, many, eight)
    long left bound low (case x decisions arms) high tail facts t o le under most apart has =
        let code : Code = case x decisions arms in
        let all = own positions lent left code in
        let each = own_apart positions lent left code apart in
        let less = own_below positions lent most_variables left bound low code high o le under most in
        let arms_are = arms_long left all bound low arms high tail facts x has.0 t o.1 le under most apart each less has.2 in
        omega (arith, arms_are)
    long left bound low (compute x form arguments rest) high tail facts t o le under most apart has =
        let now = own positions lent left rest in
        let given = lends positions form arguments in
        let after = owns lent given (without (x ∷ []) now) in
        let code = insert positions lent left rest in
        let same = dups_length (wants lent (used positions form arguments) after)
        (Counted.compute x form arguments (back lent given x now code)) in
        let wanted = wants_few lent (used positions form arguments) after in
        let fewer = used_few positions form arguments in
        let others = lends_few positions form arguments in
        let many = same_length facts arguments has.1 has.2 in
        let eight = form_few table few form has.1 has.0 has.3 in
        let behind = back_length lent given x now code in
        let later = long left (x ∷ bound) (x + 1) rest high tail _ t o.2 le (λ y is. one_below x low y bound under o.1 is) most
        apart has.4 in
        omega (arith, same, wanted, fewer, others, many, eight, behind, later)
    long left bound low (use_of x rest) high tail facts t o le under most apart has =
        let now = own positions lent left rest in
        let same = drops_length (without now (owns lent (x ∷ []) now)) (insert positions lent left rest) in
        let fewer = before_few (without lent (x ∷ [])) now in
        let one = filter_few (λ y. not (is_among lent y)) (x ∷ []) in
        let later = long left bound low rest high tail facts t o.1 le under most apart has.2 in
        omega (arith, same, fewer, one, later)
    long left bound low (unpack x c fields rest) high tail facts t o le under most apart has =
        let now = own positions lent left rest in
        let opens = opening_length (is_among lent x || is_among now x) x c now fields (insert positions lent left rest) in
        let eight = few.fields has.0 c has.1 has.5 in
        let later = long left (fields ++ bound) o.0 rest high tail _ t o.3 le (fields_below bound low fields o.0 under o.2) most
        apart has.7 in
        omega (arith, opens, eight, has.6, later)
    long left bound low (inside x block rest) high tail facts t o le under most apart has =
        let now = own positions lent left rest in
        let more : low ≤ x = ordered_high bound low block x o.0 in
        let middle : x + 1 ≤ high = ordered_high (x ∷ bound) (x + 1) rest high o.1 in
        let kept = filter_below most_variables (λ z. not (is_among (x ∷ []) z)) now
        (own_below positions lent most_variables left (x ∷ bound) (x + 1) rest high o.1 le
        (λ y is. one_below x low y bound under more is) most) in
        let one = long (without (x ∷ []) now) bound low block x false facts has.0 o.0 (omega (arith, middle, le)) under kept
        (apart_filter (λ z. not (is_among (x ∷ []) z)) now (own_apart positions lent left rest apart)) has.1 in
        let two = long left (x ∷ bound) (x + 1) rest high tail _ t o.1 le
        (λ y is. one_below x low y bound under more is) most apart has.2 in
        let dropped = dropping_length (x ∷ []) now (insert positions lent left rest) in
        omega (arith, one, two, dropped)

    arms_long : (left all bound : List ℕ) (low : ℕ) (arms : Arms) (high : ℕ) (tail : Bool) (facts : Facts) (x : ℕ) (u t : TypeTree)
        → OrderedArms bound low arms high → high ≤ most_variables → AreBelow bound low → AreBelow left most_variables
        → AreApart left → AreApart all → AreBelow all most_variables → AreArmsTyped table tail facts x u arms t
        → arms_length (insert_arms positions lent left all arms)
        ≤ (form_length + reference_length * most_references) * forms_of_arms arms + arms_cases_length arms
    arms_long left all bound low no_arm high tail facts x u t o le under most apart each less has = omega arith
    arms_long left all bound low (arm pattern body rest) high tail facts x u t o le under most apart each less has =
        let more : low ≤ o.0 = ordered_high bound low body o.0 o.1 in
        let middle : o.0 ≤ high = arms_high bound o.0 rest high o.2 in
        let one = arm_length all (own positions lent left body) (insert positions lent left body) each less in
        let first = long left bound low body o.0 tail _ t o.1 (omega (arith, middle, le)) under most apart has.1 in
        let later = arms_long left all bound o.0 rest high tail facts x u t o.2 le (more_below low o.0 bound more under) most
        apart each less has.2 in
        omega (arith, one, first, later)

-- ---- forms

dups_forms : (xs : List ℕ) (code : Counted.Counted) → forms_in (dups xs code) ≡ forms_in code
dups_forms [] code = refl
dups_forms (x ∷ xs) code = dups_forms xs code

drops_forms : (xs : List ℕ) (code : Counted.Counted) → forms_in (drops xs code) ≡ forms_in code
drops_forms [] code = refl
drops_forms (x ∷ xs) code = drops_forms xs code

dropping_forms : (all now : List ℕ) (code : Counted.Counted) → forms_in (dropping all now code) ≡ forms_in code
dropping_forms all now code = drops_forms (without now all) code

back_forms : (lent given : List ℕ) (x : ℕ) (now : List ℕ) (code : Counted.Counted)
    → forms_in (back lent given x now code) ≡ forms_in code
back_forms lent given x now code =
    dropping_forms (owns lent given (without (x ∷ []) now)) (without (x ∷ []) now) (dropping (x ∷ []) now code)
    ∙ dropping_forms (x ∷ []) now code

opening_forms : (stays : Bool) (x c : ℕ) (fields in_use : List ℕ) (code : Counted.Counted)
    → forms_in (opening stays x c fields in_use code) ≡ suc (forms_in code)
opening_forms true x c fields in_use code = ap suc (dups_forms in_use code)
opening_forms false x c fields in_use code = refl

module _ (positions : PositionTable) (lent : List ℕ) where
  mutual
    few_forms : (left : List ℕ) (code : Code) → forms_in (insert positions lent left code) ≤ forms code
    few_forms left (give x) = let same = dups_forms (wants lent (x ∷ []) left) (Counted.give x) in omega (arith, same)
    few_forms left (tail_call f arguments) =
        let same = dups_forms (wants lent (used positions (Call f) arguments) left) (Counted.tail_call f arguments) in
        omega (arith, same)
    few_forms left (case x decisions arms) =
        let each = arms_few left (own positions lent left (case x decisions arms)) arms in omega (arith, each)
    few_forms left (compute x form arguments rest) =
        let now = own positions lent left rest in
        let given = lends positions form arguments in
        let code = insert positions lent left rest in
        let same = dups_forms (wants lent (used positions form arguments) (owns lent given (without (x ∷ []) now)))
        (Counted.compute x form arguments (back lent given x now code)) in
        let behind = back_forms lent given x now code in
        let later = few_forms left rest in
        omega (arith, same, behind, later)
    few_forms left (use_of x rest) =
        let same = dropping_forms (own positions lent left (use_of x rest)) (own positions lent left rest)
        (insert positions lent left rest) in
        let later = few_forms left rest in
        omega (arith, same, later)
    few_forms left (unpack x c fields rest) =
        let now = own positions lent left rest in
        let same = opening_forms (is_among lent x || is_among now x) x c fields (common now fields)
        (insert positions lent left rest) in
        let later = few_forms left rest in
        omega (arith, same, later)
    few_forms left (inside x block rest) =
        let now = own positions lent left rest in
        let one = few_forms (without (x ∷ []) now) block in
        let same = dropping_forms (x ∷ []) now (insert positions lent left rest) in
        let two = few_forms left rest in
        omega (arith, one, same, two)

    arms_few : (left all : List ℕ) (arms : Arms) → arms_forms (insert_arms positions lent left all arms) ≤ forms_of_arms arms
    arms_few left all no_arm = omega arith
    arms_few left all (arm pattern body rest) =
        let same = dropping_forms all (own positions lent left body) (insert positions lent left body) in
        let one = few_forms left body in
        let later = arms_few left all rest in
        omega (arith, same, one, later)

-- those on values are among them
mutual
  computes_few : (code : Counted.Counted) → computes code ≤ forms_in code
  computes_few (Counted.give x) = omega arith
  computes_few (Counted.tail_call f arguments) = omega arith
  computes_few (Counted.case x decisions arms) = omega (arith, arms_compute_few arms)
  computes_few (Counted.compute x form arguments rest) = omega (arith, computes_few rest)
  computes_few (Counted.inside x block rest) = omega (arith, computes_few block, computes_few rest)
  computes_few (Counted.read x c fields rest) = omega (arith, computes_few rest)
  computes_few (Counted.open_cell x c fields in_use rest) = omega (arith, computes_few rest)
  computes_few (Counted.if_unique x c fields in_use rest) = omega (arith, computes_few rest)
  computes_few (Counted.dup x rest) = computes_few rest
  computes_few (Counted.drop x rest) = computes_few rest

  arms_compute_few : (arms : Counted.CountedArms) → arms_computes arms ≤ arms_forms arms
  arms_compute_few Counted.no_arm = omega arith
  arms_compute_few (Counted.arm body rest) = omega (arith, computes_few body, arms_compute_few rest)

all_compute_few : (functions : List Counted.CountedFunction) → all_computes functions ≤ all_forms_in functions
all_compute_few [] = omega arith
all_compute_few (function ∷ functions) = omega (arith, computes_few function.body, all_compute_few functions)

-- ---- functions

module _ (table : Table) (few : HasFew table) (positions : PositionTable) where
  functions_long : (f : ℕ) (functions : List FunctionCode) (signatures : List Signature) → AreCodesTyped table functions signatures
      → AreSmall functions → functions_length (inserted_functions positions f functions)
      ≤ form_length * length functions + (form_length + reference_length * most_references) * all_forms functions
      + all_cases_length functions
  functions_long f [] signatures typed small = omega arith
  functions_long f (function ∷ functions) [] typed small = absurd typed
  functions_long f (function ∷ functions) (signature ∷ signatures) typed small =
      let lent = lent_of positions f function in
      let names = numbers_from 0 function.parameters in
      let first = dropping_length (at_positions (is_owned positions [] f) 0 names) (own positions lent [] function.body)
      (insert positions lent [] function.body) in
      let owned = positions_few (is_owned positions [] f) 0 names in
      let many = numbers_length 0 function.parameters in
      let eight = small.0.parameters in
      let body = long table few positions lent [] (below function.parameters) function.parameters function.body function.variables
      true (typing_parameters 0 signature.parameters []) signature.result typed.0.ordered small.0.variables
      (λ y is. below_less function.parameters y is) (λ y is. absurd (none y is)) tt typed.0.body in
      let later = functions_long (suc f) functions signatures typed.1 small.1 in
      omega (arith, first, owned, many, eight, body, later)
    where
      none : (y : ℕ) → is_among [] y ≡ true → ⊥
      none y is = absurd (cc)

functions_few : (positions : PositionTable) (f : ℕ) (functions : List FunctionCode)
    → all_forms_in (inserted_functions positions f functions) ≤ all_forms functions
functions_few positions f [] = omega arith
functions_few positions f (function ∷ functions) =
    let lent = lent_of positions f function in
    let first = dropping_forms (at_positions (is_owned positions [] f) 0 (numbers_from 0 function.parameters))
    (own positions lent [] function.body) (insert positions lent [] function.body) in
    let body = few_forms positions lent [] function.body in
    let later = functions_few positions (suc f) functions in
    omega (arith, first, body, later)

pub inserted_short : (positions : PositionTable) (table : Table) (code : ProgramCode) → IsCoreTyped table code → IsSmall code
    → HasFew table → AreShort (inserted positions code).functions
inserted_short positions table code typed small few =
    record {
      length = short;
      computes = omega (arith, all_compute_few (inserted positions code).functions, fewer);
      forms = fewer;
    }
  where
    short : functions_length (inserted positions code).functions ≤ most_length
    short =
        let all = functions_long table few positions 0 code.functions table.functions typed.functions small.functions in
        let many = small.few in
        let each = small.all in
        let cases = small.cases in
        omega (arith, all, many, each, cases)

    fewer : all_forms_in (inserted positions code).functions ≤ most_program_forms
    fewer = let all = functions_few positions 0 code.functions in let each = small.all in omega (arith, all, each)
