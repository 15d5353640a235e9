-- How much inserted code gains at most: so how many references it spends on a path.
use Rattle.std.proofs.Common.{◌≡◌, ℕ, ◌+◌, ◌*◌, ◌≤◌, ◌||◌, Bool, true, false, List, [], ◌∷◌, length, Some, arith, refl, ap, ◌∙◌}
use Rattle.std.specs.Prelude.{slice_get}
use Rattle.kk_syntax.specs.Shapes.{is_among, without}
use Rattle.kk_syntax.specs.GroundTyping.{Signature, Table, IsFormTyped}
use Rattle.kk_syntax.specs.OfType.{field_types}
use Rattle.kk_syntax.specs.PositionsOf.{PositionTable, is_lent}
use Rattle.kk_syntax.specs.Types.{TypeTree}
use Rattle.kk_syntax.specs.declared.program.Form.{Form}
use Rattle.kk_syntax.specs.declared.program.Form.TheVariants.{Number, Unit as Nothing, ReadByte, PrintText, Unary, Binary, Print, Construct, Call}
use Rattle.kk_core.specs.Codes.{Code, give, tail_call, case, compute, use_of, unpack, inside, Arms, no_arm, arm, FunctionCode}
use Rattle.kk_core.specs.CoreTyping.{Facts, HasCodeType, AreArmsTyped}
use Rattle.kk_core.specs.Sizes.{forms, forms_of_arms, most_parameters}
use Rattle.kk_counted.proofs.ListLengths.{total_ones, filter_few, positions_few}
use Rattle.kk_counted.proofs.OwnedBounds.{few_used}
use Rattle.kk_counted.specs.CountedCodes as Counted
use Rattle.kk_counted.specs.CountBounds.{gains, gains_in}
use Rattle.kk_counted.specs.Spending.{at_positions, numbers_from, is_owned}
use Rattle.kk_insert.specs.Limits.{form_spent}
use Rattle.kk_insert.specs.Insertion.{dups, drops, dropping, common, used, lends, owns, wants, back, opening, lent_of, own, insert, insert_arms, inserted_function}
use Rattle.kk_insert.proofs.Lengths.{wants_few}
use Rattle.kk_insert.proofs.TypedPrograms.{same_length}

-- ---- arguments

pub used_few : (positions : PositionTable) (form : Form) (arguments : List ℕ)
    → length (used positions form arguments) ≤ length arguments
used_few positions form arguments =
    let same = total_ones (used positions form arguments) in
    let few = few_used positions [] form arguments in
    omega (arith, same, few)

pub lends_few : (positions : PositionTable) (form : Form) (arguments : List ℕ)
    → length (lends positions form arguments) ≤ length arguments
lends_few positions (Call f) arguments = positions_few (is_lent positions f) 0 arguments
lends_few positions (Number n) arguments = omega arith
lends_few positions Nothing arguments = omega arith
lends_few positions ReadByte arguments = omega arith
lends_few positions (PrintText form text) arguments = omega arith
lends_few positions (Unary operator) arguments = omega arith
lends_few positions (Binary operator) arguments = omega arith
lends_few positions (Print form) arguments = omega arith
lends_few positions (Construct c) arguments = omega arith

-- ---- dups and drops

dups_gain : (xs : List ℕ) (code : Counted.Counted) → gains (dups xs code) ≡ length xs + gains code
dups_gain [] code = omega arith
dups_gain (x ∷ xs) code = let rest = dups_gain xs code in omega (arith, rest)

drops_gain : (xs : List ℕ) (code : Counted.Counted) → gains (drops xs code) ≡ gains code
drops_gain [] code = refl
drops_gain (x ∷ xs) code = drops_gain xs code

dropping_gains : (all now : List ℕ) (code : Counted.Counted) → gains (dropping all now code) ≡ gains code
dropping_gains all now code = drops_gain (without now all) code

back_gains : (lent given : List ℕ) (x : ℕ) (now : List ℕ) (code : Counted.Counted) → gains (back lent given x now code) ≡ gains code
back_gains lent given x now code =
    dropping_gains (owns lent given (without (x ∷ []) now)) (without (x ∷ []) now) (dropping (x ∷ []) now code)
    ∙ dropping_gains (x ∷ []) now code

opening_gains : (stays : Bool) (x c : ℕ) (now fields : List ℕ) (code : Counted.Counted)
    → gains (opening stays x c fields (common now fields) code) ≤ length fields + gains code
opening_gains true x c now fields code =
    let few = filter_few (is_among now) fields in
    let same = dups_gain (common now fields) code in
    omega (arith, few, same)
opening_gains false x c now fields code = omega arith

-- ---- typed code

-- a program whose functions have few parameters, and whose constructors have no more fields than those
pub record HasFew (table : Table) : Type 0 where
  pub parameters : (f : ℕ) (signature : Signature) → slice_get table.functions f ≡ Some signature → length signature.parameters ≤ most_parameters
  pub fields : (t : TypeTree) (c : ℕ) (us : List TypeTree) → field_types table.constructors t c ≡ Some us → length us ≤ most_parameters

module _ (table : Table) (few : HasFew table) where
  pub form_few : (form : Form) (ts : List TypeTree) (t : TypeTree) → IsFormTyped table form ts t → length ts ≤ most_parameters
  form_few (Number n) ts t is = let none : ts ≡ [] = is.0 in rw none (omega arith)
  form_few Nothing ts t is = let none : ts ≡ [] = is.0 in rw none (omega arith)
  form_few ReadByte ts t is = let none : ts ≡ [] = is.0 in rw none (omega arith)
  form_few (PrintText form text) ts t is = let none : ts ≡ [] = is.0 in rw none (omega arith)
  form_few (Unary operator) ts t is = let one : length ts ≡ 1 = ap length is.0 in omega (arith, one)
  form_few (Binary operator) ts t is = let two : length ts ≡ 2 = ap length is.0 in omega (arith, two)
  form_few (Print form) ts t is = let one : length ts ≡ 1 = ap length is.0 in omega (arith, one)
  form_few (Construct c) ts t is = few.fields t c ts is
  form_few (Call f) ts t is = few.parameters f (record { parameters = ts; result = t }) is

  module _ (positions : PositionTable) (lent : List ℕ) where
    mutual
      gained : (left : List ℕ) (code : Code) (tail : Bool) (facts : Facts) (t : TypeTree) → HasCodeType table tail facts code t
          → gains (insert positions lent left code) ≤ form_spent * forms code
      gained left (give x) tail facts t has =
          let same = dups_gain (wants lent (x ∷ []) left) (Counted.give x) in
          let most = wants_few lent (x ∷ []) left in
          omega (arith, same, most)
      gained left (tail_call f arguments) tail facts t has =
          let same = dups_gain (wants lent (used positions (Call f) arguments) left) (Counted.tail_call f arguments) in
          let most = wants_few lent (used positions (Call f) arguments) left in
          let fewer = used_few positions (Call f) arguments in
          let many = same_length facts arguments has.1 has.2 in
          let eight = few.parameters f (record { parameters = has.1; result = t }) has.3 in
          omega (arith, same, most, fewer, many, eight)
      gained left (case x decisions arms) tail facts t has =
          let each = arms_gained left (own positions lent left (case x decisions arms)) arms tail facts x has.0 t has.2 in
          omega (arith, each)
      gained left (compute x form arguments rest) tail facts t has =
          let now = own positions lent left rest in
          let given = lends positions form arguments in
          let after = owns lent given (without (x ∷ []) now) in
          let code = insert positions lent left rest in
          let same = dups_gain (wants lent (used positions form arguments) after)
          (Counted.compute x form arguments (back lent given x now code)) in
          let most = wants_few lent (used positions form arguments) after in
          let fewer = used_few positions form arguments in
          let many = same_length facts arguments has.1 has.2 in
          let eight = form_few form has.1 has.0 has.3 in
          let behind = back_gains lent given x now code in
          let more = gained left rest tail _ t has.4 in
          omega (arith, same, most, fewer, many, eight, behind, more)
      gained left (use_of x rest) tail facts t has =
          let same = dropping_gains (own positions lent left (use_of x rest)) (own positions lent left rest)
          (insert positions lent left rest) in
          let more = gained left rest tail facts t has.2 in
          omega (arith, same, more)
      gained left (unpack x c fields rest) tail facts t has =
          let now = own positions lent left rest in
          let opens = opening_gains (is_among lent x || is_among now x) x c now fields (insert positions lent left rest) in
          let eight = few.fields has.0 c has.1 has.5 in
          let more = gained left rest tail _ t has.7 in
          omega (arith, opens, eight, has.6, more)
      gained left (inside x block rest) tail facts t has =
          let now = own positions lent left rest in
          let one = gained (without (x ∷ []) now) block false facts has.0 has.1 in
          let two = gained left rest tail _ t has.2 in
          let same = dropping_gains (x ∷ []) now (insert positions lent left rest) in
          omega (arith, one, two, same)

      arms_gained : (left all : List ℕ) (arms : Arms) (tail : Bool) (facts : Facts) (x : ℕ) (u t : TypeTree)
          → AreArmsTyped table tail facts x u arms t
          → gains_in (insert_arms positions lent left all arms) ≤ form_spent * forms_of_arms arms
      arms_gained left all no_arm tail facts x u t has = omega arith
      arms_gained left all (arm pattern body rest) tail facts x u t has =
          let same = dropping_gains all (own positions lent left body) (insert positions lent left body) in
          let one = gained left body tail _ t has.1 in
          let two = arms_gained left all rest tail facts x u t has.2 in
          omega (arith, same, one, two)

  pub function_gains : (positions : PositionTable) (f : ℕ) (function : FunctionCode) (facts : Facts) (t : TypeTree)
      → HasCodeType table true facts function.body t
      → gains (inserted_function positions f function).body ≤ form_spent * forms function.body
  function_gains positions f function facts t has =
      let lent = lent_of positions f function in
      let same = dropping_gains (at_positions (is_owned positions [] f) 0 (numbers_from 0 function.parameters))
      (own positions lent [] function.body) (insert positions lent [] function.body) in
      let most = gained positions lent [] function.body true facts t has in
      omega (arith, same, most)
