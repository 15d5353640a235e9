-- Typed core code is marked, by the types of its variables.
use Rattle.std.proofs.Common.{◌≡◌, ℕ, zero, suc, ◌==◌, ◌||◌, Bool, true, false, List, [], ◌∷◌, map, Option, Some, None, refl, sym, ap, ◌∙◌, subst}
use Rattle.std.specs.List.{list_any}
use Rattle.std.specs.Prelude.{if◌then◌else◌, slice_get, slice_index_or}
use Rattle.kk_core.specs.CellTypes.{has_any, makes_cells, has_cells, made_type}
use Rattle.kk_counted.proofs.CountChanges.{same}
use Rattle.kk_counted.specs.Marks.{parameter_marks, result_mark, field_marks, made_mark, HaveMarks, AreUnmarked, IsFormMarked}
use Rattle.kk_insert.specs.MarkTables.{marks_of_types, AreGround}
use Rattle.kk_syntax.proofs.TypeEquality.{all_same_only}
use Rattle.kk_syntax.specs.GroundTyping.{Table, IsFormTyped, HasTruths}
use Rattle.kk_syntax.specs.OfType.{field_types, fields_of, fields_with, same_types}
use Rattle.kk_syntax.specs.GroundTyping.{Signature}
use Rattle.kk_syntax.specs.Programs.{ConstructorTree}
use Rattle.kk_syntax.specs.Types.{TypeTree, int32, unit_type, type_variable, named, TypeTrees, no_type}
use Rattle.kk_syntax.specs.Typing.{bool, unary_type, binary_type}
use Rattle.kk_syntax.specs.declared.operator.BinaryOperator.{BinaryOperator}
use Rattle.kk_syntax.specs.declared.operator.BinaryOperator.TheVariants.{Add, Subtract, Multiply, Divide, Remainder, Equal, NotEqual, Less, LessEqual, Greater, GreaterEqual}
use Rattle.kk_syntax.specs.declared.operator.UnaryOperator.{UnaryOperator}
use Rattle.kk_syntax.specs.declared.operator.UnaryOperator.TheVariants.{Negate, Not}
use Rattle.kk_syntax.specs.declared.program.Form.{Form}
use Rattle.kk_syntax.specs.declared.program.Form.TheVariants.{Number, Unit as Nothing, ReadByte, PrintText, Unary, Binary, Print, Construct, Call}

-- ---- lists

none_any : {A : Type 0} (test : A → Bool) (xs : List A) → ((i : ℕ) (x : A) → slice_get xs i ≡ Some x → test x ≡ false)
    → list_any test xs ≡ false
none_any test [] each = refl
none_any test (x ∷ xs) each =
    ap (λ t. t || list_any test xs) (each 0 x refl) ∙ none_any test xs (λ i y is. each (suc i) y is)

abbrev OnSome : {A : Type 0} → (A → Type 0) → Option A → Type 0
OnSome P None = Unit {0}
OnSome P (Some x) = P x

abbrev pub of_some : {A B : Type 0} → (A → B) → B → Option A → B
of_some f other None = other
of_some f other (Some x) = f x

some_any : {A : Type 0} (test : A → Bool) (xs : List A) (i : ℕ) (x : A) → slice_get xs i ≡ Some x → test x ≡ true
    → list_any test xs ≡ true
some_any test [] i x there is = absurd (cc)
some_any test (y ∷ ys) zero x there is = ap (λ t. t || list_any test ys) (ap (of_some test false) there ∙ is)
some_any test (y ∷ ys) (suc i) x there is = by_test (test y) (some_any test ys i x there is)
  where
    by_test : (t : Bool) → list_any test ys ≡ true → (t || list_any test ys) ≡ true
    by_test true later = refl
    by_test false later = later

pub mapped_at : {A B : Type 0} (f : A → B) (xs : List A) (i : ℕ) (x : A) (other : B) → slice_get xs i ≡ Some x
    → slice_index_or (map f xs) i other ≡ f x
mapped_at f [] i x other there = absurd (cc)
mapped_at f (y ∷ ys) zero x other there = ap (of_some f other) there
mapped_at f (y ∷ ys) (suc i) x other there = mapped_at f ys i x other there

-- ---- which types have cells

module _ (table : Table) where
  abbrev pub cells : TypeTree → Bool
  cells t = has_cells table.constructors t

  int_none : cells int32 ≡ false
  int_none = none_any (λ c. makes_cells c int32) table.constructors (λ i x is. refl)

  unit_none : cells unit_type ≡ false
  unit_none = none_any (λ c. makes_cells c unit_type) table.constructors (λ i x is. refl)

  bool_none : HasTruths table.constructors → cells bool ≡ false
  bool_none truths = none_any (λ c. makes_cells c bool) table.constructors
      (λ c k there. each c k there (fields_of (Some k) 0 no_type) refl)
    where
      each : (c : ℕ) (k : ConstructorTree) → slice_get table.constructors c ≡ Some k → (found : Option (List TypeTree))
          → fields_of (Some k) 0 no_type ≡ found → has_any found ≡ false
      each c k there None is = refl
      each c k there (Some ts) is =
          let fields : field_types table.constructors bool c ≡ Some ts = ap (λ o. fields_of o 0 no_type) there ∙ is in
          ap has_any (sym fields ∙ truths.truths c (truths.no_others c ts fields))

  unary_none : HasTruths table.constructors → (operator : UnaryOperator) → cells (unary_type operator) ≡ false
  unary_none truths Negate = int_none
  unary_none truths Not = bool_none truths

  binary_none : HasTruths table.constructors → (operator : BinaryOperator) → cells (binary_type operator) ≡ false
  binary_none truths Add = int_none
  binary_none truths Subtract = int_none
  binary_none truths Multiply = int_none
  binary_none truths Divide = int_none
  binary_none truths Remainder = int_none
  binary_none truths Equal = bool_none truths
  binary_none truths NotEqual = bool_none truths
  binary_none truths Less = bool_none truths
  binary_none truths LessEqual = bool_none truths
  binary_none truths Greater = bool_none truths
  binary_none truths GreaterEqual = bool_none truths

  -- a type has cells where a constructor of it has fields
  pub has_some : (t u : TypeTree) (us : List TypeTree) (c : ℕ) → field_types table.constructors t c ≡ Some (u ∷ us) → cells t ≡ true
  has_some int32 u us c is = absurd (cc)
  has_some unit_type u us c is = absurd (cc)
  has_some (type_variable of) u us c is = absurd (cc)
  has_some (named by arguments) u us c is = by_found (slice_get table.constructors c) refl is
    where
      by_found : (found : Option ConstructorTree) → slice_get table.constructors c ≡ found → fields_of found by arguments ≡ Some
          (u ∷ us)
          → cells (named by arguments) ≡ true
      by_found None there fields = absurd (cc)
      by_found (Some k) there fields =
          some_any (λ c. makes_cells c (named by arguments)) table.constructors c k there (ap has_any fields)

  -- a ground constructor makes values of its own type
  record IsMade (t : TypeTree) (ts : List TypeTree) (c : ℕ) : Type 0 where
    made : ConstructorTree
    there : slice_get table.constructors c ≡ Some made
    fields : ts ≡ made.fields
    type : t ≡ made_type made

  is_made : AreGround table.constructors → (t : TypeTree) (ts : List TypeTree) (c : ℕ)
      → field_types table.constructors t c ≡ Some ts
      → IsMade t ts c
  is_made ground int32 ts c is = absurd (cc)
  is_made ground unit_type ts c is = absurd (cc)
  is_made ground (type_variable of) ts c is = absurd (cc)
  is_made ground (named by arguments) ts c is = by_found (slice_get table.constructors c) refl is
    where
      by_same : (k : ConstructorTree) (own : TypeTrees) → slice_get table.constructors c ≡ Some k → k.arguments ≡ Some own
          → k.of_type ≡ by → (t : Bool) → same_types own arguments ≡ t → (if t then Some k.fields else None) ≡ Some ts
          → IsMade (named by arguments) ts c
      by_same k own there arguments_are of_type false same_ones fields = absurd (cc)
      by_same k own there arguments_are of_type true same_ones fields =
          record {
            made = k;
            there = there;
            fields = sym (ap (of_some (λ xs. xs) []) fields);
            type = ap (λ n. named n arguments) (sym of_type)
                ∙ ap (λ us. named k.of_type us) (sym (ap (of_some (λ us. us) no_type) arguments_are
                ∙ all_same_only own arguments same_ones));
          }

      by_type : (k : ConstructorTree) (own : TypeTrees) → slice_get table.constructors c ≡ Some k → k.arguments ≡ Some own
          → (t : Bool) → (k.of_type == by) ≡ t → (if t then fields_with k.arguments k.fields arguments else None) ≡ Some ts
          → IsMade (named by arguments) ts c
      by_type k own there arguments_are false of_type fields = absurd (cc)
      by_type k own there arguments_are true of_type fields =
          by_same k own there arguments_are (same k.of_type by of_type) (same_types own arguments) refl
          (ap (λ o. fields_with o k.fields arguments) (sym arguments_are) ∙ fields)

      by_found : (found : Option ConstructorTree) → slice_get table.constructors c ≡ found → fields_of found by arguments ≡ Some ts
          → IsMade (named by arguments) ts c
      by_found None there fields = absurd (cc)
      by_found (Some k) there fields =
          let own = ground c k there in
          by_type k own.0 there own.1 (k.of_type == by) refl fields

  -- ---- forms

  WithoutCells : List TypeTree → Type 0
  WithoutCells [] = Unit {0}
  WithoutCells (t ∷ ts) = (cells t ≡ false) × WithoutCells ts

  none_marked : (holds : ℕ → Bool) (xs : List ℕ) (ts : List TypeTree) → HaveMarks holds xs (map cells ts) → WithoutCells ts
      → AreUnmarked holds xs
  unfolding WithoutCells
  none_marked holds [] [] have none = tt
  none_marked holds [] (t ∷ ts) have none = absurd have
  none_marked holds (x ∷ xs) [] have none = absurd have
  none_marked holds (x ∷ xs) (t ∷ ts) have none = (have.0 ∙ none.0, none_marked holds xs ts have.1 none.1)

  pub field_marks_are : AreGround table.constructors → (t : TypeTree) (ts : List TypeTree) (c : ℕ)
      → field_types table.constructors t c ≡ Some ts
      → field_marks (marks_of_types table) c ≡ map cells ts
  field_marks_are ground t ts c is =
      let made = is_made ground t ts c is in
      mapped_at (λ (k : ConstructorTree). map cells k.fields) table.constructors c made.made [] made.there ∙ ap (map cells)
      (sym made.fields)

  made_mark_is : AreGround table.constructors → (t : TypeTree) (ts : List TypeTree) (c : ℕ) (xs : List ℕ) (holds : ℕ → Bool)
      → field_types table.constructors t c ≡ Some ts → HaveMarks holds xs (map cells ts) → cells t ≡ made_mark
      (marks_of_types table) c xs
  made_mark_is ground t [] c [] holds is have =
      let made = is_made ground t [] c is in
      ap cells made.type ∙ sym (mapped_at (λ (k : ConstructorTree). cells (made_type k)) table.constructors c made.made false
      made.there)
  made_mark_is ground t [] c (x ∷ xs) holds is have = absurd have
  made_mark_is ground t (u ∷ us) c [] holds is have = absurd have
  made_mark_is ground t (u ∷ us) c (x ∷ xs) holds is have = has_some t u us c is

  pub parameter_marks_are : (f : ℕ) (ts : List TypeTree) (t : TypeTree) → slice_get table.functions f ≡ Some
      (record { parameters = ts; result = t })
      → parameter_marks (marks_of_types table) f ≡ map cells ts
  parameter_marks_are f ts t is =
      mapped_at (λ (signature : Signature). map cells signature.parameters) table.functions f
      (record { parameters = ts; result = t }) [] is

  pub result_mark_is : (f : ℕ) (ts : List TypeTree) (t : TypeTree) → slice_get table.functions f ≡ Some
      (record { parameters = ts; result = t })
      → result_mark (marks_of_types table) f ≡ cells t
  result_mark_is f ts t is =
      mapped_at (λ (signature : Signature). cells signature.result) table.functions f
      (record { parameters = ts; result = t }) false is

  pub form_marked : AreGround table.constructors → HasTruths table.constructors → (holds : ℕ → Bool) (x : ℕ) (form : Form)
      (xs : List ℕ)
      (ts : List TypeTree) (t : TypeTree) → HaveMarks holds xs (map cells ts) → IsFormTyped table form ts t → holds x ≡ cells t
      → IsFormMarked (marks_of_types table) holds form xs (holds x)
  unfolding WithoutCells
  form_marked ground truths holds x (Number n) xs ts t have is mark =
      (none_marked holds xs ts have (subst WithoutCells (sym is.0) tt), mark ∙ (ap cells is.1 ∙ int_none))
  form_marked ground truths holds x Nothing xs ts t have is mark =
      (none_marked holds xs ts have (subst WithoutCells (sym is.0) tt), mark ∙ (ap cells is.1 ∙ unit_none))
  form_marked ground truths holds x ReadByte xs ts t have is mark =
      (none_marked holds xs ts have (subst WithoutCells (sym is.0) tt), mark ∙ (ap cells is.1 ∙ int_none))
  form_marked ground truths holds x (PrintText form text) xs ts t have is mark =
      (none_marked holds xs ts have (subst WithoutCells (sym is.0) tt), mark ∙ (ap cells is.1 ∙ unit_none))
  form_marked ground truths holds x (Unary operator) xs ts t have is mark = (
    none_marked holds xs ts have (subst WithoutCells (sym is.0) (unary_none truths operator, tt)),
    mark ∙
        (ap cells is.1 ∙ unary_none truths operator),
  )
  form_marked ground truths holds x (Binary operator) xs ts t have is mark = (
    none_marked holds xs ts have (subst WithoutCells (sym is.0) (int_none, (int_none, tt))),
    mark ∙
        (ap cells is.1 ∙ binary_none truths operator),
  )
  form_marked ground truths holds x (Print form) xs ts t have is mark =
      (none_marked holds xs ts have (subst WithoutCells (sym is.0) (int_none, tt)), mark ∙ (ap cells is.1 ∙ unit_none))
  form_marked ground truths holds x (Construct c) xs ts t have is mark =
      (subst (HaveMarks holds xs) (sym (field_marks_are ground t ts c is)) have, mark ∙ made_mark_is ground t ts c xs holds is have)
  form_marked ground truths holds x (Call f) xs ts t have is mark =
      (subst (HaveMarks holds xs) (sym (parameter_marks_are f ts t is)) have, mark ∙ sym (result_mark_is f ts t is))
