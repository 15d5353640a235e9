-- The marks that are found are those of a function whose variables are marked: so it is marked by them.
use Rattle.std.proofs.Common.{
  ◌≡◌,
  ℕ,
  zero,
  suc,
  ◌<◌,
  ◌≤◌,
  ◌==◌,
  ◌⊎◌,
  inl,
  inr,
  Bool,
  true,
  false,
  List,
  [],
  ◌∷◌,
  ◌++◌,
  length,
  Option,
  Some,
  None,
  refl,
  sym,
  ap,
  subst,
  ◌∙◌,
  arith,
  append_assoc,
  append-nil,
  length-append,
}
use Rattle.std.proofs.lemmas.Bool.{or_cases, or_left, or_right, eqb-true, cases_eq, eq-eqb, false≢true}
use Rattle.kk_core.specs.Sizes.{AreBound, most_variables}
use Rattle.kk_syntax.specs.Shapes.{is_among}
use Rattle.kk_syntax.specs.declared.program.Form.{Form}
use Rattle.kk_syntax.specs.declared.program.Form.TheVariants.{
  Number,
  Unit as Nothing,
  ReadByte,
  PrintText,
  Unary,
  Binary,
  Print,
  Construct,
  Call,
}
use Rattle.kk_counted.specs.CountedCodes.{
  Counted,
  give,
  tail_call,
  case,
  compute,
  inside,
  read,
  open_cell,
  if_unique,
  dup,
  drop,
  CountedArms,
  no_arm,
  arm,
  CountedFunction,
}
use Rattle.kk_counted.specs.Marks.{
  CellMarks,
  parameter_marks,
  result_mark,
  field_marks,
  HaveMarks,
  AreUnmarked,
  IsFormMarked,
  HasMark,
  HaveMark,
  Opens,
  IsMarked,
}
use Rattle.kk_counted.specs.Spending.{numbers_from}
use Rattle.kk_counted.specs.FunctionSizes.{HasVariablesBelow}
use Rattle.kk_counted.specs.Lowerable.{AreBelow, AreNumbered, AreArmsNumbered, first_of, given_by, given_by_arms, BlocksGive, BlocksOfArmsGive, IsLowerable}
use Rattle.rv_cells.specs.Marking.{marked, all_marked, mark_given, mark_of_form, marks_behind, marks_behind_arms, function_marks, holds_in}

-- ---- one mark

pub marked_length : (x : ℕ) (mark : Bool) (marks : List Bool)
    → (length marks ≤ length (marked x mark marks)) × (x < length (marked x mark marks))
marked_length zero mark [] = (omega arith, omega arith)
marked_length zero mark (old ∷ marks) = (omega arith, omega arith)
marked_length (suc x) mark [] = let more = marked_length x mark [] in (omega arith, omega (arith, more.1))
marked_length (suc x) mark (old ∷ marks) = let more = marked_length x mark marks in (omega (arith, more.0), omega (arith, more.1))

pub marked_here : (x : ℕ) (mark : Bool) (marks : List Bool) → holds_in (marked x mark marks) x ≡ mark
marked_here zero mark [] = refl
marked_here zero mark (old ∷ marks) = refl
marked_here (suc x) mark [] = marked_here x mark []
marked_here (suc x) mark (old ∷ marks) = marked_here x mark marks

holds_none : (y : ℕ) → holds_in [] y ≡ false
holds_none zero = refl
holds_none (suc y) = refl

pub marked_other : (x y : ℕ) (mark : Bool) (marks : List Bool) → (x ≡ y → ⊥) → holds_in (marked x mark marks) y ≡ holds_in marks y
marked_other zero zero mark marks other = absurd (other refl)
marked_other zero (suc y) mark [] other = holds_none y
marked_other zero (suc y) mark (old ∷ marks) other = refl
marked_other (suc x) zero mark [] other = refl
marked_other (suc x) zero mark (old ∷ marks) other = refl
marked_other (suc x) (suc y) mark [] other = marked_other x y mark [] (λ same. other (ap suc same)) ∙ holds_none y
marked_other (suc x) (suc y) mark (old ∷ marks) other = marked_other x y mark marks (λ same. other (ap suc same))

module _ (holds : ℕ → Bool) where
  -- a variable has its mark
  abbrev pub IsRight : List Bool → ℕ → Type 0
  IsRight marks y = (y < length marks) × (holds_in marks y ≡ holds y)

  -- bound variables have their marks
  abbrev pub AreRight : List Bool → List ℕ → Type 0
  AreRight marks bound = (y : ℕ) → is_among bound y ≡ true → IsRight marks y

  -- what has its mark keeps it
  abbrev pub Keeps : List Bool → List Bool → Type 0
  Keeps marks later = (length marks ≤ length later) × ((y : ℕ) → IsRight marks y → IsRight later y)

  keeps_all : (marks : List Bool) → Keeps marks marks
  keeps_all marks = (omega arith, λ y is. is)

  keeps_then : (a b c : List Bool) → Keeps a b → Keeps b c → Keeps a c
  keeps_then a b c first second = (omega (arith, first.0, second.0), λ y is. second.1 y (first.1 y is))

  right_keeps : (a b : List Bool) (bound : List ℕ) → Keeps a b → AreRight a bound → AreRight b bound
  right_keeps a b bound keeps right y among = keeps.1 y (right y among)

  -- a variable gets its mark
  keeps_marked : (x : ℕ) (mark : Bool) (marks : List Bool) → mark ≡ holds x → Keeps marks (marked x mark marks)
  keeps_marked x mark marks is = (long.0, λ y right. (omega (arith, right.0, long.0), by y right (cases_eq x y)))
    where
      long : (length marks ≤ length (marked x mark marks)) × (x < length (marked x mark marks))
      long = marked_length x mark marks

      by : (y : ℕ) → IsRight marks y → (x ≡ y) ⊎ (x ≡ y → ⊥) → holds_in (marked x mark marks) y ≡ holds y
      by y right (inl same) = subst (λ z. holds_in (marked x mark marks) z ≡ holds z) same (marked_here x mark marks ∙ is)
      by y right (inr other) = marked_other x y mark marks other ∙ right.1

  right_marked : (x : ℕ) (mark : Bool) (marks : List Bool) → mark ≡ holds x → IsRight (marked x mark marks) x
  right_marked x mark marks is = ((marked_length x mark marks).1, marked_here x mark marks ∙ is)

  right_more : (marks : List Bool) (x : ℕ) (bound : List ℕ) → IsRight marks x → AreRight marks bound → AreRight marks (x ∷ bound)
  right_more marks x bound one right y among = by (or_cases (x == y) (is_among bound y) among)
    where
      by : ((x == y) ≡ true) ⊎ (is_among bound y ≡ true) → IsRight marks y
      by (inl same) = subst (IsRight marks) (eqb-true x y same) one
      by (inr later) = right y later

  -- fields get their marks
  module _ (table : CellMarks) where
    fields_keep : (xs : List ℕ) (each : List Bool) (marks : List Bool) → HaveMarks holds xs each
        → Keeps marks (all_marked xs each marks)
    fields_keep [] each marks have = keeps_all marks
    fields_keep (x ∷ xs) [] marks have = absurd have
    fields_keep (x ∷ xs) (mark ∷ each) marks have =
        keeps_then marks (marked x mark marks) (all_marked xs each (marked x mark marks)) (keeps_marked x mark marks (sym have.0))
        (fields_keep xs each (marked x mark marks) have.1)

    fields_right : (xs bound : List ℕ) (each : List Bool) (marks : List Bool) → HaveMarks holds xs each → AreRight marks bound
        → AreRight (all_marked xs each marks) (xs ++ bound)
    fields_right [] bound each marks have right = right
    fields_right (x ∷ xs) bound [] marks have right = absurd have
    fields_right (x ∷ xs) bound (mark ∷ each) marks have right =
        right_more (all_marked xs each (marked x mark marks)) x (xs ++ bound)
        ((fields_keep xs each (marked x mark marks) have.1).1 x (right_marked x mark marks (sym have.0)))
        (fields_right xs bound each (marked x mark marks) have.1
        (right_keeps marks (marked x mark marks) bound (keeps_marked x mark marks (sym have.0)) right))

    form_mark : (form : Form) (arguments : List ℕ) (mark : Bool) → IsFormMarked table holds form arguments mark
        → mark_of_form table form arguments ≡ mark
    form_mark (Construct c) arguments mark is = sym is.1
    form_mark (Call f) arguments mark is = sym is.1
    form_mark (Number n) arguments mark is = sym is.1
    form_mark Nothing arguments mark is = sym is.1
    form_mark ReadByte arguments mark is = sym is.1
    form_mark (PrintText form text) arguments mark is = sym is.1
    form_mark (Unary operator) arguments mark is = sym is.1
    form_mark (Binary operator) arguments mark is = sym is.1
    form_mark (Print form) arguments mark is = sym is.1

    module _ (result : Bool) where
      -- What the marks behind a code keep, and that what it gives has its mark.
      record Found (given : Bool) (from : Option ℕ) (marks behind : List Bool) : Type 0 where
        keeps : Keeps marks behind
        tells : (v : ℕ) → from ≡ Some v → IsRight behind v × (holds v ≡ given)

      none_is : (v : ℕ) → None ≡ Some v → ⊥
      none_is v is = grind (arith, is)

      given_mark : (marks : List Bool) (from : Option ℕ) {mark : Bool} (v : ℕ) → from ≡ Some v → IsRight marks v → holds v ≡ mark
          → mark_given from marks ≡ mark
      given_mark marks from {mark} v is right same = subst (λ o. mark_given o marks ≡ mark) (sym is) (right.1 ∙ same)

      both : (first second : Option ℕ) (given : Bool) (a b c : List Bool) → Found given first a b
          → (Keeps a b → Found given second b c) → Found given (first_of first second) a c
      both (Some x) second given a b c one other = record {
        keeps = keeps_then a b c one.keeps (other one.keeps).keeps;
        tells = λ v is. let known = one.tells v is in ((other one.keeps).keeps.1 v known.0, known.1);
      }
      both None second given a b c one other = record {
        keeps = keeps_then a b c one.keeps (other one.keeps).keeps;
        tells =
            (other one.keeps).tells;
      }

      behind_mark : (given : Bool) (from : Option ℕ) (x : ℕ) (mark : Bool) (a c : List Bool) → mark ≡ holds x
          → Found given from (marked x mark a) c → Found given from a c
      behind_mark given from x mark a c is later = record {
        keeps = keeps_then a (marked x mark a) c (keeps_marked x mark a is)
            later.keeps;
        tells = later.tells;
      }

      behind_fields : (given : Bool) (from : Option ℕ) (xs : List ℕ) (each : List Bool) (a c : List Bool) → HaveMarks holds xs each
          → Found given from (all_marked xs each a) c → Found given from a c
      behind_fields given from xs each a c have later = record
          { keeps = keeps_then a (all_marked xs each a) c (fields_keep xs each a have) later.keeps; tells = later.tells }

      mutual
        found : (code : Counted) (bound : List ℕ) (given : Bool) (marks : List Bool) → HasMark table holds result bound given code
            → BlocksGive code → AreRight marks bound
            → Found given (given_by code) marks (marks_behind table code marks)
        found (give x) bound given marks has gives right = record {
          keeps = keeps_all marks;
          tells = λ v is. let same : x ≡ v = grind (arith, is) in subst (λ z. IsRight marks z × (holds z ≡ given)) same
              (right x has.0, has.1);
        }
        found (tail_call f arguments) bound given marks has gives right = record
            { keeps = keeps_all marks; tells = λ v is. absurd (none_is v is) }
        found (case x decisions arms) bound given marks has gives right = found_arms arms bound given marks has.1 gives right
        found (compute x form arguments rest) bound given marks has gives right =
            behind_mark given (given_by rest) x (mark_of_form table form arguments) marks
            (marks_behind table rest (marked x (mark_of_form table form arguments) marks))
            (form_mark form arguments (holds x) has.1.0)
            (found rest (x ∷ bound) given (marked x (mark_of_form table form arguments) marks) has.1.1 gives
            (right_more (marked x (mark_of_form table form arguments) marks) x bound
            (right_marked x (mark_of_form table form arguments) marks (form_mark form arguments (holds x) has.1.0))
            (right_keeps marks (marked x (mark_of_form table form arguments) marks) bound
            (keeps_marked x (mark_of_form table form arguments) marks (form_mark form arguments (holds x) has.1.0)) right)))
        found (inside x block rest) bound given marks has gives right =
            let inner : List Bool = marks_behind table block marks in
            let mark : Bool = mark_given (given_by block) inner in
            let part = found block bound (holds x) marks has.0 gives.1.1.0 right in
            let is : mark ≡ holds x = given_mark inner (given_by block) gives.0 gives.1.0 (part.tells gives.0 gives.1.0).0
            (part.tells gives.0 gives.1.0).1 in
            let right_there : AreRight inner bound = right_keeps marks inner bound part.keeps right in
            let after = found rest (x ∷ bound) given (marked x mark inner) has.1 gives.1.1.1
            (right_more (marked x mark inner) x bound (right_marked x mark inner is)
            (right_keeps inner (marked x mark inner) bound (keeps_marked x mark inner is) right_there)) in
            record {
              keeps = keeps_then marks inner (marks_behind table rest (marked x mark inner)) part.keeps
                  (keeps_then inner (marked x mark inner) (marks_behind table rest (marked x mark inner))
                  (keeps_marked x mark inner is) after.keeps);
              tells = after.tells;
            }
        found (read x c fields rest) bound given marks has gives right =
            behind_fields given (given_by rest) fields (field_marks table c) marks
            (marks_behind table rest (all_marked fields (field_marks table c) marks)) has.0.1.1
            (found rest (fields ++ bound) given (all_marked fields (field_marks table c) marks) has.1 gives
            (fields_right fields bound (field_marks table c) marks has.0.1.1 right))
        found (open_cell x c fields used rest) bound given marks has gives right =
            behind_fields given (given_by rest) fields (field_marks table c) marks
            (marks_behind table rest (all_marked fields (field_marks table c) marks)) has.0.1.1
            (found rest (fields ++ bound) given (all_marked fields (field_marks table c) marks) has.1 gives
            (fields_right fields bound (field_marks table c) marks has.0.1.1 right))
        found (if_unique x c fields used rest) bound given marks has gives right =
            behind_fields given (given_by rest) fields (field_marks table c) marks
            (marks_behind table rest (all_marked fields (field_marks table c) marks)) has.0.1.1
            (found rest (fields ++ bound) given (all_marked fields (field_marks table c) marks) has.1 gives
            (fields_right fields bound (field_marks table c) marks has.0.1.1 right))
        found (dup x rest) bound given marks has gives right = found rest bound given marks has.1 gives right
        found (drop x rest) bound given marks has gives right = found rest bound given marks has.1 gives right

        found_arms : (arms : CountedArms) (bound : List ℕ) (given : Bool) (marks : List Bool)
            → HaveMark table holds result bound given arms → BlocksOfArmsGive arms → AreRight marks bound
            → Found given (given_by_arms arms) marks (marks_behind_arms table arms marks)
        found_arms no_arm bound given marks has gives right = record
            { keeps = keeps_all marks; tells = λ v is. absurd (none_is v is) }
        found_arms (arm body rest) bound given marks has gives right =
            both (given_by body) (given_by_arms rest) given marks (marks_behind table body marks)
            (marks_behind_arms table rest (marks_behind table body marks))
            (found body bound given marks has.0 gives.0 right)
            (λ keeps. found_arms rest bound given (marks_behind table body marks) has.1 gives.1
            (right_keeps marks (marks_behind table body marks) bound keeps right))

  -- ---- code by the marks at last

  module _ (last : List Bool) where
    abbrev AllRight : List ℕ → Type 0
    AllRight [] = Unit {0}
    AllRight (x ∷ xs) = IsRight last x × AllRight xs

    right_of_bound : (bound xs : List ℕ) → AreRight last bound → AreBound bound xs → AllRight xs
    right_of_bound bound [] right are = tt
    right_of_bound bound (x ∷ xs) right are = (right x are.0, right_of_bound bound xs right are.1)

    right_of_first : (xs bound : List ℕ) → AreRight last (xs ++ bound) → AllRight xs
    right_of_first [] bound right = tt
    right_of_first (x ∷ xs) bound right = (
      right x (or_left (x == x) (is_among (xs ++ bound) x) (eq-eqb x x refl)),
      right_of_first xs bound
          (λ y among. right y (or_right (x == y) (is_among (xs ++ bound) y) among)),
    )

    have_same : (xs : List ℕ) (each : List Bool) → AllRight xs → HaveMarks holds xs each → HaveMarks (holds_in last) xs each
    have_same [] [] right have = tt
    have_same [] (mark ∷ each) right have = absurd have
    have_same (x ∷ xs) [] right have = absurd have
    have_same (x ∷ xs) (mark ∷ each) right have = (right.0.1 ∙ have.0, have_same xs each right.1 have.1)

    unmarked_same : (xs : List ℕ) → AllRight xs → AreUnmarked holds xs → AreUnmarked (holds_in last) xs
    unmarked_same [] right are = tt
    unmarked_same (x ∷ xs) right are = (right.0.1 ∙ are.0, unmarked_same xs right.1 are.1)

    below_all : (xs : List ℕ) → AllRight xs → AreBelow (length last) xs
    below_all [] right = tt
    below_all (x ∷ xs) right = (right.0.0, below_all xs right.1)

    module _ (table : CellMarks) where
      form_same : (form : Form) (arguments : List ℕ) (mark mark_too : Bool) → mark ≡ mark_too → AllRight arguments
          → IsFormMarked table holds form arguments mark
          → IsFormMarked table (holds_in last) form arguments mark_too
      form_same (Construct c) arguments mark mark_too same right is =
          (have_same arguments (field_marks table c) right is.0, sym same ∙ is.1)
      form_same (Call f) arguments mark mark_too same right is =
          (have_same arguments (parameter_marks table f) right is.0, sym same ∙ is.1)
      form_same (Number n) arguments mark mark_too same right is = (unmarked_same arguments right is.0, sym same ∙ is.1)
      form_same Nothing arguments mark mark_too same right is = (unmarked_same arguments right is.0, sym same ∙ is.1)
      form_same ReadByte arguments mark mark_too same right is = (unmarked_same arguments right is.0, sym same ∙ is.1)
      form_same (PrintText form text) arguments mark mark_too same right is = (unmarked_same arguments right is.0, sym same ∙ is.1)
      form_same (Unary operator) arguments mark mark_too same right is = (unmarked_same arguments right is.0, sym same ∙ is.1)
      form_same (Binary operator) arguments mark mark_too same right is = (unmarked_same arguments right is.0, sym same ∙ is.1)
      form_same (Print form) arguments mark mark_too same right is = (unmarked_same arguments right is.0, sym same ∙ is.1)

      module _ (result : Bool) where
        -- the code is marked by them, and its variables are numbered below their number
        abbrev IsNow : List ℕ → Bool → Counted → Type 0
        IsNow bound given code = HasMark table (holds_in last) result bound given code ×
            ((base : ℕ) → AreNumbered base bound code → AreNumbered (length last) bound code)

        abbrev AreNow : List ℕ → Bool → CountedArms → Type 0
        AreNow bound given arms = HaveMark table (holds_in last) result bound given arms ×
            ((base : ℕ) → AreArmsNumbered base bound arms → AreArmsNumbered (length last) bound arms)

        -- the fields of a cell are taken
        now_fields : (x c : ℕ) (fields : List ℕ) (rest : Counted) (bound : List ℕ) (given : Bool) (marks : List Bool)
            → Opens table holds bound x c fields
            → HasMark table holds result (fields ++ bound) given rest → BlocksGive rest → AreRight marks bound
            → Keeps (marks_behind table rest (all_marked fields (field_marks table c) marks)) last
            → (AreRight (all_marked fields (field_marks table c) marks) (fields ++ bound) → IsNow (fields ++ bound) given rest)
            → IsNow bound given (read x c fields rest)
        now_fields x c fields rest bound given marks opens has gives right keeps behind =
            let each : List Bool = field_marks table c in
            let there : List Bool = all_marked fields each marks in
            let right_there : AreRight there (fields ++ bound) = fields_right table fields bound each marks opens.1.1 right in
            let after = found table result rest (fields ++ bound) given there has gives right_there in
            let keeps_there : Keeps there last = keeps_then there (marks_behind table rest there) last after.keeps keeps in
            let later = behind right_there in
            let all : AllRight fields = right_of_first fields bound
            (right_keeps there last (fields ++ bound) keeps_there right_there) in
            let cell : IsRight last x = keeps_there.1 x ((fields_keep table fields each marks opens.1.1).1 x (right x opens.0)) in (
              ((opens.0, (cell.1 ∙ opens.1.0, have_same fields each all opens.1.1)), later.0),
              λ base is. ((below_all fields all, is.0.1), later.1 base is.1),
            )

        mutual
          now : (code : Counted) (bound : List ℕ) (given : Bool) (marks : List Bool) → HasMark table holds result bound given code
              → BlocksGive code → AreRight marks bound
              → Keeps (marks_behind table code marks) last → IsNow bound given code
          now (give x) bound given marks has gives right keeps = ((has.0, (keeps.1 x (right x has.0)).1 ∙ has.1), λ base is. is)
          now (tail_call f arguments) bound given marks has gives right keeps = (
            (
              has.0,
              (
                have_same arguments (parameter_marks table f)
                    (right_of_bound bound arguments (right_keeps marks last bound keeps right) has.0) has.1.0,
                has.1.1,
              ),
            ),
            λ base is.
                is,
          )
          now (case x decisions arms) bound given marks has gives right keeps =
              let all = now_arms arms bound given marks has.1 gives right keeps in ((has.0, all.0), all.1)
          now (compute x form arguments rest) bound given marks has gives right keeps =
              let mark : Bool = mark_of_form table form arguments in
              let is_mark : mark ≡ holds x = form_mark table form arguments (holds x) has.1.0 in
              let there : List Bool = marked x mark marks in
              let right_there : AreRight there (x ∷ bound) = right_more there x bound (right_marked x mark marks is_mark)
              (right_keeps marks there bound (keeps_marked x mark marks is_mark) right) in
              let after = found table result rest (x ∷ bound) given there has.1.1 gives right_there in
              let keeps_there : Keeps there last = keeps_then there (marks_behind table rest there) last after.keeps keeps in
              let later = now rest (x ∷ bound) given there has.1.1 gives right_there keeps in
              let one : IsRight last x = keeps_there.1 x (right_marked x mark marks is_mark) in
              let all : AllRight arguments = right_of_bound bound arguments
              (λ y among. keeps_there.1 y (right_keeps marks there bound (keeps_marked x mark marks is_mark) right y among))
              has.0 in (
                (has.0, (form_same form arguments (holds x) (holds_in last x) (sym one.1) all has.1.0, later.0)),
                λ base is.
                    (one.0, (is.1.0, later.1 base is.1.1)),
              )
          now (inside x block rest) bound given marks has gives right keeps =
              let inner : List Bool = marks_behind table block marks in
              let mark : Bool = mark_given (given_by block) inner in
              let part = found table result block bound (holds x) marks has.0 gives.1.1.0 right in
              let is_mark : mark ≡ holds x = given_mark table result inner (given_by block) gives.0 gives.1.0
              (part.tells gives.0 gives.1.0).0 (part.tells gives.0 gives.1.0).1 in
              let there : List Bool = marked x mark inner in
              let right_inner : AreRight inner bound = right_keeps marks inner bound part.keeps right in
              let right_there : AreRight there (x ∷ bound) = right_more there x bound (right_marked x mark inner is_mark)
              (right_keeps inner there bound (keeps_marked x mark inner is_mark) right_inner) in
              let after = found table result rest (x ∷ bound) given there has.1 gives.1.1.1 right_there in
              let keeps_there : Keeps there last = keeps_then there (marks_behind table rest there) last after.keeps keeps in
              let keeps_inner : Keeps inner last = keeps_then inner there last (keeps_marked x mark inner is_mark) keeps_there in
              let one : IsRight last x = keeps_there.1 x (right_marked x mark inner is_mark) in
              let own = now block bound (holds x) marks has.0 gives.1.1.0 right keeps_inner in
              let later = now rest (x ∷ bound) given there has.1 gives.1.1.1 right_there keeps in (
                (subst (λ m. HasMark table (holds_in last) result bound m block) (sym one.1) own.0, later.0),
                λ base is.
                    (one.0, (own.1 base is.1.0, later.1 base is.1.1)),
              )
          now (read x c fields rest) bound given marks has gives right keeps = now_fields x c fields rest bound given marks has.0
              has.1 gives right keeps (λ there. now rest (fields ++ bound) given (all_marked fields (field_marks table c) marks)
              has.1 gives there keeps)
          now (open_cell x c fields used rest) bound given marks has gives right keeps = now_fields x c fields rest bound given
              marks has.0 has.1 gives right keeps (λ there. now rest (fields ++ bound) given
              (all_marked fields (field_marks table c) marks) has.1 gives there keeps)
          now (if_unique x c fields used rest) bound given marks has gives right keeps = now_fields x c fields rest bound given
              marks has.0 has.1 gives right keeps (λ there. now rest (fields ++ bound) given
              (all_marked fields (field_marks table c) marks) has.1 gives there keeps)
          now (dup x rest) bound given marks has gives right keeps =
              let later = now rest bound given marks has.1 gives right keeps in ((has.0, later.0), later.1)
          now (drop x rest) bound given marks has gives right keeps =
              let later = now rest bound given marks has.1 gives right keeps in ((has.0, later.0), later.1)

          now_arms : (arms : CountedArms) (bound : List ℕ) (given : Bool) (marks : List Bool)
              → HaveMark table holds result bound given arms → BlocksOfArmsGive arms → AreRight marks bound
              → Keeps (marks_behind_arms table arms marks) last → AreNow bound given arms
          now_arms no_arm bound given marks has gives right keeps = (tt, λ base is. is)
          now_arms (arm body rest) bound given marks has gives right keeps =
              let first = found table result body bound given marks has.0 gives.0 right in
              let middle : List Bool = marks_behind table body marks in
              let right_there : AreRight middle bound = right_keeps marks middle bound first.keeps right in
              let second = found_arms table result rest bound given middle has.1 gives.1 right_there in
              let one = now body bound given marks has.0 gives.0 right
              (keeps_then middle (marks_behind_arms table rest middle) last second.keeps keeps) in
              let others = now_arms rest bound given middle has.1 gives.1 right_there keeps in
              ((one.0, others.0), λ base is. (one.1 base is.0, others.1 base is.1))

-- ---- how many marks there are

marked_short : (base x : ℕ) (mark : Bool) (marks : List Bool) → x < base → length marks ≤ base
    → length (marked x mark marks) ≤ base
marked_short zero x mark marks less short = absurd (omega (arith, less))
marked_short (suc base) zero mark [] less short = omega arith
marked_short (suc base) zero mark (old ∷ marks) less short = short
marked_short (suc base) (suc x) mark [] less short =
    let more = marked_short base x mark [] (omega (arith, less)) (omega arith) in omega (arith, more)
marked_short (suc base) (suc x) mark (old ∷ marks) less short =
    let more = marked_short base x mark marks (omega (arith, less)) (omega (arith, short)) in omega (arith, more)

fields_short : (base : ℕ) (xs : List ℕ) (each marks : List Bool) → AreBelow base xs → length marks ≤ base
    → length (all_marked xs each marks) ≤ base
fields_short base [] each marks below short = short
fields_short base (x ∷ xs) [] marks below short = short
fields_short base (x ∷ xs) (mark ∷ each) marks below short =
    fields_short base xs each (marked x mark marks) below.1 (marked_short base x mark marks below.0 short)

module _ (table : CellMarks) (base : ℕ) where
  mutual
    -- the marks behind a code are of variables below its bound
    behind_short : (code : Counted) (bound : List ℕ) (marks : List Bool) → AreNumbered base bound code → length marks ≤ base
        → length (marks_behind table code marks) ≤ base
    behind_short (give x) bound marks is short = short
    behind_short (tail_call f arguments) bound marks is short = short
    behind_short (case x decisions arms) bound marks is short = arms_short arms bound marks is short
    behind_short (compute x form arguments rest) bound marks is short =
        behind_short rest (x ∷ bound) (marked x (mark_of_form table form arguments) marks) is.1.1
        (marked_short base x (mark_of_form table form arguments) marks is.0 short)
    behind_short (inside x block rest) bound marks is short =
        let inner : List Bool = marks_behind table block marks in
        behind_short rest (x ∷ bound) (marked x (mark_given (given_by block) inner) inner) is.1.1
        (marked_short base x (mark_given (given_by block) inner) inner is.0 (behind_short block bound marks is.1.0 short))
    behind_short (read x c fields rest) bound marks is short =
        behind_short rest (fields ++ bound) (all_marked fields (field_marks table c) marks) is.1
        (fields_short base fields (field_marks table c) marks is.0.0 short)
    behind_short (open_cell x c fields used rest) bound marks is short =
        behind_short rest (fields ++ bound) (all_marked fields (field_marks table c) marks) is.1
        (fields_short base fields (field_marks table c) marks is.0.0 short)
    behind_short (if_unique x c fields used rest) bound marks is short =
        behind_short rest (fields ++ bound) (all_marked fields (field_marks table c) marks) is.1
        (fields_short base fields (field_marks table c) marks is.0.0 short)
    behind_short (dup x rest) bound marks is short = behind_short rest bound marks is short
    behind_short (drop x rest) bound marks is short = behind_short rest bound marks is short

    arms_short : (arms : CountedArms) (bound : List ℕ) (marks : List Bool) → AreArmsNumbered base bound arms
        → length marks ≤ base → length (marks_behind_arms table arms marks) ≤ base
    arms_short no_arm bound marks is short = short
    arms_short (arm body rest) bound marks is short =
        arms_short rest bound (marks_behind table body marks) is.1 (behind_short body bound marks is.0 short)

-- ---- functions

holds_at : (before : List Bool) (mark : Bool) (behind : List Bool) → holds_in (before ++ mark ∷ behind) (length before) ≡ mark
holds_at [] mark behind = refl
holds_at (first ∷ before) mark behind = holds_at before mark behind

params_right : (holds : ℕ → Bool) (before each : List Bool) (k n : ℕ) → length before ≡ k → HaveMarks holds (numbers_from k n) each
    → AreRight holds (before ++ each) (numbers_from k n) × (n ≡ length each)
params_right holds before [] k zero is have = ((λ y among. absurd (false≢true among)), refl)
params_right holds before (mark ∷ each) k zero is have = absurd have
params_right holds before [] k (suc n) is have = absurd have
params_right holds before (mark ∷ each) k (suc n) is have =
    let more = params_right holds (before ++ mark ∷ []) each (suc k) n (length-append before (mark ∷ []) ∙ omega (arith, is))
    have.1 in
    let whole : (before ++ mark ∷ []) ++ each ≡ before ++ mark ∷ each = append_assoc before (mark ∷ []) each in (
      right_more holds (before ++ mark ∷ each) k (numbers_from (suc k) n) (
        omega (arith, is, length-append before (mark ∷ each)),
        subst (λ y. holds_in (before ++ mark ∷ each) y ≡ mark) is
            (holds_at before mark each) ∙ sym have.0,
      )
          (subst (λ ms. AreRight holds ms (numbers_from (suc k) n)) whole more.0),
      ap suc more.1,
    )

-- A function that can be lowered is marked by what is found, and its variables are few, and numbered below its temporaries.
pub record IsKnown (table : CellMarks) (f : ℕ) (function : CountedFunction) (marks : List Bool) : Type 0 where
  pub marked : IsMarked table (holds_in marks) f function
  pub few : function.parameters ≤ length marks
  pub low : length marks ≤ most_variables
  pub fewest : (most : ℕ) → HasVariablesBelow most function → length marks ≤ most
  pub numbered : AreNumbered (length marks) (numbers_from 0 function.parameters) function.body

pub known : (table : CellMarks) (f : ℕ) (function : CountedFunction) → IsLowerable table f function
    → IsKnown table f function (function_marks table f function)
known table f function is = record {
  marked = record {
    parameters_marked = have_same is.holds last params each (right_of_first is.holds last params []
        (subst (λ xs. AreRight is.holds last xs) (sym (append-nil params))
        (right_keeps is.holds each last params behind.keeps right.0))) is.marked.parameters_marked;
    body_marked = at_last.0;
  };
  few = omega (arith, right.1, behind.keeps.0);
  low = let short = fewest is.base (record { parameters = is.parameters_below; numbered = is.numbered }) in
      omega (arith, short, is.few);
  fewest = fewest;
  numbered = at_last.1 is.base is.numbered;
}
  where
    params : List ℕ
    params = numbers_from 0 function.parameters

    each : List Bool
    each = parameter_marks table f

    last : List Bool
    last = function_marks table f function

    result : Bool
    result = result_mark table f

    right : AreRight is.holds each params × (function.parameters ≡ length each)
    right = params_right is.holds [] each 0 function.parameters refl is.marked.parameters_marked

    behind : Found is.holds table result result (given_by function.body) each last
    behind = found is.holds table result function.body params result each is.marked.body_marked is.gives right.0

    fewest : (most : ℕ) → HasVariablesBelow most function → length last ≤ most
    fewest most below =
        behind_short table most function.body params each below.numbered (let few = below.parameters in omega (arith, right.1, few))

    at_last : IsNow is.holds last table result params result function.body
    at_last = now is.holds last table result function.body params result each is.marked.body_marked is.gives right.0
        (keeps_all is.holds last)
