-- The functions of the tests have marked variables.
use Rattle.std.proofs.Common.{◌≡◌, ℕ, ◌==◌, ◌||◌, pos, Bool, true, false, List, [], ◌∷◌, ◌++◌, refl, sym, ap, ◌∙◌, subst}
use Rattle.kk_syntax.specs.PositionsOf.{PositionTable}
use Rattle.kk_syntax.specs.declared.positions.Ownership.TheVariants.{Owned}
use Rattle.kk_syntax.specs.declared.operator.BinaryOperator.TheVariants.{Add}
use Rattle.kk_syntax.specs.declared.program.Form.{Form}
use Rattle.kk_syntax.specs.declared.program.Form.TheVariants.{Number, Binary, Construct, Call}
use Rattle.kk_syntax.specs.Shapes.{is_among}
use Rattle.kk_core.specs.Decisions.{NodeTree}
use Rattle.kk_core.specs.Truths.{truth_decisions}
use Rattle.kk_counted.specs.CountedCodes.{Counted, give, tail_call, case, compute, inside, read, open_cell, if_unique, dup, drop, no_arm, arm, CountedFunction}
use Rattle.kk_counted.specs.CountedForms.{plug}
use Rattle.kk_emitter.specs.Drafts.{Draft, begun, given, duplicated, dropped, unpacked, looked, computed, ended_by_value, ended_by_call, joined, finished}
use Rattle.kk_emitter.specs.Emitting.{BecomesMarked}
use Rattle.kk_counted.specs.Marks.{CellMarks, HasMark, CanBeMarked}
use Rattle.counted_tests.specs.CellTables.{table_of}
use Rattle.counted_tests.specs.TwoRows.{behind_first, box_row}

-- a function of one parameter
abbrev pub with_body : Counted → CountedFunction
with_body body = record { parameters = 1; body = body }

-- what is begun of equal tables
pub same_begun : (p p' : PositionTable) (q q' : List ℕ) (m m' : CellMarks) (d : Draft) → p ≡ p' → q ≡ q' → m ≡ m' → d ≡ begun p q m 0
    → d ≡ begun p' q' m' 0
same_begun p p' q q' m m' d one two three is =
    is ∙ (ap (λ z. begun z q m 0) one ∙ (ap (λ z. begun p' z m 0) two ∙ ap (λ z. begun p' q' z 0) three))

-- ---- what calls make of equal drafts

pub given_same : (d d' e : Draft) → e ≡ given d 0 → d ≡ d' → e ≡ given d' 0
given_same d d' e is same = is ∙ ap (λ z. given z 0) same

pub unpacked_same : (by_count : Bool) (x x' mask : ℕ) (d d' e : Draft) → e ≡ unpacked d by_count x 0 mask → d ≡ d' → x ≡ x'
    → e ≡ unpacked d' by_count x' 0 mask
unpacked_same by_count x x' mask d d' e is same one =
    is ∙ (ap (λ z. unpacked d by_count z 0 mask) one ∙ ap (λ z. unpacked z by_count x' 0 mask) same)

pub computed_same : (form : Form) (xs xs' : List ℕ) (d d' e : Draft) → e ≡ computed d form xs xs → d ≡ d' → xs ≡ xs'
    → e ≡ computed d' form xs' xs'
computed_same form xs xs' d d' e is same all =
    is ∙ (ap (λ z. computed d form z z) all ∙ ap (λ z. computed z form xs' xs') same)

-- what is taken of one reference
pub only_taken : (rest : List ℕ) (x y : ℕ) → y ∷ [] ≡ rest ++ x ∷ [] → x ≡ y
only_taken [] x y is = cc
only_taken (z ∷ []) x y is = absurd (cc)
only_taken (z ∷ (w ∷ rest)) x y is = absurd (cc)

-- what is known of a draft is so of an equal one
pub ended_marked : (d e : Draft) (x y : ℕ) → d ≡ e → x ≡ y → BecomesMarked e (finished e y) → BecomesMarked d (finished d x)
ended_marked d e x y same one marked =
    subst (λ z. BecomesMarked d (finished d z)) (sym one) (subst (λ (c : Draft). BecomesMarked c (finished c y)) (sym same) marked)

-- so where it ends by a call of its own, and where a box is still to be built
pub called_marked : (d e : Draft) (xs ys : List ℕ) → d ≡ e → xs ≡ ys → BecomesMarked e (plug e.steps (tail_call 0 ys))
    → BecomesMarked d (plug d.steps (tail_call 0 xs))
called_marked d e xs ys same all marked =
    subst (λ zs. BecomesMarked d (plug d.steps (tail_call 0 zs))) (sym all)
    (subst (λ (c : Draft). BecomesMarked c (plug c.steps (tail_call 0 ys))) (sym same) marked)

-- ---- on pairs

-- a dup and a drop behind what is begun
pub drops_is : (began e0 e1 e2 e3 : Draft) (x y : ℕ) → e0 ≡ began → e1 ≡ given e0 0 → e2 ≡ duplicated e1 x → e3 ≡ dropped e2 y → x ≡ 0
    → y ≡ x → e3 ≡ dropped (duplicated (given began 0) 0) 0
drops_is began e0 e1 e2 e3 x y s0 s1 s2 s3 one two =
    s3
    ∙ (ap (λ z. dropped e2 z) (two ∙ one)
    ∙ ap (λ d. dropped d 0) (s2 ∙ (ap (λ z. duplicated e1 z) one ∙ ap (λ d. duplicated d 0) (s1 ∙ ap (λ d. given d 0) s0))))

-- it leaves the second field
pub keep_marked : CanBeMarked (table_of ((false ∷ true ∷ []) ∷ [])) 0
    (with_body (if_unique 0 0 (1 ∷ 2 ∷ []) (2 ∷ []) (compute 3 (Number (pos 9)) [] (compute 4 (Construct 0) (3 ∷ 2 ∷ []) (give 4)))))
keep_marked = (
  λ x. (x == 0) || ((x == 2) || (x == 4)),
  record {
    parameters_marked = (refl, tt);
    body_marked = (
      (refl, (refl, (refl, (refl, tt)))),
      (tt, ((tt, refl), ((refl, (refl, tt)), (((refl, (refl, tt)), refl), (refl, refl))))),
    );
  },
)

-- it duplicates its parameter and drops one of the two references
pub drops_marked : CanBeMarked (table_of ((false ∷ true ∷ []) ∷ [])) 0 (with_body (dup 0 (drop 0 (give 0))))
drops_marked = (λ x. true, record { parameters_marked = (refl, tt); body_marked = (refl, (refl, (refl, refl))) })

-- it reads a lent pair, and duplicates its second field
pub second_marked : CanBeMarked (table_of ((false ∷ true ∷ []) ∷ [])) 0 (with_body (read 0 0 (1 ∷ 2 ∷ []) (dup 2 (give 2))))
second_marked = (
  λ x. (x == 0) || (x == 2),
  record { parameters_marked = (refl, tt); body_marked = ((refl, (refl, (refl, (refl, tt)))), (refl, (refl, refl))) },
)

-- it calls itself on the second field
pub last_marked : CanBeMarked (table_of ((false ∷ true ∷ []) ∷ [])) 0
    (with_body (open_cell 0 0 (1 ∷ 2 ∷ []) (2 ∷ []) (tail_call 0 (2 ∷ []))))
last_marked = (
  λ x. (x == 0) || (x == 2),
  record {
    parameters_marked = (refl, tt);
    body_marked = ((refl, (refl, (refl, (refl, tt)))), ((refl, tt), ((refl, tt), refl)));
  },
)

-- ---- on boxes, whose field is a box

-- by what was inside it gives that, or calls itself on it last
pub innermost_marked : (decisions : List NodeTree) → CanBeMarked (table_of ((true ∷ []) ∷ [])) 0
    (with_body (if_unique 0 0 (1 ∷ []) (1 ∷ []) (case 1 decisions (arm (give 1) (arm (tail_call 0 (1 ∷ [])) no_arm)))))
innermost_marked decisions = (
  λ x. true,
  record {
    parameters_marked = (refl, tt);
    body_marked = ((refl, (refl, (refl, tt))), (refl, ((refl, refl), (((refl, tt), ((refl, tt), refl)), tt))));
  },
)

-- ---- on trees and lists

-- a branch on the parameter, of two rows, whose value a variable takes
abbrev pub two_rows : List NodeTree → ℕ → Counted → Counted → CountedFunction
two_rows decisions x one other = with_body (inside x (case 0 decisions (arm one (arm other no_arm))) (give x))

pub rows_marked : (fields : List (List Bool)) (decisions : List NodeTree) (x : ℕ) (one other : Counted) (holds : ℕ → Bool)
    → holds 0 ≡ true → holds x ≡ true → is_among (x ∷ 0 ∷ []) x ≡ true → HasMark (table_of fields) holds true (0 ∷ []) (holds x) one
    → HasMark (table_of fields) holds true (0 ∷ []) (holds x) other → CanBeMarked (table_of fields) 0 (two_rows decisions x one other)
rows_marked fields decisions x one other holds parameter value bound first second = (
  holds,
  record { parameters_marked = (parameter, tt); body_marked = ((refl, (first, (second, tt))), (bound, value)) },
)

-- it builds a tree of the whole tree and of what it gives for its right part
pub spine_marked : (decisions : List NodeTree) → CanBeMarked (table_of ((true ∷ true ∷ []) ∷ [] ∷ [])) 0
    (two_rows decisions 5 (give 0) (read 0 0 (1 ∷ 2 ∷ []) (dup 2 (compute 3 (Call 0) (2 ∷ []) (compute 4 (Construct 0) (0 ∷ 3 ∷ []) (give 4))))))
spine_marked decisions =
    rows_marked _ decisions 5 _ _ (λ x. true) refl refl refl (refl, refl) (
      (refl, (refl, (refl, (refl, tt)))),
      (refl, ((refl, tt), (((refl, tt), refl), ((refl, (refl, tt)), (((refl, (refl, tt)), refl), (refl, refl)))))),
    )

-- it adds 1 to each number of a list
pub increase_marked : (decisions : List NodeTree) → CanBeMarked (table_of ((false ∷ true ∷ []) ∷ [] ∷ [])) 0
    (two_rows decisions 7 (give 0)
    (if_unique 0 0 (1 ∷ 2 ∷ []) (1 ∷ 2 ∷ [])
    (compute 3 (Number (pos 1)) []
    (compute 4 (Binary Add) (1 ∷ 3 ∷ []) (compute 5 (Call 0) (2 ∷ []) (compute 6 (Construct 0) (4 ∷ 5 ∷ []) (give 6)))))))
increase_marked decisions =
    rows_marked _ decisions 7 _ _ (λ x. (x == 0) || ((x == 2) || ((x == 5) || ((x == 6) || (x == 7))))) refl refl refl (refl, refl) (
      (refl, (refl, (refl, (refl, tt)))),
      (
        tt,
        (
          (tt, refl),
          (
            (refl, (refl, tt)),
            (
              ((refl, (refl, tt)), refl),
              ((refl, tt), (((refl, tt), refl), ((refl, (refl, tt)), (((refl, (refl, tt)), refl), (refl, refl))))),
            ),
          ),
        ),
      ),
    )

-- ---- where a branch is joined, and the function ends by its value

abbrev pub EndsMarked : Draft → Type 0
EndsMarked d = BecomesMarked (joined d) (finished (joined d) d.next)

pub innermost_ends : (d : Draft) → d ≡ ended_by_call box_row 0 (1 ∷ []) → EndsMarked d
innermost_ends d is = subst EndsMarked (sym is) (λ going. innermost_marked truth_decisions)

-- the row of a cell, behind the row of none
abbrev pub row_begun : CellMarks → Draft
row_begun marks = behind_first (given (begun ((Owned ∷ []) ∷ []) (2 ∷ 0 ∷ []) marks 0) 0) 0 0

-- what the row of a cell makes of that
abbrev pub spine_row : Draft → Draft
spine_row from =
    record from {
      steps = (computed (computed (looked from 0 0 2) (Call 0) (2 ∷ []) (2 ∷ [])) (Construct 0) (0 ∷ 3 ∷ []) (0 ∷ 3 ∷ [])).steps;
      owed = 4 ∷ [];
      next = 5;
      lent = [];
    }

abbrev pub increase_row : Draft → Draft
increase_row from =
    record from {
      steps =
          (computed
          (computed (computed (computed (unpacked from true 0 0 3) (Number (pos 1)) [] []) (Binary Add) (1 ∷ 3 ∷ []) (1 ∷ 3 ∷ [])) (Call 0)
          (2 ∷ []) (2 ∷ []))
          (Construct 0) (4 ∷ 5 ∷ []) (4 ∷ 5 ∷ [])).steps;
      owed = 6 ∷ [];
      next = 7;
    }

pub spine_ends : (row built d : Draft) → row ≡ row_begun (table_of ((true ∷ true ∷ []) ∷ [] ∷ []))
    → built ≡ record row { steps = built.steps; owed = 4 ∷ []; next = 5; lent = [] }
    → built.steps ≡ (computed (computed (looked row 0 0 2) (Call 0) (2 ∷ []) (2 ∷ [])) (Construct 0) (0 ∷ 3 ∷ []) (0 ∷ 3 ∷ [])).steps
    → d ≡ ended_by_value built 4 → EndsMarked d
spine_ends row built d first is steps last =
    subst EndsMarked (sym (last ∙ ap (λ z. ended_by_value z 4) (whole ∙ ap (λ z. spine_row z) first))) (λ going. spine_marked truth_decisions)
  where
    whole : built ≡ spine_row row
    whole = is ∙ ap (λ z. record row { steps = z; owed = 4 ∷ []; next = 5; lent = [] }) steps

pub increase_ends : (row built d : Draft)
    → row ≡ row_begun (table_of ((false ∷ true ∷ []) ∷ [] ∷ []))
    → built ≡ record row { steps = built.steps; owed = 6 ∷ []; next = 7 }
    → built.steps
    ≡ (computed
    (computed (computed (computed (unpacked row true 0 0 3) (Number (pos 1)) [] []) (Binary Add) (1 ∷ 3 ∷ []) (1 ∷ 3 ∷ [])) (Call 0) (2 ∷ [])
    (2 ∷ []))
    (Construct 0) (4 ∷ 5 ∷ []) (4 ∷ 5 ∷ [])).steps
    → d ≡ ended_by_value built 6 → EndsMarked d
increase_ends row built d first is steps last =
    subst EndsMarked (sym (last ∙ ap (λ z. ended_by_value z 6) (whole ∙ ap (λ z. increase_row z) first))) (λ going. increase_marked truth_decisions)
  where
    whole : built ≡ increase_row row
    whole = is ∙ ap (λ z. record row { steps = z; owed = 6 ∷ []; next = 7 }) steps
