-- A table of owned positions, and one that has one position more: it keeps its shape, and has what it had.
use Rattle.std.proofs.Common.{◌≡◌, ◌<◌, ℕ, zero, suc, ◌⊎◌, inl, inr, ◌+◌, Bool, true, false, not, List, [], ◌∷◌, length, map, drop, replicate, set, get_or, refl, sym, ap, ◌∙◌, arith, IsTrue, get_or-set_same, get_or-set_other}
use Rattle.std.proofs.lemmas.Bool.{both_ways, not_from_false, cases_lt, cases_eq}
use Rattle.std.proofs.lemmas.List.{get_or_past, length-set, length-replicate, set_past, map-set, set-get_or}
use Rattle.kk_syntax.specs.declared.positions.Ownership.{Ownership}
use Rattle.kk_syntax.specs.declared.positions.Ownership.TheVariants.{Owned, Lent}
use Rattle.kk_syntax.specs.declared.positions.Position.{Position}
use Rattle.kk_syntax.specs.OwnedPositions.{PositionSet, arity_of, Within, owned_in, Told, IsLeast}
use Rattle.kk_syntax.specs.OwnedSearch.{each_lent, with_owned}
use Rattle.kk_syntax.specs.PositionsOf.{PositionTable, lends, is_lent}
use Rattle.kk_syntax.specs.Programs.{FunctionTree, ProgramTree, no_function}

same_in : {X : Type 0} (xs : List X) (i : ℕ) (d e : X) → i < length xs → get_or xs i d ≡ get_or xs i e
same_in [] i d e lt = absurd (omega arith)
same_in (x ∷ xs) zero d e lt = refl
same_in (x ∷ xs) (suc i) d e lt = same_in xs i d e (omega arith)

-- what is told of and not lent is owned
pub owned_told : (table : PositionTable) (f i : ℕ) → i < length (get_or table f []) → is_lent table f i ≡ false → IsTrue (owned_in table f i)
owned_told table f i lt is = not_from_false (lends (get_or (get_or table f []) i Lent)) (ap lends (same_in (get_or table f []) i Lent Owned lt) ∙ is)

-- what is lent is told of
pub lent_told : (table : PositionTable) (f i : ℕ) → is_lent table f i ≡ true → i < length (get_or table f [])
lent_told table f i is = elim (cases_lt i (length (get_or table f []))) [
  | inl lt ↦ lt
  | inr ge ↦ absurd (both_ways false refl (sym (ap lends (get_or_past (get_or table f []) i Owned ge)) ∙ is))
]

pub lent_row : (table : PositionTable) (f i : ℕ) → is_lent table f i ≡ true → f < length table
lent_row table f i is = elim (cases_lt f (length table)) [
  | inl lt ↦ lt
  | inr ge ↦
      let lt = lent_told table f i is in
      let none : length (get_or table f []) ≡ 0 = ap length (get_or_past table f [] ge) in
      absurd (omega (arith, lt, none))
]

-- the row of a function in such a table
row_is : (table : PositionTable) (p : Position) → p.function < length table → get_or (with_owned table p) p.function [] ≡ set (get_or table p.function []) p.parameter Owned
row_is table p lt = get_or-set_same table p.function (set (get_or table p.function []) p.parameter Owned) [] lt

-- an element of a list that is seen through a function, past the last too
map_at : {X Y : Type 0} (g : X → Y) (xs : List X) (i : ℕ) (d : X) → get_or (map g xs) i (g d) ≡ g (get_or xs i d)
map_at g [] i d = get_or_past [] i (g d) (omega arith) ∙ ap g (sym (get_or_past [] i d (omega arith)))
map_at g (x ∷ xs) zero d = refl
map_at g (x ∷ xs) (suc i) d = map_at g xs i d

-- a table of a program has as many positions in a row as the function has parameters
pub told_row : (program : ProgramTree) (table : PositionTable) → Told program table → (f : ℕ) → length (get_or table f []) ≡ arity_of program f
told_row program table told f =
    sym (map_at (λ (row : List Ownership). length row) table f [])
    ∙ (ap (λ (ns : List ℕ). get_or ns f 0) told ∙ map_at (λ (g : FunctionTree). length g.parameters) program.functions f no_function)

pub grown_told : (program : ProgramTree) (table : PositionTable) (p : Position) → Told program table → Told program (with_owned table p)
grown_told program table p told =
    let row = get_or table p.function [] in
    map-set (λ (row : List Ownership). length row) table p.function (set row p.parameter Owned)
    ∙ (ap (λ (n : ℕ). set (map (λ (row : List Ownership). length row) table) p.function n) (length-set row p.parameter Owned ∙ sym (map_at (λ (row : List Ownership). length row) table p.function []))
    ∙ (set-get_or (map (λ (row : List Ownership). length row) table) p.function 0 ∙ told))

in_row : (row : List Ownership) (i j : ℕ) → IsTrue (not (lends (get_or (set row i Owned) j Lent))) → (j ≡ i) ⊎ IsTrue (not (lends (get_or row j Lent)))
in_row row i j is = elim (cases_eq j i) [
  | inl same ↦ inl same
  | inr other ↦ inr (sym (ap (λ o. not (lends o)) (get_or-set_other row i j Owned Lent other)) ∙ is)
]

pub grown_within : (table : PositionTable) (p : Position) (others : PositionSet) → is_lent table p.function p.parameter ≡ true → Within (owned_in table) others → IsTrue (others p.function p.parameter) → Within (owned_in (with_owned table p)) others
grown_within table p others is within due f i owned = elim (cases_eq f p.function) [
  | inl same ↦
      let here : IsTrue (not (lends (get_or (set (get_or table p.function []) p.parameter Owned) i Lent))) =
      sym (ap (λ (row : List Ownership). not (lends (get_or row i Lent))) (row_is table p (lent_row table p.function p.parameter is)))
      ∙ (sym (ap (λ g. owned_in (with_owned table p) g i) same) ∙ owned) in
      elim (in_row (get_or table p.function []) p.parameter i here) [
        | inl at ↦ ap (λ g. others g i) same ∙ (ap (others p.function) at ∙ due)
        | inr before ↦ ap (λ g. others g i) same ∙ within p.function i before
      ]
  | inr other ↦
      within f i (sym (ap (λ (row : List Ownership). not (lends (get_or row i Lent))) (get_or-set_other table p.function f (set (get_or table p.function []) p.parameter Owned) [] other)) ∙ owned)
]

lent_all : (n i : ℕ) → get_or (replicate n Lent) i Lent ≡ Lent
lent_all zero i = get_or_past [] i Lent (omega arith)
lent_all (suc n) zero = refl
lent_all (suc n) (suc i) = lent_all n i

each_told : (fs : List FunctionTree) → map (λ (row : List Ownership). length row) (each_lent fs) ≡ map (λ (g : FunctionTree). length g.parameters) fs
each_told [] = refl
each_told (g ∷ fs) = rw (length-replicate (length g.parameters) Lent, each_told fs) refl

pub start_told : (program : ProgramTree) → Told program (each_lent program.functions)
start_told program = each_told program.functions

start_none : (fs : List FunctionTree) (f i : ℕ) → owned_in (each_lent fs) f i ≡ false
start_none [] f i = ap (λ (row : List Ownership). not (lends (get_or row i Lent))) (get_or_past [] f [] (omega arith)) ∙ ap (λ o. not (lends o)) (get_or_past [] i Lent (omega arith))
start_none (x ∷ fs) zero i = ap (λ o. not (lends o)) (lent_all (length x.parameters) i)
start_none (x ∷ fs) (suc f) i = start_none fs f i

pub start_within : (fs : List FunctionTree) (others : PositionSet) → Within (owned_in (each_lent fs)) others
start_within fs others f i is = absurd (both_ways (owned_in (each_lent fs) f i) (start_none fs f i) is)

-- what is owned is told of
pub told_owned : (table : PositionTable) (f i : ℕ) → IsTrue (owned_in table f i) → i < length (get_or table f [])
told_owned table f i is = elim (cases_lt i (length (get_or table f []))) [
  | inl lt ↦ lt
  | inr ge ↦ absurd (both_ways (owned_in table f i) (ap (λ o. not (lends o)) (get_or_past (get_or table f []) i Lent ge)) is)
]

pub owned_in_program : (program : ProgramTree) (table : PositionTable) → Told program table → (f i : ℕ) → IsTrue (owned_in table f i) → i < arity_of program f
owned_in_program program table told f i is = let lt = told_owned table f i is in let n = told_row program table told f in omega (arith, lt, n)

still_in_row : (row : List Ownership) (i j : ℕ) → IsTrue (not (lends (get_or row j Lent))) → IsTrue (not (lends (get_or (set row i Owned) j Lent)))
still_in_row [] i j is = is
still_in_row (o ∷ row) zero zero is = refl
still_in_row (o ∷ row) zero (suc j) is = is
still_in_row (o ∷ row) (suc i) zero is = is
still_in_row (o ∷ row) (suc i) (suc j) is = still_in_row row i j is

-- what was owned still is
pub grown_more : (table : PositionTable) (p : Position) → Within (owned_in table) (owned_in (with_owned table p))
grown_more table p f i is = elim (cases_eq f p.function) [
  | inl same ↦
      elim (cases_lt p.function (length table)) [
        | inl lt ↦
            ap (λ g. owned_in (with_owned table p) g i) same
            ∙ (ap (λ (row : List Ownership). not (lends (get_or row i Lent))) (row_is table p lt)
            ∙ still_in_row (get_or table p.function []) p.parameter i (sym (ap (λ g. owned_in table g i) same) ∙ is))
        | inr ge ↦ ap (λ t. owned_in t f i) (set_past table p.function (set (get_or table p.function []) p.parameter Owned) ge) ∙ is
      ]
  | inr other ↦ ap (λ (row : List Ownership). not (lends (get_or row i Lent))) (get_or-set_other table p.function f (set (get_or table p.function []) p.parameter Owned) [] other) ∙ is
]

-- the position itself is owned
pub grown_has : (table : PositionTable) (p : Position) → is_lent table p.function p.parameter ≡ true → IsTrue (owned_in (with_owned table p) p.function p.parameter)
grown_has table p is =
    ap (λ (row : List Ownership). not (lends (get_or row p.parameter Lent))) (row_is table p (lent_row table p.function p.parameter is))
    ∙ ap (λ o. not (lends o)) (get_or-set_same (get_or table p.function []) p.parameter Owned Lent (lent_told table p.function p.parameter is))

-- ---- a program has one table of its owned positions

same_ownership : (a b : Ownership) → not (lends a) ≡ not (lends b) → a ≡ b
same_ownership Owned Owned is = refl
same_ownership Owned Lent is = absurd (both_ways true is refl)
same_ownership Lent Owned is = absurd (both_ways false refl is)
same_ownership Lent Lent is = refl

same_row : (xs ys : List Ownership) → length xs ≡ length ys → ((i : ℕ) → not (lends (get_or xs i Lent)) ≡ not (lends (get_or ys i Lent))) → xs ≡ ys
same_row [] [] len same = refl
same_row [] (y ∷ ys) len same = absurd (omega (arith, len))
same_row (x ∷ xs) [] len same = absurd (omega (arith, len))
same_row (x ∷ xs) (y ∷ ys) len same =
    ap (λ (o : Ownership). o ∷ xs) (same_ownership x y (same 0)) ∙ ap (λ (os : List Ownership). y ∷ os) (same_row xs ys (omega (arith, len)) (λ i. same (suc i)))

same_rows : (xs ys : PositionTable) → map (λ (row : List Ownership). length row) xs ≡ map (λ (row : List Ownership). length row) ys → ((f i : ℕ) → owned_in xs f i ≡ owned_in ys f i) → xs ≡ ys
same_rows [] [] len same = refl
same_rows [] (y ∷ ys) len same = let e : 0 ≡ length (map (λ (row : List Ownership). length row) ys) + 1 = omega (arith, ap length len) in absurd (omega (arith, e))
same_rows (x ∷ xs) [] len same = let e : length (map (λ (row : List Ownership). length row) xs) + 1 ≡ 0 = omega (arith, ap length len) in absurd (omega (arith, e))
same_rows (x ∷ xs) (y ∷ ys) len same =
    ap (λ (row : List Ownership). row ∷ xs) (same_row x y (ap (λ (ns : List ℕ). get_or ns 0 0) len) (same 0))
    ∙ ap (λ (rows : PositionTable). y ∷ rows) (same_rows xs ys (ap (drop 1) len) (λ f i. same (suc f) i))

both_imply : (a b : Bool) → (IsTrue a → IsTrue b) → (IsTrue b → IsTrue a) → a ≡ b
both_imply true b forth back = sym (forth refl)
both_imply false true forth back = back refl
both_imply false false forth back = refl

pub one_table : (program : ProgramTree) (one other : PositionTable) → IsLeast program one → IsLeast program other → one ≡ other
one_table program one other a b =
    same_rows one other (a.told ∙ sym b.told)
    (λ f i. both_imply (owned_in one f i) (owned_in other f i) (a.least (owned_in other) b.closed f i) (b.least (owned_in one) a.closed f i))
