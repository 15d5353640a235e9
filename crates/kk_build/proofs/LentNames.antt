-- In a program that a text means, each binder has a number above those before it: so none on the way to a tail call has the number of
-- a lent variable.
use Rattle.std.proofs.Common.{◌≡◌, ◌⊎◌, inl, inr, ◌+◌, ◌≤◌, ◌<◌, ◌==◌, ◌||◌, ℕ, zero, suc, Bool, true, false, List, [], ◌∷◌, ◌++◌, length, Option, Some, None, arith, refl, sym, ap, ◌∙◌, subst, eqb-true}
use Rattle.std.proofs.lemmas.List.{length-map}
use Rattle.std.specs.Prelude.{if◌then◌else◌, slice_get}
use Rattle.kk_syntax.specs.declared.program.Form.{Form}
use Rattle.kk_syntax.specs.declared.program.Form.TheVariants.{Number, Unit as Nothing, ReadByte, PrintText, Unary, Binary, Print, Construct, Call}
use Rattle.kk_syntax.specs.declared.tree.SurfaceBinder.{SurfaceBinder}
use Rattle.kk_syntax.specs.declared.tree.SurfaceBinder.TheVariants as OfSurface
use Rattle.kk_syntax.specs.OwnedPositions.{is_lent_variable, lent_in_row, lent_below, owned_in}
use Rattle.kk_syntax.specs.Patterns as pattern
use Rattle.kk_syntax.specs.Patterns.{Pattern, Patterns}
use Rattle.kk_syntax.specs.PositionsOf.{PositionTable}
use Rattle.kk_syntax.specs.Programs.{FunctionTree, ProgramTree}
use Rattle.kk_syntax.proofs.Elements.{each_both}
use Rattle.kk_syntax.specs.Shapes.{bound, bound_all, bound_by, is_among, tail_walked, tail_walked_rows}
use Rattle.kk_syntax.specs.Surface.{WrittenPattern, anything, pattern_variable, exactly, constructor, WrittenPatterns, no_part, part, Written, number, unit, variable, call, dot_call, construct, unary, binary, both, either, print_text, branch, branch_alone, match, sequence, Writtens, no_written, written, WrittenRows, no_row, row, WrittenDeclaration, type_declaration, function_declaration}
use Rattle.kk_syntax.specs.Trees as program
use Rattle.kk_names.specs.declared.table.Callee.{Callee}
use Rattle.kk_names.specs.Expressions.{variable_or_unit, applied, pattern_of, constructed, pattern_meant, parts_meant, meant, meant_rows}
use Rattle.kk_names.specs.Names.{before_body, function_of, with_texts, functions_of, MeansProgram}
use Rattle.kk_names.specs.Scopes.{Scope, binder_of, with_binder, in_row, with_parameters, Before, past_binder, past_pattern, past_parts, past, past_all, past_rows}
use Rattle.kk_names.specs.Tables.{Known, known_in, meaning_in}
use Rattle.kk_middle.specs.LentNames.{AreOthers, Bound, to_bound, AreApart, KeepsLent, KeepLent, AllKeepLent}

-- ---- numbers below another

abbrev Below : ℕ → List ℕ → Type 0
Below n xs = (x : ℕ) → is_among xs x ≡ true → x < n

abbrev From : ℕ → List ℕ → Type 0
From n xs = (x : ℕ) → is_among xs x ≡ true → n ≤ x

false_if : (b : Bool) → (b ≡ true → ⊥) → b ≡ false
false_if true never = absurd (never refl)
false_if false never = refl

others : (n : ℕ) (xs lent : List ℕ) → From n xs → Below n lent → AreOthers xs lent
others n xs lent from below x is = false_if (is_among lent x) (λ there. omega (arith, from x is, below x there))

below_more : (n m : ℕ) (xs : List ℕ) → n ≤ m → Below n xs → Below m xs
below_more n m xs le below x is = omega (arith, le, below x is)

in_either : (xs ys : List ℕ) (x : ℕ) → is_among (xs ++ ys) x ≡ true → (is_among xs x ≡ true) ⊎ (is_among ys x ≡ true)
in_either [] ys x is = inr is
in_either (y ∷ xs) ys x is = by (y == x) (in_either xs ys x) is
  where
    by : (b : Bool) → (is_among (xs ++ ys) x ≡ true → (is_among xs x ≡ true) ⊎ (is_among ys x ≡ true))
        → (b || is_among (xs ++ ys) x) ≡ true → ((b || is_among xs x) ≡ true) ⊎ (is_among ys x ≡ true)
    by true later same = inl refl
    by false later same = later same

below_both : (n : ℕ) (xs ys : List ℕ) → Below n xs → Below n ys → Below n (xs ++ ys)
below_both n xs ys first second x is = elim (in_either xs ys x is) [ inl one ↦ first x one | inr two ↦ second x two ]

from_both : (n : ℕ) (xs ys : List ℕ) → From n xs → From n ys → From n (xs ++ ys)
from_both n xs ys first second x is = elim (in_either xs ys x is) [ inl one ↦ first x one | inr two ↦ second x two ]

the_one : (n x : ℕ) → is_among (n ∷ []) x ≡ true → n ≡ x
the_one n x is = by (n == x) refl is
  where
    by : (b : Bool) → (n == x) ≡ b → (b || false) ≡ true → n ≡ x
    by true same now = eqb-true n x same
    by false same now = absurd (cc)

-- ---- what stands before grows

binder_grows : (binder : SurfaceBinder) (before : Before) → before.variables ≤ (past_binder binder before).variables
binder_grows OfSurface.Nothing before = omega arith
binder_grows OfSurface.Wildcard before = omega arith
binder_grows (OfSurface.Variable name) before = omega arith

mutual
  pattern_grows : (p : WrittenPattern) (before : Before) → before.variables ≤ (past_pattern p before).variables
  pattern_grows anything before = omega arith
  pattern_grows (pattern_variable name) before = omega arith
  pattern_grows (exactly value) before = omega arith
  pattern_grows (constructor name parts) before = parts_grow parts before

  parts_grow : (ps : WrittenPatterns) (before : Before) → before.variables ≤ (past_parts ps before).variables
  parts_grow no_part before = omega arith
  parts_grow (part first rest) before =
      omega (arith, pattern_grows first before, parts_grow rest (past_pattern first before))

mutual
  grows : (e : Written) (before : Before) → before.variables ≤ (past e before).variables
  grows (number value) before = omega arith
  grows unit before = omega arith
  grows (variable name) before = omega arith
  grows (call name arguments) before = all_grow arguments before
  grows (dot_call first name rest) before = omega (arith, grows first before, all_grow rest (past first before))
  grows (construct name arguments) before = all_grow arguments before
  grows (unary operator operand) before = grows operand before
  grows (binary operator left right) before = omega (arith, grows left before, grows right (past left before))
  grows (both left right) before = omega (arith, grows left before, grows right (past left before))
  grows (either left right) before = omega (arith, grows left before, grows right (past left before))
  grows (print_text form text) before = omega arith
  grows (branch condition positive negative) before =
      omega (
        arith,
        grows condition before,
        grows positive (past condition before),
        grows negative
            (past positive (past condition before)),
      )
  grows (branch_alone condition positive) before = omega (arith, grows condition before, grows positive (past condition before))
  grows (sequence binder first rest) before =
      omega (
        arith,
        binder_grows binder before,
        grows first (past_binder binder before),
        grows rest
            (past first (past_binder binder before)),
      )
  grows (match scrutinee rows) before = omega (arith, grows scrutinee before, rows_grow rows (past scrutinee before))

  all_grow : (es : Writtens) (before : Before) → before.variables ≤ (past_all es before).variables
  all_grow no_written before = omega arith
  all_grow (written first rest) before = omega (arith, grows first before, all_grow rest (past first before))

  rows_grow : (rows : WrittenRows) (before : Before) → before.variables ≤ (past_rows rows before).variables
  rows_grow no_row before = omega arith
  rows_grow (row p body rest) before =
      omega (arith, pattern_grows p before, grows body (past_pattern p before), rows_grow rest (past body (past_pattern p before)))

-- ---- the variables of patterns

-- they have numbers from those before a pattern on, and below those behind it
abbrev Fresh : ℕ → List ℕ → ℕ → Type 0
Fresh low xs high = From low xs × Below high xs

none_fresh : (low high : ℕ) → Fresh low [] high
none_fresh low high = ((λ x is. absurd (cc)), (λ x is. absurd (cc)))

of_form : (form : Form) (parts : Patterns) (low high : ℕ) → Fresh low (bound_all parts) high
    → Fresh low (bound (pattern_of form parts)) high
of_form (Construct by) parts low high fresh = fresh
of_form (Number n) parts low high fresh = none_fresh low high
of_form Nothing parts low high fresh = none_fresh low high
of_form ReadByte parts low high fresh = none_fresh low high
of_form (PrintText form text) parts low high fresh = none_fresh low high
of_form (Unary operator) parts low high fresh = none_fresh low high
of_form (Binary operator) parts low high fresh = none_fresh low high
of_form (Print form) parts low high fresh = none_fresh low high
of_form (Call f) parts low high fresh = none_fresh low high

of_callee : (callee : Option Callee) (parts : Patterns) (low high : ℕ) → Fresh low (bound_all parts) high
    → Fresh low (bound (constructed callee parts)) high
of_callee None parts low high fresh = none_fresh low high
of_callee (Some callee) parts low high fresh = of_form callee.form parts low high fresh

module _ (known : Known) where
  mutual
    fresh : (before : Before) (p : WrittenPattern) → Fresh before.variables (bound (pattern_meant known before p))
        (past_pattern p before).variables
    fresh before anything = none_fresh before.variables before.variables
    fresh before (pattern_variable name) =
        ((λ x is. omega (arith, the_one before.variables x is)), (λ x is. omega (arith, the_one before.variables x is)))
    fresh before (exactly value) = none_fresh before.variables before.variables
    fresh before (constructor name parts) =
        of_callee (meaning_in known.constructors name.name) (parts_meant known before parts) before.variables
        (past_parts parts before).variables
        (all_fresh before parts)

    all_fresh : (before : Before) (ps : WrittenPatterns) → Fresh before.variables (bound_all (parts_meant known before ps))
        (past_parts ps before).variables
    all_fresh before no_part = none_fresh before.variables before.variables
    all_fresh before (part first rest) =
        let one = fresh before first in
        let two = all_fresh (past_pattern first before) rest in
        let middle = pattern_grows first before in
        let high = parts_grow rest (past_pattern first before) in (
          from_both before.variables (bound (pattern_meant known before first))
              (bound_all (parts_meant known (past_pattern first before) rest)) one.0
              (λ x is. omega (arith, middle, two.0 x is)),
          below_both (past_parts rest (past_pattern first before)).variables (bound (pattern_meant known before first))
              (bound_all (parts_meant known (past_pattern first before) rest)) (λ x is. omega (arith, high, one.1 x is)) two.1,
        )

  -- ---- expressions

  kept_variable : (lent : List ℕ) (o : Option ℕ) → KeepsLent lent (variable_or_unit o)
  kept_variable lent None = tt
  kept_variable lent (Some by) = tt

  kept_applied : (lent : List ℕ) (callee : Option Callee) (arguments : program.Trees) → KeepsLent lent (applied callee arguments)
  kept_applied lent None arguments = tt
  kept_applied lent (Some callee) arguments = tt

  binder_apart : (binder : SurfaceBinder) (n : ℕ) (lent : List ℕ) → Below n lent → AreOthers (bound_by (binder_of binder n)) lent
  binder_apart OfSurface.Nothing n lent below x is = absurd (cc)
  binder_apart OfSurface.Wildcard n lent below x is = absurd (cc)
  binder_apart (OfSurface.Variable name) n lent below x is =
      others n (n ∷ []) lent (λ y here. omega (arith, the_one n y here)) below x is

  row_below : (n high : ℕ) (lent : List ℕ) (scrutinee : Bool) (p : Pattern) → n ≤ high → Below n lent → Below high (bound p)
      → Below high (lent_in_row lent scrutinee p)
  row_below n high lent false p le below own = below_more n high lent le below
  row_below n high lent true p le below own = below_both high lent (bound p) (below_more n high lent le below) own

  -- what is bound in two parts, and in a row
  both_apart : (xs ys : List Bound) → AreApart xs → AreApart ys → AreApart (xs ++ ys)
  both_apart = each_both (λ b. AreOthers b.variables b.lent)

  row_apart : (lent : List ℕ) (opened : Bool) (xs : List ℕ) → AreOthers xs lent
      → AreApart (if opened then [] else record { variables = xs; lent = lent } ∷ [])
  row_apart lent true xs others = tt
  row_apart lent false xs others = (others, tt)

  mutual
    keeps : (scope : Scope) (before : Before) (e : Written) (lent : List ℕ) → Below before.variables lent
        → KeepsLent lent (meant known scope before e)
    keeps scope before (number value) lent below = tt
    keeps scope before unit lent below = tt
    keeps scope before (variable name) lent below = kept_variable lent _
    keeps scope before (call name arguments) lent below = kept_applied lent _ _
    keeps scope before (dot_call first name rest) lent below = kept_applied lent _ _
    keeps scope before (construct name arguments) lent below = kept_applied lent _ _
    keeps scope before (unary operator operand) lent below = tt
    keeps scope before (binary operator left right) lent below = tt
    keeps scope before (both left right) lent below =
        both_apart (tail_walked to_bound lent (meant known scope (past left before) right)) []
        (keeps scope (past left before) right lent (below_more before.variables (past left before).variables lent
        (grows left before) below)) tt
    keeps scope before (either left right) lent below =
        keeps scope (past left before) right lent (below_more before.variables (past left before).variables lent
        (grows left before) below)
    keeps scope before (print_text form text) lent below = tt
    keeps scope before (branch condition positive negative) lent below =
        let first = past condition before in
        let le = grows condition before in
        let later = grows positive first in
        both_apart (tail_walked to_bound lent (meant known scope first positive))
        (tail_walked to_bound lent (meant known scope (past positive first) negative))
        (keeps scope first positive lent (below_more before.variables first.variables lent le below))
        (keeps scope (past positive first) negative lent
        (below_more before.variables (past positive first).variables lent (omega (arith, le, later)) below))
    keeps scope before (branch_alone condition positive) lent below =
        both_apart (tail_walked to_bound lent (meant known scope (past condition before) positive)) []
        (keeps scope (past condition before) positive lent
        (below_more before.variables (past condition before).variables lent (grows condition before) below)) tt
    keeps scope before (sequence binder first rest) lent below =
        let behind = past_binder binder before in
        let le = binder_grows binder before in
        let later = grows first behind in (
          binder_apart binder before.variables lent below,
          keeps (with_binder binder before.variables scope) (past first behind) rest lent
              (below_more before.variables (past first behind).variables lent (omega (arith, le, later)) below),
        )
    keeps scope before (match scrutinee rows) lent below =
        rows_keep scope (past scrutinee before) rows lent (is_lent_variable lent (meant known scope before scrutinee))
        (below_more before.variables (past scrutinee before).variables lent (grows scrutinee before) below)

    rows_keep : (scope : Scope) (before : Before) (rows : WrittenRows) (lent : List ℕ) (scrutinee : Bool)
        → Below before.variables lent
        → KeepLent lent scrutinee (meant_rows known scope before rows)
    rows_keep scope before no_row lent scrutinee below = tt
    rows_keep scope before (row p body rest) lent scrutinee below =
        let own = fresh before p in
        let middle = past_pattern p before in
        let le = pattern_grows p before in
        let later = grows body middle in
        let made = pattern_meant known before p in
        let here : List Bound = if scrutinee then [] else record { variables = bound made; lent = lent } ∷ [] in
        let inner = lent_in_row lent scrutinee made in
        let inside = tail_walked to_bound inner (meant known (in_row p before scope) middle body) in
        both_apart (here ++ inside) (tail_walked_rows to_bound lent scrutinee (meant_rows known scope (past body middle) rest))
        (both_apart here inside
        (row_apart lent scrutinee (bound made) (others before.variables (bound made) lent own.0 below))
        (keeps (in_row p before scope) middle body inner
        (row_below before.variables middle.variables lent scrutinee made le below own.1)))
        (rows_keep scope (past body middle) rest lent scrutinee
        (below_more before.variables (past body middle).variables lent (omega (arith, le, later)) below))

-- ---- functions

parameters_below : (owned : ℕ → Bool) (count : ℕ) → Below count (lent_below owned count)
parameters_below owned zero x is = absurd (cc)
parameters_below owned (suc count) x is =
    below_both (suc count) (lent_below owned count) (if owned count then [] else count ∷ [])
    (below_more count (suc count) (lent_below owned count) (omega arith) (parameters_below owned count)) (by (owned count)) x is
  where
    by : (b : Bool) (y : ℕ) → is_among (if b then [] else count ∷ []) y ≡ true → y < suc count
    by true y there = absurd (cc)
    by false y there = omega (arith, the_one count y there)

functions_keep : (known : Known) (texts : List (List ℕ)) (declarations : List WrittenDeclaration) (owned : ℕ → Bool) (f : ℕ)
    (function : FunctionTree)
    → slice_get (functions_of known texts declarations) f ≡ Some function
    → KeepsLent (lent_below owned (length function.parameters)) function.body
functions_keep known texts [] owned f function there = absurd (cc)
functions_keep known texts (type_declaration name parameters cases ∷ more) owned f function there =
    functions_keep known texts more owned f function there
functions_keep known texts (function_declaration name parameters effects result body ∷ more) owned zero function there =
    let one = function_of known texts name parameters result body in
    let same : one ≡ function = cc in
    let many : length one.parameters ≡ length parameters = length-map parameters _ in
    subst (λ (g : FunctionTree). KeepsLent (lent_below owned (length g.parameters)) g.body) same
    (keeps known (with_parameters 0 parameters []) (before_body texts parameters) body (lent_below owned (length one.parameters))
    (subst (λ n. Below n (lent_below owned (length one.parameters))) many (parameters_below owned (length one.parameters))))
functions_keep known texts (function_declaration name parameters effects result body ∷ more) owned (suc f) function there =
    functions_keep known (with_texts texts (function_declaration name parameters effects result body)) more owned f function there

pub keeps_lent : (declarations : List WrittenDeclaration) (program : ProgramTree) → MeansProgram declarations program
    → (table : PositionTable) → AllKeepLent program table
keeps_lent declarations program means table f function there =
    functions_keep (known_in declarations) [] declarations (owned_in table f) f function
    (ap (λ (p : ProgramTree). slice_get p.functions f) (sym means.makes.is) ∙ there)
