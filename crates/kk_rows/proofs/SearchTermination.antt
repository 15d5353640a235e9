-- The search ends: what a problem comes down to weighs less than the problem.
use Rattle.std.proofs.Common.{◌≡◌, ◌<◌, ◌≤◌, inl, inr, ℕ, zero, suc, ◌+◌, ◌==◌, Bool, true, false, cond, List, [], ◌∷◌, ◌++◌, length, map, Option, None, Some, get_or, refl, sym, ap, ◌∙◌, subst, arith}
use Rattle.std.proofs.lemmas.List.{get_or_past}
use Rattle.kk_syntax.specs.Programs.{ConstructorTree, ProgramTree, no_constructor}
use Rattle.kk_slots.specs.declared.problem.Asked.{Asked}
use Rattle.kk_slots.specs.declared.problem.Asked.TheVariants as OfAsked
use Rattle.kk_syntax.specs.Outlines.{Outline, any, exactly, made, Outlines, no_outline, outline}
use Rattle.kk_slots.specs.Turned.{rotated, first_leading, turned}
use Rattle.kk_slots.specs.Narrowing.{join, front, back, anys, kept, narrow, narrowed, open_row, opened}
use Rattle.kk_slots.specs.Problems.{OpenProblem, asked, or_else, first_asked, owner, arity, made_child, children, StepsTo, Settles}
use Rattle.kk_rows.proofs.KeptRows.{IfKept, if_so_from}

times : ℕ → ℕ → ℕ
times zero x = 0
times (suc n) x = x + times n x

-- a power, of a base that is greater by two
power : ℕ → ℕ → ℕ
power n zero = 1
power n (suc e) = power n e + (power n e + times n (power n e))

times_more : (m n x : ℕ) → m ≤ n → times m x ≤ times n x
unfolding times
times_more zero n x le = omega arith
times_more (suc m) zero x le = absurd (omega arith)
times_more (suc m) (suc n) x le = omega (arith, times_more m n x (omega arith))

power_some : (n e : ℕ) → 0 < power n e
unfolding power
power_some n zero = omega arith
power_some n (suc e) = omega (arith, power_some n e)

power_more : (n d e : ℕ) → d ≤ e → power n d ≤ power n e
unfolding power times
power_more n zero e le = power_some n e
power_more n (suc d) zero le = absurd (omega arith)
power_more n (suc d) (suc e) le = omega (arith, power_more n d e (omega arith), mono n (power n d) (power n e) (power_more n d e (omega arith)))
  where
    mono : (k x y : ℕ) → x ≤ y → times k x ≤ times k y
    mono zero x y h = omega arith
    mono (suc k) x y h = omega (arith, mono k x y h)

-- how often patterns, and rows, ask for a number or a constructor
mutual
  looks_at : Outline → ℕ
  looks_at any = 0
  looks_at (exactly n) = 1
  looks_at (made c ps) = suc (looks ps)

  looks : Outlines → ℕ
  looks no_outline = 0
  looks (outline p ps) = looks_at p + looks ps

all_looks : List Outlines → ℕ
all_looks [] = 0
all_looks (row ∷ rows) = looks row + all_looks rows

looks-join : (ps qs : Outlines) → looks (join ps qs) ≡ looks ps + looks qs
unfolding looks
looks-join no_outline qs = omega arith
looks-join (outline p ps) qs = omega (arith, looks-join ps qs)

looks-anys : (k : ℕ) → looks (anys k) ≡ 0
unfolding looks looks_at
looks-anys zero = refl
looks-anys (suc k) = omega (arith, looks-anys k)

narrow_looks : (c k : ℕ) (row : Outlines) → IfKept (narrow c k row) (λ x. looks x ≤ looks row)
unfolding looks looks_at
narrow_looks c k no_outline = tt
narrow_looks c k (outline any ps) = omega (arith, looks-join (anys k) ps, looks-anys k)
narrow_looks c k (outline (exactly n) ps) = tt
narrow_looks c k (outline (made d qs) ps) = if_so_from (d == c) (join qs ps) (λ x. looks x ≤ suc (looks qs) + looks ps) (λ e. omega (arith, looks-join qs ps))

narrow_less : (c k d : ℕ) (row : Outlines) → asked row ≡ OfAsked.Constructor d → (1 ≤ looks row) × IfKept (narrow c k row) (λ x. looks x + 1 ≤ looks row)
unfolding looks looks_at
narrow_less c k d no_outline is = absurd (cc)
narrow_less c k d (outline any ps) is = absurd (cc)
narrow_less c k d (outline (exactly n) ps) is = absurd (cc)
narrow_less c k d (outline (made b qs) ps) is = (omega arith, if_so_from (b == c) (join qs ps) (λ x. looks x + 1 ≤ suc (looks qs) + looks ps) (λ e. omega (arith, looks-join qs ps)))

open_looks : (row : Outlines) → IfKept (open_row row) (λ x. looks x ≤ looks row)
unfolding looks looks_at
open_looks no_outline = tt
open_looks (outline any ps) = omega arith
open_looks (outline (exactly n) ps) = tt
open_looks (outline (made d qs) ps) = tt

kept_looks : (o : Option Outlines) (rows : List Outlines) (m : ℕ) → IfKept o (λ x. looks x ≤ m) → all_looks (kept o rows) ≤ m + all_looks rows
unfolding all_looks
kept_looks None rows m h = omega arith
kept_looks (Some x) rows m h = omega (arith, h)

kept_less : (o : Option Outlines) (rows : List Outlines) (m : ℕ) → 1 ≤ m → IfKept o (λ x. looks x + 1 ≤ m) → all_looks (kept o rows) + 1 ≤ m + all_looks rows
unfolding all_looks
kept_less None rows m some h = omega arith
kept_less (Some x) rows m some h = omega (arith, h)

narrowed_looks : (c k : ℕ) (rows : List Outlines) → all_looks (narrowed c k rows) ≤ all_looks rows
unfolding all_looks
narrowed_looks c k [] = omega arith
narrowed_looks c k (row ∷ rows) = omega (arith, kept_looks (narrow c k row) (narrowed c k rows) (looks row) (narrow_looks c k row), narrowed_looks c k rows)

opened_looks : (rows : List Outlines) → all_looks (opened rows) ≤ all_looks rows
unfolding all_looks
opened_looks [] = omega arith
opened_looks (row ∷ rows) = omega (arith, kept_looks (open_row row) (opened rows) (looks row) (open_looks row), opened_looks rows)

narrowed_less : (c k d : ℕ) (rows : List Outlines) → first_asked rows ≡ OfAsked.Constructor d → all_looks (narrowed c k rows) + 1 ≤ all_looks rows
unfolding all_looks
narrowed_less c k d [] is = absurd (cc)
narrowed_less c k d (row ∷ rows) is = split (asked row) (first_asked rows) refl is (narrowed_less c k d rows)
  where
    split : (a b : Asked) → asked row ≡ a → or_else a b ≡ OfAsked.Constructor d → (b ≡ OfAsked.Constructor d → all_looks (narrowed c k rows) + 1 ≤ all_looks rows) → all_looks (kept (narrow c k row) (narrowed c k rows)) + 1 ≤ looks row + all_looks rows
    split OfAsked.Nothing b at e rest = omega (arith, kept_looks (narrow c k row) (narrowed c k rows) (looks row) (narrow_looks c k row), rest e)
    split OfAsked.Number b at e rest = absurd (cc)
    split (OfAsked.Constructor g) b at e rest =
        let less = narrow_less c k g row at in
        omega (arith, kept_less (narrow c k row) (narrowed c k rows) (looks row) less.0 less.1, narrowed_looks c k rows)

-- the fields of all constructors
all_fields : List ConstructorTree → ℕ
all_fields [] = 0
all_fields (c ∷ cs) = length c.fields + all_fields cs

some_fields : (cs : List ConstructorTree) (d : ℕ) → length (get_or cs d no_constructor).fields ≤ all_fields cs
unfolding all_fields
some_fields [] d = let none : length (get_or [] d no_constructor).fields ≡ 0 = ap (λ (c : ConstructorTree). length c.fields) (get_or_past [] d no_constructor (omega arith)) in omega (arith, none)
some_fields (c ∷ cs) zero = omega arith
some_fields (c ∷ cs) (suc d) = omega (arith, some_fields cs d)

exponent : ProgramTree → OpenProblem → ℕ
exponent program p = times (all_looks p.rows) (suc (all_fields program.constructors)) + p.width

weight : ProgramTree → OpenProblem → ℕ
weight program p = power (length program.constructors) (exponent program p)

-- what is left to do, of a list of open problems
pub left : ProgramTree → List OpenProblem → ℕ
left program [] = 0
left program (p ∷ ps) = weight program p + left program ps

left-append : (program : ProgramTree) (ps qs : List OpenProblem) → left program (ps ++ qs) ≡ left program ps + left program qs
unfolding left
left-append program [] qs = omega arith
left-append program (p ∷ ps) qs = omega (arith, left-append program ps qs)

below_power : (program : ProgramTree) (e : ℕ) (p : OpenProblem) → exponent program p ≤ e → weight program p ≤ power (length program.constructors) e
unfolding weight
below_power program e p le = power_more (length program.constructors) (exponent program p) e le

one_more : (a b x : ℕ) → a + 1 ≤ b → times a x + x ≤ times b x
unfolding times
one_more a zero x le = absurd (omega arith)
one_more a (suc b) x le = omega (arith, times_more a b x (omega arith))

module _ (program : ProgramTree) (p : OpenProblem) (w : ℕ) (width : p.width ≡ suc w) where
  -- the exponent of what is left, at most
  rest : ℕ
  rest = times (all_looks p.rows) (suc (all_fields program.constructors)) + w

  whole : weight program p ≡ power (length program.constructors) (suc rest)
  unfolding weight exponent rest
  whole = ap (power (length program.constructors)) (let e : times (all_looks p.rows) (suc (all_fields program.constructors)) + p.width ≡ suc (times (all_looks p.rows) (suc (all_fields program.constructors)) + w) = omega (arith, width) in e)

  single : (q : OpenProblem) → exponent program q ≤ rest → left program (q ∷ []) < weight program p
  unfolding left power
  single q le = omega (arith, whole, below_power program rest q le, power_some (length program.constructors) rest)

  opened_less : (q : OpenProblem) → q.rows ≡ opened p.rows → q.width ≡ w → exponent program q ≤ rest
  unfolding exponent rest
  opened_less q rows wide =
      let fewer : all_looks q.rows ≤ all_looks p.rows = (let h = opened_looks p.rows in omega (arith, h, ap all_looks rows)) in
      omega (arith, wide, times_more (all_looks q.rows) (all_looks p.rows) (suc (all_fields program.constructors)) fewer)

  made_less : (c d : ℕ) → first_asked p.rows ≡ OfAsked.Constructor c → exponent program (made_child program p w d) ≤ rest
  unfolding exponent rest
  made_less c d is =
      omega (arith, one_more (all_looks (narrowed d (arity program d) p.rows)) (all_looks p.rows) (suc (all_fields program.constructors)) (narrowed_less d (arity program d) c p.rows is), some_fields program.constructors d)

  many : (of c : ℕ) → first_asked p.rows ≡ OfAsked.Constructor c → (end : ℕ) → left program (children program of p w end) ≤ times end (power (length program.constructors) rest)
  unfolding left times
  many of c is zero = omega arith
  many of c is (suc d) = pick (owner program d == of) (many of c is d)
    where
      pick : (b : Bool) → left program (children program of p w d) ≤ times d (power (length program.constructors) rest) → left program (cond b (made_child program p w d ∷ children program of p w d) (children program of p w d)) ≤ power (length program.constructors) rest + times d (power (length program.constructors) rest)
      pick true ih = omega (arith, ih, below_power program rest (made_child program p w d) (made_less c d is))
      pick false ih = omega (arith, ih)

  split_less : (of c end : ℕ) → first_asked p.rows ≡ OfAsked.Constructor c → end ≤ length program.constructors → left program (children program of p w end) < weight program p
  unfolding power
  split_less of c end is le = omega (arith, whole, many of c is end, times_more end (length program.constructors) (power (length program.constructors) rest) le, power_some (length program.constructors) rest)

settles_less : (program : ProgramTree) (p : OpenProblem) (more : List OpenProblem) → Settles program p more → left program more < weight program p
unfolding left weight
settles_less program p more settles = elim settles [
  | inl closed ↦ subst (λ ps. left program ps < weight program p) (sym closed.1) none
  | inr steps ↦ by steps.0 steps.1 (first_asked p.rows) refl steps.2
]
  where
    none : left program [] < weight program p
    none = power_some (length program.constructors) (exponent program p)

    by : (w : ℕ) → p.width ≡ suc w → (a : Asked) → first_asked p.rows ≡ a → StepsTo program p w a more → left program more < weight program p
    by w width OfAsked.Nothing is step = subst (λ ps. left program ps < weight program p) (sym step) (single program p w width _ (opened_less program p w width _ refl refl))
    by w width OfAsked.Number is step = subst (λ ps. left program ps < weight program p) (sym step.2) (single program p w width _ (opened_less program p w width _ refl refl))
    by w width (OfAsked.Constructor c) is step = subst (λ ps. left program ps < weight program p) (sym step.3) (split_less program p w width (owner program c) c step.0 is step.1)

pub fewer : (program : ProgramTree) (p : OpenProblem) (before more after : List OpenProblem) → Settles program p more → after ≡ before ++ more → left program after < left program (before ++ (p ∷ []))
unfolding left
fewer program p before more after settles grown =
    omega (arith, ap (left program) grown, left-append program before more, left-append program before (p ∷ []), settles_less program p more settles)

-- what a problem comes down to is less to do than the problem, before others
pub left_next : (program : ProgramTree) (p : OpenProblem) (more ps : List OpenProblem) → Settles program p more → left program (more ++ ps) < left program (p ∷ ps)
unfolding left
left_next program p more ps settles = omega (arith, left-append program more ps, settles_less program p more settles)

looks_parts : (k : ℕ) (ps : Outlines) → looks (back k ps) + looks (front k ps) ≡ looks ps
unfolding looks
looks_parts zero ps = omega arith
looks_parts (suc k) no_outline = omega arith
looks_parts (suc k) (outline p ps) = omega (arith, looks_parts k ps)

looks-rotated : (k : ℕ) (rows : List Outlines) → all_looks (map (rotated k) rows) ≡ all_looks rows
unfolding all_looks
looks-rotated k [] = refl
looks-rotated k (row ∷ rows) = omega (arith, looks-join (back k row) (front k row), looks_parts k row, looks-rotated k rows)

-- a problem that is turned weighs the same
pub left-turned : (program : ProgramTree) (p : OpenProblem) (before : List OpenProblem) → left program (before ++ (turned p ∷ [])) ≡ left program (before ++ (p ∷ []))
unfolding left weight exponent
left-turned program p before =
    left-append program before (turned p ∷ [])
    ∙ (ap (λ n. left program before + (power (length program.constructors) (times n (suc (all_fields program.constructors)) + p.width) + 0)) (looks-rotated (first_leading p.rows) p.rows)
    ∙ sym (left-append program before (p ∷ [])))

-- one of some problems weighs no more than they do
pub picked_less : (program : ProgramTree) (q : OpenProblem) (before behind : List OpenProblem) → left program (q ∷ []) ≤ left program (before ++ (q ∷ behind))
unfolding left
picked_less program q before behind = omega (arith, left-append program before (q ∷ behind))
