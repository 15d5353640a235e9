-- The search for the owned positions: what it finds is asked for by each closed set, and where it finds nothing the owned
-- positions are closed.
use Rattle.std.proofs.Common.{◌≡◌, ◌<◌, inl, inr, ℕ, ◌+◌, true, false, cond, Some, None, List, [], ◌∷◌, ◌++◌, length, set, get_or, refl, sym, ap, ◌∙◌, subst, arith, All, IsTrue}
use Rattle.std.specs.List.{sum_by}
use Rattle.std.proofs.lemmas.Bool.{both_ways, cases_Bool}
use Rattle.std.proofs.lemmas.List.Elements.{All-nil, All-cons, All-head, All-tail, All-weaker}
use Rattle.std.proofs.lemmas.List.Sums.{sum_by-set}
use Rattle.std.proofs.lemmas.Option.{none-some, same_Some}
use Rattle.kk_syntax.proofs.RuleMonotonicity.{uses_grows, handed_less, below_less}
use Rattle.kk_syntax.proofs.PositionTables.{owned_told, lent_told, lent_row, told_row, grown_told, grown_within, start_told, start_within}
use Rattle.kk_syntax.proofs.TailCalls.{handed_is}
use Rattle.kk_syntax.specs.declared.positions.Ownership.{Ownership}
use Rattle.kk_syntax.specs.declared.positions.Ownership.TheVariants.{Owned, Lent}
use Rattle.kk_syntax.specs.declared.positions.Position.{Position}
use Rattle.kk_syntax.specs.OwnedPositions.{PositionSet, function_at, arity_of, uses, OwnsUsed, lent_below, OwnsHanded, Closed, Within, owned_in, Told, IsLeast}
use Rattle.kk_syntax.specs.OwnedSearch.{each_lent, with_owned, handed_in, IsLent, first_lent, FindsUsed, AsksIn, Asks}
use Rattle.kk_syntax.specs.PositionsOf.{PositionTable, lends, is_lent}
use Rattle.kk_syntax.specs.Programs.{FunctionTree, ProgramTree}

-- ---- the first lent position

-- it is one of them, and lent
pub first_in : (table : PositionTable) (P : Position → Type 0) (ps : List Position) (p : Position) → All P ps → first_lent table ps ≡ Some p → P p × IsLent table p
first_in table P [] p all is = absurd (none-some p is)
first_in table P (q ∷ ps) p all is = elim (cases_Bool (is_lent table q.function q.parameter)) [
  | inl holds ↦
      let same : q ≡ p = same_Some q p (sym (ap (λ b. cond b (Some q) (first_lent table ps)) holds) ∙ is) in
      (subst P same (All-head P q ps all), subst (IsLent table) same holds)
  | inr fails ↦ first_in table P ps p (All-tail P q ps all) (sym (ap (λ b. cond b (Some q) (first_lent table ps)) fails) ∙ is)
]

-- none of them is lent
pub none_first : (table : PositionTable) (ps : List Position) → first_lent table ps ≡ None → All (λ p. is_lent table p.function p.parameter ≡ false) ps
none_first table [] is = All-nil (λ p. is_lent table p.function p.parameter ≡ false)
none_first table (q ∷ ps) is = elim (cases_Bool (is_lent table q.function q.parameter)) [
  | inl holds ↦ absurd (none-some q (sym is ∙ ap (λ b. cond b (Some q) (first_lent table ps)) holds))
  | inr fails ↦
      All-cons (λ p. is_lent table p.function p.parameter ≡ false) q ps fails
      (none_first table ps (sym (ap (λ b. cond b (Some q) (first_lent table ps)) fails) ∙ is))
]

pub first-append : (table : PositionTable) (ps qs : List Position) → first_lent table ps ≡ None → first_lent table (ps ++ qs) ≡ first_lent table qs
first-append table [] qs is = refl
first-append table (p ∷ ps) qs is = elim (cases_Bool (is_lent table p.function p.parameter)) [
  | inl holds ↦ absurd (none-some p (sym is ∙ ap (λ b. cond b (Some p) (first_lent table ps)) holds))
  | inr fails ↦
      ap (λ b. cond b (Some p) (first_lent table (ps ++ qs))) fails
      ∙ first-append table ps qs (sym (ap (λ b. cond b (Some p) (first_lent table ps)) fails) ∙ is)
]

pub first-found : (table : PositionTable) (ps qs : List Position) (p : Position) → first_lent table ps ≡ Some p → first_lent table (ps ++ qs) ≡ Some p
first-found table [] qs p is = absurd (none-some p is)
first-found table (q ∷ ps) qs p is = elim (cases_Bool (is_lent table q.function q.parameter)) [
  | inl holds ↦ ap (λ b. cond b (Some q) (first_lent table (ps ++ qs))) holds ∙ (sym (ap (λ b. cond b (Some q) (first_lent table ps)) holds) ∙ is)
  | inr fails ↦
      ap (λ b. cond b (Some q) (first_lent table (ps ++ qs))) fails
      ∙ first-found table ps qs p (sym (ap (λ b. cond b (Some q) (first_lent table ps)) fails) ∙ is)
]

-- ---- in a function

-- a parameter at an owned place
pub asks_used : (program : ProgramTree) (table : PositionTable) (number : ℕ) (function : FunctionTree) (p : Position) → FindsUsed table number function (Some p) → AsksIn program table number function (Some p)
asks_used program table number function p found = (
  found.lent,
  λ set used handed within.
      subst (λ f. IsTrue (set f p.parameter)) (sym found.of)
      (used p.parameter found.below (uses_grows (owned_in table) set within p.parameter true true (λ y. y) function.body found.used)),
)

-- what tail calls of a function are given, where these positions are owned
abbrev pub given : PositionSet → ℕ → FunctionTree → List Position
given set number function = handed_in (lent_below (set number) (length function.parameters)) function.body

-- a position of a program is in a set
abbrev pub IsIn : ProgramTree → PositionSet → Position → Type 0
IsIn program set p = p.parameter < arity_of program p.function → IsTrue (set p.function p.parameter)

-- a position that a tail call gives anything but a lent variable
pub asks_handed : (program : ProgramTree) (table : PositionTable) (number : ℕ) (function : FunctionTree) (p : Position) → Told program table → first_lent table (given (owned_in table) number function) ≡ Some p → AsksIn program table number function (Some p)
asks_handed program table number function p told is = (
  (first_in table (λ q. Unit {0}) (given (owned_in table) number function) p (λ k d lt. tt) is).1,
  λ set used handed within.
      let lent = lent_below (set number) (length function.parameters) in
      let more = lent_below (owned_in table number) (length function.parameters) in
      let each : All (IsIn program set) (handed_in lent function.body) = subst (All (IsIn program set)) (handed_is lent function.body) handed in
      let both = first_in table (IsIn program set) (given (owned_in table) number function) p
      (handed_less (IsIn program set) lent more (below_less (owned_in table number) (set number) (within number) (length function.parameters)) function.body each) is in
      both.0 (let lt = lent_told table p.function p.parameter both.1 in let n = told_row program table told p.function in omega (arith, lt, n)),
)

-- a position that is not lent is owned
not_lent : (program : ProgramTree) (table : PositionTable) → Told program table → (f i : ℕ) → i < arity_of program f → is_lent table f i ≡ false → IsTrue (owned_in table f i)
not_lent program table told f i lt is = owned_told table f i (let n = told_row program table told f in omega (arith, lt, n)) is

-- nothing
pub asks_none : (program : ProgramTree) (table : PositionTable) (number : ℕ) (function : FunctionTree) → Told program table → function_at program number ≡ function → FindsUsed table number function None → first_lent table (given (owned_in table) number function) ≡ None → AsksIn program table number function None
asks_none program table number function told at used none = (
  λ x lt is. elim (cases_Bool (is_lent table number x)) [
    | inl holds ↦ absurd (both_ways (uses (owned_in table) true x function.body) (used x lt holds) is)
    | inr fails ↦ not_lent program table told number x (subst (λ (f : FunctionTree). x < length f.parameters) (sym at) lt) fails
  ],
  let lent = lent_below (owned_in table number) (length function.parameters) in
      subst (All (IsIn program (owned_in table))) (sym (handed_is lent function.body))
      (All-weaker (λ p. is_lent table p.function p.parameter ≡ false) (IsIn program (owned_in table))
      (λ p fails lt. not_lent program table told p.function p.parameter lt fails)
      (given (owned_in table) number function) (none_first table (given (owned_in table) number function) none)),
)

-- ---- in a program

pub asks_one : (program : ProgramTree) (table : PositionTable) (number : ℕ) (function : FunctionTree) (p : Position) → number < length program.functions → function_at program number ≡ function → AsksIn program table number function (Some p) → Asks program table (Some p)
asks_one program table number function p lt at asks = (
  asks.0,
  λ set closed within.
      asks.1 set
      (subst (OwnsUsed set number) at (closed.places number lt))
      (subst (OwnsHanded program set number) at (closed.tail_calls number lt))
      within,
)

-- no function asks for more
pub asks_closed : (program : ProgramTree) (table : PositionTable) → ((k : ℕ) → k < length program.functions → AsksIn program table k (function_at program k) None) → Asks program table None
asks_closed program table none = record { places = λ k lt. (none k lt).0; tail_calls = λ k lt. (none k lt).1 }

-- ---- the search

-- each closed set has what is owned so far
pub record Grows (program : ProgramTree) (table : PositionTable) : Type 0 where
  pub told : Told program table
  pub least : (set : PositionSet) → Closed program set → Within (owned_in table) set

pub begins : (program : ProgramTree) (table : PositionTable) → table ≡ each_lent program.functions → Grows program table
begins program table is =
    subst (Grows program) (sym is)
    (record { told = start_told program; least = λ set closed. start_within program.functions set })

pub grows : (program : ProgramTree) (table later : PositionTable) (p : Position) → Grows program table → Asks program table (Some p) → later ≡ with_owned table p → Grows program later
grows program table later p so_far asks is =
    subst (Grows program) (sym is)
    (record {
      told = grown_told program table p so_far.told;
      least = λ set closed. grown_within table p set asks.0 (so_far.least set closed) (asks.1 set closed (so_far.least set closed));
    })

pub ends : (program : ProgramTree) (table : PositionTable) → Grows program table → Asks program table None → IsLeast program table
ends program table so_far closed = record { told = so_far.told; closed = closed; least = so_far.least }

-- how many positions are lent
abbrev pub one_if_lent : Ownership → ℕ
one_if_lent Owned = 0
one_if_lent Lent = 1

abbrev pub lents : PositionTable → ℕ
lents table = sum_by (sum_by one_if_lent) table

lent_counts : (o : Ownership) → lends o ≡ true → one_if_lent o ≡ 1
lent_counts Owned is = absurd (both_ways false refl is)
lent_counts Lent is = refl

pub fewer_lent : (table later : PositionTable) (p : Position) → IsLent table p → later ≡ with_owned table p → lents later < lents table
fewer_lent table later p is same =
    let row = get_or table p.function [] in
    let inner = sum_by-set one_if_lent row p.parameter Owned Owned (lent_told table p.function p.parameter is) in
    let outer = sum_by-set (sum_by one_if_lent) table p.function (set row p.parameter Owned) [] (lent_row table p.function p.parameter is) in
    joined (lents later) (lents (with_owned table p)) (lents table) (sum_by one_if_lent (set row p.parameter Owned)) (sum_by one_if_lent row) (one_if_lent (get_or row p.parameter Owned))
    (ap lents same) (lent_counts (get_or row p.parameter Owned) is) inner outer
  where
    joined : (later new old inside before taken : ℕ) → later ≡ new → taken ≡ 1 → inside + taken ≡ before + 0 → new + before ≡ old + inside → later < old
    joined later new old inside before taken a b c d = omega arith
