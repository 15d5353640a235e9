-- The rules that wait for each position, after a change at one position, and the work that is left.
use Rattle.std.proofs.Common.{◌≡◌, ◌<◌, ℕ, zero, suc, ◌+◌, ◌⊎◌, inl, inr, List, [], ◌∷◌, ◌++◌, length, replicate, set, get_or, refl, sym, ap, ◌∙◌, arith, get_or-set_same, get_or-set_other}
use Rattle.std.proofs.lemmas.Bool.{cases_lt, cases_eq}
use Rattle.std.proofs.lemmas.List.{get_or_past, set_past, length_push}
use Rattle.std.proofs.lemmas.List.Sums.{sum_by-set, sum_by_push}
use Rattle.std.specs.List.{sum_by}
use Rattle.kk_syntax.specs.Programs.{FunctionTree}
use Rattle.kk_syntax.specs.declared.positions.Position.{Position}
use Rattle.kk_borrow.specs.Rules.{RuleTree}
use Rattle.kk_borrow.specs.Standings.{WaitingTable, waiting_at, with_waiting, none_waiting, cost, work}

-- at the position
pub at_same : (table : WaitingTable) (p : Position) (rules : List RuleTree) → p.function < length table → p.parameter < length (get_or table p.function []) → waiting_at (with_waiting table p rules) p.function p.parameter ≡ rules
at_same table p rules f_in i_in =
    ap (λ (row : List (List RuleTree)). get_or row p.parameter []) (get_or-set_same table p.function (set (get_or table p.function []) p.parameter rules) [] f_in)
    ∙ get_or-set_same (get_or table p.function []) p.parameter rules [] i_in

-- at any position, that one aside
pub at_other : (table : WaitingTable) (p : Position) (rules : List RuleTree) (f i : ℕ) → ((f ≡ p.function) × (i ≡ p.parameter)) ⊎ (waiting_at (with_waiting table p rules) f i ≡ waiting_at table f i)
at_other table p rules f i =
    let row = set (get_or table p.function []) p.parameter rules in
    elim (cases_eq f p.function) [
      | inr other ↦ inr (ap (λ (r : List (List RuleTree)). get_or r i []) (get_or-set_other table p.function f row [] other))
      | inl same ↦ elim (cases_lt p.function (length table)) [
        | inr ge ↦ inr (ap (λ (t : WaitingTable). waiting_at t f i) (set_past table p.function row ge))
        | inl lt ↦ elim (cases_eq i p.parameter) [
          | inl at ↦ inl (same, at)
          | inr beside ↦
              inr
              (ap (λ (g : ℕ). waiting_at (with_waiting table p rules) g i) same
              ∙ (ap (λ (r : List (List RuleTree)). get_or r i []) (get_or-set_same table p.function row [] lt)
              ∙ (get_or-set_other (get_or table p.function []) p.parameter i rules [] beside ∙ sym (ap (λ (g : ℕ). waiting_at table g i) same))))
        ]
      ]
    ]

empty_row : (n i : ℕ) → get_or (replicate {A = List RuleTree} n []) i [] ≡ []
empty_row zero i = get_or_past [] i [] (omega arith)
empty_row (suc n) zero = refl
empty_row (suc n) (suc i) = empty_row n i

-- no rule waits at first
pub none_at : (functions : List FunctionTree) (f i : ℕ) → waiting_at (none_waiting functions) f i ≡ []
none_at [] f i = ap (λ (row : List (List RuleTree)). get_or row i []) (get_or_past [] f [] (omega arith)) ∙ get_or_past [] i [] (omega arith)
none_at (g ∷ gs) zero i = empty_row (length g.parameters) i
none_at (g ∷ gs) (suc f) i = none_at gs f i

-- the work after a change
pub work_set : (table : WaitingTable) (p : Position) (rules : List RuleTree) → p.function < length table → p.parameter < length (get_or table p.function [])
    → sum_by (sum_by (sum_by cost)) (with_waiting table p rules) + sum_by cost (waiting_at table p.function p.parameter) ≡ sum_by (sum_by (sum_by cost)) table + sum_by cost rules
work_set table p rules f_in i_in =
    let row = get_or table p.function [] in
    let inner = sum_by-set (sum_by cost) row p.parameter rules [] i_in in
    let outer = sum_by-set (sum_by (sum_by cost)) table p.function (set row p.parameter rules) [] f_in in
    joined (sum_by (sum_by (sum_by cost)) (with_waiting table p rules)) (sum_by (sum_by (sum_by cost)) table) (sum_by (sum_by cost) (set row p.parameter rules)) (sum_by (sum_by cost) row) (sum_by cost (get_or row p.parameter [])) (sum_by cost rules) inner outer
  where
    joined : (new old inside before taken given : ℕ) → inside + taken ≡ before + given → new + before ≡ old + inside → new + taken ≡ old + given
    joined new old inside before taken given a b = omega arith

-- a rule that waits without its last premise lowers the work
pub less_lent : (table waits : WaitingTable) (p : Position) (queue : List RuleTree) (r s : RuleTree) → r.premises ≡ s.premises ++ p ∷ [] → waits ≡ with_waiting table p (waiting_at table p.function p.parameter ++ s ∷ [])
    → p.function < length table → p.parameter < length (get_or table p.function []) → work waits queue < work table (queue ++ r ∷ [])
less_lent table waits p queue r s parts is f_in i_in =
    let before = waiting_at table p.function p.parameter in
    let changed = work_set table p (before ++ s ∷ []) f_in i_in in
    let more = sum_by_push cost before s in
    let whole = sum_by_push cost queue r in
    let longer : length r.premises ≡ length s.premises + 1 = ap length parts ∙ length_push s.premises p in
    let same = ap (λ (t : WaitingTable). sum_by (sum_by (sum_by cost)) t) is in
    below (sum_by (sum_by (sum_by cost)) waits) (sum_by (sum_by (sum_by cost)) (with_waiting table p (before ++ s ∷ []))) (sum_by (sum_by (sum_by cost)) table) (sum_by cost before) (sum_by cost (before ++ s ∷ [])) (sum_by cost queue) (sum_by cost (queue ++ r ∷ [])) (cost s) (cost r)
    same changed more whole (omega (arith, longer))
  where
    below : (waits new old before after queue all short long : ℕ) → waits ≡ new → new + before ≡ old + after → after ≡ before + short → all ≡ queue + long → short < long → waits + queue < old + all
    below waits new old before after queue all short long a b c d e = omega arith

-- a list of which the length is known to be 0
pub nothing_left : {X : Type 0} (xs : List X) (n : ℕ) → n ≡ length xs → n ≡ 0 → xs ≡ []
nothing_left [] n len is = refl
nothing_left (x ∷ xs) n len is = absurd (omega (arith, len, is))
