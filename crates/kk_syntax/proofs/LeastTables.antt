-- Each program has a table of its owned positions: the search comes to it.
use Rattle.std.proofs.Common.{◌≡◌, ◌<◌, ◌≤◌, ◌⊎◌, inl, inr, ℕ, zero, suc, true, false, Option, Some, None, length, refl, sym, ap, ◌∙◌, subst, arith}
use Rattle.std.proofs.lemmas.Bool.{both_ways, cases_Bool, cases_eq}
use Rattle.kk_syntax.proofs.OwnedSearch.{given, asks_used, asks_handed, asks_none, asks_one, asks_closed, Grows, begins, grows, ends, lents, fewer_lent}
use Rattle.kk_syntax.specs.declared.positions.Position.{Position}
use Rattle.kk_syntax.specs.OwnedPositions.{function_at, uses, owned_in, Told, IsLeast}
use Rattle.kk_syntax.specs.OwnedSearch.{each_lent, with_owned, first_lent, FindsUsed, AsksIn, Asks}
use Rattle.kk_syntax.specs.PositionsOf.{PositionTable, is_lent}
use Rattle.kk_syntax.specs.Programs.{FunctionTree, ProgramTree}

-- something is answered, or nothing
abbrev pub Answered : (Option Position → Type 0) → Type 0
Answered answer = ((p : Position) × answer (Some p)) ⊎ answer None

is_answered : (o : Option Position) → Answered (λ answer. o ≡ answer)
is_answered (Some p) = inl (p, refl)
is_answered None = inr refl

module _ (program : ProgramTree) (table : PositionTable) (told : Told program table) where
  -- the parameters of a function below a number
  looked_at : (number : ℕ) (function : FunctionTree) (count : ℕ) → count ≤ length function.parameters
      → ((p : Position) × FindsUsed table number function (Some p)) ⊎ ((x : ℕ) → x < count → is_lent table number x ≡ true → uses (owned_in table) true x function.body ≡ false)
  looked_at number function zero le = inr (λ x lt. absurd (omega (arith, lt)))
  looked_at number function (suc count) le = elim (looked_at number function count (omega (arith, le))) [
    | inl found ↦ inl found
    | inr none ↦ elim (cases_Bool (is_lent table number count)) [
      | inr fails ↦ inr (λ x lt lent. elim (cases_eq x count) [
        | inl same ↦ absurd (both_ways (is_lent table number count) fails (sym (ap (is_lent table number) same) ∙ lent))
        | inr other ↦ none x (omega (arith, lt, other)) lent
      ])
      | inl holds ↦ elim (cases_Bool (uses (owned_in table) true count function.body)) [
        | inl is ↦ inl (record { function = number; parameter = count }, record { of = refl; below = omega (arith, le); lent = holds; used = is })
        | inr fails ↦ inr (λ x lt lent. elim (cases_eq x count) [
          | inl same ↦ ap (λ y. uses (owned_in table) true y function.body) same ∙ fails
          | inr other ↦ none x (omega (arith, lt, other)) lent
        ])
      ]
    ]
  ]

  asked_in : (number : ℕ) (function : FunctionTree) → function_at program number ≡ function → Answered (AsksIn program table number function)
  asked_in number function at = elim (looked_at number function (length function.parameters) (omega arith)) [
    | inl found ↦ inl (found.0, asks_used program table number function found.0 found.1)
    | inr none ↦ elim (is_answered (first_lent table (given (owned_in table) number function))) [
      | inl found ↦ inl (found.0, asks_handed program table number function found.0 told found.1)
      | inr fails ↦ inr (asks_none program table number function told at none fails)
    ]
  ]

  -- the functions below a number
  asked_below : (count : ℕ) → count ≤ length program.functions → ((p : Position) × Asks program table (Some p)) ⊎ ((k : ℕ) → k < count → AsksIn program table k (function_at program k) None)
  asked_below zero le = inr (λ k lt. absurd (omega (arith, lt)))
  asked_below (suc count) le = elim (asked_below count (omega (arith, le))) [
    | inl found ↦ inl found
    | inr none ↦ elim (asked_in count (function_at program count) refl) [
      | inl found ↦ inl (found.0, asks_one program table count (function_at program count) found.0 (omega (arith, le)) refl found.1)
      | inr fails ↦ inr (λ k lt. elim (cases_eq k count) [
        | inl same ↦ subst (λ n. AsksIn program table n (function_at program n) None) (sym same) fails
        | inr other ↦ none k (omega (arith, lt, other))
      ])
    ]
  ]

  asked : Answered (Asks program table)
  asked = elim (asked_below (length program.functions) (omega arith)) [
    | inl found ↦ inl found
    | inr none ↦ inr (asks_closed program table none)
  ]

search : (program : ProgramTree) (most : ℕ) (table : PositionTable) → Grows program table → lents table ≤ most → (least : PositionTable) × IsLeast program least
search program zero table so_far le = elim (asked program table so_far.told) [
  | inr none ↦ (table, ends program table so_far none)
  | inl found ↦ let lt = fewer_lent table (with_owned table found.0) found.0 found.1.0 refl in absurd (omega (arith, le, lt))
]
search program (suc most) table so_far le = elim (asked program table so_far.told) [
  | inr none ↦ (table, ends program table so_far none)
  | inl found ↦
      let lt = fewer_lent table (with_owned table found.0) found.0 found.1.0 refl in
      search program most (with_owned table found.0) (grows program table (with_owned table found.0) found.0 so_far found.1 refl) (omega (arith, le, lt))
]

pub least_table : (program : ProgramTree) → (table : PositionTable) × IsLeast program table
least_table program = search program (lents (each_lent program.functions)) (each_lent program.functions) (begins program (each_lent program.functions) refl) (omega arith)
