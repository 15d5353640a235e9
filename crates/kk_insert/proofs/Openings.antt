-- Inserted code opens no more cells on a path than the core code that it is made of.
use Rattle.std.proofs.Common.{◌≡◌, ℕ, zero, suc, ◌≤◌, Bool, true, false, ◌||◌, List, [], ◌∷◌, Some, refl, subst, arith}
use Rattle.std.specs.Prelude.{slice_get}
use Rattle.kk_syntax.specs.declared.program.Form.{Form}
use Rattle.kk_syntax.specs.declared.program.Form.TheVariants.{Call}
use Rattle.kk_syntax.specs.Shapes.{is_among, without}
use Rattle.kk_syntax.specs.PositionsOf.{PositionTable}
use Rattle.kk_core.specs.Codes.{Code, give, tail_call, case, compute, use_of, unpack, inside, Arms, no_arm, arm, FunctionCode, ProgramCode}
use Rattle.kk_core.specs.Unpackings.{unpackings, unpackings_of, UnpackAtMost}
use Rattle.kk_counted.specs.CountedCodes as Counted
use Rattle.kk_counted.specs.CountedCodes.{CountedFunction}
use Rattle.kk_counted.specs.Spending.{at_positions, numbers_from, is_owned}
use Rattle.kk_counted.specs.TokenCosts.{openings, openings_of, OpenAtMost}
use Rattle.kk_insert.specs.Insertion.{common, dups, drops, opening, wants, used, lent_of, own, insert, insert_arms, inserted_function, inserted_functions, inserted}
use Rattle.kk_insert.proofs.PassedCounts.{past_dups, past_drops, past_form}

pub dups_open : (xs : List ℕ) (rest : Counted.Counted) → openings (dups xs rest) ≡ openings rest
dups_open = past_dups openings (λ x rest. refl) (λ x rest. refl)

pub drops_open : (xs : List ℕ) (rest : Counted.Counted) → openings (drops xs rest) ≡ openings rest
drops_open = past_drops openings (λ x rest. refl) (λ x rest. refl)

pub form_opens : (positions : PositionTable) (lent left : List ℕ) (x : ℕ) (form : Form) (arguments : List ℕ) (rest : Code)
    → openings (insert positions lent left (compute x form arguments rest)) ≡ openings (insert positions lent left rest)
form_opens positions lent left x form arguments rest =
    past_form openings (λ y behind. refl) (λ y behind. refl) positions lent left x form arguments rest (λ behind. refl)

pub opening_opens : (stays : Bool) (x c : ℕ) (fields in_use : List ℕ) (rest : Counted.Counted)
    → openings (opening stays x c fields in_use rest) ≤ suc (openings rest)
opening_opens true x c fields in_use rest = omega (arith, dups_open in_use rest)
opening_opens false x c fields in_use rest = omega arith

module _ (positions : PositionTable) where
  module _ (lent : List ℕ) where
    mutual
      insert_opens : (code : Code) (left : List ℕ) → openings (insert positions lent left code) ≤ unpackings code
      insert_opens (give x) left = omega (arith, dups_open (wants lent (x ∷ []) left) (Counted.give x))
      insert_opens (tail_call f arguments) left =
          omega (arith, dups_open (wants lent (used positions (Call f) arguments) left) (Counted.tail_call f arguments))
      insert_opens (case x decisions arms) left = arms_open arms left (own positions lent left (case x decisions arms))
      insert_opens (compute x form arguments rest) left =
          omega (arith, form_opens positions lent left x form arguments rest, insert_opens rest left)
      insert_opens (use_of x rest) left =
          omega (
            arith,
            drops_open (without (own positions lent left rest) (own positions lent left (use_of x rest)))
                (insert positions lent left rest),
            insert_opens rest left,
          )
      insert_opens (unpack x c fields rest) left =
          omega (
            arith,
            opening_opens (is_among lent x || is_among (own positions lent left rest) x) x c fields
                (common (own positions lent left rest) fields) (insert positions lent left rest),
            insert_opens rest left,
          )
      insert_opens (inside x block rest) left =
          omega (
            arith,
            insert_opens block (without (x ∷ []) (own positions lent left rest)),
            drops_open (without (own positions lent left rest) (x ∷ [])) (insert positions lent left rest),
            insert_opens rest left,
          )

      arms_open : (arms : Arms) (left all : List ℕ) → openings_of (insert_arms positions lent left all arms) ≤ unpackings_of arms
      arms_open no_arm left all = omega arith
      arms_open (arm pattern body rest) left all =
          omega (
            arith,
            drops_open (without (own positions lent left body) all) (insert positions lent left body),
            insert_opens body left,
            arms_open rest left all,
          )

  function_opens : (f : ℕ) (function : FunctionCode)
      → openings (inserted_function positions f function).body ≤ unpackings function.body
  function_opens f function =
      let lent : List ℕ = lent_of positions f function in
      omega (
        arith,
        drops_open
            (without (own positions lent [] function.body)
            (at_positions (is_owned positions [] f) 0 (numbers_from 0 function.parameters)))
            (insert positions lent [] function.body),
        insert_opens lent function.body [],
      )

  functions_open : (functions : List FunctionCode) (most first : ℕ)
      → ((f : ℕ) (function : FunctionCode) → slice_get functions f ≡ Some function → unpackings function.body ≤ most)
      → (f : ℕ) (function : CountedFunction) → slice_get (inserted_functions positions first functions) f ≡ Some function
      → openings function.body ≤ most
  functions_open [] most first few f function is = cc is
  functions_open (one ∷ functions) most first few zero function is =
      let same : inserted_function positions first one ≡ function = cc is in
      subst (λ (g : CountedFunction). openings g.body ≤ most) same (omega (arith, function_opens first one, few zero one refl))
  functions_open (one ∷ functions) most first few (suc f) function is =
      functions_open functions most (suc first) (λ g other there. few (suc g) other there) f function is

  pub inserted_opens : (most : ℕ) (code : ProgramCode) → UnpackAtMost most code → OpenAtMost most (inserted positions code)
  inserted_opens most code few = functions_open code.functions most 0 few
