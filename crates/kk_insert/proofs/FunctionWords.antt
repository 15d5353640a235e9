-- How many words the functions of an inserted program take at most.
use Rattle.std.proofs.Common.{◌≡◌, ℕ, suc, ◌+◌, ◌-◌, ◌*◌, ◌≤◌, true, false, not, List, [], ◌∷◌, arith, ap}
use Rattle.kk_syntax.specs.GroundTyping.{Signature, Table}
use Rattle.kk_syntax.specs.PositionsOf.{PositionTable}
use Rattle.kk_syntax.specs.Shapes.{is_among, without}
use Rattle.kk_core.specs.CodeNodes.{pattern_nodes, other_nodes, HasBriefTests, most_pair_words}
use Rattle.kk_core.specs.Codes.{FunctionCode, ProgramCode}
use Rattle.kk_core.specs.CoreTyping.{AreCodesTyped, IsCoreTyped, AreSmall, IsSmall}
use Rattle.kk_core.specs.Sizes.{below, IsOrdered, most_parameters}
use Rattle.kk_counted.proofs.ListLengths.{filter_few, positions_few, numbers_length}
use Rattle.kk_counted.specs.Spending.{at_positions, numbers_from, is_owned}
use Rattle.kk_counted.specs.TokenWords.{code_words, token_words}
use Rattle.kk_insert.specs.InsertedWords.{most_words, TakeFewWords}
use Rattle.kk_insert.specs.Insertion.{drops, lent_of, own, insert, inserted_function, inserted_functions, inserted}
use Rattle.kk_insert.proofs.InsertedNodes.{some_nodes}
use Rattle.kk_insert.proofs.NeededWords.{needs_all, needs_drops}
use Rattle.kk_insert.proofs.OwnedClasses.{only_parameters}
use Rattle.kk_insert.proofs.OwnedVariables.{own_part}
use Rattle.kk_insert.proofs.Programs.{below_less, ordered_is_fine}
use Rattle.kk_insert.proofs.WordBounds.{few_words}
use Rattle.kk_insert.proofs.WordRooms.{room_whole}

module _ (positions : PositionTable) where
  -- a function begins with no results, no fields and no tokens
  function_words : (f : ℕ) (function : FunctionCode) → IsOrdered function → function.parameters ≤ most_parameters
      → HasBriefTests function.body
      → code_words (inserted_function positions f function).body + token_words 0 (inserted_function positions f function).body
      ≤ most_words function.body
  function_words f function ordered eight brief =
      let lent = lent_of positions f function in
      let bound = below function.parameters in
      let body = function.body in
      let start = own positions lent [] body in
      let owned = at_positions (is_owned positions [] f) 0 (numbers_from 0 function.parameters) in
      let dropped = without start owned in
      let code = insert positions lent [] body in
      let fine = ordered_is_fine positions f function ordered in
      let only = only_parameters bound start (own_part positions lent [] bound body fine (λ y is. absurd (none y is))) in
      let low = λ (y : ℕ) (is : is_among bound y ≡ true).
      (let less = below_less function.parameters y is in
      let small : suc y ≤ most_parameters = omega (arith, less, eight) in small) in
      let fits = few_words positions lent bound low [] false 0 0 0 0 0 (other_nodes body - 1) [] bound body fine
      (λ y is. absurd (none y is)) (λ y is. absurd (none y is)) tt brief (omega (arith, some_nodes body))
      (omega (arith, only.0)) (omega (arith, only.1)) (omega arith) (omega arith) in
      let nodes = pattern_nodes [] false body in
      omega (
        arith,
        needs_all 0 (drops dropped code),
        needs_drops 0 dropped code,
        filter_few (λ y. not (is_among start y)) owned,
        positions_few (is_owned positions [] f) 0 (numbers_from 0 function.parameters),
        numbers_length 0 function.parameters,
        eight,
        fits,
        room_whole nodes (other_nodes body - 1),
        ap (λ n. 2 * most_pair_words * ((nodes + n) * (nodes + n)))
            (let others : other_nodes body - 1 + 1 ≡ other_nodes body = omega (arith, some_nodes body) in others),
      )
    where
      none : (y : ℕ) → is_among [] y ≡ true → ⊥
      none y is = absurd (cc)

  functions_words : (table : Table) (f : ℕ) (functions : List FunctionCode) (signatures : List Signature)
      → AreCodesTyped table functions signatures → AreSmall functions
      → TakeFewWords functions (inserted_functions positions f functions)
  functions_words table f [] signatures typed small = tt
  functions_words table f (function ∷ functions) [] typed small = absurd typed
  functions_words table f (function ∷ functions) (signature ∷ signatures) typed small = (
    (λ brief. function_words f function typed.0.ordered small.0.parameters brief),
    functions_words table (suc f) functions signatures typed.1 small.1,
  )

pub inserted_words : (positions : PositionTable) (table : Table) (code : ProgramCode) → IsCoreTyped table code → IsSmall code
    → TakeFewWords code.functions (inserted positions code).functions
inserted_words positions table code typed small =
    functions_words positions table 0 code.functions table.functions typed.functions small.functions
