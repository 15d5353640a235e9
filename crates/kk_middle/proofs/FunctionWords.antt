-- The words of each function of a compiled program, from pass to pass, by the nodes of the body that it is made of.
use Rattle.std.proofs.Common.{◌≡◌, ◌≤◌, ◌+◌, ℕ, suc, false, List, [], ◌∷◌, map, refl, arith}
use Rattle.std.proofs.lemmas.Nat.{mul-le}
use Rattle.kk_syntax.specs.Programs.{FunctionTree}
use Rattle.kk_syntax.specs.Shapes.{nodes_of}
use Rattle.kk_core.specs.CodeNodes.{pattern_nodes, other_nodes, StandsForNodes, StandForNodes}
use Rattle.kk_core.specs.Codes.{Code, FunctionCode}
use Rattle.kk_counted.specs.BlockEnds.{EndsWell, AllEndWell}
use Rattle.kk_counted.specs.CountedCodes.{Counted, CountedFunction}
use Rattle.kk_counted.specs.TokenWords.{code_words, token_words}
use Rattle.kk_counted.specs.TokenedCodes.{TokenedFunction}
use Rattle.kk_counted.specs.TokenedWords.{tokened_words}
use Rattle.kk_insert.specs.InsertedWords.{most_words, TakeFewWords}
use Rattle.kk_dropspec.specs.Specialised.{special, special_function}
use Rattle.kk_fuse.specs.Fused.{fuse, fused_function}
use Rattle.kk_reuse.specs.Pairing.{paired_function}
use Rattle.kk_respec.specs.Respecialised.{respecialised_function}
use Rattle.kk_middle.specs.FunctionWords.{most_function_words, HaveFewWords}

-- a body that stands for so many nodes has the words of a function with these
within_nodes : (nodes : ℕ) (body : Code) → StandsForNodes nodes body → most_words body ≤ most_function_words nodes
within_nodes nodes body stands =
    let own = pattern_nodes [] false body + other_nodes body in
    let pairs = mul-le own own nodes nodes stands.nodes stands.nodes in
    omega (arith, stands.words, pairs)

-- the words of a code, with those for its tokens
abbrev words_in : Counted → ℕ
words_in code = code_words code + token_words 0 code

-- what the laws of the passes say of words and of how code ends
module _ (special_few : (code : Counted) → words_in (special code) ≤ words_in code)
    (special_ends : (code : Counted) → EndsWell false code → EndsWell false (special code))
    (fused_few : (code : Counted) → words_in (fuse code) ≤ words_in code)
    (fused_ends : (code : Counted) → EndsWell false code → EndsWell false (fuse code))
    (paired_few : (function : CountedFunction) → EndsWell false function.body
    → tokened_words (paired_function function).body ≤ words_in function.body)
    (as_many : (function : TokenedFunction)
    → tokened_words (respecialised_function function).body ≡ tokened_words function.body) where
  -- no pass makes the words of a function more than those of the inserted one
  function_few : (counted : CountedFunction) → EndsWell false counted.body
      → tokened_words (respecialised_function (paired_function (fused_function (special_function counted)))).body
      ≤ words_in counted.body
  function_few counted ends =
      let fused = fused_function (special_function counted) in
      let kept = fused_ends (special counted.body) (special_ends counted.body ends) in
      let paired = paired_few fused kept in
      let same = as_many (paired_function fused) in
      let less = fused_few (special counted.body) in
      let least = special_few counted.body in
      omega (arith, same, paired, less, least)

  -- so each function has few words by the nodes that it stands for
  pub functions_few : (instances : List FunctionTree) (cores : List FunctionCode) (counted : List CountedFunction)
      → StandForNodes instances cores → TakeFewWords cores counted → AllEndWell counted
      → HaveFewWords instances
      (map respecialised_function (map paired_function (map fused_function (map special_function counted))))
  functions_few [] [] [] stand take ends = tt
  functions_few [] [] (one ∷ counted) stand take ends = absurd take
  functions_few [] (core ∷ cores) counted stand take ends = absurd stand
  functions_few (instance ∷ instances) [] counted stand take ends = absurd stand
  functions_few (instance ∷ instances) (core ∷ cores) [] stand take ends = absurd take
  functions_few (instance ∷ instances) (core ∷ cores) (one ∷ counted) stand take ends =
      let kept = function_few one (ends 0 one refl) in
      let inserted = take.0 stand.0.tests in
      let nodes = within_nodes (nodes_of instance.body) core.body stand.0 in (
        omega (arith, kept, inserted, nodes),
        functions_few instances cores counted stand.1 take.1 (λ f function there. ends (suc f) function there),
      )
