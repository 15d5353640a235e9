-- The bytes of a text, by the nodes of the instances that it is made of.
use Rattle.std.proofs.Common.{◌≡◌, ◌≤◌, ◌+◌, ◌*◌, ℕ, zero, suc, List, [], ◌∷◌, length, map, Some, refl, sym, ap, ◌∙◌, arith}
use Rattle.std.proofs.Math.Nat.{le-max_left, le-max_right}
use Rattle.std.proofs.lemmas.List.Sums.{sum_by-cons}
use Rattle.std.proofs.lemmas.Nat.{mul-le}
use Rattle.std.specs.Prelude.{slice_get, slice_index_or, sum}
use Rattle.kk_syntax.specs.Programs.{FunctionTree, ProgramTree, body_of, no_function}
use Rattle.kk_syntax.specs.Shapes.{nodes_of, greatest_of, greatest_nodes}
use Rattle.kk_syntax.specs.Typing.{Choice}
use Rattle.kk_mono.specs.Counts.{IsSmall, summed_nodes}
use Rattle.kk_mono.specs.Instances.{InstanceTree, origin_in, IsInstanceProgram}
use Rattle.kk_mono.proofs.BodyCopies.{nodes_renamed}
use Rattle.kk_core.specs.CodeNodes.{drops_words, most_node_words, most_pair_words}
use Rattle.kk_counted.specs.TokenedCodes.{TokenedFunction, TokenedProgram}
use Rattle.kk_counted.specs.TokenedWords.{all_tokened_words}
use Rattle.kk_middle.specs.FunctionWords.{HaveFewWords}
use Rattle.kk_back.specs.Sizes.{most_text_bytes}
use Rattle.kk_build.specs.Texts.{pair_bytes, plain_bytes}
use Rattle.kk_build.proofs.Nodes.{instances_have_no_more}

-- the nodes of functions in all
abbrev nodes_in : FunctionTree → ℕ
nodes_in function = nodes_of function.body

abbrev all_nodes : List FunctionTree → ℕ
all_nodes functions = sum (map nodes_in functions)

-- there are as many functions with words as instances
as_many : (instances : List FunctionTree) (functions : List TokenedFunction) → HaveFewWords instances functions
    → length functions ≡ length instances
as_many [] [] few = refl
as_many [] (function ∷ functions) few = absurd few
as_many (instance ∷ instances) [] few = absurd few
as_many (instance ∷ instances) (function ∷ functions) few = ap suc (as_many instances functions few.1)

-- the words of all functions are bounded by the nodes of all, and by these times those of the greatest one
words_few : (most : ℕ) (instances : List FunctionTree) (functions : List TokenedFunction) → greatest_of instances ≤ most
    → HaveFewWords instances functions
    → all_tokened_words functions ≤ most_pair_words * (most * all_nodes instances) + most_node_words * all_nodes instances
    + drops_words * length functions
words_few most [] [] within few = omega arith
words_few most [] (function ∷ functions) within few = absurd few
words_few most (instance ∷ instances) [] within few = absurd few
words_few most (instance ∷ instances) (function ∷ functions) within few =
    let nodes = nodes_of instance.body in
    let rest_nodes = all_nodes instances in
    let left = le-max_left nodes (greatest_of instances) in
    let right = le-max_right nodes (greatest_of instances) in
    let small : nodes ≤ most = omega (arith, left, within) in
    let pairs = mul-le nodes nodes most nodes small (omega arith) in
    let rest = words_few most instances functions (omega (arith, right, within)) few.1 in
    let all : all_nodes (instance ∷ instances) ≡ nodes + rest_nodes = sum_by-cons (λ (n : ℕ). n) nodes (map nodes_in instances) in
    let here = few.0 in
    let product : most * all_nodes (instance ∷ instances) ≡ most * nodes + most * rest_nodes
    = ap (λ n. most * n) all ∙ omega arith in
    omega (arith, here, pairs, rest, all, product)

-- The nodes of the functions that instances are of, where each has the body of its instance but for numbers.
module _ (program : ProgramTree) where
  abbrev nodes_at : InstanceTree → ℕ
  nodes_at instance = nodes_of (body_of program instance.function)

  summed_alike : (instances : List InstanceTree) (functions : List FunctionTree) → length functions ≡ length instances
      → ((n : ℕ) (instance : InstanceTree) (function : FunctionTree) → slice_get instances n ≡ Some instance
      → slice_get functions n ≡ Some function → nodes_of function.body ≡ nodes_at instance)
      → map nodes_in functions ≡ map nodes_at instances
  summed_alike [] [] many each = refl
  summed_alike [] (function ∷ functions) many each = absurd (cc)
  summed_alike (instance ∷ instances) [] many each = absurd (cc)
  summed_alike (instance ∷ instances) (function ∷ functions) many each =
      let first = each 0 instance function refl refl in
      let rest = summed_alike instances functions (omega (arith, many))
      (λ n one other there also. each (suc n) one other there also) in
      cc

-- a function that is there is the one of its number
there_is : (functions : List FunctionTree) (n : ℕ) (function : FunctionTree) → slice_get functions n ≡ Some function
    → slice_index_or functions n no_function ≡ function
there_is [] n function there = absurd (cc)
there_is (first ∷ functions) zero function there = cc
there_is (first ∷ functions) (suc n) function there = there_is functions n function there

module _ {program made : ProgramTree} {typings : List (List Choice)} {instances : List InstanceTree}
    (are : IsInstanceProgram program typings instances made) where
  -- the nodes of the instances are those of the functions that they are
  summed : all_nodes made.functions ≡ summed_nodes program instances
  summed = ap sum (summed_alike program instances made.functions are.as_many same)
    where
      same : (n : ℕ) (instance : InstanceTree) (function : FunctionTree) → slice_get instances n ≡ Some instance
          → slice_get made.functions n ≡ Some function → nodes_of function.body ≡ nodes_at program instance
      same n instance function there also =
          let of = are.each n instance function there also in
          let renamed = nodes_renamed (origin_in instances are.grounds) function.body in
          let body = ap nodes_of of.2.body in
          let found = there_is program.functions instance.function of.0 of.1 in
          sym renamed ∙ body ∙ ap (λ (f : FunctionTree). nodes_of f.body) (sym found)

  -- a text of their words has few bytes
  pub bytes_few : (code : TokenedProgram) (bytes : ℕ) → IsSmall made → HaveFewWords made.functions code.functions
      → bytes ≤ most_text_bytes code
      → bytes ≤ pair_bytes * (greatest_nodes program * summed_nodes program instances) + plain_bytes
  bytes_few code bytes small few most =
      let many = as_many made.functions code.functions few in
      let words = words_few (greatest_nodes program) made.functions code.functions (instances_have_no_more are) few in
      let pairs : greatest_nodes program * all_nodes made.functions ≡ greatest_nodes program * summed_nodes program instances
      = ap (λ n. greatest_nodes program * n) summed in
      omega (arith, most, many, words, pairs, small.few, small.nodes)
