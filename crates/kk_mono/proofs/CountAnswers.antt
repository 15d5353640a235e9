-- What the code answers is what the program comes to.
use Rattle.std.proofs.Common.{◌≡◌, ◌⊎◌, ℕ, ◌+◌, ◌<◌, ◌≤◌, List, [], ◌∷◌, length, map, get_or, drop, All, Option, Some, None, option_map, refl, ap, sym, ◌∙◌, subst, inl, inr, arith, nat_lt}
use Rattle.std.specs.Prelude.{max, Ok, Err, slice_get, sum}
use Rattle.std.proofs.lemmas.Bool.{cases_Bool, ltb-true, cond-false}
use Rattle.std.proofs.lemmas.List.{drop_more, length-map, get_or-map}
use Rattle.std.proofs.lemmas.List.Sums.{sum-map, sum_by-drop_more}
use Rattle.std.proofs.lemmas.Option.{slice_get_within, get_or_from_slice_get}
use Rattle.kk_base.specs.declared.limit.Limit.{Limit}
use Rattle.kk_base.specs.declared.limit.LimitKind.TheVariants.{FunctionNodes, Instances, ProgramNodes}
use Rattle.kk_base.specs.Limits.{greatest_of}
use Rattle.kk_syntax.specs.declared.program.Fun.{Fun}
use Rattle.kk_syntax.specs.declared.program.Program.{Program}
use Rattle.kk_syntax.specs.Programs.{FunctionTree, ProgramTree, function_tree, program_tree, no_function, body_of}
use Rattle.kk_syntax.specs.Shapes.{greatest_of as nodes_at_most, nodes_of}
use Rattle.kk_syntax.specs.Trees.{expr_tree}
use Rattle.kk_syntax.specs.Types.{TypeTree}
use Rattle.kk_syntax.specs.Typing.{Choice, ArePrincipal}
use Rattle.kk_mono.specs.Counts.{too_many_nodes, summed_nodes, of_function, of_instances, of_program, CountsAs, AnswersCounts}
use Rattle.kk_mono.specs.Instances.{InstanceTree, AreInstances}
use Rattle.kk_mono.specs.KeyTrees.{KeyTree, viewed}
use Rattle.kk_mono.specs.InstanceSearch.{Searched}
use Rattle.kk_mono.specs.PassedLimits.{told, summed_keys, AreFew, PassedBy}
use Rattle.kk_mono.proofs.CountOutcome.{only_counts}
use Rattle.kk_mono.proofs.InstanceSearch.{search_ends, search_passes}

map-map : {X Y Z : Type 0} (f : X → Y) (g : Y → Z) (xs : List X) → map g (map f xs) ≡ map (λ x. g (f x)) xs
map-map f g [] = refl
map-map f g (x ∷ xs) = ap (λ ys. g (f x) ∷ ys) (map-map f g xs)

-- the nodes of one more instance
pub summed_more : (program : Program) (keys : List KeyTree) (i : ℕ) (key : KeyTree) (function : Fun) → slice_get keys i ≡ Some key → All (λ (k : KeyTree). k.number < length program.functions.items) keys → function ≡ get_or program.functions.items key.number function
    → summed_keys (program_tree program) (drop i keys) ≡ nodes_of (expr_tree function.body) + summed_keys (program_tree program) (drop (i + 1) keys)
summed_more program keys i key function found within is =
    let lt = slice_get_within keys i key found in
    let here : get_or keys i key ≡ key = get_or_from_slice_get keys i key key found in
    let below : key.number < length program.functions.items = subst (λ (k : KeyTree). k.number < length program.functions.items) here (within i key lt) in
    let body : body_of (program_tree program) (get_or keys i key).number ≡ expr_tree function.body =
    ap (λ (k : KeyTree). body_of (program_tree program) k.number) here
    ∙ (ap (λ (x : FunctionTree). x.body) (get_or-map function_tree program.functions.items key.number function no_function below) ∙ ap (λ (x : Fun). expr_tree x.body) (sym is)) in
    let whole = sum-map (λ (k : KeyTree). nodes_of (body_of (program_tree program) k.number)) (drop i keys) in
    let rest = sum-map (λ (k : KeyTree). nodes_of (body_of (program_tree program) k.number)) (drop (i + 1) keys) in
    let more = sum_by-drop_more (λ (k : KeyTree). nodes_of (body_of (program_tree program) k.number)) keys i key lt in
    let nodes = ap nodes_of body in
    omega (arith, whole, rest, more, nodes)

-- one function more, that has not too many nodes
pub few_more : (functions : List Fun) (i : ℕ) (function : Fun) → i < length functions → function ≡ get_or functions i function → nodes_of (expr_tree function.body) ≤ greatest_of FunctionNodes
    → too_many_nodes (map function_tree (drop i functions)) ≡ too_many_nodes (map function_tree (drop (i + 1) functions))
few_more functions i function lt is few =
    ap (λ fs. too_many_nodes (map function_tree fs)) (drop_more functions i function lt)
    ∙ (ap (λ (f : Fun). too_many_nodes (function_tree f ∷ map function_tree (drop (i + 1) functions))) (sym is)
    ∙ elim (cases_Bool (nat_lt (greatest_of FunctionNodes) (nodes_of (expr_tree function.body)))) [
      | inl many ↦ absurd (let lt = ltb-true (greatest_of FunctionNodes) (nodes_of (expr_tree function.body)) many in omega (arith, lt, few))
      | inr none ↦ cond-false (nat_lt (greatest_of FunctionNodes) (nodes_of (expr_tree function.body))) (Some (nodes_of (expr_tree function.body))) (too_many_nodes (map function_tree (drop (i + 1) functions))) none
    ])

pub greatest_more : (functions : List Fun) (i : ℕ) (function : Fun) → i < length functions → function ≡ get_or functions i function
    → nodes_at_most (map function_tree (drop i functions)) ≡ max (nodes_of (expr_tree function.body)) (nodes_at_most (map function_tree (drop (i + 1) functions)))
greatest_more functions i function lt is =
    ap (λ fs. nodes_at_most (map function_tree fs)) (drop_more functions i function lt)
    ∙ ap (λ (f : Fun). max (nodes_of (expr_tree f.body)) (nodes_at_most (map function_tree (drop (i + 1) functions)))) (sym is)

-- a function has too many nodes
pub nodes_told : (program : Program) (slice : List Fun) (limit : Limit) → slice ≡ program.functions.items → Some limit ≡ option_map (told FunctionNodes) (too_many_nodes (map function_tree slice)) → Some limit ≡ option_map (told FunctionNodes) (too_many_nodes (program_tree program).functions)
nodes_told program slice limit same found = found ∙ ap (λ fs. option_map (told FunctionNodes) (too_many_nodes (map function_tree fs))) same

pub nodes_answered : (program : Program) (slice : List Fun) (limit : Limit) → slice ≡ program.functions.items → Some limit ≡ option_map (told FunctionNodes) (too_many_nodes (map function_tree slice)) → AnswersCounts (program_tree program) (Err limit)
nodes_answered program slice limit same found = by (too_many_nodes (map function_tree program.functions.items)) refl (found ∙ ap (λ fs. option_map (told FunctionNodes) (too_many_nodes (map function_tree fs))) same)
  where
    by : (many : Option ℕ) → too_many_nodes (map function_tree program.functions.items) ≡ many → Some limit ≡ option_map (told FunctionNodes) many → AnswersCounts (program_tree program) (Err limit)
    by None none is = cc
    by (Some count) some is = (record { kind = FunctionNodes; count = count }, only_counts (program_tree program) (Err _) (of_function some refl), cc)

-- no function has
pub none_large : (program : Program) (slice : List Fun) → slice ≡ program.functions.items → None ≡ option_map (told FunctionNodes) (too_many_nodes (map function_tree slice)) → too_many_nodes (program_tree program).functions ≡ None
none_large program slice same found = by (too_many_nodes (map function_tree program.functions.items)) refl (found ∙ ap (λ fs. option_map (told FunctionNodes) (too_many_nodes (map function_tree fs))) same)
  where
    by : (many : Option ℕ) → too_many_nodes (map function_tree program.functions.items) ≡ many → None ≡ option_map (told FunctionNodes) many → too_many_nodes (map function_tree program.functions.items) ≡ None
    by None none is = none
    by (Some count) some is = cc

pub summed_viewed : (program : ProgramTree) (types : List TypeTree) (keys : List KeyTree) → summed_nodes program (map (viewed types) keys) ≡ summed_keys program keys
summed_viewed program types keys = ap sum (map-map (viewed types) (λ (x : InstanceTree). nodes_of (body_of program x.function)) keys)

-- the search has ended: the instances keep the limits, or pass one
module _ (program : ProgramTree) (typings : List (List Choice)) (principal : ArePrincipal program typings) (types : List TypeTree) (keys : List KeyTree) (looked : ℕ)
    (searched : Searched program.main typings (map (viewed types) keys) looked) (ends : (length (map (viewed types) keys) ≤ looked) ⊎ (greatest_of Instances < length (map (viewed types) keys))) (none : too_many_nodes program.functions ≡ None) where
  long : length (map (viewed types) keys) ≡ length keys
  long = length-map keys (viewed types)

  pub ended : length keys ≤ greatest_of Instances → (length keys ≤ looked) × AreInstances program.main typings (map (viewed types) keys)
  ended few = elim ends [
    | inl all ↦ ((let same = long in omega (arith, same, all)), search_ends program.main typings (map (viewed types) keys) looked searched all)
    | inr many ↦ absurd (let same = long in omega (arith, same, few, many))
  ]

  pub kept : AreFew program keys → CountsAs program (Ok tt)
  kept few = record {
    functions = none;
    typings = typings;
    principal = principal;
    instances = map (viewed types) keys;
    are = (ended few.few).1;
    few = let same = long in let least = few.few in omega (arith, same, least);
    small = let same = summed_viewed program types keys in let least = few.small in omega (arith, same, least);
  }

  pub kept_answered : AreFew program keys → AnswersCounts program (Ok tt)
  kept_answered few = only_counts program (Ok tt) (kept few)

  pub passed_answered : (limit : Limit) → PassedBy program keys limit → AnswersCounts program (Err limit)
  passed_answered limit (inl (many, is)) = (
    record { kind = Instances; count = greatest_of Instances + 1 },
    only_counts program (Err _) (of_instances none principal (search_passes program.main typings (map (viewed types) keys) looked searched (let same = long in omega (arith, same, many))) refl),
    is,
  )
  passed_answered limit (inr (few, large, is)) =
      let same = summed_viewed program types keys in (
        record { kind = ProgramNodes; count = summed_nodes program (map (viewed types) keys) },
        only_counts program (Err _) (of_program none principal (ended few).1 (let count = long in omega (arith, count, few)) (omega (arith, same, large)) refl),
        is ∙ ap (told ProgramNodes) (sym same),
      )
