-- No count of a text within its limit reaches a number's end.
use Rattle.std.proofs.Common.{◌≡◌, ℕ, ◌+◌, ◌*◌, ◌-◌, ◌^◌, ◌<◌, ◌≤◌, zero, suc, min, nat_lt, Bool, true, false, cond, List, [], ◌∷◌, ◌++◌, length, map, Some, None, refl, sym, ap, ◌∙◌, length-append, arith}
use Rattle.std.specs.Prelude.{All, Err, slice_index_or}
use Rattle.std.proofs.lemmas.Bool.Decides.{nat_tests}
use Rattle.std.proofs.lemmas.List.Elements.{All-head}
use Rattle.std.proofs.lemmas.List.Sums.{sum_by-cons}
use Rattle.kk_base.specs.declared.error.ParseError.{ParseError}
use Rattle.kk_base.specs.declared.error.ParseError.TheVariants.{Unexpected, TooDeep, NoMemory}
use Rattle.kk_base.specs.declared.limit.Limit.{Limit}
use Rattle.kk_base.specs.Limits.{greatest_of}
use Rattle.kk_base.specs.declared.limit.LimitKind.TheVariants.{FunctionNodes}
use Rattle.kk_syntax.specs.Programs.{FunctionTree, ProgramTree, body_of, no_function}
use Rattle.kk_syntax.specs.Shapes.{nodes_of}
use Rattle.kk_syntax.specs.TokenList.{TokenList}
use Rattle.kk_mono.specs.Counts.{too_many_nodes, summed_nodes, PassesFirst, of_function, of_instances, of_program, CountsAs, in_u64}
use Rattle.kk_mono.specs.Instances.{InstanceTree}
use Rattle.kk_parser.specs.Parses.{RefusesTokens, in_u32}

front_few : {A : Type 0} (before rest all : List A) → before ++ rest ≡ all → length before ≤ length all
front_few before rest all e = omega (arith, length-append before rest, ap length e)

-- a refusal of so few tokens is told as it is
pub parse_told : (tokens : TokenList) (error : ParseError) → length tokens.items < 2 ^ 32 → RefusesTokens tokens.items tokens.end error → in_u32 error ≡ error
parse_told tokens (Unexpected index line column) few h =
    let small = front_few h.0 h.1 tokens.items h.2 in
    let same : min index (2 ^ 32 - 1) ≡ index = omega (arith, h.4.0) in
    ap (λ n. Unexpected n line column) same
parse_told tokens (TooDeep index line column) few h =
    let small = front_few h.0 h.1 tokens.items h.2 in
    let same : min index (2 ^ 32 - 1) ≡ index = omega (arith, h.4.0) in
    ap (λ n. TooDeep n line column) same
parse_told tokens NoMemory few h = refl

-- ---- nodes

pub fewer : (most : ℕ) (functions : List FunctionTree) → most < 2 ^ 31 → All (λ f. nodes_of f.body ≤ most) functions → All (λ f. nodes_of f.body < 2 ^ 31) functions
fewer most functions small few = λ k d lt. let within = few k d lt in omega arith

behind_first : (f : FunctionTree) (fs : List FunctionTree) → All (λ g. nodes_of g.body < 2 ^ 31) (f ∷ fs) → All (λ g. nodes_of g.body < 2 ^ 31) fs
behind_first f fs few = λ k d lt. few (suc k) d (omega arith)

-- what is found is among what is looked at
found_few : (functions : List FunctionTree) (count : ℕ) → All (λ f. nodes_of f.body < 2 ^ 31) functions → too_many_nodes functions ≡ Some count → count < 2 ^ 64
found_few [] count few e = cc
found_few (f ∷ fs) count few e = by (nat_lt (greatest_of FunctionNodes) (nodes_of f.body)) (All-head (λ g. nodes_of g.body < 2 ^ 31) f fs few) (λ d. found_few fs count (behind_first f fs few) d) e
  where
    by : (b : Bool) → nodes_of f.body < 2 ^ 31 → (too_many_nodes fs ≡ Some count → count < 2 ^ 64) → cond b (Some (nodes_of f.body)) (too_many_nodes fs) ≡ Some count → count < 2 ^ 64
    by true here rest e = let same : nodes_of f.body ≡ count = cc in omega arith
    by false here rest e = rest e

not_above : (n : ℕ) → nat_lt (greatest_of FunctionNodes) n ≡ false → n ≤ greatest_of FunctionNodes
not_above n h = grind (arith, nat_tests)

-- where no function has too many nodes, none has
none_large : (functions : List FunctionTree) → too_many_nodes functions ≡ None → (f : ℕ) → nodes_of (slice_index_or functions f no_function).body ≤ greatest_of FunctionNodes
none_large [] e f = omega arith
none_large (g ∷ gs) e f = by (nat_lt (greatest_of FunctionNodes) (nodes_of g.body)) refl (none_large gs) e f
  where
    by : (b : Bool) → nat_lt (greatest_of FunctionNodes) (nodes_of g.body) ≡ b → (too_many_nodes gs ≡ None → (k : ℕ) → nodes_of (slice_index_or gs k no_function).body ≤ greatest_of FunctionNodes) → cond b (Some (nodes_of g.body)) (too_many_nodes gs) ≡ None
        → (k : ℕ) → nodes_of (slice_index_or (g ∷ gs) k no_function).body ≤ greatest_of FunctionNodes
    by true is rest e k = cc
    by false is rest e zero = not_above (nodes_of g.body) is
    by false is rest e (suc k) = rest e k

-- the nodes of instances
summed_few : (program : ProgramTree) (instances : List InstanceTree) → too_many_nodes program.functions ≡ None → summed_nodes program instances ≤ greatest_of FunctionNodes * length instances
summed_few program [] none = omega arith
summed_few program (instance ∷ instances) none =
    let nodes : InstanceTree → ℕ = λ one. nodes_of (body_of program one.function) in
    let first : nodes instance ≤ greatest_of FunctionNodes = none_large program.functions none instance.function in
    let rest : summed_nodes program instances ≤ greatest_of FunctionNodes * length instances = summed_few program instances none in
    let sum_is : summed_nodes program (instance ∷ instances) ≡ nodes instance + summed_nodes program instances = sum_by-cons (λ (n : ℕ). n) (nodes instance) (map nodes instances) in
    omega (arith, first, rest, sum_is)

same_limit : (limit passed : Limit) → limit ≡ passed → passed.count < 2 ^ 64 → in_u64 limit ≡ limit
same_limit limit passed is small =
    let same : min passed.count (2 ^ 64 - 1) ≡ passed.count = omega arith in
    ap in_u64 is ∙ (ap (λ (n : ℕ). record { kind = passed.kind; count = n }) same ∙ sym is)

-- a limit that is passed is told as it is
pub limit_told : (program : ProgramTree) (limit : Limit) → All (λ f. nodes_of f.body < 2 ^ 31) program.functions → CountsAs program (Err limit) → in_u64 limit ≡ limit
limit_told program limit few h = by h
  where
    by : PassesFirst program limit → in_u64 limit ≡ limit
    by (of_function {count = count} some is) = same_limit limit _ is (found_few program.functions count few some)
    by (of_instances none principal many is) = same_limit limit _ is (omega arith)
    by (of_program {instances = instances} none principal are short large is) = same_limit limit _ is (omega (arith, summed_few program instances none))
