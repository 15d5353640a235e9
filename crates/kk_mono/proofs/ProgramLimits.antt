-- What is built of a search that passes no limit is within the limits.
use Rattle.std.proofs.Common.{◌≡◌, ℕ, zero, suc, ◌+◌, ◌<◌, ◌≤◌, Bool, true, false, List, [], ◌∷◌, length, map, get_or, take, None, refl, sym, ap, ◌∙◌, subst, arith}
use Rattle.std.specs.Prelude.{All, Ok, ◌==◌, if◌then◌else◌, sum, option_map}
use Rattle.std.specs.List.{AllZip}
use Rattle.std.proofs.lemmas.Bool.{eq-eqb}
use Rattle.std.proofs.lemmas.List.{length-map, get_or-map, same_lists}
use Rattle.kk_base.specs.declared.limit.LimitKind.TheVariants.{FunctionNodes, Constructors, ProgramNodes, Fields, Parameters}
use Rattle.kk_base.specs.Limits.{greatest_of}
use Rattle.kk_syntax.specs.declared.ground.GroundConstructor.{GroundConstructor}
use Rattle.kk_syntax.specs.declared.ground.Instance.{Instance}
use Rattle.kk_syntax.specs.declared.program.Fun.{Fun}
use Rattle.kk_syntax.specs.declared.program.Program.{Program}
use Rattle.kk_syntax.specs.declared.typed.Typed.{Typed}
use Rattle.kk_syntax.specs.GroundLimits.{nodes_of_instance, AreWithinLimits}
use Rattle.kk_syntax.specs.Patterns.{Pattern, anything, variable as pattern_variable, exactly, constructor, Patterns, no_part, part}
use Rattle.kk_syntax.specs.Programs.{ConstructorTree, FunctionTree, constructor_tree, function_tree, program_tree, no_constructor, no_function, body_of}
use Rattle.kk_syntax.specs.Shapes.{greatest_of as nodes_at_most, nodes_of_pattern, nodes_of_patterns, nodes_of}
use Rattle.kk_syntax.specs.Trees.{Tree}
use Rattle.kk_syntax.specs.Types.{TypeTree, put, type_at}
use Rattle.kk_mono.specs.declared.search.Found.{Found}
use Rattle.kk_mono.specs.declared.search.Looked.{Looked}
use Rattle.kk_mono.specs.BuiltInstances.{IsBuiltOf, AreBuilt, IsMadeOf}
use Rattle.kk_mono.specs.Counts.{too_many_nodes}
use Rattle.kk_syntax.specs.Declarations.{DeclarationsAs}
use Rattle.kk_mono.specs.Instances.{main_instance}
use Rattle.kk_mono.specs.KeyTrees.{KeyTree, keys_in}
use Rattle.kk_mono.specs.Labels.{Names, names_of_pattern, behind, only_constructor, labelled_pattern, labelled_patterns, labels_names, labelled}
use Rattle.kk_mono.specs.InstanceSearch.{function_in, known_in, HasSearched}
use Rattle.kk_syntax.specs.Constructors.{members_from}
use Rattle.kk_mono.specs.Siblings.{type_of}
use Rattle.kk_mono.specs.Tables.{AreNumbers}
use Rattle.kk_mono.specs.PassedLimits.{told, PassesNone}
use Rattle.kk_mono.specs.Views.{types_in}
use Rattle.kk_mono.proofs.SearchAnswer.{each_few}
use Rattle.kk_syntax.proofs.Walks.{nodes_replaced}
use Rattle.kk_syntax.proofs.Quantities.{KeepsLimits, each_constructor_keeps, few_parameters}
use Rattle.kk_mono.proofs.CountAnswers.{none_large}

-- ---- a labelled body has as many nodes

mutual
  pattern_labelled : (labels : Names) (p : Pattern) → nodes_of_pattern (labelled_pattern labels p) ≡ nodes_of_pattern p
  pattern_labelled labels anything = refl
  pattern_labelled labels (pattern_variable of) = refl
  pattern_labelled labels (exactly value) = refl
  pattern_labelled labels (constructor by parts) = omega (arith, patterns_labelled (behind labels (only_constructor by)) parts)

  patterns_labelled : (labels : Names) (ps : Patterns) → nodes_of_patterns (labelled_patterns labels ps) ≡ nodes_of_patterns ps
  patterns_labelled labels no_part = refl
  patterns_labelled labels (part first rest) =
      omega (arith, pattern_labelled labels first, patterns_labelled (behind labels (names_of_pattern first)) rest)

nodes_labelled : (labels : Names) (t : Tree) → nodes_of (labelled labels t) ≡ nodes_of t
nodes_labelled labels t = nodes_replaced labels_names pattern_labelled labels t

-- ---- places of constructors

-- fewer constructors of a type stand before one of them than there are
place_below : (by first : ℕ) (cs : List ConstructorTree) (c : ℕ) → c < length cs → (get_or cs c no_constructor).of_type ≡ by
    → length (members_from first (take c cs) by) < length (members_from first cs by)
place_below by first [] c lt is = absurd (omega (arith, lt))
place_below by first (x ∷ cs) zero lt is =
    subst (λ b. 0 < length (if b then first ∷ members_from (first + 1) cs by else members_from (first + 1) cs by)) (sym (eq-eqb x.of_type by is)) (omega arith)
place_below by first (x ∷ cs) (suc c) lt is = by_test (x.of_type == by) (place_below by (first + 1) cs c (omega (arith, lt)) is)
  where
    by_test : (b : Bool) → length (members_from (first + 1) (take c cs) by) < length (members_from (first + 1) cs by)
        → length (if b then first ∷ members_from (first + 1) (take c cs) by else members_from (first + 1) (take c cs) by)
        < length (if b then first ∷ members_from (first + 1) cs by else members_from (first + 1) cs by)
    by_test true less = omega (arith, less)
    by_test false less = less

-- ---- elements

some_of : {X : Type 0} (xs : List X) (i : ℕ) → i < length xs → X
some_of [] i lt = absurd (omega (arith, lt))
some_of (x ∷ xs) i lt = x

zip_all : {X Y : Type 0} (A : X → Type 0) (R : X → Y → Type 0) (Q : Y → Type 0) → ((x : X) (y : Y) → A x → R x y → Q y)
    → (xs : List X) (ys : List Y) → All A xs → AllZip R xs ys → All Q ys
zip_all A R Q each xs [] all zip i d lt = absurd (omega (arith, lt))
zip_all A R Q each [] (y ∷ ys) all zip i d lt = absurd zip
zip_all A R Q each (x ∷ xs) (y ∷ ys) all zip zero d lt = each x y (all zero x (omega arith)) zip.0
zip_all A R Q each (x ∷ xs) (y ∷ ys) all zip (suc i) d lt =
    zip_all A R Q each xs ys (λ k e below. all (suc k) e (omega (arith, below))) zip.1 i d (omega (arith, lt))

-- numbers of types are as many as the types
as_many : {X : Type 0} (types : List TypeTree) (numbers : List ℕ) (of : X → TypeTree) (xs : List X) → AreNumbers types numbers (map of xs) → length numbers ≡ length xs
as_many types numbers of xs are =
    let same = ap length are.types_are in
    let one = length-map numbers (type_at types) in
    let two = length-map xs of in
    omega (arith, same, one, two)

-- ---- the functions of a program

-- what stands behind the last function has no parameters
few_at : (functions : List FunctionTree) → All (λ (f : FunctionTree). length f.parameters ≤ greatest_of Parameters) functions → (n : ℕ) → length (get_or functions n no_function).parameters ≤ greatest_of Parameters
few_at [] few n = omega arith
few_at (f ∷ fs) few zero = few zero f (omega arith)
few_at (f ∷ fs) few (suc n) = few_at fs (λ k d lt. few (suc k) d (omega (arith, lt))) n

-- what has been looked at has few parameters
pub all_few : (typed : Typed) (found : Found) → DeclarationsAs (program_tree typed.program) (Ok tt) → HasSearched typed found
    → All (λ (looked : Looked). length looked.parameters.items ≤ greatest_of Parameters) found.looked.items
all_few typed found declared searched i d lt =
    let instance = get_or (known_in found) i (main_instance 0) in
    let seen = searched.searching.looked i d lt in
    let functions = (program_tree typed.program).functions in
    let many = as_many (types_in found.types) (get_or found.looked.items i d).parameters.items (put (type_at instance.at)) (function_in (program_tree typed.program) instance.function).parameters seen.parameters in
    let few = few_at functions (few_parameters (program_tree typed.program) declared) instance.function in
    omega (arith, many, few)

-- the greatest number of nodes is of a function
most_few : (functions : List FunctionTree) → ((n : ℕ) → nodes_of (get_or functions n no_function).body ≤ greatest_of FunctionNodes) → nodes_at_most functions ≤ greatest_of FunctionNodes
most_few [] few = omega arith
most_few (f ∷ fs) few =
    let first = few zero in
    let rest = most_few fs (λ n. few (suc n)) in
    omega (arith, first, rest)

pub greatest_few : (program : Program) (slice : List Fun) → slice ≡ program.functions.items → None ≡ option_map (told FunctionNodes) (too_many_nodes (map function_tree slice))
    → nodes_at_most (map function_tree slice) ≤ greatest_of FunctionNodes
greatest_few program slice same none =
    let functions = (program_tree program).functions in
    let few = most_few functions (λ n. each_few functions n (none_large program slice same none)) in
    let is = ap (λ fs. nodes_at_most (map function_tree fs)) same in
    omega (arith, few, is)

-- ---- what is built

module _ (program : Program) (found : Found) (none : PassesNone (program_tree program) found) where
  abbrev constructors : List ConstructorTree
  constructors = map constructor_tree program.constructors.items

  keeps : (key : KeyTree) → key.number < length program.constructors.items → KeepsLimits constructors (get_or constructors key.number no_constructor)
  keeps key lt = each_constructor_keeps (program_tree program) none.declared key.number no_constructor
      (let long = length-map program.constructors.items constructor_tree in omega (arith, long, lt))

  few_fields : (types : List TypeTree) (key : KeyTree) (made : GroundConstructor) → key.number < length program.constructors.items
      → IsMadeOf constructors types key made → length made.fields.items ≤ greatest_of Fields
  few_fields types key made lt is =
      let kept = (keeps key lt).fields in
      let many = as_many types made.fields.items _ (get_or constructors key.number no_constructor).fields is.fields in
      omega (arith, kept, many)

  small_tag : (types : List TypeTree) (key : KeyTree) (made : GroundConstructor) → key.number < length program.constructors.items
      → IsMadeOf constructors types key made → made.tag < greatest_of Constructors
  small_tag types key made lt is =
      let kept = (keeps key lt).of_type in
      let tag = is.tag_is in
      let less = place_below (type_of constructors key.number) 0 constructors key.number
      (let long = length-map program.constructors.items constructor_tree in omega (arith, long, lt)) refl in
      omega (arith, kept, tag, less)

  module _ (types : List TypeTree) (made : List GroundConstructor) (instances : List Instance)
      (zip : AllZip (IsMadeOf constructors types) (keys_in found.constructors) made)
      (below : All (λ (key : KeyTree). key.number < length program.constructors.items) (keys_in found.constructors))
      (built : AreBuilt program (keys_in found.keys) found.looked.items instances)
      (full : length found.looked.items ≡ length (keys_in found.keys)) where
    abbrev key_at : ℕ → KeyTree
    key_at i = get_or (keys_in found.keys) i (record { number = 0; at = [] })

    looked_at : (i : ℕ) → i < length instances → i < length found.looked.items
    looked_at i lt = let many = built.as_many in omega (arith, many, lt)

    -- an instance, and what has been looked at
    made_at : (i : ℕ) (d : Instance) (looked : Looked) → i < length instances
        → IsBuiltOf (function_in (program_tree program) (key_at i).number) (key_at i) (get_or found.looked.items i looked) (get_or instances i d)
    made_at i d looked lt = built.each i (record { number = 0; at = [] }) looked d (looked_at i lt)

    few_of : (i : ℕ) (d : Instance) → i < length instances → length (get_or instances i d).parameters.items ≤ greatest_of Parameters
    few_of i d lt =
        let looked = some_of found.looked.items i (looked_at i lt) in
        let same = ap length (made_at i d looked lt).parameters in
        let few = none.parameters i looked (looked_at i lt) in
        omega (arith, same, few)

    nodes_at : (i : ℕ) (d : Instance) → i < length instances → nodes_of_instance (get_or instances i d) ≡ nodes_of (body_of (program_tree program) (key_at i).number)
    nodes_at i d lt =
        let looked = some_of found.looked.items i (looked_at i lt) in
        ap nodes_of (made_at i d looked lt).body ∙ nodes_labelled _ (function_in (program_tree program) (key_at i).number).body

    same_nodes : map nodes_of_instance instances ≡ map (λ (key : KeyTree). nodes_of (body_of (program_tree program) key.number)) (keys_in found.keys)
    same_nodes =
        let one = length-map instances nodes_of_instance in
        let two = length-map (keys_in found.keys) (λ (key : KeyTree). nodes_of (body_of (program_tree program) key.number)) in
        let many = built.as_many in
        same_lists _ _ (omega (arith, one, two, many, full)) (λ i d lt.
        let within : i < length instances = omega (arith, one, lt) in
        let e = some_of instances i within in
        get_or-map nodes_of_instance instances i e d within
        ∙ (nodes_at i e within
        ∙ sym (get_or-map (λ (key : KeyTree). nodes_of (body_of (program_tree program) key.number)) (keys_in found.keys) i (record { number = 0; at = [] }) d (omega (arith, many, full, within)))))

  pub are_within : (types : List TypeTree) (made : List GroundConstructor) (instances : List Instance) (greatest summed : ℕ)
      → AllZip (IsMadeOf constructors types) (keys_in found.constructors) made
      → All (λ (key : KeyTree). key.number < length program.constructors.items) (keys_in found.constructors)
      → AreBuilt program (keys_in found.keys) found.looked.items instances → length found.looked.items ≡ length (keys_in found.keys)
      → greatest ≤ greatest_of FunctionNodes → summed ≤ greatest_of ProgramNodes → AreWithinLimits made instances greatest summed
  are_within types made instances greatest summed zip below built full greatest_few summed_few = record {
    parameters = few_of types made instances zip below built full;
    fields = zip_all (λ (key : KeyTree). key.number < length program.constructors.items) (IsMadeOf constructors types) (λ (m : GroundConstructor). length m.fields.items ≤ greatest_of Fields)
        (few_fields types) (keys_in found.constructors) made below zip;
    tags = zip_all (λ (key : KeyTree). key.number < length program.constructors.items) (IsMadeOf constructors types) (λ (m : GroundConstructor). m.tag < greatest_of Constructors)
        (small_tag types) (keys_in found.constructors) made below zip;
    nodes = λ i d lt.
        let same = nodes_at types made instances zip below built full i d lt in
        let few = each_few (program_tree program).functions (get_or (keys_in found.keys) i (record { number = 0; at = [] })).number none.none in
        omega (arith, same, few);
    few = let many = built.as_many in let least = none.few.few in omega (arith, many, full, least);
    all_nodes = let same = ap sum (same_nodes types made instances zip below built full) in let least = none.few.small in omega (arith, same, least);
    greatest_told = greatest_few;
    summed_told = summed_few;
  }
