-- What is built of a search that has ended is what is answered of the program.
use Rattle.std.proofs.Common.{◌≡◌, ◌≢◌, ℕ, zero, suc, ◌<◌, ◌≤◌, List, [], ◌∷◌, length, map, get_or, All, AllPairs, Some, None, refl, ap, sym, ◌∙◌, subst, inl, inr, arith, nat_lt}
use Rattle.std.specs.Prelude.{slice_get, slice_index_or, sum, Result, Ok, Err}
use Rattle.std.specs.List.{AllZip}
use Rattle.std.proofs.lemmas.Bool.{cases_Bool, ltb-false, cond-true, cond-false}
use Rattle.std.proofs.lemmas.List.{length-map, get_or-map, get_or_default, same_lists, take_all}
use Rattle.std.proofs.lemmas.Option.{slice_get_within, get_or_from_slice_get, slice_get-get_or}
use Rattle.kk_base.specs.Limits.{greatest_of}
use Rattle.kk_base.specs.declared.limit.LimitKind.TheVariants.{FunctionNodes}
use Rattle.kk_syntax.specs.declared.ground.Ground.{Ground}
use Rattle.kk_syntax.specs.declared.ground.Instance.{Instance}
use Rattle.kk_syntax.specs.declared.typed.Typed.{Typed}
use Rattle.kk_syntax.specs.GroundPrograms.{ground_types, ground_constructor_tree, instance_tree, ground_program}
use Rattle.kk_syntax.specs.Programs.{FunctionTree, ProgramTree, constructor_tree, function_tree, program_tree, no_function, body_of}
use Rattle.kk_syntax.specs.Shapes.{greatest_nodes, nodes_of}
use Rattle.kk_syntax.specs.Trees.{expr_tree}
use Rattle.kk_syntax.specs.TypedPrograms.{choice_of, typings_of}
use Rattle.kk_syntax.specs.Types.{TypeTree, type_at}
use Rattle.kk_syntax.specs.Typing.{Choice, put_choice, IsTyping, ArePrincipal}
use Rattle.kk_mono.specs.declared.search.Found.{Found}
use Rattle.kk_mono.specs.declared.search.Looked.{Looked}
use Rattle.kk_mono.specs.declared.error.MonoError.{MonoError}
use Rattle.kk_mono.specs.declared.error.MonoError.TheVariants.{Over, NoMemory}
use Rattle.kk_mono.specs.BuiltInstances.{IsBuiltOf, AreBuilt, IsMadeOf}
use Rattle.kk_mono.specs.Counts.{too_many_nodes}
use Rattle.kk_mono.specs.Grounds.{instance_view, instances_of, ground_view, TakesTypes, NamesTypes, HasTypes, AreGiven, AnswersInstances}
use Rattle.kk_mono.specs.Instances.{InstanceTree, GroundConstructorTree, main_instance, called_in, constructed_in, calls, constructors_in, renamed, function_of, constructor_of, origin_in, ground_constructor, AreInstances, AreGroundConstructors, IsAtTypes, IsInstanceProgram}
use Rattle.kk_mono.specs.KeyTrees.{KeyTree, keys_in, viewed, AreTakenWithin}
use Rattle.kk_mono.specs.Labels.{Names, both, no_names, labelled}
use Rattle.kk_mono.specs.InstanceSearch.{IsComplete, function_in, IsLooked, known_in, used_in, HasSearched}
use Rattle.kk_mono.specs.Tables.{AreInOrder}
use Rattle.kk_mono.specs.PassedLimits.{summed_keys, AreFew, IsFound}
use Rattle.kk_mono.specs.Views.{types_in}
use Rattle.kk_mono.proofs.Callees.{typing_calls, called_functions, used_constructors}
use Rattle.kk_mono.proofs.ProgramCompleteness.{complete_of}
use Rattle.kk_mono.proofs.BodyCopies.{IsCopy, copied, nodes_renamed}
use Rattle.kk_mono.proofs.TableGrowth.{grown, grown_searched, views_made, constructors_made, made_have}
use Rattle.kk_mono.proofs.CopyLabels.{both_none}
use Rattle.kk_mono.proofs.InstanceUses.{known_below}
use Rattle.kk_mono.proofs.Renamings.{typing_at}
use Rattle.kk_mono.proofs.CountAnswers.{ended, kept_answered, nodes_answered, passed_answered, summed_viewed}

-- what is found in a list by numbers is, by those numbers, what a part of it is
origins : {X : Type 0} (known : List X) (d : X) (part : X → ℕ) (ns : List ℕ) (xs : List X) → map (slice_get known) ns ≡ map Some xs → map (λ n. part (get_or known n d)) ns ≡ map part xs
origins known d part [] [] found = refl
origins known d part [] (x ∷ xs) found = cc
origins known d part (n ∷ ns) [] found = cc
origins known d part (n ∷ ns) (x ∷ xs) found =
    let here : slice_get known n ≡ Some x = cc in
    let behind : map (slice_get known) ns ≡ map Some xs = cc in
    let first : part (get_or known n d) ≡ part x = ap part (get_or_from_slice_get known n x d here) in
    let rest = origins known d part ns xs behind in
    cc

-- an instance that is built
record IsMade (program : ProgramTree) (typings : List (List Choice)) (types : List TypeTree) (known : List InstanceTree) (used : List GroundConstructorTree) (x : InstanceTree) (made : Instance) : Type 0 where
  view : instance_view types made ≡ x
  at_types : IsAtTypes known used x.at (slice_index_or typings x.function []) (function_in program x.function) (instance_tree types made)
  taken : TakesTypes typings types made
  within : NamesTypes types made

module _ (program : ProgramTree) (typings : List (List Choice)) (principal : ArePrincipal program typings) (types : List TypeTree) (known : List InstanceTree) (used : List GroundConstructorTree) where
  is_made : (key : KeyTree) (looked : Looked) (made : Instance) → key.number < length program.functions → All (λ n. n < length types) key.at → IsLooked program typings types known used (viewed types key) looked → IsBuiltOf (function_in program key.number) key looked made → IsMade program typings types known used (viewed types key) made
  is_made key looked made below at_in seen built = record {
    view = view;
    at_types = record {
      no_variables = refl;
      parameters = ap (map (type_at types)) built.parameters ∙ seen.parameters.types_are;
      result = ap (type_at types) built.result ∙ seen.result_is;
      body = ap (renamed (origin_in known used)) body ∙ copy.0;
      called = ap (λ t. map (slice_get known) (calls t)) body ∙ (ap (λ (ns : Names). map (slice_get known) ns.functions) copy.1 ∙ seen.called);
      constructed = ap (λ t. map (slice_get used) (constructors_in t)) body ∙ (ap (λ (ns : Names). map (slice_get used) ns.constructors) copy.1 ∙ seen.constructed);
    };
    taken =
        ap (map (choice_of types)) built.taken
        ∙ (seen.taken ∙ (λ i. map (put_choice (type_at (sym view i).at)) (slice_index_or typings (sym view i).function [])));
    within = record {
      arguments = subst (All (λ n. n < length types)) (sym built.arguments) at_in;
      parameters = subst (All (λ n. n < length types)) (sym built.parameters) seen.parameters.within;
      result = let is = built.result in let least = seen.result_within in omega (arith, is, least);
      taken = subst (All (AreTakenWithin types)) (sym built.taken) seen.taken_within;
    };
  }
    where
      view : instance_view types made ≡ viewed types key
      view = λ i. record { function = built.function_is i; at = map (type_at types) (built.arguments i) }

      typing : IsTyping program (function_in program key.number) (slice_index_or typings key.number [])
      typing =
          let at = typing_at program typings principal key.number below in
          subst (λ (f : FunctionTree). IsTyping program f (slice_index_or typings key.number []))
          (sym (get_or_from_slice_get program.functions key.number at.0 no_function at.1)) at.2.typing

      calls_are : map (function_of known) looked.called.items ≡ calls (function_in program key.number).body
      calls_are =
          origins known (main_instance 0) (λ x. x.function) looked.called.items (called_in typings (viewed types key)) seen.called
          ∙ called_functions program (map (type_at types) key.at) (slice_index_or typings key.number []) (calls (function_in program key.number).body)
          (typing_calls program (function_in program key.number) (slice_index_or typings key.number []) typing)

      constructors_are : map (constructor_of used) looked.constructed.items ≡ constructors_in (function_in program key.number).body
      constructors_are =
          origins used (record { constructor = 0; at = [] }) (λ x. x.constructor) looked.constructed.items (constructed_in typings (viewed types key)) seen.constructed
          ∙ used_constructors program (map (type_at types) key.at) (function_in program key.number) (slice_index_or typings key.number []) typing

      body : expr_tree made.body ≡ labelled (both (record { functions = looked.called.items; constructors = looked.constructed.items }) no_names) (function_in program key.number).body
      body = built.body ∙ ap (λ ls. labelled ls (function_in program key.number).body) (sym (both_none (record { functions = looked.called.items; constructors = looked.constructed.items })))

      copy : IsCopy (origin_in known used) (function_in program key.number).body (record { functions = looked.called.items; constructors = looked.constructed.items })
          (labelled (both (record { functions = looked.called.items; constructors = looked.constructed.items }) no_names) (function_in program key.number).body)
      copy = copied (origin_in known used) (function_in program key.number).body (record { functions = looked.called.items; constructors = looked.constructed.items }) no_names
          (λ i. record { functions = calls_are i; constructors = constructors_are i })

-- no function has too many nodes
pub each_few : (functions : List FunctionTree) (f : ℕ) → too_many_nodes functions ≡ None → nodes_of (get_or functions f no_function).body ≤ greatest_of FunctionNodes
each_few [] f none = omega arith
each_few (function ∷ functions) zero none = elim (cases_Bool (nat_lt (greatest_of FunctionNodes) (nodes_of function.body))) [
  | inl many ↦ let some = sym (cond-true (nat_lt (greatest_of FunctionNodes) (nodes_of function.body)) (Some (nodes_of function.body)) (too_many_nodes functions) many) ∙ none in cc
  | inr few ↦ ltb-false (greatest_of FunctionNodes) (nodes_of function.body) few
]
each_few (function ∷ functions) (suc f) none = elim (cases_Bool (nat_lt (greatest_of FunctionNodes) (nodes_of function.body))) [
  | inl many ↦ let some = sym (cond-true (nat_lt (greatest_of FunctionNodes) (nodes_of function.body)) (Some (nodes_of function.body)) (too_many_nodes functions) many) ∙ none in cc
  | inr few ↦ each_few functions f (sym (cond-false (nat_lt (greatest_of FunctionNodes) (nodes_of function.body)) (Some (nodes_of function.body)) (too_many_nodes functions) few) ∙ none)
]

some_looked : (xs : List Looked) (i : ℕ) → i < length xs → Looked
some_looked [] i lt = absurd (omega (arith, lt))
some_looked (x ∷ xs) i lt = x

some_instance : (xs : List Instance) (i : ℕ) → i < length xs → Instance
some_instance [] i lt = absurd (omega (arith, lt))
some_instance (x ∷ xs) i lt = x

-- the function of each instance that is known is one of the program's
pub keys_below : (typed : Typed) → IsComplete typed → (found : Found) → HasSearched typed found → All (λ (key : KeyTree). key.number < length typed.program.functions.items) (keys_in found.keys)
keys_below typed complete found searched i key lt =
    let long = length-map (keys_in found.keys) (viewed (types_in found.types)) in
    let below = known_below typed complete found i (viewed (types_in found.types) key) searched.searching (omega (arith, long, lt)) in
    let is : (get_or (known_in found) i (viewed (types_in found.types) key)).function ≡ (get_or (keys_in found.keys) i key).number = ap (λ (x : InstanceTree). x.function) (get_or-map (viewed (types_in found.types)) (keys_in found.keys) i key (viewed (types_in found.types) key) lt) in
    let count = length-map typed.program.functions.items function_tree in
    omega (arith, below, is, count)

module _ (typed : Typed) (principal : ArePrincipal (program_tree typed.program) (typings_of typed)) (found : Found) (searched : HasSearched typed found) where
  module _ (none : too_many_nodes (program_tree typed.program).functions ≡ None) (few : AreFew (program_tree typed.program) (keys_in found.keys)) where
    pub all_looked : length found.looked.items ≡ length (keys_in found.keys)
    all_looked =
        let long = length-map (keys_in found.keys) (viewed (types_in found.types)) in
        let within = searched.searching.searched.within in
        let all = (ended (program_tree typed.program) (typings_of typed) principal (types_in found.types) (keys_in found.keys) (length found.looked.items) searched.searching.searched searched.ends none few.few).0 in
        omega (arith, long, within, all)

    module _ (given : Ground) (declarations_are : given.declarations.items ≡ typed.program.types.items) (texts_are : given.texts.items ≡ typed.program.texts.items)
        (table_is : given.types.items ≡ found.types.nodes.keys)
        (made_constructors : AllZip (IsMadeOf (map constructor_tree typed.program.constructors.items) (types_in found.types)) (keys_in found.constructors) given.constructors.items)
        (built : AreBuilt typed.program (keys_in found.keys) found.looked.items given.instances.items)
        (greatest_is : given.greatest_nodes ≡ greatest_nodes (program_tree typed.program))
        (summed_is : given.summed_nodes ≡ summed_keys (program_tree typed.program) (keys_in found.keys)) where
      types_are : ground_types given.types.items ≡ types_in found.types
      types_are = ap ground_types table_is

      count : length given.instances.items ≡ length (keys_in found.keys)
      count = built.as_many ∙ all_looked

      made_at : (i : ℕ) (key : KeyTree) (looked : Looked) (d : Instance) → i < length (keys_in found.keys) → IsMade (program_tree typed.program) (typings_of typed) (types_in found.types) (known_in found) (used_in found) (viewed (types_in found.types) (get_or (keys_in found.keys) i key)) (get_or given.instances.items i d)
      made_at i key looked d lt =
          let seen_in : i < length found.looked.items = (let all = all_looked in omega (arith, all, lt)) in
          let here : get_or (known_in found) i (main_instance 0) ≡ viewed (types_in found.types) (get_or (keys_in found.keys) i key) = get_or-map (viewed (types_in found.types)) (keys_in found.keys) i key (main_instance 0) lt in
          let program_count = length-map typed.program.functions.items function_tree in
          is_made (program_tree typed.program) (typings_of typed) principal (types_in found.types) (known_in found) (used_in found) (get_or (keys_in found.keys) i key) (get_or found.looked.items i looked) (get_or given.instances.items i d)
          (let below = keys_below typed (complete_of typed principal) found searched i key lt in omega (arith, below, program_count))
          (searched.searching.within i key lt)
          (subst (λ x. IsLooked (program_tree typed.program) (typings_of typed) (types_in found.types) (known_in found) (used_in found) x (get_or found.looked.items i looked)) here (searched.searching.looked i looked seen_in))
          (built.each i key looked d seen_in)

      -- an instance that is built, by its number
      made : (i : ℕ) (d : Instance) → i < length given.instances.items → IsMade (program_tree typed.program) (typings_of typed) (types_in found.types) (known_in found) (used_in found) (get_or (known_in found) i (main_instance 0)) (get_or given.instances.items i d)
      made i d lt =
          let within : i < length (keys_in found.keys) = (let all = count in omega (arith, all, lt)) in
          let looked_in : i < length found.looked.items = (let all = built.as_many in omega (arith, all, lt)) in
          let key : KeyTree = record { number = 0; at = [] } in
          subst (λ x. IsMade (program_tree typed.program) (typings_of typed) (types_in found.types) (known_in found) (used_in found) x (get_or given.instances.items i d)) (sym (get_or-map (viewed (types_in found.types)) (keys_in found.keys) i key (main_instance 0) within))
          (made_at i key (some_looked found.looked.items i looked_in) d within)

      views : instances_of given ≡ known_in found
      views = ap (λ ts. map (instance_view ts) given.instances.items) types_are ∙ same_lists (map (instance_view (types_in found.types)) given.instances.items) (known_in found)
          (let one = length-map given.instances.items (instance_view (types_in found.types)) in let two = length-map (keys_in found.keys) (viewed (types_in found.types)) in let all = count in omega (arith, one, two, all))
          (λ i d lt.
          let within : i < length given.instances.items = (let one = length-map given.instances.items (instance_view (types_in found.types)) in omega (arith, one, lt)) in
          let e : Instance = some_instance given.instances.items i within in
          let known : i < length (known_in found) = (let two = length-map (keys_in found.keys) (viewed (types_in found.types)) in let all = count in omega (arith, two, all, within)) in
          get_or-map (instance_view (types_in found.types)) given.instances.items i e d within ∙ ((made i e within).view ∙ get_or_default (known_in found) i (main_instance 0) d known))

      all_known : AreInstances (program_tree typed.program).main (typings_of typed) (known_in found)
      all_known = (ended (program_tree typed.program) (typings_of typed) principal (types_in found.types) (keys_in found.keys) (length found.looked.items) searched.searching.searched searched.ends none few.few).1

      all_used : AreGroundConstructors (program_tree typed.program) (typings_of typed) (known_in found) (used_in found)
      all_used = subst (λ xs. AreGroundConstructors (program_tree typed.program) (typings_of typed) xs (used_in found))
          (take_all (length found.looked.items) (known_in found) (let two = length-map (keys_in found.keys) (viewed (types_in found.types)) in let all = all_looked in omega (arith, two, all))) searched.searching.used

      many_made : length (ground_program given).functions ≡ length (known_in found)
      many_made = let one = length-map given.instances.items (instance_tree (ground_types given.types.items)) in let two = length-map (keys_in found.keys) (viewed (types_in found.types)) in let all = count in omega (arith, one, two, all)

      abbrev EachIsMade : List InstanceTree → Type 0
      EachIsMade instances =
          (n : ℕ) (x : InstanceTree) (f : FunctionTree) → slice_get instances n ≡ Some x → slice_get (ground_program given).functions n ≡ Some f
          → (function : FunctionTree) × (slice_get (program_tree typed.program).functions x.function ≡ Some function)
          × IsAtTypes instances (used_in found) x.at (slice_index_or (typings_of typed) x.function []) function f

      each_made : EachIsMade (known_in found)
      each_made n x f x_found f_found =
          let within : n < length given.instances.items = (let long = length-map given.instances.items (instance_tree (ground_types given.types.items)) in let lt = slice_get_within (ground_program given).functions n f f_found in omega (arith, long, lt)) in
          let e : Instance = some_instance given.instances.items n within in
          let x_is : get_or (known_in found) n (main_instance 0) ≡ x = get_or_from_slice_get (known_in found) n x (main_instance 0) x_found in
          let f_is : instance_tree (types_in found.types) (get_or given.instances.items n e) ≡ f =
          ap (λ ts. instance_tree ts (get_or given.instances.items n e)) (sym types_are)
          ∙ (sym (get_or-map (instance_tree (ground_types given.types.items)) given.instances.items n e f within) ∙ get_or_from_slice_get (ground_program given).functions n f f f_found) in
          let below : x.function < length (program_tree typed.program).functions = subst (λ (y : InstanceTree). y.function < length (program_tree typed.program).functions) x_is (known_below typed (complete_of typed principal) found n (main_instance 0) searched.searching (slice_get_within (known_in found) n x x_found)) in (
            function_in (program_tree typed.program) x.function,
            slice_get-get_or (program_tree typed.program).functions x.function no_function below,
            subst (λ (g : FunctionTree). IsAtTypes (known_in found) (used_in found) x.at (slice_index_or (typings_of typed) x.function []) (function_in (program_tree typed.program) x.function) g) f_is
                (subst (λ (y : InstanceTree). IsAtTypes (known_in found) (used_in found) y.at (slice_index_or (typings_of typed) y.function []) (function_in (program_tree typed.program) y.function) (instance_tree (types_in found.types) (get_or given.instances.items n e))) x_is (made n e within).at_types),
          )

      constructors_are : (ground_program given).constructors ≡ map (ground_constructor (program_tree typed.program)) (used_in found)
      constructors_are =
          ap (λ ts. map (ground_constructor_tree ts) given.constructors.items) types_are
          ∙ constructors_made typed.program (types_in found.types) (keys_in found.constructors) given.constructors.items made_constructors

      abbrev program_is : IsInstanceProgram (program_tree typed.program) (typings_of typed) (instances_of given) (ground_program given)
      program_is = record {
        are = subst (AreInstances (program_tree typed.program).main (typings_of typed)) (sym views) all_known;
        grounds = used_in found;
        grounds_are = subst (λ xs. AreGroundConstructors (program_tree typed.program) (typings_of typed) xs (used_in found)) (sym views) all_used;
        as_many = many_made ∙ sym (ap length views);
        each = subst EachIsMade (sym views) each_made;
        main = refl;
        types = declarations_are;
        constructors = constructors_are;
        texts = texts_are;
      }

      nodes_at : (i : ℕ) (d : FunctionTree) → i < length (ground_program given).functions → nodes_of (get_or (ground_program given).functions i d).body ≡ nodes_of (body_of (program_tree typed.program) (get_or (known_in found) i (main_instance 0)).function)
      nodes_at i d lt =
          let within : i < length given.instances.items = (let long = length-map given.instances.items (instance_tree (ground_types given.types.items)) in omega (arith, long, lt)) in
          let e : Instance = some_instance given.instances.items i within in
          let is : (get_or (ground_program given).functions i d).body ≡ expr_tree (get_or given.instances.items i e).body = ap (λ (f : FunctionTree). f.body) (get_or-map (instance_tree (ground_types given.types.items)) given.instances.items i e d within) in
          ap nodes_of is
          ∙ (sym (nodes_renamed (origin_in (known_in found) (used_in found)) (expr_tree (get_or given.instances.items i e).body))
          ∙ ap nodes_of (made i e within).at_types.body)

      same_nodes : map (λ (f : FunctionTree). nodes_of f.body) (ground_program given).functions ≡ map (λ (x : InstanceTree). nodes_of (body_of (program_tree typed.program) x.function)) (known_in found)
      same_nodes = same_lists _ _
          (let one = length-map (ground_program given).functions (λ (f : FunctionTree). nodes_of f.body) in let two = length-map (known_in found) (λ (x : InstanceTree). nodes_of (body_of (program_tree typed.program) x.function)) in let all = many_made in omega (arith, one, two, all))
          (λ i d lt.
          let within : i < length (ground_program given).functions = (let one = length-map (ground_program given).functions (λ (f : FunctionTree). nodes_of f.body) in omega (arith, one, lt)) in
          get_or-map (λ (f : FunctionTree). nodes_of f.body) (ground_program given).functions i no_function d within
          ∙ (nodes_at i no_function within
          ∙ sym (get_or-map (λ (x : InstanceTree). nodes_of (body_of (program_tree typed.program) x.function)) (known_in found) i (main_instance 0) d (let all = many_made in omega (arith, all, within)))))

      pub are_given : AreGiven typed given
      are_given = record {
        counts = kept_answered (program_tree typed.program) (typings_of typed) principal (types_in found.types) (keys_in found.keys) (length found.looked.items) searched.searching.searched searched.ends none few;
        instances = program_is;
        grounds = sym (ap (λ ts. map (ground_view ts) given.constructors.items) types_are ∙ views_made typed.program (types_in found.types) (keys_in found.constructors) given.constructors.items made_constructors);
        small = record {
          bodies = λ i d lt. let same = nodes_at i d lt in let least = each_few (program_tree typed.program).functions (get_or (known_in found) i (main_instance 0)).function none in omega (arith, same, least);
          few = let all = many_made in let two = length-map (keys_in found.keys) (viewed (types_in found.types)) in let least = few.few in omega (arith, all, two, least);
          nodes = let same = ap sum same_nodes in let keys = summed_viewed (program_tree typed.program) (types_in found.types) (keys_in found.keys) in let least = few.small in omega (arith, same, keys, least);
        };
        taken = λ i d lt. subst (λ ts. TakesTypes (typings_of typed) ts (get_or given.instances.items i d)) (sym types_are) (made i d lt).taken;
        once = subst (λ ts. AllPairs (λ one other. one ≢ other) ts) (sym types_are) found.types.once;
        earlier = subst AreInOrder (sym table_is) found.types.in_order;
        within = λ i d lt. subst (λ ts. NamesTypes ts (get_or given.instances.items i d)) (sym types_are) (made i d lt).within;
        constructors = subst (λ ts. All (HasTypes ts) given.constructors.items) (sym types_are) (made_have typed.program (types_in found.types) (keys_in found.constructors) given.constructors.items made_constructors);
        greatest = greatest_is;
        summed = summed_is ∙ (sym (summed_viewed (program_tree typed.program) (types_in found.types) (keys_in found.keys)) ∙ sym (ap sum same_nodes));
      }

-- an answer that rests on the typings as they are given is the program's where they are principal
pub answered : (typed : Typed) → ArePrincipal (program_tree typed.program) (typings_of typed) → (result : Result Ground MonoError) → IsFound typed result → AnswersInstances typed result
answered typed principal (Ok given) has =
    let built = has.built in
    are_given typed principal (grown has.found built.table) (grown_searched typed has.found built.table built.grows has.searched) has.none has.few given
    built.declarations built.texts built.types built.constructors built.instances has.greatest has.summed
answered typed principal (Err (Over limit)) (inl function) = nodes_answered typed.program typed.program.functions.items limit refl function
answered typed principal (Err (Over limit)) (inr passed) =
    passed_answered (program_tree typed.program) (typings_of typed) principal (types_in passed.found.types) (keys_in passed.found.keys) (length passed.found.looked.items) passed.searched.searching.searched passed.searched.ends passed.none limit passed.by
answered typed principal (Err NoMemory) found = tt
