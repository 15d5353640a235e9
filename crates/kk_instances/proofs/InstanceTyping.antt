-- The instances of a checked program are typed, and their matches are covered.
use Rattle.std.proofs.Common.{◌≡◌, ◌<◌, ℕ, List, [], ◌++◌, length, map, Contains, Some, append-nil, inl, inr, sym, ap, ◌∙◌, subst, arith}
use Rattle.std.specs.Prelude.{option_map, slice_get, slice_index_or}
use Rattle.std.proofs.lemmas.Bool.{cases_lt}
use Rattle.std.proofs.lemmas.List.{get_or_past}
use Rattle.std.proofs.lemmas.List.Elements.{All-get_or}
use Rattle.std.proofs.lemmas.Option.{slice_get-map, slice_get-get_or, slice_get_within, get_or_from_slice_get, same_Some}
use Rattle.kk_syntax.specs.Checked.{printed, PrintsTexts, IsChecked}
use Rattle.kk_syntax.specs.Covered.{Each}
use Rattle.kk_syntax.specs.GroundTyping.{table_of, HasType, IsFunctionTyped, IsGroundTyped}
use Rattle.kk_syntax.specs.Matches.{matches, IsMatchCovered, IsFunctionCovered}
use Rattle.kk_syntax.specs.GroundTyping.{Signature, signature_of}
use Rattle.kk_syntax.specs.Programs.{FunctionTree, ProgramTree, no_function}
use Rattle.kk_syntax.specs.Trees.{Tree}
use Rattle.kk_syntax.specs.Types.{TypeTree, unit_type, put, type_at, variables_below}
use Rattle.kk_syntax.specs.Typing.{Choice, Scope, IsTypedBy, IsTyping, with_parameters}
use Rattle.kk_syntax.proofs.Elements.{each_at}
use Rattle.kk_syntax.proofs.TypeSubstitution.{own_put, own_put_all}
use Rattle.kk_mono.specs.Instances.{InstanceTree, main_instance, called_at, calls, constructed_at, constructors_in, IsInstance, main_is as is_first, called_is, Renaming, renamed, origin_in, IsInstanceProgram}
use Rattle.kk_mono.proofs.Callees.{typing_calls}
use Rattle.kk_mono.proofs.Renamings.{IsWhole, called_whole}
use Rattle.kk_instances.proofs.InstanceFacts.{found_at, function_at, instance_at, main_is}
use Rattle.kk_instances.proofs.Grounds.{made_truths}
use Rattle.kk_instances.proofs.InstanceBodies.{signature_at, AreSigned, IsSound, AreNamed, tree_typed}
use Rattle.kk_instances.proofs.Scopes.{Stands, stands_parameters}

-- ---- each instance has as many types as its function has type variables

module _ (program : ProgramTree) (typings : List (List Choice)) (checked : IsChecked program typings) where
  pub typing_at : (f : ℕ) (function : FunctionTree) → slice_get program.functions f ≡ Some function
      → IsTyping program function (slice_index_or typings f [])
  typing_at f function found =
      let below = slice_get_within program.functions f function found in
      let long = checked.as_many in
      checked.typed f function (slice_index_or typings f []) found (slice_get-get_or typings f [] (omega (arith, long, below)))

  main_whole : IsWhole program (main_instance program.main)
  main_whole function found =
      let same : checked.main.function ≡ function = same_Some checked.main.function function (sym checked.main.is ∙ found) in
      sym (ap (λ (f : FunctionTree). f.variables) (sym same) ∙ checked.main.variables)

  instance_whole : (x : InstanceTree) → IsInstance program.main typings x → IsWhole program x
  instance_whole x is_first = main_whole
  instance_whole x (called_is {caller = caller} instance called) = elim (cases_lt caller.function (length program.functions)) [
    | inl below ↦
        let found = slice_get-get_or program.functions caller.function no_function below in
        let choices = slice_index_or typings caller.function [] in
        let function = slice_index_or program.functions caller.function no_function in
        called_whole program caller.at choices (calls function.body)
        (typing_calls program function choices (typing_at caller.function function found)) x called
    | inr past ↦
        let long = checked.as_many in
        let none =
        subst (λ (xs : List InstanceTree). Contains xs x)
        (ap (called_at caller.at) (get_or_past typings caller.function [] (omega (arith, long, past)))) called in
        absurd (let lt = none.1 in omega (arith, lt))
  ]

module _ (program made : ProgramTree) (typings : List (List Choice)) (instances : List InstanceTree)
    (checked : IsChecked program typings) (is : IsInstanceProgram program typings instances made) where
  whole_at : (n : ℕ) (instance : InstanceTree) → slice_get instances n ≡ Some instance → IsWhole program instance
  whole_at n instance at =
      let below = slice_get_within instances n instance at in
      instance_whole program typings checked instance
      (subst (IsInstance program.main typings) (get_or_from_slice_get instances n instance instance at)
      (All-get_or (IsInstance program.main typings) instances n instance below is.are.each))

  -- ---- what instances are typed by

  abbrev signatures : List Signature
  signatures = map signature_of made.functions

  signed : AreSigned program instances signatures
  signed n f ts function instance_is found =
      let instance : InstanceTree = record { function = f; at = ts } in
      let there = function_at program made typings instances is n (instance, instance_is) in
      let known = found_at program made typings instances is n instance there.0 instance_is there.1 in
      let same : known.function ≡ function = same_Some known.function function (sym known.there ∙ found) in
      slice_get-map signature_of made.functions n
      ∙ (ap (option_map signature_of) there.1
      ∙ (ap (λ (us : List TypeTree). Some (record { parameters = us; result = there.0.result })) known.at_types.parameters
      ∙ (ap (λ (t : TypeTree). Some (record { parameters = map (put (type_at ts)) known.function.parameters; result = t }))
      known.at_types.result
      ∙ ap (λ (g : FunctionTree). Some (signature_at g ts)) same)))

  -- ---- bodies

  -- a function's body, at the types of an instance of it
  module _ (n : ℕ) (instance : InstanceTree) (found : FunctionTree) (instance_is : slice_get instances n ≡ Some instance)
      (found_is : slice_get made.functions n ≡ Some found) where
    abbrev new : Renaming
    new = origin_in instances is.grounds

    abbrev function : FunctionTree
    function = (found_at program made typings instances is n instance found instance_is found_is).function

    abbrev choices : List Choice
    choices = slice_index_or typings instance.function []

    abbrev own : TypeTree → TypeTree
    own = put (type_at (variables_below function.variables))

    there : slice_get program.functions instance.function ≡ Some function
    there = (found_at program made typings instances is n instance found instance_is found_is).there

    body_is : function.body ≡ renamed new found.body
    body_is = sym (found_at program made typings instances is n instance found instance_is found_is).at_types.body

    sound : IsSound program (matches (renamed new found.body)) (printed (renamed new found.body))
    sound = record {
      covered =
          subst (λ (body : Tree). Each (IsMatchCovered program) (matches body)) body_is
          (each_at (IsFunctionCovered program) program.functions instance.function function checked.covered there);
      there =
          subst (λ (body : Tree). Each (λ text. text < length program.texts) (printed body)) body_is
          (each_at (PrintsTexts program) program.functions instance.function function checked.texts there);
    }

    named : AreNamed program made typings instances checked.truths is signed instance.at (choices ++ []) (calls found.body ++ [])
        (constructors_in found.body ++ [])
    named =
        let known = (found_at program made typings instances is n instance found instance_is found_is).at_types in (
          ap (map (slice_get instances)) (append-nil (calls found.body))
              ∙ (known.called ∙ ap (λ (cs : List Choice). map Some (called_at instance.at cs)) (sym (append-nil choices))),
          ap (map (slice_get is.grounds)) (append-nil (constructors_in found.body))
              ∙ (known.constructed
              ∙ ap (λ (cs : List Choice). map Some (constructed_at instance.at cs)) (sym (append-nil choices))),
        )

    -- the parameters, by the function's own type variables and at the instance's types
    abbrev outer : Scope
    outer = with_parameters 0 (map own function.parameters) []

    abbrev inner : Scope
    inner = with_parameters 0 (map (put (type_at instance.at)) (map own function.parameters)) []

    stands : Stands (type_at instance.at) outer inner
    stands = stands_parameters (type_at instance.at) (map own function.parameters) 0 [] [] (λ x t none. absurd (cc))

    outer_typed : IsTypedBy program outer (renamed new found.body) (own function.result) choices
    outer_typed =
        subst (λ (body : Tree). IsTypedBy program outer body (own function.result) choices) body_is
        (typing_at program typings checked instance.function function there)

    typed : HasType (table_of made) inner found.body (put (type_at instance.at) (own function.result))
    typed =
        (tree_typed program made typings instances checked.truths is signed instance.at found.body outer inner
        (own function.result) choices [] [] [] stands outer_typed sound named).0

    long : length instance.at ≡ function.variables
    long = whole_at n instance instance_is function there

    parameters_are : map (put (type_at instance.at)) (map own function.parameters) ≡ found.parameters
    parameters_are =
        own_put_all instance.at function.variables long function.parameters
        ∙ sym (found_at program made typings instances is n instance found instance_is found_is).at_types.parameters

    result_is : put (type_at instance.at) (own function.result) ≡ found.result
    result_is =
        own_put instance.at function.variables long function.result
        ∙ sym (found_at program made typings instances is n instance found instance_is found_is).at_types.result

    abbrev HasBodyType : List TypeTree → TypeTree → Type 0
    HasBodyType ts t = HasType (table_of made) (with_parameters 0 ts []) found.body t

    function_typed : IsFunctionTyped (table_of made) found
    function_typed =
        subst (HasBodyType found.parameters) result_is
        (subst (λ (ts : List TypeTree). HasBodyType ts (put (type_at instance.at) (own function.result))) parameters_are typed)

  main_signed : slice_get signatures made.main ≡ Some (record { parameters = []; result = unit_type })
  main_signed =
      let main = checked.main in
      signed made.main program.main [] main.function (main_is program made typings instances is) main.is
      ∙ (ap (λ (ts : List TypeTree). Some (signature_at (record main.function { parameters = ts }) []))
      main.parameters
      ∙ ap (λ (t : TypeTree). Some (record { parameters = []; result = put (type_at []) t })) main.result)

  pub instances_typed : IsGroundTyped made
  instances_typed = record {
    functions =
        λ n found at.
        let instance = instance_at program made typings instances is n found at in
        function_typed n instance.0 found instance.1 at;
    main = main_signed;
    truths = made_truths program made typings instances checked.truths is;
  }
