-- A function: what its body's walk and the types of its graph say of it.
use Rattle.std.proofs.Common.{◌≡◌, ◌<◌, ◌-◌, ◌+◌, ℕ, suc, zero-add, add-zero, cond, List, [], ◌∷◌, ◌++◌, length, map, get_or, take, refl, ap, sym, ◌∙◌, subst, arith}
use Rattle.std.proofs.lemmas.List.{append-nil, length-map, length-take-le, map-append, take_more}
use Rattle.std.proofs.lemmas.Bool.{lt-ltb}
use Rattle.kk_syntax.specs.Programs.{ProgramTree, FunctionTree}
use Rattle.kk_syntax.specs.Types.{TypeTree, unit_type, type_variable, put, type_at, variables_below}
use Rattle.kk_syntax.specs.Typing.{Scope, constructing, calling, holding, put_choice, with_parameters, IsTypedBy, IsTyping, IsTypable, IsPrincipal, Fixes}
use Rattle.kk_unify.specs.Graphs.{NodeTree, Assignment, Obeys, IsPrincipalOf, NoneObeys, filled}
use Rattle.kk_walk.specs.declared.walk.Bound.{Bound}
use Rattle.kk_walk.specs.Claims.{expression_at}
use Rattle.kk_walk.specs.Walks.{Taking, constructing_at, calling_at, holding_at, choice_at, choices_at, AreBelow, IsTakenBelow, AreTakenBelow, variable_at, scope_at, Claim, Leads, Done, Refused, Builds, BuildsEach}
use Rattle.kk_walk.proofs.ClaimComposition.{head_of, tail_of, reworded, then_leads, refused_behind}
use Rattle.kk_walk.proofs.Scopes.{scope_more}

-- what is chosen at instances of types is an instance of what is chosen at the types
module _ (size : ℕ) (r types : Assignment) (s : ℕ → TypeTree) (instance : (i : ℕ) → i < size → r i ≡ put s (types i)) where
  types_instance : (numbers : List ℕ) → AreBelow size numbers → map r numbers ≡ map (put s) (map types numbers)
  types_instance [] h = refl
  types_instance (i ∷ is) h =
      let first = instance i (head_of (λ j. j < size) i is h) in
      let rest = types_instance is (tail_of (λ j. j < size) i is h) in
      cc

  choice_instance : (taken : Taking) → IsTakenBelow size taken → choice_at r taken ≡ put_choice s (choice_at types taken)
  choice_instance (constructing_at by at) h = ap (constructing by) (types_instance at h)
  choice_instance (calling_at function at) h = ap (calling function) (types_instance at h)
  choice_instance (holding_at of) h = ap holding (instance of h)

  choices_instance : (taken : List Taking) → AreTakenBelow size taken → choices_at r taken ≡ map (put_choice s) (choices_at types taken)
  choices_instance [] h = refl
  choices_instance (t ∷ ts) h =
      let first = choice_instance t (head_of (IsTakenBelow size) t ts h) in
      let rest = choices_instance ts (tail_of (IsTakenBelow size) t ts h) in
      cc

filled_fixes : (variables : ℕ) (r : Assignment) → Fixes variables (filled variables r)
filled_fixes variables r x lt = ap (λ b. cond b (type_variable x) (r (x - variables))) (lt-ltb x variables lt)

-- one parameter more
parameters_more : (next : ℕ) (ts : List TypeTree) (t : TypeTree) (scope : Scope) → with_parameters next (ts ++ (t ∷ [])) scope ≡ record { variable = next + length ts; type = t } ∷ with_parameters next ts scope
parameters_more next [] t scope = ap (λ n. record { variable = n; type = t } ∷ scope) (sym (add-zero next))
parameters_more next (u ∷ us) t scope =
    let rest = parameters_more (next + 1) us t (record { variable = next; type = u } ∷ scope) in
    let same : (next + 1) + length us ≡ next + suc (length us) = omega arith in
    rest ∙ ap (λ n. record { variable = n; type = t } ∷ with_parameters (next + 1) us (record { variable = next; type = u } ∷ scope)) same

pub parameter_bound : (nodes : List ℕ) (bounds more : List Bound) (i variable node : ℕ) → i < length nodes → node ≡ get_or nodes i 0 → variable ≡ i → more ≡ bounds ++ (record { variable = variable; node = node } ∷ []) → ((r : Assignment) → scope_at r bounds ≡ with_parameters 0 (map r (take i nodes)) []) → (r : Assignment) → scope_at r more ≡ with_parameters 0 (map r (take (i + 1) nodes)) []
parameter_bound nodes bounds more i variable node lt here same grown before r =
    let bound : Bound = record { variable = variable; node = node } in
    let count : length (map r (take i nodes)) ≡ i = length-map (take i nodes) r ∙ length-take-le i nodes (omega arith) in
    ap (scope_at r) grown ∙ (scope_more r bounds bound ∙ (ap (λ scope. variable_at r bound ∷ scope) (before r)
    ∙ (ap (λ n. record { variable = n; type = r node } ∷ with_parameters 0 (map r (take i nodes)) []) (same ∙ (sym count ∙ sym (zero-add (length (map r (take i nodes))))))
    ∙ (sym (parameters_more 0 (map r (take i nodes)) (r node) []) ∙ ap (λ ts. with_parameters 0 ts []) (sym (map-append r (take i nodes) (node ∷ [])) ∙ ap (map r) (ap (λ n. take i nodes ++ (n ∷ [])) here ∙ sym (take_more nodes i 0 lt)))))))

module _ (program : ProgramTree) (function : FunctionTree) where
  abbrev pub typing : Claim
  typing r choices = IsTyping program function choices

  module _ (start : List NodeTree) (begin : (q : Assignment) × Obeys start q) where
    -- no typing
    pub untypable : Refused start typing → IsTypable program function → ⊥
    untypable refused typed = refused.none begin.0 typed.0 begin.1 typed.1

    module _ (graph : List NodeTree) (taken : List Taking) (leads : Leads start graph taken typing Done) where
      pub unsolved : NoneObeys graph → IsTypable program function → ⊥
      unsolved none typed = let one = leads.complete begin.0 typed.0 begin.1 typed.1 in none one.0 one.1

      -- the principal types of the graph are the principal typing
      pub solved : (types : Assignment) → IsPrincipalOf function.variables graph types → IsPrincipal program function (choices_at types taken)
      solved types principal = record {
        typing = subst (IsTyping program function) (append-nil (choices_at types taken)) (leads.sound types [] principal.obeys refl).1;
        each = λ others typed.
            let one = leads.complete begin.0 others begin.1 typed in
            let s = filled function.variables one.0 in
            let same : others ≡ choices_at one.0 taken = one.3.1 ∙ (ap (λ l. choices_at one.0 taken ++ l) one.3.2 ∙ append-nil (choices_at one.0 taken)) in
            (s, filled_fixes function.variables one.0, same ∙ choices_instance (length graph) one.0 types s (principal.each one.0 one.1) taken leads.below);
      }

  -- the graph of a function's types, before its body
  module _ (a b c : List NodeTree) (own nodes : List ℕ) (want : ℕ) (scope : List Bound) (first : BuildsEach [] a own (λ r. variables_below function.variables)) (second : BuildsEach a b nodes (λ r. map (put (type_at (map r own))) function.parameters)) (third : Builds b c want (λ r. put (type_at (map r own)) function.result)) (bound : (r : Assignment) → scope_at r scope ≡ with_parameters 0 (map r nodes) []) where
    pub begun : (q : Assignment) × Obeys c q
    begun =
        let one = first.complete (λ i. unit_type) none in
        let two = second.complete one.0 one.1 in
        let three = third.complete two.0 two.1 in
        (three.0, three.1)
      where
        none : Obeys [] (λ i. unit_type)
        none i node is = absurd (cc (is))

    own_are : (r : Assignment) → Obeys c r → map r own ≡ variables_below function.variables
    own_are r obeys = (first.sound r (second.sound r (third.sound r obeys).0).0).1

    scope_is : (r : Assignment) → Obeys c r → scope_at r scope ≡ with_parameters 0 (map (put (type_at (variables_below function.variables))) function.parameters) []
    scope_is r obeys =
        bound r ∙ (ap (λ ts. with_parameters 0 ts []) (second.sound r (third.sound r obeys).0).1 ∙ ap (λ ts. with_parameters 0 (map (put (type_at ts)) function.parameters) []) (own_are r obeys))

    result_is : (r : Assignment) → Obeys c r → r want ≡ put (type_at (variables_below function.variables)) function.result
    result_is r obeys = (third.sound r obeys).1 ∙ ap (λ ts. put (type_at ts) function.result) (own_are r obeys)

    -- a typing of the function is one of its body there
    pub entered : Leads c c [] typing (expression_at program scope function.body want)
    entered =
        reworded c typing (expression_at program scope function.body want)
        (λ r choices obeys whole. subst (λ t. IsTypedBy program (scope_at r scope) function.body t choices) (sym (result_is r obeys))
        (subst (λ env. IsTypedBy program env function.body (put (type_at (variables_below function.variables)) function.result) choices) (sym (scope_is r obeys)) whole))
        (λ r choices obeys left. subst (λ t. IsTypedBy program (with_parameters 0 (map (put (type_at (variables_below function.variables))) function.parameters) []) function.body t choices) (result_is r obeys)
        (subst (λ env. IsTypedBy program env function.body (r want) choices) (scope_is r obeys) left))

    pub body_refused : Refused c (expression_at program scope function.body want) → IsTypable program function → ⊥
    body_refused refused = untypable c begun (refused_behind c c [] typing (expression_at program scope function.body want) entered refused)

    module _ (d : List NodeTree) (taken : List Taking) (walked : Leads c d taken (expression_at program scope function.body want) Done) where
      pub body_leads : Leads c d taken typing Done
      body_leads = then_leads c c d [] taken typing (expression_at program scope function.body want) Done entered walked

      -- no types obey the graph behind the body, and so there is no typing
      pub body_unsolved : NoneObeys d → IsTypable program function → ⊥
      body_unsolved = unsolved c begun d taken body_leads

      -- the principal types of that graph are the principal typing
      pub body_solved : (types : Assignment) → IsPrincipalOf function.variables d types → IsPrincipal program function (choices_at types taken)
      body_solved = solved c begun d taken body_leads
