-- A function has a principal typing, or it is not typed.
use Rattle.std.proofs.Common.{◌≡◌, ◌<◌, ◌+◌, ◌⊎◌, inl, inr, ℕ, List, [], ◌∷◌, ◌++◌, length, map, ap, sym, ◌∙◌, append_assoc, arith}
use Rattle.std.proofs.lemmas.List.{append-nil}
use Rattle.std.proofs.lemmas.List.Elements.{All-nil, All-cons}
use Rattle.kk_syntax.specs.Programs.{ProgramTree, FunctionTree}
use Rattle.kk_syntax.specs.Typing.{Choice, with_parameters, IsTypable, IsPrincipal}
use Rattle.kk_unify.specs.Graphs.{Assignment, IsFormed, EachJoinIsDecided, EachGraphIsDecided}
use Rattle.kk_walk.specs.declared.walk.Bound.{Bound}
use Rattle.kk_walk.specs.Walks.{AreBelow, AreBoundBelow, scope_at, choices_at}
use Rattle.kk_types.proofs.WalkOutcome.{expression_decided}
use Rattle.kk_types.proofs.NodeExistence.{own_built, list_built, type_built}
use Rattle.kk_types.proofs.Functions.{begun, body_refused, body_leads, unsolved, solved}
use Rattle.kk_walk.proofs.ClaimComposition.{head_of, tail_of, below_more, bound_more}
use Rattle.kk_walk.proofs.Scopes.{scope_more}

-- parameters, from the one of that number on, each at a node
abbrev parameters_of : ℕ → List ℕ → List Bound
parameters_of next [] = []
parameters_of next (i ∷ is) = record { variable = next; node = i } ∷ parameters_of (next + 1) is

parameters_scope : (r : Assignment) (next : ℕ) (nodes : List ℕ) (bounds : List Bound) → scope_at r (bounds ++ parameters_of next nodes) ≡ with_parameters next (map r nodes) (scope_at r bounds)
parameters_scope r next [] bounds = ap (scope_at r) (append-nil bounds)
parameters_scope r next (i ∷ is) bounds =
    let one : Bound = record { variable = next; node = i } in
    ap (scope_at r) (sym (append_assoc bounds (one ∷ []) (parameters_of (next + 1) is))) ∙ (parameters_scope r (next + 1) is (bounds ++ (one ∷ [])) ∙ ap (with_parameters (next + 1) (map r is)) (scope_more r bounds one))

parameters_inside : (size next : ℕ) (nodes : List ℕ) → AreBelow size nodes → AreBoundBelow size (parameters_of next nodes)
parameters_inside size next [] h = All-nil (λ b. b.node < size)
parameters_inside size next (i ∷ is) h = All-cons (λ b. b.node < size) (record { variable = next; node = i }) (parameters_of (next + 1) is) (head_of (λ j. j < size) i is h) (parameters_inside size (next + 1) is (tail_of (λ j. j < size) i is h))

nothing_formed : (variables : ℕ) → IsFormed variables []
nothing_formed variables i node is = absurd (cc (is))

module _ (joins : EachJoinIsDecided) (graphs : EachGraphIsDecided) (program : ProgramTree) (function : FunctionTree) where
  pub function_decided : ((choices : List Choice) × IsPrincipal program function choices) ⊎ (IsTypable program function → ⊥)
  function_decided =
      let variables = function.variables in
      let first = own_built variables variables [] (nothing_formed variables) (omega arith) in
      let second = list_built variables first.numbers function.parameters first.new first.formed first.builds.inside in
      let third = type_built variables first.numbers function.result second.new second.formed (below_more (length first.new) (length second.new) first.numbers second.builds.longer first.builds.inside) in
      let scope = parameters_of 0 second.numbers in
      let inside = bound_more (length second.new) (length third.new) scope third.builds.longer (parameters_inside (length second.new) 0 second.numbers second.builds.inside) in
      let bound = λ (r : Assignment). parameters_scope r 0 second.numbers [] in
      let begin = begun program function first.new second.new third.new first.numbers second.numbers third.number scope first.builds second.builds third.builds bound in
      elim (expression_decided variables joins program function.body third.new third.formed scope inside third.number third.builds.inside) [
        | inl end ↦
            let leads = body_leads program function first.new second.new third.new first.numbers second.numbers third.number scope first.builds second.builds third.builds bound end.new end.taken end.leads in
            elim (graphs variables end.new end.formed) [
              | inl found ↦ inl (choices_at found.0 end.taken, solved program function third.new begin end.new end.taken leads found.0 found.1)
              | inr none ↦ inr (unsolved program function third.new begin end.new end.taken leads none)
            ]
        | inr refused ↦ inr (body_refused program function first.new second.new third.new first.numbers second.numbers third.number scope first.builds second.builds third.builds bound refused)
      ]
