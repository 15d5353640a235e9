use Rattle.std.proofs.Common.{◌≡◌, ◌<◌, map, get_or, option_map, Some, pos, sym, ap, ◌∙◌, subst, arith}
use Rattle.std.proofs.lemmas.List.{take_more}
use Rattle.kk_core.specs.declared.decisions.Answer.TheVariants.{Number}
use Rattle.kk_match.specs.Built.{Names, Branches}
use Rattle.kk_match.specs.Graphs.{after, weight}
use Rattle.kk_match.specs.GraphGrowth.{IsNumbered, IsMade, HasEdges, HasOther, Grows}
use Rattle.kk_match.specs.Parts.{types_of}
use Rattle.kk_match.specs.Views.{part_of, state_tree, graph_tree}
use Rattle.kk_match.proofs.StateAfterAnswer.{lighter}
use Rattle.kk_match.proofs.EdgeAnswers.{kind_at, unlisted_right}
use Rattle.kk_match.proofs.Growth.{grows_same, over_behind, numbered_then, numbered_after, reached_after, edges_more, branch_made}
use Rattle.kk_match.proofs.StateEquality.{state_found}
use Rattle.kk_match.proofs.graph.Graph.+number.Goals as goal

pub branch-returns-in_default-2 : goal.branch-returns-in_default-2
branch-returns-in_default-2 t c =
    let types = types_of c.args.given.now.constructors.now in
    let most = c.args.given.now.most in
    let state = state_tree c.args.state.now in
    let test = part_of c.args.test.now in
    let has = subst (λ o. HasEdges types most (graph_tree c.args.self.now) state test c.deref.result.now (graph_tree c.edges.new.self) (option_map (λ es. es.items) o)) c.in-Some.is c.in_ok-edges.ensures in
    over_behind types most (graph_tree c.args.self.now) (graph_tree c.edges.new.self) state has.0
    (subst (HasOther types most (graph_tree c.edges.new.self) state test c.deref-2.result.now (graph_tree c.otherwise.new.self)) c.in_default-2.is c.in_ok-otherwise.ensures)

pub branch-returns : goal.branch-returns
branch-returns t c =
    let types = types_of c.args.given.now.constructors.now in
    let most = c.args.given.now.most in
    let state = state_tree c.args.state.now in
    let test = part_of c.args.test.now in
    let before = graph_tree c.args.self.now in
    let middle = graph_tree c.edges.new.self in
    let later = graph_tree c.otherwise.new.self in
    let has = subst (λ o. HasEdges types most before state test c.deref.result.now middle (option_map (λ es. es.items) o)) c.in-Some.is c.in_ok-edges.ensures in
    let other = subst (HasOther types most middle state test c.deref-2.result.now later) c.in-Some-2.is c.in_ok-otherwise.ensures in
    subst (λ at. Grows types most before state later × Branches types later.states state at c.in-Some.edges.items c.in-Some-2.otherwise) (sym (c.in_ok-at.ensures.items ∙ c.deref-3.ensures.value))
    (branch_made types most before middle later state test c.in_ok-answers.answers.items c.in-Some.edges.items c.in-Some-2.otherwise c.requires.is_test c.in_ok-answers.ensures
    (subst (λ given. HasEdges types most before state test given middle (Some c.in-Some.edges.items)) c.deref.ensures.value has)
    (subst (λ given. HasOther types most middle state test given later (Some c.in-Some-2.otherwise)) c.deref-2.ensures.value other))

pub edges-step-requires : goal.edges-step-requires
edges-step-requires t c = (
  (let less = c.decreases in omega (arith, less)),
  (
    c.loop-answer.invariant.0.built,
    (
      c.requires.is_test,
      kind_at (types_of c.args.given.now.constructors.now) (part_of c.args.test.now) (state_tree c.args.state.now) c.args.answers.now c.loop-answer.answer-index (Number (pos 0)) c.requires.answers c.loop-answer-test.true,
    ),
  ),
)

pub edges-returns-in-None : goal.edges-returns-in-None
edges-returns-in-None t c =
    let types = types_of c.args.given.now.constructors.now in
    let most = c.args.given.now.most in
    let state = state_tree c.args.state.now in
    over_behind types most (graph_tree c.args.self.now) (graph_tree c.loop-answer.self) state c.loop-answer.invariant.0
    (subst (IsNumbered types most (graph_tree c.loop-answer.self) state (after c.args.test.now.at.items (Some (get_or c.args.answers.now c.loop-answer.answer-index (Number (pos 0)))) state) (graph_tree c.step.new.self)) c.in-None.is c.in_ok-next.ensures)

pub edges-loop-answer-preserved : goal.edges-loop-answer-preserved
edges-loop-answer-preserved t c =
    let types = types_of c.args.given.now.constructors.now in
    let most = c.args.given.now.most in
    let state = state_tree c.args.state.now in
    let test = part_of c.args.test.now in
    let answer = get_or c.args.answers.now c.loop-answer.answer-index (Number (pos 0)) in
    edges_more types most (graph_tree c.args.self.now) (graph_tree c.loop-answer.self) (graph_tree c.step.new.self) state test c.args.answers.now c.loop-answer.answer-index c.loop-answer.edges.items c.push.new.self.items
    (record { found = answer; next = c.in-Some.next }) c.loop-answer.invariant
    (subst (IsNumbered types most (graph_tree c.loop-answer.self) state (after test.at (Some answer) state) (graph_tree c.step.new.self)) c.in-Some.is c.in_ok-next.ensures)
    (take_more c.args.answers.now c.loop-answer.answer-index (Number (pos 0)) c.loop-answer-test.true)
    c.in_ok-push-in-Some.ensures.items

pub number-returns-in-Some : goal.number-returns-in-Some
number-returns-in-Some t c = (
  grows_same (types_of c.args.given.now.constructors.now) c.args.given.now.most (graph_tree c.args.self.now) (state_tree c.args.state) c.requires,
  subst (λ n. Names (map state_tree c.args.self.now.states.keys) n (state_tree c.args.state)) (sym c.in_ok-number.ensures) (state_found c.args.self.now.states.keys c.args.state c.in-Some.known (sym c.in-Some.ensures.index)),
)

pub number-returns-in-Some-2 : goal.number-returns-in-Some-2
number-returns-in-Some-2 t c =
    let types = types_of c.args.given.now.constructors.now in
    let most = c.args.given.now.most in
    let state = state_tree c.args.state in
    let made = subst (IsMade types most (graph_tree c.args.self.now) state (graph_tree c.node.new.self)) c.in-Some-2.is c.in_ok-node.ensures in
    numbered_then c.add.result types most (graph_tree c.args.self.now) (graph_tree c.node.new.self) (graph_tree c.add.new.self) state state made.0 c.add.ensures

pub otherwise-step-requires : goal.otherwise-step-requires
otherwise-step-requires t c = (
  (let less = c.decreases in omega (arith, less)),
  (
    c.requires.built,
    (
      c.requires.is_test,
      unlisted_right (types_of c.args.given.now.constructors.now) c.args.test.now.asked c.args.answers.now c.in-Some.outcome (sym c.in_ok-outcome.ensures ∙ c.in-Some.is),
    ),
  ),
)

pub step-number-requires : goal.step-number-requires
step-number-requires t c =
    let left : state_tree c.in_ok-later.later ≡ after c.args.test.now.at.items c.args.outcome (state_tree c.args.state.now) =
    c.in_ok-later.ensures ∙ ap (λ at. after at c.args.outcome (state_tree c.args.state.now)) c.deref.ensures.value in
    let light : weight (after c.args.test.now.at.items c.args.outcome (state_tree c.args.state.now)) < weight (state_tree c.args.state.now) =
    lighter (state_tree c.args.state.now) (part_of c.args.test.now) c.args.outcome c.requires.is_test in
    let less : weight (state_tree c.in_ok-later.later) < weight (state_tree c.args.state.now) = subst (λ s. weight s < weight (state_tree c.args.state.now)) (sym left) light in
    let falls = c.decreases in
    (omega (arith, less, falls), c.requires.built)

pub step-returns : goal.step-returns
step-returns t c =
    let types = types_of c.args.given.now.constructors.now in
    let state = state_tree c.args.state.now in
    numbered_after c.number.result types c.args.given.now.most (graph_tree c.args.self.now) (graph_tree c.number.new.self) state (after c.args.test.now.at.items c.args.outcome state) (state_tree c.in_ok-later.later)
    (c.in_ok-later.ensures ∙ ap (λ at. after at c.args.outcome state) c.deref.ensures.value)
    (reached_after types state c.args.test.now.at.items c.args.test.now.asked c.args.outcome c.requires.is_test c.requires.outcome)
    c.number.ensures
