use Rattle.std.proofs.Common.{◌≡◌, ℕ, ◌+◌, ◌<◌, ◌≤◌, ◌∷◌, [], ◌++◌, map, ap, sym, ◌∙◌, subst, arith, add-zero}
use Rattle.std.proofs.lemmas.List.{map-append}
use Rattle.kk_core.specs.Decisions.{node_tree}
use Rattle.kk_match.specs.GraphGrowth.{IsPut}
use Rattle.kk_match.specs.Parts.{types_of}
use Rattle.kk_match.specs.Views.{state_tree, graph_tree}
use Rattle.kk_match.proofs.Growth.{one_if, over_now, grows_now}
use Rattle.kk_match.proofs.graph.Graph.add.Goals as goal
use Rattle.kk_match.proofs.graph.Graph.add.Goals.{then-tests+else-self-given, else-tests}

less : {a b : ℕ} → a ≤ b → (a ≡ b → ⊥) → a < b
less {a} {b} within differ = omega (arith, within, differ)

pub returns-then-self-given : goal.returns-then-self-given
returns-then-self-given c =
    over_now (types_of c.args.given.now.constructors.now) c.args.given.now.most (graph_tree c.args.self.now) (state_tree c.args.state) (node_tree c.args.node) (map state_tree c.put.new.states.keys) c.in_ok-number.number
    c.requires.built c.requires.right (sym c.if-tests.ensures) c.if-self-given.true
    (subst (IsPut (map state_tree c.args.self.now.states.keys) (state_tree c.args.state) (map state_tree c.put.new.states.keys) c.in_ok-number.number) c.if-is_new.true c.in_ok-number.ensures)

pub returns-in_ok-push : goal.returns-in_ok-push
returns-in_ok-push c =
    let grown =
    grows_now (types_of c.args.given.now.constructors.now) c.args.given.now.most (graph_tree c.args.self.now)
    (graph_tree (record { states = c.if-tests.self.states; nodes = c.push.new.self; tests = c.if-tests.self.tests }))
    (state_tree c.args.state) (node_tree c.args.node) (map state_tree c.put.new.states.keys) c.in_ok-number.number
    c.requires.built c.requires.right
    (subst (IsPut (map state_tree c.args.self.now.states.keys) (state_tree c.args.state) (map state_tree c.put.new.states.keys) c.in_ok-number.number)
    c.if-is_new.true c.in_ok-number.ensures) in
    let pushed = ap (map node_tree) c.in_ok-push.ensures.items ∙ map-append node_tree c.if-tests.self.nodes.items (c.args.node ∷ []) in
    elim c.if-tests.branch [
      | then-tests+else-self-given w ↦
          grown (ap (λ s. map state_tree s.states.keys) w.self-is)
          (pushed ∙ ap (λ s. map node_tree s.nodes.items ++ node_tree c.args.node ∷ []) w.self-is)
          (ap (λ s. s.tests) w.self-is ∙ ap (λ b. c.args.self.now.tests + one_if b) w.if-tests.ensures)
          (let is = ap (λ s. s.tests) w.self-is in let within = c.requires.built.within in let below : c.args.self.now.tests < c.args.given.now.most = less within w.if-self-given.false in omega (arith, is, below))
      | else-tests w ↦
          grown (ap (λ s. map state_tree s.states.keys) w.self-is)
          (pushed ∙ ap (λ s. map node_tree s.nodes.items ++ node_tree c.args.node ∷ []) w.self-is)
          (ap (λ s. s.tests) w.self-is ∙ (sym (add-zero c.args.self.now.tests) ∙ ap (λ b. c.args.self.now.tests + one_if b) w.if-tests.ensures))
          (let is = ap (λ s. s.tests) w.self-is in let within = c.requires.built.within in omega (arith, is, within))
    ]
