use Rattle.std.proofs.Common.{◌≡◌, ◌++◌, length, ap, sym, ◌∙◌, subst}
use Rattle.kk_syntax.specs.Programs.{function_tree, program_tree}
use Rattle.kk_syntax.specs.Types.{variables_below}
use Rattle.kk_syntax.specs.TypedPrograms.{node_types}
use Rattle.kk_syntax.specs.Typing.{IsPrincipal}
use Rattle.kk_unify.specs.GraphOf.{graph_of, variables_of}
use Rattle.kk_unify.specs.Graphs.{IsPrincipalOf}
use Rattle.kk_unify.specs.Solutions.{types_in}
use Rattle.kk_walk.specs.Walks.{takings_of, choices_at, BuildsEach}
use Rattle.kk_types.proofs.Functions.{body_refused, body_unsolved, body_solved}
use Rattle.kk_types.proofs.program.body_types.Goals as goal

pub returns-then-not-ok-clause-typed : goal.returns-then-not-ok-clause-typed
returns-then-not-ok-clause-typed c = body_refused (program_tree c.args.program.now) (function_tree c.args.function.now) (graph_of c.own_variables.new.graph) (graph_of c.build_each.new.graph) (graph_of c.build.new.graph) c.in_ok-own.own.items c.in_ok-nodes.nodes.items c.in_ok-want.want c.in_ok-parameters.field-0.items (subst (λ g. BuildsEach g (graph_of c.own_variables.new.graph) c.in_ok-own.own.items (λ r. variables_below (function_tree c.args.function.now).variables)) c.new-graph.ensures.empty c.in_ok-own.ensures.builds) (rw (c.deref.ensures.value, c.deref-2.ensures.value) at c.in_ok-nodes.ensures.builds) (rw c.deref-3.ensures.value at c.in_ok-want.ensures.builds) (rw c.deref-4.ensures.value at c.in_ok-parameters.ensures.bound) (rw c.if-not-ok.true at c.in_ok-ok.ensures)

pub returns-in-Some-clause-typed : goal.returns-in-Some-clause-typed
returns-in-Some-clause-typed c =
    let function = function_tree c.args.function.now in
    let walked = rw c.if-not-ok.false at c.in_ok-ok.ensures in
    let last = graph_of c.expression.new.self.graph in
    let solution = c.in-Some.solution in
    let solves = rw c.in-Some.is at c.in_ok-solution.ensures in
    let variables : variables_of c.expression.new.self.graph ≡ function.variables =
    walked.same_variables ∙ (c.in_ok-want.ensures.variables ∙ (c.in_ok-nodes.ensures.variables ∙ (c.in_ok-own.ensures.variables ∙ c.new-graph.ensures.variables))) in
    let principal = subst (λ n. IsPrincipalOf n last (types_in solution)) variables solves.principal in
    let taken : takings_of c.expression.new.self.taken.items ≡ walked.taken = walked.takes ∙ ap (λ ts. takings_of ts ++ walked.taken) c.new.ensures.items in
    let found = rw (c.deref-in-Some.ensures.value, c.deref-in-Some-2.ensures.value) at c.in_ok-taken-in-Some.ensures.types in
    let same = found (node_types solution.nodes.items) ∙ ap (choices_at (types_in solution)) taken in
    subst (IsPrincipal (program_tree c.args.program.now) function) (sym same) (body_solved (program_tree c.args.program.now) (function_tree c.args.function.now) (graph_of c.own_variables.new.graph) (graph_of c.build_each.new.graph) (graph_of c.build.new.graph) c.in_ok-own.own.items c.in_ok-nodes.nodes.items c.in_ok-want.want c.in_ok-parameters.field-0.items (subst (λ g. BuildsEach g (graph_of c.own_variables.new.graph) c.in_ok-own.own.items (λ r. variables_below (function_tree c.args.function.now).variables)) c.new-graph.ensures.empty c.in_ok-own.ensures.builds) (rw (c.deref.ensures.value, c.deref-2.ensures.value) at c.in_ok-nodes.ensures.builds) (rw c.deref-3.ensures.value at c.in_ok-want.ensures.builds) (rw c.deref-4.ensures.value at c.in_ok-parameters.ensures.bound) last walked.taken walked.leads (types_in solution) principal)

pub returns-in-Some-clause-nodes : goal.returns-in-Some-clause-nodes
returns-in-Some-clause-nodes c =
    let solution = c.in-Some.solution in
    let solves = rw c.in-Some.is at c.in_ok-solution.ensures in
    let found = rw c.deref-in-Some-2.ensures.value at c.in_ok-taken-in-Some.ensures.inside in
    record { earlier = solves.earlier; there = found (length solution.nodes.items) solves.within }

pub returns-clause-typed : goal.returns-clause-typed
returns-clause-typed c =
    let walked = rw c.if-not-ok.false at c.in_ok-ok.ensures in
    body_unsolved (program_tree c.args.program.now) (function_tree c.args.function.now) (graph_of c.own_variables.new.graph) (graph_of c.build_each.new.graph) (graph_of c.build.new.graph) c.in_ok-own.own.items c.in_ok-nodes.nodes.items c.in_ok-want.want c.in_ok-parameters.field-0.items (subst (λ g. BuildsEach g (graph_of c.own_variables.new.graph) c.in_ok-own.own.items (λ r. variables_below (function_tree c.args.function.now).variables)) c.new-graph.ensures.empty c.in_ok-own.ensures.builds) (rw (c.deref.ensures.value, c.deref-2.ensures.value) at c.in_ok-nodes.ensures.builds) (rw c.deref-3.ensures.value at c.in_ok-want.ensures.builds) (rw c.deref-4.ensures.value at c.in_ok-parameters.ensures.bound) (graph_of c.expression.new.self.graph) walked.taken walked.leads (rw c.in-None.is at c.in_ok-solution.ensures)
