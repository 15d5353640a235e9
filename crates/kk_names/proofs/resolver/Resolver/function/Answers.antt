use Rattle.std.proofs.Common.{◌≡◌, ℕ, List, [], ◌∷◌, length, map, refl, ap, subst, ◌∙◌}
use Rattle.kk_syntax.specs.Programs.{FunctionTree}
use Rattle.kk_syntax.specs.Surface.{written_expr, written_parameter, written_result}
use Rattle.kk_syntax.specs.Trees.{expr_tree}
use Rattle.kk_syntax.specs.Types.{type_tree}
use Rattle.kk_syntax.specs.declared.tree.Parameter.{Parameter}
use Rattle.kk_names.specs.declared.resolver.Resolver.{Resolver}
use Rattle.kk_names.specs.Faults.{result_faults}
use Rattle.kk_names.specs.Methods.{known_of, Notes, ResolvesParameters}
use Rattle.kk_names.specs.Names.{function_of}
use Rattle.kk_names.specs.TypeNames.{result_meant, signature_variables}
use Rattle.kk_names.proofs.Declarations.{function_resolved, body_is, function_is}
use Rattle.kk_names.proofs.resolver.Resolver.function.Goals as goal

pub returns-clause-resolves : goal.returns-clause-resolves
returns-clause-resolves c =
    let d = c.args.declared.now in
    let start : Resolver = record c.args.self.now { scope = c.clear.new.self; next = 0 } in
    let first = c.parameters.new.self in
    let ps = map written_parameter d.parameters.items in
    let r = written_result d.result in
    let seen : c.in_ok-variables.variables.items ≡ signature_variables ps r =
    c.in_ok-variables.ensures ∙ ap (λ all. signature_variables (map written_parameter all) r) c.as_slice.ensures.value in
    let parameters =
    subst (λ (vs : List (List ℕ)). ResolvesParameters vs ps start first (map type_tree c.in_ok-parameters.parameters.items)) (c.as_slice-3.ensures.value ∙ seen)
    (subst (λ (all : List Parameter). ResolvesParameters c.as_slice-3.result.now (map written_parameter all) start first (map type_tree c.in_ok-parameters.parameters.items)) c.as_slice-2.ensures.value c.in_ok-parameters.ensures) in
    let result = subst (λ (vs : List (List ℕ)). Notes (result_faults (known_of first) vs r) first c.result.new.self) (c.as_slice-4.ensures.value ∙ seen) c.in_ok-result.ensures.notes in
    function_resolved d.name ps d.effects.items r (written_expr d.body) c.args.self.now start first c.result.new.self c.expression.new.self
    (map type_tree c.in_ok-parameters.parameters.items) (expr_tree c.in_ok-body.body)
    refl c.clear.ensures.items refl refl refl parameters result c.in_ok-body.ensures.resolves

pub returns-clause-tree : goal.returns-clause-tree
returns-clause-tree c =
    let d = c.args.declared.now in
    let start : Resolver = record c.args.self.now { scope = c.clear.new.self; next = 0 } in
    let first = c.parameters.new.self in
    let types = map type_tree c.in_ok-parameters.parameters.items in
    let ps = map written_parameter d.parameters.items in
    let r = written_result d.result in
    let body = written_expr d.body in
    let made : FunctionTree = function_of (known_of c.args.self.now) c.args.self.now.texts.items d.name ps r body in
    let variables = c.in_ok-variables.variables in
    let seen : variables.items ≡ signature_variables ps r =
    c.in_ok-variables.ensures ∙ ap (λ all. signature_variables (map written_parameter all) r) c.as_slice.ensures.value in
    let parameters =
    subst (λ (vs : List (List ℕ)). ResolvesParameters vs ps start first types) (c.as_slice-3.ensures.value ∙ seen)
    (subst (λ (all : List Parameter). ResolvesParameters c.as_slice-3.result.now (map written_parameter all) start first types) c.as_slice-2.ensures.value c.in_ok-parameters.ensures) in
    let counted : c.len-2.result ≡ length (signature_variables ps r) = c.len-2.ensures ∙ (variables.ok.0 ∙ ap length seen) in
    let result =
    c.in_ok-result.ensures.tree ∙ (ap (λ vs. result_meant (known_of first) vs r) (c.as_slice-4.ensures.value ∙ seen)
    ∙ ap (λ k. result_meant k (signature_variables ps r) r) parameters.known) in
    let tree =
    body_is (signature_variables ps r) ps _ body c.args.self.now start first c.result.new.self c.expression.new.self types (expr_tree c.in_ok-body.body)
    refl c.clear.ensures.items refl refl parameters c.in_ok-result.ensures.notes c.in_ok-body.ensures.resolves in
    ap (λ f. f ∷ []) (function_is c.in_ok-name.name d.name.at c.len-2.result types (type_tree c.in_ok-result.result) (expr_tree c.in_ok-body.body) made c.in_ok-name.ensures refl counted parameters.types_are result tree)

pub returns-clause-depth : goal.returns-clause-depth
returns-clause-depth c = c.in_ok-body.ensures.depth
