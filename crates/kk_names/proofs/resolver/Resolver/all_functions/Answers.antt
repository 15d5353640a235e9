use Rattle.std.proofs.Common.{◌+◌, List, [], ◌∷◌, map, drop, sym, ap, subst, ◌∙◌}
use Rattle.std.proofs.lemmas.List.{map-append}
use Rattle.kk_syntax.specs.declared.program.Fun.{Fun}
use Rattle.kk_syntax.specs.declared.tree.Declaration.TheVariants as OfDeclaration
use Rattle.kk_syntax.specs.Programs.{FunctionTree, function_tree}
use Rattle.kk_syntax.specs.Surface.{WrittenDeclaration, written_constructor, written_declaration}
use Rattle.kk_names.specs.declared.resolver.Resolver.{Resolver}
use Rattle.kk_names.specs.Names.{KeepsDepth}
use Rattle.kk_names.proofs.Depths.{function_keeps}
use Rattle.kk_names.proofs.Declarations.{ResolvedSoFar, one_more_resolved, type_passed}
use Rattle.kk_names.proofs.WrittenForms.{next_declaration}
use Rattle.kk_names.proofs.resolver.Resolver.all_functions.Goals as goal
use Rattle.kk_names.proofs.resolver.Resolver.all_functions.Goals.{in-Function+in_ok-function+in_ok-push, in_default}

pub loop-declaration-preserved : goal.loop-declaration-preserved
loop-declaration-preserved c =
    let old = c.args.self.now in
    let now = c.loop-declaration.self in
    let made = c.loop-declaration.functions.items in
    let left = map written_declaration (drop (c.loop-declaration.declaration-index + 1) c.args.declarations.now) in
    let all = map written_declaration c.args.declarations.now in
    let next = next_declaration c.args.declarations.now c.loop-declaration.declaration-index c.declaration-item.result c.declaration-item.is c.loop-declaration-test.true in
    elim c.match-declaration.branch [
      | in-Function+in_ok-function+in_ok-push w ↦
          let d = written_declaration (OfDeclaration.Function w.in-Function.declared) in
          let f = w.in_ok-function.function in
          let here = next ∙ ap (λ x. written_declaration x ∷ left) w.in-Function.is in
          let items = ap (λ fs. fs.items) w.functions-is ∙ w.in_ok-push.ensures.items in
          let functions = ap (map function_tree) items ∙ map-append function_tree made (f ∷ []) in (
            subst (λ (r : Resolver). ResolvedSoFar old r left all (map function_tree c.match-declaration.functions.items)) (sym w.self-is)
                (subst (λ (fs : List FunctionTree). ResolvedSoFar old w.function.new.self left all fs) (sym functions)
                (one_more_resolved old now w.function.new.self d left all (map function_tree made) (function_tree f)
                (subst (λ (ds : List WrittenDeclaration). ResolvedSoFar old now ds all (map function_tree made)) here c.loop-declaration.invariant.0)
                w.in_ok-function.ensures.resolves w.in_ok-function.ensures.tree)),
            function_keeps c.args.declarations.now made c.match-declaration.functions.items f c.loop-declaration.declaration-index c.declaration-item.result w.in-Function.declared c.loop-declaration.invariant.1 items c.declaration-item.is c.loop-declaration-test.true w.in-Function.is w.in_ok-function.ensures.depth,
          )
      | in_default w ↦
          let d = w.in_default.field-0 in
          let here = next ∙ ap (λ x. written_declaration x ∷ left) w.in_default.is in (
            subst (λ (r : Resolver). ResolvedSoFar old r left all (map function_tree c.match-declaration.functions.items)) (sym w.self-is)
                (subst (λ (fs : List Fun). ResolvedSoFar old now left all (map function_tree fs)) (sym (ap (λ fs. fs.items) w.functions-is))
                (type_passed old now d.name d.parameters.items (map written_constructor d.constructors.items) left all (map function_tree made)
                (subst (λ (ds : List WrittenDeclaration). ResolvedSoFar old now ds all (map function_tree made)) here c.loop-declaration.invariant.0))),
            subst (λ (fs : List Fun). KeepsDepth c.args.declarations.now fs) (sym (ap (λ fs. fs.items) w.functions-is)) c.loop-declaration.invariant.1,
          )
    ]

pub returns-clause-depth : goal.returns-clause-depth
returns-clause-depth c = c.loop-declaration.invariant.1
