use Rattle.std.proofs.Common.{◌+◌, List, [], ◌∷◌, ◌++◌, map, drop, sym, ap, subst, ◌∙◌}
use Rattle.std.proofs.lemmas.List.{length-map}
use Rattle.kk_syntax.specs.declared.program.TypeDecl.{TypeDecl}
use Rattle.kk_syntax.specs.declared.program.Constructor.{Constructor}
use Rattle.kk_syntax.specs.declared.tree.Declaration.TheVariants as OfDeclaration
use Rattle.kk_syntax.specs.Programs.{constructor_tree}
use Rattle.kk_syntax.specs.Surface.{WrittenDeclaration, written_constructor, written_declaration, written_parameter, written_result, written_expr}
use Rattle.kk_names.specs.declared.resolver.Resolver.{Resolver}
use Rattle.kk_names.specs.Names.{types_of}
use Rattle.kk_names.proofs.DeclaredTypes.{TypesSoFar, types_more, function_passed}
use Rattle.kk_names.proofs.WrittenForms.{next_declaration}
use Rattle.kk_names.proofs.resolver.Resolver.all_types.Goals as goal
use Rattle.kk_names.proofs.resolver.Resolver.all_types.Goals.{in-Type+in_ok-declared_type, in_default}

pub loop-declaration-preserved : goal.loop-declaration-preserved
loop-declaration-preserved c =
    let old = c.args.self.now in
    let now = c.loop-declaration.self in
    let types = c.loop-declaration.types.items in
    let constructors = c.loop-declaration.constructors.items in
    let left = map written_declaration (drop (c.loop-declaration.declaration-index + 1) c.args.declarations.now) in
    let all = map written_declaration c.args.declarations.now in
    let next = next_declaration c.args.declarations.now c.loop-declaration.declaration-index c.declaration-item.result c.declaration-item.is c.loop-declaration-test.true in
    let is = λ (r : Resolver) (ts : List TypeDecl) (cs : List Constructor). TypesSoFar old r left all ts (map constructor_tree cs) in
    elim c.match-declaration.branch [
      | in-Type+in_ok-declared_type w ↦
          let d = w.in-Type.declared in
          let one = written_declaration (OfDeclaration.Type d) in
          let here = next ∙ ap (λ x. written_declaration x ∷ left) w.in-Type.is in
          let made = w.in_ok-declared_type.ensures in
          let new = w.declared_type.new in
          subst (λ (r : Resolver). is r c.match-declaration.types.items c.match-declaration.constructors.items) (sym w.self-is)
          (subst (λ (ts : List TypeDecl). is new.self ts c.match-declaration.constructors.items) (sym (ap (λ ts. ts.items) w.types-is))
          (subst (λ (cs : List Constructor). is new.self new.types.items cs) (sym (ap (λ cs. cs.items) w.constructors-is))
          (types_more old now new.self d.name d.parameters.items (map written_constructor d.constructors.items) left all types new.types.items
          (map constructor_tree constructors) (map constructor_tree new.constructors.items)
          (subst (λ (ds : List WrittenDeclaration). TypesSoFar old now ds all types (map constructor_tree constructors)) here c.loop-declaration.invariant)
          (made.types ∙ ap (λ n. types ++ types_of n (one ∷ [])) (sym (length-map constructors constructor_tree)))
          made.constructors made.notes)))
      | in_default w ↦
          let d = w.in_default.field-0 in
          let here = next ∙ ap (λ x. written_declaration x ∷ left) w.in_default.is in
          subst (λ (r : Resolver). is r c.match-declaration.types.items c.match-declaration.constructors.items) (sym w.self-is)
          (subst (λ (ts : List TypeDecl). is now ts c.match-declaration.constructors.items) (sym (ap (λ ts. ts.items) w.types-is))
          (subst (λ (cs : List Constructor). is now types cs) (sym (ap (λ cs. cs.items) w.constructors-is))
          (function_passed old now d.name (map written_parameter d.parameters.items) d.effects.items (written_result d.result) (written_expr d.body) left all types (map constructor_tree constructors)
          (subst (λ (ds : List WrittenDeclaration). TypesSoFar old now ds all types (map constructor_tree constructors)) here c.loop-declaration.invariant))))
    ]
