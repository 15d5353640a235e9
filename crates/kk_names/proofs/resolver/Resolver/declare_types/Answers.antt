use Rattle.std.proofs.Common.{◌+◌, ◌∷◌, map, drop, sym, ap, ◌∙◌}
use Rattle.kk_syntax.specs.Surface.{written_constructor, written_declaration}
use Rattle.kk_names.specs.Methods.{state_of, behind_types}
use Rattle.kk_names.proofs.DeclaredNames.{types_more}
use Rattle.kk_names.proofs.WrittenForms.{next_declaration}
use Rattle.kk_names.proofs.resolver.Resolver.declare_types.Goals as goal
use Rattle.kk_names.proofs.resolver.Resolver.declare_types.Goals.{in-Type+in_ok-declare_type+in_ok-number, in_default}

pub loop-declaration-preserved : goal.loop-declaration-preserved
loop-declaration-preserved c =
    let left = map written_declaration (drop (c.loop-declaration.declaration-index + 1) c.args.declarations.now) in
    let next = next_declaration c.args.declarations.now c.loop-declaration.declaration-index c.declaration-item.result c.declaration-item.is c.loop-declaration-test.true in
    elim c.match-declaration.branch [
      | in-Type+in_ok-declare_type+in_ok-number w ↦
          let d = w.in-Type.declared in
          let here = next ∙ ap (λ x. written_declaration x ∷ left) w.in-Type.is in
          ap (λ r. behind_types c.match-declaration.number left (state_of r)) w.self-is
          ∙ (ap (λ n. behind_types n left (state_of w.declare_type.new.self)) (w.number-is ∙ w.in_ok-number.ensures)
          ∙ (ap (behind_types (c.loop-declaration.number + 1) left) w.in_ok-declare_type.ensures
          ∙ (types_more (state_of c.loop-declaration.self) c.loop-declaration.number d.name d.parameters.items (map written_constructor d.constructors.items) left
          ∙ (ap (λ ds. behind_types c.loop-declaration.number ds (state_of c.loop-declaration.self)) (sym here) ∙ c.loop-declaration.invariant))))
      | in_default w ↦
          let here = next ∙ ap (λ x. written_declaration x ∷ left) w.in_default.is in
          ap (λ r. behind_types c.match-declaration.number left (state_of r)) w.self-is
          ∙ (ap (λ n. behind_types n left (state_of c.loop-declaration.self)) w.number-is
          ∙ (ap (λ ds. behind_types c.loop-declaration.number ds (state_of c.loop-declaration.self)) (sym here) ∙ c.loop-declaration.invariant))
    ]
