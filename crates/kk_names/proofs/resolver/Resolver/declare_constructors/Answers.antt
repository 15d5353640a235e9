use Rattle.std.proofs.Common.{◌+◌, ◌∷◌, length, map, drop, sym, ap, ◌∙◌}
use Rattle.std.proofs.lemmas.List.{length-map}
use Rattle.kk_syntax.specs.Surface.{written_constructor, written_declaration}
use Rattle.kk_names.specs.Methods.{state_of, behind_cases, behind_constructors}
use Rattle.kk_names.proofs.DeclaredNames.{constructors_more}
use Rattle.kk_names.proofs.WrittenForms.{next_declaration}
use Rattle.kk_names.proofs.resolver.Resolver.declare_constructors.Goals as goal
use Rattle.kk_names.proofs.resolver.Resolver.declare_constructors.Goals.{in-Type+in_ok-number, in_default}

pub loop-declaration-preserved : goal.loop-declaration-preserved
loop-declaration-preserved c =
    let left = map written_declaration (drop (c.loop-declaration.declaration-index + 1) c.args.declarations.now) in
    let next = next_declaration c.args.declarations.now c.loop-declaration.declaration-index c.declaration-item.result c.declaration-item.is c.loop-declaration-test.true in
    elim c.match-declaration.branch [
      | in-Type+in_ok-number w ↦
          let d = w.in-Type.declared in
          let cases = map written_constructor d.constructors.items in
          let here = next ∙ ap (λ x. written_declaration x ∷ left) w.in-Type.is in
          let made = w.in_ok-number.ensures in
          let counted = made.number ∙ (ap (λ cs. c.loop-declaration.number + length cs) w.as_slice.ensures.value ∙ ap (λ n. c.loop-declaration.number + n) (sym (length-map d.constructors.items written_constructor))) in
          let state = made.state ∙ ap (λ cs. behind_cases c.loop-declaration.number (map written_constructor cs) (state_of c.loop-declaration.self)) w.as_slice.ensures.value in
          ap (λ r. behind_constructors c.match-declaration.number left (state_of r)) w.self-is
          ∙ (ap (λ n. behind_constructors n left (state_of w.declare_cases.new.self)) (w.number-is ∙ counted)
          ∙ (ap (behind_constructors (c.loop-declaration.number + length cases) left) state
          ∙ (constructors_more (state_of c.loop-declaration.self) c.loop-declaration.number d.name d.parameters.items cases left
          ∙ (ap (λ ds. behind_constructors c.loop-declaration.number ds (state_of c.loop-declaration.self)) (sym here) ∙ c.loop-declaration.invariant))))
      | in_default w ↦
          let here = next ∙ ap (λ x. written_declaration x ∷ left) w.in_default.is in
          ap (λ r. behind_constructors c.match-declaration.number left (state_of r)) w.self-is
          ∙ (ap (λ n. behind_constructors n left (state_of c.loop-declaration.self)) w.number-is
          ∙ (ap (λ ds. behind_constructors c.loop-declaration.number ds (state_of c.loop-declaration.self)) (sym here) ∙ c.loop-declaration.invariant))
    ]
