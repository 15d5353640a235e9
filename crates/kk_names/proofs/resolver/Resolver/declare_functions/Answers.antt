use Rattle.std.proofs.Common.{◌+◌, ◌∷◌, map, drop, sym, ap, ◌∙◌}
use Rattle.kk_syntax.specs.Surface.{written_parameter, written_result, written_expr, written_declaration}
use Rattle.kk_names.specs.Methods.{state_of, behind_functions}
use Rattle.kk_names.proofs.DeclaredNames.{functions_more}
use Rattle.kk_names.proofs.WrittenForms.{next_declaration}
use Rattle.kk_names.proofs.resolver.Resolver.declare_functions.Goals as goal
use Rattle.kk_names.proofs.resolver.Resolver.declare_functions.Goals.{in-Function+in_ok-declare_function+in_ok-number, in_default}

pub loop-declaration-preserved : goal.loop-declaration-preserved
loop-declaration-preserved c =
    let left = map written_declaration (drop (c.loop-declaration.declaration-index + 1) c.args.declarations.now) in
    let next = next_declaration c.args.declarations.now c.loop-declaration.declaration-index c.declaration-item.result c.declaration-item.is c.loop-declaration-test.true in
    elim c.match-declaration.branch [
      | in-Function+in_ok-declare_function+in_ok-number w ↦
          let d = w.in-Function.declared in
          let here = next ∙ ap (λ x. written_declaration x ∷ left) w.in-Function.is in
          ap (λ r. behind_functions c.match-declaration.number left (state_of r)) w.self-is
          ∙ (ap (λ n. behind_functions n left (state_of w.declare_function.new.self)) (w.number-is ∙ w.in_ok-number.ensures)
          ∙ (ap (behind_functions (c.loop-declaration.number + 1) left) w.in_ok-declare_function.ensures
          ∙ (functions_more (state_of c.loop-declaration.self) c.loop-declaration.number d.name (map written_parameter d.parameters.items) d.effects.items (written_result d.result) (written_expr d.body) left
          ∙ (ap (λ ds. behind_functions c.loop-declaration.number ds (state_of c.loop-declaration.self)) (sym here) ∙ c.loop-declaration.invariant))))
      | in_default w ↦
          let here = next ∙ ap (λ x. written_declaration x ∷ left) w.in_default.is in
          ap (λ r. behind_functions c.match-declaration.number left (state_of r)) w.self-is
          ∙ (ap (λ n. behind_functions n left (state_of c.loop-declaration.self)) w.number-is
          ∙ (ap (λ ds. behind_functions c.loop-declaration.number ds (state_of c.loop-declaration.self)) (sym here) ∙ c.loop-declaration.invariant))
    ]
