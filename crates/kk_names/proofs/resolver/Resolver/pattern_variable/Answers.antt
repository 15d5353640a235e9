use Rattle.std.proofs.Common.{[], ◌∷◌, ap, subst, ◌∙◌}
use Rattle.std.specs.Prelude.{is_some, Bool}
use Rattle.kk_syntax.proofs.PatternViews.{variable_tree}
use Rattle.kk_names.specs.declared.fault.FaultKind.TheVariants.{Twice}
use Rattle.kk_names.specs.declared.scope.Bound.{Bound}
use Rattle.kk_names.specs.Methods.{newest_first, faults_if, Notes}
use Rattle.kk_names.specs.Scopes.{number_in}
use Rattle.kk_names.proofs.Patterns.{variable_resolved}
use Rattle.kk_names.proofs.Tables.{newest_more}
use Rattle.kk_names.proofs.resolver.Resolver.pattern_variable.Goals as goal

pub returns : goal.returns
returns c =
    let name = c.args.name.now in
    let old = c.args.self.now in
    let number = c.in_ok-number.number in
    let bound = c.args.bound.now.items in
    let one : Bound = record { name = c.in_ok-name.name; number = number } in
    let is_second = c.is_some-is_second.ensures ∙ ap is_some (c.number_in.ensures ∙ ap (λ all. number_in (newest_first all) name.name) c.as_slice.ensures.value) in
    let notes = subst (λ (b : Bool). Notes (faults_if b Twice name) old c.note_if.new.self) is_second c.in_ok-note_if.ensures in
    variable_resolved name number old c.note_if.new.self c.number.new.self (newest_first bound) (newest_first c.push.new.self.items) _ notes
    c.in_ok-number.ensures.number c.in_ok-number.ensures.before c.in_ok-number.ensures.known c.in_ok-number.ensures.scope c.in_ok-number.ensures.first
    (ap newest_first c.in_ok-push.ensures.items ∙ (newest_more [] bound one ∙ ap (λ n. (let b : Bound = record { name = n; number = number } in b) ∷ newest_first bound) c.in_ok-name.ensures))
    (variable_tree number)
