use Rattle.std.proofs.Common.{◌≡◌, ◌+◌, List, [], ◌∷◌, ◌++◌, map, drop, sym, ap, subst, ◌∙◌}
use Rattle.std.specs.Prelude.{is_some}
use Rattle.std.proofs.lemmas.List.{map-append}
use Rattle.kk_syntax.specs.Surface.{WrittenParameter, written_parameter}
use Rattle.kk_syntax.specs.Types.{TypeTree, type_tree}
use Rattle.kk_names.specs.declared.fault.Fault.{Fault}
use Rattle.kk_names.specs.declared.fault.FaultKind.TheVariants.{Twice}
use Rattle.kk_names.specs.Methods.{Notes, faults_if, newest_first}
use Rattle.kk_names.specs.Scopes.{number_in}
use Rattle.kk_names.proofs.Declarations.{ParametersSoFar, parameters_more}
use Rattle.kk_names.proofs.WrittenForms.{next_parameter}
use Rattle.kk_names.proofs.resolver.Resolver.parameters.Goals as goal

pub loop-parameter-preserved : goal.loop-parameter-preserved
loop-parameter-preserved c =
    let old = c.args.self.now in
    let now = c.loop-parameter.self in
    let p = written_parameter c.parameter-item.result in
    let left = map written_parameter (drop (c.loop-parameter.parameter-index + 1) c.args.parameters.now) in
    let all = map written_parameter c.args.parameters.now in
    let made = c.loop-parameter.types.items in
    let items : c.push.new.self.items ≡ made ++ c.in_ok-of_type.of_type ∷ [] = c.in_ok-push.ensures.items in
    let types = ap (map type_tree) items ∙ map-append type_tree made (c.in_ok-of_type.of_type ∷ []) in
    let is_second = c.is_some-is_second.ensures ∙ ap is_some (c.number_in.ensures ∙ ap (λ all. number_in (newest_first all) p.name.name) c.as_slice.ensures.value) in
    let twice = ap (λ b. faults_if b Twice p.name) is_second in
    subst (λ (ts : List TypeTree). ParametersSoFar c.args.variables.now old c.bind.new.self left all ts) (sym types)
    (parameters_more c.args.variables.now old now c.note_if.new.self c.of_type.new.self c.number.new.self c.bind.new.self p left all (map type_tree made) c.in_ok-number.number (type_tree c.in_ok-of_type.of_type)
    (subst (λ (ps : List WrittenParameter). ParametersSoFar c.args.variables.now old now ps all (map type_tree made)) (next_parameter c.args.parameters.now c.loop-parameter.parameter-index c.parameter-item.result c.parameter-item.is c.loop-parameter-test.true) c.loop-parameter.invariant)
    (subst (λ (fs : List Fault). Notes fs now c.note_if.new.self) twice c.in_ok-note_if.ensures)
    c.in_ok-of_type.ensures
    c.in_ok-number.ensures.number c.in_ok-number.ensures.before c.in_ok-number.ensures.known c.in_ok-number.ensures.scope c.in_ok-number.ensures.first
    c.in_ok-bind.ensures)
