use Rattle.std.proofs.Common.{◌≡◌, ◌+◌, List, [], ◌∷◌, ◌++◌, length, map, drop, vec_len, sym, ap, ◌∙◌, subst}
use Rattle.std.proofs.lemmas.List.{map-append, drop_all}
use Rattle.std.proofs.lemmas.Result.{IfOk-weaker}
use Rattle.kk_syntax.specs.declared.tree.SurfaceType.{SurfaceType}
use Rattle.kk_syntax.specs.Surface.{WrittenType, WrittenTypes, written_type, types_of}
use Rattle.kk_syntax.specs.Types.{TypeTree, type_tree}
use Rattle.kk_names.specs.Methods.{MeansType}
use Rattle.kk_names.specs.Tables.{type_in}
use Rattle.kk_names.proofs.TypeMeanings.{TypesSoFar, types_more, types_done, named_resolved}
use Rattle.kk_names.proofs.WrittenForms.{named_written, next_type}
use Rattle.kk_names.proofs.resolver.Resolver.+types.Goals as goal

pub of_type-returns-in_ok-arguments-in-Named : goal.of_type-returns-in_ok-arguments-in-Named
of_type-returns-in_ok-arguments-in-Named t c =
    let arguments = c.in_ok-arguments-in-Named.arguments in
    let name = c.in-Named.name in
    let variables = c.args.variables.now in
    let counted : vec_len arguments ≡ length arguments.items = arguments.ok.0 in
    let ws = types_of (map written_type c.deref.result.now) in
    let old = c.args.self.now in
    let is = named_written c.args.written.now name c.in-Named.arguments c.deref.result.now c.in-Named.is c.deref.ensures.value in
    let means = c.type_in-meaning.ensures ∙ ap (λ all. type_in all name.name) c.as_slice.ensures.value in
    IfOk-weaker c.named_type.result _ _
    (λ x made.
    subst (λ (w : WrittenType). MeansType variables w old c.named_type.new.self (type_tree x)) (sym is)
    (named_resolved variables name ws c.type_in-meaning.result old c.of_types.new.self c.named_type.new.self arguments.items (vec_len arguments) (type_tree x)
    c.in_ok-arguments-in-Named.ensures means made.0 counted made.1))
    c.named_type.ensures

pub of_types-loop-written-preserved : goal.of_types-loop-written-preserved
of_types-loop-written-preserved t c =
    let variables = c.args.variables.now in
    let old = c.args.self.now in
    let now = c.loop-written.self in
    let left = types_of (map written_type (drop (c.loop-written.written-index + 1) c.args.types.now)) in
    let all = types_of (map written_type c.args.types.now) in
    let w = written_type c.written-item.result in
    let made = c.loop-written.resolved.items in
    let items : c.push.new.self.items ≡ made ++ c.in_ok-t.t ∷ [] = c.in_ok-push.ensures.items in
    let trees = ap (map type_tree) items ∙ map-append type_tree made (c.in_ok-t.t ∷ []) in
    let next = next_type c.args.types.now c.loop-written.written-index c.written-item.result c.written-item.is c.loop-written-test.true in
    subst (λ (ts : List TypeTree). TypesSoFar variables old c.of_type.new.self left all ts) (sym trees)
    (types_more variables old now c.of_type.new.self w left all (map type_tree made) (type_tree c.in_ok-t.t)
    (subst (λ (ws : WrittenTypes). TypesSoFar variables old now ws all (map type_tree made)) next c.loop-written.invariant)
    c.in_ok-t.ensures)

pub of_types-returns : goal.of_types-returns
of_types-returns t c =
    let variables = c.args.variables.now in
    let all = types_of (map written_type c.args.types.now) in
    let made = map type_tree c.loop-written.resolved.items in
    types_done variables c.args.self.now c.loop-written.self all made
    (subst (λ (ws : List SurfaceType). TypesSoFar variables c.args.self.now c.loop-written.self (types_of (map written_type ws)) all made)
    (drop_all c.loop-written.written-index c.args.types.now c.loop-written-test.false) c.loop-written.invariant)
