use Rattle.std.proofs.Common.{◌+◌, List, [], ◌∷◌, ◌++◌, drop, sym, ap, subst, ◌∙◌}
use Rattle.std.specs.Prelude.{is_some, ℕ}
use Rattle.std.proofs.lemmas.List.{drop_all}
use Rattle.kk_syntax.specs.declared.tree.Identifier.{Identifier}
use Rattle.kk_names.specs.TypeNames.{place_of}
use Rattle.kk_names.proofs.DeclaredTypes.{NamedSoFar, named_more, named_done}
use Rattle.kk_base.proofs.Lists.{rest_at}
use Rattle.kk_names.proofs.resolver.Resolver.type_parameters.Goals as goal

pub loop-parameter-preserved : goal.loop-parameter-preserved
loop-parameter-preserved c =
    let old = c.args.self.now in
    let now = c.loop-parameter.self in
    let all = c.args.parameters.now in
    let p = c.parameter-item.result in
    let names = c.loop-parameter.names.items in
    let left = drop (c.loop-parameter.parameter-index + 1) all in
    let means = c.place_of.ensures ∙ ap (λ ns. place_of ns p.name) c.as_slice.ensures.value in
    let items = c.in_ok-push.ensures.items ∙ ap (λ n. names ++ n ∷ []) c.in_ok-name.ensures in
    subst (λ (ns : List (List ℕ)). NamedSoFar old c.note_if.new.self ns left all) (sym items)
    (named_more old now c.note_if.new.self names p left all c.is_some-is_second.result
    (subst (λ (ps : List Identifier). NamedSoFar old now names ps all) (rest_at all c.loop-parameter.parameter-index p c.loop-parameter-test.true c.parameter-item.is) c.loop-parameter.invariant)
    (c.is_some-is_second.ensures ∙ ap is_some means)
    c.in_ok-note_if.ensures)

pub returns-clause-notes : goal.returns-clause-notes
returns-clause-notes c =
    let old = c.args.self.now in
    let now = c.loop-parameter.self in
    let all = c.args.parameters.now in
    let names = c.loop-parameter.names.items in
    (named_done old now names all
    (subst (λ (ps : List Identifier). NamedSoFar old now names ps all) (drop_all c.loop-parameter.parameter-index all c.loop-parameter-test.false) c.loop-parameter.invariant)).0

pub returns-clause-names : goal.returns-clause-names
returns-clause-names c =
    let old = c.args.self.now in
    let now = c.loop-parameter.self in
    let all = c.args.parameters.now in
    let names = c.loop-parameter.names.items in
    (named_done old now names all
    (subst (λ (ps : List Identifier). NamedSoFar old now names ps all) (drop_all c.loop-parameter.parameter-index all c.loop-parameter-test.false) c.loop-parameter.invariant)).1
