use Rattle.std.proofs.Common.{◌≡◌, ◌+◌, List, [], ◌∷◌, ◌++◌, map, drop, sym, ap, subst, ◌∙◌}
use Rattle.std.proofs.lemmas.List.{map-append, drop_all}
use Rattle.kk_syntax.specs.Programs.{ConstructorTree, constructor_tree}
use Rattle.kk_syntax.specs.Surface.{WrittenConstructor, written_constructor}
use Rattle.kk_names.proofs.DeclaredTypes.{CasesSoFar, cases_more, cases_done}
use Rattle.kk_base.proofs.Lists.{rest_at}
use Rattle.kk_names.proofs.resolver.Resolver.cases.Goals as goal

pub loop-case-preserved : goal.loop-case-preserved
loop-case-preserved c =
    let old = c.args.self.now in
    let now = c.loop-case.self in
    let new = c.case.new.self in
    let variables = c.args.variables.now in
    let number = c.args.number in
    let tag = c.loop-case.tag in
    let one = c.case-item.result in
    let left = map written_constructor (drop (c.loop-case.case-index + 1) c.args.cases.now) in
    let all = map written_constructor c.args.cases.now in
    let before = map constructor_tree c.args.constructors.now.items in
    let made = c.loop-case.constructors.items in
    let constructor = c.in_ok-constructor.constructor in
    let items : c.push.new.self.items ≡ made ++ constructor ∷ [] = c.in_ok-push.ensures.items in
    let trees = ap (map constructor_tree) items ∙ map-append constructor_tree made (constructor ∷ []) in
    let next = ap (map written_constructor) (rest_at c.args.cases.now c.loop-case.case-index one c.loop-case-test.true c.case-item.is) in
    subst (λ (n : _). CasesSoFar variables number old new n left all before (map constructor_tree c.push.new.self.items)) (sym c.in_ok-tag.ensures)
    (subst (λ (cs : List ConstructorTree). CasesSoFar variables number old new (tag + 1) left all before cs) (sym trees)
    (cases_more variables number old now new tag (written_constructor one) left all before (map constructor_tree made) (constructor_tree constructor)
    (subst (λ (cs : List WrittenConstructor). CasesSoFar variables number old now tag cs all before (map constructor_tree made)) next c.loop-case.invariant)
    c.in_ok-constructor.ensures.notes c.in_ok-constructor.ensures.tree))

pub returns-clause-constructors : goal.returns-clause-constructors
returns-clause-constructors c =
    (cases_done c.args.variables.now c.args.number c.args.self.now c.loop-case.self c.loop-case.tag _ (map written_constructor c.args.cases.now)
    (map constructor_tree c.args.constructors.now.items) (map constructor_tree c.loop-case.constructors.items)
    (ap (map written_constructor) (drop_all c.loop-case.case-index c.args.cases.now c.loop-case-test.false)) c.loop-case.invariant).1

pub returns-clause-notes : goal.returns-clause-notes
returns-clause-notes c =
    (cases_done c.args.variables.now c.args.number c.args.self.now c.loop-case.self c.loop-case.tag _ (map written_constructor c.args.cases.now)
    (map constructor_tree c.args.constructors.now.items) (map constructor_tree c.loop-case.constructors.items)
    (ap (map written_constructor) (drop_all c.loop-case.case-index c.args.cases.now c.loop-case-test.false)) c.loop-case.invariant).0
