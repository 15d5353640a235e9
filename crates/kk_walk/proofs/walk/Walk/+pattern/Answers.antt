use Rattle.std.proofs.Common.{rules, true, false, [], ◌∷◌, get_or, ap, sym, ◌∙◌, subst, arith}
use Rattle.std.specs.Prelude.{Ok}
use Rattle.kk_syntax.specs.declared.program.Pat.TheViews.{the_lemmas}
use Rattle.kk_syntax.specs.Patterns.{pattern_tree}
use Rattle.kk_syntax.specs.Programs.{program_tree}
use Rattle.kk_syntax.specs.Typing.{constructing, constructor_scheme}
use Rattle.kk_syntax.proofs.PatternViews.{wildcard_tree, variable_tree, number_tree, constructor_tree}
use Rattle.kk_walk.specs.Claims.{typed_as, pattern_at}
use Rattle.kk_walk.specs.Steps.{nodes_of, size_of, Goes, Walked, AnswersInstance}
use Rattle.kk_walk.specs.Walks.{AreBoundBelow, Done}
use Rattle.kk_walk.proofs.WalkComposition.{still_inside, still_bound, goes_reworded}
use Rattle.kk_walk.proofs.PatternWalk.{parts_at, other_length, part_refused, part_goes, parts_done, not_of_type, of_type}
use Rattle.kk_walk.proofs.PatternWalk.{parts_asked}
use Rattle.kk_walk.proofs.ClaimComposition.{below_more}
use Rattle.kk_walk.proofs.walk.Walk.+pattern.Goals as goal

pub parts-returns-then-parts-wants : goal.parts-returns-then-parts-wants
parts-returns-then-parts-wants t c =
    other_length (program_tree c.args.program.now) c.args.self.now.scope.items (nodes_of c.args.self.now) c.args.parts.now c.args.wants.now c.if-parts-wants.true

pub parts-loop-index-init : goal.parts-loop-index-init
parts-loop-index-init t c =
    let whole = parts_at (program_tree c.args.program.now) c.args.self.now.scope.items c.args.parts.now c.args.wants.now in
    goes_reworded c.args.self.now whole whole (λ r choices obeys met. met) (λ r choices obeys met. met)

pub parts-pattern-requires : goal.parts-pattern-requires
parts-pattern-requires t c = (
  search (rules, the_lemmas),
  (
    still_bound c.args.self.now c.loop-index.self _ _ c.loop-index.invariant c.requires.scope,
    still_inside c.args.self.now c.loop-index.self _ _ c.loop-index.invariant _ (c.requires.wants c.loop-index.index 0 (omega (arith, c.loop-index-test.true, c.if-parts-wants.false))),
  ),
)

pub parts-returns-then-not-ok : goal.parts-returns-then-not-ok
parts-returns-then-not-ok t c =
    let program = program_tree c.args.program.now in
    let old = c.args.self.now in
    let mid = c.loop-index.self in
    let goes = c.loop-index.invariant in
    let walked : Walked mid c.pattern.new.self (pattern_at program mid.scope.items (pattern_tree c.index-parts-index.result) (get_or c.args.wants.now c.loop-index.index 0)) (Ok false) =
    subst (λ ok. Walked mid c.pattern.new.self (pattern_at program mid.scope.items (pattern_tree c.index-parts-index.result) (get_or c.args.wants.now c.loop-index.index 0)) (Ok ok)) c.if-not-ok.true c.in_ok-ok.ensures in
    part_refused program old.scope.items old mid _ c.args.parts.now c.args.wants.now c.loop-index.index c.index-parts-index.result c.loop-index-test.true c.if-parts-wants.false c.index-parts-index.is goes c.pattern.new.self
    (subst (λ bs. Walked mid c.pattern.new.self (pattern_at program bs (pattern_tree c.index-parts-index.result) (get_or c.args.wants.now c.loop-index.index 0)) (Ok false)) goes.same_scope walked)

pub parts-loop-index-preserved : goal.parts-loop-index-preserved
parts-loop-index-preserved t c =
    let program = program_tree c.args.program.now in
    let old = c.args.self.now in
    let mid = c.loop-index.self in
    let goes = c.loop-index.invariant in
    let walked : Walked mid c.pattern.new.self (pattern_at program mid.scope.items (pattern_tree c.index-parts-index.result) (get_or c.args.wants.now c.loop-index.index 0)) (Ok true) =
    subst (λ ok. Walked mid c.pattern.new.self (pattern_at program mid.scope.items (pattern_tree c.index-parts-index.result) (get_or c.args.wants.now c.loop-index.index 0)) (Ok ok)) c.if-not-ok.false c.in_ok-ok.ensures in
    part_goes program old.scope.items old mid _ c.args.parts.now c.args.wants.now c.loop-index.index c.index-parts-index.result c.loop-index-test.true c.if-parts-wants.false c.index-parts-index.is goes c.pattern.new.self
    (subst (AreBoundBelow (size_of mid)) goes.same_scope (still_bound old mid _ _ goes c.requires.scope))
    (below_more (size_of old) (size_of mid) c.args.wants.now goes.leads.longer c.requires.wants)
    (subst (λ bs. Walked mid c.pattern.new.self (pattern_at program bs (pattern_tree c.index-parts-index.result) (get_or c.args.wants.now c.loop-index.index 0)) (Ok true)) goes.same_scope walked)

pub parts-returns : goal.parts-returns
parts-returns t c =
    parts_done (program_tree c.args.program.now) c.args.self.now.scope.items c.args.self.now c.loop-index.self _ c.args.parts.now c.args.wants.now c.loop-index.index (omega (arith, c.loop-index-test.false)) (omega (arith, c.loop-index-test.false, c.if-parts-wants.false)) c.loop-index.invariant

pub pattern-returns-then-not-ok : goal.pattern-returns-then-not-ok
pattern-returns-then-not-ok t c =
    not_of_type (program_tree c.args.program.now) c.args.self.now c.args.want c.requires.scope c.requires.want c.in-Constructor.by (pattern_tree c.args.pattern.now) c.in-Constructor.parts.items (ap pattern_tree c.in-Constructor.is ∙ constructor_tree c.in-Constructor.by c.in-Constructor.parts) c.constructor.new.self _ c.in-Some.instance c.in-Some.is c.in_ok-instance-in-Constructor.ensures c.same.new.self c.in_ok-ok-in-Constructor.ok c.in_ok-ok-in-Constructor.ensures c.if-not-ok.true

pub pattern-parts-requires : goal.pattern-parts-requires
pattern-parts-requires t c = (
  search (rules, the_lemmas),
  parts_asked c.args.self.now c.constructor.new.self c.same.new.self (constructor_scheme (program_tree c.args.program.now) c.in-Constructor.by) (λ ts. constructing c.in-Constructor.by ts ∷ []) c.in-Some.instance c.args.want c.deref-in-Constructor.result.now
      c.requires.scope
      (subst (λ found. AnswersInstance (constructor_scheme (program_tree c.args.program.now) c.in-Constructor.by) (λ ts. constructing c.in-Constructor.by ts ∷ []) c.args.self.now c.constructor.new.self (Ok found)) c.in-Some.is c.in_ok-instance-in-Constructor.ensures)
      (subst (λ ok. Walked c.constructor.new.self c.same.new.self (typed_as c.args.want (λ r. r c.in-Some.instance.result)) (Ok ok)) c.if-not-ok.false c.in_ok-ok-in-Constructor.ensures)
      c.deref-in-Constructor.ensures.value,
)

pub pattern-returns-then-not-ok-2 : goal.pattern-returns-then-not-ok-2
pattern-returns-then-not-ok-2 t c =
    subst (λ ok. Walked c.args.self.now c.parts.new.self (pattern_at (program_tree c.args.program.now) c.args.self.now.scope.items (pattern_tree c.args.pattern.now) c.args.want) (Ok ok)) c.if-not-ok-2.true
    (of_type (program_tree c.args.program.now) c.args.self.now c.args.want c.requires.scope c.requires.want c.in-Constructor.by (pattern_tree c.args.pattern.now) c.in-Constructor.parts.items (ap pattern_tree c.in-Constructor.is ∙ constructor_tree c.in-Constructor.by c.in-Constructor.parts) c.constructor.new.self _ c.in-Some.instance c.in-Some.is c.in_ok-instance-in-Constructor.ensures c.same.new.self c.in_ok-ok-in-Constructor.ok c.in_ok-ok-in-Constructor.ensures c.if-not-ok.false c.parts.new.self c.deref.result.now c.deref-in-Constructor.result.now c.in_ok-ok-in-Constructor-2.ok c.deref.ensures.value c.deref-in-Constructor.ensures.value c.in_ok-ok-in-Constructor-2.ensures)

pub pattern-returns-in-Wildcard : goal.pattern-returns-in-Wildcard
pattern-returns-in-Wildcard t c =
    subst (λ p. Goes c.args.self.now c.args.self.now (pattern_at (program_tree c.args.program.now) c.args.self.now.scope.items p c.args.want) Done) (sym (ap pattern_tree c.in-Wildcard.is ∙ wildcard_tree))
    (goes_reworded c.args.self.now Done Done (λ r choices obeys met. met) (λ r choices obeys met. met))

pub pattern-returns-in-Variable : goal.pattern-returns-in-Variable
pattern-returns-in-Variable t c =
    subst (λ p. Walked c.args.self.now c.variable.new.self (pattern_at (program_tree c.args.program.now) c.args.self.now.scope.items p c.args.want) c.variable.result) (sym (ap pattern_tree c.in-Variable.is ∙ variable_tree c.in-Variable.variable)) c.variable.ensures

pub pattern-returns-in-Number : goal.pattern-returns-in-Number
pattern-returns-in-Number t c =
    subst (λ p. Walked c.args.self.now c.is.new.self (pattern_at (program_tree c.args.program.now) c.args.self.now.scope.items p c.args.want) c.is.result) (sym (ap pattern_tree c.in-Number.is ∙ number_tree _)) c.is.ensures

pub pattern-returns-else-not-ok-2 : goal.pattern-returns-else-not-ok-2
pattern-returns-else-not-ok-2 t c =
    of_type (program_tree c.args.program.now) c.args.self.now c.args.want c.requires.scope c.requires.want c.in-Constructor.by (pattern_tree c.args.pattern.now) c.in-Constructor.parts.items (ap pattern_tree c.in-Constructor.is ∙ constructor_tree c.in-Constructor.by c.in-Constructor.parts) c.constructor.new.self _ c.in-Some.instance c.in-Some.is c.in_ok-instance-in-Constructor.ensures c.same.new.self c.in_ok-ok-in-Constructor.ok c.in_ok-ok-in-Constructor.ensures c.if-not-ok.false c.parts.new.self c.deref.result.now c.deref-in-Constructor.result.now c.in_ok-ok-in-Constructor-2.ok c.deref.ensures.value c.deref-in-Constructor.ensures.value c.in_ok-ok-in-Constructor-2.ensures
