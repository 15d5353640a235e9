use Rattle.kk_syntax.specs.Patterns.{pattern_tree}
use Rattle.kk_mono.specs.Labels.{left_in, names_of_pattern, labelled_pattern}
use Rattle.kk_mono.proofs.CopyLabels.{each_more, constructor_labelled}
use Rattle.kk_mono.proofs.body.+labelled_pattern.Goals as goal

pub labelled_pattern-returns-in_ok-parts-in-Constructor-clause-tree :
    goal.labelled_pattern-returns-in_ok-parts-in-Constructor-clause-tree
labelled_pattern-returns-in_ok-parts-in-Constructor-clause-tree t c =
    (constructor_labelled (left_in c.args.labels.now) c.args.pattern.now c.in-Constructor.by c.constructor-by.result
    c.in-Constructor.parts c.in_ok-parts-in-Constructor.parts c.deref.result.now (left_in c.constructor-by.new.self)
    (left_in c.labelled_patterns.new.labels)
    c.in-Constructor.is c.deref.ensures.value c.constructor-by.ensures.value c.constructor-by.ensures.rest
    c.in_ok-parts-in-Constructor.ensures.trees c.in_ok-parts-in-Constructor.ensures.rest).0

pub labelled_pattern-returns-in_ok-parts-in-Constructor-clause-rest :
    goal.labelled_pattern-returns-in_ok-parts-in-Constructor-clause-rest
labelled_pattern-returns-in_ok-parts-in-Constructor-clause-rest t c =
    (constructor_labelled (left_in c.args.labels.now) c.args.pattern.now c.in-Constructor.by c.constructor-by.result
    c.in-Constructor.parts c.in_ok-parts-in-Constructor.parts c.deref.result.now (left_in c.constructor-by.new.self)
    (left_in c.labelled_patterns.new.labels)
    c.in-Constructor.is c.deref.ensures.value c.constructor-by.ensures.value c.constructor-by.ensures.rest
    c.in_ok-parts-in-Constructor.ensures.trees c.in_ok-parts-in-Constructor.ensures.rest).1

pub labelled_patterns-loop-pattern-preserved : goal.labelled_patterns-loop-pattern-preserved
labelled_patterns-loop-pattern-preserved t c =
    let more = each_more names_of_pattern labelled_pattern pattern_tree (left_in c.args.labels.now)
    (left_in c.loop-pattern.labels)
    (left_in c.labelled_pattern.new.labels) c.args.patterns.now c.loop-pattern.copies.items c.push.new.self.items
    c.pattern-item.result c.in_ok-labelled_pattern.field-0 c.loop-pattern.pattern-index
    c.loop-pattern-test.true c.pattern-item.is c.loop-pattern.invariant.trees c.loop-pattern.invariant.rest
    c.in_ok-push.ensures.items c.in_ok-labelled_pattern.ensures.tree c.in_ok-labelled_pattern.ensures.rest in
    record { trees = more.0; rest = more.1 }
