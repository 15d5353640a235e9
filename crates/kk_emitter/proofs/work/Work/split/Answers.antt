use Rattle.std.proofs.Common.{[], ap, ◌∙◌}
use Rattle.kk_counted.specs.CountedForms.{decisions_of}
use Rattle.kk_emitter.specs.Drafts.{forked}
use Rattle.kk_emitter.specs.Works.{back_to_front, draft, split_of}
use Rattle.kk_emitter.proofs.work.Work.split.Goals as goal

pub returns-clause-ok : goal.returns-clause-ok
returns-clause-ok c =
    λ positions counts marks. c.begin.ensures.ok positions counts marks
    ∙ (ap (λ fs. forked (record (draft positions counts marks c.args.self.now) { splits = back_to_front split_of fs [] }) c.args.on (decisions_of c.in_ok-tests.tests) c.in_ok-each.each.items c.in_ok-tests.tests.rows) c.reserve.ensures.items
    ∙ (ap (λ decisions. forked (draft positions counts marks c.args.self.now) c.args.on decisions c.in_ok-each.each.items c.in_ok-tests.tests.rows) c.in_ok-tests.ensures.decisions
    ∙ (ap (λ each. forked (draft positions counts marks c.args.self.now) c.args.on (decisions_of c.args.tests.now) each c.in_ok-tests.tests.rows) c.in_ok-each.ensures.items
    ∙ ap (λ rows. forked (draft positions counts marks c.args.self.now) c.args.on (decisions_of c.args.tests.now) c.args.each.now rows) c.in_ok-tests.ensures.rows)))
