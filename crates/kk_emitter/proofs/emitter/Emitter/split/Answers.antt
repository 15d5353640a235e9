use Rattle.std.proofs.Common.{ap, arith, sym, ◌∙◌}
use Rattle.std.proofs.lemmas.List.{reverse-reverse}
use Rattle.kk_counted.specs.CountedForms.{decisions_of}
use Rattle.kk_emitter.proofs.DraftChanges.{copies_back}
use Rattle.kk_emitter.proofs.EmitterCalls.{forked_works}
use Rattle.kk_emitter.proofs.EmitterViews.{going_now, newest, seen, sound_then, written}
use Rattle.kk_emitter.proofs.TokenDraftBranches.{forked_keeps, forked_left}
use Rattle.kk_emitter.specs.Drafts.{Draft, copies, forked}
use Rattle.kk_emitter.specs.Emissions.{counted_of, tokens_of}
use Rattle.kk_emitter.specs.TokenDrafts.{tokens_forked}
use Rattle.kk_emitter.specs.Works.{left_in, token_draft}
use Rattle.kk_emitter.proofs.emitter.Emitter.split.Goals as goal

pub invariant_of-self-2 : goal.invariant_of-self-2
invariant_of-self-2 c =
    let d = counted_of c.args.self.now in
    let t = tokens_of c.args.self.now in
    let was = sound_then c.self.view_is c.self.invariant in
    let now = seen c.self.view_is (λ d. forked d c.args.on (decisions_of c.args.tests.now) c.deref.result.now c.args.tests.now.rows) c.split.new.self c.in-Ok.ensures.ok ∙ ap (λ xs. forked (counted_of c.args.self.now) c.args.on (decisions_of c.args.tests.now) xs c.args.tests.now.rows) c.deref.ensures.value in (
      forked_works d _ c.args.debts.emitter c.args.on (decisions_of c.args.tests.now) c.args.debts.variables.items c.args.tests.now.rows (going_now c.self.view_is c.if-self.false) c.requires.writes c.requires.owns c.requires.on c.args.tests.now.orderly now was.0,
      forked_keeps d _ t _ was.1 c.requires.writes c.args.on (decisions_of c.args.tests.now) c.args.debts.variables.items c.args.tests.now.rows now (written c.self.view_is (λ t. tokens_forked t c.args.on (decisions_of c.args.tests.now) c.args.tests.now.rows) c.split.new.self c.in-Ok.ensures.tokens),
    )

pub returns-clause-ok : goal.returns-clause-ok
returns-clause-ok c =
    seen c.self.view_is (λ d. forked d c.args.on (decisions_of c.args.tests.now) c.deref.result.now c.args.tests.now.rows) c.split.new.self c.in-Ok.ensures.ok ∙ ap (λ xs. forked (counted_of c.args.self.now) c.args.on (decisions_of c.args.tests.now) xs c.args.tests.now.rows) c.deref.ensures.value

pub returns-clause-arms : goal.returns-clause-arms
returns-clause-arms c =
    let now = seen c.self.view_is (λ d. forked d c.args.on (decisions_of c.args.tests.now) c.deref.result.now c.args.tests.now.rows) c.split.new.self c.in-Ok.ensures.ok ∙ ap (λ xs. forked (counted_of c.args.self.now) c.args.on (decisions_of c.args.tests.now) xs c.args.tests.now.rows) c.deref.ensures.value in (
      ap (λ (d : Draft). d.instance) now,
      newest c.split.new.self.forks.items _ _ c.len.result (left_in c.in-Ok.given.variables.items) (ap (λ (d : Draft). d.splits) now) (omega (arith, c.len.ensures, c.split.new.self.forks.ok.0))
          (sym (copies_back c.in-Ok.given.variables.items c.args.tests.now.rows c.args.debts.variables.items (c.in-Ok.ensures.left ∙ ap (copies c.args.tests.now.rows) c.deref.ensures.value))),
    )

pub returns-clause-slots : goal.returns-clause-slots
returns-clause-slots c =
    forked_left (token_draft c.self.inside.work) (token_draft c.split.new.self) c.args.on (decisions_of c.args.tests.now) c.args.tests.now.rows _ c.in-Ok.ensures.tokens
    (copies_back c.in-Ok.given.spare.items c.args.tests.now.rows c.self.inside.work.spare.items c.in-Ok.ensures.slots ∙ ap (copies c.args.tests.now.rows) (sym (reverse-reverse c.self.inside.work.spare.items)))
