use Rattle.std.proofs.Common.{ap, ◌∙◌}
use Rattle.kk_counted.specs.Spending.{numbers_from}
use Rattle.kk_emitter.proofs.EmitterCalls.{read_works}
use Rattle.kk_emitter.proofs.EmitterViews.{fell_now, going_now, seen, sound_then, written}
use Rattle.kk_emitter.proofs.TokenDraftChanges.{reads_keeps}
use Rattle.kk_emitter.specs.Drafts.{chosen_of, read_of}
use Rattle.kk_emitter.specs.Emissions.{Emission, counted_of, tokens_of}
use Rattle.kk_emitter.specs.TokenDrafts.{adds, reads_with}
use Rattle.kk_emitter.proofs.emitter.Emitter.read.Goals as goal

pub returns-in_default-clause-err : goal.returns-in_default-clause-err
returns-in_default-clause-err c =
    fell_now c.self.view_is c.read.new.self c.in_default.ensures.err

pub invariant_of-self : goal.invariant_of-self
invariant_of-self c =
    let d = counted_of c.args.self.now in
    let t = tokens_of c.args.self.now in
    let was = sound_then c.self.view_is c.self.invariant in
    let now = seen c.self.view_is (λ d. read_of d c.args.variable c.args.constructor c.field_count-count.result c.args.used) c.read.new.self c.in-Ok.ensures.ok in (
      read_works d _ c.args.variable c.args.constructor _ c.args.used (going_now c.self.view_is c.if-self.false) c.requires.writes c.requires.there now was.0,
      reads_keeps was.1 c.requires.writes c.args.variable c.args.constructor c.args.used (now ∙ ap (λ m. read_of d c.args.variable c.args.constructor m c.args.used) c.field_count-count.ensures)
          (written c.self.view_is (λ t. adds t (reads_with c.args.variable c.args.constructor (numbers_from c.self.inside.work.next c.field_count-count.result) (chosen_of c.args.used (numbers_from c.self.inside.work.next c.field_count-count.result)))) c.read.new.self c.in-Ok.ensures.tokens ∙ ap (λ fields. adds t (reads_with c.args.variable c.args.constructor fields (chosen_of c.args.used fields))) (ap (λ (e : Emission). numbers_from e.work.next c.field_count-count.result) c.self.view_is ∙ ap (numbers_from (counted_of c.args.self.now).next) c.field_count-count.ensures)),
    )

pub returns-clause-ok : goal.returns-clause-ok
returns-clause-ok c =
    seen c.self.view_is (λ d. read_of d c.args.variable c.args.constructor c.field_count-count.result c.args.used) c.read.new.self c.in-Ok.ensures.ok ∙ ap (λ m. read_of (counted_of c.args.self.now) c.args.variable c.args.constructor m c.args.used) c.field_count-count.ensures
