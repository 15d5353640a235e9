use Rattle.std.proofs.Common.{Some, [], ap, false, map, reverse, sym, true, ◌++◌, ◌∙◌, ◌∷◌}
use Rattle.kk_counted.specs.BareForms.{bare}
use Rattle.kk_counted.specs.CountedCodes.{case}
use Rattle.kk_counted.specs.CountedForms.{decisions_of, runs}
use Rattle.kk_counted.specs.TokenedForms.{tokened_last_code, tokened_move}
use Rattle.kk_emitter.proofs.DraftChanges.{steps_more}
use Rattle.kk_emitter.proofs.TokenDraftJoins.{bare_all_renamed}
use Rattle.kk_emitter.specs.TokenDrafts.{bare_moves}
use Rattle.kk_emitter.specs.Works.{arm_of, draft, split_of}
use Rattle.std.specs.Prelude.{option_map, take}
use Rattle.kk_emitter.specs.Drafts.{resumed_as}
use Rattle.kk_emitter.specs.TokenDrafts.{joined_slots}
use Rattle.kk_emitter.proofs.work.Work.resume.Goals as goal

pub returns-then-tails-clause-ok : goal.returns-then-tails-clause-ok
returns-then-tails-clause-ok c =
    λ positions counts marks. ap (λ xs. record (draft positions counts marks c.args.self.now) { inside = true; steps = (bare_moves (map tokened_move c.args.fork.before.items)); owed = xs; lent = c.truncate.new.self.items; ending = option_map bare (option_map tokened_last_code c.replace.new.dest) }) c.in_ok-push.ensures.items
    ∙ (ap (λ xs. record (draft positions counts marks c.args.self.now) { inside = true; steps = (bare_moves (map tokened_move c.args.fork.before.items)); owed = c.args.fork.kept.items ++ c.args.variable ∷ []; lent = xs; ending = option_map bare (option_map tokened_last_code c.replace.new.dest) }) c.truncate.ensures.items
    ∙ (ap (λ e. record (draft positions counts marks c.args.self.now) { inside = true; steps = (bare_moves (map tokened_move c.args.fork.before.items)); owed = c.args.fork.kept.items ++ c.args.variable ∷ []; lent = take c.args.fork.lent c.args.self.now.lent.items; ending = option_map bare (option_map tokened_last_code e) }) c.replace.ensures.after
    ∙ (ap (λ code. record (draft positions counts marks c.args.self.now) { inside = true; steps = (bare_moves (map tokened_move c.args.fork.before.items)); owed = c.args.fork.kept.items ++ c.args.variable ∷ []; lent = take c.args.fork.lent c.args.self.now.lent.items; ending = Some code }) (ap bare c.in_ok-last.ensures.last ∙ ap (case c.args.fork.on (decisions_of c.args.fork.tests)) (bare_all_renamed (reverse (joined_slots (map arm_of c.args.fork.arms.items))) (map arm_of c.args.fork.arms.items)))
    ∙ ap (resumed_as (draft positions counts marks c.args.self.now) (split_of c.args.fork) c.args.variable) {x = true} {y = c.args.fork.tails} (sym c.if-tails.true))))

pub returns-clause-ok : goal.returns-clause-ok
returns-clause-ok c =
    λ positions counts marks. ap (λ xs. record (draft positions counts marks c.args.self.now) { inside = true; steps = bare_moves (map tokened_move c.push-2.new.self.items); owed = xs; lent = c.truncate.new.self.items; ending = (draft positions counts marks c.args.self.now).ending }) c.in_ok-push.ensures.items
    ∙ (ap (λ xs. record (draft positions counts marks c.args.self.now) { inside = true; steps = bare_moves (map tokened_move c.push-2.new.self.items); owed = c.args.fork.kept.items ++ c.args.variable ∷ []; lent = xs; ending = (draft positions counts marks c.args.self.now).ending }) c.truncate.ensures.items
    ∙ (ap (λ ms. record (draft positions counts marks c.args.self.now) { inside = true; steps = ms; owed = c.args.fork.kept.items ++ c.args.variable ∷ []; lent = take c.args.fork.lent c.args.self.now.lent.items; ending = (draft positions counts marks c.args.self.now).ending })
    (steps_more c.args.fork.before.items c.push-2.new.self.items _ _ c.in_ok-push-2.ensures.items (ap (λ move. move ∷ []) c.run_of.ensures))
    ∙ (ap (λ code. record (draft positions counts marks c.args.self.now) { inside = true; steps = (bare_moves (map tokened_move c.args.fork.before.items)) ++ runs c.args.variable code ∷ []; owed = c.args.fork.kept.items ++ c.args.variable ∷ []; lent = take c.args.fork.lent c.args.self.now.lent.items; ending = (draft positions counts marks c.args.self.now).ending }) (ap bare c.in_ok-last.ensures.last ∙ ap (case c.args.fork.on (decisions_of c.args.fork.tests)) (bare_all_renamed (reverse (joined_slots (map arm_of c.args.fork.arms.items))) (map arm_of c.args.fork.arms.items)))
    ∙ ap (resumed_as (draft positions counts marks c.args.self.now) (split_of c.args.fork) c.args.variable) {x = false} {y = c.args.fork.tails} (sym c.if-tails.false))))
