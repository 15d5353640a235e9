use Rattle.std.proofs.Common.{ap, map, reverse, ◌∙◌}
use Rattle.kk_counted.specs.BareForms.{bare}
use Rattle.kk_counted.specs.CountedForms.{plug}
use Rattle.kk_counted.specs.TokenedForms.{tokened_last_code, tokened_move}
use Rattle.kk_emitter.proofs.DraftChanges.{ended_is}
use Rattle.kk_emitter.proofs.TokenDrafted.{arm_ended}
use Rattle.kk_emitter.specs.Drafts.{more_arms}
use Rattle.kk_emitter.specs.TokenDrafts.{bare_moves, more_ended}
use Rattle.kk_emitter.specs.Works.{split_of, token_split_of}
use Rattle.kk_emitter.proofs.work.Work.end_arm.Goals as goal

pub returns-clause-ok : goal.returns-clause-ok
returns-clause-ok c =
    λ positions counts marks. ended_is positions counts marks c.args.self.now c.push_reserved.new.self c.replace-steps.new.dest c.new-3.result c.pop.new.self.items c.in-Some.fork c.in_ok-more.more (bare (tokened_last_code c.args.last)) c.args.tails
    c.requires c.in-Some.ensures.items c.push_reserved.ensures.items
    (c.in_ok-more.ensures.plain ∙ ap (λ moves. more_arms (split_of c.in-Some.fork) (plug (bare_moves (map tokened_move moves)) (bare (tokened_last_code c.args.last))) c.args.tails) (ap (λ v. v.items) c.replace-steps.ensures.value))
    (ap (λ v. v.items) c.replace-steps.ensures.after ∙ c.new.ensures.items) c.new-3.ensures.items

pub returns-clause-tokens : goal.returns-clause-tokens
returns-clause-tokens c =
    arm_ended c.args.self.now c.push_reserved.new.self c.replace-steps.new.dest c.replace-spare.new.dest c.pop.new.self.items c.in-Some.fork c.in_ok-more.more (tokened_last_code c.args.last) c.args.tails
    c.requires c.in-Some.ensures.items c.push_reserved.ensures.items
    (c.in_ok-more.ensures.tokens
    ∙ (ap (λ moves. more_ended (token_split_of c.in-Some.fork) (record { moves = map tokened_move moves; end = tokened_last_code c.args.last; spare = reverse c.replace-spare.result.items }) c.args.tails) (ap (λ v. v.items) c.replace-steps.ensures.value)
    ∙ ap (λ slots. more_ended (token_split_of c.in-Some.fork) (record { moves = map tokened_move c.args.self.now.steps.items; end = tokened_last_code c.args.last; spare = reverse slots }) c.args.tails) (ap (λ v. v.items) c.replace-spare.ensures.value)))
    (ap (λ v. v.items) c.replace-steps.ensures.after ∙ c.new.ensures.items) (ap (λ v. v.items) c.replace-spare.ensures.after ∙ c.new-2.ensures.items)
