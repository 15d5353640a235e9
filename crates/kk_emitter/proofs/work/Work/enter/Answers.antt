use Rattle.std.proofs.Common.{ap, refl, sym, ◌∙◌}
use Rattle.std.proofs.lemmas.List.{append-nil}
use Rattle.kk_emitter.proofs.DraftChanges.{arm_entered, none_entered, none_taken}
use Rattle.kk_emitter.proofs.TokenDrafted.{entered_newest}
use Rattle.kk_emitter.specs.Works.{draft, left_in, split_of}
use Rattle.kk_emitter.proofs.work.Work.enter.Goals as goal

pub returns-in-None-clause-ok : goal.returns-in-None-clause-ok
returns-in-None-clause-ok c =
    λ positions counts marks. ap (draft positions counts marks) c.enter_tokens.ensures.same
    ∙ none_entered positions counts marks c.args.self.now c.enter_tokens.new.self c.pop.new.self.items c.in-Some.fork (record c.in-Some.fork { left = c.pop-2.new.self }) c.in-Some.ensures.items c.enter_tokens.ensures.splits
    (ap (λ left. record (split_of c.in-Some.fork) { left = left_in left }) (sym (c.in-None.ensures.items ∙ append-nil c.pop-2.new.self.items)))
    (none_taken c.in-Some.fork.left.items c.pop-2.new.self.items _ c.in-None.ensures.items c.in-None.ensures.rest c.in-None.ensures.cases.0)

pub returns-in-None-clause-tokens : goal.returns-in-None-clause-tokens
returns-in-None-clause-tokens c =
    entered_newest c.args.self.now c.enter_tokens.new.self c.pop.new.self c.in-Some.fork c.in-Some.ensures.items c.enter_tokens.ensures.tokens

pub returns-in-Some-pop-clause-ok : goal.returns-in-Some-pop-clause-ok
returns-in-Some-pop-clause-ok c =
    λ positions counts marks. ap (draft positions counts marks) c.enter_tokens-in-Some-pop.ensures.same
    ∙ arm_entered positions counts marks c.args.self.now c.enter_tokens-in-Some-pop.new.self c.in-Some-pop.each c.truncate.new.self c.pop.new.self.items c.in-Some.fork (record c.in-Some.fork { left = c.pop-2.new.self }) c.pop-2.new.self.items
    c.in-Some.ensures.items c.enter_tokens-in-Some-pop.ensures.splits c.truncate.ensures.items refl c.in-Some-pop.ensures.items

pub returns-in-Some-pop-clause-tokens : goal.returns-in-Some-pop-clause-tokens
returns-in-Some-pop-clause-tokens c =
    entered_newest c.args.self.now c.enter_tokens-in-Some-pop.new.self c.pop.new.self c.in-Some.fork c.in-Some.ensures.items c.enter_tokens-in-Some-pop.ensures.tokens
