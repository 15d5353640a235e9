use Rattle.std.proofs.Common.{[], ap, refl, sym, ℕ, ◌++◌, ◌∙◌, ◌≡◌}
use Rattle.std.proofs.lemmas.List.{append-nil}
use Rattle.kk_emitter.proofs.DraftChanges.{none_taken, splits_are}
use Rattle.kk_emitter.proofs.TokenDrafted.{next_entered, none_left_to_enter}
use Rattle.kk_emitter.specs.Works.{left_in, split_of, token_split_of}
use Rattle.kk_emitter.specs.declared.work.Fork.{Fork}
use Rattle.std.specs.Global.{Vec}
use Rattle.kk_emitter.proofs.work.Work.enter_tokens.Goals as goal

back : (fork : Fork) (left : Vec (Vec ℕ)) → fork.spare_left.items ≡ left.items ++ [] → token_split_of (record fork { spare_left = left }) ≡ token_split_of fork
back fork left is = ap (λ lists. record (token_split_of fork) { left = left_in lists }) (sym (is ∙ append-nil left.items))

pub returns-in-None-clause-splits : goal.returns-in-None-clause-splits
returns-in-None-clause-splits c =
    splits_are c.push_reserved.new.self.items c.args.self.now.forks.items (record c.args.fork { spare_left = c.pop.new.self }) (split_of c.args.fork) c.push_reserved.ensures.items refl

pub returns-in-None-clause-tokens : goal.returns-in-None-clause-tokens
returns-in-None-clause-tokens c =
    none_left_to_enter c.args.self.now c.push_reserved.new.self c.args.fork (record c.args.fork { spare_left = c.pop.new.self }) c.push_reserved.ensures.items (back c.args.fork c.pop.new.self c.in-None.ensures.items)
    (none_taken c.args.fork.spare_left.items c.pop.new.self.items _ c.in-None.ensures.items c.in-None.ensures.rest c.in-None.ensures.cases.0)

pub returns-in-Some-clause-splits : goal.returns-in-Some-clause-splits
returns-in-Some-clause-splits c =
    splits_are c.push_reserved-in-Some.new.self.items c.args.self.now.forks.items (record c.args.fork { spare_left = c.pop.new.self }) (split_of c.args.fork) c.push_reserved-in-Some.ensures.items refl

pub returns-in-Some-clause-tokens : goal.returns-in-Some-clause-tokens
returns-in-Some-clause-tokens c =
    next_entered c.args.self.now c.push_reserved-in-Some.new.self c.in-Some.spare c.args.fork (record c.args.fork { spare_left = c.pop.new.self }) c.pop.new.self.items c.push_reserved-in-Some.ensures.items refl c.in-Some.ensures.items
