use Rattle.kk_emitter.proofs.DraftChanges.{joined_is}
use Rattle.kk_emitter.proofs.TokenDrafted.{branch_joined}
use Rattle.kk_emitter.proofs.work.Work.join.Goals as goal

pub returns-clause-ok : goal.returns-clause-ok
returns-clause-ok c =
    λ positions counts marks. joined_is positions counts marks c.args.self.now c.resume.new.self c.pop.new.self c.in-Some.fork c.in-Some.ensures.items c.in_ok-resume.ensures.ok

pub returns-clause-tokens : goal.returns-clause-tokens
returns-clause-tokens c =
    branch_joined c.args.self.now c.resume.new.self c.pop.new.self c.in-Some.fork c.args.self.now.next c.in-Some.ensures.items c.in_ok-resume.ensures.tokens
