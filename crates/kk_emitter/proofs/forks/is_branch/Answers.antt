use Rattle.std.proofs.Common.{arith, sym, ap, ◌∙◌}
use Rattle.kk_counted.specs.TokenedForms.{tokened_last_code}
use Rattle.kk_emitter.specs.TokenDrafts.{is_tokened_branch}
use Rattle.kk_counted.proofs.TokenedViews.{return_end, tail_call_end, case_end, if_token_end}
use Rattle.kk_emitter.proofs.ClosedTokens.{moves_no_branch, only_token_last}
use Rattle.kk_emitter.proofs.forks.is_branch.Goals as goal

pub returns-then-not-is_empty-clause-test : goal.returns-then-not-is_empty-clause-test
returns-then-not-is_empty-clause-test c =
    sym (moves_no_branch c.args.block.now (grind (arith, c.is_empty.ensures, c.if-not-is_empty.true)))

pub returns-in-Return-clause-test : goal.returns-in-Return-clause-test
returns-in-Return-clause-test c =
    sym (ap is_tokened_branch (only_token_last c.args.block.now (λ some. grind (arith, some, c.is_empty.ensures, c.if-not-is_empty.false)) ∙ (ap tokened_last_code c.in-Return.is ∙ return_end _)))

pub returns-in-TailCall-clause-test : goal.returns-in-TailCall-clause-test
returns-in-TailCall-clause-test c =
    sym (ap is_tokened_branch (only_token_last c.args.block.now (λ some. grind (arith, some, c.is_empty.ensures, c.if-not-is_empty.false)) ∙ (ap tokened_last_code c.in-TailCall.is ∙ tail_call_end _ _)))

pub returns-in-Case-clause-test : goal.returns-in-Case-clause-test
returns-in-Case-clause-test c =
    sym (ap is_tokened_branch (only_token_last c.args.block.now (λ some. grind (arith, some, c.is_empty.ensures, c.if-not-is_empty.false)) ∙ (ap tokened_last_code c.in-Case.is ∙ case_end _ _ _)))

pub returns-in-Case-clause-alone : goal.returns-in-Case-clause-alone
returns-in-Case-clause-alone c = λ is. only_token_last c.args.block.now (λ some. grind (arith, some, c.is_empty.ensures, c.if-not-is_empty.false))

pub returns-in-IfToken-clause-test : goal.returns-in-IfToken-clause-test
returns-in-IfToken-clause-test c =
    sym (ap is_tokened_branch (only_token_last c.args.block.now (λ some. grind (arith, some, c.is_empty.ensures, c.if-not-is_empty.false)) ∙ (ap tokened_last_code c.in-IfToken.is ∙ if_token_end _ _ _)))
