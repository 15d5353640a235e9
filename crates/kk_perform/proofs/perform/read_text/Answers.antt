use Rattle.std.proofs.Common.{◌≡◌, ◌+◌, ℕ, IfOk, subst, arith}
use Rattle.kk_base.specs.Limits.{greatest_of}
use Rattle.kk_base.specs.declared.limit.LimitKind.TheVariants.{Source}
use Rattle.kk_perform.specs.Answers.{BeginsFile}
use Rattle.kk_perform.proofs.perform.read_text.Goals as goal

pub returns-clause-text : goal.returns-clause-text
returns-clause-text g c =
    let most : c.greatest.result + 1 ≡ greatest_of Source + 1 = omega (arith, c.greatest.ensures) in
    subst (λ (n : ℕ). IfOk c.read_first.result (λ text. BeginsFile n c.args.file.now text (g.F.Store.state c.args.files.now)))
    most c.read_first.ensures.first
