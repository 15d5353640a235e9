use Rattle.std.proofs.lemmas.Result.{IfOk-weaker}
use Rattle.kk_norm.proofs.WriterSteps.{use_piece, writes_piece}
use Rattle.kk_norm.proofs.writer.Writer.use_variable.Goals as goal

pub returns : goal.returns
returns c =
    IfOk-weaker c.push.result _ _ (λ done writes. writes_piece c.args.self.now c.push.new.self _ _ (use_piece c.args.variable) writes) c.push.ensures
