use Rattle.std.proofs.Common.{refl}
use Rattle.kk_norm.proofs.WriterSteps.{let_piece, writes_step}
use Rattle.kk_norm.proofs.writer.Writer.compute.Goals as goal

pub returns : goal.returns
returns c =
    writes_step c.args.self.now c.push.new.self _ _ _ c.in_ok-push.ensures (let_piece c.args.self.now.next c.args.form c.args.arguments) refl refl refl
