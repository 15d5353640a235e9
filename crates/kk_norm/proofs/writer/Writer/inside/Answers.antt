use Rattle.std.proofs.Common.{refl}
use Rattle.kk_norm.proofs.WriterSteps.{inside_piece, writes_step}
use Rattle.kk_norm.proofs.writer.Writer.inside.Goals as goal

pub returns : goal.returns
returns c =
    writes_step c.args.self.now c.push.new.self _ _ _ c.in_ok-push.ensures (inside_piece c.args.self.now.next c.args.block) refl refl refl
