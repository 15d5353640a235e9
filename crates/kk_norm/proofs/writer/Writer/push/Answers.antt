use Rattle.std.proofs.Common.{refl}
use Rattle.kk_norm.proofs.WriterSteps.{steps_one_more}
use Rattle.kk_norm.proofs.writer.Writer.push.Goals as goal

pub returns : goal.returns
returns c =
    record {
      number = refl;
      names = refl;
      steps = λ rest. steps_one_more c.args.self.now.steps.items c.push.new.self.items c.args.step rest c.in_ok-push.ensures.items;
    }
