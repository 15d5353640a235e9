use Rattle.kk_build.proofs.WithoutLimits.{follows}
use Rattle.kk_build.proofs.law.images_follow_their_programs_without_limits.Goals as goal

pub returns : goal.returns
returns c file setting input bytes agrees =
    follows file setting input (c.runs_follow_without_limits.ensures.prefix setting input)
    (c.runs_follow_without_limits.ensures.whole setting input) (agrees.agrees input bytes)
