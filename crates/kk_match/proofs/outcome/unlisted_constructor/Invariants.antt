use Rattle.std.proofs.Common.{◌≡◌, drop}
use Rattle.kk_core.specs.declared.decisions.Answer.TheVariants.{Constructor}
use Rattle.kk_match.specs.Outcomes.{unlisted_from}
use Rattle.kk_match.specs.Parts.{types_of}
use Rattle.kk_match.proofs.outcome.unlisted_constructor.Given as goal

abbrev pub invariant-loop-place : goal.invariant-loop-place
invariant-loop-place l =
    unlisted_from (types_of l.constructors) (Constructor l.of) l.answers l.place (drop l.place (types_of l.constructors))
    ≡ unlisted_from (types_of l.constructors) (Constructor l.of) l.answers 0 (types_of l.constructors)
