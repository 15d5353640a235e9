use Rattle.std.proofs.Common.{map, ap, ◌∙◌}
use Rattle.kk_syntax.specs.Patterns.{Pattern, constructor, patterns_of, pattern_tree}
use Rattle.kk_syntax.proofs.PatternViews.{constructor_tree}
use Rattle.kk_core.specs.Codes.{block_code}
use Rattle.kk_norm.proofs.WriterSteps.{arm_is}
use Rattle.kk_norm.proofs.truth.arm_of.Goals as goal

pub returns : goal.returns
returns c =
    arm_is _ ∙ ap (λ (p : Pattern). record { pattern = p; body = block_code c.args.body })
    (constructor_tree c.args.of c.new.result
    ∙ ap (λ items. constructor c.args.of (patterns_of (map pattern_tree items))) c.new.ensures.items)
