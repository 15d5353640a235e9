use Rattle.kk_base.specs.Limits.{greatest_of}
use Rattle.kk_base.specs.declared.limit.LimitKind.TheVariants.{Fields}
use Rattle.kk_counted.specs.Heaps.{count_at}
use Rattle.kk_counted.specs.Keeping.{counted_after}
use Rattle.kk_counted.proofs.GainBounds.{function_spends}
use Rattle.kk_counted.proofs.NarrowCounts.{counts_few, narrow_bound}
use Rattle.kk_counted.proofs.law.judged_code_keeps_counts_narrow.Goals as goal

pub returns : goal.returns
returns c =
    record {
      bounded = counts_few;
      narrow = λ positions marks holds setting weight input most spent fits marked spends small few deep shallow little n code
          environment joins here at.
          narrow_bound setting.depth setting.cells most (count_at (counted_after weight setting input n).heap at)
          (counts_few positions marks holds setting weight input most (greatest_of Fields) spent fits marked spends few deep n code
          environment joins here at)
          small shallow little;
      spends = function_spends;
    }
