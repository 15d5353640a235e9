use Rattle.std.proofs.Common.{◌+◌, ◌∷◌, ◌++◌, [], arith, refl, sym, ap, ◌∙◌}
use Rattle.kk_counted.specs.Spending.{numbers_from}
use Rattle.kk_counted.proofs.PlaceLists.{numbers_more}
use Rattle.kk_insert.proofs.function.numbers.Goals as goal

pub loop-number-preserved : goal.loop-number-preserved
loop-number-preserved c =
    let n = c.loop-number.number in
    c.in_ok-push.ensures.items ∙ ap (λ xs. xs ++ n ∷ []) c.loop-number.invariant
    ∙ ap (λ m. numbers_from 0 n ++ m ∷ []) {x = n} {y = 0 + n} (omega arith) ∙ sym (numbers_more 0 n (n + 1) refl)
