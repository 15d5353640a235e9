use Rattle.std.proofs.Common.{◌≡◌, ◌+◌, ◌∷◌, ◌++◌, [], length, ap, sym, ◌∙◌, arith, length-append}
use Rattle.kk_counted.proofs.PlaceLists.{numbers_more}
use Rattle.kk_counted.specs.Spending.{numbers_from}
use Rattle.kk_emitter.proofs.lists.numbers.Goals as goal

pub grow-preserved : goal.grow-preserved
grow-preserved c =
    let more : length c.push.new.self.items ≡ length c.grow.found.items + 1 = ap length c.in_ok-push.ensures.items ∙ length-append c.grow.found.items (c.grow.next ∷ []) in (
      c.in_ok-push.ensures.items
          ∙ (ap (λ xs. xs ++ c.grow.next ∷ []) c.grow.invariant.0
          ∙ (ap (λ n. numbers_from c.args.from (length c.grow.found.items) ++ n ∷ []) c.grow.invariant.1.0
          ∙ sym (numbers_more c.args.from (length c.grow.found.items) (length c.push.new.self.items) more))),
      (omega (arith, more, c.grow.invariant.1.0), omega (arith, more, c.len.ensures, c.grow-test.true, c.grow.found.ok.0)),
    )
