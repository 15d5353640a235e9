use Rattle.std.proofs.Common.{◌≡◌, ◌+◌, ◌∷◌, ◌++◌, [], map, length, ap, sym, ◌∙◌, arith, length-append}
use Rattle.std.proofs.lemmas.List.{map-append}
use Rattle.kk_emitter.specs.Works.{items_of}
use Rattle.kk_emitter.proofs.ChosenPlaces.{copies_more}
use Rattle.kk_emitter.proofs.lists.copies.Goals as goal

pub grow-preserved : goal.grow-preserved
grow-preserved c =
    let more : length c.push.new.self.items ≡ length c.grow.found.items + 1 = ap length c.in_ok-push.ensures.items ∙ length-append c.grow.found.items (c.in_ok-copy.copy ∷ []) in (
      ap (map items_of) c.in_ok-push.ensures.items
          ∙ (map-append items_of c.grow.found.items (c.in_ok-copy.copy ∷ [])
          ∙ (ap (λ xs. map items_of c.grow.found.items ++ xs ∷ []) c.in_ok-copy.ensures.items
          ∙ (ap (λ all. all ++ c.args.variables.now ∷ []) c.grow.invariant.0
          ∙ sym (copies_more (length c.grow.found.items) (length c.push.new.self.items) c.args.variables.now more)))),
      omega (arith, more, c.len.ensures, c.grow-test.true, c.grow.found.ok.0),
    )
