use Rattle.std.proofs.Common.{length, get_or, take, refl, sym, ap, ◌∙◌, arith}
use Rattle.std.proofs.lemmas.List.{length_push}
use Rattle.kk_syntax.specs.declared.program.Constructor.{Constructor}
use Rattle.kk_mono.proofs.GroundConstructors.{place_more}
use Rattle.kk_mono.proofs.build.places_of.Goals as goal

pub loop-number-preserved : goal.loop-number-preserved
loop-number-preserved c =
    let found = get_or c.args.constructors.now c.loop-number.number c.index-constructors-number.result in
    record {
      as_many =
          let pushed = ap length c.in_ok-push.ensures.items in
          let long = length_push c.loop-number.places.items c.in-Ok.place in
          let so_far = c.loop-number.invariant.as_many in
          omega (arith, pushed, long, so_far);
      are = place_more c.args.constructors.now
          (take c.loop-number.number c.args.constructors.now) c.loop-number.places.items c.push.new.self.items
          c.loop-number.number found.of_type c.in-Ok.place c.index-constructors-number.result
          c.loop-number-test.true c.loop-number.invariant.as_many c.index-constructors-number.is
          (ap (λ (k : Constructor). k.of_type) (sym c.index-constructors-number.is)) refl (c.in-Ok.ensures.1
          ∙ c.count_of_type-count.ensures) c.in_ok-push.ensures.items c.loop-number.invariant.are;
    }
