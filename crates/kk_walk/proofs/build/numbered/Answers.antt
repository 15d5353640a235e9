use Rattle.std.proofs.Common.{length, slice_index_or, ap, ◌∙◌}
use Rattle.std.proofs.lemmas.List.{take_all}
use Rattle.kk_syntax.specs.Types.{type_at}
use Rattle.kk_walk.specs.Walks.{takings_of, choices_at}
use Rattle.kk_walk.proofs.NodeRenumbering.{one_inside, one_numbered, one_below}
use Rattle.kk_walk.proofs.build.numbered.Goals as goal

pub numbered_one-requires : goal.numbered_one-requires
numbered_one-requires c = one_inside (length c.args.numbers.now) c.args.taken.now c.loop-one.one-index c.one-item.result c.requires c.loop-one-test.true c.one-item.is

pub loop-one-preserved : goal.loop-one-preserved
loop-one-preserved c = record {
  types = λ types. one_numbered types c.args.numbers.now c.args.taken.now c.loop-one.found.items c.push.new.self.items c.loop-one.one-index c.one-item.result c.in_ok-other.other c.loop-one-test.true c.one-item.is c.in_ok-push.ensures.items (c.in_ok-other.ensures.types types) (c.loop-one.invariant.types types);
  inside = λ size below. one_below size c.loop-one.found.items c.push.new.self.items c.in_ok-other.other c.in_ok-push.ensures.items (c.loop-one.invariant.inside size below) (c.in_ok-other.ensures.inside size below);
}

pub returns-clause-types : goal.returns-clause-types
returns-clause-types c types =
    c.loop-one.invariant.types types ∙ ap (λ ts. choices_at (λ i. type_at types (slice_index_or c.args.numbers.now i 0)) (takings_of ts)) (take_all c.loop-one.one-index c.args.taken.now c.loop-one-test.false)
